-- Of what a legal text describes, only computed terminals have expressions.
use Rattle.std.specs.Prelude.{false, List, [], ◌∷◌, ◌++◌, ◌≡◌, refl, ℕ, zero, suc, ◌+◌, get_or}
use Rattle.std.proofs.Common.{true≢false}
use Rattle.language.specs.DescribeText.{describe, facilities_of, function_number, function_size}
use Rattle.language.specs.Description.{facility_at, is_computed, no_facility}
use Rattle.language.specs.Image as Image
use Rattle.language.specs.Tree as T
use Rattle.language.specs.Tree.{Declaration, Extent, Function, Kind, Text}
use Rattle.about_rules.specs.Tidy.{DeclarationsTidy, Suits, TextTidy}
use Rattle.about_rules.specs.TidyTexts.{tidy}
use Rattle.about_images.specs.Legal.{Plain}

no-expression : (base : ℕ) (k : Kind) (x : Extent) (f : Function) → Suits k x f → is_computed k ≡ false → function_number base f ≡ 0
no-expression base k x T.unspecified h e = refl
no-expression base k x T.from_input h e = refl
no-expression base T.register x (T.given p a) h e = absurd h
no-expression base T.sequencing x (T.given p a) h e = absurd h
no-expression base T.memory x (T.given p a) h e = absurd h
no-expression base T.plain x (T.given p a) h e = absurd h
no-expression base T.input x (T.given p a) h e = absurd h
no-expression base T.computed x (T.given p a) h e = absurd (true≢false e)

abbrev PlainFrom : ℕ → List Declaration → Type 0
PlainFrom base ds =
    (n : ℕ) → is_computed (get_or (facilities_of base ds) n no_facility).kind ≡ false → (get_or (facilities_of base ds) n no_facility).expression ≡ 0

-- Declarations of one section, and what comes after them.
plain_then : (r base : ℕ) (ds es : List Declaration) → DeclarationsTidy r ds → ((b : ℕ) → PlainFrom b es) → PlainFrom base (ds ++ es)
unfolding facilities_of
plain_then r base [] es h k n = k base n
plain_then r base (d ∷ ds) es h k zero = no-expression base d.kind d.extent d.function h.0.suits
plain_then r base (d ∷ ds) es h k (suc n) = plain_then r (base + function_size d.function) ds es h.1 k n

plain-last : (r base : ℕ) (ds : List Declaration) → DeclarationsTidy r ds → PlainFrom base ds
unfolding facilities_of
plain-last r base [] h n = λ e. refl
plain-last r base (d ∷ ds) h zero = no-expression base d.kind d.extent d.function h.0.suits
plain-last r base (d ∷ ds) h (suc n) = plain-last r (base + function_size d.function) ds h.1 n

pub plain-text : (t : Text) → Image.Legal t → Plain (describe t).description
unfolding describe facility_at
plain-text t legal n l =
    let h : TextTidy t = tidy legal.derived legal.right in
    plain_then 0 0 t.registers (t.memories ++ t.terminals) h.registers (λ b.
    plain_then 1 b t.memories t.terminals h.memories (λ c. plain-last 2 c t.terminals h.terminals)) n
