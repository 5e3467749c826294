-- Worked examples of the places of refusals: one number at one place satisfies each text, and nothing else does.
use Rattle.std.specs.Prelude.{List, ◌++◌, ◌≡◌, refl, ℕ, length}
use Rattle.std.proofs.Math.Option.{some}
use Rattle.std.proofs.Common.{◌∙◌, sym, arith}
use Rattle.language.specs.Building.{Built}
use Rattle.language.specs.GrammarExamples.{fault_in, grammar-open}
use Rattle.language.specs.Machine.{Parsed, parsed, refused}
use Rattle.language.specs.declared.refusals.Refusal.TheVariants.{CeilingPassed, NoContinuation}
use Rattle.language.specs.Scan.{bytes}
use Rattle.language.specs.SectionWays.{parse}
use Rattle.language.specs.WordStage.{scan}
use Rattle.language.specs.Words.{Fault}
use Rattle.about_grammar.proofs.Exact.{refusal-of-text, refused-text}
use Rattle.about_grammar.specs.Examples.{fault_of}
use Rattle.about_grammar.specs.ExamplesDeeper.{times}
use Rattle.about_grammar.specs.ExamplesPlaces.{Only, Refused}
use Rattle.about_grammar.specs.Stops.{refused-one}

pub computed : (s : List ℕ) (f : Fault) → fault_of s ≡ some f → Only s f
unfolding fault_of
computed s f e = go (parse (scan s).words (length s)) refl e
  where
    go : (r : Parsed Built) → parse (scan s).words (length s) ≡ r → fault_in r ≡ some f → Only s f
    go (parsed b) q h = absurd (let z : ◌≡◌ {A = ℕ} 0 1 = cc in omega arith)
    go (refused g) q h =
        let k : g ≡ f = cc in
        record { so = rw (sym k) (refusal-of-text s (length s) g q); alone = λ i x. refused-one (sym (refused-text s (length s) i x) ∙ q) ∙ k }

-- An operation's bracket and 24 more are one too many: 10 at the last of them, and not 3 at the `;` behind it.
ceiling-before-fault : Refused CeilingPassed (bytes "REGISTER A. OPERATION F=[A=" ++ times 23 (bytes "(")) (bytes "(A;")
unfolding grammar-open fault_of times
ceiling-before-fault = computed _ _ refl

-- With one bracket less the `;` is at fault.
fault-alone : Refused NoContinuation (bytes "REGISTER A. OPERATION F=[A=" ++ times 23 (bytes "(") ++ bytes "A") (bytes ";")
unfolding grammar-open fault_of times
fault-alone = computed _ _ refl

-- A bracket that cannot stand is 3, though it would nest too deep.
three-before-ten : Refused NoContinuation (bytes "REGISTER A. OPERATION F=[A=" ++ times 23 (bytes "(") ++ bytes "A ") (bytes "(A;")
unfolding grammar-open fault_of times
three-before-ten = computed _ _ refl

-- The 257th facility is one too many, at its name; the comma before it is not yet.
facility-too-many : Refused CeilingPassed (bytes "REGISTER " ++ times 256 (bytes "A,")) (bytes "A.")
unfolding grammar-open fault_of times
facility-too-many = computed _ _ refl

comma-not-yet : Refused NoContinuation (bytes "REGISTER " ++ times 256 (bytes "A,")) (bytes ".")
unfolding grammar-open fault_of times
comma-not-yet = computed _ _ refl
