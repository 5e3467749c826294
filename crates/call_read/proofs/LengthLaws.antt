-- The length that the values of states take is that of the facilities declared.
use mathlib.Core.Bool.{Bool, false, cond}
use mathlib.Core.List.{List}
use mathlib.Core.Option.{Option, none, some, none-ne-some, some-injective}
use mathlib.Core.Path.{◌≡◌, refl, sym, ap, ◌∙◌, subst}
use Prim.Native.Nat.{ℕ, ◌<◌, ◌≤◌}
use borrow.Author.Tests.{lt-leb, lt-ltb}
use lib.Dec.{leb}
use Rattle.judge_all.specs.InSlices.{Declared}
use Rattle.judge_all.specs.Stated.{wanted_length}
use Rattle.std.specs.Prelude as C
use Rattle.language.specs.Description.{Description, Places, facility_at, sequencing_of}
use Rattle.language.specs.Rules.{length_if_any, sequencing_length}
use Rattle.language.specs.Ceilings.{longest}
use Rattle.parse_held.proofs.TextFits.{word_some}
use Rattle.parse_states.specs.Begins.{length_of}
use Rattle.value_operators.specs.Meaning.{allowed}
use Rattle.call_read.specs.Lengths.{lending}

-- ---- As the code has it.

cond-other : {A : Type 0} (b : Bool) (x y : A) → b ≡ false → cond b x y ≡ y
cond-other b x y e = rw e

too_long : (l : ℕ) → 256 < l → length_of 0 ≡ lending (some l)
unfolding length_of allowed longest
too_long l h = sym (cond-other (leb l 256) _ _ (lt-leb l 256 h))

not-long : (l : ℕ) → 0 < l → l ≤ 256 → length_of l ≡ lending (some l)
unfolding length_of allowed longest
not-long l p h = ap (λ (b : Bool). cond (cond b (leb l 256) false) (some l) none) (lt-ltb 0 l p)

-- A sequencing register has a bit, so that no length that is wanted is 0.
some-bit : (d : Description) (p : Places) (l : ℕ) → some l ≡ sequencing_length d p → 0 < l
unfolding sequencing_length
some-bit d p l e = go (sequencing_of d) e
  where
    go : (o : Option ℕ) → some l ≡ length_if_any d p o → 0 < l
    go none e = absurd (none-ne-some _ (sym e))
    go (some n) e = subst (λ (k : ℕ). 0 < k) (sym (some-injective _ _ e)) (word_some (facility_at d n))

-- What is wanted of the rows fs and fp, as the tables have them.
abbrev pub Wanted : C.Option ℕ → List ℕ → List ℕ → Type 0
Wanted r fs fp = (es ep : List ℕ) (d : Description) (p : Places) → Declared fs es fp ep d p → wanted_length r ≡ sequencing_length d p

abbrev pub Lends : ℕ → List ℕ → List ℕ → Type 0
Lends l fs fp = (es ep : List ℕ) (d : Description) (p : Places) → Declared fs es fp ep d p → length_of l ≡ lending (sequencing_length d p)

pub lends : (r : C.Option ℕ) (l : ℕ) {fs fp fs' fp' : List ℕ} → l ≤ 256 → C.Some l ≡ r → fs' ≡ fs → fp' ≡ fp → Wanted r fs' fp' → Lends l fs fp
unfolding wanted_length
lends r l h e a b f es ep d p x =
    let g : some l ≡ sequencing_length d p = ap wanted_length e ∙ f es ep d p (rw (a, b) x) in
    not-long l (some-bit d p l g) h ∙ ap lending g

pub lends_long : (r : C.Option ℕ) (l : ℕ) {fs fp fs' fp' : List ℕ} → 256 < l → C.Some l ≡ r → fs' ≡ fs → fp' ≡ fp → Wanted r fs' fp' → Lends 0 fs fp
unfolding wanted_length
lends_long r l h e a b f es ep d p x = too_long l h ∙ ap lending (ap wanted_length e ∙ f es ep d p (rw (a, b) x))

pub lends_none : (r : C.Option ℕ) {fs fp fs' fp' : List ℕ} → C.None ≡ r → fs' ≡ fs → fp' ≡ fp → Wanted r fs' fp' → Lends 0 fs fp
unfolding length_of allowed wanted_length
lends_none r e a b f es ep d p x = ap lending (ap wanted_length e ∙ f es ep d p (rw (a, b) x))
