-- A facility in print, by whether it is shown. Assumes nothing.
use mathlib.Core.Bool.{true, false}
use mathlib.Core.List.{List, [], ◌∷◌, ◌++◌}
use mathlib.Core.Path.{◌≡◌, refl, ap}
use Prim.Native.Nat.{ℕ, ◌≤◌, ◌<◌}
use borrow.Author.Tests.{le-leb, lt-leb}
use Rattle.language.specs.Description.{Facility, is_computed, word_length}
use Rattle.language.specs.Scan.{bytes}
use Rattle.language.specs.Trace.{bits, shown}
use Rattle.store_layout.specs.Layout.{word_in}
use Rattle.trace_output.specs.Texts.{facility_text, word_text}

module _ (f : Facility) (place : ℕ) (B : List ℕ) where
  pub text-hidden : shown f ≡ false → [] ≡ facility_text f place B
  unfolding facility_text
  text-hidden e = rw e refl

  pub text-computed : is_computed f.kind ≡ true → [] ≡ facility_text f place B
  unfolding facility_text
  text-computed e = rw e refl

  pub text-words : is_computed f.kind ≡ false → 1 < f.dimensions → [] ≡ facility_text f place B
  unfolding facility_text
  text-words e h = rw (e, lt-leb f.dimensions 1 h) refl

  pub text-shown : shown f ≡ true → (32 ∷ []) ++ (f.name ++ ((61 ∷ []) ++ word_text f place B)) ≡ facility_text f place B
  unfolding facility_text bytes
  text-shown e = rw e refl

  pub word-shown : (l : ℕ) → l ≡ word_length f → bits l (word_in B place l) ≡ word_text f place B
  unfolding word_text
  word-shown l e = ap (λ (m : ℕ). bits m (word_in B place m)) e

pub is-shown : (f : Facility) → is_computed f.kind ≡ false → f.dimensions ≤ 1 → shown f ≡ true
is-shown f e h = rw (e, le-leb f.dimensions 1 h) refl
