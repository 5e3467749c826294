-- Names taken character by character, and one after the other.
use mathlib.Core.Bool.{Bool, true, false, cond, true≢false, ◌&&◌}
use mathlib.Core.List.{List, [], ◌∷◌, map}
use mathlib.Core.Option.{Option, none, some}
use mathlib.Core.Path.{◌≡◌, refl, sym, ap, ◌∙◌}
use Prim.Native.Nat.{ℕ, zero, suc, ◌+◌, ◌-◌, ◌*◌, ◌/◌, ◌<◌, ◌≤◌}
use native.Mathlib.Numerals.{add-one}
use native.Mathlib.Omega.{arith}
use borrow.Author.Tests.{le-leb, leb-true, lt-leb}
use lib.Dec.{eqb, leb}
use lib.ListN.{drop, drop_of_length-le, get_or, length, take}
use lib.Seq.{drop-cons, drop-drop}
use Rattle.language.specs.Canonical.{all, is_capital, label_right, name_parts, name_right}
use Rattle.language.specs.Characters.{folded, is_digit}
use Rattle.language.specs.Decode.{facilities_at, facility_of, number_at, operations_at, states_at, value_of}
use Rattle.language.specs.Description as D
use Rattle.language.specs.Scan.{reserved_kind}
use Rattle.language.specs.Ceilings.{longest_name}
use Rattle.image_sections.proofs.DeclarationLaws.{name-first, state-whole}
use Rattle.image_sections.specs.Declarations.{StateRead, value_meant}
use Rattle.image_sections.specs.declared.states.StateRecord.{StateRecord}
use Rattle.image_form.specs.Names.{labels_right, names_right}
use Rattle.language.specs.Encode.{facility_size, operation_size, state_size}
use Rattle.language.specs.Tests.{both}

-- ---- One name.

parts-step : (s : List ℕ) (i : ℕ) → i < length s → name_parts (drop i s) ≡ both (cond (is_capital (get_or s i 0)) true (is_digit (get_or s i 0))) (name_parts (drop (i + 1) s))
unfolding name_parts
parts-step s i h = rw (add-one i, drop-cons s i 0 h)

pub parts-not : (s : List ℕ) (i : ℕ) → i < length s → cond (is_capital (get_or s i 0)) true (is_digit (get_or s i 0)) ≡ false → name_parts (drop i s) ≡ false
parts-not s i h e = parts-step s i h ∙ rw e

pub parts_next : (s : List ℕ) (i : ℕ) → i < length s → cond (is_capital (get_or s i 0)) true (is_digit (get_or s i 0)) ≡ true → name_parts (drop i s) ≡ name_parts (drop (i + 1) s)
parts_next s i h e = parts-step s i h ∙ rw e

pub parts-end : (s : List ℕ) (i : ℕ) → length s ≤ i → name_parts (drop i s) ≡ true
unfolding name_parts
parts-end s i h = rw (drop_of_length-le s h)

pub name-empty : (s : List ℕ) → length s ≡ 0 → name_right s ≡ false
unfolding name_right
name-empty [] h = refl
name-empty (b ∷ s) h = absurd (omega arith)

both-not : (a b : Bool) → b ≡ false → both a b ≡ false
both-not true b e = e
both-not false b e = refl

pub name-long : (s : List ℕ) → 132 < length s → name_right s ≡ false
unfolding name_right longest_name
name-long [] h = refl
name-long (b ∷ s) h = both-not (is_capital b) _ (both-not (name_parts s) _ (rw (lt-leb (length (b ∷ s)) 132 h)))

pub name-small : (s : List ℕ) → is_capital (get_or s 0 0) ≡ false → name_right s ≡ false
unfolding name_right
name-small [] e = refl
name-small (b ∷ s) e = rw e

pub name-parts : (s : List ℕ) → is_capital (get_or s 0 0) ≡ true → name_parts s ≡ false → name_right s ≡ false
unfolding name_right name_parts
name-parts [] e f = refl
name-parts (b ∷ s) e f = let g : name_parts s ≡ false = rw e at f in rw (e, g)

pub name-kind : (s : List ℕ) → 0 < length s → length s ≤ 132 → is_capital (get_or s 0 0) ≡ true → name_parts s ≡ true → name_right s ≡ eqb (reserved_kind s) 0
unfolding name_right name_parts longest_name
name-kind [] p l e f = absurd (omega arith)
name-kind (b ∷ s) p l e f = let g : name_parts s ≡ true = rw e at f in rw (e, g, le-leb (length (b ∷ s)) 132 l)

-- Capitals and digits are not folded.
part-folded : (b : ℕ) → cond (is_capital b) true (is_digit b) ≡ true → folded b ≡ b
unfolding folded
part-folded b e = rw (lt-leb 97 b (low (leb b 90) refl (leb b 57) refl e)) (by-test (leb b 122))
  where
    low : (p : Bool) → leb b 90 ≡ p → (q : Bool) → leb b 57 ≡ q → cond (p && leb 65 b) true (q && leb 48 b) ≡ true → b < 97
    low true x q y z = omega (arith, leb-true b 90 x)
    low false x true y z = omega (arith, leb-true b 57 y)
    low false x false y z = absurd (true≢false (sym z))

    by-test : (p : Bool) → cond (p && false) (b - 32) b ≡ b
    by-test true = refl
    by-test false = refl

pub name-folded : (s : List ℕ) → name_parts s ≡ true → map folded s ≡ s
unfolding name_parts
name-folded [] e = refl
name-folded (b ∷ s) e = by-test (cond (is_capital b) true (is_digit b)) refl (name-folded s) e
  where
    by-test : (p : Bool) → cond (is_capital b) true (is_digit b) ≡ p → (name_parts s ≡ true → map folded s ≡ s) → both p (name_parts s) ≡ true
        → folded b ∷ map folded s ≡ b ∷ s
    by-test true x f z = rw (part-folded b x, f z)
    by-test false x f z = absurd (true≢false (sym z))

-- ---- Names one after the other, i of n done.

names-step : (k at size : ℕ) (s names : List ℕ) → 0 < k
    → names_right k at size s names ≡ both (name_right (take (get_or s at 0) names)) (names_right (k - 1) (at + size) size s (drop (get_or s at 0) names))
unfolding names_right
names-step zero at size s names h = absurd (omega arith)
names-step (suc k) at size s names h = let e : suc k - 1 ≡ k = omega arith in rw e

pub names-start : (n at size : ℕ) (s names : List ℕ) → names_right (n - 0) at size s (drop 0 names) ≡ names_right n at size s names
names-start n at size s names = let e : n - 0 ≡ n = omega arith in rw e

pub names-not : (n i at size from l : ℕ) (s names : List ℕ) → i < n → l ≡ get_or s at 0 → name_right (take l (drop from names)) ≡ false
    → names_right (n - i) at size s (drop from names) ≡ false
names-not n i at size from l s names h e f = names-step (n - i) at size s (drop from names) (omega arith) ∙ rw (← e, f)

pub names-next : (n i at size from l : ℕ) (s names : List ℕ) → i < n → l ≡ get_or s at 0 → name_right (take l (drop from names)) ≡ true
    → names_right (n - i) at size s (drop from names) ≡ names_right (n - (i + 1)) (at + size) size s (drop (from + l) names)
names-next n i at size from l s names h e f =
    let g : n - (i + 1) ≡ n - i - 1 = omega arith in
    names-step (n - i) at size s (drop from names) (omega arith) ∙ rw (← e, f, g, drop-drop l from names)

pub names-end : (n i at size : ℕ) (s names : List ℕ) → n ≤ i → names_right (n - i) at size s names ≡ true
unfolding names_right
names-end n i at size s names h = let e : n - i ≡ 0 = omega arith in rw e

-- What the end says, which is 0 where a name is not right.
pub end_none : (b : Bool) (l : ℕ) {r : ℕ} → r ≡ cond b (l + 1) 0 → r ≡ 0 → b ≡ false
end_none true l e z = absurd (omega arith)
end_none false l e z = refl

pub end-some : (b : Bool) (l : ℕ) {r : ℕ} → r ≡ cond b (l + 1) 0 → (r ≡ 0 → ⊥) → (b ≡ true) × (r - 1 ≡ l)
end-some true l e z = (refl, omega arith)
end-some false l e z = absurd (z e)

-- They are the names of the facilities and operations.
pub facilities-named : (k at : ℕ) (s names : List ℕ) → all (λ f. name_right f.name) (facilities_at k at s names) ≡ names_right k (at + 2) facility_size s names
unfolding all facilities_at names_right facility_of
facilities-named zero at s names = refl
facilities-named (suc k) at s names =
    let e : at + facility_size + 2 ≡ at + 2 + facility_size = omega arith in
    ap (both (name_right (take (get_or s (at + 2) 0) names))) (facilities-named k (at + facility_size) s (drop (get_or s (at + 2) 0) names) ∙ rw e)

pub operations-named : (k at : ℕ) (s names : List ℕ) → all (λ o. name_right o.name) (operations_at k at s names) ≡ names_right k at 5 s names
unfolding all operations_at names_right
operations-named zero at s names = refl
operations-named (suc k) at s names = ap (both (name_right (take (get_or s at 0) names))) (operations-named k (at + operation_size) s (drop (get_or s at 0) names))

-- ---- The labels of states, n of which are done.

abbrev pub all_labels : ℕ → ℕ → List ℕ → List ℕ → Bool
all_labels k at s names = all (λ x. label_right x.name x.value) (states_at k at s names)

labels-more : (k at : ℕ) (s names : List ℕ) → 0 < k
    → all_labels k at s names
    ≡ both (label_right (take (get_or s at 0) names) (value_of (number_at 2 (at + 1) s))) (all_labels (k - 1) (at + state_size) s (drop (get_or s at 0) names))
unfolding all states_at
labels-more zero at s names h = absurd (omega arith)
labels-more (suc k) at s names h = let e : suc k - 1 ≡ k = omega arith in rw e

module _ (s names : List ℕ) where
  pub labels-start : all_labels (length s / state_size - 0) (state_size * 0) s (drop 0 names) ≡ labels_right s names
  unfolding labels_right
  labels-start = let e : length s / state_size - 0 ≡ length s / state_size = omega arith in rw e

  module _ (n from : ℕ) (h : n < length s / state_size) {x : StateRecord} (r : StateRead s n x) where
    label-length : x.name ≡ get_or s (state_size * n) 0
    label-length = r.name ∙ name-first 7 s n (omega arith)

    label-value : value_meant x.value ≡ value_of (number_at 2 (state_size * n + 1) s)
    label-value = ap (λ (y : D.State). y.value) (r.meaning [] ∙ state-whole s n [] h)

    labels-step : all_labels (length s / state_size - n) (state_size * n) s (drop from names)
        ≡ both (label_right (take x.name (drop from names)) (value_meant x.value)) (all_labels (length s / state_size - (n + 1)) (state_size * (n + 1)) s (drop (from + x.name) names))
    labels-step =
        let e : length s / state_size - (n + 1) ≡ length s / state_size - n - 1 = omega arith in
        let g : state_size * (n + 1) ≡ state_size * n + state_size = omega arith in
        labels-more (length s / state_size - n) (state_size * n) s (drop from names) (omega arith) ∙ rw (← label-length, ← label-value, e, g, drop-drop x.name from names)

    pub labels-not : label_right (take x.name (drop from names)) (value_meant x.value) ≡ false → all_labels (length s / state_size - n) (state_size * n) s (drop from names) ≡ false
    labels-not e = labels-step ∙ rw e

    pub labels_next : label_right (take x.name (drop from names)) (value_meant x.value) ≡ true
        → all_labels (length s / state_size - n) (state_size * n) s (drop from names) ≡ all_labels (length s / state_size - (n + 1)) (state_size * (n + 1)) s (drop (from + x.name) names)
    labels_next e = labels-step ∙ rw e

  pub labels-end : (n at : ℕ) (rest : List ℕ) → length s / state_size ≤ n → all_labels (length s / state_size - n) at s rest ≡ true
  unfolding all states_at
  labels-end n at rest h = let e : length s / state_size - n ≡ 0 = omega arith in rw e

pub label-none : (s : List ℕ) → length s ≡ 0 → label_right s none ≡ true
label-none [] h = refl
label-none (b ∷ s) h = absurd (omega arith)

pub label-value-alone : (s : List ℕ) (v : ℕ) → length s ≡ 0 → label_right s (some v) ≡ false
label-value-alone [] v h = refl
label-value-alone (b ∷ s) v h = absurd (omega arith)

pub label-name : (s : List ℕ) (v : Option ℕ) → 0 < length s → label_right s v ≡ name_right s
label-name [] v h = absurd (omega arith)
label-name (b ∷ s) v h = refl
