-- Names one after the other: where each stands, and what their lengths in the records come to.
use mathlib.Core.List.{List, [], ◌∷◌, ◌++◌, append_assoc}
use Rattle.std.specs.Prelude.{◌≡◌, drop, get_or, take}
use Rattle.std.proofs.Math.Path.{refl, ap}
use Rattle.std.proofs.Common.{sym, ap₂, ◌∙◌, mul-suc, mul-zero, arith, take-add, take_at}
use Prim.Native.Nat.{ℕ, zero, suc, ◌+◌, ◌*◌, ◌%◌, ◌<◌, ◌≤◌}
use Rattle.std.proofs.Math.Nat.{mod-le}
use Rattle.std.proofs.Math.ListN.{length, length-append}
use Rattle.std.proofs.Math.Seq.{drop_at, drop-drop}
use Rattle.language.specs.Canonical.{total}
use Rattle.language.specs.Decode.{facilities_at, facility_of, names_length, operations_at, states_at}
use Rattle.language.specs.Encode.{concat, facility_size, operation_size, state_size}

module _ {A : Type 0} (name : A → List ℕ) where
  -- The bytes of all names.
  abbrev pub names_of : List A → ℕ
  names_of xs = total (λ x. length (name x)) xs

  pub names-length : (xs : List A) → length (concat name xs) ≡ names_of xs
  unfolding concat total
  names-length [] = refl
  names-length (x ∷ xs) = length-append (name x) (concat name xs) ∙ ap (λ (k : ℕ). length (name x) + k) (names-length xs)

  -- The n-th name, whatever follows the names.
  pub name-cut : (xs : List A) (n : ℕ) (d : A) (rest : List ℕ) → n < length xs
      → take (length (name (get_or xs n d))) (drop (names_of (take n xs)) (concat name xs ++ rest)) ≡ name (get_or xs n d)
  unfolding concat total
  name-cut [] n d rest h = absurd (omega arith)
  name-cut (x ∷ xs) zero d rest h = rw (append_assoc (name x) (concat name xs) rest) (take_at (name x) (concat name xs ++ rest) (length (name x)) refl)
  name-cut (x ∷ xs) (suc n) d rest h =
      rw (append_assoc (name x) (concat name xs) rest, ← drop-drop (names_of (take n xs)) (length (name x)) (name x ++ (concat name xs ++ rest)), drop_at (name x) (concat name xs ++ rest) (length (name x)) refl)
      (name-cut xs n d rest (omega arith))

-- What the first n records of a section say of names, where each says what an element weighs.
pub lengths-say : {A : Type 0} (weight : A → ℕ) (xs : List A) (s : List ℕ) (at size n : ℕ) (d : A) → n ≤ length xs
    → ((i : ℕ) → i < n → get_or s (at + size * i) 0 ≡ weight (get_or xs i d)) → names_length n at size s ≡ total weight (take n xs)
unfolding names_length total
lengths-say weight xs s at size zero d h f = refl
lengths-say weight [] s at size (suc n) d h f = absurd (omega arith)
lengths-say weight (x ∷ xs) s at size (suc n) d h f =
    let e : at + size * 0 ≡ at = rw (mul-zero size) (omega arith) in
    ap₂ (λ (a b : ℕ). a + b) (rw e at (f 0 (omega arith)))
    (lengths-say weight xs s (at + size) size n d (omega arith)
    (λ i g. let e : at + size * suc i ≡ at + size + size * i = rw (mul-suc size i) (omega arith) in rw e at (f (suc i) (omega arith))))

-- What lengths leave in a byte is no more than they are.
pub bytes_most : {A : Type 0} (name : A → List ℕ) (xs : List A) → total (λ x. length (name x) % 256) xs ≤ length (concat name xs)
unfolding total concat
bytes_most name [] = omega arith
bytes_most name (x ∷ xs) = omega (arith, bytes_most name xs, length-append (name x) (concat name xs), mod-le (length (name x)) 256)

-- ---- The names of what is read: as many bytes as the records say, as far as there are any.

pub facilities-names : (k at : ℕ) (s names : List ℕ) → concat (λ f. f.name) (facilities_at k at s names) ≡ take (names_length k (at + 2) facility_size s) names
unfolding concat facilities_at names_length facility_of
facilities-names zero at s names = refl
facilities-names (suc k) at s names =
    let l = get_or s (at + 2) 0 in
    let e : at + facility_size + 2 ≡ at + 2 + facility_size = omega arith in
    ap (λ (t : List ℕ). take l names ++ t) (facilities-names k (at + facility_size) s (drop l names))
    ∙ rw e (sym (take-add l (names_length k (at + 2 + facility_size) facility_size s) names))

pub operations-names : (k at : ℕ) (s names : List ℕ) → concat (λ o. o.name) (operations_at k at s names) ≡ take (names_length k at 5 s) names
unfolding concat operations_at names_length
operations-names zero at s names = refl
operations-names (suc k) at s names =
    let l = get_or s at 0 in
    ap (λ (t : List ℕ). take l names ++ t) (operations-names k (at + operation_size) s (drop l names)) ∙ sym (take-add l (names_length k (at + operation_size) operation_size s) names)

pub states-names : (k at : ℕ) (s names : List ℕ) → concat (λ x. x.name) (states_at k at s names) ≡ take (names_length k at 7 s) names
unfolding concat states_at names_length
states-names zero at s names = refl
states-names (suc k) at s names =
    let l = get_or s at 0 in
    ap (λ (t : List ℕ). take l names ++ t) (states-names k (at + state_size) s (drop l names)) ∙ sym (take-add l (names_length k (at + state_size) state_size s) names)
