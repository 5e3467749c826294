-- Records added one after the other: what the array then holds.
use mathlib.Core.List.{List, [], ◌∷◌, ◌++◌, append_assoc, append-nil}
use mathlib.Core.Path.{◌≡◌, refl, sym, ap, ◌∙◌}
use Prim.Native.Nat.{ℕ, zero, suc, ◌+◌, ◌-◌, ◌*◌, ◌/◌, ◌%◌, ◌^◌, ◌<◌, ◌≤◌}
use native.Mathlib.Nat.{div-one, mod-mod}
use native.Mathlib.Omega.{arith}
use Rattle.std.specs.Prelude.{Option, Some}
use Rattle.language.specs.Describe.{Noted, constant_nodes, constant_size, digits_above, noted}
use Rattle.language.specs.Description as D
use Rattle.language.specs.Description.{digit_length, further_digits, node_places}
use Rattle.language.specs.Encode.{concat, node_bytes}
use Rattle.language.specs.Value.{Value, value}
use Rattle.language.specs.Words.{Position}
use Rattle.judge_records.specs.Noted.{node_beside_bytes, plain_places}
use Rattle.parse_array.proofs.Regions.{same-held}
use Rattle.parse_array.specs.Held.{Added, Held, held, with_bytes, with_nodes}

pub concat-append : {A : Type 0} (f : A → List ℕ) (xs ys : List A) → concat f (xs ++ ys) ≡ concat f xs ++ concat f ys
unfolding concat
concat-append f [] ys = refl
concat-append f (x ∷ xs) ys = ap (λ (l : List ℕ). f x ++ l) (concat-append f xs ys) ∙ sym (append_assoc (f x) (concat f xs) (concat f ys))

concat-one : {A : Type 0} (f : A → List ℕ) (x : A) → concat f (x ∷ []) ≡ f x
unfolding concat
concat-one f x = append-nil (f x)

-- One list of records behind another.
pub nodes-append : (h : Held) (xs ys : List Noted) → with_nodes h (xs ++ ys) ≡ with_nodes (with_nodes h xs) ys
unfolding with_nodes
nodes-append h xs ys =
    same-held
    (ap (λ (l : List ℕ). h.nodes ++ l) (concat-append (λ n. node_bytes n.node) xs ys) ∙ sym (append_assoc h.nodes _ _))
    (ap (λ (l : List ℕ). h.places ++ l) (concat-append (λ n. node_beside_bytes n.node n.places) xs ys) ∙ sym (append_assoc h.places _ _)) refl

pub nodes-other : (h : Held) (xs : List Noted) → (with_nodes h xs).other ≡ h.other
unfolding with_nodes
nodes-other h xs = refl

pub node-one : (h : Held) (x : Noted) → with_bytes h (node_bytes x.node) (node_beside_bytes x.node x.places) ≡ with_nodes h (x ∷ [])
unfolding with_nodes
node-one h x =
    same-held (ap (λ (l : List ℕ). h.nodes ++ l) (sym (concat-one (λ n. node_bytes n.node) x)))
    (ap (λ (l : List ℕ). h.places ++ l) (sym (concat-one (λ n. node_beside_bytes n.node n.places) x))) refl

-- ---- One record.

pub node-added : {n : ℕ} {bs ps w w' : List ℕ} {r : Option ℕ} → Added n bs ps w w' r → {m : ℕ} → r ≡ Some m → (x : Noted) → bs ≡ node_bytes x.node → ps ≡ node_beside_bytes x.node x.places
    → held (n + 1) w' ≡ with_nodes (held n w) (x ∷ [])
node-added {n} {bs} {ps} {w} {r = r} a {m} e x p q = a.added e ∙ rw (p, q) (node-one (held n w) x)

-- ---- A constant's records.

module _ (v : Value) (p : Position) where
  abbrev lowest : List Noted
  lowest = noted (D.constant v) p ∷ []

  -- The records from digit i on.
  abbrev pub digits_from : ℕ → List Noted
  digits_from i = digits_above i v.number p lowest

  abbrev pub digit_node : ℕ → Noted
  digit_node i = noted (D.more (v.number / 2 ^ (48 * i) % 2 ^ 48)) p

  pub all_digits : {i : ℕ} → i ≡ further_digits v.length → digits_from i ≡ constant_nodes v p
  unfolding constant_nodes
  all_digits e = rw e

  pub all-records : further_digits v.length + 1 ≡ constant_size v
  unfolding constant_size
  all-records = omega arith

  pub next-digit : (i : ℕ) → 0 < i → digits_from i ≡ digit_node i ∷ digits_from (i - 1)
  unfolding digits_above digit_length
  next-digit zero h = absurd (omega arith)
  next-digit (suc i) h = let e : suc i - 1 ≡ i = omega arith in rw e

  pub no_digit : (i : ℕ) → i ≤ 0 → digits_from i ≡ lowest
  unfolding digits_above
  no_digit zero h = refl
  no_digit (suc i) h = absurd (omega arith)

  pub lowest-bytes : node_bytes (D.constant (value v.length (v.number / 2 ^ (48 * 0) % 2 ^ 48))) ≡ node_bytes (D.constant v)
  unfolding node_bytes digit_length
  lowest-bytes = rw (div-one v.number, mod-mod v.number (2 ^ 48))

  pub more-beside : (n : ℕ) → plain_places (node_places p) ≡ node_beside_bytes (D.more n) (node_places p)
  unfolding node_beside_bytes
  more-beside n = refl

  pub constant-beside : plain_places (node_places p) ≡ node_beside_bytes (D.constant v) (node_places p)
  unfolding node_beside_bytes
  constant-beside = refl

  -- A digit written.
  pub digit-added : {k i : ℕ} {bs ps w w' : List ℕ} {r : Option ℕ} → Added k bs ps w w' r → {m : ℕ} → r ≡ Some m → 0 < i → bs ≡ node_bytes (digit_node i).node → ps ≡ plain_places (node_places p)
      → with_nodes (held k w) (digits_from i) ≡ with_nodes (held (k + 1) w') (digits_from (i - 1))
  digit-added {k} {i} {w = w} a {m} e h f g =
      ap (with_nodes (held k w)) (next-digit i h) ∙ nodes-append (held k w) (digit_node i ∷ []) (digits_from (i - 1))
      ∙ ap (λ (x : Held). with_nodes x (digits_from (i - 1))) (sym (node-added a e (digit_node i) f (g ∙ more-beside _)))

  pub lowest-added : {k i : ℕ} {bs ps w w' : List ℕ} {r : Option ℕ} → Added k bs ps w w' r → {m : ℕ} → r ≡ Some m → i ≤ 0
      → bs ≡ node_bytes (D.constant (value v.length (v.number / 2 ^ (48 * 0) % 2 ^ 48))) → ps ≡ plain_places (node_places p)
      → with_nodes (held k w) (digits_from i) ≡ held (k + 1) w'
  lowest-added {k} {i} {w = w} a {m} e h f g =
      ap (with_nodes (held k w)) (no_digit i h) ∙ sym (node-added a e (noted (D.constant v) p) (f ∙ lowest-bytes) (g ∙ constant-beside))
