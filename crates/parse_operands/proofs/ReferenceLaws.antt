-- References as records: by what a name means, and in bytes.
use mathlib.Core.List.{List}
use mathlib.Core.Option.{Option, none, some}
use mathlib.Core.Path.{◌≡◌, refl, sym, ap, ◌∙◌}
use Prim.Native.Nat.{ℕ, ◌+◌, ◌*◌, ◌%◌, ◌/◌}
use native.Mathlib.Nat.{add-mul-mod_self_right}
use native.Mathlib.Omega.{arith}
use Rattle.language.specs.Description as D
use Rattle.language.specs.Description.{Bounds, Node, NodePlaces, bounds}
use Rattle.language.specs.Encode.{little, node_bytes, two}
use Rattle.language.specs.Naming.{Scope, facility, meaning, number_of, of_facility, operation, or_else, state, unknown}
use Rattle.language.specs.Tree.{Name}
use Rattle.judge_records.specs.Noted.{end_places, node_beside_bytes, plain_places}
use Rattle.text_words.specs.declared.Word.{Word}
use Rattle.parse_step.specs.declared.State.{State}
use Rattle.parse_step.specs.Gained.{Gained}
use Rattle.parse_operands.specs.References.{of_found, of_known}
use Rattle.parse_step.specs.Answers.{Answer}

pub gained-as : {next : Word} {s : State} {bs bs' ps ps' w w' : List ℕ} {r : Answer} → Gained next s bs ps w w' r → bs ≡ bs' → ps ≡ ps' → Gained next s bs' ps' w w' r
gained-as g p q = rw (← p, ← q) g

-- ---- A name means a facility where it is among those known.

broken-else : (a b : Option ℕ) (F : ℕ → Node) → of_facility (or_else a operation (or_else b state unknown)) F ≡ D.Node.broken
broken-else none none F = refl
broken-else none (some k) F = refl
broken-else (some k) b F = refl

pub means : (sc : Scope) (n : Name) {names : List Name} → sc.facilities ≡ names → (F : ℕ → Node) → of_facility (meaning sc n) F ≡ of_found (number_of n 0 names) F
unfolding meaning
means sc n {names} e F = rw e (go (number_of n 0 names))
  where
    go : (a : Option ℕ) → of_facility (or_else a facility (or_else (number_of n 0 sc.operations) operation (or_else (sc.state_named n) state unknown))) F ≡ of_found a F
    go none = broken-else (number_of n 0 sc.operations) (sc.state_named n) F
    go (some k) = refl

module _ (sc : Scope) (n : Name) {names : List Name} (e : sc.facilities ≡ names) {f : Option ℕ} (g : f ≡ number_of n 0 names) (F : ℕ → Node) where
  as-found : of_facility (meaning sc n) F ≡ of_found f F
  as-found = means sc n e F ∙ rw (← g)

  pub reference-bytes : {m : Node} → m ≡ of_found f F → node_bytes m ≡ node_bytes (of_facility (meaning sc n) F)
  reference-bytes p = ap node_bytes (p ∙ sym as-found)

  pub reference-beside : (p : NodePlaces) → ((k : ℕ) → node_beside_bytes (F k) p ≡ plain_places p) → plain_places p ≡ node_beside_bytes (of_facility (meaning sc n) F) p
  unfolding node_beside_bytes
  reference-beside p h = sym (ap (λ (x : Node). node_beside_bytes x p) as-found ∙ go f)
    where
      go : (a : Option ℕ) → node_beside_bytes (of_found a F) p ≡ plain_places p
      go none = refl
      go (some k) = h k

pub whole-beside : (p : NodePlaces) (k : ℕ) → node_beside_bytes (D.whole k) p ≡ plain_places p
unfolding node_beside_bytes
whole-beside p k = refl

pub one-beside : (p : NodePlaces) (e k : ℕ) → node_beside_bytes (D.one k e) p ≡ plain_places p
unfolding node_beside_bytes
one-beside p e k = refl

pub two-beside : (p : NodePlaces) (e g k : ℕ) → node_beside_bytes (D.two k e g) p ≡ plain_places p
unfolding node_beside_bytes
two-beside p e g k = refl

-- ---- Parts: of a bound the record holds the low bits, and the mark beside it the rest.

pub two-low : (x : ℕ) → two (x % 65536) ≡ two x
unfolding little
two-low x =
    let a : x % 65536 % 256 ≡ x % 256 = omega arith in
    let y = x % 65536 / 256 in
    let q : x / 256 ≡ y + x / 65536 * 256 = omega arith in
    let b : y % 256 ≡ x / 256 % 256 = sym (ap (λ (n : ℕ). n % 256) q ∙ add-mul-mod_self_right y (x / 65536) 256) in
    rw (a, b)

module _ (sc : Scope) (n : Name) {names : List Name} (e : sc.facilities ≡ names) {f : Option ℕ} (g : f ≡ number_of n 0 names) (a b : ℕ) where
  pub part_bytes : {m : Node} → m ≡ of_found f (λ k. D.part k (bounds (a % 65536) (b % 65536))) → node_bytes m ≡ node_bytes (of_facility (meaning sc n) (λ k. D.part k (bounds a b)))
  unfolding node_bytes
  part_bytes p =
      let d : of_facility (meaning sc n) (λ k. D.part k (bounds a b)) ≡ of_found f (λ k. D.part k (bounds a b)) = means sc n e (λ k. D.part k (bounds a b)) ∙ rw (← g) in
      ap node_bytes p ∙ go f ∙ ap node_bytes (sym d)
    where
      go : (x : Option ℕ) → node_bytes (of_found x (λ k. D.part k (bounds (a % 65536) (b % 65536)))) ≡ node_bytes (of_found x (λ k. D.part k (bounds a b)))
      go none = refl
      go (some k) = rw (two-low a, two-low b)

  pub word-part-bytes : (i : ℕ) {m : Node} → m ≡ of_found f (λ k. D.word_part k i (bounds (a % 65536) (b % 65536))) → node_bytes m ≡ node_bytes (of_facility (meaning sc n) (λ k. D.word_part k i (bounds a b)))
  unfolding node_bytes
  word-part-bytes i p =
      let d : of_facility (meaning sc n) (λ k. D.word_part k i (bounds a b)) ≡ of_found f (λ k. D.word_part k i (bounds a b)) = means sc n e (λ k. D.word_part k i (bounds a b)) ∙ rw (← g) in
      ap node_bytes p ∙ go f ∙ ap node_bytes (sym d)
    where
      go : (x : Option ℕ) → node_bytes (of_found x (λ k. D.word_part k i (bounds (a % 65536) (b % 65536)))) ≡ node_bytes (of_found x (λ k. D.word_part k i (bounds a b)))
      go none = refl
      go (some k) = rw (two-low a, two-low b)

  pub part-beside : (p : NodePlaces) (F : ℕ → Node) → ((k : ℕ) → node_beside_bytes (F k) p ≡ end_places (bounds a b) p)
      → end_places (bounds (of_known f a) (of_known f b)) p ≡ node_beside_bytes (of_facility (meaning sc n) F) p
  unfolding node_beside_bytes
  part-beside p F h =
      let d : of_facility (meaning sc n) F ≡ of_found f F = means sc n e F ∙ rw (← g) in
      sym (ap (λ (x : Node). node_beside_bytes x p) d ∙ go f)
    where
      go : (x : Option ℕ) → node_beside_bytes (of_found x F) p ≡ end_places (bounds (of_known x a) (of_known x b)) p
      go none = refl
      go (some k) = h k

pub part-ends : (b : Bounds) (p : NodePlaces) (k : ℕ) → node_beside_bytes (D.part k b) p ≡ end_places b p
unfolding node_beside_bytes
part-ends b p k = refl

pub word-part-ends : (b : Bounds) (p : NodePlaces) (i k : ℕ) → node_beside_bytes (D.word_part k i b) p ≡ end_places b p
unfolding node_beside_bytes
word-part-ends b p i k = refl

module _ {next : Word} {s : State} {bs ps w w' : List ℕ} {r : Answer} (z : Gained next s bs ps w w' r) (sc : Scope) (n : Name) {names : List Name} (e : sc.facilities ≡ names)
    {f : Option ℕ} (g : f ≡ number_of n 0 names) {a b a' b' x y : ℕ} (p : NodePlaces) (i : a' ≡ a) (j : b' ≡ b)
    (v : ps ≡ end_places (bounds x y) p) (k : x ≡ of_known f a') (l : y ≡ of_known f b') where
  ends_as : end_places (bounds x y) p ≡ end_places (bounds (of_known f a) (of_known f b)) p
  ends_as = rw (k, l, i, j)

  pub part-gained : {m : Node} → m ≡ of_found f (λ k. D.part k (bounds (a' % 65536) (b' % 65536)))
      → bs ≡ node_bytes m
      → Gained next s (node_bytes (of_facility (meaning sc n) (λ k. D.part k (bounds a b)))) (node_beside_bytes (of_facility (meaning sc n) (λ k. D.part k (bounds a b))) p) w w' r
  part-gained q u =
      gained-as z (u ∙ part_bytes sc n e g a b (q ∙ rw (i, j))) (v ∙ ends_as ∙ part-beside sc n e g a b p (λ k. D.part k (bounds a b)) (part-ends (bounds a b) p))

  pub word-part-gained : (c : ℕ) {m : Node} → m ≡ of_found f (λ k. D.word_part k c (bounds (a' % 65536) (b' % 65536)))
      → bs ≡ node_bytes m
      → Gained next s (node_bytes (of_facility (meaning sc n) (λ k. D.word_part k c (bounds a b)))) (node_beside_bytes (of_facility (meaning sc n) (λ k. D.word_part k c (bounds a b))) p) w w' r
  word-part-gained c q u =
      gained-as z (u ∙ word-part-bytes sc n e g a b c (q ∙ rw (i, j))) (v ∙ ends_as ∙ part-beside sc n e g a b p (λ k. D.word_part k c (bounds a b)) (word-part-ends (bounds a b) p c))
