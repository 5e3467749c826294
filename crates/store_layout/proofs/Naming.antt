-- Which bits the delayed stores so far have named; two places meet exactly where they name a bit in common. Assumes nothing.
use mathlib.Core.Path.{◌≡◌, refl, sym, ap, ◌∙◌}
use mathlib.Core.Bool.{Bool, true, false, ◌||◌, or_assoc, or-true}
use mathlib.Core.List.{List, [], ◌∷◌, ◌++◌}
use Prim.Native.Nat.{ℕ, ◌+◌, ◌≤◌, ◌<◌, max}
use native.Mathlib.Omega.{arith}
use borrow.Author.Tests.{eq-eqb, eqb-true, le-leb, leb-true, lt-ltb, ltb-true}
use lib.Dec.{eqb, leb, ltb}
use Rattle.language.specs.Description.{Description, facility_at, word_length}
use Rattle.language.specs.Meaning.{Place, Write}
use Rattle.language.specs.Store.{low_of, meet, meets_any}
use Rattle.store_layout.specs.InBytes.{There}
use Rattle.store_layout.proofs.Inverse.{both_true}
use Rattle.language.specs.Tests.{both}

module _ (d : Description) where
  -- The place p has the bit k, from the right, of word w of facility f.
  unfoldable pub names : Place → ℕ → ℕ → ℕ → Bool
  names p f w k = both (eqb f p.facility) (both (eqb w p.word) (both (leb (low_of d p) k) (ltb k (low_of d p + p.count))))

  unfoldable pub named : List Write → ℕ → ℕ → ℕ → Bool
  named [] f w k = false
  named (x ∷ xs) f w k = names x.at f w k || named xs f w k

  pub record Names (p : Place) (f w k : ℕ) : Type 0 where
    pub facility : f ≡ p.facility
    pub word : w ≡ p.word
    pub first : low_of d p ≤ k
    pub last : k < low_of d p + p.count

  pub names-true : (p : Place) (f w k : ℕ) → names p f w k ≡ true → Names p f w k
  unfolding names
  names-true p f w k h =
      let a = both_true (eqb f p.facility) (both (eqb w p.word) (both (leb (low_of d p) k) (ltb k (low_of d p + p.count)))) h in
      let b = both_true (eqb w p.word) (both (leb (low_of d p) k) (ltb k (low_of d p + p.count))) a.1 in
      let c = both_true (leb (low_of d p) k) (ltb k (low_of d p + p.count)) b.1 in
      record { facility = eqb-true f p.facility a.0; word = eqb-true w p.word b.0; first = leb-true (low_of d p) k c.0; last = ltb-true k (low_of d p + p.count) c.1 }

  pub names-is : (p : Place) (f w k : ℕ) → Names p f w k → names p f w k ≡ true
  unfolding names
  names-is p f w k n =
      simp (eq-eqb f p.facility n.facility, eq-eqb w p.word n.word, le-leb (low_of d p) k n.first, lt-ltb k (low_of d p + p.count) n.last)

  pub names-false : (p : Place) (f w k : ℕ) → names p f w k ≡ false → Names p f w k → ⊥
  names-false p f w k h n = let z : ◌≡◌ {A = ℕ} 0 1 = cc (names-is p f w k n) in omega arith

  pub named-append : (xs ys : List Write) (f w k : ℕ) → named (xs ++ ys) f w k ≡ (named xs f w k || named ys f w k)
  unfolding named
  named-append [] ys f w k = refl
  named-append (x ∷ xs) ys f w k = ap (λ (b : Bool). names x.at f w k || b) (named-append xs ys f w k) ∙ sym (or_assoc (names x.at f w k) (named xs f w k) (named ys f w k))

  -- ---- Places that meet.

  -- A bit of p that the predicate has.
  pub record Common (p : Place) (has : ℕ → Bool) : Type 0 where
    pub bit : ℕ
    pub first : low_of d p ≤ bit
    pub last : bit < low_of d p + p.count
    pub hit : has bit ≡ true

  -- No bit of p that it has.
  abbrev pub Free : Place → (ℕ → Bool) → Type 0
  Free p has = (k : ℕ) → low_of d p ≤ k → k < low_of d p + p.count → has k ≡ false

  -- Whether there is one.
  pub data Either (p : Place) (has : ℕ → Bool) (b : Bool) : Type 0 where
    hits : b ≡ true → Common p has → Either p has b
    free : b ≡ false → Free p has → Either p has b

  module _ (p q : Place) (here : There d p) (there : There d q) where
    same_length : p.facility ≡ q.facility → word_length (facility_at d p.facility) ≡ word_length (facility_at d q.facility)
    same_length e = ap (λ (f : ℕ). word_length (facility_at d f)) e

    meet-common : meet p q ≡ true → Common p (names q p.facility p.word)
    unfolding meet
    meet-common h =
        let a = both_true (eqb p.facility q.facility) (both (eqb p.word q.word) (both (ltb p.from (q.from + q.count)) (ltb q.from (p.from + p.count)))) h in
        let b = both_true (eqb p.word q.word) (both (ltb p.from (q.from + q.count)) (ltb q.from (p.from + p.count))) a.1 in
        let c = both_true (ltb p.from (q.from + q.count)) (ltb q.from (p.from + p.count)) b.1 in
        let f = eqb-true p.facility q.facility a.0 in
        let l = same_length f in
        let x = ltb-true p.from (q.from + q.count) c.0 in
        let y = ltb-true q.from (p.from + p.count) c.1 in
        let u = here.part in
        let v = there.part in
        let s = here.some in
        let t = there.some in
        let k : ℕ = max (low_of d p) (low_of d q) in
        record { bit = k; first = omega arith; last = omega arith; hit = names-is q p.facility p.word k (record { facility = f; word = eqb-true p.word q.word b.0; first = omega arith; last = omega arith }) }

    meet-free : meet p q ≡ false → Free p (names q p.facility p.word)
    unfolding meet
    meet-free h k first last = go (names q p.facility p.word k) refl
      where
        go : (b : Bool) → names q p.facility p.word k ≡ b → b ≡ false
        go false e = refl
        go true e =
            let n = names-true q p.facility p.word k e in
            let l = same_length n.facility in
            let u = here.part in
            let v = there.part in
            let z : ◌≡◌ {A = ℕ} 0 1 = cc (eq-eqb p.facility q.facility n.facility, eq-eqb p.word q.word n.word, lt-ltb p.from (q.from + q.count) (omega (arith, n.first, n.last)), lt-ltb q.from (p.from + p.count) (omega (arith, n.first, n.last))) in
            absurd (omega arith)

    meet-either : (b : Bool) → meet p q ≡ b → Either p (names q p.facility p.word) (meet p q)
    meet-either true e = hits e (meet-common e)
    meet-either false e = free e (meet-free e)

  abbrev pub AllThere : List Write → Type 0
  AllThere [] = Unit {0}
  AllThere (w ∷ ws) = There d w.at × AllThere ws

  abbrev pub GroupsThere : List (List Write) → Type 0
  GroupsThere [] = Unit {0}
  GroupsThere (g ∷ gs) = AllThere g × GroupsThere gs

  either-or : (p : Place) (f g : ℕ → Bool) (a b : Bool) → Either p f a → Either p g b → Either p (λ k. f k || g k) (a || b)
  either-or p f g a b (hits e c) x = hits (rw e refl) (record { bit = c.bit; first = c.first; last = c.last; hit = rw c.hit refl })
  either-or p f g a b (free e n) (hits h c) = hits (rw (e, h) refl) (record { bit = c.bit; first = c.first; last = c.last; hit = rw c.hit (or-true (f c.bit)) })
  either-or p f g a b (free e n) (free h m) = free (rw (e, h) refl) (λ k first last. rw (n k first last, m k first last) refl)

  -- p meets one of the writes, and then they name a bit of it; or it meets none, and they name none.
  pub meets-either : (p : Place) (ws : List Write) → There d p → AllThere ws → Either p (named ws p.facility p.word) (meets_any p ws)
  unfolding meets_any named
  meets-either p [] h t = free refl (λ k first last. refl)
  meets-either p (w ∷ ws) h t =
      either-or p (names w.at p.facility p.word) (named ws p.facility p.word) (meet p w.at) (meets_any p ws)
      (meet-either p w.at h t.0 (meet p w.at) refl) (meets-either p ws h t.1)
