-- Bounds as judging tests them, and as the relation of lengths has them: the same. Assumes nothing.
use Rattle.std.specs.Prelude.{Bool, true, false, cond, ◌≡◌, ℕ, ◌+◌, ◌-◌, ◌≤◌, ◌<◌, leb}
use Rattle.std.proofs.Math.Path.{refl}
use native.Mathlib.Omega.{arith}
use Rattle.std.proofs.Common.{le-leb, leb-false, leb-true}
use Rattle.language.specs.Description.{Bounds, in_bounds, span_of}
use Rattle.language.specs.References.{same_direction}
use Rattle.about_running.specs.InBounds.{Between, between}
use Rattle.about_rules.specs.HasLength.{Part, Within}

-- A test of a ≤ c ≤ b.
so-between : (a c b : ℕ) → a ≤ c → c ≤ b → cond (leb a c) (leb c b) false ≡ true
so-between a c b h k = rw (le-leb a c h, le-leb c b k)

pub within_in : (b : Bounds) (c : ℕ) → Within b c → in_bounds b c ≡ true
unfolding in_bounds
within_in b c (Within.rising h k) = let r : b.first ≤ b.last = omega arith in rw (le-leb _ _ r) (so-between _ c _ h k)
within_in b c (Within.falling h k) = go (leb b.first b.last) refl
  where
    go : (t : Bool) → leb b.first b.last ≡ t
        → cond t (cond (leb b.first c) (leb c b.last) false) (cond (leb b.last c) (leb c b.first) false) ≡ true
    go true q = let r : b.first ≤ b.last = leb-true _ _ q in so-between _ c _ (omega arith) (omega arith)
    go false q = so-between _ c _ h k

pub in_within : (b : Bounds) (c : ℕ) → in_bounds b c ≡ true → Within b c
unfolding in_bounds
in_within b c e = go (leb b.first b.last) refl e
  where
    go : (t : Bool) → leb b.first b.last ≡ t
        → cond t (cond (leb b.first c) (leb c b.last) false) (cond (leb b.last c) (leb c b.first) false) ≡ true → Within b c
    go true q k = let r = between b.first c b.last (leb b.first c) refl k in Within.rising r.low r.high
    go false q k = let r = between b.last c b.first (leb b.last c) refl k in Within.falling r.low r.high

-- How judging sees a part of l bits.
pub record Tested (b x : Bounds) (l : ℕ) : Type 0 where
  pub first-in : in_bounds b x.first ≡ true
  pub last-in : in_bounds b x.last ≡ true
  pub direction : same_direction b x ≡ true
  pub length : span_of x ≡ l
  pub some : 1 ≤ l

rising-span : (x : Bounds) → x.first ≤ x.last → span_of x ≡ x.last - x.first + 1
unfolding span_of
rising-span x h = rw (le-leb _ _ h)

falling-span : (x : Bounds) → x.last ≤ x.first → span_of x ≡ x.first - x.last + 1
unfolding span_of
falling-span x h = go (leb x.first x.last) refl
  where
    go : (t : Bool) → leb x.first x.last ≡ t → cond t (x.last - x.first + 1) (x.first - x.last + 1) ≡ x.first - x.last + 1
    go true q = let r : x.first ≤ x.last = leb-true _ _ q in omega arith
    go false q = refl

rising-so : (b x : Bounds) → b.first ≤ b.last → x.first ≤ x.last → same_direction b x ≡ true
unfolding same_direction
rising-so b x h k = rw (le-leb _ _ h) (go (leb b.last b.first))
  where
    go : (t : Bool) → cond t true (leb x.first x.last) ≡ true
    go true = refl
    go false = le-leb _ _ k

falling-so : (b x : Bounds) → b.last ≤ b.first → x.last ≤ x.first → same_direction b x ≡ true
unfolding same_direction
falling-so b x h k = go (leb b.first b.last)
  where
    go : (t : Bool) → cond t (cond (leb b.last b.first) true (leb x.first x.last)) (leb x.last x.first) ≡ true
    go true = rw (le-leb _ _ h)
    go false = le-leb _ _ k

pub part-tested : (b x : Bounds) {l : ℕ} → Part b x l → Tested b x l
part-tested b x (Part.rising h k m) = record {
  first-in = within_in b _ (Within.rising h (omega arith));
  last-in = within_in b _ (Within.rising (omega arith) m);
  direction = rising-so b x (omega arith) k;
  length = rising-span x k;
  some = omega arith;
}
part-tested b x (Part.falling h k m) = record {
  first-in = within_in b _ (Within.falling (omega arith) m);
  last-in = within_in b _ (Within.falling h (omega arith));
  direction = falling-so b x (omega arith) k;
  length = falling-span x k;
  some = omega arith;
}

-- In bounds, a part that runs in the declared direction is one of the relation.
module _ (b x : Bounds) where
  by-direction : Within b x.first → Within b x.last → same_direction b x ≡ true → Part b x (span_of x)
  unfolding same_direction
  by-direction h k e = go (leb b.first b.last) refl e
    where
      ends : (c : ℕ) → Within b c → b.first ≤ b.last → Between b.first c b.last
      ends c (Within.rising l m) q = record { low = l; high = m }
      ends c (Within.falling l m) q = record { low = omega arith; high = omega arith }

      ends-down : (c : ℕ) → Within b c → b.last ≤ b.first → Between b.last c b.first
      ends-down c (Within.rising l m) q = record { low = omega arith; high = omega arith }
      ends-down c (Within.falling l m) q = record { low = l; high = m }

      up : b.first ≤ b.last → x.first ≤ x.last → Part b x (span_of x)
      up q r =
          let i = ends _ h q in
          let j = ends _ k q in
          rw (rising-span x r) (Part.rising i.low r j.high)

      go2 : b.first ≤ b.last → (t : Bool) → leb b.last b.first ≡ t → cond t true (leb x.first x.last) ≡ true → Part b x (span_of x)
      go2 q true s r =
          let i = ends _ h q in
          let j = ends _ k q in
          let z : b.last ≤ b.first = leb-true _ _ s in
          up q (omega arith)
      go2 q false s r = up q (leb-true _ _ r)

      go : (t : Bool) → leb b.first b.last ≡ t
          → cond t (cond (leb b.last b.first) true (leb x.first x.last)) (leb x.last x.first) ≡ true → Part b x (span_of x)
      go true q r = go2 (leb-true _ _ q) (leb b.last b.first) refl r
      go false q r =
          let z : b.last < b.first = leb-false _ _ q in
          let y : x.last ≤ x.first = leb-true _ _ r in
          let i = ends-down _ h (omega arith) in
          let j = ends-down _ k (omega arith) in
          rw (falling-span x y) (Part.falling j.low y i.high)

  pub tested-part : in_bounds b x.first ≡ true → in_bounds b x.last ≡ true → same_direction b x ≡ true → Part b x (span_of x)
  tested-part h k e = by-direction (in_within b _ h) (in_within b _ k) e
