-- A number within bounds is below their span, and a part within them ends within it. Assumes nothing.
use Rattle.std.specs.Prelude.{Bool, ◌≡◌, ℕ, ◌+◌, ◌-◌, ◌≤◌, ◌<◌}
use Rattle.std.proofs.Math.Bool.{true, false, cond}
use Rattle.std.proofs.Math.Path.{refl}
use native.Mathlib.Omega.{arith}
use borrow.Author.Tests.{leb-false, leb-true}
use Rattle.std.proofs.Math.Dec.{leb}
use Rattle.language.specs.Description.{Bounds, from_first, in_bounds, span_of}
use Rattle.language.specs.References.{same_direction}

pub no : {A : Type 0} → false ≡ true → A
no e = absurd (let z : ◌≡◌ {A = ℕ} 0 1 = cc in omega arith)

pub record Between (lo n hi : ℕ) : Type 0 where
  pub low : lo ≤ n
  pub high : n ≤ hi

pub between : (lo n hi : ℕ) (b : Bool) → leb lo n ≡ b → cond b (leb n hi) false ≡ true → Between lo n hi
between lo n hi true e h = record { low = leb-true lo n e; high = leb-true n hi h }
between lo n hi false e h = no h

module _ (b : Bounds) where
  pub from_in : (n : ℕ) → in_bounds b n ≡ true → from_first b n < span_of b
  unfolding in_bounds from_first span_of
  from_in n h = go (leb b.first b.last) refl h
    where
      go : (t : Bool) → leb b.first b.last ≡ t
          → cond t (cond (leb b.first n) (leb n b.last) false) (cond (leb b.last n) (leb n b.first) false) ≡ true
          → cond t (n - b.first) (b.first - n) < cond t (b.last - b.first + 1) (b.first - b.last + 1)
      go true e k = let w = between b.first n b.last (leb b.first n) refl k in omega arith
      go false e k = let w = between b.last n b.first (leb b.last n) refl k in omega arith

  -- Both ends in bounds and in the declared direction.
  module _ (x : Bounds) (h : in_bounds b x.first ≡ true) (k : in_bounds b x.last ≡ true) (r : same_direction b x ≡ true) where
    pub part_in : from_first b x.first + span_of x ≤ span_of b
    unfolding in_bounds from_first span_of same_direction
    part_in = go (leb b.first b.last) refl h k r
      where
        up : (t : Bool) → leb x.first x.last ≡ t → b.first ≤ x.first → x.last ≤ b.last → x.first ≤ x.last
            → (x.first - b.first) + cond t (x.last - x.first + 1) (x.first - x.last + 1) ≤ b.last - b.first + 1
        up true e p q s = omega arith
        up false e p q s = omega (arith, leb-false x.first x.last e)

        down : (t : Bool) → leb x.first x.last ≡ t → b.last ≤ x.last → x.first ≤ b.first → x.last ≤ x.first
            → (b.first - x.first) + cond t (x.last - x.first + 1) (x.first - x.last + 1) ≤ b.first - b.last + 1
        down true e p q s = omega (arith, leb-true x.first x.last e)
        down false e p q s = omega (arith, leb-false x.first x.last e)

        -- where first and last bound are equal so are the ends
        rising : (t : Bool) → leb b.last b.first ≡ t → Between b.first x.first b.last → Between b.first x.last b.last
            → cond t true (leb x.first x.last) ≡ true → x.first ≤ x.last
        rising true e p q s = omega (arith, leb-true b.last b.first e, p.low, p.high, q.low, q.high)
        rising false e p q s = leb-true x.first x.last s

        go : (t : Bool) → leb b.first b.last ≡ t
            → cond t (cond (leb b.first x.first) (leb x.first b.last) false) (cond (leb b.last x.first) (leb x.first b.first) false) ≡ true
            → cond t (cond (leb b.first x.last) (leb x.last b.last) false) (cond (leb b.last x.last) (leb x.last b.first) false) ≡ true
            → cond t (cond (leb b.last b.first) true (leb x.first x.last)) (leb x.last x.first) ≡ true
            → cond t (x.first - b.first) (b.first - x.first) + cond (leb x.first x.last) (x.last - x.first + 1) (x.first - x.last + 1)
            ≤ cond t (b.last - b.first + 1) (b.first - b.last + 1)
        go true e p q s =
            let v = between b.first x.first b.last (leb b.first x.first) refl p in
            let w = between b.first x.last b.last (leb b.first x.last) refl q in
            up (leb x.first x.last) refl v.low w.high (rising (leb b.last b.first) refl v w s)
        go false e p q s =
            let v = between b.last x.first b.first (leb b.last x.first) refl p in
            let w = between b.last x.last b.first (leb b.last x.last) refl q in
            down (leb x.first x.last) refl w.low v.high (leb-true x.last x.first s)
