-- How many words, bits and bytes there can be.
use mathlib.Core.Bool.{Bool, true, false, cond}
use Prim.Native.Nat.{ℕ, ◌+◌, ◌-◌, ◌*◌, ◌/◌, ◌^◌, ◌≤◌, ◌<◌}
use native.Mathlib.Nat.{mul-le-mul}
use native.Mathlib.Omega.{arith}
use lib.Dec.{eqb, leb}
use Rattle.language.specs.Description.{Bounds, Facility, span_of, word_count, word_length}
use Rattle.language.specs.Layout.{word_bytes}

pub few_bytes : (m n : ℕ) → m ≤ 2 ^ 32 → n ≤ 2 ^ 32 → m * word_bytes n ≤ 2 ^ 62
unfolding word_bytes
few_bytes m n h g = mul-le-mul {n₁ = m} {m₁ = (n + 7) / 8} {n₂ = 2 ^ 32} {m₂ = 2 ^ 30} h (omega arith)

-- Bounds below 65,536, which are those that a record has room for.
pub record Short (b : Bounds) : Type 0 where
  pub first : b.first < 65536
  pub last : b.last < 65536

pub short-span : (b : Bounds) → Short b → span_of b ≤ 65536
unfolding span_of
short-span b h = by-test (leb b.first b.last)
  where
    by-test : (t : Bool) → cond t (b.last - b.first + 1) (b.first - b.last + 1) ≤ 65536
    by-test true = omega (arith, h.last)
    by-test false = omega (arith, h.first)

pub short-length : (f : Facility) → Short f.bits → word_length f ≤ 65536
unfolding word_length
short-length f h = by-test (eqb f.dimensions 0)
  where
    by-test : (t : Bool) → cond t 1 (span_of f.bits) ≤ 65536
    by-test true = omega arith
    by-test false = short-span f.bits h

pub short-count : (f : Facility) → Short f.words → word_count f ≤ 65536
unfolding word_count
short-count f h = by-test (eqb f.dimensions 2)
  where
    by-test : (t : Bool) → cond t (span_of f.words) 1 ≤ 65536
    by-test true = short-span f.words h
    by-test false = omega arith

pub short-bytes : (f : Facility) → Short f.words → Short f.bits → word_count f * word_bytes (word_length f) ≤ 536870912
unfolding word_bytes
short-bytes f h g =
    let l = short-length f g in
    mul-le-mul {n₁ = word_count f} {m₁ = (word_length f + 7) / 8} {n₂ = 65536} {m₂ = 8192} (short-count f h) (omega (arith, l))
