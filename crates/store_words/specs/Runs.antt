-- How a part is taken apart: into runs of up to 64 bits, one for each limb, and a run into bits that lie in one byte.
use Rattle.std.specs.Prelude.{◌≡◌, ℕ, ◌+◌, ◌-◌, ◌*◌, ◌≤◌, ◌<◌, min}
use Rattle.store_words.specs.declared.parts.Runs.{Runs}

-- Of `left` bits above the lowest `low` ones the uppermost lie in one byte: `bits` of them, above its lowest `shift` ones.
pub record Cuts (low left byte shift bits : ℕ) : Type 0 where
  pub place : 8 * byte + shift + bits ≡ low + left
  pub in-byte : shift + bits ≤ 8
  pub some : 0 < bits
  pub few : bits ≤ left

-- The runs of n bits above the lowest `low` ones: 64 bits each, and fewer where no more are left.
pub record InRuns (low n : ℕ) (r : Runs) : Type 0 where
  pub c0 : r.c0 ≡ min n 64
  pub c1 : r.c1 ≡ min (n - r.c0) 64
  pub c2 : r.c2 ≡ min (n - r.c0 - r.c1) 64
  pub c3 : r.c3 ≡ n - r.c0 - r.c1 - r.c2
  pub p1 : r.p1 ≡ low + r.c0
  pub p2 : r.p2 ≡ low + r.c0 + r.c1
  pub p3 : r.p3 ≡ low + r.c0 + r.c1 + r.c2
