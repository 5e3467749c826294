-- What is said of what HEAD and TAIL give (proofs/Substrings.antt): how many bits it has.
use Rattle.std.specs.Prelude.{◌≡◌, ℕ, ◌≤◌, ◌<◌}
use Rattle.language.specs.Value.{Value}

-- A part of `count` bits of a value of so many.
pub record Within (source count : ℕ) (w : Value) : Type 0 where
  pub so-long : w.length ≡ count
  pub some-bit : 0 < count
  pub no_longer : count ≤ source
