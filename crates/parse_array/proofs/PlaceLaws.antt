-- Places in two bytes.
use mathlib.Core.Path.{◌≡◌}
use Prim.Native.Nat.{ℕ, ◌+◌, ◌*◌, ◌/◌, ◌%◌}
use Rattle.language.specs.Encode.{two}
use Rattle.language.specs.Words.{Position, position}
use Rattle.judge_records.specs.Noted.{place_bytes}

pub marked : (n place : ℕ) (p : Position) {x : ℕ} → position place ≡ p → x ≡ place % 32768 + 32768 * (n / 65536 % 2) → two x ≡ place_bytes n p
unfolding place_bytes
marked n place p e f = rw (← e, f)
