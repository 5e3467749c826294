-- The record of a run, after its completed cycles. Assumes nothing.
use mathlib.Core.List.{List}
use mathlib.Core.Path.{◌≡◌, refl}
use Prim.Native.Nat.{ℕ, zero, suc, ◌<◌, ◌≤◌}
use native.Mathlib.Omega.{arith}
use Rattle.language.specs.Calls.{over}
use Rattle.language.specs.RecordBytes.{record_bytes}
use Rattle.language.specs.Step as S
use Rattle.run_left.specs.Kept.{kept_record}

-- The record is written where a cycle has completed.
pub kept-some : (n : ℕ) (r : S.Record) (K : List ℕ) → 0 < n → over (record_bytes r) K ≡ kept_record n r K
kept-some zero r K h = absurd (omega (arith, h))
kept-some (suc n) r K h = refl

pub kept-none : (n : ℕ) (r : S.Record) (K : List ℕ) → n ≤ 0 → K ≡ kept_record n r K
kept-none zero r K h = refl
kept-none (suc n) r K h = absurd (omega (arith, h))
