use Rattle.language.specs.Decode.{number_at}
use Prim.Native.Nat.{ℕ, ◌+◌, ◌-◌, ◌*◌, ◌<◌}
use mathlib.Core.Path.{◌≡◌}
use Rattle.language.specs.Encode.{node_size}
use Rattle.judge_terms.proofs.constants.same_number.Given as goal

abbrev pub invariant-loop-d : goal.invariant-loop-d
invariant-loop-d l = (e : ℕ) → e < l.d → number_at 6 (node_size * (l.n - e) + 2) l.exprs ≡ number_at 6 (node_size * (l.m - e) + 2) l.exprs
