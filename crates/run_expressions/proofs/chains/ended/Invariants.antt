use mathlib.Core.Path.{◌≡◌}
use Prim.Native.Nat.{ℕ, ◌≤◌}
use Rattle.language.specs.Decode.{node_of}
use Rattle.language.specs.Meaning.{Answer}
use Rattle.value_operators.specs.Meaning.{valued}
use Rattle.run_expressions.specs.Chains.{Follow, operated_on}
use Rattle.run_expressions.proofs.chains.ended.Given as goal

abbrev pub invariant-loop-i : goal.invariant-loop-i
invariant-loop-i l = (worth : ℕ → Answer) → l.b ≤ l.n → Follow l.expressions worth l.b l.n → operated_on (node_of l.expressions l.b) (valued l.initial.v) ≡ worth l.b → operated_on (node_of l.expressions l.i) (valued l.v) ≡ worth l.i
