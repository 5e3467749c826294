use mathlib.Core.Path.{◌∙◌}
use Prim.Native.Nat.{◌≤◌}
use native.Mathlib.Omega.{arith}
use lib.ListN.{drop, length, length-drop}
use lib.Seq.{take_all}
use Rattle.trace_output.proofs.AddsLaws.{adds-as}
use Rattle.trace_output.proofs.out.decimal.Goals as goal

pub returns : goal.returns
returns c =
    let h : length (drop c.digits-from.result c.digits-from.new.last) ≤ 20 = omega (arith, length-drop c.digits-from.result c.digits-from.new.last, c.digits-from.ensures.1) in
    adds-as c.append.ensures (c.part.ensures ∙ (take_all 20 (drop c.digits-from.result c.digits-from.new.last) h ∙ c.digits-from.ensures.2))
