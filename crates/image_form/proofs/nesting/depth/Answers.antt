use Prim.Native.Nat.{◌≤◌}
use native.Mathlib.Omega.{arith}
use Rattle.image_form.proofs.nesting.depth.Goals as goal

pub overflow_add-result : goal.overflow_add-result
overflow_add-result c =
    let h : c.noted_at.result ≤ 4097 = rw c.noted_at.ensures (c.requires _) in
    omega arith

pub overflow_add-result-in-Two : goal.overflow_add-result-in-Two
overflow_add-result-in-Two c =
    let h : c.noted_at-in-Two.result ≤ 4097 = rw c.noted_at-in-Two.ensures (c.requires _) in
    let k : c.noted_at-in-Two-2.result ≤ 4097 = rw c.noted_at-in-Two-2.ensures (c.requires _) in
    omega (arith, c.max.ensures)

pub returns-in-One : goal.returns-in-One
returns-in-One c = rw c.in-One.is (omega (arith, c.noted_at.ensures))

pub returns-in-Two : goal.returns-in-Two
returns-in-Two c = rw c.in-Two.is (omega (arith, c.max.ensures, c.noted_at-in-Two-2.ensures, c.noted_at-in-Two.ensures))
