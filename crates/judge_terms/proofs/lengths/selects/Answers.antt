use Prim.Native.Nat.{ℕ, suc, ◌≤◌}
use mathlib.Core.Path.{◌≡◌}
use Rattle.language.specs.Expressions.{longest_selector, selects}
use native.Mathlib.Omega.{arith}
use borrow.Author.Tests.{lt-leb}
use Rattle.judge_terms.proofs.lengths.selects.Goals as goal

any : (n : ℕ) → 0 ≤ n
any n = omega arith

next : (k n : ℕ) → k ≤ n → (n ≡ k → ⊥) → suc k ≤ n
next k n h e = omega arith

pub returns-in-0 : goal.returns-in-0
unfolding selects longest_selector
returns-in-0 c =
    rw c.in-0.is

pub returns-in-1 : goal.returns-in-1
unfolding selects longest_selector
returns-in-1 c =
    rw c.in-1.is

pub returns-in-2 : goal.returns-in-2
unfolding selects longest_selector
returns-in-2 c =
    rw c.in-2.is

pub returns-in-3 : goal.returns-in-3
unfolding selects longest_selector
returns-in-3 c =
    rw c.in-3.is

pub returns-in-4 : goal.returns-in-4
unfolding selects longest_selector
returns-in-4 c =
    rw c.in-4.is

pub returns-in-5 : goal.returns-in-5
unfolding selects longest_selector
returns-in-5 c =
    rw c.in-5.is

pub returns-in-6 : goal.returns-in-6
unfolding selects longest_selector
returns-in-6 c =
    rw c.in-6.is

pub returns-in_default : goal.returns-in_default
unfolding selects longest_selector
returns-in_default c =
    rw (lt-leb _ _ (next 6 c.args.length (next 5 c.args.length (next 4 c.args.length (next 3 c.args.length (next 2 c.args.length (next 1 c.args.length (next 0 c.args.length (any c.args.length) c.in_default.in_default-own.rest.0.0.0.0.0.0.1) c.in_default.in_default-own.rest.0.0.0.0.0.1) c.in_default.in_default-own.rest.0.0.0.0.1) c.in_default.in_default-own.rest.0.0.0.1) c.in_default.in_default-own.rest.0.0.1) c.in_default.in_default-own.rest.0.1) c.in_default.in_default-own.rest.1))
