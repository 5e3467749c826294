use mathlib.Core.Bool.{Bool, cond}
use mathlib.Core.Path.{sym, ap, ◌∙◌}
use Prim.Native.Nat.{ℕ, ◌-◌, ◌*◌, ◌/◌, ◌%◌, ◌^◌}
use native.Mathlib.Nat.{mod-eq_of_lt, lt_of_le_of_lt}
use lib.Pow.{shr_le}
use borrow.Author.Tests.{le-leb, lt-leb}
use Rattle.language.specs.Constants.{left_justified}
use Rattle.value_constants.proofs.Digits.{byte-lt}
use borrow.Author.Rules.{rules}
use Rattle.value_constants.proofs.placed.Goals as goal

pub returns-then-k-room : goal.returns-then-k-room
unfolding left_justified
returns-then-k-room c =
    let d = c.args.d in
    let j = c.args.room - c.args.k in
    c.left.ensures ∙ ap (λ (n : ℕ). n * 2 ^ j % 2 ^ 256) c.small-digit.ensures
    ∙ sym (ap (λ (b : Bool). cond b (d * 2 ^ j) (d / 2 ^ (c.args.k - c.args.room)) % 2 ^ 256) (le-leb c.args.k c.args.room c.if-k-room.true))

pub returns-else-k-room : goal.returns-else-k-room
unfolding left_justified
returns-else-k-room c =
    let d = c.args.d in
    let j = c.args.k - c.args.room in
    c.right.ensures ∙ ap (λ (n : ℕ). n / 2 ^ j) c.small-digit.ensures ∙ sym (mod-eq_of_lt (lt_of_le_of_lt (shr_le d j) (byte-lt (search rules))))
    ∙ sym (ap (λ (b : Bool). cond b (d * 2 ^ (c.args.room - c.args.k)) (d / 2 ^ j) % 2 ^ 256) (lt-leb c.args.k c.args.room c.if-k-room.false))
