use native.Mathlib.Nat.{mod-eq_of_lt}
use lib.Bits.{or_shifted}
use Prim.Native.Nat.{◌*◌, ◌^◌, ◌<◌}
use borrow.Author.Rules.{rules}
use Rattle.store_words.proofs.bytes.join.Goals as goal

pub returns : goal.returns
returns c =
    let h : c.args.high * 2 ^ c.args.n < 2 ^ 64 = search rules in
    rw (mod-eq_of_lt h) (or_shifted c.args.high c.args.n c.args.below (search rules))
