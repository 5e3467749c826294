use mathlib.Core.Path.{ap, ◌∙◌}
use Prim.Native.Nat.{ℕ, ◌-◌, ◌*◌}
use native.Mathlib.Omega.{arith}
use Rattle.store_layout.specs.Parts.{part_in}
use Rattle.store_layout.proofs.ByteOrder.{few-spare, word_room}
use Rattle.store_words.proofs.spare.spare_bits.Goals as goal

pub overflow_mul-word_bytes : goal.overflow_mul-word_bytes
overflow_mul-word_bytes c =
    omega (arith, few-spare c.args.length)

pub overflow_sub-word_bytes : goal.overflow_sub-word_bytes
overflow_sub-word_bytes c =
    omega (arith, word_room c.args.length)

pub bits-requires : goal.bits-requires
bits-requires c =
    let r = word_room c.args.length in
    let f = few-spare c.args.length in
    (c.requires, omega arith, omega arith)

pub returns : goal.returns
returns c =
    c.bits.ensures ∙ ap (λ (n : ℕ). part_in c.args.s.now c.args.at c.args.length c.args.length (8 * n - c.args.length)) c.word_bytes.ensures
