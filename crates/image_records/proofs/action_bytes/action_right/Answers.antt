use mathlib.Core.Path.{sym, ◌∙◌}
use Prim.Native.Nat.{◌*◌}
use native.Mathlib.Omega.{arith}
use Rattle.language.specs.Decode.{action_of}
use Rattle.language.specs.Encode.{action_size}
use Rattle.image_records.proofs.ActionLaws.{action-length, action-whole}
use Rattle.image_records.proofs.ByteLaws.{stand-past}
use Rattle.image_records.proofs.FieldLaws.{action-fields}
use Rattle.image_records.proofs.action_bytes.action_right.Goals as goal

pub returns-then-acts-n : goal.returns-then-acts-n
returns-then-acts-n c =
    let s = c.args.acts.now in
    sym (stand-past s _ (action_size * c.args.n) 7 (action-length (action_of s c.args.n)) (omega arith) (omega (arith, c.if-acts-n.true)))

pub returns : goal.returns
returns c =
    let s = c.args.acts.now in
    let n = c.args.n in
    c.fields_right.ensures
    ∙ rw (c.two_there-a.ensures, c.two_there-b.ensures, c.two_there-c.ensures, ← action-fields s (λ i. omega (arith, c.shared_slice_known-1.given i)) n (omega arith), ← action-whole s n (omega arith))
