use mathlib.Core.Path.{sym, ◌∙◌}
use Prim.Native.Nat.{◌*◌}
use native.Mathlib.Omega.{arith}
use Rattle.language.specs.Decode.{node_of}
use Rattle.language.specs.Encode.{node_size}
use Rattle.image_records.proofs.ByteLaws.{stand-past}
use Rattle.image_records.proofs.FieldLaws.{constant-right, more-right, node-fields}
use Rattle.image_records.proofs.NodeLaws.{node-plain}
use Rattle.image_records.proofs.WrittenNodes.{node-length}
use Rattle.image_records.proofs.node_bytes.node_right.Goals as goal

pub returns-then-exprs-n : goal.returns-then-exprs-n
returns-then-exprs-n c =
    let s = c.args.exprs.now in
    sym (stand-past s _ (node_size * c.args.n) 8 (node-length (node_of s c.args.n)) (omega arith) (omega (arith, c.if-exprs-n.true)))

pub returns-in-1 : goal.returns-in-1
returns-in-1 c =
    c.digits_marked.ensures
    ∙ constant-right c.args.exprs.now (λ i. omega (arith, c.shared_slice_known-1.given i)) c.args.n (omega arith) c.in-1.is

pub returns-in-2 : goal.returns-in-2
returns-in-2 c =
    more-right c.args.exprs.now (λ i. omega (arith, c.shared_slice_known-1.given i)) c.args.n (omega arith) c.in-2.is

pub returns-in_default : goal.returns-in_default
returns-in_default c =
    let s = c.args.exprs.now in
    let n = c.args.n in
    let m = c.in_default.in_default-own.rest in
    c.plain_right.ensures
    ∙ rw (c.wide.ensures.0, c.two_there-a.ensures, c.two_there-b.ensures, c.two_there-c.ensures, ← node-fields s (λ i. omega (arith, c.shared_slice_known-1.given i)) n (omega arith), ← node-plain s n (omega arith) m.0.1 m.1)
