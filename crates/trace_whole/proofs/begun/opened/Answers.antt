use Rattle.std.proofs.Common.{◌≤◌, length, sym, arith, rules}
use Rattle.language.specs.Layout.{store_size}
use Rattle.call_open.proofs.FirstLaws.{size-known}
use Rattle.run_soundness.proofs.PassedLaws.{passed-size}
use Rattle.trace_whole.proofs.BegunLaws.{opened-is}
use borrow.Author.Rules.{rules}
use Rattle.trace_whole.proofs.begun.opened.Goals as goal

pub slice_bounds-open-end : goal.slice_bounds-open-end
unfolding store_size
slice_bounds-open-end c =
    let z = size-known _ c.requires.0 c.section.ensures c.store_size-size.ensures in
    let b = passed-size _ c.requires.0 in
    let h : c.store_size-size.result ≤ length c.args.store.now = omega (arith, z, b, c.requires.1) in
    search rules

pub open-requires : goal.open-requires
open-requires c = sym c.requires.0

pub returns : goal.returns
returns c =
    opened-is _ c.requires.0 c.args.store.now c.open.new.store c.open.result c.requires.1 (size-known _ c.requires.0 c.section.ensures c.store_size-size.ensures) (search rules) c.open.ensures
