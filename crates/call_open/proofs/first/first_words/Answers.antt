use Prim.Native.Nat.{◌≤◌}
use native.Mathlib.Omega.{arith}
use lib.ListN.{length}
use Rattle.call_open.proofs.FirstLaws.{bytes-front, few-records, front-opened, front-room, sections-enter, size-known}
use borrow.Author.Rules.{rules}
use Rattle.call_open.proofs.first.first_words.Goals as goal

pub slice_bounds-set_register-end : goal.slice_bounds-set_register-end
slice_bounds-set_register-end c =
    let z = size-known _ c.requires.0 c.of-sections.ensures.facilities c.store_size-size.ensures in
    let h : c.store_size-size.result ≤ length c.args.store.now = omega (arith, z, c.requires.1) in
    search rules

pub set_register-requires : goal.set_register-requires
set_register-requires c =
    few-records _ c.requires.0 c.of-sections.ensures.facilities

pub returns : goal.returns
returns c =
    λ z.
    let s = size-known _ c.requires.0 c.of-sections.ensures.facilities c.store_size-size.ensures in
    let n = sections-enter _ c.requires.0 c.of-sections.ensures.facilities c.of-sections.ensures.expressions c.of-sections.ensures.states in
    front-opened _ c.requires.0 c.args.store.now c.set_register.new.store z c.requires.1 s (bytes-front c.set_register.new.store _ (λ i. (c.slice_known-2-1.given i).fits)) (search rules) c.set_register.result
    (c.set_register.ensures _ n (front-room _ c.requires.0 c.args.store.now c.requires.1 s))
