use mathlib.Core.List.{List}
use mathlib.Core.Path.{refl, sym, ◌∙◌, subst}
use Prim.Native.Nat.{ℕ, ◌≤◌}
use native.Mathlib.Omega.{arith}
use lib.ListN.{length}
use Rattle.language.specs.Layout.{store_size_of}
use Rattle.run_end.specs.Stepped.{Landed}
use Rattle.store_layout.specs.Slices.{landed}
use Rattle.run_references.specs.Places.{found_meant}
use Rattle.run_next.specs.Seen.{record_meant}
use Rattle.run_end.proofs.FinishLaws.{finished-so, stop-so}
use Rattle.run_end.proofs.finish.finish.Goals as goal

pub returns-in-Some : goal.returns-in-Some
returns-in-Some c =
    λ d x h room l.
    let B = landed c.args.store.now c.args.pending.now c.args.mask.now in
    let k = rw c.land.ensures at (c.borne-found.ensures d h (omega (arith, room, c.store-1.given))) in
    let s = rw (c.in-Some.is, ← h.states) at c.stop_after.ensures in
    rw (finished-so d (record_meant c.args.r) x c.args.g B l (s ∙ stop-so d (record_meant c.args.r) x c.args.g B l (found_meant c.borne-found.result) (λ e. k (l.sees.sequenced ∙ e)))) refl

pub returns-in-None : goal.returns-in-None
returns-in-None c =
    λ d x h room l.
    let B = landed c.args.store.now c.args.pending.now c.args.mask.now in
    let small : store_size_of d.facilities ≤ length c.land.new.store = omega (arith, room, c.store-1.given) in
    let k = c.borne-found.ensures d h small in
    let k' = rw c.land.ensures at k in
    let s = rw (c.in-None.is, ← h.states) at c.stop_after.ensures in
    rw (finished-so d (record_meant c.args.r) x c.args.g B l (s ∙ stop-so d (record_meant c.args.r) x c.args.g B l (found_meant c.borne-found.result) (λ e. k' (l.sees.sequenced ∙ e))))
    (c.enter.ensures d x h small (subst (λ (X : List ℕ). Landed d c.args.g X x) (sym c.land.ensures) l) (λ e. k (l.sees.sequenced ∙ e)))
