use Rattle.judge_all.proofs.FacilityLaws.{shown-kept}
use Rattle.judge_all.proofs.FaultLaws.{all-faults}
use Rattle.judge_all.proofs.NotedLaws.{acting-noted, declared-noted, stated-noted}
use Rattle.language.specs.WordStage.{least}
use Rattle.judge_records.specs.Noted.{noted_description, places_in}
use native.Mathlib.Nat.{sub-zero}
use native.Mathlib.Omega.{arith}
use mathlib.Core.List.{List}
use mathlib.Core.Path.{ap, sym, ◌∙◌}
use Prim.Native.Nat.{ℕ, ◌/◌}
use lib.ListN.{length}
use Rattle.language.specs.Encode.{operation_size}
use borrow.Author.Rules.{rules}
use Rattle.judge_all.proofs.least_in.Goals as goal

pub operations-three-requires : goal.operations-three-requires
operations-three-requires c = (search rules, c.requires.1)

pub states-four-requires : goal.states-four-requires
states-four-requires c = c.requires.1

pub shape_of-memo : goal.shape_of-memo
shape_of-memo c = c.fill-end.ensures.size ∙ c.facilities-two.ensures.0

pub returns : goal.returns
returns c =
    λ x q e1 e2 e3 e4 e5 e6 e7 e8 e9 e10 e11.
    let d = noted_description x q in
    let p = places_in q in
    let n = c.names-one.ensures x q e1 e2 e5 e6 e7 e8 e11 in
    let f = c.facilities-two.ensures.1 d p (rw (e1, e3, e7, e9) (declared-noted x q)) in
    let m = rw (e1, e3, e7, e9) at (c.fill-end.ensures.shown d p _ (shown-kept _ (rw (e1, e3, e7, e9) (declared-noted x q)) f.1 (omega arith))) in
    let o = c.operations-three.ensures.1 d p (rw (c.labels_of-labels.ensures, sub-zero, e1, e2, e3, e4, e5, e6, e7, e9, e10) (acting-noted x q _ m)) in
    let t = c.states-four.ensures d p (rw (c.labels_of-labels.ensures, sub-zero, e1, e2, e3, e4, e5, e6, e7, e9, e10, e11) (stated-noted x q _ m)) o.1 in
    let r = c.also-3.ensures _ _ n (c.also-2.ensures _ _ f.0 (c.also.ensures _ _ o.0 t)) in
    r ∙ ap least (all-faults d p _ ((stated-noted x q _ m).operations ∙ ap (λ (s : List ℕ). length s / operation_size) (sym e2)))
