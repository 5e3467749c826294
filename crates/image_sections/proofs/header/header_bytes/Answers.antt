use mathlib.Core.List.{List}
use mathlib.Core.Path.{sym, ap₂, ◌≡◌, refl, ap, ◌∙◌}
use Prim.Native.Nat.{ℕ, ◌*◌}
use native.Mathlib.Omega.{arith}
use lib.ListN.{replicate, length, take}
use lib.Seq.{take_all}
use Rattle.language.specs.RecordBytes.{fours}
use Rattle.image_records.proofs.ByteLaws.{placed-length}
use Rattle.image_records.specs.Placed.{placed}
use Rattle.image_sections.proofs.HeaderLaws.{header-length, fours-length, fours-next, placed-all}
use Rattle.language.specs.Encode.{header_size}
use Rattle.image_sections.proofs.header.header_bytes.Goals as goal

pub loop-i-init : goal.loop-i-init
unfolding fours placed
loop-i-init c =
    refl

pub slice_bounds-put-end : goal.slice_bounds-put-end
slice_bounds-put-end c =
    sym (ap length c.loop-i.invariant ∙ placed-length (replicate header_size 0) (fours (take c.loop-i.i c.header_numbers-all.result)) 0)

pub loop-i-preserved : goal.loop-i-preserved
loop-i-preserved c =
    let all = c.header_numbers-all.result in
    let l : length all ≡ 13 = ap length c.header_numbers-all.ensures ∙ header-length c.args.c in
    c.put.ensures ∙ ap₂ (λ (h w : List ℕ). placed h (4 * c.loop-i.i) w) c.loop-i.invariant c.four_bytes.ensures
    ∙ fours-next (replicate header_size 0) all c.loop-i.i (omega (arith, c.loop-i-test.true)) (omega arith)

pub returns : goal.returns
returns c =
    let all = c.header_numbers-all.result in
    let l : length all ≡ 13 = ap length c.header_numbers-all.ensures ∙ header-length c.args.c in
    let e : length (fours all) ≡ header_size = fours-length all ∙ omega arith in
    c.loop-i.invariant ∙ ap (λ (x : List ℕ). placed (replicate header_size 0) 0 (fours x)) (take_all c.loop-i.i all (omega (arith, c.loop-i-test.false)))
    ∙ placed-all (replicate header_size 0) (fours all) e ∙ ap fours c.header_numbers-all.ensures
