use mathlib.Core.Path.{refl}
use Prim.Native.Nat.{ℕ, ◌*◌, ◌/◌}
use native.Mathlib.Omega.{arith}
use lib.ListN.{drop, length, take}
use Rattle.std.proofs.Common.{rules, tests}
use Rattle.std.proofs.lemmas.Iterator.{YieldsList-from_range}
use Rattle.std.proofs.lemmas.Iterator.Search.{all_from_yields_List}
use Rattle.language.specs.Decode.{action_of}
use Rattle.language.specs.Encode.{action_bytes, action_size}
use Rattle.language.specs.Scan.{same}
use Rattle.image_records.proofs.ByteLaws.{same_true}
use Rattle.image_form.proofs.RowLaws.{all_rows, actions-differ, actions-same}
use Rattle.image_form.proofs.rows.actions_right.Goals as goal

pub returns : goal.returns
returns c =
    let s = c.args.acts.now in
    let n : ℕ = length s / action_size in
    let right = λ (k : ℕ). same (take action_size (drop (action_size * k) s)) (action_bytes (action_of s k)) in
    let all = all_from_yields_List right _ _ c.all.result c.all.ensures.ran (YieldsList-from_range 0 n n refl (omega arith)) (λ x b q k. search (rules, tests)) in
    λ d h. all_rows right n all (λ f. actions-same d s h c.requires (λ i l. same_true _ _ (f i l))) (actions-differ d s h)
