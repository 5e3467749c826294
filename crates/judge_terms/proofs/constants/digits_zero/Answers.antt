use mathlib.Core.Path.{refl, ◌∙◌}
use Prim.Native.Nat.{ℕ, ◌+◌, ◌-◌, ◌*◌}
use lib.Dec.{eqb}
use Rattle.std.proofs.Common.{rules, tests}
use Rattle.std.proofs.lemmas.Iterator.{YieldsList-from_range}
use Rattle.std.proofs.lemmas.Iterator.Search.{all_from_yields_List}
use Rattle.language.specs.Decode.{number_at}
use Rattle.language.specs.Encode.{node_size}
use Rattle.judge_terms.proofs.ConstantLaws.{zero-each}
use Rattle.judge_terms.proofs.constants.digits_zero.Goals as goal

pub returns : goal.returns
returns c =
    let s = c.args.exprs.now in
    let n = c.args.n in
    let from : ℕ = n - c.args.k in
    let zero = λ (m : ℕ). eqb (number_at 6 (node_size * m + 2) s) 0 in
    all_from_yields_List zero _ _ c.all.result c.all.ensures.ran (YieldsList-from_range from n (n - from) (search rules) refl) (λ x b q k. search (rules, tests))
    ∙ zero-each s c.args.k n
