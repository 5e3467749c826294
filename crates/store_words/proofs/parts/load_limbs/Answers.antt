use mathlib.Core.Path.{◌∙◌}
use native.Mathlib.Omega.{arith}
use Rattle.value_limbs.specs.Limbs.{number}
use Rattle.store_layout.proofs.ByteOrder.{few-spare}
use Rattle.store_words.proofs.PartLaws.{load-four}
use Rattle.store_words.proofs.parts.load_limbs.Goals as goal

pub returns-then-count-le64 : goal.returns-then-count-le64
returns-then-count-le64 c = c.small.ensures ∙ c.bits.ensures

pub in_runs-r-requires : goal.in_runs-r-requires
in_runs-r-requires c =
    omega (arith, few-spare c.args.length)

pub returns : goal.returns
unfolding number
returns c =
    load-four c.args.s.now c.args.at c.args.length c.args.low c.args.count c.in_runs-r.result c.in_runs-r.ensures c.bits-l0.ensures c.bits-l1.ensures c.bits-l2.ensures c.bits-l3.ensures
