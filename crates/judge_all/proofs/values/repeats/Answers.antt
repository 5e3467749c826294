use Rattle.judge_all.proofs.ValueLaws.{borne_by, none_left, one_less}
use Rattle.language.specs.Description.{constant_value, node_at}
use mathlib.Core.Path.{refl}
use Rattle.judge_all.proofs.values.repeats.Goals as goal

pub loop-m-init : goal.loop-m-init
loop-m-init c =
    λ d p s. refl

pub returns-then-bears : goal.returns-then-bears
returns-then-bears c =
    λ d p s. one_less (borne_by d p (constant_value (node_at d c.args.a)).number) c.loop-m.m c.loop-m-test.true (c.bears.ensures d p s) c.if-bears.true (c.loop-m.invariant d p s)

pub loop-m-preserved : goal.loop-m-preserved
loop-m-preserved c =
    λ d p s. one_less (borne_by d p (constant_value (node_at d c.args.a)).number) c.loop-m.m c.loop-m-test.true (c.bears.ensures d p s) c.if-bears.false (c.loop-m.invariant d p s)

pub returns : goal.returns
returns c =
    λ d p s. none_left d p _ c.loop-m.m c.loop-m-test.false (c.loop-m.invariant d p s)
