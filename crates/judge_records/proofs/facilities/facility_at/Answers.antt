use Rattle.judge_records.proofs.NotedLaws.{widened-fields}
use Rattle.language.specs.Description as D
use native.Mathlib.Omega.{arith}
use mathlib.Core.Path.{ap}
use mathlib.Core.List.{[]}
use Rattle.judge_records.proofs.facilities.facility_at.Goals as goal

pub returns-then-facilities-n : goal.returns-then-facilities-n
returns-then-facilities-n c =
    record { kind = ap (λ (f : D.Facility). f.kind) (c.facility_at-f.ensures.meaning []); meaning = λ h name. absurd (omega (arith, c.if-facilities-n.true)) }

pub returns : goal.returns
returns c =
    record {
      kind = ap (λ (f : D.Facility). f.kind) (c.facility_at-f.ensures.meaning []);
      meaning = λ h name. widened-fields _ c.args.n c.facility_at-f.result c.widened_at.result c.widened_at-2.result (c.facility_at-f.ensures.meaning name) c.widened_at.ensures c.widened_at-2.ensures;
    }
