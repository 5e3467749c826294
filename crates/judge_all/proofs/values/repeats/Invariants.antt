use Rattle.judge_all.specs.Stated.{Valued}
use Rattle.judge_all.proofs.ValueLaws.{borne_by}
use Rattle.language.specs.Description.{Description, Places, constant_value, node_at}
use mathlib.Core.Path.{◌≡◌}
use Rattle.judge_all.proofs.values.repeats.Given as goal

abbrev pub invariant-loop-m : goal.invariant-loop-m
invariant-loop-m l =
    (d : Description) (p : Places) → Valued l.es l.ss d
    → borne_by d p (constant_value (node_at d l.a)).number l.m ≡ borne_by d p (constant_value (node_at d l.a)).number l.n
