use Rattle.judge_verdicts.specs.Meaning.{numbered}
use borrow.Author.Tests.{ne_eqb}
use Rattle.judge_verdicts.proofs.kept.numbered.Goals as goal

pub returns-in-1 : goal.returns-in-1
unfolding numbered
returns-in-1 c = rw c.in-1.is

pub returns-in-2 : goal.returns-in-2
unfolding numbered
returns-in-2 c = rw c.in-2.is

pub returns-in-3 : goal.returns-in-3
unfolding numbered
returns-in-3 c = rw c.in-3.is

pub returns-in-4 : goal.returns-in-4
unfolding numbered
returns-in-4 c = rw c.in-4.is

pub returns-in-5 : goal.returns-in-5
unfolding numbered
returns-in-5 c = rw c.in-5.is

pub returns-in-6 : goal.returns-in-6
unfolding numbered
returns-in-6 c = rw c.in-6.is

pub returns-in-7 : goal.returns-in-7
unfolding numbered
returns-in-7 c = rw c.in-7.is

pub returns-in-8 : goal.returns-in-8
unfolding numbered
returns-in-8 c = rw c.in-8.is

pub returns-in-9 : goal.returns-in-9
unfolding numbered
returns-in-9 c = rw c.in-9.is

pub returns-in-10 : goal.returns-in-10
unfolding numbered
returns-in-10 c = rw c.in-10.is

pub returns-in-12 : goal.returns-in-12
unfolding numbered
returns-in-12 c = rw c.in-12.is

pub returns-in-13 : goal.returns-in-13
unfolding numbered
returns-in-13 c = rw c.in-13.is

pub returns-in-14 : goal.returns-in-14
unfolding numbered
returns-in-14 c = rw c.in-14.is

pub returns-in_default : goal.returns-in_default
unfolding numbered
returns-in_default c =
    rw (
      ne_eqb c.args.n 1 c.in_default.in_default-own.rest.0.0.0.0.0.0.0.0.0.0.0.0.1,
      ne_eqb c.args.n 2 c.in_default.in_default-own.rest.0.0.0.0.0.0.0.0.0.0.0.1,
      ne_eqb c.args.n 3 c.in_default.in_default-own.rest.0.0.0.0.0.0.0.0.0.0.1,
      ne_eqb c.args.n 4 c.in_default.in_default-own.rest.0.0.0.0.0.0.0.0.0.1,
      ne_eqb c.args.n 5 c.in_default.in_default-own.rest.0.0.0.0.0.0.0.0.1,
      ne_eqb c.args.n 6 c.in_default.in_default-own.rest.0.0.0.0.0.0.0.1,
      ne_eqb c.args.n 7 c.in_default.in_default-own.rest.0.0.0.0.0.0.1,
      ne_eqb c.args.n 8 c.in_default.in_default-own.rest.0.0.0.0.0.1,
      ne_eqb c.args.n 9 c.in_default.in_default-own.rest.0.0.0.0.1,
      ne_eqb c.args.n 10 c.in_default.in_default-own.rest.0.0.0.1,
      ne_eqb c.args.n 12 c.in_default.in_default-own.rest.0.0.1,
      ne_eqb c.args.n 13 c.in_default.in_default-own.rest.0.1,
      ne_eqb c.args.n 14 c.in_default.in_default-own.rest.1,
    )
