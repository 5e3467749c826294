use Rattle.judge_actions.proofs.StoreLaws.{fine-length, no_length}
use native.Mathlib.Omega.{arith}
use borrow.Author.Rules.{rules}
use Rattle.judge_actions.proofs.stores.length_of.Goals as goal

pub returns-in-Ok : goal.returns-in-Ok
returns-in-Ok c =
    (λ w e. fine-length w c.in-Ok.is e, search rules)

pub returns-in-Err : goal.returns-in-Err
returns-in-Err c =
    (λ w e. no_length w c.in-Err.is e, omega arith)
