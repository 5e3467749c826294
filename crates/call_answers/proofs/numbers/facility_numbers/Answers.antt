use Rattle.call_answers.proofs.numbers.facility_numbers.Goals as goal

pub returns-in-Ok : goal.returns-in-Ok
returns-in-Ok c = λ name. rw c.in-Ok.is (c.declared.ensures name)

pub returns-in-Err : goal.returns-in-Err
returns-in-Err c = λ name. rw c.in-Err.is (c.unknown.ensures name)
