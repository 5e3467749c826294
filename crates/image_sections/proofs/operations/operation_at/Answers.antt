use mathlib.Core.Path.{sym, ap}
use native.Mathlib.Omega.{arith}
use Rattle.language.specs.Description as D
use Rattle.image_sections.proofs.DeclarationLaws.{name-past, name-first, operation-past, operation-whole}
use Rattle.image_sections.proofs.operations.operation_at.Goals as goal

pub returns-then-operations-n : goal.returns-then-operations-n
returns-then-operations-n c =
    record {
      name = sym (name-past 5 0 c.args.operations.now c.args.n (omega (arith, c.if-operations-n.true)));
      meaning = λ name. sym (operation-past c.args.operations.now c.args.n name c.if-operations-n.true);
    }

pub returns : goal.returns
returns c =
    record {
      name = sym (name-first 5 c.args.operations.now c.args.n (omega (arith, c.if-operations-n.false)));
      meaning = λ name. rw (operation-whole c.args.operations.now c.args.n name c.if-operations-n.false) (ap (λ (r : D.Run). record { name = name; body = r }) c.run_at.ensures);
    }
