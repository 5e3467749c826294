use mathlib.Core.Option.{Option}
use mathlib.Core.Path.{sym, ap, ap₂, ◌∙◌}
use Prim.Native.Nat.{ℕ}
use native.Mathlib.Omega.{arith}
use Rattle.language.specs.Decode.{value_of}
use Rattle.language.specs.Description as D
use Rattle.image_sections.proofs.DeclarationLaws.{name-past, name-first, state-past, state-whole}
use Rattle.image_sections.proofs.states.state_at.Goals as goal

pub returns-then-states-n : goal.returns-then-states-n
returns-then-states-n c =
    record {
      name = sym (name-past 7 0 c.args.states.now c.args.n (omega (arith, c.if-states-n.true)));
      meaning = λ name. sym (state-past c.args.states.now c.args.n name c.if-states-n.true);
    }

pub returns : goal.returns
returns c =
    record {
      name = sym (name-first 7 c.args.states.now c.args.n (omega (arith, c.if-states-n.false)));
      meaning = λ name. rw (state-whole c.args.states.now c.args.n name c.if-states-n.false)
          (ap₂ (λ (v : Option ℕ) (r : D.Run). record { name = name; value = v; actions = r }) (c.value_of.ensures ∙ ap value_of c.two_there.ensures) c.run_at.ensures);
    }
