use Rattle.language.specs.Decode.{names_length}
use Rattle.image_sections.specs.Declarations.{name_length_in}
use lib.ListN.{length}
use Rattle.judge_actions.proofs.SimpleLaws.{label-there}
use lib.Dec.{ltb}
use Prim.Native.Nat.{ℕ}
use mathlib.Core.Path.{ap, sym, ◌∙◌}
use Rattle.language.specs.Encode.{state_size}
use Rattle.judge_actions.proofs.simple.labelled.Goals as goal

pub returns-then-state-eq0 : goal.returns-then-state-eq0
returns-then-state-eq0 c =
    rw (sym c.state_at-state.ensures.name ∙ c.if-state-eq0.true)

pub returns : goal.returns
returns c =
    ap (λ (o : ℕ). ltb o (length c.args.labels.now)) c.names_length.ensures.0 ∙ label-there (name_length_in state_size 0 c.args.states.now c.args.s) (names_length c.args.s 0 state_size c.args.states.now) c.args.labels.now (λ z. c.if-state-eq0.false (c.state_at-state.ensures.name ∙ z))
