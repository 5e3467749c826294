use mathlib.Core.Bool.{true≢false}
use mathlib.Core.Path.{sym, ◌∙◌}
use Rattle.run_end.proofs.finish.borne.Goals as goal

pub returns-then-not-sequenced : goal.returns-then-not-sequenced
returns-then-not-sequenced c =
    λ d h room e. absurd (true≢false (sym e ∙ c.if-not-sequenced.true))

pub returns : goal.returns
returns c =
    λ d h room e.
    rw (h.states, ← (c.register_value.ensures d _ h.described h.register room)) (c.bearer.ensures d h.valued)
