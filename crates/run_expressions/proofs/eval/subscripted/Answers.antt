use Rattle.language.specs.Meaning.{eval_below}
use Rattle.store_layout.specs.InBytes.{bytes}
use Rattle.run_expressions.proofs.eval.subscripted.Goals as goal

pub returns : goal.returns
returns c = (
  c.place.ensures.0,
  λ d x h e.
      c.place.ensures.1 d c.args.image.now.expressions.now h (eval_below (bytes d) d x c.args.n) (λ f g. (rw (c.first-first.ensures f g) at (c.distance-at.ensures d x h e), rw (c.second-second.ensures f g) at (c.distance-inside.ensures d x h e))),
)
