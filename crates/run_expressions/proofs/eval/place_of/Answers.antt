use Rattle.language.specs.Meaning.{eval_below}
use Rattle.store_layout.specs.InBytes.{bytes}
use Rattle.run_expressions.proofs.eval.place_of.Goals as goal

pub returns-in-Whole : goal.returns-in-Whole
returns-in-Whole c = (
  c.place.ensures.0,
  λ d x h e.
      c.place.ensures.1 d c.args.image.now.expressions.now h (eval_below (bytes d) d x c.args.n) (λ f g. rw c.in-Whole.is (tt, tt)),
)
