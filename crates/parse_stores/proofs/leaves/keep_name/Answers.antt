use mathlib.Core.Path.{sym, ◌∙◌}
use Rattle.parse_stores.proofs.LeafLaws.{keeps-name, keeps-no-name}
use Rattle.parse_stores.proofs.leaves.keep_name.Goals as goal

pub returns-then-kind_of-eq-NAME : goal.returns-then-kind_of-eq-NAME
returns-then-kind_of-eq-NAME c = keeps-name (sym c.kind_of.ensures ∙ c.if-kind_of-eq-NAME.true) c.take.ensures

pub returns : goal.returns
returns c = keeps-no-name (λ e. c.if-kind_of-eq-NAME.false (c.kind_of.ensures ∙ e)) c.refuse.ensures
