use mathlib.Core.Path.{sym, ◌∙◌}
use Rattle.parse_stores.proofs.StoreLaws.{rest-sets, rest-stores}
use Rattle.parse_stores.proofs.stores.rest.Goals as goal

pub returns-then-kind-eq-CON : goal.returns-then-kind-eq-CON
returns-then-kind-eq-CON c =
    c.second.ensures (sym c.kind_of-kind.ensures ∙ c.if-kind-eq-CON.true)

pub returns-then-kind-eq-AT : goal.returns-then-kind-eq-AT
returns-then-kind-eq-AT c =
    rest-sets (sym c.kind_of-kind.ensures ∙ c.if-kind-eq-AT.true) c.set.ensures

pub returns : goal.returns
returns c =
    rest-stores (λ e. c.if-kind-eq-CON.false (c.kind_of-kind.ensures ∙ e)) (λ e. c.if-kind-eq-AT.false (c.kind_of-kind.ensures ∙ e)) c.last.ensures c.store.ensures
