use mathlib.Core.Path.{sym, ap, ◌∙◌}
use Rattle.language.specs.Canonical.{node_count}
use Rattle.image_records.proofs.NodeLaws.{node-constant, node-more, node-plain, node-unmarked}
use borrow.Author.Rules.{rules}
use Rattle.image_form.proofs.counts.node_count.Goals as goal

pub returns-then-digits_marked : goal.returns-then-digits_marked
returns-then-digits_marked c =
    (search rules, ap node_count (sym (node-constant c.args.exprs.now c.args.n c.requires c.in-1.is (sym c.digits_marked.ensures ∙ c.if-digits_marked.true))))

pub returns-else-digits_marked : goal.returns-else-digits_marked
returns-else-digits_marked c =
    (search rules, ap node_count (sym (node-unmarked c.args.exprs.now c.args.n c.requires c.in-1.is (sym c.digits_marked.ensures ∙ c.if-digits_marked.false))))

pub returns-in-2 : goal.returns-in-2
returns-in-2 c =
    (search rules, ap node_count (sym (node-more c.args.exprs.now c.args.n c.requires c.in-2.is)))

pub returns-in_default : goal.returns-in_default
returns-in_default c =
    (c.plain_count.ensures.0, c.plain_count.ensures.1 _ _ _ _ ∙ ap node_count (sym (node-plain c.args.exprs.now c.args.n c.requires c.in_default.in_default-own.rest.0.1 c.in_default.in_default-own.rest.1)))
