use mathlib.Core.Path.{ap, refl, ◌∙◌}
use borrow.Author.Tests.{ne_eqb}
use Rattle.language.specs.Characters.{folded}
use Rattle.language.specs.Scan.{bytes, reserved_among, reserved_words}
use Rattle.text_items.specs.Tables.{beginning, unless_zero, kind_with}
use Rattle.text_items.proofs.Lookup.{among-last, kind-none, kind-with}
use Rattle.text_items.proofs.reserved.kind_of.Goals as goal

pub returns-in-67 : goal.returns-in-67
returns-in-67 c = c.with_c.ensures ∙ ap unless_zero (kind-with c.args.name.now _ _ c.byte.ensures c.fold.ensures 67 c.in-67.is)

pub returns-in-68 : goal.returns-in-68
unfolding kind_with beginning reserved_words reserved_among bytes folded
returns-in-68 c = among-last _ _ _ refl c.only.ensures ∙ ap unless_zero (kind-with c.args.name.now _ _ c.byte.ensures c.fold.ensures 68 c.in-68.is)

pub returns-in-69 : goal.returns-in-69
returns-in-69 c = c.with_e.ensures ∙ ap unless_zero (kind-with c.args.name.now _ _ c.byte.ensures c.fold.ensures 69 c.in-69.is)

pub returns-in-72 : goal.returns-in-72
unfolding kind_with beginning reserved_words reserved_among bytes folded
returns-in-72 c = among-last _ _ _ refl c.only-in-72.ensures ∙ ap unless_zero (kind-with c.args.name.now _ _ c.byte.ensures c.fold.ensures 72 c.in-72.is)

pub returns-in-73 : goal.returns-in-73
returns-in-73 c = c.with_i.ensures ∙ ap unless_zero (kind-with c.args.name.now _ _ c.byte.ensures c.fold.ensures 73 c.in-73.is)

pub returns-in-76 : goal.returns-in-76
unfolding kind_with beginning reserved_words reserved_among bytes folded
returns-in-76 c = among-last _ _ _ refl c.only-in-76.ensures ∙ ap unless_zero (kind-with c.args.name.now _ _ c.byte.ensures c.fold.ensures 76 c.in-76.is)

pub returns-in-77 : goal.returns-in-77
unfolding kind_with beginning reserved_words reserved_among bytes folded
returns-in-77 c = among-last _ _ _ refl c.only-in-77.ensures ∙ ap unless_zero (kind-with c.args.name.now _ _ c.byte.ensures c.fold.ensures 77 c.in-77.is)

pub returns-in-79 : goal.returns-in-79
returns-in-79 c = c.with_o.ensures ∙ ap unless_zero (kind-with c.args.name.now _ _ c.byte.ensures c.fold.ensures 79 c.in-79.is)

pub returns-in-82 : goal.returns-in-82
returns-in-82 c = c.with_r.ensures ∙ ap unless_zero (kind-with c.args.name.now _ _ c.byte.ensures c.fold.ensures 82 c.in-82.is)

pub returns-in-84 : goal.returns-in-84
returns-in-84 c = c.with_t.ensures ∙ ap unless_zero (kind-with c.args.name.now _ _ c.byte.ensures c.fold.ensures 84 c.in-84.is)

pub returns-in_default : goal.returns-in_default
unfolding beginning reserved_words bytes
returns-in_default c = ap unless_zero (kind-none c.args.name.now _ _ c.byte.ensures c.fold.ensures (simp (ne_eqb _ _ c.in_default.in_default-own.rest.1, ne_eqb _ _ c.in_default.in_default-own.rest.0.1, ne_eqb _ _ c.in_default.in_default-own.rest.0.0.1, ne_eqb _ _ c.in_default.in_default-own.rest.0.0.0.1, ne_eqb _ _ c.in_default.in_default-own.rest.0.0.0.0.1, ne_eqb _ _ c.in_default.in_default-own.rest.0.0.0.0.0.1, ne_eqb _ _ c.in_default.in_default-own.rest.0.0.0.0.0.0.1, ne_eqb _ _ c.in_default.in_default-own.rest.0.0.0.0.0.0.0.1, ne_eqb _ _ c.in_default.in_default-own.rest.0.0.0.0.0.0.0.0.1, ne_eqb _ _ c.in_default.in_default-own.rest.0.0.0.0.0.0.0.0.0.1)))
