use mathlib.Core.Path.{ap}
use Rattle.image_records.specs.Actions.{meant}
use Rattle.language.specs.Description as D
use Rattle.parse_held.proofs.GotoLaws.{call-resolved, goto-resolved, one-led, one-stays}
use borrow.Enum.Refused.{opened}
use Rattle.parse_held.proofs.gotos.resolve_one.Goals as goal

pub returns-in-Goto : goal.returns-in-Goto
returns-in-Goto c =
    one-led c.args.text.now c.args.k c.args.n c.requires c.action_of.result c.action_of.ensures D.goto (goto-resolved c.args.text.now _) _ (ap meant c.in-Goto.is) c.state_named-state.result c.state_named-state.ensures c.goto.result c.goto.ensures c.rewrite_action.ensures

pub returns-in-Call : goal.returns-in-Call
returns-in-Call c =
    one-led c.args.text.now c.args.k c.args.n c.requires c.action_of.result c.action_of.ensures D.call (call-resolved c.args.text.now _) _ (ap meant c.in-Call.is) c.state_named-state-in-Call.result c.state_named-state-in-Call.ensures c.call.result c.call.ensures c.rewrite_action-in-Call.ensures

pub returns-in_default : goal.returns-in_default
returns-in_default c =
    one-stays c.args.text.now c.args.k c.args.n c.requires c.action_of.result c.action_of.ensures (opened c.in_default.in_default-own.keys3)
