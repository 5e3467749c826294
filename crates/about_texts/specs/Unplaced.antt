-- Trees without the places of their words. Assumes nothing.
use Rattle.std.specs.Prelude.{map}
use Rattle.std.proofs.Math.Option.{Option, none, some}
use Rattle.language.specs.Notions as N
use Rattle.language.specs.Tree as T
use Rattle.language.specs.Tree.{Actions, Declaration, Ends, Expression, Extent, Function, Label, Left, Operation, State, StateValue, Text}
use Rattle.about_texts.specs.Derivations.{here}

abbrev pub unplaced_ends : Ends → Ends
unplaced_ends x = N.pair_of x.first here x.last here

unfoldable pub unplaced_expression : Expression → Expression
unplaced_expression (T.constant c p) = T.constant c here
unplaced_expression (T.whole n p) = T.whole n here
unplaced_expression (T.one n p e) = T.one n here (unplaced_expression e)
unplaced_expression (T.part n p x) = T.part n here (unplaced_ends x)
unplaced_expression (T.two n p e f) = T.two n here (unplaced_expression e) (unplaced_expression f)
unplaced_expression (T.word_part n p e x) = T.word_part n here (unplaced_expression e) (unplaced_ends x)
unplaced_expression (T.binary k p e f) = T.binary k here (unplaced_expression e) (unplaced_expression f)
unplaced_expression (T.prefix k p e) = T.prefix k here (unplaced_expression e)
unplaced_expression (T.cut k p e c) = T.cut k here (unplaced_expression e) c
unplaced_expression (T.choice p e f) = T.choice here (unplaced_expression e) (unplaced_expression f)
unplaced_expression (T.first_arm e) = T.first_arm (unplaced_expression e)
unplaced_expression (T.next_arm e f) = T.next_arm (unplaced_expression e) (unplaced_expression f)

abbrev pub unplaced_left : Left → Left
unplaced_left (T.single e) = T.single (unplaced_expression e)
unplaced_left (T.pair e f) = T.pair (unplaced_expression e) (unplaced_expression f)

unfoldable pub unplaced_actions : Actions → Actions
unplaced_actions T.done = T.done
unplaced_actions (T.store k p l e a) = T.store k here (unplaced_left l) (unplaced_expression e) (unplaced_actions a)
unplaced_actions (T.set p e a) = T.set here (unplaced_expression e) (unplaced_actions a)
unplaced_actions (T.perform n p a) = T.perform n here (unplaced_actions a)
unplaced_actions (T.goto n p a) = T.goto n here (unplaced_actions a)
unplaced_actions (T.call n p a) = T.call n here (unplaced_actions a)
unplaced_actions (T.return p a) = T.return here (unplaced_actions a)
unplaced_actions (T.when p e l a) = T.when here (unplaced_expression e) (unplaced_actions l) (unplaced_actions a)
unplaced_actions (T.choose p e l a) = T.choose here (unplaced_expression e) (unplaced_actions l) (unplaced_actions a)
unplaced_actions (T.arm l a) = T.arm (unplaced_actions l) (unplaced_actions a)

abbrev pub unplaced_extent : Extent → Extent
unplaced_extent T.single = T.single
unplaced_extent (T.row x) = T.row (unplaced_ends x)
unplaced_extent (T.table x y) = T.table (unplaced_ends x) (unplaced_ends y)

abbrev pub unplaced_function : Function → Function
unplaced_function T.unspecified = T.unspecified
unplaced_function T.from_input = T.from_input
unplaced_function (T.given p e) = T.given here (unplaced_expression e)

abbrev pub unplaced_declaration : Declaration → Declaration
unplaced_declaration d = N.as_declared d.kind d.name here (unplaced_extent d.extent) (unplaced_function d.function)

abbrev pub unplaced_operation : Operation → Operation
unplaced_operation o = N.operation_of o.name here (unplaced_actions o.body)

abbrev pub unplaced_label : Option Label → Option Label
unplaced_label none = none
unplaced_label (some l) = some (record { name = l.name; at = here })

abbrev pub unplaced_value : Option StateValue → Option StateValue
unplaced_value none = none
unplaced_value (some v) = some (record { constant = v.constant; at = here })

abbrev pub unplaced_state : State → State
unplaced_state s = N.state_of here (unplaced_label s.label) (unplaced_value s.value) (unplaced_actions s.actions)

abbrev pub unplaced_text : Text → Text
unplaced_text t = record {
  registers = map unplaced_declaration t.registers;
  memories = map unplaced_declaration t.memories;
  terminals = map unplaced_declaration t.terminals;
  operations = map unplaced_operation t.operations;
  states = map unplaced_state t.states;
}
