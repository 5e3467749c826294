-- What a tree of each kind holds; of another kind, something that no rule of the grammar meets.
use Rattle.std.specs.Prelude.{List, []}
use Rattle.std.proofs.Math.Option.{Option, none}
use Rattle.language.specs.Building.{empty_text, no_ends}
use Rattle.language.specs.Notions as N
use Rattle.language.specs.Notions.{Tree, as_declared}
use Rattle.language.specs.Tree as T
use Rattle.language.specs.Tree.{Actions, Declaration, Ends, Extent, Label, Left, Operation, State, StateValue, Text, register, unspecified}
use Rattle.language.specs.Words.{position}

abbrev pub ends_of : Tree → Ends
ends_of (N.expression e) = no_ends
ends_of (N.left l) = no_ends
ends_of (N.actions a) = no_ends
ends_of (N.ends x) = x
ends_of (N.extent x) = no_ends
ends_of (N.facility d) = no_ends
ends_of (N.facilities ds) = no_ends
ends_of (N.declared rs ms ts) = no_ends
ends_of (N.operations os) = no_ends
ends_of (N.label l v) = no_ends
ends_of (N.states ss) = no_ends
ends_of (N.text t) = no_ends
ends_of N.nothing = no_ends

abbrev pub extent_of : Tree → Extent
extent_of (N.expression e) = T.single
extent_of (N.left l) = T.single
extent_of (N.actions a) = T.single
extent_of (N.ends x) = T.single
extent_of (N.extent x) = x
extent_of (N.facility d) = T.single
extent_of (N.facilities ds) = T.single
extent_of (N.declared rs ms ts) = T.single
extent_of (N.operations os) = T.single
extent_of (N.label l v) = T.single
extent_of (N.states ss) = T.single
extent_of (N.text t) = T.single
extent_of N.nothing = T.single

abbrev pub left_of : Tree → Left
left_of (N.expression e) = T.single (T.whole [] (position 0))
left_of (N.left l) = l
left_of (N.actions a) = T.single (T.whole [] (position 0))
left_of (N.ends x) = T.single (T.whole [] (position 0))
left_of (N.extent x) = T.single (T.whole [] (position 0))
left_of (N.facility d) = T.single (T.whole [] (position 0))
left_of (N.facilities ds) = T.single (T.whole [] (position 0))
left_of (N.declared rs ms ts) = T.single (T.whole [] (position 0))
left_of (N.operations os) = T.single (T.whole [] (position 0))
left_of (N.label l v) = T.single (T.whole [] (position 0))
left_of (N.states ss) = T.single (T.whole [] (position 0))
left_of (N.text t) = T.single (T.whole [] (position 0))
left_of N.nothing = T.single (T.whole [] (position 0))

abbrev pub actions_of : Tree → Actions
actions_of (N.expression e) = T.done
actions_of (N.left l) = T.done
actions_of (N.actions a) = a
actions_of (N.ends x) = T.done
actions_of (N.extent x) = T.done
actions_of (N.facility d) = T.done
actions_of (N.facilities ds) = T.done
actions_of (N.declared rs ms ts) = T.done
actions_of (N.operations os) = T.done
actions_of (N.label l v) = T.done
actions_of (N.states ss) = T.done
actions_of (N.text t) = T.done
actions_of N.nothing = T.done

abbrev pub facility_in : Tree → Declaration
facility_in (N.expression e) = as_declared register [] (position 0) T.single unspecified
facility_in (N.left l) = as_declared register [] (position 0) T.single unspecified
facility_in (N.actions a) = as_declared register [] (position 0) T.single unspecified
facility_in (N.ends x) = as_declared register [] (position 0) T.single unspecified
facility_in (N.extent x) = as_declared register [] (position 0) T.single unspecified
facility_in (N.facility d) = d
facility_in (N.facilities ds) = as_declared register [] (position 0) T.single unspecified
facility_in (N.declared rs ms ts) = as_declared register [] (position 0) T.single unspecified
facility_in (N.operations os) = as_declared register [] (position 0) T.single unspecified
facility_in (N.label l v) = as_declared register [] (position 0) T.single unspecified
facility_in (N.states ss) = as_declared register [] (position 0) T.single unspecified
facility_in (N.text t) = as_declared register [] (position 0) T.single unspecified
facility_in N.nothing = as_declared register [] (position 0) T.single unspecified

abbrev pub facilities_of : Tree → List Declaration
facilities_of (N.expression e) = []
facilities_of (N.left l) = []
facilities_of (N.actions a) = []
facilities_of (N.ends x) = []
facilities_of (N.extent x) = []
facilities_of (N.facility d) = []
facilities_of (N.facilities ds) = ds
facilities_of (N.declared rs ms ts) = []
facilities_of (N.operations os) = []
facilities_of (N.label l v) = []
facilities_of (N.states ss) = []
facilities_of (N.text t) = []
facilities_of N.nothing = []

abbrev pub registers_of : Tree → List Declaration
registers_of (N.expression e) = []
registers_of (N.left l) = []
registers_of (N.actions a) = []
registers_of (N.ends x) = []
registers_of (N.extent x) = []
registers_of (N.facility d) = []
registers_of (N.facilities ds) = []
registers_of (N.declared rs ms ts) = rs
registers_of (N.operations os) = []
registers_of (N.label l v) = []
registers_of (N.states ss) = []
registers_of (N.text t) = []
registers_of N.nothing = []

abbrev pub memories_of : Tree → List Declaration
memories_of (N.expression e) = []
memories_of (N.left l) = []
memories_of (N.actions a) = []
memories_of (N.ends x) = []
memories_of (N.extent x) = []
memories_of (N.facility d) = []
memories_of (N.facilities ds) = []
memories_of (N.declared rs ms ts) = ms
memories_of (N.operations os) = []
memories_of (N.label l v) = []
memories_of (N.states ss) = []
memories_of (N.text t) = []
memories_of N.nothing = []

abbrev pub terminals_of : Tree → List Declaration
terminals_of (N.expression e) = []
terminals_of (N.left l) = []
terminals_of (N.actions a) = []
terminals_of (N.ends x) = []
terminals_of (N.extent x) = []
terminals_of (N.facility d) = []
terminals_of (N.facilities ds) = []
terminals_of (N.declared rs ms ts) = ts
terminals_of (N.operations os) = []
terminals_of (N.label l v) = []
terminals_of (N.states ss) = []
terminals_of (N.text t) = []
terminals_of N.nothing = []

abbrev pub operations_of : Tree → List Operation
operations_of (N.expression e) = []
operations_of (N.left l) = []
operations_of (N.actions a) = []
operations_of (N.ends x) = []
operations_of (N.extent x) = []
operations_of (N.facility d) = []
operations_of (N.facilities ds) = []
operations_of (N.declared rs ms ts) = []
operations_of (N.operations os) = os
operations_of (N.label l v) = []
operations_of (N.states ss) = []
operations_of (N.text t) = []
operations_of N.nothing = []

abbrev pub label_of : Tree → Option Label
label_of (N.expression e) = none
label_of (N.left l) = none
label_of (N.actions a) = none
label_of (N.ends x) = none
label_of (N.extent x) = none
label_of (N.facility d) = none
label_of (N.facilities ds) = none
label_of (N.declared rs ms ts) = none
label_of (N.operations os) = none
label_of (N.label l v) = l
label_of (N.states ss) = none
label_of (N.text t) = none
label_of N.nothing = none

abbrev pub value_of : Tree → Option StateValue
value_of (N.expression e) = none
value_of (N.left l) = none
value_of (N.actions a) = none
value_of (N.ends x) = none
value_of (N.extent x) = none
value_of (N.facility d) = none
value_of (N.facilities ds) = none
value_of (N.declared rs ms ts) = none
value_of (N.operations os) = none
value_of (N.label l v) = v
value_of (N.states ss) = none
value_of (N.text t) = none
value_of N.nothing = none

abbrev pub states_of : Tree → List State
states_of (N.expression e) = []
states_of (N.left l) = []
states_of (N.actions a) = []
states_of (N.ends x) = []
states_of (N.extent x) = []
states_of (N.facility d) = []
states_of (N.facilities ds) = []
states_of (N.declared rs ms ts) = []
states_of (N.operations os) = []
states_of (N.label l v) = []
states_of (N.states ss) = ss
states_of (N.text t) = []
states_of N.nothing = []

abbrev pub text_of : Tree → Text
text_of (N.expression e) = empty_text
text_of (N.left l) = empty_text
text_of (N.actions a) = empty_text
text_of (N.ends x) = empty_text
text_of (N.extent x) = empty_text
text_of (N.facility d) = empty_text
text_of (N.facilities ds) = empty_text
text_of (N.declared rs ms ts) = empty_text
text_of (N.operations os) = empty_text
text_of (N.label l v) = empty_text
text_of (N.states ss) = empty_text
text_of (N.text t) = t
text_of N.nothing = empty_text
