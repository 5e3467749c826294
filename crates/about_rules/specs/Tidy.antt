-- What the words of a text give to its tree: constants that fit, names that are right, declarations of the form that their section asks for. Assumes nothing.
use Rattle.std.specs.Prelude.{true, List, [], ◌∷◌, ◌++◌, ◌≡◌, ℕ}
use Rattle.std.proofs.Math.Option.{Option, none, some}
use Rattle.language.specs.Canonical.{name_right, rank_of}
use Rattle.language.specs.Image.{ConstantRight, WordsRight}
use Rattle.language.specs.Notions.{AtMostOne}
use Rattle.language.specs.Tree as T
use Rattle.language.specs.Tree.{Actions, Declaration, Expression, Extent, Function, Kind, Label, Left, Operation, State, StateValue, Text}
use Rattle.language.specs.Words.{Word}

-- Every constant of an expression fits its length.
abbrev pub ExpressionTidy : Expression → Type 0
ExpressionTidy (T.constant c p) = ConstantRight c
ExpressionTidy (T.whole n p) = Unit {0}
ExpressionTidy (T.one n p e) = ExpressionTidy e
ExpressionTidy (T.part n p x) = Unit {0}
ExpressionTidy (T.two n p e f) = ExpressionTidy e × ExpressionTidy f
ExpressionTidy (T.word_part n p e x) = ExpressionTidy e
ExpressionTidy (T.binary k p e f) = ExpressionTidy e × ExpressionTidy f
ExpressionTidy (T.prefix k p e) = ExpressionTidy e
ExpressionTidy (T.cut k p e c) = ExpressionTidy e
ExpressionTidy (T.choice p e f) = ExpressionTidy e × ExpressionTidy f
ExpressionTidy (T.first_arm e) = ExpressionTidy e
ExpressionTidy (T.next_arm e f) = ExpressionTidy e × ExpressionTidy f

-- A tidy reference.
abbrev pub ReferenceTidy : Expression → Type 0
ReferenceTidy (T.constant c p) = ⊥
ReferenceTidy (T.whole n p) = Unit {0}
ReferenceTidy (T.one n p e) = ExpressionTidy e
ReferenceTidy (T.part n p x) = Unit {0}
ReferenceTidy (T.two n p e f) = ExpressionTidy e × ExpressionTidy f
ReferenceTidy (T.word_part n p e x) = ExpressionTidy e
ReferenceTidy (T.binary k p e f) = ⊥
ReferenceTidy (T.prefix k p e) = ⊥
ReferenceTidy (T.cut k p e c) = ⊥
ReferenceTidy (T.choice p e f) = ⊥
ReferenceTidy (T.first_arm e) = ⊥
ReferenceTidy (T.next_arm e f) = ⊥

abbrev pub LeftTidy : Left → Type 0
LeftTidy (T.single e) = ReferenceTidy e
LeftTidy (T.pair e f) = ReferenceTidy e × ReferenceTidy f

abbrev pub ActionsTidy : Actions → Type 0
ActionsTidy T.done = Unit {0}
ActionsTidy (T.store k p l e a) = LeftTidy l × (ExpressionTidy e × ActionsTidy a)
ActionsTidy (T.set p e a) = ReferenceTidy e × ActionsTidy a
ActionsTidy (T.perform n p a) = ActionsTidy a
ActionsTidy (T.goto n p a) = ActionsTidy a
ActionsTidy (T.call n p a) = ActionsTidy a
ActionsTidy (T.return p a) = ActionsTidy a
ActionsTidy (T.when p e l a) = ExpressionTidy e × (ActionsTidy l × ActionsTidy a)
ActionsTidy (T.choose p e l a) = ExpressionTidy e × (ActionsTidy l × ActionsTidy a)
ActionsTidy (T.arm l a) = ActionsTidy l × ActionsTidy a

abbrev pub FunctionTidy : Function → Type 0
FunctionTidy T.unspecified = Unit {0}
FunctionTidy T.from_input = Unit {0}
FunctionTidy (T.given p e) = ExpressionTidy e

-- What kinds may be declared without a function, and that a function goes with its kind and at most one dimension.
abbrev pub Suits : Kind → Extent → Function → Type 0
Suits T.register x T.unspecified = Unit {0}
Suits T.register x T.from_input = ⊥
Suits T.register x (T.given p e) = ⊥
Suits T.sequencing x T.unspecified = Unit {0}
Suits T.sequencing x T.from_input = ⊥
Suits T.sequencing x (T.given p e) = ⊥
Suits T.memory x T.unspecified = Unit {0}
Suits T.memory x T.from_input = ⊥
Suits T.memory x (T.given p e) = ⊥
Suits T.plain x T.unspecified = Unit {0}
Suits T.plain x T.from_input = ⊥
Suits T.plain x (T.given p e) = ⊥
Suits T.input x T.unspecified = ⊥
Suits T.input x T.from_input = AtMostOne x
Suits T.input x (T.given p e) = ⊥
Suits T.computed x T.unspecified = ⊥
Suits T.computed x T.from_input = ⊥
Suits T.computed x (T.given p e) = AtMostOne x

pub record DeclarationTidy (rank : ℕ) (d : Declaration) : Type 0 where
  pub name-right : name_right d.name ≡ true
  pub ranked : rank_of d.kind ≡ rank
  pub suits : Suits d.kind d.extent d.function
  pub function-tidy : FunctionTidy d.function

abbrev pub DeclarationsTidy : ℕ → List Declaration → Type 0
DeclarationsTidy rank [] = Unit {0}
DeclarationsTidy rank (d ∷ ds) = DeclarationTidy rank d × DeclarationsTidy rank ds

abbrev pub OperationsTidy : List Operation → Type 0
OperationsTidy [] = Unit {0}
OperationsTidy (o ∷ os) = ((name_right o.name ≡ true) × ActionsTidy o.body) × OperationsTidy os

-- A value stands only with a label.
abbrev pub LabelTidy : Option Label → Option StateValue → Type 0
LabelTidy none none = Unit {0}
LabelTidy none (some v) = ⊥
LabelTidy (some l) none = name_right l.name ≡ true
LabelTidy (some l) (some v) = (name_right l.name ≡ true) × ConstantRight v.constant

abbrev pub StatesTidy : List State → Type 0
StatesTidy [] = Unit {0}
StatesTidy (s ∷ ss) = (LabelTidy s.label s.value × ActionsTidy s.actions) × StatesTidy ss

pub record TextTidy (t : Text) : Type 0 where
  pub registers : DeclarationsTidy 0 t.registers
  pub memories : DeclarationsTidy 1 t.memories
  pub terminals : DeclarationsTidy 2 t.terminals
  pub operations : OperationsTidy t.operations
  pub states : StatesTidy t.states
  -- there is a facility and a state
  pub some-facility : t.registers ++ (t.memories ++ t.terminals) ≡ [] → ⊥
  pub some-state : t.states ≡ [] → ⊥

pub reference-tidy : (e : Expression) → ReferenceTidy e → ExpressionTidy e
reference-tidy (T.constant c p) h = absurd h
reference-tidy (T.whole n p) h = tt
reference-tidy (T.one n p e) h = h
reference-tidy (T.part n p x) h = tt
reference-tidy (T.two n p e f) h = h
reference-tidy (T.word_part n p e x) h = h
reference-tidy (T.binary k p e f) h = absurd h
reference-tidy (T.prefix k p e) h = absurd h
reference-tidy (T.cut k p e c) h = absurd h
reference-tidy (T.choice p e f) h = absurd h
reference-tidy (T.first_arm e) h = absurd h
reference-tidy (T.next_arm e f) h = absurd h

-- ---- Words of two lists.

pub words_left : (us vs : List Word) → WordsRight (us ++ vs) → WordsRight us
words_left [] vs h = tt
words_left (u ∷ us) vs h = (h.0, words_left us vs h.1)

pub words_right : (us vs : List Word) → WordsRight (us ++ vs) → WordsRight vs
words_right [] vs h = h
words_right (u ∷ us) vs h = words_right us vs h.1
