-- A tree whose words stand near enough for their places to have room, whose operators and stores are those of the grammar, and whose names behind arrows stand in the text.
use Rattle.std.specs.Prelude.{List, [], ◌∷◌, ◌≡◌, ℕ, ◌<◌, length}
use Rattle.std.proofs.Math.Option.{Option, none, some}
use Rattle.language.specs.Tree as T
use Rattle.language.specs.Tree.{Actions, Declaration, Ends, Expression, Extent, Function, Left, Name, Operation, State, StateValue, Text}
use Rattle.language.specs.Words as W
use Rattle.language.specs.Words.{Position, Word, word_at}
use Rattle.image_records.proofs.ActionBack.{Sign}
use Rattle.parse_array.specs.Names.{letters}
use Rattle.parse_held.specs.Standing.{Near}

-- A name is the word of its length at a place of a text.
pub record StandsAt (text : List ℕ) (n : Name) (p : Position) : Type 0 where
  pub letters : n ≡ letters text p.place (length n)
  pub short : length n < 65536

abbrev pub Spelled : List ℕ → Word → Type 0
Spelled text (W.name n p) = StandsAt text n p
Spelled text (W.constant c p) = Unit {0}
Spelled text (W.sign k p) = Unit {0}

abbrev pub WordsNear : List ℕ → List Word → Type 0
WordsNear text [] = Unit {0}
WordsNear text (w ∷ ws) = Near (word_at w) × WordsNear text ws × Spelled text w

-- A mark has six bits for an operator's kind.
abbrev pub Kind : ℕ → Type 0
Kind k = k < 64

abbrev pub EndsNear : Ends → Type 0
EndsNear x = Near x.first_at × Near x.last_at

abbrev pub ExpressionNear : Expression → Type 0
ExpressionNear (T.constant c p) = Near p
ExpressionNear (T.whole n p) = Near p
ExpressionNear (T.one n p e) = Near p × ExpressionNear e
ExpressionNear (T.part n p x) = Near p × EndsNear x
ExpressionNear (T.two n p e f) = Near p × (ExpressionNear e × ExpressionNear f)
ExpressionNear (T.word_part n p e x) = (Near p × EndsNear x) × ExpressionNear e
ExpressionNear (T.binary k p e f) = (Kind k × Near p) × (ExpressionNear e × ExpressionNear f)
ExpressionNear (T.prefix k p e) = (Kind k × Near p) × ExpressionNear e
ExpressionNear (T.cut k p e c) = (Kind k × Near p) × ExpressionNear e
ExpressionNear (T.choice p e f) = Near p × (ExpressionNear e × ExpressionNear f)
ExpressionNear (T.first_arm e) = ExpressionNear e
ExpressionNear (T.next_arm e f) = ExpressionNear e × ExpressionNear f

abbrev pub LeftNear : Left → Type 0
LeftNear (T.single e) = ExpressionNear e
LeftNear (T.pair e f) = ExpressionNear e × ExpressionNear f

abbrev pub ActionsNear : List ℕ → Actions → Type 0
ActionsNear text T.done = Unit {0}
ActionsNear text (T.store k p l e a) = (Sign k × Near p) × (LeftNear l × (ExpressionNear e × ActionsNear text a))
ActionsNear text (T.set p e a) = Near p × (ExpressionNear e × ActionsNear text a)
ActionsNear text (T.perform n p a) = Near p × ActionsNear text a
ActionsNear text (T.goto n p a) = (Near p × StandsAt text n p) × ActionsNear text a
ActionsNear text (T.call n p a) = (Near p × StandsAt text n p) × ActionsNear text a
ActionsNear text (T.return p a) = Near p × ActionsNear text a
ActionsNear text (T.when p e l a) = Near p × (ExpressionNear e × (ActionsNear text l × ActionsNear text a))
ActionsNear text (T.choose p e l a) = Near p × (ExpressionNear e × (ActionsNear text l × ActionsNear text a))
ActionsNear text (T.arm l a) = ActionsNear text l × ActionsNear text a

abbrev pub ExtentNear : Extent → Type 0
ExtentNear T.single = Unit {0}
ExtentNear (T.row x) = EndsNear x
ExtentNear (T.table x y) = EndsNear x × EndsNear y

abbrev pub FunctionNear : Function → Type 0
FunctionNear T.unspecified = Unit {0}
FunctionNear T.from_input = Unit {0}
FunctionNear (T.given p e) = Near p × ExpressionNear e

abbrev pub DeclarationsNear : List Declaration → Type 0
DeclarationsNear [] = Unit {0}
DeclarationsNear (d ∷ ds) = (Near d.at × (ExtentNear d.extent × FunctionNear d.function)) × DeclarationsNear ds

abbrev pub OperationsNear : List ℕ → List Operation → Type 0
OperationsNear text [] = Unit {0}
OperationsNear text (o ∷ os) = (Near o.at × ActionsNear text o.body) × OperationsNear text os

abbrev pub ValueNear : Option StateValue → Type 0
ValueNear none = Unit {0}
ValueNear (some v) = Near v.at

abbrev pub StatesNear : List ℕ → List State → Type 0
StatesNear text [] = Unit {0}
StatesNear text (s ∷ ss) = (Near s.at × (ValueNear s.value × ActionsNear text s.actions)) × StatesNear text ss

pub record TextNear (text : List ℕ) (t : Text) : Type 0 where
  pub registers : DeclarationsNear t.registers
  pub memories : DeclarationsNear t.memories
  pub terminals : DeclarationsNear t.terminals
  pub operations : OperationsNear text t.operations
  pub states : StatesNear text t.states
