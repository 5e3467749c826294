-- What a description says, as a tree whose nodes carry the places of their words. Operators are named by the kinds of their words.
use Rattle.std.specs.Prelude.{List, ℕ}
use Rattle.std.proofs.Math.Option.{Option}
use Rattle.language.specs.Words.{Constant, Position}

-- A name in capitals.
abbrev pub Name : Type 0
Name = List ℕ

-- Two constants joined by a colon, c:d: the ends of a part, or the bounds of a dimension.
pub record Ends : Type 0 where
  pub first : Constant
  pub first_at : Position
  pub last : Constant
  pub last_at : Position

-- Expressions (the manual, 5.1 and 5.2). A name's place comes with it; an operator's place is its word's.
pub data Expression : Type 0 where
  constant : Constant → Position → Expression
  -- references X, X[e], X[c:d], X[e,e] and X[e,c:d]
  whole : Name → Position → Expression
  one : Name → Position → Expression → Expression
  part : Name → Position → Ends → Expression
  two : Name → Position → Expression → Expression → Expression
  word_part : Name → Position → Expression → Ends → Expression
  binary : ℕ → Position → Expression → Expression → Expression
  -- complement, (-) before an operand, and the reductions by their signs
  prefix : ℕ → Position → Expression → Expression
  -- HEAD, TAIL and EXT with their count
  cut : ℕ → Position → Expression → Constant → Expression
  -- IF or CASE: the condition, and the arms in order
  choice : Position → Expression → Expression → Expression
  first_arm : Expression → Expression
  next_arm : Expression → Expression → Expression

-- The left side of a store: one reference, or two joined by CON.
pub data Left : Type 0 where
  single : Expression → Left
  pair : Expression → Expression → Left

-- A list of actions (the manual, 7.1 and 8.2): each constructor is an action and the list after it.
pub data Actions : Type 0 where
  done : Actions
  -- a store by its sign, `<-` or `=`
  store : ℕ → Position → Left → Expression → Actions → Actions
  -- X @
  set : Position → Expression → Actions → Actions
  -- an operation reference; the place is the name's, as for the two below
  perform : Name → Position → Actions → Actions
  goto : Name → Position → Actions → Actions
  call : Name → Position → Actions → Actions
  return : Position → Actions → Actions
  -- IF without ELSE: the condition and its list
  when : Position → Expression → Actions → Actions → Actions
  -- IF with ELSE, or CASE: the condition and the arms
  choose : Position → Expression → Actions → Actions → Actions
  -- an arm's list, and the arms after it
  arm : Actions → Actions → Actions

-- ---- Declarations (the manual, 4 and 6).

pub data Extent : Type 0 where
  single : Extent
  row : Ends → Extent
  table : Ends → Ends → Extent

pub data Kind : Type 0 where
  register sequencing memory plain input computed : Kind

-- What a terminal is declared as: nothing, INPUT, or an expression with the place of its `=`.
pub data Function : Type 0 where
  unspecified : Function
  from_input : Function
  given : Position → Expression → Function

pub record Declaration : Type 0 where
  pub kind : Kind
  pub name : Name
  pub at : Position
  pub extent : Extent
  pub function : Function

pub record Operation : Type 0 where
  pub name : Name
  pub at : Position
  pub body : Actions

pub record Label : Type 0 where
  pub name : Name
  pub at : Position

pub record StateValue : Type 0 where
  pub constant : Constant
  pub at : Position

-- A state's place is its first word: its label, or else its first action's first word, or else its `/`.
pub record State : Type 0 where
  pub at : Position
  pub label : Option Label
  pub value : Option StateValue
  pub actions : Actions

pub record Text : Type 0 where
  pub registers : List Declaration
  pub memories : List Declaration
  pub terminals : List Declaration
  pub operations : List Operation
  pub states : List State
