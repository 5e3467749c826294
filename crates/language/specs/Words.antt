-- Words (the manual, 2.1 to 2.5; 01, "Words"). A text is a list of bytes; its words stand at places, the first byte being place 0.
use Rattle.std.specs.Prelude.{Bool, List, ℕ}
use Rattle.language.specs.Refusals.{refusal_number}
use Rattle.language.specs.declared.refusals.Refusal.{Refusal}
use Rattle.language.specs.Value.{Value}
use Rattle.language.specs.Kinds.{a_name, a_constant}

-- Where a word stands.
pub record Position : Type 0 where
  pub place : ℕ

abbrev pub position : ℕ → Position
position p = record { place = p }

-- A fault: the place, and the refusal.
pub record Fault : Type 0 where
  pub at : Position
  pub refusal : Refusal

abbrev pub fault : Position → Refusal → Fault
fault p r = record { at = p; refusal = r }

-- Its number in 01.
abbrev pub fault_number : Fault → ℕ
fault_number f = refusal_number f.refusal

-- A constant: its value, and whether it was written without a length.
pub record Constant : Type 0 where
  pub bare : Bool
  pub value : Value

-- A word: a name in capitals, a constant, or a sign, which is a symbol or a reserved word, by its kind.
pub data Word : Type 0 where
  name : List ℕ → Position → Word
  constant : Constant → Position → Word
  sign : ℕ → Position → Word

abbrev pub word_at : Word → Position
word_at (name n p) = p
word_at (constant c p) = p
word_at (sign k p) = p

abbrev pub kind_of : Word → ℕ
kind_of (name n p) = a_name
kind_of (constant c p) = a_constant
kind_of (sign k p) = k
