-- What may be stored to (01, refusal 8; the manual, 7.1).
use Rattle.std.specs.Prelude.{Bool, true, false, cond, ℕ, eqb}
use Rattle.language.specs.Kinds.{delayed_sign, equal_sign}
use Rattle.language.specs.Tree.{Kind, computed, input, memory, plain, register, sequencing}

-- A delayed store goes to a register; an immediate one neither to a computed or input terminal nor to the sequencing register (refusal 8).
abbrev pub takes_delayed : Kind → Bool
takes_delayed register = true
takes_delayed sequencing = true
takes_delayed memory = false
takes_delayed plain = false
takes_delayed input = false
takes_delayed computed = false

abbrev pub takes_immediate : Kind → Bool
takes_immediate register = true
takes_immediate sequencing = false
takes_immediate memory = true
takes_immediate plain = true
takes_immediate input = false
takes_immediate computed = false

unfoldable pub may_store : ℕ → Kind → Bool
may_store k f = cond (eqb k delayed_sign) (takes_delayed f) (cond (eqb k equal_sign) (takes_immediate f) false)

-- `@` sets one bit of a plain terminal.
abbrev pub is_plain : Kind → Bool
is_plain register = false
is_plain sequencing = false
is_plain memory = false
is_plain plain = true
is_plain input = false
is_plain computed = false
