-- Only on top of a stack stands a notion that the word kept last may count for, and then that word was just kept: a test, computed for each way.
use Rattle.std.specs.Prelude.{Bool, true, false, cond, not, List, [], ◌∷◌, ◌++◌, ◌≡◌, refl, drop}
use Rattle.std.proofs.Common.{subst}
use Rattle.language.specs.Building.{Built}
use Rattle.language.specs.Declaring.{tree_steps}
use Rattle.language.specs.Machine
use Rattle.language.specs.Machine.{Alternative, Ask, Sym, Without, again, ask, ease, keep, make, may, must, operand, word}
use Rattle.language.specs.SectionWays.{rule_of}
use Rattle.about_grammar.specs.Courses.{Stack}
use Rattle.about_grammar.specs.FineWays.{both_first, both-second}
use Rattle.language.specs.Tests.{both}

abbrev pub counts : Without Built → Bool
counts must = false
counts (may f) = false
counts (operand f) = true

unfoldable pub waits : Ask → Bool
unfolding rule_of
waits n = counts (rule_of tree_steps n).without

unfoldable pub calm : Stack → Bool
calm [] = true
calm (word k g ∷ K) = calm K
calm (keep k ∷ K) = calm K
calm (again ∷ K) = calm K
calm (make f ∷ K) = calm K
calm (ease ∷ K) = calm K
calm (ask n ∷ K) = both (not (waits n)) (calm K)

abbrev pub on_top : Sym Built → Bool
on_top (word k g) = false
on_top (keep k) = false
on_top again = false
on_top (make f) = false
on_top ease = false
on_top (ask n) = waits n

abbrev pub top_waits : Stack → Bool
top_waits [] = false
top_waits (s ∷ K) = on_top s

unfoldable pub all_right : List (Alternative Built) → Bool
all_right [] = true
all_right (a ∷ xs) = both (both (calm (drop 1 a.to)) (cond (top_waits a.to) a.kept true)) (all_right xs)

pub all_right_lem : (n : Ask) → all_right (rule_of tree_steps n).ways ≡ true
unfolding all_right calm waits rule_of
all_right_lem Machine.expression = refl
all_right_lem Machine.minterm = refl
all_right_lem Machine.product = refl
all_right_lem Machine.complement = refl
all_right_lem Machine.reduction = refl
all_right_lem Machine.adjustment = refl
all_right_lem Machine.arithmetic = refl
all_right_lem Machine.term = refl
all_right_lem Machine.or_tail = refl
all_right_lem Machine.exclusive_tail = refl
all_right_lem Machine.and_tail = refl
all_right_lem Machine.con_tail = refl
all_right_lem Machine.cut_tail = refl
all_right_lem Machine.relation_tail = refl
all_right_lem Machine.arithmetic_tail = refl
all_right_lem Machine.more_arms = refl
all_right_lem Machine.subscripts = refl
all_right_lem Machine.subscript = refl
all_right_lem Machine.after_constant = refl
all_right_lem Machine.operand_rest = refl
all_right_lem Machine.after_subscript = refl
all_right_lem Machine.second_option = refl
all_right_lem Machine.second = refl
all_right_lem Machine.after_second_constant = refl
all_right_lem Machine.second_rest = refl
all_right_lem Machine.second_end = refl
all_right_lem Machine.operation_action = refl
all_right_lem Machine.state_action = refl
all_right_lem Machine.operation_more = refl
all_right_lem Machine.state_rest = refl
all_right_lem Machine.state_more = refl
all_right_lem Machine.operation_name = refl
all_right_lem Machine.state_name = refl
all_right_lem Machine.left_rest = refl
all_right_lem Machine.store_sign = refl
all_right_lem Machine.set_sign = refl
all_right_lem Machine.operation_if_rest = refl
all_right_lem Machine.state_if_rest = refl
all_right_lem Machine.operation_arms = refl
all_right_lem Machine.state_arms = refl
all_right_lem Machine.dimensions = refl
all_right_lem Machine.range_rest = refl
all_right_lem Machine.dimension_rest = refl
all_right_lem Machine.register_spec = refl
all_right_lem Machine.sequencing_spec = refl
all_right_lem Machine.memory_spec = refl
all_right_lem Machine.terminal_spec = refl
all_right_lem Machine.register_more = refl
all_right_lem Machine.memory_more = refl
all_right_lem Machine.terminal_more = refl
all_right_lem Machine.terminal_dimensions = refl
all_right_lem Machine.terminal_rest = refl
all_right_lem Machine.terminal_function = refl
all_right_lem Machine.function_of = refl
all_right_lem Machine.operation_spec = refl
all_right_lem Machine.operations_more = refl
all_right_lem Machine.state_start = refl
all_right_lem Machine.first_name = refl
all_right_lem Machine.state_body = refl
all_right_lem Machine.states_more = refl
all_right_lem Machine.sections = refl
all_right_lem Machine.after_registers = refl
all_right_lem Machine.after_memories = refl
all_right_lem Machine.after_terminals = refl
all_right_lem Machine.control = refl
all_right_lem Machine.dollar_option = refl

pub not_so : {A : Type 0} → false ≡ true → A
not_so e = absurd (subst (λ (z : Bool). cond z ⊥ (Unit {0})) e tt)

not-waiting : (a : Bool) → not a ≡ true → a ≡ true → ⊥
not-waiting true e f = not_so e
not-waiting false e f = not_so f

pub calm-append : (P K : Stack) → calm P ≡ true → calm K ≡ true → calm (P ++ K) ≡ true
unfolding calm
calm-append [] K e f = f
calm-append (word k g ∷ P) K e f = calm-append P K e f
calm-append (keep k ∷ P) K e f = calm-append P K e f
calm-append (again ∷ P) K e f = calm-append P K e f
calm-append (make s ∷ P) K e f = calm-append P K e f
calm-append (ease ∷ P) K e f = calm-append P K e f
calm-append (ask n ∷ P) K e f = rw (both_first (not (waits n)) (calm P) e) (calm-append P K (both-second (not (waits n)) (calm P) e) f)

pub calm-below : (K : Stack) → calm K ≡ true → calm (drop 1 K) ≡ true
unfolding calm
calm-below [] e = e
calm-below (word k g ∷ K) e = e
calm-below (keep k ∷ K) e = e
calm-below (again ∷ K) e = e
calm-below (make s ∷ K) e = e
calm-below (ease ∷ K) e = e
calm-below (ask n ∷ K) e = both-second (not (waits n)) (calm K) e

pub calm-top : (K : Stack) → calm K ≡ true → top_waits K ≡ true → ⊥
unfolding calm
calm-top [] e f = not_so f
calm-top (word k g ∷ K) e f = not_so f
calm-top (keep k ∷ K) e f = not_so f
calm-top (again ∷ K) e f = not_so f
calm-top (make s ∷ K) e f = not_so f
calm-top (ease ∷ K) e f = not_so f
calm-top (ask n ∷ K) e f = not-waiting (waits n) (both_first (not (waits n)) (calm K) e) f
