-- What each way of a notion leads to can be completed where the notion can: a test, computed for each.
use Rattle.std.specs.Prelude.{Bool, true, false, cond, not, List, [], ◌∷◌, ◌++◌, ◌≡◌, refl, ℕ}
use Rattle.std.proofs.Common.{sym, subst}
use Rattle.language.specs.Building.{Built}
use Rattle.language.specs.Declaring.{tree_steps}
use Rattle.language.specs.Machine
use Rattle.language.specs.Machine.{Alternative, Ask, again, ask, ease, keep, make, word}
use Rattle.language.specs.SectionWays.{rule_of}
use Rattle.about_grammar.specs.Courses.{Stack}
use Rattle.about_grammar.specs.Following.{among, among-within, within}
use Rattle.about_grammar.specs.Fine.{Fine, bad, first_of, head_of, skips}
use Rattle.language.specs.Tests.{both}

-- The test, whatever stands below; behind the way stands none of the kinds bs.

abbrev pub settled : Stack → Bool
settled [] = false
settled (word k g ∷ K) = true
settled (keep k ∷ K) = true
settled (again ∷ K) = true
settled (make f ∷ K) = settled K
settled (ease ∷ K) = settled K
settled (ask n ∷ K) = cond (skips n) (settled K) true

unfoldable pub passes : Stack → List ℕ → Bool
passes [] bs = true
passes (word k g ∷ K) bs = passes K bs
passes (keep k ∷ K) bs = passes K bs
passes (again ∷ K) bs = passes K bs
passes (make f ∷ K) bs = passes K bs
passes (ease ∷ K) bs = passes K bs
passes (ask n ∷ K) bs = both (cond (settled K) (not (among (head_of K) (bad n))) (within (bad n) bs)) (passes K bs)

unfoldable pub all_pass : List (Alternative Built) → List ℕ → Bool
all_pass [] bs = true
all_pass (a ∷ xs) bs = both (passes a.to (cond a.instead [] bs)) (all_pass xs bs)

head-of : (P K : Stack) → head_of (P ++ K) ≡ cond (settled P) (head_of P) (head_of K)
head-of [] K = refl
head-of (word k g ∷ P) K = refl
head-of (keep k ∷ P) K = refl
head-of (again ∷ P) K = refl
head-of (make f ∷ P) K = head-of P K
head-of (ease ∷ P) K = head-of P K
head-of (ask n ∷ P) K = go (skips n) (head-of P K)
  where
    go : (z : Bool) → head_of (P ++ K) ≡ cond (settled P) (head_of P) (head_of K) → cond z (head_of (P ++ K)) (first_of n) ≡ cond (cond z (settled P) true) (cond z (head_of P) (first_of n)) (head_of K)
    go true e = e
    go false e = refl

pub both_first : (a b : Bool) → both a b ≡ true → a ≡ true
both_first true b e = refl
both_first false b e = e

pub both-second : (a b : Bool) → both a b ≡ true → b ≡ true
both-second true b e = e
both-second false b e = absurd (subst (λ (z : Bool). cond z ⊥ (Unit {0})) e tt)

pub not-true : (a : Bool) → not a ≡ true → a ≡ false
not-true true e = sym e
not-true false e = refl

pub passed : (P K : Stack) (bs : List ℕ) → passes P bs ≡ true → among (head_of K) bs ≡ false → Fine K → Fine (P ++ K)
unfolding passes
passed [] K bs e f x = x
passed (word k g ∷ P) K bs e f x = passed P K bs e f x
passed (keep k ∷ P) K bs e f x = passed P K bs e f x
passed (again ∷ P) K bs e f x = passed P K bs e f x
passed (make s ∷ P) K bs e f x = passed P K bs e f x
passed (ease ∷ P) K bs e f x = passed P K bs e f x
passed (ask n ∷ P) K bs e f x = (subst (λ (k : ℕ). among k (bad n) ≡ false) (sym (head-of P K)) (go (settled P) (both_first (cond (settled P) (not (among (head_of P) (bad n))) (within (bad n) bs)) (passes P bs) e)), passed P K bs (both-second (cond (settled P) (not (among (head_of P) (bad n))) (within (bad n) bs)) (passes P bs) e) f x)
  where
    go : (z : Bool) → cond z (not (among (head_of P) (bad n))) (within (bad n) bs) ≡ true → among (cond z (head_of P) (head_of K)) (bad n) ≡ false
    go true i = not-true (among (head_of P) (bad n)) i
    go false i = among-within (head_of K) (bad n) bs i f

-- Each way of each notion passes.
pub all_pass_lem : (n : Ask) → all_pass (rule_of tree_steps n).ways (bad n) ≡ true
unfolding all_pass passes rule_of among within
all_pass_lem Machine.expression = refl
all_pass_lem Machine.minterm = refl
all_pass_lem Machine.product = refl
all_pass_lem Machine.complement = refl
all_pass_lem Machine.reduction = refl
all_pass_lem Machine.adjustment = refl
all_pass_lem Machine.arithmetic = refl
all_pass_lem Machine.term = refl
all_pass_lem Machine.or_tail = refl
all_pass_lem Machine.exclusive_tail = refl
all_pass_lem Machine.and_tail = refl
all_pass_lem Machine.con_tail = refl
all_pass_lem Machine.cut_tail = refl
all_pass_lem Machine.relation_tail = refl
all_pass_lem Machine.arithmetic_tail = refl
all_pass_lem Machine.more_arms = refl
all_pass_lem Machine.subscripts = refl
all_pass_lem Machine.subscript = refl
all_pass_lem Machine.after_constant = refl
all_pass_lem Machine.operand_rest = refl
all_pass_lem Machine.after_subscript = refl
all_pass_lem Machine.second_option = refl
all_pass_lem Machine.second = refl
all_pass_lem Machine.after_second_constant = refl
all_pass_lem Machine.second_rest = refl
all_pass_lem Machine.second_end = refl
all_pass_lem Machine.operation_action = refl
all_pass_lem Machine.state_action = refl
all_pass_lem Machine.operation_more = refl
all_pass_lem Machine.state_rest = refl
all_pass_lem Machine.state_more = refl
all_pass_lem Machine.operation_name = refl
all_pass_lem Machine.state_name = refl
all_pass_lem Machine.left_rest = refl
all_pass_lem Machine.store_sign = refl
all_pass_lem Machine.set_sign = refl
all_pass_lem Machine.operation_if_rest = refl
all_pass_lem Machine.state_if_rest = refl
all_pass_lem Machine.operation_arms = refl
all_pass_lem Machine.state_arms = refl
all_pass_lem Machine.dimensions = refl
all_pass_lem Machine.range_rest = refl
all_pass_lem Machine.dimension_rest = refl
all_pass_lem Machine.register_spec = refl
all_pass_lem Machine.sequencing_spec = refl
all_pass_lem Machine.memory_spec = refl
all_pass_lem Machine.terminal_spec = refl
all_pass_lem Machine.register_more = refl
all_pass_lem Machine.memory_more = refl
all_pass_lem Machine.terminal_more = refl
all_pass_lem Machine.terminal_dimensions = refl
all_pass_lem Machine.terminal_rest = refl
all_pass_lem Machine.terminal_function = refl
all_pass_lem Machine.function_of = refl
all_pass_lem Machine.operation_spec = refl
all_pass_lem Machine.operations_more = refl
all_pass_lem Machine.state_start = refl
all_pass_lem Machine.first_name = refl
all_pass_lem Machine.state_body = refl
all_pass_lem Machine.states_more = refl
all_pass_lem Machine.sections = refl
all_pass_lem Machine.after_registers = refl
all_pass_lem Machine.after_memories = refl
all_pass_lem Machine.after_terminals = refl
all_pass_lem Machine.control = refl
all_pass_lem Machine.dollar_option = refl
