use mathlib.Core.Bool.{true, true≢false}
use mathlib.Core.Path.{◌≡◌, refl, sym, ap, ◌∙◌, subst}
use native.Mathlib.Omega.{arith}
use Prim.Native.Nat.{suc, ◌-◌, ◌≤◌}
use Rattle.language.specs.Machine.{Counts}
use Rattle.parse_step.specs.declared.State.{State}
use Rattle.parse_step.proofs.Paying.{begins, comes-as, counted-comes, eases, expected-comes, expected-spends, full-spends, gained-spends, goes_on, nests, not-took, refusal-unspent, spent, stays-spends, took-comes, unexpected}
use Rattle.parse_levels.specs.declared.Level.{Level}
use Rattle.parse_levels.specs.Orders.{rank_no, top_no}
use Rattle.parse_levels.proofs.TailWords.{top-most}
use Rattle.parse_operands.proofs.OperandCosts.{adds-spends}
use Rattle.parse_expressions.proofs.ArmLaws.{armings-begin, armings-end, armings-full, armings-more, armings-not, arms_none, arms-one, arms-says, branches-not, choice-not, choice-says, closers, condition-not, first_inner, first-not, first_says, last-not, next-inner, next-not, next-says, others, separators}
use Rattle.parse_expressions.proofs.BracketLaws.{close-not, close-says, comma-not, comma-says, end-not, ends_so, inside-expression, leads-constant, leads-plain, level-not, level-says, one-says, second-not, second-says, single-not, single-says, subscript-not}
use Rattle.parse_expressions.proofs.Falling.{not-cut, not_plain, operand-tighter}
use Rattle.parse_expressions.proofs.StartLaws.{opening-not, opening-says, operand-not, plain-opening, red-not}
use Rattle.parse_expressions.proofs.TailLaws.{cut-operation, operation-not, operation-says, right-not, walks-begin, walks-end, walks-full, walks_more, walks_next, walks-not}
use Rattle.parse_expressions.proofs.TermLaws.{group-not, group-says, inner-not, named-not, named-says, reference-not, reference-says, term-not, whole_says}
use borrow.Enum.Refused.{opened}
use borrow.Author.Rules.{rules}
use Rattle.parse_step.proofs.Answers.{err-came}
use Rattle.parse_expressions.proofs.+arms_choice_first_arm_group_inside_leading_more_arms_named_next_arm_opening_operation_reference_rest_second_single_start_subscript_term_whole.Goals as goal

pub arms-returns-in_err-first : goal.arms-returns-in_err-first
arms-returns-in_err-first t c =
    rw (err-came c.from_residual.ensures.1) (arms_none c.args.case c.first_word.ensures c.in_err-first.ensures.0, c.in_err-first.ensures.1 (rw c.first_word.ensures (separators c.args.case)))

pub arms-returns-in_err-other : goal.arms-returns-in_err-other
arms-returns-in_err-other t c =
    rw (err-came c.from_residual-in_err-other.ensures.1) (arms-one c.args.case c.first_word.ensures c.in_ok-first.ensures.0 c.at-state.ensures c.other_word.ensures c.in_err-other.ensures.0, spent (goes_on ((c.in_ok-first.ensures.1 (rw c.first_word.ensures (separators c.args.case))).done refl) (nests c.at-state.ensures)) (c.in_err-other.ensures.1 (rw c.other_word.ensures (others c.args.case))) (omega arith))

pub arms-more_arms-requires : goal.arms-more_arms-requires
arms-more_arms-requires t c =
    let h : c.at-state-2.result.nesting ≡ c.args.s.nesting = ap (λ (q : State). q.nesting) c.at-state-2.ensures in search rules

pub arms-returns : goal.arms-returns
arms-returns t c =
    (arms-says c.args.case c.first_word.ensures c.in_ok-first.ensures.0 refl c.at-state.ensures c.other_word.ensures c.in_ok-other.ensures.0 refl c.at-state-2.ensures c.more_arms.ensures.0, spent (goes_on ((c.in_ok-first.ensures.1 (rw c.first_word.ensures (separators c.args.case))).done refl) (goes_on (nests c.at-state.ensures) (goes_on ((c.in_ok-other.ensures.1 (rw c.other_word.ensures (others c.args.case))).done refl) (nests c.at-state-2.ensures)))) c.more_arms.ensures.1 (omega arith))

pub choice-returns-in_err-got : goal.choice-returns-in_err-got
choice-returns-in_err-got t c =
    rw (err-came c.from_residual.ensures.1) (λ e. choice-not c.args.case e c.in_err-got.ensures refl, not-took c.in_err-got.ensures refl)

pub choice-start-requires : goal.choice-start-requires
choice-start-requires t c =
    let p = c.in_ok-got.ensures.done refl in let g : c.in_ok-got.got.state.nesting ≡ suc c.args.s.nesting = ap (λ (k : Counts). k.nesting) p.counts in let d : c.in_ok-got.got.state.nesting ≤ 24 = p.deep in search rules

pub choice-returns-in_err-got-2 : goal.choice-returns-in_err-got-2
choice-returns-in_err-got-2 t c =
    rw (err-came c.from_residual-in_err-got-2.ensures.1) (λ e. condition-not c.args.case e c.in_ok-got.ensures refl c.in_err-got-2.ensures.0 refl, spent (counted-comes c.in_ok-got.ensures refl) c.in_err-got-2.ensures.1 (omega arith))

pub choice-arms-requires : goal.choice-arms-requires
choice-arms-requires t c =
    let p = c.in_ok-got.ensures.done refl in let g : c.in_ok-got.got.state.nesting ≡ suc c.args.s.nesting = ap (λ (k : Counts). k.nesting) p.counts in let d : c.in_ok-got.got.state.nesting ≤ 24 = p.deep in let h : c.at-before.result.nesting ≡ c.in_ok-got.got.state.nesting = ap (λ (q : State). q.nesting) c.at-before.ensures in search rules

pub choice-returns-in_err-chosen : goal.choice-returns-in_err-chosen
choice-returns-in_err-chosen t c =
    rw (err-came c.from_residual-in_err-chosen.ensures.1) (λ e. branches-not c.args.case e c.in_ok-got.ensures c.in_ok-got-2.ensures.0 c.at-before.ensures c.in_err-chosen.ensures.0, spent (goes_on (counted-comes c.in_ok-got.ensures refl) (goes_on (c.in_ok-got-2.ensures.1.done refl) (nests c.at-before.ensures))) c.in_err-chosen.ensures.1 (omega arith))

pub choice-returns-in_err-got-3 : goal.choice-returns-in_err-got-3
choice-returns-in_err-got-3 t c =
    rw (err-came c.from_residual-in_err-got-3.ensures.1) (λ e. last-not c.args.case e c.in_ok-got.ensures refl c.in_ok-got-2.ensures.0 refl c.at-before.ensures c.in_ok-chosen.ensures.0 refl c.last_word.ensures c.in_err-got-3.ensures refl, unexpected c.in_err-got-3.ensures refl)

pub choice-returns : goal.choice-returns
choice-returns t c =
    (λ e. choice-says c.args.case e c.in_ok-got.ensures refl c.in_ok-got-2.ensures.0 refl c.at-before.ensures c.in_ok-chosen.ensures.0 refl c.last_word.ensures c.in_ok-got-3.ensures refl c.last-number.ensures c.add_choice.ensures, spent (goes_on (counted-comes c.in_ok-got.ensures refl) (goes_on (c.in_ok-got-2.ensures.1.done refl) (goes_on (nests c.at-before.ensures) (goes_on (c.in_ok-chosen.ensures.1.done refl) (expected-comes c.in_ok-got-3.ensures (rw c.last_word.ensures (closers c.args.case)) refl))))) (gained-spends c.add_choice.ensures) (omega arith))

pub first_arm-returns-in_err-got : goal.first_arm-returns-in_err-got
first_arm-returns-in_err-got t c =
    rw (err-came c.from_residual.ensures.1) (first-not c.in_err-got.ensures refl, λ l. unexpected c.in_err-got.ensures refl)

pub first_arm-returns-in_err-got-2 : goal.first_arm-returns-in_err-got-2
first_arm-returns-in_err-got-2 t c =
    rw (err-came c.from_residual-in_err-got-2.ensures.1) (first_inner c.in_ok-got.ensures refl c.at-state.ensures c.in_err-got-2.ensures.0 refl, λ l. spent (goes_on (expected-comes c.in_ok-got.ensures l refl) (nests c.at-state.ensures)) c.in_err-got-2.ensures.1 (omega arith))

pub first_arm-returns : goal.first_arm-returns
first_arm-returns t c =
    (first_says c.in_ok-got.ensures refl c.at-state.ensures c.in_ok-got-2.ensures.0 refl c.add_first_arm.ensures, λ l. spent (goes_on (expected-comes c.in_ok-got.ensures l refl) (goes_on (nests c.at-state.ensures) (c.in_ok-got-2.ensures.1.done refl))) (gained-spends c.add_first_arm.ensures) (omega arith))

pub group-returns-in_err-got : goal.group-returns-in_err-got
group-returns-in_err-got t c =
    rw (err-came c.from_residual.ensures.1) (λ e. group-not e c.in_err-got.ensures refl, not-took c.in_err-got.ensures refl)

pub group-start-requires : goal.group-start-requires
group-start-requires t c =
    let p = c.in_ok-got.ensures.done refl in let g : c.in_ok-got.got.state.nesting ≡ suc c.args.s.nesting = ap (λ (k : Counts). k.nesting) p.counts in let d : c.in_ok-got.got.state.nesting ≤ 24 = p.deep in search rules

pub group-returns-in_err-got-2 : goal.group-returns-in_err-got-2
group-returns-in_err-got-2 t c =
    rw (err-came c.from_residual-in_err-got-2.ensures.1) (λ e. inner-not e c.in_ok-got.ensures refl c.in_err-got-2.ensures.0 refl, spent (took-comes c.in_ok-got.ensures refl) c.in_err-got-2.ensures.1 (omega arith))

pub group-returns : goal.group-returns
group-returns t c =
    (λ e. group-says e c.in_ok-got.ensures refl c.in_ok-got-2.ensures.0 refl c.expect.ensures, spent (goes_on (took-comes c.in_ok-got.ensures refl) (c.in_ok-got-2.ensures.1.done refl)) (expected-spends c.expect.ensures (omega arith)) (omega arith))

pub inside-returns-then-kind_of-eq-CONSTANT : goal.inside-returns-then-kind_of-eq-CONSTANT
inside-returns-then-kind_of-eq-CONSTANT t c =
    (c.whole.ensures.0.constant refl refl (sym c.kind_of.ensures ∙ c.if-kind_of-eq-CONSTANT.true) c.args.later, c.whole.ensures.1 (λ e. sym c.kind_of.ensures ∙ c.if-kind_of-eq-CONSTANT.true))

pub inside-returns : goal.inside-returns
inside-returns t c =
    (inside-expression c.args.later (λ e. c.if-kind_of-eq-CONSTANT.false (c.kind_of.ensures ∙ e)) (c.whole-2.ensures.0.plain refl), c.whole-2.ensures.1 (λ e. absurd (true≢false (sym e))))

pub leading-returns-then-kept : goal.leading-returns-then-kept
leading-returns-then-kept t c =
    (leads-constant c.if-kept.true (λ k. (c.keep.ensures k).0), λ k. (c.keep.ensures (k c.if-kept.true)).1)

pub leading-returns : goal.leading-returns
leading-returns t c =
    (leads-plain c.if-kept.false c.opening.ensures.0, λ k. c.opening.ensures.1)

pub more_arms-loop-init : goal.more_arms-loop-init
more_arms-loop-init t c =
    (armings-begin c.args.case, begins)

pub more_arms-returns-in_err-one : goal.more_arms-returns-in_err-one
more_arms-returns-in_err-one t c =
    rw (err-came c.from_residual.ensures.1) (armings-not c.args.case c.loop.invariant.0 (sym c.another.ensures ∙ c.if-not-another.false) c.at-at.ensures c.in_err-one.ensures.0, spent (goes_on c.loop.invariant.1 (nests c.at-at.ensures)) (c.in_err-one.ensures.1 (omega arith)) (omega arith))

pub more_arms-loop-preserved : goal.more_arms-loop-preserved
more_arms-loop-preserved t c =
    (armings-more c.args.case c.loop.invariant.0 (sym c.another.ensures ∙ c.if-not-another.false) c.at-at.ensures c.in_ok-one.ensures.0 refl c.one_more-count.ensures, comes-as (goes_on c.loop.invariant.1 (goes_on (nests c.at-at.ensures) ((c.in_ok-one.ensures.1 (omega arith)).done refl))) (omega arith))

pub more_arms-returns-then-not-another : goal.more_arms-returns-then-not-another
more_arms-returns-then-not-another t c =
    (armings-end c.args.case c.loop.invariant.0 (sym c.another.ensures ∙ c.if-not-another.true), spent c.loop.invariant.1 (stays-spends refl) (omega arith))

pub more_arms-returns : goal.more_arms-returns
more_arms-returns t c =
    (armings-full c.args.case c.loop.invariant.0 c.loop-test.false, spent c.loop.invariant.1 (full-spends refl) (omega arith))

pub named-returns-in_err-taken : goal.named-returns-in_err-taken
named-returns-in_err-taken t c =
    rw (err-came c.from_residual.ensures.1) (λ e. named-not e c.in_err-taken.ensures refl, not-took c.in_err-taken.ensures refl)

pub named-reference-requires : goal.named-reference-requires
named-reference-requires t c =
    let p = c.in_ok-taken.ensures.done refl in let g : c.in_ok-taken.taken.state.nesting ≡ c.args.s.nesting = ap (λ (k : Counts). k.nesting) p.counts in search rules

pub named-returns : goal.named-returns
named-returns t c =
    (λ e. named-says e c.in_ok-taken.ensures refl c.reference.ensures.0, spent (counted-comes c.in_ok-taken.ensures refl) c.reference.ensures.1 (omega arith))

pub next_arm-returns-in_err-got : goal.next_arm-returns-in_err-got
next_arm-returns-in_err-got t c =
    rw (err-came c.from_residual.ensures.1) (next-not c.in_err-got.ensures refl, λ l. unexpected c.in_err-got.ensures refl)

pub next_arm-returns-in_err-got-2 : goal.next_arm-returns-in_err-got-2
next_arm-returns-in_err-got-2 t c =
    rw (err-came c.from_residual-in_err-got-2.ensures.1) (next-inner c.in_ok-got.ensures refl c.at-state.ensures c.in_err-got-2.ensures.0 refl, λ l. spent (goes_on (expected-comes c.in_ok-got.ensures l refl) (nests c.at-state.ensures)) c.in_err-got-2.ensures.1 (omega arith))

pub next_arm-returns : goal.next_arm-returns
next_arm-returns t c =
    (next-says c.in_ok-got.ensures refl c.at-state.ensures c.in_ok-got-2.ensures.0 refl c.last.ensures c.add_next_arm.ensures, λ l. spent (goes_on (expected-comes c.in_ok-got.ensures l refl) (goes_on (nests c.at-state.ensures) (c.in_ok-got-2.ensures.1.done refl))) (gained-spends c.add_next_arm.ensures) (omega arith))

pub opening-returns-in-Plain : goal.opening-returns-in-Plain
opening-returns-in-Plain t c =
    (plain-opening c.in-Plain.is c.term.ensures.0, c.term.ensures.1)

pub opening-returns-in_err-taken : goal.opening-returns-in_err-taken
opening-returns-in_err-taken t c =
    rw (err-came c.from_residual.ensures.1) (opening-not c.args.head (not_plain (opened c.in_default.in_default-own.keys2)) c.in_err-taken.ensures refl, not-took c.in_err-taken.ensures refl)

pub opening-returns-in_err-red : goal.opening-returns-in_err-red
opening-returns-in_err-red t c =
    rw (err-came c.from_residual-in_err-red.ensures.1) (red-not c.args.head (not_plain (opened c.in_default.in_default-own.keys2)) c.in_ok-taken.ensures refl c.in_err-red.ensures.0 refl, spent (counted-comes c.in_ok-taken.ensures refl) c.in_err-red.ensures.1 (omega arith))

pub opening-start-requires : goal.opening-start-requires
opening-start-requires t c =
    let p = c.in_ok-taken.ensures.done refl in let h : c.at-inner.result.nesting ≡ c.in_ok-taken.taken.state.nesting = ap (λ (q : State). q.nesting) c.at-inner.ensures in let g : c.in_ok-taken.taken.state.nesting ≡ suc c.args.s.nesting = ap (λ (k : Counts). k.nesting) p.counts in let d : c.in_ok-taken.taken.state.nesting ≤ 24 = p.deep in let m : top_no c.prefixed.result ≤ 7 = top-most c.prefixed.result in search rules

pub opening-returns-in_err-operand : goal.opening-returns-in_err-operand
opening-returns-in_err-operand t c =
    rw (err-came c.from_residual-in_err-operand.ensures.1) (operand-not c.args.head (not_plain (opened c.in_default.in_default-own.keys2)) c.in_ok-taken.ensures refl c.in_ok-red.ensures.0 refl c.prefixed.ensures c.at-inner.ensures c.in_err-operand.ensures.0 refl, spent (goes_on (counted-comes c.in_ok-taken.ensures refl) (goes_on (c.in_ok-red.ensures.1.done refl) (nests c.at-inner.ensures))) c.in_err-operand.ensures.1 (omega arith))

pub opening-returns : goal.opening-returns
opening-returns t c =
    (opening-says c.args.head (not_plain (opened c.in_default.in_default-own.keys2)) c.in_ok-taken.ensures refl c.in_ok-red.ensures.0 refl c.prefixed.ensures c.at-inner.ensures c.in_ok-operand.ensures.0 refl c.add_prefix.ensures, spent (goes_on (counted-comes c.in_ok-taken.ensures refl) (goes_on (c.in_ok-red.ensures.1.done refl) (goes_on (nests c.at-inner.ensures) (goes_on (c.in_ok-operand.ensures.1.done refl) eases)))) (gained-spends c.add_prefix.ensures) (omega arith))

pub operation-returns-in_err-got : goal.operation-returns-in_err-got
operation-returns-in_err-got t c =
    rw (err-came c.from_residual.ensures.1) (operation-not c.in_err-got.ensures c.args.rank refl, not-took c.in_err-got.ensures refl)

pub operation-returns-in-Cut : goal.operation-returns-in-Cut
operation-returns-in-Cut t c =
    (cut-operation c.in_ok-got.ensures refl c.in-Cut.is c.kind_of.ensures (c.cut.ensures.0, c.cut.ensures.1), spent (counted-comes c.in_ok-got.ensures refl) c.cut.ensures.2 (omega arith))

pub operation-start-requires : goal.operation-start-requires
operation-start-requires t c =
    let p = c.in_ok-got.ensures.done refl in let g : c.in_ok-got.got.state.nesting ≡ c.args.s.nesting = ap (λ (k : Counts). k.nesting) p.counts in let m : top_no c.operand.result ≤ rank_no c.args.rank = subst (λ (v : Level). top_no v ≤ rank_no c.args.rank) (sym c.operand.ensures) (operand-tighter c.args.rank) in search rules

pub operation-returns-in_err-got-2 : goal.operation-returns-in_err-got-2
operation-returns-in_err-got-2 t c =
    rw (err-came c.from_residual-in_err-got-2.ensures.1) (right-not c.in_ok-got.ensures refl c.args.rank (not-cut (opened c.in_default.in_default-own.keys2)) c.operand.ensures c.in_err-got-2.ensures.0 refl, spent (counted-comes c.in_ok-got.ensures refl) c.in_err-got-2.ensures.1 (omega arith))

pub operation-returns : goal.operation-returns
operation-returns t c =
    (operation-says c.in_ok-got.ensures refl c.args.rank (not-cut (opened c.in_default.in_default-own.keys2)) c.operand.ensures c.in_ok-got-2.ensures.0 refl c.last.ensures c.add_binary.ensures, spent (goes_on (counted-comes c.in_ok-got.ensures refl) (c.in_ok-got-2.ensures.1.done refl)) (gained-spends c.add_binary.ensures) (omega arith))

pub reference-returns-in_err-opened : goal.reference-returns-in_err-opened
reference-returns-in_err-opened t c =
    rw (err-came c.from_residual.ensures.1) (reference-not c.args.name (sym c.kind_of.ensures ∙ c.if-kind_of-eq-OPEN_BRACKET.true) c.in_err-opened.ensures refl, not-took c.in_err-opened.ensures refl)

pub reference-subscript-requires : goal.reference-subscript-requires
reference-subscript-requires t c =
    let p = c.in_ok-opened.ensures.done refl in let g : c.in_ok-opened.opened.state.nesting ≡ suc c.args.s.nesting = ap (λ (k : Counts). k.nesting) p.counts in let d : c.in_ok-opened.opened.state.nesting ≤ 24 = p.deep in search rules

pub reference-returns-then-kind_of-eq-OPEN_BRACKET : goal.reference-returns-then-kind_of-eq-OPEN_BRACKET
reference-returns-then-kind_of-eq-OPEN_BRACKET t c =
    (reference-says c.args.name (sym c.kind_of.ensures ∙ c.if-kind_of-eq-OPEN_BRACKET.true) c.in_ok-opened.ensures refl c.subscript.ensures.0, spent (took-comes c.in_ok-opened.ensures refl) c.subscript.ensures.1 (omega arith))

pub reference-returns : goal.reference-returns
reference-returns t c =
    (whole_says c.args.name c.kind_of.ensures c.if-kind_of-eq-OPEN_BRACKET.false c.add_whole.ensures, adds-spends c.add_whole.ensures)

pub rest-loop-init : goal.rest-loop-init
rest-loop-init t c =
    (walks-begin c.args.rank c.args.level, begins)

pub rest-returns : goal.rest-returns
rest-returns t c =
    (walks-full c.args.rank c.args.level c.loop.invariant.0 c.loop-test.false, spent c.loop.invariant.1 (full-spends refl) (omega arith))

pub rest-returns-in_err-one : goal.rest-returns-in_err-one
rest-returns-in_err-one t c =
    rw (err-came c.from_residual.ensures.1) (walks-not c.args.rank c.args.level c.loop.invariant.0 (sym c.within.ensures ∙ c.if-not-within.false) (sym c.operates.ensures ∙ c.if-not-operates.false) c.in_err-one.ensures.0 refl, spent c.loop.invariant.1 c.in_err-one.ensures.1 (omega arith))

pub rest-loop-preserved : goal.rest-loop-preserved
rest-loop-preserved t c =
    (walks_more c.args.rank c.args.level c.loop.invariant.0 (sym c.within.ensures ∙ c.if-not-within.false) (sym c.operates.ensures ∙ c.if-not-operates.false) c.in_ok-one.ensures.0 refl c.behind-from.ensures c.at-state.ensures, comes-as (goes_on c.loop.invariant.1 (goes_on (c.in_ok-one.ensures.1.done refl) (nests c.at-state.ensures))) (omega arith))

pub rest-loop-preserved-then-not-operates : goal.rest-loop-preserved-then-not-operates
rest-loop-preserved-then-not-operates t c =
    (walks_next c.args.rank c.args.level c.loop.invariant.0 (sym c.within.ensures ∙ c.if-not-within.false) (sym c.operates.ensures ∙ c.if-not-operates.true) c.next-from.ensures, c.loop.invariant.1)

pub rest-returns-then-not-within : goal.rest-returns-then-not-within
rest-returns-then-not-within t c =
    (walks-end c.args.rank c.args.level c.loop.invariant.0 (sym c.within.ensures ∙ c.if-not-within.true), spent c.loop.invariant.1 (stays-spends refl) (omega arith))

pub second-returns-then-ends_ahead : goal.second-returns-then-ends_ahead
second-returns-then-ends_ahead t c =
    (λ sc h. c.word_part.ensures.0 (ends_so true c.ends_ahead.ensures c.if-ends_ahead.true h.seen) sc h, c.word_part.ensures.1)

pub second-returns-in_err-got : goal.second-returns-in_err-got
second-returns-in_err-got t c =
    rw (err-came c.from_residual.ensures.1) (second-not c.args.name c.ends_ahead.ensures c.if-ends_ahead.false c.in_err-got.ensures.0 refl, spent begins c.in_err-got.ensures.1 (omega arith))

pub second-returns-in_err-got-2 : goal.second-returns-in_err-got-2
second-returns-in_err-got-2 t c =
    rw (err-came c.from_residual-in_err-got-2.ensures.1) (end-not c.args.name c.ends_ahead.ensures c.if-ends_ahead.false c.in_ok-got.ensures.0 refl c.in_err-got-2.ensures refl, unexpected c.in_err-got-2.ensures refl)

pub second-returns : goal.second-returns
second-returns t c =
    (second-says c.args.name c.ends_ahead.ensures c.if-ends_ahead.false c.in_ok-got.ensures.0 refl c.in_ok-got-2.ensures refl c.last.ensures c.last-2.ensures c.add_two.ensures, spent (goes_on (c.in_ok-got.ensures.1.done refl) (expected-comes c.in_ok-got-2.ensures (omega arith) refl)) (adds-spends c.add_two.ensures) (omega arith))

pub single-returns-in_err-opened : goal.single-returns-in_err-opened
single-returns-in_err-opened t c =
    rw (err-came c.from_residual.ensures.1) (single-not c.args.name (sym c.kind_of.ensures ∙ c.if-kind_of-eq-OPEN_BRACKET.true) c.in_err-opened.ensures refl, not-took c.in_err-opened.ensures refl)

pub single-second-requires : goal.single-second-requires
single-second-requires t c =
    let p = c.in_ok-opened.ensures.done refl in let g : c.in_ok-opened.opened.state.nesting ≡ suc c.args.s.nesting = ap (λ (k : Counts). k.nesting) p.counts in let d : c.in_ok-opened.opened.state.nesting ≤ 24 = p.deep in search rules

pub single-returns-then-kind_of-eq-OPEN_BRACKET : goal.single-returns-then-kind_of-eq-OPEN_BRACKET
single-returns-then-kind_of-eq-OPEN_BRACKET t c =
    (single-says c.args.name (sym c.kind_of.ensures ∙ c.if-kind_of-eq-OPEN_BRACKET.true) c.in_ok-opened.ensures refl c.second.ensures.0, spent (took-comes c.in_ok-opened.ensures refl) c.second.ensures.1 (omega arith))

pub single-returns : goal.single-returns
single-returns t c =
    (one-says c.args.name c.kind_of.ensures c.if-kind_of-eq-OPEN_BRACKET.false c.last.ensures c.add_one.ensures, adds-spends c.add_one.ensures)

pub start-returns : goal.start-returns
start-returns t c =
    (c.whole.ensures.0.plain refl, c.whole.ensures.1 (λ e. absurd (true≢false (sym e))))

pub subscript-returns-then-ends_ahead : goal.subscript-returns-then-ends_ahead
subscript-returns-then-ends_ahead t c =
    (λ sc h. c.part.ensures.0 (ends_so true c.ends_ahead.ensures c.if-ends_ahead.true h.seen) sc h, c.part.ensures.1)

pub subscript-returns-in_err-got : goal.subscript-returns-in_err-got
subscript-returns-in_err-got t c =
    rw (err-came c.from_residual.ensures.1) (subscript-not c.args.name c.ends_ahead.ensures c.if-ends_ahead.false c.in_err-got.ensures.0 refl, spent begins c.in_err-got.ensures.1 (omega arith))

pub subscript-returns-in_err-got-2 : goal.subscript-returns-in_err-got-2
subscript-returns-in_err-got-2 t c =
    rw (err-came c.from_residual-in_err-got-2.ensures.1) (comma-not c.args.name c.ends_ahead.ensures c.if-ends_ahead.false c.in_ok-got.ensures.0 refl (sym c.kind_of.ensures ∙ c.if-kind_of-eq-COMMA.true) c.in_err-got-2.ensures refl, not-took c.in_err-got-2.ensures refl)

pub subscript-second-requires : goal.subscript-second-requires
subscript-second-requires t c =
    let h : c.at-state.result.nesting ≡ c.args.s.nesting = ap (λ (q : State). q.nesting) c.at-state.ensures in search rules

pub subscript-returns-then-kind_of-eq-COMMA : goal.subscript-returns-then-kind_of-eq-COMMA
subscript-returns-then-kind_of-eq-COMMA t c =
    (comma-says c.args.name c.ends_ahead.ensures c.if-ends_ahead.false c.in_ok-got.ensures.0 refl (sym c.kind_of.ensures ∙ c.if-kind_of-eq-COMMA.true) c.in_ok-got-2.ensures refl c.at-state.ensures c.second.ensures.0, spent (goes_on (c.in_ok-got.ensures.1.done refl) (goes_on (took-comes c.in_ok-got-2.ensures refl) (nests c.at-state.ensures))) c.second.ensures.1 (omega arith))

pub subscript-returns-in_err-got-3 : goal.subscript-returns-in_err-got-3
subscript-returns-in_err-got-3 t c =
    rw (err-came c.from_residual-in_err-got-3.ensures.1) (close-not c.args.name c.ends_ahead.ensures c.if-ends_ahead.false c.in_ok-got.ensures.0 refl (λ e. c.if-kind_of-eq-COMMA.false (c.kind_of.ensures ∙ e)) c.in_err-got-3.ensures refl, unexpected c.in_err-got-3.ensures refl)

pub subscript-single-requires : goal.subscript-single-requires
subscript-single-requires t c =
    let h : c.at-state-2.result.nesting ≡ c.last.result = ap (λ (q : State). q.nesting) c.at-state-2.ensures in let g : c.last.result ≡ c.args.s.nesting - 1 = c.last.ensures in search rules

pub subscript-returns : goal.subscript-returns
subscript-returns t c =
    (close-says c.args.name c.ends_ahead.ensures c.if-ends_ahead.false c.in_ok-got.ensures.0 refl (λ e. c.if-kind_of-eq-COMMA.false (c.kind_of.ensures ∙ e)) c.in_ok-got-3.ensures refl c.last.ensures c.at-state-2.ensures c.single.ensures.0, spent (goes_on (c.in_ok-got.ensures.1.done refl) (goes_on (expected-comes c.in_ok-got-3.ensures (omega arith) refl) (nests c.at-state-2.ensures))) c.single.ensures.1 (omega arith))

pub term-returns-then-kind-eq-CONSTANT : goal.term-returns-then-kind-eq-CONSTANT
term-returns-then-kind-eq-CONSTANT t c =
    c.constant.ensures (sym c.kind_of-kind.ensures ∙ c.if-kind-eq-CONSTANT.true)

pub term-returns-then-kind-eq-NAME : goal.term-returns-then-kind-eq-NAME
term-returns-then-kind-eq-NAME t c =
    (c.named.ensures.0 (sym c.kind_of-kind.ensures ∙ c.if-kind-eq-NAME.true), c.named.ensures.1)

pub term-returns-then-kind-eq-OPEN_PAREN : goal.term-returns-then-kind-eq-OPEN_PAREN
term-returns-then-kind-eq-OPEN_PAREN t c =
    (c.group.ensures.0 (sym c.kind_of-kind.ensures ∙ c.if-kind-eq-OPEN_PAREN.true), c.group.ensures.1)

pub term-returns-then-kind-eq-IF : goal.term-returns-then-kind-eq-IF
term-returns-then-kind-eq-IF t c =
    (c.choice.ensures.0 (sym c.kind_of-kind.ensures ∙ c.if-kind-eq-IF.true), c.choice.ensures.1)

pub term-returns-then-kind-eq-CASE : goal.term-returns-then-kind-eq-CASE
term-returns-then-kind-eq-CASE t c =
    (c.choice-then-kind-eq-CASE.ensures.0 (sym c.kind_of-kind.ensures ∙ c.if-kind-eq-CASE.true), c.choice-then-kind-eq-CASE.ensures.1)

pub term-returns : goal.term-returns
term-returns t c =
    (term-not c.kind_of-kind.ensures c.if-kind-eq-CONSTANT.false c.if-kind-eq-NAME.false c.if-kind-eq-OPEN_PAREN.false c.if-kind-eq-IF.false c.if-kind-eq-CASE.false c.refuse.ensures, refusal-unspent c.refuse.ensures)

pub whole-returns-in_err-first : goal.whole-returns-in_err-first
whole-returns-in_err-first t c =
    rw (err-came c.from_residual.ensures.1) (level-not c.args.level c.kind_of.ensures c.head_of-head.ensures c.in_err-first.ensures.0 refl, c.in_err-first.ensures.1)

pub whole-rest-requires : goal.whole-rest-requires
whole-rest-requires t c =
    let h : c.at-state.result.nesting ≡ c.args.s.nesting = ap (λ (q : State). q.nesting) c.at-state.ensures in search rules

pub whole-returns : goal.whole-returns
whole-returns t c =
    (level-says c.args.level c.kind_of.ensures c.head_of-head.ensures c.in_ok-first.ensures.0 refl c.after.ensures c.at-state.ensures c.rest.ensures.0, λ k. spent (goes_on ((c.in_ok-first.ensures.1 k).done refl) (nests c.at-state.ensures)) c.rest.ensures.1 (omega arith))
