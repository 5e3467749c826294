-- The machine takes what the grammar derives: by induction on the derivation, a line for each rule.
use Rattle.std.specs.Prelude.{List, ℕ}
use Rattle.language.specs.Grammar as G
use Rattle.language.specs.Grammar.{Is}
use Rattle.language.specs.Machine.{after_registers}
use Rattle.language.specs.Notions as N
use Rattle.language.specs.Notions.{Notion, Tree}
use Rattle.language.specs.Words.{Word}
use Rattle.about_grammar.specs.Acting.{Acting, Armed, MoreArmed, Resting}
use Rattle.about_grammar.specs.Actions as A
use Rattle.about_grammar.specs.Conditionals as K
use Rattle.about_grammar.specs.Control as S
use Rattle.about_grammar.specs.Control.{Controlled, Stated, StatesListed}
use Rattle.about_grammar.specs.Courses.{Ceiling}
use Rattle.about_grammar.specs.Declarations as D
use Rattle.about_grammar.specs.Declared as E
use Rattle.about_grammar.specs.Declared.{BeforeTerminals, Declares, Ended, Optional, Sectioned, Terminals}
use Rattle.about_grammar.specs.Dimensions as I
use Rattle.about_grammar.specs.Dimensions.{Dimensioned, Ranged}
use Rattle.about_grammar.specs.Levels as L
use Rattle.about_grammar.specs.Levels.{Adjustment, Arithmetic, Boolean, Chain, Complement, Minterm, Product, Reduction, Relation, Term}
use Rattle.about_grammar.specs.Operated as O
use Rattle.about_grammar.specs.Operated.{MayEnd, Operating, OperationsPart}
use Rattle.about_grammar.specs.Operations as P
use Rattle.about_grammar.specs.Parts.{actions_of, ends_of, extent_of, facilities_of, facility_in, label_of, left_of, memories_of, operations_of, registers_of, states_of, terminals_of, text_of, value_of}
use Rattle.about_grammar.specs.Reaching.{Listed, Specified, memories, registers, terminals}
use Rattle.about_grammar.specs.References as R
use Rattle.about_grammar.specs.States as B
use Rattle.about_grammar.specs.States.{Labelling}
use Rattle.about_grammar.specs.Stores as F
use Rattle.about_grammar.specs.Stores.{Siding}
use Rattle.about_grammar.specs.Taking.{Referring}
use Rattle.about_grammar.specs.Terms as M
use Rattle.about_grammar.specs.Terms.{Arms}
use Rattle.about_grammar.specs.WholeText as W
use Rattle.about_grammar.specs.WholeText.{Dollared, Texted}

-- What it is that the machine takes the words of each notion.
abbrev pub Taken : Ceiling → Notion → ℕ → List Word → Tree → Type 0
Taken C N.reference h us t = Referring C h us t
Taken C N.boolean_exp h us t = Boolean C h us t
Taken C N.minterm h us t = Minterm C h us t
Taken C N.product h us t = Product C h us t
Taken C N.complement h us t = Complement C h us t
Taken C N.chain h us t = Chain C h us t
Taken C N.reduction h us t = Reduction C h us t
Taken C N.adjustment h us t = Adjustment C h us t
Taken C N.relation h us t = Relation C h us t
Taken C N.arithmetic h us t = Arithmetic C h us t
Taken C N.term h us t = Term C h us t
Taken C N.expression_arms h us t = Arms C h us t
Taken C N.range h us t = Ranged C us (ends_of t)
Taken C N.dimensions h us t = Dimensioned C h us (extent_of t)
Taken C N.left_side h us t = Siding C h us (left_of t)
Taken C (N.action_list s) h us t = Acting C s h us (actions_of t)
Taken C (N.rest s) h us t = Resting C s h us (actions_of t)
Taken C (N.arms s) h us t = Armed C s h us (actions_of t)
Taken C (N.more_arms s) h us t = MoreArmed C s h us (actions_of t)
Taken C N.register_spec h us t = Specified C registers h us (facility_in t)
Taken C N.memory_spec h us t = Specified C memories h us (facility_in t)
Taken C N.terminal_spec h us t = Specified C terminals h us (facility_in t)
Taken C N.register_specs h us t = Listed C registers h us (facilities_of t)
Taken C N.memory_specs h us t = Listed C memories h us (facilities_of t)
Taken C N.terminal_specs h us t = Listed C terminals h us (facilities_of t)
Taken C N.register_section h us t = Sectioned C registers h us (facilities_of t)
Taken C N.memory_section h us t = Sectioned C memories h us (facilities_of t)
Taken C N.terminal_section h us t = Sectioned C terminals h us (facilities_of t)
Taken C N.memory_option h us t = Optional C memories h after_registers (BeforeTerminals C) us (facilities_of t)
Taken C N.terminal_option h us t = Terminals C h us (facilities_of t)
Taken C N.declaration h us t = Declares C h us (registers_of t) (memories_of t) (terminals_of t)
Taken C N.operation_defs h us t = Operating C h us (operations_of t)
Taken C N.operation_section h us t = OperationsPart C h us (operations_of t)
Taken C N.state_label h us t = Labelling C h us (label_of t) (value_of t)
Taken C N.state_def h us t = Stated C h us (states_of t)
Taken C N.state_defs h us t = StatesListed C h us (states_of t)
Taken C N.control_section h us t = Controlled C h us (states_of t)
Taken C N.ending h us t = Ended C us
Taken C N.optional_ending h us t = MayEnd C us
Taken C N.dollar_option h us t = Dollared C us
Taken C N.whole_text h us t = Texted C h us (text_of t)

pub takes : (C : Ceiling) {n : Notion} {h : ℕ} {us : List Word} {t : Tree} → Is n h us t → Taken C n h us t
takes C G.ref-whole = R.ref-whole
takes C (G.ref-one s x) = R.ref-one s (takes C x)
takes C G.ref-part = R.ref-part
takes C (G.ref-two s k x y) = R.ref-two s k (takes C x) (takes C y)
takes C (G.ref-two-apart s k l x y) = R.ref-two-apart s k l (takes C x) (takes C y)
takes C (G.ref-word-part s k l x) = R.ref-word-part s k l (takes C x)
takes C (G.ref-word-part-apart s k l m x) = R.ref-word-part-apart s k l m (takes C x)
takes C (G.or-one x) = L.or-one (takes C x)
takes C (G.or-more x y) = P.or-more (takes C x) (takes C y)
takes C (G.exclusive-one x) = L.exclusive-one (takes C x)
takes C (G.exclusive-more x y) = P.exclusive-more (takes C x) (takes C y)
takes C (G.and_one x) = L.and_one (takes C x)
takes C (G.and-more x y) = P.and-more (takes C x) (takes C y)
takes C (G.complement-none x) = L.complement-none (takes C x)
takes C (G.complement-of x) = P.complement-of (takes C x)
takes C (G.con-one x) = L.con-one (takes C x)
takes C (G.con-more x y) = P.con-more (takes C x) (takes C y)
takes C (G.reduction-none x) = L.reduction-none (takes C x)
takes C (G.reduction-of {k = k} e x) = P.reduction-of k e (takes C x)
takes C (G.cut-none x) = L.cut-none (takes C x)
takes C (G.cut-more {k = k} q e x) = P.cut-more k q e (takes C x)
takes C (G.relation-none x) = L.relation-none (takes C x)
takes C (G.relation-of {k = k} e x y) = P.relation-of k e (takes C x) (takes C y)
takes C (G.arithmetic-one x) = L.arithmetic-one (takes C x)
takes C (G.negation-of x) = P.negation-of (takes C x)
takes C (G.arithmetic-more {k = k} e x y) = P.arithmetic-more k e (takes C x) (takes C y)
takes C (G.term-reference {us = us} x) = M.term-reference us (takes C x)
takes C G.term-constant = M.term-constant
takes C (G.term-parens q x) = M.term-parens q (takes C x)
takes C (G.term-if q r s x y z) = M.term-if q r s (takes C x) (takes C y) (takes C z)
takes C (G.term-case q x y) = M.term-case q (takes C x) (takes C y)
takes C (G.arms-two q x y) = M.arms-two q (takes C x) (takes C y)
takes C (G.arms_next p x y) = M.arms_next p (takes C x) (takes C y)
takes C (G.left_one {h = h} {us = us} {e = e} x) = F.left_one C h us e (takes C x)
takes C (G.left-two {h = h} {us = us} {vs = vs} p {e = e} {f = f} x y) = F.left-two C h us vs e f p (takes C x) (takes C y)
takes C (G.act-store {us = us} e x y z) = A.act-store us e (takes C x) (takes C y) (takes C z)
takes C (G.act-set {s = s} {us = us} x y) = A.act-set s us (takes C x) (takes C y)
takes C (G.act-perform x) = A.act-perform (takes C x)
takes C (G.act-goto x) = A.act-goto (takes C x)
takes C (G.act-call x) = A.act-call (takes C x)
takes C (G.act-return x) = A.act-return (takes C x)
takes C (G.act-when r q x y z) = K.act-when r q (takes C x) (takes C y) (takes C z)
takes C (G.act-if t r q x y z w) = K.act-if t r q (takes C x) (takes C y) (takes C z) (takes C w)
takes C (G.act-case q x y z) = K.act-case q (takes C x) (takes C y) (takes C z)
takes C G.rest-none = K.rest-none
takes C (G.rest_more x) = K.rest_more (takes C x)
takes C (G.arms-one x y) = K.arms-one (takes C x) (takes C y)
takes C G.arms_end = K.arms_end
takes C (G.arms_more x) = K.arms_more (takes C x)
takes C G.range-both = I.range-both
takes C G.range_last = I.range_last
takes C G.no-dimension = I.no-dimension
takes C (G.one-dimension q x) = I.one-dimension q (takes C x)
takes C (G.two-dimensions q r x y) = I.two-dimensions q r (takes C x) (takes C y)
takes C (G.a-register x) = D.a-register (takes C x)
takes C (G.a-sequencing x) = D.a-sequencing (takes C x)
takes C (G.a_memory x) = D.a_memory (takes C x)
takes C (G.a-terminal x) = D.a-terminal (takes C x)
takes C (G.an-input q r s t u v w c a x) = D.an-input q r s t u v w c a (takes C x)
takes C (G.a-computed a x y) = D.a-computed a (takes C x) (takes C y)
takes C (G.registers-one x) = E.specs-one registers (takes C x)
takes C (G.registers-more p x y) = E.specs-more registers p (takes C x) (takes C y)
takes C (G.memories-one x) = E.specs-one memories (takes C x)
takes C (G.memories-more p x y) = E.specs-more memories p (takes C x) (takes C y)
takes C (G.terminals-one x) = E.specs-one terminals (takes C x)
takes C (G.terminals-more p x y) = E.specs-more terminals p (takes C x) (takes C y)
takes C (G.an-ending e) = E.an-ending e
takes C (G.register-section x y) = E.a-section registers (takes C x) (takes C y)
takes C (G.memory-section x y) = E.a-section memories (takes C x) (takes C y)
takes C (G.terminal-section x y) = E.a-section terminals (takes C x) (takes C y)
takes C G.no-memories = E.no-memories
takes C (G.some-memories x) = E.some-memories (takes C x)
takes C G.no-terminals = E.no-terminals
takes C (G.some-terminals x) = E.some-terminals (takes C x)
takes C (G.with-registers x y z) = E.with-registers (takes C x) (takes C y) (takes C z)
takes C (G.with-memories x y) = E.with-memories (takes C x) (takes C y)
takes C (G.with-terminals x) = E.with-terminals (takes C x)
takes C (G.operations-one q r s x) = O.operations-one q r s (takes C x)
takes C (G.operations-more q r s t x y) = O.operations-more q r s t (takes C x) (takes C y)
takes C G.no-ending = O.no-ending
takes C (G.some-ending x) = O.some-ending (takes C x)
takes C G.no-operations = O.no-operations
takes C (G.some-operations x y) = O.some-operations (takes C x) (takes C y)
takes C G.no_label = B.unlabelled
takes C G.plain_label = B.plain_label
takes C G.label-with-value = B.label-with-value
takes C (G.states-one x) = S.states-one (takes C x)
takes C (G.states-more x y) = S.states-more (takes C x) (takes C y)
takes C (G.state-idle p x) = S.state-idle p (takes C x)
takes C (G.state-acting p x y) = S.state-acting p (takes C x) (takes C y)
takes C (G.control-section x y) = S.control-section (takes C x) (takes C y)
takes C G.no-dollar = W.no-dollar
takes C G.some-dollar = W.some-dollar
takes C (G.whole-text x y z w) = W.whole-text (takes C x) (takes C y) (takes C z) (takes C w)
