-- The machine's tale of a text is what the grammar counts: by induction on the derivation, a line for each rule.
use Rattle.std.specs.Prelude.{true, List, [], ◌∷◌, ◌++◌, ◌≡◌, ℕ}
use Rattle.language.specs.Grammar as G
use Rattle.language.specs.Grammar.{Is}
use Rattle.language.specs.Kinds.{at_sign, con_word}
use Rattle.language.specs.Machine.{after_registers, ask, counted, sections}
use Rattle.language.specs.Notions as N
use Rattle.language.specs.Notions.{Notion, Section, Tree, in_operation, is_store}
use Rattle.language.specs.Tree.{Expression}
use Rattle.language.specs.Words as W
use Rattle.language.specs.Words.{Position, Word, sign}
use Rattle.about_grammar.specs.Complete.{ceilings}
use Rattle.about_grammar.specs.Counting.{marks, one, plain}
use Rattle.about_grammar.specs.Derived.{takes}
use Rattle.about_grammar.specs.Parts.{extent_of}
use Rattle.about_grammar.specs.Reaching.{memories, registers, terminals}
use Rattle.about_grammar.specs.Taking.{Opens, Referring}
use Rattle.about_grammar.specs.Tale.{tale}
use Rattle.about_grammar.specs.Telling as L
use Rattle.about_grammar.specs.Telling.{Adjustment, Arithmetic, Boolean, Chain, Complement, Marks, Minterm, Product, Reduction, Relation, Term}
use Rattle.about_grammar.specs.TellingActions as A
use Rattle.about_grammar.specs.TellingActions.{Acting, Armed, MoreArmed, Resting, Siding}
use Rattle.about_grammar.specs.TellingDeclared as D
use Rattle.about_grammar.specs.TellingDeclared.{BeforeTerminals, Declares, Dimensioned, Ended, Listed, MayEnd, Operating, OperationsPart, Optional, Ranged, Sectioned, Specified, Terminals}
use Rattle.about_grammar.specs.TellingStates as S
use Rattle.about_grammar.specs.TellingStates.{Controlled, Dollared, Labelling, Stated, StatesListed}
use Rattle.about_grammar.specs.TellingTerms as R
use Rattle.about_grammar.specs.TellingTerms.{Arms, Inside, Refers}

-- What it is that the words of each notion tell.
abbrev pub Told : Notion → List Word → Tree → Marks → Type 0
Told N.reference us t f = Refers us f
Told N.boolean_exp us t f = Boolean us f
Told N.minterm us t f = Minterm us f
Told N.product us t f = Product us f
Told N.complement us t f = Complement us f
Told N.chain us t f = Chain us f
Told N.reduction us t f = Reduction us f
Told N.adjustment us t f = Adjustment us f
Told N.relation us t f = Relation us f
Told N.arithmetic us t f = Arithmetic us f
Told N.term us t f = Term us f
Told N.expression_arms us t f = Arms us f
Told N.range us t f = Ranged us f
Told N.dimensions us t f = Dimensioned (extent_of t) us f
Told N.left_side us t f = Siding us f
Told (N.action_list s) us t f = Acting s us f
Told (N.rest s) us t f = Resting s us f
Told (N.arms s) us t f = Armed s us f
Told (N.more_arms s) us t f = MoreArmed s us f
Told N.register_spec us t f = Specified registers us f
Told N.memory_spec us t f = Specified memories us f
Told N.terminal_spec us t f = Specified terminals us f
Told N.register_specs us t f = Listed registers us f
Told N.memory_specs us t f = Listed memories us f
Told N.terminal_specs us t f = Listed terminals us f
Told N.register_section us t f = Sectioned registers us f
Told N.memory_section us t f = Sectioned memories us f
Told N.terminal_section us t f = Sectioned terminals us f
Told N.memory_option us t f = Optional after_registers BeforeTerminals us f
Told N.terminal_option us t f = Terminals us f
Told N.declaration us t f = Declares us f
Told N.operation_defs us t f = Operating us f
Told N.operation_section us t f = OperationsPart us f
Told N.state_label us t f = Labelling us f
Told N.state_def us t f = Stated us f
Told N.state_defs us t f = StatesListed us f
Told N.control_section us t f = Controlled us f
Told N.ending us t f = Ended us f
Told N.optional_ending us t f = MayEnd us f
Told N.dollar_option us t f = Dollared us f
Told N.whole_text us t f = (n : ℕ) → tale (ask sections ∷ []) n us ≡ f n []

-- How the words of an expression in brackets begin.
inside : {h : ℕ} {us : List Word} {e : Expression} (x : Is N.boolean_exp h us (N.expression e)) → Boolean us (marks x) → Inside us (marks x)
inside x y = let z = takes ceilings x in record { heads = z.heads; apart = z.apart; boolean = y }

-- What stands behind a reference's name.
abbrev OpensBehind : List Word → Type 0
OpensBehind [] = ⊥
OpensBehind (W.name n p ∷ us) = Opens us
OpensBehind (W.constant c p ∷ us) = ⊥
OpensBehind (W.sign k p ∷ us) = ⊥

opens-behind : (h : ℕ) (us : List Word) (t : Tree) → Referring ceilings h us t → OpensBehind us
opens-behind h [] t x = x
opens-behind h (W.name n p ∷ us) t x = x.opens
opens-behind h (W.constant c p ∷ us) t x = x
opens-behind h (W.sign k p ∷ us) t x = x

set-by : (s : Section) (us : List Word) → OpensBehind us → {ws : List Word} (f : Marks) {g : Marks} (p : Position) → Refers us f → Resting s ws g → Acting s (us ++ sign at_sign p ∷ ws) (λ n ms. f n (one counted n ∷ g n ms))
set-by s [] o f p x r = absurd o
set-by s (W.name n q ∷ us) o f p x r = A.act-set s n q us o f p x r
set-by s (W.constant c q ∷ us) o f p x r = absurd o
set-by s (W.sign k q ∷ us) o f p x r = absurd o

left_by : (us : List Word) → OpensBehind us → (f : Marks) → Refers us f → Siding us f
left_by [] o f x = absurd o
left_by (W.name n q ∷ us) o f x = A.left_one us n q o f x
left_by (W.constant c q ∷ us) o f x = absurd o
left_by (W.sign k q ∷ us) o f x = absurd o

pair-by : (us vs : List Word) (r : Position) → OpensBehind us → (f g : Marks) → Refers us f → Refers vs g → Siding (us ++ sign con_word r ∷ vs) (λ n ms. f n (plain n ∷ g n ms))
pair-by [] vs r o f g x y = absurd o
pair-by (W.name n q ∷ us) [] r o f g x y = absurd y
pair-by (W.name n q ∷ us) (W.name m v ∷ vs) r o f g x y = A.left-two us vs n m q v r o f g x y
pair-by (W.name n q ∷ us) (W.constant c v ∷ vs) r o f g x y = absurd y
pair-by (W.name n q ∷ us) (W.sign k v ∷ vs) r o f g x y = absurd y
pair-by (W.constant c q ∷ us) vs r o f g x y = absurd o
pair-by (W.sign k q ∷ us) vs r o f g x y = absurd o

store_by : (k : ℕ) (us : List Word) {vs ws : List Word} (f : Marks) {g h : Marks} (p : Position) → is_store k ≡ true → Siding us f → Boolean vs g → Resting in_operation ws h → Acting in_operation (us ++ sign k p ∷ (vs ++ ws)) (λ n ms. f n (one counted n ∷ g n (h n ms)))
store_by k [] f p i x y z = absurd x
store_by k (W.name n q ∷ us) f p i x y z = A.act-store k n q us f p i x y z
store_by k (W.constant c q ∷ us) f p i x y z = absurd x
store_by k (W.sign j q ∷ us) f p i x y z = absurd x

pub telling : {N : Notion} {h : ℕ} {us : List Word} {t : Tree} (d : Is N h us t) → Told N us t (marks d)
unfolding marks
telling G.ref-whole = R.ref-whole
telling (G.ref-one {o = o} c x) = R.ref-one o c (inside x (telling x))
telling (G.ref-part {o = o} {c = c} {k = k} {q = q} {r = r} {x = x} {y = y}) = R.ref-part o c k q r x y
telling (G.ref-two {o = o} c k x y) = R.ref-two o c k (inside x (telling x)) (inside y (telling y))
telling (G.ref-two-apart {o = o} c k l x y) = R.ref-two-apart o c k l (inside x (telling x)) (inside y (telling y))
telling (G.ref-word-part {o = o} {q = q} {r = r} c k l {x = a} {y = b} x) = R.ref-word-part o q r c k l a b (inside x (telling x))
telling (G.ref-word-part-apart {o = o} {q = q} {r = r} c k l m {x = a} {y = b} x) = R.ref-word-part-apart o q r c k l m a b (inside x (telling x))
telling (G.or-one x) = L.or-one (takes ceilings x).heads (telling x)
telling (G.or-more {p = p} x y) = L.or-more p (telling x) (telling y)
telling (G.exclusive-one x) = L.exclusive-one (takes ceilings x).heads (telling x)
telling (G.exclusive-more {p = p} x y) = L.exclusive-more p (telling x) (telling y)
telling (G.and_one x) = L.and_one (takes ceilings x).heads (telling x)
telling (G.and-more {p = p} x y) = L.and-more p (telling x) (telling y)
telling (G.complement-none x) = L.complement-none (takes ceilings x).heads (telling x)
telling (G.complement-of {p = p} x) = L.complement-of p (telling x)
telling (G.con-one x) = L.con-one (takes ceilings x).heads (telling x)
telling (G.con-more {p = p} x y) = L.con-more p (telling x) (telling y)
telling (G.reduction-none x) = L.reduction-none (takes ceilings x).heads (telling x)
telling (G.reduction-of {k = k} {p = p} {q = q} e x) = L.reduction-of p k q e (telling x)
telling (G.cut-none x) = L.cut-none (takes ceilings x).heads (telling x)
telling (G.cut-more {k = k} {p = p} q {c = c} e x) = L.cut-more p k q c e (telling x)
telling (G.relation-none x) = L.relation-none (takes ceilings x).heads (telling x)
telling (G.relation-of {k = k} {p = p} e x y) = L.relation-of p k e (telling x) (telling y)
telling (G.arithmetic-one x) = L.arithmetic-one (takes ceilings x).heads (telling x)
telling (G.negation-of {p = p} x) = L.negation-of p (telling x)
telling (G.arithmetic-more {k = k} {p = p} e x y) = L.arithmetic-more p k e (telling x) (telling y)
telling (G.term-reference {us = us} x) = R.term-reference us (marks x) (telling x)
telling (G.term-constant {c = c} {p = p}) = R.term-constant c p
telling (G.term-parens {p = p} q x) = R.term-parens p q (telling x)
telling (G.term-if {p = p} q r s x y z) = R.term-if p q r s (telling x) (telling y) (telling z)
telling (G.term-case {p = p} q x y) = R.term-case p q (takes ceilings y).heads (telling x) (telling y)
telling (G.arms-two {p = p} q x y) = R.arms-two p q (telling x) (telling y)
telling (G.arms_next p x y) = R.arms_next p (telling x) (telling y)
telling (G.left_one {h = h} {us = us} {e = e} x) = left_by us (opens-behind h us (N.expression e) (takes ceilings x)) (marks x) (telling x)
telling (G.left-two {h = h} {us = us} {vs = vs} p {e = e} x y) = pair-by us vs p (opens-behind h us (N.expression e) (takes ceilings x)) (marks x) (marks y) (telling x) (telling y)
telling (G.act-store {k = k} {us = us} {p = p} e x y z) = store_by k us (marks x) p e (telling x) (telling y) (telling z)
telling (G.act-set {h = h} {s = s} {us = us} {p = p} {e = e} x y) = set-by s us (opens-behind h us (N.expression e) (takes ceilings x)) (marks x) p (telling x) (telling y)
telling (G.act-perform {n = n} {p = p} x) = A.act-perform n p (telling x)
telling (G.act-goto {n = n} {p = p} {q = q} x) = A.act-goto n p q (telling x)
telling (G.act-call {n = n} {p = p} {q = q} x) = A.act-call n p q (telling x)
telling (G.act-return {p = p} x) = A.act-return p (telling x)
telling (G.act-when {p = p} r q x y z) = A.act-when p q r (telling x) (telling y) (telling z)
telling (G.act-if {p = p} t r q x y z w) = A.act-if p q r t (telling x) (telling y) (telling z) (telling w)
telling (G.act-case {p = p} q x y z) = A.act-case p q (telling x) (telling y) (telling z)
telling G.rest-none = A.rest-none
telling (G.rest_more {p = p} x) = A.rest_more p (telling x)
telling (G.arms-one {p = p} x y) = A.arms-one p (telling x) (telling y)
telling G.arms_end = A.arms_end
telling (G.arms_more x) = A.arms_more (telling x)
telling (G.range-both {c = c} {d = d} {p = p} {q = q} {r = r}) = D.range-both c d p q r
telling (G.range_last {d = d} {p = p}) = D.range_last d p
telling G.no-dimension = D.no-dimension
telling (G.one-dimension {p = p} q {x = e} x) = D.one-dimension p q e (telling x)
telling (G.two-dimensions {p = p} q r {x = e} {y = f} x y) = D.two-dimensions p q r e f (telling x) (telling y)
telling (G.a-register {n = n} {p = p} x) = D.a-register n p (telling x)
telling (G.a-sequencing {n = n} {p = p} {q = q} x) = D.a-sequencing n p q (telling x)
telling (G.a_memory {n = n} {p = p} x) = D.a_memory n p (telling x)
telling (G.a-terminal {n = n} {p = p} x) = D.a-terminal n p (telling x)
telling (G.an-input {n = n} {p = p} q r s t u v w c a x) = D.an-input n p q r s t u v w c a (telling x)
telling (G.a-computed {n = n} {p = p} {q = q} a x y) = D.a-computed n p q a (takes ceilings y).heads (telling x) (telling y)
telling (G.registers-one x) = D.specs-one registers (telling x)
telling (G.registers-more p x y) = D.specs-more registers p (telling x) (telling y)
telling (G.memories-one x) = D.specs-one memories (telling x)
telling (G.memories-more p x y) = D.specs-more memories p (telling x) (telling y)
telling (G.terminals-one x) = D.specs-one terminals (telling x)
telling (G.terminals-more p x y) = D.specs-more terminals p (telling x) (telling y)
telling (G.an-ending {k = k} {p = p} e) = D.an-ending k p e
telling (G.register-section {p = p} x y) = D.a-section registers p (telling x) (telling y)
telling (G.memory-section {p = p} x y) = D.a-section memories p (telling x) (telling y)
telling (G.terminal-section {p = p} x y) = D.a-section terminals p (telling x) (telling y)
telling G.no-memories = D.no-memories
telling (G.some-memories x) = D.some-memories (telling x)
telling G.no-terminals = D.no-terminals
telling (G.some-terminals x) = D.some-terminals (telling x)
telling (G.with-registers x y z) = D.with-registers (telling x) (telling y) (telling z)
telling (G.with-memories x y) = D.with-memories (telling x) (telling y)
telling (G.with-terminals x) = D.with-terminals (telling x)
telling (G.operations-one {n = n} {p = p} q r s x) = D.operations-one n p q r s (telling x)
telling (G.operations-more {n = n} {p = p} q r s t x y) = D.operations-more n p q r s (telling x) t (telling y)
telling G.no-ending = D.no-ending
telling (G.some-ending x) = D.some-ending (telling x)
telling G.no-operations = D.no-operations
telling (G.some-operations {p = p} x y) = D.some-operations p (telling x) (telling y)
telling G.no_label = S.unlabelled
telling (G.plain_label {n = n} {p = p} {q = q}) = S.plain_label n p q
telling (G.label-with-value {n = n} {c = c} {p = p} {q = q} {r = r} {s = s} {t = t}) = S.label-with-value n c p q r s t
telling (G.states-one x) = S.states-one (telling x)
telling (G.states-more x y) = S.states-more (takes ceilings y).heads (telling x) (telling y)
telling (G.state-idle p x) = S.state-idle p (telling x)
telling (G.state-acting p x y) = S.state-acting p (takes ceilings y).starts (telling x) (telling y)
telling (G.control-section {p = p} x y) = S.control-section p (telling x) (telling y)
telling G.no-dollar = S.no-dollar
telling (G.some-dollar {p = p}) = S.some-dollar p
telling (G.whole-text {us = us} {vs = vs} {ws = ws} {xs = xs} x y z w) = S.whole-text us vs ws xs (marks x) (marks y) (marks z) (marks w) (telling x) (telling y) (telling z) (telling w)
