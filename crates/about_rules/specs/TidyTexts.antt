-- The grammar's derivations give tidy trees, where the words are right: by induction, a line for each rule. Assumes nothing.
use Rattle.std.specs.Prelude.{List, [], ◌∷◌, ◌++◌, ◌≡◌, refl, ℕ}
use Rattle.std.proofs.Common.{arith}
use Rattle.language.specs.Grammar as G
use Rattle.language.specs.Grammar.{Is}
use Rattle.language.specs.Image.{WordsRight}
use Rattle.language.specs.Notions as N
use Rattle.language.specs.Notions.{Notion, Tree}
use Rattle.language.specs.Words.{Word}
use Rattle.about_rules.specs.Tidy.{ActionsTidy, DeclarationTidy, DeclarationsTidy, ExpressionTidy, LabelTidy, LeftTidy, OperationsTidy, ReferenceTidy, StatesTidy, TextTidy, reference-tidy, words_left, words_right}

abbrev Some : {A : Type 0} → List A → Type 0
Some xs = xs ≡ [] → ⊥

abbrev pub Plainly : Tree → Type 0
Plainly (N.expression e) = ExpressionTidy e
Plainly (N.left l) = LeftTidy l
Plainly (N.actions a) = ActionsTidy a
Plainly (N.ends x) = Unit {0}
Plainly (N.extent x) = Unit {0}
Plainly (N.facility d) = Unit {0}
Plainly (N.facilities ds) = Unit {0}
Plainly (N.declared rs ms ts) = Unit {0}
Plainly (N.operations os) = OperationsTidy os
Plainly (N.label l v) = LabelTidy l v
Plainly (N.states ss) = Unit {0}
Plainly (N.text t) = TextTidy t
Plainly N.nothing = Unit {0}

abbrev pub Referring : Tree → Type 0
Referring (N.expression e) = ReferenceTidy e
Referring (N.left l) = ⊥
Referring (N.actions a) = ⊥
Referring (N.ends x) = ⊥
Referring (N.extent x) = ⊥
Referring (N.facility d) = ⊥
Referring (N.facilities ds) = ⊥
Referring (N.declared rs ms ts) = ⊥
Referring (N.operations os) = ⊥
Referring (N.label l v) = ⊥
Referring (N.states ss) = ⊥
Referring (N.text t) = ⊥
Referring N.nothing = ⊥

abbrev pub Ranked : ℕ → Tree → Type 0
Ranked r (N.expression e) = Unit {0}
Ranked r (N.left l) = Unit {0}
Ranked r (N.actions a) = Unit {0}
Ranked r (N.ends x) = Unit {0}
Ranked r (N.extent x) = Unit {0}
Ranked r (N.facility d) = DeclarationTidy r d
Ranked r (N.facilities ds) = DeclarationsTidy r ds
Ranked r (N.declared rs ms ts) = Unit {0}
Ranked r (N.operations os) = Unit {0}
Ranked r (N.label l v) = Unit {0}
Ranked r (N.states ss) = Unit {0}
Ranked r (N.text t) = Unit {0}
Ranked r N.nothing = Unit {0}

abbrev pub RankedSome : ℕ → Tree → Type 0
RankedSome r (N.expression e) = Unit {0}
RankedSome r (N.left l) = Unit {0}
RankedSome r (N.actions a) = Unit {0}
RankedSome r (N.ends x) = Unit {0}
RankedSome r (N.extent x) = Unit {0}
RankedSome r (N.facility d) = ⊥
RankedSome r (N.facilities ds) = DeclarationsTidy r ds × Some ds
RankedSome r (N.declared rs ms ts) = Unit {0}
RankedSome r (N.operations os) = Unit {0}
RankedSome r (N.label l v) = Unit {0}
RankedSome r (N.states ss) = Unit {0}
RankedSome r (N.text t) = Unit {0}
RankedSome r N.nothing = Unit {0}

abbrev pub DeclaredTidy : Tree → Type 0
DeclaredTidy (N.expression e) = Unit {0}
DeclaredTidy (N.left l) = Unit {0}
DeclaredTidy (N.actions a) = Unit {0}
DeclaredTidy (N.ends x) = Unit {0}
DeclaredTidy (N.extent x) = Unit {0}
DeclaredTidy (N.facility d) = Unit {0}
DeclaredTidy (N.facilities ds) = Unit {0}
DeclaredTidy (N.declared rs ms ts) = DeclarationsTidy 0 rs × (DeclarationsTidy 1 ms × (DeclarationsTidy 2 ts × Some (rs ++ (ms ++ ts))))
DeclaredTidy (N.operations os) = Unit {0}
DeclaredTidy (N.label l v) = Unit {0}
DeclaredTidy (N.states ss) = Unit {0}
DeclaredTidy (N.text t) = Unit {0}
DeclaredTidy N.nothing = Unit {0}

abbrev pub StatesSome : Tree → Type 0
StatesSome (N.expression e) = Unit {0}
StatesSome (N.left l) = Unit {0}
StatesSome (N.actions a) = Unit {0}
StatesSome (N.ends x) = Unit {0}
StatesSome (N.extent x) = Unit {0}
StatesSome (N.facility d) = Unit {0}
StatesSome (N.facilities ds) = Unit {0}
StatesSome (N.declared rs ms ts) = Unit {0}
StatesSome (N.operations os) = Unit {0}
StatesSome (N.label l v) = Unit {0}
StatesSome (N.states ss) = StatesTidy ss × Some ss
StatesSome (N.text t) = Unit {0}
StatesSome N.nothing = Unit {0}

-- What the tree of each notion is.
abbrev pub TidyAs : Notion → Tree → Type 0
TidyAs N.reference t = Referring t
TidyAs N.boolean_exp t = Plainly t
TidyAs N.minterm t = Plainly t
TidyAs N.product t = Plainly t
TidyAs N.complement t = Plainly t
TidyAs N.chain t = Plainly t
TidyAs N.reduction t = Plainly t
TidyAs N.adjustment t = Plainly t
TidyAs N.relation t = Plainly t
TidyAs N.arithmetic t = Plainly t
TidyAs N.term t = Plainly t
TidyAs N.expression_arms t = Plainly t
TidyAs N.range t = Plainly t
TidyAs N.dimensions t = Plainly t
TidyAs N.left_side t = Plainly t
TidyAs (N.action_list s) t = Plainly t
TidyAs (N.rest s) t = Plainly t
TidyAs (N.arms s) t = Plainly t
TidyAs (N.more_arms s) t = Plainly t
TidyAs N.register_spec t = Ranked 0 t
TidyAs N.memory_spec t = Ranked 1 t
TidyAs N.terminal_spec t = Ranked 2 t
TidyAs N.register_specs t = RankedSome 0 t
TidyAs N.memory_specs t = RankedSome 1 t
TidyAs N.terminal_specs t = RankedSome 2 t
TidyAs N.register_section t = RankedSome 0 t
TidyAs N.memory_section t = RankedSome 1 t
TidyAs N.terminal_section t = RankedSome 2 t
TidyAs N.memory_option t = Ranked 1 t
TidyAs N.terminal_option t = Ranked 2 t
TidyAs N.declaration t = DeclaredTidy t
TidyAs N.operation_defs t = Plainly t
TidyAs N.operation_section t = Plainly t
TidyAs N.state_label t = Plainly t
TidyAs N.state_def t = StatesSome t
TidyAs N.state_defs t = StatesSome t
TidyAs N.control_section t = StatesSome t
TidyAs N.ending t = Unit {0}
TidyAs N.optional_ending t = Unit {0}
TidyAs N.dollar_option t = Unit {0}
TidyAs N.whole_text t = Plainly t

some-cons : {A : Type 0} {x : A} {xs : List A} → Some (x ∷ xs)
some-cons e = let z : ◌≡◌ {A = ℕ} 0 1 = cc in omega arith

some_left : {A : Type 0} (xs ys : List A) → Some xs → Some (xs ++ ys)
some_left [] ys h = λ e. h refl
some_left (x ∷ xs) ys h = some-cons

-- An option of a section asks for no declaration.
ranked-of : (r : ℕ) (t : Tree) → RankedSome r t → Ranked r t
ranked-of r (N.expression e) h = tt
ranked-of r (N.left l) h = tt
ranked-of r (N.actions a) h = tt
ranked-of r (N.ends x) h = tt
ranked-of r (N.extent x) h = tt
ranked-of r (N.facility d) h = absurd h
ranked-of r (N.facilities ds) h = h.0
ranked-of r (N.declared rs ms ts) h = tt
ranked-of r (N.operations os) h = tt
ranked-of r (N.label l v) h = tt
ranked-of r (N.states ss) h = tt
ranked-of r (N.text t) h = tt
ranked-of r N.nothing h = tt

-- A reference is an expression.
plain_of : (t : Tree) → Referring t → Plainly t
plain_of (N.expression e) h = reference-tidy e h
plain_of (N.left l) h = absurd h
plain_of (N.actions a) h = absurd h
plain_of (N.ends x) h = absurd h
plain_of (N.extent x) h = absurd h
plain_of (N.facility d) h = absurd h
plain_of (N.facilities ds) h = absurd h
plain_of (N.declared rs ms ts) h = absurd h
plain_of (N.operations os) h = absurd h
plain_of (N.label l v) h = absurd h
plain_of (N.states ss) h = absurd h
plain_of (N.text t) h = absurd h
plain_of N.nothing h = absurd h

pub tidy : {n : Notion} {h : ℕ} {us : List Word} {t : Tree} → Is n h us t → WordsRight us → TidyAs n t
tidy G.ref-whole w = tt
tidy (G.ref-one c {us = us} x) w = tidy x (words_left us _ w.1.1)
tidy G.ref-part w = tt
tidy (G.ref-two c k {us = us} {vs = vs} x y) w = (tidy x (words_left us _ w.1.1), tidy y (words_left vs _ (words_right us _ w.1.1).1))
tidy (G.ref-two-apart c k l {us = us} {vs = vs} x y) w = (tidy x (words_left us _ w.1.1), tidy y (words_left vs _ (words_right us _ w.1.1).1.1))
tidy (G.ref-word-part c k l {us = us} x) w = tidy x (words_left us _ w.1.1)
tidy (G.ref-word-part-apart c k l m {us = us} x) w = tidy x (words_left us _ w.1.1)
tidy (G.or-one x) w = tidy x w
tidy (G.or-more {us = us} x y) w = (tidy x (words_left us _ w), tidy y (words_right us _ w).1)
tidy (G.exclusive-one x) w = tidy x w
tidy (G.exclusive-more {us = us} x y) w = (tidy x (words_left us _ w), tidy y (words_right us _ w).1)
tidy (G.and_one x) w = tidy x w
tidy (G.and-more {us = us} x y) w = (tidy x (words_left us _ w), tidy y (words_right us _ w).1)
tidy (G.complement-none x) w = tidy x w
tidy (G.complement-of x) w = tidy x w.1
tidy (G.con-one x) w = tidy x w
tidy (G.con-more {us = us} x y) w = (tidy x (words_left us _ w), tidy y (words_right us _ w).1)
tidy (G.reduction-none x) w = tidy x w
tidy (G.reduction-of e x) w = tidy x w.1.1
tidy (G.cut-none x) w = tidy x w
tidy (G.cut-more {us = us} q e x) w = tidy x (words_left us _ w)
tidy (G.relation-none x) w = tidy x w
tidy (G.relation-of {us = us} e x y) w = (tidy x (words_left us _ w), tidy y (words_right us _ w).1)
tidy (G.arithmetic-one x) w = tidy x w
tidy (G.negation-of x) w = tidy x w.1
tidy (G.arithmetic-more {us = us} e x y) w = (tidy x (words_left us _ w), tidy y (words_right us _ w).1)
tidy (G.term-reference {t = t} x) w = plain_of t (tidy x w)
tidy G.term-constant w = w.0
tidy (G.term-parens {us = us} q x) w = tidy x (words_left us _ w.1)
tidy (G.term-if {us = us} {vs = vs} {ws = ws} q r s x y z) w =
    let v = (words_right us _ w.1).1 in
    (tidy x (words_left us _ w.1), (tidy y (words_left vs _ v), tidy z (words_left ws _ (words_right vs _ v).1)))
tidy (G.term-case {us = us} {vs = vs} q x y) w = (tidy x (words_left us _ w.1), tidy y (words_left vs _ (words_right us _ w.1)))
tidy (G.arms-two {us = us} q x y) w = (tidy x (words_left us _ w.1), tidy y (words_right us _ w.1).1)
tidy (G.arms_next {us = us} p x y) w = (tidy x (words_left us _ w), tidy y (words_right us _ w).1)
tidy (G.left_one x) w = tidy x w
tidy (G.left-two {us = us} p x y) w = (tidy x (words_left us _ w), tidy y (words_right us _ w).1)
tidy (G.act-store {us = us} {vs = vs} e x y z) w =
    let v = (words_right us _ w).1 in
    (tidy x (words_left us _ w), (tidy y (words_left vs _ v), tidy z (words_right vs _ v)))
tidy (G.act-set {us = us} x y) w = (tidy x (words_left us _ w), tidy y (words_right us _ w).1)
tidy (G.act-perform x) w = tidy x w.1
tidy (G.act-goto x) w = tidy x w.1.1
tidy (G.act-call x) w = tidy x w.1.1
tidy (G.act-return x) w = tidy x w.1
tidy (G.act-when {us = us} {vs = vs} r q x y z) w =
    let v = (words_right us _ w.1).1 in
    (tidy x (words_left us _ w.1), (tidy y (words_left vs _ v), tidy z (words_right vs _ v).1))
tidy (G.act-if {us = us} {vs = vs} {xs = xs} t r q x y y2 z) w =
    let v = (words_right us _ w.1).1 in
    let u = (words_right vs _ v).1 in
    (tidy x (words_left us _ w.1), ((tidy y (words_left vs _ v), (tidy y2 (words_left xs _ u), tt)), tidy z (words_right xs _ u).1))
tidy (G.act-case {us = us} {vs = vs} q x y z) w =
    let v = words_right us _ w.1 in
    (tidy x (words_left us _ w.1), (tidy y (words_left vs _ v), tidy z (words_right vs _ v).1))
tidy G.rest-none w = tt
tidy (G.rest_more x) w = tidy x w.1
tidy (G.arms-one {us = us} x y) w = (tidy x (words_left us _ w.1), tidy y (words_right us _ w.1))
tidy G.arms_end w = tt
tidy (G.arms_more x) w = tidy x w
tidy G.range-both w = tt
tidy G.range_last w = tt
tidy G.no-dimension w = tt
tidy (G.one-dimension q x) w = tt
tidy (G.two-dimensions q r x y) w = tt
tidy (G.a-register x) w = record { name-right = w.0; ranked = refl; suits = tt; function-tidy = tt }
tidy (G.a-sequencing x) w = record { name-right = w.1.0; ranked = refl; suits = tt; function-tidy = tt }
tidy (G.a_memory x) w = record { name-right = w.0; ranked = refl; suits = tt; function-tidy = tt }
tidy (G.a-terminal x) w = record { name-right = w.0; ranked = refl; suits = tt; function-tidy = tt }
tidy (G.an-input q r s t u v y c one x) w = record { name-right = w.0; ranked = refl; suits = one; function-tidy = tt }
tidy (G.a-computed {us = us} one x y) w = record { name-right = w.0; ranked = refl; suits = one; function-tidy = tidy y (words_right us _ w.1).1 }
tidy (G.registers-one x) w = ((tidy x w, tt), some-cons)
tidy (G.registers-more {us = us} p x y) w = ((tidy x (words_left us _ w), (tidy y (words_right us _ w).1).0), some-cons)
tidy (G.memories-one x) w = ((tidy x w, tt), some-cons)
tidy (G.memories-more {us = us} p x y) w = ((tidy x (words_left us _ w), (tidy y (words_right us _ w).1).0), some-cons)
tidy (G.terminals-one x) w = ((tidy x w, tt), some-cons)
tidy (G.terminals-more {us = us} p x y) w = ((tidy x (words_left us _ w), (tidy y (words_right us _ w).1).0), some-cons)
tidy (G.an-ending e) w = tt
tidy (G.register-section {us = us} x y) w = tidy x (words_left us _ w.1)
tidy (G.memory-section {us = us} x y) w = tidy x (words_left us _ w.1)
tidy (G.terminal-section {us = us} x y) w = tidy x (words_left us _ w.1)
tidy G.no-memories w = tt
tidy (G.some-memories {t = t} x) w = ranked-of 1 t (tidy x w)
tidy G.no-terminals w = tt
tidy (G.some-terminals {t = t} x) w = ranked-of 2 t (tidy x w)
tidy (G.with-registers {us = us} {vs = vs} {rs = rs} x y z) w =
    let v = words_right us _ w in
    let r = tidy x (words_left us _ w) in
    (r.0, (tidy y (words_left vs _ v), (tidy z (words_right vs _ v), some_left rs _ r.1)))
tidy (G.with-memories {us = us} {ms = ms} x y) w =
    let m = tidy x (words_left us _ w) in
    (tt, (m.0, (tidy y (words_right us _ w), some_left ms _ m.1)))
tidy (G.with-terminals x) w = let t = tidy x w in (tt, (tt, (t.0, t.1)))
tidy (G.operations-one {us = us} q r s x) w = ((w.0, tidy x (words_left us _ w.1.1.1)), tt)
tidy (G.operations-more {us = us} q r s t x y) w = ((w.0, tidy x (words_left us _ w.1.1.1)), tidy y (words_right us _ w.1.1.1).1.1)
tidy G.no-ending w = tt
tidy (G.some-ending x) w = tt
tidy G.no-operations w = tt
tidy (G.some-operations {us = us} x y) w = tidy x (words_left us _ w.1)
tidy G.no_label w = tt
tidy G.plain_label w = w.0
tidy G.label-with-value w = (w.0, w.1.1.0)
tidy (G.states-one x) w = tidy x w
tidy (G.states-more {us = us} x y) w = (((tidy x (words_left us _ w)).0.0, (tidy y (words_right us _ w)).0), some-cons)
tidy (G.state-idle {us = us} p x) w = (((tidy x (words_left us _ w), tt), tt), some-cons)
tidy (G.state-acting {us = us} {vs = vs} p x y) w = (((tidy x (words_left us _ w), tidy y (words_left vs _ (words_right us _ w))), tt), some-cons)
tidy (G.control-section {us = us} x y) w = tidy x (words_left us _ w.1)
tidy G.no-dollar w = tt
tidy G.some-dollar w = tt
tidy (G.whole-text {us = us} {vs = vs} {ws = ws} x y z d) w =
    let v = words_right us _ w in
    let u = words_right vs _ v in
    let decl = tidy x (words_left us _ w) in
    let st = tidy z (words_left ws _ u) in
    record {
      registers = decl.0;
      memories = decl.1.0;
      terminals = decl.1.1.0;
      operations = tidy y (words_left vs _ v);
      states = st.0;
      some-facility = decl.1.1.1;
      some-state = st.1;
    }
