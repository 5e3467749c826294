-- The grammar does not look at places: what words derive, the same words at other places derive too, with a tree that differs in places alone. By induction over the derivation, a clause for each rule. Assumes nothing.
use mathlib.Core.List.{List, [], ◌∷◌, ◌++◌, map, map-append}
use Rattle.std.proofs.Math.Option.{Option, none, some}
use Rattle.std.specs.Prelude.{◌≡◌, ℕ, suc, ◌+◌}
use Rattle.std.proofs.Math.Path.{refl}
use Rattle.std.proofs.Common.{ap, ◌∙◌, arith}
use Rattle.std.proofs.Math.ListN.{length}
use Rattle.language.specs.Grammar as G
use Rattle.language.specs.Grammar.{Is}
use Rattle.language.specs.Kinds.{con_word, difference_sign, exclusive_sign, minus, plus, star}
use Rattle.language.specs.Notions as N
use Rattle.language.specs.Notions.{AtMostOne, Notion, Tree}
use Rattle.language.specs.Tree as T
use Rattle.language.specs.Tree.{Declaration, Extent, Label, Operation, State, StateValue, Text}
use Rattle.language.specs.Words as W
use Rattle.language.specs.Words.{Position, Word}
use Rattle.about_texts.specs.Unplaced.{unplaced_actions, unplaced_declaration, unplaced_ends, unplaced_expression, unplaced_extent, unplaced_label, unplaced_left, unplaced_operation, unplaced_state, unplaced_text, unplaced_value}

-- Words at other places: that of the first is the i-th.
unfoldable pub at : (ℕ → Position) → ℕ → List Word → List Word
at place i [] = []
at place i (W.name n p ∷ ws) = W.name n (place i) ∷ at place (suc i) ws
at place i (W.constant c p ∷ ws) = W.constant c (place i) ∷ at place (suc i) ws
at place i (W.sign k p ∷ ws) = W.sign k (place i) ∷ at place (suc i) ws

at-append : (place : ℕ → Position) (i : ℕ) (us vs : List Word) → at place i (us ++ vs) ≡ at place i us ++ at place (i + length us) vs
unfolding at
at-append place i [] vs = let e : i + 0 ≡ i = omega arith in rw e refl
at-append place i (W.name n p ∷ us) vs = let e : i + suc (length us) ≡ suc i + length us = omega arith in rw (e, at-append place (suc i) us vs) refl
at-append place i (W.constant c p ∷ us) vs = let e : i + suc (length us) ≡ suc i + length us = omega arith in rw (e, at-append place (suc i) us vs) refl
at-append place i (W.sign k p ∷ us) vs = let e : i + suc (length us) ≡ suc i + length us = omega arith in rw (e, at-append place (suc i) us vs) refl

-- A tree that these words derive, which differs from x in places alone.
pub record Moved {A : Type 0} (form : A → Tree) (bare : A → A) (n : Notion) (h : ℕ) (ws : List Word) (x : A) : Type 0 where
  pub tree : A
  pub derived : Is n h ws (form tree)
  pub same : bare tree ≡ bare x

abbrev Declared : Type 0
Declared = List Declaration × (List Declaration × List Declaration)

abbrev unplaced_declared : Declared → Declared
unplaced_declared x = (map unplaced_declaration x.0, (map unplaced_declaration x.1.0, map unplaced_declaration x.1.1))

abbrev Labelled : Type 0
Labelled = Option Label × Option StateValue

abbrev unplaced_labelled : Labelled → Labelled
unplaced_labelled x = (unplaced_label x.0, unplaced_value x.1)

abbrev MovedTo : Notion → ℕ → List Word → Tree → Type 0
MovedTo n h ws (N.expression e) = Moved N.expression unplaced_expression n h ws e
MovedTo n h ws (N.left l) = Moved N.left unplaced_left n h ws l
MovedTo n h ws (N.actions a) = Moved N.actions unplaced_actions n h ws a
MovedTo n h ws (N.ends x) = Moved N.ends unplaced_ends n h ws x
MovedTo n h ws (N.extent x) = Moved N.extent unplaced_extent n h ws x
MovedTo n h ws (N.facility d) = Moved N.facility unplaced_declaration n h ws d
MovedTo n h ws (N.facilities ds) = Moved N.facilities (map unplaced_declaration) n h ws ds
MovedTo n h ws (N.declared rs ms ts) = Moved {A = Declared} (λ x. N.declared x.0 x.1.0 x.1.1) unplaced_declared n h ws (rs, (ms, ts))
MovedTo n h ws (N.operations os) = Moved N.operations (map unplaced_operation) n h ws os
MovedTo n h ws (N.label l v) = Moved {A = Labelled} (λ x. N.label x.0 x.1) unplaced_labelled n h ws (l, v)
MovedTo n h ws (N.states ss) = Moved N.states (map unplaced_state) n h ws ss
MovedTo n h ws (N.text t) = Unit {0}
MovedTo n h ws N.nothing = Is n h ws N.nothing

-- A rule over one, two or three moved parts, from what it makes of them, what then derives it, and that places alone make a difference.
module _ {B : Type 0} {g : B → Tree} {v : B → B} {m : Notion} {k : ℕ} {vs : List Word} {y : B} where
  module _ {A : Type 0} {f : A → Tree} {u : A → A} {n : Notion} {h : ℕ} {ws : List Word} {x : A} where
    lift1 : (make : A → B) → ((a : A) → Is n h ws (f a) → u a ≡ u x → Is m k vs (g (make a))) → ((a : A) → u a ≡ u x → v (make a) ≡ v y) → Moved f u n h ws x → Moved g v m k vs y
    lift1 make d q a = record { tree = make a.tree; derived = d a.tree a.derived a.same; same = q a.tree a.same }

    module _ {A' : Type 0} {f' : A' → Tree} {u' : A' → A'} {n' : Notion} {h' : ℕ} {ws' : List Word} {x' : A'} where
      lift2 : (make : A → A' → B) → ((a : A) (b : A') → Is n h ws (f a) → Is n' h' ws' (f' b) → u a ≡ u x → u' b ≡ u' x' → Is m k vs (g (make a b))) → ((a : A) (b : A') → u a ≡ u x → u' b ≡ u' x' → v (make a b) ≡ v y)
          → Moved f u n h ws x → Moved f' u' n' h' ws' x' → Moved g v m k vs y
      lift2 make d q a b = record { tree = make a.tree b.tree; derived = d a.tree b.tree a.derived b.derived a.same b.same; same = q a.tree b.tree a.same b.same }

      module _ {C : Type 0} {fc : C → Tree} {uc : C → C} {nc : Notion} {hc : ℕ} {wc : List Word} {xc : C} where
        lift3 : (make : A → A' → C → B)
            → ((a : A) (b : A') (c : C) → Is n h ws (f a) → Is n' h' ws' (f' b) → Is nc hc wc (fc c) → u a ≡ u x → u' b ≡ u' x' → uc c ≡ uc xc → Is m k vs (g (make a b c)))
            → ((a : A) (b : A') (c : C) → u a ≡ u x → u' b ≡ u' x' → uc c ≡ uc xc → v (make a b c) ≡ v y) → Moved f u n h ws x → Moved f' u' n' h' ws' x' → Moved fc uc nc hc wc xc → Moved g v m k vs y
        lift3 make d q a b c = record {
          tree = make a.tree b.tree c.tree;
          derived = d a.tree b.tree c.tree a.derived b.derived c.derived a.same b.same c.same;
          same = q a.tree b.tree c.tree a.same b.same c.same;
        }

        module _ {E : Type 0} {fe : E → Tree} {ue : E → E} {ne : Notion} {he : ℕ} {we : List Word} {xe : E} where
          lift4 : (make : A → A' → C → E → B)
              → ((a : A) (b : A') (c : C) (e : E) → Is n h ws (f a) → Is n' h' ws' (f' b) → Is nc hc wc (fc c) → Is ne he we (fe e) → u a ≡ u x → u' b ≡ u' x' → uc c ≡ uc xc → ue e ≡ ue xe → Is m k vs (g (make a b c e)))
              → ((a : A) (b : A') (c : C) (e : E) → u a ≡ u x → u' b ≡ u' x' → uc c ≡ uc xc → ue e ≡ ue xe → v (make a b c e) ≡ v y)
              → Moved f u n h ws x → Moved f' u' n' h' ws' x' → Moved fc uc nc hc wc xc → Moved fe ue ne he we xe → Moved g v m k vs y
          lift4 make d q a b c e = record {
            tree = make a.tree b.tree c.tree e.tree;
            derived = d a.tree b.tree c.tree e.tree a.derived b.derived c.derived e.derived a.same b.same c.same e.same;
            same = q a.tree b.tree c.tree e.tree a.same b.same c.same e.same;
          }

-- A rule that has the tree of its only part.
through : {m n : Notion} {g h : ℕ} {vs ws : List Word} (t : Tree) → ((u : Tree) → Is m g vs u → Is n h ws u) → MovedTo m g vs t → MovedTo n h ws t
through (N.expression e) f x = record { tree = x.tree; derived = f _ x.derived; same = x.same }
through (N.left l) f x = record { tree = x.tree; derived = f _ x.derived; same = x.same }
through (N.actions a) f x = record { tree = x.tree; derived = f _ x.derived; same = x.same }
through (N.ends y) f x = record { tree = x.tree; derived = f _ x.derived; same = x.same }
through (N.extent y) f x = record { tree = x.tree; derived = f _ x.derived; same = x.same }
through (N.facility d) f x = record { tree = x.tree; derived = f _ x.derived; same = x.same }
through (N.facilities ds) f x = record { tree = x.tree; derived = f _ x.derived; same = x.same }
through (N.declared rs ms ts) f x = record { tree = x.tree; derived = f _ x.derived; same = x.same }
through (N.operations os) f x = record { tree = x.tree; derived = f _ x.derived; same = x.same }
through (N.label l v) f x = record { tree = x.tree; derived = f _ x.derived; same = x.same }
through (N.states ss) f x = record { tree = x.tree; derived = f _ x.derived; same = x.same }
through (N.text u) f x = tt
through N.nothing f x = f _ x

-- Places do not tell how many dimensions there are.
still_one : (x y : Extent) → unplaced_extent x ≡ unplaced_extent y → AtMostOne y → AtMostOne x
still_one T.single y e h = tt
still_one (T.row x) y e h = tt
still_one (T.table x z) T.single e h = absurd (let q : ◌≡◌ {A = ℕ} 0 1 = cc in omega arith)
still_one (T.table x z) (T.row y) e h = absurd (let q : ◌≡◌ {A = ℕ} 0 1 = cc in omega arith)
still_one (T.table x z) (T.table y w) e h = absurd h

first-same : {A B : Type 0} {x y : A × B} → x ≡ y → x.0 ≡ y.0
first-same {A} {B} e = ap {A = A × B} (λ z. z.0) e

second-same : {A B : Type 0} {x y : A × B} → x ≡ y → x.1 ≡ y.1
second-same {A} {B} e = ap {A = A × B} (λ z. z.1) e

-- The tree of one state is one state.
record Lone (ss : List State) : Type 0 where
  state : State
  alone : ss ≡ state ∷ []

lone : (ss : List State) {s : State} → map unplaced_state ss ≡ s ∷ [] → Lone ss
lone [] e = absurd (let q : ◌≡◌ {A = ℕ} 0 1 = cc in omega arith)
lone (s ∷ []) e = record { state = s; alone = refl }
lone (s ∷ t ∷ ss) e = absurd (let q : ◌≡◌ {A = ℕ} 0 1 = cc in omega arith)

module _ (place : ℕ → Position) where
  moved : {n : Notion} {h : ℕ} {us : List Word} {t : Tree} (i : ℕ) → Is n h us t → MovedTo n h (at place i us) t
  unfolding at unplaced_expression unplaced_actions
  moved i (G.ref-whole {n = n}) = record { tree = T.whole n (place i); derived = G.ref-whole; same = refl }
  moved i (G.ref-one {n = n} c {us = us} a1) =
      lift1 (λ e1. T.one n (place i) e1) (λ e1 d1 q1. simp at-append (G.ref-one (place (suc (suc i) + length us)) d1)) (λ e1 q1. rw q1 refl) (moved (suc (suc i)) a1)
  moved i (G.ref-part {n = n} {x = x} {y = y}) = record { tree = T.part n (place i) (N.pair_of x (place (suc (suc i))) y (place (suc (suc (suc (suc i)))))); derived = G.ref-part; same = refl }
  moved i (G.ref-two {n = n} c k {us = us} {vs = vs} a1 a2) =
      lift2 (λ e1 e2. T.two n (place i) e1 e2) (λ e1 e2 d1 d2 q1 q2. simp at-append (G.ref-two (place (suc (suc (suc i) + length us) + length vs)) (place (suc (suc i) + length us)) d1 d2)) (λ e1 e2 q1 q2. rw (q1, q2) refl) (moved (suc (suc i)) a1) (moved (suc (suc (suc i) + length us)) a2)
  moved i (G.ref-two-apart {n = n} c k l {us = us} {vs = vs} a1 a2) =
      lift2 (λ e1 e2. T.two n (place i) e1 e2) (λ e1 e2 d1 d2 q1 q2. rw (at-append place (suc (suc i)) us, at-append place (suc (suc (suc (suc i) + length us))) vs) (G.ref-two-apart (place (suc (suc (suc (suc i) + length us)) + length vs)) (place (suc (suc i) + length us)) (place (suc (suc (suc i) + length us))) d1 d2)) (λ e1 e2 q1 q2. rw (q1, q2) refl) (moved (suc (suc i)) a1) (moved (suc (suc (suc (suc i) + length us))) a2)
  moved i (G.ref-word-part {n = n} c k l {us = us} {x = x} {y = y} a1) =
      lift1 (λ e1. T.word_part n (place i) e1 (N.pair_of x (place (suc (suc (suc i) + length us))) y (place (suc (suc (suc (suc (suc i) + length us))))))) (λ e1 d1 q1. simp at-append (G.ref-word-part (place (suc (suc (suc (suc (suc (suc i) + length us)))))) (place (suc (suc i) + length us)) (place (suc (suc (suc (suc i) + length us)))) d1)) (λ e1 q1. rw q1 refl) (moved (suc (suc i)) a1)
  moved i (G.ref-word-part-apart {n = n} c k l m {us = us} {x = x} {y = y} a1) =
      lift1 (λ e1. T.word_part n (place i) e1 (N.pair_of x (place (suc (suc (suc (suc i) + length us)))) y (place (suc (suc (suc (suc (suc (suc i) + length us)))))))) (λ e1 d1 q1. rw (at-append place (suc (suc i)) us) (G.ref-word-part-apart (place (suc (suc (suc (suc (suc (suc (suc i) + length us))))))) (place (suc (suc i) + length us)) (place (suc (suc (suc (suc (suc i) + length us))))) (place (suc (suc (suc i) + length us))) d1)) (λ e1 q1. rw q1 refl) (moved (suc (suc i)) a1)
  moved i (G.or-one {t = t} a1) = through t (λ v d. G.or-one d) (moved i a1)
  moved i (G.or-more {us = us} a1 a2) =
      lift2 (λ e1 e2. T.binary plus (place (i + length us)) e1 e2) (λ e1 e2 d1 d2 q1 q2. simp at-append (G.or-more d1 d2)) (λ e1 e2 q1 q2. rw (q1, q2) refl) (moved i a1) (moved (suc (i + length us)) a2)
  moved i (G.exclusive-one {t = t} a1) = through t (λ v d. G.exclusive-one d) (moved i a1)
  moved i (G.exclusive-more {us = us} a1 a2) =
      lift2 (λ e1 e2. T.binary exclusive_sign (place (i + length us)) e1 e2) (λ e1 e2 d1 d2 q1 q2. simp at-append (G.exclusive-more d1 d2)) (λ e1 e2 q1 q2. rw (q1, q2) refl) (moved i a1) (moved (suc (i + length us)) a2)
  moved i (G.and_one {t = t} a1) = through t (λ v d. G.and_one d) (moved i a1)
  moved i (G.and-more {us = us} a1 a2) =
      lift2 (λ e1 e2. T.binary star (place (i + length us)) e1 e2) (λ e1 e2 d1 d2 q1 q2. simp at-append (G.and-more d1 d2)) (λ e1 e2 q1 q2. rw (q1, q2) refl) (moved i a1) (moved (suc (i + length us)) a2)
  moved i (G.complement-none {t = t} a1) = through t (λ v d. G.complement-none d) (moved i a1)
  moved i (G.complement-of a1) =
      lift1 (λ e1. T.prefix minus (place i) e1) (λ e1 d1 q1. G.complement-of d1) (λ e1 q1. rw q1 refl) (moved (suc i) a1)
  moved i (G.con-one {t = t} a1) = through t (λ v d. G.con-one d) (moved i a1)
  moved i (G.con-more {us = us} a1 a2) =
      lift2 (λ e1 e2. T.binary con_word (place (i + length us)) e1 e2) (λ e1 e2 d1 d2 q1 q2. simp at-append (G.con-more d1 d2)) (λ e1 e2 q1 q2. rw (q1, q2) refl) (moved i a1) (moved (suc (i + length us)) a2)
  moved i (G.reduction-none {t = t} a1) = through t (λ v d. G.reduction-none d) (moved i a1)
  moved i (G.reduction-of {k = k} a1 a2) =
      lift1 (λ e2. T.prefix k (place i) e2) (λ e2 d2 q2. G.reduction-of a1 d2) (λ e2 q2. rw q2 refl) (moved (suc (suc i)) a2)
  moved i (G.cut-none {t = t} a1) = through t (λ v d. G.cut-none d) (moved i a1)
  moved i (G.cut-more {k = k} {us = us} q {c = c} a1 a2) =
      lift1 (λ e2. T.cut k (place (i + length us)) e2 c) (λ e2 d2 q2. simp at-append (G.cut-more (place (suc (i + length us))) a1 d2)) (λ e2 q2. rw q2 refl) (moved i a2)
  moved i (G.relation-none {t = t} a1) = through t (λ v d. G.relation-none d) (moved i a1)
  moved i (G.relation-of {k = k} {us = us} a1 a2 a3) =
      lift2 (λ e2 e3. T.binary k (place (i + length us)) e2 e3) (λ e2 e3 d2 d3 q2 q3. simp at-append (G.relation-of a1 d2 d3)) (λ e2 e3 q2 q3. rw (q2, q3) refl) (moved i a2) (moved (suc (i + length us)) a3)
  moved i (G.arithmetic-one {t = t} a1) = through t (λ v d. G.arithmetic-one d) (moved i a1)
  moved i (G.negation-of a1) =
      lift1 (λ e1. T.prefix difference_sign (place i) e1) (λ e1 d1 q1. G.negation-of d1) (λ e1 q1. rw q1 refl) (moved (suc i) a1)
  moved i (G.arithmetic-more {k = k} {us = us} a1 a2 a3) =
      lift2 (λ e2 e3. T.binary k (place (i + length us)) e2 e3) (λ e2 e3 d2 d3 q2 q3. simp at-append (G.arithmetic-more a1 d2 d3)) (λ e2 e3 q2 q3. rw (q2, q3) refl) (moved i a2) (moved (suc (i + length us)) a3)
  moved i (G.term-reference {t = t} a1) = through t (λ v d. G.term-reference d) (moved i a1)
  moved i (G.term-constant {c = c}) = record { tree = T.constant c (place i); derived = G.term-constant; same = refl }
  moved i (G.term-parens {us = us} q {t = t} a1) = through t (λ v d. simp at-append (G.term-parens (place (suc i + length us)) d)) (moved (suc i) a1)
  moved i (G.term-if {us = us} {vs = vs} {ws = ws} q r s a1 a2 a3) =
      lift3 (λ e1 e2 e3. T.choice (place i) e1 (T.next_arm (T.first_arm e2) e3)) (λ e1 e2 e3 d1 d2 d3 q1 q2 q3. simp at-append (G.term-if (place (suc i + length us)) (place (suc (suc i + length us) + length vs)) (place (suc (suc (suc i + length us) + length vs) + length ws)) d1 d2 d3)) (λ e1 e2 e3 q1 q2 q3. rw (q1, q2, q3) refl) (moved (suc i) a1) (moved (suc (suc i + length us)) a2) (moved (suc (suc (suc i + length us) + length vs)) a3)
  moved i (G.term-case {us = us} {vs = vs} q a1 a2) =
      lift2 (λ e1 e2. T.choice (place i) e1 e2) (λ e1 e2 d1 d2 q1 q2. simp at-append (G.term-case (place (suc i + length us + length vs)) d1 d2)) (λ e1 e2 q1 q2. rw (q1, q2) refl) (moved (suc i) a1) (moved (suc i + length us) a2)
  moved i (G.arms-two {us = us} q a1 a2) =
      lift2 (λ e1 e2. T.next_arm (T.first_arm e1) e2) (λ e1 e2 d1 d2 q1 q2. simp at-append (G.arms-two (place (suc i + length us)) d1 d2)) (λ e1 e2 q1 q2. rw (q1, q2) refl) (moved (suc i) a1) (moved (suc (suc i + length us)) a2)
  moved i (G.arms_next {us = us} p a1 a2) =
      lift2 (λ e1 e2. T.next_arm e1 e2) (λ e1 e2 d1 d2 q1 q2. simp at-append (G.arms_next (place (i + length us)) d1 d2)) (λ e1 e2 q1 q2. rw (q1, q2) refl) (moved i a1) (moved (suc (i + length us)) a2)
  moved i (G.left_one a1) =
      lift1 (λ e1. T.single e1) (λ e1 d1 q1. G.left_one d1) (λ e1 q1. rw q1 refl) (moved i a1)
  moved i (G.left-two {us = us} p a1 a2) =
      lift2 (λ e1 e2. T.pair e1 e2) (λ e1 e2 d1 d2 q1 q2. simp at-append (G.left-two (place (i + length us)) d1 d2)) (λ e1 e2 q1 q2. rw (q1, q2) refl) (moved i a1) (moved (suc (i + length us)) a2)
  moved i (G.act-store {k = k} {us = us} {vs = vs} a1 a2 a3 a4) =
      lift3 (λ e2 e3 e4. T.store k (place (i + length us)) e2 e3 e4) (λ e2 e3 e4 d2 d3 d4 q2 q3 q4. simp at-append (G.act-store a1 d2 d3 d4)) (λ e2 e3 e4 q2 q3 q4. rw (q2, q3, q4) refl) (moved i a2) (moved (suc (i + length us)) a3) (moved (suc (i + length us) + length vs) a4)
  moved i (G.act-set {us = us} a1 a2) =
      lift2 (λ e1 e2. T.set (place (i + length us)) e1 e2) (λ e1 e2 d1 d2 q1 q2. simp at-append (G.act-set d1 d2)) (λ e1 e2 q1 q2. rw (q1, q2) refl) (moved i a1) (moved (suc (i + length us)) a2)
  moved i (G.act-perform {n = n} a1) =
      lift1 (λ e1. T.perform n (place i) e1) (λ e1 d1 q1. G.act-perform d1) (λ e1 q1. rw q1 refl) (moved (suc i) a1)
  moved i (G.act-goto {n = n} a1) =
      lift1 (λ e1. T.goto n (place (suc i)) e1) (λ e1 d1 q1. G.act-goto d1) (λ e1 q1. rw q1 refl) (moved (suc (suc i)) a1)
  moved i (G.act-call {n = n} a1) =
      lift1 (λ e1. T.call n (place (suc i)) e1) (λ e1 d1 q1. G.act-call d1) (λ e1 q1. rw q1 refl) (moved (suc (suc i)) a1)
  moved i (G.act-return a1) =
      lift1 (λ e1. T.return (place i) e1) (λ e1 d1 q1. G.act-return d1) (λ e1 q1. rw q1 refl) (moved (suc i) a1)
  moved i (G.act-when {us = us} {vs = vs} r q a1 a2 a3) =
      lift3 (λ e1 e2 e3. T.when (place i) e1 e2 e3) (λ e1 e2 e3 d1 d2 d3 q1 q2 q3. simp at-append (G.act-when (place (suc (suc i + length us) + length vs)) (place (suc i + length us)) d1 d2 d3)) (λ e1 e2 e3 q1 q2 q3. rw (q1, q2, q3) refl) (moved (suc i) a1) (moved (suc (suc i + length us)) a2) (moved (suc (suc (suc i + length us) + length vs)) a3)
  moved i (G.act-if {us = us} {vs = vs} {xs = xs} t r q a1 a2 a3 a4) =
      lift4 (λ e1 e2 e3 e4. T.choose (place i) e1 (T.arm e2 (T.arm e3 T.done)) e4) (λ e1 e2 e3 e4 d1 d2 d3 d4 q1 q2 q3 q4. simp at-append (G.act-if (place (suc (suc (suc i + length us) + length vs) + length xs)) (place (suc (suc i + length us) + length vs)) (place (suc i + length us)) d1 d2 d3 d4)) (λ e1 e2 e3 e4 q1 q2 q3 q4. rw (q1, q2, q3, q4) refl) (moved (suc i) a1) (moved (suc (suc i + length us)) a2) (moved (suc (suc (suc i + length us) + length vs)) a3) (moved (suc (suc (suc (suc i + length us) + length vs) + length xs)) a4)
  moved i (G.act-case {us = us} {vs = vs} q a1 a2 a3) =
      lift3 (λ e1 e2 e3. T.choose (place i) e1 e2 e3) (λ e1 e2 e3 d1 d2 d3 q1 q2 q3. simp at-append (G.act-case (place (suc i + length us + length vs)) d1 d2 d3)) (λ e1 e2 e3 q1 q2 q3. rw (q1, q2, q3) refl) (moved (suc i) a1) (moved (suc i + length us) a2) (moved (suc (suc i + length us + length vs)) a3)
  moved i G.rest-none = record { tree = T.done; derived = G.rest-none; same = refl }
  moved i (G.rest_more a1) =
      lift1 (λ e1. e1) (λ e1 d1 q1. G.rest_more d1) (λ e1 q1. q1) (moved (suc i) a1)
  moved i (G.arms-one {us = us} a1 a2) =
      lift2 (λ e1 e2. T.arm e1 e2) (λ e1 e2 d1 d2 q1 q2. simp at-append (G.arms-one d1 d2)) (λ e1 e2 q1 q2. rw (q1, q2) refl) (moved (suc i) a1) (moved (suc i + length us) a2)
  moved i G.arms_end = record { tree = T.done; derived = G.arms_end; same = refl }
  moved i (G.arms_more a1) =
      lift1 (λ e1. e1) (λ e1 d1 q1. G.arms_more d1) (λ e1 q1. q1) (moved i a1)
  moved i (G.range-both {c = c} {d = d}) = record { tree = N.pair_of c (place i) d (place (suc (suc i))); derived = G.range-both; same = refl }
  moved i (G.range_last {d = d}) = record { tree = N.pair_of N.one_bound (place i) d (place i); derived = G.range_last; same = refl }
  moved i G.no-dimension = record { tree = T.single; derived = G.no-dimension; same = refl }
  moved i (G.one-dimension {us = us} q a1) =
      lift1 (λ e1. T.row e1) (λ e1 d1 q1. simp at-append (G.one-dimension (place (suc i + length us)) d1)) (λ e1 q1. rw q1 refl) (moved (suc i) a1)
  moved i (G.two-dimensions {us = us} {vs = vs} q r a1 a2) =
      lift2 (λ e1 e2. T.table e1 e2) (λ e1 e2 d1 d2 q1 q2. simp at-append (G.two-dimensions (place (suc i + length us)) (place (suc (suc i + length us) + length vs)) d1 d2)) (λ e1 e2 q1 q2. rw (q1, q2) refl) (moved (suc i) a1) (moved (suc (suc i + length us)) a2)
  moved i (G.a-register {n = n} a1) =
      lift1 (λ e1. N.as_declared T.register n (place i) e1 T.unspecified) (λ e1 d1 q1. G.a-register d1) (λ e1 q1. rw q1 refl) (moved (suc i) a1)
  moved i (G.a-sequencing {n = n} a1) =
      lift1 (λ e1. N.as_declared T.sequencing n (place (suc i)) e1 T.unspecified) (λ e1 d1 q1. G.a-sequencing d1) (λ e1 q1. rw q1 refl) (moved (suc (suc i)) a1)
  moved i (G.a_memory {n = n} a1) =
      lift1 (λ e1. N.as_declared T.memory n (place i) e1 T.unspecified) (λ e1 d1 q1. G.a_memory d1) (λ e1 q1. rw q1 refl) (moved (suc i) a1)
  moved i (G.a-terminal {n = n} a1) =
      lift1 (λ e1. N.as_declared T.plain n (place i) e1 T.unspecified) (λ e1 d1 q1. G.a-terminal d1) (λ e1 q1. rw q1 refl) (moved (suc i) a1)
  moved i (G.an-input {n = n} {us = us} {x = x} q r s t u v w c a1 a2) =
      lift1 (λ e2. N.as_declared T.input n (place i) e2 T.from_input) (λ e2 d2 q2. simp at-append (G.an-input (place (suc i + length us)) (place (suc (suc i + length us))) (place (suc (suc (suc i + length us)))) (place (suc (suc (suc (suc i + length us))))) (place (suc (suc (suc (suc (suc i + length us)))))) (place (suc (suc (suc (suc (suc (suc i + length us))))))) (place (suc (suc (suc (suc (suc (suc (suc i + length us)))))))) c (still_one e2 x q2 a1) d2)) (λ e2 q2. rw q2 refl) (moved (suc i) a2)
  moved i (G.a-computed {n = n} {us = us} {x = x} a1 a2 a3) =
      lift2 (λ e2 e3. N.as_declared T.computed n (place i) e2 (T.given (place (suc i + length us)) e3)) (λ e2 e3 d2 d3 q2 q3. simp at-append (G.a-computed (still_one e2 x q2 a1) d2 d3)) (λ e2 e3 q2 q3. rw (q2, q3) refl) (moved (suc i) a2) (moved (suc (suc i + length us)) a3)
  moved i (G.registers-one a1) =
      lift1 (λ e1. e1 ∷ []) (λ e1 d1 q1. G.registers-one d1) (λ e1 q1. rw q1 refl) (moved i a1)
  moved i (G.registers-more {us = us} p a1 a2) =
      lift2 (λ e1 e2. e1 ∷ e2) (λ e1 e2 d1 d2 q1 q2. simp at-append (G.registers-more (place (i + length us)) d1 d2)) (λ e1 e2 q1 q2. rw (q1, q2) refl) (moved i a1) (moved (suc (i + length us)) a2)
  moved i (G.memories-one a1) =
      lift1 (λ e1. e1 ∷ []) (λ e1 d1 q1. G.memories-one d1) (λ e1 q1. rw q1 refl) (moved i a1)
  moved i (G.memories-more {us = us} p a1 a2) =
      lift2 (λ e1 e2. e1 ∷ e2) (λ e1 e2 d1 d2 q1 q2. simp at-append (G.memories-more (place (i + length us)) d1 d2)) (λ e1 e2 q1 q2. rw (q1, q2) refl) (moved i a1) (moved (suc (i + length us)) a2)
  moved i (G.terminals-one a1) =
      lift1 (λ e1. e1 ∷ []) (λ e1 d1 q1. G.terminals-one d1) (λ e1 q1. rw q1 refl) (moved i a1)
  moved i (G.terminals-more {us = us} p a1 a2) =
      lift2 (λ e1 e2. e1 ∷ e2) (λ e1 e2 d1 d2 q1 q2. simp at-append (G.terminals-more (place (i + length us)) d1 d2)) (λ e1 e2 q1 q2. rw (q1, q2) refl) (moved i a1) (moved (suc (i + length us)) a2)
  moved i (G.an-ending a1) = G.an-ending a1
  moved i (G.register-section {us = us} a1 a2) =
      lift1 (λ e1. e1) (λ e1 d1 q1. simp at-append (G.register-section d1 (moved (suc i + length us) a2))) (λ e1 q1. q1) (moved (suc i) a1)
  moved i (G.memory-section {us = us} a1 a2) =
      lift1 (λ e1. e1) (λ e1 d1 q1. simp at-append (G.memory-section d1 (moved (suc i + length us) a2))) (λ e1 q1. q1) (moved (suc i) a1)
  moved i (G.terminal-section {us = us} a1 a2) =
      lift1 (λ e1. e1) (λ e1 d1 q1. simp at-append (G.terminal-section d1 (moved (suc i + length us) a2))) (λ e1 q1. q1) (moved (suc i) a1)
  moved i G.no-memories = record { tree = []; derived = G.no-memories; same = refl }
  moved i (G.some-memories {t = t} a1) = through t (λ v d. G.some-memories d) (moved i a1)
  moved i G.no-terminals = record { tree = []; derived = G.no-terminals; same = refl }
  moved i (G.some-terminals {t = t} a1) = through t (λ v d. G.some-terminals d) (moved i a1)
  moved i (G.with-registers {us = us} {vs = vs} a1 a2 a3) =
      lift3 (λ e1 e2 e3. (e1, (e2, e3))) (λ e1 e2 e3 d1 d2 d3 q1 q2 q3. simp at-append (G.with-registers d1 d2 d3)) (λ e1 e2 e3 q1 q2 q3. rw (q1, q2, q3) refl) (moved i a1) (moved (i + length us) a2) (moved (i + length us + length vs) a3)
  moved i (G.with-memories {us = us} a1 a2) =
      lift2 (λ e1 e2. ([], (e1, e2))) (λ e1 e2 d1 d2 q1 q2. simp at-append (G.with-memories d1 d2)) (λ e1 e2 q1 q2. rw (q1, q2) refl) (moved i a1) (moved (i + length us) a2)
  moved i (G.with-terminals a1) =
      lift1 (λ e1. ([], ([], e1))) (λ e1 d1 q1. G.with-terminals d1) (λ e1 q1. rw q1 refl) (moved i a1)
  moved i (G.operations-one {n = n} {us = us} q r s a1) =
      lift1 (λ e1. N.operation_of n (place i) e1 ∷ []) (λ e1 d1 q1. simp at-append (G.operations-one (place (suc i)) (place (suc (suc i))) (place (suc (suc (suc i)) + length us)) d1)) (λ e1 q1. rw q1 refl) (moved (suc (suc (suc i))) a1)
  moved i (G.operations-more {n = n} {us = us} q r s t a1 a2) =
      lift2 (λ e1 e2. N.operation_of n (place i) e1 ∷ e2) (λ e1 e2 d1 d2 q1 q2. simp at-append (G.operations-more (place (suc i)) (place (suc (suc i))) (place (suc (suc (suc i)) + length us)) (place (suc (suc (suc (suc i)) + length us))) d1 d2)) (λ e1 e2 q1 q2. rw (q1, q2) refl) (moved (suc (suc (suc i))) a1) (moved (suc (suc (suc (suc (suc i)) + length us))) a2)
  moved i G.no-ending = G.no-ending
  moved i (G.some-ending a1) = G.some-ending (moved i a1)
  moved i G.no-operations = record { tree = []; derived = G.no-operations; same = refl }
  moved i (G.some-operations {us = us} a1 a2) =
      lift1 (λ e1. e1) (λ e1 d1 q1. simp at-append (G.some-operations d1 (moved (suc i + length us) a2))) (λ e1 q1. q1) (moved (suc i) a1)
  moved i G.no_label = record { tree = (none, none); derived = G.no_label; same = refl }
  moved i (G.plain_label {n = n}) = record { tree = (some (record { name = n; at = place i }), none); derived = G.plain_label; same = refl }
  moved i (G.label-with-value {n = n} {c = c}) = record { tree = (some (record { name = n; at = place i }), some (record { constant = c; at = place (suc (suc i)) })); derived = G.label-with-value; same = refl }
  moved i (G.state-idle {us = us} p a1) =
      lift1 (λ (e1 : Labelled). N.state_of (N.first_place (at place i us) (place (i + length us))) e1.0 e1.1 T.done ∷ []) (λ (e1 : Labelled) d1 q1. simp at-append (G.state-idle (place (i + length us)) d1)) (λ (e1 : Labelled) q1. rw (first-same q1, second-same q1) refl) (moved i a1)
  moved i (G.state-acting {us = us} {vs = vs} p a1 a2) =
      lift2 (λ (e1 : Labelled) e2. N.state_of (N.first_place ((at place i us) ++ (at place (i + length us) vs)) (place (i + length us + length vs))) e1.0 e1.1 e2 ∷ []) (λ (e1 : Labelled) e2 d1 d2 q1 q2. simp at-append (G.state-acting (place (i + length us + length vs)) d1 d2)) (λ (e1 : Labelled) e2 q1 q2. rw (first-same q1, second-same q1, q2) refl) (moved i a1) (moved (i + length us) a2)
  moved i (G.control-section {us = us} a1 a2) =
      lift1 (λ e1. e1) (λ e1 d1 q1. simp at-append (G.control-section d1 (moved (suc i + length us) a2))) (λ e1 q1. q1) (moved (suc i) a1)
  moved i G.no-dollar = G.no-dollar
  moved i G.some-dollar = G.some-dollar
  moved i (G.states-one a1) =
      lift1 (λ e1. e1) (λ e1 d1 q1. let l = lone e1 q1 in rw l.alone (G.states-one (rw l.alone at d1))) (λ e1 q1. q1) (moved i a1)
  moved i (G.states-more {us = us} a1 a2) =
      lift2 (λ e1 e2. e1 ++ e2) (λ e1 e2 d1 d2 q1 q2. let l = lone e1 q1 in rw l.alone (simp at-append (G.states-more (rw l.alone at d1) d2))) (λ e1 e2 q1 q2. map-append unplaced_state e1 e2 ∙ rw (q1, q2) refl) (moved i a1) (moved (i + length us) a2)
  moved i (G.whole-text a1 a2 a3 a4) = tt

-- ---- A whole text, whose tree has no place in another's.

text-moved : {h : ℕ} {us vs ws xs : List Word} {rs ms ts : List Declaration} {os : List Operation} {ss : List State}
    → MovedTo N.declaration h us (N.declared rs ms ts) → MovedTo N.operation_section h vs (N.operations os) → MovedTo N.control_section h ws (N.states ss) → Is N.dollar_option h xs N.nothing
    → Moved N.text unplaced_text N.whole_text h (us ++ (vs ++ (ws ++ xs))) (record { registers = rs; memories = ms; terminals = ts; operations = os; states = ss })
text-moved a b c d = record {
  tree = record { registers = a.tree.0; memories = a.tree.1.0; terminals = a.tree.1.1; operations = b.tree; states = c.tree };
  derived = G.whole-text a.derived b.derived c.derived d;
  same = rw (first-same a.same, first-same (second-same a.same), second-same (second-same a.same), b.same, c.same) refl;
}

module _ (place : ℕ → Position) where
  pub moved-text : {h : ℕ} {us : List Word} {t : Text} (i : ℕ) → Is N.whole_text h us (N.text t) → Moved N.text unplaced_text N.whole_text h (at place i us) t
  moved-text i (G.whole-text {us = us} {vs = vs} {ws = ws} {xs = xs} a1 a2 a3 a4) =
      rw (at-append place i us (vs ++ (ws ++ xs)), at-append place (i + length us) vs (ws ++ xs), at-append place (i + length us + length vs) ws xs)
      (text-moved (moved place i a1) (moved place (i + length us) a2) (moved place (i + length us + length vs) a3) (moved place (i + length us + length vs + length ws) a4))
