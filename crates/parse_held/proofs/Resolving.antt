-- WHAT WAITED IS RESOLVED: the actions of a text whose gotos wait, resolved by its labels, are those that the text describes.
use mathlib.Core.List.{List, [], ◌∷◌, ◌++◌, map, map-append}
use mathlib.Core.Bool.{true}
use mathlib.Core.Option.{Option, none, some}
use mathlib.Core.Path.{◌≡◌, refl, sym, ap, ◌∙◌}
use Prim.Native.Nat.{ℕ, ◌+◌}
use lib.ListN.{length}
use Rattle.language.specs.Describe.{NotedAction, act, actions_of, expression_size, expressions_in, left_nodes, left_size, nodes_in, nodes_of, store_of}
use Rattle.language.specs.DescribeText.{expressions_of_state, state_actions, state_nodes, value_size}
use Rattle.language.specs.Description as D
use Rattle.language.specs.Description.{Action, Node}
use Rattle.language.specs.Naming.{Scope, by_labels, facility, meaning, number_of, of_facility, of_operation, of_state, operation, or_else, state, unknown}
use Rattle.language.specs.Tree as T
use Rattle.language.specs.Tree.{Actions, Expression, Left, Name, State}
use Rattle.language.specs.Words.{Position}
use Rattle.parse_held.proofs.GotoLaws.{call-resolved, goto-resolved}
use Rattle.parse_held.specs.Gotos.{or_broken, resolved, resolved_at, state_at}
use Rattle.parse_held.specs.NearTexts.{ActionsNear, StandsAt, StatesNear}
use Rattle.parse_tables.specs.Known.{waiting}

-- The names of facilities and operations, where any other waits, and where the labels are known.
abbrev pub waiting_in : List Name → List Name → Scope
waiting_in fs os = record { facilities = fs; operations = os; state_named = waiting true }

abbrev pub labelled_in : List Name → List Name → List Name → Scope
labelled_in fs os labels = record { facilities = fs; operations = os; state_named = by_labels labels }

module _ (fs os labels : List Name) where
  abbrev awaiting : Scope
  awaiting = waiting_in fs os

  abbrev labelled : Scope
  labelled = labelled_in fs os labels

  -- ---- Expressions know no states.

  facility-same : (n : Name) (F : ℕ → Node) → of_facility (meaning awaiting n) F ≡ of_facility (meaning labelled n) F
  unfolding meaning
  facility-same n F = go (number_of n 0 fs) (number_of n 0 os) (number_of n 0 labels)
    where
      go : (a b c : Option ℕ) → of_facility (or_else a facility (or_else b operation (state (length n)))) F ≡ of_facility (or_else a facility (or_else b operation (or_else c state unknown))) F
      go (some k) b c = refl
      go none (some k) c = refl
      go none none (some k) = refl
      go none none none = refl

  nodes-same : (base : ℕ) (e : Expression) → nodes_of awaiting base e ≡ nodes_of labelled base e
  unfolding nodes_of
  nodes-same base (T.constant c p) = refl
  nodes-same base (T.whole n p) = rw (facility-same n D.whole)
  nodes-same base (T.one n p e) = rw (facility-same n _, nodes-same base e)
  nodes-same base (T.part n p x) = rw (facility-same n _)
  nodes-same base (T.two n p e g) = rw (facility-same n _, nodes-same base e, nodes-same (base + expression_size e) g)
  nodes-same base (T.word_part n p e x) = rw (facility-same n _, nodes-same base e)
  nodes-same base (T.binary k p e g) = rw (nodes-same base e, nodes-same (base + expression_size e) g)
  nodes-same base (T.prefix k p e) = rw (nodes-same base e)
  nodes-same base (T.cut k p e c) = rw (nodes-same base e)
  nodes-same base (T.choice p e g) = rw (nodes-same base e, nodes-same (base + expression_size e) g)
  nodes-same base (T.first_arm e) = rw (nodes-same base e)
  nodes-same base (T.next_arm e g) = rw (nodes-same base e, nodes-same (base + expression_size e) g)

  left-same : (base : ℕ) (l : Left) → left_nodes awaiting base l ≡ left_nodes labelled base l
  left-same base (T.single e) = nodes-same base e
  left-same base (T.pair e f) = rw (nodes-same base e, nodes-same (base + expression_size e) f)

  in-same : (base : ℕ) (a : Actions) → nodes_in awaiting base a ≡ nodes_in labelled base a
  unfolding nodes_in
  in-same base T.done = refl
  in-same base (T.store k p l e a) = let right = base + left_size l in rw (left-same base l, nodes-same right e, in-same (right + expression_size e) a)
  in-same base (T.set p e a) = rw (nodes-same base e, in-same (base + expression_size e) a)
  in-same base (T.perform n p a) = in-same base a
  in-same base (T.goto n p a) = in-same base a
  in-same base (T.call n p a) = in-same base a
  in-same base (T.return p a) = in-same base a
  in-same base (T.when p e l a) = let inner = base + expression_size e in rw (nodes-same base e, in-same inner l, in-same (inner + expressions_in l) a)
  in-same base (T.choose p e l a) = let inner = base + expression_size e in rw (nodes-same base e, in-same inner l, in-same (inner + expressions_in l) a)
  in-same base (T.arm l a) = rw (in-same base l, in-same (base + expressions_in l) a)

  pub states-same : (l : Option ℕ) (base : ℕ) (ss : List State) → state_nodes l awaiting base ss ≡ state_nodes l labelled base ss
  unfolding state_nodes
  states-same l base [] = refl
  states-same l base (s ∷ ss) = rw (in-same (base + value_size l s.value) s.actions, states-same l (base + expressions_of_state l s) ss)

  -- ---- Actions.

  module _ (text : List ℕ) where
    store_same : (p : Position) (k base : ℕ) (l : Left) (e : Expression) → resolved_at text labels p (store_of k base l e) ≡ store_of k base l e
    unfolding resolved_at
    store_same p k base (T.single l) e = refl
    store_same p k base (T.pair l m) e = refl

    perform-same : (p : Position) (n : Name) → resolved_at text labels p (of_operation (meaning awaiting n) D.perform) ≡ of_operation (meaning labelled n) D.perform
    unfolding meaning resolved_at
    perform-same p n = go (number_of n 0 fs) (number_of n 0 os) (number_of n 0 labels)
      where
        go : (a b c : Option ℕ) → resolved_at text labels p (of_operation (or_else a facility (or_else b operation (state (length n)))) D.perform)
            ≡ of_operation (or_else a facility (or_else b operation (or_else c state unknown))) D.perform
        go (some k) b c = refl
        go none (some k) c = refl
        go none none (some k) = refl
        go none none none = refl

    broken-same : (p : Position) → resolved_at text labels p D.Action.broken ≡ D.Action.broken
    unfolding resolved_at
    broken-same p = refl

    -- A goto or a call.
    arrow-same : (F : ℕ → Action) (p : Position) → ((j : ℕ) → resolved_at text labels p (F j) ≡ or_broken (state_at text labels p j) F) → (n : Name) → StandsAt text n p
        → resolved_at text labels p (of_state (meaning awaiting n) F) ≡ of_state (meaning labelled n) F
    unfolding meaning
    arrow-same F p f n s = go (number_of n 0 fs) (number_of n 0 os)
      where
        by_number : (c : Option ℕ) → or_broken c F ≡ of_state (or_else c state unknown) F
        by_number none = refl
        by_number (some k) = refl

        go : (a b : Option ℕ) → resolved_at text labels p (of_state (or_else a facility (or_else b operation (state (length n)))) F)
            ≡ of_state (or_else a facility (or_else b operation (or_else (number_of n 0 labels) state unknown))) F
        go (some k) b = broken-same p
        go none (some k) = broken-same p
        go none none = f (length n) ∙ ap (λ (m : Name). or_broken (number_of m 0 labels) F) (sym s.letters) ∙ by_number (number_of n 0 labels)

    -- One action, and those after it.
    then : (p : Position) {a b : Action} {xs ys : List NotedAction} → a ≡ b → xs ≡ ys → ◌≡◌ {A = List NotedAction} (act a p ∷ xs) (act b p ∷ ys)
    then p e f = rw (e, f)

    -- Two lists, one behind the other.
    both : (xs ys : List NotedAction) {xs' ys' : List NotedAction} → map (resolved text labels) xs ≡ xs' → map (resolved text labels) ys ≡ ys' → map (resolved text labels) (xs ++ ys) ≡ xs' ++ ys'
    both xs ys e f = map-append (resolved text labels) xs ys ∙ rw (e, f)

    acts-same : (base : ℕ) (a : Actions) → ActionsNear text a → map (resolved text labels) (actions_of awaiting base a) ≡ actions_of labelled base a
    unfolding actions_of resolved_at
    acts-same base T.done n = refl
    acts-same base (T.store k p l e a) n = then p (store_same p k base l e) (acts-same (base + left_size l + expression_size e) a n.1.1.1)
    acts-same base (T.set p e a) n = then p refl (acts-same (base + expression_size e) a n.1.1)
    acts-same base (T.perform m p a) n = then p (perform-same p m) (acts-same base a n.1)
    acts-same base (T.goto m p a) n = then p (arrow-same D.goto p (goto-resolved text labels p) m n.0.1) (acts-same base a n.1)
    acts-same base (T.call m p a) n = then p (arrow-same D.call p (call-resolved text labels p) m n.0.1) (acts-same base a n.1)
    acts-same base (T.return p a) n = then p refl (acts-same base a n.1)
    acts-same base (T.when p e l a) n = let inner = base + expression_size e in then p refl (then p refl (both (actions_of awaiting inner l) (actions_of awaiting (inner + expressions_in l) a) (acts-same inner l n.1.1.0) (acts-same (inner + expressions_in l) a n.1.1.1)))
    acts-same base (T.choose p e l a) n = let inner = base + expression_size e in then p refl (both (actions_of awaiting inner l) (actions_of awaiting (inner + expressions_in l) a) (acts-same inner l n.1.1.0) (acts-same (inner + expressions_in l) a n.1.1.1))
    acts-same base (T.arm l a) n = then D.nowhere refl (both (actions_of awaiting base l) (actions_of awaiting (base + expressions_in l) a) (acts-same base l n.0) (acts-same (base + expressions_in l) a n.1))

    pub resolved-states : (l : Option ℕ) (base : ℕ) (ss : List State) → StatesNear text ss → map (resolved text labels) (state_actions l awaiting base ss) ≡ state_actions l labelled base ss
    unfolding state_actions
    resolved-states l base [] n = refl
    resolved-states l base (s ∷ ss) n =
        let from = base + value_size l s.value in
        both (actions_of awaiting from s.actions) (state_actions l awaiting (base + expressions_of_state l s) ss) (acts-same from s.actions n.0.1.1) (resolved-states l (base + expressions_of_state l s) ss n.1)
