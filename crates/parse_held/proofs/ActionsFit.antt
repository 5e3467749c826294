-- The records of tidy actions whose words stand near have room for all that they say, and so have their expressions.
use mathlib.Core.List.{List, [], ◌∷◌, ◌++◌}
use mathlib.Core.Path.{◌≡◌, refl}
use Prim.Native.Nat.{ℕ, ◌+◌, ◌<◌, ◌≤◌}
use native.Mathlib.Omega.{arith}
use lib.ListN.{length}
use mathlib.Core.Option.{some}
use Rattle.language.specs.Describe.{Noted, NotedAction, actions_in, actions_of, arms_in, expression_size, expressions_in, left_nodes, left_size, nodes_in, nodes_of, store_of}
use Rattle.language.specs.Description as D
use Rattle.language.specs.Description.{Description}
use Rattle.language.specs.Naming.{Meaning, Scope, facility, meaning, of_operation, of_state, operation, state, unknown}
use Rattle.language.specs.Tree as T
use Rattle.language.specs.Tree.{Actions, Expression, Left, Name}
use Rattle.about_rules.specs.Sizes.{in_size, left-size, nodes-size}
use Rattle.about_rules.specs.Tidy.{ActionsTidy, ExpressionTidy, LeftTidy, reference-tidy}
use Rattle.image_records.proofs.ActionBack.{Fits, Sign}
use Rattle.parse_held.proofs.NodesFit.{AllFit, Here, Known, fit_append, here-left, here-right, known, nodes-fit}
use Rattle.parse_held.specs.NearTexts.{ActionsNear, ExpressionNear, LeftNear}
use Rattle.parse_held.specs.Standing.{ActsFit}

-- ---- Expressions of actions.

module _ (d : Description) where
  -- Records behind those of m in number.
  pub join : (base m : ℕ) (xs ys : List Noted) → length xs ≡ m → AllFit d base xs → AllFit d (base + m) ys → AllFit d base (xs ++ ys)
  join base m xs ys e f g = fit_append d base xs ys f (base + m) (rw e refl) g

  pub behind : (base m : ℕ) (xs ys : List Noted) → length xs ≡ m → Here d base (xs ++ ys) → Here d (base + m) ys
  behind base m xs ys e h = here-right d base xs ys h (base + m) (rw e refl)

  module _ (s : Scope) (few : length s.facilities ≤ 256) where
    left-fits : (base : ℕ) (l : Left) → LeftTidy l → LeftNear l → base + left_size l ≤ 65535 → Here d base (left_nodes s base l) → AllFit d base (left_nodes s base l)
    left-fits base (T.single e) t n l h = nodes-fit d s few base e (reference-tidy e t) n l h
    left-fits base (T.pair e f) t n l h =
        let next = base + expression_size e in
        join base (expression_size e) (nodes_of s base e) (nodes_of s next f) (nodes-size s base e)
        (nodes-fit d s few base e (reference-tidy e t.0) n.0 (omega arith) (here-left d base (nodes_of s base e) _ h))
        (nodes-fit d s few next f (reference-tidy f t.1) n.1 (omega arith) (behind base (expression_size e) (nodes_of s base e) _ (nodes-size s base e) h))

    -- An expression, and what follows it.
    then : (base : ℕ) (e : Expression) (rest : List Noted) → ExpressionTidy e → ExpressionNear e → base + expression_size e ≤ 65535 → Here d base (nodes_of s base e ++ rest)
        → (Here d (base + expression_size e) rest → AllFit d (base + expression_size e) rest) → AllFit d base (nodes_of s base e ++ rest)
    then base e rest t n l h f =
        join base (expression_size e) (nodes_of s base e) rest (nodes-size s base e) (nodes-fit d s few base e t n l (here-left d base (nodes_of s base e) rest h))
        (f (behind base (expression_size e) (nodes_of s base e) rest (nodes-size s base e) h))

    -- Two lists of expressions, one behind the other.
    two-lists : (base m : ℕ) (xs ys : List Noted) → length xs ≡ m → Here d base (xs ++ ys) → (Here d base xs → AllFit d base xs) → (Here d (base + m) ys → AllFit d (base + m) ys) → AllFit d base (xs ++ ys)
    two-lists base m xs ys e h f g = join base m xs ys e (f (here-left d base xs ys h)) (g (behind base m xs ys e h))

    module _ (text : List ℕ) where
      pub in-fits : (base : ℕ) (a : Actions) → ActionsTidy a → ActionsNear text a → base + expressions_in a ≤ 65535 → Here d base (nodes_in s base a) → AllFit d base (nodes_in s base a)
      unfolding nodes_in expressions_in
      in-fits base T.done t n l h = tt
      in-fits base (T.store k p x e a) t n l h =
          let right = base + left_size x in
          two-lists base (left_size x) (left_nodes s base x) _ (left-size s base x) h (left-fits base x t.0 n.1.0 (omega arith))
          (λ g. then right e _ t.1.0 n.1.1.0 (omega arith) g (in-fits (right + expression_size e) a t.1.1 n.1.1.1 (omega arith)))
      in-fits base (T.set p e a) t n l h = then base e _ (reference-tidy e t.0) n.1.0 (omega arith) h (in-fits (base + expression_size e) a t.1 n.1.1 (omega arith))
      in-fits base (T.perform m p a) t n l h = in-fits base a t n.1 l h
      in-fits base (T.goto m p a) t n l h = in-fits base a t n.1 l h
      in-fits base (T.call m p a) t n l h = in-fits base a t n.1 l h
      in-fits base (T.return p a) t n l h = in-fits base a t n.1 l h
      in-fits base (T.when p e x a) t n l h =
          let inner = base + expression_size e in
          then base e _ t.0 n.1.0 (omega arith) h
          (λ g. two-lists inner (expressions_in x) (nodes_in s inner x) _ (in_size s inner x) g (in-fits inner x t.1.0 n.1.1.0 (omega arith)) (in-fits (inner + expressions_in x) a t.1.1 n.1.1.1 (omega arith)))
      in-fits base (T.choose p e x a) t n l h =
          let inner = base + expression_size e in
          then base e _ t.0 n.1.0 (omega arith) h
          (λ g. two-lists inner (expressions_in x) (nodes_in s inner x) _ (in_size s inner x) g (in-fits inner x t.1.0 n.1.1.0 (omega arith)) (in-fits (inner + expressions_in x) a t.1.1 n.1.1.1 (omega arith)))
      in-fits base (T.arm x a) t n l h =
          two-lists base (expressions_in x) (nodes_in s base x) _ (in_size s base x) h (in-fits base x t.0 n.0 (omega arith)) (in-fits (base + expressions_in x) a t.1 n.1 (omega arith))

-- ---- Actions.

pub acts-append : (xs ys : List NotedAction) → ActsFit xs → ActsFit ys → ActsFit (xs ++ ys)
acts-append [] ys f g = g
acts-append (x ∷ xs) ys f g = (f.0, acts-append xs ys f.1 g)

of-operation : (s : Scope) (n : Name) → length s.operations ≤ 65535 → (m : Meaning) → Known s n m → Fits (of_operation m D.perform)
of-operation s n few (facility k) h = tt
of-operation s n few (operation k) h = omega arith
of-operation s n few (state k) h = tt
of-operation s n few unknown h = tt

-- A state that a name of a word's length is has a number of 16 bits.
abbrev pub StatesFit : Scope → Type 0
StatesFit s = (n : Name) (k : ℕ) → length n < 65536 → s.state_named n ≡ some k → k < 65536

of-state : (s : Scope) (n : Name) → StatesFit s → length n < 65536 → (m : Meaning) → Known s n m → Fits (of_state m D.goto) × Fits (of_state m D.call)
of-state s n few l (facility k) h = (tt, tt)
of-state s n few l (operation k) h = (tt, tt)
of-state s n few l (state k) h = (few n k l h, few n k l h)
of-state s n few l unknown h = (tt, tt)

store-fits : (k base : ℕ) (l : Left) (e : Expression) → Sign k → base + left_size l + expression_size e ≤ 65535 → Fits (store_of k base l e)
store-fits k base (T.single l) e s h = (s, omega arith, omega arith)
store-fits k base (T.pair l m) e s h = (s, omega arith, omega arith, omega arith)

arms-few : (a : Actions) → arms_in a ≤ actions_in a
unfolding arms_in actions_in
arms-few T.done = omega arith
arms-few (T.store k p l e a) = omega arith
arms-few (T.set p e a) = omega arith
arms-few (T.perform n p a) = omega arith
arms-few (T.goto n p a) = omega arith
arms-few (T.call n p a) = omega arith
arms-few (T.return p a) = omega arith
arms-few (T.when p e l a) = omega arith
arms-few (T.choose p e l a) = omega arith
arms-few (T.arm l a) = omega (arith, arms-few a)

module _ (text : List ℕ) (s : Scope) (few : length s.operations ≤ 65535) (states : StatesFit s) where
  pub acts-fit : (base : ℕ) (a : Actions) → ActionsNear text a → base + expressions_in a ≤ 65535 → actions_in a ≤ 65535 → ActsFit (actions_of s base a)
  unfolding actions_of actions_in expressions_in
  acts-fit base T.done n l m = tt
  acts-fit base (T.store k p x e a) n l m = ((store-fits k base x e n.0.0 (omega arith), n.0.1), acts-fit (base + left_size x + expression_size e) a n.1.1.1 (omega arith) (omega arith))
  acts-fit base (T.set p e a) n l m = ((omega arith, n.0), acts-fit (base + expression_size e) a n.1.1 (omega arith) (omega arith))
  acts-fit base (T.perform b p a) n l m = ((of-operation s b few (meaning s b) (known s b), n.0), acts-fit base a n.1 l (omega arith))
  acts-fit base (T.goto b p a) n l m = (((of-state s b states n.0.1.short (meaning s b) (known s b)).0, n.0.0), acts-fit base a n.1 l (omega arith))
  acts-fit base (T.call b p a) n l m = (((of-state s b states n.0.1.short (meaning s b) (known s b)).1, n.0.0), acts-fit base a n.1 l (omega arith))
  acts-fit base (T.return p a) n l m = ((tt, n.0), acts-fit base a n.1 l (omega arith))
  acts-fit base (T.when p e x a) n l m =
      let inner = base + expression_size e in
      (((omega arith, omega arith), n.0), ((omega arith, n.0), acts-append (actions_of s inner x) _ (acts-fit inner x n.1.1.0 (omega arith) (omega arith)) (acts-fit (inner + expressions_in x) a n.1.1.1 (omega arith) (omega arith))))
  acts-fit base (T.choose p e x a) n l m =
      let inner = base + expression_size e in
      (((omega arith, omega (arith, arms-few x), omega arith), n.0), acts-append (actions_of s inner x) _ (acts-fit inner x n.1.1.0 (omega arith) (omega arith)) (acts-fit (inner + expressions_in x) a n.1.1.1 (omega arith) (omega arith)))
  acts-fit base (T.arm x a) n l m =
      ((omega arith, omega arith), acts-append (actions_of s base x) _ (acts-fit base x n.0 (omega arith) (omega arith)) (acts-fit (base + expressions_in x) a n.1 (omega arith) (omega arith)))
