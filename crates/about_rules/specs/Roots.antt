-- The roots of a list of actions that is judged fine follow each other as the list gives them. Assumes nothing.
use Rattle.std.specs.Prelude.{Bool, eqb, ltb, length}
use Rattle.std.proofs.Math.Bool.{true, false, cond}
use mathlib.Core.List.{List, [], ◌∷◌, ◌++◌}
use Rattle.std.proofs.Math.Option.{Option, none, some}
use Rattle.std.proofs.Math.Path.{◌≡◌, refl, ap}
use Rattle.std.proofs.Common.{◌∙◌}
use native.Mathlib.Omega.{arith}
use Prim.Native.Nat.{ℕ, zero, suc, ◌+◌, ◌-◌, ◌<◌}
use borrow.Author.Tests.{eq-eqb, lt-ltb}
use Rattle.language.specs.Describe as B
use Rattle.language.specs.Describe.{NotedAction, expression_size, last_of, nodes_of}
use Rattle.language.specs.Description as D
use Rattle.language.specs.Description.{Description, Node, Places, action_at, node_at}
use Rattle.language.specs.Expressions as E
use Rattle.language.specs.Expressions.{left_at, terminal_below}
use Rattle.language.specs.Judging.{Judged, Worth, fine}
use Rattle.language.specs.Naming.{Meaning, Scope, facility, meaning, of_facility, operation, state, unknown}
use Rattle.language.specs.Order.{action_roots, ending, run_roots, start_at, start_node, trees_end}
use Rattle.language.specs.References as R
use Rattle.language.specs.References.{reference_of, two, word_part}
use Rattle.language.specs.Tree as T
use Rattle.language.specs.Tree.{Actions, Expression, Left}
use Rattle.about_rules.specs.Sizes.{nodes-size}
use Rattle.about_rules.specs.Starts.{Stand, some-records, stand-left, stand-right}
use Rattle.about_rules.specs.Tidy.{ReferenceTidy}
use Rattle.about_rules.specs.Trees as Y
use Rattle.about_rules.specs.Trees.{expression-starts, leaf-start, reference-one, reference-two, reference-word-part, root-one, root-two, subscripts-fine}
use Rattle.about_running.specs.Judged.{faulty-fine}
use Rattle.language.specs.Tests.{both}

module _ (d : Description) where
  -- ---- Trees that follow each other.

  pub tree-then : (at r : ℕ) (rs : List ℕ) → start_at d r ≡ some at → r < length d.expressions → trees_end d at (r ∷ rs) ≡ trees_end d (r + 1) rs
  unfolding trees_end
  tree-then at r rs e l = rw (e, eq-eqb at at refl, lt-ltb r (length d.expressions) l) refl

  pub trees-join : (at m : ℕ) (xs ys : List ℕ) → trees_end d at xs ≡ some m → trees_end d at (xs ++ ys) ≡ trees_end d m ys
  unfolding trees_end
  trees-join at m [] ys e = let z : at ≡ m = cc in rw z refl
  trees-join at m (r ∷ rs) ys e = go (start_at d r) (λ h. trees-join (r + 1) m rs ys h) e
    where
      go2 : (b : Bool) → (trees_end d (r + 1) rs ≡ some m → trees_end d (r + 1) (rs ++ ys) ≡ trees_end d m ys) → cond b (trees_end d (r + 1) rs) none ≡ some m → cond b (trees_end d (r + 1) (rs ++ ys)) none ≡ trees_end d m ys
      go2 true h f = h f
      go2 false h f = absurd (let z : ◌≡◌ {A = ℕ} 0 1 = cc in omega arith)

      go : (x : Option ℕ) → (trees_end d (r + 1) rs ≡ some m → trees_end d (r + 1) (rs ++ ys) ≡ trees_end d m ys)
          → ending x (λ s. cond (both (eqb s at) (ltb r (length d.expressions))) (trees_end d (r + 1) rs) none) ≡ some m
          → ending x (λ s. cond (both (eqb s at) (ltb r (length d.expressions))) (trees_end d (r + 1) (rs ++ ys)) none) ≡ trees_end d m ys
      go none h f = absurd (let z : ◌≡◌ {A = ℕ} 0 1 = cc in omega arith)
      go (some s) h f = go2 (both (eqb s at) (ltb r (length d.expressions))) h f

  pub roots-join : (m n i : ℕ) → run_roots d (m + n) i ≡ run_roots d m i ++ run_roots d n (i + m)
  unfolding run_roots
  roots-join zero n i = let y : 0 + n ≡ n = omega arith in let z : i + 0 ≡ i = omega arith in rw (y, z) refl
  roots-join (suc m) n i =
      let y : suc m + n ≡ suc (m + n) = omega arith in
      let z : i + suc m ≡ suc i + m = omega arith in
      rw (y, z) (ap (λ (rs : List ℕ). action_roots d (action_at d i) ++ rs) (roots-join m n (suc i)) ∙ assoc (action_roots d (action_at d i)) (run_roots d m (suc i)) (run_roots d n (suc i + m)))
    where
      assoc : (xs ys zs : List ℕ) → xs ++ (ys ++ zs) ≡ (xs ++ ys) ++ zs
      assoc [] ys zs = refl
      assoc (x ∷ xs) ys zs = ap (λ (rs : List ℕ). x ∷ rs) (assoc xs ys zs)

  -- ---- Actions stand from a number on.

  abbrev pub StandActions : ℕ → List NotedAction → Type 0
  StandActions i [] = Unit {0}
  StandActions i (a ∷ as') = (action_at d i ≡ a.action) × StandActions (suc i) as'

  pub actions-left : (i : ℕ) (xs ys : List NotedAction) → StandActions i (xs ++ ys) → StandActions i xs
  actions-left i [] ys h = tt
  actions-left i (x ∷ xs) ys h = (h.0, actions-left (suc i) xs ys h.1)

  pub actions-right : (i : ℕ) (xs ys : List NotedAction) → StandActions i (xs ++ ys) → (at : ℕ) → at ≡ i + length xs → StandActions at ys
  actions-right i [] ys h at e = let z : at ≡ i = omega (arith, e) in rw z h
  actions-right i (x ∷ xs) ys h at e = actions-right (suc i) xs ys h.1 at (omega (arith, e))

  module _ (p : Places) (s : Scope) where
    abbrev known : ℕ
    known = length d.facilities

    abbrev terms : ℕ → Judged
    terms = terminal_below d p known

    -- ---- Left sides.

    left-resolved : (n : ℕ) (m : Meaning) (F : ℕ → Node) {w : Worth} → E.left_of d p terms known n (reference_of (of_facility m F)) ≡ fine w → (k : ℕ) × (of_facility m F ≡ F k)
    left-resolved n (facility k) F e = (k, refl)
    left-resolved n (operation k) F e = faulty-fine e
    left-resolved n (state k) F e = faulty-fine e
    left-resolved n unknown F e = faulty-fine e

    left-node : (n m : ℕ) (x : Node) {w : Worth} → n ≡ m → node_at d m ≡ x → left_at d p terms known n ≡ fine w → E.left_of d p terms known m (reference_of x) ≡ fine w
    unfolding left_at
    left-node n m x e f h = rw (e, f) at h

    pub left-starts : (base : ℕ) (e : Expression) {w : Worth} → ReferenceTidy e → Stand d base (nodes_of s base e) → left_at d p terms known (last_of base (expression_size e)) ≡ fine w → start_at d (last_of base (expression_size e)) ≡ some base
    unfolding nodes_of expression_size start_node
    left-starts base (T.constant c p') h k j = absurd h
    left-starts base (T.whole n p') h k j =
        let z : base + 1 - 1 ≡ base = omega arith in
        let r = left-resolved base (meaning s n) D.whole (left-node _ base _ z k.0 j) in
        leaf-start d p terms known s base _ (k.0 ∙ r.1) (λ start. refl)
    left-starts base (T.one n p' e) h k j =
        let m = expression_size e in
        let part = stand-left d base (nodes_of s base e) _ k in
        let root = root-one d base m (nodes_of s base e) _ (nodes-size s base e) k in
        let own = left-node _ (base + m) _ (Y.last-so d p terms known s base m) root j in
        let r = left-resolved (base + m) (meaning s n) (λ f. D.one f (last_of base m)) own in
        reference-one d p terms known s base m r.0 (some-records e) (root ∙ r.1) (expression-starts d p terms known s base e h part)
        (subscripts-fine d p terms known s _ _ (record { facility = r.0; subscripts = R.one (last_of base m) }) _ (rw r.1 at own))
    left-starts base (T.part n p' x) h k j =
        let z : base + 1 - 1 ≡ base = omega arith in
        let r = left-resolved base (meaning s n) (λ f. D.part f (B.bounds_of x)) (left-node _ base _ z k.0 j) in
        leaf-start d p terms known s base _ (k.0 ∙ r.1) (λ start. refl)
    left-starts base (T.two n p' e g) h k j =
        let m = expression_size e in
        let o = expression_size g in
        let left = stand-left d base (nodes_of s base e) _ k in
        let right = stand-left d (base + m) (nodes_of s (base + m) g) _ (stand-right d base (nodes_of s base e) _ k (base + m) (let z = nodes-size s base e in omega (arith, z))) in
        let root = root-two d base m o (nodes_of s base e) (nodes_of s (base + m) g) _ (nodes-size s base e) (nodes-size s (base + m) g) k in
        let own = left-node _ (base + m + o) _ (Y.last-two d p terms known s base m o) root j in
        let r = left-resolved (base + m + o) (meaning s n) (λ f. D.two f (last_of base m) (last_of (base + m) o)) own in
        reference-two d p terms known s base m o r.0 (some-records e) (some-records g) (root ∙ r.1) (expression-starts d p terms known s base e h.0 left) (expression-starts d p terms known s (base + m) g h.1 right)
        (subscripts-fine d p terms known s _ _ (record { facility = r.0; subscripts = two (last_of base m) (last_of (base + m) o) }) _ (rw r.1 at own))
    left-starts base (T.word_part n p' e x) h k j =
        let m = expression_size e in
        let part = stand-left d base (nodes_of s base e) _ k in
        let root = root-one d base m (nodes_of s base e) _ (nodes-size s base e) k in
        let own = left-node _ (base + m) _ (Y.last-so d p terms known s base m) root j in
        let r = left-resolved (base + m) (meaning s n) (λ f. D.word_part f (last_of base m) (B.bounds_of x)) own in
        reference-word-part d p terms known s base m r.0 (B.bounds_of x) (some-records e) (root ∙ r.1) (expression-starts d p terms known s base e h part)
        (subscripts-fine d p terms known s _ _ (record { facility = r.0; subscripts = word_part (last_of base m) (B.bounds_of x) }) _ (rw r.1 at own))
    left-starts base (T.binary o p' e g) h k j = absurd h
    left-starts base (T.prefix o p' e) h k j = absurd h
    left-starts base (T.cut o p' e c) h k j = absurd h
    left-starts base (T.choice p' e g) h k j = absurd h
    left-starts base (T.first_arm e) h k j = absurd h
    left-starts base (T.next_arm e g) h k j = absurd h
