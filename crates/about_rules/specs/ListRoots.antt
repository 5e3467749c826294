-- The roots of a list of actions that is judged fine follow each other: where the list's first expression begins, to where its last one ends. Assumes nothing.
use Rattle.std.specs.Prelude.{Bool, true, false, cond, List, [], ◌∷◌, ◌++◌, ◌≡◌, eqb, leb, length}
use Rattle.std.proofs.Math.Option.{some}
use Rattle.std.proofs.Math.Path.{refl, ap}
use Rattle.std.proofs.Common.{sym, ◌∙◌, leb-true}
use native.Mathlib.Omega.{arith}
use Prim.Native.Nat.{ℕ, suc, ◌+◌, ◌-◌, ◌≤◌, ◌<◌}
use Rattle.std.proofs.Math.Dec.{eqb-suc-zero}
use Rattle.language.specs.ActionRules as J
use Rattle.language.specs.ActionRules.{Shape, actions, arms, simple_judged}
use Rattle.language.specs.Describe.{actions_in, actions_of, arms_in, expression_size, expressions_in, last_of, left_nodes, left_size, nodes_in, nodes_of, store_of}
use Rattle.language.specs.Description as D
use Rattle.language.specs.Description.{Action, Description, Places, action_at, action_place, node_place}
use Rattle.language.specs.Expressions.{judge_at, selects}
use Rattle.language.specs.Judging.{Judged, Worth, fine, given_both, refuse, worth}
use Rattle.language.specs.Naming.{Meaning, Scope, facility, meaning, of_operation, of_state, operation, state, unknown}
use Rattle.language.specs.Order.{action_roots, run_roots, trees_end}
use Rattle.language.specs.Recursion.{below-lt}
use Rattle.language.specs.declared.refusals.Refusal.TheVariants.{BadLength, NoContinuation}
use Rattle.language.specs.Tree as T
use Rattle.language.specs.Tree.{Actions, Expression, Left}
use Rattle.language.specs.Words.{Position}
use Rattle.about_rules.specs.Roots as Y
use Rattle.about_rules.specs.Roots.{StandActions, actions-left, actions-right, left-starts, tree-then, trees-join}
use Rattle.about_rules.specs.Sizes.{actions-size, in_size, left-size, nodes-size}
use Rattle.about_rules.specs.Starts.{Stand, some-records, stand-left, stand-right}
use Rattle.about_rules.specs.Tidy.{ActionsTidy, ExpressionTidy, LeftTidy, ReferenceTidy}
use Rattle.about_rules.specs.Trees.{expression-starts}
use Rattle.about_running.specs.Judged.{both-fine, faulty-fine, given-fine, proper-fine}
use Rattle.language.specs.Tests.{both}

module _ (d : Description) (p : Places) (s : Scope) (in_state : Bool) (works : ℕ → Judged) where
  abbrev pub judged : ℕ → ℕ → Shape → Judged
  judged k i t = J.run_step d p in_state works (J.run_below d p in_state works k) k i t

  judged-lt : (k a i : ℕ) (t : Shape) → a < k → J.run_below d p in_state works k a i t ≡ judged a i t
  unfolding J.run_below
  judged-lt k a i t h = ap (λ (f : ℕ → Shape → Judged). f i t) (below-lt (λ i t. refuse D.nowhere NoContinuation) (J.run_step d p in_state works) k a h)

  -- The trees of an expression, of a left side, and what follows.

  expression-then : (at : ℕ) (e : Expression) (rs : List ℕ) {w : Worth} → ExpressionTidy e → Stand d at (nodes_of s at e) → at + expression_size e ≤ length d.expressions
      → J.right d p in_state works (last_of at (expression_size e)) ≡ fine w → trees_end d at (last_of at (expression_size e) ∷ rs) ≡ trees_end d (at + expression_size e) rs
  expression-then at e rs h k l j =
      let m = expression_size e in
      let pos = some-records e in
      let start = expression-starts d p _ _ s at e h k _ (proper-fine (node_place p (last_of at m)).at (judge_at d p _ _ (last_of at m)) j).same in
      let z : last_of at m + 1 ≡ at + m = omega arith in
      tree-then d at (last_of at m) rs start (omega arith) ∙ ap (λ (n : ℕ). trees_end d n rs) z

  reference-then : (at : ℕ) (e : Expression) (rs : List ℕ) {w : Worth} → ReferenceTidy e → Stand d at (nodes_of s at e) → at + expression_size e ≤ length d.expressions
      → J.side d p in_state works (last_of at (expression_size e)) ≡ fine w → trees_end d at (last_of at (expression_size e) ∷ rs) ≡ trees_end d (at + expression_size e) rs
  reference-then at e rs h k l j =
      let m = expression_size e in
      let pos = some-records e in
      let z : last_of at m + 1 ≡ at + m = omega arith in
      tree-then d at (last_of at m) rs (left-starts d p s at e h k j) (omega arith) ∙ ap (λ (n : ℕ). trees_end d n rs) z

  -- ---- One action and the list after it.

  abbrev Ends : ℕ → ℕ → List ℕ → Type 0
  Ends at m rs = trees_end d at rs ≡ some m

  pub only-fine : (b : Bool) (at : Position) (j : Judged) {w : Worth} → J.only_in d p in_state works b at j ≡ fine w → j ≡ fine w
  only-fine true at j e = e
  only-fine false at j e = faulty-fine e

  -- A list of one record more, by its first record.
  pub first_fine : (m i : ℕ) (a : Action) {w : Worth} → action_at d i ≡ a → judged (suc m) i actions ≡ fine w → J.list_judged d p in_state works (J.run_below d p in_state works (suc m)) m i a ≡ fine w
  first_fine m i a e h =
      let z : suc m - 1 ≡ m = omega arith in
      rw (z, eqb-suc-zero m, e) at h

  pub first-arm : (m i : ℕ) (a : Action) {w : Worth} → action_at d i ≡ a → judged (suc m) i arms ≡ fine w → J.arms_judged d p in_state works (J.run_below d p in_state works (suc m)) m i a ≡ fine w
  first-arm m i a e h =
      let z : suc m - 1 ≡ m = omega arith in
      rw (z, eqb-suc-zero m, e) at h

  -- What a single action and the list after it are judged.
  pub record Plain (m i : ℕ) (a : Action) : Type 0 where
    pub own : Worth
    pub own-fine : simple_judged d p in_state works (action_place p i) a ≡ fine own
    pub rest : Worth
    pub rest-fine : judged m (i + 1) actions ≡ fine rest

  pub plain-fine : (m i : ℕ) (a : Action) {w : Worth} → action_at d i ≡ a → J.plainly d p in_state works (J.run_below d p in_state works (suc m)) m i ≡ fine w → Plain m i a
  plain-fine m i a e h =
      let y = both-fine (simple_judged d p in_state works (action_place p i) (action_at d i)) (J.run_below d p in_state works (suc m) m (i + 1) actions) _ h in
      record {
        own = y.u;
        own-fine = ap (simple_judged d p in_state works (action_place p i)) (sym e) ∙ y.left;
        rest = y.v;
        rest-fine = sym (judged-lt (suc m) m (i + 1) actions (omega arith)) ∙ y.right;
      }

  -- A conditional: its condition, its x records as arms, and the list after them.
  pub record Held (m i c x : ℕ) (test : Worth → Worth → Bool) : Type 0 where
    pub fits : x ≤ m
    pub condition : Worth
    pub condition-fine : J.right d p in_state works c ≡ fine condition
    pub inner : Worth
    pub inner-fine : judged x (i + 1) arms ≡ fine inner
    pub rest : Worth
    pub rest-fine : judged (m - x) (i + 1 + x) actions ≡ fine rest
    pub holds : test condition inner ≡ true

  pub held : (m i c x : ℕ) (test : Worth → Worth → Bool) {w : Worth}
      → J.holding d p in_state works (J.run_below d p in_state works (suc m)) m i x (J.conditional d p in_state works (action_place p i) (J.right d p in_state works c) (J.run_below d p in_state works (suc m) x (i + 1) arms) test) ≡ fine w → Held m i c x test
  held m i c x test {w} e = go (leb x m) refl e
    where
      ev : ℕ → ℕ → Shape → Judged
      ev = J.run_below d p in_state works (suc m)

      go : (b : Bool) → leb x m ≡ b
          → cond b (given_both (J.conditional d p in_state works (action_place p i) (J.right d p in_state works c) (ev x (i + 1) arms) test) (ev (m - x) (i + 1 + x) actions) (J.all_work d p in_state works)) (refuse D.nowhere NoContinuation) ≡ fine w
          → Held m i c x test
      go false q k = faulty-fine k
      go true q k =
          let l : x ≤ m = leb-true x m q in
          let y = both-fine (J.conditional d p in_state works (action_place p i) (J.right d p in_state works c) (ev x (i + 1) arms) test) (ev (m - x) (i + 1 + x) actions) _ k in
          let z = both-fine (J.right d p in_state works c) (ev x (i + 1) arms) _ y.left in
          record {
            fits = l;
            condition = z.u;
            condition-fine = z.left;
            inner = z.v;
            inner-fine = sym (judged-lt (suc m) x (i + 1) arms (omega arith)) ∙ z.right;
            rest = y.v;
            rest-fine = sym (judged-lt (suc m) (m - x) (i + 1 + x) actions (omega arith)) ∙ y.right;
            holds = tested (test z.u z.v) _ z.own;
          }
        where
          tested : (t : Bool) (j : Judged) {v : Worth} → cond t j (refuse (action_place p i) BadLength) ≡ fine v → t ≡ true
          tested true j e = refl
          tested false j e = faulty-fine e

  -- An arm: its own list, which is not empty, and the arms after it.
  pub record Arm (m i x : ℕ) (w : Worth) : Type 0 where
    pub some-actions : 1 ≤ x
    pub fits : x ≤ m
    pub own : Worth
    pub own-fine : judged x (i + 1) actions ≡ fine own
    pub rest : Worth
    pub rest-fine : judged (m - x) (i + 1 + x) arms ≡ fine rest
    pub count : w.arms ≡ rest.arms + 1

  pub arm-fine : (m i x : ℕ) {w : Worth} → J.arm_after d p in_state works (J.run_below d p in_state works (suc m)) m i x ≡ fine w → Arm m i x w
  arm-fine m i x {w} e = go (leb 1 x) refl (leb x m) refl e
    where
      ev : ℕ → ℕ → Shape → Judged
      ev = J.run_below d p in_state works (suc m)

      go : (a : Bool) → leb 1 x ≡ a → (b : Bool) → leb x m ≡ b → cond (both a b) (given_both (ev x (i + 1) actions) (ev (m - x) (i + 1 + x) arms) (λ v w. worth 1 (w.arms + 1) (v.work + w.work))) (refuse D.nowhere NoContinuation) ≡ fine w → Arm m i x w
      go false r b q k = faulty-fine k
      go true r false q k = faulty-fine k
      go true r true q k =
          let l : x ≤ m = leb-true x m q in
          let y = both-fine (ev x (i + 1) actions) (ev (m - x) (i + 1 + x) arms) (λ v w. worth 1 (w.arms + 1) (v.work + w.work)) k in
          let own : worth 1 (y.v.arms + 1) (y.u.work + y.v.work) ≡ fine w = y.own in
          let n : y.v.arms + 1 ≡ w.arms = cc in
          record {
            some-actions = leb-true 1 x r;
            fits = l;
            own = y.u;
            own-fine = sym (judged-lt (suc m) x (i + 1) actions (omega arith)) ∙ y.left;
            rest = y.v;
            rest-fine = sym (judged-lt (suc m) (m - x) (i + 1 + x) arms (omega arith)) ∙ y.right;
            count = sym n;
          }

  -- ---- The roots of a list.

  abbrev Follows : Actions → Type 0
  Follows a = (base i : ℕ) (t : Shape) (w : Worth) → ActionsTidy a → Stand d base (nodes_in s base a) → StandActions d i (actions_of s base a) → base + expressions_in a ≤ length d.expressions
      → judged (actions_in a) i t ≡ fine w → Ends base (base + expressions_in a) (run_roots d (actions_in a) i)

  -- The list after one record, `n` expression records further on.
  rest-ends : (a : Actions) → Follows a → (base n i m : ℕ) {w : Worth} → ActionsTidy a → Stand d (base + n) (nodes_in s (base + n) a) → StandActions d (suc i) (actions_of s (base + n) a)
      → base + (n + expressions_in a) ≤ length d.expressions → judged (actions_in a) (i + 1) actions ≡ fine w → m ≡ n + expressions_in a → Ends (base + n) (base + m) (run_roots d (actions_in a) (suc i))
  rest-ends a follows base n i m h k x l j e =
      let z : i + 1 ≡ suc i = omega arith in
      let y : base + n + expressions_in a ≡ base + m = omega (arith, e) in
      follows (base + n) (suc i) actions _ h k x (omega (arith, l)) (rw z at j) ∙ ap some y

  -- A list whose first record has no roots.
  rootless : (a : Actions) → Follows a → (base i : ℕ) (b : Action) {w : Worth} → action_roots d b ≡ [] → action_at d i ≡ b → ActionsTidy a → Stand d base (nodes_in s base a) → StandActions d (suc i) (actions_of s base a)
      → base + expressions_in a ≤ length d.expressions → judged (actions_in a) (i + 1) actions ≡ fine w → Ends base (base + expressions_in a) (run_roots d (suc (actions_in a)) i)
  unfolding run_roots
  rootless a follows base i b r e h k x l j =
      let z : i + 1 ≡ suc i = omega arith in
      rw (e, r) (follows base (suc i) actions _ h k x l (rw z at j))

  -- Records without roots, which stand for themselves.
  data Rootless : Action → Type 0 where
    performs : {o : ℕ} → Rootless (D.perform o)
    goes : {n : ℕ} → Rootless (D.goto n)
    calls : {n : ℕ} → Rootless (D.call n)
    returns : Rootless D.return
    means-nothing : Rootless D.Action.broken

  operation-rootless : (m : Meaning) → Rootless (of_operation m D.perform)
  operation-rootless (facility k) = means-nothing
  operation-rootless (operation k) = performs
  operation-rootless (state k) = means-nothing
  operation-rootless unknown = means-nothing

  goto-rootless : (m : Meaning) → Rootless (of_state m D.goto)
  goto-rootless (facility k) = means-nothing
  goto-rootless (operation k) = means-nothing
  goto-rootless (state k) = goes
  goto-rootless unknown = means-nothing

  call-rootless : (m : Meaning) → Rootless (of_state m D.call)
  call-rootless (facility k) = means-nothing
  call-rootless (operation k) = means-nothing
  call-rootless (state k) = calls
  call-rootless unknown = means-nothing

  no-roots : {b : Action} → Rootless b → action_roots d b ≡ []
  no-roots performs = refl
  no-roots goes = refl
  no-roots calls = refl
  no-roots returns = refl
  no-roots means-nothing = refl

  simple-rest : (b : Action) (n i : ℕ) (t : Shape) {w : Worth} → Rootless b → action_at d i ≡ b → judged (suc n) i t ≡ fine w → (v : Worth) × (judged n (i + 1) actions ≡ fine v)
  unfolding J.list_judged J.arms_judged
  simple-rest (D.perform o) n i actions performs e j = let y = plain-fine n i (D.perform o) e (first_fine n i (D.perform o) e j) in (y.rest, y.rest-fine)
  simple-rest (D.perform o) n i arms performs e j = faulty-fine (first-arm n i (D.perform o) e j)
  simple-rest (D.goto o) n i actions goes e j = let y = plain-fine n i (D.goto o) e (first_fine n i (D.goto o) e j) in (y.rest, y.rest-fine)
  simple-rest (D.goto o) n i arms goes e j = faulty-fine (first-arm n i (D.goto o) e j)
  simple-rest (D.call o) n i actions calls e j = let y = plain-fine n i (D.call o) e (first_fine n i (D.call o) e j) in (y.rest, y.rest-fine)
  simple-rest (D.call o) n i arms calls e j = faulty-fine (first-arm n i (D.call o) e j)
  simple-rest D.return n i actions returns e j = let y = plain-fine n i D.return e (first_fine n i D.return e j) in (y.rest, y.rest-fine)
  simple-rest D.return n i arms returns e j = faulty-fine (first-arm n i D.return e j)
  simple-rest D.Action.broken n i actions means-nothing e j = let y = plain-fine n i D.Action.broken e (first_fine n i D.Action.broken e j) in (y.rest, y.rest-fine)
  simple-rest D.Action.broken n i arms means-nothing e j = faulty-fine (first-arm n i D.Action.broken e j)
  simple-rest (D.store _ _ _) n i t {w = w} x6 e j = elim x6 [ ]
  simple-rest (D.store_pair _ _ _ _) n i t {w = w} x8 e j = elim x8 [ ]
  simple-rest (D.set _) n i t {w = w} x6 e j = elim x6 [ ]
  simple-rest (D.when _ _) n i t {w = w} x8 e j = elim x8 [ ]
  simple-rest (D.choose _ _ _) n i t {w = w} x10 e j = elim x10 [ ]
  simple-rest (D.arm _) n i t {w = w} x9 e j = elim x9 [ ]

  simply : (a : Actions) → Follows a → (base i : ℕ) (t : Shape) (b : Action) {w : Worth} → Rootless b → action_at d i ≡ b → ActionsTidy a → Stand d base (nodes_in s base a) → StandActions d (suc i) (actions_of s base a)
      → base + expressions_in a ≤ length d.expressions → judged (suc (actions_in a)) i t ≡ fine w → Ends base (base + expressions_in a) (run_roots d (suc (actions_in a)) i)
  simply a follows base i t b r e h k x l j = rootless a follows base i b (no-roots r) e h k x l (simple-rest b (actions_in a) i t r e j).1

  -- A store, by its left side.
  store-roots : (k : ℕ) (l : Left) (e : Expression) (base i : ℕ) (t : Shape) (n : ℕ) (rs : List ℕ) {w : Worth} → LeftTidy l → ExpressionTidy e
      → Stand d base (left_nodes s base l) → Stand d (base + left_size l) (nodes_of s (base + left_size l) e) → base + (left_size l + expression_size e) ≤ length d.expressions
      → action_at d i ≡ store_of k base l e → judged (suc n) i t ≡ fine w
      → (trees_end d base (action_roots d (store_of k base l e) ++ rs) ≡ trees_end d (base + (left_size l + expression_size e)) rs) × ((v : Worth) × (judged n (i + 1) actions ≡ fine v))
  unfolding J.list_judged J.arms_judged simple_judged
  store-roots k (T.single x) e base i arms n rs h g a b f q j = faulty-fine (first-arm n i _ q j)
  store-roots k (T.single x) e base i actions n rs h g a b f q j =
      let y = plain-fine n i (store_of k base (T.single x) e) q (first_fine n i (store_of k base (T.single x) e) q j) in
      let z = both-fine _ _ _ (only-fine (J.not_in_state d p in_state works) (action_place p i) _ y.own-fine) in
      let m : base + expression_size x + expression_size e ≡ base + (expression_size x + expression_size e) = omega arith in
      (reference-then base x _ h a (omega arith) z.left ∙ expression-then (base + expression_size x) e rs g b (omega arith) z.right ∙ ap (λ (o : ℕ). trees_end d o rs) m, (y.rest, y.rest-fine))
  store-roots k (T.pair x x') e base i arms n rs h g a b f q j = faulty-fine (first-arm n i _ q j)
  store-roots k (T.pair x x') e base i actions n rs h g a b f q j =
      let y = plain-fine n i (store_of k base (T.pair x x') e) q (first_fine n i (store_of k base (T.pair x x') e) q j) in
      let z = both-fine _ _ _ (only-fine (J.not_in_state d p in_state works) (action_place p i) _ y.own-fine) in
      let u = both-fine _ _ _ z.left in
      let second = base + expression_size x in
      let m : second + expression_size x' + expression_size e ≡ base + (expression_size x + expression_size x' + expression_size e) = omega arith in
      let v : base + (expression_size x + expression_size x') ≡ second + expression_size x' = omega arith in
      let right : Stand d (second + expression_size x') (nodes_of s (second + expression_size x') e) = rw v at b in (
        reference-then base x _ h.0 (stand-left d base (nodes_of s base x) _ a) (omega arith) u.left
            ∙ reference-then second x' _ h.1 (stand-right d base (nodes_of s base x) _ a second (let o = nodes-size s base x in omega (arith, o))) (omega arith) u.right
            ∙ expression-then (second + expression_size x') e rs g right (omega arith) z.right ∙ ap (λ (o : ℕ). trees_end d o rs) m,
        (y.rest, y.rest-fine),
      )

  -- A conditional: its condition, then `x` records that hold its arms, then the list after it.
  conditional-roots : (e : Expression) (l a : Actions) → Follows a → (b : Action) (base i x : ℕ) → ExpressionTidy e → ActionsTidy a
      → action_roots d b ≡ last_of base (expression_size e) ∷ [] → action_at d i ≡ b
      → Stand d base (nodes_of s base e) → Stand d (base + expression_size e + expressions_in l) (nodes_in s (base + expression_size e + expressions_in l) a)
      → StandActions d (suc i + x) (actions_of s (base + expression_size e + expressions_in l) a) → base + (expression_size e + expressions_in l + expressions_in a) ≤ length d.expressions
      → (test : Worth → Worth → Bool) → Held (x + actions_in a) i (last_of base (expression_size e)) x test
      → Ends (base + expression_size e) (base + expression_size e + expressions_in l) (run_roots d x (suc i))
      → Ends base (base + (expression_size e + expressions_in l + expressions_in a)) (run_roots d (suc (x + actions_in a)) i)
  unfolding run_roots
  conditional-roots e l a follows b base i x g h r q n k o f test y inner =
      let at = base + expression_size e in
      let m : x + actions_in a - x ≡ actions_in a = omega arith in
      let u : i + 1 + x ≡ suc i + x = omega arith in
      let z : at + expressions_in l + expressions_in a ≡ base + (expression_size e + expressions_in l + expressions_in a) = omega arith in
      let rest : judged (actions_in a) (suc i + x) actions ≡ fine y.rest = rw (m, u) at y.rest-fine in
      rw (q, r, Y.roots-join d x (actions_in a) (suc i))
      (expression-then base e _ g n (omega arith) y.condition-fine
      ∙ trees-join d at (at + expressions_in l) (run_roots d x (suc i)) _ inner
      ∙ follows (at + expressions_in l) (suc i + x) actions _ h k o (omega arith) rest ∙ ap some z)

  -- What `@` names, and that an arm is no action.
  side-of : (i n : ℕ) {w : Worth} → simple_judged d p in_state works (action_place p i) (D.set n) ≡ fine w → (v : Worth) × (J.side d p in_state works n ≡ fine v)
  unfolding simple_judged
  side-of i n f = let y = given-fine (J.side d p in_state works n) _ f in (y.v, y.part)

  no-action : {A : Type 0} (i n : ℕ) {w : Worth} → simple_judged d p in_state works (action_place p i) (D.arm n) ≡ fine w → A
  unfolding simple_judged
  no-action i n f = faulty-fine f

  pub follows : (a : Actions) → Follows a
  unfolding nodes_in actions_of expressions_in actions_in run_roots trees_end J.list_judged J.arms_judged
  follows T.done base i t w h k x l j = let z : base ≡ base + 0 = omega arith in ap some z
  follows (T.store o p' left e a) base i t w h k x l j =
      let right = base + left_size left in
      let n : base + (left_size left + expression_size e) ≡ right + expression_size e = omega arith in
      let nodes = stand-right d base (left_nodes s base left) _ k right (let z = left-size s base left in omega (arith, z)) in
      let after : Stand d (base + (left_size left + expression_size e)) (nodes_in s (base + (left_size left + expression_size e)) a) =
      rw n (stand-right d right (nodes_of s right e) _ nodes (right + expression_size e) (let z = nodes-size s right e in omega (arith, z))) in
      let acts : StandActions d (suc i) (actions_of s (base + (left_size left + expression_size e)) a) = rw n x.1 in
      let y = store-roots o left e base i t (actions_in a) (run_roots d (actions_in a) (suc i)) h.0 h.1.0 (stand-left d base (left_nodes s base left) _ k) (stand-left d right (nodes_of s right e) _ nodes) (omega arith) x.0 j in
      rw x.0 (y.0 ∙ rest-ends a (follows a) base (left_size left + expression_size e) i (left_size left + expression_size e + expressions_in a) h.1.1 after acts (omega (arith, l)) y.1.1 refl)
  follows (T.set p' e a) base i actions w h k x l j =
      let y = plain-fine (actions_in a) i _ x.0 (first_fine (actions_in a) i _ x.0 j) in
      let v = side-of i (last_of base (expression_size e)) y.own-fine in
      rw x.0 (reference-then base e (run_roots d (actions_in a) (suc i)) h.0 (stand-left d base (nodes_of s base e) _ k) (omega arith) v.1
      ∙ rest-ends a (follows a) base (expression_size e) i (expression_size e + expressions_in a) h.1
      (stand-right d base (nodes_of s base e) _ k (base + expression_size e) (let z = nodes-size s base e in omega (arith, z))) x.1 (omega (arith, l)) y.rest-fine refl)
  follows (T.set p' e a) base i arms w h k x l j = faulty-fine (first-arm (actions_in a) i _ x.0 j)
  follows (T.perform n p' a) base i t w h k x l j = simply a (follows a) base i t _ (operation-rootless (meaning s n)) x.0 h k x.1 l j
  follows (T.goto n p' a) base i t w h k x l j = simply a (follows a) base i t _ (goto-rootless (meaning s n)) x.0 h k x.1 l j
  follows (T.call n p' a) base i t w h k x l j = simply a (follows a) base i t _ (call-rootless (meaning s n)) x.0 h k x.1 l j
  follows (T.return p' a) base i t w h k x l j = simply a (follows a) base i t D.return returns x.0 h k x.1 l j
  follows (T.when p' e b a) base i arms w h k x l j = faulty-fine (first-arm (suc (actions_in b) + actions_in a) i _ x.0 j)
  follows (T.when p' e b a) base i actions w h k x l j =
      let at = base + expression_size e in
      let m = actions_in b in
      let y = held (suc m + actions_in a) i (last_of base (expression_size e)) (suc m) (λ v w. both (eqb v.length 1) (eqb w.arms 1)) (first_fine (suc m + actions_in a) i _ x.0 j) in
      let arm = arm-fine m (i + 1) m (first-arm m (i + 1) (D.arm m) (arm_at x.1.0) y.inner-fine) in
      let nodes = stand-right d base (nodes_of s base e) _ k at (let z = nodes-size s base e in omega (arith, z)) in
      let two : i + 1 + 1 ≡ suc (suc i) = omega arith in
      let own : judged m (suc (suc i)) actions ≡ fine arm.own = rw two at arm.own-fine in
      conditional-roots e b a (follows a) _ base i (suc m) h.0 h.1.1 refl x.0 (stand-left d base (nodes_of s base e) _ k)
      (stand-right d at (nodes_in s at b) _ nodes (at + expressions_in b) (let z = in_size s at b in omega (arith, z)))
      (actions-right d (suc (suc i)) (actions_of s at b) _ x.1.1 (suc i + suc m) (let z = actions-size s at b in omega (arith, z))) (omega arith) (λ v w. both (eqb v.length 1) (eqb w.arms 1)) y
      (rw x.1.0 (follows b at (suc (suc i)) actions _ h.1.0 (stand-left d at (nodes_in s at b) _ nodes) (actions-left d (suc (suc i)) (actions_of s at b) _ x.1.1) (omega arith) own))
    where
      arm_at : {b' : Action} → action_at d (suc i) ≡ b' → action_at d (i + 1) ≡ b'
      arm_at f = let z : i + 1 ≡ suc i = omega arith in rw z f
  follows (T.choose p' e b a) base i arms w h k x l j = faulty-fine (first-arm (actions_in b + actions_in a) i _ x.0 j)
  follows (T.choose p' e b a) base i actions w h k x l j =
      let at = base + expression_size e in
      let m = actions_in b in
      let y = held (m + actions_in a) i (last_of base (expression_size e)) m (λ v w. both (selects v.length (arms_in b)) (eqb w.arms (arms_in b))) (first_fine (m + actions_in a) i _ x.0 j) in
      let nodes = stand-right d base (nodes_of s base e) _ k at (let z = nodes-size s base e in omega (arith, z)) in
      let one : i + 1 ≡ suc i = omega arith in
      let inner : judged m (suc i) arms ≡ fine y.inner = rw one at y.inner-fine in
      conditional-roots e b a (follows a) _ base i m h.0 h.1.1 refl x.0 (stand-left d base (nodes_of s base e) _ k)
      (stand-right d at (nodes_in s at b) _ nodes (at + expressions_in b) (let z = in_size s at b in omega (arith, z)))
      (actions-right d (suc i) (actions_of s at b) _ x.1 (suc i + m) (let z = actions-size s at b in omega (arith, z))) (omega arith) (λ v w. both (selects v.length (arms_in b)) (eqb w.arms (arms_in b))) y
      (follows b at (suc i) arms _ h.1.0 (stand-left d at (nodes_in s at b) _ nodes) (actions-left d (suc i) (actions_of s at b) _ x.1) (omega arith) inner)
  follows (T.arm b a) base i actions w h k x l j =
      no-action i (actions_in b) (plain-fine (actions_in b + actions_in a) i (D.arm (actions_in b)) x.0 (first_fine (actions_in b + actions_in a) i (D.arm (actions_in b)) x.0 j)).own-fine
  follows (T.arm b a) base i arms w h k x l j =
      let m = actions_in b in
      let y = arm-fine (m + actions_in a) i m (first-arm (m + actions_in a) i _ x.0 j) in
      let one : i + 1 ≡ suc i = omega arith in
      let less : m + actions_in a - m ≡ actions_in a = omega arith in
      let at : i + 1 + m ≡ suc i + m = omega arith in
      let own : judged m (suc i) actions ≡ fine y.own = rw one at y.own-fine in
      let rest : judged (actions_in a) (suc i + m) arms ≡ fine y.rest = rw (less, at) at y.rest-fine in
      let z : base + expressions_in b + expressions_in a ≡ base + (expressions_in b + expressions_in a) = omega arith in
      rw (x.0, Y.roots-join d m (actions_in a) (suc i))
      (trees-join d base (base + expressions_in b) (run_roots d m (suc i)) _
      (follows b base (suc i) actions _ h.0 (stand-left d base (nodes_in s base b) _ k) (actions-left d (suc i) (actions_of s base b) _ x.1) (omega arith) own)
      ∙ follows a (base + expressions_in b) (suc i + m) arms _ h.1 (stand-right d base (nodes_in s base b) _ k (base + expressions_in b) (let n = in_size s base b in omega (arith, n)))
      (actions-right d (suc i) (actions_of s base b) _ x.1 (suc i + m) (let n = actions-size s base b in omega (arith, n))) (omega arith) rest ∙ ap some z)
