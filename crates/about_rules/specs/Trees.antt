-- Expressions and left sides that are judged fine are trees in order. Assumes nothing.
use Rattle.std.specs.Prelude.{Bool, true, false, cond, List, [], ◌∷◌, ◌++◌, ◌≡◌, refl, ℕ, ◌+◌, ◌-◌, ◌<◌, ltb, length}
use Rattle.std.proofs.Math.Option.{Option, some}
use Rattle.std.proofs.Math.Path.{sym}
use Rattle.std.proofs.Common.{◌∙◌}
use native.Mathlib.Omega.{arith}
use Rattle.language.specs.Describe as B
use Rattle.language.specs.Describe.{Noted, expression_size, last_of, nodes_of}
use Rattle.language.specs.Description as D
use Rattle.language.specs.Description.{Bounds, Description, Node, NodePlaces, Places, facility_at, node_at, node_place}
use Rattle.language.specs.Expressions as E
use Rattle.language.specs.Expressions.{judge_at, judge_below, judge_node, judge_step}
use Rattle.language.specs.Judging.{Judged, Worth, faults_of, fine, refuse}
use Rattle.language.specs.Naming.{Meaning, Scope, facility, meaning, of_facility, operation, state, unknown}
use Rattle.language.specs.Order.{just_before, start_at, start_below, start_node, two_before}
use Rattle.language.specs.Recursion.{below-lt}
use Rattle.language.specs.ReferenceRules as RR
use Rattle.language.specs.ReferenceRules.{bound_faults, direction_faults, reference_judged, subscripts_judged}
use Rattle.language.specs.References as R
use Rattle.language.specs.References.{Reference, part, right_count, two, word_part}
use Rattle.language.specs.declared.refusals.Refusal.TheVariants.{BadName, BadSubscript}
use Rattle.language.specs.Tree as T
use Rattle.language.specs.Tree.{Expression}
use Rattle.about_rules.specs.Sizes.{nodes-size}
use Rattle.about_rules.specs.Starts.{Stand, constant-starts, one-part, some-records, stand-left, stand-right, two-parts}
use Rattle.about_rules.specs.Tidy.{ExpressionTidy}
use Rattle.about_running.specs.Judged.{arms-fine, both-fine, clean-fine, faulty-fine, given-fine, proper-fine}

module _ (d : Description) where
  -- ---- Where a record with one part begins, and one with two.

  pub root-one : (base m : ℕ) (xs : List Noted) (n : Noted) → length xs ≡ m → Stand d base (xs ++ n ∷ []) → node_at d (base + m) ≡ n.node
  root-one base m xs n e h = (stand-right d base xs (n ∷ []) h (base + m) (omega (arith, e))).0

  pub root-two : (base m k : ℕ) (xs ys : List Noted) (n : Noted) → length xs ≡ m → length ys ≡ k → Stand d base (xs ++ (ys ++ n ∷ [])) → node_at d (base + m + k) ≡ n.node
  root-two base m k xs ys n e f h = root-one (base + m) k ys n f (stand-right d base xs (ys ++ n ∷ []) h (base + m) (omega (arith, e)))

  one-start : (base m : ℕ) (R : Node) → 0 < m → start_at d (last_of base m) ≡ some base → node_at d (base + m) ≡ R
      → ((start : ℕ → Option ℕ) → start_node d start (base + m) R ≡ just_before d start (last_of base m) (base + m)) → start_at d (last_of base (m + 1)) ≡ some base
  unfolding start_at
  one-start base m R l h e k =
      let z : base + (m + 1) - 1 ≡ base + m = omega arith in
      rw (z, e, k (start_below d (base + m))) (one-part d (last_of base m) (base + m) base (omega arith) h)

  two-start : (base m k : ℕ) (R : Node) → 0 < m → 0 < k → start_at d (last_of base m) ≡ some base → start_at d (last_of (base + m) k) ≡ some (base + m) → node_at d (base + m + k) ≡ R
      → ((start : ℕ → Option ℕ) → start_node d start (base + m + k) R ≡ two_before d start (last_of base m) (last_of (base + m) k) (base + m + k)) → start_at d (last_of base (m + k + 1)) ≡ some base
  unfolding start_at
  two-start base m k R l i h g e f =
      let z : base + (m + k + 1) - 1 ≡ base + m + k = omega arith in
      rw (z, e, f (start_below d (base + m + k)))
      (two-parts d (last_of base m) (last_of (base + m) k) (base + m + k) (base + m) base (omega arith) g (omega arith) (omega arith) h)

  module _ (p : Places) (terms : ℕ → Judged) (known : ℕ) (s : Scope) where
    -- ---- What is judged fine, of a record's parts.

    abbrev pub judged : ℕ → Judged
    judged n = judge_at d p terms known n

    below-fine : (n a : ℕ) {w : Worth} → a < n → judge_below d p terms known n a ≡ fine w → judged a ≡ fine w
    unfolding judge_below judge_at
    below-fine n a l e = sym (below-lt (E.not_before d p terms known) (judge_step d p terms known) n a l) ∙ e

    proper-below : (n a : ℕ) {w : Worth} → a < n → E.proper_at d p terms known (judge_below d p terms known n) a ≡ fine w → judged a ≡ fine w
    proper-below n a l e = below-fine n a l (proper-fine (node_place p a).at (judge_below d p terms known n a) e).same

    node-fine : (n m : ℕ) (R : Node) {w : Worth} → n ≡ m → node_at d m ≡ R → judged n ≡ fine w → judge_node d p terms known (judge_below d p terms known m) (node_place p m) R ≡ fine w
    unfolding judge_at
    node-fine n m R e f h = rw (e, f) at h

    -- A reference's subscripts are fine.
    pub subscripts-fine : (ev : ℕ → Judged) (own : ℕ) (r : Reference) (at : NodePlaces) {w : Worth} → reference_judged d p terms ev own known r at ≡ fine w
        → (v : Worth) × (subscripts_judged d p terms ev r.subscripts ≡ fine v)
    unfolding reference_judged
    subscripts-fine ev own r at {w} e = go (ltb r.facility known) (right_count (facility_at d r.facility).dimensions r.subscripts) e
      where
        f : D.Facility
        f = facility_at d r.facility

        go : (a b : Bool) → cond a (cond b (RR.counted_right d p terms ev own r.facility f r.subscripts at) (RR.counted_wrong d p terms ev r.subscripts at)) (refuse at.at BadName) ≡ fine w
            → (v : Worth) × (subscripts_judged d p terms ev r.subscripts ≡ fine v)
        go false b k = faulty-fine k
        go true false k = faulty-fine (clean-fine (faults_of (subscripts_judged d p terms ev r.subscripts)) (refuse at.at BadSubscript) k).same
        go true true k =
            let c1 = clean-fine (faults_of (subscripts_judged d p terms ev r.subscripts) ++ bound_faults d p terms f r.subscripts at) _ k in
            let c2 = clean-fine (direction_faults d p terms f r.subscripts at) _ c1.same in
            let t = both-fine (subscripts_judged d p terms ev r.subscripts) (RR.computed_work d p terms r.facility f) _ c2.same in
            (t.u, t.left)

    -- A name that means nothing is at fault.
    resolved : (m : Meaning) (F : ℕ → Node) (ev : ℕ → Judged) (at : NodePlaces) {w : Worth} → judge_node d p terms known ev at (of_facility m F) ≡ fine w → (k : ℕ) × (of_facility m F ≡ F k)
    unfolding judge_node
    resolved (facility k) F ev at e = (k, refl)
    resolved (operation k) F ev at e = faulty-fine e
    resolved (state k) F ev at e = faulty-fine e
    resolved unknown F ev at e = faulty-fine e

    -- ---- Expressions.

    abbrev pub Starts : ℕ → ℕ → Type 0
    Starts base m = (w : Worth) → judged (last_of base m) ≡ fine w → start_at d (last_of base m) ≡ some base

    pub last-so : (base m : ℕ) → last_of base (m + 1) ≡ base + m
    last-so base m = omega arith

    pub last-two : (base m k : ℕ) → last_of base (m + k + 1) ≡ base + m + k
    last-two base m k = omega arith

    -- Each kind of root, from its parts.
    pub reference-one : (base m k : ℕ) → 0 < m → node_at d (base + m) ≡ D.one k (last_of base m) → Starts base m
        → (v : Worth) × (subscripts_judged d p terms (judge_below d p terms known (base + m)) (R.one (last_of base m)) ≡ fine v) → start_at d (last_of base (m + 1)) ≡ some base
    unfolding subscripts_judged start_node
    reference-one base m k l e h f = one-start base m _ l (h _ (proper-below (base + m) (last_of base m) (omega arith) f.1)) e (λ start. refl)

    pub reference-word-part : (base m k : ℕ) (b : Bounds) → 0 < m → node_at d (base + m) ≡ D.word_part k (last_of base m) b → Starts base m
        → (v : Worth) × (subscripts_judged d p terms (judge_below d p terms known (base + m)) (word_part (last_of base m) b) ≡ fine v) → start_at d (last_of base (m + 1)) ≡ some base
    unfolding subscripts_judged start_node
    reference-word-part base m k b l e h f = one-start base m _ l (h _ (proper-below (base + m) (last_of base m) (omega arith) f.1)) e (λ start. refl)

    pub reference-two : (base m n k : ℕ) → 0 < m → 0 < n → node_at d (base + m + n) ≡ D.two k (last_of base m) (last_of (base + m) n) → Starts base m → Starts (base + m) n
        → (v : Worth) × (subscripts_judged d p terms (judge_below d p terms known (base + m + n)) (two (last_of base m) (last_of (base + m) n)) ≡ fine v) → start_at d (last_of base (m + n + 1)) ≡ some base
    unfolding subscripts_judged start_node
    reference-two base m n k l i e h g f =
        let y = both-fine _ _ _ f.1 in
        two-start base m n _ l i (h _ (proper-below (base + m + n) (last_of base m) (omega arith) y.left)) (g _ (proper-below (base + m + n) (last_of (base + m) n) (omega arith) y.right)) e (λ start. refl)

    pub leaf-start : (base : ℕ) (R : Node) → node_at d base ≡ R → ((start : ℕ → Option ℕ) → start_node d start base R ≡ some base) → start_at d (last_of base 1) ≡ some base
    unfolding start_at
    leaf-start base R e k = let z : base + 1 - 1 ≡ base = omega arith in rw (z, e) (k (start_below d base))

    one_arm : (base m : ℕ) (R : Node) → 0 < m → node_at d (base + m) ≡ R → Starts base m → (v : Worth) × (judged (last_of base m) ≡ fine v)
        → ((start : ℕ → Option ℕ) → start_node d start (base + m) R ≡ just_before d start (last_of base m) (base + m)) → start_at d (last_of base (m + 1)) ≡ some base
    one_arm base m R l e h f k = one-start base m R l (h f.0 f.1) e k

    two-arms : (base m n : ℕ) (R : Node) → 0 < m → 0 < n → node_at d (base + m + n) ≡ R → Starts base m → Starts (base + m) n
        → (v : Worth) × (judged (last_of base m) ≡ fine v) → (w : Worth) × (judged (last_of (base + m) n) ≡ fine w)
        → ((start : ℕ → Option ℕ) → start_node d start (base + m + n) R ≡ two_before d start (last_of base m) (last_of (base + m) n) (base + m + n)) → start_at d (last_of base (m + n + 1)) ≡ some base
    two-arms base m n R l i e h g f f' k = two-start base m n R l i (h f.0 f.1) (g f'.0 f'.1) e k

    pub expression-starts : (base : ℕ) (e : Expression) → ExpressionTidy e → Stand d base (nodes_of s base e) → Starts base (expression_size e)
    unfolding nodes_of expression_size judge_node start_node
    expression-starts base (T.constant c p') h k w j = constant-starts d base c.value p' h.fits k
    expression-starts base (T.whole n p') h k w j =
        let z : base + 1 - 1 ≡ base = omega arith in
        let r = resolved (meaning s n) D.whole _ _ (node-fine _ base _ z k.0 j) in
        leaf-start base _ (k.0 ∙ r.1) (λ start. refl)
    expression-starts base (T.one n p' e) h k w j =
        let m = expression_size e in
        let part = stand-left d base (nodes_of s base e) _ k in
        let root = root-one base m (nodes_of s base e) _ (nodes-size s base e) k in
        let own = node-fine _ (base + m) _ (last-so base m) root j in
        let r = resolved (meaning s n) (λ f. D.one f (last_of base m)) _ _ own in
        reference-one base m r.0 (some-records e) (root ∙ r.1) (expression-starts base e h part)
        (subscripts-fine _ _ (record { facility = r.0; subscripts = R.one (last_of base m) }) _ (rw r.1 at own))
    expression-starts base (T.part n p' x) h k w j =
        let z : base + 1 - 1 ≡ base = omega arith in
        let r = resolved (meaning s n) (λ f. D.part f (B.bounds_of x)) _ _ (node-fine _ base _ z k.0 j) in
        leaf-start base _ (k.0 ∙ r.1) (λ start. refl)
    expression-starts base (T.two n p' e g) h k w j =
        let m = expression_size e in
        let o = expression_size g in
        let left = stand-left d base (nodes_of s base e) _ k in
        let right = stand-left d (base + m) (nodes_of s (base + m) g) _ (stand-right d base (nodes_of s base e) _ k (base + m) (let z = nodes-size s base e in omega (arith, z))) in
        let root = root-two base m o (nodes_of s base e) (nodes_of s (base + m) g) _ (nodes-size s base e) (nodes-size s (base + m) g) k in
        let own = node-fine _ (base + m + o) _ (last-two base m o) root j in
        let r = resolved (meaning s n) (λ f. D.two f (last_of base m) (last_of (base + m) o)) _ _ own in
        reference-two base m o r.0 (some-records e) (some-records g) (root ∙ r.1) (expression-starts base e h.0 left) (expression-starts (base + m) g h.1 right)
        (subscripts-fine _ _ (record { facility = r.0; subscripts = two (last_of base m) (last_of (base + m) o) }) _ (rw r.1 at own))
    expression-starts base (T.word_part n p' e x) h k w j =
        let m = expression_size e in
        let part = stand-left d base (nodes_of s base e) _ k in
        let root = root-one base m (nodes_of s base e) _ (nodes-size s base e) k in
        let own = node-fine _ (base + m) _ (last-so base m) root j in
        let r = resolved (meaning s n) (λ f. D.word_part f (last_of base m) (B.bounds_of x)) _ _ own in
        reference-word-part base m r.0 (B.bounds_of x) (some-records e) (root ∙ r.1) (expression-starts base e h part)
        (subscripts-fine _ _ (record { facility = r.0; subscripts = word_part (last_of base m) (B.bounds_of x) }) _ (rw r.1 at own))
    expression-starts base (T.binary o p' e g) h k w j =
        let m = expression_size e in
        let n = expression_size g in
        let left = stand-left d base (nodes_of s base e) _ k in
        let right = stand-left d (base + m) (nodes_of s (base + m) g) _ (stand-right d base (nodes_of s base e) _ k (base + m) (let z = nodes-size s base e in omega (arith, z))) in
        let root = root-two base m n (nodes_of s base e) (nodes_of s (base + m) g) _ (nodes-size s base e) (nodes-size s (base + m) g) k in
        let y = both-fine _ _ _ (node-fine _ (base + m + n) _ (last-two base m n) root j) in
        two-arms base m n _ (some-records e) (some-records g) root (expression-starts base e h.0 left) (expression-starts (base + m) g h.1 right)
        (y.u, proper-below (base + m + n) (last_of base m) (omega (arith, some-records e)) y.left) (y.v, proper-below (base + m + n) (last_of (base + m) n) (omega (arith, some-records g)) y.right) (λ start. refl)
    expression-starts base (T.prefix o p' e) h k w j =
        let m = expression_size e in
        let part = stand-left d base (nodes_of s base e) _ k in
        let root = root-one base m (nodes_of s base e) _ (nodes-size s base e) k in
        let y = given-fine _ _ (node-fine _ (base + m) _ (last-so base m) root j) in
        one_arm base m _ (some-records e) root (expression-starts base e h part) (y.v, proper-below (base + m) (last_of base m) (omega (arith, some-records e)) y.part) (λ start. refl)
    expression-starts base (T.cut o p' e c) h k w j =
        let m = expression_size e in
        let part = stand-left d base (nodes_of s base e) _ k in
        let root = root-one base m (nodes_of s base e) _ (nodes-size s base e) k in
        let y = given-fine _ _ (node-fine _ (base + m) _ (last-so base m) root j) in
        one_arm base m _ (some-records e) root (expression-starts base e h part) (y.v, proper-below (base + m) (last_of base m) (omega (arith, some-records e)) y.part) (λ start. refl)
    expression-starts base (T.choice p' e g) h k w j =
        let m = expression_size e in
        let n = expression_size g in
        let left = stand-left d base (nodes_of s base e) _ k in
        let right = stand-left d (base + m) (nodes_of s (base + m) g) _ (stand-right d base (nodes_of s base e) _ k (base + m) (let z = nodes-size s base e in omega (arith, z))) in
        let root = root-two base m n (nodes_of s base e) (nodes_of s (base + m) g) _ (nodes-size s base e) (nodes-size s (base + m) g) k in
        let y = both-fine _ _ _ (node-fine _ (base + m + n) _ (last-two base m n) root j) in
        two-arms base m n _ (some-records e) (some-records g) root (expression-starts base e h.0 left) (expression-starts (base + m) g h.1 right)
        (y.u, proper-below (base + m + n) (last_of base m) (omega (arith, some-records e)) y.left)
        (y.v, below-fine (base + m + n) (last_of (base + m) n) (omega (arith, some-records g)) (arms-fine _ _ y.right).same) (λ start. refl)
    expression-starts base (T.first_arm e) h k w j =
        let m = expression_size e in
        let part = stand-left d base (nodes_of s base e) _ k in
        let root = root-one base m (nodes_of s base e) _ (nodes-size s base e) k in
        let y = given-fine _ _ (node-fine _ (base + m) _ (last-so base m) root j) in
        one_arm base m _ (some-records e) root (expression-starts base e h part) (y.v, proper-below (base + m) (last_of base m) (omega (arith, some-records e)) y.part) (λ start. refl)
    expression-starts base (T.next_arm e g) h k w j =
        let m = expression_size e in
        let n = expression_size g in
        let left = stand-left d base (nodes_of s base e) _ k in
        let right = stand-left d (base + m) (nodes_of s (base + m) g) _ (stand-right d base (nodes_of s base e) _ k (base + m) (let z = nodes-size s base e in omega (arith, z))) in
        let root = root-two base m n (nodes_of s base e) (nodes_of s (base + m) g) _ (nodes-size s base e) (nodes-size s (base + m) g) k in
        let y = both-fine _ _ _ (node-fine _ (base + m + n) _ (last-two base m n) root j) in
        two-arms base m n _ (some-records e) (some-records g) root (expression-starts base e h.0 left) (expression-starts (base + m) g h.1 right)
        (y.u, below-fine (base + m + n) (last_of base m) (omega (arith, some-records e)) (arms-fine _ _ y.left).same)
        (y.v, proper-below (base + m + n) (last_of (base + m) n) (omega (arith, some-records g)) y.right) (λ start. refl)
