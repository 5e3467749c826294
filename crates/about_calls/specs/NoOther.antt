-- NO-OTHER: what a record that a run can work out comes to hangs on no records but those that it can work out. Assumes nothing.
use Rattle.std.specs.Prelude.{Bool, true, false, ◌≡◌}
use Rattle.std.proofs.Math.Bool.{cond}
use Rattle.std.proofs.Math.Option.{Option, none, some}
use Rattle.std.proofs.Math.Path.{refl, ap}
use Rattle.std.proofs.Common.{subst, arith}
use Prim.Native.Nat.{ℕ, zero, suc, ◌-◌}
use Rattle.language.specs.Description as D
use Rattle.language.specs.Description.{Description, Facility, Node, facility_at, is_computed, node_at}
use Rattle.language.specs.Meaning.{Answer, Located, Stores, after, arm_back, arm_here, arm_number, arm_worth, chosen, decides, eval_node, eval_step, is, located, not_one_bit, operand, part_of_value, place_of, read, stops, stuck}
use Rattle.language.specs.References as R
use Rattle.language.specs.References.{Reference, Subscripts, reference_of}
use Rattle.language.specs.Value.{Value, value}
use Rattle.about_running.specs.Finds.{Each}
use Rattle.about_calls.specs.Settled.{node_with, reference-node}
use Rattle.about_calls.specs.WorkedOut as W
use Rattle.about_calls.specs.WorkedOut.{Arm, WorkedOut}

-- ---- Arms that are found are arms.

module _ (d : Description) where
  no_arm : {A : Type 0} {g : ℕ} → none ≡ some g → A
  no_arm e = absurd (let z : ◌≡◌ {A = ℕ} 0 1 = cc in omega arith)

  this-arm : {m g : ℕ} → some m ≡ some g → m ≡ g
  this-arm e = cc

  -- The arm at the record a itself.
  arm-here : (a : ℕ) (nd : Node) {g : ℕ} → node_at d a ≡ nd → arm_here d 0 (λ b. none) nd ≡ some g → Arm d a g
  arm-here a (D.first_arm e) q h = subst (Arm d a) (this-arm h) (W.first q)
  arm-here a (D.next_arm b e) q h = subst (Arm d a) (this-arm h) (W.last q)
  arm-here a (D.constant v) q h = no_arm h
  arm-here a (D.more n) q h = no_arm h
  arm-here a (D.whole f) q h = no_arm h
  arm-here a (D.one f e) q h = no_arm h
  arm-here a (D.part f x) q h = no_arm h
  arm-here a (D.two f e g) q h = no_arm h
  arm-here a (D.word_part f e x) q h = no_arm h
  arm-here a (D.binary k b c) q h = no_arm h
  arm-here a (D.prefix k b) q h = no_arm h
  arm-here a (D.cut k b c) q h = no_arm h
  arm-here a (D.choice e b n) q h = no_arm h
  arm-here a D.Node.broken q h = no_arm h

  -- One before it.
  arm-earlier : (a : ℕ) (nd : Node) (back : ℕ → Option ℕ) {g : ℕ} → ((b : ℕ) → back b ≡ some g → Arm d b g) → node_at d a ≡ nd → arm_here d 1 back nd ≡ some g → Arm d a g
  arm-earlier a (D.first_arm e) back on q h = no_arm h
  arm-earlier a (D.next_arm b e) back on q h = W.earlier q (on b h)
  arm-earlier a (D.constant v) back on q h = no_arm h
  arm-earlier a (D.more n) back on q h = no_arm h
  arm-earlier a (D.whole f) back on q h = no_arm h
  arm-earlier a (D.one f e) back on q h = no_arm h
  arm-earlier a (D.part f x) back on q h = no_arm h
  arm-earlier a (D.two f e g) back on q h = no_arm h
  arm-earlier a (D.word_part f e x) back on q h = no_arm h
  arm-earlier a (D.binary k b c) back on q h = no_arm h
  arm-earlier a (D.prefix k b) back on q h = no_arm h
  arm-earlier a (D.cut k b c) back on q h = no_arm h
  arm-earlier a (D.choice e b n) back on q h = no_arm h
  arm-earlier a D.Node.broken back on q h = no_arm h

  arm-found : (k a : ℕ) {g : ℕ} → arm_back d k a ≡ some g → Arm d a g
  unfolding arm_back
  arm-found zero a h = arm-here a (node_at d a) refl h
  arm-found (suc k) a h = arm-earlier a (node_at d a) (arm_back d k) (λ b e. arm-found k b e) refl h

-- ---- Two that answer alike for every record that a run can work out.

after-alike : {a a' : Answer} {on on' : Value → Answer} → a ≡ a' → ((v : Value) → on v ≡ on' v) → after a on ≡ after a' on'
after-alike {a} {on = on} {on' = on'} e h = rw (← e) (go a)
  where
    go : (a : Answer) → after a on ≡ after a on'
    go (is v) = h v
    go (stops n) = refl
    go (stuck s) = refl

located-alike : (ev ev' : ℕ → Answer) (n : ℕ) (f : Facility) (u : Subscripts) → Each (λ e. ev e ≡ ev' e) u → located ev n f u ≡ located ev' n f u
unfolding located
located-alike ev ev' n f R.whole h = refl
located-alike ev ev' n f (R.one e) h = rw h refl
located-alike ev ev' n f (R.part x) h = refl
located-alike ev ev' n f (R.two e g) h = rw (h.0, h.1) refl
located-alike ev ev' n f (R.word_part e x) h = rw h refl

module _ {X : Type 0} (S : Stores X) (d : Description) (x : X) (ev ev' : ℕ → Answer) (alike : (a : ℕ) → WorkedOut d a → ev a ≡ ev' a) where
  place-alike : (f : ℕ) (u : Subscripts) → Each (λ e. ev e ≡ ev' e) u → place_of d ev (record { facility = f; subscripts = u }) ≡ place_of d ev' (record { facility = f; subscripts = u })
  unfolding place_of
  place-alike f u h = rw (located-alike ev ev' f (facility_at d f) u h) refl

  read_alike : (f : ℕ) (loc : Located) → read S d x ev (facility_at d f) loc ≡ read S d x ev' (facility_at d f) loc
  read_alike f (Located.stops n) = refl
  read_alike f (Located.stuck s) = refl
  read_alike f (Located.at p) = go (is_computed (facility_at d f).kind) refl
    where
      go : (b : Bool) → is_computed (facility_at d f).kind ≡ b
          → cond b (after (ev (facility_at d f).expression) (part_of_value S d x (facility_at d f) p)) (is (value p.count (S.load x p)))
          ≡ cond b (after (ev' (facility_at d f).expression) (part_of_value S d x (facility_at d f) p)) (is (value p.count (S.load x p)))
      go true q = after-alike (alike (facility_at d f).expression (W.terminal f q refl)) (λ v. refl)
      go false q = refl

  operand-alike : (f : ℕ) (u : Subscripts) → Each (λ e. ev e ≡ ev' e) u → operand S d x ev f u ≡ operand S d x ev' f u
  operand-alike f u h = rw (place-alike f u h) (read_alike f (place_of d ev' (record { facility = f; subscripts = u })))

  subscripts-alike : {n : ℕ} (f : ℕ) (u : Subscripts) → WorkedOut d n → node_at d n ≡ node_with f u → Each (λ e. ev e ≡ ev' e) u
  subscripts-alike f R.whole o q = tt
  subscripts-alike f (R.one e) o q = alike e (W.part o (W.subscript q))
  subscripts-alike f (R.part y) o q = tt
  subscripts-alike f (R.two e g) o q = (alike e (W.part o (W.word-of-bit q)), alike g (W.part o (W.bit-of-word q)))
  subscripts-alike f (R.word_part e y) o q = alike e (W.part o (W.word_of_part q))

  chosen-alike : {n e a m : ℕ} → WorkedOut d n → node_at d n ≡ D.choice e a m → (k : Option ℕ) → chosen S d x ev a m k ≡ chosen S d x ev' a m k
  chosen-alike o q none = refl
  chosen-alike {n} {e} {a} {m} o q (some k) = go (arm_back d (m - k) a) refl
    where
      go : (y : Option ℕ) → arm_back d (m - k) a ≡ y → arm_worth S d x ev y ≡ arm_worth S d x ev' y
      go none h = refl
      go (some g) h = alike g (W.part o (W.arm q (arm-found d (m - k) a h)))

  node_alike : {n : ℕ} (nd : Node) → WorkedOut d n → node_at d n ≡ nd → eval_node S d x ev nd ≡ eval_node S d x ev' nd
  unfolding eval_node
  node_alike (D.constant v) o q = refl
  node_alike (D.more m) o q = refl
  node_alike (D.whole f) o q = operand-alike f R.whole (subscripts-alike f R.whole o q)
  node_alike (D.one f e) o q = operand-alike f (R.one e) (subscripts-alike f (R.one e) o q)
  node_alike (D.part f y) o q = operand-alike f (R.part y) (subscripts-alike f (R.part y) o q)
  node_alike (D.two f e g) o q = operand-alike f (R.two e g) (subscripts-alike f (R.two e g) o q)
  node_alike (D.word_part f e y) o q = operand-alike f (R.word_part e y) (subscripts-alike f (R.word_part e y) o q)
  node_alike (D.binary k a b) o q = after-alike (alike a (W.part o (W.left q))) (λ v. after-alike (alike b (W.part o (W.right q))) (λ w. refl))
  node_alike (D.prefix k a) o q = after-alike (alike a (W.part o (W.operand q))) (λ v. refl)
  node_alike (D.cut k a c) o q = after-alike (alike a (W.part o (W.source q))) (λ v. refl)
  node_alike (D.first_arm e) o q = refl
  node_alike (D.next_arm a e) o q = refl
  node_alike (D.choice e a m) o q = after-alike (alike e (W.part o (W.condition q))) (λ v. ap (λ (y : Answer). cond (decides m v) y (stuck not_one_bit)) (chosen-alike o q (arm_number m v.number)))
  node_alike D.Node.broken o q = refl

  -- The value of a record that a run can work out is the same by both.
  pub no_other : {n : ℕ} → WorkedOut d n → eval_step S d x ev n ≡ eval_step S d x ev' n
  no_other {n} o = node_alike (node_at d n) o refl

  -- So is the place that a reference names, which the left side of a store is.
  pub no-other-place : {n : ℕ} {r : Reference} → WorkedOut d n → reference_of (node_at d n) ≡ some r → place_of d ev r ≡ place_of d ev' r
  no-other-place {n} {r} o q = place-alike r.facility r.subscripts (subscripts-alike r.facility r.subscripts o (reference-node (node_at d n) q))
