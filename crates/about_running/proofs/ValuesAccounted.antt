-- The definition and the account agree on expressions: an expression is worth what the account says, or stops for what the account says it meets first, wherever it is not stuck. Assumes nothing.
use Rattle.std.specs.Prelude.{Bool, cond, List, [], ◌∷◌, ◌≡◌, ℕ, zero, suc, ◌-◌, ◌<◌, eqb, leb, length}
use Rattle.std.proofs.Math.Bool.{true, false}
use Rattle.std.proofs.Math.Option.{Option, none, some}
use Rattle.std.proofs.Math.Path.{refl}
use Rattle.std.proofs.Common.{arith}
use borrow.Author.Tests.{eqb-false, eqb-true, ltb-false, ltb-true}
use Rattle.std.proofs.Math.Dec.{ltb}
use Rattle.language.specs.Acting.{side, side_of}
use Rattle.language.specs.Description as D
use Rattle.language.specs.Description.{Bounds, Description, Facility, Node, facility_at, from_first, in_bounds, is_computed, node_at, span_of, word_length}
use Rattle.language.specs.Meaning.{Answer, Located, Place, Stores, Stuck, after, arm_back, arm_number, arm_worth, chosen, constant_part, decides, eval_at, eval_below, eval_node, eval_step, fitting, is, length_differs, located, no_facility, not_before, not_one_bit, outside, part_of_value, place, place_of, read, stops, stuck, subscript, too_large, up_to_longest, worth_or, wrong_length, wrong_subscripts}
use Rattle.language.specs.Operators.{binary_of, cut_of, prefix_of}
use Rattle.language.specs.Recursion.{below-ge, below-lt}
use Rattle.language.specs.References as R
use Rattle.language.specs.References.{Reference, Subscripts, part, reference_of, right_count, same_direction, two, whole, word_part}
use Rattle.language.specs.declared.stops.Stop.{Stop}
use Rattle.language.specs.Value as Values
use Rattle.language.specs.Value.{Made, Value, made, value}
use Rattle.language.specs.Ceilings.{longest}
use Rattle.about_running.specs.Account as Account
use Rattle.about_running.specs.Account.{Comes, Meets, Met, Result, Takes, Task, Worth, computed_subscripts, expression, lie, meets, names, naming, place_at, reading, record_at, stop_for, subscripts, within, worth}
use Rattle.about_running.proofs.OneAccount.{names_apart, one-result, worth-apart}
use Rattle.language.specs.Tests.{both}

-- ---- The arm that a value takes.

pub arm-so : (n v m : ℕ) → arm_number n v ≡ some m → Takes n v m
unfolding arm_number
arm-so n v m e = go (eqb v 0) refl (ltb v n) refl e
  where
    go : (a : Bool) → eqb v 0 ≡ a → (b : Bool) → ltb v n ≡ b → cond a (some n) (cond b (some v) none) ≡ some m → Takes n v m
    go true p b q k = let z : n ≡ m = cc in rw (← z, eqb-true v 0 p) Account.last-for-zero
    go false p true q k = let z : v ≡ m = cc in rw (← z) (Account.by_number {v = v} (omega (arith, eqb-false v 0 p)) (ltb-true v n q))
    go false p false q k = absurd (let z : ◌≡◌ {A = ℕ} 0 1 = cc in omega arith)

module _ {X : Type 0} (S : Stores X) (d : Description) (x : X) where
  -- An answer as the account has it.
  pub data Told (t : Task) : Answer → Type 0 where
    told-worth : {v : Value} → Comes S d x t (worth v) → Told t (is v)
    told-meets : {n : Stop} {o : Met} → Comes S d x t (meets o) → stop_for o ≡ n → Told t (stops n)
    told-stuck : {s : Stuck} → Told t (stuck s)

  -- A place likewise.
  pub data ToldAt (t : Task) : Located → Type 0 where
    told_at : {p : Place} → Comes S d x t (names p) → ToldAt t (Located.at p)
    told-meets-at : {n : Stop} {o : Met} → Comes S d x t (meets o) → stop_for o ≡ n → ToldAt t (Located.stops n)
    told-stuck-at : {s : Stuck} → ToldAt t (Located.stuck s)

  -- ---- Places.

  either-at : {t : Task} (b : Bool) (k l : Located) → ToldAt t k → ToldAt t l → ToldAt t (cond b k l)
  either-at true k l h i = h
  either-at false k l h i = i

  narrow-told : {t : Task} (p : Place) → Comes S d x t (names p) → ToldAt t (up_to_longest p)
  narrow-told p h = either-at (leb p.count longest) (Located.at p) (Located.stuck wrong_length) (told_at h) told-stuck-at

  part-told : {t : Task} (b y : Bounds) (on : ℕ → ℕ → Located) → ToldAt t (on (from_first b y.first) (span_of y)) → ToldAt t (constant_part b y on)
  part-told b y on h = either-at (both (in_bounds b y.first) (both (in_bounds b y.last) (same_direction b y))) _ (Located.stuck outside) h told-stuck-at

  -- A subscript comes first to what its expression meets, or is outside itself, or goes on.
  subscript-told : {t : Task} (e : ℕ) (b : Bounds) (a : Answer) (on : ℕ → Located) → Told (record_at d e) a
      → ((v : Value) → Worth S d x e v → in_bounds b v.number ≡ true → ToldAt t (on (from_first b v.number)))
      → ((v : Value) → Worth S d x e v → in_bounds b v.number ≡ false → Comes S d x t (meets (Account.outside (within e b) v)))
      → ((o : Met) → Meets S d x e o → Comes S d x t (meets o))
      → ToldAt t (subscript a b on)
  subscript-told {t} e b (is v) on (told-worth h) inside beyond before = go (in_bounds b v.number) refl
    where
      go : (q : Bool) → in_bounds b v.number ≡ q → ToldAt t (cond q (on (from_first b v.number)) (Located.stops Rattle.language.specs.declared.stops.Stop.TheVariants.OutsideBounds))
      go true k = inside v h k
      go false k = told-meets-at (beyond v h k) refl
  subscript-told e b (stops n) on (told-meets {o = o} h q) inside beyond before = told-meets-at (before o h) q
  subscript-told e b (stuck s) on told-stuck inside beyond before = told-stuck-at

  -- A place by another name.
  named-as : {r : Reference} {ks : List ℕ} {p : Place} → Comes S d x (subscripts (computed_subscripts (facility_at d r.facility) r.subscripts)) (lie ks)
      → place_at r.facility (facility_at d r.facility) r.subscripts ks ≡ p → Comes S d x (naming r) (names p)
  named-as h e = rw (← e) (Account.named h)

  module _ (ev : ℕ → Answer) (evs : (a : ℕ) → Told (record_at d a) (ev a)) where
    located-told : (n : ℕ) (s : Subscripts) → ToldAt (naming (record { facility = n; subscripts = s })) (located ev n (facility_at d n) s)
    unfolding located computed_subscripts place_at
    located-told n whole = narrow-told _ (named-as Account.all_lie refl)
    located-told n (R.one e) = go (eqb f.dimensions 1) refl
      where
        f : Facility
        f = facility_at d n

        go : (t : Bool) → eqb f.dimensions 1 ≡ t
            → ToldAt (naming (record { facility = n; subscripts = R.one e })) (cond t (subscript (ev e) f.bits (λ b. up_to_longest (place n 0 b 1))) (subscript (ev e) f.words (λ w. up_to_longest (place n w 0 (word_length f)))))
        go true q =
            subscript-told e f.bits (ev e) _ (evs e)
            (λ v h k. narrow-told _ (named-as {ks = from_first f.bits v.number ∷ []} (rw q (Account.lies h k Account.all_lie)) (rw q refl)))
            (λ v h k. Account.subscripts-meet (rw q (Account.lies-outside h k)))
            (λ o h. Account.subscripts-meet (Account.within-meets h))
        go false q =
            subscript-told e f.words (ev e) _ (evs e)
            (λ v h k. narrow-told _ (named-as {ks = from_first f.words v.number ∷ []} (rw q (Account.lies h k Account.all_lie)) (rw q refl)))
            (λ v h k. Account.subscripts-meet (rw q (Account.lies-outside h k)))
            (λ o h. Account.subscripts-meet (Account.within-meets h))
    located-told n (part y) = part-told (facility_at d n).bits y (λ b c. up_to_longest (place n 0 b c)) (narrow-told _ (named-as Account.all_lie refl))
    located-told n (two e g) =
        subscript-told e (facility_at d n).words (ev e) _ (evs e)
        (λ v h k. subscript-told g (facility_at d n).bits (ev g) _ (evs g)
        (λ w i l. narrow-told _ (named-as (Account.lies h k (Account.lies i l Account.all_lie)) refl))
        (λ w i l. Account.subscripts-meet (Account.later-meets h k (Account.lies-outside i l)))
        (λ o i. Account.subscripts-meet (Account.later-meets h k (Account.within-meets i))))
        (λ v h k. Account.subscripts-meet (Account.lies-outside h k))
        (λ o h. Account.subscripts-meet (Account.within-meets h))
    located-told n (word_part e y) =
        subscript-told e (facility_at d n).words (ev e) _ (evs e)
        (λ v h k. part-told (facility_at d n).bits y (λ b c. up_to_longest (place n (from_first (facility_at d n).words v.number) b c)) (narrow-told _ (named-as (Account.lies h k Account.all_lie) refl)))
        (λ v h k. Account.subscripts-meet (Account.lies-outside h k))
        (λ o h. Account.subscripts-meet (Account.within-meets h))

    place-told : (r : Reference) → ToldAt (naming r) (place_of d ev r)
    unfolding place_of
    place-told r =
        either-at (ltb r.facility (length d.facilities)) _ (Located.stuck no_facility)
        (either-at (right_count (facility_at d r.facility).dimensions r.subscripts) _ (Located.stuck wrong_subscripts) (located-told r.facility r.subscripts) told-stuck-at)
        told-stuck-at

    -- ---- Expressions.

    read_told : (r : Reference) (l : Located) → ToldAt (naming r) l → Told (reading r) (read S d x ev (facility_at d r.facility) l)
    read_told r (Located.at p) (told_at h) = go (is_computed f.kind) refl
      where
        f : Facility
        f = facility_at d r.facility

        taken : is_computed f.kind ≡ true → (v : Value) → Worth S d x f.expression v → (b : Bool) → Told (reading r) (cond b (is (Account.bits_at p v)) (stuck length_differs))
        taken q v k true = told-worth (Account.worked q h k)
        taken q v k false = told-stuck

        worked : is_computed f.kind ≡ true → (a : Answer) → Told (record_at d f.expression) a → Told (reading r) (after a (part_of_value S d x f p))
        worked q (is v) (told-worth k) = taken q v k (eqb v.length (word_length f))
        worked q (stops n) (told-meets k e) = told-meets (Account.worked-meets q h k) e
        worked q (stuck s) told-stuck = told-stuck

        go : (b : Bool) → is_computed f.kind ≡ b → Told (reading r) (cond b (after (ev f.expression) (part_of_value S d x f p)) (is (value p.count (S.load x p))))
        go true q = worked q (ev f.expression) (evs f.expression)
        go false q = told-worth (Account.loaded q h)
    read_told r (Located.stops n) (told-meets-at h q) = told-meets (Account.place-meets h) q
    read_told r (Located.stuck s) told-stuck-at = told-stuck

    operand-told : (r : Reference) → Told (reading r) (read S d x ev (facility_at d r.facility) (place_of d ev r))
    operand-told r = read_told r (place_of d ev r) (place-told r)

    renamed : {t u : Task} {a : Answer} → ((r : Result) → Comes S d x t r → Comes S d x u r) → Told t a → Told u a
    renamed on (told-worth {v = v} h) = told-worth (on (worth v) h)
    renamed on (told-meets {o = o} h q) = told-meets (on (meets o) h) q
    renamed on told-stuck = told-stuck

    made_told : {t : Task} (s : Stuck) (m : Made) → ((u : Value) → m ≡ made u → Comes S d x t (worth u)) → Told t (worth_or s m)
    made_told s (made u) h = told-worth (h u refl)
    made_told s Values.none h = told-stuck

    -- What goes on with the value of a part.
    part_of : {t : Task} (e : ℕ) (a : Answer) (on : Value → Answer) → Told (record_at d e) a → ((v : Value) → Worth S d x e v → Told t (on v)) → ((o : Met) → Meets S d x e o → Comes S d x t (meets o)) → Told t (after a on)
    part_of e (is v) on (told-worth h) next before = next v h
    part_of e (stops n) on (told-meets {o = o} h q) next before = told-meets (before o h) q
    part_of e (stuck s) on told-stuck next before = told-stuck

    chosen-told : (e a n : ℕ) (v : Value) → Worth S d x e v → (m : Option ℕ) → arm_number n v.number ≡ m → Told (expression (D.choice e a n)) (chosen S d x ev a n m)
    chosen-told e a n v h none q = told-stuck
    chosen-told e a n v h (some m) q = go (arm_back d (n - m) a) refl
      where
        go : (g : Option ℕ) → arm_back d (n - m) a ≡ g → Told (expression (D.choice e a n)) (arm_worth S d x ev g)
        go none k = told-stuck
        go (some g) k = renamed (λ r i. Account.chosen h (arm-so n v.number m q) k i) (evs g)

    either-told : {t : Task} (b : Bool) (a c : Answer) → Told t a → Told t c → Told t (cond b a c)
    either-told true a c h i = h
    either-told false a c h i = i

    node-told : (n : Node) → Told (expression n) (eval_node S d x ev n)
    unfolding eval_node
    node-told (D.constant v) = either-told (fitting v) (is v) (stuck too_large) (told-worth Account.constant) told-stuck
    node-told (D.more n) = told-stuck
    node-told (D.whole f) = renamed (λ r h. Account.reads_whole h) (operand-told (record { facility = f; subscripts = whole }))
    node-told (D.one f e) = renamed (λ r h. Account.reads-one h) (operand-told (record { facility = f; subscripts = R.one e }))
    node-told (D.part f b) = renamed (λ r h. Account.reads-part h) (operand-told (record { facility = f; subscripts = part b }))
    node-told (D.two f e g) = renamed (λ r h. Account.reads_two h) (operand-told (record { facility = f; subscripts = two e g }))
    node-told (D.word_part f e b) = renamed (λ r h. Account.reads-word-part h) (operand-told (record { facility = f; subscripts = word_part e b }))
    node-told (D.binary k a b) =
        part_of a (ev a) _ (evs a)
        (λ v h. part_of b (ev b) _ (evs b) (λ w i. made_told _ (binary_of k v w) (λ u q. Account.binary h i q)) (λ o i. Account.right-meets h i))
        (λ o h. Account.left_meets h)
    node-told (D.prefix k a) = part_of a (ev a) _ (evs a) (λ v h. made_told _ (prefix_of k v) (λ u q. Account.prefix h q)) (λ o h. Account.prefix-meets h)
    node-told (D.cut k a c) = part_of a (ev a) _ (evs a) (λ v h. made_told _ (cut_of k v c) (λ u q. Account.cut h q)) (λ o h. Account.cut-meets h)
    node-told (D.first_arm e) = told-stuck
    node-told (D.next_arm a e) = told-stuck
    node-told (D.choice e a n) = part_of e (ev e) _ (evs e) (λ v h. either-told (decides n v) (chosen S d x ev a n (arm_number n v.number)) (stuck not_one_bit) (chosen-told e a n v h (arm_number n v.number) refl) told-stuck) (λ o h. Account.condition-meets h)
    node-told D.Node.broken = told-stuck

  below_step : (n : ℕ) → ((m : ℕ) → m < n → (a : ℕ) → Told (record_at d a) (eval_below S d x m a)) → (a : ℕ) → Told (record_at d a) (eval_below S d x n a)
  unfolding eval_below
  below_step n ih a = go (ltb a n) refl
    where
      go : (b : Bool) → ltb a n ≡ b → Told (record_at d a) (eval_below S d x n a)
      go true q =
          let l : a < n = ltb-true a n q in
          rw (below-lt (stuck not_before) (eval_step S d x) n a l) (node-told (eval_below S d x a) (ih a l) (node_at d a))
      go false q = rw (below-ge (stuck not_before) (eval_step S d x) n a (ltb-false a n q)) told-stuck

  below-under : (k n : ℕ) → n < k → (a : ℕ) → Told (record_at d a) (eval_below S d x n a)
  below-under zero n h a = absurd (omega arith)
  below-under (suc k) n h a = below_step n (λ m l b. below-under k m (omega arith) b) a

  pub value-told : (n : ℕ) → Told (record_at d n) (eval_at S d x n)
  unfolding eval_at
  value-told n = node-told (eval_below S d x n) (below-under (suc n) n (omega arith)) (node_at d n)

  -- The left side of a store at record n.
  pub data ToldSide (n : ℕ) : Located → Type 0 where
    side-at : {r : Reference} {p : Place} → reference_of (node_at d n) ≡ some r → Comes S d x (naming r) (names p) → ToldSide n (Located.at p)
    side-meets : {r : Reference} {m : Stop} {o : Met} → reference_of (node_at d n) ≡ some r → Comes S d x (naming r) (meets o) → stop_for o ≡ m → ToldSide n (Located.stops m)
    side-stuck : {s : Stuck} → ToldSide n (Located.stuck s)

  pub side-told : (n : ℕ) → ToldSide n (side S d x n)
  unfolding side
  side-told n = go (reference_of (node_at d n)) refl
    where
      by : (r : Reference) → reference_of (node_at d n) ≡ some r → (l : Located) → ToldAt (naming r) l → ToldSide n l
      by r q (Located.at p) (told_at h) = side-at q h
      by r q (Located.stops m) (told-meets-at h e) = side-meets q h e
      by r q (Located.stuck s) told-stuck-at = side-stuck

      go : (r : Option Reference) → reference_of (node_at d n) ≡ r → ToldSide n (side_of S d r x n)
      go none q = side-stuck
      go (some r) q = by r q (place_of d (eval_below S d x n) r) (place-told (eval_below S d x n) (below-under (suc n) n (omega arith)) r)

-- ---- Exactly when.

-- Not without a meaning: no expression of a passing image is (evaluates).
abbrev pub Unstuck : Answer → Type 0
Unstuck a = (s : Stuck) → a ≡ stuck s → ⊥

abbrev pub UnstuckAt : Located → Type 0
UnstuckAt l = (s : Stuck) → l ≡ Located.stuck s → ⊥

module _ {X : Type 0} (S : Stores X) (d : Description) (x : X) (n : ℕ) where
  -- An expression has a value exactly when it is worth that by the account.
  pub worth-of : {v : Value} → eval_at S d x n ≡ is v → Worth S d x n v
  worth-of {v} e = go (rw e at (value-told S d x n))
    where
      go : Told S d x (record_at d n) (is v) → Worth S d x n v
      go (told-worth h) = h

  pub is-worth : {v : Value} → Worth S d x n v → Unstuck (eval_at S d x n) → eval_at S d x n ≡ is v
  is-worth {v} h free = go (eval_at S d x n) (value-told S d x n) free
    where
      go : (a : Answer) → Told S d x (record_at d n) a → Unstuck a → a ≡ is v
      go (is w) (told-worth k) f = let e = one-result S d x h k in cc
      go (stops m) (told-meets k q) f = worth-apart (one-result S d x h k)
      go (stuck s) told-stuck f = absurd (f s refl)

  -- It stops exactly when it meets something, and for that, which is the first and the only one.
  pub meets-of : {m : Stop} → eval_at S d x n ≡ stops m → (o : Met) × (Meets S d x n o × (stop_for o ≡ m))
  meets-of {m} e = go (rw e at (value-told S d x n))
    where
      go : Told S d x (record_at d n) (stops m) → (o : Met) × (Meets S d x n o × (stop_for o ≡ m))
      go (told-meets {o = o} h q) = (o, (h, q))

  pub stops-met : {o : Met} → Meets S d x n o → Unstuck (eval_at S d x n) → eval_at S d x n ≡ stops (stop_for o)
  stops-met {o} h free = go (eval_at S d x n) (value-told S d x n) free
    where
      go : (a : Answer) → Told S d x (record_at d n) a → Unstuck a → a ≡ stops (stop_for o)
      go (is w) (told-worth k) f = worth-apart (one-result S d x k h)
      go (stops m) (told-meets k q) f = let e = one-result S d x h k in cc
      go (stuck s) told-stuck f = absurd (f s refl)

  pub one-met : {o m : Met} → Meets S d x n o → Meets S d x n m → o ≡ m
  one-met h k = let e = one-result S d x h k in cc

  -- The same of the place that the left side of a store names.
  module _ (r : Reference) (refers : reference_of (node_at d n) ≡ some r) where
    pub named-of : {p : Place} → side S d x n ≡ Located.at p → Comes S d x (naming r) (names p)
    named-of {p} e = go (rw e at (side-told S d x n))
      where
        go : ToldSide S d x n (Located.at p) → Comes S d x (naming r) (names p)
        go (side-at {r = q} k h) = let z : q ≡ r = cc in rw z at h

    pub at_named : {p : Place} → Comes S d x (naming r) (names p) → UnstuckAt (side S d x n) → side S d x n ≡ Located.at p
    at_named {p} h free = go (side S d x n) (side-told S d x n) free
      where
        go : (l : Located) → ToldSide S d x n l → UnstuckAt l → l ≡ Located.at p
        go (Located.at q) (side-at {r = t} k j) f = let z : t ≡ r = cc in let e = one-result S d x h (rw z at j) in cc
        go (Located.stops m) (side-meets {r = t} k j q) f = let z : t ≡ r = cc in names_apart (one-result S d x h (rw z at j))
        go (Located.stuck s) side-stuck f = absurd (f s refl)

    pub meets-side-of : {m : Stop} → side S d x n ≡ Located.stops m → (o : Met) × (Comes S d x (naming r) (meets o) × (stop_for o ≡ m))
    meets-side-of {m} e = go (rw e at (side-told S d x n))
      where
        go : ToldSide S d x n (Located.stops m) → (o : Met) × (Comes S d x (naming r) (meets o) × (stop_for o ≡ m))
        go (side-meets {r = q} {o = o} k h j) = let z : q ≡ r = cc in (o, (rw z at h, j))

    pub stops-side : {o : Met} → Comes S d x (naming r) (meets o) → UnstuckAt (side S d x n) → side S d x n ≡ Located.stops (stop_for o)
    stops-side {o} h free = go (side S d x n) (side-told S d x n) free
      where
        go : (l : Located) → ToldSide S d x n l → UnstuckAt l → l ≡ Located.stops (stop_for o)
        go (Located.at q) (side-at {r = t} k j) f = let z : t ≡ r = cc in names_apart (one-result S d x (rw z at j) h)
        go (Located.stops m) (side-meets {r = t} k j q) f = let z : t ≡ r = cc in let e = one-result S d x h (rw z at j) in cc
        go (Located.stuck s) side-stuck f = absurd (f s refl)
