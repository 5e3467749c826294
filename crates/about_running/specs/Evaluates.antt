-- Never stuck, for expressions: a record judged fine whose tree stands in order gives a value of the length judged, or stop S1. Assumes nothing.
use Rattle.std.specs.Prelude.{Bool, ◌≡◌, length}
use Rattle.std.proofs.Math.Bool.{true, false, cond}
use Rattle.std.proofs.Math.Option.{some}
use Rattle.std.proofs.Math.Path.{refl, sym, ap, subst}
use Rattle.std.proofs.Common.{◌∙◌, mod-lt, arith, pow_pos}
use Prim.Native.Nat.{ℕ, zero, suc, ◌+◌, ◌-◌, ◌^◌, ◌≤◌, ◌<◌}
use borrow.Author.Tests.{eq-eqb, eqb-true, lt-ltb}
use Rattle.std.proofs.Math.Dec.{eqb}
use Rattle.language.specs.Description as D
use Rattle.language.specs.Description.{Description, Facility, Node, NodePlaces, Places, facility_at, is_computed, node_at, node_place, word_length}
use Rattle.language.specs.Expressions.{choice_judged, evenly, judge_at, judge_below, judge_node, judge_step, not_before, operand_at, own_work, proper_at, selects}
use Rattle.language.specs.Judging.{Judged, Worth, arm_list, fine, proper, refuse, sized, worth}
use Rattle.language.specs.Meaning as M
use Rattle.language.specs.Meaning.{Answer, Located, Place, Stores, Stuck, after, arm_back, arm_number, arm_worth, chosen, eval_at, eval_below, eval_node, eval_step, fitting, is, operand, part_of_value, read, stops, worth_or, wrong_count, wrong_length}
use Rattle.language.specs.Operators.{binary_length, binary_of, cut_length_of, cut_of, prefix_length, prefix_of}
use Rattle.language.specs.Order.{just_before, start_at, start_below, start_node}
use Rattle.language.specs.Recursion.{below-lt}
use Rattle.language.specs.ReferenceRules.{computed_work, subscript_worth}
use Rattle.language.specs.References as R
use Rattle.language.specs.References.{Subscripts, part, taken_length, two, whole, word_part}
use Rattle.language.specs.declared.refusals.Refusal.TheVariants.{BadLength}
use Rattle.language.specs.Value.{Made, Value, value}
use Rattle.language.specs.Words.{Position}
use Rattle.about_running.specs.Conditionals.{arm-number, decided, selected}
use Rattle.about_running.specs.Finds.{Each, Finds, finds, outside, reference-fine, reference-finds}
use Rattle.about_running.specs.Gives.{Gives, Normal, after-gives, fits_gives, gives, stopped}
use Rattle.about_running.specs.Judged.{arms-fine, both-fine, faulty-fine, given-fine, proper-fine, sized-fine}
use Rattle.about_running.specs.Operators.{Fits, binary-fits, cut_fits, prefix-fits}
use Rattle.about_running.specs.Starts.{constant-fits, none-some, one-before, start-le, two-parts}
use Rattle.language.specs.Tests.{both}

-- Computed terminals that may be named: judged fine, of their declared length, and worked out without getting stuck; their records stand before `base`.
pub record Terminal {X : Type 0} (S : Stores X) (d : Description) (x : X) (base f : ℕ) (w : Worth) : Type 0 where
  pub before : (facility_at d f).expression < base
  pub gives-it : Gives (word_length (facility_at d f)) (eval_at S d x (facility_at d f).expression)

-- The arm `j` arms before the record n: an expression before it that gives l bits.
pub record ArmAt {X : Type 0} (S : Stores X) (d : Description) (x : X) (j n l : ℕ) : Type 0 where
  pub arm : ℕ
  pub found : arm_back d j n ≡ some arm
  pub below : arm < n
  pub gives-it : Gives l (eval_at S d x arm)

module _ {X : Type 0} (S : Stores X) (d : Description) (p : Places) (x : X) (loads : (q : Place) → S.load x q < 2 ^ q.count)
    (terminals : ℕ → Judged) (known base : ℕ) (within : known ≤ length d.facilities)
    (terms : (f : ℕ) (w : Worth) → f < known → is_computed (facility_at d f).kind ≡ true → terminals f ≡ fine w → Terminal S d x base f w) where
  pub eval-lt : (n a : ℕ) → a < n → eval_below S d x n a ≡ eval_at S d x a
  unfolding eval_below eval_at
  eval-lt n a h = below-lt (Answer.stuck M.not_before) (eval_step S d x) n a h

  pub judge-lt : (n a : ℕ) → a < n → judge_below d p terminals known n a ≡ judge_at d p terminals known a
  unfolding judge_below judge_at
  judge-lt n a h = below-lt (not_before d p terminals known) (judge_step d p terminals known) n a h

  pub record Claim (n : ℕ) : Type 0 where
    pub as-value : {w : Worth} {s : ℕ} → judge_at d p terminals known n ≡ fine w → w.arms ≡ 0 → start_at d n ≡ some s → base ≤ s → Gives w.length (eval_at S d x n)
    pub as-arms : {w : Worth} {s : ℕ} → judge_at d p terminals known n ≡ fine w → 0 < w.arms → start_at d n ≡ some s → base ≤ s → 1 ≤ w.length
        → (j : ℕ) → j < w.arms → ArmAt S d x j n w.length

  module _ (n : ℕ) (ih : (a : ℕ) → a < n → Claim a) where
    abbrev ev : ℕ → Judged
    ev = judge_below d p terminals known n

    abbrev EV : ℕ → Answer
    EV = eval_below S d x n

    -- A part that is an expression proper.
    part_gives : (a s : ℕ) (q : Position) {w : Worth} → a < n → start_at d a ≡ some s → base ≤ s → proper q (ev a) ≡ fine w → Gives w.length (EV a)
    part_gives a s q {w} l t b e =
        let y = proper-fine q (ev a) e in
        rw (eval-lt n a l) ((ih a l).as-value (sym (judge-lt n a l) ∙ y.same) y.arms t b)

    sized-gives : (st : Stuck) (m : Made) (l k : ℕ) (q : Position) {w : Worth} → sized q l k ≡ fine w → ((1 ≤ l) → Fits m l) → Gives w.length (worth_or st m)
    sized-gives st m l k q {w} e f =
        let z = sized-fine q l k e in
        let h : w.length ≡ l = ap (λ (y : Worth). y.length) z.same in
        rw h (fits_gives st m l (f z.some) z.some z.most)

    -- ---- References.

    part_of : (f : Facility) (q : Place) (v : Value) → Normal (word_length f) v → Gives q.count (part_of_value S d x f q v)
    part_of f q v h = rw (eq-eqb v.length (word_length f) h.length) (gives refl (mod-lt _ (pow_pos q.count)))

    module _ (f s : ℕ) (b : base ≤ s) (t : s ≤ n) where
      read-gives : (l : ℕ) (loc : Located) {w : Worth} → f < known → computed_work d p terminals f (facility_at d f) ≡ fine w
          → Finds (facility_at d f) f l loc → Gives l (read S d x EV (facility_at d f) loc)
      read-gives l (Located.stops m) h e outside = stopped
      read-gives l (Located.stuck _) {w = w} h e x5 = elim x5 [ ]
      read-gives l (Located.at q) {w} h e (finds {w = i} {a = a} i1 i2) = go (is_computed (facility_at d f).kind) refl e
        where
          go : (c : Bool) → is_computed (facility_at d f).kind ≡ c → cond c (terminals f) (worth 1 0 0) ≡ fine w
              → Gives l (cond c (after (EV (facility_at d f).expression) (part_of_value S d x (facility_at d f) (M.place f i a l))) (is (value l (S.load x (M.place f i a l)))))
          go true c k =
              let y = terms f w h c k in
              let z : (facility_at d f).expression < n = omega (arith, y.before) in
              rw (eval-lt n (facility_at d f).expression z)
              (after-gives (part_of_value S d x (facility_at d f) (M.place f i a l)) y.gives-it (λ v q. part_of (facility_at d f) (M.place f i a l) v q))
          go false c k = gives refl (loads (M.place f i a l))

      -- A subscript of the reference: it stands before the record, in order.
      abbrev Own : ℕ → Type 0
      Own e = (e < n) × ((m : ℕ) × (start_at d e ≡ some m) × (base ≤ m))

      own-gives : (e : ℕ) (v : Worth) → Own e → subscript_worth d p terminals ev e ≡ fine v → Gives v.length (EV e)
      own-gives e v o h = part_gives e o.1.0 _ o.0 o.1.1 o.1.2 h

      operand-gives : (u : Subscripts) (at : NodePlaces) {w : Worth} → Each Own u
          → operand_at d p terminals known ev at (R.refer_to f u) ≡ fine w → Gives w.length (operand S d x EV f u)
      operand-gives u at {w} o e =
          let y = reference-fine d p terminals ev EV Own own-gives own_work known (record { facility = f; subscripts = u }) at e in
          rw y.length
          (read-gives (taken_length (facility_at d f) u) _ y.known-here y.worked
          (reference-finds d p terminals ev EV Own own-gives own_work known (record { facility = f; subscripts = u }) at o within e))

    -- ---- Arms.

    -- Arm number k of m, counted from the last.
    chosen-gives : (a m k l : ℕ) → a < n → ((j : ℕ) → j < m → ArmAt S d x j a l) → 0 < k → k ≤ m → Gives l (arm_worth S d x EV (arm_back d (m - k) a))
    chosen-gives a m k l h arms q r =
        let y = arms (m - k) (omega arith) in
        rw y.found (rw (eval-lt n y.arm (omega (arith, y.below))) y.gives-it)

    -- A value below the number of arms has one.
    selects-gives : (a m l v : ℕ) → a < n → ((j : ℕ) → j < m → ArmAt S d x j a l) → v < m → Gives l (chosen S d x EV a m (arm_number m v))
    selects-gives a m l v h arms q =
        let y = arm-number m v (omega arith) q in
        rw y.1 (chosen-gives a m y.0 l h arms y.2 y.3)

    -- ---- Every kind of record, as an expression.

    both_true : (a b : Bool) → both a b ≡ true → (a ≡ true) × (b ≡ true)
    both_true true b h = (refl, h)
    both_true false b h = absurd (let z : ◌≡◌ {A = ℕ} 0 1 = cc in omega arith)

    record Chosen (m : ℕ) (c a w : Worth) : Type 0 where
      arms : m ≡ 2 ^ c.length
      all : a.arms ≡ m
      same : w.length ≡ a.length
      some_bits : 1 ≤ a.length

    choice-fine : (q : Position) (m : ℕ) (c a : Worth) {w : Worth} → choice_judged d p terminals known q m c a ≡ fine w → Chosen m c a w
    choice-fine q m c a {w} e = go (both (selects c.length m) (eqb a.arms m)) refl e
      where
        go : (t : Bool) → both (selects c.length m) (eqb a.arms m) ≡ t → cond t (sized q a.length (own_work + c.work + a.work)) (refuse q BadLength) ≡ fine w → Chosen m c a w
        go true r k =
            let y = both_true (selects c.length m) (eqb a.arms m) r in
            let z = sized-fine q a.length (own_work + c.work + a.work) k in
            record { arms = selected c.length m y.0; all = eqb-true a.arms m y.1; same = ap (λ (v : Worth). v.length) z.same; some_bits = z.some }
        go false r k = faulty-fine k

    -- What a further arm adds to those before it.
    abbrev next_own : Worth → Worth → Judged
    next_own v u = worth (evenly v.length u.length) (suc v.arms) (v.work + u.work)

    absent : {A : Type 0} {w : Worth} (l k m : ℕ) → worth l (suc k) m ≡ fine w → w.arms ≡ 0 → A
    absent {w = w} l k m e z = absurd (let y : suc k ≡ w.arms = cc in omega arith)

    module _ (s : ℕ) (b : base ≤ s) (t : s ≤ n) (at : NodePlaces) where
      one-own : (e : ℕ) → just_before d (start_below d n) e n ≡ some s → (e < n) × ((m : ℕ) × (start_at d e ≡ some m) × (base ≤ m))
      one-own e o = let y = one-before d e n s o in (omega (arith, y.last), (s, y.start, b))

      value-node : (nd : Node) {w : Worth} → judge_node d p terminals known ev at nd ≡ fine w → w.arms ≡ 0 → start_node d (start_below d n) n nd ≡ some s → Gives w.length (eval_node S d x EV nd)
      unfolding judge_node start_node eval_node fitting
      value-node (D.constant v) {w} e z o =
          let y = sized-fine at.at v.length own_work e in
          let h : w.length ≡ v.length = ap (λ (u : Worth). u.length) y.same in
          rw (h, lt-ltb v.number (2 ^ v.length) (constant-fits d n v.length v.number s o)) (gives refl (constant-fits d n v.length v.number s o))
      value-node (D.more m) e z o = none-some o
      value-node (D.whole f) e z o = operand-gives f s b t whole at tt e
      value-node (D.one f a) e z o = operand-gives f s b t (R.one a) at (one-own a o) e
      value-node (D.part f c) e z o = operand-gives f s b t (part c) at tt e
      value-node (D.two f a g) e z o =
          let y = two-parts d a g n s o in
          operand-gives f s b t (two a g) at ((y.left_below, (s, y.left, b)), (y.right-below, (y.middle, y.right, omega (arith, y.after)))) e
      value-node (D.word_part f a c) e z o = operand-gives f s b t (word_part a c) at (one-own a o) e
      value-node (D.binary k a c) e z o =
          let y = two-parts d a c n s o in
          let r = both-fine (proper_at d p terminals known ev a) (proper_at d p terminals known ev c) _ e in
          after-gives _ (part_gives a s _ y.left_below y.left b r.left) (λ v nv.
          after-gives _ (part_gives c y.middle _ y.right-below y.right (omega (arith, y.after)) r.right) (λ u nu.
          sized-gives _ (binary_of k v u) (binary_length k r.u.length r.v.length) _ at.at r.own
          (λ h. rw (← nv.length, ← nu.length) (binary-fits v u k (rw (nv.length, nu.length) h)))))
      value-node (D.prefix k a) e z o =
          let y = one-before d a n s o in
          let r = given-fine (proper_at d p terminals known ev a) _ e in
          after-gives _ (part_gives a s _ (omega (arith, y.last)) y.start b r.part) (λ v nv.
          sized-gives _ (prefix_of k v) (prefix_length k r.v.length) _ at.at r.own
          (λ h. rw (← nv.length) (prefix-fits v k (rw nv.length h))))
      value-node (D.cut k a c) e z o =
          let y = one-before d a n s o in
          let r = given-fine (proper_at d p terminals known ev a) _ e in
          after-gives _ (part_gives a s _ (omega (arith, y.last)) y.start b r.part) (λ v nv.
          sized-gives _ (cut_of k v c) (cut_length_of k r.v.length c) _ at.at r.own
          (λ h. rw (← nv.length) (cut_fits v k c (rw nv.length h))))
      value-node (D.first_arm a) e z o = let r = given-fine (proper_at d p terminals known ev a) _ e in absent _ _ _ r.own z
      value-node (D.next_arm a g) e z o =
          let r = both-fine (arm_list at.at (ev a)) (proper_at d p terminals known ev g) next_own e in
          absent _ _ _ r.own z
      value-node (D.choice g a m) {w} e z o =
          let y = two-parts d g a n s o in
          let r = both-fine (proper_at d p terminals known ev g) (arm_list at.at (ev a)) (choice_judged d p terminals known at.at m) e in
          let c = choice-fine at.at m r.u r.v r.own in
          let k = arms-fine at.at (ev a) r.right in
          let arms : (j : ℕ) → j < m → ArmAt S d x j a r.v.length =
          λ j h. (ih a y.right-below).as-arms (sym (judge-lt n a y.right-below) ∙ k.same) k.some y.right (omega (arith, y.after)) c.some_bits j (omega (arith, c.all)) in
          after-gives _ (part_gives g s _ y.left_below y.left b r.left) (λ v nv.
          rw (decided m r.u.length v nv.length c.arms)
          (subst (λ (l : ℕ). Gives l (chosen S d x EV a m (arm_number m v.number))) (sym c.same)
          (selects-gives a m r.v.length v.number y.right-below arms (rw c.arms nv.fits))))
      value-node D.Node.broken e z o = none-some o

      -- ---- Arms: the last one, and those before it.

      even : (l m : ℕ) → 1 ≤ evenly l m → (l ≡ m) × (evenly l m ≡ l)
      unfolding evenly
      even l m h = go (eqb l m) refl h
        where
          go : (c : Bool) → eqb l m ≡ c → 1 ≤ cond c l 0 → (l ≡ m) × (cond c l 0 ≡ l)
          go true q k = (eqb-true l m q, refl)
          go false q k = absurd (omega arith)

      no-arms : {A : Type 0} {w : Worth} (l k : ℕ) → w ≡ record { length = l; arms = 0; work = k } → 0 < w.arms → A
      no-arms {w = w} l k e h = absurd (let z : w.arms ≡ 0 = ap (λ (v : Worth). v.arms) e in omega arith)

      sized-none : {A : Type 0} {w : Worth} (l k : ℕ) → sized at.at l k ≡ fine w → 0 < w.arms → A
      sized-none l k e h = no-arms l k (sized-fine at.at l k e).same h

      operand-none : {A : Type 0} {w : Worth} (f : ℕ) (u : Subscripts) → operand_at d p terminals known ev at (R.refer_to f u) ≡ fine w → 0 < w.arms → A
      operand-none {w = w} f u e h =
          absurd (let y = reference-fine d p terminals ev EV (λ a. ⊥) (λ a v o q. absurd o) own_work known (record { facility = f; subscripts = u }) at e in omega (arith, y.arms))

      choice-none : {A : Type 0} (q : Position) (m : ℕ) (c a : Worth) {w : Worth} → choice_judged d p terminals known q m c a ≡ fine w → 0 < w.arms → A
      choice-none {A} q m c a {w} e h = go (both (selects c.length m) (eqb a.arms m)) e
        where
          go : (t : Bool) → cond t (sized q a.length (own_work + c.work + a.work)) (refuse q BadLength) ≡ fine w → A
          go true k = no-arms a.length (own_work + c.work + a.work) (sized-fine q a.length (own_work + c.work + a.work) k).same h
          go false k = faulty-fine k

      first-arm : (e l : ℕ) → node_at d n ≡ D.first_arm e → e < n → Gives l (eval_at S d x e) → ArmAt S d x 0 n l
      unfolding arm_back
      first-arm e l q h g = record { arm = e; found = rw q; below = h; gives-it = g }

      last_arm : (a e l : ℕ) → node_at d n ≡ D.next_arm a e → e < n → Gives l (eval_at S d x e) → ArmAt S d x 0 n l
      unfolding arm_back
      last_arm a e l q h g = record { arm = e; found = rw q; below = h; gives-it = g }

      earlier-arm : (a e i l : ℕ) → node_at d n ≡ D.next_arm a e → a < n → ArmAt S d x i a l → ArmAt S d x (suc i) n l
      unfolding arm_back
      earlier-arm a e i l q h g = record { arm = g.arm; found = rw q g.found; below = omega (arith, g.below); gives-it = g.gives-it }

      one_arm : (e l j k : ℕ) → node_at d n ≡ D.first_arm e → e < n → Gives l (eval_at S d x e) → k ≡ 1 → j < k → ArmAt S d x j n l
      one_arm e l zero k q h g z r = first-arm e l q h g
      one_arm e l (suc j) k q h g z r = absurd (omega arith)

      more-arms : (a e l j k m : ℕ) → node_at d n ≡ D.next_arm a e → a < n → e < n → Gives l (eval_at S d x e) → ((i : ℕ) → i < m → ArmAt S d x i a l) → k ≡ suc m → j < k → ArmAt S d x j n l
      more-arms a e l zero k m q h1 h2 g f z r = last_arm a e l q h2 g
      more-arms a e l (suc j) k m q h1 h2 g f z r = earlier-arm a e j l q h1 (f j (omega arith))

      -- The value of an arm of this record.
      arm-value : (e m : ℕ) {v : Worth} → e < n → start_at d e ≡ some m → base ≤ m → proper_at d p terminals known ev e ≡ fine v → Gives v.length (eval_at S d x e)
      arm-value e m l o c h = let y = proper-fine (node_place p e).at (ev e) h in (ih e l).as-value (sym (judge-lt n e l) ∙ y.same) y.arms o c

      next-arms : (a g : ℕ) (r u w : Worth) → node_at d n ≡ D.next_arm a g → arm_list at.at (ev a) ≡ fine r → proper_at d p terminals known ev g ≡ fine u → next_own r u ≡ fine w
          → start_node d (start_below d n) n (D.next_arm a g) ≡ some s → 1 ≤ w.length → (j : ℕ) → j < w.arms → ArmAt S d x j n w.length
      unfolding start_node
      next-arms a g r u w q e1 e2 e3 o h j k =
          let y = two-parts d a g n s o in
          let z = arms-fine at.at (ev a) e1 in
          let lw : evenly r.length u.length ≡ w.length = cc in
          let lk : suc r.arms ≡ w.arms = cc in
          let ev2 = even r.length u.length (rw lw h) in
          let lr : r.length ≡ w.length = sym ev2.1 ∙ lw in
          let lu : u.length ≡ w.length = sym ev2.0 ∙ lr in
          more-arms a g w.length j w.arms r.arms q y.left_below y.right-below
          (subst (λ (l : ℕ). Gives l (eval_at S d x g)) lu (arm-value g y.middle y.right-below y.right (omega (arith, y.after)) e2))
          (λ i l. subst (λ (m : ℕ). ArmAt S d x i a m) lr
          ((ih a y.left_below).as-arms (sym (judge-lt n a y.left_below) ∙ z.same) z.some y.left b (rw lr h) i l))
          (sym lk) k

      arms-node : (nd : Node) {w : Worth} → node_at d n ≡ nd → judge_node d p terminals known ev at nd ≡ fine w → 0 < w.arms → start_node d (start_below d n) n nd ≡ some s
          → 1 ≤ w.length → (j : ℕ) → j < w.arms → ArmAt S d x j n w.length
      unfolding judge_node start_node
      arms-node (D.constant v) q e z o h j k = sized-none v.length own_work e z
      arms-node (D.more m) q e z o h j k = none-some o
      arms-node (D.whole f) q e z o h j k = operand-none f whole e z
      arms-node (D.one f a) q e z o h j k = operand-none f (R.one a) e z
      arms-node (D.part f c) q e z o h j k = operand-none f (part c) e z
      arms-node (D.two f a g) q e z o h j k = operand-none f (two a g) e z
      arms-node (D.word_part f a c) q e z o h j k = operand-none f (word_part a c) e z
      arms-node (D.binary m a c) q e z o h j k =
          let r = both-fine (proper_at d p terminals known ev a) (proper_at d p terminals known ev c) _ e in sized-none _ _ r.own z
      arms-node (D.prefix m a) q e z o h j k = let r = given-fine (proper_at d p terminals known ev a) _ e in sized-none _ _ r.own z
      arms-node (D.cut m a c) q e z o h j k = let r = given-fine (proper_at d p terminals known ev a) _ e in sized-none _ _ r.own z
      arms-node (D.first_arm a) {w} q e z o h j k =
          let y = one-before d a n s o in
          let r = given-fine (proper_at d p terminals known ev a) (λ v. worth v.length 1 v.work) e in
          let own : worth r.v.length 1 r.v.work ≡ fine w = r.own in
          let lw : r.v.length ≡ w.length = cc in
          let lk : 1 ≡ w.arms = cc in
          one_arm a w.length j w.arms q (omega (arith, y.last))
          (subst (λ (l : ℕ). Gives l (eval_at S d x a)) lw (arm-value a s (omega (arith, y.last)) y.start b r.part)) (sym lk) k
      arms-node (D.next_arm a g) {w} q e z o h j k =
          let r = both-fine (arm_list at.at (ev a)) (proper_at d p terminals known ev g) next_own e in
          next-arms a g r.u r.v w q r.left r.right r.own o h j k
      arms-node (D.choice g a m) q e z o h j k =
          let r = both-fine (proper_at d p terminals known ev g) (arm_list at.at (ev a)) (choice_judged d p terminals known at.at m) e in
          choice-none at.at m r.u r.v r.own z
      arms-node D.Node.broken q e z o h j k = none-some o

    claim : Claim n
    unfolding judge_at start_at eval_at
    claim = record {
      as-value = λ {w} {s} e z o b. value-node s b (start-le d n s o) (node_place p n) (node_at d n) e z o;
      as-arms = λ {w} {s} e z o b h j k. arms-node s b (start-le d n s o) (node_place p n) (node_at d n) refl e z o h j k;
    }

  claim-below : (k n : ℕ) → n < k → Claim n
  claim-below zero n h = absurd (omega arith)
  claim-below (suc k) n h = claim n (λ a l. claim-below k a (omega arith))

  -- NEVER STUCK, for expressions.
  pub evaluates : (n : ℕ) → Claim n
  evaluates n = claim-below (suc n) n (omega arith)
