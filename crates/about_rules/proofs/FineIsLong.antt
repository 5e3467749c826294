-- What is judged fine has the length judged, by the relation of HasLength. Assumes nothing.
use Rattle.std.specs.Prelude.{Bool, ◌≡◌, leb, ltb}
use Rattle.std.proofs.Math.Bool.{true, false, cond}
use mathlib.Core.List.{[]}
use Rattle.std.proofs.Math.Path.{refl, ap}
use Rattle.std.proofs.Common.{sym, subst, ◌∙◌, arith}
use Rattle.std.proofs.Math.Numerals.{add-one}
use Prim.Native.Nat.{ℕ, zero, suc, ◌^◌, ◌≤◌, ◌<◌}
use borrow.Author.Tests.{eqb-false, eqb-true, leb-true, ltb-false, ltb-true}
use Rattle.std.proofs.Math.Dec.{eqb}
use Rattle.language.specs.Description as D
use Rattle.language.specs.Description.{Bounds, Description, Node, Places, facility_at, in_bounds, is_computed, node_at, node_place, word_length}
use Rattle.language.specs.Expressions.{evenly, expression_at, judge_at, judge_below, judge_node, judge_step, longest_selector, not_before, own_work, selects, terminal_below}
use Rattle.language.specs.Judging.{Judged, Worth, arm_list, fine, proper, refuse, sized, unless, worth}
use Rattle.language.specs.Meaning as M
use Rattle.language.specs.Operators.{binary_length, cut_length_of, prefix_length}
use Rattle.language.specs.Recursion.{below-ge}
use Rattle.language.specs.ReferenceRules.{bound_faults, computed_work, direction_faults, end_faults, reference_judged, subscript_faults, subscripts_judged}
use Rattle.language.specs.References as R
use Rattle.language.specs.References.{Subscripts, right_count, same_direction, taken_length}
use Rattle.language.specs.declared.refusals.Refusal.TheVariants.{BadLength, BadSubscript}
use Rattle.language.specs.declared.stops.Stop.TheVariants.{OutsideBounds}
use Rattle.language.specs.Value.{Value}
use Rattle.language.specs.Words.{Position}
use Rattle.about_running.specs.Finds.{Refers, reference-fine}
use Rattle.about_running.specs.Judged.{Sized, append-none-left, append-none-right, arms-fine, both-fine, faulty-fine, given-fine, proper-fine, sized-fine, unless-none}
use Rattle.about_running.specs.LegalForm.{left-of as both_left, right_of as both_right}
use Rattle.about_rules.specs.HasLength as H
use Rattle.about_rules.specs.HasLength.{Long, Selects, Subscript, arms, expression, facility, most_bits, most_case_bits}
use Rattle.about_rules.proofs.LongIsFine.{judge-lt, judged, most-bits, terminal-lt}
use Rattle.about_rules.proofs.OperatorsLong.{binary-long, cut-long, prefix-long}
use Rattle.about_rules.specs.WithinBounds.{in_within, tested-part}
use Rattle.language.specs.Tests.{both}

-- ---- Conditionals.

-- Arms of a length that is not 0 are equally long.
even-so : (l m : ℕ) → 1 ≤ evenly l m → (l ≡ m) × (evenly l m ≡ l)
unfolding evenly
even-so l m h = go (eqb l m) refl h
  where
    go : (t : Bool) → eqb l m ≡ t → 1 ≤ cond t l 0 → (l ≡ m) × (cond t l 0 ≡ l)
    go true q k = (eqb-true l m q, refl)
    go false q k = absurd (omega arith)

pub selected : (l c : ℕ) → selects l c ≡ true → (l ≤ most_case_bits) × (c ≡ 2 ^ l)
unfolding selects longest_selector
selected l c e = (leb-true l longest_selector (both_left _ _ e), eqb-true c (2 ^ l) (both_right (leb l longest_selector) _ e))

module _ (d : Description) (p : Places) (known : ℕ)
    (terms : (f : ℕ) (w : Worth) → f < known → expression_at d p (terminal_below d p f) f (facility_at d f).expression ≡ fine w
    → (m : ℕ) × Long d f expression (facility_at d f).expression m) where
  -- What is judged fine with this worth, as an expression and as arms.
  record Says (n : ℕ) (w : Worth) : Type 0 where
    as-expression : w.arms ≡ 0 → Long d known expression n w.length
    as-arms : 0 < w.arms → 1 ≤ w.length → Long d known (arms w.arms) n w.length

  abbrev terminals : ℕ → Judged
  terminals = terminal_below d p known

  module _ (n : ℕ) (ih : (a : ℕ) (w : Worth) → a < n → judged d p known a ≡ fine w → Says a w) where
    abbrev ev : ℕ → Judged
    ev = judge_below d p terminals known n

    late : (a : ℕ) → n ≤ a → ev a ≡ not_before d p terminals known
    unfolding judge_below
    late a h = below-ge (not_before d p terminals known) (judge_step d p terminals known) n a h

    -- A part that is judged fine stands before its owner.
    stands : (a : ℕ) {w : Worth} → ev a ≡ fine w → (a < n) × Says a w
    stands a {w} e = go (ltb a n) refl
      where
        go : (t : Bool) → ltb a n ≡ t → (a < n) × Says a w
        go true q = let h = ltb-true a n q in (h, ih a w h (sym (judge-lt d p known n a h) ∙ e))
        go false q = faulty-fine (sym (late a (ltb-false a n q)) ∙ e)

    part-long : (q : Position) (a : ℕ) {w : Worth} → proper q (ev a) ≡ fine w → (a < n) × Long d known expression a w.length
    part-long q a e =
        let y = proper-fine q (ev a) e in
        let z = stands a y.same in
        (z.0, z.1.as-expression y.arms)

    arms-long : (q : Position) (a : ℕ) {w : Worth} → arm_list q (ev a) ≡ fine w → (a < n) × (1 ≤ w.length → Long d known (arms w.arms) a w.length)
    arms-long q a e =
        let y = arms-fine q (ev a) e in
        let z = stands a y.same in
        (z.0, z.1.as-arms y.some)

    -- An expression proper.
    sized-says : {l k : ℕ} {w : Worth} → Sized l k w → Long d known expression n l → Says n w
    sized-says {l} {k} {w} z h = subst (λ (x : Worth). Says n x) (sym z.same) (record { as-expression = λ e. h; as-arms = λ e s. absurd (omega arith) })

    few : {l k : ℕ} {w : Worth} → Sized l k w → l ≤ most_bits
    few z = rw most-bits at z.most

    binary-says : (k a b : ℕ) → node_at d n ≡ D.binary k a b → {w : Worth}
        → judge_node d p terminals known ev (node_place p n) (D.binary k a b) ≡ fine w → Says n w
    unfolding judge_node
    binary-says k a b q e =
        let y = both-fine (proper (node_place p a).at (ev a)) (proper (node_place p b).at (ev b)) _ e in
        let i = part-long _ a y.left in
        let j = part-long _ b y.right in
        let z = sized-fine _ (binary_length k y.u.length y.v.length) _ y.own in
        sized-says z (binary-long d known n a b _ _ i.1 j.1 k (q, i.0, j.0) z.some (few z))

    prefix-says : (k a : ℕ) → node_at d n ≡ D.prefix k a → {w : Worth}
        → judge_node d p terminals known ev (node_place p n) (D.prefix k a) ≡ fine w → Says n w
    unfolding judge_node
    prefix-says k a q e =
        let y = given-fine (proper (node_place p a).at (ev a)) _ e in
        let i = part-long _ a y.part in
        let z = sized-fine _ (prefix_length k y.v.length) _ y.own in
        sized-says z (prefix-long d known n a _ i.1 k (q, i.0) z.some (few z))

    cut-says : (k a c : ℕ) → node_at d n ≡ D.cut k a c → {w : Worth}
        → judge_node d p terminals known ev (node_place p n) (D.cut k a c) ≡ fine w → Says n w
    unfolding judge_node
    cut-says k a c q e =
        let y = given-fine (proper (node_place p a).at (ev a)) _ e in
        let i = part-long _ a y.part in
        let z = sized-fine _ (cut_length_of k y.v.length c) _ y.own in
        sized-says z (cut-long d known n a _ i.1 k c (q, i.0) z.some (few z))

    arm-says : {c l k : ℕ} {w : Worth} → worth l (suc c) k ≡ fine w → (1 ≤ l → Long d known (arms (suc c)) n l) → Says n w
    arm-says {c} {l} {k} {w} e h =
        let z : record { length = l; arms = suc c; work = k } ≡ w = cc in
        subst (λ (x : Worth). Says n x) z (record { as-expression = λ q. absurd (omega arith); as-arms = λ q s. h s })

    first_says : (a : ℕ) → node_at d n ≡ D.first_arm a → {w : Worth}
        → judge_node d p terminals known ev (node_place p n) (D.first_arm a) ≡ fine w → Says n w
    unfolding judge_node
    first_says a q e =
        let y = given-fine (proper (node_place p a).at (ev a)) _ e in
        let i = part-long _ a y.part in
        arm-says y.own (λ s. H.first q i.0 i.1)

    next-says : (a b : ℕ) → node_at d n ≡ D.next_arm a b → {w : Worth}
        → judge_node d p terminals known ev (node_place p n) (D.next_arm a b) ≡ fine w → Says n w
    unfolding judge_node
    next-says a b q e =
        let y = both-fine (arm_list (node_place p n).at (ev a)) (proper (node_place p b).at (ev b)) _ e in
        let i = arms-long _ a y.left in
        let j = part-long _ b y.right in
        arm-says y.own (λ s. joined y.u.arms y.u.length y.v.length i.0 i.1 j.0 j.1 s)
      where
        joined : (c l m : ℕ) → a < n → (1 ≤ l → Long d known (arms c) a l) → b < n → Long d known expression b m
            → 1 ≤ evenly l m → Long d known (arms (suc c)) n (evenly l m)
        joined c l m h i k j s =
            let z = even-so l m s in
            rw (z.1, ← add-one c) (H.next q h k (i (rw z.1 at s)) (rw z.0 j))

    choice-chosen : (a b c : ℕ) {w : Worth} → judge_node d p terminals known ev (node_place p n) (D.choice a b c) ≡ fine w
        → (a < n) × (b < n) × Selects d known a c × Long d known (arms c) b w.length × (w.arms ≡ 0)
    unfolding judge_node
    choice-chosen a b c {w} e =
        let y = both-fine (proper (node_place p a).at (ev a)) (arm_list (node_place p n).at (ev b)) _ e in
        let i = part-long _ a y.left in
        let j = arms-long _ b y.right in
        go y.u.length y.v.arms y.v.length _ i.0 i.1 j.0 j.1 _ refl y.own
      where
        go : (l m r k : ℕ) → a < n → Long d known expression a l → b < n → (1 ≤ r → Long d known (arms m) b r)
            → (t : Bool) → both (selects l c) (eqb m c) ≡ t → cond t (sized (node_place p n).at r k) (refuse (node_place p n).at BadLength) ≡ fine w
            → (a < n) × (b < n) × Selects d known a c × Long d known (arms c) b w.length × (w.arms ≡ 0)
        go l m r w' h i k j false s e' = faulty-fine e'
        go l m r w' h i k j true s e' =
            let z = sized-fine _ r _ e' in
            let t = selected l c (both_left _ _ s) in
            let u : m ≡ c = eqb-true m c (both_right (selects l c) _ s) in
            let v : w.length ≡ r = ap (λ (x : Worth). x.length) z.same in
            (h, k, record { bits = l; long = i; few = t.0; each-value = t.1 }, rw (v, ← u) (j z.some), ap (λ (x : Worth). x.arms) z.same)

    choice-says : (a b c : ℕ) → node_at d n ≡ D.choice a b c → {w : Worth}
        → judge_node d p terminals known ev (node_place p n) (D.choice a b c) ≡ fine w → Says n w
    choice-says a b c q {w} e =
        let y = choice-chosen a b c e in
        let t = y.2 in
        let h = H.case (subst (λ (x : ℕ). node_at d n ≡ D.choice a b x) t.each-value q) y.0 y.1 t.long t.few (subst (λ (x : ℕ). Long d known (arms x) b w.length) t.each-value y.3) in
        record { as-expression = λ z. h; as-arms = λ h s. absurd (omega (arith, y.4)) }

    -- ---- References.

    named : (f : ℕ) {w : Worth} → f < known → computed_work d p terminals f (facility_at d f) ≡ fine w → Long d known facility f (word_length (facility_at d f))
    named f {w} h e = go (is_computed (facility_at d f).kind) refl e
      where
        go : (t : Bool) → is_computed (facility_at d f).kind ≡ t → cond t (terminals f) (worth 1 0 0) ≡ fine w → Long d known facility f (word_length (facility_at d f))
        go true q k = H.computed h q (terms f w h (sym (terminal-lt d p known f h) ∙ k)).1
        go false q k = H.stored h q

    subscript-so : (b : Bounds) (e : ℕ) → subscript_faults d p terminals b e ≡ [] → Subscript d b e
    subscript-so b e h v q = in_within b _ (unless-none _ _ _ (rw q at h))

    ends_so : (b x : Bounds) → end_faults d p terminals b x (node_place p n) ≡ [] → (in_bounds b x.first ≡ true) × (in_bounds b x.last ≡ true)
    ends_so b x h = (
      unless-none _ _ _ (append-none-left (unless (in_bounds b x.first) (node_place p n).first BadSubscript) _ h),
      unless-none _ _ _ (append-none-right (unless (in_bounds b x.first) (node_place p n).first BadSubscript) (unless (in_bounds b x.last) (node_place p n).last BadSubscript) h),
    )

    -- What holds of a reference without fault, as judging has it.
    abbrev Right : ℕ → Subscripts → Worth → Type 0
    Right f u w = Refers d p terminals ev (λ e. M.Answer.stops OutsideBounds) (λ e. ⊥) (λ e w q h. absurd q) known (record { facility = f; subscripts = u }) (node_place p n) w

    refers : (f : ℕ) (u : Subscripts) {w : Worth} → reference_judged d p terminals ev own_work known (record { facility = f; subscripts = u }) (node_place p n) ≡ fine w → Right f u w
    refers f u e = reference-fine d p terminals ev (λ e. M.Answer.stops OutsideBounds) (λ e. ⊥) (λ e w q h. absurd q) own_work known (record { facility = f; subscripts = u }) (node_place p n) e

    refer-says : (f : ℕ) (u : Subscripts) {w : Worth} → Right f u w → (taken_length (facility_at d f) u ≤ most_bits → Long d known expression n (taken_length (facility_at d f) u)) → Says n w
    refer-says f u r h =
        record {
          as-expression = λ e. rw r.length (h (rw most-bits at r.right.short));
          as-arms = λ e s. absurd (let z = r.arms in omega arith);
        }

    whole_says : (f : ℕ) → node_at d n ≡ D.whole f → {w : Worth}
        → judge_node d p terminals known ev (node_place p n) (D.whole f) ≡ fine w → Says n w
    unfolding judge_node right_count taken_length
    whole_says f q e =
        let r = refers f R.whole e in
        refer-says f R.whole r (λ m. H.whole q (leb-true _ 1 r.right.count) (named f r.known-here r.worked) m)

    one-says : (f a : ℕ) → node_at d n ≡ D.one f a → {w : Worth}
        → judge_node d p terminals known ev (node_place p n) (D.one f a) ≡ fine w → Says n w
    unfolding judge_node right_count taken_length subscripts_judged bound_faults
    one-says f a q e =
        let r = refers f (R.one a) e in
        let i = part-long _ a r.right.worked in
        let h : 1 ≤ (facility_at d f).dimensions = leb-true _ _ (both_left _ _ r.right.count) in
        let k : (facility_at d f).dimensions ≤ 2 = leb-true _ _ (both_right (leb 1 (facility_at d f).dimensions) _ r.right.count) in
        refer-says f (R.one a) r (go i.0 i.1 (named f r.known-here r.worked) h k (eqb (facility_at d f).dimensions 1) refl r.right.bound)
      where
        go : {m : ℕ} → a < n → Long d known expression a m → Long d known facility f (word_length (facility_at d f)) → 1 ≤ (facility_at d f).dimensions → (facility_at d f).dimensions ≤ 2
            → (t : Bool) → eqb (facility_at d f).dimensions 1 ≡ t → cond t (subscript_faults d p terminals (facility_at d f).bits a) (subscript_faults d p terminals (facility_at d f).words a) ≡ []
            → cond t 1 (word_length (facility_at d f)) ≤ most_bits → Long d known expression n (cond t 1 (word_length (facility_at d f)))
        go h i l j k true t b m = H.bit q h (eqb-true _ 1 t) l i (subscript-so _ a b)
        go h i l j k false t b m =
            let z : (facility_at d f).dimensions ≡ 1 → ⊥ = eqb-false _ 1 t in
            H.word q h (omega arith) l i (subscript-so _ a b) m

    part_says : (f : ℕ) (x : Bounds) → node_at d n ≡ D.part f x → {w : Worth}
        → judge_node d p terminals known ev (node_place p n) (D.part f x) ≡ fine w → Says n w
    unfolding judge_node right_count taken_length bound_faults direction_faults
    part_says f x q e =
        let r = refers f (R.part x) e in
        let i = ends_so _ x r.right.bound in
        let t = tested-part _ x i.0 i.1 (unless-none (same_direction (facility_at d f).bits x) _ _ r.right.direction) in
        refer-says f (R.part x) r (λ m. H.part q (eqb-true _ 1 r.right.count) (named f r.known-here r.worked) t m)

    two-says : (f a b : ℕ) → node_at d n ≡ D.two f a b → {w : Worth}
        → judge_node d p terminals known ev (node_place p n) (D.two f a b) ≡ fine w → Says n w
    unfolding judge_node right_count taken_length subscripts_judged bound_faults
    two-says f a b q e =
        let r = refers f (R.two a b) e in
        let y = both-fine _ _ _ r.right.worked in
        let i = part-long _ a y.left in
        let j = part-long _ b y.right in
        let s = subscript-so _ a (append-none-left _ _ r.right.bound) in
        let t = subscript-so _ b (append-none-right (subscript_faults d p terminals (facility_at d f).words a) _ r.right.bound) in
        refer-says f (R.two a b) r (λ m. H.word-bit q i.0 j.0 (eqb-true _ 2 r.right.count) (named f r.known-here r.worked) i.1 s j.1 t)

    word-part-says : (f a : ℕ) (x : Bounds) → node_at d n ≡ D.word_part f a x → {w : Worth}
        → judge_node d p terminals known ev (node_place p n) (D.word_part f a x) ≡ fine w → Says n w
    unfolding judge_node right_count taken_length subscripts_judged bound_faults direction_faults
    word-part-says f a x q e =
        let r = refers f (R.word_part a x) e in
        let i = part-long _ a r.right.worked in
        let s = subscript-so _ a (append-none-left _ _ r.right.bound) in
        let j = ends_so _ x (append-none-right (subscript_faults d p terminals (facility_at d f).words a) _ r.right.bound) in
        let t = tested-part _ x j.0 j.1 (unless-none (same_direction (facility_at d f).bits x) _ _ r.right.direction) in
        refer-says f (R.word_part a x) r (λ m. H.word-part q i.0 (eqb-true _ 2 r.right.count) (named f r.known-here r.worked) i.1 s t m)

    -- ---- Every kind of record.

    constant-says : (v : Value) → node_at d n ≡ D.constant v → {w : Worth}
        → judge_node d p terminals known ev (node_place p n) (D.constant v) ≡ fine w → Says n w
    unfolding judge_node
    constant-says v q e = let z = sized-fine _ v.length _ e in sized-says z (H.constant q z.some (few z))

    node-says : (x : Node) → node_at d n ≡ x → {w : Worth} → judge_node d p terminals known ev (node_place p n) x ≡ fine w → Says n w
    unfolding judge_node
    node-says (D.constant v) q e = constant-says v q e
    node-says (D.more m) q e = faulty-fine e
    node-says (D.whole f) q e = whole_says f q e
    node-says (D.one f a) q e = one-says f a q e
    node-says (D.part f x) q e = part_says f x q e
    node-says (D.two f a b) q e = two-says f a b q e
    node-says (D.word_part f a x) q e = word-part-says f a x q e
    node-says (D.binary k a b) q e = binary-says k a b q e
    node-says (D.prefix k a) q e = prefix-says k a q e
    node-says (D.cut k a c) q e = cut-says k a c q e
    node-says (D.first_arm a) q e = first_says a q e
    node-says (D.next_arm a b) q e = next-says a b q e
    node-says (D.choice a b c) q e = choice-says a b c q e
    node-says D.Node.broken q e = faulty-fine e

  says-below : (k n : ℕ) (w : Worth) → n < k → judged d p known n ≡ fine w → Says n w
  unfolding judge_at
  says-below zero n w h e = absurd (omega arith)
  says-below (suc k) n w h e = node-says n (λ a v l. says-below k a v (omega arith)) (node_at d n) refl e

  expression-long : (n : ℕ) {w : Worth} → judged d p known n ≡ fine w → w.arms ≡ 0 → Long d known expression n w.length
  expression-long n e h = (says-below (suc n) n _ (omega arith) e).as-expression h

module _ (d : Description) (p : Places) where
  terminals-long : (k f : ℕ) (w : Worth) → f < k → expression_at d p (terminal_below d p f) f (facility_at d f).expression ≡ fine w
      → (m : ℕ) × Long d f expression (facility_at d f).expression m
  terminals-long zero f w h e = absurd (omega arith)
  terminals-long (suc k) f w h e =
      let y = proper-fine _ (judged d p f (facility_at d f).expression) e in
      (w.length, expression-long d p f (λ g v l. terminals-long k g v (omega arith)) (facility_at d f).expression y.same y.arms)

  -- An expression that is judged fine has the length judged.
  pub fine-is-long : (known n : ℕ) {w : Worth} → judged d p known n ≡ fine w → w.arms ≡ 0 → Long d known expression n w.length
  fine-is-long known n e h = expression-long d p known (terminals-long known) n e h

  -- A conditional that is judged fine: its condition, and its arms.
  pub fine-choice : (known n : ℕ) {a b c : ℕ} {w : Worth} → judged d p known n ≡ fine w → node_at d n ≡ D.choice a b c → Selects d known a c × Long d known (arms c) b w.length
  unfolding judge_at
  fine-choice known n {a} {b} {c} e q =
      let y = choice-chosen d p known (terminals-long known) n (λ m v l. says-below d p known (terminals-long known) (suc m) m v (omega arith)) a b c (rw q at e) in
      (y.2, y.3)
