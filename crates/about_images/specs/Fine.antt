-- A tree whose root is judged fine is sane, as an expression and as the left side of a store.
use Rattle.std.specs.Prelude.{Bool, [], ◌≡◌, eqb, ltb}
use Rattle.std.proofs.Math.Bool.{true, false, cond}
use Rattle.std.proofs.Math.Option.{none, some}
use Rattle.std.proofs.Math.Path.{refl, subst}
use Rattle.std.proofs.Common.{sym, ◌∙◌, arith, eqb-true, ltb-true}
use Prim.Native.Nat.{ℕ, zero, suc, ◌+◌, ◌-◌, ◌/◌, ◌^◌, ◌≤◌, ◌<◌}
use Rattle.std.proofs.lemmas.Bool.{eqb-false}
use Rattle.language.specs.Canonical.{node_count}
use Rattle.language.specs.Description as D
use Rattle.language.specs.Description.{Bounds, Description, Node, NodePlaces, Places, digit_length, facility_at, further_digits, in_bounds, node_at, node_place}
use Rattle.language.specs.Expressions.{choice_judged, judge_at, judge_below, judge_node, judge_step, left_at, left_of, not_before, own_work, proper_at, selects}
use Rattle.language.specs.Judging.{Judged, Worth, arm_list, fine, proper, refuse, sized, unless, worth}
use Rattle.language.specs.Meaning as M
use Rattle.language.specs.Meaning.{Answer}
use Rattle.language.specs.Operators.{binary_length, cut_length_of, prefix_length}
use Rattle.language.specs.Order.{constant_start, digits_stand, just_before, start_at, start_below, start_node, two_before}
use Rattle.language.specs.Recursion.{below-lt}
use Rattle.language.specs.ReferenceRules.{bound_faults, end_faults, reference_judged, subscript_faults, subscript_worth, subscripts_judged}
use Rattle.language.specs.References as R
use Rattle.language.specs.References.{Subscripts, reference_of}
use Rattle.language.specs.declared.refusals.Refusal.TheVariants.{BadLength, BadSubscript}
use Rattle.language.specs.Value.{Value}
use Rattle.language.specs.Ceilings.{longest}
use Rattle.about_running.specs.Finds.{Refers, reference-fine}
use Rattle.about_running.specs.Judged.{append-none-left, append-none-right, arms-fine, both-fine, faulty-fine, given-fine, proper-fine, sized-fine, unless-none}
use Rattle.about_running.specs.Starts.{none-some, one-before, start-le, start-lt, two-before}
use Rattle.image_records.proofs.NodeBack.{Half}
use Rattle.about_images.specs.Whole.{both_left, both_right}
use Rattle.about_images.specs.Counted.{count-more}
use Rattle.about_images.specs.Depth.{depth-leaf, depth-one, depth-two}
use Rattle.about_images.specs.Trees.{Digit, Sane, Tree, binary-kind, counts, cut-count, cut-kind, digits-sane, leaf, over-arm, over-next, over-one, over-two, prefix-kind, selects-few, within-bounds}
use Rattle.language.specs.Tests.{both}

-- ---- Constants.

pub record Stands (d : Description) (n s l x : ℕ) : Type 0 where
  pub fits : x < 2 ^ l
  pub digits : digits_stand d (further_digits l) n (x / 2 ^ 48) ≡ true
  pub from : s ≡ n - further_digits l

pub constant-stands : (d : Description) (n s l x : ℕ) → constant_start d n l x ≡ some s → Stands d n s l x
unfolding constant_start digit_length
constant-stands d n s l x e = go (both (ltb x (2 ^ l)) (digits_stand d (further_digits l) n (x / 2 ^ 48))) refl e
  where
    go : (b : Bool) → both (ltb x (2 ^ l)) (digits_stand d (further_digits l) n (x / 2 ^ 48)) ≡ b → cond b (some (n - further_digits l)) none ≡ some s → Stands d n s l x
    go true t k = record { fits = ltb-true x (2 ^ l) (both_left (ltb x (2 ^ l)) _ t); digits = both_right (ltb x (2 ^ l)) _ t; from = let z : n - further_digits l ≡ s = cc in sym z }
    go false t k = none-some k

further-few : (l : ℕ) → l ≤ 256 → further_digits l ≤ 5
unfolding further_digits digit_length
further-few l h = omega arith

pub constant-tree : (d : Description) (n s : ℕ) (v : Value) → node_at d n ≡ D.constant v → 1 ≤ v.length → v.length ≤ 256 → constant_start d n v.length v.number ≡ some s
    → (arms : ℕ) → Tree d n s arms
constant-tree d n s v e l h o arms =
    let c = constant-stands d n s v.length v.number o in
    let k = further_digits v.length in
    let g = digits-sane d k n (v.number / 2 ^ 48) c.digits in
    let f = further-few v.length h in
    let own : Sane d n (node_at d n) = rw e (l, h, c.fits, c.digits) in
    let one : node_count (node_at d n) ≡ 1 = rw e in
    let q = depth-leaf d n _ e (λ f. refl) in
    let more = count-more (counts d) s k n (omega (arith, c.from, g.0)) in
    record {
      many = k + 1;
      ends = omega (arith, c.from, g.0);
      sane = λ m p r. (all (own, q) g.1 m (omega (arith, c.from, g.0)) r (eqb m n) refl).0;
      few = omega (arith, more, one, f);
      fewer = λ z. omega (arith, more, one, f);
      under = λ m p r. omega (arith, q, (all (own, q) g.1 m (omega (arith, c.from, g.0)) r (eqb m n) refl).1);
      deep = omega (arith, more, one, q);
      deeper = λ z. omega (arith, more, one, q);
    }
  where
    all : Digit d n → ((m : ℕ) → n ≤ m + further_digits v.length → m < n → Digit d m) → (m : ℕ) → n ≤ m + further_digits v.length → m ≤ n
        → (b : Bool) → eqb m n ≡ b → Digit d m
    all own f m p q true t = subst (Digit d) (sym (eqb-true m n t)) own
    all own f m p q false t = f m p (omega (arith, eqb-false m n t))

-- ---- Expressions: `known` facilities may be named, whose bounds have room.

module _ (d : Description) (p : Places) (terminals : ℕ → Judged) (known : ℕ) (within : known ≤ 256)
    (bounded : (f : ℕ) → f < known → Half (facility_at d f).bits.first × Half (facility_at d f).bits.last) where
  judge-lt : (n a : ℕ) → a < n → judge_below d p terminals known n a ≡ judge_at d p terminals known a
  unfolding judge_below judge_at
  judge-lt n a h = below-lt (not_before d p terminals known) (judge_step d p terminals known) n a h

  unfoldable pub Claim : ℕ → Type 0
  Claim a = (s : ℕ) (w : Worth) → start_at d a ≡ some s → judge_at d p terminals known a ≡ fine w → Tree d a s w.arms

  module _ (n : ℕ) (ih : (a : ℕ) → a < n → Claim a) where
    abbrev ev : ℕ → Judged
    ev = judge_below d p terminals known n

    -- A part that is judged fine.
    part : (a s : ℕ) (w : Worth) → a < n → start_at d a ≡ some s → ev a ≡ fine w → Tree d a s w.arms
    unfolding Claim
    part a s w l o e = ih a l s w o (sym (judge-lt n a l) ∙ e)

    module _ (own f : ℕ) (at : NodePlaces) (arms : ℕ) where
      refers : (u : Subscripts) {w : Worth} → reference_judged d p terminals ev own known (record { facility = f; subscripts = u }) at ≡ fine w
          → Refers d p terminals ev (λ e. Answer.stuck M.not_before) (λ e. ⊥) (λ e w o h. absurd o) known (record { facility = f; subscripts = u }) at w
      refers u e = reference-fine d p terminals ev (λ e. Answer.stuck M.not_before) (λ e. ⊥) (λ e w o h. absurd o) own known (record { facility = f; subscripts = u }) at e

      -- The ends of a part.
      ends-in : (b : Bounds) → f < known → end_faults d p terminals (facility_at d f).bits b at ≡ [] → Half b.first × Half b.last
      ends-in b h e =
          let t = bounded f h in
          let c = (facility_at d f).bits in (
            within-bounds c b.first t.0 t.1 (unless-none (in_bounds c b.first) at.first BadSubscript (append-none-left _ _ e)),
            within-bounds c b.last t.0 t.1 (unless-none (in_bounds c b.last) at.last BadSubscript (append-none-right (unless (in_bounds c b.first) at.first BadSubscript) _ e)),
          )

      whole-tree : {w : Worth} → node_at d n ≡ D.whole f → reference_judged d p terminals ev own known (record { facility = f; subscripts = R.whole }) at ≡ fine w → Tree d n n arms
      whole-tree e j =
          let r = refers R.whole j in
          leaf d n (rw e (omega (arith, r.known-here))) (depth-leaf d n _ e (λ f. refl)) (rw e) arms

      part-tree : (b : Bounds) {w : Worth} → node_at d n ≡ D.part f b → reference_judged d p terminals ev own known (record { facility = f; subscripts = R.part b }) at ≡ fine w → Tree d n n arms
      unfolding bound_faults
      part-tree b e j =
          let r = refers (R.part b) j in
          let h = ends-in b r.known-here r.right.bound in
          leaf d n (rw e (omega (arith, r.known-here), h.0, h.1)) (depth-leaf d n _ e (λ f. refl)) (rw e) arms

      one-tree : (a s : ℕ) {w : Worth} → node_at d n ≡ D.one f a → just_before d (start_below d n) a n ≡ some s
          → reference_judged d p terminals ev own known (record { facility = f; subscripts = R.one a }) at ≡ fine w → Tree d n s arms
      unfolding subscripts_judged
      one-tree a s e o j =
          let r = refers (R.one a) j in
          let y = one-before d a n s o in
          let l : a < n = omega (arith, y.last) in
          let t = proper-fine (node_place p a).at (ev a) r.right.worked in
          over-one d n (rw e (omega (arith, r.known-here), l)) a s y.last (depth-one d n _ e a l (λ f. refl)) _ (part a s _ l y.start t.same) (rw e) arms

      word-part-tree : (a s : ℕ) (b : Bounds) {w : Worth} → node_at d n ≡ D.word_part f a b → just_before d (start_below d n) a n ≡ some s
          → reference_judged d p terminals ev own known (record { facility = f; subscripts = R.word_part a b }) at ≡ fine w → Tree d n s arms
      unfolding subscripts_judged bound_faults
      word-part-tree a s b e o j =
          let r = refers (R.word_part a b) j in
          let y = one-before d a n s o in
          let l : a < n = omega (arith, y.last) in
          let t = proper-fine (node_place p a).at (ev a) r.right.worked in
          let h = ends-in b r.known-here (append-none-right (subscript_faults d p terminals (facility_at d f).words a) _ r.right.bound) in
          over-one d n (rw e (omega (arith, r.known-here), l, h.0, h.1)) a s y.last (depth-one d n _ e a l (λ f. refl)) _ (part a s _ l y.start t.same) (rw e) arms

      two-tree : (a g s : ℕ) {w : Worth} → node_at d n ≡ D.two f a g → two_before d (start_below d n) a g n ≡ some s
          → reference_judged d p terminals ev own known (record { facility = f; subscripts = R.two a g }) at ≡ fine w → Tree d n s arms
      unfolding subscripts_judged
      two-tree a g s e o j =
          let r = refers (R.two a g) j in
          let y = two-before d a g n s o in
          let k : y.middle ≤ g = start-le d g y.middle y.right in
          let l : a < n = omega (arith, y.last, y.next) in
          let m : g < n = omega (arith, y.last) in
          let t = both-fine (subscript_worth d p terminals ev a) (subscript_worth d p terminals ev g) _ r.right.worked in
          let u = proper-fine (node_place p a).at (ev a) t.left in
          let v = proper-fine (node_place p g).at (ev g) t.right in
          over-two d n (rw e (omega (arith, r.known-here), l, m)) a g s y.middle y.next y.last (depth-two d n _ e a g l m (λ f. refl)) _ _
          (part a s _ l (sym (start-lt d n a l) ∙ y.left) u.same) (part g y.middle _ m y.right v.same) (rw e) arms

    -- ---- Every kind of record.

    module _ (s : ℕ) (at : NodePlaces) where
      node-tree : (x : Node) (w : Worth) → node_at d n ≡ x → judge_node d p terminals known ev at x ≡ fine w → start_node d (start_below d n) n x ≡ some s → Tree d n s w.arms
      unfolding judge_node start_node longest
      node-tree (D.constant v) w q e o =
          let z = sized-fine at.at v.length own_work e in
          constant-tree d n s v q z.some z.most o w.arms
      node-tree (D.more m) w q e o = none-some o
      node-tree (D.whole f) w q e o = subst (λ (t : ℕ). Tree d n t w.arms) (let z : n ≡ s = cc in z) (whole-tree own_work f at w.arms q e)
      node-tree (D.one f a) w q e o = one-tree own_work f at w.arms a s q o e
      node-tree (D.part f b) w q e o = subst (λ (t : ℕ). Tree d n t w.arms) (let z : n ≡ s = cc in z) (part-tree own_work f at w.arms b q e)
      node-tree (D.two f a g) w q e o = two-tree own_work f at w.arms a g s q o e
      node-tree (D.word_part f a b) w q e o = word-part-tree own_work f at w.arms a s b q o e
      node-tree (D.binary k a b) w q e o =
          let y = two-before d a b n s o in
          let g : y.middle ≤ b = start-le d b y.middle y.right in
          let l : a < n = omega (arith, y.last, y.next) in
          let m : b < n = omega (arith, y.last) in
          let t = both-fine (proper_at d p terminals known ev a) (proper_at d p terminals known ev b) _ e in
          let u = proper-fine (node_place p a).at (ev a) t.left in
          let v = proper-fine (node_place p b).at (ev b) t.right in
          let z = sized-fine at.at (binary_length k t.u.length t.v.length) _ t.own in
          over-two d n (rw q (binary-kind k _ _ z.some, l, m)) a b s y.middle y.next y.last (depth-two d n _ q a b l m (λ f. refl)) _ _
          (part a s _ l (sym (start-lt d n a l) ∙ y.left) u.same) (part b y.middle _ m y.right v.same) (rw q) w.arms
      node-tree (D.prefix k a) w q e o =
          let y = one-before d a n s o in
          let l : a < n = omega (arith, y.last) in
          let t = given-fine (proper_at d p terminals known ev a) _ e in
          let u = proper-fine (node_place p a).at (ev a) t.part in
          let z = sized-fine at.at (prefix_length k t.v.length) _ t.own in
          over-one d n (rw q (prefix-kind k _ z.some, l)) a s y.last (depth-one d n _ q a l (λ f. refl)) _ (part a s _ l y.start u.same) (rw q) w.arms
      node-tree (D.cut k a c) w q e o =
          let y = one-before d a n s o in
          let l : a < n = omega (arith, y.last) in
          let t = given-fine (proper_at d p terminals known ev a) _ e in
          let u = proper-fine (node_place p a).at (ev a) t.part in
          let z = sized-fine at.at (cut_length_of k t.v.length c) _ t.own in
          over-one d n (rw q (cut-kind k _ c z.some, l, omega (arith, cut-count k t.v.length c z.some z.most))) a s y.last (depth-one d n _ q a l (λ f. refl)) _ (part a s _ l y.start u.same) (rw q) w.arms
      node-tree (D.first_arm a) w q e o =
          let y = one-before d a n s o in
          let l : a < n = omega (arith, y.last) in
          let t = given-fine (proper_at d p terminals known ev a) _ e in
          let u = proper-fine (node_place p a).at (ev a) t.part in
          let z : 1 ≡ w.arms = let k : worth t.v.length 1 t.v.work ≡ fine w = t.own in cc in
          subst (λ (k : ℕ). Tree d n s k) z (over-arm d n (rw q l) a s y.last (depth-one d n _ q a l (λ f. refl)) _ (part a s _ l y.start u.same) u.arms 0)
      node-tree (D.next_arm a b) w q e o =
          let y = two-before d a b n s o in
          let g : y.middle ≤ b = start-le d b y.middle y.right in
          let l : a < n = omega (arith, y.last, y.next) in
          let m : b < n = omega (arith, y.last) in
          let t = both-fine (arm_list at.at (ev a)) (proper_at d p terminals known ev b) _ e in
          let u = arms-fine at.at (ev a) t.left in
          let v = proper-fine (node_place p b).at (ev b) t.right in
          let z : suc t.u.arms ≡ w.arms = arms-are t.own in
          subst (λ (k : ℕ). Tree d n s k) z
          (over-next d n (rw q (l, m)) a b s y.middle y.next y.last (depth-two d n _ q a b l m (λ f. refl)) _ _
          (part a s _ l (sym (start-lt d n a l) ∙ y.left) u.same) (part b y.middle _ m y.right v.same) v.arms t.u.arms)
        where
          arms-are : {l k m : ℕ} → worth l k m ≡ fine w → k ≡ w.arms
          arms-are r = cc
      node-tree (D.choice a b c) w q e o =
          let y = two-before d a b n s o in
          let g : y.middle ≤ b = start-le d b y.middle y.right in
          let l : a < n = omega (arith, y.last, y.next) in
          let m : b < n = omega (arith, y.last) in
          let t = both-fine (proper_at d p terminals known ev a) (arm_list at.at (ev b)) _ e in
          let u = proper-fine (node_place p a).at (ev a) t.left in
          let v = arms-fine at.at (ev b) t.right in
          over-two d n (rw q (l, m, omega (arith, few c t.u t.v t.own))) a b s y.middle y.next y.last (depth-two d n _ q a b l m (λ f. refl)) _ _
          (part a s _ l (sym (start-lt d n a l) ∙ y.left) u.same) (part b y.middle _ m y.right v.same) (rw q) w.arms
        where
          few : (c : ℕ) (u v : Worth) → choice_judged d p terminals known at.at c u v ≡ fine w → c ≤ 64
          few c u v k = go (both (selects u.length c) (eqb v.arms c)) refl k
            where
              go : (b : Bool) → both (selects u.length c) (eqb v.arms c) ≡ b → cond b (sized at.at v.length (own_work + u.work + v.work)) (refuse at.at BadLength) ≡ fine w → c ≤ 64
              go true x y = selects-few u.length c (both_left (selects u.length c) _ x)
              go false x y = faulty-fine y
      node-tree D.Node.broken w q e o = none-some o

      -- The left side of a store.
      left-tree : (x : Node) {w : Worth} → node_at d n ≡ x → left_of d p terminals known n (reference_of x) ≡ fine w → start_node d (start_below d n) n x ≡ some s → Tree d n s 0
      unfolding start_node
      left-tree (D.constant v) q e o = faulty-fine e
      left-tree (D.more m) q e o = none-some o
      left-tree (D.whole f) q e o = subst (λ (t : ℕ). Tree d n t 0) (let z : n ≡ s = cc in z) (whole-tree 0 f (node_place p n) 0 q e)
      left-tree (D.one f a) q e o = one-tree 0 f (node_place p n) 0 a s q o e
      left-tree (D.part f b) q e o = subst (λ (t : ℕ). Tree d n t 0) (let z : n ≡ s = cc in z) (part-tree 0 f (node_place p n) 0 b q e)
      left-tree (D.two f a g) q e o = two-tree 0 f (node_place p n) 0 a g s q o e
      left-tree (D.word_part f a b) q e o = word-part-tree 0 f (node_place p n) 0 a s b q o e
      left-tree (D.binary k a b) q e o = faulty-fine e
      left-tree (D.prefix k a) q e o = faulty-fine e
      left-tree (D.cut k a c) q e o = faulty-fine e
      left-tree (D.first_arm a) q e o = faulty-fine e
      left-tree (D.next_arm a b) q e o = faulty-fine e
      left-tree (D.choice a b c) q e o = faulty-fine e
      left-tree D.Node.broken q e o = faulty-fine e

  claim-below : (k n : ℕ) → n < k → Claim n
  unfolding Claim start_at judge_at
  claim-below zero n h = absurd (omega arith)
  claim-below (suc k) n h = λ s w o e. node-tree n (λ a l. claim-below k a (omega arith)) s (node_place p n) (node_at d n) w refl e o

  pub fine-tree : (n s : ℕ) (w : Worth) → start_at d n ≡ some s → judge_at d p terminals known n ≡ fine w → Tree d n s w.arms
  unfolding Claim
  fine-tree n s w o e = claim-below (suc n) n (omega arith) s w o e

  -- As an expression of its own, and as a left side.
  pub proper-tree : (n s : ℕ) {w : Worth} → start_at d n ≡ some s → proper (node_place p n).at (judge_at d p terminals known n) ≡ fine w → Tree d n s 0
  proper-tree n s {w} o e =
      let y = proper-fine (node_place p n).at (judge_at d p terminals known n) e in
      subst (λ (k : ℕ). Tree d n s k) y.arms (fine-tree n s w o y.same)

  pub side-tree : (n s : ℕ) {w : Worth} → start_at d n ≡ some s → left_at d p terminals known n ≡ fine w → Tree d n s 0
  unfolding start_at left_at
  side-tree n s o e = left-tree n (λ a l. claim-below n a l) s (node_place p n) (node_at d n) refl e o
