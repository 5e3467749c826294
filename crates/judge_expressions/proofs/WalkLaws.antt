-- Judging a record by what it is, and a reference by what is known of its facility.
use mathlib.Core.Bool.{Bool, true, false, cond, true≢false}
use mathlib.Core.List.{List, [], ◌∷◌, ◌++◌}
use mathlib.Core.Option.{none, some}
use mathlib.Core.Path.{◌≡◌, refl, sym, ap, ◌∙◌}
use native.Mathlib.Omega.{arith}
use denote.Enum.Declared.{tag_of}
use types.Run.{OneOf, miss}
use Prim.Native.Nat.{ℕ, ◌+◌, ◌<◌, ◌≤◌}
use borrow.Author.Tests.{le-ltb, lt-ltb}
use lib.Dec.{leb, ltb}
use Rattle.language.specs.Ceilings.{longest}
use Rattle.language.specs.Description as D
use Rattle.language.specs.Description.{Description, Facility, NodePlaces, Places, facility_at, is_computed, node_at, node_place}
use Rattle.language.specs.Expressions.{judge_at, judge_below, judge_node, judge_step, left_at, not_before, own_work}
use Rattle.language.specs.Judging as L
use Rattle.language.specs.Judging.{Judged, faulty, faults_of, fine, given_both, or_faulty, refuse, sized, worth}
use Rattle.language.specs.Recursion.{below-ge, below-lt}
use Rattle.language.specs.ReferenceRules.{bound_faults, computed_work, counted_right, counted_wrong, direction_faults, reference_judged, subscripts_judged}
use Rattle.language.specs.References as R
use Rattle.language.specs.References.{Reference, Subscripts, reference_of, right_count, taken_length}
use Rattle.image_records.specs.References.{widened_node}
use Rattle.image_records.specs.contracts.nodes.Node.{the_type}
use Rattle.image_records.specs.Nodes.{meant}
use Rattle.image_records.specs.declared.nodes.Node.{Node}
use Rattle.image_records.specs.declared.nodes.Node.TheVariants as N
use Rattle.language.specs.Words as W
use Rattle.std.specs.Prelude.{IfSome, Option, None, Some}
use Rattle.judge_verdicts.specs.Meaning.{Verdict, seen}
use Rattle.judge_verdicts.specs.Noted.{NotedAt, Notes}
use Rattle.judge_terms.specs.Shown.{NotedRight, NotesRight, Shown, with_own, worked}
use Rattle.language.specs.declared.refusals.Refusal.TheVariants.{BadLength, BadName, BadSubscript, NoContinuation}

-- ---- Work of its own, which a reference has as an operand alone.

own-or : (xs : List W.Fault) (j : Judged) → with_own (or_faulty xs j) ≡ or_faulty xs (with_own j)
own-or [] j = refl
own-or (x ∷ xs) j = refl

own-both : (j k : Judged) (on more : L.Worth → L.Worth → Judged) → ((v w : L.Worth) → with_own (on v w) ≡ more v w) → with_own (given_both j k on) ≡ given_both j k more
own-both (fine v) (fine w) on more e = e v w
own-both (fine v) (faulty g gs) on more e = refl
own-both (faulty f fs) (fine w) on more e = refl
own-both (faulty f fs) (faulty g gs) on more e = refl

own-sized : (p : W.Position) (l w : ℕ) → with_own (sized p l w) ≡ sized p l (own_work + w)
unfolding sized
own-sized p l w = by-test (ltb 0 l) (leb l longest)
  where
    by-test : (b c : Bool)
        → with_own (cond b (cond c (worth l 0 w) (refuse p BadLength)) (refuse p BadLength)) ≡ cond b (cond c (worth l 0 (own_work + w)) (refuse p BadLength)) (refuse p BadLength)
    by-test true true = refl
    by-test true false = refl
    by-test false c = refl

own-tests : (b c : Bool) (x y z w : Judged) → with_own x ≡ y → with_own z ≡ z → with_own w ≡ w
    → with_own (cond b (cond c x z) w) ≡ cond b (cond c y z) w
own-tests true true x y z w e f g = e
own-tests true false x y z w e f g = f
own-tests false c x y z w e f g = g

own-reference : (d : Description) (p : Places) (t ev : ℕ → Judged) (known : ℕ) (r : Reference) (at : NodePlaces)
    → with_own (reference_judged d p t ev 0 known r at) ≡ reference_judged d p t ev own_work known r at
unfolding reference_judged
own-reference d p t ev known r at =
    let f = facility_at d r.facility in
    let s = r.subscripts in
    let parts = faults_of (subscripts_judged d p t ev s) in
    let ends = direction_faults d p t f s at in
    let computed = computed_work d p t r.facility f in
    let sum : ℕ → L.Worth → L.Worth → Judged = λ own v w. sized at.at (taken_length f s) (own + v.work + w.work) in
    let whole : ℕ → Judged = λ own. given_both (subscripts_judged d p t ev s) computed (sum own) in
    own-tests (ltb r.facility known) (right_count f.dimensions s) (counted_right d p t ev 0 r.facility f s at) (counted_right d p t ev own_work r.facility f s at) (counted_wrong d p t ev s at) (refuse at.at BadName)
    (own-or (parts ++ bound_faults d p t f s at) (or_faulty ends (whole 0)) ∙ ap (or_faulty (parts ++ bound_faults d p t f s at))
    (own-or ends (whole 0) ∙ ap (or_faulty ends)
    (own-both (subscripts_judged d p t ev s) computed (sum 0) (sum own_work)
    (λ v w. own-sized at.at (taken_length f s) (0 + v.work + w.work)
    ∙ ap (sized at.at (taken_length f s)) (let q : own_work + (0 + v.work + w.work) ≡ own_work + v.work + w.work = omega arith in q)))))
    (own-or parts (refuse at.at BadSubscript)) refl

module _ (d : Description) (p : Places) (t : ℕ → Judged) (known n : ℕ) where
  pub part-lt : (a : ℕ) → a < n → judge_below d p t known n a ≡ judge_at d p t known a
  unfolding judge_below judge_at
  part-lt a h = below-lt (not_before d p t known) (judge_step d p t known) n a h

  pub part-ge : (a : ℕ) → n ≤ a → judge_below d p t known n a ≡ refuse D.nowhere NoContinuation
  unfolding judge_below
  part-ge a h = below-ge (not_before d p t known) (judge_step d p t known) n a h

  pub judge-is : {x : D.Node} → node_at d n ≡ x → judge_node d p t known (judge_below d p t known n) (node_place p n) x ≡ judge_at d p t known n
  unfolding judge_at
  judge-is e = ap (judge_node d p t known (judge_below d p t known n) (node_place p n)) (sym e)

  refers : (ev : ℕ → Judged) (at : NodePlaces) (x : D.Node) (r : Reference) → some r ≡ reference_of x
      → reference_judged d p t ev own_work known r at ≡ judge_node d p t known ev at x
  unfolding judge_node
  refers ev at (D.constant v) r e = absurd (let z : ◌≡◌ {A = ℕ} 0 1 = cc in omega arith)
  refers ev at (D.more m) r e = absurd (let z : ◌≡◌ {A = ℕ} 0 1 = cc in omega arith)
  refers ev at (D.whole f) r e = let q : r ≡ record { facility = f; subscripts = R.whole } = cc in rw q
  refers ev at (D.one f a) r e = let q : r ≡ record { facility = f; subscripts = R.one a } = cc in rw q
  refers ev at (D.part f b) r e = let q : r ≡ record { facility = f; subscripts = R.part b } = cc in rw q
  refers ev at (D.two f a b) r e = let q : r ≡ record { facility = f; subscripts = R.two a b } = cc in rw q
  refers ev at (D.word_part f a b) r e = let q : r ≡ record { facility = f; subscripts = R.word_part a b } = cc in rw q
  refers ev at (D.binary k a b) r e = absurd (let z : ◌≡◌ {A = ℕ} 0 1 = cc in omega arith)
  refers ev at (D.prefix k a) r e = absurd (let z : ◌≡◌ {A = ℕ} 0 1 = cc in omega arith)
  refers ev at (D.cut k a c) r e = absurd (let z : ◌≡◌ {A = ℕ} 0 1 = cc in omega arith)
  refers ev at (D.first_arm a) r e = absurd (let z : ◌≡◌ {A = ℕ} 0 1 = cc in omega arith)
  refers ev at (D.next_arm a b) r e = absurd (let z : ◌≡◌ {A = ℕ} 0 1 = cc in omega arith)
  refers ev at (D.choice a b c) r e = absurd (let z : ◌≡◌ {A = ℕ} 0 1 = cc in omega arith)
  refers ev at D.Node.broken r e = absurd (let z : ◌≡◌ {A = ℕ} 0 1 = cc in omega arith)

  pub reference-is : (r : Reference) → some r ≡ reference_of (node_at d n)
      → with_own (reference_judged d p t (judge_below d p t known n) 0 known r (node_place p n)) ≡ judge_at d p t known n
  unfolding judge_at
  reference-is r e = own-reference d p t _ known r _ ∙ refers (judge_below d p t known n) (node_place p n) (node_at d n) r e

  pub left_is : (r : Reference) → some r ≡ reference_of (node_at d n)
      → reference_judged d p t (judge_below d p t known n) 0 known r (node_place p n) ≡ left_at d p t known n
  unfolding left_at
  left_is r e = rw (← e)

  -- ---- Records noted.

  noted-reference : (e : ℕ) {v : Verdict} (r : Reference) → Notes e n true v → some r ≡ reference_of (node_at d n)
      → v ≡ seen (reference_judged d p t (judge_below d p t known n) 0 known r (node_place p n)) → NotedRight d p t known e
  noted-reference e r h q j = record {
    left = λ k. h.verdict ∙ j ∙ ap seen (left_is r q) ∙ ap (λ (m : ℕ). seen (left_at d p t known m)) (sym h.of);
    operand = λ k. rw h.of (ap with_own (sym (left_is r q)) ∙ reference-is r q);
    other = λ k. absurd (true≢false (sym h.refers ∙ k));
  }

  noted_other : (e : ℕ) {v : Verdict} → Notes e n false v → v ≡ seen (judge_at d p t known n) → NotedRight d p t known e
  noted_other e h j = record {
    left = λ k. absurd (true≢false (sym k ∙ h.refers));
    operand = λ k. absurd (true≢false (sym k ∙ h.refers));
    other = λ k. h.verdict ∙ j ∙ ap (λ (m : ℕ). seen (judge_at d p t known m)) (sym h.of);
  }

  -- What is neither a reference nor a record of another kind is broken.
  abbrev Rest : ℕ → Type 0
  Rest k = OneOf (2 ∷ 3 ∷ 4 ∷ 5 ∷ 6 ∷ 13 ∷ []) k

  pub broken-is : (a b v : ℕ) (r : Node) → Rest (tag_of the_type r) → reference_of (widened_node a b (meant v r)) ≡ none
      → (ev : ℕ → Judged) (at : NodePlaces) → refuse at.at BadName ≡ judge_node d p t known ev at (widened_node a b (meant v r))
  unfolding judge_node
  broken-is a b v (N.Constant l) k e ev at = absurd (miss (2 ∷ 3 ∷ 4 ∷ 5 ∷ 6 ∷ 13 ∷ []) 0 tt k)
  broken-is a b v (N.More m) k e ev at = absurd (miss (2 ∷ 3 ∷ 4 ∷ 5 ∷ 6 ∷ 13 ∷ []) 1 tt k)
  broken-is a b v (N.Whole f) k e ev at = absurd (let z : ◌≡◌ {A = ℕ} 0 1 = cc in omega arith)
  broken-is a b v (N.One f x) k e ev at = absurd (let z : ◌≡◌ {A = ℕ} 0 1 = cc in omega arith)
  broken-is a b v (N.Part f x y) k e ev at = absurd (let z : ◌≡◌ {A = ℕ} 0 1 = cc in omega arith)
  broken-is a b v (N.Two f x y) k e ev at = absurd (let z : ◌≡◌ {A = ℕ} 0 1 = cc in omega arith)
  broken-is a b v (N.WordPart f w x y) k e ev at = absurd (let z : ◌≡◌ {A = ℕ} 0 1 = cc in omega arith)
  broken-is a b v (N.Binary o x y) k e ev at = absurd (miss (2 ∷ 3 ∷ 4 ∷ 5 ∷ 6 ∷ 13 ∷ []) 7 tt k)
  broken-is a b v (N.Prefix o x) k e ev at = absurd (miss (2 ∷ 3 ∷ 4 ∷ 5 ∷ 6 ∷ 13 ∷ []) 8 tt k)
  broken-is a b v (N.Cut o x c) k e ev at = absurd (miss (2 ∷ 3 ∷ 4 ∷ 5 ∷ 6 ∷ 13 ∷ []) 9 tt k)
  broken-is a b v (N.FirstArm x) k e ev at = absurd (miss (2 ∷ 3 ∷ 4 ∷ 5 ∷ 6 ∷ 13 ∷ []) 10 tt k)
  broken-is a b v (N.NextArm x y) k e ev at = absurd (miss (2 ∷ 3 ∷ 4 ∷ 5 ∷ 6 ∷ 13 ∷ []) 11 tt k)
  broken-is a b v (N.Choice x y c) k e ev at = absurd (miss (2 ∷ 3 ∷ 4 ∷ 5 ∷ 6 ∷ 13 ∷ []) 12 tt k)
  broken-is a b v N.Broken k e ev at = refl

-- ---- What is noted, and what is found among it.

module _ {facs exprs marks places memo : List ℕ} {known : ℕ} where
  pub noted-at : {d : Description} {p : Places} {t : ℕ → Judged} {n e : ℕ} → Shown facs exprs marks places memo known d p t → NotedAt memo n e → NotedRight d p t known e
  noted-at s f = rw f.3 (s.noted f.0 f.1 f.2)

  pub reference-noted : (o : Option ℕ) (n : ℕ) {v : Verdict} (r : Reference) → IfSome o (λ e. Notes e n true v)
      → ((d : Description) (p : Places) (t : ℕ → Judged) → Shown facs exprs marks places memo known d p t
      → (some r ≡ reference_of (node_at d n)) × (v ≡ seen (reference_judged d p t (judge_below d p t known n) 0 known r (node_place p n))))
      → IfSome o (NotesRight facs exprs marks places memo known)
  reference-noted None n r h g = tt
  reference-noted (Some e) n r h g = λ d p t s. noted-reference d p t known n e r h (g d p t s).0 (g d p t s).1

  pub other-noted : (o : Option ℕ) (n : ℕ) {v : Verdict} → IfSome o (λ e. Notes e n false v)
      → ((d : Description) (p : Places) (t : ℕ → Judged) → Shown facs exprs marks places memo known d p t → v ≡ seen (judge_at d p t known n))
      → IfSome o (NotesRight facs exprs marks places memo known)
  other-noted None n h g = tt
  other-noted (Some e) n h g = λ d p t s. noted_other d p t known n e h (g d p t s)

-- ---- References.

worked_same : (s k : Judged) (g : L.Worth → ℕ → Judged) → given_both s (worked k) (λ v w. g v w.work) ≡ given_both s k (λ v w. g v w.work)
worked_same (fine v) (fine w) g = refl
worked_same (fine v) (faulty f fs) g = refl
worked_same (faulty f fs) (fine w) g = refl
worked_same (faulty f fs) (faulty h hs) g = refl

worked-cond : (b : Bool) (s k : Judged) (g : L.Worth → ℕ → Judged)
    → given_both s (cond b (worked k) (worth 1 0 0)) (λ v w. g v w.work) ≡ given_both s (cond b k (worth 1 0 0)) (λ v w. g v w.work)
worked-cond true s k g = worked_same s k g
worked-cond false s k g = refl

both-same : (j k : Judged) (on more : L.Worth → L.Worth → Judged) → ((v w : L.Worth) → on v w ≡ more v w) → given_both j k on ≡ given_both j k more
both-same (fine v) (fine w) on more e = e v w
both-same (fine v) (faulty g gs) on more e = refl
both-same (faulty f fs) (fine w) on more e = refl
both-same (faulty f fs) (faulty g gs) on more e = refl

module _ (d : Description) (p : Places) (t : ℕ → Judged) (ev : ℕ → Judged) (known f : ℕ) (s : Subscripts) (at : NodePlaces) where
  abbrev This : Reference
  This = record { facility = f; subscripts = s }

  pub unknown-reference : known ≤ f → refuse at.at BadName ≡ reference_judged d p t ev 0 known This at
  unfolding reference_judged
  unknown-reference h = rw (le-ltb f known h)

  pub wrong-reference : {x : Facility} → f < known → x ≡ facility_at d f → right_count x.dimensions s ≡ false
      → or_faulty (faults_of (subscripts_judged d p t ev s)) (refuse at.at BadSubscript) ≡ reference_judged d p t ev 0 known This at
  unfolding reference_judged
  wrong-reference h e c = rw (lt-ltb f known h, ← e, c)

  pub right-reference : {x : Facility} (l : ℕ) → f < known → x ≡ facility_at d f → right_count x.dimensions s ≡ true → l ≡ taken_length x s
      → or_faulty (faults_of (subscripts_judged d p t ev s) ++ bound_faults d p t x s at)
      (or_faulty (direction_faults d p t x s at)
      (given_both (subscripts_judged d p t ev s) (cond (is_computed x.kind) (worked (t f)) (worth 1 0 0)) (λ v w. sized at.at l (v.work + w.work))))
      ≡ reference_judged d p t ev 0 known This at
  unfolding reference_judged
  right-reference {x} l h e c q =
      rw (lt-ltb f known h, ← e, c, q, worked-cond (is_computed x.kind) (subscripts_judged d p t ev s) (t f) (λ v w. sized at.at (taken_length x s) (v.work + w)))
      (ap (λ (j : Judged). or_faulty (faults_of (subscripts_judged d p t ev s) ++ bound_faults d p t x s at) (or_faulty (direction_faults d p t x s at) j))
      (both-same (subscripts_judged d p t ev s) (cond (is_computed x.kind) (t f) (worth 1 0 0)) (λ v w. sized at.at (taken_length x s) (v.work + w.work)) (λ v w. sized at.at (taken_length x s) (0 + v.work + w.work))
      (λ v w. ap (sized at.at (taken_length x s)) (let z : v.work + w.work ≡ 0 + v.work + w.work = omega arith in z))))
