-- Two stores that load alike give every expression the same answer. Assumes nothing.
use Rattle.std.specs.Prelude.{Bool, cond, ◌≡◌, ℕ, zero, suc, ◌-◌, ◌≤◌, ◌<◌}
use Rattle.std.proofs.Math.Bool.{true, false}
use Rattle.std.proofs.Math.Option.{Option, none, some}
use Rattle.std.proofs.Math.Path.{refl, sym}
use Rattle.std.proofs.Common.{ap, ◌∙◌, arith}
use borrow.Author.Tests.{ltb-false, ltb-true}
use Rattle.std.proofs.Math.Dec.{ltb}
use Rattle.language.specs.Description as D
use Rattle.language.specs.Description.{Bounds, Description, Facility, Node, facility_at, is_computed, node_at, word_length}
use Rattle.language.specs.Meaning.{Answer, Located, Place, Stores, after, arm_back, arm_number, arm_worth, choice_worth, chosen, constant_part, decides, eval_at, eval_below, eval_node, eval_step, is, located, missed, not_before, not_one_bit, part_of_value, place, place_of, read, stops, stuck, subscript, up_to_longest, worth_or, wrong_count, wrong_length}
use Rattle.language.specs.Operators.{binary_of, cut_of, is_binary, is_cut, is_prefix, prefix_of}
use Rattle.language.specs.Recursion.{below-ge, below-lt}
use Rattle.language.specs.References as R
use Rattle.language.specs.References.{Reference, Subscripts, part, two, whole, word_part}
use Rattle.language.specs.Value.{Value, value}
use Rattle.about_running.specs.PlaceFound.{Taken, found-taken}

-- A part that is in the store.
pub record Stored (d : Description) (p : Place) : Type 0 where
  pub taken : Taken d p
  pub kept : is_computed (facility_at d p.facility).kind ≡ false

after_same : {a b : Answer} (on on' : Value → Answer) → a ≡ b → ((v : Value) → on v ≡ on' v) → after a on ≡ after b on'
after_same {a} {b} on on' e h = rw (← e) (go a)
  where
    go : (a : Answer) → after a on ≡ after a on'
    go (is v) = h v
    go (stops n) = refl
    go (stuck s) = refl

subscript-same : {a c : Answer} (b : Bounds) (on on' : ℕ → Located) → a ≡ c → ((m : ℕ) → on m ≡ on' m) → subscript a b on ≡ subscript c b on'
subscript-same {a} {c} b on on' e h = rw (← e) (go a)
  where
    go : (a : Answer) → subscript a b on ≡ subscript a b on'
    go (is v) = rw (h (D.from_first b v.number)) refl
    go (stops n) = refl
    go (stuck s) = refl

-- ---- Places.

module _ (ev ev' : ℕ → Answer) (alike : (a : ℕ) → ev a ≡ ev' a) where
  located-same : (n : ℕ) (f : Facility) (s : Subscripts) → located ev n f s ≡ located ev' n f s
  unfolding located
  located-same n f whole = refl
  located-same n f (R.one e) =
      let bit = subscript-same f.bits (λ b. up_to_longest (place n 0 b 1)) _ (alike e) (λ b. refl) in
      let word = subscript-same f.words (λ w. up_to_longest (place n w 0 (word_length f))) _ (alike e) (λ w. refl) in
      rw (bit, word) refl
  located-same n f (part x) = refl
  located-same n f (two e g) =
      subscript-same f.words _ _ (alike e) (λ w. subscript-same f.bits (λ b. up_to_longest (place n w b 1)) _ (alike g) (λ b. refl))
  located-same n f (word_part e x) = subscript-same f.words (λ w. constant_part f.bits x (λ b c. up_to_longest (place n w b c))) _ (alike e) (λ w. refl)

  pub place_same : (d : Description) (r : Reference) → place_of d ev r ≡ place_of d ev' r
  unfolding place_of
  place_same d r = rw (located-same r.facility (facility_at d r.facility) r.subscripts) refl

-- ---- Expressions.

module _ {X Y : Type 0} (S : Stores X) (T : Stores Y) (d : Description) (x : X) (y : Y) (loads : (p : Place) → Stored d p → S.load x p ≡ T.load y p) where
  module _ (ev ev' : ℕ → Answer) (alike : (a : ℕ) → ev a ≡ ev' a) where
    read_same : (f : Facility) (p : Place) → f ≡ facility_at d p.facility → Taken d p → read S d x ev f (Located.at p) ≡ read T d y ev' f (Located.at p)
    read_same f p q t = go (is_computed f.kind) refl
      where
        go : (b : Bool) → is_computed f.kind ≡ b
            → cond b (after (ev f.expression) (part_of_value S d x f p)) (is (value p.count (S.load x p)))
            ≡ cond b (after (ev' f.expression) (part_of_value T d y f p)) (is (value p.count (T.load y p)))
        go true k = after_same (part_of_value S d x f p) (part_of_value T d y f p) (alike f.expression) (λ v. refl)
        go false k = ap (λ (n : ℕ). is (value p.count n)) (loads p (record { taken = t; kept = ap (λ (g : Facility). is_computed g.kind) (sym q) ∙ k }))

    operand_same : (n : ℕ) (s : Subscripts) → read S d x ev (facility_at d n) (place_of d ev (record { facility = n; subscripts = s }))
        ≡ read T d y ev' (facility_at d n) (place_of d ev' (record { facility = n; subscripts = s }))
    operand_same n s = go (place_of d ev r) refl (place_of d ev' r) (sym (place_same ev ev' alike d r))
      where
        r : Reference
        r = record { facility = n; subscripts = s }

        go : (a : Located) → place_of d ev r ≡ a → (b : Located) → b ≡ place_of d ev r → read S d x ev (facility_at d n) a ≡ read T d y ev' (facility_at d n) b
        go a q b k = rw (k ∙ q) (by a q)
          where
            by : (a : Located) → place_of d ev r ≡ a → read S d x ev (facility_at d n) a ≡ read T d y ev' (facility_at d n) a
            by (Located.at p) q = let f = found-taken d ev r p q in read_same (facility_at d n) p (ap (facility_at d) (sym f.0)) f.1
            by (Located.stops m) q = refl
            by (Located.stuck m) q = refl

    chosen-same : (a n : ℕ) (k : Option ℕ) → chosen S d x ev a n k ≡ chosen T d y ev' a n k
    chosen-same a n none = refl
    chosen-same a n (some k) = go (arm_back d (n - k) a)
      where
        go : (e : Option ℕ) → arm_worth S d x ev e ≡ arm_worth T d y ev' e
        go none = refl
        go (some e) = alike e

    choice-same : (a n : ℕ) (v : Value) → choice_worth S d x ev a n v ≡ choice_worth T d y ev' a n v
    choice-same a n v = ap (λ (z : Answer). cond (decides n v) z (stuck not_one_bit)) (chosen-same a n (arm_number n v.number))

    node-same : (n : Node) → eval_node S d x ev n ≡ eval_node T d y ev' n
    unfolding eval_node
    node-same (D.constant v) = refl
    node-same (D.more n) = refl
    node-same (D.whole f) = operand_same f whole
    node-same (D.one f e) = operand_same f (R.one e)
    node-same (D.part f b) = operand_same f (part b)
    node-same (D.two f e g) = operand_same f (two e g)
    node-same (D.word_part f e b) = operand_same f (word_part e b)
    node-same (D.binary k a b) =
        after_same _ _ (alike a) (λ v. after_same (λ w. worth_or (missed (is_binary k) wrong_length) (binary_of k v w)) _ (alike b) (λ w. refl))
    node-same (D.prefix k a) = after_same (λ v. worth_or (missed (is_prefix k) wrong_length) (prefix_of k v)) _ (alike a) (λ v. refl)
    node-same (D.cut k a c) = after_same (λ v. worth_or (missed (is_cut k) wrong_count) (cut_of k v c)) _ (alike a) (λ v. refl)
    node-same (D.first_arm e) = refl
    node-same (D.next_arm a e) = refl
    node-same (D.choice e a n) = after_same _ _ (alike e) (λ v. choice-same a n v)
    node-same D.Node.broken = refl

  below_step : (n : ℕ) → ((m : ℕ) → m < n → (a : ℕ) → eval_below S d x m a ≡ eval_below T d y m a) → (a : ℕ) → eval_below S d x n a ≡ eval_below T d y n a
  unfolding eval_below
  below_step n ih a = go (ltb a n) refl
    where
      go : (b : Bool) → ltb a n ≡ b → eval_below S d x n a ≡ eval_below T d y n a
      go true q =
          let l : a < n = ltb-true a n q in
          below-lt (stuck not_before) (eval_step S d x) n a l
          ∙ (node-same (eval_below S d x a) (eval_below T d y a) (ih a l) (node_at d a)
          ∙ sym (below-lt (stuck not_before) (eval_step T d y) n a l))
      go false q =
          let l : n ≤ a = ltb-false a n q in
          below-ge (stuck not_before) (eval_step S d x) n a l ∙ sym (below-ge (stuck not_before) (eval_step T d y) n a l)

  below-under : (k n : ℕ) → n < k → (a : ℕ) → eval_below S d x n a ≡ eval_below T d y n a
  below-under zero n h a = absurd (omega arith)
  below-under (suc k) n h a = below_step n (λ m l b. below-under k m (omega arith) b) a

  pub below-same : (n a : ℕ) → eval_below S d x n a ≡ eval_below T d y n a
  below-same n a = below-under (suc n) n (omega arith) a

  pub value_same : (n : ℕ) → eval_at S d x n ≡ eval_at T d y n
  unfolding eval_at
  value_same n = node-same (eval_below S d x n) (eval_below T d y n) (below-same n) (node_at d n)
