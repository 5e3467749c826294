-- Lists of actions, one action after another, and what the code sees of them.
use mathlib.Core.Bool.{Bool, true, false, cond}
use mathlib.Core.List.{List, [], ◌∷◌}
use mathlib.Core.Option.{Option, none, some}
use mathlib.Core.Path.{◌≡◌, refl, sym, ap, ◌∙◌}
use Prim.Native.Nat.{ℕ, suc, ◌+◌, ◌-◌, ◌≤◌, ◌<◌}
use native.Mathlib.Omega.{arith}
use borrow.Author.Tests.{le-leb, lt-leb, ne_eqb}
use denote.Enum.Declared.{tag_of}
use types.Run.{OneOf, miss}
use lib.Dec.{eqb, leb}
use Rattle.language.specs.Acting as T
use Rattle.language.specs.Description as D
use Rattle.language.specs.Description.{Description, action_at, operation_at}
use Rattle.language.specs.Meaning as M
use Rattle.language.specs.Recursion.{below-ge, below-lt}
use Rattle.language.specs.declared.stops.Stop.{Stop}
use Rattle.language.specs.Value.{Value}
use Rattle.image_records.specs.contracts.actions.Action.{the_type}
use Rattle.image_records.specs.Actions.{meant}
use Rattle.image_records.specs.declared.actions.Action.{Action}
use Rattle.image_records.specs.declared.actions.Action.TheVariants as A
use Rattle.store_layout.specs.InBytes.{InBytes, bytes}
use Rattle.run_references.specs.Worth.{stuck_meant}
use Rattle.run_references.specs.declared.worth.Halted.{Halted}
use Rattle.run_references.specs.declared.worth.Halted.TheVariants as U
use Rattle.run_stores.specs.Seen.{Ran, View, halted, ran_seen, seen, stopped, stuck, went}
use Rattle.run_actions.specs.Acts.{Stands, arm_done, choose_done, chosen_done, nested_done, one_done, over_done, passed_of, run_below, run_of, simple_done, when_done}
use Rattle.run_actions.specs.declared.reach.Held.{Held}
use Rattle.run_actions.specs.declared.ways.Nested.{Nested}

-- ---- Lists.

module _ {X : Type 0} (S : M.Stores X) (d : Description) (perform : ℕ → T.Doing X → T.Ran X) where
  pub run_none : (i : ℕ) (c : T.Doing X) → T.run_list S d perform (run_of i 0) c ≡ T.went c
  unfolding T.run_list
  run_none i c = refl

  pub run-some : (k i : ℕ) (c : T.Doing X)
      → T.run_list S d perform (run_of i (suc k)) c ≡ T.list_act S d perform (T.list_below S d perform (suc k)) k i (action_at d i) c
  unfolding T.run_list
  run-some k i c = let e : suc k - 1 ≡ k = omega arith in rw (ne_eqb (suc k) 0 (λ f. omega arith), e)

  pub run-below : (k j i : ℕ) (c : T.Doing X) → j < k → T.list_below S d perform k j i c ≡ T.run_list S d perform (run_of i j) c
  unfolding T.list_below T.run_list
  run-below k j i c h = ap (λ (f : ℕ → T.Doing X → T.Ran X). f i c) (below-lt (λ i c. T.stuck M.runs_over) (T.list_step S d perform) k j h)

  pub run-over : (k j i : ℕ) (c : T.Doing X) → k ≤ j → T.list_below S d perform k j i c ≡ T.stuck M.runs_over
  unfolding T.list_below
  run-over k j i c h = ap (λ (f : ℕ → T.Doing X → T.Ran X). f i c) (below-ge (λ i c. T.stuck M.runs_over) (T.list_step S d perform) k j h)

  module _ (ev : ℕ → ℕ → T.Doing X → T.Ran X) (m i : ℕ) where
    pub passes : (x : ℕ) (c : T.Doing X) → x ≤ m → T.passing S d perform ev m i x c ≡ ev (m - x) (i + 1 + x) c
    passes x c h = rw (le-leb x m h)

    pub passes_over : (x : ℕ) (c : T.Doing X) → m < x → T.passing S d perform ev m i x c ≡ T.stuck M.runs_over
    passes_over x c h = rw (lt-leb x m h)

    on_same : (r : T.Ran X) (f g : T.Doing X → T.Ran X) → ((c : T.Doing X) → f c ≡ g c) → T.onward r f ≡ T.onward r g
    on_same (T.went c) f g h = h c
    on_same (T.stopped n) f g h = refl
    on_same (T.stuck s) f g h = refl

    at_once : (c : T.Doing X) → ev m (i + 1) c ≡ T.passing S d perform ev m i 0 c
    at_once c =
        let e : m - 0 ≡ m = omega arith in
        let f : i + 1 + 0 ≡ i + 1 = omega arith in
        sym (passes 0 c (omega arith) ∙ rw (e, f) refl)

    arm-passes : (x : ℕ) (a : Option D.Run) (c : T.Doing X) → T.in_arm S d perform ev m i x a c ≡ T.onward (arm_done S d perform ev a c) (T.passing S d perform ev m i x)
    arm-passes x none c = refl
    arm-passes x (some r) c = refl

    when-passes : (x : ℕ) (v : Value) (c : T.Doing X) → T.when_worth S d perform ev m i x v c ≡ T.onward (when_done S d perform ev i x v c) (T.passing S d perform ev m i x)
    when-passes x v c = by_tests (eqb v.length 1) (eqb v.number 0)
      where
        by_tests : (a b : Bool)
            → cond a (cond b (T.passing S d perform ev m i x c) (T.in_arm S d perform ev m i x (T.arm_at d 0 (i + 1) x) c)) (T.stuck M.not_one_bit)
            ≡ T.onward (cond a (cond b (T.went c) (arm_done S d perform ev (T.arm_at d 0 (i + 1) x) c)) (T.stuck M.not_one_bit)) (T.passing S d perform ev m i x)
        by_tests true true = refl
        by_tests true false = arm-passes x (T.arm_at d 0 (i + 1) x) c
        by_tests false b = refl

    chosen-passes : (x : ℕ) (k : Option ℕ) (c : T.Doing X) → T.arm_chosen S d perform ev m i x k c ≡ T.onward (chosen_done S d perform ev i x k c) (T.passing S d perform ev m i x)
    chosen-passes x none c = refl
    chosen-passes x (some k) c = arm-passes x (T.arm_at d (k - 1) (i + 1) x) c

    choose-passes : (n x : ℕ) (v : Value) (c : T.Doing X) → T.choose_worth S d perform ev m i n x v c ≡ T.onward (choose_done S d perform ev n i x v c) (T.passing S d perform ev m i x)
    choose-passes n x v c = by-test (M.decides n v)
      where
        by-test : (b : Bool)
            → cond b (T.arm_chosen S d perform ev m i x (M.arm_number n v.number) c) (T.stuck M.not_one_bit)
            ≡ T.onward (cond b (chosen_done S d perform ev i x (M.arm_number n v.number) c) (T.stuck M.not_one_bit)) (T.passing S d perform ev m i x)
        by-test true = chosen-passes x (M.arm_number n v.number) c
        by-test false = refl

    value_passes : (a : M.Answer) (x : ℕ) (f g : Value → T.Ran X) → ((v : Value) → f v ≡ T.onward (g v) (T.passing S d perform ev m i x))
        → T.on_value a f ≡ T.onward (T.on_value a g) (T.passing S d perform ev m i x)
    value_passes (M.Answer.is v) x f g h = h v
    value_passes (M.Answer.stops n) x f g h = refl
    value_passes (M.Answer.stuck s) x f g h = refl

    -- One action, and then those after what it passes over.
    pub act-passes : (a : Action) (c : T.Doing X)
        → T.list_act S d perform ev m i (meant a) c ≡ T.onward (one_done S d perform ev i (meant a) c) (T.passing S d perform ev m i (passed_of a))
    unfolding T.list_act
    act-passes (A.Store k l r) c = on_same (T.store_to S d k l r c) (ev m (i + 1)) (T.passing S d perform ev m i 0) at_once
    act-passes (A.StorePair k l n r) c = on_same (T.store_to_pair S d k l n r c) (ev m (i + 1)) (T.passing S d perform ev m i 0) at_once
    act-passes (A.Set l) c = on_same (T.on_place (T.side S d c.store l) (λ p. T.setting S d p c)) (ev m (i + 1)) (T.passing S d perform ev m i 0) at_once
    act-passes (A.Perform o) c = on_same (perform o c) (ev m (i + 1)) (T.passing S d perform ev m i 0) at_once
    act-passes (A.Goto s) c = on_same (T.to_state S d s (T.going_to S d) c) (ev m (i + 1)) (T.passing S d perform ev m i 0) at_once
    act-passes (A.Call s) c = on_same (T.to_state S d s (T.calling S d) c) (ev m (i + 1)) (T.passing S d perform ev m i 0) at_once
    act-passes A.Return c = on_same (T.went (T.returning S d c)) (ev m (i + 1)) (T.passing S d perform ev m i 0) at_once
    act-passes (A.When e x) c = value_passes (M.eval_at S d c.store e) x (λ v. T.when_worth S d perform ev m i x v c) (λ v. when_done S d perform ev i x v c) (λ v. when-passes x v c)
    act-passes (A.Choose e n x) c =
        value_passes (M.eval_at S d c.store e) x (λ v. T.choose_worth S d perform ev m i n x v c) (λ v. choose_done S d perform ev n i x v c) (λ v. choose-passes n x v c)
    act-passes (A.Arm x) c = refl
    act-passes A.Broken c = refl

    abbrev plains : List ℕ
    plains = 0 ∷ 1 ∷ 2 ∷ 4 ∷ 5 ∷ 6 ∷ 9 ∷ 10 ∷ []

    -- Neither an operation nor a conditional.
    pub one-simple : (a : Action) (c : T.Doing X) → OneOf plains (tag_of the_type a)
        → simple_done S d (meant a) c ≡ one_done S d perform ev i (meant a) c
    unfolding simple_done
    one-simple (A.Store k l r) c o = refl
    one-simple (A.StorePair k l n r) c o = refl
    one-simple (A.Set l) c o = refl
    one-simple (A.Perform n) c o = absurd (miss plains 3 tt o)
    one-simple (A.Goto s) c o = refl
    one-simple (A.Call s) c o = refl
    one-simple A.Return c o = refl
    one-simple (A.When e x) c o = absurd (miss plains 7 tt o)
    one-simple (A.Choose e n x) c o = absurd (miss plains 8 tt o)
    one-simple (A.Arm x) c o = refl
    one-simple A.Broken c o = refl

-- ---- Operations.

module _ {X : Type 0} (S : M.Stores X) (d : Description) where
  pub operation-known : (k o : ℕ) (c : T.Doing X) → o < k → T.operation_below S d k o c ≡ T.run_list S d (T.operation_below S d o) (operation_at d o).body c
  unfolding T.operation_below
  operation-known k o c h = ap (λ (f : T.Doing X → T.Ran X). f c) (below-lt (λ c. T.stuck M.no_operation) (T.operation_step S d) k o h)

  pub operation-unknown : (k o : ℕ) (c : T.Doing X) → k ≤ o → T.operation_below S d k o c ≡ T.stuck M.no_operation
  unfolding T.operation_below
  operation-unknown k o c h = ap (λ (f : T.Doing X → T.Ran X). f c) (below-ge (λ c. T.stuck M.no_operation) (T.operation_step S d) k o h)

-- ---- What is seen of a run that goes on.

-- Where a view was gone to, there is a doing that is seen so.
pub record Gone (r : T.Ran InBytes) (v : View) : Type 0 where
  pub doing : T.Doing InBytes
  pub is : r ≡ T.went doing
  pub seen : v ≡ seen doing

pub gone : (r : T.Ran InBytes) (v : View) → went v ≡ ran_seen r → Gone r v
gone (T.went c) v e = record { doing = c; is = refl; seen = cc }
gone (T.stopped n) v e = absurd (let z : ◌≡◌ {A = ℕ} 0 1 = cc in omega arith)
gone (T.stuck s) v e = absurd (let z : ◌≡◌ {A = ℕ} 0 1 = cc in omega arith)

stays-stopped : (r : T.Ran InBytes) (on : T.Doing InBytes → T.Ran InBytes) (n : Stop) → stopped n ≡ ran_seen r → stopped n ≡ ran_seen (T.onward r on)
stays-stopped (T.went c) on n e = absurd (let z : ◌≡◌ {A = ℕ} 0 1 = cc in omega arith)
stays-stopped (T.stopped m) on n e = e
stays-stopped (T.stuck s) on n e = e

stays-stuck : (r : T.Ran InBytes) (on : T.Doing InBytes → T.Ran InBytes) (s : M.Stuck) → stuck s ≡ ran_seen r → stuck s ≡ ran_seen (T.onward r on)
stays-stuck (T.went c) on s e = absurd (let z : ◌≡◌ {A = ℕ} 0 1 = cc in omega arith)
stays-stuck (T.stopped m) on s e = e
stays-stuck (T.stuck t) on s e = e

-- A halt stays so, whatever was to follow.
stays : (h : Halted) (x : T.Ran InBytes) (on : T.Doing InBytes → T.Ran InBytes) → halted h ≡ ran_seen x → halted h ≡ ran_seen (T.onward x on)
stays (U.Stopped n) x on f = stays-stopped x on n f
stays (U.Stuck s) x on f = stays-stuck x on (stuck_meant s) f

-- ---- A list's records one after another: what is left gives the same as the whole.

abbrev performs : Description → ℕ → ℕ → T.Doing InBytes → T.Ran InBytes
performs d limit = T.operation_below (bytes d) d limit

-- From a doing that is seen as v, `left` records from i on come to w.
pub record Continues (d : Description) (limit : ℕ) (w : Ran) (v : View) (i left : ℕ) : Type 0 where
  pub doing : T.Doing InBytes
  pub seen : v ≡ seen doing
  pub rest : ran_seen (run_below d limit (run_of i left) doing) ≡ w

module _ (d : Description) (limit : ℕ) (w : Ran) (v : View) (i m left : ℕ) (e : left ≡ suc m) (k : Continues d limit w v i left) where
  abbrev ahead : ℕ → ℕ → T.Doing InBytes → T.Ran InBytes
  ahead = T.list_below (bytes d) d (performs d limit) (suc m)

  abbrev acted : D.Action → T.Ran InBytes
  acted a = one_done (bytes d) d (performs d limit) ahead i a k.doing

  -- A number that names no record.
  pub past_all : action_at d i ≡ D.Action.broken → stuck M.wrong_record ≡ w
  unfolding T.list_act
  past_all b =
      ap ran_seen (sym (run-some (bytes d) d (performs d limit) m i k.doing ∙ ap (λ (y : D.Action). T.list_act (bytes d) d (performs d limit) ahead m i y k.doing) b))
      ∙ (ap (λ (n : ℕ). ran_seen (run_below d limit (run_of i n) k.doing)) (sym e) ∙ k.rest)

  module _ (a : Action) (q : action_at d i ≡ meant a) where
    onwards : run_below d limit (run_of i left) k.doing ≡ T.onward (acted (meant a)) (T.passing (bytes d) d (performs d limit) ahead m i (passed_of a))
    onwards =
        ap (λ (n : ℕ). run_below d limit (run_of i n) k.doing) e
        ∙ (run-some (bytes d) d (performs d limit) m i k.doing
        ∙ (ap (λ (y : D.Action). T.list_act (bytes d) d (performs d limit) ahead m i y k.doing) q ∙ act-passes (bytes d) d (performs d limit) ahead m i a k.doing))

    -- An action that stops or is stuck ends the list.
    pub ends : (h : Halted) → halted h ≡ ran_seen (acted (meant a)) → halted h ≡ w
    ends h f = stays h (acted (meant a)) (T.passing (bytes d) d (performs d limit) ahead m i (passed_of a)) f ∙ (ap ran_seen (sym onwards) ∙ k.rest)

    -- A list that the action comes to is executed first, and then what follows the action.
    pub goes-inside : (l : Nested) (over : ℕ) → over ≡ passed_of a → nested_done d l k.doing ≡ acted (meant a)
        → ran_seen (T.onward (nested_done d l k.doing) (over_done d limit (i + 1) m over)) ≡ w
    goes-inside l over o f =
        ap (λ (r : T.Ran InBytes). ran_seen (T.onward r (over_done d limit (i + 1) m over))) f
        ∙ (ap (λ (x : ℕ). ran_seen (T.onward (acted (meant a)) (over_done d limit (i + 1) m x))) o
        ∙ (ap ran_seen (on_same (bytes d) d (performs d limit) ahead m i (acted (meant a)) (over_done d limit (i + 1) m (passed_of a)) (T.passing (bytes d) d (performs d limit) ahead m i (passed_of a)) over-passes)
        ∙ (ap ran_seen (sym onwards) ∙ k.rest)))
      where
        over-passes : (c : T.Doing InBytes) → over_done d limit (i + 1) m (passed_of a) c ≡ T.passing (bytes d) d (performs d limit) ahead m i (passed_of a) c
        over-passes c =
            ap (λ (r : T.Ran InBytes). cond (leb (passed_of a) m) r (T.stuck M.runs_over))
            (sym (run-below (bytes d) d (performs d limit) (suc m) (m - passed_of a) (i + 1 + passed_of a) c (omega arith)))

    module _ (u : View) (f : went u ≡ ran_seen (acted (meant a))) where
      after : Gone (acted (meant a)) u
      after = gone (acted (meant a)) u f

      goes_on : run_below d limit (run_of i left) k.doing ≡ T.passing (bytes d) d (performs d limit) ahead m i (passed_of a) after.doing
      goes_on = onwards ∙ ap (λ (r : T.Ran InBytes). T.onward r (T.passing (bytes d) d (performs d limit) ahead m i (passed_of a))) after.is

      -- It passes over more records than there are.
      pub runs-over : m < passed_of a → stuck M.runs_over ≡ w
      runs-over h = ap ran_seen (sym (goes_on ∙ passes_over (bytes d) d (performs d limit) ahead m i (passed_of a) after.doing h)) ∙ k.rest

      pub continues : passed_of a ≤ m → Continues d limit w u (i + 1 + passed_of a) (m - passed_of a)
      continues h = record {
        doing = after.doing;
        seen = after.seen;
        rest =
            ap ran_seen
            (sym (goes_on
            ∙ (passes (bytes d) d (performs d limit) ahead m i (passed_of a) after.doing h
            ∙ run-below (bytes d) d (performs d limit) (suc m) (m - passed_of a) (i + 1 + passed_of a) after.doing (omega arith))))
            ∙ k.rest;
      }

-- Where none are passed over, the whole list.
pub over_none : (d : Description) (limit first count : ℕ) (c : T.Doing InBytes) → over_done d limit first count 0 c ≡ run_below d limit (run_of first count) c
over_none d limit first count c =
    let e : count - 0 ≡ count = omega arith in
    let f : first + 0 ≡ first = omega arith in
    rw (le-leb 0 count (omega arith), e, f) refl

-- ---- After the list that an action holds.

-- From a doing that is seen as v, so many records from `at` on, of which so many are passed over, come to w.
pub record Onwards (d : Description) (limit at left over : ℕ) (v : View) (w : Ran) : Type 0 where
  pub doing : T.Doing InBytes
  pub seen : v ≡ seen doing
  pub rest : ran_seen (over_done d limit at left over doing) ≡ w

module _ (d : Description) (limit : ℕ) (s : Held) (v : View) (w : Ran) (k : Stands d limit s v w) where
  abbrev within : T.Ran InBytes
  within = nested_done d s.list k.doing

  pub held-ends : (h : Halted) → halted h ≡ ran_seen within → halted h ≡ w
  held-ends h f = stays h within (over_done d limit s.at s.left s.over) f ∙ k.rest

  pub held-goes-on : (u : View) → went u ≡ ran_seen within → Onwards d limit s.at s.left s.over u w
  held-goes-on u f =
      let g = gone within u f in
      record {
        doing = g.doing;
        seen = g.seen;
        rest = ap (λ (r : T.Ran InBytes). ran_seen (T.onward r (over_done d limit s.at s.left s.over))) (sym g.is) ∙ k.rest;
      }
