-- Two stores that load, put and delay alike go through every list of actions alike. Assumes nothing.
use Rattle.std.specs.Prelude.{Bool, cond, ◌≡◌, eqb, leb}
use Rattle.std.proofs.Math.Bool.{true, false}
use Rattle.std.proofs.Math.Option.{Option, none, some}
use Rattle.std.proofs.Math.Path.{refl, ap}
use Rattle.std.proofs.Common.{arith}
use Prim.Native.Nat.{ℕ, zero, suc, ◌+◌, ◌-◌, ◌≤◌, ◌<◌}
use borrow.Author.Tests.{ltb-false, ltb-true}
use Rattle.std.proofs.Math.Dec.{ltb}
use Rattle.std.proofs.Math.ListN.{length}
use Rattle.language.specs.Acting.{Doing, Ran, arm_at, arm_chosen, choose_worth, in_arm, list_act, list_below, list_step, operation_below, operation_step, passing, run_actions, run_list, went, when_worth}
use Rattle.language.specs.Description as D
use Rattle.language.specs.Description.{Action, Description, Run, action_at, operation_at}
use Rattle.language.specs.Meaning.{Stores, arm_number, decides, no_operation, not_one_bit, runs_over}
use Rattle.language.specs.Recursion.{below-ge, below-lt}
use Rattle.language.specs.Value.{Value}
use Rattle.about_running.specs.OneAction.{plainly, simple}
use Rattle.about_running.specs.SameActions as Actions
use Rattle.about_running.specs.SameActions.{Joins}

module _ {X Y : Type 0} (S : Stores X) (T : Stores Y) (d : Description) (R : X → Y → Type 0) (joins : Joins S T d R) where
  abbrev pub Same : Doing X → Doing Y → Type 0
  Same = Actions.Same S T d R joins

  abbrev pub Alike : Ran X → Ran Y → Type 0
  Alike = Actions.Alike S T d R joins

  -- Alike from whatever is alike.
  abbrev Onward : (Doing X → Ran X) → (Doing Y → Ran Y) → Type 0
  Onward f g = (c : Doing X) (e : Doing Y) → Same c e → Alike (f c) (g e)

  module _ (perform : ℕ → Doing X → Ran X) (perform' : ℕ → Doing Y → Ran Y) (performs : (o : ℕ) → Onward (perform o) (perform' o)) where
    module _ (ev : ℕ → ℕ → Doing X → Ran X) (ev' : ℕ → ℕ → Doing Y → Ran Y) (evs : (k i : ℕ) → Onward (ev k i) (ev' k i)) (m i : ℕ) where
      passing-alike : (x : ℕ) → Onward (passing S d perform ev m i x) (passing T d perform' ev' m i x)
      passing-alike x c e h = go (leb x m)
        where
          go : (b : Bool) → Alike (cond b (ev (m - x) (i + 1 + x) c) (Ran.stuck runs_over)) (cond b (ev' (m - x) (i + 1 + x) e) (Ran.stuck runs_over))
          go true = evs (m - x) (i + 1 + x) c e h
          go false = Actions.stick

      arm-alike : (x : ℕ) (r : Option Run) → Onward (in_arm S d perform ev m i x r) (in_arm T d perform' ev' m i x r)
      arm-alike x none c e h = Actions.stick
      arm-alike x (some r) c e h = Actions.onward-alike S T d R joins _ _ (evs r.count r.first c e h) (passing-alike x)

      chosen-alike : (x : ℕ) (k : Option ℕ) → Onward (arm_chosen S d perform ev m i x k) (arm_chosen T d perform' ev' m i x k)
      chosen-alike x none c e h = Actions.stick
      chosen-alike x (some k) c e h = go (arm_at d (k - 1) (i + 1) x)
        where
          go : (r : Option Run) → Alike (in_arm S d perform ev m i x r c) (in_arm T d perform' ev' m i x r e)
          go r = arm-alike x r c e h

      when-alike : (x : ℕ) (v : Value) → Onward (when_worth S d perform ev m i x v) (when_worth T d perform' ev' m i x v)
      when-alike x v c e h = go (eqb v.length 1) (eqb v.number 0)
        where
          go : (a b : Bool) → Alike (cond a (cond b (passing S d perform ev m i x c) (in_arm S d perform ev m i x (arm_at d 0 (i + 1) x) c)) (Ran.stuck not_one_bit))
              (cond a (cond b (passing T d perform' ev' m i x e) (in_arm T d perform' ev' m i x (arm_at d 0 (i + 1) x) e)) (Ran.stuck not_one_bit))
          go true true = passing-alike x c e h
          go true false = arm-alike x (arm_at d 0 (i + 1) x) c e h
          go false b = Actions.stick

      choose-alike : (n x : ℕ) (v : Value) → Onward (choose_worth S d perform ev m i n x v) (choose_worth T d perform' ev' m i n x v)
      choose-alike n x v c e h = go (decides n v)
        where
          go : (b : Bool) → Alike (cond b (arm_chosen S d perform ev m i x (arm_number n v.number) c) (Ran.stuck not_one_bit)) (cond b (arm_chosen T d perform' ev' m i x (arm_number n v.number) e) (Ran.stuck not_one_bit))
          go true = chosen-alike x (arm_number n v.number) c e h
          go false = Actions.stick

      plainly-alike : (a : Action) → Onward (plainly S d perform ev m i a) (plainly T d perform' ev' m i a)
      plainly-alike a c e h =
          Actions.onward-alike S T d R joins _ _ (Actions.simple-alike S T d R joins c e h perform perform' (λ o. performs o c e h) a) (evs m (i + 1))

      act-alike : (a : Action) → Onward (list_act S d perform ev m i a) (list_act T d perform' ev' m i a)
      unfolding list_act simple
      act-alike (D.store k l r) c e h = plainly-alike (D.store k l r) c e h
      act-alike (D.store_pair k l n r) c e h = plainly-alike (D.store_pair k l n r) c e h
      act-alike (D.set l) c e h = plainly-alike (D.set l) c e h
      act-alike (D.perform o) c e h = plainly-alike (D.perform o) c e h
      act-alike (D.goto s) c e h = plainly-alike (D.goto s) c e h
      act-alike (D.call s) c e h = plainly-alike (D.call s) c e h
      act-alike D.return c e h = plainly-alike D.return c e h
      act-alike (D.when a x) c e h = Actions.value-alike S T d R joins _ _ (Actions.value-at S T d R joins c e h a) (λ v. when-alike x v c e h)
      act-alike (D.choose a n x) c e h = Actions.value-alike S T d R joins _ _ (Actions.value-at S T d R joins c e h a) (λ v. choose-alike n x v c e h)
      act-alike (D.arm x) c e h = Actions.stick
      act-alike D.Action.broken c e h = Actions.stick

    step-alike : (ev : ℕ → ℕ → Doing X → Ran X) (ev' : ℕ → ℕ → Doing Y → Ran Y) → ((k i : ℕ) → Onward (ev k i) (ev' k i)) → (k i : ℕ) → Onward (list_step S d perform ev k i) (list_step T d perform' ev' k i)
    step-alike ev ev' evs k i c e h = go (eqb k 0)
      where
        go : (b : Bool) → Alike (cond b (went c) (list_act S d perform ev (k - 1) i (action_at d i) c)) (cond b (went e) (list_act T d perform' ev' (k - 1) i (action_at d i) e))
        go true = Actions.go_on h
        go false = act-alike ev ev' evs (k - 1) i (action_at d i) c e h

    below_step : (n : ℕ) → ((m : ℕ) → m < n → (k i : ℕ) → Onward (list_below S d perform m k i) (list_below T d perform' m k i)) → (k i : ℕ) → Onward (list_below S d perform n k i) (list_below T d perform' n k i)
    unfolding list_below
    below_step n ih k i c e h = go (ltb k n) refl
      where
        go : (b : Bool) → ltb k n ≡ b → Alike (list_below S d perform n k i c) (list_below T d perform' n k i e)
        go true q =
            let l : k < n = ltb-true k n q in
            let s = ap (λ (f : ℕ → Doing X → Ran X). f i c) (below-lt (λ i c. Ran.stuck runs_over) (list_step S d perform) n k l) in
            let t = ap (λ (f : ℕ → Doing Y → Ran Y). f i e) (below-lt (λ i c. Ran.stuck runs_over) (list_step T d perform') n k l) in
            rw (s, t) (step-alike (list_below S d perform k) (list_below T d perform' k) (ih k l) k i c e h)
        go false q =
            let l : n ≤ k = ltb-false k n q in
            let s = ap (λ (f : ℕ → Doing X → Ran X). f i c) (below-ge (λ i c. Ran.stuck runs_over) (list_step S d perform) n k l) in
            let t = ap (λ (f : ℕ → Doing Y → Ran Y). f i e) (below-ge (λ i c. Ran.stuck runs_over) (list_step T d perform') n k l) in
            rw (s, t) Actions.stick

    below-under : (b n : ℕ) → n < b → (k i : ℕ) → Onward (list_below S d perform n k i) (list_below T d perform' n k i)
    below-under zero n h k i = absurd (omega arith)
    below-under (suc b) n h k i = below_step n (λ m l. below-under b m (omega arith)) k i

    pub list-alike : (r : Run) → Onward (run_list S d perform r) (run_list T d perform' r)
    unfolding run_list
    list-alike r c e h =
        step-alike (list_below S d perform r.count) (list_below T d perform' r.count) (below-under (suc r.count) r.count (omega arith)) r.count r.first c e h

  -- ---- Operations.

  operation-step : (n : ℕ) → ((m : ℕ) → m < n → (o : ℕ) → Onward (operation_below S d m o) (operation_below T d m o)) → (o : ℕ) → Onward (operation_below S d n o) (operation_below T d n o)
  unfolding operation_below
  operation-step n ih o c e h = go (ltb o n) refl
    where
      go : (b : Bool) → ltb o n ≡ b → Alike (operation_below S d n o c) (operation_below T d n o e)
      go true q =
          let l : o < n = ltb-true o n q in
          let s = ap (λ (f : Doing X → Ran X). f c) (below-lt (λ c. Ran.stuck no_operation) (operation_step S d) n o l) in
          let t = ap (λ (f : Doing Y → Ran Y). f e) (below-lt (λ c. Ran.stuck no_operation) (operation_step T d) n o l) in
          rw (s, t) (list-alike (operation_below S d o) (operation_below T d o) (ih o l) (operation_at d o).body c e h)
      go false q =
          let l : n ≤ o = ltb-false o n q in
          let s = ap (λ (f : Doing X → Ran X). f c) (below-ge (λ c. Ran.stuck no_operation) (operation_step S d) n o l) in
          let t = ap (λ (f : Doing Y → Ran Y). f e) (below-ge (λ c. Ran.stuck no_operation) (operation_step T d) n o l) in
          rw (s, t) Actions.stick

  operation-under : (b n : ℕ) → n < b → (o : ℕ) → Onward (operation_below S d n o) (operation_below T d n o)
  operation-under zero n h o = absurd (omega arith)
  operation-under (suc b) n h o = operation-step n (λ m l. operation-under b m (omega arith)) o

  -- A state's actions.
  pub actions-alike : (r : Run) → Onward (run_actions S d r) (run_actions T d r)
  unfolding run_actions
  actions-alike r =
      let n : ℕ = length d.operations in
      list-alike (operation_below S d n) (operation_below T d n) (operation-under (suc n) n (omega arith)) r
