-- What actions do (01, "One cycle"; the manual, 7 and 8), over any store. `=` and `@` land at once, `<-` fixes its place and value; only a conditional's chosen arm is executed.
use Rattle.std.specs.Prelude.{Bool, false, cond, ◌||◌, List, [], ◌∷◌, ◌++◌, ℕ, zero, suc, ◌+◌, ◌-◌, ◌/◌, ◌%◌, ◌^◌, eqb, leb, ltb, length}
use Rattle.std.proofs.Math.Option.{Option, none, some}
use Rattle.language.specs.Description as D
use Rattle.language.specs.Description.{Action, Description, Run, action_at, facility_at, is_sequencing, node_at, operation_at}
use Rattle.language.specs.Kinds.{delayed_sign}
use Rattle.language.specs.Meaning.{Answer, Located, Place, Stores, Stuck, Write, arm_number, decides, eval_at, eval_below, is, missing_arm, no_arm, no_operation, no_state, not_one_bit, not_storable, place_of, runs_over, sides_differ, stops, wrong_record}
use Rattle.language.specs.Recursion.{below}
use Rattle.language.specs.References.{Reference, reference_of}
use Rattle.language.specs.declared.stops.Stop.{Stop}
use Rattle.language.specs.Storing.{is_plain, may_store}
use Rattle.language.specs.Value.{Value}

-- What a cycle has done so far: the store; the states gone to by ->; how many RETURNs; the states called by =>; whether a delayed store went to the sequencing register.
pub record Doing (X : Type 0) : Type 0 where
  pub store : X
  pub gotos : List ℕ
  pub returns : ℕ
  pub calls : List ℕ
  pub sequenced : Bool

pub data Ran (X : Type 0) : Type 0 where
  went : Doing X → Ran X
  stopped : Stop → Ran X
  stuck : Stuck → Ran X

abbrev pub onward : {X : Type 0} → Ran X → (Doing X → Ran X) → Ran X
onward (went c) on = on c
onward (stopped n) on = stopped n
onward (stuck s) on = stuck s

abbrev pub on_value : {X : Type 0} → Answer → (Value → Ran X) → Ran X
on_value (is v) on = on v
on_value (stops n) on = stopped n
on_value (Answer.stuck s) on = stuck s

abbrev pub on_place : {X : Type 0} → Located → (Place → Ran X) → Ran X
on_place (Located.at p) on = on p
on_place (Located.stops n) on = stopped n
on_place (Located.stuck s) on = stuck s

-- ---- Arms.

-- How many actions an arm's record holds.
abbrev pub arm_size : Action → Option ℕ
arm_size (D.store k l r) = none
arm_size (D.store_pair k l m r) = none
arm_size (D.set l) = none
arm_size (D.perform o) = none
arm_size (D.goto s) = none
arm_size (D.call s) = none
arm_size D.return = none
arm_size (D.when e x) = none
arm_size (D.choose e n x) = none
arm_size (D.arm x) = some x
arm_size D.Action.broken = none

-- Past the arm of record i to what comes after it, and the arm itself, where m records are left and the arm is one of them.
abbrev pub arm_or : ℕ → ℕ → (ℕ → ℕ → Option Run) → Option ℕ → Option Run
arm_or i m on none = none
arm_or i m on (some x) = cond (ltb x m) (on (i + 1 + x) (m - (x + 1))) none

abbrev pub arm_run : ℕ → ℕ → Option ℕ → Option Run
arm_run i m none = none
arm_run i m (some x) = cond (ltb x m) (some (record { first = i + 1; count = x })) none

-- The arm `back` arms after the one at record i, where m records are left: its first action's number and how many it has.
unfoldable pub arm_at : Description → ℕ → ℕ → ℕ → Option Run
arm_at d zero i m = arm_run i m (arm_size (action_at d i))
arm_at d (suc back) i m = arm_or i m (arm_at d back) (arm_size (action_at d i))

module _ {X : Type 0} (S : Stores X) (d : Description) where
  abbrev pub with_store : X → Bool → Doing X → Doing X
  with_store x q c = record { store = x; gotos = c.gotos; returns = c.returns; calls = c.calls; sequenced = c.sequenced || q }

  abbrev pub going_to : ℕ → Doing X → Doing X
  going_to s c = record { store = c.store; gotos = c.gotos ++ s ∷ []; returns = c.returns; calls = c.calls; sequenced = c.sequenced }

  abbrev pub calling : ℕ → Doing X → Doing X
  calling s c = record { store = c.store; gotos = c.gotos; returns = c.returns; calls = c.calls ++ s ∷ []; sequenced = c.sequenced }

  abbrev pub returning : Doing X → Doing X
  returning c = record { store = c.store; gotos = c.gotos; returns = suc c.returns; calls = c.calls; sequenced = c.sequenced }

  -- ---- Stores.

  abbrev pub side_of : Option Reference → X → ℕ → Located
  side_of none x n = Located.stuck wrong_record
  side_of (some r) x n = place_of d (eval_below S d x n) r

  -- The place that the left side at record n names.
  unfoldable pub side : X → ℕ → Located
  side x n = side_of (reference_of (node_at d n)) x n

  abbrev pub storable : ℕ → Place → Bool
  storable k p = may_store k (facility_at d p.facility).kind

  abbrev pub on_sequencing : Place → Bool
  on_sequencing p = is_sequencing (facility_at d p.facility).kind

  abbrev pub write : Place → ℕ → Write
  write p n = record { at = p; number = n }

  -- Writes that land at once, one after the other.
  unfoldable pub put_all : X → List Write → X
  put_all x [] = x
  put_all x (w ∷ ws) = put_all (S.put x w) ws

  unfoldable pub landing : ℕ → List Write → Bool → Doing X → Doing X
  landing k ws q c =
      cond (eqb k delayed_sign) (with_store (S.delay c.store ws) q c) (with_store (put_all c.store ws) false c)

  -- `bits` is how long the left side is.
  unfoldable pub storing : ℕ → ℕ → Bool → Bool → Value → List Write → Doing X → Ran X
  storing k bits allowed q v ws c =
      cond (eqb v.length bits) (cond allowed (went (landing k ws q c)) (stuck not_storable)) (stuck sides_differ)

  abbrev pub store_to : ℕ → ℕ → ℕ → Doing X → Ran X
  store_to k l r c =
      on_place (side c.store l) (λ p. on_value (eval_at S d c.store r) (λ v.
      storing k p.count (storable k p) (on_sequencing p) v (write p v.number ∷ []) c))

  -- The right one of two references takes the low bits and lands later.
  abbrev pub store_to_pair : ℕ → ℕ → ℕ → ℕ → Doing X → Ran X
  store_to_pair k l m r c =
      on_place (side c.store l) (λ p. on_place (side c.store m) (λ q. on_value (eval_at S d c.store r) (λ v.
      storing k (p.count + q.count) (cond (storable k p) (storable k q) false) (on_sequencing p || on_sequencing q) v
      (write p (v.number / 2 ^ q.count) ∷ write q (v.number % 2 ^ q.count) ∷ []) c)))

  -- @ sets one bit of a plain terminal.
  abbrev pub setting : Place → Doing X → Ran X
  setting p c =
      cond (is_plain (facility_at d p.facility).kind)
      (cond (eqb p.count 1) (went (with_store (S.put c.store (write p 1)) false c)) (stuck sides_differ))
      (stuck not_storable)

  abbrev pub to_state : ℕ → (ℕ → Doing X → Doing X) → Doing X → Ran X
  to_state s f c = cond (ltb s (length d.states)) (went (f s c)) (stuck no_state)

  -- ---- Lists: k records from i on. `ev` executes fewer.

  module _ (perform : ℕ → Doing X → Ran X) where
    module _ (ev : ℕ → ℕ → Doing X → Ran X) (m i : ℕ) where
      -- The conditional's x records are passed over.
      abbrev pub passing : ℕ → Doing X → Ran X
      passing x c = cond (leb x m) (ev (m - x) (i + 1 + x) c) (stuck runs_over)

      abbrev pub in_arm : ℕ → Option Run → Doing X → Ran X
      in_arm x none c = stuck missing_arm
      in_arm x (some r) c = onward (ev r.count r.first c) (passing x)

      abbrev pub arm_chosen : ℕ → Option ℕ → Doing X → Ran X
      arm_chosen x none c = stuck no_arm
      arm_chosen x (some k) c = in_arm x (arm_at d (k - 1) (i + 1) x) c

      -- IF without ELSE: one takes the arm, zero takes nothing.
      abbrev pub when_worth : ℕ → Value → Doing X → Ran X
      when_worth x v c =
          cond (eqb v.length 1) (cond (eqb v.number 0) (passing x c) (in_arm x (arm_at d 0 (i + 1) x) c)) (stuck not_one_bit)

      -- CASE, and IF with ELSE.
      abbrev pub choose_worth : ℕ → ℕ → Value → Doing X → Ran X
      choose_worth n x v c = cond (decides n v) (arm_chosen x (arm_number n v.number) c) (stuck not_one_bit)

      abbrev pub and_on : Ran X → Ran X
      and_on r = onward r (ev m (i + 1))

      unfoldable pub list_act : Action → Doing X → Ran X
      list_act (D.store k l r) c = and_on (store_to k l r c)
      list_act (D.store_pair k l n r) c = and_on (store_to_pair k l n r c)
      list_act (D.set l) c = and_on (on_place (side c.store l) (λ p. setting p c))
      list_act (D.perform o) c = and_on (perform o c)
      list_act (D.goto s) c = and_on (to_state s going_to c)
      list_act (D.call s) c = and_on (to_state s calling c)
      list_act D.return c = and_on (went (returning c))
      list_act (D.when e x) c = on_value (eval_at S d c.store e) (λ v. when_worth x v c)
      list_act (D.choose e n x) c = on_value (eval_at S d c.store e) (λ v. choose_worth n x v c)
      list_act (D.arm x) c = stuck wrong_record
      list_act D.Action.broken c = stuck wrong_record

    abbrev pub list_step : (ℕ → ℕ → Doing X → Ran X) → ℕ → ℕ → Doing X → Ran X
    list_step ev k i c =
        let here = list_act ev (k - 1) i (action_at d i) c in
        cond (eqb k 0) (went c) here

    unfoldable pub list_below : ℕ → ℕ → ℕ → Doing X → Ran X
    list_below = below (λ i c. stuck runs_over) list_step

    unfoldable pub run_list : Run → Doing X → Ran X
    run_list r c = list_step (list_below r.count) r.count r.first c

  -- ---- Operations name only earlier ones.

  abbrev pub operation_step : (ℕ → Doing X → Ran X) → ℕ → Doing X → Ran X
  operation_step ev o c = run_list ev (operation_at d o).body c

  unfoldable pub operation_below : ℕ → ℕ → Doing X → Ran X
  operation_below = below (λ c. stuck no_operation) operation_step

  -- The actions of a state know every operation.
  unfoldable pub run_actions : Run → Doing X → Ran X
  run_actions r c = run_list (operation_below (length d.operations)) r c
