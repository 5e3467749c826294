-- Actions: sides of a store (refusals 7 and 8), names of operations and states (4), conditionals (7), and their work.
use Rattle.std.specs.Prelude.{Bool, true, false, cond, ◌++◌, ℕ, ◌+◌, ◌-◌, eqb, leb, ltb, length}
use Rattle.std.proofs.Math.Option.{Option, none, some}
use Rattle.language.specs.Description as D
use Rattle.language.specs.Description.{Action, Description, Places, Run, action_at, action_place, facility_at, node_at, operation_at, state_at}
use Rattle.language.specs.Expressions.{expression_at, left_at, own_work, selects, terminal_below}
use Rattle.language.specs.Judging.{Judged, Worth, given, given_both, or_faulty, refuse, unless, worth}
use Rattle.language.specs.Recursion.{below}
use Rattle.language.specs.References.{Reference, reference_of}
use Rattle.language.specs.declared.refusals.Refusal.TheVariants.{BadLength, BadName, BadStore, NoContinuation}
use Rattle.language.specs.Storing.{is_plain, may_store}
use Rattle.language.specs.Tree.{Kind, computed}
use Rattle.language.specs.Words.{Position}
use Rattle.language.specs.Tests.{both}

abbrev pub kind_named : Description → Option Reference → Kind
kind_named d none = computed
kind_named d (some r) = (facility_at d r.facility).kind

-- The kind of the facility that a record refers to.
unfoldable pub kind_at : Description → ℕ → Kind
kind_at d n = kind_named d (reference_of (node_at d n))

-- A list of actions, or a list of arms.
pub data Shape : Type 0 where
  actions arms : Shape

-- Actions of an operation or of a state; `works` gives the work of an operation that may be named.
module _ (d : Description) (p : Places) (in_state : Bool) (works : ℕ → Judged) where
  abbrev pub everything : ℕ
  everything = length d.facilities

  abbrev pub side : ℕ → Judged
  side n = left_at d p (terminal_below d p everything) everything n

  abbrev pub right : ℕ → Judged
  right n = expression_at d p (terminal_below d p everything) everything n

  abbrev pub stored : Bool → Position → Worth → Worth → Judged
  stored allowed at v w =
      or_faulty (unless (eqb v.length w.length) at BadLength ++ unless allowed at BadStore) (worth 1 0 (own_work + v.work + w.work))

  -- Two references on the left have their lengths together.
  abbrev pub sides : ℕ → ℕ → Judged
  sides l m = given_both (side l) (side m) (λ v w. worth (v.length + w.length) 0 (v.work + w.work))

  -- Stores stand only in operations, ->, => and RETURN only in states.
  abbrev pub only_in : Bool → Position → Judged → Judged
  only_in true at j = j
  only_in false at j = refuse at NoContinuation

  abbrev pub not_in_state : Bool
  not_in_state = cond in_state false true

  -- A state is gone to by its name, so an unnamed one is not.
  abbrev pub to_state : Position → ℕ → Judged
  to_state at s = cond (ltb 0 (length (state_at d s).name)) (worth 1 0 own_work) (refuse at BadName)

  unfoldable pub simple_judged : Position → Action → Judged
  simple_judged at (D.store k l r) = only_in not_in_state at (given_both (side l) (right r) (stored (may_store k (kind_at d l)) at))
  simple_judged at (D.store_pair k l m r) =
      only_in not_in_state at (given_both (sides l m) (right r) (stored (both (may_store k (kind_at d l)) (may_store k (kind_at d m))) at))
  simple_judged at (D.set l) =
      given (side l) (λ v. or_faulty (unless (both (is_plain (kind_at d l)) (eqb v.length 1)) at BadStore) (worth 1 0 (own_work + v.work)))
  simple_judged at (D.perform o) = given (works o) (λ v. worth 1 0 (own_work + v.work))
  simple_judged at (D.goto s) = only_in in_state at (to_state at s)
  simple_judged at (D.call s) = only_in in_state at (to_state at s)
  simple_judged at D.return = only_in in_state at (worth 1 0 own_work)
  simple_judged at (D.when c x) = refuse at NoContinuation
  simple_judged at (D.choose c n x) = refuse at NoContinuation
  simple_judged at (D.arm x) = refuse at NoContinuation
  simple_judged at D.Action.broken = refuse at BadName

  abbrev pub all_work : Worth → Worth → Judged
  all_work v w = worth 1 0 (v.work + w.work)

  -- IF without ELSE takes one bit; any other conditional as many arms as its condition selects.
  abbrev pub conditional : Position → Judged → Judged → (Worth → Worth → Bool) → Judged
  conditional at c a right = given_both c a (λ v w. cond (right v w) (worth 1 0 (own_work + v.work + w.work)) (refuse at BadLength))

  -- k records from i on, where `ev` judges fewer.
  module _ (ev : ℕ → ℕ → Shape → Judged) (m i : ℕ) where
    -- x records that belong to the record i, and the list after them.
    abbrev pub holding : ℕ → Judged → Judged
    holding x j = cond (leb x m) (given_both j (ev (m - x) (i + 1 + x) actions) all_work) (refuse D.nowhere NoContinuation)

    abbrev pub plainly : Judged
    plainly = given_both (simple_judged (action_place p i) (action_at d i)) (ev m (i + 1) actions) all_work

    unfoldable pub list_judged : Action → Judged
    list_judged (D.store k l r) = plainly
    list_judged (D.store_pair k l n r) = plainly
    list_judged (D.set l) = plainly
    list_judged (D.perform o) = plainly
    list_judged (D.goto s) = plainly
    list_judged (D.call s) = plainly
    list_judged D.return = plainly
    list_judged (D.when c x) =
        holding x (conditional (action_place p i) (right c) (ev x (i + 1) arms) (λ v w. both (eqb v.length 1) (eqb w.arms 1)))
    list_judged (D.choose c n x) =
        holding x (conditional (action_place p i) (right c) (ev x (i + 1) arms) (λ v w. both (selects v.length n) (eqb w.arms n)))
    list_judged (D.arm x) = plainly
    list_judged D.Action.broken = plainly

    -- An arm has at least one action.
    abbrev pub arm_after : ℕ → Judged
    arm_after x =
        cond (both (leb 1 x) (leb x m))
        (given_both (ev x (i + 1) actions) (ev (m - x) (i + 1 + x) arms) (λ v w. worth 1 (w.arms + 1) (v.work + w.work)))
        (refuse D.nowhere NoContinuation)

    unfoldable pub arms_judged : Action → Judged
    arms_judged (D.store k l r) = refuse D.nowhere NoContinuation
    arms_judged (D.store_pair k l n r) = refuse D.nowhere NoContinuation
    arms_judged (D.set l) = refuse D.nowhere NoContinuation
    arms_judged (D.perform o) = refuse D.nowhere NoContinuation
    arms_judged (D.goto s) = refuse D.nowhere NoContinuation
    arms_judged (D.call s) = refuse D.nowhere NoContinuation
    arms_judged D.return = refuse D.nowhere NoContinuation
    arms_judged (D.when c x) = refuse D.nowhere NoContinuation
    arms_judged (D.choose c n x) = refuse D.nowhere NoContinuation
    arms_judged (D.arm x) = arm_after x
    arms_judged D.Action.broken = refuse D.nowhere NoContinuation

  abbrev pub shaped : (ℕ → ℕ → Shape → Judged) → ℕ → ℕ → Shape → Judged
  shaped ev m i actions = list_judged ev m i (action_at d i)
  shaped ev m i arms = arms_judged ev m i (action_at d i)

  abbrev pub run_step : (ℕ → ℕ → Shape → Judged) → ℕ → ℕ → Shape → Judged
  run_step ev k i s = cond (eqb k 0) (worth 1 0 0) (shaped ev (k - 1) i s)

  unfoldable pub run_below : ℕ → ℕ → ℕ → Shape → Judged
  run_below = below (λ i s. refuse D.nowhere NoContinuation) run_step

  -- A list of actions, by its run of records.
  unfoldable pub run_judged : Run → Judged
  run_judged r = run_step (run_below r.count) r.count r.first actions

-- ---- Operations: each names only earlier ones, and has at least one action.

module _ (d : Description) (p : Places) where
  abbrev pub operation_step : (ℕ → Judged) → ℕ → Judged
  operation_step ev o =
      let body = (operation_at d o).body in
      cond (eqb body.count 0) (refuse D.nowhere NoContinuation) (run_judged d p false ev body)

  -- A name of an operation that is not known yet.
  abbrev pub unknown_operation : Judged
  unknown_operation = refuse D.nowhere BadName

  unfoldable pub operation_below : ℕ → ℕ → Judged
  operation_below = below unknown_operation operation_step

  unfoldable pub operation_judged : ℕ → Judged
  operation_judged o = operation_step (operation_below o) o
