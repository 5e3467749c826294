-- Actions by their sections, and one action apart from those that follow it.
use Rattle.std.specs.Prelude.{cond, Err, List, None, Ok, Result, Some, ◌≡◌, ℕ, suc, ◌+◌, ◌-◌, ◌*◌, ◌/◌, ◌^◌, ◌≤◌, ◌<◌, eqb, leb, length}
use Rattle.std.specs.Prelude as Std
use Rattle.std.proofs.Math.Option.{Option, none, some}
use Rattle.language.specs.Acting as T
use Rattle.language.specs.Decode.{action_of}
use Rattle.language.specs.Description as D
use Rattle.language.specs.Description.{Description, action_at, operation_at}
use Rattle.language.specs.Meaning as M
use Rattle.language.specs.Tree.{Name}
use Rattle.language.specs.Value.{Value}
use Rattle.image_records.specs.declared.actions.Action.{Action}
use Rattle.image_records.specs.declared.actions.Action.TheVariants as A
use Rattle.image_sections.specs.Declarations.{operation_in}
use Rattle.language.specs.Encode.{action_size, state_size}
use Rattle.image_sections.specs.declared.sections.Sections.{Sections}
use Rattle.run_references.specs.Described.{Describes}
use Rattle.run_references.specs.declared.worth.Halted.{Halted}
use Rattle.run_references.specs.declared.worth.Halted.TheVariants as U
use Rattle.run_references.specs.Worth.{stuck_meant}
use Rattle.store_layout.specs.InBytes.{InBytes, bytes}
use Rattle.run_stores.specs.Seen.{ForDoing, Ran, View, ran_seen, seen, viewed, went}
use Rattle.run_stores.specs.declared.doing.Doing.{Doing}
use Rattle.run_actions.specs.declared.reach.Came.{Came}
use Rattle.run_actions.specs.declared.reach.Came.TheVariants as C
use Rattle.run_actions.specs.declared.reach.Held.{Held}
use Rattle.run_actions.specs.declared.reach.Reached.{Reached}
use Rattle.run_actions.specs.declared.reach.Reached.TheVariants as H
use Rattle.run_actions.specs.declared.ways.Nested.{Nested}

-- ---- Sections.

-- The actions of d are those of the section S.
abbrev pub Actions : Description → List ℕ → Type 0
Actions d S = (n : ℕ) → action_at d n ≡ action_of S n

-- Operation n of d is the one of the section O, under some name.
pub record OperationOf (d : Description) (O : List ℕ) (n : ℕ) : Type 0 where
  pub name : Name
  pub is : operation_at d n ≡ operation_in O n name

-- The sections of facilities, operations, expressions and actions describe d, which has so many states.
pub record Acts (d : Description) (F O E S : List ℕ) (states : ℕ) : Type 0 where
  pub described : Describes d F E
  pub actions : Actions d S
  pub operations : (n : ℕ) → OperationOf d O n
  pub state_count : length d.states ≡ states

-- The sections of an image, but for its states, describe d, which has so many states.
abbrev pub ActsOf : Description → Sections → ℕ → Type 0
ActsOf d x states = Acts d x.facilities.now x.operations.now x.expressions.now x.actions.now states

-- The same, with as many states as the image's section has.
abbrev pub ActsIn : Description → Sections → Type 0
ActsIn d x = ActsOf d x (length x.states.now / state_size)

-- A claim about each description with so many states by the sections of an image, and each doing that is seen as this view.
abbrev pub ForActs : Sections → ℕ → View → (Description → T.Doing InBytes → Type 0) → Type 0
ForActs x states v claim = (d : Description) (c : T.Doing InBytes) → ActsOf d x states → v ≡ seen c → claim d c

-- The same, where no more than the sections of facilities and expressions has to be known.
abbrev pub ForStores : Sections → View → (Description → T.Doing InBytes → Type 0) → Type 0
ForStores x v claim = ForDoing x.facilities.now x.expressions.now v claim

-- ---- Arms.

-- An arm that is found is a record of the section, of n bytes.
abbrev pub Within : ℕ → ℕ → Std.Option ℕ → Type 0
Within i n (Some x) = i < n / action_size
Within i n None = Unit {0}

abbrev pub run_of : ℕ → ℕ → D.Run
run_of i k = record { first = i; count = k }

abbrev pub arm_meant : Std.Option (ℕ × ℕ) → Option D.Run
arm_meant (Some a) = some (run_of a.0 a.1)
arm_meant None = none

-- ---- One action, and then those after the records that it passes over.

abbrev pub passed_of : Action → ℕ
passed_of (A.Store k l r) = 0
passed_of (A.StorePair k l m r) = 0
passed_of (A.Set l) = 0
passed_of (A.Perform o) = 0
passed_of (A.Goto s) = 0
passed_of (A.Call s) = 0
passed_of A.Return = 0
passed_of (A.When e x) = x
passed_of (A.Choose e n x) = x
passed_of (A.Arm x) = 0
passed_of A.Broken = 0

module _ {X : Type 0} (S : M.Stores X) (d : Description) where
  -- What an action that holds no others does.
  unfoldable pub simple_done : D.Action → T.Doing X → T.Ran X
  simple_done (D.store k l r) c = T.store_to S d k l r c
  simple_done (D.store_pair k l m r) c = T.store_to_pair S d k l m r c
  simple_done (D.set l) c = T.on_place (T.side S d c.store l) (λ p. T.setting S d p c)
  simple_done (D.perform o) c = T.stuck M.wrong_record
  simple_done (D.goto s) c = T.to_state S d s (T.going_to S d) c
  simple_done (D.call s) c = T.to_state S d s (T.calling S d) c
  simple_done D.return c = T.went (T.returning S d c)
  simple_done (D.when e x) c = T.stuck M.wrong_record
  simple_done (D.choose e n x) c = T.stuck M.wrong_record
  simple_done (D.arm x) c = T.stuck M.wrong_record
  simple_done D.Action.broken c = T.stuck M.wrong_record

module _ {X : Type 0} (S : M.Stores X) (d : Description) (perform : ℕ → T.Doing X → T.Ran X) (ev : ℕ → ℕ → T.Doing X → T.Ran X) where
  abbrev pub arm_done : Option D.Run → T.Doing X → T.Ran X
  arm_done none c = T.stuck M.missing_arm
  arm_done (some r) c = ev r.count r.first c

  abbrev pub when_done : ℕ → ℕ → Value → T.Doing X → T.Ran X
  when_done i x v c =
      cond (eqb v.length 1) (cond (eqb v.number 0) (T.went c) (arm_done (T.arm_at d 0 (i + 1) x) c)) (T.stuck M.not_one_bit)

  abbrev pub chosen_done : ℕ → ℕ → Option ℕ → T.Doing X → T.Ran X
  chosen_done i x none c = T.stuck M.no_arm
  chosen_done i x (some k) c = arm_done (T.arm_at d (k - 1) (i + 1) x) c

  abbrev pub choose_done : ℕ → ℕ → ℕ → Value → T.Doing X → T.Ran X
  choose_done n i x v c = cond (M.decides n v) (chosen_done i x (M.arm_number n v.number) c) (T.stuck M.not_one_bit)

  -- What the action at record i does.
  abbrev pub one_done : ℕ → D.Action → T.Doing X → T.Ran X
  one_done i (D.store k l r) c = T.store_to S d k l r c
  one_done i (D.store_pair k l m r) c = T.store_to_pair S d k l m r c
  one_done i (D.set l) c = T.on_place (T.side S d c.store l) (λ p. T.setting S d p c)
  one_done i (D.perform o) c = perform o c
  one_done i (D.goto s) c = T.to_state S d s (T.going_to S d) c
  one_done i (D.call s) c = T.to_state S d s (T.calling S d) c
  one_done i D.return c = T.went (T.returning S d c)
  one_done i (D.when e x) c = T.on_value (M.eval_at S d c.store e) (λ v. when_done i x v c)
  one_done i (D.choose e n x) c = T.on_value (M.eval_at S d c.store e) (λ v. choose_done n i x v c)
  one_done i (D.arm x) c = T.stuck M.wrong_record
  one_done i D.Action.broken c = T.stuck M.wrong_record

-- ---- Lists that actions hold, with the operations below a number.

abbrev pub run_below : Description → ℕ → D.Run → T.Doing InBytes → T.Ran InBytes
run_below d limit r c = T.run_list (bytes d) d (T.operation_below (bytes d) d limit) r c

-- Of a list's records so many are passed over.
abbrev pub over_done : Description → ℕ → ℕ → ℕ → ℕ → T.Doing InBytes → T.Ran InBytes
over_done d limit first count over c = cond (leb over count) (run_below d limit (run_of (first + over) (count - over)) c) (T.stuck M.runs_over)

abbrev pub nested_done : Description → Nested → T.Doing InBytes → T.Ran InBytes
nested_done d l c = run_below d l.below (run_of l.first l.count) c

-- The list that an action goes on with, if it takes one.
abbrev pub taken_done : Description → Std.Option Nested → T.Doing InBytes → T.Ran InBytes
taken_done d (Some l) c = nested_done d l c
taken_done d None c = T.went c

abbrev pub halted_done : Halted → T.Ran InBytes
halted_done (U.Stopped n) = T.stopped n
halted_done (U.Stuck s) = T.stuck (stuck_meant s)

abbrev pub way_done : Description → Result (Std.Option Nested) Halted → T.Doing InBytes → T.Ran InBytes
way_done d (Ok w) c = taken_done d w c
way_done d (Err h) c = halted_done h

-- An action comes to this: it is done, or it comes to it by a list that is still to be executed from where the action stood.
abbrev pub Comes : Description → Doing → T.Doing InBytes → Came → List ℕ → List ℕ → List ℕ → T.Ran InBytes → Type 0
Comes d g c (C.Into l) B P M r = (viewed g B P M ≡ seen c) × (nested_done d l c ≡ r)
Comes d g c (C.Done h) B P M r = went (viewed h B P M) ≡ ran_seen r

-- The list held, and then the records after the action.
abbrev pub rest_of : Description → ℕ → Held → T.Doing InBytes → T.Ran InBytes
rest_of d limit s c = T.onward (nested_done d s.list c) (over_done d limit s.at s.left s.over)

-- From a doing that is seen as v, what is left comes to w.
pub record Stands (d : Description) (limit : ℕ) (s : Held) (v : View) (w : Ran) : Type 0 where
  pub doing : T.Doing InBytes
  pub seen : v ≡ seen doing
  pub rest : ran_seen (rest_of d limit s doing) ≡ w

abbrev pub Reaches : Description → ℕ → Reached → List ℕ → List ℕ → List ℕ → Ran → Type 0
Reaches d limit (H.Inside s) B P M w = Stands d limit s (viewed s.doing B P M) w
Reaches d limit (H.Ended g) B P M w = went (viewed g B P M) ≡ w

-- ---- How many operations may still be named, and then how many records are left: this number falls.

abbrev pub rank : ℕ → ℕ → ℕ
rank limit left = 65536 * limit + left

abbrev pub TakenFalls : ℕ → ℕ → Std.Option Nested → Type 0
TakenFalls limit m (Some l) = rank l.below l.count ≤ rank limit m
TakenFalls limit m None = Unit {0}

abbrev pub CameFalls : ℕ → ℕ → Came → Type 0
CameFalls limit m (C.Into l) = rank l.below l.count ≤ rank limit m
CameFalls limit m (C.Done g) = Unit {0}

-- The number of the record after those passed over is one of 64 bits.
abbrev pub HeldFalls : ℕ → Reached → Type 0
HeldFalls limit (H.Inside s) = (rank s.list.below s.list.count ≤ rank limit s.left) × (s.at + s.over < 2 ^ 64)
HeldFalls limit (H.Ended r) = Unit {0}

abbrev pub left_of : Reached → ℕ
left_of (H.Inside s) = suc s.left
left_of (H.Ended r) = 0
