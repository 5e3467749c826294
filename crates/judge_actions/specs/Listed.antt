-- What slices show of a description and its places, as far as lists of actions need it.
use Rattle.std.specs.Prelude.{Bool, true, false, cond, List, ◌≡◌, ℕ, ◌+◌, ◌/◌, ◌<◌, ◌≤◌, eqb, leb, drop, length, take, Option, None, Some}
use Rattle.image_sections.specs.Declarations.{name_length_in}
use Rattle.language.specs.ActionRules as A
use Rattle.language.specs.ActionRules.{actions, arms, run_below, run_step}
use Rattle.language.specs.Decode.{action_of, names_length}
use Rattle.language.specs.Description as D
use Rattle.language.specs.Description.{Description, Places, action_at, action_place, state_at}
use Rattle.language.specs.Encode.{facility_size, state_size}
use Rattle.language.specs.Expressions.{selects, terminal_below}
use Rattle.language.specs.Judging.{Judged, Worth, refuse}
use Rattle.language.specs.declared.refusals.Refusal.TheVariants.{BadName, NoContinuation}
use Rattle.language.specs.Words.{Position}
use Rattle.judge_records.specs.Read.{place_of}
use Rattle.judge_verdicts.specs.Meaning.{Verdict}
use Rattle.judge_verdicts.specs.Meaning.{recalled, seen}
use Rattle.judge_terms.specs.Shown.{Shown, worked}
use Rattle.image_records.specs.declared.actions.Action.{Action}
use Rattle.image_records.specs.declared.actions.Action.TheVariants as N
use Rattle.judge_actions.specs.declared.conditionals.Choices.{Choices}
use Rattle.judge_actions.specs.declared.conditionals.Choices.TheVariants.{One, Several}
use Rattle.judge_actions.specs.declared.conditionals.Branch.{Branch}
use Rattle.language.specs.Tests.{both}

-- `works` judges the operations that may be named: `ops` of them, whose verdicts are kept.
pub record Listed (facs exprs marks places memo acts beside states labels kept : List ℕ) (ops : ℕ) (d : Description) (p : Places) (works : ℕ → Judged) : Type 0 where
  pub count : length d.facilities ≡ length facs / facility_size
  pub shown : Shown facs exprs marks places memo (length facs / facility_size) d p (terminal_below d p (length facs / facility_size))
  pub action : (n : ℕ) → action_at d n ≡ action_of acts n
  pub place : (n : ℕ) → action_place p n ≡ place_of 1 beside n 0
  pub label : (n : ℕ) → (state_at d n).name ≡ take (name_length_in state_size 0 states n) (drop (names_length n 0 state_size states) labels)
  pub operation : (o : ℕ) → o < 65536 → o < ops → recalled kept o ≡ seen (worked (works o))
  pub unknown : (o : ℕ) → ops ≤ o → works o ≡ refuse D.nowhere BadName

-- The verdict that every description with these slices calls for.
abbrev pub Lists : List ℕ → List ℕ → List ℕ → List ℕ → List ℕ → List ℕ → List ℕ → List ℕ → List ℕ → List ℕ → ℕ
    → (Description → Places → (ℕ → Judged) → Judged) → Verdict → Type 0
Lists facs exprs marks places memo acts beside states labels kept ops j r =
    (d : Description) (p : Places) (w : ℕ → Judged) → Listed facs exprs marks places memo acts beside states labels kept ops d p w → r ≡ seen (j d p w)

-- k records from i on: a list of actions, and a list of arms.
unfoldable pub list_at : Description → Places → Bool → (ℕ → Judged) → ℕ → ℕ → Judged
list_at d p in_state w k i = run_step d p in_state w (run_below d p in_state w k) k i actions

unfoldable pub arms_at : Description → Places → Bool → (ℕ → Judged) → ℕ → ℕ → Judged
arms_at d p in_state w k i = run_step d p in_state w (run_below d p in_state w k) k i arms

-- IF without ELSE takes one bit and has one arm; any other conditional has as many arms as its condition selects.
abbrev pub right_arms : Choices → Worth → Worth → Bool
right_arms One v w = both (eqb v.length 1) (eqb w.arms 1)
right_arms (Several n) v w = both (selects v.length n) (eqb w.arms n)

-- What stands only in operations or only in states, where it is right.
abbrev pub in_right : Bool → Position → Judged → Judged
in_right true at j = j
in_right false at j = refuse at NoContinuation

-- The conditional that an action is, and how many of the records after it belong to it.
abbrev pub branched : ℕ → Choices → ℕ → Option Branch
branched c choices x = Some (record { condition = c; choices = choices; size = x })

abbrev pub branch_of : Action → Option Branch
branch_of (N.Store k l r) = None
branch_of (N.StorePair k l m r) = None
branch_of (N.Set l) = None
branch_of (N.Perform o) = None
branch_of (N.Goto s) = None
branch_of (N.Call s) = None
branch_of N.Return = None
branch_of (N.When c x) = branched c One x
branch_of (N.Choose c n x) = branched c (Several n) x
branch_of (N.Arm x) = None
branch_of N.Broken = None

abbrev pub held_by : Option Branch → ℕ
held_by None = 0
held_by (Some b) = b.size

-- The action at i, by what it is, without those after it.
unfoldable pub one_at : Description → Places → Bool → (ℕ → Judged) → ℕ → Option Branch → Judged
one_at d p in_state w i None = A.simple_judged d p in_state w (action_place p i) (action_at d i)
one_at d p in_state w i (Some b) =
    A.conditional d p in_state w (action_place p i) (A.right d p in_state w b.condition) (arms_at d p in_state w b.size (i + 1)) (right_arms b.choices)

-- How many actions an arm has, none where there is no arm, or more than the m records after it.
abbrev pub arm_holds : ℕ → Action → ℕ
arm_holds m (N.Store k l r) = 0
arm_holds m (N.StorePair k l n r) = 0
arm_holds m (N.Set l) = 0
arm_holds m (N.Perform o) = 0
arm_holds m (N.Goto s) = 0
arm_holds m (N.Call s) = 0
arm_holds m N.Return = 0
arm_holds m (N.When c x) = 0
arm_holds m (N.Choose c n x) = 0
arm_holds m (N.Arm x) = cond (leb x m) x 0
arm_holds m N.Broken = 0
