-- What slices show of a description and its places, as far as states need it.
use Rattle.std.specs.Prelude.{Bool, true, false, cond, List, [], ◌≡◌, ℕ, zero, suc, ◌/◌, eqb, length}
use Rattle.std.proofs.Math.Option.{Option, none, some}
use Rattle.std.specs.Prelude as C
use Rattle.image_sections.specs.Declarations.{StateRead, state_meant}
use Rattle.image_sections.specs.declared.states.StateRecord.{StateRecord}
use Rattle.language.specs.ActionRules.{operation_below, run_judged}
use Rattle.language.specs.Decode.{node_of}
use Rattle.language.specs.Description.{Description, Places, StatePlaces, constant_value, node_at, state_at, state_place, Run}
use Rattle.language.specs.Encode.{operation_size, state_size}
use Rattle.language.specs.Judging.{Judged}
use Rattle.language.specs.Rules as R
use Rattle.judge_records.specs.Read.{place_of}
use Rattle.judge_all.specs.InSlices.{Acting}
use Rattle.language.specs.Tests.{both}

-- The length of the sequencing register, if there is one.
unfoldable pub wanted_length : C.Option ℕ → Option ℕ
wanted_length C.None = none
wanted_length (C.Some l) = some l

-- The values that the first n states bear.
unfoldable pub values_before : Description → Places → ℕ → List ℕ
values_before d p zero = []
values_before d p (suc n) = R.borne d p (values_before d p n) (state_at d n).value

-- A value that is there: wanted, of that length, and not repeated.
abbrev pub right_value : Description → Places → Option ℕ → List ℕ → ℕ → Bool
right_value d p none before n = false
right_value d p (some l) before n =
    both (eqb (constant_value (node_at d n)).length l) (cond (R.repeated d p (constant_value (node_at d n)).number before) false true)

abbrev pub state_places_of : List ℕ → ℕ → StatePlaces
state_places_of places n = record { at = place_of 2 places n 0; value = place_of 2 places n 1 }

-- Constants, and the states that may bear them.
pub record Valued (exprs states : List ℕ) (d : Description) : Type 0 where
  pub constant : (n : ℕ) → constant_value (node_at d n) ≡ constant_value (node_of exprs n)
  pub state : (n : ℕ) (x : StateRecord) → StateRead states n x → state_meant (state_at d n).name x ≡ state_at d n

-- With the rest of what states are made of, and their places.
pub record Stated (facs exprs marks places memo acts beside states labels ops spots : List ℕ) (d : Description) (p : Places) : Type 0 where
  pub acting : Acting facs exprs marks places memo acts beside states labels ops d p
  pub operations : length d.operations ≡ length ops / operation_size
  pub count : length d.states ≡ length states / state_size
  pub state : (n : ℕ) (x : StateRecord) → StateRead states n x → state_meant (state_at d n).name x ≡ state_at d n
  pub spot : (n : ℕ) → state_place p n ≡ state_places_of spots n

-- The verdict on a state's actions, in which all operations may be named.
abbrev pub state_judged : Description → Places → Run → Judged
state_judged d p r = run_judged d p true (operation_below d p (length d.operations)) r
