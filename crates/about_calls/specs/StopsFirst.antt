-- A cycle that is not refused completes where none of 01's conditions holds, and else stops for the first that does. Assumes nothing.
use Rattle.std.specs.Prelude.{List, ℕ, ◌≤◌, ◌<◌, eqb, length}
use Rattle.std.proofs.Math.Option.{Option, none, some}
use Rattle.std.proofs.Math.Path.{◌≡◌, refl}
use Rattle.std.proofs.Common.{arith}
use Rattle.language.specs.Calls.{CycleAnswer, after_step, cycle, cycle_refusal, cycled, sound_bytes, stimulus_size, stopped_for, well_formed}
use Rattle.language.specs.Decode.{decode}
use Rattle.language.specs.Description.{Description}
use Rattle.language.specs.RecordBytes.{marked, record_from}
use Rattle.language.specs.Ceilings.{last_cycle, most_work}
use Rattle.language.specs.Step.{Outcome, Record, completed, step}
use Rattle.language.specs.Store.{StoreWords, from_bytes, inputs_of}
use Rattle.language.specs.declared.stops.Stop.{Stop}
use Rattle.language.specs.declared.stops.Stop.TheVariants.{OutsideBounds}
use Rattle.about_running.specs.Conditions.{Condition, FirstOf, order}
use Rattle.about_running.specs.Cycle.{Sound, Well}
use Rattle.about_running.specs.FewConflicts.{few-conflicts}
use Rattle.about_running.specs.Fitting.{Fit}
use Rattle.about_running.specs.LegalForm.{Legal, right_of}
use Rattle.about_running.specs.NeverStuck.{legal-image, never_stuck}
use Rattle.about_running.specs.Soundness.{bytes_fit, sound-so}
use Rattle.about_running.proofs.StopOrder as S
use Rattle.about_running.specs.StopOrder.{FirstOutside, stop_of}
use Rattle.about_running.proofs.StopOrder.{first_one, stops-in-order}
use Rattle.about_bytes.specs.StaysSound.{Unrefused, unrefused}

-- This stop is the first of 01's conditions that holds in a cycle from these bytes; or none holds.
abbrev pub FirstStop : List ℕ → List ℕ → List ℕ → List ℕ → Option Stop → Type 0
FirstStop image store record' stimulus n =
    let d = decode image in
    FirstOf (Condition d (from_bytes d.facilities store) (record_from record') (from_bytes (inputs_of d.facilities) stimulus)) order n

-- What a cycle answers.
pub data Ends (image store record' stimulus : List ℕ) : CycleAnswer → Type 0 where
  goes_on : {n : ℕ} → FirstStop image store record' stimulus none → n ≤ most_work → Ends image store record' stimulus (cycled n)
  halts-for : {n : Stop} → FirstStop image store record' stimulus (some n) → Ends image store record' stimulus (stopped_for n)

module _ (image store record' stimulus : List ℕ) (scratch : ℕ) (none-refused : cycle_refusal image store record' stimulus scratch ≡ none) where
  abbrev d : Description
  d = decode image

  abbrev words : StoreWords
  words = from_bytes d.facilities store

  abbrev kept : Record
  kept = record_from record'

  abbrev inputs : StoreWords
  inputs = from_bytes (inputs_of d.facilities) stimulus

  abbrev there : Unrefused image store record' stimulus scratch
  there = unrefused image store record' stimulus scratch none-refused

  pub legal-there : Legal (decode image)
  legal-there = legal-image image there.passing

  pub sound-words : Sound (decode image) (from_bytes (decode image).facilities store) (record_from record')
  unfolding sound_bytes
  sound-words = sound-so d store record' (right_of (marked record') _ there.sound-there)

  pub inputs-fit : Fit (inputs_of (decode image).facilities) (from_bytes (inputs_of (decode image).facilities) stimulus)
  unfolding well_formed
  inputs-fit = bytes_fit (inputs_of d.facilities) stimulus (right_of (eqb (length stimulus) (stimulus_size d)) _ there.form)

  pub stops_first : Ends image store record' stimulus (cycle image store record' stimulus scratch).answer
  unfolding cycle
  stops_first = rw none-refused (go (step d words kept inputs) refl (never_stuck image store record' stimulus scratch none-refused) (stops-in-order d legal-there words kept inputs sound-words inputs-fit))
    where
      go : (o : Outcome) → step d words kept inputs ≡ o → Well d o → FirstStop image store record' stimulus (stop_of o) → Ends image store record' stimulus (after_step d store record' scratch o).answer
      go (completed s r n) q h f = goes_on f (few-conflicts d legal-there words kept inputs q)
      go (Outcome.stopped n) q h f = halts-for f
      go (Outcome.stuck _) q h f = elim h [ ]

  -- The stop that is answered is the step's.
  stopped-step : {n : Stop} → (cycle image store record' stimulus scratch).answer ≡ stopped_for n → stop_of (step d words kept inputs) ≡ some n
  unfolding cycle
  stopped-step {n} e = go (step d words kept inputs) (rw none-refused at e)
    where
      go : (o : Outcome) → (after_step d store record' scratch o).answer ≡ stopped_for n → stop_of o ≡ some n
      go (completed s r m) q = absurd (let z : ◌≡◌ {A = ℕ} 0 1 = cc in omega arith)
      go (Outcome.stopped m) q = cc
      go (Outcome.stuck m) q = absurd (let z : ◌≡◌ {A = ℕ} 0 1 = cc in omega arith)

  step-stopped : {n : Stop} → stop_of (step d words kept inputs) ≡ some n → (cycle image store record' stimulus scratch).answer ≡ stopped_for n
  unfolding cycle
  step-stopped {n} e = rw none-refused (go (step d words kept inputs) e)
    where
      go : (o : Outcome) → stop_of o ≡ some n → (after_step d store record' scratch o).answer ≡ stopped_for n
      go (completed s r m) q = absurd (let z : ◌≡◌ {A = ℕ} 0 1 = cc in omega arith)
      go (Outcome.stopped m) q = cc
      go (Outcome.stuck m) q = absurd (let z : ◌≡◌ {A = ℕ} 0 1 = cc in omega arith)

  -- Each stop is answered exactly when its condition is the first that holds.
  pub stops-exactly : {n : Stop} → ((cycle image store record' stimulus scratch).answer ≡ stopped_for n → FirstStop image store record' stimulus (some n)) × (FirstStop image store record' stimulus (some n) → (cycle image store record' stimulus scratch).answer ≡ stopped_for n)
  stops-exactly =
      let first = stops-in-order d legal-there words kept inputs sound-words inputs-fit in
      ((λ e. rw (stopped-step e) at first), (λ f. step-stopped (first_one first f)))

  -- S1, where the number is not the last: exactly when, in the order of execution, the cycle comes to a subscript that lies outside its bounds on the store that stands then.
  pub one-first : (record_from record').cycle < last_cycle
      → ((cycle image store record' stimulus scratch).answer ≡ stopped_for OutsideBounds → FirstOutside (decode image) (from_bytes (decode image).facilities store) (record_from record') (from_bytes (inputs_of (decode image).facilities) stimulus))
      × (FirstOutside (decode image) (from_bytes (decode image).facilities store) (record_from record') (from_bytes (inputs_of (decode image).facilities) stimulus) → (cycle image store record' stimulus scratch).answer ≡ stopped_for OutsideBounds)
  one-first l =
      let h = S.one-first d legal-there words kept inputs sound-words inputs-fit l in
      ((λ e. h.0 (stopped-step e)), (λ o. step-stopped (h.1 o)))
