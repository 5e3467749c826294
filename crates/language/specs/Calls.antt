-- What opening, a cycle and a run owe (01, "Refusal numbers"): the whole answer and the bytes of every buffer lent, on every input. What a buffer held before bears on nothing but what 01 says it keeps.
use Rattle.std.specs.Prelude.{Bool, true, false, cond, List, [], ◌++◌, ℕ, zero, suc, ◌+◌, ◌*◌, eqb, leb, drop, length, take}
use Rattle.std.proofs.Math.Option.{Option, none, some}
use Rattle.language.specs.Decode.{decode}
use Rattle.language.specs.Description.{Description, sequencing_of, state_at}
use Rattle.language.specs.Image.{passes}
use Rattle.language.specs.Layout.{store_size, store_size_of}
use Rattle.language.specs.Reading.{filled, zeroes}
use Rattle.language.specs.RecordBytes.{marked, record_bytes, record_from, record_size, sound}
use Rattle.language.specs.declared.refusals.Refusal.{Refusal}
use Rattle.language.specs.declared.refusals.Refusal.TheVariants.{BadStimulus, BufferTooShort, ImageFails, Unsound}
use Rattle.language.specs.Step.{Entered, Outcome, completed, into, open_record, set_register, step}
use Rattle.language.specs.Step as Step
use Rattle.language.specs.declared.stops.Stop.{Stop}
use Rattle.language.specs.Store.{StoreWords, from_bytes, inputs_of, narrow, to_bytes, zero_words}
use Rattle.language.specs.Tests.{both}

-- A refusal, if there is one.
abbrev pub first : Bool → Refusal → Option Refusal → Option Refusal
first true r later = some r
first false r later = later

abbrev pub not : Bool → Bool
not true = false
not false = true

-- ---- Opening.

pub data OpenAnswer : Type 0 where
  opened : OpenAnswer
  refused : Refusal → OpenAnswer

pub record OpenCall : Type 0 where
  pub answer : OpenAnswer
  pub store : List ℕ
  pub record' : List ℕ

-- 13, then 12. Rooms are the lengths of the buffers lent.
unfoldable pub open_refusal : List ℕ → ℕ → ℕ → Option Refusal
open_refusal image store record' =
    first (not (passes image)) ImageFails
    (first (not (both (leb (store_size (decode image)) store) (leb record_size record'))) BufferTooShort none)

abbrev pub or_zero_words : StoreWords → Entered → StoreWords
or_zero_words s (into t) = t
or_zero_words s (Entered.stuck r) = s

-- Zero, but for the sequencing register, which has the first state's value.
unfoldable pub open_words : Description → StoreWords
open_words d = let s = zero_words d.facilities in or_zero_words s (set_register d (sequencing_of d) (state_at d 0).value s)

abbrev pub open_with : Description → ℕ → ℕ → Option Refusal → OpenCall
open_with d store record' (some n) = record { answer = refused n; store = zeroes store; record' = zeroes record' }
open_with d store record' none = record {
  answer = opened;
  store = filled store (to_bytes d.facilities (open_words d));
  record' = filled record' (record_bytes (open_record d));
}

unfoldable pub open' : List ℕ → ℕ → ℕ → OpenCall
open' image store record' = open_with (decode image) store record' (open_refusal image store record')

-- ---- A cycle.

pub data CycleAnswer : Type 0 where
  -- the conflict count
  cycled : ℕ → CycleAnswer
  stopped_for : Stop → CycleAnswer
  refused_for : Refusal → CycleAnswer

pub record CycleCall : Type 0 where
  pub answer : CycleAnswer
  pub store : List ℕ
  pub record' : List ℕ
  pub scratch : List ℕ

-- The input terminals' bytes.
unfoldable pub stimulus_size : Description → ℕ
stimulus_size d = store_size_of (inputs_of d.facilities)

-- Enough store, record and scratch: scratch is at least four times the store.
unfoldable pub roomy : Description → ℕ → ℕ → ℕ → Bool
roomy d store record' scratch = both (leb (store_size d) store) (both (leb record_size record') (leb (4 * store_size d) scratch))

unfoldable pub sound_bytes : Description → List ℕ → List ℕ → Bool
sound_bytes d store record' = both (marked record') (sound d (from_bytes d.facilities store) (record_from record'))

-- A stimulus of the right length without spare bits.
unfoldable pub well_formed : Description → List ℕ → Bool
well_formed d stimulus =
    both (eqb (length stimulus) (stimulus_size d)) (narrow (inputs_of d.facilities) (from_bytes (inputs_of d.facilities) stimulus))

-- 13, 12, 14, 15 in this order.
unfoldable pub cycle_refusal : List ℕ → List ℕ → List ℕ → List ℕ → ℕ → Option Refusal
cycle_refusal image store record' stimulus scratch =
    let d = decode image in
    let rest = first (not (roomy d (length store) (length record') scratch)) BufferTooShort
    (first (not (sound_bytes d store record')) Unsound (first (not (well_formed d stimulus)) BadStimulus none)) in
    first (not (passes image)) ImageFails rest

-- The bytes bs in front of what lies beyond them.
abbrev pub over : List ℕ → List ℕ → List ℕ
over bs old = bs ++ drop (length bs) old

module _ (d : Description) (store record' : List ℕ) (scratch : ℕ) where
  abbrev pub unchanged : CycleAnswer → CycleCall
  unchanged a = record { answer = a; store = store; record' = record'; scratch = zeroes scratch }

  -- A stop leaves store and record as found. No passing image gets stuck.
  abbrev pub after_step : Outcome → CycleCall
  after_step (completed s r n) = record {
    answer = cycled n;
    store = over (to_bytes d.facilities s) store;
    record' = over (record_bytes r) record';
    scratch = zeroes scratch;
  }
  after_step (Step.stopped n) = unchanged (stopped_for n)
  after_step (Step.stuck s) = unchanged (refused_for ImageFails)

  abbrev pub cycle_with : List ℕ → Option Refusal → CycleCall
  cycle_with stimulus (some n) = unchanged (refused_for n)
  cycle_with stimulus none =
      after_step (step d (from_bytes d.facilities store) (record_from record') (from_bytes (inputs_of d.facilities) stimulus))

unfoldable pub cycle : List ℕ → List ℕ → List ℕ → List ℕ → ℕ → CycleCall
cycle image store record' stimulus scratch =
    cycle_with (decode image) store record' scratch stimulus (cycle_refusal image store record' stimulus scratch)

-- ---- Many cycles after one check: the stimuli one after the other; the trace is empty or takes the store after each completed cycle.

pub data RunAnswer : Type 0 where
  -- completed cycles, the sum of conflicts, and the stop that ended them, if one did
  ran : ℕ → ℕ → Option Stop → RunAnswer
  run_refused : Refusal → RunAnswer

pub record RunCall : Type 0 where
  pub answer : RunAnswer
  pub store : List ℕ
  pub record' : List ℕ
  pub scratch : List ℕ
  pub trace : List ℕ

abbrev pub trace_roomy : Description → ℕ → ℕ → Bool
trace_roomy d cycles trace = cond (eqb trace 0) true (leb (cycles * store_size d) trace)

-- Every stimulus is of the right form.
unfoldable pub all_well_formed : Description → ℕ → List ℕ → Bool
all_well_formed d zero stimuli = eqb (length stimuli) 0
all_well_formed d (suc k) stimuli = both (well_formed d (take (stimulus_size d) stimuli)) (all_well_formed d k (drop (stimulus_size d) stimuli))

unfoldable pub run_refusal : List ℕ → List ℕ → List ℕ → List ℕ → ℕ → ℕ → ℕ → Option Refusal
run_refusal image store record' stimuli cycles scratch trace =
    let d = decode image in
    let rest = first (not (both (roomy d (length store) (length record') scratch) (trace_roomy d cycles trace))) BufferTooShort
    (first (not (sound_bytes d store record')) Unsound (first (not (all_well_formed d cycles stimuli)) BadStimulus none)) in
    first (not (passes image)) ImageFails rest

-- What has been carried out so far; the trace without the zeroes beyond it.
pub record Running : Type 0 where
  pub completed' : ℕ
  pub conflicts : ℕ
  pub store : List ℕ
  pub record' : List ℕ
  pub trace : List ℕ

module _ (image : List ℕ) (scratch : ℕ) (size : ℕ) (stimulus : ℕ) where
  abbrev pub after_cycle : CycleCall → Running → (Running → Running × Option Stop) → Running × Option Stop
  after_cycle c r on = by_answer c.answer
    where
      by_answer : CycleAnswer → Running × Option Stop
      by_answer (cycled n) = on (record {
        completed' = suc r.completed';
        conflicts = r.conflicts + n;
        store = c.store;
        record' = c.record';
        trace = r.trace ++ take size c.store;
      })
      by_answer (stopped_for s) = (r, some s)
      -- no cycle is refused once the run was not
      by_answer (refused_for q) = (r, none)

  -- k cycles more: what they come to, and the stop that ended them, if one did.
  unfoldable pub cycles : ℕ → List ℕ → Running → Running × Option Stop
  cycles zero stimuli r = (r, none)
  cycles (suc k) stimuli r =
      after_cycle (cycle image r.store r.record' (take stimulus stimuli) scratch) r (cycles k (drop stimulus stimuli))

unfoldable pub run : List ℕ → List ℕ → List ℕ → List ℕ → ℕ → ℕ → ℕ → RunCall
run image store record' stimuli count scratch trace =
    let d = decode image in
    let start : Running = record { completed' = 0; conflicts = 0; store = store; record' = record'; trace = [] } in
    let end : Running × Option Stop = cycles image scratch (store_size d) (stimulus_size d) count stimuli start in
    let done : RunCall = record {
      answer = ran end.0.completed' end.0.conflicts end.1;
      store = end.0.store;
      record' = end.0.record';
      scratch = zeroes scratch;
      trace = cond (eqb trace 0) [] (filled trace end.0.trace);
    } in
    by_refusal done (run_refusal image store record' stimuli count scratch trace)
  where
    by_refusal : RunCall → Option Refusal → RunCall
    by_refusal done none = done
    by_refusal done (some n) = record { answer = run_refused n; store = store; record' = record'; scratch = zeroes scratch; trace = zeroes trace }
