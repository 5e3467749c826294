-- A CYCLE IS A RUN of one stimulus without a trace, on every input. Assumes nothing.
use Rattle.std.specs.Prelude.{Bool, List, [], ◌≡◌, ℕ, ◌<◌, ◌^◌, drop, take}
use Rattle.std.proofs.Math.Bool.{true, false}
use Rattle.std.proofs.Math.Option.{Option, none, some}
use Rattle.std.proofs.Math.Path.{refl, sym}
use Rattle.std.proofs.Common.{◌∙◌, zero-add, take_all}
use native.Mathlib.Omega.{arith}
use borrow.Author.Tests.{eq-eqb, eqb-true}
use Rattle.std.proofs.Math.Dec.{eqb}
use Rattle.std.proofs.Math.ListN.{length, length-drop, length-take}
use Rattle.about_running.specs.FewConflicts.{few-conflicts}
use Rattle.language.specs.Calls.{CycleAnswer, CycleCall, RunAnswer, RunCall, Running, after_cycle, after_step, all_well_formed, cycle, cycle_refusal, cycled, cycles, ran, refused_for, roomy, run, run_refusal, run_refused, stimulus_size, stopped_for, well_formed}
use Rattle.language.specs.Decode.{decode}
use Rattle.language.specs.Description.{Description}
use Rattle.language.specs.Image.{passes}
use Rattle.language.specs.Layout.{store_size}
use Rattle.language.specs.Reading.{zeroes}
use Rattle.language.specs.RecordBytes.{record_from}
use Rattle.language.specs.Ceilings.{most_work}
use Rattle.language.specs.Step.{Outcome, completed, step}
use Rattle.language.specs.Store.{from_bytes, inputs_of}
use Rattle.language.specs.declared.refusals.Refusal.{Refusal}
use Rattle.language.specs.declared.stops.Stop.{Stop}
use Rattle.about_running.specs.Cycle.{Well}
use Rattle.about_running.specs.NeverStuck.{legal-image, never_stuck}
use Rattle.about_bytes.specs.ManyCycles.{one-long}
use Rattle.about_bytes.specs.StaysSound.{unrefused}
use Rattle.language.specs.Tests.{both}

-- What a run of at most one cycle says of it.
abbrev pub told : RunAnswer → CycleAnswer
told (ran n conflicts none) = cycled conflicts
told (ran n conflicts (some s)) = stopped_for s
told (run_refused r) = refused_for r

-- Its conflicts have 32 bits.
abbrev pub Counted : RunAnswer → Type 0
Counted (ran n conflicts stop) = conflicts < 2 ^ 32
Counted (run_refused r) = Unit {0}

abbrev pub single : RunCall → CycleCall
single c = record { answer = told c.answer; store = c.store; record' = c.record'; scratch = c.scratch }

both_right : (b : Bool) → both b true ≡ b
both_right true = refl
both_right false = refl

module _ (d : Description) (s : List ℕ) where
  abbrev size : ℕ
  size = stimulus_size d

  -- One stimulus is all of them.
  all_there : length s ≡ stimulus_size d → take (stimulus_size d) s ≡ s
  all_there e = take_all size s (omega (arith, e))

  one-formed : well_formed d s ≡ all_well_formed d 1 s
  unfolding all_well_formed
  one-formed = go (well_formed d s) (well_formed d (take size s)) (eqb (length (drop size s)) 0) refl refl refl
    where
      go : (x y z : Bool) → well_formed d s ≡ x → well_formed d (take (stimulus_size d) s) ≡ y → eqb (length (drop (stimulus_size d) s)) 0 ≡ z → x ≡ both y z
      go true y z a b c =
          let l = one-long d s a in
          let e : y ≡ true = sym b ∙ rw (all_there l) a in
          let m = length-drop size s in
          let f : z ≡ true = sym c ∙ eq-eqb (length (drop size s)) 0 (omega (arith, l, m)) in
          rw (e, f)
      go false false z a b c = refl
      go false true false a b c = refl
      go false true true a b c =
          let l = one-long d (take size s) b in
          let m = length-take size s in
          let n = length-drop size s in
          let o : length (drop size s) ≡ 0 = eqb-true (length (drop size s)) 0 c in
          let q : well_formed d s ≡ true = rw (all_there (omega (arith, l, m, n, o))) at b in
          sym a ∙ q

module _ (image store record' stimulus : List ℕ) (scratch : ℕ) where
  abbrev d : Description
  d = decode image

  one-refusal : cycle_refusal image store record' stimulus scratch ≡ run_refusal image store record' stimulus 1 scratch 0
  unfolding cycle_refusal run_refusal
  one-refusal = rw (← one-formed d stimulus, both_right (roomy d (length store) (length record') scratch))

  -- A run that has come to this with its only cycle.
  abbrev began : Running
  began = record { completed' = 0; conflicts = 0; store = store; record' = record'; trace = [] }

  abbrev after : CycleCall → Running × Option Stop
  after c = after_cycle image scratch (store_size d) (stimulus_size d) c began (λ r. (r, none))

  abbrev whole : CycleCall → RunCall
  whole c = record {
    answer = ran (after c).0.completed' (after c).0.conflicts (after c).1;
    store = (after c).0.store;
    record' = (after c).0.record';
    scratch = zeroes scratch;
    trace = [];
  }

  by-outcome : (o : Outcome) → Well (decode image) o → after_step (decode image) store record' scratch o ≡ single (whole (after_step (decode image) store record' scratch o))
  by-outcome (completed s r n) h = rw (zero-add n)
  by-outcome (Outcome.stopped n) h = refl
  by-outcome (Outcome.stuck _) h = elim h [ ]

  pub one-cycle : cycle image store record' stimulus scratch ≡ single (run image store record' stimulus 1 scratch 0)
  unfolding cycle run cycles
  one-cycle = go (cycle_refusal image store record' stimulus scratch) refl
    where
      outcome : Outcome
      outcome = step d (from_bytes d.facilities store) (record_from record') (from_bytes (inputs_of d.facilities) stimulus)

      go : (x : Option Refusal) → cycle_refusal image store record' stimulus scratch ≡ x → cycle image store record' stimulus scratch ≡ single (run image store record' stimulus 1 scratch 0)
      go (some r) e = rw (sym one-refusal ∙ e, e)
      go none e =
          let u = unrefused image store record' stimulus scratch e in
          rw (sym one-refusal ∙ e, all_there d stimulus (one-long d stimulus u.form), e) (by-outcome outcome (never_stuck image store record' stimulus scratch e))

  few-by : (o : Outcome) → step (decode image) (from_bytes (decode image).facilities store) (record_from record') (from_bytes (inputs_of (decode image).facilities) stimulus) ≡ o → passes image ≡ true
      → Well (decode image) o → Counted (whole (after_step (decode image) store record' scratch o)).answer
  unfolding most_work
  few-by (completed s r n) q p h = let m = few-conflicts d (legal-image image p) (from_bytes d.facilities store) (record_from record') (from_bytes (inputs_of d.facilities) stimulus) q in omega (arith, m)
  few-by (Outcome.stopped n) q p h = omega arith
  few-by (Outcome.stuck _) q p h = elim h [ ]

  -- At most 65,536 conflicts.
  pub one-counted : Counted (run image store record' stimulus 1 scratch 0).answer
  unfolding cycle run cycles
  one-counted = go (cycle_refusal image store record' stimulus scratch) refl
    where
      outcome : Outcome
      outcome = step d (from_bytes d.facilities store) (record_from record') (from_bytes (inputs_of d.facilities) stimulus)

      go : (x : Option Refusal) → cycle_refusal image store record' stimulus scratch ≡ x → Counted (run image store record' stimulus 1 scratch 0).answer
      go (some r) e = rw (sym one-refusal ∙ e) tt
      go none e =
          let u = unrefused image store record' stimulus scratch e in
          rw (sym one-refusal ∙ e, all_there d stimulus (one-long d stimulus u.form), e) (few-by outcome refl u.passing (never_stuck image store record' stimulus scratch e))
