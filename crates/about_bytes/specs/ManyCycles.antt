-- A run of many cycles, by its definition: what its tests gave, the stimuli of all its cycles, and what it has come to. Assumes nothing.
use Rattle.std.specs.Prelude.{true, List, ◌≡◌, eqb, drop, length, take}
use Rattle.std.proofs.Math.Option.{none}
use Prim.Native.Nat.{ℕ, zero, suc, ◌*◌, ◌≤◌}
use Rattle.std.proofs.Math.Nat.{suc-mul}
use Rattle.std.proofs.Common.{arith, length-take}
use borrow.Author.Tests.{eqb-true}
use Rattle.std.proofs.Math.ListN.{length-drop}
use Rattle.language.specs.Calls.{Running, all_well_formed, roomy, run_refusal, sound_bytes, stimulus_size, trace_roomy, well_formed}
use Rattle.language.specs.Decode.{decode}
use Rattle.language.specs.Description.{Description}
use Rattle.language.specs.Image.{passes}
use Rattle.about_running.specs.LegalForm.{left-of, right_of}
use Rattle.about_running.specs.NeverStuck.{not_first}
use Rattle.language.specs.declared.refusals.Refusal.TheVariants.{BadStimulus, BufferTooShort, ImageFails, Unsound}
use Rattle.language.specs.Tests.{both}

-- What the tests of a run gave.
pub record Free (image store kept stimuli : List ℕ) (count scratch trace : ℕ) : Type 0 where
  pub passing : passes image ≡ true
  pub room : roomy (decode image) (length store) (length kept) scratch ≡ true
  pub trace-room : trace_roomy (decode image) count trace ≡ true
  pub sound-there : sound_bytes (decode image) store kept ≡ true
  pub form : all_well_formed (decode image) count stimuli ≡ true

pub run-free : (image store kept stimuli : List ℕ) (count scratch trace : ℕ) → run_refusal image store kept stimuli count scratch trace ≡ none → Free image store kept stimuli count scratch trace
unfolding run_refusal
run-free image store kept stimuli count scratch trace e =
    let d = decode image in
    let a = not_first (passes image) ImageFails _ e in
    let b = not_first (both (roomy d (length store) (length kept) scratch) (trace_roomy d count trace)) BufferTooShort _ a.1 in
    let c = not_first (sound_bytes d store kept) Unsound _ b.1 in
    record {
      passing = a.0;
      room = left-of (roomy d (length store) (length kept) scratch) _ b.0;
      trace-room = right_of (roomy d (length store) (length kept) scratch) _ b.0;
      sound-there = c.0;
      form = (not_first (all_well_formed d count stimuli) BadStimulus none c.1).0;
    }

-- After n completed cycles.
abbrev pub going : ℕ → ℕ → List ℕ → List ℕ → List ℕ → Running
going n conflicts store kept traced = record { completed' = n; conflicts = conflicts; store = store; record' = kept; trace = traced }

-- ---- The stimuli of all cycles, one after the other.
module _ (d : Description) where
  pub one-long : (S : List ℕ) → well_formed d S ≡ true → length S ≡ stimulus_size d
  unfolding well_formed
  one-long S e = eqb-true (length S) (stimulus_size d) (left-of (eqb (length S) (stimulus_size d)) _ e)

  pub first-there : (S : List ℕ) → well_formed d (take (stimulus_size d) S) ≡ true → stimulus_size d ≤ length S
  first-there S e = let l = length-take (stimulus_size d) S in let m = one-long (take (stimulus_size d) S) e in omega (arith, l, m)

  pub all_first : (k : ℕ) (S : List ℕ) → all_well_formed d (suc k) S ≡ true → well_formed d (take (stimulus_size d) S) ≡ true
  unfolding all_well_formed
  all_first k S e = left-of (well_formed d (take (stimulus_size d) S)) _ e

  pub all_rest : (k : ℕ) (S : List ℕ) → all_well_formed d (suc k) S ≡ true → all_well_formed d k (drop (stimulus_size d) S) ≡ true
  unfolding all_well_formed
  all_rest k S e = right_of (well_formed d (take (stimulus_size d) S)) _ e

  pub all-long : (k : ℕ) (S : List ℕ) → all_well_formed d k S ≡ true → length S ≡ k * stimulus_size d
  unfolding all_well_formed
  all-long zero S e = let m = eqb-true (length S) 0 e in omega (arith, m)
  all-long (suc k) S e =
      let m = all-long k (drop (stimulus_size d) S) (all_rest k S e) in
      let l = length-drop (stimulus_size d) S in
      let r = first-there S (all_first k S e) in
      let p = suc-mul k (stimulus_size d) in
      omega (arith, m, l, r, p)
