-- ANY RUN, with its stops: from opening on, for every list of stimuli of the right form, each cycle ends by the first of 01's conditions that holds in the store and record that it finds. Assumes nothing.
use Rattle.std.specs.Prelude.{List, [], ◌∷◌, ◌≡◌, refl, ℕ, ◌*◌, ◌≤◌, true}
use Rattle.std.proofs.Math.Option.{Option, none, some}
use Rattle.std.proofs.Common.{arith}
use Rattle.language.specs.Calls.{CycleAnswer, after_step, cycle, cycle_refusal, cycle_with, cycled, open', open_refusal, stopped_for, well_formed}
use Rattle.language.specs.Decode.{decode}
use Rattle.language.specs.Description.{Description}
use Rattle.language.specs.Layout.{store_size}
use Rattle.language.specs.RecordBytes.{record_from}
use Rattle.language.specs.declared.refusals.Refusal.{Refusal}
use Rattle.language.specs.Step.{Outcome, completed, step}
use Rattle.language.specs.declared.stops.Stop.{Stop}
use Rattle.language.specs.Store.{from_bytes, inputs_of}
use Rattle.about_bytes.specs.AnyRun.{AllFormed, Answered, Ready, answered, completed-so, opens-ready, stopped-so}
use Rattle.about_bytes.specs.StaysSound.{stays-sound}
use Rattle.about_calls.specs.StopsFirst.{Ends, stops_first}

-- ---- A cycle that does not complete leaves store and record as found.

module _ (image store record' stimulus : List ℕ) (scratch : ℕ) where
  abbrev d : Description
  d = decode image

  pub as-found : ((n : ℕ) → (cycle image store record' stimulus scratch).answer ≡ cycled n → ⊥)
      → ((cycle image store record' stimulus scratch).store ≡ store) × ((cycle image store record' stimulus scratch).record' ≡ record')
  unfolding cycle
  as-found e = refused (cycle_refusal image store record' stimulus scratch) e
    where
      after : (o : Outcome) → ((n : ℕ) → (after_step d store record' scratch o).answer ≡ cycled n → ⊥) → ((after_step d store record' scratch o).store ≡ store) × ((after_step d store record' scratch o).record' ≡ record')
      after (completed s r m) q = absurd (q m refl)
      after (Outcome.stopped m) q = (refl, refl)
      after (Outcome.stuck m) q = (refl, refl)

      refused : (x : Option Refusal) → ((n : ℕ) → (cycle_with d store record' scratch stimulus x).answer ≡ cycled n → ⊥)
          → ((cycle_with d store record' scratch stimulus x).store ≡ store) × ((cycle_with d store record' scratch stimulus x).record' ≡ record')
      refused none q = after (step d (from_bytes d.facilities store) (record_from record') (from_bytes (inputs_of d.facilities) stimulus)) q
      refused (some m) q = (refl, refl)

not-cycled : {a : CycleAnswer} {n : Stop} {m : ℕ} → a ≡ stopped_for n → a ≡ cycled m → ⊥
not-cycled e z = let y : ◌≡◌ {A = ℕ} 0 1 = cc in omega arith

-- ---- Cycle after cycle.

-- Each goes on from what the one before it left.
pub data Follows (image : List ℕ) (scratch : ℕ) : List ℕ → List ℕ → List (List ℕ) → Type 0 where
  over : {store record' : List ℕ} → Follows image scratch store record' []
  next : {store record' stimulus : List ℕ} {more : List (List ℕ)} → Ends image store record' stimulus (cycle image store record' stimulus scratch).answer
      → Follows image scratch (cycle image store record' stimulus scratch).store (cycle image store record' stimulus scratch).record' more → Follows image scratch store record' (stimulus ∷ more)

module _ (image store record' stimulus : List ℕ) (scratch : ℕ) (ready : Ready image store record' scratch) (form : well_formed (decode image) stimulus ≡ true) where
  pub ready-again : Ready image (cycle image store record' stimulus scratch).store (cycle image store record' stimulus scratch).record' scratch
  ready-again = go (answered image store record' stimulus scratch (ready.unrefused-with stimulus form))
    where
      go : Answered image store record' stimulus scratch → Ready image (cycle image store record' stimulus scratch).store (cycle image store record' stimulus scratch).record' scratch
      go (completed-so n e l) = record { unrefused-with = λ later w. stays-sound image store record' stimulus scratch (ready.unrefused-with stimulus form) n later e w }
      go (stopped-so n e) = let same = as-found image store record' stimulus scratch (λ m z. not-cycled e z) in rw (same.0, same.1) ready

pub each-cycle : (image store record' : List ℕ) (scratch : ℕ) (is : List (List ℕ)) → Ready image store record' scratch → AllFormed (decode image) is → Follows image scratch store record' is
each-cycle image store record' scratch [] h k = over
each-cycle image store record' scratch (i ∷ is) h k =
    next (stops_first image store record' i scratch (h.unrefused-with i k.0))
    (each-cycle image (cycle image store record' i scratch).store (cycle image store record' i scratch).record' scratch is (ready-again image store record' i scratch h k.0) k.1)

pub from-opening : (image : List ℕ) (store record' scratch : ℕ) (is : List (List ℕ)) → open_refusal image store record' ≡ none → 4 * store_size (decode image) ≤ scratch → AllFormed (decode image) is
    → Follows image scratch (open' image store record').store (open' image store record').record' is
from-opening image store record' scratch is e l k = each-cycle image _ _ scratch is (opens-ready image store record' scratch e l) k
