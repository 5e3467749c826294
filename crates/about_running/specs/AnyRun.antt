-- Any number of cycles from opening on: each completes or stops, judged from its own store. Assumes nothing.
use Rattle.std.specs.Prelude.{true, List, [], ◌∷◌, ◌≡◌, refl, ℕ}
use Rattle.language.specs.Calls.{open_words}
use Rattle.language.specs.Decode.{decode}
use Rattle.language.specs.Description.{Description}
use Rattle.language.specs.Image.{passes}
use Rattle.language.specs.Step.{Outcome, Record, completed, open_record, step}
use Rattle.language.specs.declared.stops.Stop.{Stop}
use Rattle.language.specs.Store.{StoreWords, inputs_of}
use Rattle.about_running.specs.Cycle.{Sound, Well, completes, cycle-well, stops}
use Rattle.about_running.specs.Fitting.{Fit}
use Rattle.about_running.specs.LegalForm.{Legal}
use Rattle.about_running.specs.NeverStuck.{legal-image, opens-sound}

abbrev pub AllFit : Description → List StoreWords → Type 0
AllFit d [] = Unit {0}
AllFit d (i ∷ is) = Fit (inputs_of d.facilities) i × AllFit d is

-- Cycle after cycle, one for each stimulus: where one completes the next goes on from what it left, and where one stops the next goes on from what it found.
pub data Runs (d : Description) : StoreWords → Record → List StoreWords → Type 0 where
  over : {s : StoreWords} {r : Record} → Runs d s r []
  cycled : {s t : StoreWords} {r q : Record} {n : ℕ} {i : StoreWords} {is : List StoreWords} → Sound d s r → step d s r i ≡ completed t q n → Runs d t q is → Runs d s r (i ∷ is)
  stopped : {s : StoreWords} {r : Record} {n : Stop} {i : StoreWords} {is : List StoreWords} → Sound d s r → step d s r i ≡ Outcome.stopped n → Runs d s r is → Runs d s r (i ∷ is)

module _ (d : Description) (L : Legal d) where
  pub sound-runs : (is : List StoreWords) (s : StoreWords) (r : Record) → Sound d s r → AllFit d is → Runs d s r is
  sound-runs [] s r h k = over
  sound-runs (i ∷ is) s r h k = go (λ t q z. sound-runs is t q z k.1) (step d s r i) refl (cycle-well d L s r i h k.0)
    where
      go : ((t : StoreWords) (q : Record) → Sound d t q → Runs d t q is) → (o : Outcome) → step d s r i ≡ o → Well d o → Runs d s r (i ∷ is)
      go on (completed t q n) e (completes z) = cycled h e (on t q z)
      go on (Outcome.stopped n) e stops = stopped h e (on s r h)
      go on (Outcome.stuck _) e x3 = elim x3 [ ]

pub any-run : (image : List ℕ) (is : List StoreWords) → passes image ≡ true → AllFit (decode image) is → Runs (decode image) (open_words (decode image)) (open_record (decode image)) is
any-run image is p k = sound-runs (decode image) (legal-image image p) is (open_words (decode image)) (open_record (decode image)) (opens-sound image p) k
