-- Passing image, sound store and record, stimulus of the right form: a cycle completes or stops, and all stays sound; opening starts soundly. Assumes nothing.
use Rattle.std.specs.Prelude.{Bool, true, false, cond, List, [], ◌∷◌, ◌≡◌, ℕ, zero, suc, ◌^◌, eqb, leb, get_or, length, replicate, take}
use Rattle.std.proofs.Math.Option.{Option, none, some}
use Rattle.std.proofs.Math.Path.{refl}
use Rattle.std.proofs.Common.{arith, eq-eqb}
use Rattle.language.specs.Calls.{cycle_refusal, first, not, open_words, or_zero_words, roomy, sound_bytes, stimulus_size, well_formed}
use Rattle.language.specs.Decode.{decode}
use Rattle.language.specs.Description.{Description, Facility, facility_at, is_computed, sequencing_of, state_at, word_count, word_length}
use Rattle.language.specs.Encode.{encode, header_size}
use Rattle.language.specs.Image.{legal_form, passes, total_length}
use Rattle.language.specs.RecordBytes.{marked, record_from, sound}
use Rattle.language.specs.declared.refusals.Refusal.{Refusal}
use Rattle.language.specs.declared.refusals.Refusal.TheVariants.{BadStimulus, BufferTooShort, ImageFails, Unsound}
use Rattle.language.specs.Scan.{same}
use Rattle.language.specs.Step.{open_record, set_register, step}
use Rattle.language.specs.Ceilings.{most_returns}
use Rattle.language.specs.Store.{StoreWords, from_bytes, inputs_of, narrow, zero_words}
use Rattle.about_running.specs.Cycle.{Sound, Well, cycle-well, register-set, zeros-below, zeros-length}
use Rattle.about_running.specs.Fitting.{AllBelow, Fit, Row, fit-set, stored}
use Rattle.about_running.specs.LegalForm.{Legal, legal, right_of}
use Rattle.about_running.specs.NextState.{Returns}
use Rattle.about_running.specs.Soundness.{bytes_fit, sound-so}
use Rattle.about_running.specs.StateValues.{bears-value}
use Rattle.language.specs.Tests.{both}

-- What passes is in legal form.
pub legal-image : (image : List ℕ) → passes image ≡ true → Legal (decode image)
unfolding passes
legal-image image e =
    let bytes = same (take (total_length image) image) (encode (decode image)) in
    legal (decode image) (right_of bytes (legal_form (decode image)) (whole (both (leb header_size (length image)) (leb (total_length image) (length image))) _ e))
  where
    whole : (b x : Bool) → cond b x false ≡ true → x ≡ true
    whole true x q = q
    whole false x q = absurd (let z : ◌≡◌ {A = ℕ} 0 1 = cc in omega arith)

-- A refusal that does not come: its test was passed.
pub not_first : (b : Bool) (r : Refusal) (later : Option Refusal) → first (not b) r later ≡ none → (b ≡ true) × (later ≡ none)
not_first true r later e = (refl, e)
not_first false r later e = absurd (let z : ◌≡◌ {A = ℕ} 0 1 = cc in omega arith)

-- ---- A cycle.

module _ (image store record' stimulus : List ℕ) (scratch : ℕ) (none-refused : cycle_refusal image store record' stimulus scratch ≡ none) where
  abbrev d : Description
  d = decode image

  pub never_stuck : Well (decode image) (step (decode image) (from_bytes (decode image).facilities store) (record_from record') (from_bytes (inputs_of (decode image).facilities) stimulus))
  unfolding cycle_refusal sound_bytes well_formed
  never_stuck =
      let passed = not_first (passes image) ImageFails _ none-refused in
      let room = not_first (roomy d (length store) (length record') scratch) BufferTooShort _ passed.1 in
      let sound-there = not_first (both (marked record') (sound d (from_bytes d.facilities store) (record_from record'))) Unsound _ room.1 in
      let form = not_first (both (eqb (length stimulus) (stimulus_size d)) (narrow (inputs_of d.facilities) (from_bytes (inputs_of d.facilities) stimulus))) BadStimulus none sound-there.1 in
      cycle-well d (legal-image image passed.0) (from_bytes d.facilities store) (record_from record') (from_bytes (inputs_of d.facilities) stimulus)
      (sound-so d store record' (right_of (marked record') _ sound-there.0))
      (bytes_fit (inputs_of d.facilities) stimulus (right_of (eqb (length stimulus) (stimulus_size d)) _ form.0))

-- ---- Opening.

zero_row : (f : Facility) → Row f (cond (is_computed f.kind) [] (replicate (word_count f) 0))
unfolding stored
zero_row f = record { count = count (is_computed f.kind); small = small (is_computed f.kind) }
  where
    count : (b : Bool) → length {A = ℕ} (cond b [] (replicate (word_count f) 0)) ≡ cond b 0 (word_count f)
    count true = refl
    count false = zeros-length (word_count f)

    small : (b : Bool) → AllBelow (2 ^ word_length f) (cond b [] (replicate (word_count f) 0))
    small true = tt
    small false = zeros-below (word_count f) (word_length f)

zero-fit : (fs : List Facility) → Fit fs (zero_words fs)
unfolding zero_words
zero-fit [] = tt
zero-fit (f ∷ fs) = (zero_row f, zero-fit fs)

get_d-zeros : (n i : ℕ) → get_or {A = ℕ} (replicate n 0) i 0 ≡ 0
get_d-zeros zero i = refl
get_d-zeros (suc n) zero = refl
get_d-zeros (suc n) (suc i) = get_d-zeros n i

module _ (image : List ℕ) (passes-so : passes image ≡ true) where
  abbrev opened : Description
  opened = decode image

  no-returns : Returns opened 0 (replicate most_returns 0)
  no-returns = record {
    places = zeros-length most_returns;
    most = omega arith;
    states = λ i h. absurd (omega arith);
    zero-beyond = λ i h. get_d-zeros most_returns i;
  }

  pub opens-sound : Sound (decode image) (open_words (decode image)) (open_record (decode image))
  unfolding open_words facility_at
  opens-sound = go (sequencing_of opened) refl
    where
      zeros : StoreWords
      zeros = zero_words opened.facilities

      go : (x : Option ℕ) → sequencing_of opened ≡ x → Sound opened (or_zero_words zeros (set_register opened x (state_at opened 0).value zeros)) (open_record opened)
      go none q = record { words = zero-fit opened.facilities; state-in = (legal-image image passes-so).some-state; returns-in = no-returns; register-so = rw q refl }
      go (some f) q =
          let L = legal-image image passes-so in
          let v = bears-value opened L f q 0 L.some-state in
          rw (v.enters zeros) (record {
            words = fit-set opened.facilities zeros f 0 v.number (zero-fit opened.facilities) v.fits;
            state-in = L.some-state;
            returns-in = no-returns;
            register-so = rw (q, v.borne) (eq-eqb _ _ (register-set opened L zeros 0 f v.number q (zero-fit opened.facilities)));
          })
