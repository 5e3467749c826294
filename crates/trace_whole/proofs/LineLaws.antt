-- A line's text by what it is taken for. Assumes nothing.
use Rattle.std.specs.Prelude as Code
use Rattle.std.specs.Prelude.{None, Some}
use Rattle.std.proofs.Common.{◌≡◌, ℕ, ◌+◌, ◌-◌, ◌*◌, ◌≤◌, Bool, true, false, cond, List, [], ◌∷◌, length, take, drop, replicate, sym, refl, ap, ◌∙◌, ap₂, append-nil, arith, length-take-le, take_at}
use mathlib.Core.Option.{Option, none, some}
use lib.ListN.{length-replicate}
use Rattle.language.specs.Calls as L
use Rattle.language.specs.Calls.{over, stimulus_size}
use Rattle.language.specs.Decode.{decode}
use Rattle.language.specs.Description.{Description, Facility}
use Rattle.language.specs.Image.{passes}
use Rattle.language.specs.Layout.{facility_bytes, store_size, store_size_of}
use Rattle.language.specs.RecordBytes.{record_from}
use Rattle.language.specs.declared.refusals.Refusal.TheVariants.{BadStimulus}
use Rattle.language.specs.Store.{StoreWords, inputs_of, is_input, to_bytes}
use Rattle.language.specs.Trace.{after_call, line_words, refused_line, run_lines, with_input}
use Rattle.run_soundness.proofs.PassedLaws.{passed-size}
use Rattle.trace_output.specs.Adds.{Adds}
use Rattle.trace_input.specs.Stimulus.{Took, bytes_for, line_bytes, took, took_meant}
use Rattle.trace_line.specs.Turns.{Carried, Turned}
use Rattle.trace_line.proofs.TurnLaws.{short-refused}

-- ---- By what a line is taken for.

module _ (image : List ℕ) (d : Description) (fs : List Facility) (line : List ℕ) (on : List ℕ → List ℕ) where
  taken_none : line_bytes fs line ≡ none → fs ≡ inputs_of d.facilities → with_input image d (line_words fs line) on ≡ refused_line BadStimulus
  unfolding line_bytes
  taken_none e q = go (line_words fs line) e
    where
      go : (o : Option StoreWords) → bytes_for fs o ≡ none → with_input image d o on ≡ refused_line BadStimulus
      go none f = refl
      go (some s) f = absurd (let z : ◌≡◌ {A = ℕ} 0 1 = cc in omega arith)

  taken-some : (t : List ℕ) → line_bytes fs line ≡ some t → fs ≡ inputs_of d.facilities → with_input image d (line_words fs line) on ≡ on t
  unfolding line_bytes
  taken-some t e q = go (line_words fs line) e
    where
      go : (o : Option StoreWords) → bytes_for fs o ≡ some t → with_input image d o on ≡ on t
      go none f = absurd (let z : ◌≡◌ {A = ℕ} 0 1 = cc in omega arith)
      go (some s) f = let z : to_bytes fs s ≡ t = cc in ap on (ap (λ (gs : List Facility). to_bytes gs s) (sym q) ∙ z)

-- A buffer that holds a stimulus in front.
front_of : (o : Option (List ℕ)) (B C : List ℕ) (n : ℕ) → took_meant (Some n) C ≡ took o B → o ≡ some (take n C)
front_of none B C n e = let f : some n ≡ none = ap (λ (t : Took). t.count) e in absurd (let z : ◌≡◌ {A = ℕ} 0 1 = cc in omega arith)
front_of (some t) B C n e =
    let c : C ≡ over t B = ap (λ (u : Took). u.bytes) e in
    let f : some n ≡ some (length t) = ap (λ (u : Took). u.count) e in
    let k : n ≡ length t = cc in
    ap some (sym (ap (take n) c ∙ take_at t (drop (length t) B) n (sym k)))

took-nothing : (o : Option (List ℕ)) (B C : List ℕ) → took_meant None C ≡ took o B → o ≡ none
took-nothing none B C e = refl
took-nothing (some t) B C e = let f : none ≡ some (length t) = ap (λ (u : Took). u.count) e in absurd (let z : ◌≡◌ {A = ℕ} 0 1 = cc in omega arith)

abbrev inputs : List ℕ → List Facility
inputs image = inputs_of (decode image).facilities

module _ {image line : List ℕ} {number : ℕ} {S R S' R' B : List ℕ} {at : ℕ} {C : List ℕ} {end : ℕ} (P P' : List ℕ) where
  pub turned_none : {on : Bool} (t : Code.Option ℕ) → t ≡ None → took_meant t P' ≡ took (line_bytes (inputs image) line) P → on ≡ false → Adds (refused_line BadStimulus) B at C end → Turned image line number S R on S' R' B at C end
  unfolding run_lines
  turned_none t q e off x = record {
    text = refused_line BadStimulus;
    adds = x;
    short = short-refused (decode image) (record_from R).state BadStimulus (omega arith);
    same = λ done ls h. rw (off) (taken_none image (decode image) (inputs image) line _ (took-nothing (line_bytes (inputs image) line) P P' (ap (λ (u : Code.Option ℕ). took_meant u P') (sym q) ∙ e)) refl ∙ sym (append-nil (refused_line BadStimulus)));
  }

  pub turned_taken : {on : Bool} (t : Code.Option ℕ) (n : ℕ) → t ≡ Some n → took_meant t P' ≡ took (line_bytes (inputs image) line) P → (scratch : ℕ) → scratch ≡ 4 * store_size (decode image) → (X : List ℕ) → X ≡ take n P'
      → Carried image number R (L.cycle image S R X scratch) on S' R' B at C end → Turned image line number S R on S' R' B at C end
  unfolding run_lines
  turned_taken {on} t n q e scratch w X y x = record {
    text = x.text;
    adds = x.adds;
    short = x.short;
    same = λ done ls h.
        taken-some image (decode image) (inputs image) line _ (take n P') (front_of (line_bytes (inputs image) line) P P' n (ap (λ (u : Code.Option ℕ). took_meant u P') (sym q) ∙ e)) refl
        ∙ (ap (λ (m : ℕ). after_call image (decode image) m (record_from R).state (run_lines image (decode image) ls m) (L.cycle image S R (take n P') (4 * store_size (decode image)))) (sym h)
        ∙ (ap₂ (λ (Y : List ℕ) (m : ℕ). after_call image (decode image) number (record_from R).state (run_lines image (decode image) ls number) (L.cycle image S R Y m)) (sym y) (sym w)
        ∙ x.same (run_lines image (decode image) ls number)));
  }

-- ---- Buffers that are large enough.

-- The first bytes of an array of zeroes.
pub first-zeroes : (N n : ℕ) → n ≤ N → length (take {A = ℕ} (n - 0) (replicate N 0)) ≡ n
first-zeroes N n h = length-take-le (n - 0) (replicate N 0) (omega (arith, length-replicate {A = ℕ} N 0)) ∙ omega arith

inputs-fewer : (fs : List Facility) → store_size_of (inputs_of fs) ≤ store_size_of fs
unfolding store_size_of inputs_of
inputs-fewer [] = omega arith
inputs-fewer (f ∷ fs) = go (is_input f.kind) (inputs-fewer fs)
  where
    go : (b : Bool) → store_size_of (inputs_of fs) ≤ store_size_of fs → store_size_of (cond b (f ∷ inputs_of fs) (inputs_of fs)) ≤ facility_bytes f + store_size_of fs
    go true i = omega arith
    go false i = omega arith

module _ (image : List ℕ) (passed : passes image ≡ true) where
  pub small-store : store_size (decode image) ≤ 16384
  unfolding store_size
  small-store = passed-size image passed

  pub small-stimulus : stimulus_size (decode image) ≤ 16384
  unfolding stimulus_size
  small-stimulus = omega (arith, inputs-fewer (decode image).facilities, passed-size image passed)
