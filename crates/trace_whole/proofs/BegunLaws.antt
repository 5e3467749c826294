-- A text that is read: legal and opened, or refused. Assumes nothing.
use Rattle.std.specs.Prelude.{Err, Ok, Result}
use Rattle.std.proofs.Common.{◌≡◌, ℕ, ◌-◌, ◌^◌, ◌<◌, ◌≤◌, Bool, true, false, cond, leb, List, [], ◌++◌, length, take, drop, sym, refl, ap, ◌∙◌, ap₂, append-nil, arith, length-append, length-take-le, take_at, le-leb}
use lib.Seq.{take-append_seam}
use Rattle.language.specs.Calls.{OpenCall, open'}
use Rattle.language.specs.Decode.{decode}
use Rattle.language.specs.Description.{Description}
use Rattle.language.specs.Encode.{encode}
use Rattle.language.specs.Image.{passes}
use Rattle.language.specs.InputLines.{lines_of}
use Rattle.language.specs.Layout.{store_size}
use Rattle.language.specs.Reading as R
use Rattle.language.specs.Reading.{Read, ReadCall, filled, legal, read_call, read_refused, read_text, refused_at, with_room, zeroes}
use Rattle.language.specs.RecordBytes.{record_size}
use Rattle.language.specs.Refusals.{refusal_number}
use Rattle.language.specs.declared.refusals.Refusal.{Refusal}
use Rattle.language.specs.declared.refusals.Refusal.TheVariants.{BufferTooShort}
use Rattle.language.specs.Scan.{bytes}
use Rattle.language.specs.Trace.{after_read, decimal, line_end, printed, run_lines, trace, trace_image}
use Rattle.about_calls.specs.PassesExactly.{reads-pass}
use Rattle.call_answers.specs.Reading.{called}
use Rattle.call_answers.specs.declared.read.Refused.{Refused}
use Rattle.call_answers.specs.Opening as Opening
use Rattle.run_soundness.proofs.PassedLaws.{passed-size}
use Rattle.trace_line.specs.Turns.{Ready}
use Rattle.trace_output.proofs.AddsLaws.{adds-as}
use Rattle.trace_output.proofs.LineRoom.{decimal-short}
use Rattle.trace_output.specs.Adds.{Adds}
use Rattle.trace_output.specs.Texts.{refused_text}
use Rattle.trace_whole.specs.Begins.{Opened, Refuses, Runs}

-- ---- What reading found.

-- A legal text: its image is in front of the buffer.
pub record Found (text : List ℕ) (n : ℕ) (I : List ℕ) : Type 0 where
  pub description : Description
  pub legal-text : read_text text ≡ legal description
  pub image : take n I ≡ encode description
  pub inside : n ≤ length I

pub found : (text I : List ℕ) (a : Result ℕ Refused) (n room : ℕ) → a ≡ Ok n → called a I ≡ R.read text room → Found text n I
unfolding R.read filled
found text I a n room q e = go (read_text text) refl (ap (λ (b : Result ℕ Refused). called b I) (sym q) ∙ e)
  where
    fill : (d : Description) → read_text text ≡ legal d → (b : Bool) → leb (length (encode d)) room ≡ b
        → called (Ok n) I ≡ cond b (record { answer = R.accepted (length (encode d)); image = encode d ++ zeroes (room - length (encode d)) }) (read_refused room BufferTooShort 0) → Found text n I
    fill d t true l f =
        let a : R.accepted n ≡ R.accepted (length (encode d)) = ap (λ (c : ReadCall). c.answer) f in
        let k : n ≡ length (encode d) = cc in
        let i : I ≡ encode d ++ zeroes (room - length (encode d)) = ap (λ (c : ReadCall). c.image) f in
        record {
          description = d;
          legal-text = t;
          image = ap (λ (m : ℕ). take m I) k ∙ (ap (take (length (encode d))) i ∙ take-append_seam (encode d) (zeroes (room - length (encode d))));
          inside = omega (arith, k, ap length i, length-append (encode d) (zeroes (room - length (encode d))));
        }
    fill d t false l f = let a : R.accepted n ≡ R.refused_for BufferTooShort 0 = ap (λ (c : ReadCall). c.answer) f in absurd (let z : ◌≡◌ {A = ℕ} 0 1 = cc in omega arith)

    go : (x : Read) → read_text text ≡ x → called (Ok n) I ≡ read_call room x → Found text n I
    go (legal d) t f = fill d t (leb (length (encode d)) room) refl f
    go (refused_at g) t f = let a : R.accepted n ≡ R.refused_for g.refusal g.at.place = ap (λ (c : ReadCall). c.answer) f in absurd (let z : ◌≡◌ {A = ℕ} 0 1 = cc in omega arith)

pub found-passes : {text : List ℕ} {n : ℕ} {I : List ℕ} → Found text n I → passes (take n I) ≡ true
found-passes {text} {n} {I} f =
    ap passes (f.image ∙ sym (append-nil (encode f.description))) ∙ reads-pass text f.description f.legal-text []

-- It is opened.
runs_so : {text : List ℕ} {n size space : ℕ} {I S R : List ℕ} → Found text n I → Opened (take n I) record_size size space S R → Runs text n size space I S R
unfolding trace trace_image
runs_so {text} {n} {size} {space} {I} {S} {R} f o = record {
  inside = f.inside;
  passed = found-passes f;
  is = o.is;
  fits = o.fits;
  same = λ lines.
      ap (after_read lines) f.legal-text
      ∙ (ap (λ (i : List ℕ). trace_image i lines) (sym f.image)
      ∙ (ap (λ (s : List ℕ). run_lines (take n I) (decode (take n I)) lines 0 s (open' (take n I) (store_size (decode (take n I))) record_size).record') (sym o.store)
      ∙ ap (λ (k : List ℕ). run_lines (take n I) (decode (take n I)) lines 0 (take size S) k) (sym o.record')));
}

pub runs : {text : List ℕ} {n m kept size space : ℕ} {I S R : List ℕ} → Found text n I → m ≡ n → kept ≡ record_size → Opened (take m I) kept size space S R → Runs text n size space I S R
runs {text} {n} {m} {kept} {size} {space} {I} {S} {R} f e k o =
    let p : Opened (take n I) kept size space S R = rw e at o in
    let q : Opened (take n I) record_size size space S R = rw k at p in
    runs_so f q

-- Its image and store, as parts of the buffers.
module _ {text : List ℕ} {n size space : ℕ} {I S R : List ℕ} (r : Runs text n size space I S R) where
  pub runs-ready : space ≤ length S → Ready (take (n - 0) I) (take (size - 0) S)
  runs-ready h =
      let z : n - 0 ≡ n = omega arith in
      let w : size - 0 ≡ size = omega arith in
      (ap (λ (m : ℕ). passes (take m I)) z ∙ r.passed, length-take-le (size - 0) S (omega (arith, r.fits)) ∙ (w ∙ (r.is ∙ ap (λ (m : ℕ). store_size (decode (take m I))) (sym z))))

  pub runs-printed : {A B C : List ℕ} {end : ℕ} (input : List ℕ) → Adds (run_lines (take (n - 0) I) (decode (take (n - 0) I)) (lines_of input) 0 (take (size - 0) S) R) B 0 C end → length B ≡ length A → Adds (printed text input) A 0 C end
  runs-printed {A} {B} {C} {end} input a h =
      let z : n - 0 ≡ n = omega arith in
      let w : size - 0 ≡ size = omega arith in
      let same : run_lines (take (n - 0) I) (decode (take (n - 0) I)) (lines_of input) 0 (take (size - 0) S) R ≡ printed text input =
      ap₂ (λ (m k : ℕ). run_lines (take m I) (decode (take m I)) (lines_of input) 0 (take k S) R) z w ∙ sym (r.same (lines_of input)) in
      let b : Adds (printed text input) B 0 C end = adds-as a same in
      record { long = b.long ∙ h; roomy = λ k. let d = b.roomy (omega (arith, k, h)) in record { place = d.place; text = d.text } }

-- The first bytes of a buffer B, which opening left as X.
module _ (image : List ℕ) (passed : passes image ≡ true) (B X : List ℕ) (a : Result (Unit {0}) Refusal) {size kept : ℕ} {K : List ℕ} where
  pub opened-is : 16384 ≤ length B → size ≡ store_size (decode image) → length X ≡ length (take (size - 0) B) → Opening.called a X K ≡ open' image (length (take (size - 0) B)) kept
      → Opened image kept size (length B) (X ++ drop (size - 0) B) K
  unfolding store_size
  opened-is h s l e =
      let b = passed-size image passed in
      let m : length (take (size - 0) B) ≡ size = length-take-le (size - 0) B (omega (arith, h, s, b)) ∙ omega arith in
      record {
        is = s;
        fits = omega (arith, h, s, b);
        store = take_at X (drop (size - 0) B) size (l ∙ m) ∙ (ap (λ (c : OpenCall). c.store) e ∙ ap (λ (n : ℕ). (open' image n kept).store) (m ∙ s));
        record' = ap (λ (c : OpenCall). c.record') e ∙ ap (λ (n : ℕ). (open' image n kept).record') (m ∙ s);
      }

-- ---- A refusal.

refused-short : (n place : ℕ) → n < 2 ^ 64 → place < 2 ^ 64 → length (refused_text n place) ≤ 50
unfolding bytes
refused-short n place h k =
    omega (arith, length-append (bytes "refused ") (decimal n ++ (bytes " " ++ (decimal place ++ line_end))), length-append (decimal n) (bytes " " ++ (decimal place ++ line_end)), length-append (bytes " ") (decimal place ++ line_end), length-append (decimal place) line_end, decimal-short n h, decimal-short place k)

pub refuses : (text I : List ℕ) (a : Result ℕ Refused) (n : Refusal) (place room : ℕ) {B C : List ℕ} {end : ℕ} → refusal_number n < 2 ^ 64 → place < 2 ^ 64 → a ≡ Err (record { refusal = n; place = place }) → called a I ≡ R.read text room → Adds (refused_text (refusal_number n) place) B 0 C end
    → ((d : Description) → read_text text ≡ legal d → length (encode d) ≤ room) → Refuses text B C end
unfolding R.read filled trace
refuses text I a n place room {B} {C} {end} v w q e x h =
    record { out = refused_text (refusal_number n) place; adds = x; short = refused-short (refusal_number n) place v w; same = λ lines. go lines (read_text text) refl (ap (λ (b : Result ℕ Refused). called b I) (sym q) ∙ e) }
  where
    no_room : (d : Description) → read_text text ≡ legal d → called (Err (record { refusal = n; place = place })) I ≡ with_room room (encode d) → ⊥
    no_room d t f =
        let g : called (Err (record { refusal = n; place = place })) I ≡ record { answer = R.accepted (length (encode d)); image = encode d ++ zeroes (room - length (encode d)) } = rw (le-leb (length (encode d)) room (h d t)) at f in
        let a : R.refused_for n place ≡ R.accepted (length (encode d)) = ap (λ (c : ReadCall). c.answer) g in
        let z : ◌≡◌ {A = ℕ} 0 1 = cc in omega arith

    go : (lines : List (List ℕ)) (y : Read) → read_text text ≡ y → called (Err (record { refusal = n; place = place })) I ≡ read_call room y → after_read lines y ≡ refused_text (refusal_number n) place
    go lines (legal d) t f = absurd (no_room d t f)
    go lines (refused_at g) t f =
        let a : R.refused_for n place ≡ R.refused_for g.refusal g.at.place = ap (λ (c : ReadCall). c.answer) f in
        let m : g.refusal ≡ n = cc in
        let p : g.at.place ≡ place = cc in
        rw (m, p) refl

pub refuses-printed : {text B C : List ℕ} {end : ℕ} (input : List ℕ) → Refuses text B C end → Adds (printed text input) B 0 C end
refuses-printed input r = adds-as r.adds (sym (r.same (lines_of input)))
