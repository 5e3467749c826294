-- A run so far, with its record by value: the record's bytes are those lent until a cycle has completed. Assumes nothing.
use mathlib.Core.List.{List}
use mathlib.Core.Path.{◌≡◌, refl, ap, ◌∙◌}
use Prim.Native.Nat.{ℕ, zero, suc, ◌+◌, ◌<◌}
use native.Mathlib.Omega.{arith}
use lib.ListN.{drop, length, take}
use lib.Seq.{drop-append_seam}
use Rattle.language.specs.Calls.{cycle, cycled, over, stimulus_size}
use Rattle.language.specs.Decode.{decode}
use Rattle.language.specs.Layout.{store_size}
use Rattle.language.specs.Reading.{zeroes}
use Rattle.language.specs.RecordBytes.{record_bytes, record_from, record_size}
use Rattle.language.specs.Step.{Record}
use Rattle.image_records.specs.Placed.{placed}
use Rattle.run_left.specs.Kept.{kept_record}
use Rattle.run_advance.specs.Carried.{ReadBack}
use Rattle.call_stimuli.proofs.RunLaws.{Left, left-all, left-more}
use Rattle.image_sections.specs.declared.sections.Sections.{Sections}
use Rattle.call_stimuli.specs.Lent.{Lent}

-- The run of `count` cycles that began with B₀ and K₀, after n of them, which came to r.
pub record SoFar (image S : List ℕ) (count scratch : ℕ) (B₀ K₀ B : List ℕ) (r : Record) (T : List ℕ) (n conflicts at to : ℕ) : Type 0 where
  pub left : Left image S count scratch B₀ K₀ B (kept_record n r K₀) T n conflicts at to
  pub read : record_from (kept_record n r K₀) ≡ r
  pub whole : 0 < n → length (record_bytes r) ≡ record_size

-- Of two records written one over the other, the later is left.
kept-over : (n : ℕ) (r q : Record) (K : List ℕ) → (0 < n → length (record_bytes r) ≡ record_size) → length (record_bytes q) ≡ record_size → over (record_bytes q) (kept_record n r K) ≡ kept_record (n + 1) q K
kept-over zero r q K h e = refl
kept-over (suc n) r q K h e =
    let m : suc n + 1 ≡ suc (suc n) = omega arith in
    let f = h (omega arith) in
    let x : length (record_bytes q) ≡ length (record_bytes r) = omega (arith, e, f) in
    let y = ap (λ (k : ℕ). drop k (over (record_bytes r) K)) x ∙ drop-append_seam (record_bytes r) (drop (length (record_bytes r)) K) in
    rw (m, y, x) refl

pub so-far-none : (image K : List ℕ) (n : ℕ) (x : Sections) (r : Record) (B stimuli : List ℕ) (cycles : ℕ) (W P M T : List ℕ) → Lent image K n x r B stimuli cycles W P M T → SoFar image stimuli cycles n B K B r T 0 0 0 0
so-far-none image K n x r B stimuli cycles W P M T l =
    record { left = left-all image stimuli cycles n B K T l.free l.clear; read = l.read; whole = λ h. absurd (omega (arith, h)) }

module _ (image S : List ℕ) (count scratch : ℕ) (B₀ K₀ B : List ℕ) (r : Record) (T : List ℕ) (n conflicts at to : ℕ) (h : n < count) (s : SoFar image S count scratch B₀ K₀ B r T n conflicts at to) where
  pub so_far_more : (B' : List ℕ) (q : Record) (c : ℕ) → ReadBack q → length B' ≡ length B
      → record { answer = cycled c; store = B'; record' = over (record_bytes q) (kept_record n r K₀); scratch = zeroes scratch } ≡ cycle image B (kept_record n r K₀) (take (stimulus_size (decode image)) (drop at S)) scratch
      → SoFar image S count scratch B₀ K₀ B' q (placed T to (take (store_size (decode image)) B')) (n + 1) (conflicts + c) (at + stimulus_size (decode image)) (to + store_size (decode image))
  so_far_more B' q c b e g =
      let k = kept-over n r q K₀ s.whole b.whole in record {
        left = rw (← k) (left-more image S count scratch B₀ K₀ B (kept_record n r K₀) T n conflicts at to h s.left B' (over (record_bytes q) (kept_record n r K₀)) c g e);
        read = rw (← k) (b.back (kept_record n r K₀));
        whole = λ z. b.whole;
      }
