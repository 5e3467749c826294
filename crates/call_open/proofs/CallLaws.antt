-- The call by its tests. Assumes nothing.
use Rattle.std.specs.Prelude.{Err, Ok}
use mathlib.Core.Bool.{Bool, true, false}
use mathlib.Core.List.{List}
use mathlib.Core.Path.{◌≡◌, sym, ap, ◌∙◌}
use Prim.Native.Nat.{ℕ, ◌≤◌}
use borrow.Author.Tests.{leb-true}
use lib.Dec.{leb}
use lib.ListN.{length, length-replicate}
use Rattle.language.specs.Calls.{open', open_refusal, open_words}
use Rattle.language.specs.Decode.{decode}
use Rattle.language.specs.Description.{Description}
use Rattle.language.specs.Image.{passes}
use Rattle.language.specs.Layout.{store_size}
use Rattle.language.specs.Reading.{filled, zeroes}
use Rattle.language.specs.RecordBytes.{record_bytes, record_size}
use Rattle.language.specs.Step.{open_record}
use Rattle.language.specs.Store.{to_bytes}
use Rattle.about_running.specs.LegalForm.{left-of, right_of}
use Rattle.call_answers.specs.Opening.{called}
use Rattle.language.specs.declared.refusals.Refusal.TheVariants.{BufferTooShort, ImageFails}
use Rattle.language.specs.Tests.{both}

-- s and t are the two buffers once they are zero.
module _ (image s₀ t₀ : List ℕ) {s t : List ℕ} (e : s ≡ zeroes (length s₀)) (f : t ≡ zeroes (length t₀)) where
  abbrev enough : Bool
  enough = both (leb (store_size (decode image)) (length s)) (leb record_size (length t))

  long-store : length s ≡ length s₀
  long-store = ap length e ∙ length-replicate (length s₀) 0

  long-record : length t ≡ length t₀
  long-record = ap length f ∙ length-replicate (length t₀) 0

  pub no-image : passes image ≡ false → called (Err ImageFails) s t ≡ open' image (length s₀) (length t₀)
  unfolding open' open_refusal
  no-image p = rw (p, e, f)

  module _ (p : passes image ≡ true) where
    pub no_room : enough ≡ false → called (Err BufferTooShort) s t ≡ open' image (length s₀) (length t₀)
    unfolding open' open_refusal
    no_room r = rw (p, rw (long-store, long-record) at r, e, f)

    module _ (r : enough ≡ true) where
      pub store-room : store_size (decode image) ≤ length s
      store-room = leb-true _ _ (left-of (leb (store_size (decode image)) (length s)) _ r)

      record-room : record_size ≤ length t
      record-room = leb-true record_size (length t) (right_of (leb (store_size (decode image)) (length s)) _ r)

      pub all_right : {u v : List ℕ} → (s ≡ zeroes (length s) → u ≡ filled (length s) (to_bytes (decode image).facilities (open_words (decode image))))
          → ((d : Description) → t ≡ zeroes (length t) → record_size ≤ length t → v ≡ filled (length t) (record_bytes (open_record d)))
          → called (Ok tt) u v ≡ open' image (length s₀) (length t₀)
      unfolding open' open_refusal
      all_right g h =
          rw (p, rw (long-store, long-record) at r, g (e ∙ ap zeroes (sym long-store)), h (decode image) (f ∙ ap zeroes (sym long-record)) record-room, long-store, long-record)
