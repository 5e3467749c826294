-- A cycle that is not refused: enough bytes, a record within its ranges, and a working copy that stands for the store. Assumes nothing.
use mathlib.Core.Bool.{true}
use mathlib.Core.List.{List}
use mathlib.Core.Option.{none}
use mathlib.Core.Path.{◌≡◌, sym, ap, ◌∙◌}
use Prim.Native.Nat.{ℕ, ◌*◌, ◌≤◌}
use native.Mathlib.Omega.{arith}
use borrow.Author.Tests.{eqb-true, leb-true}
use lib.Dec.{eqb, leb, ltb}
use lib.ListN.{length, take}
use Rattle.language.specs.Calls.{after_step, cycle, cycle_refusal, roomy, sound_bytes, stimulus_size, well_formed}
use Rattle.language.specs.Decode.{decode}
use Rattle.language.specs.Description.{Description}
use Rattle.language.specs.Image.{passes}
use Rattle.language.specs.Layout.{store_size}
use Rattle.language.specs.RecordBytes.{marked, record_from, record_size, returns_sound, sound}
use Rattle.language.specs.Step.{step}
use Rattle.language.specs.Ceilings.{most_returns}
use Rattle.language.specs.Store.{from_bytes, inputs_of, narrow}
use Rattle.about_running.specs.LegalForm.{left-of, right_of}
use Rattle.about_running.specs.Soundness.{sound-so}
use Rattle.about_bytes.specs.StaysSound.{Unrefused, unrefused}
use Rattle.store_layout.proofs.Inverse.{bytes-again, words_same}
use Rattle.store_layout.proofs.StoreWords.{shaped_from}
use Rattle.store_layout.specs.Layout.{Bytes}
use Rattle.language.specs.Tests.{both}

module _ (image store kept stimulus : List ℕ) (scratch : ℕ) (free : cycle_refusal image store kept stimulus scratch ≡ none) where
  abbrev d : Description
  d = decode image

  there : Unrefused image store kept stimulus scratch
  there = unrefused image store kept stimulus scratch free

  pub free-passes : passes image ≡ true
  free-passes = there.passing

  pub store-there : store_size (decode image) ≤ length store
  unfolding roomy
  store-there = leb-true (store_size d) (length store) (left-of (leb (store_size d) (length store)) _ there.room)

  more_room : both (leb record_size (length kept)) (leb (4 * store_size d) scratch) ≡ true
  unfolding roomy
  more_room = right_of (leb (store_size d) (length store)) _ there.room

  pub record-there : 80 ≤ length kept
  record-there = leb-true record_size (length kept) (left-of (leb record_size (length kept)) _ more_room)

  pub scratch-there : store_size (decode image) ≤ scratch
  scratch-there = let h = leb-true (4 * store_size d) scratch (right_of (leb record_size (length kept)) _ more_room) in omega (arith, h)

  pub stimulus-there : stimulus_size (decode image) ≤ length stimulus
  unfolding well_formed
  stimulus-there = let e = eqb-true (length stimulus) (stimulus_size d) (left-of (eqb (length stimulus) (stimulus_size d)) _ there.form) in omega (arith, e)

  sound-there : sound d (from_bytes d.facilities store) (record_from kept) ≡ true
  unfolding sound_bytes
  sound-there = right_of (marked kept) _ there.sound-there

  pub few-held : (record_from kept).held ≤ 16
  unfolding most_returns
  few-held = (sound-so d store kept sound-there).returns-in.most

  -- The first bytes of the store stand for all of it.
  pub copy-means : Bytes store → from_bytes (decode image).facilities (take (store_size (decode image)) store) ≡ from_bytes (decode image).facilities store
  unfolding sound store_size
  copy-means are =
      let fs = d.facilities in
      let n = left-of (narrow fs (from_bytes fs store)) _ (right_of (returns_sound (length d.states) (record_from kept).held (record_from kept).returns) _ (right_of (leb (record_from kept).held most_returns) _ (right_of (ltb (record_from kept).state (length d.states)) _ sound-there))) in
      ap (from_bytes fs) (sym (bytes-again fs store are store-there)) ∙ words_same fs (from_bytes fs store) (shaped_from fs store) n

  pub cycle-is : after_step (decode image) store kept scratch (step (decode image) (from_bytes (decode image).facilities store) (record_from kept) (from_bytes (inputs_of (decode image).facilities) stimulus)) ≡ cycle image store kept stimulus scratch
  unfolding cycle
  cycle-is = rw free
