-- A cycle on a working copy that is settled: what is kept of it is what its call owes. Assumes nothing.
use mathlib.Core.List.{List}
use mathlib.Core.Option.{none}
use mathlib.Core.Path.{◌≡◌, ap, ◌∙◌}
use Prim.Native.Nat.{ℕ}
use native.Mathlib.Omega.{arith}
use lib.ListN.{length, replicate, take}
use Rattle.std.specs.Prelude.{Result}
use Rattle.language.specs.Calls.{after_step, cycle, cycle_refusal}
use Rattle.language.specs.Decode.{decode}
use Rattle.language.specs.Layout.{store_size}
use Rattle.language.specs.RecordBytes.{record_from}
use Rattle.language.specs.Store.{from_bytes}
use Rattle.image_sections.specs.declared.sections.Sections.{Sections}
use Rattle.store_layout.specs.Layout.{Bytes}
use Rattle.store_layout.specs.Slices.{copied}
use Rattle.run_references.specs.declared.worth.Halted.{Halted}
use Rattle.run_next.specs.Seen.{record_meant}
use Rattle.run_next.specs.declared.record.Record.{Record}
use Rattle.run_end.specs.Stepped.{Clear}
use Rattle.run_end.specs.declared.outcome.Stepped.{Stepped}
use Rattle.run_left.specs.Kept.{called, kept_store}
use Rattle.run_advance.proofs.CarryLaws.{copy-means, cycle-is, free-passes, stimulus-there, store-there}
use Rattle.run_advance.proofs.CopyLaws.{back-so, copied-front, kept-so}
use Rattle.run_advance.proofs.WorkLaws.{all-counted, operations-many, passed-acts, passed-enters}
use Rattle.run_advance.specs.Carried.{Sliced, completed_back}
use Rattle.run_advance.specs.Settled.{Settled}

-- On the store B, whose copy W was made over V, with the mask M of zeroes: the answer a leaves the copy as L.
module _ (x : Sections) (r : Record) (i B K t V W P M L : List ℕ) (n m : ℕ) (a : Result Stepped Halted) where
  pub settled-so :
      Sliced i x
      → record_from K ≡ record_meant r
      → cycle_refusal i B K t n ≡ none
      → Bytes B
      → length V ≡ store_size (decode i)
      → length P ≡ store_size (decode i)
      → m ≡ store_size (decode i)
      → W ≡ copied V B
      → length W ≡ length V
      → M ≡ replicate m 0
      → Bytes L
      → length L ≡ length W
      → Settled x r t W P M a L
      → (called a (kept_store a L B) K n ≡ cycle i B K t n) × completed_back a
  unfolding store_size
  settled-so sliced read free are lv lp lm copy same zeroed left-are left-long settled =
      let p = free-passes i B K t n free in
      let long : length W ≡ store_size (decode i) = same ∙ lv in
      let room = store-there i B K t n free in
      let made = copy ∙ (copied-front V B (omega (arith, lv, room)) ∙ ap (λ (m : ℕ). take m B) lv) in
      let means = ap (from_bytes (decode i).facilities) made ∙ copy-means i B K t n free are in
      let alike : m ≡ length W = omega (arith, lm, long) in
      let clear : Clear W P M = record { pending = omega (arith, lp, long); mask = zeroed ∙ ap (λ (m : ℕ). replicate m 0) alike } in
      let ran = settled.means (decode i)
      (rw (sliced.facilities-are, sliced.expressions-are, sliced.states-are) (passed-enters i p))
      (rw (sliced.facilities-are, sliced.operations-are, sliced.expressions-are, sliced.actions-are, sliced.states-are) (passed-acts i p))
      (rw sliced.operations-are (operations-many i p))
      (omega (arith, long))
      (stimulus-there i B K t n free)
      clear
      ∙ all-counted i p _ _ _ in
      let there = rw (means, ← read) at ran in (
        kept-so (decode i) a B K L n left-are (omega (arith, left-long, long)) room
            ∙ (ap (after_step (decode i) B K n) there ∙ cycle-is i B K t n free),
        back-so i B K t L n free a there,
      )
