-- A working copy: made of the store's first bytes, and kept in front of what lies beyond them. Assumes nothing.
use mathlib.Core.List.{List, [], ◌∷◌}
use mathlib.Core.Option.{none}
use mathlib.Core.Path.{◌≡◌, refl, sym, ap, ◌∙◌}
use Prim.Native.Nat.{ℕ, ◌≤◌}
use native.Mathlib.Omega.{arith}
use lib.ListN.{length, take}
use lib.Seq.{take-length}
use Rattle.language.specs.Calls.{after_step, cycle_refusal, over}
use Rattle.language.specs.Description.{Description, Facility}
use Rattle.language.specs.Layout.{store_size_of}
use Rattle.language.specs.Decode.{decode}
use Rattle.language.specs.RecordBytes.{record_from}
use Rattle.language.specs.Step as S
use Rattle.language.specs.Store.{from_bytes, inputs_of, to_bytes}
use Rattle.about_bytes.specs.StaysSound.{completed-back}
use Rattle.store_layout.proofs.Inverse.{bytes-again}
use Rattle.store_layout.specs.Layout.{Bytes}
use Rattle.store_layout.specs.Slices.{copied}
use Rattle.std.specs.Prelude.{Err, Ok, Result}
use Rattle.run_references.specs.declared.worth.Halted.{Halted}
use Rattle.run_references.specs.declared.worth.Halted.TheVariants as H
use Rattle.run_end.specs.Stepped.{stepped}
use Rattle.run_end.specs.declared.outcome.Stepped.{Stepped}
use Rattle.run_left.specs.Kept.{called, kept_store}
use Rattle.run_advance.specs.Carried.{completed_back}

pub copied-over : (B X : List ℕ) → length X ≤ length B → copied B X ≡ over X B
unfolding copied
copied-over [] [] h = refl
copied-over [] (x ∷ xs) h = absurd (omega arith)
copied-over (b ∷ bs) [] h = refl
copied-over (b ∷ bs) (x ∷ xs) h = ap (λ (l : List ℕ). x ∷ l) (copied-over bs xs (omega arith))

-- A shorter copy has the first bytes.
pub copied-front : (W B : List ℕ) → length W ≤ length B → copied W B ≡ take (length W) B
unfolding copied
copied-front [] B h = refl
copied-front (w ∷ ws) [] h = absurd (omega arith)
copied-front (w ∷ ws) (b ∷ bs) h = ap (λ (l : List ℕ). b ∷ l) (copied-front ws bs (omega arith))

-- The bytes of its words are the copy itself.
pub copy-kept : (fs : List Facility) (B X : List ℕ) → Bytes X → length X ≡ store_size_of fs → store_size_of fs ≤ length B → copied B X ≡ over (to_bytes fs (from_bytes fs X)) B
copy-kept fs B X are e h =
    let t : to_bytes fs (from_bytes fs X) ≡ X = bytes-again fs X are (omega (arith, e)) ∙ (ap (λ (n : ℕ). take n X) (sym e) ∙ take-length X) in
    copied-over B X (omega (arith, e, h)) ∙ ap (λ (l : List ℕ). over l B) (sym t)

-- What is kept of a cycle is what its call owes.
pub kept-so : (d : Description) (a : Result Stepped Halted) (B K W : List ℕ) (n : ℕ) → Bytes W → length W ≡ store_size_of d.facilities → store_size_of d.facilities ≤ length B
    → called a (kept_store a W B) K n ≡ after_step d B K n (stepped d.facilities a W)
kept-so d (Ok a) B K W n are e h = ap (λ (s : List ℕ). called (Ok a) s K n) (copy-kept d.facilities B W are e h)
kept-so d (Err (H.Stopped k)) B K W n are e h = refl
kept-so d (Err (H.Stuck x)) B K W n are e h = refl

-- The record of a completed cycle is read back.
pub back-so : (image B K t W : List ℕ) (n : ℕ) → cycle_refusal image B K t n ≡ none → (a : Result Stepped Halted)
    → stepped (decode image).facilities a W ≡ S.step (decode image) (from_bytes (decode image).facilities B) (record_from K) (from_bytes (inputs_of (decode image).facilities) t) → completed_back a
back-so image B K t W n free (Ok a) e =
    record { back = λ rest. (completed-back image B K t n free rest (sym e)).0; whole = (completed-back image B K t n free K (sym e)).1 }
back-so image B K t W n free (Err h) e = tt
