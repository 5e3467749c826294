-- The tests of a run, each where those before it were passed. Assumes nothing.
use mathlib.Core.Bool.{Bool, true, false}
use mathlib.Core.List.{List}
use mathlib.Core.Option.{none, some}
use mathlib.Core.Path.{◌≡◌, refl, sym}
use Prim.Native.Nat.{ℕ, ◌*◌, ◌/◌, ◌≤◌, ◌<◌}
use native.Mathlib.Nat.{mul-le-mul}
use native.Mathlib.Omega.{arith}
use borrow.Author.Tests.{eq-eqb, le-leb, leb-false, leb-true, lt-leb, ne_eqb}
use lib.Dec.{leb}
use lib.ListN.{length}
use Rattle.about_running.specs.LegalForm.{left-of}
use Rattle.language.specs.Calls.{RunCall, all_well_formed, roomy, run, run_refusal, run_refused, sound_bytes, trace_roomy}
use Rattle.language.specs.Decode.{decode}
use Rattle.language.specs.Description.{Description}
use Rattle.language.specs.Image.{passes}
use Rattle.language.specs.Layout.{store_size}
use Rattle.language.specs.Reading.{zeroes}
use Rattle.language.specs.declared.refusals.Refusal.{Refusal}
use Rattle.language.specs.declared.refusals.Refusal.TheVariants.{BadStimulus, BufferTooShort, ImageFails, Unsound}

-- ---- Numbers.

pub product_small : (k m : ℕ) → k < 4294967296 → m ≤ 16384 → k * m ≤ 4294967296 * 16384
product_small k m h l = mul-le-mul {n₁ = k} {m₁ = m} {n₂ = 4294967296} {m₂ = 16384} (omega arith) l

module _ (d : Description) (count trace : ℕ) where
  pub no-trace : trace ≡ 0 → true ≡ trace_roomy d count trace
  no-trace e = rw (eq-eqb trace 0 e)

  pub some-trace : (trace ≡ 0 → ⊥) → (size : ℕ) → size ≡ store_size d → leb (count * size) trace ≡ trace_roomy d count trace
  some-trace h size e = rw (ne_eqb trace 0 h, e) refl

-- ---- Room.

module _ (d : Description) (store kept scratch : ℕ) where
  pub small-store : store < store_size d → false ≡ roomy d store kept scratch
  unfolding roomy
  small-store h = rw (lt-leb (store_size d) store h)

  pub room_store : roomy d store kept scratch ≡ true → store_size d ≤ store
  unfolding roomy
  room_store e = leb-true (store_size d) store (left-of (leb (store_size d) store) _ e)

  module _ (h : store_size d ≤ store) where
    pub small-record : kept < 80 → false ≡ roomy d store kept scratch
    unfolding roomy
    small-record k = rw (le-leb (store_size d) store h, lt-leb 80 kept k)

    -- Four times the store, without a product.
    pub rest-of-room : 80 ≤ kept → (size : ℕ) → size ≡ store_size d → leb size (scratch / 4) ≡ roomy d store kept scratch
    unfolding roomy
    rest-of-room k size e = rw (le-leb (store_size d) store h, le-leb 80 kept k) (by-test (leb size (scratch / 4)) refl)
      where
        by-test : (b : Bool) → leb size (scratch / 4) ≡ b → b ≡ leb (4 * store_size d) scratch
        by-test true t = let l = leb-true size (scratch / 4) t in sym (le-leb (4 * store_size d) scratch (omega (arith, l, e)))
        by-test false t = let l = leb-false size (scratch / 4) t in sym (lt-leb (4 * store_size d) scratch (omega (arith, l, e)))

-- ---- The tests in their order.

module _ (image store kept stimuli : List ℕ) (count scratch trace : ℕ) where
  pub no-image : passes image ≡ false → some ImageFails ≡ run_refusal image store kept stimuli count scratch trace
  unfolding run_refusal
  no-image e = rw e

  module _ (p : passes image ≡ true) where
    pub no_room : roomy (decode image) (length store) (length kept) scratch ≡ false → some BufferTooShort ≡ run_refusal image store kept stimuli count scratch trace
    unfolding run_refusal
    no_room e = rw (p, e)

    module _ (r : roomy (decode image) (length store) (length kept) scratch ≡ true) where
      pub no-trace-room : trace_roomy (decode image) count trace ≡ false → some BufferTooShort ≡ run_refusal image store kept stimuli count scratch trace
      unfolding run_refusal
      no-trace-room e = rw (p, r, e)

      module _ (q : trace_roomy (decode image) count trace ≡ true) where
        pub not_sound : sound_bytes (decode image) store kept ≡ false → some Unsound ≡ run_refusal image store kept stimuli count scratch trace
        unfolding run_refusal
        not_sound e = rw (p, r, q, e)

        module _ (s : sound_bytes (decode image) store kept ≡ true) where
          pub not-formed : all_well_formed (decode image) count stimuli ≡ false → some BadStimulus ≡ run_refusal image store kept stimuli count scratch trace
          unfolding run_refusal
          not-formed e = rw (p, r, q, s, e)

          pub no-refusal : all_well_formed (decode image) count stimuli ≡ true → none ≡ run_refusal image store kept stimuli count scratch trace
          unfolding run_refusal
          no-refusal e = rw (p, r, q, s, e)

  -- What a refusal leaves.
  abbrev refused_call : Refusal → RunCall
  refused_call n = record { answer = run_refused n; store = store; record' = kept; scratch = zeroes scratch; trace = zeroes trace }

  pub refused-so : (n : Refusal) → some n ≡ run_refusal image store kept stimuli count scratch trace → refused_call n ≡ run image store kept stimuli count scratch trace
  unfolding run
  refused-so n e = rw (← e) refl
