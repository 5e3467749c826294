-- END TO END: what reading accepts passes and is read back as the text's description; with room it opens; and from there every cycle with a stimulus of the right form completes, or stops for the first of 01's conditions that holds. Assumes nothing.
use Rattle.std.specs.Prelude.{Bool, cond, List, ◌++◌, ℕ, ◌-◌, ◌*◌, ◌≤◌}
use Rattle.std.proofs.Math.Bool.{true, false}
use Rattle.std.proofs.Math.Option.{none}
use Rattle.std.proofs.Math.Path.{◌≡◌, refl}
use Rattle.std.proofs.Common.{arith}
use borrow.Author.Tests.{le-leb, leb-true}
use Rattle.std.proofs.Math.Dec.{leb}
use Rattle.std.proofs.Math.ListN.{length}
use Rattle.language.specs.Calls.{open', open_refusal, opened}
use Rattle.language.specs.Decode.{decode}
use Rattle.language.specs.Description.{Description}
use Rattle.language.specs.Encode.{encode}
use Rattle.language.specs.Image.{passes}
use Rattle.language.specs.Layout.{store_size}
use Rattle.language.specs.Reading.{Read, ReadCall, accepted, filled, legal, read, read_call, read_refused, read_text, refused_at, zeroes}
use Rattle.language.specs.RecordBytes.{record_size}
use Rattle.about_calls.specs.PassesExactly.{reads-back, reads-pass}
use Rattle.about_bytes.specs.AnyRun.{AllFormed}
use Rattle.about_calls.specs.EachCycle.{Follows, from-opening}
use Rattle.language.specs.declared.refusals.Refusal.TheVariants.{BufferTooShort}

module _ (text : List ℕ) (room n : ℕ) where
  -- A text that was accepted: a legal description, whose bytes stand in front of the buffer.
  pub record Taken : Type 0 where
    pub description : Description
    pub legal-text : read_text text ≡ legal description
    pub written : (read text room).image ≡ encode description ++ zeroes (room - length (encode description))
    pub so-long : n ≡ length (encode description)
    pub fits : n ≤ room

  pub taken : (read text room).answer ≡ accepted n → Taken
  unfolding read filled
  taken e = by-text (read_text text) refl e
    where
      -- Where there is room, and where not.
      by-room : (d : Description) → read_text text ≡ legal d → (b : Bool) → leb (length (encode d)) room ≡ b
          → (cond {A = ReadCall} b (record { answer = accepted (length (encode d)); image = filled room (encode d) }) (read_refused room BufferTooShort 0)).answer ≡ accepted n → Taken
      by-room d q true k h = record { description = d; legal-text = q; written = rw (q, k) refl; so-long = cc; fits = let z : n ≡ length (encode d) = cc in omega (arith, leb-true (length (encode d)) room k, z) }
      by-room d q false k h = absurd (let z : ◌≡◌ {A = ℕ} 0 1 = cc in omega arith)

      by-text : (x : Read) → read_text text ≡ x → (read_call room x).answer ≡ accepted n → Taken
      by-text (legal d) q h = by-room d q (leb (length (encode d)) room) refl h
      by-text (refused_at f) q h = absurd (let z : ◌≡◌ {A = ℕ} 0 1 = cc in omega arith)

  module _ (accepts : (read text room).answer ≡ accepted n) where
    abbrev text-taken : Taken
    text-taken = taken accepts

    pub accepted-passes : passes (read text room).image ≡ true
    accepted-passes = rw text-taken.written (reads-pass text text-taken.description text-taken.legal-text _)

    pub accepted-described : decode (read text room).image ≡ (taken accepts).description
    accepted-described = rw text-taken.written (reads-back text text-taken.description text-taken.legal-text _)

    module _ (store record' : ℕ) (store-room : store_size (decode (read text room).image) ≤ store) (record-room : record_size ≤ record') where
      pub not-refused : open_refusal (read text room).image store record' ≡ none
      unfolding open_refusal
      not-refused = rw (accepted-passes, le-leb _ _ store-room, le-leb _ _ record-room) refl

      pub accepted-opens : (open' (read text room).image store record').answer ≡ opened
      unfolding open'
      accepted-opens = rw not-refused refl

      pub accepted-runs : (scratch : ℕ) (stimuli : List (List ℕ)) → 4 * store_size (decode (read text room).image) ≤ scratch → AllFormed (decode (read text room).image) stimuli
          → Follows (read text room).image scratch (open' (read text room).image store record').store (open' (read text room).image store record').record' stimuli
      accepted-runs scratch stimuli l k = from-opening (read text room).image store record' scratch stimuli not-refused l k
