-- ANY RUN, to the byte: from opening on, with stimuli of the right form, every cycle is answered with a conflict count of at most 65,536 or with a stop, and none is refused. Assumes nothing.
use Rattle.std.specs.Prelude.{true, List, [], ◌∷◌, ◌≡◌, ℕ, ◌-◌, ◌*◌, ◌≤◌, leb, length}
use Rattle.std.proofs.Math.Option.{none}
use Rattle.std.proofs.Math.Path.{refl}
use Rattle.std.proofs.Common.{arith, length-append}
use borrow.Author.Tests.{le-leb, leb-true}
use Rattle.std.proofs.lemmas.List.{length-replicate}
use Rattle.language.specs.Calls.{after_step, cycle, cycle_refusal, cycled, open', open_refusal, open_words, roomy, sound_bytes, stopped_for, well_formed}
use Rattle.language.specs.Decode.{decode}
use Rattle.language.specs.Description.{Description}
use Rattle.language.specs.Image.{passes}
use Rattle.language.specs.Layout.{store_size}
use Rattle.language.specs.Reading.{filled, zeroes}
use Rattle.language.specs.RecordBytes.{record_bytes, record_from, record_size}
use Rattle.language.specs.declared.refusals.Refusal.TheVariants.{BufferTooShort, ImageFails}
use Rattle.language.specs.Ceilings.{most_work}
use Rattle.language.specs.Step.{Outcome, completed, open_record, step}
use Rattle.language.specs.declared.stops.Stop.{Stop}
use Rattle.language.specs.Store.{from_bytes, inputs_of, to_bytes}
use Rattle.about_bytes.specs.StaysSound.{both_left, both_right, no-refusal, record-length, stays-sound, unrefused, written-sound}
use Rattle.about_bytes.specs.StoreBack.{both_so, store_length}
use Rattle.about_running.specs.Cycle.{Sound, Well}
use Rattle.about_running.specs.FewConflicts.{few-conflicts}
use Rattle.about_running.specs.NeverStuck.{legal-image, never_stuck, not_first, opens-sound}
use Rattle.language.specs.Tests.{both}

-- Cycle after cycle: the first goes on from a store and a record, each other from what the one before it left.
pub data Goes (image : List ℕ) (scratch : ℕ) : List ℕ → List ℕ → List (List ℕ) → Type 0 where
  over : {store record' : List ℕ} → Goes image scratch store record' []
  completes : {store record' stimulus : List ℕ} {more : List (List ℕ)} (n : ℕ) → (cycle image store record' stimulus scratch).answer ≡ cycled n → n ≤ most_work
      → Goes image scratch (cycle image store record' stimulus scratch).store (cycle image store record' stimulus scratch).record' more → Goes image scratch store record' (stimulus ∷ more)
  stops : {store record' stimulus : List ℕ} {more : List (List ℕ)} (n : Stop) → (cycle image store record' stimulus scratch).answer ≡ stopped_for n
      → Goes image scratch store record' more → Goes image scratch store record' (stimulus ∷ more)

abbrev pub AllFormed : Description → List (List ℕ) → Type 0
AllFormed d [] = Unit {0}
AllFormed d (i ∷ is) = (well_formed d i ≡ true) × AllFormed d is

-- A store and a record from which a cycle with a stimulus of the right form is not refused.
pub record Ready (image store record' : List ℕ) (scratch : ℕ) : Type 0 where
  pub unrefused-with : (stimulus : List ℕ) → well_formed (decode image) stimulus ≡ true → cycle_refusal image store record' stimulus scratch ≡ none

-- What a cycle comes to.
pub data Answered (image store record' stimulus : List ℕ) (scratch : ℕ) : Type 0 where
  completed-so : (n : ℕ) → (cycle image store record' stimulus scratch).answer ≡ cycled n → n ≤ most_work → Answered image store record' stimulus scratch
  stopped-so : (n : Stop) → (cycle image store record' stimulus scratch).answer ≡ stopped_for n → Answered image store record' stimulus scratch

module _ (image store record' stimulus : List ℕ) (scratch : ℕ) (none-refused : cycle_refusal image store record' stimulus scratch ≡ none) where
  abbrev d : Description
  d = decode image

  answer-so : {o : Outcome} → step d (from_bytes d.facilities store) (record_from record') (from_bytes (inputs_of d.facilities) stimulus) ≡ o → (cycle image store record' stimulus scratch).answer ≡ (after_step d store record' scratch o).answer
  unfolding cycle
  answer-so q = rw (none-refused, q) refl

  pub answered : Answered image store record' stimulus scratch
  answered = go (step d (from_bytes d.facilities store) (record_from record') (from_bytes (inputs_of d.facilities) stimulus)) refl (never_stuck image store record' stimulus scratch none-refused)
    where
      go : (o : Outcome) → step d (from_bytes d.facilities store) (record_from record') (from_bytes (inputs_of d.facilities) stimulus) ≡ o → Well d o → Answered image store record' stimulus scratch
      go (completed s r n) q h =
          completed-so n (answer-so q) (few-conflicts d (legal-image image (unrefused image store record' stimulus scratch none-refused).passing) _ _ _ q)
      go (Outcome.stopped n) q h = stopped-so n (answer-so q)
      go (Outcome.stuck _) q h = elim h [ ]

pub ready-runs : (image store record' : List ℕ) (scratch : ℕ) (is : List (List ℕ)) → Ready image store record' scratch → AllFormed (decode image) is → Goes image scratch store record' is
ready-runs image store record' scratch [] h k = over
ready-runs image store record' scratch (i ∷ is) h k =
    go (λ s r x. ready-runs image s r scratch is x k.1) (answered image store record' i scratch (h.unrefused-with i k.0))
  where
    go : ((s r : List ℕ) → Ready image s r scratch → Goes image scratch s r is) → Answered image store record' i scratch → Goes image scratch store record' (i ∷ is)
    go on (completed-so n e l) = completes n e l (on _ _ (record { unrefused-with = λ next w. stays-sound image store record' i scratch (h.unrefused-with i k.0) n next e w }))
    go on (stopped-so n e) = stops n e (on store record' h)

-- ---- Opening.

filled-length : (n : ℕ) (bs : List ℕ) → length bs ≤ n → length (filled n bs) ≡ n
unfolding filled
filled-length n bs l = let a = length-append bs (zeroes (n - length bs)) in let b = length-replicate {A = ℕ} (n - length bs) 0 in omega (arith, a, b, l)

module _ (image : List ℕ) (store record' scratch : ℕ) (none-refused : open_refusal image store record' ≡ none) (enough : 4 * store_size (decode image) ≤ scratch) where
  abbrev described : Description
  described = decode image

  opened-sound : passes image ≡ true → Sound described (open_words described) (open_record described)
      → sound_bytes described (filled store (to_bytes described.facilities (open_words described))) (filled record' (record_bytes (open_record described))) ≡ true
  unfolding filled
  opened-sound p h = written-sound image p (open_words described) (open_record described) _ _ h (omega arith)

  opened-room : Sound described (open_words described) (open_record described) → store_size described ≤ store → record_size ≤ record'
      → roomy described (length (filled store (to_bytes described.facilities (open_words described)))) (length (filled record' (record_bytes (open_record described)))) scratch ≡ true
  unfolding roomy store_size
  opened-room h s r =
      let n = store_length described.facilities (open_words described) h.words in
      let m = record-length (open_record described) h.returns-in.places in
      rw (filled-length store (to_bytes described.facilities (open_words described)) (omega (arith, n, s)), filled-length record' (record_bytes (open_record described)) (omega (arith, m, r)))
      (both_so (le-leb _ _ s) (both_so (le-leb record_size record' r) (le-leb _ _ enough)))

  pub opens-ready : Ready image (open' image store record').store (open' image store record').record' scratch
  unfolding open' open_refusal
  opens-ready =
      let a = not_first (passes image) ImageFails _ none-refused in
      let b = (not_first (both (leb (store_size described) store) (leb record_size record')) BufferTooShort none a.1).0 in
      let h = opens-sound image a.0 in
      let room_store = leb-true (store_size described) store (both_left _ _ b) in
      let room-record = leb-true record_size record' (both_right (leb (store_size described) store) _ b) in
      rw none-refused (record {
        unrefused-with = λ stimulus w. no-refusal image _ _ stimulus scratch (record {
          passing = a.0;
          room = opened-room h room_store room-record;
          sound-there = opened-sound a.0 h;
          form = w;
        });
      })

-- The whole: opened, then any stimuli of the right form.
pub any-run : (image : List ℕ) (store record' scratch : ℕ) (is : List (List ℕ)) → open_refusal image store record' ≡ none → 4 * store_size (decode image) ≤ scratch → AllFormed (decode image) is
    → Goes image scratch (open' image store record').store (open' image store record').record' is
any-run image store record' scratch is e l k = ready-runs image _ _ scratch is (opens-ready image store record' scratch e l) k
