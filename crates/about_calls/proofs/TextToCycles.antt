-- FROM A TEXT TO ITS CYCLES: a text is accepted exactly when it is legal and there is room for its image; its image opens, given room; and from there the calls for cycles go through just that course which `step` of the text's description takes, to the byte. Assumes nothing.
use Rattle.std.specs.Prelude.{true, ◌≡◌, ℕ, zero, suc, ◌-◌, ◌*◌, ◌≤◌, length}
use mathlib.Core.List.{List, [], ◌∷◌, ◌++◌}
use Rattle.std.proofs.Math.Option.{none}
use Rattle.std.proofs.Math.Path.{refl, ap, subst}
use Rattle.std.proofs.Common.{sym, ap₂, ◌∙◌}
use native.Mathlib.Omega.{arith}
use borrow.Author.Tests.{le-leb}
use Rattle.language.specs.Ceilings.{most_returns}
use Rattle.language.specs.Calls.{CycleCall, after_step, cycle, cycle_refusal, open', open_refusal, open_with, open_words}
use Rattle.language.specs.Decode.{decode}
use Rattle.language.specs.DescribeText.{describe}
use Rattle.language.specs.Description.{Description}
use Rattle.language.specs.Encode.{encode}
use Rattle.language.specs.Image.{passes}
use Rattle.language.specs.Layout.{store_size}
use Rattle.language.specs.Reading.{ReadCall, filled, read, zeroes}
use Rattle.language.specs.Reading as Reading
use Rattle.language.specs.RecordBytes.{record_from, record_size}
use Rattle.language.specs.Step.{Outcome, Record, completed, open_record, step, stopped}
use Rattle.language.specs.Store.{StoreWords, from_bytes, inputs_of}
use Rattle.language.specs.Tree.{Text}
use Rattle.language.specs.declared.stops.Stop.{Stop}
use Rattle.about_running.specs.Cycle.{Well, completes}
use Rattle.about_running.specs.NeverStuck.{never_stuck, opens-sound}
use Rattle.about_bytes.specs.AnyRun.{AllFormed, Ready, opens-ready}
use Rattle.about_bytes.specs.RecordBack.{InWords, Words32, record-back}
use Rattle.about_bytes.specs.StaysSound.{completed-back}
use Rattle.about_bytes.specs.StoreBack.{store-back}
use Rattle.about_reading.proofs.ReadsExactly as R
use Rattle.about_reading.specs.ReadsExactly.{LegalText}
use Rattle.about_reading.proofs.ReadsExactly.{accepts}
use Rattle.about_calls.specs.EachCycle.{ready-again}
use Rattle.about_calls.specs.EndToEnd.{accepted-passes, not-refused, taken}
use Rattle.about_calls.specs.PassesExactly.{reads-back}
use Rattle.about_calls.specs.TextToCycles.{AllShow, Course, Fits, FromText, ItsCycles, Shows, Through, a-cycle, and-more, a-stop, calls, goes_on, inputs, its_image, no_more, over, owed, stops}

module _ (text : List ℕ) (room : ℕ) where
  -- The length of its image is answered, and that image left, followed by zeroes.
  pub legal-accepted : (t : Text) → LegalText text t → length (encode (describe t).description) ≤ room
      → read text room ≡ record { answer = Reading.accepted (length (encode (describe t).description)); image = encode (describe t).description ++ zeroes (room - length (encode (describe t).description)) }
  unfolding read filled
  legal-accepted t h l = rw (accepts text t h, le-leb _ _ l) refl

  pub accepted-legal : (n : ℕ) → (read text room).answer ≡ Reading.accepted n → Fits text room n
  accepted-legal n e =
      let k = taken text room n e in
      let a = R.accepted text k.description k.legal-text in
      record {
        tree = a.tree;
        legal-text = a.legal-text;
        so-long = k.so-long ∙ ap (λ (d : Description). length (encode d)) (sym a.described);
        enough = k.fits;
      }

-- ---- A course: what `step` gives for inputs one after the other.

module _ (d : Description) where
  not-both : {A : Type 0} {o : Outcome} {s : StoreWords} {r : Record} {n : ℕ} {m : Stop} → o ≡ completed s r n → o ≡ stopped m → A
  not-both e f = absurd (let z : ◌≡◌ {A = ℕ} 0 1 = cc in omega arith)

  -- From equal words and records.
  course-from : {s t : StoreWords} {r q : Record} {is : List StoreWords} {os : List Outcome} → s ≡ t → r ≡ q → Course d s r is os → Course d t q is os
  course-from a b h = rw (← a, ← b) h

  -- There is one at most.
  pub one-course : {s : StoreWords} {r : Record} {is : List StoreWords} {os ps : List Outcome} → Course d s r is os → Course d s r is ps → os ≡ ps
  one-course over over = refl
  one-course (goes_on {t} {q} e h) (goes_on {t = u} {q = v} f k) =
      let a : t ≡ u = cc in
      let b : q ≡ v = cc in
      ap₂ (λ (x : Outcome) (xs : List Outcome). x ∷ xs) (sym e ∙ f) (one-course h (course-from (sym a) (sym b) k))
  one-course (goes_on e h) (stops f k) = not-both e f
  one-course (stops e h) (goes_on f k) = not-both f e
  one-course (stops e h) (stops f k) = ap₂ (λ (x : Outcome) (xs : List Outcome). x ∷ xs) (sym e ∙ f) (one-course h k)

-- ---- The calls for cycles, one for each stimulus.

module _ (d : Description) where
  shows-from : {c : CycleCall} {s t : StoreWords} {r q : Record} {n : ℕ} → s ≡ t → r ≡ q → Shows d c (completed s r n) → Shows d c (completed t q n)
  shows-from a b h = rw (← a, ← b) h

  one-shown : {c : CycleCall} {o p : Outcome} → Shows d c o → Shows d c p → o ≡ p
  one-shown (a-cycle e) (a-cycle f) = cc
  one-shown (a-cycle e) (a-stop f) = absurd (let z : ◌≡◌ {A = ℕ} 0 1 = cc in omega arith)
  one-shown (a-stop e) (a-cycle f) = absurd (let z : ◌≡◌ {A = ℕ} 0 1 = cc in omega arith)
  one-shown (a-stop e) (a-stop f) = cc

  pub all_shown : {cs : List CycleCall} {os ps : List Outcome} → AllShow d cs os → AllShow d cs ps → os ≡ ps
  all_shown no_more no_more = refl
  all_shown (and-more e h) (and-more f k) = ap₂ (λ (x : Outcome) (xs : List Outcome). x ∷ xs) (one-shown e f) (all_shown h k)

  module _ {image : List ℕ} {scratch : ℕ} {store record' : List ℕ} {s : StoreWords} {r : Record} {is : List (List ℕ)} (h : Through d image scratch store record' s r is) where
    -- Both ways: what the calls show is the course, and the course is what they show; and their bytes are the course's.
    pub course-shown : {os : List Outcome} → Course d s r (inputs d is) os → AllShow d (calls image scratch store record' is) os
    course-shown k = rw (one-course d k h.course) h.shown

    pub shown-course : {os : List Outcome} → AllShow d (calls image scratch store record' is) os → Course d s r (inputs d is) os
    shown-course k = rw (all_shown k h.shown) h.course

    pub course-exact : {os : List Outcome} → Course d s r (inputs d is) os → calls image scratch store record' is ≡ owed d scratch store record' os
    course-exact k = rw (one-course d k h.course) h.exact

-- ---- From a store and a record from which no cycle is refused.

zeroes-small : (n : ℕ) → Words32 (zeroes n)
zeroes-small zero = tt
zeroes-small (suc n) = (omega arith, zeroes-small n)

module _ (image : List ℕ) (scratch : ℕ) where
  abbrev e : Description
  e = decode image

  module _ (store record' i : List ℕ) (not-refused-there : cycle_refusal image store record' i scratch ≡ none) where
    abbrev gives : Outcome
    gives = step e (from_bytes e.facilities store) (record_from record') (from_bytes (inputs_of e.facilities) i)

    call-so : {o : Outcome} → gives ≡ o → cycle image store record' i scratch ≡ after_step e store record' scratch o
    unfolding cycle
    call-so q = rw (not-refused-there, q) refl

    -- One cycle, and those behind it.
    first_then : (is : List (List ℕ)) → Through e image scratch (cycle image store record' i scratch).store (cycle image store record' i scratch).record' (from_bytes e.facilities (cycle image store record' i scratch).store) (record_from (cycle image store record' i scratch).record') is
        → Through e image scratch store record' (from_bytes e.facilities store) (record_from record') (i ∷ is)
    unfolding calls owed inputs
    first_then is h = go gives refl (never_stuck image store record' i scratch not-refused-there)
      where
        bytes-so : {o : Outcome} → gives ≡ o → calls image scratch store record' (i ∷ is) ≡ owed e scratch store record' (o ∷ h.outcomes)
        bytes-so {o} q =
            ap (λ (cs : List CycleCall). cycle image store record' i scratch ∷ cs) h.exact
            ∙ ap (λ (c : CycleCall). c ∷ owed e scratch c.store c.record' h.outcomes) (call-so q)

        go : (o : Outcome) → gives ≡ o → Well e o → Through e image scratch store record' (from_bytes e.facilities store) (record_from record') (i ∷ is)
        go (completed s r n) q (completes w) =
            let a : from_bytes e.facilities (cycle image store record' i scratch).store ≡ s = rw (call-so q) (store-back e.facilities s _ w.words) in
            let b : record_from (cycle image store record' i scratch).record' ≡ r = rw (call-so q) (completed-back image store record' i scratch not-refused-there record' q).0 in
            record {
              outcomes = completed s r n ∷ h.outcomes;
              course = goes_on q (course-from e a b h.course);
              exact = bytes-so q;
              shown = and-more (shows-from e a b (a-cycle {n = n} (ap (λ (c : CycleCall). c.answer) (call-so q)))) h.shown;
            }
        go (Outcome.stopped n) q w =
            let a : (cycle image store record' i scratch).store ≡ store = rw (call-so q) refl in
            let b : (cycle image store record' i scratch).record' ≡ record' = rw (call-so q) refl in
            record {
              outcomes = stopped n ∷ h.outcomes;
              course = stops q (course-from e (ap (from_bytes e.facilities) a) (ap record_from b) h.course);
              exact = bytes-so q;
              shown = and-more (a-stop {n = n} (ap (λ (c : CycleCall). c.answer) (call-so q))) h.shown;
            }
        go (Outcome.stuck _) q w = elim w [ ]

  pub ready-through : (store record' : List ℕ) (is : List (List ℕ)) → Ready image store record' scratch → AllFormed (decode image) is
      → Through (decode image) image scratch store record' (from_bytes (decode image).facilities store) (record_from record') is
  unfolding calls owed inputs
  ready-through store record' [] h k = record { outcomes = []; course = over; exact = refl; shown = no_more }
  ready-through store record' (i ∷ is) h k =
      first_then store record' i (h.unrefused-with i k.0) is
      (ready-through (cycle image store record' i scratch).store (cycle image store record' i scratch).record' is (ready-again image store record' i scratch h k.0) k.1)

  -- From opening on.
  module _ (store record' : ℕ) (unrefused : open_refusal image store record' ≡ none) (passing : passes image ≡ true) where
    opens_as : open' image store record' ≡ open_with (decode image) store record' none
    unfolding open'
    opens_as = rw unrefused refl

    zero-record : InWords (open_record (decode image))
    unfolding most_returns
    zero-record = (omega arith, (omega arith, (omega arith, zeroes-small 16)))

    opened-words : from_bytes e.facilities (open' image store record').store ≡ open_words e
    unfolding filled
    opened-words = rw opens_as (store-back e.facilities (open_words e) _ (opens-sound image passing).words)

    opened-record : record_from (open' image store record').record' ≡ open_record e
    unfolding filled
    opened-record = rw opens_as (record-back (open_record e) _ zero-record (opens-sound image passing).returns-in.places)

    pub opened-through : (is : List (List ℕ)) → 4 * store_size (decode image) ≤ scratch → AllFormed (decode image) is
        → Through (decode image) image scratch (open' image store record').store (open' image store record').record' (open_words (decode image)) (open_record (decode image)) is
    opened-through is l k =
        rw (← opened-words, ← opened-record) (ready-through (open' image store record').store (open' image store record').record' is (opens-ready image store record' scratch unrefused l) k)

-- ---- The whole.

module _ (text : List ℕ) (t : Text) (room : ℕ) where
  module _ (h : LegalText text t) (enough : length (encode (describe t).description) ≤ room) where
    answered : (read text room).answer ≡ Reading.accepted (length (encode (describe t).description))
    answered = ap (λ (c : ReadCall). c.answer) (legal-accepted text room t h enough)

    described : decode (read text room).image ≡ (describe t).description
    described = rw (legal-accepted text room t h enough) (reads-back text (describe t).description (accepts text t h) _)

    opening : (store record' : ℕ) → store_size (describe t).description ≤ store → record_size ≤ record' → open_refusal (read text room).image store record' ≡ none
    opening store record' a b = not-refused text room _ answered store record' (rw described a) b

    its-cycles : ItsCycles text t room
    unfolding open'
    its-cycles = record {
      read-so = legal-accepted text room t h enough;
      opens-so = λ store record' a b. rw (opening store record' a b, described) refl;
      runs_so = λ store record' scratch stimuli a b l k.
          subst (λ (d : Description). Through d (its_image text t room) scratch (open' (its_image text t room) store record').store (open' (its_image text t room) store record').record' (open_words d) (open_record d) stimuli) described
          (opened-through (its_image text t room) scratch store record' (opening store record' a b) (accepted-passes text room _ answered) stimuli (rw described l) (rw described k));
    }

pub text-to-cycles : (text : List ℕ) (room : ℕ) → FromText text room
text-to-cycles text room = record {
  accepted-exactly = λ n. (accepted-legal text room n, λ f. rw f.so-long (answered text f.tree room f.legal-text (rw f.so-long at f.enough)));
  then-cycles = λ t h l. its-cycles text t room h l;
}
