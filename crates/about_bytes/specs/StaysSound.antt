-- STAYS SOUND, to the byte: after a completed cycle the next one with a stimulus of the right form is not refused, and so on; opening begins so. Assumes nothing.
use Rattle.std.specs.Prelude.{Bool, cond, List, [], ◌∷◌, ◌++◌, leb, ltb, drop, length}
use Rattle.std.proofs.Math.Bool.{true, false}
use Rattle.std.proofs.Math.Option.{Option, none, some}
use Rattle.std.proofs.Math.Path.{◌≡◌, refl}
use Rattle.std.proofs.Common.{arith, eq-eqb, le-leb, leb-false, leb-true, lt-ltb, length-append, length-drop}
use Prim.Native.Nat.{ℕ, zero, suc, ◌*◌, ◌^◌, ◌≤◌, ◌<◌}
use Rattle.std.proofs.Math.ListN.{get_or, set}
use Rattle.language.specs.Acting.{Doing, Ran, run_actions, went}
use Rattle.language.specs.Calls.{after_step, cycle, cycle_refusal, cycled, over, roomy, sound_bytes, well_formed}
use Rattle.language.specs.Decode.{decode}
use Rattle.language.specs.Description.{Description, sequencing_of, state_at}
use Rattle.language.specs.Encode.{little}
use Rattle.language.specs.Image.{passes}
use Rattle.language.specs.Layout.{store_size}
use Rattle.language.specs.Ceilings.{last_cycle, most_returns, most_states}
use Rattle.language.specs.Meaning.{no_state}
use Rattle.language.specs.RecordBytes.{fours, record_bytes, record_from, record_size, returns_sound, sound}
use Rattle.language.specs.declared.refusals.Refusal.TheVariants.{BadStimulus, BufferTooShort, ImageFails, Unsound}
use Rattle.language.specs.Step as Step
use Rattle.language.specs.Step.{Entered, Outcome, Record, after_actions, completed, entered, finished, into, landed, next_record, or_stopped, set_register, step, stop_after}
use Rattle.language.specs.declared.stops.Stop.{Stop}
use Rattle.language.specs.declared.stops.Stop.TheVariants.{LastCycleReached}
use Rattle.language.specs.Store.{Held, StoreWords, begin, from_bytes, inputs_of, numbers, to_bytes}
use Rattle.about_bytes.specs.RecordBack.{InWords, Words32, record-back, record-marked}
use Rattle.about_bytes.specs.StoreBack.{both_so, fit-narrow, store-back, store_length}
use Rattle.about_running.specs.Cycle.{Sound, Well, completes}
use Rattle.about_running.specs.NeverStuck.{legal-image, never_stuck, not_first}
use Rattle.language.specs.Tests.{both}

-- ---- Soundness as the test has it.

returns-so : (n k : ℕ) (rs : List ℕ) → ((i : ℕ) → i < k → get_or rs i 0 < n) → ((i : ℕ) → k ≤ i → get_or rs i 0 ≡ 0) → returns_sound n k rs ≡ true
unfolding returns_sound
returns-so n k [] f z = refl
returns-so n zero (x ∷ xs) f z = both_so (eq-eqb x 0 (z 0 (omega arith))) (returns-so n zero xs (λ i h. absurd (omega arith)) (λ i h. z (suc i) (omega arith)))
returns-so n (suc k) (x ∷ xs) f z = both_so (lt-ltb x n (f 0 (omega arith))) (returns-so n k xs (λ i h. f (suc i) (omega arith)) (λ i h. z (suc i) (omega arith)))

pub sound-test : (d : Description) (s : StoreWords) (r : Record) → Sound d s r → sound d s r ≡ true
unfolding sound
sound-test d s r h =
    both_so (lt-ltb r.state (length d.states) h.state-in)
    (both_so (le-leb r.held most_returns h.returns-in.most)
    (both_so (returns-so (length d.states) r.held r.returns h.returns-in.states h.returns-in.zero-beyond)
    (both_so (fit-narrow d.facilities s h.words) h.register-so)))

-- ---- A sound record's numbers take four bytes each.

returns-small : (n k : ℕ) (rs : List ℕ) → n ≤ 256 → ((i : ℕ) → i < k → get_or rs i 0 < n) → ((i : ℕ) → k ≤ i → get_or rs i 0 ≡ 0) → Words32 rs
returns-small n k [] l f z = tt
returns-small n zero (x ∷ xs) l f z = (let e = z 0 (omega arith) in omega (arith, e), returns-small n zero xs l (λ i h. absurd (omega arith)) (λ i h. z (suc i) (omega arith)))
returns-small n (suc k) (x ∷ xs) l f z = (let e = f 0 (omega arith) in omega (arith, e, l), returns-small n k xs l (λ i h. f (suc i) (omega arith)) (λ i h. z (suc i) (omega arith)))

in_words : (d : Description) (s : StoreWords) (r : Record) → Sound d s r → length d.states ≤ 256 → r.cycle < 256 ^ 4 → InWords r
unfolding most_returns
in_words d s r h l c = (
  omega (arith, h.state-in, l),
  (c, (omega (arith, h.returns-in.most), returns-small (length d.states) r.held r.returns l h.returns-in.states h.returns-in.zero-beyond)),
)

-- ---- The cycle number after a cycle.

module _ (d : Description) where
  none-completed : {A : Type 0} {n : Stop} {m : ℕ} {s : StoreWords} {r : Record} → Outcome.stopped n ≡ completed s r m → A
  none-completed e = absurd (let z : ◌≡◌ {A = ℕ} 0 1 = cc in omega arith)

  next-cycle : (r : Record) (c : Doing Held) → (next_record d r c).cycle ≡ suc r.cycle
  unfolding next_record
  next-cycle r c = go (ltb 0 (length c.calls))
    where
      go : (b : Bool) → (cond {A = Record} b (record { state = get_or c.calls 0 0; cycle = suc r.cycle; held = suc (Step.returns_left d r c); returns = set (Step.popped d r c) (Step.returns_left d r c) (Step.plain_next d r c) })
          (record { state = Step.plain_next d r c; cycle = suc r.cycle; held = Step.returns_left d r c; returns = Step.popped d r c })).cycle ≡ suc r.cycle
      go true = refl
      go false = refl

  entered-cycle : (r : Record) (c : Doing Held) (x : Entered) {s : StoreWords} {q : Record} {n : ℕ} → entered d r c x ≡ completed s q n → q.cycle ≡ suc r.cycle
  entered-cycle r c (Entered.stuck y) e = absurd (let z : ◌≡◌ {A = ℕ} 0 1 = cc in omega arith)
  entered-cycle r c (into t) {s} {q} {n} e = let z : next_record d r c ≡ q = cc in rw (← z) (next-cycle r c)

  finished-cycle : (r : Record) (c : Doing Held) (x : Option Stop) {s : StoreWords} {q : Record} {n : ℕ} → or_stopped d r c x ≡ completed s q n → q.cycle ≡ suc r.cycle
  finished-cycle r c none e = entered-cycle r c (set_register d (sequencing_of d) (state_at d (next_record d r c).state).value (landed d r c)) e
  finished-cycle r c (some m) e = none-completed e

  after-cycle : (r : Record) (x : Ran Held) {s : StoreWords} {q : Record} {n : ℕ} → after_actions d r x ≡ completed s q n → q.cycle ≡ suc r.cycle
  unfolding finished
  after-cycle r (went c) e = finished-cycle r c (stop_after d r c) e
  after-cycle r (Ran.stopped m) e = none-completed e
  after-cycle r (Ran.stuck x) e = absurd (let z : ◌≡◌ {A = ℕ} 0 1 = cc in omega arith)

  pub step-cycle : (s : StoreWords) (r : Record) (ins : StoreWords) {t : StoreWords} {q : Record} {n : ℕ} → step d s r ins ≡ completed t q n → (q.cycle ≡ suc r.cycle) × (r.cycle < last_cycle)
  unfolding step
  step-cycle s r ins {t} {q} {n} e = go (leb last_cycle r.cycle) refl (ltb r.state (Step.state_count d)) e
    where
      run : Ran Held
      run = run_actions (numbers d) d (state_at d r.state).actions (Step.nothing_done d (begin d.facilities s ins))

      go : (a : Bool) → leb last_cycle r.cycle ≡ a → (b : Bool) → cond a (Outcome.stopped LastCycleReached) (cond b (after_actions d r run) (Outcome.stuck no_state)) ≡ completed t q n
          → (q.cycle ≡ suc r.cycle) × (r.cycle < last_cycle)
      go true x b k = none-completed k
      go false x false k = absurd (let z : ◌≡◌ {A = ℕ} 0 1 = cc in omega arith)
      go false x true k = (after-cycle r run k, leb-false last_cycle r.cycle x)

-- ---- A buffer that begins with other bytes is as long as before.

over-length : (bs old : List ℕ) → length bs ≤ length old → length (over bs old) ≡ length old
over-length bs old l = let a = length-append bs (drop (length bs) old) in let b = length-drop (length bs) old in omega (arith, a, b, l)

-- What the tests of a cycle gave.
pub record Unrefused (image store record' stimulus : List ℕ) (scratch : ℕ) : Type 0 where
  pub passing : passes image ≡ true
  pub room : roomy (decode image) (length store) (length record') scratch ≡ true
  pub sound-there : sound_bytes (decode image) store record' ≡ true
  pub form : well_formed (decode image) stimulus ≡ true

pub unrefused : (image store record' stimulus : List ℕ) (scratch : ℕ) → cycle_refusal image store record' stimulus scratch ≡ none → Unrefused image store record' stimulus scratch
unfolding cycle_refusal
unrefused image store record' stimulus scratch e =
    let d = decode image in
    let a = not_first (passes image) ImageFails _ e in
    let b = not_first (roomy d (length store) (length record') scratch) BufferTooShort _ a.1 in
    let c = not_first (sound_bytes d store record') Unsound _ b.1 in
    record { passing = a.0; room = b.0; sound-there = c.0; form = (not_first (well_formed d stimulus) BadStimulus none c.1).0 }

pub no-refusal : (image store record' stimulus : List ℕ) (scratch : ℕ) → Unrefused image store record' stimulus scratch → cycle_refusal image store record' stimulus scratch ≡ none
unfolding cycle_refusal
no-refusal image store record' stimulus scratch u = rw (u.passing, u.room, u.sound-there, u.form) refl

-- ---- A sound store and record written over a buffer each are sound there.

module _ (image : List ℕ) (passing : passes image ≡ true) where
  abbrev d : Description
  d = decode image

  few : length d.states ≤ 256
  unfolding most_states
  few = (legal-image image passing).few-states

  pub written-sound : (s : StoreWords) (r : Record) (more after : List ℕ) → Sound d s r → r.cycle < 256 ^ 4 → sound_bytes d (to_bytes d.facilities s ++ more) (record_bytes r ++ after) ≡ true
  unfolding sound_bytes
  written-sound s r more after h c =
      both_so (record-marked r after)
      (rw (store-back d.facilities s more h.words, record-back r after (in_words d s r h few c) h.returns-in.places) (sound-test d s r h))

-- ---- Room.

cycle-fits : {a b : ℕ} → a ≡ suc b → b < last_cycle → a < 256 ^ 4
unfolding last_cycle
cycle-fits x z = omega (arith, x, z)

pub both_left : (a b : Bool) → both a b ≡ true → a ≡ true
both_left true b h = refl
both_left false b h = h

pub both_right : (a b : Bool) → both a b ≡ true → b ≡ true
both_right true b h = h
both_right false b h = absurd (let z : ◌≡◌ {A = ℕ} 0 1 = cc in omega arith)

store-fits : {d : Description} {s : StoreWords} {r : Record} (n m scratch : ℕ) → Sound d s r → roomy d n m scratch ≡ true → length (to_bytes d.facilities s) ≤ n
unfolding roomy store_size
store-fits {d} {s} {r} n m scratch h e = let a = leb-true (store_size d) n (both_left _ _ e) in let b = store_length d.facilities s h.words in omega (arith, a, b)

fours-length : (xs : List ℕ) → length (fours xs) ≡ 4 * length xs
unfolding fours little
fours-length [] = refl
fours-length (x ∷ xs) = let h = fours-length xs in omega (arith, h)

pub record-length : (r : Record) → length r.returns ≡ most_returns → length (record_bytes r) ≡ record_size
unfolding record_bytes most_returns little
record-length r e = let h = fours-length r.returns in omega (arith, h, e)

record-fits : (d : Description) (n m scratch : ℕ) (r : Record) → length r.returns ≡ most_returns → roomy d n m scratch ≡ true → length (record_bytes r) ≤ m
unfolding roomy
record-fits d n m scratch r x e = let a = leb-true record_size m (both_left _ _ (both_right (leb (store_size d) n) _ e)) in let b = record-length r x in omega (arith, a, b)

-- ---- After a completed cycle.

module _ (image store record' stimulus : List ℕ) (scratch : ℕ) (none-refused : cycle_refusal image store record' stimulus scratch ≡ none) where
  abbrev there : Unrefused image store record' stimulus scratch
  there = unrefused image store record' stimulus scratch none-refused

  abbrev d' : Description
  d' = decode image

  abbrev outcome : Outcome
  outcome = step d' (from_bytes d'.facilities store) (record_from record') (from_bytes (inputs_of d'.facilities) stimulus)

  pub stays-sound : (n : ℕ) (next : List ℕ) → (cycle image store record' stimulus scratch).answer ≡ cycled n → well_formed (decode image) next ≡ true
      → cycle_refusal image (cycle image store record' stimulus scratch).store (cycle image store record' stimulus scratch).record' next scratch ≡ none
  unfolding cycle
  stays-sound n next e w = rw none-refused (go outcome refl (never_stuck image store record' stimulus scratch none-refused) (rw none-refused at e))
    where
      go : (o : Outcome) → outcome ≡ o → Well d' o → (after_step d' store record' scratch o).answer ≡ cycled n
          → cycle_refusal image (after_step d' store record' scratch o).store (after_step d' store record' scratch o).record' next scratch ≡ none
      go (completed s r m) q (completes h) k =
          let y = step-cycle d' (from_bytes d'.facilities store) (record_from record') (from_bytes (inputs_of d'.facilities) stimulus) q in
          no-refusal image (over (to_bytes d'.facilities s) store) (over (record_bytes r) record') next scratch (record {
            passing = there.passing;
            room =
                rw (
                  over-length (to_bytes d'.facilities s) store (store-fits (length store) (length record') scratch h there.room),
                  over-length (record_bytes r) record' (record-fits d' (length store) (length record') scratch r h.returns-in.places there.room),
                ) there.room;
            sound-there = written-sound image there.passing s r _ _ h (cycle-fits y.0 y.1);
            form = w;
          })
      go (Outcome.stopped m) q h k = absurd (let z : ◌≡◌ {A = ℕ} 0 1 = cc in omega arith)
      go (Outcome.stuck _) q h k = elim h [ ]

  -- The record of a completed cycle is read back from its bytes, and these are as many as any record's.
  pub completed-back : (K : List ℕ) {s : StoreWords} {r : Record} {n : ℕ} → step (decode image) (from_bytes (decode image).facilities store) (record_from record') (from_bytes (inputs_of (decode image).facilities) stimulus) ≡ completed s r n
      → (record_from (over (record_bytes r) K) ≡ r) × (length (record_bytes r) ≡ record_size)
  completed-back K {s} {r} {n} q = go (rw q at (never_stuck image store record' stimulus scratch none-refused))
    where
      go : Well d' (completed s r n) → (record_from (over (record_bytes r) K) ≡ r) × (length (record_bytes r) ≡ record_size)
      go (completes h) =
          let y = step-cycle d' (from_bytes d'.facilities store) (record_from record') (from_bytes (inputs_of d'.facilities) stimulus) q in
          (record-back r _ (in_words d' s r h (few image there.passing) (cycle-fits y.0 y.1)) h.returns-in.places, record-length r h.returns-in.places)
