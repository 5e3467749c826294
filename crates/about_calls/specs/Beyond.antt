-- FRESH, for what lies beyond store and record: a cycle neither looks at the bytes beyond them nor changes one. Assumes nothing.
use Rattle.std.specs.Prelude.{Bool, true, false, cond, ◌≡◌, drop}
use mathlib.Core.List.{List, [], ◌∷◌, ◌++◌, append_assoc}
use Rattle.std.proofs.Math.Option.{Option, none, some}
use Rattle.std.proofs.Math.Path.{refl}
use Rattle.std.proofs.Common.{sym, ap, ap₂, ◌∙◌, suc-mul, arith, length-drop}
use Prim.Native.Nat.{ℕ, zero, suc, ◌+◌, ◌*◌, ◌≤◌}
use borrow.Author.Tests.{le-leb}
use Rattle.std.proofs.Math.ListN.{get_or-append, length, length-append, take}
use Rattle.std.proofs.lemmas.List.{drop-append-le, take-append-le}
use Rattle.language.specs.Calls.{CycleAnswer, CycleCall, RunCall, Running, after_cycle, after_step, cycle, cycle_refusal, cycle_with, cycled, cycles, over, refused_for, roomy, run, run_refusal, sound_bytes, stimulus_size, stopped_for}
use Rattle.language.specs.Decode.{decode, number_at}
use Rattle.language.specs.Description.{Description, Facility, is_computed, word_count, word_length}
use Rattle.language.specs.Layout.{facility_bytes, store_size, store_size_of, word_bytes, word_from_bytes}
use Rattle.language.specs.RecordBytes.{marked, record_bytes, record_from, record_size, returns_from}
use Rattle.language.specs.declared.refusals.Refusal.{Refusal}
use Rattle.language.specs.Step.{Outcome, Record, completed, step}
use Rattle.language.specs.Ceilings.{most_returns}
use Rattle.language.specs.Store.{StoreWords, facility_words, from_bytes, inputs_of, to_bytes, words_from}
use Rattle.about_running.specs.Cycle.{Well, completes}
use Rattle.about_running.specs.NeverStuck.{never_stuck}
use Rattle.about_bytes.specs.StaysSound.{record-length}
use Rattle.about_bytes.specs.StoreBack.{store_length}
use Rattle.language.specs.declared.stops.Stop.{Stop}

-- ---- The words of a store are those of its first bytes.

words-front : (n l : ℕ) (s x : List ℕ) → n * word_bytes l ≤ length s → words_from n l (s ++ x) ≡ words_from n l s
unfolding words_from
words-front zero l s x h = refl
words-front (suc n) l s x h =
    let m = suc-mul n (word_bytes l) in
    let a : word_bytes l ≤ length s = omega (arith, m) in
    let t = ap word_from_bytes (take-append-le (word_bytes l) s x a) in
    let r = words-front n l (drop (word_bytes l) s) x (let k = length-drop (word_bytes l) s in omega (arith, m, k)) in
    let e = drop-append-le (word_bytes l) s x a in
    ap₂ (λ (w : ℕ) (ws : List ℕ). w ∷ ws) t (ap (words_from n l) e ∙ r)

facility-front : (f : Facility) (s x : List ℕ) → facility_bytes f ≤ length s → facility_words f (s ++ x) ≡ facility_words f s
unfolding facility_bytes
facility-front f s x h = go (is_computed f.kind) h
  where
    go : (b : Bool) → cond b 0 (word_count f * word_bytes (word_length f)) ≤ length s → cond b [] (words_from (word_count f) (word_length f) (s ++ x)) ≡ cond b [] (words_from (word_count f) (word_length f) s)
    go true k = refl
    go false k = words-front (word_count f) (word_length f) s x k

store-front : (fs : List Facility) (s x : List ℕ) → store_size_of fs ≤ length s → from_bytes fs (s ++ x) ≡ from_bytes fs s
unfolding from_bytes store_size_of
store-front [] s x h = refl
store-front (f ∷ fs) s x h =
    let a : facility_bytes f ≤ length s = omega arith in
    let r = store-front fs (drop (facility_bytes f) s) x (let k = length-drop (facility_bytes f) s in omega (arith, k)) in
    ap₂ (λ (w : List ℕ) (ws : StoreWords). w ∷ ws) (facility-front f s x a) (ap (from_bytes fs) (drop-append-le (facility_bytes f) s x a) ∙ r)

-- ---- So is the record.

pub number-front : (n at : ℕ) (r u : List ℕ) → at + n ≤ length r → number_at n at (r ++ u) ≡ number_at n at r
unfolding number_at
number-front zero at r u h = refl
number-front (suc n) at r u h =
    ap₂ (λ (a b : ℕ). a + b * 256) (get_or-append r u 0 at (omega arith)) (number-front n (suc at) r u (omega arith))

returns-front : (k at : ℕ) (r u : List ℕ) → at + 4 * k ≤ length r → returns_from k at (r ++ u) ≡ returns_from k at r
unfolding returns_from
returns-front zero at r u h = refl
returns-front (suc k) at r u h = ap₂ (λ (n : ℕ) (ns : List ℕ). n ∷ ns) (number-front 4 at r u (omega arith)) (returns-front k (at + 4) r u (omega arith))

module _ (r u : List ℕ) (long : length r ≡ record_size) where
  record-front : record_from (r ++ u) ≡ record_from r
  unfolding record_from most_returns
  record-front =
      rw (
        number-front 4 4 r u (omega arith),
        number-front 4 8 r u (omega arith),
        number-front 4 12 r u (omega arith),
        returns-front 16 16 r u (omega arith),
      ) refl

  mark-front : marked (r ++ u) ≡ marked r
  unfolding marked
  mark-front = rw (number-front 4 0 r u (omega arith)) refl

-- ---- The cycle.

over-front : (bs s x : List ℕ) → length bs ≤ length s → over bs (s ++ x) ≡ over bs s ++ x
over-front bs s x h = ap (λ (y : List ℕ). bs ++ y) (drop-append-le (length bs) s x h) ∙ sym (append_assoc bs (drop (length bs) s) x)

-- The same call with x behind its store and u behind its record.
abbrev pub behind : List ℕ → List ℕ → CycleCall → CycleCall
behind x u c = record { answer = c.answer; store = c.store ++ x; record' = c.record' ++ u; scratch = c.scratch }

abbrev pub run_behind : List ℕ → List ℕ → RunCall → RunCall
run_behind x u c = record { answer = c.answer; store = c.store ++ x; record' = c.record' ++ u; scratch = c.scratch; trace = c.trace }

module _ (image store record' stimulus : List ℕ) (scratch : ℕ) (store_long : length store ≡ store_size (decode image)) (record-long : length record' ≡ record_size) (x u : List ℕ) where
  abbrev d : Description
  d = decode image

  words_same : from_bytes d.facilities (store ++ x) ≡ from_bytes d.facilities store
  unfolding store_size
  words_same = store-front d.facilities store x (omega (arith, store_long))

  roomy-both : roomy d (length (store ++ x)) (length (record' ++ u)) scratch ≡ roomy d (length store) (length record') scratch
  unfolding roomy
  roomy-both =
      let a = length-append store x in
      let b = length-append record' u in
      rw (
        le-leb (store_size d) (length (store ++ x)) (omega (arith, a, store_long)),
        le-leb (store_size d) (length store) (omega (arith, store_long)),
        le-leb record_size (length (record' ++ u)) (omega (arith, b, record-long)),
        le-leb record_size (length record') (omega (arith, record-long)),
      ) refl

  refusal-same : cycle_refusal image (store ++ x) (record' ++ u) stimulus scratch ≡ cycle_refusal image store record' stimulus scratch
  unfolding cycle_refusal sound_bytes
  refusal-same = rw (roomy-both, mark-front record' u record-long, words_same, record-front record' u record-long) refl

  abbrev outcome : Outcome
  outcome = step d (from_bytes d.facilities store) (record_from record') (from_bytes (inputs_of d.facilities) stimulus)

  pub beyond-kept : cycle image (store ++ x) (record' ++ u) stimulus scratch ≡ behind x u (cycle image store record' stimulus scratch)
  unfolding cycle store_size
  beyond-kept = rw refusal-same (by-refusal (cycle_refusal image store record' stimulus scratch) refl)
    where
      completed-same : (s : StoreWords) (r : Record) (n : ℕ) → length (to_bytes d.facilities s) ≤ length store → length (record_bytes r) ≤ length record'
          → after_step d (store ++ x) (record' ++ u) scratch (completed s r n) ≡ behind x u (after_step d store record' scratch (completed s r n))
      completed-same s r n h k = rw (over-front (to_bytes d.facilities s) store x h, over-front (record_bytes r) record' u k) refl

      after : (o : Outcome) → Well d o → after_step d (store ++ x) (record' ++ u) scratch o ≡ behind x u (after_step d store record' scratch o)
      after (completed s r n) (completes h) =
          let a = store_length d.facilities s h.words in
          let b = record-length r h.returns-in.places in
          completed-same s r n (omega (arith, a, store_long)) (omega (arith, b, record-long))
      after (Outcome.stopped n) h = refl
      after (Outcome.stuck _) h = elim h [ ]

      by-refusal : (y : Option Refusal) → cycle_refusal image store record' stimulus scratch ≡ y → cycle_with d (store ++ x) (record' ++ u) scratch stimulus y ≡ behind x u (cycle_with d store record' scratch stimulus y)
      by-refusal (some n) e = refl
      by-refusal none e = rw (words_same, record-front record' u record-long) (after outcome (never_stuck image store record' stimulus scratch e))

-- ---- A run.

-- A cycle keeps the lengths of store and record.
module _ (image store record' stimulus : List ℕ) (scratch : ℕ) (store_long : length store ≡ store_size (decode image)) (record-long : length record' ≡ record_size) where
  over-long : (bs s : List ℕ) → length bs ≡ length s → length (over bs s) ≡ length s
  over-long bs s h = let a = length-append bs (drop (length bs) s) in let b = length-drop (length bs) s in omega (arith, a, b, h)

  cycle-long : (length (cycle image store record' stimulus scratch).store ≡ length store) × (length (cycle image store record' stimulus scratch).record' ≡ length record')
  unfolding cycle store_size
  cycle-long = by-refusal (cycle_refusal image store record' stimulus scratch) refl
    where
      e : Description
      e = decode image

      after : (o : Outcome) → Well e o → (length (after_step e store record' scratch o).store ≡ length store) × (length (after_step e store record' scratch o).record' ≡ length record')
      after (completed s r n) (completes h) =
          let a = store_length e.facilities s h.words in
          let b = record-length r h.returns-in.places in
          (over-long (to_bytes e.facilities s) store (omega (arith, a, store_long)), over-long (record_bytes r) record' (omega (arith, b, record-long)))
      after (Outcome.stopped n) h = (refl, refl)
      after (Outcome.stuck _) h = elim h [ ]

      by-refusal : (y : Option Refusal) → cycle_refusal image store record' stimulus scratch ≡ y
          → (length (cycle_with e store record' scratch stimulus y).store ≡ length store) × (length (cycle_with e store record' scratch stimulus y).record' ≡ length record')
      by-refusal (some n) q = (refl, refl)
      by-refusal none q = after (step e (from_bytes e.facilities store) (record_from record') (from_bytes (inputs_of e.facilities) stimulus)) (never_stuck image store record' stimulus scratch q)

module _ (image : List ℕ) (scratch : ℕ) (x u : List ℕ) where
  abbrev size : ℕ
  size = store_size (decode image)

  abbrev further : Running → Running
  further r = record { completed' = r.completed'; conflicts = r.conflicts; store = r.store ++ x; record' = r.record' ++ u; trace = r.trace }

  abbrev next_of : CycleCall → ℕ → Running → Running
  next_of c n r = record { completed' = suc r.completed'; conflicts = r.conflicts + n; store = c.store; record' = c.record'; trace = r.trace ++ take size c.store }

  after-beyond : (each : ℕ) (c : CycleCall) (r : Running) (on : Running → Running × Option Stop) → length c.store ≡ size → ((n : ℕ) → on (further (next_of c n r)) ≡ (further (on (next_of c n r)).0, (on (next_of c n r)).1))
      → after_cycle image scratch size each (behind x u c) (further r) on ≡ (further (after_cycle image scratch size each c r on).0, (after_cycle image scratch size each c r on).1)
  after-beyond each c r on long h = go c.answer refl
    where
      front : take size (c.store ++ x) ≡ take size c.store
      front = take-append-le size c.store x (omega (arith, long))

      go : (a : CycleAnswer) → c.answer ≡ a → after_cycle image scratch size each (behind x u c) (further r) on ≡ (further (after_cycle image scratch size each c r on).0, (after_cycle image scratch size each c r on).1)
      go (cycled n) e = rw (e, front) (h n)
      go (stopped_for n) e = rw e refl
      go (refused_for n) e = rw e refl

  cycles-beyond : (each k : ℕ) (stimuli : List ℕ) (r : Running) → length r.store ≡ store_size (decode image) → length r.record' ≡ record_size
      → cycles image scratch size each k stimuli (further r) ≡ (further (cycles image scratch size each k stimuli r).0, (cycles image scratch size each k stimuli r).1)
  unfolding cycles
  cycles-beyond each zero stimuli r s q = refl
  cycles-beyond each (suc k) stimuli r s q =
      let now = take each stimuli in
      let long = cycle-long image r.store r.record' now scratch s q in
      let c = cycle image r.store r.record' now scratch in
      rw (beyond-kept image r.store r.record' now scratch s q x u)
      (after-beyond each c r (cycles image scratch size each k (drop each stimuli)) (long.0 ∙ s) (λ n. cycles-beyond each k (drop each stimuli) (next_of c n r) (long.0 ∙ s) (long.1 ∙ q)))

module _ (image store record' stimuli : List ℕ) (count scratch trace : ℕ) (store_long : length store ≡ store_size (decode image)) (record-long : length record' ≡ record_size) (x u : List ℕ) where
  run-refusal-same : run_refusal image (store ++ x) (record' ++ u) stimuli count scratch trace ≡ run_refusal image store record' stimuli count scratch trace
  unfolding run_refusal sound_bytes
  run-refusal-same =
      rw (
        roomy-both image store record' [] scratch store_long record-long x u,
        mark-front record' u record-long,
        words_same image store record' [] scratch store_long record-long x u,
        record-front record' u record-long,
      ) refl

  pub run-beyond : run image (store ++ x) (record' ++ u) stimuli count scratch trace ≡ run_behind x u (run image store record' stimuli count scratch trace)
  unfolding run
  run-beyond = go (run_refusal image store record' stimuli count scratch trace) refl
    where
      start : Running
      start = record { completed' = 0; conflicts = 0; store = store; record' = record'; trace = [] }

      go : (y : Option Refusal) → run_refusal image store record' stimuli count scratch trace ≡ y → run image (store ++ x) (record' ++ u) stimuli count scratch trace ≡ run_behind x u (run image store record' stimuli count scratch trace)
      go (some n) e = rw (run-refusal-same, e) refl
      go none e = rw (run-refusal-same, e, cycles-beyond image scratch x u (stimulus_size (decode image)) count stimuli start store_long record-long) refl
