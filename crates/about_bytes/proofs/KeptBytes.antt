-- What a completed cycle keeps and lands, in the bytes that a bench lends: a bit that none of its writes names is as it was, and any other has what the last write that names it gave. Assumes nothing.
use Rattle.std.specs.Prelude.{true, false, eqb, leb, drop}
use mathlib.Core.List.{List, [], ◌∷◌, ◌++◌, append_assoc}
use Rattle.std.proofs.Math.Logic.{⊎_elim}
use Rattle.std.proofs.Math.Option.{Option, none, some}
use Rattle.std.proofs.Math.Path.{◌≡◌, refl, ap}
use Rattle.std.proofs.Common.{sym, ◌∙◌, eq-zero-or-pos, arith, length-append, length-drop, get_or-append-add, get_or-drop}
use Prim.Native.Nat.{ℕ, ◌+◌, ◌-◌, ◌*◌, ◌/◌, ◌%◌, ◌^◌, ◌≤◌, ◌<◌}
use borrow.Author.Tests.{leb-true}
use Rattle.std.proofs.Math.ListN.{get_or, length}
use Rattle.language.specs.Acting.{Doing, Ran, went}
use Rattle.language.specs.Calls.{CycleCall, after_step, cycle, cycle_refusal, cycle_with, cycled, over, roomy, sound_bytes, stimulus_size, stopped_for, well_formed}
use Rattle.language.specs.Decode.{decode}
use Rattle.language.specs.Description.{Description, Facility, no_facility, word_length}
use Rattle.language.specs.Layout.{store_size, store_size_of, word_to_bytes}
use Rattle.language.specs.Meaning.{Write}
use Rattle.language.specs.RecordBytes.{marked, record_bytes, record_from}
use Rattle.language.specs.declared.refusals.Refusal.{Refusal}
use Rattle.language.specs.Step.{Outcome, Record, completed, step}
use Rattle.language.specs.Store.{StoreWords, from_bytes, inputs_of, put_parts, to_bytes, words_to}
use Rattle.about_bytes.proofs.BitLaws.{bits-kept, bits-land, none_named, spare-zero}
use Rattle.about_bytes.specs.StaysSound.{Unrefused, both_left, completed-back, unrefused}
use Rattle.about_bytes.specs.StoreBack.{store-back, store_length}
use Rattle.about_bytes.specs.StoreBits.{any_names, bit_at, byte_bits, given, names, rank, spare_bits}
use Rattle.about_running.specs.Cycle.{Sound, Well, completes}
use Rattle.about_running.specs.CycleWrites.{AllInStore, Wrote, begin_writes, cycle-wrote, cycle_writes, state_writes}
use Rattle.about_running.specs.Fitting.{Fit}
use Rattle.about_running.specs.Kept.{Noted, joined}
use Rattle.about_running.specs.LegalForm.{right_of}
use Rattle.about_running.specs.NeverStuck.{legal-image, never_stuck}
use Rattle.about_running.specs.Soundness.{bytes_fit, sound-so}
use Rattle.store_layout.proofs.ByteLists.{bytes-append, bytes_drop}
use Rattle.store_layout.proofs.Words.{bytes_word}
use Rattle.store_layout.specs.InBytes.{Stored, place_of_word}
use Rattle.store_layout.specs.Layout.{Bytes}
use Rattle.about_bytes.specs.KeptBytes as Cycled

-- ---- The bytes of words.

bytes-words : (l : ℕ) (xs : List ℕ) → Bytes (words_to l xs)
unfolding words_to
bytes-words l [] = λ i. omega arith
bytes-words l (x ∷ xs) = bytes-append (word_to_bytes l x) (words_to l xs) (bytes_word l x) (bytes-words l xs)

bytes-to : (fs : List Facility) (s : StoreWords) → Bytes (to_bytes fs s)
unfolding to_bytes
bytes-to [] s = λ i. omega arith
bytes-to (f ∷ fs) [] = λ i. omega arith
bytes-to (f ∷ fs) (ws ∷ s) = bytes-append (words_to (word_length f) ws) (to_bytes fs s) (bytes-words (word_length f) ws) (bytes-to fs s)

-- ---- The writes of a cycle.

module _ (image store record' stimulus : List ℕ) (scratch : ℕ) where
  abbrev d : Description
  d = decode image

  -- What specs/KeptBytes.antt says of this cycle.
  abbrev store_after : List ℕ
  store_after = Cycled.store_after image store record' stimulus scratch

  abbrev state_after : ℕ
  state_after = Cycled.state_after image store record' stimulus scratch

  abbrev input_words : StoreWords
  input_words = Cycled.input_words image store record' stimulus scratch

  abbrev acted : Ran Noted
  acted = Cycled.acted image store record' stimulus scratch

  abbrev writes_of : Ran Noted → List Write
  writes_of = Cycled.writes_of image store record' stimulus scratch

  abbrev writes : List Write
  writes = Cycled.writes image store record' stimulus scratch

  module _ (n : ℕ) (completes-so : (cycle image store record' stimulus scratch).answer ≡ cycled n) where
    none-refused : cycle_refusal image store record' stimulus scratch ≡ none
    unfolding cycle
    none-refused = go (cycle_refusal image store record' stimulus scratch) completes-so
      where
        go : (x : Option Refusal) → (cycle_with d store record' scratch stimulus x).answer ≡ cycled n → x ≡ none
        go none e = refl
        go (some r) e = absurd (let z : ◌≡◌ {A = ℕ} 0 1 = cc in omega arith)

    abbrev there : Unrefused image store record' stimulus scratch
    there = unrefused image store record' stimulus scratch none-refused

    abbrev outcome : Outcome
    outcome = step d (from_bytes d.facilities store) (record_from record') (from_bytes (inputs_of d.facilities) stimulus)

    -- The words and the record with which the step completed.
    record Stepped : Type 0 where
      words : StoreWords
      after : Record
      count : ℕ
      step_so : outcome ≡ completed words after count
      store-so : store_after ≡ over (to_bytes d.facilities words) store
      record-so : (cycle image store record' stimulus scratch).record' ≡ over (record_bytes after) record'
      words-fit : Fit d.facilities words

    call-so : {o : Outcome} → outcome ≡ o → cycle image store record' stimulus scratch ≡ after_step d store record' scratch o
    unfolding cycle
    call-so q = rw (none-refused, q) refl

    stepped : Stepped
    stepped = go outcome refl (never_stuck image store record' stimulus scratch none-refused)
      where
        go : (o : Outcome) → outcome ≡ o → Well d o → Stepped
        go (completed s r m) q (completes h) =
            record { words = s; after = r; count = m; step_so = q; store-so = ap (λ (c : CycleCall). c.store) (call-so q); record-so = ap (λ (c : CycleCall). c.record') (call-so q); words-fit = h.words }
        go (Outcome.stopped m) q h = absurd (let z : stopped_for m ≡ cycled n = ap (λ (c : CycleCall). c.answer) (sym (call-so q)) ∙ completes-so in let o : ◌≡◌ {A = ℕ} 0 1 = cc in omega arith)
        go (Outcome.stuck _) q h = elim h [ ]

    before-sound : Sound d (from_bytes d.facilities store) (record_from record')
    unfolding sound_bytes
    before-sound = sound-so d store record' (right_of (marked record') _ there.sound-there)

    inputs-fit : Fit (inputs_of d.facilities) input_words
    unfolding well_formed
    inputs-fit = bytes_fit (inputs_of d.facilities) stimulus (right_of (eqb (length stimulus) (stimulus_size d)) _ there.form)

    room : store_size_of d.facilities ≤ length store
    unfolding roomy store_size
    room = leb-true (store_size d) (length store) (both_left (leb (store_size d) (length store)) _ there.room)

    wrote : Wrote d (from_bytes d.facilities store) (record_from record') input_words stepped.words stepped.after
    wrote =
        cycle-wrote d (from_bytes d.facilities store) (record_from record') input_words stepped.words stepped.after (legal-image image there.passing) stepped.count before-sound inputs-fit stepped.step_so

    -- The actions were executed to the end.
    pub acted-whole : (c : Doing Noted) × (acted ≡ went c)
    acted-whole = (wrote.noted, wrote.executed-so)

    state-so : state_after ≡ stepped.after.state
    state-so = ap (λ (bs : List ℕ). (record_from bs).state) stepped.record-so ∙ ap (λ (r : Record). r.state) (completed-back image store record' stimulus scratch none-refused record' stepped.step_so).0

    writes-so : writes ≡ cycle_writes d input_words wrote.noted stepped.after.state
    unfolding Cycled.writes
    writes-so = ap writes_of wrote.executed-so ∙ ap (λ (q : ℕ). cycle_writes d input_words wrote.noted q) state-so

    size-so : length (to_bytes d.facilities stepped.words) ≡ store_size_of d.facilities
    size-so = store_length d.facilities stepped.words stepped.words-fit

    words-after : from_bytes d.facilities store_after ≡ stepped.words
    words-after = ap (λ (bs : List ℕ). from_bytes d.facilities bs) stepped.store-so ∙ store-back d.facilities stepped.words (drop (length (to_bytes d.facilities stepped.words)) store) stepped.words-fit

    -- The buffer is as long as before.
    pub as_long : length store_after ≡ length store
    as_long =
        let bs : List ℕ = to_bytes d.facilities stepped.words in
        let a : length store_after ≡ length bs + length (drop (length bs) store) = ap (λ (x : List ℕ). length x) stepped.store-so ∙ length-append bs (drop (length bs) store) in
        let c = length-drop (length bs) store in
        omega (arith, a, c, size-so, room)

    -- Bytes beyond the store are kept whole.
    pub beyond-bytes : (i : ℕ) → store_size (decode image) ≤ i → get_or store_after i 0 ≡ get_or store i 0
    unfolding store_size
    beyond-bytes i l =
        let bs : List ℕ = to_bytes d.facilities stepped.words in
        let e : length bs + (i - length bs) ≡ i = omega (arith, size-so, l) in
        ap (λ (x : List ℕ). get_or x i 0) stepped.store-so ∙ (ap (λ (k : ℕ). get_or (over bs store) k 0) (sym e) ∙ (get_or-append-add bs (drop (length bs) store) (i - length bs) 0
        ∙ (get_or-drop (length bs) store (i - length bs) 0 ∙ ap (λ (k : ℕ). get_or store k 0) e)))

    module _ (bytes-so : Bytes store) where
      bytes_after : Bytes store_after
      bytes_after = let bs : List ℕ = to_bytes d.facilities stepped.words in rw stepped.store-so (bytes-append bs (drop (length bs) store) (bytes-to d.facilities stepped.words) (bytes_drop store (length bs) bytes-so))

      enough-after : store_size_of d.facilities ≤ length store_after
      enough-after = omega (arith, as_long, room)

      all_in : AllInStore d writes
      all_in = rw writes-so wrote.places-in

      words-so : from_bytes d.facilities store_after ≡ put_parts d (from_bytes d.facilities store) writes
      words-so = words-after ∙ (wrote.words-so ∙ ap (λ (ws : List Write). put_parts d (from_bytes d.facilities store) ws) (sym writes-so))

      -- A bit that no write of the cycle names is as it was.
      pub kept-bytes : (i b : ℕ) → b < byte_bits → any_names (decode image) writes i b ≡ false → bit_at store_after i b ≡ bit_at store i b
      unfolding bit_at store_size
      kept-bytes i b l e = ⊎_elim
          (λ z. ap (λ (x : ℕ). x / 2 ^ (byte_bits - 1 - b) % 2) (beyond-bytes i (omega (arith, z))))
          (λ z. bits-kept d store_after store bytes_after bytes-so enough-after room writes all_in words-so i b l (omega (arith, z)) e)
          (eq-zero-or-pos (store_size_of d.facilities - i))

      -- A bit that some write names, and no later one, has what that write gave.
      pub lands-bytes : (xs : List Write) (w : Write) (ys : List Write) → writes ≡ xs ++ w ∷ ys → (i b : ℕ) → b < byte_bits → names (decode image) w.at i b ≡ true → any_names (decode image) ys i b ≡ false
          → bit_at store_after i b ≡ given (decode image) w i b
      lands-bytes xs w ys split i b l e later = bits-land d store_after store bytes_after bytes-so enough-after room writes all_in words-so before-sound.words xs w ys split i b l e later

      -- A spare bit of a word was zero, and is.
      pub spare-bytes : (f w : ℕ) → Stored (decode image).facilities f w → (i b : ℕ) → b < byte_bits → byte_bits * place_of_word (decode image).facilities f w ≤ rank i b
          → rank i b < byte_bits * place_of_word (decode image).facilities f w + spare_bits (word_length (get_or (decode image).facilities f no_facility)) → (bit_at store i b ≡ 0) × (bit_at store_after i b ≡ 0)
      spare-bytes f w h i b l low high = (
        spare-zero d.facilities store bytes-so room before-sound.words f w h i b l low high,
        spare-zero d.facilities store_after bytes_after enough-after (rw words-after stepped.words-fit) f w h i b l low high,
      )

      -- ---- By the kinds of writes; c is what the actions came to (acted-whole).

      module _ (c : Doing Noted) (acted-so : acted ≡ went c) (i b : ℕ) (is-bit : b < byte_bits) (w : Write) (named : names (decode image) w.at i b ≡ true) where
        abbrev starts : List Write
        starts = begin_writes 0 d.facilities input_words

        abbrev once : List Write
        once = c.store.writes

        abbrev delayed : List Write
        delayed = joined c.store.store.waits

        abbrev last : List Write
        last = state_writes d state_after

        writes_are : writes ≡ starts ++ (once ++ (delayed ++ last))
        unfolding Cycled.writes cycle_writes
        writes_are = ap writes_of acted-so

        -- The sequencing register has the value of the state entered.
        pub state-lands : state_writes (decode image) state_after ≡ w ∷ [] → bit_at store_after i b ≡ given (decode image) w i b
        unfolding any_names
        state-lands e =
            let before : List Write = starts ++ (once ++ delayed) in
            let whole : writes ≡ before ++ w ∷ [] = writes_are ∙ (rw e (simp append_assoc)) in
            lands-bytes before w [] whole i b is-bit named refl

        -- Any other bit that a delayed store names, and no later one, has the value of that store.
        pub delayed-lands : (xs ys : List Write) → joined c.store.store.waits ≡ xs ++ w ∷ ys → any_names (decode image) ys i b ≡ false → any_names (decode image) (state_writes (decode image) state_after) i b ≡ false
            → bit_at store_after i b ≡ given (decode image) w i b
        delayed-lands xs ys split later not-state =
            let before : List Write = starts ++ (once ++ xs) in
            let whole : writes ≡ before ++ w ∷ (ys ++ last) = writes_are ∙ (rw split (simp append_assoc)) in
            lands-bytes before w (ys ++ last) whole i b is-bit named (none_named d i b ys last later not-state)

        -- A bit that a store carried out at once names, and no later store of either kind, has the value of that store.
        pub once-lands : (xs ys : List Write) → c.store.writes ≡ xs ++ w ∷ ys → any_names (decode image) ys i b ≡ false → any_names (decode image) (joined c.store.store.waits) i b ≡ false
            → any_names (decode image) (state_writes (decode image) state_after) i b ≡ false → bit_at store_after i b ≡ given (decode image) w i b
        once-lands xs ys split later not-delayed not-state =
            let before : List Write = starts ++ xs in
            let behind : List Write = ys ++ (delayed ++ last) in
            let whole : writes ≡ before ++ w ∷ behind = writes_are ∙ (rw split (simp append_assoc)) in
            lands-bytes before w behind whole i b is-bit named (none_named d i b ys (delayed ++ last) later (none_named d i b delayed last not-delayed not-state))

        -- A bit of an input or plain terminal that no store names has what it took at the begin.
        pub begin-lands : (xs ys : List Write) → begin_writes 0 (decode image).facilities input_words ≡ xs ++ w ∷ ys → any_names (decode image) ys i b ≡ false → any_names (decode image) c.store.writes i b ≡ false
            → any_names (decode image) (joined c.store.store.waits) i b ≡ false → any_names (decode image) (state_writes (decode image) state_after) i b ≡ false → bit_at store_after i b ≡ given (decode image) w i b
        begin-lands xs ys split later not-once not-delayed not-state =
            let behind : List Write = ys ++ (once ++ (delayed ++ last)) in
            let whole : writes ≡ xs ++ w ∷ behind = writes_are ∙ (rw split (simp append_assoc)) in
            lands-bytes xs w behind whole i b is-bit named
            (none_named d i b ys (once ++ (delayed ++ last)) later (none_named d i b once (delayed ++ last) not-once (none_named d i b delayed last not-delayed not-state)))
