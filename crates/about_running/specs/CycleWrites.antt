-- A completed cycle's store is the store before it with one write put after the other: at the begin, at once, landing, and for the state entered. Assumes nothing.
use Rattle.std.proofs.Math.Bool.{true, false}
use Rattle.std.specs.Prelude.{cond, drop, replicate}
use mathlib.Core.List.{List, [], ◌∷◌, ◌++◌, append_assoc}
use Rattle.std.proofs.Math.Option.{Option, none, some}
use Rattle.std.proofs.Math.Path.{◌≡◌, refl, sym, ap}
use Rattle.std.proofs.Common.{◌∙◌, add-zero, mod-eq_of_lt, mul-one, zero-add, zero-mul}
use Rattle.std.proofs.Math.Nat.{div-eq_of_lt, mod-one}
use native.Mathlib.Omega.{arith}
use Prim.Native.Nat.{ℕ, suc, ◌+◌, ◌-◌, ◌^◌, ◌≤◌, ◌<◌}
use Rattle.std.proofs.Math.ListN.{get_or, length, length-append, set}
use Rattle.std.proofs.Math.Seq.{get_or-append_seam, get_or_at, set-append_seam}
use Rattle.std.proofs.lemmas.List.{set_at}
use Rattle.language.specs.Acting.{Doing, Ran, went}
use Rattle.language.specs.Description.{Description, Facility, facility_at, is_computed, is_sequencing, no_facility, sequencing_of, state_at, word_count, word_length}
use Rattle.language.specs.Meaning.{Place, Write, place}
use Rattle.language.specs.Step.{Record, completed, into, set_register, state_number, step}
use Rattle.language.specs.Store.{Held, StoreWords, begin, begun, head_of, inputs_of, is_input, land_all, numbers, put_part, put_parts, set_word, word_of}
use Rattle.language.specs.Tree.{Kind, computed, input, memory, plain, register, sequencing}
use Rattle.language.specs.Value.{replaced}
use Rattle.about_running.specs.Acts.{Good}
use Rattle.about_running.specs.Cycle.{Sound, Well, completes, cycle-well, land-fit, plain_row, run-good}
use Rattle.about_running.specs.Executes.{There, good}
use Rattle.about_running.specs.Fitting.{AllBelow, Fit, Inv, Row, fit_word, numbers_keep, stored}
use Rattle.about_running.specs.Kept.{AllStoredIn, Noted, Stands, alike, executed, joined, joins, land-puts, noting, puts-append}
use Rattle.about_running.specs.LandsLast.{Did, lands_last}
use Rattle.about_running.specs.LegalForm.{Legal}
use Rattle.about_running.specs.SameActions.{AllStored, go_on}
use Rattle.about_running.specs.SameRuns.{Alike}
use Rattle.about_running.specs.StateValues.{bears-value, found_from, some_word}

-- ---- The writes of a cycle.

-- StoreWords of facility f, of l bits, written whole from word w on.
unfoldable pub whole_words : ℕ → ℕ → ℕ → List ℕ → List Write
whole_words f l w [] = []
whole_words f l w (x ∷ xs) = record { at = place f w 0 l; number = x } ∷ whole_words f l (suc w) xs

-- The words that a facility takes when a cycle begins: an input terminal the stimulus's, a plain terminal zero, any other none.
abbrev pub takes : Kind → Facility → StoreWords → List ℕ
takes register f ins = []
takes sequencing f ins = []
takes memory f ins = []
takes plain f ins = replicate (word_count f) 0
takes input f ins = head_of ins
takes computed f ins = []

-- The begin of a cycle, for the facilities from number n on.
unfoldable pub begin_writes : ℕ → List Facility → StoreWords → List Write
begin_writes n [] ins = []
begin_writes n (f ∷ fs) ins = whole_words n (word_length f) 0 (takes f.kind f ins) ++ begin_writes (suc n) fs (cond (is_input f.kind) (drop 1 ins) ins)

module _ (d : Description) where
  -- Its one word, where there is one and a value for it.
  abbrev pub register_writes : Option ℕ → Option ℕ → List Write
  register_writes none v = []
  register_writes (some f) none = []
  register_writes (some f) (some x) = whole_words f (word_length (facility_at d f)) 0 (x ∷ [])

  -- The sequencing register, where there is one, takes the value of the state entered.
  unfoldable pub state_writes : ℕ → List Write
  state_writes state = register_writes (sequencing_of d) (state_number d state)

  -- All of them: the begin, the stores carried out at once, the delayed stores, and the state entered.
  unfoldable pub cycle_writes : StoreWords → Doing Noted → ℕ → List Write
  cycle_writes ins c state = begin_writes 0 d.facilities ins ++ (c.store.writes ++ (joined c.store.store.waits ++ state_writes state))

-- A part of a word that has a place in the store.
pub record InStore (d : Description) (p : Place) : Type 0 where
  pub there : There d p
  pub kept : is_computed (facility_at d p.facility).kind ≡ false

abbrev pub AllInStore : Description → List Write → Type 0
AllInStore d [] = Unit {0}
AllInStore d (w ∷ ws) = InStore d w.at × AllInStore d ws

-- ---- A whole word.

replaced-whole : (w l x : ℕ) → w < 2 ^ l → x < 2 ^ l → replaced w 0 l x ≡ x
unfolding replaced
replaced-whole w l x h k =
    rw (zero-add, div-eq_of_lt h, mod-eq_of_lt k, zero-mul, zero-add, mul-one, mod-one, add-zero) refl

module _ (d : Description) where
  put_whole : (s : StoreWords) (f w x l : ℕ) → word_length (facility_at d f) ≡ l → word_of s f w < 2 ^ l → x < 2 ^ l → put_part d s (record { at = place f w 0 l; number = x }) ≡ set_word s f w x
  unfolding put_part
  put_whole s f w x l e h k =
      let low : word_length (facility_at d f) - (0 + l) ≡ 0 = omega arith in
      rw low (ap (λ (y : ℕ). set_word s f w y) (replaced-whole (word_of s f w) l x h k))

  -- ---- The begin.

  module _ (before after : StoreWords) (n l : ℕ) (length-so : word_length (facility_at d n) ≡ l) (number-so : length before ≡ n) where
    word-there : (s : StoreWords) (done old : List ℕ) (y : ℕ) → get_or s n [] ≡ done ++ y ∷ old → word_of s n (length done) ≡ y
    unfolding word_of
    word-there s done old y q = rw q (get_or-append_seam done y old 0)

    set_there : (s : StoreWords) (done old : List ℕ) (x y : ℕ) → get_or s n [] ≡ done ++ y ∷ old → set s n (done ++ x ∷ old) ≡ before ++ (done ++ x ∷ old) ∷ after
        → set_word s n (length done) x ≡ before ++ ((done ++ x ∷ []) ++ old) ∷ after
    unfolding set_word
    set_there s done old x y q z = rw q (ap (λ (r : List ℕ). set s n r) (set-append_seam done y old x) ∙ (z ∙ ap (λ (r : List ℕ). before ++ r ∷ after) (sym (append_assoc done (x ∷ []) old))))

    row-puts : (done old new : List ℕ) → length old ≡ length new → AllBelow (2 ^ l) old → AllBelow (2 ^ l) new
        → put_parts d (before ++ (done ++ old) ∷ after) (whole_words n l (length done) new) ≡ before ++ (done ++ new) ∷ after
    unfolding put_parts whole_words
    row-puts done [] [] e h k = refl
    row-puts done (y ∷ old) [] e h k = absurd (omega arith)
    row-puts done [] (x ∷ new) e h k = absurd (omega arith)
    row-puts done (y ∷ old) (x ∷ new) e h k =
        let s : StoreWords = before ++ (done ++ y ∷ old) ∷ after in
        let row : get_or s n [] ≡ done ++ y ∷ old = get_or_at before (done ++ y ∷ old) after [] n number-so in
        let there : word_of s n (length done) ≡ y = word-there s done old y row in
        let put-so : put_part d s (record { at = place n (length done) 0 l; number = x }) ≡ set_word s n (length done) x = put_whole s n (length done) x l length-so (rw there h.0) k.0 in
        let set_so : set_word s n (length done) x ≡ before ++ ((done ++ x ∷ []) ++ old) ∷ after = set_there s done old x y row (set_at before (done ++ y ∷ old) after (done ++ x ∷ old) n number-so) in
        let count : length (done ++ x ∷ []) ≡ suc (length done) = length-append done (x ∷ []) ∙ omega arith in
        let later = row-puts (done ++ x ∷ []) old new (omega arith) h.1 k.1 in
        ap (λ (z : StoreWords). put_parts d z (whole_words n l (suc (length done)) new)) (put-so ∙ set_so)
        ∙ (ap (λ (z : ℕ). put_parts d (before ++ ((done ++ x ∷ []) ++ old) ∷ after) (whole_words n l z new)) (sym count)
        ∙ (later ∙ ap (λ (z : List ℕ). before ++ z ∷ after) (append_assoc done (x ∷ []) new)))

  begin-puts : (n : ℕ) (front fs : List Facility) (before s ins : StoreWords) → d.facilities ≡ front ++ fs → length front ≡ n → length before ≡ n → Fit fs s → Fit (inputs_of fs) ins
      → put_parts d (before ++ s) (begin_writes n fs ins) ≡ before ++ begin fs s ins
  unfolding begin_writes begin facility_at inputs_of put_parts whole_words
  begin-puts n front [] before [] ins e p q h k = refl
  begin-puts n front [] before (r ∷ s) ins e p q h k = absurd h
  begin-puts n front (f ∷ fs) before [] ins e p q h k = absurd h
  begin-puts n front (f ∷ fs) before (r ∷ s) ins e p q h k =
      go (λ b more z i. begin-puts (suc n) (front ++ f ∷ []) fs b s more (e ∙ sym (append_assoc front (f ∷ []) fs)) (length-append front (f ∷ []) ∙ omega arith) z h.1 i) f.kind refl k
    where
      Later : Type 0
      Later = (b more : StoreWords) → length b ≡ suc n → Fit (inputs_of fs) more → put_parts d (b ++ s) (begin_writes (suc n) fs more) ≡ b ++ begin fs s more

      l : ℕ
      l = word_length f

      length-so : word_length (facility_at d n) ≡ l
      length-so = rw e (ap word_length (get_or_at front f fs no_facility n p))

      -- What the first facility takes is put, then what the others take.
      onward : Later → (new row : List ℕ) (more : StoreWords) → put_parts d (before ++ r ∷ s) (whole_words n l 0 new) ≡ before ++ row ∷ s → Fit (inputs_of fs) more
          → put_parts d (before ++ r ∷ s) (whole_words n l 0 new ++ begin_writes (suc n) fs more) ≡ before ++ row ∷ begin fs s more
      onward on new row more z i =
          let later = on (before ++ row ∷ []) more (length-append before (row ∷ []) ∙ omega arith) i in
          puts-append d (before ++ r ∷ s) (whole_words n l 0 new) (begin_writes (suc n) fs more)
          ∙ (ap (λ (x : StoreWords). put_parts d x (begin_writes (suc n) fs more)) (z ∙ sym (append_assoc before (row ∷ []) s)) ∙ (later ∙ append_assoc before (row ∷ []) (begin fs s more)))

      none-new : put_parts d (before ++ r ∷ s) (whole_words n l 0 []) ≡ before ++ r ∷ s
      none-new = refl

      set-row : (new : List ℕ) → Row f new → put_parts d (before ++ r ∷ s) (whole_words n l 0 new) ≡ before ++ new ∷ s
      set-row new i = row-puts before s n l length-so q [] r new (h.0.count ∙ sym i.count) h.0.small i.small

      taken : Later → (ins : StoreWords) → Fit (f ∷ inputs_of fs) ins → put_parts d (before ++ r ∷ s) (whole_words n l 0 (head_of ins) ++ begin_writes (suc n) fs (drop 1 ins)) ≡ before ++ head_of ins ∷ begin fs s (drop 1 ins)
      taken on [] i = absurd i
      taken on (x ∷ ins) i = onward on x x ins (set-row x i.0) i.1

      go : Later → (t : Kind) → f.kind ≡ t → Fit (cond (is_input t) (f ∷ inputs_of fs) (inputs_of fs)) ins
          → put_parts d (before ++ r ∷ s) (whole_words n l 0 (takes t f ins) ++ begin_writes (suc n) fs (cond (is_input t) (drop 1 ins) ins)) ≡ before ++ begun t f r ins ∷ begin fs s (cond (is_input t) (drop 1 ins) ins)
      go on register z i = onward on [] r ins none-new i
      go on sequencing z i = onward on [] r ins none-new i
      go on memory z i = onward on [] r ins none-new i
      go on plain z i = onward on (replicate (word_count f) 0) (replicate (word_count f) 0) ins (set-row (replicate (word_count f) 0) (plain_row f z)) i
      go on input z i = taken on ins i
      go on computed z i = onward on [] r ins none-new i

  -- ---- Every write is to a place in the store.

  in-append : (xs ys : List Write) → AllInStore d xs → AllInStore d ys → AllInStore d (xs ++ ys)
  in-append [] ys h k = k
  in-append (x ∷ xs) ys h k = (h.0, in-append xs ys h.1 k)

  stored-in : (ws : List Write) → AllStored d ws → AllInStore d ws
  stored-in [] h = tt
  stored-in (w ∷ ws) h = (record { there = h.0.taken.there; kept = h.0.kept }, stored-in ws h.1)

  joined_in : (gs : List (List Write)) → AllStoredIn d gs → AllInStore d (joined gs)
  unfolding joined
  joined_in [] h = tt
  joined_in (g ∷ gs) h = in-append g (joined gs) (stored-in g h.0) (joined_in gs h.1)

  whole_in : (n : ℕ) (f : Facility) → facility_at d n ≡ f → n < length d.facilities → is_computed f.kind ≡ false → (w : ℕ) (xs : List ℕ) → w + length xs ≤ word_count f
      → AllInStore d (whole_words n (word_length f) w xs)
  unfolding whole_words
  whole_in n f e l c w [] h = tt
  whole_in n f e l c w (x ∷ xs) h = (
    record { there = record { facility-in = l; word-in = rw e (omega arith); part_in = rw e (omega arith) }; kept = rw e c },
    whole_in n f e l c (suc w) xs (omega arith),
  )

  begin-in : (n : ℕ) (front fs : List Facility) (ins : StoreWords) → d.facilities ≡ front ++ fs → length front ≡ n → Fit (inputs_of fs) ins → AllInStore d (begin_writes n fs ins)
  unfolding begin_writes facility_at inputs_of stored whole_words
  begin-in n front [] ins e p k = tt
  begin-in n front (f ∷ fs) ins e p k =
      go (λ more i. begin-in (suc n) (front ++ f ∷ []) fs more (e ∙ sym (append_assoc front (f ∷ []) fs)) (length-append front (f ∷ []) ∙ omega arith) i) f.kind refl k
    where
      Later : Type 0
      Later = (more : StoreWords) → Fit (inputs_of fs) more → AllInStore d (begin_writes (suc n) fs more)

      found : get_or d.facilities n no_facility ≡ f
      found = rw e (get_or_at front f fs no_facility n p)

      inside : n < length d.facilities
      inside = rw e (let z = length-append front (f ∷ fs) in omega arith)

      row_in : (new : List ℕ) → is_computed f.kind ≡ false → Row f new → AllInStore d (whole_words n (word_length f) 0 new)
      row_in new z i = whole_in n f found inside z 0 new (let c : length new ≡ word_count f = i.count ∙ rw z refl in omega arith)

      taken : Later → (ins : StoreWords) → f.kind ≡ input → Fit (f ∷ inputs_of fs) ins → AllInStore d (whole_words n (word_length f) 0 (head_of ins) ++ begin_writes (suc n) fs (drop 1 ins))
      taken on [] z i = absurd i
      taken on (x ∷ ins) z i = in-append (whole_words n (word_length f) 0 x) (begin_writes (suc n) fs ins) (row_in x (rw z refl) i.0) (on ins i.1)

      go : Later → (t : Kind) → f.kind ≡ t → Fit (cond (is_input t) (f ∷ inputs_of fs) (inputs_of fs)) ins
          → AllInStore d (whole_words n (word_length f) 0 (takes t f ins) ++ begin_writes (suc n) fs (cond (is_input t) (drop 1 ins) ins))
      go on register z i = on ins i
      go on sequencing z i = on ins i
      go on memory z i = on ins i
      go on plain z i = in-append (whole_words n (word_length f) 0 (replicate (word_count f) 0)) (begin_writes (suc n) fs ins) (row_in (replicate (word_count f) 0) (rw z refl) (plain_row f z)) (on ins i)
      go on input z i = taken on ins z i
      go on computed z i = on ins i

  -- ---- The state entered.

  state-in : (state : ℕ) → AllInStore d (state_writes d state)
  unfolding facility_at sequencing_of state_writes
  state-in state = go (sequencing_of d) refl (state_number d state)
    where
      not-computed : (k : Kind) → is_sequencing k ≡ true → is_computed k ≡ false
      not-computed register q = refl
      not-computed sequencing q = refl
      not-computed memory q = refl
      not-computed plain q = refl
      not-computed input q = refl
      not-computed computed q = absurd (let z : ◌≡◌ {A = ℕ} 0 1 = cc in omega arith)

      go : (x : Option ℕ) → sequencing_of d ≡ x → (v : Option ℕ) → AllInStore d (register_writes d x v)
      go none q v = tt
      go (some f) q none = tt
      go (some f) q (some x) =
          let y = found_from 0 f d.facilities q in
          let z : f ≡ y.0 = omega (arith, y.1) in
          let l : f < length d.facilities = omega (arith, y.2.inside) in
          let t : is_sequencing (get_or d.facilities f no_facility).kind ≡ true = rw z y.2.sequencing in
          let w = some_word (facility_at d f) in
          whole_in f (facility_at d f) refl l (not-computed (facility_at d f).kind t) 0 (x ∷ []) (omega arith)

  module _ (L : Legal d) where
    state-puts : (u t : StoreWords) (state : ℕ) → state < length d.states → Fit d.facilities u → set_register d (sequencing_of d) (state_at d state).value u ≡ into t → t ≡ put_parts d u (state_writes d state)
    unfolding facility_at put_parts state_writes whole_words
    state-puts u t state l h e = go (sequencing_of d) refl e
      where
        borne : (f : ℕ) → sequencing_of d ≡ some f → set_register d (some f) (state_at d state).value u ≡ into t → t ≡ put_parts d u (register_writes d (some f) (state_number d state))
        borne f q k =
            let v = bears-value d L f q state l in
            let set_so : set_word u f 0 v.number ≡ t = let y : into (set_word u f 0 v.number) ≡ into t = sym (v.enters u) ∙ k in cc in
            rw v.borne (sym set_so ∙ sym (put_whole u f 0 v.number (word_length (facility_at d f)) refl (fit_word d.facilities u f 0 h) v.fits))

        go : (x : Option ℕ) → sequencing_of d ≡ x → set_register d x (state_at d state).value u ≡ into t → t ≡ put_parts d u (register_writes d x (state_number d state))
        go none q k = let z : u ≡ t = cc in sym z
        go (some f) q k = borne f q k

-- ---- The cycle.

module _ (d : Description) (s : StoreWords) (r : Record) (ins t : StoreWords) (q : Record) where
  -- The actions as executed with every write noted; the words after the cycle are those before it with its writes put there, each to a place in the store.
  pub record Wrote : Type 0 where
    pub noted : Doing Noted
    pub executed-so : executed d s r ins ≡ went noted
    pub words-so : t ≡ put_parts d s (cycle_writes d ins noted q.state)
    pub places-in : AllInStore d (cycle_writes d ins noted q.state)

  module _ (L : Legal d) (n : ℕ) (is-sound : Sound d s r) (fits : Fit (inputs_of d.facilities) ins) (completes-so : step d s r ins ≡ completed t q n) where
    abbrev begins : StoreWords
    begins = begin d.facilities s ins

    abbrev did : Did d s r ins t q n
    did = lands_last d s r ins t q n completes-so

    -- The state entered is there, and the words with the delayed stores landed fit.
    state-there : q.state < length d.states
    state-there = go (rw completes-so at (cycle-well d L s r ins is-sound fits))
      where
        go : Well d (completed t q n) → q.state < length d.states
        go (completes h) = h.state-in

    landed-fit : Fit d.facilities (land_all d did.done.store.words did.done.store.waits)
    landed-fit = go (rw did.ran at (run-good d L s r ins is-sound fits))
      where
        go : Good (numbers d) d (Inv d) (numbers_keep d) L (went did.done) → Fit d.facilities (land_all d did.done.store.words did.done.store.waits)
        go (good i g k) = land-fit d did.done.store.words did.done.store.waits i.1 i.0

    all-put : (c : Doing Noted) → Stands d begins did.done.store c.store → t ≡ put_parts d s (cycle_writes d ins c q.state)
    unfolding cycle_writes
    all-put c h =
        let first : begins ≡ put_parts d s (begin_writes 0 d.facilities ins) = sym (begin-puts d 0 [] d.facilities [] s ins refl refl refl is-sound.words fits) in
        let last = state-puts d L (land_all d did.done.store.words did.done.store.waits) t q.state state-there landed-fit did.lands in
        let lands : land_all d did.done.store.words did.done.store.waits ≡ put_parts d (put_parts d begins c.store.writes) (joined c.store.store.waits) =
        ap (λ (x : Held). land_all d x.words x.waits) h.same ∙ (land-puts d c.store.store.words c.store.store.waits ∙ ap (λ (x : StoreWords). put_parts d x (joined c.store.store.waits)) h.put-so)
        in
        let whole : t ≡ put_parts d (put_parts d (put_parts d (put_parts d s (begin_writes 0 d.facilities ins)) c.store.writes) (joined c.store.store.waits)) (state_writes d q.state) =
        last ∙ (ap (λ (x : StoreWords). put_parts d x (state_writes d q.state)) lands ∙ ap (λ (x : StoreWords). put_parts d (put_parts d (put_parts d x c.store.writes) (joined c.store.store.waits)) (state_writes d q.state)) first)
        in
        whole ∙ sym (puts-append d s (begin_writes 0 d.facilities ins) _ ∙ (puts-append d _ c.store.writes _ ∙ puts-append d _ (joined c.store.store.waits) (state_writes d q.state)))

    all_in : (c : Doing Noted) → Stands d begins did.done.store c.store → AllInStore d (cycle_writes d ins c q.state)
    unfolding cycle_writes
    all_in c h =
        in-append d (begin_writes 0 d.facilities ins) _ (begin-in d 0 [] d.facilities ins refl refl fits)
        (in-append d c.store.writes _ (stored-in d c.store.writes h.once-stored)
        (in-append d (joined c.store.store.waits) (state_writes d q.state) (joined_in d c.store.store.waits h.later-stored) (state-in d q.state)))

    pub cycle-wrote : Wrote
    cycle-wrote = go (executed d s r ins) refl (rw did.ran at (alike d s r ins))
      where
        go : (y : Ran Noted) → executed d s r ins ≡ y → Alike (numbers d) (noting d) d (Stands d begins) (joins d begins) (went did.done) y → Wrote
        go (went c) k (go_on h) = record { noted = c; executed-so = k; words-so = all-put c h.stores; places-in = all_in c h.stores }
        go (Ran.stopped _) k x3 = elim x3 [ ]
        go (Ran.stuck _) k x3 = elim x3 [ ]
