-- Never stuck, and always sound again: a cycle of a legal description from a sound store and record with fitting inputs completes, or stops for a listed reason. Assumes nothing.
use Rattle.std.specs.Prelude.{Bool, false, cond, ◌≡◌, ℕ, zero, suc, ◌^◌, ◌<◌, leb, drop, get_or, replicate, set}
use Rattle.std.proofs.Math.Bool.{true}
use mathlib.Core.List.{List, [], ◌∷◌}
use Rattle.std.proofs.Math.Option.{Option, none, some}
use Rattle.std.proofs.Math.Path.{refl}
use Rattle.std.proofs.Common.{ap, ◌∙◌, arith, eq-eqb, lt-ltb, get_or-set_same, pow_pos}
use Rattle.std.proofs.Math.ListN.{length}
use Rattle.language.specs.Acting as A
use Rattle.language.specs.Acting.{Doing, Ran, went}
use Rattle.language.specs.Description.{Description, Facility, facility_at, is_computed, is_sequencing, no_facility, sequencing_of, state_at, word_count, word_length}
use Rattle.language.specs.Kinds.{delayed_sign}
use Rattle.language.specs.Meaning.{Write}
use Rattle.language.specs.RecordBytes.{agrees}
use Rattle.language.specs.Step.{Outcome, Record, after_actions, completed, finished, landed, next_record, nothing_done, or_stopped, register_value, set_register, state_number, step, stop_after, entered}
use Rattle.language.specs.Ceilings.{last_cycle}
use Rattle.language.specs.declared.stops.Stop.{Stop}
use Rattle.language.specs.declared.stops.Stop.TheVariants.{LastCycleReached}
use Rattle.language.specs.Store.{Held, StoreWords, begin, begun, head_of, inputs_of, is_input, land_all, numbers, put_part, put_parts, set_word, word_of}
use Rattle.language.specs.Tree.{Kind, computed, input, memory, plain, register, sequencing}
use Rattle.about_running.specs.Acts.{Good, state-acts}
use Rattle.about_running.specs.Executes as E
use Rattle.about_running.specs.Executes.{AllRight, AllStates}
use Rattle.about_running.specs.Fitting.{AllBelow, AllWaits, Fit, Inv, Row, fit-put, fit-set, numbers_keep, stored}
use Rattle.about_running.specs.LegalForm.{Legal}
use Rattle.about_running.specs.NextState.{Returns, next-right}
use Rattle.about_running.specs.StateValues.{bears-value, found_from, some_word}

-- ---- A cycle begins: the inputs are set and the plain terminals cleared.

pub zeros-below : (n l : ℕ) → AllBelow (2 ^ l) (replicate n 0)
zeros-below zero l = tt
zeros-below (suc n) l = (pow_pos l, zeros-below n l)

pub zeros-length : (n : ℕ) → length {A = ℕ} (replicate n 0) ≡ n
zeros-length zero = refl
zeros-length (suc n) = ap suc (zeros-length n)

pub plain_row : (f : Facility) → f.kind ≡ plain → Row f (replicate (word_count f) 0)
unfolding stored
plain_row f q = record { count = zeros-length (word_count f) ∙ rw q refl; small = zeros-below (word_count f) (word_length f) }

pub begin-fit : (fs : List Facility) (s ins : StoreWords) → Fit fs s → Fit (inputs_of fs) ins → Fit fs (begin fs s ins)
unfolding begin inputs_of
begin-fit [] s ins h k = tt
begin-fit (f ∷ fs) [] ins h k = absurd h
begin-fit (f ∷ fs) (ws ∷ s) ins h k = go (λ more q. begin-fit fs s more h.1 q) f.kind refl k
  where
    taken : ((more : StoreWords) → Fit (inputs_of fs) more → Fit fs (begin fs s more)) → (more : StoreWords) → Fit (f ∷ inputs_of fs) more → Row f (head_of more) × Fit fs (begin fs s (drop 1 more))
    taken on [] q = absurd q
    taken on (x ∷ xs) q = (q.0, on xs q.1)

    go : ((more : StoreWords) → Fit (inputs_of fs) more → Fit fs (begin fs s more)) → (t : Kind) → f.kind ≡ t → Fit (cond (is_input t) (f ∷ inputs_of fs) (inputs_of fs)) ins
        → Fit (f ∷ fs) (begun t f ws ins ∷ begin fs s (cond (is_input t) (drop 1 ins) ins))
    go on register q i = (h.0, on ins i)
    go on sequencing q i = (h.0, on ins i)
    go on memory q i = (h.0, on ins i)
    go on plain q i = (plain_row f q, on ins i)
    go on input q i = taken on ins i
    go on computed q i = (h.0, on ins i)

-- What a sound store and record are.
pub record Sound (d : Description) (s : StoreWords) (r : Record) : Type 0 where
  pub words : Fit d.facilities s
  pub state-in : r.state < length d.states
  pub returns-in : Returns d r.held r.returns
  pub register-so : agrees (sequencing_of d) (state_number d r.state) (register_value d (sequencing_of d) s) ≡ true

-- A cycle has not been stuck; where it completed, all is sound.
pub data Well (d : Description) : Outcome → Type 0 where
  completes : {s : StoreWords} {r : Record} {n : ℕ} → Sound d s r → Well d (completed s r n)
  stops : {n : Stop} → Well d (Outcome.stopped n)

-- ---- Delayed stores land.

module _ (d : Description) where
  puts-fit : (s : StoreWords) (ws : List Write) → AllRight d delayed_sign ws → Fit d.facilities s → Fit d.facilities (put_parts d s ws)
  unfolding put_parts
  puts-fit s [] r h = h
  puts-fit s (w ∷ ws) r h = puts-fit (put_part d s w) ws r.1 (fit-put d s w r.0.there h)

  pub land-fit : (s : StoreWords) (gs : List (List Write)) → AllWaits d gs → Fit d.facilities s → Fit d.facilities (land_all d s gs)
  unfolding land_all
  land-fit s [] r h = h
  land-fit s (g ∷ gs) r h = land-fit (put_parts d s g) gs r.1 (puts-fit s g r.0 h)

-- A word that is there is what was set.
pub row_of : (fs : List Facility) (s : StoreWords) (n : ℕ) → Fit fs s → n < length fs → (n < length s) × (length (get_or s n []) ≡ stored (get_or fs n no_facility))
row_of [] [] n h l = absurd (omega arith)
row_of [] (ws ∷ s) n h l = absurd h
row_of (f ∷ fs) [] n h l = absurd h
row_of (f ∷ fs) (ws ∷ s) zero h l = (omega arith, h.0.count)
row_of (f ∷ fs) (ws ∷ s) (suc n) h l = let y = row_of fs s n h.1 (omega arith) in (omega (arith, y.0), y.1)

sequencing-stored : (f : Facility) → is_sequencing f.kind ≡ true → 0 < stored f
unfolding stored
sequencing-stored f e = go f.kind e
  where
    go : (k : Kind) → is_sequencing k ≡ true → 0 < cond (is_computed k) 0 (word_count f)
    go register q = absurd (let z : ◌≡◌ {A = ℕ} 0 1 = cc in omega arith)
    go sequencing q = some_word f
    go memory q = absurd (let z : ◌≡◌ {A = ℕ} 0 1 = cc in omega arith)
    go plain q = absurd (let z : ◌≡◌ {A = ℕ} 0 1 = cc in omega arith)
    go input q = absurd (let z : ◌≡◌ {A = ℕ} 0 1 = cc in omega arith)
    go computed q = absurd (let z : ◌≡◌ {A = ℕ} 0 1 = cc in omega arith)

pub set_same : (s : StoreWords) (n x : ℕ) → n < length s → 0 < length (get_or s n []) → word_of (set_word s n 0 x) n 0 ≡ x
unfolding word_of set_word
set_same s n x h k = rw (get_or-set_same s n (set (get_or s n []) 0 x) [] h) (get_or-set_same (get_or s n []) 0 x 0 k)

module _ (d : Description) (L : Legal d) where
  -- ---- The sequencing register takes the value of the state entered.

  pub register-set : (s : StoreWords) (n f x : ℕ) → sequencing_of d ≡ some f → Fit d.facilities s → word_of (set_word s f 0 x) f 0 ≡ x
  unfolding sequencing_of
  register-set s n f x q h =
      let y = found_from 0 f d.facilities q in
      let z : f ≡ y.0 = omega (arith, y.1) in
      let b : f < length d.facilities = omega (arith, y.2.inside) in
      let r = row_of d.facilities s f h b in
      let t : is_sequencing (get_or d.facilities f no_facility).kind ≡ true = rw z y.2.sequencing in
      set_same s f x r.0 (omega (arith, r.1, sequencing-stored (get_or d.facilities f no_facility) t))

  enter-well : (r : Record) (c : Doing Held) (n : ℕ) (x : Option ℕ) → sequencing_of d ≡ x → (next_record d r c).state < length d.states
      → Returns d (next_record d r c).held (next_record d r c).returns → Fit d.facilities (landed d r c)
      → Well d (entered d r c (set_register d x (state_at d (next_record d r c).state).value (landed d r c)))
  unfolding facility_at
  enter-well r c n none q i k h = completes (record { words = h; state-in = i; returns-in = k; register-so = rw q refl })
  enter-well r c n (some f) q i k h =
      let v = bears-value d L f q (next_record d r c).state i in
      rw (v.enters (landed d r c)) (completes (record {
        words = fit-set d.facilities (landed d r c) f 0 v.number h v.fits;
        state-in = i;
        returns-in = k;
        register-so = rw (q, v.borne) (eq-eqb _ _ (register-set (landed d r c) n f v.number q h));
      }))

  finish-well : (s : StoreWords) (r : Record) (c : Doing Held) → Sound d s r → Inv d c.store → AllStates d c.gotos → AllStates d c.calls → Well d (finished d r c)
  unfolding finished
  finish-well s r c h i g k = go (stop_after d r c) refl
    where
      go : (x : Option Stop) → stop_after d r c ≡ x → Well d (or_stopped d r c x)
      go none q =
          let y = next-right d r c h.state-in h.returns-in g k q in
          enter-well r c 0 (sequencing_of d) refl y.state-there y.returns-there (land-fit d c.store.words c.store.waits i.1 i.0)
      go (some n) q = stops

  -- The cycle.

  module _ (s : StoreWords) (r : Record) (ins : StoreWords) (h : Sound d s r) (k : Fit (inputs_of d.facilities) ins) where
    abbrev first : Doing Held
    first = nothing_done d (begin d.facilities s ins)

    abbrev run : Ran Held
    run = A.run_actions (numbers d) d (state_at d r.state).actions first

    pub run-good : Good (numbers d) d (Inv d) (numbers_keep d) L run
    run-good = state-acts (numbers d) d (Inv d) (numbers_keep d) L r.state first h.state-in ((begin-fit d.facilities s ins h.words k, tt), tt, tt)

    pub cycle-well : Well d (step d s r ins)
    unfolding step
    cycle-well = rw (lt-ltb r.state (length d.states) h.state-in) (go (leb last_cycle r.cycle))
      where
        after : (x : Ran Held) → Good (numbers d) d (Inv d) (numbers_keep d) L x → Well d (after_actions d r x)
        after (went c) (E.good i g q) = finish-well s r c h i g q
        after (Ran.stopped n) E.stops_so = stops
        after (A.stuck _) x3 = elim x3 [ ]

        go : (b : Bool) → Well d (cond b (Outcome.stopped LastCycleReached) (after_actions d r run))
        go true = stops
        go false = after run run-good
