-- A delayed store fixes place and value when executed and changes no word; two of them swap two registers; what no executed store names is kept. Assumes nothing.
use Rattle.std.specs.Prelude.{Bool, true, false, cond, ◌||◌, List, [], ◌∷◌, ◌++◌, ◌≡◌, refl, ℕ, ◌+◌, ◌/◌, ◌%◌, ◌^◌, ◌<◌, eqb, length}
use Rattle.std.proofs.Math.Option.{some}
use Rattle.std.proofs.Common.{sym, ap, arith}
use Rattle.language.specs.Acting.{Doing, Ran, landing, on_place, on_sequencing, on_value, onward, side, storable, store_to, store_to_pair, storing, went, with_store, write}
use Rattle.language.specs.Description as D
use Rattle.language.specs.Description.{Description, facility_at, node_at, sequencing_of, word_length}
use Rattle.language.specs.Kinds.{delayed_sign}
use Rattle.language.specs.Meaning.{Answer, Located, Place, Write, eval_at, is, not_storable, place, sides_differ, stops, stuck}
use Rattle.language.specs.Step.{Record, completed, step}
use Rattle.language.specs.Store.{Held, StoreWords, begin, held, land_all, load_part, numbers, word_of}
use Rattle.language.specs.Value.{Value}
use Rattle.about_running.specs.BitsKept.{NoneHas, NoneHasAny, bit_of}
use Rattle.about_running.specs.Fitting.{Fit}
use Rattle.about_running.specs.Kept.{Noted, Stands, alike, executed, joins, kept, noting, steady}
use Rattle.about_running.specs.LandsLast.{lands_last}
use Rattle.about_running.specs.LandsTogether.{Register, swaps, whole-waits}
use Rattle.about_running.specs.SameActions as Actions
use Rattle.about_running.specs.SameRuns.{Alike}

module _ (d : Description) where
  -- ---- A delayed store is executed.

  stored-waits : (bits : ℕ) (allowed q : Bool) (v : Value) (ws : List Write) (c c' : Doing Held) → storing (numbers d) d delayed_sign bits allowed q v ws c ≡ went c'
      → c'.store ≡ held c.store.words (c.store.waits ++ ws ∷ [])
  unfolding storing landing
  stored-waits bits allowed q v ws c c' e = go (eqb v.length bits) allowed e
    where
      late : Doing Held
      late = landing (numbers d) d delayed_sign ws q c

      go : (a b : Bool) → cond a (cond b (went late) (Ran.stuck not_storable)) (Ran.stuck sides_differ) ≡ went c' → c'.store ≡ held c.store.words (c.store.waits ++ ws ∷ [])
      go true true h = let z : late ≡ c' = cc in ap (λ (x : Doing Held). x.store) (sym z)
      go true false h = absurd (let z : ◌≡◌ {A = ℕ} 0 1 = cc in omega arith)
      go false b h = absurd (let z : ◌≡◌ {A = ℕ} 0 1 = cc in omega arith)

  -- The place of its left side and the value of its right side are those of the store that it finds.
  pub record OneWaits (l r : ℕ) (c c' : Doing Held) : Type 0 where
    pub at : Place
    pub right : Value
    pub named : side (numbers d) d c.store l ≡ Located.at at
    pub worth : eval_at (numbers d) d c.store r ≡ is right
    pub waits : c'.store ≡ held c.store.words (c.store.waits ++ (write (numbers d) d at right.number ∷ []) ∷ [])

  pub one-waits : (l r : ℕ) (c c' : Doing Held) → store_to (numbers d) d delayed_sign l r c ≡ went c' → OneWaits l r c c'
  one-waits l r c c' e = go (side (numbers d) d c.store l) refl e
    where
      by_value : (p : Place) → side (numbers d) d c.store l ≡ Located.at p → (a : Answer) → eval_at (numbers d) d c.store r ≡ a
          → on_value a (λ v. storing (numbers d) d delayed_sign p.count (storable (numbers d) d delayed_sign p) (on_sequencing (numbers d) d p) v (write (numbers d) d p v.number ∷ []) c) ≡ went c' → OneWaits l r c c'
      by_value p q (is v) k h = record { at = p; right = v; named = q; worth = k; waits = stored-waits _ _ _ v _ c c' h }
      by_value p q (stops n) k h = absurd (let z : ◌≡◌ {A = ℕ} 0 1 = cc in omega arith)
      by_value p q (stuck s) k h = absurd (let z : ◌≡◌ {A = ℕ} 0 1 = cc in omega arith)

      go : (x : Located) → side (numbers d) d c.store l ≡ x
          → on_place x (λ p. on_value (eval_at (numbers d) d c.store r) (λ v. storing (numbers d) d delayed_sign p.count (storable (numbers d) d delayed_sign p) (on_sequencing (numbers d) d p) v (write (numbers d) d p v.number ∷ []) c)) ≡ went c' → OneWaits l r c c'
      go (Located.at p) q h = by_value p q (eval_at (numbers d) d c.store r) refl h
      go (Located.stops n) q h = absurd (let z : ◌≡◌ {A = ℕ} 0 1 = cc in omega arith)
      go (Located.stuck s) q h = absurd (let z : ◌≡◌ {A = ℕ} 0 1 = cc in omega arith)

  -- Of two references the left takes the high bits and lands first.
  pub record PairWaits (l m r : ℕ) (c c' : Doing Held) : Type 0 where
    pub high : Place
    pub low : Place
    pub right : Value
    pub high-named : side (numbers d) d c.store l ≡ Located.at high
    pub low-named : side (numbers d) d c.store m ≡ Located.at low
    pub worth : eval_at (numbers d) d c.store r ≡ is right
    pub waits : c'.store ≡ held c.store.words (c.store.waits ++ (write (numbers d) d high (right.number / 2 ^ low.count) ∷ write (numbers d) d low (right.number % 2 ^ low.count) ∷ []) ∷ [])

  pub pair-waits : (l m r : ℕ) (c c' : Doing Held) → store_to_pair (numbers d) d delayed_sign l m r c ≡ went c' → PairWaits l m r c c'
  pair-waits l m r c c' e = go (side (numbers d) d c.store l) refl e
    where
      on : Place → Place → Value → Ran Held
      on p q v =
          storing (numbers d) d delayed_sign (p.count + q.count) (cond (storable (numbers d) d delayed_sign p) (storable (numbers d) d delayed_sign q) false) (on_sequencing (numbers d) d p || on_sequencing (numbers d) d q) v
          (write (numbers d) d p (v.number / 2 ^ q.count) ∷ write (numbers d) d q (v.number % 2 ^ q.count) ∷ []) c

      by_value : (p q : Place) → side (numbers d) d c.store l ≡ Located.at p → side (numbers d) d c.store m ≡ Located.at q → (a : Answer) → eval_at (numbers d) d c.store r ≡ a
          → on_value a (on p q) ≡ went c' → PairWaits l m r c c'
      by_value p q a b (is v) k h = record { high = p; low = q; right = v; high-named = a; low-named = b; worth = k; waits = stored-waits _ _ _ v _ c c' h }
      by_value p q a b (stops n) k h = absurd (let z : ◌≡◌ {A = ℕ} 0 1 = cc in omega arith)
      by_value p q a b (stuck s) k h = absurd (let z : ◌≡◌ {A = ℕ} 0 1 = cc in omega arith)

      by-low : (p : Place) → side (numbers d) d c.store l ≡ Located.at p → (x : Located) → side (numbers d) d c.store m ≡ x
          → on_place x (λ q. on_value (eval_at (numbers d) d c.store r) (on p q)) ≡ went c' → PairWaits l m r c c'
      by-low p a (Located.at q) b h = by_value p q a b (eval_at (numbers d) d c.store r) refl h
      by-low p a (Located.stops n) b h = absurd (let z : ◌≡◌ {A = ℕ} 0 1 = cc in omega arith)
      by-low p a (Located.stuck s) b h = absurd (let z : ◌≡◌ {A = ℕ} 0 1 = cc in omega arith)

      go : (x : Located) → side (numbers d) d c.store l ≡ x
          → on_place x (λ p. on_place (side (numbers d) d c.store m) (λ q. on_value (eval_at (numbers d) d c.store r) (on p q))) ≡ went c' → PairWaits l m r c c'
      go (Located.at p) a h = by-low p a (side (numbers d) d c.store m) refl h
      go (Located.stops n) a h = absurd (let z : ◌≡◌ {A = ℕ} 0 1 = cc in omega arith)
      go (Located.stuck s) a h = absurd (let z : ◌≡◌ {A = ℕ} 0 1 = cc in omega arith)

  -- ---- F <- G, G <- F, executed one after the other and landed.

  pub record Swapped (f g l r l' r' : ℕ) (c : Doing Held) : Type 0 where
    pub done : Doing Held
    pub executed-both : onward (store_to (numbers d) d delayed_sign l r c) (store_to (numbers d) d delayed_sign l' r') ≡ went done
    pub first-has : word_of (land_all d done.store.words done.store.waits) f 0 ≡ word_of c.store.words g 0
    pub second-has : word_of (land_all d done.store.words done.store.waits) g 0 ≡ word_of c.store.words f 0

  pub swap-lands : (f g l r l' r' : ℕ) (c : Doing Held) → Register d f → Register d g → word_length (facility_at d f) ≡ word_length (facility_at d g) → (f ≡ g → ⊥)
      → node_at d l ≡ D.whole f → node_at d r ≡ D.whole g → node_at d l' ≡ D.whole g → node_at d r' ≡ D.whole f → Fit d.facilities c.store.words → c.store.waits ≡ []
      → Swapped f g l r l' r' c
  swap-lands f g l r l' r' c a b same apart el er el' er' fits none_yet =
      let all_of : ℕ → Place = λ h. place h 0 0 (word_length (facility_at d h)) in
      let waiting : ℕ → ℕ → List Write = λ to from. write (numbers d) d (all_of to) (load_part d c.store.words (all_of from)) ∷ [] in
      let after_one : Doing Held = with_store (numbers d) d (held c.store.words (c.store.waits ++ waiting f g ∷ [])) false c in
      let after_two : Doing Held = with_store (numbers d) d (held c.store.words ((c.store.waits ++ waiting f g ∷ []) ++ waiting g f ∷ [])) false after_one in
      let one : store_to (numbers d) d delayed_sign l r c ≡ went after_one = whole-waits d f g l r c a b same el er in
      let two : store_to (numbers d) d delayed_sign l' r' after_one ≡ went after_two = whole-waits d g f l' r' after_one b a (sym same) el' er' in
      let y = swaps d f g c.store.words a b same apart fits in
      record { done = after_two; executed-both = rw one two; first-has = rw none_yet y.0; second-has = rw none_yet y.1 }

  -- ---- A cycle that completed: what no executed store names.

  module _ (s : StoreWords) (r : Record) (ins : StoreWords) (t : StoreWords) (q : Record) (n : ℕ) where
    -- The actions as executed with every write noted, and every bit that neither a write, nor a delayed store, nor the begin of the cycle or the change of state names.
    pub record Keeps : Type 0 where
      pub noted : Doing Noted
      pub executed-so : executed d s r ins ≡ went noted
      pub rest : (f w k : ℕ) → f < length d.facilities → steady (facility_at d f).kind ≡ true → ((g : ℕ) → sequencing_of d ≡ some g → f ≡ g → ⊥)
          → NoneHas d f w k noted.store.writes → NoneHasAny d f w k noted.store.store.waits → bit_of (word_of t f w) k ≡ bit_of (word_of s f w) k

    pub rest-kept : step d s r ins ≡ completed t q n → Keeps
    rest-kept e = go (executed d s r ins) refl (rw (lands_last d s r ins t q n e).ran at (alike d s r ins))
      where
        begins : StoreWords
        begins = begin d.facilities s ins

        go : (y : Ran Noted) → executed d s r ins ≡ y → Alike (numbers d) (noting d) d (Stands d begins) (joins d begins) (went (lands_last d s r ins t q n e).done) y → Keeps
        go (went c) k (Actions.go_on h) = record { noted = c; executed-so = k; rest = λ f w i a b z x y. kept d s r ins c k t q n e f w i a b z x y }
        go (Ran.stopped _) k x3 = elim x3 [ ]
        go (Ran.stuck _) k x4 = elim x4 [ ]
