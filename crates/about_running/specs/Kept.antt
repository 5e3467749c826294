-- Kept: a bit that no executed store names, of a facility that is neither input, plain terminal nor sequencing register, has the value that it had. Assumes nothing.
use Rattle.std.specs.Prelude.{Bool, true, false, cond, ◌≡◌, ℕ, zero, suc, ◌<◌, drop, get_or, length}
use mathlib.Core.List.{List, [], ◌∷◌, ◌++◌}
use Rattle.std.proofs.Math.Option.{Option, none, some}
use Rattle.std.proofs.Math.Path.{refl, sym, ap}
use Rattle.std.proofs.Common.{◌∙◌, arith}
use Rattle.language.specs.Acting.{Doing, Ran, run_actions, went}
use Rattle.language.specs.Description.{Description, Facility, facility_at, no_facility, sequencing_of, state_at}
use Rattle.language.specs.Meaning.{Stores, Write}
use Rattle.language.specs.Step.{Record, completed, into, nothing_done, set_register, step}
use Rattle.about_running.specs.Entering.{took}
use Rattle.language.specs.Store.{Held, StoreWords, begin, begun, head_of, held, is_input, land_all, load_part, numbers, put_part, put_parts, word_of}
use Rattle.language.specs.Tree.{Kind, computed, input, memory, plain, register, sequencing}
use Rattle.about_running.specs.BitsKept.{NoneHas, NoneHasAny, bit_of, land-keeps, other-facility, puts-keep}
use Rattle.about_running.specs.LandsLast.{Did, lands_last}
use Rattle.about_running.specs.SameActions as Actions
use Rattle.about_running.specs.SameActions.{AllStored, Joins}
use Rattle.about_running.specs.SameRuns.{Alike, actions-alike}

-- ---- A store that also notes every write carried out at once.

pub record Noted : Type 0 where
  pub store : Held
  pub writes : List Write

unfoldable pub noting : Description → Stores Noted
noting d = record {
  load = λ x p. load_part d x.store.words p;
  put = λ x w. record { store = held (put_part d x.store.words w) x.store.waits; writes = x.writes ++ w ∷ [] };
  delay = λ x g. record { store = held x.store.words (x.store.waits ++ g ∷ []); writes = x.writes };
}

-- The writes of delayed stores, in the order in which they land.
unfoldable pub joined : List (List Write) → List Write
joined [] = []
joined (g ∷ gs) = g ++ joined gs

abbrev pub AllStoredIn : Description → List (List Write) → Type 0
AllStoredIn d [] = Unit {0}
AllStoredIn d (g ∷ gs) = AllStored d g × AllStoredIn d gs

-- ---- Writes one after the other.

module _ (d : Description) where
  pub puts-append : (s : StoreWords) (xs ys : List Write) → put_parts d s (xs ++ ys) ≡ put_parts d (put_parts d s xs) ys
  unfolding put_parts
  puts-append s [] ys = refl
  puts-append s (x ∷ xs) ys = puts-append (put_part d s x) xs ys

  -- To land is to put the writes one after the other.
  pub land-puts : (s : StoreWords) (gs : List (List Write)) → land_all d s gs ≡ put_parts d s (joined gs)
  unfolding land_all joined put_parts
  land-puts s [] = refl
  land-puts s (g ∷ gs) = land-puts (put_parts d s g) gs ∙ sym (puts-append s g (joined gs))

  stored-append : (xs ys : List Write) → AllStored d xs → AllStored d ys → AllStored d (xs ++ ys)
  stored-append [] ys h k = k
  stored-append (x ∷ xs) ys h k = (h.0, stored-append xs ys h.1 k)

  more-stored : (gs : List (List Write)) (g : List Write) → AllStoredIn d gs → AllStored d g → AllStoredIn d (gs ++ g ∷ [])
  more-stored [] g h k = (k, tt)
  more-stored (x ∷ gs) g h k = (h.0, more-stored gs g h.1 k)

module _ (d : Description) (start : StoreWords) where
  -- The store is the one noted; its words are those at the start with the noted writes put there; and every place written, or waiting to be, is in the store.
  pub record Stands (x : Held) (y : Noted) : Type 0 where
    pub same : x ≡ y.store
    pub put-so : y.store.words ≡ put_parts d start y.writes
    pub once-stored : AllStored d y.writes
    pub later-stored : AllStoredIn d y.store.waits

  pub joins : Joins (numbers d) (noting d) d Stands
  unfolding noting put_parts
  joins = record {
    loads = λ x y h p s. ap (λ (z : Held). load_part d z.words p) h.same;
    puts = λ x y w h s. record {
      same = ap (λ (z : Held). held (put_part d z.words w) z.waits) h.same;
      put-so = ap (λ (z : StoreWords). put_part d z w) h.put-so ∙ sym (puts-append d start y.writes (w ∷ []));
      once-stored = stored-append d y.writes (w ∷ []) h.once-stored (s, tt);
      later-stored = h.later-stored;
    };
    delays = λ x y ws h s. record {
      same = ap (λ (z : Held). held z.words (z.waits ++ ws ∷ [])) h.same;
      put-so = h.put-so;
      once-stored = h.once-stored;
      later-stored = more-stored d y.store.waits ws h.later-stored s;
    };
  }

-- ---- The begin of a cycle.

abbrev pub steady : Kind → Bool
steady register = true
steady sequencing = false
steady memory = true
steady plain = false
steady input = false
steady computed = true

begin-keeps : (fs : List Facility) (s ins : StoreWords) (f w : ℕ) → f < length fs → steady (get_or fs f no_facility).kind ≡ true → word_of (begin fs s ins) f w ≡ word_of s f w
unfolding begin word_of
begin-keeps [] s ins f w h q = absurd (omega arith)
begin-keeps (x ∷ fs) s ins zero w h q = go x.kind q s
  where
    go : (t : Kind) → steady t ≡ true → (s : StoreWords) → get_or (begun t x (head_of s) ins) w 0 ≡ get_or (get_or s 0 []) w 0
    go register e [] = refl
    go register e (r ∷ s) = refl
    go memory e [] = refl
    go memory e (r ∷ s) = refl
    go computed e [] = refl
    go computed e (r ∷ s) = refl
    go sequencing e s = absurd (let z : ◌≡◌ {A = ℕ} 0 1 = cc in omega arith)
    go plain e s = absurd (let z : ◌≡◌ {A = ℕ} 0 1 = cc in omega arith)
    go input e s = absurd (let z : ◌≡◌ {A = ℕ} 0 1 = cc in omega arith)
begin-keeps (x ∷ fs) s ins (suc f) w h q = begin-keeps fs (drop 1 s) (cond (is_input x.kind) (drop 1 ins) ins) f w (omega arith) q ∙ dropped s
  where
    dropped : (s : StoreWords) → get_or (get_or (drop 1 s) f []) w 0 ≡ get_or (get_or s (suc f) []) w 0
    dropped [] = refl
    dropped (r ∷ s) = refl

-- ---- The cycle.

module _ (d : Description) (s : StoreWords) (r : Record) (ins : StoreWords) where
  abbrev begins : StoreWords
  begins = begin d.facilities s ins

  abbrev first : Doing Noted
  first = record { store = record { store = held begins []; writes = [] }; gotos = []; returns = 0; calls = []; sequenced = false }

  -- The state's actions, carried out with every write noted.
  unfoldable pub executed : Ran Noted
  executed = run_actions (noting d) d (state_at d r.state).actions first

  pub alike : Alike (numbers d) (noting d) d (Stands d (begin d.facilities s ins)) (joins d (begin d.facilities s ins))
      (run_actions (numbers d) d (state_at d r.state).actions (nothing_done d (begin d.facilities s ins))) executed
  unfolding executed put_parts
  alike = actions-alike (numbers d) (noting d) d (Stands d begins) (joins d begins) (state_at d r.state).actions (nothing_done d begins) first
      (record { stores = record { same = refl; put-so = refl; once-stored = tt; later-stored = tt }; gotos-same = refl; returns-same = refl; calls_same = refl; sequenced-same = refl })

  -- With every write noted the actions come to the same store.
  pub noted-so : (e : Doing Held) (c : Doing Noted) → run_actions (numbers d) d (state_at d r.state).actions (nothing_done d (begin d.facilities s ins)) ≡ went e → executed ≡ went c
      → Stands d (begin d.facilities s ins) e.store c.store
  noted-so e c p q = go (rw (p, q) at alike)
    where
      go : Alike (numbers d) (noting d) d (Stands d begins) (joins d begins) (went e) (went c) → Stands d begins e.store c.store
      go (Actions.go_on h) = h.stores

  module _ (c : Doing Noted) (executed-so : executed ≡ went c) (t : StoreWords) (q : Record) (n : ℕ) (completes : step d s r ins ≡ completed t q n) where
    abbrev did : Did d s r ins t q n
    did = lands_last d s r ins t q n completes

    stands : Stands d begins did.done.store c.store
    stands = noted-so did.done c did.ran executed-so

    module _ (f w k : ℕ) (inside : f < length d.facilities) (is-steady : steady (facility_at d f).kind ≡ true) (not_register : (g : ℕ) → sequencing_of d ≡ some g → f ≡ g → ⊥)
        (none-at-once : NoneHas d f w k c.store.writes) (none-later : NoneHasAny d f w k c.store.store.waits) where
      set_keeps : (x v : Option ℕ) (u : StoreWords) → sequencing_of d ≡ x → set_register d x v u ≡ into t → word_of t f w ≡ word_of u f w
      set_keeps none v u z h = let y : u ≡ t = cc in rw y refl
      set_keeps (some g) v u z h =
          let y = took d g v u t h in
          ap (λ (o : StoreWords). word_of o f w) (sym y.same) ∙ other-facility u f g w 0 y.number (not_register g z)

      pub kept : bit_of (word_of t f w) k ≡ bit_of (word_of s f w) k
      unfolding facility_at
      kept =
          let there : word_of t f w ≡ word_of (land_all d did.done.store.words did.done.store.waits) f w = set_keeps (sequencing_of d) (state_at d q.state).value _ refl did.lands in
          ap (λ (o : ℕ). bit_of o k) there ∙ (ap (λ (o : Held). bit_of (word_of (land_all d o.words o.waits) f w) k) stands.same
          ∙ (land-keeps d f w k c.store.store.words c.store.store.waits none-later ∙ (ap (λ (o : StoreWords). bit_of (word_of o f w) k) stands.put-so
          ∙ (puts-keep d f w k begins c.store.writes none-at-once ∙ ap (λ (o : ℕ). bit_of o k) (begin-keeps d.facilities s ins f w inside is-steady)))))
