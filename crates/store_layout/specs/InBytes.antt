-- The store in bytes, with delayed stores in pending bytes and a mask: another store that can load, put and delay (01, "One cycle").
use Rattle.std.specs.Prelude.{Bool, cond, false, ◌||◌, List, [], ◌∷◌, ◌≡◌, ℕ, ◌+◌, ◌-◌, ◌*◌, ◌^◌, ◌≤◌, ◌<◌, ltb, get_or, length}
use Rattle.language.specs.Description.{Description, Facility, facility_at, is_computed, no_facility, word_count, word_length}
use Rattle.language.specs.Layout.{place_in, word_bytes}
use Rattle.language.specs.Meaning.{Place, Stores, Write}
use Rattle.language.specs.Store.{StoreWords}
use Rattle.language.specs.Value.{bit}
use Rattle.store_layout.specs.Parts.{loaded, saved}

-- How many words a facility has in the store.
unfoldable pub row_length : Facility → ℕ
row_length f = cond (is_computed f.kind) 0 (word_count f)

-- A list of so many words for each facility.
abbrev pub Shaped : List Facility → StoreWords → Type 0
Shaped [] [] = Unit {0}
Shaped [] (ws ∷ s) = ⊥
Shaped (f ∷ fs) [] = ⊥
Shaped (f ∷ fs) (ws ∷ s) = (length ws ≡ row_length f) × Shaped fs s

-- A word of a facility that has a place in the store.
pub record Stored (fs : List Facility) (f w : ℕ) : Type 0 where
  pub there : f < length fs
  pub kept : is_computed (get_or fs f no_facility).kind ≡ false
  pub below : w < word_count (get_or fs f no_facility)

-- Its first byte.
unfoldable pub place_of_word : List Facility → ℕ → ℕ → ℕ
place_of_word fs f w = place_in fs f + w * word_bytes (word_length (get_or fs f no_facility))

-- A place that is there: bits of a stored word, at least one and no more than a value holds.
pub record There (d : Description) (p : Place) : Type 0 where
  pub word : Stored d.facilities p.facility p.word
  pub part : p.from + p.count ≤ word_length (facility_at d p.facility)
  pub some : 0 < p.count
  pub few : p.count ≤ 256

-- Pending bytes, the mask of the bits named so far, and the conflicts so far.
pub record Waiting : Type 0 where
  pub pending : List ℕ
  pub mask : List ℕ
  pub conflicts : ℕ

-- Nothing delayed yet.
abbrev pub waiting : List ℕ → List ℕ → Waiting
waiting p m = record { pending = p; mask = m; conflicts = 0 }

-- The store and what waits for it.
pub record InBytes : Type 0 where
  pub bytes : List ℕ
  pub waiting : Waiting

-- Every bit of a write's place: what it sets in the mask.
abbrev pub ones : Write → Write
ones w = record { at = w.at; number = 2 ^ 256 - 1 }

module _ (d : Description) where
  -- What is loaded from the bytes, and what is left of them.
  unfoldable pub load_bytes : List ℕ → Place → ℕ
  load_bytes B p = (loaded B (place_of_word d.facilities p.facility p.word) (word_length (facility_at d p.facility)) p.from p.count).number

  unfoldable pub put_bytes : List ℕ → Write → List ℕ
  put_bytes B w =
      let p = w.at in
      saved B (place_of_word d.facilities p.facility p.word) (word_length (facility_at d p.facility)) p.from p.count w.number

  -- The writes of one delayed store: all are tested against the mask before one is marked.
  unfoldable pub put_all : List ℕ → List Write → List ℕ
  put_all B [] = B
  put_all B (w ∷ ws) = put_all (put_bytes B w) ws

  unfoldable pub mark_all : List ℕ → List Write → List ℕ
  mark_all M [] = M
  mark_all M (w ∷ ws) = mark_all (put_bytes M (ones w)) ws

  unfoldable pub any_marked : List ℕ → List Write → Bool
  any_marked M [] = false
  any_marked M (w ∷ ws) = ltb 0 (load_bytes M w.at) || any_marked M ws

  abbrev pub delayed : Waiting → List Write → Waiting
  delayed a g = record { pending = put_all a.pending g; mask = mark_all a.mask g; conflicts = a.conflicts + bit (any_marked a.mask g) }

  unfoldable pub delayed_all : Waiting → List (List Write) → Waiting
  delayed_all a [] = a
  delayed_all a (g ∷ gs) = delayed_all (delayed a g) gs

  -- The store that the code works on.
  abbrev pub bytes : Stores InBytes
  bytes = record {
    load = λ x p. load_bytes x.bytes p;
    put = λ x w. record { bytes = put_bytes x.bytes w; waiting = x.waiting };
    delay = λ x g. record { bytes = x.bytes; waiting = delayed x.waiting g };
  }
