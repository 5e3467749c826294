-- The store as each facility's words as numbers (01, "Image, store, record"), delayed stores as a list in order of execution, and the same store in bytes.
use Rattle.std.specs.Prelude.{Bool, true, false, cond, ◌||◌, List, [], ◌∷◌, ◌++◌, ℕ, zero, suc, ◌+◌, ◌-◌, ◌/◌, ◌%◌, ◌^◌, eqb, ltb, drop, get_or, replicate, set, take}
use Rattle.language.specs.Description.{Description, Facility, facility_at, is_computed, word_count, word_length}
use Rattle.language.specs.Layout.{facility_bytes, no_spare_bits, word_bytes, word_from_bytes, word_to_bytes}
use Rattle.language.specs.Meaning.{Place, Stores, Write}
use Rattle.language.specs.Tree.{Kind, computed, input, memory, plain, register, sequencing}
use Rattle.language.specs.Value.{bit, replaced}
use Rattle.language.specs.Tests.{both}

-- A list of words for each facility; a computed terminal has none.
abbrev pub StoreWords : Type 0
StoreWords = List (List ℕ)

unfoldable pub word_of : StoreWords → ℕ → ℕ → ℕ
word_of s f w = get_or (get_or s f []) w 0

unfoldable pub set_word : StoreWords → ℕ → ℕ → ℕ → StoreWords
set_word s f w x = set s f (set (get_or s f []) w x)

module _ (d : Description) where
  -- How many bits stand to the right of a part.
  abbrev pub low_of : Place → ℕ
  low_of p = word_length (facility_at d p.facility) - (p.from + p.count)

  unfoldable pub load_part : StoreWords → Place → ℕ
  load_part s p = word_of s p.facility p.word / 2 ^ low_of p % 2 ^ p.count

  unfoldable pub put_part : StoreWords → Write → StoreWords
  put_part s w =
      let p = w.at in
      set_word s p.facility p.word (replaced (word_of s p.facility p.word) (low_of p) p.count w.number)

  -- ---- Delayed stores wait, each with its one or two writes, and land in order.

  unfoldable pub put_parts : StoreWords → List Write → StoreWords
  put_parts s [] = s
  put_parts s (w ∷ ws) = put_parts (put_part s w) ws

  unfoldable pub land_all : StoreWords → List (List Write) → StoreWords
  land_all s [] = s
  land_all s (g ∷ gs) = land_all (put_parts s g) gs

-- Two parts have a bit in common.
unfoldable pub meet : Place → Place → Bool
meet p q =
    both (eqb p.facility q.facility)
    (both (eqb p.word q.word) (both (ltb p.from (q.from + q.count)) (ltb q.from (p.from + p.count))))

unfoldable pub meets_any : Place → List Write → Bool
meets_any p [] = false
meets_any p (w ∷ ws) = meet p w.at || meets_any p ws

unfoldable pub any_meets : List Write → List Write → Bool
any_meets [] earlier = false
any_meets (w ∷ ws) earlier = meets_any w.at earlier || any_meets ws earlier

-- The conflict count (01, "One cycle"): how many delayed stores name a bit that an earlier one named.
unfoldable pub conflicts : List Write → List (List Write) → ℕ
conflicts earlier [] = 0
conflicts earlier (g ∷ gs) = bit (any_meets g earlier) + conflicts (earlier ++ g) gs

-- The store that a cycle works on.
pub record Held : Type 0 where
  pub words : StoreWords
  pub waits : List (List Write)

abbrev pub held : StoreWords → List (List Write) → Held
held s ws = record { words = s; waits = ws }

abbrev pub numbers : Description → Stores Held
numbers d = record {
  load = λ x p. load_part d x.words p;
  put = λ x w. held (put_part d x.words w) x.waits;
  delay = λ x g. held x.words (x.waits ++ g ∷ []);
}

-- ---- In bytes: facilities in order of declaration, word by word.

unfoldable pub words_from : ℕ → ℕ → List ℕ → List ℕ
words_from zero l bs = []
words_from (suc n) l bs = word_from_bytes (take (word_bytes l) bs) ∷ words_from n l (drop (word_bytes l) bs)

unfoldable pub words_to : ℕ → List ℕ → List ℕ
words_to l [] = []
words_to l (x ∷ xs) = word_to_bytes l x ++ words_to l xs

abbrev pub facility_words : Facility → List ℕ → List ℕ
facility_words f bs = cond (is_computed f.kind) [] (words_from (word_count f) (word_length f) bs)

unfoldable pub from_bytes : List Facility → List ℕ → StoreWords
from_bytes [] bs = []
from_bytes (f ∷ fs) bs = facility_words f bs ∷ from_bytes fs (drop (facility_bytes f) bs)

unfoldable pub to_bytes : List Facility → StoreWords → List ℕ
to_bytes [] s = []
to_bytes (f ∷ fs) [] = []
to_bytes (f ∷ fs) (ws ∷ s) = words_to (word_length f) ws ++ to_bytes fs s

-- No word has a bit above its length.
unfoldable pub all_narrow : ℕ → List ℕ → Bool
all_narrow l [] = true
all_narrow l (x ∷ xs) = both (no_spare_bits l x) (all_narrow l xs)

unfoldable pub narrow : List Facility → StoreWords → Bool
narrow [] s = true
narrow (f ∷ fs) [] = true
narrow (f ∷ fs) (ws ∷ s) = both (all_narrow (word_length f) ws) (narrow fs s)

-- Everything zero, memories too.
unfoldable pub zero_words : List Facility → StoreWords
zero_words [] = []
zero_words (f ∷ fs) = cond (is_computed f.kind) [] (replicate (word_count f) 0) ∷ zero_words fs

-- ---- Input terminals: the stimulus has them in the same form.

abbrev pub is_input : Kind → Bool
is_input register = false
is_input sequencing = false
is_input memory = false
is_input plain = false
is_input input = true
is_input computed = false

unfoldable pub inputs_of : List Facility → List Facility
inputs_of [] = []
inputs_of (f ∷ fs) =
    let rest = inputs_of fs in
    cond (is_input f.kind) (f ∷ rest) rest

-- The words of the first facility.
abbrev pub head_of : StoreWords → List ℕ
head_of [] = []
head_of (ws ∷ s) = ws

abbrev pub begun : Kind → Facility → List ℕ → StoreWords → List ℕ
begun register f ws ins = ws
begun sequencing f ws ins = ws
begun memory f ws ins = ws
begun plain f ws ins = replicate (word_count f) 0
begun input f ws ins = head_of ins
begun computed f ws ins = ws

-- A cycle begins: inputs are set, plain terminals cleared.
unfoldable pub begin : List Facility → StoreWords → StoreWords → StoreWords
begin [] s ins = []
begin (f ∷ fs) s ins = begun f.kind f (head_of s) ins ∷ begin fs (drop 1 s) (cond (is_input f.kind) (drop 1 ins) ins)
