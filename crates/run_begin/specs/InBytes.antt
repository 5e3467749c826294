-- What the start of a cycle does to the bytes of the store, facility by facility, and how the stimulus is tested.
use Rattle.std.specs.Prelude.{Bool, cond, false, true, List, [], ◌∷◌, ◌++◌, ℕ, drop, replicate, take}
use Rattle.language.specs.Description.{Facility, word_count, word_length}
use Rattle.language.specs.Layout.{facility_bytes}
use Rattle.language.specs.Store.{is_input}
use Rattle.language.specs.Tree.{Kind, computed, input, memory, plain, register, sequencing}
use Rattle.image_records.specs.Placed.{placed}
use Rattle.store_layout.specs.Spare.{narrow_at}

-- ---- The stimulus S.

-- Bytes of a facility in it.
unfoldable pub input_bytes : Facility → ℕ
input_bytes f = cond (is_input f.kind) (facility_bytes f) 0

-- A facility's words from `at` on, where it is an input, have no spare bits.
unfoldable pub fits_at : List ℕ → ℕ → Facility → Bool
fits_at S at f = cond (is_input f.kind) (narrow_at S at (word_count f) (word_length f)) true

-- ---- The store.

-- The bytes that a facility of this kind has then, by the first of B and of S.
abbrev pub bytes_begun : Kind → ℕ → List ℕ → List ℕ → List ℕ
bytes_begun register n B S = take n B
bytes_begun sequencing n B S = take n B
bytes_begun memory n B S = take n B
bytes_begun plain n B S = replicate n 0
bytes_begun input n B S = take n S
bytes_begun computed n B S = take n B

-- Whether they can differ from those of B: plain terminals are cleared, and inputs set.
abbrev pub begins : Kind → Bool
begins register = false
begins sequencing = false
begins memory = false
begins plain = true
begins input = true
begins computed = false

-- All of them, and what lies beyond.
unfoldable pub begin_bytes : List Facility → List ℕ → List ℕ → List ℕ
begin_bytes [] B S = B
begin_bytes (f ∷ fs) B S = bytes_begun f.kind (facility_bytes f) B S ++ begin_bytes fs (drop (facility_bytes f) B) (drop (input_bytes f) S)

-- One facility whose first byte is at `place`, and in the stimulus at `at`.
abbrev pub changed : Kind → ℕ → ℕ → List ℕ → List ℕ → ℕ → List ℕ
changed register n place B S at = B
changed sequencing n place B S at = B
changed memory n place B S at = B
changed plain n place B S at = placed B place (replicate n 0)
changed input n place B S at = placed B place (take n (drop at S))
changed computed n place B S at = B

unfoldable pub begun_at : Facility → ℕ → List ℕ → List ℕ → ℕ → List ℕ
begun_at f place B S at = changed f.kind (facility_bytes f) place B S at
