-- Every write of a cycle, in order, and the bytes of the store after it, of which proofs/KeptBytes.antt tells.
use mathlib.Core.List.{List, []}
use Prim.Native.Nat.{ℕ}
use Rattle.language.specs.Acting.{Ran, went}
use Rattle.language.specs.Calls.{cycle}
use Rattle.language.specs.Decode.{decode}
use Rattle.language.specs.Meaning.{Write}
use Rattle.language.specs.RecordBytes.{record_from}
use Rattle.language.specs.Store.{StoreWords, from_bytes, inputs_of}
use Rattle.about_running.specs.CycleWrites.{cycle_writes}
use Rattle.about_running.specs.Kept.{Noted, executed}

module _ (image store record' stimulus : List ℕ) (scratch : ℕ) where
  -- The bytes of the store after the cycle, and the state that its record then has.
  abbrev pub store_after : List ℕ
  store_after = (cycle image store record' stimulus scratch).store

  abbrev pub state_after : ℕ
  state_after = (record_from (cycle image store record' stimulus scratch).record').state

  -- The stimulus as words of the input terminals.
  abbrev pub input_words : StoreWords
  input_words = from_bytes (inputs_of (decode image).facilities) stimulus

  -- The actions of the cycle's state, executed with every write noted.
  abbrev pub acted : Ran Noted
  acted = executed (decode image) (from_bytes (decode image).facilities store) (record_from record') input_words

  -- Actions that stop write nothing.
  abbrev pub writes_of : Ran Noted → List Write
  writes_of (went c) = cycle_writes (decode image) input_words c state_after
  writes_of (Ran.stopped n) = []
  writes_of (Ran.stuck s) = []

  -- Every write of the cycle, in the order in which they take effect.
  unfoldable pub writes : List Write
  writes = writes_of acted
