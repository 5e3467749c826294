-- The words of a text, and the faults of its words and lines, stand before its end; the least of some faults stands where they do. Assumes nothing.
use Rattle.std.specs.Prelude.{Bool, cond, ◌≡◌, drop, length}
use Rattle.std.proofs.Math.Bool.{true, false}
use mathlib.Core.List.{List, [], ◌∷◌}
use Rattle.std.proofs.Math.Option.{some}
use Rattle.std.proofs.Common.{arith}
use Prim.Native.Nat.{ℕ, zero, suc, ◌+◌, ◌<◌, ◌≤◌}
use Rattle.std.proofs.Math.ListN.{length-drop}
use Rattle.language.specs.Columns.{long_lines, too_wide_after, width_after}
use Rattle.language.specs.declared.refusals.Refusal.TheVariants.{BadCharacter}
use Rattle.language.specs.Scan as S
use Rattle.language.specs.Scan.{Item, item_at}
use Rattle.language.specs.WordStage.{Scanned, least, noted, scan, scan_from, word_fault, word_faults}
use Rattle.language.specs.Words.{Fault, Position, fault, position}
use Rattle.about_reading.specs.GrammarStands.{WordsHere}
use Rattle.about_reading.specs.Least.{Among, first, later, least-so}
use Rattle.about_reading.specs.Standing.{Stand, a-fault, append-stand, no-fault}

module _ (Here : Position → Type 0) where
  among-here : {f : Fault} {fs : List Fault} → Among f fs → Stand Here fs → Here f.at
  among-here first (a-fault x h) = x
  among-here (later m) (a-fault x h) = among-here m h

  pub least-here : (fs : List Fault) (f : Fault) → least fs ≡ some f → Stand Here fs → Here f.at
  least-here fs f e h = among-here (least-so fs f e).one-of-them h

module _ (end : ℕ) where
  abbrev pub Before : Position → Type 0
  Before p = p.place < end

  record Scans (r : Scanned) : Type 0 where
    words : WordsHere Before r.words
    faults : Stand Before r.faults

  noted-before : (p : Position) (i : Item) (r : Scanned) → Before p → Scans r → Scans (noted p i r)
  noted-before p S.gap r h g = g
  noted-before p (S.named n) r h g = record { words = (h, g.words); faults = g.faults }
  noted-before p (S.constant c) r h g = record { words = (h, g.words); faults = g.faults }
  noted-before p (S.sign k) r h g = record { words = (h, g.words); faults = g.faults }
  noted-before p (S.wrong n) r h g = record { words = g.words; faults = a-fault h g.faults }

  scanned-before : (k at : ℕ) (s : List ℕ) → (0 < length s → at + length s ≤ end) → Scans (scan_from k at s)
  unfolding scan_from
  scanned-before zero at s h = record { words = tt; faults = no-fault }
  scanned-before (suc k) at [] h = record { words = tt; faults = no-fault }
  scanned-before (suc k) at (b ∷ s) h =
      let f = item_at b s in
      let l : at + suc (length s) ≤ end = h (omega arith) in
      noted-before (position at) f.item _ (omega arith)
      (scanned-before k (at + f.size) (drop f.size (b ∷ s)) (λ g. omega (arith, length-drop f.size (b ∷ s))))

  lines-before : (w at : ℕ) (s : List ℕ) → at + length s ≤ end → Stand Before (long_lines w at s)
  unfolding long_lines
  lines-before w at [] h = no-fault
  lines-before w at (b ∷ t) h = go (too_wide_after w (width_after w b t)) (lines-before (width_after w b t) (suc at) t (omega arith))
    where
      go : (z : Bool) {fs : List Fault} → Stand Before fs → Stand Before (cond z (fault (position at) BadCharacter ∷ fs) fs)
      go true k = a-fault {f = fault (position at) BadCharacter} (omega arith) k
      go false k = k

pub words-before : (text : List ℕ) (end : ℕ) → length text ≤ end → WordsHere (Before end) (scan text).words
unfolding scan
words-before text end h = (scanned-before end (length text) 0 text (λ g. omega arith)).words

pub word-fault-before : (text : List ℕ) (f : Fault) → word_fault text ≡ some f → f.at.place < length text
unfolding word_fault word_faults scan
word-fault-before text f e =
    least-here (Before (length text)) (word_faults text) f e
    (append-stand (Before (length text)) (scanned-before (length text) (length text) 0 text (λ g. omega arith)).faults (lines-before (length text) 0 0 text (omega arith)))
