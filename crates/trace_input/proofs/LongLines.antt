-- What a buffer leaves out of a line changes nothing: a line of more bits than the input terminals have is no stimulus, whatever its bytes are. Assumes nothing.
use mathlib.Core.Bool.{Bool, true, false}
use mathlib.Core.List.{List, [], ◌∷◌}
use mathlib.Core.Option.{Option, none, some}
use mathlib.Core.Path.{◌≡◌, refl, sym, ap, ◌∙◌}
use Prim.Native.Nat.{ℕ, ◌+◌, ◌*◌, ◌/◌, ◌≤◌, ◌<◌}
use native.Mathlib.Omega.{arith}
use borrow.Author.Tests.{leb-false, leb-true}
use lib.Dec.{leb}
use lib.ListN.{drop, length, length-drop, take}
use lib.Seq.{length-take-le, take_all}
use Rattle.language.specs.Description.{Facility, word_length}
use Rattle.language.specs.Layout.{store_size_of, word_bytes}
use Rattle.language.specs.Store.{inputs_of, is_input}
use Rattle.language.specs.Trace.{bits_number, cons_word, line_words}
use Rattle.trace_input.specs.Lines.{Held, without_return}
use Rattle.trace_input.proofs.LineCut.{without-long}
use Rattle.trace_input.proofs.LineTaken.{facility-room, is-input, with-input, with-other}

none_after : (o : Option ℕ) → cons_word o none ≡ none
none_after none = refl
none_after (some x) = refl

pub too_long : (fs : List Facility) (l : List ℕ) → 8 * store_size_of (inputs_of fs) < length l → line_words (inputs_of fs) l ≡ none
unfolding inputs_of line_words word_bytes
too_long [] [] h = absurd (omega arith)
too_long [] (b ∷ l) h = refl
too_long (f ∷ fs) l h = go (is_input f.kind) refl (too_long fs)
  where
    go : (t : Bool) → is_input f.kind ≡ t → ((m : List ℕ) → 8 * store_size_of (inputs_of fs) < length m → line_words (inputs_of fs) m ≡ none) → line_words (inputs_of (f ∷ fs)) l ≡ none
    go true e i =
        let room : (word_length f + 7) / 8 + store_size_of (inputs_of fs) ≤ store_size_of (inputs_of (f ∷ fs)) = rw (is-input f fs e) at (facility-room f fs) in
        let rest = i (drop (word_length f) l) (omega (arith, length-drop (word_length f) l, room)) in
        ap (λ (gs : List Facility). line_words gs l) (with-input f fs e)
        ∙ (ap (cons_word (bits_number (word_length f) 0 l)) rest ∙ none_after (bits_number (word_length f) 0 l))
    go false e i =
        ap (λ (gs : List Facility). line_words gs l) (with-other f fs e) ∙ i l (omega (arith, ap (λ (gs : List Facility). store_size_of gs) (with-other f fs e)))

-- Where there is room for all but two of the bits that every stimulus has: the line as it is held is the line, or both are too long.
module _ (fs : List Facility) {l B : List ℕ} {n : ℕ} (e : Held l B n) (room : 8 * store_size_of (inputs_of fs) + 2 ≤ length B) where
  abbrev inputs : List Facility
  inputs = inputs_of fs

  by-room : (g : List ℕ → List ℕ) → ((m : List ℕ) → length m ≤ length (g m) + 1) → line_words inputs (g (take n B)) ≡ line_words inputs (g l)
  by-room g short = go (leb (length l) (length B)) refl
    where
      go : (t : Bool) → leb (length l) (length B) ≡ t → line_words inputs (g (take n B)) ≡ line_words inputs (g l)
      go true q = ap (λ (m : List ℕ). line_words inputs (g m)) (e.text ∙ take_all (length B) l (leb-true (length l) (length B) q))
      go false q =
          let h = leb-false (length l) (length B) q in
          let k : length (take n B) ≡ length B = ap length e.text ∙ length-take-le (length B) l (omega arith) in
          too_long fs (g (take n B)) (omega (arith, short (take n B))) ∙ sym (too_long fs (g l) (omega (arith, short l)))

  pub ended_same : line_words inputs (without_return (take n B)) ≡ line_words inputs (without_return l)
  ended_same = by-room without_return without-long

  pub left-same : line_words inputs (take n B) ≡ line_words inputs l
  left-same = by-room (λ (m : List ℕ). m) (λ m. omega arith)
