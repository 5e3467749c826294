-- A constant of a text has at most 256 bits, so that it takes at most six records.
use mathlib.Core.List.{List, [], ◌∷◌}
use mathlib.Core.Path.{◌≡◌, sym, ◌∙◌, subst}
use Prim.Native.Nat.{ℕ, zero, suc, ◌+◌, ◌≤◌}
use native.Mathlib.Omega.{arith}
use lib.ListN.{drop, length}
use Rattle.language.specs.Describe.{constant_size}
use Rattle.language.specs.Description.{digit_length, further_digits}
use Rattle.language.specs.Image.{WordsRight}
use Rattle.language.specs.Scan as S
use Rattle.language.specs.Scan.{Item, item_at}
use Rattle.language.specs.Value.{Value}
use Rattle.language.specs.Ceilings.{longest}
use Rattle.language.specs.Words.{Position, position}
use Rattle.language.specs.WordStage.{Scanned, noted, scan, scan_from, words_from}
use Rattle.about_rules.specs.RightWords.{words_right}
use Rattle.language.specs.Kinds.{a_constant}
use Rattle.text_words.specs.declared.Word.{Word}
use Rattle.parse_step.specs.Course.{Seen, ahead, kind_no}
use Rattle.parse_step.proofs.Looking.{constant-ahead}

-- Words are right wherever the text stands.
noted-moved : (p q : Position) (i : Item) (r t : Scanned) → (WordsRight r.words → WordsRight t.words) → WordsRight (noted p i r).words → WordsRight (noted q i t).words
noted-moved p q S.gap r t f x = f x
noted-moved p q (S.named n) r t f x = (x.0, f x.1)
noted-moved p q (S.constant c) r t f x = (x.0, f x.1)
noted-moved p q (S.sign k) r t f x = (x.0, f x.1)
noted-moved p q (S.wrong n) r t f x = f x

moved : (k a b : ℕ) (s : List ℕ) → WordsRight (scan_from k a s).words → WordsRight (scan_from k b s).words
unfolding scan_from
moved zero a b s x = x
moved (suc k) a b [] x = x
moved (suc k) a b (c ∷ s) x =
    let n = (item_at c s).size in
    let rest = drop n (c ∷ s) in
    noted-moved (position a) (position b) (item_at c s).item (scan_from k (a + n) rest) (scan_from k (b + n) rest) (moved k (a + n) (b + n) rest) x

from-right : (at : ℕ) (s : List ℕ) → WordsRight (words_from at s)
unfolding scan words_from
from-right at s = moved (length s) 0 at s (words_right s)

pub narrow : (text : List ℕ) (w : Word) → Seen text w → kind_no w.kind ≡ a_constant → w.value.length ≤ 256
unfolding ahead longest
narrow text w z e = (subst WordsRight (sym z.next.words ∙ constant-ahead text w z e) (from-right z.from (drop z.from text))).0.at-most

pub few-records : (v : Value) → v.length ≤ 256 → constant_size v ≤ 6
unfolding constant_size further_digits digit_length
few-records v h = omega arith
