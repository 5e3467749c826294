-- Words written out, worked out by hand; and what words would be at other places.
use Rattle.std.specs.Prelude.{true, false, List, [], ◌∷◌, map, ◌≡◌, refl, ℕ}
use Rattle.language.specs.Computing.{computing}
use Rattle.language.specs.Kinds.{control_word, delayed_sign, period}
use Rattle.language.specs.Scan.{bytes}
use Rattle.language.specs.Value.{value}
use Rattle.language.specs.WordStage.{scan}
use Rattle.language.specs.Words as W
use Rattle.language.specs.Words.{Word, position}
use Rattle.about_texts.specs.Derivations.{here}
use Rattle.about_texts.specs.Moved.{at}
use Rattle.about_texts.specs.WrittenWords.{digits_in, in_bytes, spellings, unplaced}

-- A name, a symbol, nine in four bits, a bare seven, a reserved word and a period.
abbrev some_words : List Word
unfolding bytes
some_words =
    W.name (bytes "A1") here
    ∷ W.sign delayed_sign here
    ∷ W.constant (record { bare = false; value = value 4 9 }) here
    ∷ W.constant (record { bare = true; value = value 16 7 }) here
    ∷ W.sign control_word here
    ∷ W.sign period here
    ∷ []

written-so : in_bytes some_words ≡ bytes "A1\n<-\n004H0000000000000000000000000000000000000000000000000000000000000009\n00007\nCONTROL\n.\n"
unfolding computing in_bytes digits_in spellings
written-so = refl

read_back : map unplaced (scan (in_bytes some_words)).words ≡ some_words
unfolding computing in_bytes digits_in spellings
read_back = refl

abbrev places : ℕ → W.Position
places i = position i

elsewhere : at places 3 (W.sign period here ∷ W.sign control_word here ∷ []) ≡ W.sign period (position 3) ∷ W.sign control_word (position 4) ∷ []
unfolding at
elsewhere = refl
