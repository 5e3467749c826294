-- The worked image of docs/IMAGE.md, computed from 01's example; it passes, it is read back, and what is changed in it no longer passes.
use Rattle.std.specs.Prelude.{true, false, List, [], ◌∷◌, ◌++◌, ◌≡◌, refl, ℕ, set, take}
use Rattle.language.specs.Calls as Calls
use Rattle.language.specs.Calls.{cycle, open', refused_for}
use Rattle.language.specs.Computing.{computing}
use Rattle.language.specs.Image.{passes}
use Rattle.language.specs.Lookups.{facility_name, part_of, refused, state_name}
use Rattle.language.specs.Reading.{accepted, read}
use Rattle.language.specs.Reading as Reading
use Rattle.language.specs.declared.refusals.Refusal.TheVariants.{BadStimulus, BadSubscript, BufferTooShort, ImageFails, Unsound}
use Rattle.language.specs.Scan.{bytes}

-- 01, "Cases".
example : List ℕ
example = bytes "REGISTER A[4], B[4].\nTERMINAL GO = INPUT(1,GO).\nOPERATION SWAP = [A <- B, B <- A],\n  LOAD = [A = 4D9, B <- (A (+) 4D3) TAIL 4].\nCONTROL P: IF GO THEN SWAP ENDIF/ Q: LOAD, ->P/ .\n"

image : List ℕ
image =
    32 ∷ 1 ∷ 0 ∷ 0 ∷ 3 ∷ 0 ∷ 0 ∷ 0 ∷ 52 ∷ 0 ∷ 0 ∷ 0 ∷ 2 ∷ 0 ∷ 0 ∷ 0 ∷ 91 ∷ 0 ∷ 0 ∷ 0 ∷ 12 ∷ 0 ∷ 0 ∷ 0 ∷ 101 ∷ 0 ∷ 0 ∷ 0 ∷ 9 ∷ 0 ∷ 0 ∷ 0 ∷ 197 ∷ 0 ∷
    0 ∷ 0 ∷ 2 ∷ 0 ∷ 0 ∷ 0 ∷ 4 ∷ 1 ∷ 0 ∷ 0 ∷ 14 ∷ 0 ∷ 0 ∷ 0 ∷ 18 ∷ 1 ∷ 0 ∷ 0 ∷ 0 ∷ 1 ∷ 1 ∷ 0 ∷ 0 ∷ 0 ∷ 0 ∷ 1 ∷ 0 ∷ 4 ∷ 0 ∷ 0 ∷ 0 ∷ 0 ∷ 1 ∷ 1 ∷ 0 ∷ 0 ∷
    0 ∷ 0 ∷ 1 ∷ 0 ∷ 4 ∷ 0 ∷ 1 ∷ 0 ∷ 4 ∷ 0 ∷ 2 ∷ 0 ∷ 0 ∷ 0 ∷ 0 ∷ 0 ∷ 0 ∷ 0 ∷ 0 ∷ 2 ∷ 0 ∷ 4 ∷ 0 ∷ 0 ∷ 2 ∷ 0 ∷ 4 ∷ 2 ∷ 0 ∷ 2 ∷ 0 ∷ 3 ∷ 0 ∷ 0 ∷ 0 ∷ 0 ∷
    0 ∷ 0 ∷ 0 ∷ 3 ∷ 1 ∷ 0 ∷ 0 ∷ 0 ∷ 0 ∷ 0 ∷ 0 ∷ 3 ∷ 1 ∷ 0 ∷ 0 ∷ 0 ∷ 0 ∷ 0 ∷ 0 ∷ 3 ∷ 0 ∷ 0 ∷ 0 ∷ 0 ∷ 0 ∷ 0 ∷ 0 ∷ 3 ∷ 0 ∷ 0 ∷ 0 ∷ 0 ∷ 0 ∷ 0 ∷ 0 ∷ 1 ∷
    3 ∷ 9 ∷ 0 ∷ 0 ∷ 0 ∷ 0 ∷ 0 ∷ 3 ∷ 1 ∷ 0 ∷ 0 ∷ 0 ∷ 0 ∷ 0 ∷ 0 ∷ 3 ∷ 0 ∷ 0 ∷ 0 ∷ 0 ∷ 0 ∷ 0 ∷ 0 ∷ 1 ∷ 3 ∷ 3 ∷ 0 ∷ 0 ∷ 0 ∷ 0 ∷ 0 ∷ 86 ∷ 0 ∷ 7 ∷ 0 ∷ 8 ∷
    0 ∷ 0 ∷ 0 ∷ 234 ∷ 0 ∷ 9 ∷ 0 ∷ 4 ∷ 0 ∷ 0 ∷ 0 ∷ 3 ∷ 2 ∷ 0 ∷ 0 ∷ 0 ∷ 0 ∷ 0 ∷ 0 ∷ 1 ∷ 0 ∷ 0 ∷ 1 ∷ 0 ∷ 0 ∷ 0 ∷ 1 ∷ 2 ∷ 0 ∷ 3 ∷ 0 ∷ 0 ∷ 0 ∷ 2 ∷ 4 ∷ 0 ∷
    5 ∷ 0 ∷ 0 ∷ 0 ∷ 1 ∷ 6 ∷ 0 ∷ 10 ∷ 0 ∷ 0 ∷ 0 ∷ 10 ∷ 11 ∷ 0 ∷ 2 ∷ 0 ∷ 0 ∷ 0 ∷ 12 ∷ 1 ∷ 0 ∷ 0 ∷ 0 ∷ 0 ∷ 0 ∷ 6 ∷ 0 ∷ 0 ∷ 0 ∷ 0 ∷ 0 ∷ 0 ∷ 6 ∷ 1 ∷ 0 ∷
    0 ∷ 0 ∷ 0 ∷ 0 ∷ 7 ∷ 0 ∷ 0 ∷ 0 ∷ 0 ∷ 0 ∷ 0 ∷ 1 ∷ 255 ∷ 255 ∷ 4 ∷ 0 ∷ 3 ∷ 0 ∷ 1 ∷ 255 ∷ 255 ∷ 7 ∷ 0 ∷ 2 ∷ 0 ∷ 65 ∷ 66 ∷ 71 ∷ 79 ∷ 83 ∷ 87 ∷ 65 ∷
    80 ∷ 76 ∷ 79 ∷ 65 ∷ 68 ∷ 80 ∷ 81 ∷ []

-- Given room, reading writes it and zeroes what is beyond.
written : (read example 290).image ≡ image ++ 0 ∷ 0 ∷ []
unfolding computing example image
written = refl

answered : (read example 290).answer ≡ accepted 288
unfolding computing example image
answered = refl

-- A buffer of one byte less is too short, and is left zero.
short : (read example 287).answer ≡ Reading.refused_for BufferTooShort 0
unfolding computing example
short = refl

passing : passes image ≡ true
unfolding computing image
passing = refl

-- Bytes past the total length are not looked at, none before may be missing.
beyond : passes (image ++ 7 ∷ 7 ∷ []) ≡ true
unfolding computing image
beyond = refl

missing : passes (take 287 image) ≡ false
unfolding computing image
missing = refl

-- A place in the store that is another; a length rule that is broken (TAIL 6 of 5 bits); a record that is not before its owner; a letter in lower case.
other_place : passes (set image 76 2) ≡ false
unfolding computing image
other_place = refl

too-long-a-tail : passes (set image 185 6) ≡ false
unfolding computing image
too-long-a-tail = refl

not-before : passes (set image 175 11) ≡ false
unfolding computing image
not-before = refl

lower-case : passes (set image 274 97) ≡ false
unfolding computing image
lower-case = refl

-- Names are parts of the image; a lookup of a number that is absent is 6, of an image that does not pass 13.
third-name : part_of image (facility_name image 2) ≡ bytes "GO"
unfolding computing image
third-name = refl

second-state : part_of image (state_name image 1) ≡ bytes "Q"
unfolding computing image
second-state = refl

absent : facility_name image 3 ≡ refused BadSubscript
unfolding computing image
absent = refl

-- A cycle tests 13, 12, 14, 15: a spoiled record, a stimulus with a spare bit set, and a scratch that is too short.
spoiled : (cycle image (open' image 3 80).store (set (open' image 3 80).record' 4 2) (0 ∷ []) 12).answer ≡ refused_for Unsound
unfolding computing image
spoiled = refl

spare-bit : (cycle image (open' image 3 80).store (open' image 3 80).record' (2 ∷ []) 12).answer ≡ refused_for BadStimulus
unfolding computing image
spare-bit = refl

little-scratch : (cycle image (open' image 3 80).store (open' image 3 80).record' (0 ∷ []) 11).answer ≡ refused_for BufferTooShort
unfolding computing image
little-scratch = refl

-- In this order: a spoiled record before a wrong stimulus, a scratch that is too short before both, and an image that does not pass before all.
spoiled-first : (cycle image (open' image 3 80).store (set (open' image 3 80).record' 4 2) (2 ∷ []) 12).answer ≡ refused_for Unsound
unfolding computing image
spoiled-first = refl

short-first : (cycle image (open' image 3 80).store (set (open' image 3 80).record' 4 2) (2 ∷ []) 11).answer ≡ refused_for BufferTooShort
unfolding computing image
short-first = refl

image-first : (cycle (take 287 image) (open' image 3 80).store (set (open' image 3 80).record' 4 2) (2 ∷ []) 11).answer ≡ refused_for ImageFails
unfolding computing image
image-first = refl

-- Opening tests 13 before 12, a lookup 13 before 6.
opened-first : (open' (take 287 image) 2 80).answer ≡ Calls.refused ImageFails
unfolding computing image
opened-first = refl

looked-first : facility_name (take 287 image) 3 ≡ refused ImageFails
unfolding computing image
looked-first = refl
