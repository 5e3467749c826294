-- From a text to its cycles, worked out: courses of `step` for small texts, and the calls that go through them.
use Rattle.std.specs.Prelude.{List, [], ◌∷◌, map, ◌≡◌, refl, ℕ, ◌+◌, ◌*◌, replicate}
use Rattle.language.specs.Calls.{CycleAnswer, CycleCall, cycled, open', open_words, stopped_for}
use Rattle.language.specs.Computing.{computing}
use Rattle.language.specs.Decode.{decode}
use Rattle.language.specs.Description.{Description}
use Rattle.language.specs.Reading.{accepted, read, refused_for}
use Rattle.language.specs.Scan.{bytes}
use Rattle.language.specs.Step.{Outcome, Record, completed, open_record, stopped}
use Rattle.language.specs.declared.refusals.Refusal.TheVariants.{BufferTooShort}
use Rattle.language.specs.declared.stops.Stop.TheVariants.{TwoNextStates}
use Rattle.about_calls.specs.ShutOut.{example, image_of}
use Rattle.about_calls.specs.TextToCycles.{Course, calls, goes_on, inputs, over, stops}

-- ---- 01's example: SWAP, where GO is set, and LOAD.

-- Room for the image and no byte more is enough; a byte less is not.
just_enough : (read example 288).answer ≡ accepted 288
unfolding computing example
just_enough = refl

one_less : (read example 287).answer ≡ refused_for BufferTooShort 0
unfolding computing example
one_less = refl

abbrev example_description : Description
example_description = decode (image_of example)

-- GO has a byte.
abbrev stimuli : List (List ℕ)
stimuli = (1 ∷ []) ∷ (0 ∷ []) ∷ (1 ∷ []) ∷ []

abbrev record_of : ℕ → ℕ → Record
record_of state cycle = record { state = state; cycle = cycle; held = 0; returns = replicate 16 0 }

-- The words of A, B and GO after each cycle: the second loads 9 and 12, the third swaps them.
abbrev outcomes : List Outcome
outcomes =
    completed ((0 ∷ []) ∷ (0 ∷ []) ∷ (1 ∷ []) ∷ []) (record_of 1 1) 0
    ∷ completed ((9 ∷ []) ∷ (12 ∷ []) ∷ (0 ∷ []) ∷ []) (record_of 0 2) 0
    ∷ completed ((12 ∷ []) ∷ (9 ∷ []) ∷ (1 ∷ []) ∷ []) (record_of 1 3) 0
    ∷ []

example-course : Course example_description (open_words example_description) (open_record example_description) (inputs example_description stimuli) outcomes
unfolding computing example image_of inputs
example-course = goes_on refl (goes_on refl (goes_on refl over))

-- What the calls answer, and the stores that they leave.
abbrev shown : CycleCall → CycleAnswer × List ℕ
shown c = (c.answer, c.store)

example-calls : map shown (calls (image_of example) 12 (open' (image_of example) 3 80).store (open' (image_of example) 3 80).record' stimuli)
    ≡ (cycled 0, 0 ∷ 0 ∷ 1 ∷ []) ∷ (cycled 0, 9 ∷ 12 ∷ 0 ∷ []) ∷ (cycled 0, 12 ∷ 9 ∷ 1 ∷ []) ∷ []
unfolding computing example image_of calls
example-calls = refl

-- ---- Two plain next states: a stop, which leaves all as found, however often it is tried.

unfoldable twice : List ℕ
twice = bytes "REGISTER A. CONTROL P: ->P,->P/."

abbrev twice_description : Description
twice_description = decode (image_of twice)

twice-course : Course twice_description (open_words twice_description) (open_record twice_description) (inputs twice_description ([] ∷ [] ∷ [])) (stopped TwoNextStates ∷ stopped TwoNextStates ∷ [])
unfolding computing twice image_of inputs
twice-course = stops refl (stops refl over)

twice-calls : map shown (calls (image_of twice) 4 (open' (image_of twice) 1 80).store (open' (image_of twice) 1 80).record' ([] ∷ [] ∷ []))
    ≡ (stopped_for TwoNextStates, 0 ∷ []) ∷ (stopped_for TwoNextStates, 0 ∷ []) ∷ []
unfolding computing twice image_of calls
twice-calls = refl

-- ---- The room of records: arms of 256 bits take seven expression records each, the most for a counted word.

unfoldable wide : List ℕ
wide = bytes "REGISTER A[256],C. OPERATION X=[A<-CASE C DO 256H0 DO 256H1 ENDCASE]. CONTROL P: X,->P/."

-- A header of 52 bytes, two facilities, an operation, 17 expression records, three actions, a state and four letters.
wide_room : (read wide 251).answer ≡ accepted (52 + 2 * 13 + 5 + 17 * 8 + 3 * 7 + 7 + 4)
unfolding computing wide
wide_room = refl
