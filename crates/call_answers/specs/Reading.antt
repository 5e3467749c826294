-- The whole of a call for reading: its answer, and the buffer of the image.
use Rattle.std.specs.Prelude.{Err, List, Ok, Result, ℕ, ◌^◌, ◌<◌}
use Rattle.language.specs.Reading.{ReadAnswer, ReadCall, accepted, refused_for}
use Rattle.call_answers.specs.declared.read.Refused.{Refused}

abbrev pub answered : Result ℕ Refused → ReadAnswer
answered (Ok n) = accepted n
answered (Err e) = refused_for e.refusal e.place

abbrev pub called : Result ℕ Refused → List ℕ → ReadCall
called a image = record { answer = answered a; image = image }

-- The length of an image and the place of a refusal have 32 bits.
abbrev pub Short : ReadAnswer → Type 0
Short (accepted n) = n < 2 ^ 32
Short (refused_for n p) = p < 2 ^ 32
