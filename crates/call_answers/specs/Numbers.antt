-- The numbers of 01 for each answer of a call, as C sees them: the number of the refusal or 0, then what was answered. A field that an answer has no use for is 0.
use Rattle.std.proofs.Math.Option.{Option, none, some}
use Rattle.std.specs.Prelude.{ℕ, ◌^◌, ◌<◌}
use Rattle.language.specs.Calls as C
use Rattle.language.specs.Description.{Facility}
use Rattle.language.specs.Encode.{kind_number}
use Rattle.language.specs.Lookups as L
use Rattle.language.specs.Reading as R
use Rattle.call_answers.specs.declared.exported.CycleAnswer.{CycleAnswer}
use Rattle.call_answers.specs.declared.exported.FacilityAnswer.{FacilityAnswer}
use Rattle.call_answers.specs.declared.exported.NameAnswer.{NameAnswer}
use Rattle.call_answers.specs.declared.exported.ReadAnswer.{ReadAnswer}
use Rattle.call_answers.specs.declared.exported.RunAnswer.{RunAnswer}
use Rattle.language.specs.Refusals.{refusal_number}
use Rattle.language.specs.Stops.{stop_number}
use Rattle.language.specs.declared.stops.Stop.{Stop}

abbrev pub read_numbers : R.ReadAnswer → ReadAnswer
read_numbers (R.accepted n) = record { refusal = 0; place = 0; length = n }
read_numbers (R.refused_for n p) = record { refusal = refusal_number n; place = p; length = 0 }

abbrev pub open_number : C.OpenAnswer → ℕ
open_number C.opened = 0
open_number (C.refused n) = refusal_number n

abbrev pub cycle_numbers : C.CycleAnswer → CycleAnswer
cycle_numbers (C.cycled n) = record { refusal = 0; stop = 0; conflicts = n }
cycle_numbers (C.stopped_for n) = record { refusal = 0; stop = stop_number n; conflicts = 0 }
cycle_numbers (C.refused_for n) = record { refusal = refusal_number n; stop = 0; conflicts = 0 }

abbrev pub halt_number : Option Stop → ℕ
halt_number none = 0
halt_number (some s) = stop_number s

abbrev pub run_numbers : C.RunAnswer → RunAnswer
run_numbers (C.ran cycles conflicts stop) = record { refusal = 0; stop = halt_number stop; cycles = cycles; conflicts = conflicts }
run_numbers (C.run_refused n) = record { refusal = refusal_number n; stop = 0; cycles = 0; conflicts = 0 }

-- Where a name stands in the image.
abbrev pub name_numbers : L.NameAnswer → NameAnswer
name_numbers (L.named p) = record { refusal = 0; offset = p.offset; length = p.length }
name_numbers (L.refused n) = record { refusal = refusal_number n; offset = 0; length = 0 }

-- The place fits the numbers that C gets.
abbrev pub Short : L.NameAnswer → Type 0
Short (L.named p) = (p.offset < 2 ^ 32) × (p.length < 2 ^ 32)
Short (L.refused n) = Unit {0}

-- Whether a facility is stored, and where.
abbrev pub stored_number : Option ℕ → ℕ
stored_number none = 0
stored_number (some p) = 1

abbrev pub place_number : Option ℕ → ℕ
place_number none = 0
place_number (some p) = p

-- A declaration, whether it is stored, and where.
abbrev pub shown : Facility → ℕ → ℕ → FacilityAnswer
shown f stored place = record {
  refusal = 0;
  kind = kind_number f.kind;
  dimensions = f.dimensions;
  words_first = f.words.first;
  words_last = f.words.last;
  bits_first = f.bits.first;
  bits_last = f.bits.last;
  stored = stored;
  place = place;
}

abbrev pub facility_numbers : L.FacilityAnswer → FacilityAnswer
facility_numbers (L.declared f p) = shown f (stored_number p) (place_number p)
facility_numbers (L.unknown n) = record {
  refusal = refusal_number n;
  kind = 0;
  dimensions = 0;
  words_first = 0;
  words_last = 0;
  bits_first = 0;
  bits_last = 0;
  stored = 0;
  place = 0;
}
