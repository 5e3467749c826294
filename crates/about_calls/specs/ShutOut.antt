-- The calls as any module may have them, and the texts by which each wrong module is told from the definitions (proofs/ShutOut.antt).
use Rattle.std.specs.Prelude.{List, ◌≡◌, ℕ, ◌*◌, ◌<◌, drop, take}
use Rattle.language.specs.Calls.{CycleCall, OpenCall, RunCall, cycle, open', ran, run}
use Rattle.language.specs.Decode.{decode}
use Rattle.language.specs.Description.{Description}
use Rattle.language.specs.Layout.{store_size}
use Rattle.language.specs.Reading.{ReadCall, read}
use Rattle.language.specs.Scan.{bytes}
use Rattle.language.specs.Step.{Outcome, Record, step}
use Rattle.language.specs.Store.{StoreWords}
use Rattle.std.proofs.Math.Option.{none}

-- ---- The calls as any module may have them.

abbrev pub Reader : Type 0
Reader = List ℕ → ℕ → ReadCall

abbrev pub Cycle : Type 0
Cycle = List ℕ → List ℕ → List ℕ → List ℕ → ℕ → CycleCall

abbrev pub Run : Type 0
Run = List ℕ → List ℕ → List ℕ → List ℕ → ℕ → ℕ → ℕ → RunCall

abbrev pub Stepping : Type 0
Stepping = Description → StoreWords → Record → StoreWords → Outcome

-- On every input what the definition gives.
abbrev pub Reads : Reader → Type 0
Reads f = (text : List ℕ) (room : ℕ) → f text room ≡ read text room

abbrev pub Cycles : Cycle → Type 0
Cycles f = (image store record' stimulus : List ℕ) (scratch : ℕ) → f image store record' stimulus scratch ≡ cycle image store record' stimulus scratch

abbrev pub Runs : Run → Type 0
Runs f =
    (image store record' stimuli : List ℕ) (count scratch trace : ℕ) → f image store record' stimuli count scratch trace ≡ run image store record' stimuli count scratch trace

abbrev pub Steps : Stepping → Type 0
Steps f = (d : Description) (s : StoreWords) (r : Record) (ins : StoreWords) → f d s r ins ≡ step d s r ins

-- ---- The texts: 01's example, two that store another number, and two whose delayed stores meet and do not.

unfoldable pub example : List ℕ
example =
    bytes "REGISTER A[4], B[4].\nTERMINAL GO = INPUT(1,GO).\nOPERATION SWAP = [A <- B, B <- A],\n  LOAD = [A = 4D9, B <- (A (+) 4D3) TAIL 4].\nCONTROL P: IF GO THEN SWAP ENDIF/ Q: LOAD, ->P/ .\n"

unfoldable pub nine : List ℕ
nine = bytes "REGISTER A[4]. OPERATION X=[A<-4D9]. CONTROL P: X,->P/."

unfoldable pub five : List ℕ
five = bytes "REGISTER A[4]. OPERATION X=[A<-4D5]. CONTROL P: X,->P/."

unfoldable pub meeting : List ℕ
meeting = bytes "REGISTER A[4]. OPERATION X=[A[1:3]<-3B111,A[3:4]<-2B00]. CONTROL P: X,->P/."

unfoldable pub apart : List ℕ
apart = bytes "REGISTER A[4]. OPERATION X=[A[1:2]<-2B11,A[3:4]<-2B00]. CONTROL P: X,->P/."

-- The image of a text, and its store and record as opened; a store of at most three bytes.
unfoldable pub image_of : List ℕ → List ℕ
image_of text = (read text 320).image

unfoldable pub opened : List ℕ → OpenCall
opened image = open' image 3 80

-- The first cycle of a text.
unfoldable pub first_of : List ℕ → List ℕ → CycleCall
first_of text stimulus =
    let image = image_of text in
    cycle image (opened image).store (opened image).record' stimulus 12

-- What a trace holds of cycle k, counted from 0.
unfoldable pub traced : List ℕ → ℕ → List ℕ → List ℕ
traced image k trace = take (store_size (decode image)) (drop (k * store_size (decode image)) trace)

-- Cycle k of a run that went to its end left what the first one left.
abbrev pub Repeats : Run → ℕ → Type 0
Repeats f k =
    (image store record' stimuli : List ℕ) (count scratch room conflicts : ℕ) → k < count → (f image store record' stimuli count scratch room).answer ≡ ran count conflicts none → traced image k (f image store record' stimuli count scratch room).trace ≡ traced image 0 (f image store record' stimuli count scratch room).trace
