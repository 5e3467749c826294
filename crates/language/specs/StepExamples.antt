-- What a cycle answers, computed over the calls on bytes: conflicts, bytes kept and landed, the record, refusals of store and record.
use Rattle.std.specs.Prelude.{List, [], ◌∷◌, ◌≡◌, refl, ℕ, replicate, set}
use Prim.Native.String.{String}
use Rattle.language.specs.Calls.{CycleCall, OpenCall, cycle, cycled, open', refused_for, run, run_refused, stopped_for}
use Rattle.language.specs.Computing.{computing}
use Rattle.language.specs.Encode.{encode}
use Rattle.language.specs.Reading.{Read, legal, read_text, refused_at}
use Rattle.language.specs.declared.refusals.Refusal.TheVariants.{BadStimulus, Unsound}
use Rattle.language.specs.Scan.{bytes}
use Rattle.language.specs.declared.stops.Stop.TheVariants.{LastCycleReached}

-- The image of a text that is read, and nothing of any other.
abbrev pub image_of : Read → List ℕ
image_of (legal d) = encode d
image_of (refused_at f) = []

-- The first cycle of a description whose store has n bytes.
unfoldable pub first : String → ℕ → CycleCall
first text n =
    let image : List ℕ = image_of (read_text (bytes text)) in
    let o : OpenCall = open' image n 80 in
    cycle image o.store o.record' [] 64

-- Two delayed stores that name one bit: one conflict, and the later one lands there.
overlap : (first "REGISTER A[4]. OPERATION X=[A[1:3]<-3B111,A[3:4]<-2B00]. CONTROL P: X,->P/." 1).answer ≡ cycled 1
unfolding computing first
overlap = refl

overlap-lands : (first "REGISTER A[4]. OPERATION X=[A[1:3]<-3B111,A[3:4]<-2B00]. CONTROL P: X,->P/." 1).store ≡ 0b1100 ∷ []
unfolding computing first
overlap-lands = refl

-- Three stores to one bit are two conflicts; neighbours are none; the two references of one store are none.
three-times : (first "REGISTER A[4]. OPERATION X=[A<-4D1,A[4]<-1B0,A<-4D2]. CONTROL P: X,->P/." 1).answer ≡ cycled 2
unfolding computing first
three-times = refl

neighbours : (first "REGISTER A[4]. OPERATION X=[A[1:2]<-2B11,A[3:4]<-2B00]. CONTROL P: X,->P/." 1).answer ≡ cycled 0
unfolding computing first
neighbours = refl

own_pair : (first "REGISTER A[2]. OPERATION X=[A CON A<-4B0110]. CONTROL P: X,->P/." 1).answer ≡ cycled 0
unfolding computing first
own_pair = refl

-- Two words of one register are apart.
two-words : (first "REGISTER A[2,4]. OPERATION X=[A[1]<-4D9,A[2]<-4D5]. CONTROL P: X,->P/." 2).answer ≡ cycled 0
unfolding computing first
two-words = refl

-- Bytes beyond the store are not touched by a cycle; opening zeroes them.
beyond-opened : (open' (image_of (read_text (bytes "REGISTER A[12]. OPERATION X=[A<-12H.ABC]. CONTROL P: X,->P/."))) 3 80).store ≡ 0 ∷ 0 ∷ 0 ∷ []
unfolding computing
beyond-opened = refl

beyond :
    (let image : List ℕ = image_of (read_text (bytes "REGISTER A[12]. OPERATION X=[A<-12H.ABC]. CONTROL P: X,->P/.")) in
    (cycle image (0 ∷ 0 ∷ 7 ∷ []) (open' image 2 80).record' [] 8).store) ≡ 0x0a ∷ 0xbc ∷ 7 ∷ []
unfolding computing
beyond = refl

-- The record after the first cycle: mark, state 2, cycle 1, one return held, state 1 as the return.
called : (first "REGISTER A. CONTROL P: =>R/ Q: / R: RETURN/." 1).record'
    ≡ 0x44 ∷ 0x44 ∷ 0x4c ∷ 0x50 ∷ 2 ∷ 0 ∷ 0 ∷ 0 ∷ 1 ∷ 0 ∷ 0 ∷ 0 ∷ 1 ∷ 0 ∷ 0 ∷ 0 ∷ 1 ∷ 0 ∷ 0 ∷ 0 ∷ replicate 60 0
unfolding computing first
called = refl

-- Scratch is zero after a stop too, and nothing of the store has changed.
stopped-scratch : (first "REGISTER A. OPERATION X=[A=1B1]. CONTROL P: X,RETURN/." 1).scratch ≡ replicate 64 0
unfolding computing first
stopped-scratch = refl

stopped-store : (first "REGISTER A. OPERATION X=[A=1B1]. CONTROL P: X,RETURN/." 1).store ≡ 0 ∷ []
unfolding computing first
stopped-store = refl

-- A stop lands nothing: of two cycles the second sets A at once and then stops, and A is as the first one left it.
second-stops :
    (let image : List ℕ = image_of (read_text (bytes "REGISTER A[4]. OPERATION X=[A=4D5], Y=[A=4D9]. CONTROL P: X/ Y,RETURN/.")) in
    let o : OpenCall = open' image 1 80 in
    (run image o.store o.record' [] 2 4 0).store) ≡ 5 ∷ []
unfolding computing
second-stops = refl

-- S7: the last cycle number.
last-cycle :
    (let image : List ℕ = image_of (read_text (bytes "REGISTER A. CONTROL P: ->P/.")) in
    let o : OpenCall = open' image 1 80 in
    (cycle image o.store (set (set (set (set o.record' 8 255) 9 255) 10 255) 11 255) [] 4).answer) ≡ stopped_for LastCycleReached
unfolding computing
last-cycle = refl

-- A sequencing register that is not the state's value is Unsound.
other-value :
    (let image : List ℕ = image_of (read_text (bytes "REGISTER #Q[2]. CONTROL P(2): ->P/.")) in
    let o : OpenCall = open' image 1 80 in
    (cycle image (1 ∷ []) o.record' [] 4).answer) ≡ refused_for Unsound
unfolding computing
other-value = refl

-- A record without the open mark, and a store with a spare bit set, are unsound too.
unmarked :
    (let image : List ℕ = image_of (read_text (bytes "REGISTER A[4]. CONTROL P: ->P/.")) in
    let o : OpenCall = open' image 1 80 in
    (cycle image o.store (set o.record' 0 0x45) [] 4).answer) ≡ refused_for Unsound
unfolding computing
unmarked = refl

spare-bit :
    (let image : List ℕ = image_of (read_text (bytes "REGISTER A[4]. CONTROL P: ->P/.")) in
    let o : OpenCall = open' image 1 80 in
    (cycle image (0x10 ∷ []) o.record' [] 4).answer) ≡ refused_for Unsound
unfolding computing
spare-bit = refl

-- A run is refused for any of its stimuli, and then none of its cycles is carried out.
late-stimulus :
    (let image : List ℕ = image_of (read_text (bytes "REGISTER A. TERMINAL T=INPUT(1,T). OPERATION X=[A<-T]. CONTROL P: X,->P/.")) in
    let o : OpenCall = open' image 2 80 in
    (run image o.store o.record' (1 ∷ 2 ∷ []) 2 8 0).answer) ≡ run_refused BadStimulus
unfolding computing
late-stimulus = refl

-- Three cycles in one call, the store after each in the trace, zeroes beyond.
three-cycles :
    (let image : List ℕ = image_of (read_text (bytes "REGISTER A[4]. OPERATION X=[A<-(A(+)1)TAIL 4]. CONTROL P: X,->P/.")) in
    let o : OpenCall = open' image 1 80 in
    (run image o.store o.record' [] 3 4 5).trace) ≡ 1 ∷ 2 ∷ 3 ∷ 0 ∷ 0 ∷ []
unfolding computing
three-cycles = refl
