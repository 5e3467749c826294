-- What no module is that meets the contracts on every input (01, "What each public call owes"): each wrong one is told from the definitions by an example that computes.
use Rattle.std.specs.Prelude.{List, [], ◌∷◌, ◌≡◌, refl, ℕ, ◌<◌, get_or, replicate}
use Rattle.std.proofs.Common.{sym, ap, ◌∙◌, arith}
use Rattle.language.specs.Calls.{CycleCall, RunCall, cycled, ran, run}
use Rattle.language.specs.Computing.{computing}
use Rattle.language.specs.Decode.{decode}
use Rattle.language.specs.Description.{Description}
use Rattle.language.specs.Reading as Reading
use Rattle.language.specs.Reading.{ReadCall, accepted, read}
use Rattle.language.specs.Step.{Record, completed, step}
use Rattle.language.specs.Store.{StoreWords}
use Rattle.language.specs.declared.refusals.Refusal.{Refusal}
use Rattle.std.proofs.Math.Option.{none}
use Rattle.about_calls.specs.ShutOut.{Cycle, Cycles, Reader, Reads, Repeats, Run, Runs, Stepping, Steps, apart, example, first_of, five, image_of, meeting, nine, opened, traced}

-- ---- A reader that refuses everything.

example-accepted : (read example 320).answer ≡ accepted 288
unfolding computing example
example-accepted = refl

pub not-refusing : (f : Reader) → Reads f → (refusal : List ℕ → ℕ → Refusal) (place : List ℕ → ℕ → ℕ) → ((text : List ℕ) (room : ℕ) → (f text room).answer ≡ Reading.refused_for (refusal text room) (place text room)) → ⊥
not-refusing f reads refusal place refuses =
    told (sym example-accepted ∙ sym (ap (λ (c : ReadCall). c.answer) (reads example 320)) ∙ refuses example 320)
  where
    told : accepted 288 ≡ Reading.refused_for (refusal example 320) (place example 320) → ⊥
    told e =
        let z : ◌≡◌ {A = ℕ} 0 1 = cc in
        omega arith

-- ---- A reader with one image for all texts that it accepts.

nine-accepted : (read nine 320).answer ≡ accepted 117
unfolding computing nine
nine-accepted = refl

five-accepted : (read five 320).answer ≡ accepted 117
unfolding computing five
five-accepted = refl

-- Byte 80 is the constant's digit.
nine-written : get_or (read nine 320).image 80 0 ≡ 9
unfolding computing nine
nine-written = refl

five-written : get_or (read five 320).image 80 0 ≡ 5
unfolding computing five
five-written = refl

pub no-one-image : (f : Reader) → Reads f → (image : ℕ → List ℕ) → ((text : List ℕ) (room length : ℕ) → (f text room).answer ≡ accepted length → (f text room).image ≡ image room) → ⊥
no-one-image f reads image constant =
    let a : (read nine 320).image ≡ image 320 = same nine nine-accepted in
    let b : (read five 320).image ≡ image 320 = same five five-accepted in
    let z : ◌≡◌ {A = ℕ} 9 5 = sym nine-written ∙ ap (λ (l : List ℕ). get_or l 80 0) (a ∙ sym b) ∙ five-written in
    omega arith
  where
    same : (text : List ℕ) → (read text 320).answer ≡ accepted 117 → (read text 320).image ≡ image 320
    same text h =
        sym (ap (λ (c : ReadCall). c.image) (reads text 320)) ∙ constant text 320 117 (ap (λ (c : ReadCall). c.answer) (reads text 320) ∙ h)

nine-lands : (first_of nine []).store ≡ 9 ∷ 0 ∷ 0 ∷ []
unfolding computing nine image_of opened first_of
nine-lands = refl

five-lands : (first_of five []).store ≡ 5 ∷ 0 ∷ 0 ∷ []
unfolding computing five image_of opened first_of
five-lands = refl

-- With one image for both their cycles would be the same.
pub cycles-differ : (first_of nine []).store ≡ (first_of five []).store → ⊥
cycles-differ e =
    let z : ◌≡◌ {A = ℕ} 9 5 = ap (λ (l : List ℕ). get_or l 0 0) (sym nine-lands ∙ e ∙ five-lands) in
    omega arith

-- ---- A cycle that changes nothing: 01's first cycle sets GO, and counts itself in the record.

go-before : get_or (opened (image_of example)).store 2 0 ≡ 0
unfolding computing example image_of opened
go-before = refl

go-after : get_or (first_of example (1 ∷ [])).store 2 0 ≡ 1
unfolding computing example image_of opened first_of
go-after = refl

cycle-before : get_or (opened (image_of example)).record' 8 0 ≡ 0
unfolding computing example image_of opened
cycle-before = refl

cycle-after : get_or (first_of example (1 ∷ [])).record' 8 0 ≡ 1
unfolding computing example image_of opened first_of
cycle-after = refl

pub store-changes : (f : Cycle) → Cycles f → ((image store record' stimulus : List ℕ) (scratch : ℕ) → (f image store record' stimulus scratch).store ≡ store) → ⊥
unfolding first_of
store-changes f cycles keeps =
    let i = image_of example in
    let o = opened i in
    let e : (first_of example (1 ∷ [])).store ≡ o.store = sym (ap (λ (c : CycleCall). c.store) (cycles i o.store o.record' (1 ∷ []) 12)) ∙ keeps i o.store o.record' (1 ∷ []) 12 in
    let z : ◌≡◌ {A = ℕ} 1 0 = sym go-after ∙ ap (λ (l : List ℕ). get_or l 2 0) e ∙ go-before in
    omega arith

pub record-changes : (f : Cycle) → Cycles f → ((image store record' stimulus : List ℕ) (scratch : ℕ) → (f image store record' stimulus scratch).record' ≡ record') → ⊥
unfolding first_of
record-changes f cycles keeps =
    let i = image_of example in
    let o = opened i in
    let e : (first_of example (1 ∷ [])).record' ≡ o.record' = sym (ap (λ (c : CycleCall). c.record') (cycles i o.store o.record' (1 ∷ []) 12)) ∙ keeps i o.store o.record' (1 ∷ []) 12 in
    let z : ◌≡◌ {A = ℕ} 1 0 = sym cycle-after ∙ ap (λ (l : List ℕ). get_or l 8 0) e ∙ cycle-before in
    omega arith

-- ---- A run that works in its first cycle and then repeats itself: the trace has another store after each of 01's three cycles.

unfoldable three_of : RunCall
three_of =
    let image = image_of example in
    run image (opened image).store (opened image).record' (1 ∷ 0 ∷ 1 ∷ []) 3 12 9

three-ran : three_of.answer ≡ ran 3 0 none
unfolding computing example image_of opened three_of
three-ran = refl

first-traced : traced (image_of example) 0 three_of.trace ≡ 0 ∷ 0 ∷ 1 ∷ []
unfolding computing example image_of opened three_of traced
first-traced = refl

second-traced : traced (image_of example) 1 three_of.trace ≡ 9 ∷ 12 ∷ 0 ∷ []
unfolding computing example image_of opened three_of traced
second-traced = refl

third-traced : traced (image_of example) 2 three_of.trace ≡ 12 ∷ 9 ∷ 1 ∷ []
unfolding computing example image_of opened three_of traced
third-traced = refl

repeated : (f : Run) → Runs f → (k : ℕ) → k < 3 → Repeats f k → traced (image_of example) k three_of.trace ≡ traced (image_of example) 0 three_of.trace
unfolding three_of
repeated f runs k h repeats =
    let i = image_of example in
    let o = opened i in
    let e : f i o.store o.record' (1 ∷ 0 ∷ 1 ∷ []) 3 12 9 ≡ three_of = runs i o.store o.record' (1 ∷ 0 ∷ 1 ∷ []) 3 12 9 in
    let a : (f i o.store o.record' (1 ∷ 0 ∷ 1 ∷ []) 3 12 9).answer ≡ ran 3 0 none = ap (λ (c : RunCall). c.answer) e ∙ three-ran in
    let t = ap (λ (c : RunCall). traced i k c.trace) e in
    let u = ap (λ (c : RunCall). traced i 0 c.trace) e in
    sym t ∙ repeats i o.store o.record' (1 ∷ 0 ∷ 1 ∷ []) 3 12 9 0 h a ∙ u

pub second-no-repeat : (f : Run) → Runs f → Repeats f 1 → ⊥
second-no-repeat f runs repeats =
    let z : ◌≡◌ {A = ℕ} 9 0 = ap (λ (l : List ℕ). get_or l 0 0) (sym second-traced ∙ repeated f runs 1 (omega arith) repeats ∙ first-traced) in
    omega arith

pub third-no-repeat : (f : Run) → Runs f → Repeats f 2 → ⊥
third-no-repeat f runs repeats =
    let z : ◌≡◌ {A = ℕ} 12 0 = ap (λ (l : List ℕ). get_or l 0 0) (sym third-traced ∙ repeated f runs 2 (omega arith) repeats ∙ first-traced) in
    omega arith

-- ---- An invented conflict count: completed cycles with one conflict and with none.

one-conflict : (first_of meeting []).answer ≡ cycled 1
unfolding computing meeting image_of opened first_of
one-conflict = refl

no-conflict : (first_of apart []).answer ≡ cycled 0
unfolding computing apart image_of opened first_of
no-conflict = refl

pub no-one-count : (f : Cycle) → Cycles f → (count : ℕ) → ((image store record' stimulus : List ℕ) (scratch n : ℕ) → (f image store record' stimulus scratch).answer ≡ cycled n → n ≡ count) → ⊥
unfolding first_of
no-one-count f cycles count invented =
    let a : 1 ≡ count = counted meeting 1 one-conflict in
    let b : 0 ≡ count = counted apart 0 no-conflict in
    omega arith
  where
    counted : (text : List ℕ) (n : ℕ) → (first_of text []).answer ≡ cycled n → n ≡ count
    counted text n h =
        let i = image_of text in
        let o = opened i in
        invented i o.store o.record' [] 12 n (ap (λ (c : CycleCall). c.answer) (cycles i o.store o.record' [] 12) ∙ h)

-- ---- An idle step: in 01's second state A takes 9.

unfoldable described : Description
described = decode (image_of example)

abbrev at_second : Record
at_second = record { state = 1; cycle = 1; held = 0; returns = replicate 16 0 }

abbrev at_first : Record
at_first = record { state = 0; cycle = 2; held = 0; returns = replicate 16 0 }

abbrev words : ℕ → ℕ → StoreWords
words a b = (a ∷ []) ∷ (b ∷ []) ∷ (0 ∷ []) ∷ []

loads : step described (words 0 0) at_second ((0 ∷ []) ∷ []) ≡ completed (words 9 12) at_first 0
unfolding computing example image_of described
loads = refl

pub not-idle : (f : Stepping) → Steps f → ((d : Description) (s t : StoreWords) (r q : Record) (ins : StoreWords) (n : ℕ) → f d s r ins ≡ completed t q n → t ≡ s) → ⊥
not-idle f steps idle =
    let e : words 9 12 ≡ words 0 0 = idle described (words 0 0) (words 9 12) at_second at_first ((0 ∷ []) ∷ []) 0 (steps described (words 0 0) at_second ((0 ∷ []) ∷ []) ∙ loads) in
    let z : ◌≡◌ {A = ℕ} 9 0 = ap (λ (s : StoreWords). get_or (get_or s 0 []) 0 0) e in
    omega arith
