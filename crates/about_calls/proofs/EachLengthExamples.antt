-- Records of a passing image that a run can work out, with their lengths and what they come to; and records that none can.
use Rattle.std.specs.Prelude.{true, List, [], ◌∷◌, ◌≡◌, refl, ℕ, ◌≤◌, length}
use Rattle.std.proofs.Common.{sym, ap, subst, ◌∙◌, arith}
use Rattle.language.specs.Acting.{side}
use Rattle.language.specs.Computing.{computing}
use Rattle.language.specs.Decode.{decode}
use Rattle.language.specs.Description as D
use Rattle.language.specs.Description.{Action, Description, action_at, facility_at, is_computed, no_places, node_at, operation_at}
use Rattle.language.specs.Expressions.{expression_at, terminal_below}
use Rattle.language.specs.Image.{passes}
use Rattle.language.specs.Judging.{Judged, faults_of}
use Rattle.language.specs.Kinds.{delayed_sign, tail_word}
use Rattle.language.specs.Meaning.{Located, eval_at, is, place, stops}
use Rattle.language.specs.Reading.{read}
use Rattle.language.specs.Scan.{bytes}
use Rattle.language.specs.Store.{Held, held, numbers}
use Rattle.language.specs.Value.{value}
use Rattle.language.specs.declared.stops.Stop.TheVariants.{OutsideBounds}
use Rattle.about_running.specs.Gives.{Gives}
use Rattle.about_rules.specs.ActionsRight.{Has}
use Rattle.about_rules.specs.HasLength as H
use Rattle.about_rules.proofs.LengthsJudged.{has-length}
use Rattle.about_calls.proofs.EachLength.{each_left, each-length, each-substring, terminal-declared}
use Rattle.about_calls.specs.OnStores.{NamesPart, numbers-load}
use Rattle.about_calls.specs.WorkedOut as W
use Rattle.about_calls.specs.WorkedOut.{Acts, LeftSide, Valued, WorkedOut}

-- ---- A computed terminal, a substring, a part on the left, a conditional, a computed subscript.

text : List ℕ
text = bytes "REGISTER A[4], B[4]. TERMINAL S[5] = A (+) B.\nOPERATION X = [A <- S TAIL 4, B[2:3] <- IF A[B] THEN 2B01 ELSE B[3:4] ENDIF].\nCONTROL P: X, ->P/."

image : List ℕ
image = (read text 400).image

abbrev d : Description
d = decode image

passing : passes image ≡ true
unfolding computing text image
passing = refl

-- ---- The second store: what it holds, and the parts of that.

first_store : action_at d 0 ≡ D.store delayed_sign 3 5
unfolding computing text image
first_store = refl

second_store : action_at d 1 ≡ D.store delayed_sign 6 13
unfolding computing text image
second_store = refl

one-operation : length d.operations ≡ 1
unfolding computing text image
one-operation = refl

two-actions : (operation_at d 0).body ≡ record { first = 0; count = 2 }
unfolding computing text image
two-actions = refl

acts-0 : Acts d 0
acts-0 = W.of-operation {o = 0} (rw one-operation (omega arith)) (rw two-actions (omega arith, omega arith))

acts-1 : Acts d 1
acts-1 = W.of-operation {o = 0} (rw one-operation (omega arith)) (rw two-actions (omega arith, omega arith))

tail-out : WorkedOut d 5
tail-out = W.valued acts-0 (subst (λ (a : Action). Valued a 5) (sym first_store) W.right)

left_so : LeftSide (action_at d 1) 6
left_so = subst (λ (a : Action). LeftSide a 6) (sym second_store) W.stored

choice-out : WorkedOut d 13
choice-out = W.valued acts-1 (subst (λ (a : Action). Valued a 13) (sym second_store) W.right)

choice : node_at d 13 ≡ D.choice 8 12 2
unfolding computing text image
choice = refl

second-arm : node_at d 12 ≡ D.next_arm 10 11
unfolding computing text image
second-arm = refl

first-arm : node_at d 10 ≡ D.first_arm 9
unfolding computing text image
first-arm = refl

bit-of-a : node_at d 8 ≡ D.one 0 7
unfolding computing text image
bit-of-a = refl

condition-out : WorkedOut d 8
condition-out = W.part choice-out (W.condition choice)

subscript-out : WorkedOut d 7
subscript-out = W.part condition-out (W.subscript bit-of-a)

then-out : WorkedOut d 9
then-out = W.part choice-out (W.arm choice (W.earlier second-arm (W.first first-arm)))

else-out : WorkedOut d 11
else-out = W.part choice-out (W.arm choice (W.last second-arm))

-- ---- Lengths, as the rules work them out, and so the only ones.

sum-5 : Has d 2 5
unfolding computing text image
sum-5 = (has-length d no_places 3 2 5).1 (3, refl)

tail-4 : Has d 5 4
unfolding computing text image
tail-4 = (has-length d no_places 3 5 4).1 (5, refl)

s-5 : Has d 4 5
unfolding computing text image
s-5 = (has-length d no_places 3 4 5).1 (4, refl)

left-2 : Has d 6 2
unfolding computing text image
left-2 = (has-length d no_places 3 6 2).1 (1, refl)

condition-1 : Has d 8 1
unfolding computing text image
condition-1 = (has-length d no_places 3 8 1).1 (2, refl)

choice-2 : Has d 13 2
unfolding computing text image
choice-2 = (has-length d no_places 3 13 2).1 (5, refl)

choice-only : (each-length image passing choice-out).bits ≡ 2
choice-only = sym ((each-length image passing choice-out).only 2 choice-2)

-- S is declared with five bits, and its expression has them.
s-computed : is_computed (facility_at d 2).kind ≡ true
unfolding computing text image
s-computed = refl

sum-declared : Has d (facility_at d 2).expression 5
unfolding computing text image
sum-declared = terminal-declared image passing 2 s-computed

tail : node_at d 5 ≡ D.cut tail_word 4 4
unfolding computing text image
tail = refl

-- TAIL 4 of five bits: four.
tail_within : Has d 5 4 × (1 ≤ 4) × (4 ≤ 5)
tail_within = each-substring image passing tail-out H.tail tail s-5

-- ---- What they come to, on two stores: with B 0 the subscript is outside the bounds of A.

abbrev store : ℕ → ℕ → Held
store a b = held ((a ∷ []) ∷ (b ∷ []) ∷ [] ∷ []) []

kept-so : (a b : ℕ) → Gives (each-length image passing choice-out).bits (eval_at (numbers d) d (store a b) 13)
kept-so a b = (each-length image passing choice-out).kept (numbers d) (store a b) (numbers-load d (store a b))

sum-of-15-and-1 : eval_at (numbers d) d (store 15 1) 2 ≡ is (value 5 16)
unfolding computing text image
sum-of-15-and-1 = refl

taken-1 : eval_at (numbers d) d (store 8 1) 13 ≡ is (value 2 1)
unfolding computing text image
taken-1 = refl

outside-0 : eval_at (numbers d) d (store 8 0) 13 ≡ stops OutsideBounds
unfolding computing text image
outside-0 = refl

-- B[2:3] is the two bits behind the first one.
left-place : side (numbers d) d (store 8 1) 6 ≡ Located.at (place 1 0 1 2)
unfolding computing text image
left-place = refl

left-named : (a b : ℕ) → (f : ℕ) × NamesPart d f 2 (side (numbers d) d (store a b) 6)
left-named a b = each_left image passing acts-1 left_so left-2 (numbers d) (store a b) (numbers-load d (store a b))

-- ---- The record of an arm is no expression, so no run works it out; nor one past the last.

none_out : (n : ℕ) → length (faults_of (expression_at d no_places (terminal_below d no_places 3) 3 n)) ≡ 1 → length d.facilities ≡ 3 → WorkedOut d n → ⊥
none_out n e k o =
    let y = each-length image passing o in
    let z = (has-length d no_places (length d.facilities) n y.bits).0 y.long in
    let u : length (faults_of (expression_at d no_places (terminal_below d no_places 3) 3 n)) ≡ 0 = rw (← k) (ap (λ (j : Judged). length (faults_of j)) z.1) in
    let v : ◌≡◌ {A = ℕ} 0 1 = sym u ∙ e in
    omega arith

no_arm : WorkedOut d 10 → ⊥
unfolding computing text image
no_arm o = none_out 10 refl refl o

no-arms : WorkedOut d 12 → ⊥
unfolding computing text image
no-arms o = none_out 12 refl refl o

none-past : WorkedOut d 14 → ⊥
unfolding computing text image
none-past o = none_out 14 refl refl o
