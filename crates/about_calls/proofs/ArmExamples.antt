-- A CASE of a passing image whose four arms its condition of two bits chooses among, on a store that holds more than its bits; and the same image with an arm less.
use Rattle.std.specs.Prelude.{true, false, List, [], ◌∷◌, ◌≡◌, refl, ℕ, get_or, length, set}
use Rattle.std.proofs.Math.Option.{some}
use Rattle.std.proofs.Common.{arith}
use Rattle.language.specs.Acting.{arm_at}
use Rattle.language.specs.Computing.{computing}
use Rattle.language.specs.Decode.{decode}
use Rattle.language.specs.Description as D
use Rattle.language.specs.Description.{Description, action_at, no_places, operation_at}
use Rattle.language.specs.Image.{passes}
use Rattle.language.specs.Meaning.{eval_at, is}
use Rattle.language.specs.Reading.{read}
use Rattle.language.specs.Scan.{bytes}
use Rattle.language.specs.Store.{Held, held, numbers}
use Rattle.language.specs.Value.{value}
use Rattle.about_running.specs.Account.{Takes, by_number}
use Rattle.about_running.proofs.ValuesAccounted.{worth-of}
use Rattle.about_rules.specs.ActionsRight.{Has}
use Rattle.about_rules.proofs.LengthsJudged.{has-length, one-length}
use Rattle.about_calls.specs.ArmAlways.{ArmStands, Conditional, in-action}
use Rattle.about_calls.proofs.ArmAlways.{arm-always, for-each-value}
use Rattle.about_calls.specs.OnStores.{numbers-load}
use Rattle.about_calls.specs.WorkedOut as W
use Rattle.about_calls.specs.WorkedOut.{Acts}

text : List ℕ
text = bytes "REGISTER A[4],B[4],Z,S[2].\nOPERATION O=[CASE S DO A=4D1 DO A=4D2 DO A=4D3 DO A=4D4 ENDCASE,S<-S(+)2B1 TAIL 2].\nCONTROL P:O,->P/."

image : List ℕ
image = (read text 500).image

abbrev d : Description
d = decode image

passing : passes image ≡ true
unfolding computing text image
passing = refl

case-of-four : action_at d 0 ≡ D.choose 0 4 8
unfolding computing text image
case-of-four = refl

one-operation : length d.operations ≡ 1
unfolding computing text image
one-operation = refl

ten-actions : (operation_at d 0).body ≡ record { first = 0; count = 10 }
unfolding computing text image
ten-actions = refl

acts-0 : Acts d 0
acts-0 = W.of-operation {o = 0} (rw one-operation (omega arith)) (rw ten-actions (omega arith, omega arith))

chooses : Conditional d 0 4
chooses = in-action acts-0 case-of-four

-- Two bits.
s-2 : Has d 0 2
unfolding computing text image
s-2 = (has-length d no_places 4 0 2).1 (1, refl)

two-bits : (for-each-value image passing chooses).0.bits ≡ 2
two-bits = one-length (for-each-value image passing chooses).0.long s-2

-- ---- A store in which the word of S holds 7: what is loaded of it is 3, which takes the third arm.

spoiled : Held
spoiled = held ((0 ∷ []) ∷ (0 ∷ []) ∷ (0 ∷ []) ∷ (7 ∷ []) ∷ []) []

three-loaded : eval_at (numbers d) d spoiled 0 ≡ is (value 2 3)
unfolding computing text image spoiled
three-loaded = refl

taken : (k : ℕ) × Takes 4 3 k × ArmStands chooses k
taken = arm-always image passing chooses (numbers d) spoiled (numbers-load d spoiled) (worth-of (numbers d) d spoiled 0 three-loaded)

only_third : {k : ℕ} → Takes 4 3 k → k ≡ 3
only_third (by_number l h) = refl

third-taken : taken.0 ≡ 3
third-taken = only_third taken.1

third-arm : arm_at d 2 1 8 ≡ some (record { first = 6; count = 1 })
unfolding computing text image
third-arm = refl

-- ---- One arm less in the record of the CASE, and one bit more in S.

four-there : (get_or image 221 0 ≡ 11) × (get_or image 224 0 ≡ 4)
unfolding computing text image
four-there = (refl, refl)

three-arms : passes (set image 224 3) ≡ false
unfolding computing text image
three-arms = refl

three-bits : passes (set image 100 3) ≡ false
unfolding computing text image
three-bits = refl
