-- Lengths by the sentences of 01, worked out record by record; and records that have none.
use Rattle.std.specs.Prelude.{[], ◌∷◌, ◌≡◌, refl, ℕ, suc, length}
use Rattle.std.proofs.Common.{sym, ap, ◌∙◌, arith}
use Rattle.language.specs.Computing.{computing}
use Rattle.language.specs.Description as D
use Rattle.language.specs.Description.{Description, Facility, bounds, facility_at, no_places, node_at, word_length}
use Rattle.language.specs.Expressions.{expression_at, terminal_below}
use Rattle.language.specs.Judging.{Judged, faults_of}
use Rattle.language.specs.Kinds.{con_word, ext_word, head_word, less_sign, plus, sum_sign}
use Rattle.language.specs.Tree.{Kind, computed, memory, register}
use Rattle.language.specs.Value.{value}
use Rattle.about_rules.specs.HasLength as H
use Rattle.about_rules.specs.HasLength.{HasLength, Long, Part, facility}
use Rattle.about_rules.proofs.LengthsJudged.{has-length}

-- ---- REGISTER A[1:4]. MEMORY M[0:9,7:0]. TERMINAL T[1:5] = A (+) 4D9.

abbrev declared : Kind → ℕ → D.Bounds → D.Bounds → ℕ → Facility
declared k n w b e = record { name = []; kind = k; dimensions = n; words = w; bits = b; expression = e }

abbrev pub sample : Description
sample = record {
  facilities = declared register 1 (bounds 0 0) (bounds 1 4) 0 ∷ declared memory 2 (bounds 0 9) (bounds 7 0) 0 ∷ declared computed 1 (bounds 0 0) (bounds 1 5) 2 ∷ [];
  operations = [];
  expressions =
      D.whole 0
      ∷ D.constant (value 4 9)
      ∷ D.binary sum_sign 0 1
      ∷ D.whole 2
      ∷ D.constant (value 16 3)
      ∷ D.one 1 4
      ∷ D.word_part 1 4 (bounds 5 2)
      ∷ D.cut ext_word 1 64
      ∷ D.prefix sum_sign 0
      ∷ D.binary con_word 3 5
      ∷ D.binary less_sign 7 4
      ∷ D.first_arm 0
      ∷ D.next_arm 11 1
      ∷ D.choice 10 12 2
      ∷ D.cut head_word 4 16
      ∷ D.cut ext_word 1 65
      ∷ D.cut head_word 4 17
      ∷ D.part 0 (bounds 3 2)
      ∷ D.one 0 4
      ∷ D.one 0 1
      ∷ D.choice 0 12 2
      ∷ D.next_arm 11 4
      ∷ D.choice 10 21 2
      ∷ D.binary plus 0 30
      ∷ D.whole 1
      ∷ D.constant (value 2 1)
      ∷ D.first_arm 0
      ∷ D.next_arm 26 1
      ∷ D.next_arm 27 0
      ∷ D.next_arm 28 1
      ∷ D.choice 25 29 4
      ∷ [];
  actions = [];
  states = [];
}

abbrev Has : ℕ → ℕ → Type 0
Has n l = HasLength sample 3 n l

-- A has four bits and its sum with 4D9 five, so T may be named, which has five.
a-named : (k : ℕ) → Long sample (suc k) facility 0 4
unfolding facility_at word_length
a-named k = H.stored {known = suc k} {f = 0} (omega arith) refl

m-named : Long sample 3 facility 1 8
unfolding facility_at word_length
m-named = H.stored {known = 3} {f = 1} (omega arith) refl

a_4 : (k : ℕ) → HasLength sample (suc k) 0 4
unfolding facility_at node_at
a_4 k = H.whole {f = 0} refl (omega arith) (a-named k) (omega arith)

nine-4 : {known : ℕ} → HasLength sample known 1 4
unfolding node_at
nine-4 = H.constant {v = value 4 9} refl (omega arith) (omega arith)

sum-5 : HasLength sample 2 2 5
unfolding node_at
sum-5 = H.sum {n = 2} {a = 0} {b = 1} {l = 4} {m = 4} (refl, omega arith, omega arith) (a_4 1) nine-4 (omega arith)

t-named : Long sample 3 facility 2 5
unfolding facility_at word_length
t-named = H.computed {known = 3} {f = 2} (omega arith) refl sum-5

t-5 : Has 3 5
unfolding facility_at node_at
t-5 = H.whole {f = 2} refl (omega arith) t-named (omega arith)

-- M[3] is a word of eight bits, M[3,5:2] four of them.
three-16 : Has 4 16
unfolding node_at
three-16 = H.constant {v = value 16 3} refl (omega arith) (omega arith)

three-in : H.Subscript sample (bounds 0 9) 4
unfolding node_at
three-in v e = let z : v ≡ value 16 3 = cc in rw z (H.Within.rising (omega arith) (omega arith))

word-8 : Has 5 8
unfolding facility_at node_at
word-8 = H.word {n = 5} {f = 1} {e = 4} refl (omega arith) refl m-named three-16 three-in (omega arith)

word-part-4 : Has 6 4
unfolding facility_at node_at
word-part-4 = H.word-part {n = 6} {f = 1} {e = 4} {x = bounds 5 2} refl (omega arith) refl m-named three-16 three-in (Part.falling (omega arith) (omega arith) (omega arith)) (omega arith)

-- EXT 64 of four bits fills a value; (+) RED gives sixteen bits, CON thirteen, < one.
ext-256 : Has 7 256
unfolding node_at
ext-256 = H.extended {n = 7} {a = 1} {c = 64} {l = 4} (refl, omega arith) nine-4 (omega arith) (omega arith)

ones-16 : Has 8 16
unfolding node_at
ones-16 = H.counted {n = 8} {a = 0} (refl, omega arith) (a_4 2)

con-13 : Has 9 13
unfolding node_at
con-13 = H.joined {n = 9} {a = 3} {b = 5} {l = 5} {m = 8} (refl, omega arith, omega arith) t-5 word-8 (omega arith)

less-1 : Has 10 1
unfolding node_at
less-1 = H.relation {n = 10} {a = 7} {b = 4} H.less (refl, omega arith, omega arith) ext-256 three-16

-- IF takes the one bit, and its two arms have four bits each.
if-4 : Has 13 4
unfolding node_at
if-4 =
    H.if-else {n = 13} {e = 10} {a = 12} refl (omega arith) (omega arith) less-1
    (H.next {n = 12} {a = 11} {e = 1} {c = 1} refl (omega arith) (omega arith) (H.first {n = 11} {e = 0} refl (omega arith) (a_4 2)) nine-4)

-- CASE takes two bits for four arms.
case-4 : Has 30 4
unfolding node_at
case-4 =
    H.case {n = 30} {e = 25} {a = 29} {l = 2} refl (omega arith) (omega arith) (H.constant {v = value 2 1} refl (omega arith) (omega arith)) (omega arith)
    (H.next {n = 29} {a = 28} {e = 1} {c = 3} refl (omega arith) (omega arith)
    (H.next {n = 28} {a = 27} {e = 0} {c = 2} refl (omega arith) (omega arith)
    (H.next {n = 27} {a = 26} {e = 1} {c = 1} refl (omega arith) (omega arith) (H.first {n = 26} {e = 0} refl (omega arith) (a_4 2)) nine-4) (a_4 2)) nine-4)

-- HEAD may take all of its operand.
head-16 : Has 14 16
unfolding node_at
head-16 = H.substring {n = 14} {a = 4} H.head (refl, omega arith) three-16 (omega arith) (omega arith)

-- ---- Records without a length.

without : (n : ℕ) → length (faults_of (expression_at sample no_places (terminal_below sample no_places 3) 3 n)) ≡ 1 → {l : ℕ} → Has n l → ⊥
without n e {l} h =
    let z = (has-length sample no_places 3 n l).0 h in
    let y : ◌≡◌ {A = ℕ} 0 1 = sym (ap (λ (j : Judged). length (faults_of j)) z.1) ∙ e in
    omega arith

-- 01's own: `4B1 EXT 65` is too long, and HEAD 17 of sixteen bits takes more than there are.
no-ext-65 : {l : ℕ} → Has 15 l → ⊥
unfolding computing
no-ext-65 h = without 15 refl h

no-head-17 : {l : ℕ} → Has 16 l → ⊥
unfolding computing
no-head-17 h = without 16 refl h

-- A[3:2] runs against A[1:4], A[9] has a constant outside, M without a subscript has two dimensions; A[3] is a bit.
no-part-back : {l : ℕ} → Has 17 l → ⊥
unfolding computing
no-part-back h = without 17 refl h

no-bit-9 : {l : ℕ} → Has 19 l → ⊥
unfolding computing
no-bit-9 h = without 19 refl h

no-memory : {l : ℕ} → Has 24 l → ⊥
unfolding computing
no-memory h = without 24 refl h

bit-3 : Has 18 1
unfolding facility_at node_at
bit-3 = H.bit {n = 18} {f = 0} {e = 4} refl (omega arith) refl (a-named 2) three-16 in-a
  where
    in-a : H.Subscript sample (bounds 1 4) 4
    in-a v e = let z : v ≡ value 16 3 = cc in rw z (H.Within.rising (omega arith) (omega arith))

-- Four bits choose among sixteen arms and not two; arms of four and of sixteen bits are not equally long; a part stands before its owner.
no-two-arms : {l : ℕ} → Has 20 l → ⊥
unfolding computing
no-two-arms h = without 20 refl h

no-uneven : {l : ℕ} → Has 22 l → ⊥
unfolding computing
no-uneven h = without 22 refl h

no-later : {l : ℕ} → Has 23 l → ⊥
unfolding computing
no-later h = without 23 refl h

-- A terminal's own expression cannot name the terminal.
no_own : {l : ℕ} → HasLength sample 2 3 l → ⊥
unfolding computing
no_own {l} h =
    let z = (has-length sample no_places 2 3 l).0 h in
    let y : ◌≡◌ {A = ℕ} 0 1 = sym (ap (λ (j : Judged). length (faults_of j)) z.1) in
    omega arith
