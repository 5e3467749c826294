-- A kind is an operator where it has a length for operands of one bit.
use mathlib.Core.Bool.{Bool, true, false, cond, ◌||◌}
use mathlib.Core.Path.{◌≡◌, refl}
use Prim.Native.Nat.{ℕ}
use lib.Dec.{eqb, ltb}
use Rattle.language.specs.Kinds.{con_word, difference_sign, exclusive_sign, ext_word, head_word, minus, plus, star, sum_sign, tail_word}
use Rattle.language.specs.Operators.{binary_length, cut_length_of, is_binary, is_cut, is_prefix, is_relation, prefix_length}
use Rattle.language.specs.Value.{complement_length, count_length, cut_length, difference_length, join_length, logical_length, negation_length, reduction_length, relation_length, repeat_length, sum_length}

pub binary-known : (k : ℕ) → ltb 0 (binary_length k 1 1) ≡ is_binary k
unfolding binary_length sum_length difference_length join_length logical_length relation_length
binary-known k = by_tests (eqb k sum_sign) (eqb k difference_sign) (eqb k con_word) (eqb k plus) (eqb k star) (eqb k exclusive_sign) (is_relation k)
  where
    by_tests : (a b c d e f g : Bool)
        → ltb 0 (cond a (sum_length 1 1) (cond b (difference_length 1 1) (cond c (join_length 1 1) (cond (d || e || f) (logical_length 1 1) (cond g relation_length 0))))) ≡ (a || b) || c || d || e || f || g
    by_tests true b c d e f g = refl
    by_tests false true c d e f g = refl
    by_tests false false true d e f g = refl
    by_tests false false false true e f g = refl
    by_tests false false false false true f g = refl
    by_tests false false false false false true g = refl
    by_tests false false false false false false true = refl
    by_tests false false false false false false false = refl

pub prefix-known : (k : ℕ) → ltb 0 (prefix_length k 1) ≡ is_prefix k
unfolding prefix_length complement_length negation_length count_length reduction_length
prefix-known k = by_tests (eqb k minus) (eqb k difference_sign) (eqb k plus) (eqb k star) (eqb k exclusive_sign) (eqb k sum_sign)
  where
    by_tests : (a b c d e f : Bool) → ltb 0 (cond a (complement_length 1) (cond b (negation_length 1) (cond f count_length (cond (c || d || e) reduction_length 0)))) ≡ a || b || (c || d || e || f)
    by_tests true b c d e f = refl
    by_tests false true c d e f = refl
    by_tests false false true d e true = refl
    by_tests false false true d e false = refl
    by_tests false false false true e true = refl
    by_tests false false false true e false = refl
    by_tests false false false false true true = refl
    by_tests false false false false true false = refl
    by_tests false false false false false true = refl
    by_tests false false false false false false = refl

pub cut-known : (k : ℕ) → ltb 0 (cut_length_of k 1 1) ≡ is_cut k
unfolding cut_length_of cut_length repeat_length
cut-known k = by_tests (eqb k head_word) (eqb k tail_word) (eqb k ext_word)
  where
    by_tests : (a b c : Bool) → ltb 0 (cond (a || b) 1 (cond c 1 0)) ≡ a || b || c
    by_tests true b c = refl
    by_tests false true c = refl
    by_tests false false true = refl
    by_tests false false false = refl
