-- The operators by the kinds of their words: which there are, how long a result is, and what it is. A length of 0 stands for a broken rule (01, "Lengths").
use Rattle.std.specs.Prelude.{Bool, cond, ◌||◌, List, [], ◌∷◌, ℕ, eqb}
use Rattle.language.specs.Kinds.{at_least_sign, at_most_sign, con_word, difference_sign, exclusive_sign, ext_word, greater_sign, hash, head_word, less_sign, minus, plus, same_sign, star, sum_sign, tail_word}
use Rattle.language.specs.Value.{Made, Value, and_reduction, at_least, at_most, complement, complement_length, conjunction, count_length, cut_length, difference, difference_length, disjunction, equal, exclusive, exclusive_reduction, extended, greater, head, join, join_length, less, logical_length, negation, negation_length, none, or_reduction, reduction_length, relation_length, repeat_length, sum, sum_length, sum_reduction, tail, unequal}

-- ---- The operators of which a level has several (the manual, Appendix B).

abbrev pub sums : List ℕ
sums = sum_sign ∷ difference_sign ∷ []

abbrev pub is_arithmetic : ℕ → Bool
is_arithmetic k = eqb k sum_sign || eqb k difference_sign

abbrev pub relations : List ℕ
relations = same_sign ∷ hash ∷ less_sign ∷ greater_sign ∷ at_most_sign ∷ at_least_sign ∷ []

abbrev pub is_relation : ℕ → Bool
is_relation k = eqb k same_sign || eqb k hash || eqb k less_sign || eqb k greater_sign || eqb k at_most_sign || eqb k at_least_sign

abbrev pub cuts : List ℕ
cuts = head_word ∷ tail_word ∷ ext_word ∷ []

abbrev pub is_cut : ℕ → Bool
is_cut k = eqb k head_word || eqb k tail_word || eqb k ext_word

-- The signs that stand before RED.
abbrev pub reductions : List ℕ
reductions = plus ∷ star ∷ exclusive_sign ∷ sum_sign ∷ []

abbrev pub is_reduction : ℕ → Bool
is_reduction k = eqb k plus || eqb k star || eqb k exclusive_sign || eqb k sum_sign

-- The operators between two operands, and those before one.
abbrev pub is_binary : ℕ → Bool
is_binary k = is_arithmetic k || eqb k con_word || eqb k plus || eqb k star || eqb k exclusive_sign || is_relation k

abbrev pub is_prefix : ℕ → Bool
is_prefix k = eqb k minus || eqb k difference_sign || is_reduction k

-- ---- Lengths.

-- An operand of m bits on the left, one of n bits on the right.
unfoldable pub binary_length : ℕ → ℕ → ℕ → ℕ
binary_length k m n =
    cond (eqb k sum_sign) (sum_length m n)
    (cond (eqb k difference_sign) (difference_length m n)
    (cond (eqb k con_word) (join_length m n)
    (cond (eqb k plus || eqb k star || eqb k exclusive_sign) (logical_length m n)
    (cond (is_relation k) relation_length 0))))

unfoldable pub prefix_length : ℕ → ℕ → ℕ
prefix_length k m =
    cond (eqb k minus) (complement_length m)
    (cond (eqb k difference_sign) (negation_length m)
    (cond (eqb k sum_sign) count_length
    (cond (eqb k plus || eqb k star || eqb k exclusive_sign) reduction_length 0)))

-- HEAD, TAIL and EXT with a count c.
unfoldable pub cut_length_of : ℕ → ℕ → ℕ → ℕ
cut_length_of k m c =
    cond (eqb k head_word || eqb k tail_word) (cut_length m c)
    (cond (eqb k ext_word) (repeat_length m c) 0)

-- ---- Values.

unfoldable pub binary_of : ℕ → Value → Value → Made
binary_of k x y =
    cond (eqb k sum_sign) (sum x y)
    (cond (eqb k difference_sign) (difference x y)
    (cond (eqb k con_word) (join x y)
    (cond (eqb k plus) (disjunction x y)
    (cond (eqb k star) (conjunction x y)
    (cond (eqb k exclusive_sign) (exclusive x y)
    (cond (eqb k same_sign) (equal x y)
    (cond (eqb k hash) (unequal x y)
    (cond (eqb k less_sign) (less x y)
    (cond (eqb k greater_sign) (greater x y)
    (cond (eqb k at_most_sign) (at_most x y)
    (cond (eqb k at_least_sign) (at_least x y) none)))))))))))

unfoldable pub prefix_of : ℕ → Value → Made
prefix_of k x =
    cond (eqb k minus) (complement x)
    (cond (eqb k difference_sign) (negation x)
    (cond (eqb k plus) (or_reduction x)
    (cond (eqb k star) (and_reduction x)
    (cond (eqb k exclusive_sign) (exclusive_reduction x)
    (cond (eqb k sum_sign) (sum_reduction x) none)))))

unfoldable pub cut_of : ℕ → Value → ℕ → Made
cut_of k x c =
    cond (eqb k head_word) (head x c)
    (cond (eqb k tail_word) (tail x c)
    (cond (eqb k ext_word) (extended x c) none))
