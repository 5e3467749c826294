-- The manual's constants and operators (2.3 and 5.3), computed; subtraction as 02 has it.
use Rattle.std.specs.Prelude.{true, false, [], ◌∷◌, ◌≡◌, refl, ◌-◌, ◌^◌}
use Rattle.language.specs.Value.{value, made, none, fit, sum, sum_length, difference, difference_length, difference_number, negation, negation_length, equal, unequal, greater, at_least, related, relation_length, complement, complement_length, complement_number, conjunction, exclusive, disjunction, logical_length, join, join_length, extended, repeat_length, repeated, head, tail, cut_length, or_reduction, and_reduction, exclusive_reduction, sum_reduction, reduction_length, count_length, part, replaced}
use Rattle.language.specs.Ceilings.{longest}
use Rattle.language.specs.Constants.{binary_constant, decimal_constant, bare_constant, bare_length, digits_after, right_justified, left_justified}
use Rattle.std.specs.Int.Count.{ones, ones_in}

-- 6D22 = 010110
decimal-22 : decimal_constant 6 (2 ∷ 2 ∷ []) ≡ value 6 22
unfolding decimal_constant digits_after right_justified
decimal-22 = refl

-- 8B101 = 00000101, 8B.101 = 10100000, 2B101 = 01, 2B.101 = 10
extended-left : binary_constant 1 false 8 (1 ∷ 0 ∷ 1 ∷ []) ≡ value 8 0b00000101
unfolding binary_constant digits_after right_justified
extended-left = refl

padded-right : binary_constant 1 true 8 (1 ∷ 0 ∷ 1 ∷ []) ≡ value 8 0b10100000
unfolding binary_constant digits_after left_justified
padded-right = refl

cut_left : binary_constant 1 false 2 (1 ∷ 0 ∷ 1 ∷ []) ≡ value 2 0b01
unfolding binary_constant digits_after right_justified
cut_left = refl

cut_right : binary_constant 1 true 2 (1 ∷ 0 ∷ 1 ∷ []) ≡ value 2 0b10
unfolding binary_constant digits_after left_justified
cut_right = refl

-- 16Q2321 = 0000000010111001, 11@1367 = 01011110111, 6H3C = 111100, 10H.74 = 0111010000
quartal : binary_constant 2 false 16 (2 ∷ 3 ∷ 2 ∷ 1 ∷ []) ≡ value 16 0b0000000010111001
unfolding binary_constant digits_after right_justified
quartal = refl

octal : binary_constant 3 false 11 (1 ∷ 3 ∷ 6 ∷ 7 ∷ []) ≡ value 11 0b01011110111
unfolding binary_constant digits_after right_justified
octal = refl

hexadecimal : binary_constant 4 false 6 (3 ∷ 12 ∷ []) ≡ value 6 0b111100
unfolding binary_constant digits_after right_justified
hexadecimal = refl

hexadecimal-left : binary_constant 4 true 10 (7 ∷ 4 ∷ []) ≡ value 10 0b0111010000
unfolding binary_constant digits_after left_justified
hexadecimal-left = refl

bare : bare_constant (4 ∷ 0 ∷ 9 ∷ 5 ∷ []) ≡ value 16 0b0000111111111111
unfolding bare_constant bare_length decimal_constant digits_after right_justified
bare = refl

-- 1B1 (+) 4B1011 = 5B01100
sum-1 : sum (value 1 0b1) (value 4 0b1011) ≡ made (value 5 0b01100)
unfolding sum sum_length fit longest
sum-1 = refl

sum-too-long : sum (value 256 1) (value 3 1) ≡ none
unfolding sum sum_length fit longest
sum-too-long = refl

-- 3B001 (-) 3B011 = 1110 (02, ticket 1), 1B1 (-) 4B1011 = 10110, 4B1111 (-) 4B1111 = 00000, 3B111 (-) 3B000 = 0111
difference-1 : difference (value 3 0b001) (value 3 0b011) ≡ made (value 4 0b1110)
unfolding difference difference_length difference_number fit longest
difference-1 = refl

difference-longer : difference (value 1 0b1) (value 4 0b1011) ≡ made (value 5 0b10110)
unfolding difference difference_length difference_number fit longest
difference-longer = refl

difference-equal : difference (value 4 0b1111) (value 4 0b1111) ≡ made (value 5 0b00000)
unfolding difference difference_length difference_number fit longest
difference-equal = refl

difference-largest : difference (value 3 0b111) (value 3 0b000) ≡ made (value 4 0b0111)
unfolding difference difference_length difference_number fit longest
difference-largest = refl

-- Both operands are unsigned, also where one is a difference: 4B1110 (-) 3B001 = 01101, 14 less 1.
difference-unsigned : difference (value 4 0b1110) (value 3 0b001) ≡ made (value 5 0b01101)
unfolding difference difference_length difference_number fit longest
difference-unsigned = refl

difference-longest : difference (value 255 0) (value 1 1) ≡ made (value 256 (2 ^ 256 - 1))
unfolding difference difference_length difference_number fit longest
difference-longest = refl

difference-too-long : difference (value 256 0) (value 1 1) ≡ none
unfolding difference difference_length difference_number fit longest
difference-too-long = refl

-- (-) 3B110 = 1010, (-) 3B000 = 0000
negation-1 : negation (value 3 0b110) ≡ made (value 4 0b1010)
unfolding negation negation_length difference_number fit longest
negation-1 = refl

negation-of-zero : negation (value 3 0b000) ≡ made (value 4 0b0000)
unfolding negation negation_length difference_number fit longest
negation-of-zero = refl

negation-too-long : negation (value 256 1) ≡ none
unfolding negation negation_length difference_number fit longest
negation-too-long = refl

-- 2B10 > 16D1 = 1, 10D1 # 1B1 = 0, 8D2 (=) 8D3 = 0, 1B1 >= 2@3 = 0
greater-1 : greater (value 2 2) (value 16 1) ≡ made (value 1 1)
unfolding greater related relation_length fit longest
greater-1 = refl

unequal-1 : unequal (value 10 1) (value 1 1) ≡ made (value 1 0)
unfolding unequal related relation_length fit longest
unequal-1 = refl

equal-1 : equal (value 8 2) (value 8 3) ≡ made (value 1 0)
unfolding equal related relation_length fit longest
equal-1 = refl

at-least-1 : at_least (value 1 1) (value 2 3) ≡ made (value 1 0)
unfolding at_least related relation_length fit longest
at-least-1 = refl

-- 3B101 EXT 3 = 9B101101101, 8B11010110 HEAD 4 = 4B1101, 8B11010110 TAIL 2 = 2B10
extended-1 : extended (value 3 0b101) 3 ≡ made (value 9 0b101101101)
unfolding extended repeat_length repeated fit longest
extended-1 = refl

head-1 : head (value 8 0b11010110) 4 ≡ made (value 4 0b1101)
unfolding head cut_length fit longest
head-1 = refl

tail-1 : tail (value 8 0b11010110) 2 ≡ made (value 2 0b10)
unfolding tail cut_length fit longest
tail-1 = refl

tail-too-long : tail (value 8 0b11010110) 9 ≡ none
unfolding tail cut_length fit longest
tail-too-long = refl

-- 4B1101 CON 6B1 = 10B1101000001
join-1 : join (value 4 0b1101) (value 6 1) ≡ made (value 10 0b1101000001)
unfolding join join_length fit longest
join-1 = refl

-- - 10@1473 = 10B0011000100
complement-1 : complement (value 10 0o1473) ≡ made (value 10 0b0011000100)
unfolding complement complement_length complement_number fit longest
complement-1 = refl

-- 5B10110 * 7B1111111 = 7B0010110, 5B10110 [+] 5B00101 = 5B10011, 5B10110 + 5B00101 = 5B10111
conjunction-1 : conjunction (value 5 0b10110) (value 7 0b1111111) ≡ made (value 7 0b0010110)
unfolding conjunction logical_length fit longest
conjunction-1 = refl

exclusive-1 : exclusive (value 5 0b10110) (value 5 0b00101) ≡ made (value 5 0b10011)
unfolding exclusive logical_length fit longest
exclusive-1 = refl

disjunction-1 : disjunction (value 5 0b10110) (value 5 0b00101) ≡ made (value 5 0b10111)
unfolding disjunction logical_length fit longest
disjunction-1 = refl

-- + RED 5B00010 = 1, * RED 5B11111 = 1, [+] RED 5B00101 = 0, (+) RED 5B11101 = 16D4
or-reduction : or_reduction (value 5 0b00010) ≡ made (value 1 1)
unfolding or_reduction reduction_length fit longest
or-reduction = refl

and-reduction : and_reduction (value 5 0b11111) ≡ made (value 1 1)
unfolding and_reduction reduction_length fit longest
and-reduction = refl

exclusive-reduction : exclusive_reduction (value 5 0b00101) ≡ made (value 1 0)
unfolding exclusive_reduction reduction_length fit longest ones ones_in
exclusive-reduction = refl

sum-reduction : sum_reduction (value 5 0b11101) ≡ made (value 16 4)
unfolding sum_reduction count_length fit longest ones ones_in
sum-reduction = refl

-- Bits 2 to 4 of 8B11010110 are 010; put 3B111 there.
part-1 : part (value 8 0b11010110) 2 3 ≡ made (value 3 0b010)
unfolding part fit longest
part-1 = refl

replaced-1 : replaced 0b11010110 3 3 0b111 ≡ 0b11111110
unfolding replaced
replaced-1 = refl
