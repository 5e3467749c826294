-- Values and operators (01, "Lengths"; the manual, 2.3 and 5.3).
-- A value is a length in bits and a number. Each operator has a rule for the length and a rule for the number, each with its own name.
-- m and n are the operands' lengths, x and y their numbers.
use Rattle.std.specs.Prelude.{Bool, true, false, cond, ℕ, zero, suc, ◌+◌, ◌-◌, ◌*◌, ◌/◌, ◌%◌, ◌^◌, max, eqb, leb, ltb}
use Rattle.std.specs.Int.Bits.{bit_and, bit_or, bit_xor}
use Rattle.std.specs.Int.Count.{ones}
use Rattle.language.specs.Ceilings.{longest}

pub record Value : Type 0 where
  pub length : ℕ
  pub number : ℕ

abbrev pub value : ℕ → ℕ → Value
value l n = record { length = l; number = n }

-- What an operator gives: a value, or none, where a length rule is broken or the length is 0 or above 256.
pub data Made : Type 0 where
  made : Value → Made
  none : Made

-- The low `l` bits of n as a value of l bits.
unfoldable pub fit : ℕ → ℕ → Made
unfolding longest
fit l n = cond (ltb 0 l) (cond (leb l longest) (made (value l (n % 2 ^ l))) none) none

abbrev pub bit : Bool → ℕ
bit true = 1
bit false = 0

-- ---- Lengths (01, "Lengths").

-- A sum is exact: one bit more than the longer operand.
unfoldable pub sum_length : ℕ → ℕ → ℕ
sum_length m n = max m n + 1

-- A difference has "the length of the longer operand plus one" (the manual, 5.3.1; 02, ticket 1).
unfoldable pub difference_length : ℕ → ℕ → ℕ
difference_length m n = max m n + 1

-- As a prefix, (-) has one bit more than its operand (02, ticket 1).
unfoldable pub negation_length : ℕ → ℕ
negation_length m = m + 1

-- A relation is one bit.
unfoldable pub relation_length : ℕ
relation_length = 1

unfoldable pub complement_length : ℕ → ℕ
complement_length m = m

-- AND, OR and exclusive OR: the shorter operand is extended with zeroes on the left.
unfoldable pub logical_length : ℕ → ℕ → ℕ
logical_length m n = max m n

-- CON puts the left operand in front.
unfoldable pub join_length : ℕ → ℕ → ℕ
join_length m n = m + n

-- EXT c writes its operand c times.
unfoldable pub repeat_length : ℕ → ℕ → ℕ
repeat_length m c = m * c

-- HEAD c and TAIL c: c bits, where 1 <= c <= m; 0 stands for a broken rule.
unfoldable pub cut_length : ℕ → ℕ → ℕ
cut_length m c = cond (leb c m) c 0

-- RED gives one bit, but (+) RED the number of one bits as a 16-bit value.
unfoldable pub reduction_length : ℕ
reduction_length = 1

unfoldable pub count_length : ℕ
count_length = 16

-- A part of `count` bits from the bit `from` on lies within m bits.
unfoldable pub part_length : ℕ → ℕ → ℕ → ℕ
part_length m from count = cond (leb (from + count) m) count 0

-- ---- Numbers (the manual, 5.3).

-- x - y as "a two's complement signed binary number" of l bits: x - y, or 2 to the l less y - x.
unfoldable pub difference_number : ℕ → ℕ → ℕ → ℕ
difference_number l x y = x + (2 ^ l - y % 2 ^ l)

-- Every bit of m turned.
unfoldable pub complement_number : ℕ → ℕ → ℕ
complement_number m x = 2 ^ m - 1 - x % 2 ^ m

-- x, of m bits, written c times.
unfoldable pub repeated : ℕ → ℕ → ℕ → ℕ
repeated m x zero = 0
repeated m x (suc c) = repeated m x c * 2 ^ m + x

-- ---- The operators.

unfoldable pub sum : Value → Value → Made
sum x y = fit (sum_length x.length y.length) (x.number + y.number)

unfoldable pub difference : Value → Value → Made
difference x y =
    let l = difference_length x.length y.length in
    fit l (difference_number l x.number y.number)

unfoldable pub negation : Value → Made
negation x = fit (negation_length x.length) (difference_number (negation_length x.length) 0 x.number)

-- A relation: one bit, whether it holds.
unfoldable pub related : Bool → Made
related b = fit relation_length (bit b)

unfoldable pub equal : Value → Value → Made
equal x y = related (eqb x.number y.number)

unfoldable pub unequal : Value → Value → Made
unequal x y = related (cond (eqb x.number y.number) false true)

unfoldable pub less : Value → Value → Made
less x y = related (ltb x.number y.number)

unfoldable pub greater : Value → Value → Made
greater x y = related (ltb y.number x.number)

unfoldable pub at_most : Value → Value → Made
at_most x y = related (leb x.number y.number)

unfoldable pub at_least : Value → Value → Made
at_least x y = related (leb y.number x.number)

unfoldable pub complement : Value → Made
complement x = fit (complement_length x.length) (complement_number x.length x.number)

unfoldable pub conjunction : Value → Value → Made
conjunction x y = fit (logical_length x.length y.length) (bit_and x.number y.number)

unfoldable pub exclusive : Value → Value → Made
exclusive x y = fit (logical_length x.length y.length) (bit_xor x.number y.number)

unfoldable pub disjunction : Value → Value → Made
disjunction x y = fit (logical_length x.length y.length) (bit_or x.number y.number)

unfoldable pub join : Value → Value → Made
join x y = fit (join_length x.length y.length) (x.number * 2 ^ y.length + y.number)

unfoldable pub extended : Value → ℕ → Made
extended x c = fit (repeat_length x.length c) (repeated x.length x.number c)

-- The c bits on the left.
unfoldable pub head : Value → ℕ → Made
head x c = fit (cut_length x.length c) (x.number / 2 ^ (x.length - c))

-- The c bits on the right.
unfoldable pub tail : Value → ℕ → Made
tail x c = fit (cut_length x.length c) x.number

unfoldable pub or_reduction : Value → Made
or_reduction x = fit reduction_length (bit (ltb 0 x.number))

unfoldable pub and_reduction : Value → Made
and_reduction x = fit reduction_length (bit (eqb x.number (2 ^ x.length - 1)))

unfoldable pub exclusive_reduction : Value → Made
exclusive_reduction x = fit reduction_length (ones x.number)

unfoldable pub sum_reduction : Value → Made
sum_reduction x = fit count_length (ones x.number)

-- ---- Parts. Bit 0 is the first, most significant one.

-- `count` bits of x from the bit `from` on.
unfoldable pub part : Value → ℕ → ℕ → Made
unfolding part_length
part x from count = fit (part_length x.length from count) (x.number / 2 ^ (x.length - (from + count)))

-- The number w with the c bits above the lowest `low` ones replaced by v's low bits.
unfoldable pub replaced : ℕ → ℕ → ℕ → ℕ → ℕ
replaced w low c v = (w / 2 ^ (low + c) * 2 ^ c + v % 2 ^ c) * 2 ^ low + w % 2 ^ low
