-- HOW LONG A RECORD IS, sentence by sentence after 01, "Lengths", of (-) after 02, ticket 1, and written from them alone: no rule of judging stands behind this relation. LengthsJudged shows that judging agrees with it.
use Rattle.std.specs.Prelude.{true, false, ◌≡◌, ℕ, ◌+◌, ◌-◌, ◌*◌, ◌^◌, ◌≤◌, ◌<◌, max}
use Rattle.language.specs.Description as D
use Rattle.language.specs.Description.{Bounds, Description, facility_at, is_computed, node_at, word_length}
use Rattle.language.specs.Kinds.{at_least_sign, at_most_sign, con_word, difference_sign, exclusive_sign, ext_word, greater_sign, hash, head_word, less_sign, minus, plus, same_sign, star, sum_sign, tail_word}
use Rattle.language.specs.Value.{Value}

-- ---- The numbers of 01, "Lengths".

-- "A value is up to 256 bits."
abbrev pub most_bits : ℕ
most_bits = 256

-- "(+) RED gives the number of one bits, as a 16-bit value."
abbrev pub count_bits : ℕ
count_bits = 16

-- "CASE takes up to 6 bits."
abbrev pub most_case_bits : ℕ
most_case_bits = 6

-- ---- The operators that share a sentence.

-- "relational": (=) # < > <= >=
pub data Relational : ℕ → Type 0 where
  equals : Relational same_sign
  unequal : Relational hash
  less : Relational less_sign
  greater : Relational greater_sign
  at-most : Relational at_most_sign
  at_least : Relational at_least_sign

-- "logical": + * [+], which also stand before RED.
pub data Logical : ℕ → Type 0 where
  either : Logical plus
  each : Logical star
  exclusive : Logical exclusive_sign

-- HEAD and TAIL.
pub data Substring : ℕ → Type 0 where
  head : Substring head_word
  tail : Substring tail_word

-- ---- Bounds and subscripts (01, "References").

-- A number within bounds, which may rise or fall.
pub data Within (b : Bounds) (c : ℕ) : Type 0 where
  rising : b.first ≤ c → c ≤ b.last → Within b c
  falling : b.last ≤ c → c ≤ b.first → Within b c

-- "A constant part X[c:d] in the declared direction", and how many bits it has.
pub data Part (b x : Bounds) : ℕ → Type 0 where
  rising : b.first ≤ x.first → x.first ≤ x.last → x.last ≤ b.last → Part b x (x.last - x.first + 1)
  falling : b.last ≤ x.last → x.last ≤ x.first → x.first ≤ b.first → Part b x (x.first - x.last + 1)

-- "A subscript that is one constant, bracketed or not, must lie within the bounds."
abbrev pub Subscript : Description → Bounds → ℕ → Type 0
Subscript d b e = (v : Value) → node_at d e ≡ D.constant v → Within b v.number

-- ---- Records of operators: the operands' records stand before the operator's.

abbrev pub Binary : Description → ℕ → ℕ → ℕ → ℕ → Type 0
Binary d n k a b = (node_at d n ≡ D.binary k a b) × (a < n) × (b < n)

abbrev pub Prefix : Description → ℕ → ℕ → ℕ → Type 0
Prefix d n k a = (node_at d n ≡ D.prefix k a) × (a < n)

abbrev pub Cut : Description → ℕ → ℕ → ℕ → ℕ → Type 0
Cut d n k a c = (node_at d n ≡ D.cut k a c) × (a < n)

-- ---- What has a length.

pub data Notion : Type 0 where
  -- an expression, by its record
  expression : Notion
  -- so many arms of a conditional, by the record of the last
  arms : ℕ → Notion
  -- a facility that may be named, by its number: the length is that of its words
  facility : Notion

-- `Long d known what n l`: where the first `known` facilities of the description d may be named, number n has l bits.
pub data Long (d : Description) : ℕ → Notion → ℕ → ℕ → Type 0 where
  -- "constant: as section 2.3 of 002": the length given, from 1 to 256.
  constant : {known n : ℕ} {v : Value} → node_at d n ≡ D.constant v → 1 ≤ v.length → v.length ≤ most_bits → Long d known expression n v.length
  -- "(+): max(m, n) + 1 bits, exact"
  sum : {known n a b l m : ℕ} → Binary d n sum_sign a b → Long d known expression a l → Long d known expression b m
      → max l m + 1 ≤ most_bits → Long d known expression n (max l m + 1)
  -- "a difference has max(m, n) + 1 bits" (02, ticket 1)
  difference : {known n a b l m : ℕ} → Binary d n difference_sign a b → Long d known expression a l → Long d known expression b m → max l m + 1 ≤ most_bits
      → Long d known expression n (max l m + 1)
  -- "a prefix (-) has one bit more than its operand" (02, ticket 1)
  negation : {known n a l : ℕ} → Prefix d n difference_sign a → Long d known expression a l → l + 1 ≤ most_bits → Long d known expression n (l + 1)
  -- "relational: unsigned, 1 bit"
  relation : {known n k a b l m : ℕ} → Relational k → Binary d n k a b → Long d known expression a l → Long d known expression b m
      → Long d known expression n 1
  -- "complement: m"
  complement : {known n a l : ℕ} → Prefix d n minus a → Long d known expression a l → Long d known expression n l
  -- "logical: max(m, n), the shorter extended with zeroes on the left"
  logical : {known n k a b l m : ℕ} → Logical k → Binary d n k a b → Long d known expression a l → Long d known expression b m
      → Long d known expression n (max l m)
  -- "CON: m + n"
  joined : {known n a b l m : ℕ} → Binary d n con_word a b → Long d known expression a l → Long d known expression b m
      → l + m ≤ most_bits → Long d known expression n (l + m)
  -- "EXT c: m times c, c at least 1"
  extended : {known n a c l : ℕ} → Cut d n ext_word a c → Long d known expression a l → 1 ≤ c → l * c ≤ most_bits → Long d known expression n (l * c)
  -- "HEAD c, TAIL c: c, where 1 <= c <= m"
  substring : {known n k a c l : ℕ} → Substring k → Cut d n k a c → Long d known expression a l → 1 ≤ c → c ≤ l → Long d known expression n c
  -- "RED: 1 bit"
  reduced : {known n k a l : ℕ} → Logical k → Prefix d n k a → Long d known expression a l → Long d known expression n 1
  -- "but (+) RED gives the number of one bits, as a 16-bit value"
  counted : {known n a l : ℕ} → Prefix d n sum_sign a → Long d known expression a l → Long d known expression n count_bits
  -- "IF takes 1 bit", and has two arms in an expression
  if-else : {known n e a m : ℕ} → node_at d n ≡ D.choice e a 2 → e < n → a < n → Long d known expression e 1
      → Long d known (arms 2) a m → Long d known expression n m
  -- "CASE takes up to 6 bits and exactly 2-to-the-length arms"
  case : {known n e a l m : ℕ} → node_at d n ≡ D.choice e a (2 ^ l) → e < n → a < n → Long d known expression e l → l ≤ most_case_bits
      → Long d known (arms (2 ^ l)) a m → Long d known expression n m
  -- "the arms of a conditional expression are equally long"
  first : {known n e l : ℕ} → node_at d n ≡ D.first_arm e → e < n → Long d known expression e l → Long d known (arms 1) n l
  next : {known n a e c l : ℕ} → node_at d n ≡ D.next_arm a e → a < n → e < n → Long d known (arms c) a l → Long d known expression e l → Long d known (arms (c + 1)) n l
  -- "a whole facility of at most one dimension"
  whole : {known n f l : ℕ} → node_at d n ≡ D.whole f → (facility_at d f).dimensions ≤ 1 → Long d known facility f l
      → l ≤ most_bits → Long d known expression n l
  -- "one bit X[e]"
  bit : {known n f e l m : ℕ} → node_at d n ≡ D.one f e → e < n → (facility_at d f).dimensions ≡ 1 → Long d known facility f l
      → Long d known expression e m → Subscript d (facility_at d f).bits e → Long d known expression n 1
  -- "a constant part X[c:d] in the declared direction"
  part : {known n f l m : ℕ} {x : Bounds} → node_at d n ≡ D.part f x → (facility_at d f).dimensions ≡ 1 → Long d known facility f l
      → Part (facility_at d f).bits x m → m ≤ most_bits → Long d known expression n m
  -- "of two dimensions a word R[e]"
  word : {known n f e l m : ℕ} → node_at d n ≡ D.one f e → e < n → (facility_at d f).dimensions ≡ 2 → Long d known facility f l
      → Long d known expression e m → Subscript d (facility_at d f).words e → l ≤ most_bits → Long d known expression n l
  -- "a bit R[e,e]"
  word-bit : {known n f e g l m o : ℕ} → node_at d n ≡ D.two f e g → e < n → g < n → (facility_at d f).dimensions ≡ 2 → Long d known facility f l
      → Long d known expression e m → Subscript d (facility_at d f).words e
      → Long d known expression g o → Subscript d (facility_at d f).bits g → Long d known expression n 1
  -- "a part R[e,c:d]"
  word-part : {known n f e l m o : ℕ} {x : Bounds} → node_at d n ≡ D.word_part f e x → e < n → (facility_at d f).dimensions ≡ 2 → Long d known facility f l
      → Long d known expression e m → Subscript d (facility_at d f).words e
      → Part (facility_at d f).bits x o → o ≤ most_bits → Long d known expression n o
  -- A facility with a place in the store may be named where it is known.
  stored : {known f : ℕ} → f < known → is_computed (facility_at d f).kind ≡ false → Long d known facility f (word_length (facility_at d f))
  -- "A terminal's expression refers only to terminals declared earlier": a computed terminal may be named where its expression has a length.
  computed : {known f m : ℕ} → f < known → is_computed (facility_at d f).kind ≡ true → Long d f expression (facility_at d f).expression m
      → Long d known facility f (word_length (facility_at d f))

-- The expression at record n has l bits.
abbrev pub HasLength : Description → ℕ → ℕ → ℕ → Type 0
HasLength d known n l = Long d known expression n l

-- "CASE takes up to 6 bits and exactly 2-to-the-length arms", and IF with ELSE one bit and two: the condition at record e, where there are n arms.
pub record Selects (d : Description) (known e n : ℕ) : Type 0 where
  pub bits : ℕ
  pub long : HasLength d known e bits
  pub few : bits ≤ most_case_bits
  pub each-value : n ≡ 2 ^ bits
