-- The word at the start of a text (the manual, 2.1 to 2.4; 01, "Words": the longest match is taken). What follows it is read by the same rules as a text that starts there.
use Rattle.std.specs.Prelude.{Bool, true, false, cond, ◌||◌, ◌&&◌, List, [], ◌∷◌, map, ℕ, suc, ◌+◌, ◌^◌, eqb, leb, ltb, drop, get_or, length, take}
use Prim.Native.Char.{code}
use Prim.Native.String as Text
use Prim.Native.String.{String}
use Rattle.language.specs.Characters.{blank_class, class_of, digit_class, digit_worth, folded, is_digit, is_letter, letter_class, line_feed, quote, quote_class, symbol_class}
use Rattle.language.specs.Constants.{bare_constant, binary_constant, decimal_constant, digits_number}
use Rattle.language.specs.Kinds.{at_least_sign, at_most_sign, at_sign, call_sign, case_word, close_bracket, close_paren, colon, comma, con_word, control_word, delayed_sign, difference_sign, do_word, dollar, else_word, end_case_word, end_if_word, end_word, equal_sign, exclusive_sign, ext_word, goto_sign, greater_sign, hash, head_word, if_word, input_word, less_sign, level_word, memory_word, minus, open_bracket, open_paren, operation_word, output_word, period, plus, red_word, register_word, return_word, same_sign, semicolon, slash, star, sum_sign, tail_word, terminal_word, then_word, time_word}
use Rattle.language.specs.declared.refusals.Refusal.{Refusal}
use Rattle.language.specs.declared.refusals.Refusal.TheVariants.{BadCharacter, BadConstant, BadName}
use Rattle.language.specs.Value.{Value}
use Rattle.language.specs.Ceilings.{bare_largest, longest, longest_name}
use Rattle.language.specs.Words.{Constant}

-- The bytes of a quoted text.
unfoldable pub bytes : String → List ℕ
bytes Text.[] = []
bytes (Text.◌∷◌ c s) = code c ∷ bytes s

unfoldable pub same : List ℕ → List ℕ → Bool
same [] [] = true
same [] (b ∷ t) = false
same (a ∷ s) [] = false
same (a ∷ s) (b ∷ t) = let more = same s t in eqb a b && more

-- How many bytes at the start pass a test.
unfoldable pub span : (ℕ → Bool) → List ℕ → ℕ
span f [] = 0
span f (b ∷ t) = let more = suc (span f t) in cond (f b) more 0

-- ---- Names and reserved words.

abbrev pub is_name_part : ℕ → Bool
is_name_part b = is_letter b || is_digit b

pub record Reserved : Type 0 where
  pub letters : List ℕ
  pub kind : ℕ

abbrev reserve : String → ℕ → Reserved
unfolding bytes
reserve s k = record { letters = bytes s; kind = k }

-- The alphabetic symbols (the manual, 2.1).
unfoldable pub reserved_words : List Reserved
unfolding bytes
reserved_words =
    reserve "CASE" case_word
    ∷ reserve "DO" do_word
    ∷ reserve "ENDCASE" end_case_word
    ∷ reserve "IF" if_word
    ∷ reserve "THEN" then_word
    ∷ reserve "ELSE" else_word
    ∷ reserve "ENDIF" end_if_word
    ∷ reserve "END" end_word
    ∷ reserve "CON" con_word
    ∷ reserve "RED" red_word
    ∷ reserve "EXT" ext_word
    ∷ reserve "HEAD" head_word
    ∷ reserve "TAIL" tail_word
    ∷ reserve "TIME" time_word
    ∷ reserve "INPUT" input_word
    ∷ reserve "OUTPUT" output_word
    ∷ reserve "LEVEL" level_word
    ∷ reserve "RETURN" return_word
    ∷ reserve "REGISTER" register_word
    ∷ reserve "MEMORY" memory_word
    ∷ reserve "TERMINAL" terminal_word
    ∷ reserve "OPERATION" operation_word
    ∷ reserve "CONTROL" control_word
    ∷ []

-- The kind of the reserved word that the letters are, and 0 where they are a name.
unfoldable pub reserved_among : List Reserved → List ℕ → ℕ
reserved_among [] s = 0
reserved_among (r ∷ rs) s = let other = reserved_among rs s in cond (same s r.letters) r.kind other

abbrev pub reserved_kind : List ℕ → ℕ
reserved_kind s = reserved_among reserved_words s

-- ---- What stands at the start of a text.

pub data Item : Type 0 where
  -- blanks and comments
  gap : Item
  named : List ℕ → Item
  constant : Constant → Item
  sign : ℕ → Item
  -- what is refused
  wrong : Refusal → Item

-- An item and how many bytes it takes.
pub record Found : Type 0 where
  pub item : Item
  pub size : ℕ

abbrev pub found : Item → ℕ → Found
found i n = record { item = i; size = n }

abbrev pub name_item : List ℕ → Item
name_item s =
    cond (eqb (reserved_kind s) 0)
    (cond (leb (length s) longest_name) (named s) (wrong BadName))
    (sign (reserved_kind s))

unfoldable pub name_at : List ℕ → Found
name_at s = let n = span is_name_part s in found (name_item (map folded (take n s))) n

-- ---- Constants (the manual, 2.3).

-- Bits of a digit after the letter of a base, B Q @ H; 0 where it is none.
unfoldable pub digit_bits : ℕ → ℕ
digit_bits b =
    cond (eqb (folded b) 66) 1
    (cond (eqb (folded b) 81) 2
    (cond (eqb b 64) 3
    (cond (eqb (folded b) 72) 4 0)))

abbrev pub is_decimal_base : ℕ → Bool
is_decimal_base b = eqb (folded b) 68

-- A digit of a base.
abbrev pub is_digit_of : ℕ → ℕ → Bool
is_digit_of base b = ltb (digit_worth b) base

unfoldable pub digits_of : ℕ → List ℕ → List ℕ
digits_of base s = map digit_worth (take (span (is_digit_of base) s) s)

-- The length given, in 1 to 256, and at least one digit.
abbrev pub based_item : ℕ → List ℕ → Constant → Item
based_item l ds c = cond (ltb 0 (length ds)) (cond (ltb 0 l) (cond (leb l longest) (constant c) (wrong BadConstant)) (wrong BadConstant)) (wrong BadConstant)

abbrev pub based : ℕ → List ℕ → Constant → ℕ → Found
based l ds c start = found (based_item l ds c) (start + length ds)

abbrev pub written : Bool → Value → Constant
written b v = record { bare = b; value = v }

-- n digits and the base's letter have been read, with a length of l; s is the text after them.
unfoldable pub binary_at : ℕ → ℕ → ℕ → List ℕ → Found
binary_at k l n s =
    cond (eqb (get_or s 0 0) 46)
    (let ds = digits_of (2 ^ k) (drop 1 s) in based l ds (written false (binary_constant k true l ds)) (n + 2))
    (let ds = digits_of (2 ^ k) s in based l ds (written false (binary_constant k false l ds)) (n + 1))

unfoldable pub decimal_at : ℕ → ℕ → List ℕ → Found
decimal_at l n s = let ds = digits_of 10 s in based l ds (written false (decimal_constant l ds)) (n + 1)

unfoldable pub bare_at : List ℕ → Found
bare_at ds = found (cond (leb (digits_number 10 ds) bare_largest) (constant (written true (bare_constant ds))) (wrong BadConstant)) (length ds)

-- A constant starts at a digit; a base's letter right after its decimal digits makes them its length.
unfoldable pub constant_at : List ℕ → Found
constant_at s =
    let ds = digits_of 10 s in
    let n = length ds in
    let l = digits_number 10 ds in
    let b = get_or s n 0 in
    cond (ltb 0 (digit_bits b)) (binary_at (digit_bits b) l n (drop (suc n) s))
    (cond (is_decimal_base b) (decimal_at l n (drop (suc n) s)) (bare_at ds))

-- ---- Symbols.

pub record Spelled : Type 0 where
  pub spelling : List ℕ
  pub kind : ℕ

abbrev spell : String → ℕ → Spelled
unfolding bytes
spell s k = record { spelling = bytes s; kind = k }

-- Longer ones first, so that the longest match is taken.
unfoldable pub spelled_symbols : List Spelled
unfolding bytes
spelled_symbols =
    spell "[+]" exclusive_sign
    ∷ spell "(+)" sum_sign
    ∷ spell "(-)" difference_sign
    ∷ spell "(=)" same_sign
    ∷ spell ">=" at_least_sign
    ∷ spell "<=" at_most_sign
    ∷ spell "->" goto_sign
    ∷ spell "=>" call_sign
    ∷ spell "<-" delayed_sign
    ∷ spell "_" delayed_sign
    ∷ spell "#" hash
    ∷ spell "$" dollar
    ∷ spell "(" open_paren
    ∷ spell ")" close_paren
    ∷ spell "*" star
    ∷ spell "+" plus
    ∷ spell "," comma
    ∷ spell "-" minus
    ∷ spell "." period
    ∷ spell "/" slash
    ∷ spell ":" colon
    ∷ spell ";" semicolon
    ∷ spell "<" less_sign
    ∷ spell "=" equal_sign
    ∷ spell ">" greater_sign
    ∷ spell "@" at_sign
    ∷ spell "[" open_bracket
    ∷ spell "]" close_bracket
    ∷ []

-- The first of the symbols with which s begins.
unfoldable pub symbol_among : List Spelled → List ℕ → Found
symbol_among [] s = found (wrong BadCharacter) 1
symbol_among (x ∷ xs) s =
    let other = symbol_among xs s in
    cond (same x.spelling (take (length x.spelling) s)) (found (sign x.kind) (length x.spelling)) other

abbrev pub symbol_at : List ℕ → Found
symbol_at s = symbol_among spelled_symbols s

-- ---- Comments end with the next quote or with the line (the manual, 2.4). s is what follows the first quote.

abbrev pub in_comment : ℕ → Bool
in_comment b = cond (eqb b quote) false (cond (eqb b line_feed) false true)

unfoldable pub comment_at : List ℕ → Found
comment_at s = let n = span in_comment s in found gap (cond (eqb (get_or s n 0) quote) (n + 2) (n + 1))

-- The item at the start of the text b s.
unfoldable pub item_at : ℕ → List ℕ → Found
item_at b s =
    let c = class_of b in
    cond (eqb c letter_class) (name_at (b ∷ s))
    (cond (eqb c digit_class) (constant_at (b ∷ s))
    (cond (eqb c blank_class) (found gap 1)
    (cond (eqb c quote_class) (comment_at s)
    (cond (eqb c symbol_class) (symbol_at (b ∷ s)) (found (wrong BadCharacter) 1)))))
