-- HOW WORDS ARE SPELLED (the manual, 2.1 to 2.3; 01, "Words"), as the papers list them: no scanner stands behind this. LongestMatch shows that scanning takes the longest of them.
use Rattle.std.specs.Prelude.{List, [], ◌∷◌, ◌++◌, ◌≡◌, ℕ, ◌+◌, ◌-◌, ◌≤◌, ◌<◌, length}
use Prim.Native.Char.{code}
use Prim.Native.String.{String}
use Rattle.language.specs.Scan.{bytes}

-- Every byte of a list.
pub data All (P : ℕ → Type 0) : List ℕ → Type 0 where
  none : All P []
  more : {b : ℕ} {s : List ℕ} → P b → All P s → All P (b ∷ s)

-- ---- Letters and digits (2.1).

-- "letter ::= A|B|C| … |Z|a|b|c| … |z"
pub data Letter (b : ℕ) : Type 0 where
  capital : code "A" ≤ b → b ≤ code "Z" → Letter b
  small : code "a" ≤ b → b ≤ code "z" → Letter b

-- "digit ::= 0|1|2|3|4|5|6|7|8|9", and in base 16 also A to F in either case: the digits worth less than the base.
pub data DigitOf (base b : ℕ) : Type 0 where
  numeral : code "0" ≤ b → b ≤ code "9" → b - code "0" < base → DigitOf base b
  capital : code "A" ≤ b → b ≤ code "F" → b - code "A" + 10 < base → DigitOf base b
  small : code "a" ≤ b → b ≤ code "f" → b - code "a" + 10 < base → DigitOf base b

-- A digit of base 10.
abbrev pub Decimal : ℕ → Type 0
Decimal b = DigitOf 10 b

-- "letter-or-digit ::= letter | digit"
pub data LetterOrDigit (b : ℕ) : Type 0 where
  letter : Letter b → LetterOrDigit b
  digit : Decimal b → LetterOrDigit b

-- ---- Constants (2.3).

-- A digit, and more of them.
pub data Digits (base : ℕ) : List ℕ → Type 0 where
  digits : {b : ℕ} {s : List ℕ} → DigitOf base b → All (DigitOf base) s → Digits base (b ∷ s)

-- The base designators B, Q, @ and H, in either case, after which a period may follow, with their bases.
pub data Designator : ℕ → ℕ → Type 0 where
  binary : Designator (code "B") 2
  binary-small : Designator (code "b") 2
  quartal : Designator (code "Q") 4
  quartal-small : Designator (code "q") 4
  octal : Designator (code "@") 8
  hexadecimal : Designator (code "H") 16
  hexadecimal-small : Designator (code "h") 16

-- The base designator D, in either case: "decimal constants may not be left-justified".
pub data DecimalDesignator : ℕ → Type 0 where
  decimal : DecimalDesignator (code "D")
  decimal-small : DecimalDesignator (code "d")

-- "constant ::= …": bare, or a length, a designator and digits of its base.
pub data IsConstant : List ℕ → Type 0 where
  bare : {s : List ℕ} → Digits 10 s → IsConstant s
  based : {l s : List ℕ} {c base : ℕ} → Digits 10 l → Designator c base → Digits base s → IsConstant (l ++ c ∷ s)
  -- with the period that left-justifies it
  justified : {l s : List ℕ} {c base : ℕ} → Digits 10 l → Designator c base → Digits base s → IsConstant (l ++ c ∷ code "." ∷ s)
  decimal : {l s : List ℕ} {c : ℕ} → Digits 10 l → DecimalDesignator c → Digits 10 s → IsConstant (l ++ c ∷ s)

-- ---- Symbols (2.1, save code 136 octal).

-- Those of one character, then those of several.
abbrev pub symbols : List String
symbols =
    "#" ∷ "$" ∷ "(" ∷ ")" ∷ "*" ∷ "+" ∷ "," ∷ "-" ∷ "." ∷ "/" ∷ ":" ∷ ";" ∷ "<" ∷ "=" ∷ ">" ∷ "@" ∷ "[" ∷ "]" ∷ "_"
    ∷ "[+]" ∷ "(+)" ∷ "(-)" ∷ ">=" ∷ "<=" ∷ "(=)" ∷ "->" ∷ "=>" ∷ "<-" ∷ []

-- The bytes of one of some quoted texts.
pub data Listed (s : List ℕ) : List String → Type 0 where
  here : {t : String} {ts : List String} → s ≡ bytes t → Listed s (t ∷ ts)
  later : {t : String} {ts : List String} → Listed s ts → Listed s (t ∷ ts)

-- ---- Words.

pub data IsWord : List ℕ → Type 0 where
  -- A name or a reserved word: "identifier ::= letter { || letter-or-digit }***".
  name : {b : ℕ} {s : List ℕ} → Letter b → All LetterOrDigit s → IsWord (b ∷ s)
  constant : {s : List ℕ} → IsConstant s → IsWord s
  symbol : {s : List ℕ} → Listed s symbols → IsWord s

-- ---- Longest match.

-- A text begins with n bytes of which P holds.
pub record Begins (P : List ℕ → Type 0) (text : List ℕ) (n : ℕ) : Type 0 where
  pub word : List ℕ
  pub rest : List ℕ
  pub begins : text ≡ word ++ rest
  pub size : length word ≡ n
  pub holds : P word

-- "The longest match is taken": a text begins with a word of n bytes, and with no longer one.
pub record Longest (text : List ℕ) (n : ℕ) : Type 0 where
  pub taken : Begins IsWord text n
  pub no_longer : (u v : List ℕ) → text ≡ u ++ v → IsWord u → length u ≤ n
