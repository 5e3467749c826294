-- Worked examples of precedence, of nesting and of counting.
use Rattle.std.specs.Prelude.{List, [], ◌∷◌, ◌++◌, ◌≡◌, refl, ℕ, zero, suc, leb, length}
use Rattle.std.proofs.Math.Option.{Option, none, some}
use Rattle.language.specs.Building.{Built, nothing_built}
use Rattle.language.specs.Declaring.{tree_steps}
use Rattle.language.specs.GrammarExamples.{fault_in, grammar-open}
use Rattle.language.specs.Kinds.{a_constant, a_name, con_word, difference_sign, exclusive_sign, head_word, minus, plus, star, sum_sign, tail_word}
use Rattle.language.specs.Machine.{Parsed, parsed, refused}
use Rattle.language.specs.declared.refusals.Refusal.{Refusal}
use Rattle.language.specs.declared.refusals.Refusal.TheVariants.{CeilingPassed, NoContinuation}
use Rattle.language.specs.Scan.{bytes}
use Rattle.language.specs.SectionWays.{parse, parse_with}
use Rattle.language.specs.Tree as T
use Rattle.language.specs.Tree.{Actions, Expression, Operation}
use Rattle.language.specs.WordStage.{scan}
use Rattle.language.specs.Words.{Fault, fault, position}
use Rattle.about_grammar.specs.Examples.{fault_of}

abbrev Refused : Refusal → List ℕ → List ℕ → Type 0
Refused r a b = fault_of (a ++ b) ≡ some (fault (position (length a)) r)

-- ---- Precedence. Of an expression, its operands (1 a name, 2 a constant) and the kinds of its operators behind them.

unfoldable postfix : Expression → List ℕ
postfix (T.constant c p) = a_constant ∷ []
postfix (T.whole n p) = a_name ∷ []
postfix (T.one n p e) = a_name ∷ []
postfix (T.part n p x) = a_name ∷ []
postfix (T.two n p e f) = a_name ∷ []
postfix (T.word_part n p e x) = a_name ∷ []
postfix (T.binary k p e f) = postfix e ++ (postfix f ++ k ∷ [])
postfix (T.prefix k p e) = postfix e ++ k ∷ []
postfix (T.cut k p e c) = postfix e ++ k ∷ []
postfix (T.choice p e f) = []
postfix (T.first_arm e) = []
postfix (T.next_arm e f) = []

abbrev stored : Actions → List ℕ
stored T.done = []
stored (T.store k p l e a) = postfix e
stored (T.set p e a) = []
stored (T.perform n p a) = []
stored (T.goto n p a) = []
stored (T.call n p a) = []
stored (T.return p a) = []
stored (T.when p e l a) = []
stored (T.choose p e l a) = []
stored (T.arm l a) = []

abbrev stored_first : List Operation → List ℕ
stored_first [] = []
stored_first (o ∷ os) = stored o.body

abbrev stored_in : Parsed Built → List ℕ
stored_in (parsed b) = stored_first b.text.operations
stored_in (refused f) = []

abbrev opening : List ℕ
opening = bytes "REGISTER A. OPERATION X=[A <- "

abbrev ending : List ℕ
ending = bytes "]. CONTROL X/."

unfoldable shape_of : List ℕ → List ℕ
shape_of s = stored_in (parse (scan (opening ++ (s ++ ending))).words 0)

sum-then-tail : shape_of (bytes "ADDR(+)1 TAIL 8") ≡ a_name ∷ a_constant ∷ sum_sign ∷ tail_word ∷ []
unfolding grammar-open shape_of postfix
sum-then-tail = refl

complement-of-chain : shape_of (bytes "-A CON B") ≡ a_name ∷ a_name ∷ con_word ∷ minus ∷ []
unfolding grammar-open shape_of postfix
complement-of-chain = refl

levels : shape_of (bytes "A + B [+] C * -D CON E HEAD 2 + F") ≡ a_name ∷ a_name ∷ a_name ∷ a_name ∷ a_name ∷ head_word ∷ con_word ∷ minus ∷ star ∷ exclusive_sign ∷ plus ∷ a_name ∷ plus ∷ []
unfolding grammar-open shape_of postfix
levels = refl

left-to-right : shape_of (bytes "(-)A (-) B (+) C") ≡ a_name ∷ difference_sign ∷ a_name ∷ difference_sign ∷ a_name ∷ sum_sign ∷ []
unfolding grammar-open shape_of postfix
left-to-right = refl

reduction-of-cut : shape_of (bytes "+ RED A TAIL 3 CON B") ≡ a_name ∷ tail_word ∷ plus ∷ a_name ∷ con_word ∷ []
unfolding grammar-open shape_of postfix
reduction-of-cut = refl

complement-in-chain : Refused NoContinuation (opening ++ bytes "A CON ") (bytes "-B" ++ ending)
unfolding grammar-open fault_of
complement-in-chain = refl

sum-behind-cut : Refused NoContinuation (opening ++ bytes "A HEAD 4 ") (bytes "(+) B" ++ ending)
unfolding grammar-open fault_of
sum-behind-cut = refl

relation-behind-cut : Refused NoContinuation (opening ++ bytes "A HEAD 4 ") (bytes "< B" ++ ending)
unfolding grammar-open fault_of
relation-behind-cut = refl

two-relations : Refused NoContinuation (opening ++ bytes "A < B ") (bytes "< C" ++ ending)
unfolding grammar-open fault_of
two-relations = refl

-- ---- Nesting: an operation's bracket and 22 more leave room for one, 23 more for none.

unfoldable pub times : ℕ → List ℕ → List ℕ
times zero s = []
times (suc n) s = s ++ times n s

abbrev deep : List ℕ
deep = opening ++ times 22 (bytes "(")

abbrev shut : List ℕ
shut = times 22 (bytes ")") ++ ending

deepest-parens : fault_of (deep ++ (bytes "(A)" ++ shut)) ≡ none
unfolding grammar-open fault_of times
deepest-parens = refl

deepest-subscript : fault_of (deep ++ (bytes "A[1]" ++ shut)) ≡ none
unfolding grammar-open fault_of times
deepest-subscript = refl

deepest-if : fault_of (deep ++ (bytes "IF A THEN B ELSE C ENDIF" ++ shut)) ≡ none
unfolding grammar-open fault_of times
deepest-if = refl

deepest-complement : fault_of (deep ++ (bytes "-A" ++ shut)) ≡ none
unfolding grammar-open fault_of times
deepest-complement = refl

deepest-case : fault_of (deep ++ (bytes "CASE A DO B DO C ENDCASE" ++ shut)) ≡ none
unfolding grammar-open fault_of times
deepest-case = refl

deepest-negation : fault_of (deep ++ (bytes "(-)A" ++ shut)) ≡ none
unfolding grammar-open fault_of times
deepest-negation = refl

deepest-reduction : fault_of (deep ++ (bytes "+ RED A" ++ shut)) ≡ none
unfolding grammar-open fault_of times
deepest-reduction = refl

deepest-actions : fault_of (bytes "REGISTER A. CONTROL " ++ (times 24 (bytes "IF A THEN ") ++ (bytes "X" ++ (times 24 (bytes " ENDIF") ++ bytes "/.")))) ≡ none
unfolding grammar-open fault_of times
deepest-actions = refl

too-deep-parens : Refused CeilingPassed (deep ++ bytes "(") (bytes "(A))" ++ shut)
unfolding grammar-open fault_of times
too-deep-parens = refl

too-deep-subscript : Refused CeilingPassed (deep ++ bytes "(A") (bytes "[1])" ++ shut)
unfolding grammar-open fault_of times
too-deep-subscript = refl

too-deep-if : Refused CeilingPassed (deep ++ bytes "(") (bytes "IF A THEN B ELSE C ENDIF)" ++ shut)
unfolding grammar-open fault_of times
too-deep-if = refl

too-deep-case : Refused CeilingPassed (deep ++ bytes "(") (bytes "CASE A DO B DO C ENDCASE)" ++ shut)
unfolding grammar-open fault_of times
too-deep-case = refl

too-deep-complement : Refused CeilingPassed (deep ++ bytes "(") (bytes "-A)" ++ shut)
unfolding grammar-open fault_of times
too-deep-complement = refl

too-deep-negation : Refused CeilingPassed (deep ++ bytes "(") (bytes "(-)A)" ++ shut)
unfolding grammar-open fault_of times
too-deep-negation = refl

too-deep-reduction : Refused CeilingPassed (deep ++ bytes "(") (bytes "+ RED A)" ++ shut)
unfolding grammar-open fault_of times
too-deep-reduction = refl

-- A complement's operand ends before the next operator, and makes room again.
room-again : fault_of (deep ++ (bytes "-A*-B" ++ shut)) ≡ none
unfolding grammar-open fault_of times
room-again = refl

-- Of conditionals in a state, the 25th.
too-deep-action : Refused CeilingPassed (bytes "REGISTER A. CONTROL " ++ times 24 (bytes "IF A THEN ")) (bytes "IF A THEN X ENDIF/.")
unfolding grammar-open fault_of times
too-deep-action = refl

-- A word that cannot stand is 3, also where it would nest too deep.
three-before-ten : Refused NoContinuation (deep ++ bytes "(A ") (bytes "(A))" ++ shut)
unfolding grammar-open fault_of times
three-before-ten = refl

-- ---- Counting, with a ceiling of two counted words.

unfoldable at_most_two : List ℕ → Option Fault
at_most_two s = fault_in (parse_with tree_steps (λ c. leb c.counted 2) nothing_built (scan s).words (length s))

abbrev Third : List ℕ → List ℕ → Type 0
Third a b = at_most_two (a ++ b) ≡ some (fault (position (length a)) CeilingPassed)

counted-name : Third (bytes "REGISTER A. CONTROL X, Y, ") (bytes "Z/.")
unfolding grammar-open at_most_two
counted-name = refl

-- A name that is set counts at its sign, a label not at all.
set-counts-at-sign : Third (bytes "REGISTER A. CONTROL X, Y, Z ") (bytes "@/.")
unfolding grammar-open at_most_two
set-counts-at-sign = refl

label-counts-not : Third (bytes "REGISTER A. CONTROL X, Y/ Z: ") (bytes "W/.")
unfolding grammar-open at_most_two
label-counts-not = refl

-- Counted before the word that follows it is looked at, which cannot stand.
counted-before-fault : Third (bytes "REGISTER A. CONTROL X, Y, ") (bytes "Z THEN")
unfolding grammar-open at_most_two
counted-before-fault = refl

-- A constant in brackets counts at its word, a part's not.
counted-subscript : Third (bytes "REGISTER A. OPERATION X = [A <- B[") (bytes "1]]. CONTROL X/.")
unfolding grammar-open at_most_two
counted-subscript = refl

part-counts-not : at_most_two (bytes "REGISTER A. OPERATION X = [A <- B[1:0]]. CONTROL /.") ≡ none
unfolding grammar-open at_most_two
part-counts-not = refl
