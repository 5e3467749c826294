-- The stage of grammar, computed: what 01 leaves out refused at its word, and precedence.
use Rattle.std.specs.Prelude.{Bool, true, false, cond, ◌&&◌, List, [], ◌∷◌, ◌++◌, ◌≡◌, refl, ℕ, ltb, length}
use Rattle.std.proofs.Math.Option.{Option, none, some}
use Prim.Native.String.{String}
use Rattle.language.specs.Computing.{computing}
use Rattle.language.specs.Reading.{read_text}
use Rattle.language.specs.StepExamples.{image_of}
use Rattle.language.specs.Building.{Built, expression_no, joined, list_no, word_no}
use Rattle.language.specs.Machine.{Parsed, choose, feed, finish, parsed, refused, run, tallied, within_ceilings}
use Rattle.language.specs.Ceilings.{deepest, most_counted, most_facilities, most_operations, most_states}
use Rattle.language.specs.declared.refusals.Refusal.TheVariants.{NoContinuation}
use Rattle.language.specs.Scan.{bytes, same}
use Rattle.language.specs.SectionWays.{parse, parse_with, rule_of}
use Rattle.language.specs.WordExamples.{words_open}
use Rattle.language.specs.WordStage.{scan}
use Rattle.language.specs.Words.{Fault, fault, position}

unfoldable pub grammar-open : Unit {0}
unfolding words_open expression_no joined list_no word_no choose deepest feed finish most_counted most_facilities most_operations most_states run tallied within_ceilings parse parse_with rule_of
grammar-open = tt

-- The fault of the stage of grammar, of a text whose words are right.
abbrev pub fault_in : Parsed Built → Option Fault
fault_in (parsed t) = none
fault_in (refused f) = some f

unfoldable pub grammar_fault : String → Option Fault
grammar_fault s = fault_in (parse (scan (bytes s)).words (length (bytes s)))

example : grammar_fault "REGISTER A[4], B[4].\nTERMINAL GO = INPUT(1,GO).\nOPERATION SWAP = [A <- B, B <- A],\n  LOAD = [A = 4D9, B <- (A (+) 4D3) TAIL 4].\nCONTROL P: IF GO THEN SWAP ENDIF/ Q: LOAD, ->P/ .\n" ≡ none
unfolding grammar-open grammar_fault
example = refl

cut-then-sum : grammar_fault "REGISTER A[4],B[4]. OPERATION X=[A <- A HEAD 4 (+) B]. CONTROL X/." ≡ some (fault (position 47) NoContinuation)
unfolding grammar-open grammar_fault
cut-then-sum = refl

-- Precedence (the manual, 5.2), shown by brackets: two actions mean the same where their texts are read and have the same image.
pub record Pair : Type 0 where
  pub left : String
  pub right : String

abbrev with : String → String → Pair
with a b = record { left = a; right = b }

abbrev image_with : String → List ℕ
image_with e = image_of (read_text (bytes "REGISTER A,B,C,D[2],E[3]. OPERATION X=[" ++ (bytes e ++ bytes "]. CONTROL X/.")))

unfoldable pub alike : List Pair → Bool
alike [] = true
alike (x ∷ xs) = ltb 0 (length (image_with x.left)) && (same (image_with x.left) (image_with x.right) && alike xs)

unfoldable pub unlike : List Pair → Bool
unlike [] = true
unlike (x ∷ xs) = ltb 0 (length (image_with x.right)) && cond (same (image_with x.left) (image_with x.right)) false (unlike xs)

binds-so :
    alike
    (with "A<-A+B*C" "A<-A+(B*C)"
    ∷ with "A<-A [+] B*C" "A<-A [+] (B*C)"
    ∷ with "A<-A+B [+] C" "A<-A+(B [+] C)"
    ∷ with "D<- -A CON B" "D<- -(A CON B)"
    ∷ with "D<-A CON B HEAD 1" "D<-A CON (B HEAD 1)"
    ∷ with "A<-A (+) B<C" "A<-(A (+) B)<C"
    ∷ with "E<-A (+) B (-) C" "E<-(A (+) B) (-) C"
    ∷ with "A<-A (-) B HEAD 1" "A<-(A (-) B) HEAD 1"
    ∷ [])
    ≡ true
unfolding computing alike
binds-so = refl

-- Brackets that say otherwise give another image, so that the table could fail.
not-otherwise :
    unlike
    (with "A<-A+B*C" "A<-(A+B)*C"
    ∷ with "A<-A [+] B*C" "A<-(A [+] B)*C"
    ∷ with "A<-A+B [+] C" "A<-(A+B) [+] C"
    ∷ with "D<- -A CON B" "D<-(-A) CON B"
    ∷ with "D<-A CON B HEAD 1" "A<-(A CON B) HEAD 1"
    ∷ with "A<-A (+) B<C" "D<-A (+) (B<C)"
    ∷ with "E<-A (+) B (-) C" "E<-A (+) (B (-) C)"
    ∷ with "A<-A (-) B HEAD 1" "D<-A (-) (B HEAD 1)"
    ∷ [])
    ≡ true
unfolding computing unlike
not-otherwise = refl
