-- Worked examples: the manual's machines are accepted, each form that 01 leaves out is refused at its word, precedence is as the grammar has it.
use Rattle.std.specs.Prelude.{List, [], ◌++◌, ◌≡◌, refl, ℕ, length}
use Rattle.std.proofs.Math.Option.{Option, none, some}
use Prim.Native.String.{String}
use Rattle.language.specs.GrammarExamples.{fault_in, grammar-open}
use Rattle.language.specs.declared.refusals.Refusal.{Refusal}
use Rattle.language.specs.declared.refusals.Refusal.TheVariants.{NoContinuation}
use Rattle.language.specs.Scan.{bytes}
use Rattle.language.specs.SectionWays.{parse}
use Rattle.language.specs.WordStage.{scan}
use Rattle.language.specs.Words.{Fault, fault, position}

unfoldable pub fault_of : List ℕ → Option Fault
fault_of s = fault_in (parse (scan s).words (length s))

-- Refused so at the first byte of the second part.
abbrev Refused : Refusal → List ℕ → List ℕ → Type 0
Refused r a b = fault_of (a ++ b) ≡ some (fault (position (length a)) r)

abbrev Accepted : String → Type 0
Accepted s = fault_of (bytes s) ≡ none

-- ---- The manual's machines (9, examples 1 to 3).

blackjack : Accepted "\" B L A C K J A C K \"\nREGISTER SCORE[5], CARDBUF[5], FF.\nTERMINAL HIT, BROKE, STAND,\n VALUE[1:5] = INPUT(1,VALUE),\n YCRD = INPUT(1,YCRD),\n YL17 = SCORE<17, YL22 = SCORE<22,\n NACE = CARDBUF#1.\nOPERATION\nTPT = [CARDBUF <- 5D10],\nTMT = [CARDBUF <- 5D22],\nTVC = [CARDBUF <- VALUE],\nIHIT = [HIT=1B1],\nISTD = [STAND=1B1], IBRK = [BROKE=1B1],\nCLS = [SCORE <- 5D0],\nADD=[SCORE <-(SCORE(+)CARDBUF)TAIL 5],\nKFF = [FF<-1D0], JFF = [FF <- 1D1]\nCONTROL\nA: CLS, KFF, ->B/\nB: IHIT, TVC,\n IF YCRD THEN ->C ELSE ->B ENDIF/\nC: IF YCRD THEN ->C ELSE ->D ENDIF/\nD: ADD, IF NACE+FF THEN ->F\n ELSE ->E ENDIF/\nE: JFF, TPT, ->D/\nF: IF YL17 THEN ->B ELSE ->G ENDIF/\nG: IF YL22 THEN ->K ELSE ->H ENDIF/\nH: KFF, TMT,\n IF FF THEN ->D ELSE ->J ENDIF/\nJ: IBRK,\n IF YCRD THEN ->A ELSE ->J ENDIF/\nK: ISTD,\n IF YCRD THEN ->A ELSE ->K ENDIF/.$\n"
unfolding grammar-open fault_of
blackjack = refl

nested-conditionals : Accepted "\" B L A C K J A C K   M A C H I N E . \"\nREGISTER  SCORE[5], CARDBUF[5], FF.\nTERMINAL  HIT, BROKE, STAND,\n VALUE[1:5] = INPUT(1,VALUE),\n YCRD = INPUT(1,YCRD),\n YL17 = SCORE<17, YL22 = SCORE<22,\n NACE = CARDBUF#1.\nOPERATION\nTPT = [CARDBUF <- 5D10],\nTMT = [CARDBUF <- 5D22],\nTVC = [CARDBUF <- VALUE],\nIHIT = [HIT=1B1],\nISTD = [STAND=1B1], IBRK = [BROKE=1B1],\nCLS = [SCORE <- 5D0],\nADD=[SCORE <-(SCORE(+)CARDBUF)TAIL 5],\nKFF = [FF<-1D0], JFF = [FF <- 1D1 ]\nCONTROL\nA:  CLS, KFF, ->B/\nB:  IHIT, TVC, IF YCRD THEN ->C ELSE ->B ENDIF/\nC:  IF YCRD THEN ->C ELSE ->D ENDIF/\nD:  ADD, IF NACE+FF THEN ->F ELSE ->E ENDIF/\nE:  JFF, TPT, ->D/\nF:  IF YL17 THEN ->B\n ELSE IF YL22 THEN ->JK\n ELSE IF FF THEN ->D ENDIF,\n KFF, TMT\n ENDIF ENDIF/\nJK: IF YL22 THEN ISTD ELSE IBRK ENDIF,\n IF YCRD THEN ->A ELSE ->JK ENDIF/.$\n"
unfolding grammar-open fault_of
nested-conditionals = refl

sequenced : Accepted "\" B L A C K J A C K \"\nREGISTER  SCORE[5], CARDBUF[5], FF, # Q[3:1].\nTERMINAL  HIT, BROKE, STAND, TMP,\n J[3:1], K[3:1],\n VALUE[1:5] = INPUT(1,VALUE),\n YCRD = INPUT(1,YCRD),\n YL17 = SCORE<17, YL22 = SCORE<22,\n NACE = CARDBUF#1.\nOPERATION\n NS = [TMP = YCRD,\n J1= -Q3*(FF+NACE)+-Q2*-Q3,\n K1= Q2*-Q3*-TMP + -Q2*Q3 + Q3*-YL17*YL22,\n Q1<- CASE J1 CON K1 DO 1D0 DO 1D1\n DO -Q1 DO Q1 ENDCASE,\n J2= Q1*Q3*FF + Q1*-Q3*TMP,\n K2= Q1*Q3,\n Q2<- CASE J2 CON K2 DO 1D0 DO 1D1\n DO -Q2 DO Q2 ENDCASE,\n J3= -Q1*Q2,\n K3= J3 + -Q1*TMP + Q2*YL17 + Q1*-Q2*FF,\n Q3<- CASE J3 CON K3 DO 1D0 DO 1D1\n DO -Q3 DO Q3 ENDCASE],\n TPT = [CARDBUF <- 5D10],\n TMT = [CARDBUF <- 5D22],\n TVC = [CARDBUF <- VALUE],\n IHIT = [HIT=1B1],\n ISTD = [STAND=1B1], IBRK = [BROKE=1B1],\n CLS = [SCORE <- 5D0],\n ADD=[SCORE <- (SCORE(+)CARDBUF)TAIL 5],\n KFF = [FF<-1D0], JFF = [FF <- 1D1] .\nCONTROL\nA(0):  CLS, KFF, NS/\nB(1):  IHIT, TVC, NS/\nC(3):  NS/\nD(2):  ADD, NS/\nE(6):  TPT, JFF, NS/\nFG(7): NS/\nH(5):  TMT, KFF, NS/\nJK(4): IF YL22 THEN ISTD ELSE IBRK ENDIF, NS/.$\n"
unfolding grammar-open fault_of
sequenced = refl

-- The fourth has a second CONTROL section, which 01 leaves out.
interpretively-linked : Refused NoContinuation (bytes "REGISTER A[16], B[16], ADDR[8].\nMEMORY MEM[0:255, 16].\nTERMINAL YCLR, YINC, YADD, YREAD,\n NDONE = ADDR # 255,\n START = INPUT (1, START).\nOPERATION CLEAR = [A <- 16D0, ADDR <- 8D0],\n INC = [ADDR <- ADDR(+)8D1 TAIL 8],\n ADD = [A <- A(+)B TAIL 16],\n READ = [B <- MEM[ADDR],\n MEM[ADDR] = 16D0],\n RESTORE = [MEM[ADDR] = B].\nCONTROL\nP1: IF START THEN YCLR @, YREAD @, ->P2\n ELSE ->P1 ENDIF/\nP2: YADD @,\n IF NDONE THEN YINC @, YREAD @, ->P2\n ELSE ->P1 ENDIF/\n") (bytes "CONTROL\nQ1: IF YINC THEN INC ENDIF,\n IF YREAD THEN ->Q2\n ELSE ->Q1, LEVEL ENDIF/\nQ2: READ, ->Q3/\nQ3: RESTORE, LEVEL, ->Q1/.$\n")
unfolding grammar-open fault_of
interpretively-linked = refl

-- The forms that a section, a reference and a list of actions may take.
forms : Accepted "REGISTER V,R[0:7,15:0],ARRAY[10,20] END MEMORY M[0:255,16]. TERMINAL T, S[4] = R[1,7:4] CON M[A][3], W = IF V THEN A ELSE B ENDIF.\nOPERATION X = [V CON R[1] <- M[A][7:0], R[2,V] = 1, T @, R[1,3:0] _ 4D3 EXT 2, CASE V DO X DO V=1,T@ ENDCASE, IF V THEN X ENDIF] CONTROL / T @/ L: M[1] @, =>L, RETURN/ CASE V DO X DO ->L ENDCASE/ END $"
unfolding grammar-open fault_of
forms = refl

-- ---- What 01 leaves out, each refused at its word.

operation-parameter : Refused NoContinuation (bytes "REGISTER A. OPERATION X") (bytes "(N) = [A <- N]. CONTROL X/.")
unfolding grammar-open fault_of
operation-parameter = refl

actual-parameter : Refused NoContinuation (bytes "REGISTER A. OPERATION X = [A <- 1]. CONTROL Q: X") (bytes "(A)/.")
unfolding grammar-open fault_of
actual-parameter = refl

terminal-parameter : Refused NoContinuation (bytes "TERMINAL SUM") (bytes "(A1,A2)[1:16]=A1(+)A2. CONTROL X/.")
unfolding grammar-open fault_of
terminal-parameter = refl

output : Refused NoContinuation (bytes "REGISTER A. OPERATION X = [") (bytes "OUTPUT(1,A)]. CONTROL X/.")
unfolding grammar-open fault_of
output = refl

time : Refused NoContinuation (bytes "REGISTER A. OPERATION X = [A <- 1, ") (bytes "TIME 2]. CONTROL X/.")
unfolding grammar-open fault_of
time = refl

level-action : Refused NoContinuation (bytes "REGISTER A. CONTROL Q: X, ") (bytes "LEVEL/.")
unfolding grammar-open fault_of
level-action = refl

goto-in-operation : Refused NoContinuation (bytes "REGISTER A. OPERATION X = [A <- 1, ") (bytes "->P]. CONTROL X/.")
unfolding grammar-open fault_of
goto-in-operation = refl

store-in-state : Refused NoContinuation (bytes "REGISTER A. CONTROL Q: A ") (bytes "<- 1/.")
unfolding grammar-open fault_of
store-in-state = refl

count-by-name : Refused NoContinuation (bytes "REGISTER A. OPERATION X = [A <- B HEAD ") (bytes "N]. CONTROL X/.")
unfolding grammar-open fault_of
count-by-name = refl

second-control : Refused NoContinuation (bytes "REGISTER A. CONTROL P: ->P/ . ") (bytes "CONTROL Q: ->Q/.")
unfolding grammar-open fault_of
second-control = refl

no-ending : Refused NoContinuation (bytes "REGISTER A. CONTROL P: ->P/ ") []
unfolding grammar-open fault_of
no-ending = refl

part-by-name : Refused NoContinuation (bytes "REGISTER A. OPERATION X = [A <- B[N") (bytes ":1]]. CONTROL X/.")
unfolding grammar-open fault_of
part-by-name = refl

other-input : Refused NoContinuation (bytes "TERMINAL T = INPUT(1,") (bytes "U). CONTROL X/.")
unfolding grammar-open fault_of
other-input = refl

input-in-expression : Refused NoContinuation (bytes "TERMINAL T = A + ") (bytes "INPUT(1,T). CONTROL X/.")
unfolding grammar-open fault_of
input-in-expression = refl

two-dimensions-computed : Refused NoContinuation (bytes "TERMINAL T[2,3] ") (bytes "= A. CONTROL X/.")
unfolding grammar-open fault_of
two-dimensions-computed = refl

one_arm : Refused NoContinuation (bytes "REGISTER A. OPERATION X = [A <- CASE A DO 1 ") (bytes "ENDCASE]. CONTROL X/.")
unfolding grammar-open fault_of
one_arm = refl

three-on-the-left : Refused NoContinuation (bytes "REGISTER A. OPERATION X = [A CON B ") (bytes "CON C <- D]. CONTROL X/.")
unfolding grammar-open fault_of
three-on-the-left = refl
