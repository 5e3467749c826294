-- Small whole descriptions read, opened and run: stops, calls, conditionals, delayed stores, terminals.
use Rattle.std.specs.Prelude.{true, List, [], ◌∷◌, ◌≡◌, refl}
use Rattle.language.specs.Cases.{Case, all_hold, entry, holds}
use Rattle.language.specs.Computing.{computing}

abbrev pub runs : List Case
runs =
    entry "REGISTER A[4],I[3]. OPERATION X=[A[I]<-1B1]. CONTROL P: X,->P/." ("" ∷ []) "stop 1\n"
    ∷ entry "REGISTER A. CONTROL P: ->P,->P/." ("" ∷ []) "stop 2\n"
    ∷ entry "REGISTER #Q[2]. OPERATION X=[Q<-2B11]. CONTROL P(0): X/ R(1): ->P/." ("" ∷ []) "stop 3\n"
    ∷ entry "REGISTER A. CONTROL P: RETURN/." ("" ∷ []) "stop 4\n"
    ∷ entry "REGISTER A. CONTROL P: / Q: /." ("" ∷ "" ∷ []) "1 P A=0\nstop 6\n"
    ∷ entry "REGISTER A[2],I[2]. OPERATION X=[A[I]<-1B1], N=[I<-(I(+)2B1)TAIL 2]. CONTROL P: N/ X,N,->P/." ("" ∷ "" ∷ "" ∷ "" ∷ []) "1 P A=00 I=01\n2 - A=10 I=10\n3 P A=10 I=11\nstop 1\n"
    ∷ entry "REGISTER A. CONTROL P: =>P/ Q: /." ("" ∷ "" ∷ "" ∷ "" ∷ "" ∷ "" ∷ "" ∷ "" ∷ "" ∷ "" ∷ "" ∷ "" ∷ "" ∷ "" ∷ "" ∷ "" ∷ "" ∷ []) "1 P A=0\n2 P A=0\n3 P A=0\n4 P A=0\n5 P A=0\n6 P A=0\n7 P A=0\n8 P A=0\n9 P A=0\n10 P A=0\n11 P A=0\n12 P A=0\n13 P A=0\n14 P A=0\n15 P A=0\n16 P A=0\nstop 5\n"
    ∷ entry "REGISTER A. CONTROL P: =>P,=>P/ Q: /." ("" ∷ []) "stop 2\n"
    ∷ entry "REGISTER A. CONTROL P: RETURN,RETURN/." ("" ∷ []) "stop 2\n"
    ∷ entry "REGISTER A. CONTROL P: =>P/." ("" ∷ []) "stop 6\n"
    ∷ entry "REGISTER A. CONTROL P: RETURN,=>P/ Q: /." ("" ∷ []) "stop 4\n"
    ∷ entry "REGISTER A[2],B[2]. OPERATION I=[A<-2B01,B<-2B10], S=[A<-B,B<-A]. CONTROL P: I/ S,->P/." ("" ∷ "" ∷ []) "1 P A=01 B=10\n2 - A=10 B=01\nend 2\n"
    ∷ entry "REGISTER A[2]. OPERATION X=[A CON A <- 4B0110]. CONTROL P: X,->P/." ("" ∷ []) "1 P A=10\nend 1\n"
    ∷ entry "REGISTER A[2]. OPERATION X=[A<-CASE A DO 2B10 DO 2B11 DO 2B00 DO 2B01 ENDCASE]. CONTROL P: X,->P/." ("" ∷ "" ∷ "" ∷ "" ∷ []) "1 P A=01\n2 P A=10\n3 P A=11\n4 P A=00\nend 4\n"
    ∷ entry "REGISTER #SSR[3:0]. OPERATION GOQ=[SSR<-4D2], GOW=[SSR<-4D0].\nCONTROL P(1): ->S/ Q(2): =>T/ R(3): ->P,=>U/ S(4): GOQ,=>V/ T(5): / U(6): GOW/ V(8): =>X/ W(0): RETURN/ X(7): RETURN,=>W/." ("" ∷ "" ∷ "" ∷ "" ∷ "" ∷ "" ∷ "" ∷ "" ∷ "" ∷ "" ∷ "" ∷ "" ∷ []) "1 P SSR=0100\n2 S SSR=1000\n3 V SSR=0111\n4 X SSR=0000\n5 W SSR=0000\n6 W SSR=0010\n7 Q SSR=0101\n8 T SSR=0110\n9 U SSR=0000\n10 W SSR=0011\n11 R SSR=0110\n12 U SSR=0000\nend 12\n"
    ∷ entry "MEMORY A,B,R. TERMINAL T=R,Y. OPERATION E=[R=1B1,A=T,R=1B0,B=T,Y@]. CONTROL P: E/ ->P/." ("" ∷ "" ∷ []) "1 P A=1 B=0 R=0 Y=1\n2 - A=1 B=0 R=0 Y=0\nend 2\n"
    ∷ entry "REGISTER I[2],A[4],B,C[2]. MEMORY M[0:3,4].\nOPERATION W=[M[1]=4B1010,I=2D1], R=[A<-M[I],B<-M[I,3],C<-M[1,1:2]].\nCONTROL P: W/ Q: R,->P/." ("" ∷ "" ∷ []) "1 P I=01 A=0000 B=0 C=00\n2 Q I=01 A=1010 B=1 C=10\nend 2\n"
    ∷ entry "REGISTER A[3:0],B[2],C. OPERATION X=[A=4B1000,B=A[3:2],C=A[3]]. CONTROL P: X,->P/." ("" ∷ []) "1 P A=1000 B=10 C=1\nend 1\n"
    ∷ entry "REGISTER A[2]. TERMINAL G=INPUT(1,G).\nOPERATION X=[IF G THEN A<-2B01 ELSE A<-2B10 ENDIF], Y=[A<-IF G THEN 2B11 ELSE 2B00 ENDIF].\nCONTROL P: X/ Q: Y,->P/." ("1" ∷ "0" ∷ "0" ∷ "1" ∷ []) "1 P A=01 G=1\n2 Q A=00 G=0\n3 P A=10 G=0\n4 Q A=11 G=1\nend 4\n"
    ∷ entry "TERMINAL Y,Z[2]. CONTROL P: Y@/ Q: Z[2]@,->P/." ("" ∷ "" ∷ []) "1 P Y=1 Z=00\n2 Q Y=0 Z=01\nend 2\n"
    ∷ entry "REGISTER A[9]. TERMINAL T[9]=INPUT(1,T). OPERATION X=[A<-T]. CONTROL P: X,->P/." ("101010101" ∷ "010000001" ∷ "10101010" ∷ []) "1 P A=101010101 T=101010101\n2 P A=010000001 T=010000001\nrefused 15\n"
    ∷ entry "REGISTER A[6]. TERMINAL T[2]=INPUT(1,T).\nOPERATION X=[A<-(T<2B10)CON(T<=2B10)CON(T>2B10)CON(T>=2B10)CON(T(=)2B10)CON(T#2B10)].\nCONTROL P: X,->P/." ("01" ∷ "10" ∷ "11" ∷ []) "1 P A=110001 T=01\n2 P A=010110 T=10\n3 P A=001101 T=11\nend 3\n"
    ∷ []

-- In this order:
-- · S1: a computed subscript outside its bounds
-- · S2: two plain next states, even if equal
-- · S3: a value that no state bears
-- · S4: RETURN with no return held
-- · S6: no next state and no state below
-- · S1 comes when its subscript is met: not while it lies within its bounds
-- · S5: the sixteenth open call runs, the seventeenth does not
-- · S2: two calls
-- · S2 goes before S4: two RETURNs with no return held
-- · S6: a call in the last state, which has no state below to return to
-- · S4: RETURN and a call, with no return held
-- · Delayed stores take the values standing when executed: SWAP swaps
-- · The right one of two references lands later
-- · CASE: value 0 takes the last arm
-- · Calls nest; RETURN takes its own off before => puts one on (the manual, 8.2.2.4, with a value for V)
-- · Terminals are worked out when read; plain ones are cleared
-- · Of two dimensions a word, a bit and a part of a word
-- · A facility whose bounds fall: its first bit is the highest
-- · IF with ELSE, of actions and of expressions
-- · @ in a state
-- · An input of more than a byte; a line with a bit too few
-- · The six relations, below, at and above
pub runs_so : all_hold runs ≡ true
unfolding computing holds all_hold
runs_so = refl
