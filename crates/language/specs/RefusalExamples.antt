-- Refusals with their places (01, "Refusal numbers"), as entries of one table under one statement.
use Rattle.std.specs.Prelude.{Bool, true, false, ◌&&◌, List, [], ◌∷◌, ◌++◌, ◌≡◌, refl, ℕ, eqb, replicate}
use Prim.Native.String.{String}
use Rattle.language.specs.Computing.{computing}
use Rattle.language.specs.Encode.{concat}
use Rattle.language.specs.Reading.{Read, legal, read_text, refused_at}
use Rattle.language.specs.Scan.{bytes}
use Rattle.language.specs.Words.{fault_number}

pub record Case : Type 0 where
  pub number : ℕ
  pub place : ℕ
  pub text : String

abbrev refusal : ℕ → ℕ → String → Case
refusal n p t = record { number = n; place = p; text = t }

abbrev is : ℕ → ℕ → Read → Bool
is n p (legal d) = false
is n p (refused_at f) = eqb (fault_number f) n && eqb f.at.place p

unfoldable pub refuses_all : List Case → Bool
refuses_all [] = true
refuses_all (r ∷ rs) = is r.number r.place (read_text (bytes r.text)) && refuses_all rs

abbrev pub refusals : List Case
refusals =
    refusal 2 12 "REGISTER A. ! CONTROL /."
    ∷ refusal 2 132 "\"xxxxxxxxxxxxxxxxxxxxxxxxxxxxxxxxxxxxxxxxxxxxxxxxxxxxxxxxxxxxxxxxxxxxxxxxxxxxxxxxxxxxxxxxxxxxxxxxxxxxxxxxxxxxxxxxxxxxxxxxxxxxxxxxxxxy\nREGISTER A. CONTROL P: ->P/."
    ∷ refusal 3 25 "REGISTER A. CONTROL P: A <- 1B1/."
    ∷ refusal 3 40 "REGISTER A[4]. OPERATION X=[A <- A HEAD (4)]. CONTROL X/."
    ∷ refusal 3 44 "REGISTER A[4],B[4]. OPERATION X=[A <- A CON -B]. CONTROL X/."
    ∷ refusal 3 19 "TERMINAL T=INPUT(1,S). CONTROL /."
    ∷ refusal 3 15 "TERMINAL T[2,2]=1. CONTROL /."
    ∷ refusal 3 40 "REGISTER A. OPERATION X=[A<-CASE A DO A ENDCASE]. CONTROL X/."
    ∷ refusal 3 28 "REGISTER A. CONTROL P: ->P/ CONTROL Q: ->Q/."
    ∷ refusal 3 27 "REGISTER A. CONTROL P: ->P/"
    ∷ refusal 4 28 "REGISTER A. OPERATION X=[A<-B]. CONTROL X/."
    ∷ refusal 4 13 "REGISTER A,B,A. CONTROL /."
    ∷ refusal 4 25 "REGISTER A. OPERATION X=[X]. CONTROL X/."
    ∷ refusal 4 25 "REGISTER A. CONTROL P: ->Q/."
    ∷ refusal 4 11 "TERMINAL T=T. CONTROL /."
    ∷ refusal 5 32 "REGISTER A[16]. OPERATION X=[A<-65536]. CONTROL X/."
    ∷ refusal 6 30 "REGISTER A[4]. OPERATION X=[A[5]<-1B1]. CONTROL X/."
    ∷ refusal 6 32 "REGISTER A[4]. OPERATION X=[A[((0))]<-1B1]. CONTROL X/."
    ∷ refusal 6 34 "REGISTER A[4:1]. OPERATION X=[A[1:2]<-2B1]. CONTROL X/."
    ∷ refusal 6 30 "REGISTER A[2,2]. OPERATION X=[A<-2B1]. CONTROL X/."
    ∷ refusal 6 11 "MEMORY A[0:17D65536]. CONTROL /."
    ∷ refusal 7 37 "REGISTER A[256]. OPERATION X=[A<-4B1 EXT 65]. CONTROL X/."
    ∷ refusal 7 29 "REGISTER A[4]. OPERATION X=[A<-5B1]. CONTROL X/."
    ∷ refusal 7 36 "REGISTER A[4],B[2]. OPERATION X=[A<-CASE B DO A DO A ENDCASE]. CONTROL X/."
    ∷ refusal 7 13 "TERMINAL T[3]=4B1. CONTROL /."
    ∷ refusal 3 16 "MEMORY S[2048]. REGISTER A. CONTROL /."
    ∷ refusal 8 24 "MEMORY M. OPERATION X=[M<-1B1]. CONTROL X/."
    ∷ refusal 8 30 "REGISTER #Q[2]. OPERATION X=[Q=2B1]. CONTROL P(1): X/."
    ∷ refusal 8 24 "REGISTER A. CONTROL P: A@, ->P/."
    ∷ refusal 9 16 "REGISTER #Q[2],#R[2]. CONTROL P(1): ->P/."
    ∷ refusal 9 35 "REGISTER #Q[2]. CONTROL P(1): / Q2(1): ->P/."
    ∷ refusal 9 26 "REGISTER #Q[2]. CONTROL P(4): ->P/."
    ∷ refusal 9 24 "REGISTER #Q[2]. CONTROL P: ->P/."
    ∷ refusal 9 22 "REGISTER A. CONTROL P(1): ->P/."
    ∷ refusal 10 20 "MEMORY M[0:16383,8],A. CONTROL /."
    ∷ refusal 10 50 "REGISTER A. OPERATION F=[A=((((((((((((((((((((((((A))))))))))))))))))))))))]. CONTROL F/."
    ∷ refusal 10 50 "REGISTER A. OPERATION F=[A=((((((((((((((((((((((((A;"
    ∷ refusal 10 224 "REGISTER A. OPERATION A0=[A=A], A1=[A0,A0], A2=[A1,A1], A3=[A2,A2], A4=[A3,A3],\nA5=[A4,A4], A6=[A5,A5], A7=[A6,A6], A8=[A7,A7], A9=[A8,A8], B0=[A9,A9],\nB1=[B0,B0], B2=[B1,B1], B3=[B2,B2], B4=[B3,B3], B5=[B4,B4]. CONTROL B4/ B5/."
    ∷ refusal 9 10 "REGISTER #Q[2,2]. CONTROL P(1): /."
    ∷ refusal 9 10 "REGISTER #Q[257]. CONTROL P(1): /."
    ∷ refusal 9 26 "REGISTER #Q[2]. CONTROL P(3D1): /."
    ∷ refusal 8 24 "TERMINAL T[2]. CONTROL T@/."
    ∷ refusal 8 37 "TERMINAL T=INPUT(1,T). OPERATION X=[T=1B1]. CONTROL X/."
    ∷ refusal 8 30 "TERMINAL T=1B1. OPERATION X=[T=1B1]. CONTROL X/."
    ∷ refusal 7 33 "REGISTER A[7],B. OPERATION X=[B<-CASE A DO B DO B ENDCASE]. CONTROL X/."
    ∷ refusal 7 37 "REGISTER A[256],B. OPERATION X=[B<-(A(+)A)HEAD 1]. CONTROL X/."
    ∷ refusal 7 27 "MEMORY M[2]. OPERATION X=[M<-1B1]. CONTROL X/."
    ∷ []

-- Each text is refused with its number at its place.
pub refused-so : refuses_all refusals ≡ true
unfolding computing refuses_all
refused-so = refl

-- A text of 32,769 bytes is too long, whatever it says.
too_long : is 1 0 (read_text (replicate 32769 32)) ≡ true
unfolding computing
too_long = refl

-- The word that brings what is counted to 2,049 is at fault: behind the store, an operand and 1,023 more with their signs, the next sign.
abbrev sums : ℕ → List ℕ
sums n = bytes "REGISTER A. OPERATION F=[A=A\n" ++ (concat {A = ℕ} (λ k. bytes "+A\n") (replicate n 0) ++ bytes "]. CONTROL F/.")

counted-most : is 10 3098 (read_text (sums 1023)) ≡ false
unfolding computing
counted-most = refl

counted-past : is 10 3098 (read_text (sums 1024)) ≡ true
unfolding computing
counted-past = refl
