-- The cases that 01 marks P ("Cases"), the difference as 02, ticket 1, has it, as entries of one table under one statement: a text, its lines of input bits, and what the trace program prints.
use Rattle.std.specs.Prelude.{Bool, true, ◌&&◌, List, [], ◌∷◌, map, ◌≡◌, refl}
use Prim.Native.String.{String}
use Rattle.language.specs.Computing.{computing}
use Rattle.language.specs.Scan.{bytes, same}
use Rattle.language.specs.Trace.{trace}

pub record Case : Type 0 where
  pub text : String
  pub lines : List String
  pub output : String

abbrev pub entry : String → List String → String → Case
entry t ls o = record { text = t; lines = ls; output = o }

unfoldable pub holds : Case → Bool
holds c = same (trace (bytes c.text) (map bytes c.lines)) (bytes c.output)

unfoldable pub all_hold : List Case → Bool
all_hold [] = true
all_hold (c ∷ cs) = holds c && all_hold cs

-- The eight values, each stored in a register and shown after a cycle; and the three-cycle example.
abbrev pub cases : List Case
cases =
    entry "REGISTER A[11]. OPERATION X=[A=11@1367]. CONTROL P: X, ->P/ ." ("" ∷ []) "1 P A=01011110111\nend 1\n"
    ∷ entry "REGISTER A[10]. OPERATION X=[A=10H.74]. CONTROL P: X, ->P/ ." ("" ∷ []) "1 P A=0111010000\nend 1\n"
    ∷ entry "REGISTER A[2]. OPERATION X=[A=2B.101]. CONTROL P: X, ->P/ ." ("" ∷ []) "1 P A=10\nend 1\n"
    ∷ entry "REGISTER A[7]. OPERATION X=[A=5B10110 * 7B1111111]. CONTROL P: X, ->P/ ." ("" ∷ []) "1 P A=0010110\nend 1\n"
    ∷ entry "REGISTER A[16]. OPERATION X=[A=(+) RED 5B11101]. CONTROL P: X, ->P/ ." ("" ∷ []) "1 P A=0000000000000100\nend 1\n"
    ∷ entry "REGISTER A[10]. OPERATION X=[A=4B1 CON 6B.1]. CONTROL P: X, ->P/ ." ("" ∷ []) "1 P A=0001100000\nend 1\n"
    ∷ entry "REGISTER A[4]. OPERATION X=[A=3B001 (-) 3B011]. CONTROL P: X, ->P/ ." ("" ∷ []) "1 P A=1110\nend 1\n"
    ∷ entry "REGISTER A[5]. OPERATION X=[A=4B1001 (+) 4B1100]. CONTROL P: X, ->P/ ." ("" ∷ []) "1 P A=10101\nend 1\n"
    ∷ entry
    "REGISTER A[4], B[4].\nTERMINAL GO = INPUT(1,GO).\nOPERATION SWAP = [A <- B, B <- A],\n  LOAD = [A = 4D9, B <- (A (+) 4D3) TAIL 4].\nCONTROL P: IF GO THEN SWAP ENDIF/ Q: LOAD, ->P/ .\n"
    ("1" ∷ "0" ∷ "1" ∷ [])
    "1 P A=0000 B=0000 GO=1\n2 Q A=1001 B=1100 GO=0\n3 P A=1100 B=1001 GO=1\nend 3\n"
    ∷ []

-- Each case gives what the papers say.
pub run-cases : all_hold cases ≡ true
unfolding computing holds all_hold
run-cases = refl
