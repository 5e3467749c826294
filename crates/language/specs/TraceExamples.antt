-- Numbers in print, standard input cut into lines, and a text with the bytes of its input.
use Rattle.std.specs.Prelude.{[], ◌∷◌, ◌≡◌, refl}
use Rattle.language.specs.Computing.{computing}
use Rattle.language.specs.InputLines.{lines_of}
use Rattle.language.specs.Scan.{bytes}
use Rattle.language.specs.Trace.{decimal, printed}

-- ---- Numbers.

zero-printed : decimal 0 ≡ bytes "0"
unfolding computing
zero-printed = refl

ten-printed : decimal 10 ≡ bytes "10"
unfolding computing
ten-printed = refl

-- More digits than a number of 64 bits has.
long-printed : decimal 1234567890123456789012345 ≡ bytes "1234567890123456789012345"
unfolding computing
long-printed = refl

-- ---- Lines.

no_bytes : lines_of [] ≡ []
unfolding computing
no_bytes = refl

ended-lines : lines_of (bytes "10\n01\n") ≡ bytes "10" ∷ bytes "01" ∷ []
unfolding computing
ended-lines = refl

last-counts : lines_of (bytes "10\n01") ≡ bytes "10" ∷ bytes "01" ∷ []
unfolding computing
last-counts = refl

empty-lines : lines_of (bytes "\n\n1\n\n") ≡ [] ∷ [] ∷ bytes "1" ∷ [] ∷ []
unfolding computing
empty-lines = refl

returns-before : lines_of (bytes "10\r\n\r\n01\r\n") ≡ bytes "10" ∷ [] ∷ bytes "01" ∷ []
unfolding computing
returns-before = refl

-- One CR alone is taken off.
two-returns : lines_of (bytes "1\r\r\n0") ≡ bytes "1\r" ∷ bytes "0" ∷ []
unfolding computing
two-returns = refl

return-inside : lines_of (bytes "1\r0\n\r1\n") ≡ bytes "1\r0" ∷ bytes "\r1" ∷ []
unfolding computing
return-inside = refl

-- A CR that no LF follows is part of its line.
return-last : lines_of (bytes "1\n0\r") ≡ bytes "1" ∷ bytes "0\r" ∷ []
unfolding computing
return-last = refl

-- ---- The whole.

example-printed : printed (bytes "REGISTER A[2]. TERMINAL G[2]=INPUT(1,G). OPERATION X=[A<-G]. CONTROL P: X,->P/.") (bytes "01\r\n10\n11") ≡ bytes "1 P A=01 G=01\n2 P A=10 G=10\n3 P A=11 G=11\nend 3\n"
unfolding computing
example-printed = refl

return_refused : printed (bytes "TERMINAL G=INPUT(1,G). CONTROL P: ->P/.") (bytes "1\r\n0\r") ≡ bytes "1 P G=1\nrefused 15\n"
unfolding computing
return_refused = refl
