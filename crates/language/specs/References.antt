-- References (01, "Lengths": References; the manual, 5.1.1): the five forms, and what each takes of a facility.
use Rattle.std.specs.Prelude.{Bool, true, cond, ℕ, eqb, leb}
use Rattle.std.proofs.Math.Option.{Option, none, some}
use Rattle.language.specs.Description as D
use Rattle.language.specs.Description.{Bounds, Facility, Node, span_of, word_length}
use Rattle.language.specs.Tests.{both}

-- The five forms: X, X[e], X[c:d], X[e,e], X[e,c:d].
pub data Subscripts : Type 0 where
  whole : Subscripts
  one : ℕ → Subscripts
  part : Bounds → Subscripts
  two : ℕ → ℕ → Subscripts
  word_part : ℕ → Bounds → Subscripts

pub record Reference : Type 0 where
  pub facility : ℕ
  pub subscripts : Subscripts

abbrev pub refer_to : ℕ → Subscripts → Option Reference
refer_to f s = some (record { facility = f; subscripts = s })

-- A record that is a reference.
abbrev pub reference_of : Node → Option Reference
reference_of (D.constant v) = none
reference_of (D.more n) = none
reference_of (D.whole f) = refer_to f whole
reference_of (D.one f e) = refer_to f (one e)
reference_of (D.part f b) = refer_to f (part b)
reference_of (D.two f e g) = refer_to f (two e g)
reference_of (D.word_part f e b) = refer_to f (word_part e b)
reference_of (D.binary k a b) = none
reference_of (D.prefix k a) = none
reference_of (D.cut k a c) = none
reference_of (D.first_arm e) = none
reference_of (D.next_arm a e) = none
reference_of (D.choice e a n) = none
reference_of D.Node.broken = none

-- The number of subscripts is right for the dimensions.
unfoldable pub right_count : ℕ → Subscripts → Bool
right_count n whole = leb n 1
right_count n (one e) = both (leb 1 n) (leb n 2)
right_count n (part b) = eqb n 1
right_count n (two e g) = eqb n 2
right_count n (word_part e b) = eqb n 2

-- How many bits a reference takes: X[e] is a bit of one dimension and a word of two.
unfoldable pub taken_length : Facility → Subscripts → ℕ
taken_length f whole = word_length f
taken_length f (one e) = cond (eqb f.dimensions 1) 1 (word_length f)
taken_length f (part b) = span_of b
taken_length f (two e g) = 1
taken_length f (word_part e b) = span_of b

-- A part lies in the declared direction; where first and last bound are equal both directions do.
unfoldable pub same_direction : Bounds → Bounds → Bool
same_direction b x =
    cond (leb b.first b.last) (cond (leb b.last b.first) true (leb x.first x.last)) (leb x.last x.first)
