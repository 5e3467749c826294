-- Judging (01, "Refusal numbers"): what has a part at fault has no further fault of its own.
use Rattle.std.specs.Prelude.{Bool, true, false, cond, List, [], ◌∷◌, ◌++◌, ℕ, eqb, leb, ltb}
use Rattle.language.specs.declared.refusals.Refusal.{Refusal}
use Rattle.language.specs.declared.refusals.Refusal.TheVariants.{BadLength, NoContinuation}
use Rattle.language.specs.Ceilings.{longest}
use Rattle.language.specs.Words.{Fault, Position, fault}

-- What is known of an expression without fault: its length; its work (01, "Ceilings"); and, of a list of arms, how many there are, none of an expression proper. Arms of different lengths have the length 0.
pub record Worth : Type 0 where
  pub length : ℕ
  pub arms : ℕ
  pub work : ℕ

-- Fine, or at fault: then there is a first fault.
pub data Judged : Type 0 where
  fine : Worth → Judged
  faulty : Fault → List Fault → Judged

abbrev pub worth : ℕ → ℕ → ℕ → Judged
worth l a w = fine (record { length = l; arms = a; work = w })

abbrev pub faults_of : Judged → List Fault
faults_of (fine w) = []
faults_of (faulty f fs) = f ∷ fs

abbrev pub refuse : Position → Refusal → Judged
refuse p r = faulty (fault p r) []

-- With one part, and with two.
abbrev pub given : Judged → (Worth → Judged) → Judged
given (fine w) on = on w
given (faulty f fs) on = faulty f fs

abbrev pub given_both : Judged → Judged → (Worth → Worth → Judged) → Judged
given_both (fine v) (fine w) on = on v w
given_both (fine v) (faulty g gs) on = faulty g gs
given_both (faulty f fs) (fine w) on = faulty f fs
given_both (faulty f fs) (faulty g gs) on = faulty f (fs ++ g ∷ gs)

-- An expression proper, and not a list of arms; the other way round. No text has the one where the other belongs.
unfoldable pub proper : Position → Judged → Judged
proper p (fine w) = cond (eqb w.arms 0) (fine w) (refuse p NoContinuation)
proper p (faulty f fs) = faulty f fs

unfoldable pub arm_list : Position → Judged → Judged
arm_list p (fine w) = cond (eqb w.arms 0) (refuse p NoContinuation) (fine w)
arm_list p (faulty f fs) = faulty f fs

-- A length from 1 to 256, or refusal 7 at a place.
unfoldable pub sized : Position → ℕ → ℕ → Judged
unfolding longest
sized p l w = cond (ltb 0 l) (cond (leb l longest) (worth l 0 w) (refuse p BadLength)) (refuse p BadLength)

-- One fault where a test fails.
abbrev pub unless : Bool → Position → Refusal → List Fault
unless true p r = []
unless false p r = fault p r ∷ []

-- Faults of parts, and else what comes after them.
abbrev pub or_faulty : List Fault → Judged → Judged
or_faulty [] j = j
or_faulty (x ∷ xs) j = faulty x xs
