-- What the code's verdicts mean in the language: of faults the least, of work and of arms as much as any rule tells apart.
use Rattle.std.specs.Prelude.{cond, List, ◌≡◌, ℕ, suc, ◌+◌, ◌*◌, ◌<◌, eqb, leb, get_or, length, Result, Ok, Err}
use Rattle.language.specs.Decode.{pick}
use Rattle.language.specs.Judging as L
use Rattle.language.specs.Judging.{Judged, fine, faulty}
use Rattle.language.specs.Ceilings.{most_work}
use Rattle.language.specs.Words as W
use Rattle.language.specs.WordStage.{before, least, smaller}
use Rattle.language.specs.declared.refusals.Refusal.{Refusal}
use Rattle.language.specs.declared.refusals.Refusal.TheVariants.{BadCharacter, BadConstant, BadLength, BadName, BadSequencing, BadStimulus, BadStore, BadSubscript, BufferTooShort, CeilingPassed, ImageFails, NoContinuation, TextTooLong, Unsound}
use Rattle.text_words.specs.declared.Fault.{Fault}
use Rattle.text_words.specs.Meaning.{faulted}
use Rattle.judge_verdicts.specs.declared.Worth.{Worth}

-- The code's verdict: what a part is worth, or the fault that answers.
abbrev pub Verdict : Type 0
Verdict = Result Worth Fault

-- The most work, and one more that stands for every larger number.
unfoldable pub capped : ℕ → ℕ
unfolding most_work
capped n = cond (leb n most_work) n (suc most_work)

abbrev pub met : L.Worth → Worth
met w = record { length = w.length; arms = capped w.arms; work = capped w.work }

abbrev pub coded : W.Fault → Fault
coded f = record { at = record { place = f.at.place }; refusal = f.refusal }

-- What judging shows of an expression.
unfoldable pub seen : Judged → Verdict
seen (fine w) = Ok (met w)
seen (faulty f fs) = Err (coded (smaller f (least fs)))

-- The earlier of two faults.
unfoldable pub earlier_of : Fault → Fault → Fault
earlier_of f g = pick (before (faulted g) (faulted f)) g f

-- Two parts: both fine, or the earlier fault.
abbrev pub paired : Verdict → Verdict → Result (Worth × Worth) Fault
paired (Ok v) (Ok w) = Ok (v, w)
paired (Ok v) (Err g) = Err g
paired (Err f) (Ok w) = Err f
paired (Err f) (Err g) = Err (earlier_of f g)

-- Of a verdict that is named elsewhere only faults and work count.
abbrev pub work_of : Verdict → Verdict
work_of (Ok w) = Ok (record { length = 1; arms = 0; work = w.work })
work_of (Err f) = Err f

-- The refusal of a number.
unfoldable pub numbered : ℕ → Refusal
numbered n =
    pick (eqb n 1) TextTooLong
    (pick (eqb n 2) BadCharacter
    (pick (eqb n 3) NoContinuation
    (pick (eqb n 4) BadName
    (pick (eqb n 5) BadConstant
    (pick (eqb n 6) BadSubscript
    (pick (eqb n 7) BadLength
    (pick (eqb n 8) BadStore
    (pick (eqb n 9) BadSequencing
    (pick (eqb n 10) CeilingPassed
    (pick (eqb n 12) BufferTooShort
    (pick (eqb n 13) ImageFails
    (pick (eqb n 14) Unsound BadStimulus))))))))))))

-- Verdicts kept in numbers, two for each: 0 and the work, or the fault's number and its place.
unfoldable pub recalled : List ℕ → ℕ → Verdict
recalled memo k =
    pick (eqb (get_or memo (2 * k) 0) 0) (Ok (record { length = 1; arms = 0; work = get_or memo (2 * k + 1) 0 }))
    (Err (record { at = record { place = get_or memo (2 * k + 1) 0 }; refusal = numbered (get_or memo (2 * k) 0) }))

-- The k-th verdict kept, and those before it left.
pub record Kept (memo : List ℕ) (k : ℕ) (v : Verdict) (after : List ℕ) : Type 0 where
  pub size : length after ≡ length memo
  pub here : recalled after k ≡ work_of v
  pub others : (i : ℕ) → i < k → recalled after i ≡ recalled memo i
