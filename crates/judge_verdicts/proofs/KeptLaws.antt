-- Verdicts kept in numbers.
use mathlib.Core.List.{List}
use mathlib.Core.Path.{◌≡◌, refl, ◌∙◌}
use native.Mathlib.Omega.{arith}
use Prim.Native.Nat.{ℕ, ◌+◌, ◌*◌, ◌<◌}
use borrow.Author.Tests.{ne_eqb}
use lib.ListN.{get_or, length, set, length-set}
use lib.Seq.{get_or-set_other, get_or-set_same}
use Rattle.language.specs.Refusals.{refusal_number}
use Rattle.language.specs.declared.refusals.Refusal.{Refusal}
use Rattle.language.specs.declared.refusals.Refusal.TheVariants.{BadCharacter, BadConstant, BadLength, BadName, BadSequencing, BadStimulus, BadStore, BadSubscript, BufferTooShort, CeilingPassed, ImageFails, NoContinuation, TextTooLong, Unsound}
use Rattle.text_words.specs.declared.Fault.{Fault}
use Rattle.std.specs.Prelude.{Ok, Err}
use Rattle.judge_verdicts.specs.declared.Worth.{Worth}
use Rattle.judge_verdicts.specs.Meaning.{Kept, numbered, recalled}

-- A refusal has its number.
pub numbered-back : (r : Refusal) → numbered (refusal_number r) ≡ r
unfolding numbered
numbered-back TextTooLong = refl
numbered-back BadCharacter = refl
numbered-back NoContinuation = refl
numbered-back BadName = refl
numbered-back BadConstant = refl
numbered-back BadSubscript = refl
numbered-back BadLength = refl
numbered-back BadStore = refl
numbered-back BadSequencing = refl
numbered-back CeilingPassed = refl
numbered-back BufferTooShort = refl
numbered-back ImageFails = refl
numbered-back Unsound = refl
numbered-back BadStimulus = refl

-- The numbers are from 1 to 15.
pub small-number : (r : Refusal) → (0 < refusal_number r) × (refusal_number r < 16)
small-number TextTooLong = (omega arith, omega arith)
small-number BadCharacter = (omega arith, omega arith)
small-number NoContinuation = (omega arith, omega arith)
small-number BadName = (omega arith, omega arith)
small-number BadConstant = (omega arith, omega arith)
small-number BadSubscript = (omega arith, omega arith)
small-number BadLength = (omega arith, omega arith)
small-number BadStore = (omega arith, omega arith)
small-number BadSequencing = (omega arith, omega arith)
small-number CeilingPassed = (omega arith, omega arith)
small-number BufferTooShort = (omega arith, omega arith)
small-number ImageFails = (omega arith, omega arith)
small-number Unsound = (omega arith, omega arith)
small-number BadStimulus = (omega arith, omega arith)

module _ (m : List ℕ) (k a b : ℕ) (h : 2 * k + 1 < length m) where
  first : get_or (set (set m (2 * k) a) (2 * k + 1) b) (2 * k) 0 ≡ a
  first =
      get_or-set_other (set m (2 * k) a) (2 * k + 1) (2 * k) b 0 (λ e. omega arith) ∙ get_or-set_same m (2 * k) a 0 (omega arith)

  second : get_or (set (set m (2 * k) a) (2 * k + 1) b) (2 * k + 1) 0 ≡ b
  second = get_or-set_same (set m (2 * k) a) (2 * k + 1) b 0 (omega (arith, length-set m (2 * k) a))

  others : (i : ℕ) → i < k → recalled (set (set m (2 * k) a) (2 * k + 1) b) i ≡ recalled m i
  unfolding recalled
  others i l =
      rw (
        get_or-set_other (set m (2 * k) a) (2 * k + 1) (2 * i) b 0 (λ e. omega arith),
        get_or-set_other m (2 * k) (2 * i) a 0 (λ e. omega arith),
        get_or-set_other (set m (2 * k) a) (2 * k + 1) (2 * i + 1) b 0 (λ e. omega arith),
        get_or-set_other m (2 * k) (2 * i + 1) a 0 (λ e. omega arith),
      )

  size : length (set (set m (2 * k) a) (2 * k + 1) b) ≡ length m
  size = length-set (set m (2 * k) a) (2 * k + 1) b ∙ length-set m (2 * k) a

module _ (m : List ℕ) (k : ℕ) (h : 2 * k + 1 < length m) where
  pub kept_fine : (w : Worth) → Kept m k (Ok w) (set (set m (2 * k) 0) (2 * k + 1) w.work)
  unfolding recalled
  kept_fine w = record { size = size m k 0 w.work h; here = rw (first m k 0 w.work h, second m k 0 w.work h); others = others m k 0 w.work h }

  pub kept-faulty : (f : Fault) → Kept m k (Err f) (set (set m (2 * k) (refusal_number f.refusal)) (2 * k + 1) f.at.place)
  unfolding recalled
  kept-faulty f =
      let n = refusal_number f.refusal in
      record {
        size = size m k n f.at.place h;
        here = rw (first m k n f.at.place h, second m k n f.at.place h, ne_eqb n 0 (λ z. omega (arith, small-number f.refusal)), numbered-back f.refusal);
        others = others m k n f.at.place h;
      }
