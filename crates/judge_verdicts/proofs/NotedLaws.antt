-- Verdicts noted in one number are read back.
use mathlib.Core.Bool.{Bool, true, false, cond}
use mathlib.Core.Path.{◌≡◌}
use native.Mathlib.Omega.{arith}
use Prim.Native.Nat.{ℕ, ◌+◌, ◌*◌, ◌/◌, ◌%◌, ◌^◌, ◌<◌}
use borrow.Author.Tests.{eq-eqb, ne_eqb}
use lib.Dec.{eqb}
use Rattle.language.specs.Refusals.{refusal_number}
use Rattle.text_words.specs.declared.Fault.{Fault}
use Rattle.judge_verdicts.proofs.KeptLaws.{numbered-back, small-number}
use Rattle.std.specs.Prelude.{IfSome, Option, None, Some, Ok, Err}
use Rattle.judge_verdicts.specs.declared.Worth.{Worth}
use Rattle.judge_verdicts.specs.Noted.{Notes, is_reference, joined, record_in, verdict_in}

module _ (n : ℕ) (reference : Bool) (mark value : ℕ) (h : mark < 16) (k : value < 2 ^ 43) where
  pub value_in : joined n reference mark value % 2 ^ 43 ≡ value
  unfolding joined
  value_in = omega arith

  head_in : joined n reference mark value / 2 ^ 43 ≡ 32 * n + cond reference 16 0 + mark
  unfolding joined
  head_in = omega arith

  either : (b : Bool) → (32 * n + cond b 16 0 + mark) / 32 ≡ n
  either true = omega arith
  either false = omega arith

  mark_of : (b : Bool) → (32 * n + cond b 16 0 + mark) % 16 ≡ mark
  mark_of true = omega arith
  mark_of false = omega arith

  refers-of : (b : Bool) → eqb ((32 * n + cond b 16 0 + mark) / 16 % 2) 1 ≡ b
  refers-of true = let e : (32 * n + 16 + mark) / 16 % 2 ≡ 1 = omega arith in eq-eqb _ 1 e
  refers-of false = ne_eqb _ 1 (λ (e : (32 * n + 0 + mark) / 16 % 2 ≡ 1). omega arith)

  pub record-in : record_in (joined n reference mark value) ≡ n
  unfolding record_in
  record-in = rw head_in (either reference)

  pub mark-in : joined n reference mark value / 2 ^ 43 % 16 ≡ mark
  mark-in = rw head_in (mark_of reference)

  pub refers-in : is_reference (joined n reference mark value) ≡ reference
  unfolding is_reference
  refers-in = rw head_in (refers-of reference)

module _ (n : ℕ) (reference : Bool) where
  noted-fine : (w : Worth) → w.length < 512 → w.arms < 2 ^ 17 → w.work < 2 ^ 17
      → Notes (joined n reference 0 ((w.length * 2 ^ 17 + w.arms) * 2 ^ 17 + w.work)) n reference (Ok w)
  unfolding verdict_in
  noted-fine w a b c =
      let v = (w.length * 2 ^ 17 + w.arms) * 2 ^ 17 + w.work in
      let k : v < 2 ^ 43 = omega arith in
      let x : v / 2 ^ 17 / 2 ^ 17 ≡ w.length = omega arith in
      let y : v / 2 ^ 17 % 2 ^ 17 ≡ w.arms = omega arith in
      let z : v % 2 ^ 17 ≡ w.work = omega arith in
      record {
        of = record-in n reference 0 v (omega arith) k;
        refers = refers-in n reference 0 v (omega arith) k;
        verdict = rw (mark-in n reference 0 v (omega arith) k, value_in n reference 0 v (omega arith) k, x, y, z);
      }

  noted-faulty : (f : Fault) → f.at.place < 2 ^ 43
      → Notes (joined n reference (refusal_number f.refusal) f.at.place) n reference (Err f)
  unfolding verdict_in
  noted-faulty f k =
      let m = refusal_number f.refusal in
      let h = (small-number f.refusal).1 in
      record {
        of = record-in n reference m f.at.place h k;
        refers = refers-in n reference m f.at.place h k;
        verdict = rw (mark-in n reference m f.at.place h k, value_in n reference m f.at.place h k, ne_eqb m 0 (λ z. omega (arith, small-number f.refusal)), numbered-back f.refusal);
      }

-- Where a number has room, it notes the verdict.
pub fine-noted : (o : Option ℕ) (n : ℕ) (reference : Bool) (w : Worth) (v : ℕ)
    → (w.length < 512) × (w.arms < 2 ^ 17) × (w.work < 2 ^ 17) × (v ≡ (w.length * 2 ^ 17 + w.arms) * 2 ^ 17 + w.work)
    → IfSome o (λ e. (v < 2 ^ 43) × (e ≡ joined n reference 0 v)) → IfSome o (λ e. Notes e n reference (Ok w))
fine-noted None n reference w v r j = tt
fine-noted (Some e) n reference w v r j = rw (j.1, r.3) (noted-fine n reference w r.0 r.1 r.2)

pub faulty-noted : (o : Option ℕ) (n : ℕ) (reference : Bool) (f : Fault) (m v : ℕ) → m ≡ refusal_number f.refusal → v ≡ f.at.place
    → IfSome o (λ e. (v < 2 ^ 43) × (e ≡ joined n reference m v)) → IfSome o (λ e. Notes e n reference (Err f))
faulty-noted None n reference f m v p q j = tt
faulty-noted (Some e) n reference f m v p q j = rw (j.1, p, q) (noted-faulty n reference f (rw q at j.0))
