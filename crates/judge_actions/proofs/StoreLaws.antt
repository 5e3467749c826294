-- The two sides of a store.
use mathlib.Core.Bool.{Bool, true, false, cond}
use mathlib.Core.Path.{◌≡◌, refl, ap}
use native.Mathlib.Omega.{arith}
use Prim.Native.Nat.{ℕ, ◌+◌}
use Rattle.language.specs.Judging as L
use Rattle.language.specs.Judging.{Judged, faulty, fine, given_both, worth}
use Rattle.judge_verdicts.proofs.VerdictLaws.{pair-faulty}
use Rattle.judge_verdicts.specs.Meaning.{Verdict}
use Rattle.std.specs.Prelude.{Ok, Err}
use Rattle.judge_verdicts.specs.declared.Worth.{Worth}
use Rattle.judge_verdicts.specs.Meaning.{capped, met, paired, seen}
use Rattle.text_words.specs.declared.Fault.{Fault}
use Rattle.judge_terms.specs.Shown.{worked}
use Rattle.judge_actions.specs.Stored.{pair_sides}
use Rattle.language.specs.Tests as Tests

pub both_cond : (a b : Bool) → Tests.both a b ≡ cond a b false
both_cond true b = refl
both_cond false b = refl

-- A part of which only faults and work are known.
pub worked-fine : (j k : Judged) (v w : Worth) (on : L.Worth → L.Worth → Judged) {r : Verdict} → paired (seen (worked j)) (seen k) ≡ Ok (v, w)
    → ((x y : L.Worth) → j ≡ fine x → v.work ≡ capped x.work → w ≡ met y → r ≡ seen (on x y)) → r ≡ seen (given_both j k on)
unfolding seen
worked-fine (fine x) (fine y) v w on e g =
    let q : ◌≡◌ {A = Worth × Worth} (v, w) (record { length = 1; arms = capped 0; work = capped x.work }, met y) = cc in
    g x y refl (ap (λ (z : Worth × Worth). z.0.work) q) (ap (λ (z : Worth × Worth). z.1) q)
worked-fine (fine x) (faulty h hs) v w on e g = absurd (let z : ◌≡◌ {A = ℕ} 0 1 = cc in omega arith)
worked-fine (faulty f fs) (fine y) v w on e g = absurd (let z : ◌≡◌ {A = ℕ} 0 1 = cc in omega arith)
worked-fine (faulty f fs) (faulty h hs) v w on e g = absurd (let z : ◌≡◌ {A = ℕ} 0 1 = cc in omega arith)

pub worked-faulty : (j k : Judged) (h : Fault) (on : L.Worth → L.Worth → Judged) → paired (seen (worked j)) (seen k) ≡ Err h
    → Err h ≡ seen (given_both j k on)
unfolding seen
worked-faulty (fine x) (fine y) h on e = absurd (let z : ◌≡◌ {A = ℕ} 0 1 = cc in omega arith)
worked-faulty (fine x) (faulty g gs) h on e = cc
worked-faulty (faulty f fs) (fine y) h on e = cc
worked-faulty (faulty f fs) (faulty g gs) h on e = pair-faulty (faulty f fs) (faulty g gs) h on e

pub worked-seen : (j : Judged) {v : Verdict} (w : Worth) → v ≡ Ok w → v ≡ seen j → Ok (record { length = 1; arms = 0; work = w.work }) ≡ seen (worked j)
unfolding seen capped
worked-seen (fine x) w e f = let m : w ≡ met x = cc in ap (λ (z : ℕ). Ok (record { length = 1; arms = 0; work = z })) (ap (λ (z : Worth). z.work) m)
worked-seen (faulty f fs) w e g = absurd (let z : ◌≡◌ {A = ℕ} 0 1 = cc in omega arith)

pub worked-fault : (j : Judged) {v : Verdict} (h : Fault) → v ≡ Err h → v ≡ seen j → Err h ≡ seen (worked j)
unfolding seen
worked-fault (fine x) h e f = absurd (let z : ◌≡◌ {A = ℕ} 0 1 = cc in omega arith)
worked-fault (faulty f fs) h e g = cc

pub fine-length : {v : Verdict} {w : Worth} (x : L.Worth) → v ≡ Ok w → v ≡ seen (fine x) → w.length ≡ x.length
unfolding seen
fine-length {v} {w} x e f = let m : w ≡ met x = cc in ap (λ (z : Worth). z.length) m

pub no_length : {v : Verdict} {h : Fault} (x : L.Worth) → v ≡ Err h → v ≡ seen (fine x) → 0 ≡ x.length
unfolding seen
no_length x e f = absurd (let z : ◌≡◌ {A = ℕ} 0 1 = cc in omega arith)

-- Two references on the left.
pub pair-worked : (a b : Judged) → given_both a b (λ v w. worth 1 0 (v.work + w.work)) ≡ worked (pair_sides a b)
pair-worked (fine v) (fine w) = refl
pair-worked (fine v) (faulty g gs) = refl
pair-worked (faulty f fs) (fine w) = refl
pair-worked (faulty f fs) (faulty g gs) = refl

pub pair-length : (a b : Judged) (m n : ℕ) (w : L.Worth) → pair_sides a b ≡ fine w → ((x : L.Worth) → a ≡ fine x → m ≡ x.length)
    → ((y : L.Worth) → b ≡ fine y → n ≡ y.length) → m + n ≡ w.length
pair-length (fine x) (fine y) m n w e f g =
    let z : record { length = x.length + y.length; arms = 0; work = x.work + y.work } ≡ w = cc in
    rw (f x refl, g y refl) (ap (λ (u : L.Worth). u.length) z)
pair-length (fine x) (faulty h hs) m n w e f g = absurd (let z : ◌≡◌ {A = ℕ} 0 1 = cc in omega arith)
pair-length (faulty f fs) (fine y) m n w e p q = absurd (let z : ◌≡◌ {A = ℕ} 0 1 = cc in omega arith)
pair-length (faulty f fs) (faulty h hs) m n w e p q = absurd (let z : ◌≡◌ {A = ℕ} 0 1 = cc in omega arith)
