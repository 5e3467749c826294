-- Judgements joined one after another: what is joined so far, and then the rest, is the whole.
use mathlib.Core.List.{[], ◌∷◌, append_assoc}
use mathlib.Core.Path.{◌≡◌, refl, sym, ap, ◌∙◌}
use native.Mathlib.Omega.{arith}
use Prim.Native.Nat.{ℕ, ◌+◌}
use Rattle.language.specs.Judging.{Judged, Worth, faulty, fine, given_both}
use Rattle.language.specs.Words.{Fault}
use Rattle.judge_verdicts.specs.Meaning.{Verdict}
use Rattle.judge_verdicts.specs.Meaning.{seen}

abbrev pub joins : (Worth → Worth → Worth) → Judged → Judged → Judged
joins f a b = given_both a b (λ v w. fine (f v w))

abbrev pub nothing : Worth
nothing = record { length = 1; arms = 0; work = 0 }

-- Actions, of which only the work counts.
abbrev pub works : Worth → Worth → Worth
works v w = record { length = 1; arms = 0; work = v.work + w.work }

-- An arm's list and the arms after it; arms and the list of one more; arms and arms after them.
abbrev pub arm_first : Worth → Worth → Worth
arm_first v w = record { length = 1; arms = w.arms + 1; work = v.work + w.work }

abbrev pub arm_last : Worth → Worth → Worth
arm_last v w = record { length = 1; arms = v.arms + 1; work = v.work + w.work }

abbrev pub arms_both : Worth → Worth → Worth
arms_both v w = record { length = 1; arms = v.arms + w.arms; work = v.work + w.work }

worth-same : {a b m n : ℕ} → a ≡ b → m ≡ n → ◌≡◌ {A = Worth} (record { length = 1; arms = a; work = m }) (record { length = 1; arms = b; work = n })
worth-same e f = rw (e, f)

-- ---- Joining is associative, and nothing is its unit.

pub joins-regroup : (f g h k : Worth → Worth → Worth) → ((u v w : Worth) → g (f u v) w ≡ k u (h v w))
    → (a b c : Judged) → joins g (joins f a b) c ≡ joins k a (joins h b c)
joins-regroup f g h k e (fine u) (fine v) (fine w) = ap fine (e u v w)
joins-regroup f g h k e (fine u) (fine v) (faulty z zs) = refl
joins-regroup f g h k e (fine u) (faulty y ys) (fine w) = refl
joins-regroup f g h k e (fine u) (faulty y ys) (faulty z zs) = refl
joins-regroup f g h k e (faulty x xs) (fine v) (fine w) = refl
joins-regroup f g h k e (faulty x xs) (fine v) (faulty z zs) = refl
joins-regroup f g h k e (faulty x xs) (faulty y ys) (fine w) = refl
joins-regroup f g h k e (faulty x xs) (faulty y ys) (faulty z zs) = ap (faulty x) (append_assoc xs (y ∷ ys) (z ∷ zs))

pub nothing-first : (f g : Worth → Worth → Worth) → ((v w : Worth) → g nothing (f v w) ≡ f v w)
    → (a b : Judged) → joins g (fine nothing) (joins f a b) ≡ joins f a b
nothing-first f g e (fine v) (fine w) = ap fine (e v w)
nothing-first f g e (fine v) (faulty z zs) = refl
nothing-first f g e (faulty y ys) (fine w) = refl
nothing-first f g e (faulty y ys) (faulty z zs) = refl

pub nothing-last : (f g : Worth → Worth → Worth) → ((v w : Worth) → g (f v w) nothing ≡ f v w)
    → (a b : Judged) → joins g (joins f a b) (fine nothing) ≡ joins f a b
nothing-last f g e (fine v) (fine w) = ap fine (e v w)
nothing-last f g e (fine v) (faulty z zs) = refl
nothing-last f g e (faulty y ys) (fine w) = refl
nothing-last f g e (faulty y ys) (faulty z zs) = refl

-- Before a fault it makes no difference how parts without fault are joined.
pub fault-joins : (f : Worth → Worth → Worth) (on : Worth → Worth → Judged) (a : Judged) (x : Fault) → joins f a (faulty x []) ≡ given_both a (faulty x []) on
fault-joins f on (fine v) x = refl
fault-joins f on (faulty y ys) x = refl

-- ---- A run of records judged from the left.

-- What g makes of a run so far and of the rest, where f adds a part to the run so far, and h puts one before the rest.
pub record Sums (f g h : Worth → Worth → Worth) : Type 0 where
  pub regroup : (u v w : Worth) → g (f u v) w ≡ g u (h v w)
  pub first : (v w : Worth) → g nothing (h v w) ≡ h v w
  pub last : (v w : Worth) → g (f v w) nothing ≡ f v w
  pub none : g nothing nothing ≡ nothing

pub work-sums : Sums works works works
work-sums = record {
  regroup = λ u v w. worth-same refl (omega arith);
  first = λ v w. worth-same refl (omega arith);
  last = λ v w. worth-same refl (omega arith);
  none = refl;
}

pub arm-sums : Sums arm_last arms_both arm_first
arm-sums = record {
  regroup = λ u v w. worth-same (omega arith) (omega arith);
  first = λ v w. worth-same (omega arith) (omega arith);
  last = λ v w. worth-same (omega arith) (omega arith);
  none = refl;
}

-- What is judged so far, joined with the run of `left` records from `at` on, is the run of k records from i on. `rest` may take for granted that nothing before a run makes no difference: that is shown where the run's first record is known.
pub record Continues (g : Worth → Worth → Worth) (run : ℕ → ℕ → Judged) (k i : ℕ) (so_far : Verdict) (left at : ℕ) : Type 0 where
  pub judged : Judged
  pub shown : so_far ≡ seen judged
  pub whole : joins g judged (fine nothing) ≡ judged
  pub rest : joins g (fine nothing) (run left at) ≡ run left at → joins g judged (run left at) ≡ run k i

module _ {f g h : Worth → Worth → Worth} (s : Sums f g h) (run : ℕ → ℕ → Judged) (k i : ℕ) where
  pub begins : {v : Verdict} → v ≡ seen (fine nothing) → Continues g run k i v k i
  begins e = record {
    judged = fine nothing;
    shown = e;
    whole = ap fine s.none;
    rest = λ r. r;
  }

  module _ {v : Verdict} {left at : ℕ} (c : Continues g run k i v left at) where
    pub continues : (one : Judged) (l q : ℕ) → run left at ≡ joins h one (run l q) → {r : Verdict} → r ≡ seen (joins f c.judged one) → Continues g run k i r l q
    continues one l q e z = record {
      judged = joins f c.judged one;
      shown = z;
      whole = nothing-last f g s.last c.judged one;
      rest =
          λ r.
          joins-regroup f g h g s.regroup c.judged one (run l q)
          ∙ ap (joins g c.judged) (sym e)
          ∙ c.rest (rw e (nothing-first h g s.first one (run l q)));
    }

    pub ends : run left at ≡ fine nothing → v ≡ seen (run k i)
    ends e = c.shown ∙ ap seen (sym c.whole ∙ ap (joins g c.judged) (sym e) ∙ c.rest (rw e (ap fine s.none)))

    pub breaks-off : (x : Fault) → run left at ≡ faulty x [] → {r : Verdict} → r ≡ seen (joins g c.judged (faulty x [])) → r ≡ seen (run k i)
    breaks-off x e z = z ∙ ap seen (ap (joins g c.judged) (sym e) ∙ c.rest (rw e))
