-- What a verdict tells of the judgement that it shows.
use mathlib.Core.Bool.{Bool, true, false, cond}
use mathlib.Core.List.{List, [], ◌∷◌, ◌++◌}
use mathlib.Core.Option.{none, some}
use mathlib.Core.Path.{◌≡◌, refl, sym, ap, ◌∙◌}
use native.Mathlib.Omega.{arith}
use borrow.Author.Tests.{eq-eqb, ne_eqb}
use lib.Dec.{eqb}
use Prim.Native.Nat.{ℕ}
use Rattle.language.specs.Decode.{pick}
use Rattle.language.specs.Judging as L
use Rattle.language.specs.Judging.{Judged, fine, faulty, given, given_both, or_faulty}
use Rattle.language.specs.declared.refusals.Refusal.{Refusal}
use Rattle.language.specs.declared.refusals.Refusal.TheVariants.{NoContinuation}
use Rattle.language.specs.Words as W
use Rattle.language.specs.WordStage.{before, least, smaller}
use Rattle.text_words.proofs.Least.{least-both}
use Rattle.text_words.specs.declared.Fault.{Fault}
use Rattle.text_words.specs.Meaning.{faulted}
use Rattle.judge_verdicts.proofs.CappedLaws.{capped-eqb}
use Rattle.std.specs.Prelude.{Result, Ok, Err}
use Rattle.std.specs.Result.{IsErrAnd}
use Rattle.std.proofs.lemmas.Result.{err_from_is_err_and}
use Rattle.judge_verdicts.specs.declared.Worth.{Worth}
use Rattle.judge_verdicts.specs.Meaning.{Verdict, capped, coded, earlier_of, met, paired, seen}

-- ---- One verdict.

pub is-fine : (j : Judged) (v : Worth) (A : Judged → Type 0) → Ok v ≡ seen j → ((w : L.Worth) → v ≡ met w → A (fine w)) → A j
unfolding seen
is-fine (fine w) v A e k = k w cc
is-fine (faulty f fs) v A e k = absurd (let z : ◌≡◌ {A = ℕ} 0 1 = cc in omega arith)

pub is-faulty : (j : Judged) (g : Fault) (A : Judged → Type 0) → Err g ≡ seen j
    → ((f : W.Fault) (fs : List W.Fault) → g ≡ coded (smaller f (least fs)) → A (faulty f fs)) → A j
unfolding seen
is-faulty (fine w) g A e k = absurd (let z : ◌≡◌ {A = ℕ} 0 1 = cc in omega arith)
is-faulty (faulty f fs) g A e k = k f fs cc

-- What follows a part at fault is that fault.
pub given-faulty : (j : Judged) (g : Fault) (on : L.Worth → Judged) → Err g ≡ seen j → Err g ≡ seen (given j on)
unfolding seen
given-faulty (fine w) g on e = absurd (let z : ◌≡◌ {A = ℕ} 0 1 = cc in omega arith)
given-faulty (faulty f fs) g on e = e

-- What a `?` hands on is the fault that it found.
pub passed-on : {T : Type 0} (r : Result T Fault) (f : Fault) → IsErrAnd r (λ g. g ≡ f) → r ≡ Err f
passed-on r f h = let p = err_from_is_err_and r h in p.1 ∙ ap Err p.2

-- ---- Two verdicts.

pub pair-fine : (j k : Judged) (v w : Worth) (A : Judged → Judged → Type 0) → paired (seen j) (seen k) ≡ Ok (v, w)
    → ((x y : L.Worth) → v ≡ met x → w ≡ met y → A (fine x) (fine y)) → A j k
unfolding seen
pair-fine (fine x) (fine y) v w A e k =
    let q : ◌≡◌ {A = Worth × Worth} (v, w) (met x, met y) = cc in
    k x y (ap (λ (p : Worth × Worth). p.0) q) (ap (λ (p : Worth × Worth). p.1) q)
pair-fine (fine x) (faulty g gs) v w A e k = absurd (let z : ◌≡◌ {A = ℕ} 0 1 = cc in omega arith)
pair-fine (faulty f fs) (fine y) v w A e k = absurd (let z : ◌≡◌ {A = ℕ} 0 1 = cc in omega arith)
pair-fine (faulty f fs) (faulty g gs) v w A e k = absurd (let z : ◌≡◌ {A = ℕ} 0 1 = cc in omega arith)

some_same : {x y : W.Fault} → some x ≡ some y → x ≡ y
some_same e = cc

pick-coded : (b : Bool) (x y : W.Fault) → pick b (coded x) (coded y) ≡ coded (cond b x y)
pick-coded true x y = refl
pick-coded false x y = refl

both-faults : (f : W.Fault) (fs : List W.Fault) (g : W.Fault) (gs : List W.Fault)
    → earlier_of (coded (smaller f (least fs))) (coded (smaller g (least gs))) ≡ coded (smaller f (least (fs ++ g ∷ gs)))
unfolding least earlier_of
both-faults f fs g gs =
    pick-coded (before (smaller g (least gs)) (smaller f (least fs))) (smaller g (least gs)) (smaller f (least fs))
    ∙ ap coded (some_same (sym (least-both (f ∷ fs) (g ∷ gs))))

pub pair-faulty : (j k : Judged) (h : Fault) (on : L.Worth → L.Worth → Judged) → paired (seen j) (seen k) ≡ Err h
    → Err h ≡ seen (given_both j k on)
unfolding seen
pair-faulty (fine x) (fine y) h on e = absurd (let z : ◌≡◌ {A = ℕ} 0 1 = cc in omega arith)
pair-faulty (fine x) (faulty g gs) h on e = cc
pair-faulty (faulty f fs) (fine y) h on e = cc
pair-faulty (faulty f fs) (faulty g gs) h on e = cc (both-faults f fs g gs)

-- ---- Lists of faults.

pub fine-faults : (j : Judged) (v : Worth) → Ok v ≡ seen j → none ≡ least (L.faults_of j)
unfolding least
fine-faults j v e = is-fine j v (λ k. none ≡ least (L.faults_of k)) e (λ w p. refl)

pub faulty-faults : (j : Judged) (g : Fault) → Err g ≡ seen j → some (faulted g) ≡ least (L.faults_of j)
unfolding least
faulty-faults j g e = is-faulty j g (λ k. some (faulted g) ≡ least (L.faults_of k)) e (λ f fs p. ap (λ (x : Fault). some (faulted x)) p)

pub or-passed : (x : List W.Fault) (j : Judged) (v : Verdict) → none ≡ least x → v ≡ seen j → v ≡ seen (or_faulty x j)
unfolding least
or-passed [] j v e p = p
or-passed (f ∷ fs) j v e p = absurd (let z : ◌≡◌ {A = ℕ} 0 1 = cc in omega arith)

pub or-refused : (x : List W.Fault) (j : Judged) (g : Fault) → some (faulted g) ≡ least x → Err g ≡ seen (or_faulty x j)
unfolding least seen
or-refused [] j g e = absurd (let z : ◌≡◌ {A = ℕ} 0 1 = cc in omega arith)
or-refused (f ∷ fs) j g e = ap (λ (x : W.Fault). Err (coded x)) (some_same e)

-- ---- Expressions proper, and lists of arms.

module _ (p : W.Position) (j : Judged) where
  pub faulty-proper : (g : Fault) {v : Verdict} → Err g ≡ seen j → v ≡ Err g → v ≡ seen (L.proper p j)
  unfolding L.proper
  faulty-proper g {v} e q = q ∙ is-faulty j g (λ k. Err g ≡ seen k → Err g ≡ seen (L.proper p k)) e (λ f fs z d. d) e

  pub proper-none : (w : Worth) {v : Verdict} → Ok w ≡ seen j → w.arms ≡ 0 → v ≡ Ok w → v ≡ seen (L.proper p j)
  unfolding L.proper
  proper-none w {v} e z q =
      q ∙ is-fine j w (λ k. Ok w ≡ seen k → Ok w ≡ seen (L.proper p k)) e
      (λ x m d. let t : eqb x.arms 0 ≡ true = sym (capped-eqb x.arms 0 (omega arith)) ∙ eq-eqb _ 0 (ap (λ (y : Worth). y.arms) (sym m) ∙ z) in rw t d) e

  pub proper-arms : (w : Worth) → Ok w ≡ seen j → (w.arms ≡ 0 → ⊥) → seen (L.refuse p NoContinuation) ≡ seen (L.proper p j)
  unfolding L.proper
  proper-arms w e z =
      is-fine j w (λ k. seen (L.refuse p NoContinuation) ≡ seen (L.proper p k)) e
      (λ x m. let t : eqb x.arms 0 ≡ false = sym (capped-eqb x.arms 0 (omega arith)) ∙ ne_eqb _ 0 (λ y. z (ap (λ (y : Worth). y.arms) m ∙ y)) in rw t)

  pub faulty-arms : (g : Fault) {v : Verdict} → Err g ≡ seen j → v ≡ Err g → v ≡ seen (L.arm_list p j)
  unfolding L.arm_list
  faulty-arms g {v} e q = q ∙ is-faulty j g (λ k. Err g ≡ seen k → Err g ≡ seen (L.arm_list p k)) e (λ f fs z d. d) e

  pub arms_none : (w : Worth) → Ok w ≡ seen j → w.arms ≡ 0 → seen (L.refuse p NoContinuation) ≡ seen (L.arm_list p j)
  unfolding L.arm_list
  arms_none w e z =
      is-fine j w (λ k. seen (L.refuse p NoContinuation) ≡ seen (L.arm_list p k)) e
      (λ x m. let t : eqb x.arms 0 ≡ true = sym (capped-eqb x.arms 0 (omega arith)) ∙ eq-eqb _ 0 (ap (λ (y : Worth). y.arms) (sym m) ∙ z) in rw t)

  pub arms-some : (w : Worth) {v : Verdict} → Ok w ≡ seen j → (w.arms ≡ 0 → ⊥) → v ≡ Ok w → v ≡ seen (L.arm_list p j)
  unfolding L.arm_list
  arms-some w {v} e z q =
      q ∙ is-fine j w (λ k. Ok w ≡ seen k → Ok w ≡ seen (L.arm_list p k)) e
      (λ x m d. let t : eqb x.arms 0 ≡ false = sym (capped-eqb x.arms 0 (omega arith)) ∙ ne_eqb _ 0 (λ y. z (ap (λ (y : Worth). y.arms) m ∙ y)) in rw t d) e

-- ---- What an owner makes of its parts.

pub pair-known : (j k : Judged) {a b : Verdict} {r x : Result (Worth × Worth) Fault} → r ≡ paired a b → r ≡ x → a ≡ seen j → b ≡ seen k → paired (seen j) (seen k) ≡ x
pair-known j k p q e f = rw (← e, ← f) (sym p ∙ q)

pub both-fine : (j k : Judged) (v w : Worth) (on : L.Worth → L.Worth → Judged) {r : Verdict} → paired (seen j) (seen k) ≡ Ok (v, w)
    → ((x y : L.Worth) → v ≡ met x → w ≡ met y → r ≡ seen (on x y)) → r ≡ seen (given_both j k on)
both-fine j k v w on {r} e g = pair-fine j k v w (λ x y. r ≡ seen (given_both x y on)) e g

pub one-fine : (j : Judged) (v : Worth) (on : L.Worth → Judged) {r : Verdict} → Ok v ≡ seen j
    → ((x : L.Worth) → v ≡ met x → r ≡ seen (on x)) → r ≡ seen (given j on)
one-fine j v on {r} e g = is-fine j v (λ x. r ≡ seen (given x on)) e g

pub sized_same : (w : ℕ) {p q : W.Position} {l m : ℕ} → p ≡ q → l ≡ m → seen (L.sized p l w) ≡ seen (L.sized q m w)
sized_same w e f = rw (e, f)

pub refuse-same : (r : Refusal) {p q : W.Position} → p ≡ q → seen (L.refuse p r) ≡ seen (L.refuse q r)
refuse-same r e = rw e

pub worth-seen : (l a w : ℕ) {m b x : ℕ} → m ≡ l → b ≡ capped a → x ≡ capped w → Ok (record { length = m; arms = b; work = x }) ≡ seen (L.worth l a w)
unfolding seen
worth-seen l a w e f g = rw (e, f, g)

pub proper-same : (j : Judged) {p q : W.Position} → p ≡ q → seen (L.proper p j) ≡ seen (L.proper q j)
proper-same j e = rw e

pub arms_same : (j : Judged) {p q : W.Position} → p ≡ q → seen (L.arm_list p j) ≡ seen (L.arm_list q j)
arms_same j e = rw e
