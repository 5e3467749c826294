-- Operations one after the other.
use mathlib.Core.Bool.{Bool, true, false}
use mathlib.Core.List.{List}
use mathlib.Core.Option.{Option, none}
use mathlib.Core.Path.{◌≡◌, refl, sym, ap, ◌∙◌}
use native.Mathlib.Numerals.{add-one}
use native.Mathlib.Omega.{arith}
use Prim.Native.Nat.{ℕ, suc, ◌+◌, ◌-◌, ◌<◌, ◌≤◌}
use borrow.Author.Tests.{eq-eqb, eqb-false, eqb-true, ne_eqb}
use lib.Dec.{eqb}
use Rattle.language.specs.ActionRules.{operation_below, operation_judged, operation_step, run_judged, unknown_operation}
use Rattle.language.specs.Description as D
use Rattle.language.specs.Description.{Description, Places, Run, operation_at}
use Rattle.language.specs.Judging.{Judged, faults_of, refuse}
use Rattle.language.specs.Recursion.{below-ge, below-lt}
use Rattle.language.specs.declared.refusals.Refusal.TheVariants.{BadName, NoContinuation}
use Rattle.language.specs.Rules.{operations_faults}
use Rattle.language.specs.WordStage.{least}
use Rattle.language.specs.Words as W
use Rattle.judge_verdicts.specs.Meaning.{Verdict}
use Rattle.judge_verdicts.specs.Meaning.{recalled, seen, work_of}
use Rattle.text_words.proofs.Least.{least-both, lesser-all, lesser-none}
use Rattle.text_words.specs.Meaning.{lesser}
use Rattle.judge_terms.specs.Shown.{worked}
use Rattle.judge_actions.specs.Listed.{Listed, list_at}
use Rattle.judge_all.proofs.MemoryLaws.{worked-seen}
use Rattle.judge_all.specs.InSlices.{Acting, Performed}

module _ (d : Description) (p : Places) where
  operation-lt : (k o : ℕ) → o < k → operation_below d p k o ≡ operation_judged d p o
  unfolding operation_below operation_judged
  operation-lt k o h = below-lt (unknown_operation d p) (operation_step d p) k o h

  operation-ge : (k o : ℕ) → k ≤ o → operation_below d p k o ≡ refuse D.nowhere BadName
  unfolding operation_below
  operation-ge k o h = below-ge (unknown_operation d p) (operation_step d p) k o h

  -- ---- One operation.

  module _ (k : ℕ) {r : Run} (e : r ≡ (operation_at d k).body) where
    pub empty-operation : r.count ≡ 0 → refuse D.nowhere NoContinuation ≡ operation_judged d p k
    unfolding operation_judged
    empty-operation h = rw (← e, eq-eqb r.count 0 h)

    pub some-operation : (r.count ≡ 0 → ⊥) → list_at d p false (operation_below d p k) r.count r.first ≡ operation_judged d p k
    unfolding operation_judged list_at run_judged
    some-operation h = rw (← e, ne_eqb r.count 0 h)

  -- ---- The rest of them.

  next-operation : (m n : ℕ) → least (operations_faults d p (suc m) n) ≡ lesser (least (faults_of (operation_judged d p n))) (least (operations_faults d p m (suc n)))
  unfolding operations_faults
  next-operation m n = least-both (faults_of (operation_judged d p n)) (operations_faults d p m (suc n))

  pub step-operation : (N n : ℕ) (all one : Option W.Fault) {more whole : Option W.Fault} → n < N → more ≡ lesser all one → one ≡ least (faults_of (operation_judged d p n))
      → lesser all (least (operations_faults d p (N - n) n)) ≡ whole → lesser more (least (operations_faults d p (N - (n + 1)) (n + 1))) ≡ whole
  step-operation N n all one h e g w =
      let z : N - n ≡ suc (N - (n + 1)) = omega arith in
      let u : lesser all (least (operations_faults d p (suc (N - (n + 1))) n)) ≡ _ = rw z at w in
      rw (e, g, add-one n) (sym (lesser-all all (least (faults_of (operation_judged d p n))) (least (operations_faults d p (N - suc n) (suc n))))
      ∙ ap (lesser all) (sym (next-operation (N - suc n) n)) ∙ rw add-one at u)

  pub start-operation : (N : ℕ) → lesser none (least (operations_faults d p (N - 0) 0)) ≡ least (operations_faults d p N 0)
  start-operation N = let z : N - 0 ≡ N = omega arith in rw z

  pub stop-operation : (N n : ℕ) (all : Option W.Fault) {whole : Option W.Fault} → N ≤ n → lesser all (least (operations_faults d p (N - n) n)) ≡ whole → all ≡ whole
  unfolding operations_faults least
  stop-operation N n all h w =
      let z : N - n ≡ 0 = omega arith in
      let u : lesser all (least (operations_faults d p 0 n)) ≡ _ = rw z at w in
      sym (lesser-none all) ∙ u

-- ---- What is kept.

pub listed_of : {facs exprs marks places memo acts beside states labels ops kept : List ℕ} {d : Description} {p : Places} (k : ℕ)
    → Acting facs exprs marks places memo acts beside states labels ops d p → Performed kept k d p → k ≤ 256
    → Listed facs exprs marks places memo acts beside states labels kept k d p (operation_below d p k)
listed_of {facs = facs} {d = d} {p = p} k s r h = record {
  count = s.declared.count;
  shown = s.shown;
  action = s.action;
  place = s.place;
  label = s.label;
  operation = λ o l m. r.operation o (omega arith) m ∙ ap (λ (j : Judged). seen (worked j)) (sym (operation-lt d p k o m));
  unknown = λ o l. operation-ge d p k o l;
}

pub perform-first : (kept : List ℕ) (d : Description) (p : Places) → Performed kept 0 d p
perform-first kept d p = record { operation = λ o l m. absurd (omega arith) }

module _ {d : Description} {p : Places} {n : ℕ} where
  pub perform-all : {kept : List ℕ} (N : ℕ) → n ≤ N → N ≤ n → Performed kept n d p → Performed kept N d p
  perform-all N g h r = record { operation = λ o l m. r.operation o l (omega arith) }

  pub perform-next : {kept after : List ℕ} {v : Verdict} → Performed kept n d p → v ≡ seen (operation_judged d p n)
      → (n < 256 → recalled after n ≡ work_of v) → ((i : ℕ) → i < n → i < 256 → recalled after i ≡ recalled kept i) → Performed after (n + 1) d p
  perform-next {kept} {after} {v} r e here others = record { operation = λ o l m. by-test o l m (eqb o n) refl }
    where
      by-test : (o : ℕ) → o < 256 → o < n + 1 → (b : Bool) → eqb o n ≡ b → recalled after o ≡ seen (worked (operation_judged d p o))
      by-test o l m true t =
          let q : o ≡ n = eqb-true o n t in
          rw q (here (omega arith) ∙ ap work_of e ∙ worked-seen (operation_judged d p n))
      by-test o l m false t = let q : o < n = omega (arith, eqb-false o n t) in others o q l ∙ r.operation o l q
