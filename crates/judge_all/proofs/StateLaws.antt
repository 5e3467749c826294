-- States one after the other.
use mathlib.Core.Bool.{Bool, true, false, cond, false≢true}
use mathlib.Core.List.{List, [], ◌∷◌, ◌++◌}
use mathlib.Core.Option.{Option, none, some}
use mathlib.Core.Path.{◌≡◌, refl, sym, ap, ◌∙◌}
use native.Mathlib.Numerals.{add-one}
use native.Mathlib.Omega.{arith}
use Prim.Native.Nat.{ℕ, suc, ◌+◌, ◌*◌, ◌<◌, ◌≤◌}
use borrow.Author.Tests.{ne_eqb}
use lib.Dec.{eqb}
use lib.ListN.{drop, drop_of_length-le, get_or, length}
use lib.Seq.{drop-cons}
use Rattle.language.specs.ActionRules.{operation_below, run_judged}
use Rattle.language.specs.Decode.{node_of}
use Rattle.language.specs.Description as D
use Rattle.language.specs.Description.{Description, Node, Places, Run, State, StatePlaces, constant_value, no_run, state_at, state_place}
use Rattle.language.specs.Judging.{Judged, faults_of}
use Rattle.language.specs.Rules.{borne, missing, own_faults, state_faults, states_faults, value_faults}
use Rattle.language.specs.WordStage.{least}
use Rattle.language.specs.Words as W
use Rattle.text_words.proofs.Least.{least-both, lesser-all, lesser-none}
use Rattle.text_words.specs.declared.Fault.{Fault}
use Rattle.text_words.specs.Meaning.{faulted, lesser}
use Rattle.image_records.specs.References.{widened_node}
use Rattle.image_sections.specs.Declarations.{value_meant}
use Rattle.judge_records.specs.Noted.{large_no}
use Rattle.judge_verdicts.proofs.VerdictLaws.{is-faulty}
use Rattle.std.specs.Prelude as C
use Rattle.std.specs.Prelude.{Err}
use Rattle.std.specs.Option.{is_some}
use Rattle.judge_verdicts.specs.Meaning.{seen}
use Rattle.judge_terms.specs.Shown.{node_noted}
use Rattle.judge_actions.specs.Listed.{list_at}
use Rattle.judge_all.specs.Stated.{Stated, Valued, values_before, wanted_length}

-- ---- What is shown of values.

widened-value : (a b : ℕ) (x : Node) → constant_value (widened_node a b x) ≡ constant_value x
widened-value a b (D.constant v) = refl
widened-value a b (D.more k) = refl
widened-value a b (D.whole f) = refl
widened-value a b (D.one f e) = refl
widened-value a b (D.part f e) = refl
widened-value a b (D.two f e g) = refl
widened-value a b (D.word_part f e g) = refl
widened-value a b (D.binary k e g) = refl
widened-value a b (D.prefix k e) = refl
widened-value a b (D.cut k e g) = refl
widened-value a b (D.first_arm e) = refl
widened-value a b (D.next_arm e g) = refl
widened-value a b (D.choice e g k) = refl
widened-value a b D.Node.broken = refl

pub valued-of : {facs exprs marks places memo acts beside states labels ops spots : List ℕ} {d : Description} {p : Places}
    → Stated facs exprs marks places memo acts beside states labels ops spots d p → Valued exprs states d
unfolding node_noted
valued-of {exprs = exprs} {places = places} s = record {
  constant = λ n. ap constant_value (s.acting.declared.records.nodes n) ∙ widened-value (large_no places (3 * n + 1)) (large_no places (3 * n + 2)) (node_of exprs n);
  state = s.state;
}

-- ---- One state.

module _ (d : Description) (p : Places) where
  -- A value is missing where one is wanted and there is none.
  pub there-unwanted : (w : C.Option ℕ) (v : Option ℕ) → is_some w ≡ false → true ≡ cond (missing d p (wanted_length w) v) false true
  unfolding wanted_length
  there-unwanted C.None v e = refl
  there-unwanted (C.Some l) v e = absurd (false≢true (sym e))

  pub there-wanted : (w v : C.Option ℕ) → is_some w ≡ true → is_some v ≡ cond (missing d p (wanted_length w) (value_meant v)) false true
  unfolding wanted_length
  there-wanted C.None v e = absurd (false≢true e)
  there-wanted (C.Some l) C.None e = refl
  there-wanted (C.Some l) (C.Some k) e = refl

  pub own-faulty : (l : Option ℕ) (q : W.Position) (s : State) (j : Judged) (g : Fault) → Err g ≡ seen j → some (faulted g) ≡ least (own_faults d p l q s j)
  unfolding least
  own-faulty l q s j g e = is-faulty j g (λ k. some (faulted g) ≡ least (own_faults d p l q s k)) e (λ f fs m. ap (λ (x : Fault). some (faulted x)) m)

  pub run_is : (k : ℕ) → length d.operations ≡ k → (r : Run) {a : Run} → r ≡ a
      → list_at d p true (operation_below d p k) r.count r.first ≡ run_judged d p true (operation_below d p (length d.operations)) a
  unfolding list_at run_judged
  run_is k e r q = rw (e, ← q)

  pub state-is : (l : Option ℕ) (before : List ℕ) (at : StatePlaces) (s : State) {j : Judged}
      → j ≡ run_judged d p true (operation_below d p (length d.operations)) s.actions
      → cond (eqb (length (value_faults d p l before at.value s.value)) 0) (own_faults d p l at.at s j) (value_faults d p l before at.value s.value ++ faults_of j)
      ≡ state_faults d p l before at s
  unfolding state_faults
  state-is l before at s e = rw e

pub value-passed : (x y z : List W.Fault) {o : Option W.Fault} → none ≡ least x → o ≡ least y → o ≡ least (cond (eqb (length x) 0) y (x ++ z))
unfolding least
value-passed [] y z e f = f
value-passed (g ∷ gs) y z e f = absurd (let w : ◌≡◌ {A = ℕ} 0 1 = cc in omega arith)

pub value-refused : (x y z : List W.Fault) {o : Option W.Fault} (g : Fault) → some (faulted g) ≡ least x → o ≡ least (x ++ z)
    → o ≡ least (cond (eqb (length x) 0) y (x ++ z))
unfolding least
value-refused [] y z g e w = absurd (let t : ◌≡◌ {A = ℕ} 0 1 = cc in omega arith)
value-refused (h ∷ hs) y z g e w =
    w ∙ ap (λ (b : Bool). least (cond b y ((h ∷ hs) ++ z))) (sym (ne_eqb (suc (length hs)) 0 (λ (t : suc (length hs) ≡ 0). omega arith)))

-- ---- The rest of them.

module _ (d : Description) (p : Places) where
  abbrev pub states_from : Option ℕ → ℕ → Option W.Fault
  states_from l n = least (states_faults d p l (values_before d p n) n (drop n d.states))

  abbrev pub state_here : Option ℕ → ℕ → Option W.Fault
  state_here l n = least (state_faults d p l (values_before d p n) (state_place p n) (state_at d n))

  abbrev no_state : State
  no_state = record { name = []; value = none; actions = no_run }

  next-state : (l : Option ℕ) (n : ℕ) → n < length d.states → states_from l n ≡ lesser (state_here l n) (states_from l (n + 1))
  unfolding states_faults state_at values_before
  next-state l n h =
      ap (λ (ss : List State). least (states_faults d p l (values_before d p n) n ss)) (drop-cons d.states n no_state h)
      ∙ least-both (state_faults d p l (values_before d p n) (state_place p n) (get_or d.states n no_state)) (states_faults d p l (borne d p (values_before d p n) (get_or d.states n no_state).value) (suc n) (drop (suc n) d.states))
      ∙ rw (add-one n)

  pub start-state : (l : Option ℕ) → lesser none (states_from l 0) ≡ least (states_faults d p l [] 0 d.states)
  unfolding values_before
  start-state l = refl

  module _ (l : Option ℕ) (N n : ℕ) (c : length d.states ≡ N) (all : Option W.Fault) {whole : Option W.Fault} (w : lesser all (states_from l n) ≡ whole) where
    pub step-state : {one more : Option W.Fault} → n < N → more ≡ lesser all one → one ≡ state_here l n → lesser more (states_from l (n + 1)) ≡ whole
    step-state h e g =
        rw (e, g) (sym (lesser-all all (state_here l n) (states_from l (n + 1))) ∙ ap (lesser all) (sym (next-state l n (omega arith))) ∙ w)

    pub stop-state : N ≤ n → all ≡ whole
    unfolding states_faults least
    stop-state h =
        let g : length d.states ≤ n = omega arith in
        let u : lesser all (least (states_faults d p l (values_before d p n) n [])) ≡ _ = rw (drop_of_length-le d.states g) at w in
        sym (lesser-none all) ∙ u
