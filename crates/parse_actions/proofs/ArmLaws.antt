-- Arms: lists of their own, each behind a record.
use mathlib.Core.Bool.{Bool, true, false}
use mathlib.Core.List.{List, [], ◌∷◌, ◌++◌, append-nil}
use mathlib.Core.Path.{◌≡◌, refl, sym, ap, ◌∙◌, subst}
use Prim.Native.Nat.{ℕ, ◌+◌, ◌-◌, ◌<◌, ◌≤◌}
use native.Mathlib.Omega.{arith}
use borrow.Author.Tests.{eqb-false, eqb-true}
use lib.Dec.{eqb}
use Rattle.parse_step.proofs.Ceilings.{few-counted}
use Rattle.parse_step.proofs.Saying.{makes-it}
use Rattle.parse_step.proofs.TakenWords.{took-done, took-refused}
use Rattle.parse_step.specs.declared.Bearing.TheVariants.{Level}
use Rattle.parse_step.specs.declared.State.{State}
use Rattle.parse_step.specs.Gained.{with_action_count}
use Rattle.parse_step.specs.Course.{Seen, Stack, counts_of, kind_no, runs}
use Rattle.parse_step.specs.Taken.{Expected, Passed, Took, after_word}
use Rattle.about_grammar.specs.Conditionals.{joined-assoc}
use Rattle.language.specs.Building.{Built, joined, list_no, with_lists}
use Rattle.language.specs.Declaring.{tree_steps}
use Rattle.language.specs.Describe.{act, actions_in, actions_of, arms_in, expressions_in, nodes_in}
use Rattle.language.specs.Description as D
use Rattle.language.specs.Encode.{action_bytes}
use Rattle.language.specs.Kinds.{do_word, else_word, end_if_word}
use Rattle.language.specs.Machine.{ask, make}
use Rattle.language.specs.Naming.{Scope}
use Rattle.language.specs.Tree as T
use Rattle.language.specs.Tree.{Actions}
use Rattle.parse_tables.specs.declared.meaning.KnownNames.{KnownNames}
use Rattle.parse_expressions.proofs.StartLaws.{at_same}
use Rattle.parse_expressions.specs.Phrases.{at_nesting, same}
use Rattle.parse_stores.proofs.Joining.{grown-two, written_then}
use Rattle.parse_stores.proofs.Standings.{standing-passed}
use Rattle.parse_stores.specs.Actions.{Acts, Paid, Reads, Standing, grown}
use Rattle.parse_stores.specs.Leaves.{Puts}
use Rattle.parse_tables.specs.declared.Table.TheVariants as Tb
use Rattle.parse_tables.specs.Rows.{Wrote}
use Rattle.text_words.specs.declared.Position.{Position}
use Rattle.text_words.specs.declared.Word.{Word}
use Rattle.text_words.specs.Meaning.{positioned}
use Rattle.parse_array.specs.Layout.{most_actions}
use Rattle.parse_actions.proofs.Laying.{first-kept, headed, laid-added, laid-written}
use Rattle.parse_actions.proofs.ListLaws.{at_level, level-same}
use Rattle.parse_actions.proofs.ListWords.{do-comes, else-comes, no-do}
use Rattle.parse_actions.proofs.Room.{few-actions, few-nodes, standing-acts, standing-counted, standing-kept}
use Rattle.parse_actions.specs.Laid.{Laid, one_more}
use Rattle.parse_expressions.specs.declared.pieces.Armed.{Armed}
use Rattle.parse_actions.specs.Lists.{Arm, ArmRead, Arms, ArmsRead, Else, NextArm, Told, arm_stack, arms_ask, else_stack, list_stack, own_stack, rest_ask}
use Rattle.parse_step.specs.declared.Unread.{Unread}
use Rattle.parse_step.specs.Answers.{Answer}
use Rattle.parse_step.specs.declared.Reached.{Reached}
use Rattle.parse_step.specs.declared.Unread.{Unread}
use Rattle.parse_step.proofs.Answers.{at_ok, err_as, not_ok, ok_err}
use Rattle.std.specs.Prelude.{Err, IsErr, Ok}

-- ---- One arm.

-- A state that counts another number of action records pays as much.
paid-counted : {s s' : State} {acts : ℕ} (k : ℕ) → Paid (with_action_count s k) acts s' → Paid s acts s'
paid-counted k p = record { facilities = p.facilities; operations = p.operations; states = p.states; known = p.known; nesting = p.nesting; counted = p.counted; nodes = p.nodes; actions = p.actions }

module _ (q : Bool) {text : List ℕ} {n : KnownNames} {w : Word} {s : State} {at : Position} {work work₁ : List ℕ} {f : Answer} (x : Puts D.Action.broken at w s work work₁ f) where
  pub arm_full : IsErr f → Arm q text n w s work work₁ f
  arm_full m sc st = record { done = λ d. not_ok m d; refused = λ g d. absurd (x.refused g d); full = λ d. omega (arith, x.full d, few-actions st) }

  module _ {f' : Reached} (d₁ : f ≡ Ok f') {work₂ : List ℕ} {r : Answer} (y₀ : Acts (list_stack q) same text n w f'.state work₁ work₂ r) where
    list-in : (sc : Scope) → Standing text sc n w s (s.actions + 1) work → Reads text sc n (list_stack q) [] (same text) w (one_more s) work₁ work₂ r
    list-in sc st =
        let a = x.added d₁ in
        let y : Acts (list_stack q) same text n w (one_more s) work₁ work₂ r = rw (x.state d₁) at y₀ in
        y sc (standing-counted (s.actions + 1) (standing-kept st (a.kept refl).tables x.whole))

    begins : (K : Stack) (b : Built) → runs text (own_stack q ++ K) w b s ≡ runs text (list_stack q ++ K) w (with_lists b (T.done ∷ b.lists)) s
    begins K b = makes-it text tree_steps.begin_arm (list_stack q ++ K) w b (with_lists b (T.done ∷ b.lists)) s (λ p. refl)

    pub arm-not : IsErr r → Arm q text n w s work work₂ r
    arm-not m sc st = record { done = λ d. not_ok m d; refused = λ g d K b. begins K b ∙ (list-in sc st).refused g d K (with_lists b (T.done ∷ b.lists)); full = (list-in sc st).full }

    pub arm-says : positioned at ≡ D.nowhere → {r' : Reached} → r ≡ Ok r' → {work₃ : List ℕ} → (s.actions < most_actions → Wrote Tb.Actions s.actions (action_bytes (D.arm (r'.state.actions - s.actions - 1))) work₂ work₃) → Arm q text n w s work work₃ (Ok r')
    unfolding joined list_no expressions_in nodes_in actions_in actions_of
    arm-says p {r' = r'} d {work₃} v₀ sc st =
        let y = (list-in sc st).done d in
        let l = y.tree in
        let v = v₀ (omega (arith, few-actions st)) in
        let c = r'.state.actions - s.actions - 1 in
        let m : c ≡ actions_in l = omega (arith, y.written.count) in
        let z : Laid (0 + expressions_in l) ([] ++ nodes_in sc s.nodes l) (1 + actions_in l) (act (D.arm c) (positioned at) ∷ actions_of sc s.nodes l) s work r'.state work₃ =
        headed l (D.arm c) st.whole (omega (arith, few-actions y.standing)) (few-nodes y.standing) (laid-added s (x.added d₁) st.whole (few-nodes st)) y.written v in
        let e : act (D.arm c) (positioned at) ∷ actions_of sc s.nodes l ≡ act (D.arm (actions_in l)) D.nowhere ∷ (actions_of sc s.nodes l ++ []) = rw (m, p, append-nil (actions_of sc s.nodes l)) in
        record {
          done = λ u. at_ok (ArmRead (own_stack q) [] text sc n w s work work₃) u (record {
            tree = l;
            course = λ K b. begins K b ∙ y.course K (with_lists b (T.done ∷ b.lists));
            written = laid-written (T.arm l T.done) z (omega arith) (sym (append-nil (nodes_in sc s.nodes l))) (omega arith) e;
            paid = paid-counted (s.actions + 1) y.paid;
            standing = standing-kept y.standing (first-kept v.kept) v.still;
          });
          refused = λ g u. ok_err u;
          full = λ u. ok_err u;
        }

-- ---- ELSE and its arm.

-- Behind a word, with one more paid for.
standing-arm : {text : List ℕ} {sc : Scope} {n : KnownNames} {w : Word} {s : State} {work : List ℕ} {t : Reached} → Standing text sc n w s (s.actions + 1) work → Passed text w (after_word false Level s) s t
    → Standing text sc n t.next t.state (t.state.actions + 1) work
standing-arm {text} {sc} {n} {work = work} {t} st p =
    subst (λ (m : ℕ). Standing text sc n t.next t.state (m + 1) work) (sym p.kept.actions) (standing-passed false Level st p)

module _ (q : Bool) {text : List ℕ} {w : Word} {s : State} {t : Answer} (x : Expected text else_word Level w s t) where
  else-course : {t' : Reached} → t ≡ Ok t' → (kind_no w.kind ≡ end_if_word → ⊥) → Seen text w → (K : Stack) (b : Built) → runs text (ask (rest_ask q) ∷ K) w b s ≡ runs text (own_stack q ++ (else_stack ++ K)) t'.next b s
  else-course {t' = t'} d e z K b =
      else-comes text w z b (counts_of s) e q K ∙ (x.done d z (omega arith)).1 (own_stack q ++ (else_stack ++ K)) b
      ∙ ap (λ (v : State). runs text (own_stack q ++ (else_stack ++ K)) t'.next b v) (level-same (x.done d z (omega arith)).0)

module _ (q : Bool) {text : List ℕ} {n : KnownNames} {w : Word} {s : State} {work : List ℕ} {t : Answer} (x : Expected text else_word Level w s t) where
  pub else-not : IsErr t → {work' : List ℕ} → Else q text n w s work work' t
  else-not m e sc st = record {
    done = λ d. not_ok m d;
    refused = λ f d K b. else-comes text w st.seen b (counts_of s) e q K ∙ x.refused f d st.seen (omega arith) (own_stack q ++ (else_stack ++ K)) b;
    full = λ d. absurd (x.full d);
  }

  pub else-says : {t' : Reached} → t ≡ Ok t' → {i : State} → i ≡ at_nesting t'.state s.nesting → {work' : List ℕ} {r : Answer} → Arm q text n t'.next i work work' r → Else q text n w s work work' r
  else-says {t' = t'} d {i} g {work'} {r} y₀ e sc st = record {
    done = λ u. let z = y.done u in
        record { tree = z.tree; course = λ K b. else-course q x d e st.seen K b ∙ z.course (else_stack ++ K) b; written = z.written; paid = z.paid; standing = z.standing };
    refused = λ f u K b. else-course q x d e st.seen K b ∙ y.refused f u (else_stack ++ K) b;
    full = y.full;
  }
    where
      p : Passed text w (after_word false Level s) s t'
      p = (x.done d st.seen (omega arith)).0

      y : Told text (own_stack q) t'.next s r (ArmRead (own_stack q) [] text sc n t'.next s work work')
      y = rw (at_level p g ∙ level-same p) at (y₀ sc (rw (at_level p g) (standing-arm st p)))

-- ---- Arms of CASE.

-- An arm's list becomes an arm.
arm-made : (q : Bool) {text : List ℕ} {sc : Scope} {n : KnownNames} {w : Word} {s : State} {work work' : List ℕ} {r : Reached} → ArmRead (own_stack q) [] text sc n w s work work' r
    → ArmsRead 1 (arm_stack q) (ask (arms_ask q) ∷ []) text sc n w s work work' r
unfolding joined list_no arms_in actions_in
arm-made q {text} {r = r} x = record {
  tree = T.arm x.tree T.done;
  arms = λ t. omega arith;
  counted = omega (arith, x.paid.actions, x.written.count);
  course = λ K b.
      x.course (make tree_steps.make_arm ∷ ask (arms_ask q) ∷ K) b
      ∙ makes-it text tree_steps.make_arm (ask (arms_ask q) ∷ K) r.next (with_lists b (x.tree ∷ b.lists)) (grown (T.arm x.tree T.done) b) r.state (λ p. refl);
  written = x.written;
  paid = x.paid;
  standing = x.standing;
}

made-arms : (q : Bool) {text : List ℕ} {sc : Scope} {n : KnownNames} {w : Word} {s : State} {work work' : List ℕ} {r : Answer} → Told text (own_stack q) w s r (ArmRead (own_stack q) [] text sc n w s work work')
    → Told text (arm_stack q) w s r (ArmsRead 1 (arm_stack q) (ask (arms_ask q) ∷ []) text sc n w s work work')
made-arms q y = record { done = λ d. arm-made q (y.done d); refused = λ f d K b. y.refused f d (make tree_steps.make_arm ∷ ask (arms_ask q) ∷ K) b; full = y.full }

module _ (q : Bool) {text : List ℕ} {w : Word} {s : State} {t : Answer} (x : Took text w (after_word false Level s) s t) where
  do-course : {t' : Reached} → t ≡ Ok t' → kind_no w.kind ≡ do_word → Seen text w → (K : Stack) (b : Built) → runs text (ask (arms_ask q) ∷ K) w b s ≡ runs text (arm_stack q ++ K) t'.next b s
  do-course {t' = t'} d e z K b =
      do-comes text w z b (counts_of s) e q K ∙ took-done (x.done d) z (arm_stack q ++ K) b
      ∙ ap (λ (v : State). runs text (arm_stack q ++ K) t'.next b v) (level-same (x.done d))

module _ (q : Bool) {text : List ℕ} {n : KnownNames} {w : Word} {s : State} {work : List ℕ} {t : Answer} (x : Took text w (after_word false Level s) s t) where
  pub next-arm-not : IsErr t → {work' : List ℕ} → NextArm q text n w s work work' t
  next-arm-not m e sc st = record {
    done = λ d. not_ok m d;
    refused = λ f d K b. do-comes text w st.seen b (counts_of s) e q K ∙ took-refused x f d (arm_stack q ++ K) b;
    full = λ d. absurd (x.full d);
  }

  pub next-arm-says : {t' : Reached} → t ≡ Ok t' → {i : State} → i ≡ at_nesting t'.state s.nesting → {work' : List ℕ} {r : Answer} → Arm q text n t'.next i work work' r → NextArm q text n w s work work' r
  next-arm-says {t' = t'} d {i} g {work'} {r} y₀ e sc st = record {
    done = λ u. let z = y.done u in
        record { tree = z.tree; arms = z.arms; counted = z.counted; course = λ K b. do-course q x d e st.seen K b ∙ z.course K b; written = z.written; paid = z.paid; standing = z.standing };
    refused = λ f u K b. do-course q x d e st.seen K b ∙ y.refused f u K b;
    full = y.full;
  }
    where
      p : Passed text w (after_word false Level s) s t'
      p = x.done d

      y : Told text (arm_stack q) t'.next s r (ArmsRead 1 (arm_stack q) (ask (arms_ask q) ∷ []) text sc n t'.next s work work')
      y = made-arms q (rw (at_level p g ∙ level-same p) at (y₀ sc (rw (at_level p g) (standing-arm st p))))

-- Arms behind arms.
pub paid-arms : {s s₁ s₂ : State} (acts : ℕ) → Paid s (acts + 1) s₁ → Paid s₁ (s₁.actions + 1) s₂ → Paid s (acts + 1) s₂
paid-arms acts x y = record {
  facilities = y.facilities ∙ x.facilities;
  operations = y.operations ∙ x.operations;
  states = y.states ∙ x.states;
  known = y.known ∙ x.known;
  nesting = y.nesting ∙ x.nesting;
  counted = omega (arith, x.counted, y.counted);
  nodes = omega (arith, x.nodes, y.nodes);
  actions = omega (arith, x.actions, y.actions);
}

arms-then : {j k : ℕ} {P Q R : Stack} {text : List ℕ} {sc : Scope} {n : KnownNames} {w : Word} {s : State} {work work₁ work₂ : List ℕ} {r r₂ : Reached} → ArmsRead j P Q text sc n w s work work₁ r
    → ArmsRead k Q R text sc n r.next r.state work₁ work₂ r₂ → (m : ℕ) → m ≡ j + k → ArmsRead m P R text sc n w s work work₂ r₂
arms-then {j} {k} {s = s} x y m e = record {
  tree = joined x.tree y.tree;
  arms = λ t. ap arms_in (joined-assoc x.tree y.tree t) ∙ x.arms (joined y.tree t) ∙ ap (λ (v : ℕ). j + v) (y.arms t) ∙ omega (arith, e);
  counted = omega (arith, x.counted, y.counted);
  course = λ K b. x.course K b ∙ y.course K (grown x.tree b) ∙ rw (grown-two x.tree y.tree b);
  written = written_then x.written y.written;
  paid = paid-arms s.actions x.paid y.paid;
  standing = y.standing;
}

-- So far.
abbrev pub Arming : Bool → List ℕ → KnownNames → Word → State → List ℕ → ℕ → Answer → List ℕ → Type 0
Arming q text n w s work count r work' =
    (sc : Scope) → Standing text sc n w s (s.actions + 1) work → Told text (arm_stack q) w s r (ArmsRead count (arm_stack q) (ask (arms_ask q) ∷ []) text sc n w s work work')

pub arming-begin : (q : Bool) {text : List ℕ} {n : KnownNames} {w : Word} {s : State} {work work' : List ℕ} {r : Answer} → Arm q text n w s work work' r → Arming q text n w s work 1 r work'
arming-begin q x sc st = made-arms q (x sc st)

module _ (q : Bool) {text : List ℕ} {n : KnownNames} {w : Word} {s : State} {work : List ℕ} {count : ℕ} {r : Answer} {work' : List ℕ} (g : Arming q text n w s work count r work') where
  pub arming-more : {r' : Reached} → r ≡ Ok r' → {z : Bool} → z ≡ eqb (kind_no r'.next.kind) do_word → z ≡ true → {i : State} → i ≡ at_nesting r'.state s.nesting → {work₂ : List ℕ} {r₂ : Answer} → NextArm q text n r'.next i work' work₂ r₂
      → {m : ℕ} → m ≡ count + 1 → Arming q text n w s work m r₂ work₂
  arming-more {r' = r'} d e₁ e₂ {i} h {work₂} {r₂} y₀ {m} f sc st =
      let x = (g sc st).done d in
      let j : i ≡ r'.state = h ∙ at_same r'.state s.nesting x.paid.nesting in
      let y₁ : NextArm q text n r'.next r'.state work' work₂ r₂ = rw j at y₀ in
      let y = y₁ (eqb-true (kind_no r'.next.kind) do_word (sym e₁ ∙ e₂)) sc (standing-acts (r'.state.actions + 1) x.standing (omega (arith, x.paid.actions, st.actions))) in
      record {
        done = λ u. arms-then x (y.done u) m f;
        refused = λ v u K b. x.course K b ∙ y.refused v u K (grown x.tree b);
        full = y.full;
      }

pub arms-not : (q : Bool) {text : List ℕ} {n : KnownNames} {w : Word} {s : State} {work : List ℕ} {count : ℕ} {u : Unread} {work' : List ℕ} → Arming q text n w s work count (Err u) work' → Arms q text n w s work work' (Err u)
arms-not q g sc st = let y = g sc st in record { done = λ d. ok_err (sym d); refused = λ f d. y.refused f (err_as d); full = λ d. y.full (err_as d) }

module _ (q : Bool) {text : List ℕ} {n : KnownNames} {w : Word} {s : State} {work : List ℕ} {count : ℕ} {r : Reached} {work' : List ℕ} (g : Arming q text n w s work count (Ok r) work') where
  armed : (sc : Scope) → ArmsRead count (arm_stack q) [] text sc n w s work work' r → Told {A = Armed} text (arm_stack q) w s (Ok (record { reached = r; count = count })) (λ a. ArmsRead a.count (arm_stack q) [] text sc n w s work work' a.reached)
  armed sc z = record { done = λ d. at_ok (λ a. ArmsRead a.count (arm_stack q) [] text sc n w s work work' a.reached) d z; refused = λ f d. ok_err d; full = λ d. ok_err d }

  pub arms_end : {z : Bool} → z ≡ eqb (kind_no r.next.kind) do_word → z ≡ false → Arms q text n w s work work' (Ok (record { reached = r; count = count }))
  arms_end e₁ e₂ sc st =
      let z = (g sc st).done refl in
      armed sc (record {
        tree = z.tree;
        arms = z.arms;
        counted = z.counted;
        course = λ K b. z.course K b ∙ no-do text r.next z.standing.seen (grown z.tree b) (counts_of r.state) (eqb-false (kind_no r.next.kind) do_word (sym e₁ ∙ e₂)) q K;
        written = z.written;
        paid = z.paid;
        standing = z.standing;
      })

  -- No more words can be counted.
  pub arms-long : {m : ℕ} → 2049 ≤ count → Arms q text n w s work work' (Ok (record { reached = r; count = m }))
  arms-long h sc st = let z = (g sc st).done refl in absurd (omega (arith, h, z.counted, few-counted (counts_of r.state) z.standing.within))
