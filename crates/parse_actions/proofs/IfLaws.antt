-- IF with one arm, and with ELSE.
use mathlib.Core.Bool.{Bool, true, false}
use mathlib.Core.List.{List, [], ◌∷◌, ◌++◌}
use mathlib.Core.Path.{◌≡◌, refl, sym, ◌∙◌}
use Prim.Native.Nat.{ℕ, ◌+◌, ◌-◌, ◌<◌}
use native.Mathlib.Omega.{arith}
use borrow.Author.Tests.{eqb-false, eqb-true}
use lib.Dec.{eqb}
use Rattle.parse_step.specs.declared.Bearing.TheVariants.{Closes}
use Rattle.parse_step.specs.declared.State.{State}
use Rattle.parse_step.specs.Course.{Stack, counts_of, kind_no, runs}
use Rattle.parse_step.specs.Says.{pushed}
use Rattle.parse_step.specs.Taken.{Expected}
use Rattle.language.specs.Building.{Built, expression_no, joined, keep_word, list_no, with_lists, word_no}
use Rattle.language.specs.Declaring.{tree_steps}
use Rattle.language.specs.Describe.{act, actions_in, actions_of, arms_in}
use Rattle.language.specs.Description as D
use Rattle.language.specs.Encode.{action_bytes}
use Rattle.language.specs.Kinds.{end_if_word, if_word}
use Rattle.language.specs.Machine.{ask}
use Rattle.language.specs.Naming.{Scope}
use Rattle.language.specs.Tree as T
use Rattle.language.specs.Tree.{Actions, Expression}
use Rattle.parse_tables.specs.declared.meaning.KnownNames.{KnownNames}
use Rattle.parse_expressions.proofs.StartLaws.{at_same}
use Rattle.parse_expressions.specs.Phrases.{at_nesting}
use Rattle.parse_stores.proofs.Joining.{written_then}
use Rattle.parse_stores.specs.Actions.{Standing, Written}
use Rattle.parse_tables.specs.declared.Table.TheVariants as Tb
use Rattle.parse_tables.specs.Rows.{Wrote}
use Rattle.text_words.specs.declared.Word.{Word}
use Rattle.text_words.specs.Meaning.{positioned}
use Rattle.parse_array.specs.Layout.{most_actions}
use Rattle.parse_actions.proofs.ArmLaws.{paid-arms}
use Rattle.parse_actions.proofs.EndLaws.{choose-written, concluded, when-written}
use Rattle.parse_actions.proofs.Laying.{headed, place-again}
use Rattle.parse_actions.proofs.ListWords.{end-if-comes}
use Rattle.parse_actions.proofs.Room.{few-actions, few-nodes, standing-acts}
use Rattle.parse_actions.specs.Lists.{Arm, ArmRead, Condition, ConditionRead, Conditional, Else, OneBranch, Told, action_ask, else_stack, own_stack, rest_ask, sign_of}
use Rattle.parse_step.specs.Answers.{Answer}
use Rattle.parse_step.specs.declared.Reached.{Reached}
use Rattle.parse_step.proofs.Answers.{not_ok}
use Rattle.std.specs.Prelude.{IsErr, Ok}

module _ (q : Bool) {text : List ℕ} {n : KnownNames} {w : Word} {s : State} {work work₁ : List ℕ} {c : Answer} (x : Condition false text n w s work work₁ c) where
  pub if-not : IsErr c → Conditional q false text n w s work work₁ c
  if-not m e sc st = let y = x e q sc st in record { done = λ d. not_ok m d; refused = y.refused; full = y.full }

  module _ {c' : Reached} (d₁ : c ≡ Ok c') {work₂ : List ℕ} {a : Answer} (y : Arm q text n c'.next c'.state work₁ work₂ a) where
    module _ (e : kind_no w.kind ≡ if_word) {sc : Scope} (st : Standing text sc n w s s.actions work) where
      head : ConditionRead false text sc n w s work work₁ c'
      head = (x e q sc st).done d₁

      then-told : Told text (own_stack q) c'.next c'.state a (ArmRead (own_stack q) [] text sc n c'.next c'.state work₁ work₂)
      then-told = y sc head.standing

    pub then-not : IsErr a → Conditional q false text n w s work work₂ a
    then-not m e sc st = record {
      done = λ d. not_ok m d;
      refused = λ f d K b. (head e st).course q K b ∙ (then-told e st).refused f d (ask (rest_ask q) ∷ K) (pushed (head e st).tree (keep_word (sign_of false w) b));
      full = (then-told e st).full;
    }

    module _ {a' : Reached} (d₂ : a ≡ Ok a') where
      -- What is built behind the first arm.
      abbrev held : Expression → Actions → Built → Built
      held t l b = with_lists (pushed t (keep_word (sign_of false w) b)) (l ∷ b.lists)

      module _ (e : kind_no w.kind ≡ if_word) {sc : Scope} (st : Standing text sc n w s s.actions work) where
        first : ArmRead (own_stack q) [] text sc n c'.next c'.state work₁ work₂ a'
        first = (then-told e st).done d₂

        first-course : (K : Stack) (b : Built) → runs text (ask (action_ask q) ∷ K) w b s ≡ runs text (ask (rest_ask q) ∷ K) a'.next (held (head e st).tree first.tree b) a'.state
        first-course K b = (head e st).course q K b ∙ first.course (ask (rest_ask q) ∷ K) (pushed (head e st).tree (keep_word (sign_of false w) b))

      -- ---- One arm.

      pub if-says : {z : Bool} → z ≡ eqb (kind_no a'.next.kind) end_if_word → z ≡ true → {t : Answer} → Expected text end_if_word Closes a'.next a'.state t → {work₃ : List ℕ}
          → (s.actions < most_actions → c'.state.actions < most_actions → OneBranch s.actions c'.state.actions (c'.state.nodes - 1) a'.state.actions w.at work₂ work₃) → Conditional q false text n w s work work₃ t
      unfolding word_no expression_no list_no actions_of actions_in
      if-says f₁ f₂ {t} u {work₃} v₀ e sc st =
          concluded q st h.entered h.laid.count o.paid o.standing v.place.still (T.when (positioned w.at) h.tree o.tree T.done) written u (omega arith) tree_steps.make_when (held h.tree o.tree)
          (λ K b. first-course e st K b ∙ end-if-comes text a'.next o.standing.seen (held h.tree o.tree b) (counts_of a'.state) (eqb-true (kind_no a'.next.kind) end_if_word (sym f₁ ∙ f₂)) q K) (λ b p. refl)
        where
          k : ℕ
          k = c'.state.nodes - 1

          h : ConditionRead false text sc n w s work work₁ c'
          h = head e st

          o : ArmRead (own_stack q) [] text sc n c'.next c'.state work₁ work₂ a'
          o = first e st

          v : OneBranch s.actions c'.state.actions k a'.state.actions w.at work₂ work₃
          v = v₀ (omega (arith, few-actions st)) (omega (arith, h.laid.count, few-actions st))

          m : ℕ
          m = a'.state.actions - s.actions - 1

          written : Written sc (T.when (positioned w.at) h.tree o.tree T.done) s work a'.state work₃
          written =
              when-written (positioned w.at) h.tree o.tree h.laid.nodes refl (omega (arith, h.laid.count, o.written.count))
              (place-again st.whole (omega (arith, few-actions o.standing)) (few-nodes o.standing) (act (D.when k m) (positioned w.at)) (act (D.arm (actions_in o.tree)) D.nowhere) (actions_of sc c'.state.nodes o.tree ++ []) (positioned w.at)
              h.laid.count (omega arith)
              (headed (T.arm o.tree T.done) (D.when k m) st.whole (omega (arith, few-actions o.standing)) (few-nodes o.standing) h.laid o.written v.again) v.place)

      -- ---- ELSE.

      module _ {f : Bool} (f₁ : f ≡ eqb (kind_no a'.next.kind) end_if_word) (f₂ : f ≡ false) {i : State} (g : i ≡ at_nesting a'.state c'.state.nesting) {work₃ : List ℕ} {o : Answer} (z : Else q text n a'.next i work₂ work₃ o) where
        other-told : kind_no w.kind ≡ if_word → {sc : Scope} → Standing text sc n w s s.actions work
            → Told text (ask (rest_ask q) ∷ []) a'.next a'.state o (ArmRead (ask (rest_ask q) ∷ []) else_stack text sc n a'.next a'.state work₂ work₃)
        other-told e {sc} st =
            let p = first e st in
            let j : i ≡ a'.state = g ∙ at_same a'.state c'.state.nesting p.paid.nesting in
            let z₁ : Else q text n a'.next a'.state work₂ work₃ o = rw j at z in
            z₁ (eqb-false (kind_no a'.next.kind) end_if_word (sym f₁ ∙ f₂)) sc (standing-acts (a'.state.actions + 1) p.standing (omega (arith, p.paid.actions, (head e st).standing.actions)))

        pub other-not : IsErr o → Conditional q false text n w s work work₃ o
        other-not m e sc st = record {
          done = λ d. not_ok m d;
          refused = λ v d K b. first-course e st K b ∙ (other-told e st).refused v d K (held (head e st).tree (first e st).tree b);
          full = (other-told e st).full;
        }

        pub if-else-says : {o' : Reached} → o ≡ Ok o' → {t : Answer} → Expected text end_if_word Closes o'.next o'.state t → {work₄ : List ℕ}
            → (s.actions < most_actions → Wrote Tb.Actions s.actions (action_bytes (D.choose (c'.state.nodes - 1) 2 (o'.state.actions - s.actions - 1))) work₃ work₄) → Conditional q false text n w s work work₄ t
        unfolding word_no expression_no list_no joined arms_in
        if-else-says {o' = o'} d {t} u {work₄} v₀ e sc st =
            concluded q st h.entered h.laid.count (paid-arms c'.state.actions p.paid r.paid) r.standing v.still (T.choose (positioned w.at) h.tree arms T.done) written u (omega arith) tree_steps.make_if
            (λ b. with_lists (pushed h.tree (keep_word (sign_of false w) b)) (r.tree ∷ p.tree ∷ b.lists)) (λ K b. first-course e st K b ∙ r.course K (held h.tree p.tree b)) (λ b y. refl)
          where
            k : ℕ
            k = c'.state.nodes - 1

            h : ConditionRead false text sc n w s work work₁ c'
            h = head e st

            p : ArmRead (own_stack q) [] text sc n c'.next c'.state work₁ work₂ a'
            p = first e st

            r : ArmRead (ask (rest_ask q) ∷ []) else_stack text sc n a'.next a'.state work₂ work₃ o'
            r = (other-told e st).done d

            v : Wrote Tb.Actions s.actions (action_bytes (D.choose k 2 (o'.state.actions - s.actions - 1))) work₃ work₄
            v = v₀ (omega (arith, few-actions st))

            arms : Actions
            arms = T.arm p.tree (T.arm r.tree T.done)

            both : Written sc arms c'.state work₁ o'.state work₃
            both = written_then p.written r.written

            two : 2 ≡ arms_in arms
            two = refl

            written : Written sc (T.choose (positioned w.at) h.tree arms T.done) s work o'.state work₄
            written =
                choose-written (positioned w.at) h.tree arms h.laid.nodes refl two (omega (arith, h.laid.count, both.count))
                (headed arms (D.choose k 2 (o'.state.actions - s.actions - 1)) st.whole (omega (arith, few-actions r.standing)) (few-nodes r.standing) h.laid both v)
