-- CASE, by its arms.
use mathlib.Core.Bool.{Bool, true}
use mathlib.Core.List.{List, [], ◌∷◌}
use mathlib.Core.Path.{◌≡◌, refl, sym, ap, ◌∙◌}
use Prim.Native.Nat.{ℕ, ◌-◌, ◌<◌}
use native.Mathlib.Omega.{arith}
use Rattle.parse_step.specs.declared.Bearing.TheVariants.{Closes}
use Rattle.parse_step.specs.declared.State.{State}
use Rattle.parse_step.specs.Course.{Stack, kind_no}
use Rattle.parse_step.specs.Says.{pushed}
use Rattle.parse_step.specs.Taken.{Expected}
use Rattle.about_grammar.specs.Conditionals.{joined-done}
use Rattle.language.specs.Building.{expression_no, joined, keep_word, list_no, with_lists, word_no}
use Rattle.language.specs.Declaring.{tree_steps}
use Rattle.language.specs.Describe.{arms_in}
use Rattle.language.specs.Description as D
use Rattle.language.specs.Encode.{action_bytes}
use Rattle.language.specs.Kinds.{case_word, end_case_word}
use Rattle.language.specs.Machine.{closes, make, word}
use Rattle.language.specs.Naming.{Scope}
use Rattle.language.specs.Tree as T
use Rattle.parse_tables.specs.declared.meaning.KnownNames.{KnownNames}
use Rattle.parse_stores.specs.Actions.{Standing, Written}
use Rattle.parse_tables.specs.declared.Table.TheVariants as Tb
use Rattle.parse_tables.specs.Rows.{Wrote}
use Rattle.text_words.specs.declared.Word.{Word}
use Rattle.text_words.specs.Meaning.{positioned}
use Rattle.parse_array.specs.Layout.{most_actions}
use Rattle.parse_actions.proofs.EndLaws.{choose-written, concluded}
use Rattle.parse_actions.proofs.Laying.{headed}
use Rattle.parse_actions.proofs.Room.{few-actions, few-nodes}
use Rattle.parse_expressions.specs.declared.pieces.Armed.{Armed}
use Rattle.parse_actions.specs.Lists.{Arms, ArmsRead, Condition, ConditionRead, Conditional, Told, arm_stack, sign_of}
use Rattle.parse_step.specs.Answers.{Answer}
use Rattle.parse_step.specs.declared.Reached.{Reached}
use Rattle.parse_step.specs.declared.Unread.{Unread}
use Rattle.parse_step.proofs.Answers.{err_as, not_ok, ok_err}
use Rattle.std.specs.Prelude.{Err, IsErr, Ok, Result}

module _ (q : Bool) {text : List ℕ} {n : KnownNames} {w : Word} {s : State} {work work₁ : List ℕ} {c : Answer} (x : Condition true text n w s work work₁ c) where
  pub case-not : IsErr c → Conditional q true text n w s work work₁ c
  case-not m e sc st = let y = x e q sc st in record { done = λ d. not_ok m d; refused = y.refused; full = y.full }

  module _ {c' : Reached} (d₁ : c ≡ Ok c') {work₂ : List ℕ} {a : Result Armed Unread} (y : Arms q text n c'.next c'.state work₁ work₂ a) where
    -- What is built when the arms begin.
    module _ (e : kind_no w.kind ≡ case_word) {sc : Scope} (st : Standing text sc n w s s.actions work) where
      head : ConditionRead true text sc n w s work work₁ c'
      head = (x e q sc st).done d₁

      told : Told text (arm_stack q) c'.next c'.state a (λ b. ArmsRead b.count (arm_stack q) [] text sc n c'.next c'.state work₁ work₂ b.reached)
      told = y sc head.standing

    ending : Stack → Stack
    ending K = word end_case_word closes ∷ make tree_steps.make_choose ∷ K

    pub arms-refused : {u : Unread} → a ≡ Err u → Conditional q true text n w s work work₂ (Err u)
    unfolding ending
    arms-refused i e sc st = record {
      done = λ d. ok_err (sym d);
      refused = λ f d K b. (head e st).course q K b ∙ (told e st).refused f (i ∙ err_as d) (ending K) (with_lists (pushed (head e st).tree (keep_word (sign_of true w) b)) (T.done ∷ b.lists));
      full = λ d. (told e st).full (i ∙ err_as d);
    }

    pub case-says : {a' : Armed} → a ≡ Ok a' → {t : Answer} → Expected text end_case_word Closes a'.reached.next a'.reached.state t → {work₃ : List ℕ}
        → (s.actions < most_actions → Wrote Tb.Actions s.actions (action_bytes (D.choose (c'.state.nodes - 1) a'.count (a'.reached.state.actions - s.actions - 1))) work₂ work₃) → Conditional q true text n w s work work₃ t
    unfolding word_no expression_no list_no joined ending arms_in
    case-says {a' = a'} d {t} u {work₃} v₀ e sc st =
        concluded q st h.entered h.laid.count o.paid o.standing v.still (T.choose (positioned w.at) h.tree o.tree T.done) written u (omega arith) tree_steps.make_choose
        (λ b. with_lists (pushed h.tree (keep_word (sign_of true w) b)) (o.tree ∷ b.lists))
        (λ K b. h.course q K b ∙ o.course (ending K) (with_lists (pushed h.tree (keep_word (sign_of true w) b)) (T.done ∷ b.lists))) (λ b p. refl)
      where
        h : ConditionRead true text sc n w s work work₁ c'
        h = head e st

        o : ArmsRead a'.count (arm_stack q) [] text sc n c'.next c'.state work₁ work₂ a'.reached
        o = (told e st).done d

        v : Wrote Tb.Actions s.actions (action_bytes (D.choose (c'.state.nodes - 1) a'.count (a'.reached.state.actions - s.actions - 1))) work₂ work₃
        v = v₀ (omega (arith, few-actions st))

        number : a'.count ≡ arms_in o.tree
        number = sym (ap arms_in (sym (joined-done o.tree)) ∙ o.arms T.done ∙ omega arith)

        written : Written sc (T.choose (positioned w.at) h.tree o.tree T.done) s work a'.reached.state work₃
        written =
            choose-written (positioned w.at) h.tree o.tree h.laid.nodes refl number (omega (arith, h.laid.count, o.written.count))
            (headed o.tree (D.choose (c'.state.nodes - 1) a'.count (a'.reached.state.actions - s.actions - 1)) st.whole (omega (arith, few-actions o.standing)) (few-nodes o.standing) h.laid o.written v)
