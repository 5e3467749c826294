-- A conditional up to its first arm: its word, its condition, the word before the arm, and its record.
use mathlib.Core.Bool.{Bool, true, false}
use mathlib.Core.List.{List, [], ◌∷◌, ◌++◌, append-nil}
use mathlib.Core.Path.{◌≡◌, refl, sym, ap, ◌∙◌, subst}
use Prim.Native.Nat.{ℕ, suc, ◌+◌}
use native.Mathlib.Omega.{arith}
use Rattle.parse_step.proofs.Saying.{makes-it}
use Rattle.parse_step.proofs.TakenWords.{took-done, took-refused}
use Rattle.parse_step.specs.declared.Bearing.TheVariants.{Level, Opens}
use Rattle.parse_step.specs.declared.State.{State}
use Rattle.parse_step.specs.Course.{Seen, Stack, counts_of, kind_no, runs}
use Rattle.parse_step.specs.Pays.{Comes, Spends}
use Rattle.parse_step.specs.Says.{Parses, Read, Says, pushed}
use Rattle.parse_step.specs.Taken.{Expected, Passed, Took, after_word}
use Rattle.language.specs.Building.{Built, keep_word, with_lists}
use Rattle.language.specs.Declaring.{tree_steps}
use Rattle.language.specs.Describe.{act, expression_size, nodes_of}
use Rattle.language.specs.Description as D
use Rattle.language.specs.Kinds.{do_word}
use Rattle.language.specs.Machine.{Counts, ask, expression, level, word}
use Rattle.language.specs.Naming.{Scope}
use Rattle.language.specs.Tree as T
use Rattle.parse_tables.specs.declared.meaning.KnownNames as M
use Rattle.parse_expressions.proofs.ArmLaws.{separators}
use Rattle.parse_expressions.proofs.StartLaws.{at_same}
use Rattle.parse_expressions.proofs.TermLaws.{from-kept}
use Rattle.parse_expressions.specs.Phrases.{at_nesting, choice_word, first_word, same}
use Rattle.parse_stores.proofs.ReachedLaws.{room-reached, standing-read, start-reached}
use Rattle.parse_stores.proofs.Standings.{here_of, standing-passed}
use Rattle.parse_stores.specs.Actions.{Standing}
use Rattle.parse_stores.specs.Leaves.{Puts}
use Rattle.text_words.specs.declared.Position.{Position}
use Rattle.text_words.specs.declared.Word.{Word}
use Rattle.text_words.specs.Meaning.{positioned}
use Rattle.parse_array.specs.Held.{held}
use Rattle.parse_actions.proofs.Laying.{laid-added, laid_as, laid-expression, laid_then}
use Rattle.parse_actions.proofs.ListLaws.{level-same}
use Rattle.parse_actions.proofs.ListWords.{condition-comes, condition_stack}
use Rattle.parse_actions.proofs.Room.{few-actions, few-nodes, standing-acts, standing-counted, standing-kept}
use Rattle.parse_actions.specs.Laid.{Laid, one_more}
use Rattle.parse_actions.specs.Lists.{Condition, ConditionRead, Deeper, Entered, action_ask, branch_stack, branching, sign_of}
use Rattle.parse_step.specs.declared.Unread.TheVariants.{Full}
use Rattle.parse_step.specs.Answers.{Answer}
use Rattle.parse_step.specs.declared.Reached.{Reached}
use Rattle.parse_step.proofs.Answers.{not_ok}
use Rattle.std.specs.Prelude.{Err, IsErr, Ok}

-- CASE begins the list of its arms before the word of the first.
branches : (text : List ℕ) (q case : Bool) (w : Word) (s : State) (K : Stack) (b : Built) → runs text (condition_stack q case ++ K) w b s ≡ runs text (word (first_word case) level ∷ (branch_stack q case ++ K)) w (branching case b) s
branches text q false w s K b = refl
branches text q true w s K b = makes-it text tree_steps.begin_arms (word do_word level ∷ (branch_stack q true ++ K)) w b (with_lists b (T.done ∷ b.lists)) s (λ p. refl)

-- ---- Its word.

module _ (case : Bool) {text : List ℕ} {w : Word} {s : State} {t : Answer} (x : Took text w (after_word true Opens s) s t) where
  opened : {t' : Reached} → t ≡ Ok t' → kind_no w.kind ≡ choice_word case → Seen text w → (q : Bool) (K : Stack) (b : Built)
      → runs text (ask (action_ask q) ∷ K) w b s ≡ runs text (ask expression ∷ (condition_stack q case ++ K)) t'.next (keep_word (sign_of case w) b) t'.state
  opened d e z q K b = condition-comes text w z b (counts_of s) case e q K ∙ took-done (x.done d) z (ask expression ∷ (condition_stack q case ++ K)) (keep_word (sign_of case w) b)

  pub word-not : IsErr t → {n : M.KnownNames} {work work' : List ℕ} → Condition case text n w s work work' t
  word-not m e q sc st = record {
    done = λ d. not_ok m d;
    refused = λ f d K b. condition-comes text w st.seen b (counts_of s) case e q K ∙ took-refused x f d (ask expression ∷ (condition_stack q case ++ K)) (keep_word (sign_of case w) b);
    full = λ d. absurd (x.full d);
  }

-- ---- Its condition.

module _ (case : Bool) {text : List ℕ} {n : M.KnownNames} {w : Word} {s : State} {work : List ℕ} {t : Answer} (x : Took text w (after_word true Opens s) s t) {t' : Reached} (d₁ : t ≡ Ok t')
    {work₁ : List ℕ} {c : Answer} (y : Parses (ask expression ∷ []) same t'.state.nesting text t'.next t'.state work work₁ c) (z : Spends text 0 t'.next t'.state c) where
  inside : {sc : Scope} → Standing text sc n w s s.actions work → Standing text sc n t'.next t'.state s.actions work
  inside st = standing-passed true Opens st (x.done d₁)

  says : {sc : Scope} → Standing text sc n w s s.actions work → Says text sc (ask expression ∷ []) [] (λ b. b) (held s.nodes work) s.nodes t'.state.nesting t'.next t'.state c work₁
  says {sc} st = from-kept work t'.state.nodes s.nodes t'.state.nesting t'.state.nesting (x.done d₁).kept.nodes refl (y sc (here_of (inside st)))

  -- There is room for the condition.
  room : {sc : Scope} → Standing text sc n w s s.actions work → {z : State} → c ≡ Err (Full z) → ⊥
  room st d = room-reached (inside st) (start-reached (inside st)) (omega arith) (z.full d (inside st).seen) ((says st).full d)

  pub condition-not : IsErr c → Condition case text n w s work work₁ c
  condition-not m e q sc st = record {
    done = λ d. not_ok m d;
    refused = λ f d K b. opened case x d₁ e st.seen q K b ∙ (says st).refused f d (condition_stack q case ++ K) (keep_word (sign_of case w) b);
    full = room st;
  }

  module _ {c' : Reached} (d₂ : c ≡ Ok c') {v : Answer} (u : Expected text (first_word case) Level c'.next c'.state v) where
    read : {sc : Scope} → Standing text sc n w s s.actions work → Read text sc (ask expression ∷ []) [] (λ b. b) (held s.nodes work) s.nodes t'.state.nesting t'.next t'.state c' work₁
    read st = (says st).done d₂

    behind : kind_no w.kind ≡ choice_word case → {sc : Scope} (st : Standing text sc n w s s.actions work) (q : Bool) (K : Stack) (b : Built)
        → runs text (ask (action_ask q) ∷ K) w b s ≡ runs text (word (first_word case) level ∷ (branch_stack q case ++ K)) c'.next (branching case (pushed (read st).tree (keep_word (sign_of case w) b))) c'.state
    behind e st q K b =
        opened case x d₁ e st.seen q K b ∙ (read st).course (condition_stack q case ++ K) (keep_word (sign_of case w) b)
        ∙ branches text q case c'.next c'.state K (pushed (read st).tree (keep_word (sign_of case w) b))

    pub branch-not : IsErr v → Condition case text n w s work work₁ v
    branch-not m e q sc st = record {
      done = λ d. not_ok m d;
      refused = λ f d K b. behind e st q K b ∙ u.refused f d (read st).here.seen (separators case) (branch_stack q case ++ K) (branching case (pushed (read st).tree (keep_word (sign_of case w) b)));
      full = λ d. absurd (u.full d);
    }

    module _ {v' : Reached} (d₃ : v ≡ Ok v') {i : State} (g : i ≡ at_nesting v'.state t'.state.nesting) {work₂ : List ℕ} {r : Answer} (p₀ : Puts D.Action.broken w.at v'.next i work₁ work₂ r) where
      module _ {sc : Scope} (st : Standing text sc n w s s.actions work) where
        passes : Passed text c'.next (after_word false Level c'.state) c'.state v'
        passes = (u.done d₃ (read st).here.seen (separators case)).0

        p : Puts D.Action.broken w.at v'.next c'.state work₁ work₂ r
        p =
            let j : v'.state ≡ c'.state = level-same passes in
            let k : i ≡ c'.state = g ∙ at_same v'.state t'.state.nesting (ap (λ (a : State). a.nesting) j ∙ (read st).nesting) ∙ j in
            rw k at p₀

        comes : Comes text 0 1 t'.state c'.next c'.state
        comes = z.done d₂ (inside st).seen

        as_before : c'.state.actions ≡ s.actions
        as_before = comes.pays.actions ∙ (x.done d₁).kept.actions

        behind-condition : Standing text sc n c'.next c'.state s.actions work₁
        behind-condition = standing-read (inside st) ((y sc (here_of (inside st))).done d₂) comes

        entered : Entered s (one_more c'.state)
        entered =
            let e = (x.done d₁).counts in
            let a = comes.pays in
            let one : t'.state.counted ≡ suc s.counted = ap (λ (m : Counts). m.counted) e in
            record {
              facilities = a.facilities ∙ ap (λ (m : Counts). m.facilities) e;
              operations = a.operations ∙ ap (λ (m : Counts). m.operations) e;
              states = a.states ∙ ap (λ (m : Counts). m.states) e;
              known = a.known ∙ (x.done d₁).kept.known;
              nesting = (read st).nesting ∙ ap (λ (m : Counts). m.nesting) e;
              counted = omega (arith, one, a.counted);
              nodes = omega (arith, one, a.nodes, (x.done d₁).kept.nodes);
            }

        laid : {r' : Reached} → r ≡ Ok r' → Laid (expression_size (read st).tree) (nodes_of sc s.nodes (read st).tree) 1 (act D.Action.broken (positioned w.at) ∷ []) s work (one_more c'.state) work₂
        laid d = laid_as (omega arith) (append-nil (nodes_of sc s.nodes (read st).tree)) (laid_then (laid-expression s work as_before (read st).pending) (laid-added c'.state (p.added d) behind-condition.whole (few-nodes behind-condition)))

        stands : {r' : Reached} → r ≡ Ok r' → Standing text sc n v'.next (one_more c'.state) (c'.state.actions + 1 + 1) work₂
        stands d =
            let i : Standing text sc n v'.next c'.state s.actions work₁ = subst (λ (h : State). Standing text sc n v'.next h s.actions work₁) (level-same passes) (standing-passed false Level behind-condition passes) in
            standing-counted (c'.state.actions + 1) (standing-acts (c'.state.actions + 1 + 1) (standing-kept i ((p.added d).kept refl).tables p.whole) (omega (arith, st.actions, entered.counted, as_before)))

      pub condition-says : Condition case text n w s work work₂ r
      condition-says e q sc st = record { done = λ d. done d; refused = λ f d. absurd (p₀.refused f d); full = λ d. omega (arith, (p st).full d, as_before st, few-actions st) }
        where
          done : {r' : Reached} → r ≡ Ok r' → ConditionRead case text sc n w s work work₂ r'
          done {r' = r'} d =
              let built : Built → Built = λ b. branching case (pushed (read st).tree (keep_word (sign_of case w) b)) in
              record {
                tree = (read st).tree;
                course = λ a K b.
                    behind e st a K b ∙ (u.done d₃ (read st).here.seen (separators case)).1 (branch_stack a case ++ K) (built b)
                    ∙ ap (λ (h : State). runs text (branch_stack a case ++ K) v'.next (built b) h) (level-same (passes st))
                    ∙ ap (λ (h : State). runs text (branch_stack a case ++ K) v'.next (built b) h) (sym ((p st).state d))
                    ∙ ap (λ (h : Word). runs text (branch_stack a case ++ K) h (built b) r'.state) (sym ((p st).word d));
                laid = rw ((p st).state d) (laid st d);
                entered = rw ((p st).state d) (entered st);
                standing = rw ((p st).word d, (p st).state d) (stands st d);
              }

pub condition-deeper : {text : List ℕ} {w : Word} {s : State} {t : Answer} → Took text w (after_word true Opens s) s t → {t' : Reached} → t ≡ Ok t' → (a : State) {i : State} → i ≡ at_nesting a t'.state.nesting
    → {b : D.Action} {at : Position} {next : Word} {work work' : List ℕ} {r : Answer} → Puts b at next i work work' r → Deeper s r
condition-deeper {s = s} {t} x {t' = t'} d a g {r = r} p r' u =
    let e : r'.state.nesting ≡ t'.state.nesting = ap (λ (h : State). h.nesting) (p.state u) ∙ ap (λ (h : State). h.nesting) g in
    let o : t'.state.nesting ≡ suc s.nesting = ap (λ (m : Counts). m.nesting) (x.done d).counts in
    (e ∙ o, omega (arith, e, (x.done d).deep))
