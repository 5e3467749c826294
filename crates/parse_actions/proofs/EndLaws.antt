-- The end of a conditional: its last word, its action, and all that it wrote.
use mathlib.Core.Bool.{Bool}
use mathlib.Core.List.{List, [], ◌∷◌, ◌++◌, append-nil}
use mathlib.Core.Path.{◌≡◌, ap, ◌∙◌}
use Prim.Native.Nat.{ℕ, suc, ◌+◌, ◌-◌, ◌≤◌}
use native.Mathlib.Omega.{arith}
use lib.ListN.{length}
use Rattle.parse_step.proofs.Saying.{makes-it}
use Rattle.parse_step.specs.declared.Bearing.TheVariants.{Closes}
use Rattle.parse_step.specs.declared.State.{State}
use Rattle.parse_step.specs.Course.{Stack, counts5, counts_of, runs}
use Rattle.parse_step.specs.Taken.{Expected, Kept}
use Rattle.language.specs.Building.{Built}
use Rattle.language.specs.Describe.{act, actions_in, actions_of, arms_in, expression_size, expressions_in, last_of, nodes_in, nodes_of}
use Rattle.language.specs.Description as D
use Rattle.language.specs.Machine.{Counts, ask, closes, make, within_ceilings, word}
use Rattle.language.specs.Naming.{Scope}
use Rattle.language.specs.BuildSteps.{Step}
use Rattle.language.specs.Tree as T
use Rattle.language.specs.Tree.{Actions, Expression}
use Rattle.language.specs.Words as L
use Rattle.parse_tables.specs.declared.meaning.KnownNames as M
use Rattle.parse_expressions.specs.Phrases.{same}
use Rattle.parse_stores.proofs.Standings.{standing-after}
use Rattle.parse_stores.specs.Actions.{ActionsRead, Paid, Reads, Standing, Written, front_of, grown}
use Rattle.text_words.specs.declared.Word.{Word}
use Rattle.parse_tables.specs.declared.Table.TheVariants as Tb
use Rattle.parse_tables.specs.Rows.{rows}
use Rattle.parse_array.specs.Layout.{work_size}
use Rattle.parse_actions.proofs.Laying.{laid-written}
use Rattle.parse_actions.specs.Laid.{Laid}
use Rattle.parse_actions.specs.Lists.{Entered, action_ask}
use Rattle.parse_step.specs.Answers.{Answer}
use Rattle.parse_step.specs.declared.Reached.{Reached}
use Rattle.std.specs.Prelude.{Ok}

-- ---- The records of a conditional.

last_one : (n size : ℕ) {base c : ℕ} → base ≡ n + size → c ≡ base - 1 → c ≡ last_of n size
last_one n size b x = x ∙ ap (λ (v : ℕ). v - 1) b

module _ {sc : Scope} {s : State} {work : List ℕ} {s' : State} {work' : List ℕ} (p : L.Position) (e : Expression) (t : Actions) {base c m : ℕ} (b : base ≡ s.nodes + expression_size e) (x : c ≡ base - 1) where
  pub choose-written : {k : ℕ} → k ≡ arms_in t → m ≡ actions_in t
      → Laid (expression_size e + expressions_in t) (nodes_of sc s.nodes e ++ nodes_in sc base t) (1 + actions_in t) (act (D.choose c k m) p ∷ actions_of sc base t) s work s' work'
      → Written sc (T.choose p e t T.done) s work s' work'
  unfolding expressions_in nodes_in actions_in actions_of
  choose-written f g l =
      laid-written (T.choose p e t T.done) l (omega arith) (rw (b, append-nil (nodes_in sc (s.nodes + expression_size e) t))) (omega arith)
      (rw (last_one s.nodes (expression_size e) b x, f, g, b, append-nil (actions_of sc (s.nodes + expression_size e) t)))

  pub when-written : m ≡ suc (actions_in t)
      → Laid (expression_size e + expressions_in (T.arm t T.done)) (nodes_of sc s.nodes e ++ nodes_in sc base (T.arm t T.done)) (1 + actions_in (T.arm t T.done)) (act (D.when c m) p ∷ act (D.arm (actions_in t)) p ∷ (actions_of sc base t ++ [])) s work s' work'
      → Written sc (T.when p e t T.done) s work s' work'
  unfolding expressions_in nodes_in actions_in actions_of
  when-written g l = laid-written (T.when p e t T.done) l (omega arith) (rw b) (omega arith) (rw (last_one s.nodes (expression_size e) b x, g, b))

-- ---- The last word.

pub written-to : {sc : Scope} {a : Actions} {s : State} {work : List ℕ} {s₁ s₂ : State} {work' : List ℕ} → Written sc a s work s₁ work' → Kept s₁ s₂ → Written sc a s work s₂ work'
written-to {work' = work'} x k = record {
  nodes = k.nodes ∙ x.nodes;
  expressions = ap (λ (n : ℕ). front_of n work') k.nodes ∙ x.expressions;
  count = k.actions ∙ x.count;
  records = ap (λ (n : ℕ). rows Tb.Actions n work') k.actions ∙ x.records;
  places = ap (λ (n : ℕ). rows Tb.ActionPlaces n work') k.actions ∙ x.places;
  tables = x.tables;
}

-- What a conditional counts, from its word to its last.
paid-whole : {s s₁ s₂ s₃ : State} → Entered s s₁ → s₁.actions ≡ s.actions + 1 → Paid s₁ (s₁.actions + 1) s₂ → counts_of s₃ ≡ counts5 s₂ s₂.counted (s₂.nesting - 1) → Kept s₂ s₃
    → Paid s s.actions s₃
paid-whole {s} {s₁} {s₂} {s₃} a f p c k =
    let counted : s₃.counted ≡ s₂.counted = ap (λ (v : Counts). v.counted) c in
    record {
      facilities = ap (λ (v : Counts). v.facilities) c ∙ p.facilities ∙ a.facilities;
      operations = ap (λ (v : Counts). v.operations) c ∙ p.operations ∙ a.operations;
      states = ap (λ (v : Counts). v.states) c ∙ p.states ∙ a.states;
      known = k.known ∙ p.known ∙ a.known;
      nesting = ap (λ (v : Counts). v.nesting) c ∙ ap (λ (v : ℕ). v - 1) (p.nesting ∙ a.nesting) ∙ omega arith;
      counted = omega (arith, a.counted, p.counted);
      nodes = omega (arith, a.nodes, p.nodes, k.nodes);
      actions = omega (arith, a.counted, p.actions, k.actions, f);
    }

pub concluded : (q : Bool) {text : List ℕ} {sc : Scope} {n : M.KnownNames} {w : Word} {s : State} {work : List ℕ} → Standing text sc n w s s.actions work → {s₁ : State} → Entered s s₁ → s₁.actions ≡ s.actions + 1
    → {w₂ : Word} {s₂ : State} {work₂ work₃ : List ℕ} → Paid s₁ (s₁.actions + 1) s₂ → Standing text sc n w₂ s₂ s₂.actions work₂ → length work₃ ≡ work_size
    → (whole : Actions) → Written sc whole s work s₂ work₃ → {k : ℕ} {t : Answer} → Expected text k Closes w₂ s₂ t → 3 ≤ k → (f : Step Built) (mid : Built → Built)
    → ((K : Stack) (b : Built) → runs text (ask (action_ask q) ∷ K) w b s ≡ runs text (word k closes ∷ make f ∷ K) w₂ (mid b) s₂) → ((b : Built) (p : L.Position) → f p (mid b) ≡ grown whole b)
    → Reads text sc n (ask (action_ask q) ∷ []) [] (same text) w s work work₃ t
concluded q {text} {sc} {n} {w} {s} {work} st a e {work₃ = work₃} p st₂ l whole x {t = t} y h f mid g made = record {
  done = λ d. read d;
  refused = λ v d K b. g K b ∙ y.refused v d st₂.seen h (make f ∷ K) (mid b);
  full = λ d. absurd (y.full d);
}
  where
    read : {t' : Reached} → t ≡ Ok t' → ActionsRead text sc n (ask (action_ask q) ∷ []) [] (same text) w s work work₃ t'
    read {t'} d =
        let o = y.done d st₂.seen h in
        let v = written-to x o.0.kept in
        let u = paid-whole a e p o.0.counts o.0.kept in
        record {
          tree = whole;
          course = λ K b. g K b ∙ o.1 (make f ∷ K) (mid b) ∙ makes-it text f K t'.next (mid b) (grown whole b) t'.state (made b);
          written = v;
          paid = u;
          standing = standing-after st v u o.0.seen l (ap within_ceilings o.0.counts ∙ o.0.fits);
        }
