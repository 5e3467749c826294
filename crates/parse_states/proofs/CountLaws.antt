-- A state counted at its first word.
use mathlib.Core.Bool.{Bool, true, false}
use mathlib.Core.List.{List, [], ◌∷◌}
use mathlib.Core.Path.{◌≡◌, refl, sym, ap, ◌∙◌}
use Prim.Native.Nat.{ℕ, suc, ◌+◌, ◌<◌, ◌≤◌}
use native.Mathlib.Omega.{arith}
use Rattle.language.specs.declared.refusals.Refusal.{Refusal}
use Rattle.language.specs.declared.refusals.Refusal.TheVariants.{CeilingPassed, NoContinuation}
use Rattle.parse_step.proofs.Looking.{View, begun, ended, sign-ahead, view}
use Rattle.parse_step.proofs.TakenWords.{on_taken, taken-on}
use Rattle.parse_step.specs.declared.State.{State}
use Rattle.parse_step.specs.Course.{Seen, Stack, behind, counts5, kind_no, runs, runs_on}
use Rattle.parse_step.specs.Taken.{Refuses}
use Rattle.about_grammar.specs.Following.{among, among_first, among-rest}
use Rattle.language.specs.Building.{Built}
use Rattle.language.specs.Kinds.{a_name, call_sign, case_word, goto_sign, if_word, return_word, slash}
use Rattle.language.specs.Machine.{Counts, ask, choose, feed, finish, refused, run, state_start, tallied, within_ceilings}
use Rattle.language.specs.SectionWays.{rule_of}
use Rattle.language.specs.Words.{fault}
use Rattle.parse_levels.proofs.HeadWords.{among-first-or, among_none}
use Rattle.parse_stores.proofs.Standings.{few-states}
use Rattle.text_words.specs.declared.Word.{Word}
use Rattle.text_words.specs.Meaning.{faulted, positioned}
use Rattle.parse_states.proofs.StateWords.{name-starts}
use Rattle.parse_expressions.specs.Phrases.{stayed}
use Rattle.parse_states.specs.Begins.{more_states}
use Rattle.parse_states.specs.Heads.{Counted, state_kinds}
use Rattle.parse_step.specs.Answers.{Answer}
use Rattle.parse_step.proofs.Answers.{at_ok, ok_err, refused_full, same-fault}
use Rattle.std.specs.Prelude.{Ok}

pub over : (c : Counts) → 256 < c.states → within_ceilings c ≡ false
over c h = go (within_ceilings c) refl
  where
    go : (t : Bool) → within_ceilings c ≡ t → t ≡ false
    go true e = absurd (omega (arith, few-states c e))
    go false e = refl

module _ (text : List ℕ) (w : Word) (z : Seen text w) (s : State) (K : Stack) (b : Built) where
  abbrev k : ℕ
  k = kind_no w.kind

  abbrev Stops : Refusal → Type 0
  Stops n = runs text (ask state_start ∷ K) w b s ≡ refused (fault (positioned w.at) n)

  stops : (M : Stack) (d : Built) (c : Counts) → 256 < c.states → on_taken text w M d c ≡ refused (fault (positioned w.at) CeilingPassed)
  stops M d c h = rw (over c h)

  abbrev after : ℕ → ℕ → Counts
  after m n = counts5 (more_states s) m n

  module _ (h : 256 ≤ s.states) where
    more : 256 < suc s.states
    more = omega arith

    -- A word that begins a state begins one too many.
    pub begins-over : among k state_kinds ≡ true → Stops CeilingPassed
    unfolding runs_on run feed choose rule_of tallied
    begins-over e =
        let at = positioned w.at in
        let m = suc s.counted in
        let j = s.nesting in
        among-first-or k a_name (slash ∷ goto_sign ∷ call_sign ∷ return_word ∷ if_word ∷ case_word ∷ []) e (λ q. name-starts text w z s K b q ∙ stops _ _ (after s.counted j) more) λ e₁.
        among-first-or k slash (goto_sign ∷ call_sign ∷ return_word ∷ if_word ∷ case_word ∷ []) e₁ (λ q. rw (sign-ahead text w slash q (omega arith)) (taken-on text at _ (behind text w) _ _ ∙ stops _ _ (after s.counted j) more)) λ e₂.
        among-first-or k goto_sign (call_sign ∷ return_word ∷ if_word ∷ case_word ∷ []) e₂ (λ q. rw (sign-ahead text w goto_sign q (omega arith)) (taken-on text at _ (behind text w) _ _ ∙ stops _ _ (after m j) more)) λ e₃.
        among-first-or k call_sign (return_word ∷ if_word ∷ case_word ∷ []) e₃ (λ q. rw (sign-ahead text w call_sign q (omega arith)) (taken-on text at _ (behind text w) _ _ ∙ stops _ _ (after m j) more)) λ e₄.
        among-first-or k return_word (if_word ∷ case_word ∷ []) e₄ (λ q. rw (sign-ahead text w return_word q (omega arith)) (taken-on text at _ (behind text w) _ _ ∙ stops _ _ (after m j) more)) λ e₅.
        among-first-or k if_word (case_word ∷ []) e₅ (λ q. rw (sign-ahead text w if_word q (omega arith)) (taken-on text at _ (behind text w) _ _ ∙ stops _ _ (after m (suc j)) more)) λ e₆.
        among-first-or k case_word [] e₆ (λ q. rw (sign-ahead text w case_word q (omega arith)) (taken-on text at _ (behind text w) _ _ ∙ stops _ _ (after m (suc j)) more)) (among_none k)

  -- Another word begins none.
  pub begins-none : among k state_kinds ≡ false → Stops NoContinuation
  unfolding runs_on run feed finish choose rule_of
  begins-none e = go (view text w z)
    where
      e₁ : among k (slash ∷ goto_sign ∷ call_sign ∷ return_word ∷ if_word ∷ case_word ∷ []) ≡ false
      e₁ = among-rest k a_name (slash ∷ goto_sign ∷ call_sign ∷ return_word ∷ if_word ∷ case_word ∷ []) e

      e₂ : among k (goto_sign ∷ call_sign ∷ return_word ∷ if_word ∷ case_word ∷ []) ≡ false
      e₂ = among-rest k slash (goto_sign ∷ call_sign ∷ return_word ∷ if_word ∷ case_word ∷ []) e₁

      e₃ : among k (call_sign ∷ return_word ∷ if_word ∷ case_word ∷ []) ≡ false
      e₃ = among-rest k goto_sign (call_sign ∷ return_word ∷ if_word ∷ case_word ∷ []) e₂

      e₄ : among k (return_word ∷ if_word ∷ case_word ∷ []) ≡ false
      e₄ = among-rest k call_sign (return_word ∷ if_word ∷ case_word ∷ []) e₃

      e₅ : among k (if_word ∷ case_word ∷ []) ≡ false
      e₅ = among-rest k return_word (if_word ∷ case_word ∷ []) e₄

      e₆ : among k (case_word ∷ []) ≡ false
      e₆ = among-rest k if_word (case_word ∷ []) e₅

      go : View text w → Stops NoContinuation
      go (ended x y q) = rw (x, y)
      go (begun v x q y) =
          rw (x, q, among_first k a_name _ e, among_first k slash _ e₁, among_first k goto_sign _ e₂, among_first k call_sign _ e₃, among_first k return_word _ e₄, among_first k if_word _ e₅, among_first k case_word _ e₆, y)

-- ---- As the code counts it.

module _ {w : Word} {s : State} {r : Answer} where
  pub one-over : 256 ≤ s.states → among (kind_no w.kind) state_kinds ≡ true → Refuses w CeilingPassed r → Counted w s r
  one-over h e x = record {
    done = λ d. ok_err (sym d ∙ x.refused);
    refused = λ f d text z i K b. begins-over text w z s K b h e ∙ ap refused (sym (ap faulted (same-fault (sym d ∙ x.refused)) ∙ x.is));
    full = λ d. refused_full (sym x.refused ∙ d);
  }

  pub none-begins : among (kind_no w.kind) state_kinds ≡ false → Refuses w NoContinuation r → Counted w s r
  none-begins e x = record {
    done = λ d. ok_err (sym d ∙ x.refused);
    refused = λ f d text z i K b. begins-none text w z s K b e ∙ ap refused (sym (ap faulted (same-fault (sym d ∙ x.refused)) ∙ x.is));
    full = λ d. refused_full (sym x.refused ∙ d);
  }

pub one_more : {w : Word} {s : State} → s.states < 256 → {m : ℕ} → m ≡ s.states + 1
    → Counted w s (Ok (record { next = w; state = record { facilities = s.facilities; operations = s.operations; states = m; counted = s.counted; nesting = s.nesting; nodes = s.nodes; actions = s.actions; known = s.known } }))
one_more {w} {s} h {m} e = record {
  done = λ d. at_ok (λ x. (x ≡ stayed (more_states s) w) × (s.states < 256)) d (let q : m ≡ suc s.states = omega arith in rw q, h);
  refused = λ f d. ok_err d;
  full = λ d. ok_err d;
}
