-- What an operation begins and ends with, as the code reads it, and the end of the section.
use mathlib.Core.Bool.{Bool, true, false}
use mathlib.Core.List.{List, [], ◌∷◌, ◌++◌}
use mathlib.Core.Path.{◌≡◌, refl, sym, ap, ◌∙◌, subst}
use Prim.Native.Nat.{ℕ, ◌≤◌}
use native.Mathlib.Omega.{arith}
use borrow.Author.Tests.{eqb-false, eqb-true}
use lib.Dec.{eqb}
use Rattle.language.specs.declared.refusals.Refusal.TheVariants.{NoContinuation}
use Rattle.parse_actions.specs.Lists.{Told, list_stack}
use Rattle.parse_step.proofs.Saying.{makes-it}
use Rattle.parse_step.proofs.TakenWords.{on_taken, took-done}
use Rattle.parse_step.specs.Answers.{Answer}
use Rattle.parse_step.specs.declared.Reached.{Reached}
use Rattle.parse_step.specs.declared.Unread.{Unread}
use Rattle.std.specs.Prelude.{◌⊎◌, Err, Ok}
use Rattle.std.proofs.Common.{inl, inr}
use Rattle.parse_step.proofs.Answers.{ok_err}
use Rattle.parse_step.specs.declared.Bearing.TheVariants.{Closes, Level, Opens}
use Rattle.parse_step.specs.declared.State.{State}
use Rattle.parse_step.specs.Course.{Seen, Stack, counts_of, kind_no, runs}
use Rattle.parse_step.specs.Taken.{Expected, Passed, Refuses, Took, after_word}
use Rattle.parse_facilities.specs.Specs.{named_word}
use Rattle.parse_step.proofs.States.{counted, state-of}
use Rattle.parse_bounds.proofs.Telling as D
use Rattle.language.specs.Building.{Built, begin_list, keep_word}
use Rattle.language.specs.Kinds.{a_name, close_bracket, control_word, end_word, equal_sign, open_bracket, period}
use Rattle.language.specs.Machine.{Counts, ask, closes, control, opens, operation_spec, operations_more, within_ceilings, word}
use Rattle.parse_tables.specs.declared.meaning.KnownNames as M
use Rattle.parse_expressions.specs.Phrases.{same}
use Rattle.parse_actions.proofs.EndLaws.{written-to}
use Rattle.parse_stores.proofs.Standings.{few-operations, standing-word}
use Rattle.parse_stores.specs.Actions.{ActionsRead, Acts, grown}
use Rattle.text_words.specs.declared.Word.{Word}
use Rattle.parse_sections.proofs.HeadWords.{control-stuck, control-taken, more-control, more-ending, more-stuck, name-stuck, name-taken}
use Rattle.parse_sections.proofs.Telling.{refuses, through, told, untold}
use Rattle.parse_sections.specs.Heads.{Body, BodyRead, ControlRead, Controls, Ends, HeadRead, Heads, NameRead, Names, Shuts, at_end, at_period, begun, body_stack, close_stack, control_stack, more_state, name_stack}

-- ---- The name.

module _ {text : List ℕ} {w : Word} {s : State} {r : Answer} where
  not_named : (kind_no w.kind ≡ a_name → ⊥) → Refuses w NoContinuation r → Names text w s r
  not_named n x z f = refuses NoContinuation x (λ K b. name-stuck text w K b s z n)

  named : {s' : State} → kind_no w.kind ≡ a_name → (s.operations ≤ 128 → s' ≡ more_state s) → Took text w (counts_of s') s' r → Names text w s r
  named {s'} e g t z f = told (D.word-taken taken (λ v d. read v (taken.done d)) (λ K. name_stack ++ K) (keep_word (named_word text w)) (λ K b. name-taken text w K b s z e))
    where
      taken : Took text w (counts_of (more_state s)) (more_state s) r
      taken = subst (λ (q : State). Took text w (counts_of q) q r) (g (few-operations (counts_of s) f)) t

      read : (v : Reached) → Passed text w (counts_of (more_state s)) (more_state s) v → NameRead text w s v
      read v p = record {
        course = λ K b. name-taken text w K b s z e ∙ took-done p z (name_stack ++ K) (keep_word (named_word text w) b);
        state = state-of p.counts p.kept;
        room = few-operations (counts_of (more_state s)) p.fits;
        within = p.fits;
        seen = p.seen;
      }

  name-told : {s' : State} → (s.operations ≤ 128 → s' ≡ more_state s) → Expected text a_name Level w s' r → Names text w s r
  name-told {s'} g x = by-test (eqb (kind_no w.kind) a_name) refl
    where
      by-test : (b : Bool) → eqb (kind_no w.kind) a_name ≡ b → Names text w s r
      by-test true t = let e = eqb-true _ _ t in named e g (x.came e)
      by-test false t = let n = eqb-false _ _ t in not_named n (x.missed n)

-- ---- `=` and `[`.

module _ {text : List ℕ} {w : Word} {s s' : State} (counts : s.operations ≤ 128 → s' ≡ more_state s) where
  pub head-unnamed : {i : Unread} → Expected text a_name Level w s' (Err i) → Heads text w s (Err i)
  head-unnamed x z f = untold (name-told counts x z f) (λ K. K) (λ b. b) (λ K b. refl)

  module _ {a : Reached} (x : Expected text a_name Level w s' (Ok a)) where
    pub head-unequal : {i : Unread} → Expected text equal_sign Level a.next a.state (Err i) → Heads text w s (Err i)
    head-unequal g z f =
        let y = (name-told counts x z f).done refl in
        told (D.not-expected g y.seen (omega arith) (λ K. word open_bracket opens ∷ (body_stack ++ K)) (keep_word (named_word text w)) y.course)

    pub head_read : {e : Reached} → Expected text equal_sign Level a.next a.state (Ok e) → {r : Answer} → Expected text open_bracket Opens e.next e.state r → Heads text w s r
    head_read {e} g {r} o z f = told (D.expected o read p.seen (omega arith) (λ K. body_stack ++ K) (keep_word (named_word text w)) to-bracket)
      where
        y : NameRead text w s a
        y = (name-told counts x z f).done refl

        p : Passed text a.next (after_word false Level a.state) a.state e
        p = (g.done refl y.seen (omega arith)).0

        state : e.state ≡ more_state s
        state = state-of p.counts p.kept ∙ y.state

        to-bracket : (K : Stack) (b : Built) → runs text (ask operation_spec ∷ K) w b s ≡ runs text (word open_bracket opens ∷ (body_stack ++ K)) e.next (keep_word (named_word text w) b) e.state
        to-bracket K b = y.course K b ∙ (g.done refl y.seen (omega arith)).1 (word open_bracket opens ∷ (body_stack ++ K)) (keep_word (named_word text w) b)

        read : (v : Reached) → r ≡ Ok v → HeadRead text w s v
        read v d =
            let q = o.done d p.seen (omega arith) in
            record {
              course = λ K b. to-bracket K b ∙ q.1 (body_stack ++ K) (keep_word (named_word text w) b)
                  ∙ makes-it text begin_list (list_stack false ++ (close_stack ++ K)) v.next (keep_word (named_word text w) b) (begun text w b) v.state (λ u. refl);
              state = state-of q.0.counts q.0.kept ∙ ap (λ (u : State). counted (after_word false Opens u) u) state;
              room = y.room;
              within = subst (λ (u : State). within_ceilings (after_word false Opens u) ≡ true) state q.0.fits;
              seen = q.0.seen;
            }

-- ---- The body and `]`.

module _ {text : List ℕ} {n : M.KnownNames} {w : Word} {s : State} {work work₁ : List ℕ} where
  pub body-not : {i : Unread} → Acts (list_stack false) same text n w s work work₁ (Err i) → Body text n w s work work₁ (Err i)
  body-not x sc st =
      let t = x sc st in
      record { done = λ d. ok_err (sym d); refused = λ f d K b. t.refused f d (word close_bracket closes ∷ K) b; full = λ d. t.full d }

  pub body-read : {r : Reached} → Acts (list_stack false) same text n w s work work₁ (Ok r) → {e : Answer} → Expected text close_bracket Closes r.next r.state e → Body text n w s work work₁ e
  body-read {r} x {e} g sc st = told (D.expected g read y.standing.seen (omega arith) (λ K. K) (grown y.tree) (λ K b. y.course (word close_bracket closes ∷ K) b))
    where
      y : ActionsRead text sc n (list_stack false) [] (same text) w s work work₁ r
      y = (x sc st).done refl

      read : (v : Reached) → e ≡ Ok v → BodyRead text sc n w s work work₁ v
      read v d =
          let q = g.done d y.standing.seen (omega arith) in
          let c = q.0.counts in
          record {
            tree = y.tree;
            course = λ K b. y.course (word close_bracket closes ∷ K) b ∙ q.1 K (grown y.tree b);
            written = written-to y.written q.0.kept;
            closed = record {
              facilities = ap (λ (u : Counts). u.facilities) c ∙ y.paid.facilities;
              operations = ap (λ (u : Counts). u.operations) c ∙ y.paid.operations;
              states = ap (λ (u : Counts). u.states) c ∙ y.paid.states;
              known = q.0.kept.known ∙ y.paid.known;
              nesting = ap (λ (u : Counts). u.nesting) c ∙ rw y.paid.nesting;
            };
            standing = standing-word false Closes y.standing q.0;
          }

-- ---- The end of the section.

module _ {text : List ℕ} {w : Word} {s : State} {r : Answer} where
  by-control : (P : Stack) → Seen text w → ((K : Stack) (b : Built) → runs text (P ++ K) w b s ≡ on_taken text w (control_stack ++ K) b (counts_of s)) → Took text w (counts_of s) s r → Told text P w s r (ControlRead text P w s)
  by-control P z g t = told (D.word-taken t read (λ K. control_stack ++ K) (λ b. b) g)
    where
      read : (v : Reached) → r ≡ Ok v → ControlRead text P w s v
      read v d = let p = t.done d in record { course = λ K b. g K b ∙ took-done p z (control_stack ++ K) b; state = state-of p.counts p.kept; seen = p.seen }

  controls : kind_no w.kind ≡ control_word → Took text w (counts_of s) s r → Controls text w s r
  controls e t z = by-control (ask control ∷ []) z (λ K b. control-taken text w K b s e) t

  no-control : (kind_no w.kind ≡ control_word → ⊥) → Refuses w NoContinuation r → Controls text w s r
  no-control n x z = refuses NoContinuation x (λ K b. control-stuck text w K b s z n)

  control-told : Expected text control_word Level w s r → Controls text w s r
  control-told x = by-test (eqb (kind_no w.kind) control_word) refl
    where
      by-test : (b : Bool) → eqb (kind_no w.kind) control_word ≡ b → Controls text w s r
      by-test true t = let e = eqb-true _ _ t in controls e (x.came e)
      by-test false t = let n = eqb-false _ _ t in no-control n (x.missed n)

  pub ends-at-once : kind_no w.kind ≡ control_word → Took text w (counts_of s) s r → Ends text w s r
  ends-at-once e t z n = by-control (ask operations_more ∷ []) z (λ K b. more-control text w K b s e) t

  pub ends-shut : (kind_no w.kind ≡ period) ⊎ (kind_no w.kind ≡ end_word) → Shuts text w s r → Ends text w s r
  ends-shut (inl e) x z n = x z period at_period e
  ends-shut (inr e) x z n = x z end_word at_end e

  pub no_end : (kind_no w.kind ≡ control_word → ⊥) → (kind_no w.kind ≡ period → ⊥) → (kind_no w.kind ≡ end_word → ⊥) → Refuses w NoContinuation r → Ends text w s r
  no_end c m o x z n = refuses NoContinuation x (λ K b. more-stuck text w K b s z n c m o)

module _ {text : List ℕ} {w : Word} {s : State} where
  pub shut-not : {i : Unread} → Took text w (counts_of s) s (Err i) → Shuts text w s (Err i)
  shut-not t z k q e = told (D.not-taken t (λ K. ask control ∷ K) (λ b. b) (λ K b. more-ending text w K b s k q e))

  pub shut : {a : Reached} → Took text w (counts_of s) s (Ok a) → {r : Answer} → Expected text control_word Level a.next a.state r → Shuts text w s r
  shut {a} t {r} g z k q e = through (control-told g p.seen) (λ K. K) (λ b. b) to-control read
    where
      p : Passed text w (counts_of s) s a
      p = t.done refl

      to-control : (K : Stack) (b : Built) → runs text (ask operations_more ∷ K) w b s ≡ runs text (ask control ∷ K) a.next b a.state
      to-control K b = more-ending text w K b s k q e ∙ took-done p z (ask control ∷ K) b

      read : (v : Reached) → ControlRead text (ask control ∷ []) a.next a.state v → ControlRead text (ask operations_more ∷ []) w s v
      read v y = record { course = λ K b. to-control K b ∙ y.course K b; state = y.state ∙ state-of p.counts p.kept; seen = y.seen }
