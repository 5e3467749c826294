-- A state's value in parentheses, and the colon behind it, as the code reads them.
use mathlib.Core.Bool.{false}
use mathlib.Core.List.{List, ◌∷◌}
use mathlib.Core.Path.{◌≡◌, ap, ◌∙◌, refl, sym}
use Prim.Native.Nat.{ℕ, suc, ◌-◌}
use native.Mathlib.Omega.{arith}
use Rattle.parse_actions.proofs.ListLaws.{level-same}
use Rattle.parse_step.proofs.TakenWords.{took-done, took-refused}
use Rattle.parse_step.specs.declared.Bearing.TheVariants.{Closes, Level, Opens}
use Rattle.parse_step.specs.declared.State.{State}
use Rattle.parse_step.specs.Course.{Seen, Stack, kind_no, runs}
use Rattle.parse_step.specs.Taken.{Expected, Passed, Took, after_word, constant_word, Keeps, KeptOn}
use Rattle.parse_step.proofs.States.{counted, state-of}
use Rattle.language.specs.Building.{Built, keep_word}
use Rattle.language.specs.Declaring.{tree_steps}
use Rattle.language.specs.Kinds.{a_constant, close_paren, colon, open_paren}
use Rattle.language.specs.Machine.{ask, closes, first_name, keep, level, make, state_body, state_rest, word}
use Rattle.text_words.specs.declared.Word.{Word}
use Rattle.parse_states.proofs.StateWords.{value-comes}
use Rattle.parse_states.specs.Begins.{Tells}
use Rattle.parse_states.specs.Heads.{Brackets}
use Rattle.parse_step.specs.declared.Reached.{Reached}
use Rattle.parse_step.specs.declared.Unread.{Unread}
use Rattle.parse_step.proofs.Answers.{at_ok, err_as, ok_err}
use Rattle.std.specs.Prelude.{Err, Ok}

-- ---- One word after the other.

-- What comes behind the parentheses, behind the constant, and behind the parenthesis.
abbrev after : Stack → Stack
after K = make tree_steps.begin_valued ∷ ask state_body ∷ K

abbrev behind : Stack → Stack
behind K = word close_paren closes ∷ word colon level ∷ after K

closed-again : (s : State) → counted (after_word false Closes (counted (after_word false Opens s) s)) (counted (after_word false Opens s) s) ≡ s
closed-again s = let h : suc s.nesting - 1 ≡ s.nesting = omega arith in rw h

-- What was read.
pub tells-ok : {A : Type 0} {text : List ℕ} {P : Stack} {pre : Built → Built} {w : Word} {s : State} {Read : A → Type 0} {x : A} → Read x → Tells text P pre w s (Ok x) Read
tells-ok {Read = Read} y = record { done = λ d. at_ok Read d y; refused = λ f d. ok_err d; full = λ d. ok_err d }

pub open-not : {text : List ℕ} {w : Word} {s : State} {u : Unread} → Took text w (after_word false Opens s) s (Err u) → Brackets text w s (Err u)
open-not {text} {w} {s} t k z = record {
  done = λ d. ok_err (sym d);
  refused = λ f d K b. value-comes text w z s K b k ∙ took-refused t f (err_as d) (keep a_constant ∷ behind K) b;
  full = λ d. absurd (t.full (err_as d));
}

module _ {text : List ℕ} {w : Word} {s : State} {a : Reached} (t : Took text w (after_word false Opens s) s (Ok a)) where
  p : Passed text w (after_word false Opens s) s a
  p = t.done refl

  to-constant : kind_no w.kind ≡ open_paren → Seen text w → (K : Stack) (b : Built) → runs text (ask first_name ∷ ask state_rest ∷ K) w b s ≡ runs text (keep a_constant ∷ behind K) a.next b a.state
  to-constant k z K b = value-comes text w z s K b k ∙ took-done p z (keep a_constant ∷ behind K) b

  pub constant-not : {u : Unread} → Keeps text a.next a.state (Err u) → Brackets text w s (Err u)
  constant-not x k z = record {
    done = λ d. ok_err (sym d);
    refused = λ f d K b. to-constant k z K b ∙ x.refused f (err_as d) p.seen (behind K) b;
    full = λ d. x.full (err_as d);
  }

  module _ {c : Reached} (x : Keeps text a.next a.state (Ok c)) where
    v : KeptOn text a.next a.state c
    v = x.done refl p.seen

    to-close : kind_no w.kind ≡ open_paren → Seen text w → (K : Stack) (b : Built) → runs text (ask first_name ∷ ask state_rest ∷ K) w b s ≡ runs text (behind K) c.next (keep_word (constant_word a.next) b) c.state
    to-close k z K b = to-constant k z K b ∙ v.course (behind K) b

    pub close-not : {u : Unread} → Expected text close_paren Closes c.next c.state (Err u) → Brackets text w s (Err u)
    close-not y k z = record {
      done = λ d. ok_err (sym d);
      refused = λ f d K b. to-close k z K b ∙ y.refused f (err_as d) v.seen (omega arith) (word colon level ∷ after K) (keep_word (constant_word a.next) b);
      full = λ d. y.full (err_as d);
    }

    module _ {e : Reached} (y : Expected text close_paren Closes c.next c.state (Ok e)) where
      q : Passed text c.next (after_word false Closes c.state) c.state e
      q = (y.done refl v.seen (omega arith)).0

      to-colon : kind_no w.kind ≡ open_paren → Seen text w → (K : Stack) (b : Built) → runs text (ask first_name ∷ ask state_rest ∷ K) w b s ≡ runs text (word colon level ∷ after K) e.next (keep_word (constant_word a.next) b) e.state
      to-colon k z K b = to-close k z K b ∙ (y.done refl v.seen (omega arith)).1 (word colon level ∷ after K) (keep_word (constant_word a.next) b)

      back : e.state ≡ s
      back =
          state-of q.counts q.kept
          ∙ ap (λ (j : State). counted (after_word false Closes j) j) (v.state ∙ state-of p.counts p.kept) ∙ closed-again s

      pub colon-not : {u : Unread} → Expected text colon Level e.next e.state (Err u) → Brackets text w s (Err u)
      colon-not u k z = record {
        done = λ d. ok_err (sym d);
        refused = λ f d K b. to-colon k z K b ∙ u.refused f (err_as d) q.seen (omega arith) (after K) (keep_word (constant_word a.next) b);
        full = λ d. u.full (err_as d);
      }

      pub brackets-read : {g : Reached} → Expected text colon Level e.next e.state (Ok g) → Brackets text w s (Ok (record { reached = g; constant = a.next }))
      brackets-read u k z =
          let j = u.done refl q.seen (omega arith) in
          tells-ok (record {
            course = λ K b. to-colon k z K b ∙ j.1 (after K) (keep_word (constant_word a.next) b);
            state = level-same j.0 ∙ back;
            kind = v.kind;
            constant = p.seen;
            seen = j.0.seen;
          })
