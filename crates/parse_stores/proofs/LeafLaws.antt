-- A name that is kept, and an action's record that is put.
use mathlib.Core.Bool.{Bool, true, false, true≢false}
use mathlib.Core.List.{List}
use mathlib.Core.Path.{◌≡◌, refl, sym, ap, ◌∙◌, subst}
use Prim.Native.Nat.{ℕ, ◌+◌}
use lib.ListN.{length}
use Rattle.language.specs.declared.refusals.Refusal.TheVariants.{NoContinuation}
use Rattle.parse_step.specs.declared.Bearing.TheVariants.{Level}
use Rattle.parse_step.specs.declared.State.{State}
use Rattle.parse_step.specs.Course.{counts_of, kind_no}
use Rattle.parse_step.specs.Gained.{with_action_count}
use Rattle.parse_step.specs.Taken.{Refuses, Took, after_word}
use Rattle.language.specs.Description as D
use Rattle.language.specs.Kinds.{a_name}
use Rattle.language.specs.Machine.{refused}
use Rattle.parse_tables.specs.Actions.{ActionAdded}
use Rattle.text_words.specs.declared.Position.{Position}
use Rattle.text_words.specs.declared.Word.{Word}
use Rattle.text_words.specs.Meaning.{faulted}
use Rattle.parse_array.specs.Layout.{work_size}
use Rattle.parse_stores.proofs.ActionWords.{name-kept, no_name}
use Rattle.parse_stores.specs.Leaves.{KeepsName, Puts}
use Rattle.parse_step.specs.declared.Unread.TheVariants.{Full}
use Rattle.parse_step.specs.Answers.{Answer}
use Rattle.parse_step.proofs.Answers.{at_ok, ok_err, refused_full, same-fault}
use Rattle.std.specs.Prelude.{Err, Ok}

module _ {text : List ℕ} {w : Word} {s : State} {r : Answer} where
  pub keeps-name : kind_no w.kind ≡ a_name → Took text w (after_word false Level s) s r → KeepsName text w s r
  keeps-name e t = record {
    done = λ d z. let p = t.done d in record { course = λ K b. name-kept text w z b (counts_of s) e K ∙ rw (p.words z, p.counts); took = subst (Took text w (after_word false Level s) s) d t };
    refused = λ f d z h. absurd (true≢false (sym h ∙ (t.refused f d).0));
    full = t.full;
  }

  pub keeps-no-name : (kind_no w.kind ≡ a_name → ⊥) → Refuses w NoContinuation r → KeepsName text w s r
  keeps-no-name n x = record {
    done = λ d z. ok_err (sym d ∙ x.refused);
    refused = λ f d z h K b. no_name text w z b (counts_of s) n K ∙ ap refused (sym (ap faulted (same-fault (sym d ∙ x.refused)) ∙ x.is));
    full = λ d. refused_full (sym x.refused ∙ d);
  }

module _ {a : D.Action} {at : Position} {next : Word} {s : State} {work work' : List ℕ} (l : length work' ≡ work_size) where
  pub put-done : {z : Bool} → ActionAdded s.actions a at work work' z → z ≡ true → {s' : State} → s' ≡ with_action_count s (s.actions + 1) → Puts a at next s work work' (Ok (record { next = next; state = s' }))
  put-done x e f = record {
    word = λ d. at_ok (λ x. x.next ≡ next) d refl;
    state = λ d. at_ok (λ x. x.state ≡ with_action_count s (s.actions + 1)) d f;
    whole = l;
    added = λ d. rw e at x;
    refused = λ g d. ok_err d;
    full = λ d. ok_err d;
  }

  pub put_full : {z : Bool} → ActionAdded s.actions a at work work' z → z ≡ false → Puts a at next s work work' (Err (Full s))
  put_full x e = record {
    word = λ d. ok_err (sym d);
    state = λ d. ok_err (sym d);
    whole = l;
    added = λ d. ok_err (sym d);
    refused = λ f d. refused_full (sym d);
    full = λ d. x.full e;
  }
