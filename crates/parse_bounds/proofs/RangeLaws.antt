-- Ranges, as the code reads them.
use mathlib.Core.List.{List, ◌∷◌}
use mathlib.Core.Path.{◌≡◌, refl, ◌∙◌}
use Prim.Native.Nat.{ℕ}
use Rattle.parse_step.proofs.Saying.{makes-it}
use Rattle.parse_step.proofs.TakenWords.{on_taken, took-done}
use Rattle.parse_step.specs.declared.State.{State}
use Rattle.parse_step.specs.Course.{Seen, Stack, counts_of, kind_no, runs}
use Rattle.parse_step.specs.Taken.{Keeps, KeptOn, Passed, Took, constant_word}
use Rattle.language.specs.Building.{Built, keep_word, word_no}
use Rattle.language.specs.Constants.{bare_constant, bare_length, decimal_constant, digits_after, right_justified}
use Rattle.language.specs.Declaring.{make_both}
use Rattle.language.specs.Describe.{bound}
use Rattle.language.specs.Kinds.{a_constant, colon}
use Rattle.language.specs.Machine.{ask, keep, make, range_rest}
use Rattle.value_limbs.specs.Limbs.{number}
use Rattle.parse_tables.specs.declared.extents.Ends.{Ends}
use Rattle.text_words.specs.declared.Word.{Word}
use Rattle.parse_bounds.proofs.RangeWords.{range-colon, range_last}
use Rattle.parse_step.proofs.States.{state-of}
use Rattle.parse_bounds.proofs.Telling.{not-kept, not-taken, tells-ok}
use Rattle.parse_bounds.specs.Ranges.{Bounded, RangeRead, Ranges, both_ends, last_end, with_range}
use Rattle.parse_bounds.specs.Telling.{same}
use Rattle.parse_step.specs.declared.Reached.{Reached}
use Rattle.parse_step.specs.declared.Unread.{Unread}
use Rattle.std.specs.Prelude.{Err, Ok}

-- The first bound does not come.
pub range-not : {text : List ℕ} {w : Word} {s : State} {e : Unread} → Keeps text w s (Err e) → Ranges text w s (Err e)
range-not k z = not-kept k z (λ K. ask range_rest ∷ K) same (λ K b. refl)

module _ {text : List ℕ} {w : Word} {s : State} {a : Reached} (k : Keeps text w s (Ok a)) where
  -- It is the last one.
  pub range-ended : {e : Ends} → Bounded (last_end w) e → (kind_no a.next.kind ≡ colon → ⊥) → Ranges text w s (Ok (record { reached = a; ends = e }))
  unfolding word_no
  range-ended {e} g n z = tells-ok (read (k.done refl z))
    where
      read : KeptOn text w s a → RangeRead text w s (record { reached = a; ends = e })
      read y = record {
        tree = last_end w;
        course = λ K b. y.course (ask range_rest ∷ K) b ∙ range_last text a.next K (keep_word (constant_word w) b) a.state (with_range (last_end w) b) (λ p. refl) y.seen n;
        state = y.state;
        ends = g;
        seen = y.seen;
      }

  module _ (comes : kind_no a.next.kind ≡ colon) where
    to-colon : Seen text w → (K : Stack) (b : Built) → runs text (keep a_constant ∷ ask range_rest ∷ K) w b s ≡ on_taken text a.next (keep a_constant ∷ make make_both ∷ K) (keep_word (constant_word w) b) (counts_of a.state)
    to-colon z K b = (k.done refl z).course (ask range_rest ∷ K) b ∙ range-colon text a.next K (keep_word (constant_word w) b) a.state comes

    -- A colon that is not taken.
    pub range-no-colon : {e : Unread} → Took text a.next (counts_of a.state) a.state (Err e) → Ranges text w s (Err e)
    range-no-colon x z = not-taken x (λ K. keep a_constant ∷ make make_both ∷ K) (keep_word (constant_word w)) (to-colon z)

    module _ {t : Reached} (x : Took text a.next (counts_of a.state) a.state (Ok t)) where
      p : Passed text a.next (counts_of a.state) a.state t
      p = x.done refl

      to_last : Seen text w → (K : Stack) (b : Built) → runs text (keep a_constant ∷ ask range_rest ∷ K) w b s ≡ runs text (keep a_constant ∷ make make_both ∷ K) t.next (keep_word (constant_word w) b) t.state
      to_last z K b = to-colon z K b ∙ took-done p (k.done refl z).seen (keep a_constant ∷ make make_both ∷ K) (keep_word (constant_word w) b)

      -- The second bound does not come.
      pub range-half : {e : Unread} → Keeps text t.next t.state (Err e) → Ranges text w s (Err e)
      range-half m z = not-kept m p.seen (λ K. make make_both ∷ K) (keep_word (constant_word w)) (to_last z)

      -- Both bounds.
      pub range-both : {l : Reached} {e : Ends} → Keeps text t.next t.state (Ok l) → Bounded (both_ends w t.next) e → Ranges text w s (Ok (record { reached = l; ends = e }))
      unfolding word_no
      range-both {l} {e} m g z = tells-ok (read (m.done refl p.seen))
        where
          y : KeptOn text w s a
          y = k.done refl z

          read : KeptOn text t.next t.state l → RangeRead text w s (record { reached = l; ends = e })
          read q = record {
            tree = both_ends w t.next;
            course = λ K b. to_last z K b ∙ q.course (make make_both ∷ K) (keep_word (constant_word w) b)
                ∙ makes-it text make_both K l.next (keep_word (constant_word t.next) (keep_word (constant_word w) b)) (with_range (both_ends w t.next) b) l.state (λ r. refl);
            state = q.state ∙ state-of p.counts p.kept ∙ y.state;
            ends = g;
            seen = q.seen;
          }

-- ---- Their ends.

pub both-bounded : (v w : Word) {e : Ends} → e.first ≡ bound (number v.value.limbs) → e.last ≡ bound (number w.value.limbs) → e.left ≡ v.at → e.right ≡ w.at → Bounded (both_ends v w) e
both-bounded v w p q l r = record { bounds = rw (p, q); left = rw l; right = rw r }

pub last-bounded : (w : Word) {e : Ends} → e.first ≡ 1 → e.last ≡ bound (number w.value.limbs) → e.left ≡ w.at → e.right ≡ w.at → Bounded (last_end w) e
unfolding bound bare_constant decimal_constant bare_length right_justified digits_after
last-bounded w p q l r = record { bounds = rw (p, q); left = rw l; right = rw r }
