-- The machine's words where a declaration begins.
use mathlib.Core.Bool.{Bool, true, false}
use mathlib.Core.List.{List, ◌∷◌, ◌++◌}
use mathlib.Core.Path.{◌≡◌, refl, ◌∙◌, subst}
use Prim.Native.Nat.{ℕ, ◌≤◌}
use borrow.Author.Tests.{eqb-false, eqb-true, leb-true, ne_eqb}
use lib.Dec.{eqb}
use Rattle.language.specs.declared.refusals.Refusal.TheVariants.{NoContinuation}
use Rattle.parse_step.proofs.Looking.{View, begun, ended, name-ahead, view}
use Rattle.parse_step.proofs.TakenWords.{on_taken, taken-on, took-done}
use Rattle.parse_step.specs.Answers.{Answer}
use Rattle.parse_step.specs.declared.Reached.{Reached}
use Rattle.parse_step.specs.declared.State.{State}
use Rattle.parse_step.specs.Course.{Seen, Stack, behind, counts_of, kind_no, runs, runs_on}
use Rattle.parse_step.specs.declared.Bearing.TheVariants.{Level}
use Rattle.parse_step.specs.Taken.{Expected, Passed, Refuses, Took}
use Rattle.parse_step.proofs.States.{state-of}
use Rattle.parse_bounds.proofs.Telling.{refuses, word-taken}
use Rattle.parse_bounds.specs.Extents.{ask_of}
use Rattle.about_grammar.specs.FineWays.{both_first}
use Rattle.image_sections.specs.declared.facilities.FacilityKind.{FacilityKind}
use Rattle.image_sections.specs.declared.facilities.FacilityKind.TheVariants as F
use Rattle.language.specs.Building.{Built, keep_word}
use Rattle.language.specs.Kinds.{a_name, hash}
use Rattle.language.specs.Machine.{Counts, ask, choose, feed, finish, refused, run, tallied, within_ceilings}
use Rattle.language.specs.Ceilings.{deepest, most_counted, most_facilities, most_operations, most_states}
use Rattle.language.specs.SectionWays.{rule_of}
use Rattle.language.specs.Words.{fault}
use Rattle.text_words.specs.declared.Word.{Word}
use Rattle.text_words.specs.Meaning.{positioned}
use Rattle.parse_array.specs.Names.{letters}
use Rattle.parse_facilities.specs.Specs.{NameRead, Names, Plainly, end_of, more_state, named_word, spec_of, whose_of}

module _ (text : List ℕ) (w : Word) (K : Stack) (b : Built) (s : State) (z : Seen text w) where
  -- A name is kept, and counts.
  pub name-taken : (k : FacilityKind) → kind_no w.kind ≡ a_name
      → runs text (ask (spec_of k) ∷ K) w b s ≡ on_taken text w (ask (ask_of (whose_of k)) ∷ (end_of k ++ K)) (keep_word (named_word text w) b) (counts_of (more_state s))
  unfolding runs_on run feed choose rule_of tallied letters
  name-taken F.Register e = rw (name-ahead text w z e) (taken-on text (positioned w.at) (ask (ask_of (whose_of F.Register)) ∷ (end_of F.Register ++ K)) (behind text w) (keep_word (named_word text w) b) (counts_of (more_state s)))
  name-taken F.Sequencing e = rw (name-ahead text w z e) (taken-on text (positioned w.at) (ask (ask_of (whose_of F.Sequencing)) ∷ (end_of F.Sequencing ++ K)) (behind text w) (keep_word (named_word text w) b) (counts_of (more_state s)))
  name-taken F.Memory e = rw (name-ahead text w z e) (taken-on text (positioned w.at) (ask (ask_of (whose_of F.Memory)) ∷ (end_of F.Memory ++ K)) (behind text w) (keep_word (named_word text w) b) (counts_of (more_state s)))
  name-taken F.Plain e = rw (name-ahead text w z e) (taken-on text (positioned w.at) (ask (ask_of (whose_of F.Plain)) ∷ K) (behind text w) (keep_word (named_word text w) b) (counts_of (more_state s)))
  name-taken F.Input e = rw (name-ahead text w z e) (taken-on text (positioned w.at) (ask (ask_of (whose_of F.Input)) ∷ K) (behind text w) (keep_word (named_word text w) b) (counts_of (more_state s)))
  name-taken F.Computed e = rw (name-ahead text w z e) (taken-on text (positioned w.at) (ask (ask_of (whose_of F.Computed)) ∷ K) (behind text w) (keep_word (named_word text w) b) (counts_of (more_state s)))

  -- Another word is refused.
  pub name-stuck : (k : FacilityKind) → Plainly k w → (kind_no w.kind ≡ a_name → ⊥) → runs text (ask (spec_of k) ∷ K) w b s ≡ refused (fault (positioned w.at) NoContinuation)
  unfolding runs_on run feed finish choose rule_of
  name-stuck k h n = by-view k h (view text w z)
    where
      by-view : (k : FacilityKind) → Plainly k w → View text w → runs text (ask (spec_of k) ∷ K) w b s ≡ refused (fault (positioned w.at) NoContinuation)
      by-view F.Register h (ended e p q) = rw (e, p)
      by-view F.Register h (begun v e q p) = rw (e, q, ne_eqb (kind_no w.kind) a_name n, ne_eqb (kind_no w.kind) hash h, p)
      by-view F.Sequencing h (ended e p q) = rw (e, p)
      by-view F.Sequencing h (begun v e q p) = rw (e, q, ne_eqb (kind_no w.kind) a_name n, p)
      by-view F.Memory h (ended e p q) = rw (e, p)
      by-view F.Memory h (begun v e q p) = rw (e, q, ne_eqb (kind_no w.kind) a_name n, p)
      by-view F.Plain h (ended e p q) = rw (e, p)
      by-view F.Plain h (begun v e q p) = rw (e, q, ne_eqb (kind_no w.kind) a_name n, p)
      by-view F.Input h (ended e p q) = rw (e, p)
      by-view F.Input h (begun v e q p) = rw (e, q, ne_eqb (kind_no w.kind) a_name n, p)
      by-view F.Computed h (ended e p q) = rw (e, p)
      by-view F.Computed h (begun v e q p) = rw (e, q, ne_eqb (kind_no w.kind) a_name n, p)

-- ---- Facilities within their ceiling.

pub few-facilities : (c : Counts) → within_ceilings c ≡ true → c.facilities ≤ 256
unfolding within_ceilings most_facilities most_operations most_states most_counted deepest
few-facilities c e = leb-true c.facilities 256 (both_first _ _ e)

-- ---- As the code takes it.

not_named : {text : List ℕ} {w : Word} {s : State} {r : Answer} → (kind_no w.kind ≡ a_name → ⊥) → Refuses w NoContinuation r → Names text w s r
not_named {text} {w} {s} n x k h z f = refuses NoContinuation x (λ K b. name-stuck text w K b s z k h n)

named : {text : List ℕ} {w : Word} {s s' : State} {r : Answer} → kind_no w.kind ≡ a_name → (s.facilities ≤ 256 → s' ≡ more_state s) → Took text w (counts_of s') s' r → Names text w s r
named {text} {w} {s} {s'} {r} e g t k h z f = word-taken taken (λ v d. read v (taken.done d)) (λ K. ask (ask_of (whose_of k)) ∷ (end_of k ++ K)) (keep_word (named_word text w)) (λ K b. name-taken text w K b s z k e)
  where
    taken : Took text w (counts_of (more_state s)) (more_state s) r
    taken = subst (λ (q : State). Took text w (counts_of q) q r) (g (few-facilities (counts_of s) f)) t

    read : (v : Reached) → Passed text w (counts_of (more_state s)) (more_state s) v → NameRead text k w s v
    read v p = record {
      course = λ K b. name-taken text w K b s z k e ∙ took-done p z (ask (ask_of (whose_of k)) ∷ (end_of k ++ K)) (keep_word (named_word text w) b);
      state = state-of p.counts p.kept;
      room = few-facilities (counts_of (more_state s)) p.fits;
      within = p.fits;
      seen = p.seen;
    }

pub name-told : {text : List ℕ} {w : Word} {s s' : State} {r : Answer} → (s.facilities ≤ 256 → s' ≡ more_state s) → Expected text a_name Level w s' r → Names text w s r
name-told {text} {w} {s} {s'} {r} g x = by-test (eqb (kind_no w.kind) a_name) refl
  where
    by-test : (b : Bool) → eqb (kind_no w.kind) a_name ≡ b → Names text w s r
    by-test true t = let e = eqb-true _ _ t in named e g (x.came e)
    by-test false t = let n = eqb-false _ _ t in not_named n (x.missed n)
