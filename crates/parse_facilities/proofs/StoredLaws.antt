-- Registers and memories, as the code reads them.
use mathlib.Core.List.{List, [], ◌∷◌, ◌++◌}
use mathlib.Core.Path.{◌≡◌, refl, sym, ap, ◌∙◌, subst}
use Prim.Native.Nat.{ℕ, ◌*◌, ◌≤◌}
use native.Mathlib.Omega.{arith}
use Rattle.parse_step.proofs.Looking.{sign-ahead}
use Rattle.parse_step.proofs.Saying.{makes-it}
use Rattle.parse_step.proofs.TakenWords.{on_taken, taken-on, took-done}
use Rattle.parse_step.specs.declared.Reached.{Reached}
use Rattle.parse_step.specs.declared.Unread.{Unread}
use Rattle.std.specs.Prelude.{Err, Ok, Result}
use Rattle.parse_step.specs.declared.State.{State}
use Rattle.parse_step.specs.Course.{Seen, Stack, behind, counts_of, kind_no, runs, runs_on}
use Rattle.parse_step.specs.Taken.{Passed, Took}
use Rattle.parse_step.proofs.States.{state-of}
use Rattle.parse_bounds.proofs.Telling.{not-taken, tells-ok, through, untold}
use Rattle.parse_bounds.specs.declared.extents.Measured.{Measured}
use Rattle.parse_bounds.specs.Extents.{ExtentRead, Measures, ask_of, to_come, with_extent}
use Rattle.parse_bounds.specs.Telling.{same}
use Rattle.image_sections.specs.declared.facilities.FacilityKind.{FacilityKind}
use Rattle.image_sections.specs.declared.facilities.FacilityKind.TheVariants as F
use Rattle.language.specs.Building.{Built, keep_word, with_text, word_no}
use Rattle.language.specs.Declaring.{make_memory, make_register, make_sequencing}
use Rattle.language.specs.DescribeText.{function_sizes}
use Rattle.language.specs.Description.{nowhere}
use Rattle.language.specs.Kinds.{hash}
use Rattle.language.specs.Machine.{ask, choose, feed, register_spec, run, sequencing_spec, tallied, within_ceilings}
use Rattle.language.specs.SectionWays.{rule_of}
use Rattle.language.specs.Tree as T
use Rattle.language.specs.Tree.{Declaration, Extent}
use Rattle.text_words.specs.declared.Position as P
use Rattle.text_words.specs.declared.Word.{Word}
use Rattle.text_words.specs.Meaning.{positioned}
use Rattle.parse_facilities.proofs.Unexpressed.{bare-awaits, bare-said, said_of}
use Rattle.parse_facilities.specs.declared.Progress.{Progress}
use Rattle.parse_facilities.specs.Declares.{OneRead, OthersKept, Registers, Standing, Stored, Stores, put}
use Rattle.parse_facilities.specs.Listed.{Added, Adds, Awaiting, Listed, known_state}
use Rattle.parse_facilities.specs.Specs.{NameRead, Names, declaration_of, end_of, more_state, named_word, spec_of, whose_of}

-- ---- Counts that declarations do not touch.

pub others_same : {s s' : State} → s' ≡ s → OthersKept s s'
others_same e = record { operations = ap (λ (j : State). j.operations) e; states = ap (λ (j : State). j.states) e; nesting = ap (λ (j : State). j.nesting) e; actions = ap (λ (j : State). j.actions) e }

pub others-then : {s s₁ s₂ : State} → OthersKept s s₁ → OthersKept s₁ s₂ → OthersKept s s₂
others-then x y = record { operations = y.operations ∙ x.operations; states = y.states ∙ x.states; nesting = y.nesting ∙ x.nesting; actions = y.actions ∙ x.actions }

-- ---- Where reading stands, when a word is taken that counts nothing.

pub standing-same : {text : List ℕ} {ds : List Declaration} {place place' : ℕ} {w next : Word} {s s' : State} {work : List ℕ} → Standing text ds place w s work → s' ≡ s → place' ≡ place → Seen text next
    → Standing text ds place' next s' work
standing-same {text} {ds} {place} {place'} {next = next} {s} {s'} {work} st e f z = record {
  seen = z;
  short = st.short;
  within = ap (λ (j : State). within_ceilings (counts_of j)) e ∙ st.within;
  listed = subst (λ (j : State). Listed text ds place' j work) (sym e) (subst (λ (n : ℕ). Listed text ds n s work) (sym f) st.listed);
  paid = subst (λ (j : State). j.nodes ≤ 7 * j.counted) (sym e) st.paid;
}

pub standing-passed : {text : List ℕ} {ds : List Declaration} {place : ℕ} {w : Word} {s : State} {work : List ℕ} {a : Reached} → Standing text ds place w s work → Passed text w (counts_of s) s a
    → Standing text ds place a.next a.state work
standing-passed st p = standing-same st (state-of p.counts p.kept) refl p.seen

-- The step that ends a declaration puts it at the end of its list.
ends : (text : List ℕ) (k : FacilityKind) → Stored k → (w next : Word) (x : Extent) (K : Stack) (b : Built) (s : State)
    → runs text (to_come (whose_of k) x ++ (end_of k ++ K)) next (with_extent x (keep_word (named_word text w) b)) s ≡ runs text K next (with_text b (put k (declaration_of text k w x T.unspecified) b.text)) s
unfolding word_no
ends text F.Register h w next x K b s = makes-it text make_register K next (with_extent x (keep_word (named_word text w) b)) (with_text b (put F.Register (declaration_of text F.Register w x T.unspecified) b.text)) s (λ p. refl)
ends text F.Sequencing h w next x K b s = makes-it text make_sequencing K next (with_extent x (keep_word (named_word text w) b)) (with_text b (put F.Sequencing (declaration_of text F.Sequencing w x T.unspecified) b.text)) s (λ p. refl)
ends text F.Memory h w next x K b s = makes-it text make_memory K next (with_extent x (keep_word (named_word text w) b)) (with_text b (put F.Memory (declaration_of text F.Memory w x T.unspecified) b.text)) s (λ p. refl)
ends text F.Plain h w next x K b s = absurd h
ends text F.Input h w next x K b s = absurd h
ends text F.Computed h w next x K b s = absurd h

module _ {text : List ℕ} {w : Word} {s : State} {place : ℕ} {k : FacilityKind} {work work' : List ℕ} where
  pub stored-unnamed : {e : Unread} → Names text w s (Err e) → Stores text w s place k work work' (Err e)
  stored-unnamed x h q ds st = untold (x k q st.seen st.within) (λ K. K) same (λ K b. refl)

  module _ {a : Reached} (x : Names text w s (Ok a)) where
    pub stored-unmeasured : {e : Unread} → Measures text a.next a.state (Err e) → Stores text w s place k work work' (Err e)
    stored-unmeasured g h q ds st =
        let y = (x k q st.seen st.within).done refl in
        untold (g (whose_of k) y.seen) (λ K. end_of k ++ K) (keep_word (named_word text w)) y.course

    pub stored-read : {m : Measured} → Measures text a.next a.state (Ok m) → {e : P.Position} → positioned e ≡ nowhere → {r : Progress} → Adds m.reached.next m.reached.state place (said_of k w m.extent 0 e) work work' r
        → Stores text w s place k work work' (Ok r)
    stored-read {m} g o {r} f h q ds st = tells-ok read
      where
        y : NameRead text k w s a
        y = (x k q st.seen st.within).done refl

        z : ExtentRead text (whose_of k) (ask (ask_of (whose_of k)) ∷ []) same a.next a.state a.state m
        z = (g (whose_of k) y.seen).done refl

        d : Declaration
        d = declaration_of text k w z.tree T.unspecified

        counted : m.reached.state ≡ more_state s
        counted = z.state ∙ y.state

        v : Added text (ds ++ d ∷ []) m.reached.next m.reached.state work' r
        v = f text ds d (subst (λ (j : State). Awaiting text ds d place j work) (sym counted) (bare-awaits text k w z.tree T.unspecified tt ds place s work st.listed y.room))
            (bare-said text k w z.tree T.unspecified tt (function_sizes ds) st.seen st.short z.extent o)

        known : r.reached.state ≡ known_state (more_state s)
        known = v.state ∙ ap known_state counted

        untouched : OthersKept s r.reached.state
        untouched = record { operations = ap (λ (j : State). j.operations) known; states = ap (λ (j : State). j.states) known; nesting = ap (λ (j : State). j.nesting) known; actions = ap (λ (j : State). j.actions) known }

        course : (K : Stack) (b : Built) → runs text (ask (spec_of k) ∷ K) w b s ≡ runs text K r.reached.next (with_text b (put k d b.text)) r.reached.state
        course K b =
            y.course K b ∙ z.course (end_of k ++ K) (keep_word (named_word text w) b) ∙ ends text k h w m.reached.next z.tree K b m.reached.state
            ∙ rw (v.word, v.state)

        read : OneRead text ds (ask (spec_of k) ∷ []) k w s work' r
        read = record {
          tree = d;
          course = course;
          standing = record {
            seen = subst (Seen text) (sym v.word) z.seen;
            short = st.short;
            within = ap (λ (j : State). within_ceilings (counts_of j)) known ∙ y.within;
            listed = v.listed;
            paid = subst (λ (j : State). j.nodes ≤ 7 * j.counted) (sym known) st.paid;
          };
          others = untouched;
        }

-- ---- Registers.

hash-taken : (text : List ℕ) (w : Word) (s : State) → kind_no w.kind ≡ hash → (K : Stack) (b : Built) → runs text (ask register_spec ∷ K) w b s ≡ on_taken text w (ask sequencing_spec ∷ K) b (counts_of s)
unfolding runs_on run feed choose rule_of tallied
hash-taken text w s e K b = rw (sign-ahead text w hash e (omega arith)) (taken-on text (positioned w.at) (ask sequencing_spec ∷ K) (behind text w) b (counts_of s))

module _ {text : List ℕ} {w : Word} {s : State} {place : ℕ} {work work' : List ℕ} where
  pub register-plain : (kind_no w.kind ≡ hash → ⊥) → {r : Result Progress Unread} → Stores text w s place F.Register work work' r → Registers text w s place work work' r
  register-plain n f ds st = f tt n ds st

  module _ (comes : kind_no w.kind ≡ hash) where
    pub hash-not : {e : Unread} → Took text w (counts_of s) s (Err e) → Registers text w s place work work' (Err e)
    hash-not t ds st = not-taken t (λ K. ask sequencing_spec ∷ K) same (hash-taken text w s comes)

    pub register-sequencing : {a : Reached} → Took text w (counts_of s) s (Ok a) → {r : Result Progress Unread} → Stores text a.next a.state place F.Sequencing work work' r → Registers text w s place work work' r
    register-sequencing {a} t {r} f ds st = through (f tt tt ds (standing-passed st p)) (λ K. K) same to-name read
      where
        p : Passed text w (counts_of s) s a
        p = t.done refl

        to-name : (K : Stack) (b : Built) → runs text (ask register_spec ∷ K) w b s ≡ runs text (ask sequencing_spec ∷ K) a.next b a.state
        to-name K b = hash-taken text w s comes K b ∙ took-done p st.seen (ask sequencing_spec ∷ K) b

        read : (v : Progress) → OneRead text ds (ask sequencing_spec ∷ []) F.Sequencing a.next a.state work' v → OneRead text ds (ask register_spec ∷ []) F.Register w s work' v
        read v y = record { tree = y.tree; course = λ K b. to-name K b ∙ y.course K b; standing = y.standing; others = others-then (others_same (state-of p.counts p.kept)) y.others }
