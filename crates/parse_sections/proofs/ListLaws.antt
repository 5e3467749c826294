-- A section of declarations, as the code reads it.
use mathlib.Core.List.{List, [], ◌∷◌}
use mathlib.Core.Path.{◌≡◌, refl, ap, ◌∙◌}
use Prim.Native.Nat.{ℕ}
use Rattle.parse_step.proofs.TakenWords.{took-done}
use Rattle.parse_step.specs.declared.Reached.{Reached}
use Rattle.parse_step.specs.declared.Unread.{Unread}
use Rattle.std.specs.Prelude.{Err, Ok, Result}
use Rattle.parse_step.specs.declared.State.{State}
use Rattle.parse_step.specs.Course.{Stack, counts_of, runs}
use Rattle.parse_step.specs.Taken.{Passed, Took}
use Rattle.parse_facilities.proofs.StoredLaws.{standing-passed}
use Rattle.parse_facilities.specs.declared.Progress.{Progress}
use Rattle.parse_facilities.specs.Lists.{Listing, Lists, SomeRead, Stands, more_in, spec_in}
use Rattle.parse_step.proofs.States.{state-of}
use Rattle.parse_bounds.proofs.Telling as D
use Rattle.language.specs.Building.{Built}
use Rattle.language.specs.Machine.{ask}
use Rattle.language.specs.Tree.{Declaration}
use Rattle.parse_sections.proofs.Telling.{told}
use Rattle.text_words.specs.declared.Word.{Word}
use Rattle.parse_sections.proofs.SectionWords.{section-taken}
use Rattle.parse_sections.specs.Sections.{Between, Section, SectionRead, Starts, after_in}

-- A word is taken that counts nothing.
pub between-passed : {text : List ℕ} {ds : List Declaration} {place : ℕ} {w : Word} {s : State} {work : List ℕ} {a : Reached} → Between text ds place w s work → Passed text w (counts_of s) s a
    → Between text ds place a.next a.state work
between-passed {s = s} {a = a} x p =
    let e : a.state ≡ s = state-of p.counts p.kept in
    record {
      standing = standing-passed x.standing p;
      operations = ap (λ (j : State). j.operations) e ∙ x.operations;
      states = ap (λ (j : State). j.states) e ∙ x.states;
      level = ap (λ (j : State). j.nesting) e ∙ x.level;
      actions = ap (λ (j : State). j.actions) e ∙ x.actions;
    }

module _ {text : List ℕ} (l : Listing) {w : Word} {s : State} {place : ℕ} {work : List ℕ} (i : Starts l text place w s work) where
  abbrev list_stack : Stack → Stack
  list_stack K = ask (spec_in l) ∷ ask (more_in l) ∷ ask (after_in l) ∷ K

  pub section-not : {e : Unread} → Took text w (counts_of s) s (Err e) → Section l text w s place work work (Err e)
  section-not t p c ds x = told (D.not-taken t list_stack (λ b. b) (λ K b. section-taken text w K b s c i.word))

  module _ {a : Reached} (t : Took text w (counts_of s) s (Ok a)) where
    pub section-stands : Stands text place a.next a.state work
    section-stands = record { declared = i.somewhere.declared; standing = standing-passed i.somewhere.between.standing (t.done refl) }

    pub section-read : {r : Result Progress Unread} {work' : List ℕ} → Lists l text a.next a.state place work work' r → Section l text w s place work work' r
    section-read {r} {work'} f p c ds x = told (D.through (f ds here.standing) (λ K. ask (after_in l) ∷ K) (λ b. b) to-list read)
      where
        here : Between text ds place a.next a.state work
        here = between-passed x (t.done refl)

        to-list : (K : Stack) (b : Built) → runs text (ask p ∷ K) w b s ≡ runs text (list_stack K) a.next b a.state
        to-list K b = section-taken text w K b s c i.word ∙ took-done (t.done refl) x.standing.seen (list_stack K) b

        read : (z : Progress) → SomeRead text ds l (ask (spec_in l) ∷ ask (more_in l) ∷ []) [] a.next a.state z.reached.next z.reached.state z.place work' → SectionRead text ds l p w s work' z
        read z v = record {
          trees = v.trees;
          course = λ K b. to-list K b ∙ v.course (ask (after_in l) ∷ K) b;
          between = record {
            standing = v.standing;
            operations = v.others.operations ∙ here.operations;
            states = v.others.states ∙ here.states;
            level = v.others.nesting ∙ here.level;
            actions = v.others.actions ∙ here.actions;
          };
        }
