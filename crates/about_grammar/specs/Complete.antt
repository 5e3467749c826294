-- Complete: every text of the grammar within the ceilings is accepted, with its tree. And the words have one tree only.
use Rattle.std.specs.Prelude.{Bool, true, false, List, ◌≡◌, refl, ℕ, leb}
use Rattle.std.proofs.Common.{◌∙◌, ap, sym, arith, le-leb}
use Rattle.language.specs.Building.{Built, nothing_built}
use Rattle.language.specs.CountedWords.{WithinCeilings}
use Rattle.language.specs.Declaring.{tree_steps}
use Rattle.language.specs.Grammar.{Is}
use Rattle.language.specs.Machine.{Counts, parsed, within_ceilings}
use Rattle.language.specs.Ceilings.{deepest, most_counted, most_facilities, most_operations, most_states}
use Rattle.language.specs.Notions.{text, whole_text}
use Rattle.language.specs.SectionWays.{parse, parse_with}
use Rattle.language.specs.Tree.{Text}
use Rattle.language.specs.Words.{Word}
use Rattle.about_grammar.specs.Courses.{Ceiling, Under}
use Rattle.about_grammar.specs.Derived.{takes}
use Rattle.about_grammar.specs.WholeText.{amount_of}
use Rattle.language.specs.Tests.{both}

-- The ceilings of the language.
abbrev pub most : Counts
most = record { facilities = most_facilities; operations = most_operations; states = most_states; counted = most_counted; nesting = deepest }

both_true : (a b : Bool) → a ≡ true → b ≡ true → both a b ≡ true
both_true true b e f = f
both_true false b e f = e

pub fits_under : (c : Counts) → Under most c → within_ceilings c ≡ true
unfolding within_ceilings
fits_under c u =
    both_true (leb c.facilities most_facilities) _ (le-leb c.facilities most_facilities u.facilities)
    (both_true (leb c.operations most_operations) _ (le-leb c.operations most_operations u.operations)
    (both_true (leb c.states most_states) _ (le-leb c.states most_states u.states)
    (both_true (leb c.counted most_counted) _ (le-leb c.counted most_counted u.counted) (le-leb c.nesting deepest u.nesting))))

abbrev pub ceilings : Ceiling
ceilings = record { fits = within_ceilings; top = most; below = fits_under }

pub complete : {ws : List Word} {t : Text} → Is whole_text deepest ws (text t) → WithinCeilings t → (end : ℕ) → (b : Built) × (parse ws end ≡ parsed b) × (b.text ≡ t)
unfolding parse parse_with
complete x w end = (takes ceilings x).takes (record { facilities = omega (arith, w.facilities); operations = omega (arith, w.operations); states = omega (arith, w.states); counted = omega (arith, w.counted); nesting = omega arith }) end

-- Without ceilings; a top as high as a text asks.
abbrev pub unbounded : Text → ℕ → Ceiling
unbounded t h = record {
  fits = λ c. true;
  top = record { facilities = (amount_of t).facilities; operations = (amount_of t).operations; states = (amount_of t).states; counted = (amount_of t).counted; nesting = h };
  below = λ c u. refl;
}

pub complete-unbounded : {h : ℕ} {ws : List Word} {t : Text} → Is whole_text h ws (text t) → (end : ℕ) → (b : Built) × (parse_with tree_steps (λ c. true) nothing_built ws end ≡ parsed b) × (b.text ≡ t)
unfolding parse_with
complete-unbounded {h} {ws} {t} x end = (takes (unbounded t h) x).takes (record { facilities = omega arith; operations = omega arith; states = omega arith; counted = omega arith; nesting = omega arith }) end

pub parsed-one : {b d : Built} → parsed b ≡ parsed d → b ≡ d
parsed-one e = cc

-- The words of a text have one tree.
pub unique : {h k : ℕ} {ws : List Word} {t u : Text} → Is whole_text h ws (text t) → Is whole_text k ws (text u) → t ≡ u
unique x y =
    let p = complete-unbounded x 0 in
    let q = complete-unbounded y 0 in
    sym p.2 ∙ ap (λ (b : Built). b.text) (parsed-one (sym p.1 ∙ q.1)) ∙ q.2
