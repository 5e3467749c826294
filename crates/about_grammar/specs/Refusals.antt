-- Where the machine refuses: 10 where a ceiling is passed, and there alone; 3 where no text of the grammar goes on.
use Rattle.std.specs.Prelude.{true, List, [], ◌∷◌, ◌++◌, ◌≡◌, refl, ℕ, ◌-◌, leb}
use Rattle.std.proofs.Common.{append_assoc, append-nil, ◌∙◌, ap, sym, arith, leb-true}
use Rattle.language.specs.Building.{Built, nothing_built}
use Rattle.language.specs.Declaring.{tree_steps}
use Rattle.language.specs.Machine.{Counts, Fed, Reading, after, ask, nested, no_counts, parsed, reading, refused, run, sections, within_ceilings}
use Rattle.language.specs.Ceilings.{deepest, most_counted, most_facilities, most_operations, most_states}
use Rattle.language.specs.declared.refusals.Refusal.TheVariants.{CeilingPassed, NoContinuation}
use Rattle.language.specs.SectionWays.{parse, parse_with, rule_of}
use Rattle.language.specs.Words.{Fault, Word}
use Rattle.about_grammar.specs.Ceilingless.{Passes, all}
use Rattle.about_grammar.specs.Complete.{complete-unbounded, fits_under, most}
use Rattle.about_grammar.specs.Courses.{Stack, Under}
use Rattle.about_grammar.specs.Fine.{Fine}
use Rattle.about_grammar.specs.FineWays.{both_first, both-second}
use Rattle.about_grammar.specs.Following.{among}
use Rattle.about_grammar.specs.Places.{Begins, NoWay, Within, with_nothing, with-word}
use Rattle.about_grammar.specs.StaysFine.{stays-fine}
use Rattle.about_grammar.specs.Stops.{Chain, Stopped, Why, find, no_way, not-refused, too_much, too_short}

-- ---- Counts that fit are under the ceilings.

pub under-fits : (c : Counts) → within_ceilings c ≡ true → Under most c
unfolding within_ceilings
under-fits c e =
    let e₁ = both-second (leb c.facilities most_facilities) _ e in
    let e₂ = both-second (leb c.operations most_operations) _ e₁ in
    let e₃ = both-second (leb c.states most_states) _ e₂ in
    record {
      facilities = leb-true c.facilities most_facilities (both_first (leb c.facilities most_facilities) _ e);
      operations = leb-true c.operations most_operations (both_first (leb c.operations most_operations) _ e₁);
      states = leb-true c.states most_states (both_first (leb c.states most_states) _ e₂);
      counted = leb-true c.counted most_counted (both_first (leb c.counted most_counted) _ e₃);
      nesting = leb-true c.nesting deepest (both-second (leb c.counted most_counted) _ e₃);
    }

pub eased : (c : Counts) → Within c → Within (nested (c.nesting - 1) c)
eased c e = let u = under-fits c e in fits_under (nested (c.nesting - 1) c) (omega arith)

abbrev pub start : Stack
start = ask sections ∷ []

abbrev pub begun : Reading Built
begun = reading nothing_built no_counts

abbrev pub ChainOf : Stack → Reading Built → List Word → Stack → Reading Built → Type 0
ChainOf K r us M s = Chain tree_steps within_ceilings Within (λ c e. e) eased (rule_of tree_steps) Fine stays-fine K r us M s

abbrev pub StoppedAt : List Word → ℕ → Fault → Type 0
StoppedAt ws end f = Stopped tree_steps within_ceilings Within (λ c e. e) eased (rule_of tree_steps) Fine stays-fine start begun ws end f

pub nothing-counted : Within no_counts
unfolding within_ceilings
nothing-counted = refl

pub start_fine : Fine start
unfolding among
start_fine = (refl, tt)

pub stopped : (ws : List Word) (end : ℕ) (f : Fault) → parse ws end ≡ refused f → StoppedAt ws end f
unfolding parse parse_with
stopped ws end f h = find tree_steps within_ceilings Within (λ c e. e) eased (rule_of tree_steps) Fine stays-fine ws start begun nothing-counted start_fine end f h

-- ---- 10.

pub ten-why : {L : Stack} {q : Reading Built} {end : ℕ} {left : List Word} {f : Fault} → Why tree_steps within_ceilings Within (λ c e. e) eased (rule_of tree_steps) Fine stays-fine L q end left f → f.refusal ≡ CeilingPassed → Passes tree_steps within_ceilings (rule_of tree_steps) end L q left f.at
ten-why (no_way w vs e) n = absurd (let z : ◌≡◌ {A = ℕ} 0 1 = cc in omega arith)
ten-why (too_short e) n = absurd (let z : ◌≡◌ {A = ℕ} 0 1 = cc in omega arith)
ten-why (too_much vs p x) n = x

-- ---- 3.

pub nothing-legal : {L : Stack} {q : Reading Built} {end : ℕ} {left : List Word} {f : Fault} (us : List Word) → ((vs : List Word) (end₁ : ℕ) → run tree_steps all (rule_of tree_steps) start (us ++ vs) end₁ begun ≡ run tree_steps all (rule_of tree_steps) L vs end₁ q)
    → Why tree_steps within_ceilings Within (λ c e. e) eased (rule_of tree_steps) Fine stays-fine L q end left f → f.refusal ≡ NoContinuation → NoWay us end left f.at
unfolding run parse_with
nothing-legal {L} {q} us reach (no_way w vs e) n = with-word w vs (λ x. none x (complete-unbounded x.is-text.derived 0))
  where
    none : (x : Begins (us ++ w ∷ [])) → (b : Built) × (parse_with tree_steps all nothing_built ((us ++ w ∷ []) ++ x.more) 0 ≡ parsed b) × (b.text ≡ x.is-text.tree) → ⊥
    none x y = not-refused (sym y.1 ∙ ap (λ (l : List Word). run tree_steps all (rule_of tree_steps) start l 0 begun) (append_assoc us (w ∷ []) x.more) ∙ reach (w ∷ x.more) 0 ∙ ap (λ (z : Fed Built). after tree_steps all (rule_of tree_steps) z (λ M s. run tree_steps all (rule_of tree_steps) M x.more 0 s)) e)
nothing-legal {end = end} us reach (too_short e) n =
    with_nothing (λ x.
    let y = complete-unbounded x.derived end in
    not-refused (sym y.1 ∙ ap (λ (l : List Word). run tree_steps all (rule_of tree_steps) start l end begun) (sym (append-nil us)) ∙ reach [] end ∙ e))
nothing-legal us reach (too_much vs p x) n = absurd (let z : ◌≡◌ {A = ℕ} 0 1 = cc in omega arith)
