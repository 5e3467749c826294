-- Sound: what is accepted is a text of the grammar, nested no deeper than may be, within the ceilings, and its tree is what was built.
use Rattle.std.specs.Prelude.{true, List, ◌≡◌, refl, ℕ, zero, suc, ◌+◌, ◌≤◌, length}
use Rattle.std.proofs.Common.{sym, subst, arith}
use Rattle.language.specs.Building.{Built, nothing_built}
use Rattle.language.specs.CountedWords.{WithinCeilings}
use Rattle.language.specs.Declaring.{tree_steps}
use Rattle.language.specs.Grammar.{Is}
use Rattle.language.specs.Machine.{Counts, nested, no_counts, parsed, within_ceilings}
use Rattle.language.specs.Ceilings.{deepest, most_counted, most_facilities, most_operations, most_states}
use Rattle.language.specs.Notions.{text, whole_text}
use Rattle.language.specs.SectionWays.{parse, parse_with}
use Rattle.language.specs.Tree.{Text}
use Rattle.language.specs.Words.{Word}
use Rattle.about_grammar.specs.Accepting.{Judge, Proper}
use Rattle.about_grammar.specs.Ceilingless.{all}
use Rattle.about_grammar.specs.FoundText.{TextFound, a-text}
use Rattle.about_grammar.specs.Refusals.{under-fits}

-- Counts within their ceilings, nesting apart.
record Bounded (c : Counts) : Type 0 where
  facilities : c.facilities ≤ most_facilities
  operations : c.operations ≤ most_operations
  states : c.states ≤ most_states
  counted : c.counted ≤ most_counted

bounded : (c : Counts) → within_ceilings c ≡ true → Bounded c
bounded c e = let u = under-fits c e in record { facilities = u.facilities; operations = u.operations; states = u.states; counted = u.counted }

opened : (n h : ℕ) → suc n ≤ deepest → deepest ≤ n + h → (g : ℕ) × (h ≡ suc g) × (deepest ≤ suc n + g)
opened n zero u r = absurd (omega arith)
opened n (suc g) u r = (g, refl, omega arith)

judged : ℕ → Built → Judge
judged end b = record {
  fits = within_ceilings;
  Good = Bounded;
  good = bounded;
  eased = λ c g. record { facilities = g.facilities; operations = g.operations; states = g.states; counted = g.counted };
  deep = deepest;
  Room = λ n h k. deepest ≤ n + h;
  level-room = λ n h k r. r;
  close-room = λ n h k r. omega arith;
  open-room = λ c n h k e r. opened n h (under-fits (nested (suc n) c) e).nesting r;
  end = end;
  result = b;
}

nothing-counted : Bounded no_counts
nothing-counted = omega arith

pub sound : (ws : List Word) (end : ℕ) (b : Built) → Proper ws → parse ws end ≡ parsed b → Is whole_text deepest ws (text b.text) × WithinCeilings b.text
unfolding parse parse_with judged
sound ws end b q e = go (a-text (judged end b) (length ws) ws (record { runs = e; good = nothing-counted; room = omega arith; short = omega arith; proper = q }))
  where
    go : TextFound (judged end b) ws → Is whole_text deepest ws (text b.text) × WithinCeilings b.text
    go f =
        let g = f.gained in
        let y : Bounded f.counts = f.good in (
          subst (λ (t : Text). Is whole_text deepest ws (text t)) (sym f.built) f.is,
          subst WithinCeilings (sym f.built) (record { facilities = omega (arith, g.facilities, y.facilities); operations = omega (arith, g.operations, y.operations); states = omega (arith, g.states, y.states); counted = omega (arith, g.counted, y.counted) }),
        )

-- ---- Without ceilings: a text of the grammar, nested no deeper than it has words.

fewer : (h k : ℕ) → suc k ≤ h → (g : ℕ) × (h ≡ suc g) × (k ≤ g)
fewer zero k r = absurd (omega arith)
fewer (suc g) k r = (g, refl, omega arith)

free : ℕ → ℕ → Built → Judge
free n end b = record {
  fits = all;
  Good = λ c. Unit {0};
  good = λ c e. tt;
  eased = λ c g. tt;
  deep = n;
  Room = λ n h k. k ≤ h;
  level-room = λ n h k r. omega arith;
  close-room = λ n h k r. omega arith;
  open-room = λ c n h k e r. fewer h k r;
  end = end;
  result = b;
}

pub sound-unbounded : (ws : List Word) (end : ℕ) (b : Built) → Proper ws → parse_with tree_steps all nothing_built ws end ≡ parsed b → Is whole_text (length ws) ws (text b.text)
unfolding parse_with free
sound-unbounded ws end b q e =
    let f = a-text (free (length ws) end b) (length ws) ws (record { runs = e; good = tt; room = omega arith; short = omega arith; proper = q }) in
    subst (λ (t : Text). Is whole_text (length ws) ws (text t)) (sym f.built) f.is
