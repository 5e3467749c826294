-- The machine takes the words of a whole text, and gives its tree.
use Rattle.std.specs.Prelude.{List, [], ◌∷◌, ◌++◌, ◌≡◌, refl, ℕ, ◌+◌, length}
use Rattle.std.proofs.Common.{append_assoc, ◌∙◌, ap, sym, arith}
use Rattle.language.specs.Building.{Built, nothing_built, with_text}
use Rattle.language.specs.CountedWords.{counted_words}
use Rattle.language.specs.Kinds.{dollar}
use Rattle.language.specs.Machine.{Counts, ask, choose, dollar_option, feed, finish, no_counts, parsed, reading, run, sections, tallied}
use Rattle.language.specs.SectionWays.{rule_of}
use Rattle.language.specs.Tree.{Declaration, Operation, State, Text}
use Rattle.language.specs.Words.{Position, Word, sign}
use Rattle.about_grammar.specs.Control.{Controlled, stated}
use Rattle.about_grammar.specs.Courses.{Ceiling, Under, runs, then-words, took_it}
use Rattle.about_grammar.specs.Declared.{Declares}
use Rattle.about_grammar.specs.Following.{none-following}
use Rattle.about_grammar.specs.Operated.{OperationsFrom, OperationsPart, operated}
use Rattle.about_grammar.specs.Reaching.{Amount, Space, amount, filed, memories, reaching, registers, terminals}

-- What the whole counts.
abbrev pub amount_of : Text → Amount
amount_of t = amount (length t.registers + length t.memories + length t.terminals) (length t.operations) (length t.states) (counted_words t)

pub record Dollared (C : Ceiling) (us : List Word) : Type 0 where
  pub takes : (b : Built) (c : Counts) → Under C.top c → (end : ℕ) → runs C (ask dollar_option ∷ []) us end (reading b c) ≡ parsed b

pub no-dollar : {C : Ceiling} → Dollared C []
unfolding run finish rule_of
no-dollar = record { takes = λ b c u end. refl }

pub some-dollar : {C : Ceiling} {p : Position} → Dollared C (sign dollar p ∷ [])
unfolding run feed finish choose rule_of tallied
some-dollar {C} {p} = record { takes = λ b c u end. took_it C p [] b c u (λ L q. runs C L [] end q) }

pub record Texted (C : Ceiling) (h : ℕ) (us : List Word) (t : Text) : Type 0 where
  pub takes : Space C.top no_counts (amount_of t) h → (end : ℕ) → (b : Built) × (runs C (ask sections ∷ []) us end (reading nothing_built no_counts) ≡ parsed b) × (b.text ≡ t)

pub whole-text : {C : Ceiling} {h : ℕ} {us vs ws xs : List Word} {rs ms ts : List Declaration} {os : List Operation} {ss : List State} → Declares C h us rs ms ts → OperationsPart C h vs os → Controlled C h ws ss → Dollared C xs
    → Texted C h (us ++ (vs ++ (ws ++ xs))) (record { registers = rs; memories = ms; terminals = ts; operations = os; states = ss })
unfolding counted_words
whole-text {C} {h} {us} {vs} {ws} {xs} {rs} {ms} {ts} {os} {ss} x y z w = go (y.from x.next x.ready)
  where
    regrouped : (us vs ws xs : List Word) → (us ++ (vs ++ ws)) ++ xs ≡ us ++ (vs ++ (ws ++ xs))
    regrouped us vs ws xs = append_assoc us (vs ++ ws) xs ∙ ap (λ (l : List Word). us ++ l) (append_assoc vs ws xs)

    go : OperationsFrom C h x.next vs os → Texted C h (us ++ (vs ++ (ws ++ xs))) (record { registers = rs; memories = ms; terminals = ts; operations = os; states = ss })
    go o = record {
      takes = λ space end.
          let t₀ = filed terminals (filed memories (filed registers nothing_built.text rs) ms) ts in
          reaching (x.takes [] nothing_built no_counts (omega arith)) λ d g m.
          reaching (o.takes [] (with_text nothing_built t₀) d (omega arith)) λ d₁ g₁ m₁.
          reaching (z.takes o.ready [] (with_text nothing_built (operated t₀ os)) d₁ (omega arith)) λ d₂ g₂ m₂. (
            with_text nothing_built (stated (operated t₀ os) ss),
            ap (λ (l : List Word). runs C (ask sections ∷ []) l end (reading nothing_built no_counts)) (sym (regrouped us vs ws xs))
                ∙ (then-words m (then-words m₁ m₂)).course xs end (none-following xs) ∙ w.takes (with_text nothing_built (stated (operated t₀ os) ss)) d₂ (omega arith) end,
            refl,
          );
    }
