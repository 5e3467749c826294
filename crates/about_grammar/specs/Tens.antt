-- What passes a ceiling in the machine: the word kept last, or the next one.
use Rattle.std.specs.Prelude.{true, false, List, [], ◌∷◌, ◌≡◌, refl, ℕ, drop}
use Rattle.std.proofs.Common.{◌∙◌, ap, sym, subst}
use Rattle.language.specs.Building.{Built, word_no}
use Rattle.language.specs.Declaring.{tree_steps}
use Rattle.language.specs.Machine.{Ask, Counts, Reading, ask, bears, counted, feed, leave, may, more, nested, operand, reading, tallied, took, within_ceilings}
use Rattle.language.specs.SectionWays.{rule_of}
use Rattle.language.specs.BuildSteps.{Step}
use Rattle.language.specs.Words.{Position, Word, kind_of, word_at}
use Rattle.about_grammar.specs.Calm.{calm, calm-below, calm-top, top_waits, waits}
use Rattle.about_grammar.specs.Ceilingless.{Passes, all, by-counting, by-ease, by-kept, by-leaving, by-make, by_way, by_word}
use Rattle.about_grammar.specs.Courses.{Stack}
use Rattle.about_grammar.specs.Following.{Follows, among}
use Rattle.about_grammar.specs.Places.{Within}
use Rattle.about_grammar.specs.Stacks.{choose-none, kinds_of}
use Rattle.about_grammar.specs.Stepping.{settled-begun, settled_counts}
use Rattle.about_grammar.specs.Tale.{waits_for}
use Rattle.about_grammar.specs.TellingTerms.{none-next}

abbrev Passing : ℕ → Stack → Reading Built → List Word → Position → Type 0
Passing end K r vs p = Passes tree_steps within_ceilings (rule_of tree_steps) end K r vs p

-- ---- What passes, by the words kept and taken.

-- The next word is taken, and passes.
pub record ByWord (K : Stack) (r : Reading Built) (w : Word) (p : Position) : Type 0 where
  pub place : p ≡ word_at w
  pub stack : Stack
  pub reads : Reading Built
  pub takes : feed tree_steps all (rule_of tree_steps) K w r ≡ took stack reads
  pub past : within_ceilings reads.counts ≡ false

pub waits-so : (n : Ask) (f : Step Built) → (rule_of tree_steps n).without ≡ operand f → waits n ≡ true
unfolding waits
waits-so n f e = rw e refl

-- A notion is left out, without ceilings.
skip : (n : Ask) (f : Step Built) (K : Stack) (r : Reading Built) (w : Word) → (rule_of tree_steps n).without ≡ may f → among (kind_of w) (kinds_of (rule_of tree_steps n).ways) ≡ false
    → feed tree_steps all (rule_of tree_steps) (ask n ∷ K) w r ≡ feed tree_steps all (rule_of tree_steps) K w (reading (f (word_at w) r.built) r.counts)
unfolding feed
skip n f K r w e a = choose-none tree_steps all (rule_of tree_steps n).ways w a K r (leave tree_steps all (rule_of tree_steps n).without w r (λ q. feed tree_steps all (rule_of tree_steps) K w q)) ∙ so
  where
    so : leave tree_steps all (rule_of tree_steps n).without w r (λ q. feed tree_steps all (rule_of tree_steps) K w q) ≡ feed tree_steps all (rule_of tree_steps) K w (reading (f (word_at w) r.built) r.counts)
    so = rw e refl

skip-counted : (n : Ask) (f : Step Built) (K : Stack) (r : Reading Built) (w : Word) → (rule_of tree_steps n).without ≡ operand f → among (kind_of w) (kinds_of (rule_of tree_steps n).ways) ≡ false
    → feed tree_steps all (rule_of tree_steps) (ask n ∷ K) w r ≡ feed tree_steps all (rule_of tree_steps) K w (reading (f (word_at w) r.built) (more counted r.counts))
unfolding feed
skip-counted n f K r w e a = choose-none tree_steps all (rule_of tree_steps n).ways w a K r (leave tree_steps all (rule_of tree_steps n).without w r (λ q. feed tree_steps all (rule_of tree_steps) K w q)) ∙ so
  where
    so : leave tree_steps all (rule_of tree_steps n).without w r (λ q. feed tree_steps all (rule_of tree_steps) K w q) ≡ feed tree_steps all (rule_of tree_steps) K w (reading (f (word_at w) r.built) (more counted r.counts))
    so = rw e refl

through : {K L : Stack} {r s : Reading Built} {w : Word} {p : Position} → feed tree_steps all (rule_of tree_steps) K w r ≡ feed tree_steps all (rule_of tree_steps) L w s → ByWord L s w p → ByWord K r w p
through e x = record { place = x.place; stack = x.stack; reads = x.reads; takes = e ∙ x.takes; past = x.past }

-- From a stack on which nothing waits.
by-word-calm : (end : ℕ) {K : Stack} {r : Reading Built} {p : Position} (w : Word) (vs : List Word) → calm K ≡ true → Passing end K r (w ∷ vs) p → ByWord K r w p
unfolding feed calm
by-word-calm end _ _ h (by_word {K} {r} {k} {g} w vs e f) = record { place = refl; stack = K; reads = reading r.built (nested (bears g r.counts.nesting) r.counts); takes = rw e refl; past = f }
by-word-calm end _ _ h (by_way w vs M s a e f) = record { place = refl; stack = M; reads = s; takes = e; past = f }
by-word-calm end w vs h (by-kept {K} {n = n} {f = f} _ e a g) = absurd (calm-top (ask n ∷ K) h (waits-so n f e))
by-word-calm end w vs h (by-make x) = through refl (by-word-calm end w vs h x)
by-word-calm end w vs h (by-ease x) = through refl (by-word-calm end w vs h x)
by-word-calm end w vs h (by-leaving {K} {r} {n} {f} e a x) = through (skip n f K r w e a) (by-word-calm end w vs (calm-below (ask n ∷ K) h) x)
by-word-calm end w vs h (by-counting {K} {n = n} {f = f} e a g x) = absurd (calm-top (ask n ∷ K) h (waits-so n f e))

-- A word passes: the one kept last, or the next one.
pub data Passed (K : Stack) (r : Reading Built) (w : Word) (vs : List Word) (p : Position) : Type 0 where
  kept-passes : top_waits K ≡ true → p ≡ word_at (word_no 0 r.built) → within_ceilings (settled_counts K r.counts (w ∷ vs)) ≡ false → Passed K r w vs p
  word-passes : Within (settled_counts K r.counts (w ∷ vs)) → ByWord K r w p → Passed K r w vs p

pub kept-counts : (n : Ask) (f : Step Built) (K : Stack) (c : Counts) (vs : List Word) → (rule_of tree_steps n).without ≡ operand f → Follows (kinds_of (rule_of tree_steps n).ways) vs → settled_counts (ask n ∷ K) c vs ≡ more counted c
unfolding waits_for tallied
kept-counts n f K c vs e a = rw (e, none-next (kinds_of (rule_of tree_steps n).ways) vs a) refl

left-counts : (n : Ask) (f : Step Built) (K : Stack) (c : Counts) (vs : List Word) → (rule_of tree_steps n).without ≡ may f → settled_counts (ask n ∷ K) c vs ≡ c
unfolding waits_for tallied
left-counts n f K c vs e = rw e refl

begun-counts : (n : Ask) (K : Stack) (c : Counts) (w : Word) (vs : List Word) → among (kind_of w) (kinds_of (rule_of tree_steps n).ways) ≡ true → settled_counts (ask n ∷ K) c (w ∷ vs) ≡ c
unfolding waits_for tallied
begun-counts n K c w vs a = ap (λ ts. tallied ts c) (settled-begun (rule_of tree_steps n).without (kinds_of (rule_of tree_steps n).ways) w vs a)

pub passed : (end : ℕ) {K : Stack} {r : Reading Built} {p : Position} (w : Word) (vs : List Word) → calm (drop 1 K) ≡ true → Within r.counts → Passing end K r (w ∷ vs) p → Passed K r w vs p
unfolding feed calm waits_for tallied word_no
passed end _ _ h i (by_word {K} {r} {k} {g} w vs e f) = word-passes i (record { place = refl; stack = K; reads = reading r.built (nested (bears g r.counts.nesting) r.counts); takes = rw e refl; past = f })
passed end _ _ h i (by_way {K} {r} {n} w vs M s a e f) = word-passes (subst Within (sym (begun-counts n K r.counts w vs a)) i) (record { place = refl; stack = M; reads = s; takes = e; past = f })
passed end w vs h i (by-kept {K} {r} {n} {f} _ e a g) = kept-passes (waits-so n f e) refl (ap within_ceilings (kept-counts n f K r.counts (w ∷ vs) e a) ∙ g)
passed end w vs h i (by-make {K} {r} x) = word-passes i (through refl (by-word-calm end w vs h x))
passed end w vs h i (by-ease {K} {r} x) = word-passes i (through refl (by-word-calm end w vs h x))
passed end w vs h i (by-leaving {K} {r} {n} {f} e a x) = word-passes (subst Within (sym (left-counts n f K r.counts (w ∷ vs) e)) i) (through (skip n f K r w e a) (by-word-calm end w vs h x))
passed end w vs h i (by-counting {K} {r} {n} {f} e a g x) = word-passes (subst Within (sym (kept-counts n f K r.counts (w ∷ vs) e a)) g) (through (skip-counted n f K r w e a) (by-word-calm end w vs h x))

-- At the end only the word kept last can pass.
pub record KeptPasses (K : Stack) (r : Reading Built) (p : Position) : Type 0 where
  pub waiting : top_waits K ≡ true
  pub place : p ≡ word_at (word_no 0 r.built)
  pub past : within_ceilings (settled_counts K r.counts []) ≡ false

none-at-end : (end : ℕ) {K : Stack} {r : Reading Built} {p : Position} → calm K ≡ true → Passing end K r [] p → ⊥
unfolding calm
none-at-end end h (by-kept {K} {n = n} {f = f} _ e a g) = calm-top (ask n ∷ K) h (waits-so n f e)
none-at-end end h (by-make x) = none-at-end end h x
none-at-end end h (by-ease x) = none-at-end end h x
none-at-end end h (by-leaving {K} {n = n} e a x) = none-at-end end (calm-below (ask n ∷ K) h) x
none-at-end end h (by-counting {K} {n = n} {f = f} e a g x) = calm-top (ask n ∷ K) h (waits-so n f e)

pub passed-at-end : (end : ℕ) {K : Stack} {r : Reading Built} {p : Position} → calm (drop 1 K) ≡ true → Passing end K r [] p → KeptPasses K r p
unfolding word_no
passed-at-end end h (by-kept {K} {r} {n} {f} _ e a g) = record { waiting = waits-so n f e; place = refl; past = ap within_ceilings (kept-counts n f K r.counts [] e a) ∙ g }
passed-at-end end h (by-make x) = absurd (none-at-end end h x)
passed-at-end end h (by-ease x) = absurd (none-at-end end h x)
passed-at-end end h (by-leaving e a x) = absurd (none-at-end end h x)
passed-at-end end h (by-counting e a g x) = absurd (none-at-end end h x)
