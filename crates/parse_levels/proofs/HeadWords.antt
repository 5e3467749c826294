-- A level that begins with a prefix operator: the machine takes it.
use mathlib.Core.Bool.{Bool, true, false, cond, true≢false}
use mathlib.Core.List.{List, [], ◌∷◌, ◌++◌}
use mathlib.Core.Path.{◌≡◌, refl, sym, ap, ◌∙◌, subst}
use Prim.Native.Nat.{ℕ, suc}
use native.Mathlib.Omega.{arith}
use borrow.Author.Tests.{eqb-true}
use lib.Dec.{eqb, leb}
use Rattle.about_grammar.specs.Following.{among}
use Rattle.language.specs.Building.{Built, keep_word}
use Rattle.language.specs.Declaring.{tree_steps}
use Rattle.language.specs.Kinds.{difference_sign, exclusive_sign, minus, plus, red_word, star, sum_sign}
use Rattle.language.specs.Machine.{Counts, adjustment, arithmetic, arithmetic_tail, ask, choose, complement, con_tail, ease, feed, level, make, reduction, run, tallied, term, word}
use Rattle.language.specs.Operators.{reductions}
use Rattle.language.specs.SectionWays.{rule_of}
use Rattle.language.specs.Words as L
use Rattle.text_words.specs.declared.Word.{Word}
use Rattle.text_words.specs.Meaning.{positioned}
use Rattle.parse_step.specs.Course.{Seen, Stack, ahead, behind, kind_no, runs_on}
use Rattle.parse_step.proofs.Ceilings.{both_true}
use Rattle.parse_step.proofs.Looking.{sign-ahead}
use Rattle.parse_step.proofs.TakenWords.{on_taken, taken-on}
use Rattle.parse_levels.specs.declared.Lead.{Lead}
use Rattle.parse_levels.specs.declared.Lead.TheVariants as H
use Rattle.parse_levels.specs.declared.Level.{Level}
use Rattle.parse_levels.specs.declared.Level.TheVariants as E
use Rattle.parse_levels.specs.declared.Rank.TheVariants as R
use Rattle.parse_levels.specs.Orders.{head_of, level_no, prefix_stack, rank_after, stack_of, tails_from}
use Rattle.parse_levels.proofs.Descent.{down-arithmetic, down-complement, down-reduction, down-term}
use Rattle.language.specs.Tests.{both}

-- ---- What the tests say.

abbrev head_no : Lead → ℕ
head_no H.Plain = 0
head_no H.Negation = 1
head_no H.Reduction = 2
head_no H.Complement = 3

abbrev tested : Bool → Bool → Bool → Lead
tested a b c = cond a H.Complement (cond b H.Reduction (cond c H.Negation H.Plain))

other-heads : {A : Type 0} {g h : Lead} (m n : ℕ) → head_no g ≡ m → head_no h ≡ n → (m ≡ n → ⊥) → g ≡ h → A
other-heads m n p q d e = absurd (d (sym p ∙ ap head_no e ∙ q))

is-plain : (a b c : Bool) → tested a b c ≡ H.Plain → (a ≡ false) × (b ≡ false) × (c ≡ false)
is-plain true b c e = other-heads 3 0 refl refl (λ z. omega arith) e
is-plain false true c e = other-heads 2 0 refl refl (λ z. omega arith) e
is-plain false false true e = other-heads 1 0 refl refl (λ z. omega arith) e
is-plain false false false e = (refl, refl, refl)

is-negation : (a b c : Bool) → tested a b c ≡ H.Negation → (a ≡ false) × (b ≡ false) × (c ≡ true)
is-negation true b c e = other-heads 3 1 refl refl (λ z. omega arith) e
is-negation false true c e = other-heads 2 1 refl refl (λ z. omega arith) e
is-negation false false true e = (refl, refl, refl)
is-negation false false false e = other-heads 0 1 refl refl (λ z. omega arith) e

is-reduction : (a b c : Bool) → tested a b c ≡ H.Reduction → (a ≡ false) × (b ≡ true)
is-reduction true b c e = other-heads 3 2 refl refl (λ z. omega arith) e
is-reduction false true c e = (refl, refl)
is-reduction false false true e = other-heads 1 2 refl refl (λ z. omega arith) e
is-reduction false false false e = other-heads 0 2 refl refl (λ z. omega arith) e

is-complement : (a b c : Bool) → tested a b c ≡ H.Complement → a ≡ true
is-complement true b c e = refl
is-complement false true c e = other-heads 2 3 refl refl (λ z. omega arith) e
is-complement false false true e = other-heads 1 3 refl refl (λ z. omega arith) e
is-complement false false false e = other-heads 0 3 refl refl (λ z. omega arith) e

-- A kind among some is the first of them or among the others.
pub among-first-or : {A : Type 0} (k a : ℕ) (ks : List ℕ) → among k (a ∷ ks) ≡ true → (k ≡ a → A) → (among k ks ≡ true → A) → A
unfolding among
among-first-or {A} k a ks e f g = go (eqb k a) refl e
  where
    go : (z : Bool) → eqb k a ≡ z → cond z true (among k ks) ≡ true → A
    go true q h = f (eqb-true k a q)
    go false q h = g h

pub among_none : {A : Type 0} (k : ℕ) → among k [] ≡ true → A
unfolding among
among_none k e = absurd (true≢false (sym e))

sum_first : (l : Level) → leb 1 (level_no l) ≡ true → tails_from R.Sum l ≡ ask arithmetic_tail ∷ tails_from R.Relation l
unfolding tails_from
sum_first E.Term e = absurd (true≢false (sym e))
sum_first E.Arithmetic e = refl
sum_first E.Adjustment e = refl
sum_first E.Reduction e = refl
sum_first E.Chain e = refl
sum_first E.Complement e = refl
sum_first E.Product e = refl
sum_first E.Minterm e = refl
sum_first E.Expression e = refl

module _ (text : List ℕ) (w : Word) (z : Seen text w) (b : Built) (c : Counts) where
  abbrev k : ℕ
  k = kind_no w.kind

  -- The counts after a word that counts and opens.
  abbrev pub opened : Counts
  opened = record { facilities = c.facilities; operations = c.operations; states = c.states; counted = suc c.counted; nesting = suc c.nesting }

  abbrev kept : Built
  kept = keep_word (L.sign k (positioned w.at)) b

  pub plain-begins : (l : Level) → head_of l k ≡ H.Plain → (K : Stack)
      → runs_on text (stack_of l ++ K) (ahead text w) b c ≡ runs_on text (ask term ∷ (tails_from R.Sum l ++ K)) (ahead text w) b c
  unfolding head_of
  plain-begins l e K =
      let t = is-plain (both (leb 5 (level_no l)) (eqb k minus)) (both (leb 3 (level_no l)) (among k reductions)) (both (leb 1 (level_no l)) (eqb k difference_sign)) e in
      down-term text w z b c l t.0 t.1 t.2 K

  complement-taken : k ≡ minus → (K : Stack)
      → runs_on text (ask complement ∷ K) (ahead text w) b c ≡ on_taken text w (ask reduction ∷ ask con_tail ∷ make tree_steps.make_prefix ∷ ease ∷ K) (keep_word (L.sign minus (positioned w.at)) b) opened
  unfolding runs_on run feed choose rule_of tallied
  complement-taken e K = rw (sign-ahead text w minus e (omega arith)) (taken-on text (positioned w.at) _ (behind text w) _ opened)

  negation-taken : k ≡ difference_sign → (K : Stack)
      → runs_on text (ask arithmetic ∷ K) (ahead text w) b c ≡ on_taken text w (ask term ∷ make tree_steps.make_prefix ∷ ease ∷ ask arithmetic_tail ∷ K) (keep_word (L.sign difference_sign (positioned w.at)) b) opened
  unfolding runs_on run feed choose rule_of tallied
  negation-taken e K = rw (sign-ahead text w difference_sign e (omega arith)) (taken-on text (positioned w.at) _ (behind text w) _ opened)

  abbrev Reduces : ℕ → Type 0
  Reduces j = (K : Stack) → runs_on text (ask reduction ∷ K) (ahead text w) b c
      ≡ on_taken text w (word red_word level ∷ ask adjustment ∷ make tree_steps.make_prefix ∷ ease ∷ K) (keep_word (L.sign j (positioned w.at)) b) opened

  plus-taken : k ≡ plus → Reduces plus
  unfolding runs_on run feed choose rule_of tallied
  plus-taken e K = rw (sign-ahead text w plus e (omega arith)) (taken-on text (positioned w.at) _ (behind text w) _ opened)

  star-taken : k ≡ star → Reduces star
  unfolding runs_on run feed choose rule_of tallied
  star-taken e K = rw (sign-ahead text w star e (omega arith)) (taken-on text (positioned w.at) _ (behind text w) _ opened)

  exclusive-taken : k ≡ exclusive_sign → Reduces exclusive_sign
  unfolding runs_on run feed choose rule_of tallied
  exclusive-taken e K = rw (sign-ahead text w exclusive_sign e (omega arith)) (taken-on text (positioned w.at) _ (behind text w) _ opened)

  sum-taken : k ≡ sum_sign → Reduces sum_sign
  unfolding runs_on run feed choose rule_of tallied
  sum-taken e K = rw (sign-ahead text w sum_sign e (omega arith)) (taken-on text (positioned w.at) _ (behind text w) _ opened)

  reduction-taken : among k reductions ≡ true → Reduces k
  reduction-taken e =
      among-first-or k plus (star ∷ exclusive_sign ∷ sum_sign ∷ []) e (λ q. subst Reduces (sym q) (plus-taken q)) λ e₁.
      among-first-or k star (exclusive_sign ∷ sum_sign ∷ []) e₁ (λ q. subst Reduces (sym q) (star-taken q)) λ e₂.
      among-first-or k exclusive_sign (sum_sign ∷ []) e₂ (λ q. subst Reduces (sym q) (exclusive-taken q)) λ e₃.
      among-first-or k sum_sign [] e₃ (λ q. subst Reduces (sym q) (sum-taken q)) (among_none k)

  pub head-taken : (h : Lead) → (h ≡ H.Plain → ⊥) → (l : Level) → head_of l k ≡ h → (K : Stack)
      → runs_on text (stack_of l ++ K) (ahead text w) b c ≡ on_taken text w (prefix_stack h ++ (make tree_steps.make_prefix ∷ ease ∷ (tails_from (rank_after h) l ++ K))) kept opened
  unfolding head_of
  head-taken H.Plain n l e K = absurd (n refl)
  head-taken H.Negation n l e K =
      let t = is-negation (both (leb 5 (level_no l)) (eqb k minus)) (both (leb 3 (level_no l)) (among k reductions)) (both (leb 1 (level_no l)) (eqb k difference_sign)) e in
      let u = both_true (leb 1 (level_no l)) (eqb k difference_sign) t.2 in
      let q : k ≡ difference_sign = eqb-true k difference_sign u.1 in
      down-arithmetic text w z b c l u.0 t.0 t.1 K ∙ negation-taken q (tails_from R.Relation l ++ K)
      ∙ ap (λ (j : ℕ). on_taken text w (ask term ∷ make tree_steps.make_prefix ∷ ease ∷ ask arithmetic_tail ∷ (tails_from R.Relation l ++ K)) (keep_word (L.sign j (positioned w.at)) b) opened) (sym q)
      ∙ ap (λ (M : Stack). on_taken text w (ask term ∷ make tree_steps.make_prefix ∷ ease ∷ (M ++ K)) kept opened) (sym (sum_first l u.0))
  head-taken H.Reduction n l e K =
      let t = is-reduction (both (leb 5 (level_no l)) (eqb k minus)) (both (leb 3 (level_no l)) (among k reductions)) (both (leb 1 (level_no l)) (eqb k difference_sign)) e in
      let u = both_true (leb 3 (level_no l)) (among k reductions) t.1 in
      down-reduction text w z b c l u.0 t.0 K ∙ reduction-taken u.1 (tails_from R.Con l ++ K)
  head-taken H.Complement n l e K =
      let t = is-complement (both (leb 5 (level_no l)) (eqb k minus)) (both (leb 3 (level_no l)) (among k reductions)) (both (leb 1 (level_no l)) (eqb k difference_sign)) e in
      let u = both_true (leb 5 (level_no l)) (eqb k minus) t in
      let q : k ≡ minus = eqb-true k minus u.1 in
      down-complement text w z b c l u.0 K ∙ complement-taken q (tails_from R.And l ++ K)
      ∙ ap (λ (j : ℕ). on_taken text w (ask reduction ∷ ask con_tail ∷ make tree_steps.make_prefix ∷ ease ∷ (tails_from R.And l ++ K)) (keep_word (L.sign j (positioned w.at)) b) opened) (sym q)
