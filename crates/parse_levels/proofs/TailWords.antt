-- The tails of a level: left out, or begun with an operator that the machine takes.
use mathlib.Core.Bool.{true, false}
use mathlib.Core.List.{List, [], ◌∷◌, ◌++◌}
use mathlib.Core.Path.{◌≡◌, refl, sym, ap, ◌∙◌, subst}
use Prim.Native.Nat.{ℕ, suc, ◌≤◌, ◌<◌}
use native.Mathlib.Nat.{min-eq_left}
use native.Mathlib.Omega.{arith}
use borrow.Author.Tests.{ltb-false, ltb-true}
use lib.Dec.{ltb}
use lib.ListN.{drop, drop_of_length-le, get_or, length, length-take, take}
use lib.Seq.{drop-cons, get_or-take}
use Rattle.parse_step.proofs.Omitted.{omitted}
use Rattle.about_grammar.specs.Following.{among}
use Rattle.language.specs.Alternatives.{no_step}
use Rattle.language.specs.Building.{Built, keep_word}
use Rattle.language.specs.Declaring.{tree_steps}
use Rattle.language.specs.Kinds.{a_constant, at_least_sign, at_most_sign, con_word, difference_sign, exclusive_sign, ext_word, greater_sign, hash, head_word, less_sign, plus, same_sign, star, sum_sign, tail_word}
use Rattle.language.specs.Machine.{Counts, Parsed, Sym, and_tail, arithmetic_tail, ask, choose, con_tail, cut_tail, exclusive_tail, feed, keep, make, or_tail, relation_tail, run, tallied}
use Rattle.language.specs.SectionWays.{rule_of}
use Rattle.language.specs.Ways.{and_ways, arithmetic_tail_ways, con_ways, cut_ways, exclusive_ways, or_ways, relation_ways}
use Rattle.language.specs.Words as L
use Rattle.text_words.specs.declared.Word.{Word}
use Rattle.text_words.specs.Meaning.{positioned}
use Rattle.parse_step.specs.Course.{Seen, Stack, ahead, behind, kind_no, runs_on}
use Rattle.parse_step.proofs.Looking.{sign-ahead}
use Rattle.parse_step.proofs.TakenWords.{on_taken, taken-on}
use Rattle.parse_levels.specs.declared.Level.{Level}
use Rattle.parse_levels.specs.declared.Level.TheVariants as E
use Rattle.parse_levels.specs.declared.Rank.{Rank}
use Rattle.parse_levels.specs.declared.Rank.TheVariants as R
use Rattle.parse_levels.specs.Orders.{again, all_tails, next_rank, operand_level, operators_of, rank_no, stack_of, tail_stack, tails_from, top_no}
use Rattle.parse_levels.proofs.HeadWords.{among-first-or, among_none}

-- ---- The ranks of a level, one after the other.

pub top-most : (l : Level) → top_no l ≤ 7
top-most E.Term = omega arith
top-most E.Arithmetic = omega arith
top-most E.Adjustment = omega arith
top-most E.Reduction = omega arith
top-most E.Chain = omega arith
top-most E.Complement = omega arith
top-most E.Product = omega arith
top-most E.Minterm = omega arith
top-most E.Expression = omega arith

tails-length : (n : ℕ) → n ≤ 7 → length (take n all_tails) ≡ n
tails-length n h = length-take n all_tails ∙ min-eq_left h

next-tail : (r : Rank) → rank_no r < 7 → (M : Stack) → get_or all_tails (rank_no r) (ask or_tail) ∷ M ≡ tail_stack r ++ M
next-tail R.Sum h M = refl
next-tail R.Relation h M = refl
next-tail R.Cut h M = refl
next-tail R.Con h M = refl
next-tail R.And h M = refl
next-tail R.Exclusive h M = refl
next-tail R.Or h M = refl
next-tail R.Beyond h M = absurd (omega arith)

next-number : (r : Rank) → rank_no r < 7 → suc (rank_no r) ≡ rank_no (next_rank r)
next-number R.Sum h = refl
next-number R.Relation h = refl
next-number R.Cut h = refl
next-number R.Con h = refl
next-number R.And h = refl
next-number R.Exclusive h = refl
next-number R.Or h = refl
next-number R.Beyond h = absurd (omega arith)

pub tails-more : (r : Rank) (l : Level) → ltb (rank_no r) (top_no l) ≡ true → tails_from r l ≡ tail_stack r ++ tails_from (next_rank r) l
unfolding tails_from
tails-more r l e =
    let h : rank_no r < top_no l = ltb-true (rank_no r) (top_no l) e in
    let m : top_no l ≤ 7 = top-most l in
    let g : rank_no r < length (take (top_no l) all_tails) = omega (arith, tails-length (top_no l) m) in
    drop-cons (take (top_no l) all_tails) (rank_no r) (ask or_tail) g
    ∙ ap (λ (x : Sym Built). x ∷ drop (suc (rank_no r)) (take (top_no l) all_tails)) (get_or-take (top_no l) all_tails (rank_no r) (ask or_tail) h)
    ∙ next-tail r (omega arith) (drop (suc (rank_no r)) (take (top_no l) all_tails))
    ∙ ap (λ (n : ℕ). tail_stack r ++ drop n (take (top_no l) all_tails)) (next-number r (omega arith))

pub tails-none : (r : Rank) (l : Level) → ltb (rank_no r) (top_no l) ≡ false → tails_from r l ≡ []
unfolding tails_from
tails-none r l e =
    let h : top_no l ≤ rank_no r = ltb-false (rank_no r) (top_no l) e in
    let g : length (take (top_no l) all_tails) ≤ rank_no r = omega (arith, tails-length (top_no l) (top-most l)) in
    drop_of_length-le (take (top_no l) all_tails) g

-- ---- One tail.

module _ (text : List ℕ) (w : Word) (z : Seen text w) (b : Built) (c : Counts) where
  abbrev on : Stack → Parsed Built
  on K = runs_on text K (ahead text w) b c

  abbrev k : ℕ
  k = kind_no w.kind

  pub tail-omitted : (r : Rank) → among k (operators_of r) ≡ false → (K : Stack) → on (tail_stack r ++ K) ≡ on K
  unfolding rule_of
  tail-omitted R.Sum e K = omitted text w z arithmetic_tail (arithmetic_tail_ways tree_steps) no_step refl e K b b c (λ p. refl)
  tail-omitted R.Relation e K = omitted text w z relation_tail (relation_ways tree_steps) no_step refl e K b b c (λ p. refl)
  tail-omitted R.Cut e K = omitted text w z cut_tail (cut_ways tree_steps) no_step refl e K b b c (λ p. refl)
  tail-omitted R.Con e K = omitted text w z con_tail (con_ways tree_steps) no_step refl e K b b c (λ p. refl)
  tail-omitted R.And e K = omitted text w z and_tail (and_ways tree_steps) no_step refl e K b b c (λ p. refl)
  tail-omitted R.Exclusive e K = omitted text w z exclusive_tail (exclusive_ways tree_steps) no_step refl e K b b c (λ p. refl)
  tail-omitted R.Or e K = omitted text w z or_tail (or_ways tree_steps) no_step refl e K b b c (λ p. refl)
  tail-omitted R.Beyond e K = refl

  abbrev pub counted : Counts
  counted = record { facilities = c.facilities; operations = c.operations; states = c.states; counted = suc c.counted; nesting = c.nesting }

  abbrev kept : ℕ → Built
  kept j = keep_word (L.sign j (positioned w.at)) b

  -- An operator of a rank is taken.
  abbrev Taken : Rank → ℕ → Type 0
  Taken r j = (K : Stack) → on (tail_stack r ++ K) ≡ on_taken text w (stack_of (operand_level r) ++ (make tree_steps.make_binary ∷ (again r ++ K))) (kept j) counted

  abbrev CutTaken : ℕ → Type 0
  CutTaken j = (K : Stack) → on (ask cut_tail ∷ K) ≡ on_taken text w (keep a_constant ∷ make tree_steps.make_cut ∷ ask cut_tail ∷ K) (kept j) counted

  sum-taken : k ≡ sum_sign → Taken R.Sum 22
  unfolding runs_on run feed choose rule_of tallied
  sum-taken e K = rw (sign-ahead text w sum_sign e (omega arith)) (taken-on text (positioned w.at) _ (behind text w) _ counted)

  difference-taken : k ≡ difference_sign → Taken R.Sum 23
  unfolding runs_on run feed choose rule_of tallied
  difference-taken e K = rw (sign-ahead text w difference_sign e (omega arith)) (taken-on text (positioned w.at) _ (behind text w) _ counted)

  equals-taken : k ≡ same_sign → Taken R.Relation 24
  unfolding runs_on run feed choose rule_of tallied
  equals-taken e K = rw (sign-ahead text w same_sign e (omega arith)) (taken-on text (positioned w.at) _ (behind text w) _ counted)

  differs-taken : k ≡ hash → Taken R.Relation 3
  unfolding runs_on run feed choose rule_of tallied
  differs-taken e K = rw (sign-ahead text w hash e (omega arith)) (taken-on text (positioned w.at) _ (behind text w) _ counted)

  less-taken : k ≡ less_sign → Taken R.Relation 15
  unfolding runs_on run feed choose rule_of tallied
  less-taken e K = rw (sign-ahead text w less_sign e (omega arith)) (taken-on text (positioned w.at) _ (behind text w) _ counted)

  greater-taken : k ≡ greater_sign → Taken R.Relation 17
  unfolding runs_on run feed choose rule_of tallied
  greater-taken e K = rw (sign-ahead text w greater_sign e (omega arith)) (taken-on text (positioned w.at) _ (behind text w) _ counted)

  at-most-taken : k ≡ at_most_sign → Taken R.Relation 26
  unfolding runs_on run feed choose rule_of tallied
  at-most-taken e K = rw (sign-ahead text w at_most_sign e (omega arith)) (taken-on text (positioned w.at) _ (behind text w) _ counted)

  at-least-taken : k ≡ at_least_sign → Taken R.Relation 25
  unfolding runs_on run feed choose rule_of tallied
  at-least-taken e K = rw (sign-ahead text w at_least_sign e (omega arith)) (taken-on text (positioned w.at) _ (behind text w) _ counted)

  con-taken : k ≡ con_word → Taken R.Con 38
  unfolding runs_on run feed choose rule_of tallied
  con-taken e K = rw (sign-ahead text w con_word e (omega arith)) (taken-on text (positioned w.at) _ (behind text w) _ counted)

  and-taken : k ≡ star → Taken R.And 7
  unfolding runs_on run feed choose rule_of tallied
  and-taken e K = rw (sign-ahead text w star e (omega arith)) (taken-on text (positioned w.at) _ (behind text w) _ counted)

  exclusive-taken : k ≡ exclusive_sign → Taken R.Exclusive 21
  unfolding runs_on run feed choose rule_of tallied
  exclusive-taken e K = rw (sign-ahead text w exclusive_sign e (omega arith)) (taken-on text (positioned w.at) _ (behind text w) _ counted)

  or-taken : k ≡ plus → Taken R.Or 8
  unfolding runs_on run feed choose rule_of tallied
  or-taken e K = rw (sign-ahead text w plus e (omega arith)) (taken-on text (positioned w.at) _ (behind text w) _ counted)

  head-taken : k ≡ head_word → CutTaken 41
  unfolding runs_on run feed choose rule_of tallied
  head-taken e K = rw (sign-ahead text w head_word e (omega arith)) (taken-on text (positioned w.at) _ (behind text w) _ counted)

  last_taken : k ≡ tail_word → CutTaken 42
  unfolding runs_on run feed choose rule_of tallied
  last_taken e K = rw (sign-ahead text w tail_word e (omega arith)) (taken-on text (positioned w.at) _ (behind text w) _ counted)

  ext-taken : k ≡ ext_word → CutTaken 40
  unfolding runs_on run feed choose rule_of tallied
  ext-taken e K = rw (sign-ahead text w ext_word e (omega arith)) (taken-on text (positioned w.at) _ (behind text w) _ counted)

  pub tail-taken : (r : Rank) → (r ≡ R.Cut → ⊥) → among k (operators_of r) ≡ true → Taken r k
  tail-taken R.Sum n e =
      among-first-or k sum_sign (difference_sign ∷ []) e (λ q. subst (Taken R.Sum) (sym q) (sum-taken q)) λ e1.
      among-first-or k difference_sign [] e1 (λ q. subst (Taken R.Sum) (sym q) (difference-taken q)) (among_none k)
  tail-taken R.Relation n e =
      among-first-or k same_sign (hash ∷ less_sign ∷ greater_sign ∷ at_most_sign ∷ at_least_sign ∷ []) e (λ q. subst (Taken R.Relation) (sym q) (equals-taken q)) λ e1.
      among-first-or k hash (less_sign ∷ greater_sign ∷ at_most_sign ∷ at_least_sign ∷ []) e1 (λ q. subst (Taken R.Relation) (sym q) (differs-taken q)) λ e2.
      among-first-or k less_sign (greater_sign ∷ at_most_sign ∷ at_least_sign ∷ []) e2 (λ q. subst (Taken R.Relation) (sym q) (less-taken q)) λ e3.
      among-first-or k greater_sign (at_most_sign ∷ at_least_sign ∷ []) e3 (λ q. subst (Taken R.Relation) (sym q) (greater-taken q)) λ e4.
      among-first-or k at_most_sign (at_least_sign ∷ []) e4 (λ q. subst (Taken R.Relation) (sym q) (at-most-taken q)) λ e5.
      among-first-or k at_least_sign [] e5 (λ q. subst (Taken R.Relation) (sym q) (at-least-taken q)) (among_none k)
  tail-taken R.Cut n e = absurd (n refl)
  tail-taken R.Con n e =
      among-first-or k con_word [] e (λ q. subst (Taken R.Con) (sym q) (con-taken q)) (among_none k)
  tail-taken R.And n e =
      among-first-or k star [] e (λ q. subst (Taken R.And) (sym q) (and-taken q)) (among_none k)
  tail-taken R.Exclusive n e =
      among-first-or k exclusive_sign [] e (λ q. subst (Taken R.Exclusive) (sym q) (exclusive-taken q)) (among_none k)
  tail-taken R.Or n e =
      among-first-or k plus [] e (λ q. subst (Taken R.Or) (sym q) (or-taken q)) (among_none k)
  tail-taken R.Beyond n e = among_none k e

  pub cut-taken : among k (operators_of R.Cut) ≡ true → CutTaken k
  cut-taken e =
      among-first-or k head_word (tail_word ∷ ext_word ∷ []) e (λ q. subst CutTaken (sym q) (head-taken q)) λ e1.
      among-first-or k tail_word (ext_word ∷ []) e1 (λ q. subst CutTaken (sym q) (last_taken q)) λ e2.
      among-first-or k ext_word [] e2 (λ q. subst CutTaken (sym q) (ext-taken q)) (among_none k)
