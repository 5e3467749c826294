-- The machine's tale of expressions is what the grammar counts.
use Rattle.std.specs.Prelude.{true, false, ◌≡◌, ℕ, suc}
use mathlib.Core.List.{List, [], ◌∷◌, ◌++◌, append_assoc}
use Rattle.std.proofs.Common.{◌∙◌, eq-eqb}
use Rattle.std.proofs.Math.Path.{ap, refl}
use Rattle.language.specs.Alternatives.{closing, plain_word}
use Rattle.language.specs.Building.{Built, make_binary, make_cut, make_prefix}
use Rattle.language.specs.Declaring.{tree_steps}
use Rattle.language.specs.Kinds.{at_least_sign, at_most_sign, con_word, difference_sign, exclusive_sign, ext_word, greater_sign, hash, head_word, less_sign, minus, plus, red_word, same_sign, star, sum_sign, tail_word}
use Rattle.language.specs.Machine as M
use Rattle.language.specs.Machine.{Alternative, Ask, adjustment, and_tail, arithmetic, arithmetic_tail, ask, complement, con_tail, counted, cut_tail, ease, exclusive_tail, make, minterm, or_tail, product, reduction, relation_tail, term}
use Rattle.language.specs.Operators.{is_arithmetic, is_cut, is_reduction, is_relation, relations}
use Rattle.language.specs.SectionWays.{rule_of}
use Rattle.language.specs.BuildSteps.{Step}
use Rattle.language.specs.Ways.{adjustment_ways, and_ways, arithmetic_tail_ways, arithmetic_ways, complement_ways, con_ways, cut_ways, exclusive_ways, minterm_ways, or_ways, product_ways, reduction_ways, relation_ways, term_ways}
use Rattle.language.specs.Words as W
use Rattle.language.specs.Words.{Constant, Position, Word, kind_of, sign}
use Rattle.about_grammar.specs.Counting.{Mark, one, plain}
use Rattle.about_grammar.specs.Courses.{Stack}
use Rattle.about_grammar.specs.Following.{Follows, after_and, after_con, after_cut, after_exclusive, after_or, after_relation, after_sum, after_term, among, among-left, follows-left, follows-right}
use Rattle.about_grammar.specs.Levels.{minus_way, negating_way, reducing_ways}
use Rattle.about_grammar.specs.Operations.{arithmetic-kinds, cut-kinds, reduction-kinds, relation-kinds}
use Rattle.about_grammar.specs.Stacks.{kinds_of, plain_ways}
use Rattle.about_grammar.specs.Taking.{Heads, not_adjustment, not_boolean, not_chain, not_term}
use Rattle.about_grammar.specs.Tale.{Goes, after-ease, after-leaving, after-make, begins, begins-later, eat, goes, pick, tale, waits_for}

abbrev pub Marks : Type 0
Marks = ℕ → List Mark → List Mark

-- From the stack P to the stack Q the words tell what f says, where behind them no word of the kinds ks follows.
pub record Tells (P Q : Stack) (ks : List ℕ) (us : List Word) (f : Marks) : Type 0 where
  pub says : (K : Stack) (n : ℕ) (vs : List Word) → Follows ks vs → tale (P ++ K) n (us ++ vs) ≡ f n (tale (Q ++ K) n vs)

pub tells : {P Q : Stack} {ks : List ℕ} {us : List Word} {f : Marks} → ((K : Stack) (n : ℕ) (vs : List Word) → Follows ks vs → tale (P ++ K) n (us ++ vs) ≡ f n (tale (Q ++ K) n vs)) → Tells P Q ks us f
tells x = record { says = x }

pub by : {P Q : Stack} {ks : List ℕ} {us : List Word} {f : Marks} → ((K : Stack) (n : ℕ) → Goes ks (P ++ K) n us (f n) (Q ++ K) n) → Tells P Q ks us f
by x = tells (λ K n. (x K n).says)

pub at : {P Q : Stack} {ks : List ℕ} {us : List Word} {f : Marks} → Tells P Q ks us f → (K : Stack) (n : ℕ) → Goes ks (P ++ K) n us (f n) (Q ++ K) n
at x K n = goes (x.says K n)

-- ---- Single words.

-- A word of the grammar that only leads on, or closes.
pub leads : (k : ℕ) (p : Position) (K : Stack) (n : ℕ) (vs : List Word) → tale (plain_word k ∷ K) n (sign k p ∷ vs) ≡ plain n ∷ tale K n vs
unfolding tale eat
leads k p K n vs = rw (eq-eqb k k refl) refl

pub shuts : (k : ℕ) (p : Position) (K : Stack) (n : ℕ) (vs : List Word) → tale (closing k ∷ K) (suc n) (sign k p ∷ vs) ≡ plain n ∷ tale K n vs
unfolding tale eat
shuts k p K n vs = rw (eq-eqb k k refl) refl

pub plain_word_lem : {k : ℕ} {p : Position} {K : Stack} {n : ℕ} → Goes [] (plain_word k ∷ K) n (sign k p ∷ []) (λ ms. plain n ∷ ms) K n
plain_word_lem {k} {p} {K} {n} = goes (λ vs _. leads k p K n vs)

pub closing-word : {k : ℕ} {p : Position} {K : Stack} {n : ℕ} → Goes [] (closing k ∷ K) (suc n) (sign k p ∷ []) (λ ms. plain n ∷ ms) K n
closing-word {k} {p} {K} {n} = goes (λ vs _. shuts k p K n vs)

-- ---- Tails left out, and levels.

pub clean : {P : Stack} {a : Ask} {ks : List ℕ} {us : List Word} {f : Marks} (ways : List (Alternative Built)) (s : Step Built) → rule_of tree_steps a ≡ record { ways = ways; without = M.may s }
    → Tells P (ask a ∷ []) ks us f → Tells P [] (kinds_of ways ++ ks) us f
clean {a = a} {ks} {f = f} ways s e x = tells (λ K n vs h. x.says K n vs (follows-right (kinds_of ways) ks vs h) ∙ ap (f n) (after-leaving a ways s e K n vs (follows-left (kinds_of ways) ks vs h)))

pub lift : {P Q : Stack} {ks : List ℕ} {us : List Word} {f : Marks} (hs : List ℕ) (P₁ Q₁ M : Stack)
    → ((K : Stack) (n : ℕ) (w : Word) → among (kind_of w) hs ≡ false → (vs : List Word) → tale (P₁ ++ K) n (w ∷ vs) ≡ tale (P ++ (M ++ K)) n (w ∷ vs))
    → ((K : Stack) → ◌≡◌ {A = Stack} (Q ++ (M ++ K)) (Q₁ ++ K)) → Heads hs us → Tells P Q ks us f → Tells P₁ Q₁ ks us f
lift {us = []} hs P₁ Q₁ M same below h x = absurd h
lift {us = w ∷ us} {f} hs P₁ Q₁ M same below h x = tells (λ K n vs g. same K n w h (us ++ vs) ∙ x.says (M ++ K) n vs g ∙ ap (λ (L : Stack). f n (tale L n vs)) (below K))

abbrev pub Term : List Word → Marks → Type 0
Term us f = Tells (ask term ∷ []) [] after_term us f

abbrev pub Arithmetic : List Word → Marks → Type 0
Arithmetic us f = Tells (ask arithmetic ∷ []) (ask arithmetic_tail ∷ []) after_term us f

abbrev pub Relation : List Word → Marks → Type 0
Relation us f = Tells (ask arithmetic ∷ ask relation_tail ∷ []) [] after_relation us f

abbrev pub Adjustment : List Word → Marks → Type 0
Adjustment us f = Tells (ask adjustment ∷ []) (ask cut_tail ∷ []) after_relation us f

abbrev pub Reduction : List Word → Marks → Type 0
Reduction us f = Tells (ask reduction ∷ []) [] after_cut us f

abbrev pub Chain : List Word → Marks → Type 0
Chain us f = Tells (ask reduction ∷ ask con_tail ∷ []) (ask con_tail ∷ []) after_cut us f

abbrev pub Complement : List Word → Marks → Type 0
Complement us f = Tells (ask complement ∷ []) [] after_con us f

abbrev pub Product : List Word → Marks → Type 0
Product us f = Tells (ask product ∷ []) (ask and_tail ∷ []) after_con us f

abbrev pub Minterm : List Word → Marks → Type 0
Minterm us f = Tells (ask minterm ∷ []) (ask exclusive_tail ∷ []) after_and us f

abbrev pub Boolean : List Word → Marks → Type 0
Boolean us f = Tells (ask M.expression ∷ []) (ask or_tail ∷ []) after_exclusive us f

module _ {us : List Word} {f : Marks} where
  pub whole-expression : Boolean us f → Tells (ask M.expression ∷ []) [] after_or us f
  unfolding rule_of
  whole-expression x = clean (or_ways tree_steps) (λ p b. b) refl x

  whole-minterm : Minterm us f → Tells (ask minterm ∷ []) [] after_exclusive us f
  unfolding rule_of
  whole-minterm x = clean (exclusive_ways tree_steps) (λ p b. b) refl x

  whole-product : Product us f → Tells (ask product ∷ []) [] after_and us f
  unfolding rule_of
  whole-product x = clean (and_ways tree_steps) (λ p b. b) refl x

  whole-chain : Chain us f → Tells (ask reduction ∷ ask con_tail ∷ []) [] after_con us f
  unfolding rule_of
  whole-chain x = clean (con_ways tree_steps) (λ p b. b) refl x

  whole-adjustment : Adjustment us f → Tells (ask adjustment ∷ []) [] after_cut us f
  unfolding rule_of
  whole-adjustment x = clean (cut_ways tree_steps) (λ p b. b) refl x

  whole-arithmetic : Arithmetic us f → Tells (ask arithmetic ∷ []) [] after_sum us f
  unfolding rule_of
  whole-arithmetic x = clean (arithmetic_tail_ways tree_steps) (λ p b. b) refl x

  pub or-one : Heads not_boolean us → Minterm us f → Boolean us f
  unfolding rule_of plain_ways waits_for
  or-one h x =
      lift not_boolean (ask M.expression ∷ []) (ask or_tail ∷ []) (ask or_tail ∷ [])
      (λ K n w _ vs. begins M.expression minterm (ask or_tail ∷ []) refl (minterm_ways tree_steps (term_ways tree_steps)) refl refl refl K n w vs) (λ K. refl) h (whole-minterm x)

  pub exclusive-one : Heads not_boolean us → Product us f → Minterm us f
  unfolding rule_of plain_ways waits_for
  exclusive-one h x =
      lift not_boolean (ask minterm ∷ []) (ask exclusive_tail ∷ []) (ask exclusive_tail ∷ [])
      (λ K n w _ vs. begins minterm product (ask exclusive_tail ∷ []) refl (product_ways tree_steps (term_ways tree_steps)) refl refl refl K n w vs) (λ K. refl) h (whole-product x)

  pub and_one : Heads not_boolean us → Complement us f → Product us f
  unfolding rule_of plain_ways waits_for
  and_one h x =
      lift not_boolean (ask product ∷ []) (ask and_tail ∷ []) (ask and_tail ∷ [])
      (λ K n w _ vs. begins product complement (ask and_tail ∷ []) refl (complement_ways tree_steps (term_ways tree_steps)) refl refl refl K n w vs) (λ K. refl) h x

  pub complement-none : Heads not_chain us → Chain us f → Complement us f
  unfolding rule_of plain_ways waits_for
  complement-none h x =
      lift not_chain (ask complement ∷ []) [] []
      (λ K n w e vs. begins-later complement reduction (ask con_tail ∷ []) refl (minus_way ∷ []) (reduction_ways tree_steps (term_ways tree_steps)) refl refl refl K n w (among-left (kind_of w) (minus ∷ []) not_boolean e) vs) (λ K. refl) h (whole-chain x)

  pub con-one : Heads not_chain us → Reduction us f → Chain us f
  con-one h x = lift not_chain (ask reduction ∷ ask con_tail ∷ []) (ask con_tail ∷ []) (ask con_tail ∷ []) (λ K n w e vs. refl) (λ K. refl) h x

  pub reduction-none : Heads not_adjustment us → Adjustment us f → Reduction us f
  unfolding rule_of plain_ways waits_for
  reduction-none h x =
      lift not_adjustment (ask reduction ∷ []) [] []
      (λ K n w e vs. begins-later reduction adjustment [] refl reducing_ways (adjustment_ways tree_steps (term_ways tree_steps)) refl refl refl K n w (among-left (kind_of w) (kinds_of reducing_ways) not_chain e) vs) (λ K. refl) h (whole-adjustment x)

  pub cut-none : Heads not_adjustment us → Relation us f → Adjustment us f
  unfolding rule_of plain_ways waits_for
  cut-none h x =
      lift not_adjustment (ask adjustment ∷ []) (ask cut_tail ∷ []) (ask cut_tail ∷ [])
      (λ K n w _ vs. begins adjustment arithmetic (ask relation_tail ∷ ask cut_tail ∷ []) refl (arithmetic_ways tree_steps (term_ways tree_steps)) refl refl refl K n w vs) (λ K. refl) h x

  pub relation-none : Heads not_adjustment us → Arithmetic us f → Relation us f
  unfolding rule_of
  relation-none h x =
      clean (relation_ways tree_steps) (λ p b. b) refl
      (lift not_adjustment (ask arithmetic ∷ ask relation_tail ∷ []) (ask relation_tail ∷ []) (ask relation_tail ∷ []) (λ K n w e vs. refl) (λ K. refl) h (whole-arithmetic x))

  pub arithmetic-one : Heads not_term us → Term us f → Arithmetic us f
  unfolding rule_of plain_ways waits_for
  arithmetic-one h x =
      lift not_term (ask arithmetic ∷ []) (ask arithmetic_tail ∷ []) (ask arithmetic_tail ∷ [])
      (λ K n w e vs. begins-later arithmetic term (ask arithmetic_tail ∷ []) refl (negating_way ∷ []) (term_ways tree_steps) refl refl refl K n w (among-left (kind_of w) (difference_sign ∷ []) not_adjustment e) vs) (λ K. refl) h x

-- ---- Operators.

-- A sign between a phrase and one that leads back to the phrase's own tail.
pub between : {P R : Stack} {a : Ask} {ks : List ℕ} {us vs : List Word} {f g : Marks} (k : ℕ) (p : Position) (s : Step Built)
    → ((K : Stack) (n : ℕ) (ws : List Word) → tale (ask a ∷ K) n (sign k p ∷ ws) ≡ one counted n ∷ tale (R ++ (make s ∷ ask a ∷ K)) n ws)
    → among k ks ≡ false → Tells P (ask a ∷ []) ks us f → Tells R [] ks vs g → Tells P (ask a ∷ []) ks (us ++ sign k p ∷ vs) (λ n ms. f n (one counted n ∷ g n ms))
between {P} {R} {a} {us = us} {vs} {f} {g} k p s eats ok x y =
    tells (λ K n ws h. ap (tale (P ++ K) n) (append_assoc us (sign k p ∷ vs) ws) ∙ x.says K n (sign k p ∷ (vs ++ ws)) ok
    ∙ ap (f n) (eats K n (vs ++ ws) ∙ ap (λ (l : List Mark). one counted n ∷ l) (y.says (make s ∷ ask a ∷ K) n ws h ∙ ap (g n) (after-make s (ask a ∷ K) n ws))))

module _ {us vs : List Word} {f g : Marks} (p : Position) where
  pub or-more : Boolean us f → Minterm vs g → Boolean (us ++ sign plus p ∷ vs) (λ n ms. f n (one counted n ∷ g n ms))
  unfolding tale eat pick waits_for rule_of among
  or-more x y = between {R = ask minterm ∷ []} plus p make_binary (λ K n ws. refl) refl x (whole-minterm y)

  pub exclusive-more : Minterm us f → Product vs g → Minterm (us ++ sign exclusive_sign p ∷ vs) (λ n ms. f n (one counted n ∷ g n ms))
  unfolding tale eat pick waits_for rule_of among
  exclusive-more x y = between {R = ask product ∷ []} exclusive_sign p make_binary (λ K n ws. refl) refl x (whole-product y)

  pub and-more : Product us f → Complement vs g → Product (us ++ sign star p ∷ vs) (λ n ms. f n (one counted n ∷ g n ms))
  unfolding tale eat pick waits_for rule_of among
  and-more x y = between {R = ask complement ∷ []} star p make_binary (λ K n ws. refl) refl x y

  pub con-more : Chain us f → Reduction vs g → Chain (us ++ sign con_word p ∷ vs) (λ n ms. f n (one counted n ∷ g n ms))
  unfolding tale eat pick waits_for rule_of among
  con-more x y = between {R = ask reduction ∷ []} con_word p make_binary (λ K n ws. refl) refl x y

  pub arithmetic-more : (k : ℕ) → is_arithmetic k ≡ true → Arithmetic us f → Term vs g → Arithmetic (us ++ sign k p ∷ vs) (λ n ms. f n (one counted n ∷ g n ms))
  unfolding tale eat pick waits_for rule_of among
  arithmetic-more k a x y =
      arithmetic-kinds (λ k. Arithmetic (us ++ sign k p ∷ vs) (λ n ms. f n (one counted n ∷ g n ms)))
      (between {R = ask term ∷ []} sum_sign p make_binary (λ K n ws. refl) refl x y) (between {R = ask term ∷ []} difference_sign p make_binary (λ K n ws. refl) refl x y) k a

  relation-by : (k : ℕ) → among k after_sum ≡ false → ((K : Stack) (n : ℕ) (ws : List Word) → tale (ask relation_tail ∷ K) n (sign k p ∷ ws) ≡ one counted n ∷ tale (ask arithmetic ∷ make make_binary ∷ K) n ws)
      → Arithmetic us f → Arithmetic vs g → Relation (us ++ sign k p ∷ vs) (λ n ms. f n (one counted n ∷ g n ms))
  relation-by k ok eats x y =
      tells (λ K n ws h. ap (tale (ask arithmetic ∷ ask relation_tail ∷ K) n) (append_assoc us (sign k p ∷ vs) ws) ∙ (whole-arithmetic x).says (ask relation_tail ∷ K) n (sign k p ∷ (vs ++ ws)) ok
      ∙ ap (f n) (eats K n (vs ++ ws) ∙ ap (λ (l : List Mark). one counted n ∷ l) ((whole-arithmetic y).says (make make_binary ∷ K) n ws (follows-right relations after_sum ws h) ∙ ap (g n) (after-make make_binary K n ws))))

  pub relation-of : (k : ℕ) → is_relation k ≡ true → Arithmetic us f → Arithmetic vs g → Relation (us ++ sign k p ∷ vs) (λ n ms. f n (one counted n ∷ g n ms))
  unfolding tale eat pick waits_for rule_of among
  relation-of k a x y =
      relation-kinds (λ k. Relation (us ++ sign k p ∷ vs) (λ n ms. f n (one counted n ∷ g n ms)))
      (relation-by same_sign refl (λ K n ws. refl) x y) (relation-by hash refl (λ K n ws. refl) x y) (relation-by less_sign refl (λ K n ws. refl) x y)
      (relation-by greater_sign refl (λ K n ws. refl) x y) (relation-by at_most_sign refl (λ K n ws. refl) x y) (relation-by at_least_sign refl (λ K n ws. refl) x y) k a

module _ {us : List Word} {f : Marks} (p : Position) where
  cut_by : (k : ℕ) (q : Position) (c : Constant) → among k after_relation ≡ false → ((K : Stack) (n : ℕ) (ws : List Word) → tale (ask cut_tail ∷ K) n (sign k p ∷ W.constant c q ∷ ws) ≡ one counted n ∷ plain n ∷ tale (make make_cut ∷ ask cut_tail ∷ K) n ws)
      → Adjustment us f → Adjustment (us ++ sign k p ∷ W.constant c q ∷ []) (λ n ms. f n (one counted n ∷ plain n ∷ ms))
  cut_by k q c ok eats x =
      tells (λ K n ws h. ap (tale (ask adjustment ∷ K) n) (append_assoc us (sign k p ∷ W.constant c q ∷ []) ws) ∙ x.says K n (sign k p ∷ W.constant c q ∷ ws) ok
      ∙ ap (f n) (eats K n ws ∙ ap (λ (l : List Mark). one counted n ∷ plain n ∷ l) (after-make make_cut (ask cut_tail ∷ K) n ws)))

  pub cut-more : (k : ℕ) (q : Position) (c : Constant) → is_cut k ≡ true → Adjustment us f → Adjustment (us ++ sign k p ∷ W.constant c q ∷ []) (λ n ms. f n (one counted n ∷ plain n ∷ ms))
  unfolding tale eat pick waits_for rule_of among
  cut-more k q c a x =
      cut-kinds (λ k. Adjustment (us ++ sign k p ∷ W.constant c q ∷ []) (λ n ms. f n (one counted n ∷ plain n ∷ ms)))
      (cut_by head_word q c refl (λ K n ws. refl) x) (cut_by tail_word q c refl (λ K n ws. refl) x) (cut_by ext_word q c refl (λ K n ws. refl) x) k a

  -- A sign before its operand, open until the operand ends.
  prefixed : {P R Q : Stack} {ks : List ℕ} (k : ℕ) → ((K : Stack) (n : ℕ) (ws : List Word) → tale (P ++ K) n (sign k p ∷ ws) ≡ one counted (suc n) ∷ tale (R ++ (make make_prefix ∷ ease ∷ (Q ++ K))) (suc n) ws)
      → Tells R [] ks us f → Tells P Q ks (sign k p ∷ us) (λ n ms. one counted (suc n) ∷ f (suc n) ms)
  prefixed {Q = Q} k eats x =
      tells (λ K n ws h. eats K n (us ++ ws) ∙ ap (λ (l : List Mark). one counted (suc n) ∷ l) (x.says (make make_prefix ∷ ease ∷ (Q ++ K)) (suc n) ws h ∙ ap (f (suc n)) (after-make make_prefix (ease ∷ (Q ++ K)) (suc n) ws ∙ after-ease (Q ++ K) n ws)))

  pub complement-of : Chain us f → Complement (sign minus p ∷ us) (λ n ms. one counted (suc n) ∷ f (suc n) ms)
  unfolding tale eat pick waits_for rule_of among
  complement-of x = prefixed {P = ask complement ∷ []} {R = ask reduction ∷ ask con_tail ∷ []} {Q = []} minus (λ K n ws. refl) (whole-chain x)

  pub negation-of : Term us f → Arithmetic (sign difference_sign p ∷ us) (λ n ms. one counted (suc n) ∷ f (suc n) ms)
  unfolding tale eat pick waits_for rule_of among
  negation-of x = prefixed {P = ask arithmetic ∷ []} {R = ask term ∷ []} {Q = ask arithmetic_tail ∷ []} difference_sign (λ K n ws. refl) x

  reduced : (k : ℕ) (q : Position) → ((K : Stack) (n : ℕ) (ws : List Word) → tale (ask reduction ∷ K) n (sign k p ∷ ws) ≡ one counted (suc n) ∷ tale (plain_word red_word ∷ ask adjustment ∷ make make_prefix ∷ ease ∷ K) (suc n) ws)
      → Adjustment us f → Reduction (sign k p ∷ sign red_word q ∷ us) (λ n ms. one counted (suc n) ∷ plain (suc n) ∷ f (suc n) ms)
  unfolding rule_of
  reduced k q eats x =
      tells (λ K n ws h. eats K n (sign red_word q ∷ (us ++ ws)) ∙ ap (λ (l : List Mark). one counted (suc n) ∷ l) (leads red_word q (ask adjustment ∷ make make_prefix ∷ ease ∷ K) (suc n) (us ++ ws)
      ∙ ap (λ (l : List Mark). plain (suc n) ∷ l) ((whole-adjustment x).says (make make_prefix ∷ ease ∷ K) (suc n) ws h ∙ ap (f (suc n)) (after-make make_prefix (ease ∷ K) (suc n) ws ∙ after-ease K n ws))))

  pub reduction-of : (k : ℕ) (q : Position) → is_reduction k ≡ true → Adjustment us f → Reduction (sign k p ∷ sign red_word q ∷ us) (λ n ms. one counted (suc n) ∷ plain (suc n) ∷ f (suc n) ms)
  unfolding tale eat pick waits_for rule_of among
  reduction-of k q a x =
      reduction-kinds (λ k. Reduction (sign k p ∷ sign red_word q ∷ us) (λ n ms. one counted (suc n) ∷ plain (suc n) ∷ f (suc n) ms))
      (reduced plus q (λ K n ws. refl) x) (reduced star q (λ K n ws. refl) x) (reduced exclusive_sign q (λ K n ws. refl) x) (reduced sum_sign q (λ K n ws. refl) x) k a
