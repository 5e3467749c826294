-- The tails of expressions in accepted words: each operator with its right operand, as the grammar has them.
use Rattle.std.proofs.Math.Bool.{true}
use mathlib.Core.List.{List, [], ◌∷◌, ◌++◌, append_assoc}
use Rattle.std.specs.Prelude.{◌⊎◌, ◌≡◌, refl}
use Rattle.std.proofs.Common.{inl, inr, arith}
use Rattle.std.proofs.Math.Path.{subst}
use Prim.Native.Nat.{ℕ, suc}
use Rattle.language.specs.Alternatives.{lead}
use Rattle.language.specs.Building.{Built, expression_no, keep_word, make_binary, make_cut, make_next_arm, word_no}
use Rattle.language.specs.CountedWords.{counted_expression}
use Rattle.language.specs.Declaring.{tree_steps}
use Rattle.language.specs.Grammar as G
use Rattle.language.specs.Grammar.{Is}
use Rattle.language.specs.Kinds.{a_constant, at_least_sign, at_most_sign, difference_sign, do_word, ext_word, greater_sign, hash, head_word, less_sign, same_sign, sum_sign, tail_word}
use Rattle.language.specs.Machine as M
use Rattle.language.specs.Machine.{Counts, ask, counted, keep, make, more, tallied}
use Rattle.language.specs.Notions as N
use Rattle.language.specs.Notions.{expression}
use Rattle.language.specs.SectionWays.{rule_of}
use Rattle.language.specs.Tree.{Expression, binary, cut, next_arm}
use Rattle.language.specs.Ways.{and_ways, arithmetic_tail_ways, con_ways, cut_ways, exclusive_ways, or_ways, relation_ways}
use Rattle.language.specs.Words as W
use Rattle.language.specs.Words.{Constant, Position, Word, sign}
use Rattle.about_grammar.specs.Accepting.{Accepts, AtConstant, Judge, Leaves, Picks, at_constant, at_sign_lem, chosen, made, weaken}
use Rattle.about_grammar.specs.Courses.{Grown, Stack}
use Rattle.about_grammar.specs.Finding.{Extended, Found, Inverts, extended, found, loop, no_more, spelt}
use Rattle.about_grammar.specs.Peeling.{kept_word}
use Rattle.about_grammar.specs.Taking.{push}
use Rattle.language.specs.Operators.{is_arithmetic, is_cut, is_relation}

module _ (J : Judge) (n : ℕ) (ih : (m : ℕ) → n ≡ suc m → Inverts J m) (K : Stack) (h : ℕ) (b : Built) (e : Expression) (c : Counts) (xs : List Word) where
  pub or-tail : (ws : List Word) → Accepts J (ask M.or_tail ∷ K) n h (push e b) c ws → Is N.boolean_exp h xs (expression e) → Extended J N.boolean_exp K n h xs e b c ws
  unfolding rule_of tallied
  or-tail ws x i = go (chosen J M.or_tail ws x)
    where
      go : {ws : List Word} → Picks J (or_ways tree_steps) K n h (push e b) c ws ⊎ Leaves J (M.may (λ p d. d)) K n h (push e b) c ws → Extended J N.boolean_exp K n h xs e b c ws
      go (inl (inl (at_sign_lem p vs y))) =
          let r = ih y.0 y.1 in
          loop y.1 (r.minterm _ _ _ _ _ y.2) (λ us f d ws j a. r.or_tail _ _ _ _ _ _ _ a (G.or-more i j))
      go (inr y) = no_more i y.1
      go (inl (inr x)) = elim x [ ]

  pub exclusive-tail : (ws : List Word) → Accepts J (ask M.exclusive_tail ∷ K) n h (push e b) c ws → Is N.minterm h xs (expression e) → Extended J N.minterm K n h xs e b c ws
  unfolding rule_of tallied
  exclusive-tail ws x i = go (chosen J M.exclusive_tail ws x)
    where
      go : {ws : List Word} → Picks J (exclusive_ways tree_steps) K n h (push e b) c ws ⊎ Leaves J (M.may (λ p d. d)) K n h (push e b) c ws → Extended J N.minterm K n h xs e b c ws
      go (inl (inl (at_sign_lem p vs y))) =
          let r = ih y.0 y.1 in
          loop y.1 (r.product _ _ _ _ _ y.2) (λ us f d ws j a. r.exclusive_tail _ _ _ _ _ _ _ a (G.exclusive-more i j))
      go (inr y) = no_more i y.1
      go (inl (inr x)) = elim x [ ]

  pub and-tail : (ws : List Word) → Accepts J (ask M.and_tail ∷ K) n h (push e b) c ws → Is N.product h xs (expression e) → Extended J N.product K n h xs e b c ws
  unfolding rule_of tallied
  and-tail ws x i = go (chosen J M.and_tail ws x)
    where
      go : {ws : List Word} → Picks J (and_ways tree_steps) K n h (push e b) c ws ⊎ Leaves J (M.may (λ p d. d)) K n h (push e b) c ws → Extended J N.product K n h xs e b c ws
      go (inl (inl (at_sign_lem p vs y))) =
          let r = ih y.0 y.1 in
          loop y.1 (r.complement _ _ _ _ _ y.2) (λ us f d ws j a. r.and_tail _ _ _ _ _ _ _ a (G.and-more i j))
      go (inr y) = no_more i y.1
      go (inl (inr x)) = elim x [ ]

  pub con-tail : (ws : List Word) → Accepts J (ask M.con_tail ∷ K) n h (push e b) c ws → Is N.chain h xs (expression e) → Extended J N.chain K n h xs e b c ws
  unfolding rule_of tallied
  con-tail ws x i = go (chosen J M.con_tail ws x)
    where
      go : {ws : List Word} → Picks J (con_ways tree_steps) K n h (push e b) c ws ⊎ Leaves J (M.may (λ p d. d)) K n h (push e b) c ws → Extended J N.chain K n h xs e b c ws
      go (inl (inl (at_sign_lem p vs y))) =
          let r = ih y.0 y.1 in
          loop y.1 (r.reduction _ _ _ _ _ y.2) (λ us f d ws j a. r.con_tail _ _ _ _ _ _ _ a (G.con-more i j))
      go (inr y) = no_more i y.1
      go (inl (inr x)) = elim x [ ]

  pub arithmetic-tail : (ws : List Word) → Accepts J (ask M.arithmetic_tail ∷ K) n h (push e b) c ws → Is N.arithmetic h xs (expression e) → Extended J N.arithmetic K n h xs e b c ws
  unfolding rule_of tallied
  arithmetic-tail ws x i = go (chosen J M.arithmetic_tail ws x)
    where
      by : (k : ℕ) → is_arithmetic k ≡ true → (p : Position) (vs : List Word) (m : ℕ) → n ≡ suc m → Accepts J (ask M.term ∷ make make_binary ∷ ask M.arithmetic_tail ∷ K) m h (keep_word (sign k p) (push e b)) (more counted c) vs → Extended J N.arithmetic K n h xs e b c (sign k p ∷ vs)
      by k q p vs m s y =
          let r = ih m s in
          loop s (r.term _ _ _ _ _ y) (λ us f d ws j a. r.arithmetic_tail _ _ _ _ _ _ _ a (G.arithmetic-more q i j))

      go : {ws : List Word} → Picks J (arithmetic_tail_ways tree_steps) K n h (push e b) c ws ⊎ Leaves J (M.may (λ p d. d)) K n h (push e b) c ws → Extended J N.arithmetic K n h xs e b c ws
      go (inl (inl (at_sign_lem p vs y))) = by sum_sign refl p vs y.0 y.1 y.2
      go (inl (inr (inl (at_sign_lem p vs y)))) = by difference_sign refl p vs y.0 y.1 y.2
      go (inr y) = no_more i y.1
      go (inl (inr (inr x))) = elim x [ ]

  pub cut-tail : (ws : List Word) → Accepts J (ask M.cut_tail ∷ K) n h (push e b) c ws → Is N.adjustment h xs (expression e) → Extended J N.adjustment K n h xs e b c ws
  unfolding rule_of tallied counted_expression word_no expression_no
  cut-tail ws x i = go (chosen J M.cut_tail ws x)
    where
      joined : (k : ℕ) (p : Position) {q : Position} {m : ℕ} {z : Constant} {ws : List Word} → n ≡ suc m → Extended J N.adjustment K m h (xs ++ sign k p ∷ W.constant z q ∷ []) (cut k p e z) b (more counted c) ws → Extended J N.adjustment K n h xs e b c (sign k p ∷ W.constant z q ∷ ws)
      joined k p {q} {z = z} s (extended us vs f d j r y) =
          extended (sign k p ∷ W.constant z q ∷ us) vs f d (spelt (append_assoc xs (sign k p ∷ W.constant z q ∷ []) us) j) (omega arith) (weaken s y)

      by₂ : (k : ℕ) → is_cut k ≡ true → (p : Position) {vs : List Word} (m : ℕ) → n ≡ suc m → AtConstant (λ z q vs. (l : ℕ) × (m ≡ suc l) × Accepts J (make make_cut ∷ ask M.cut_tail ∷ K) l h (keep_word (W.constant z q) (keep_word (sign k p) (push e b))) (more counted c) vs) vs → Extended J N.adjustment K n h xs e b c (sign k p ∷ vs)
      by₂ k q p m s (at_constant z o vs y) =
          joined k p s ((ih m s).cut_tail K h b (cut k p e z) (more counted c) (xs ++ sign k p ∷ W.constant z o ∷ []) vs (made vs (weaken y.1 y.2)).1 (G.cut-more o q i))

      by : (k : ℕ) → is_cut k ≡ true → (p : Position) (vs : List Word) (m : ℕ) → n ≡ suc m → Accepts J (keep a_constant ∷ make make_cut ∷ ask M.cut_tail ∷ K) m h (keep_word (sign k p) (push e b)) (more counted c) vs → Extended J N.adjustment K n h xs e b c (sign k p ∷ vs)
      by k q p vs m s y = by₂ k q p m s (kept_word a_constant vs y)

      go : {ws : List Word} → Picks J (cut_ways tree_steps) K n h (push e b) c ws ⊎ Leaves J (M.may (λ p d. d)) K n h (push e b) c ws → Extended J N.adjustment K n h xs e b c ws
      go (inl (inl (at_sign_lem p vs y))) = by head_word refl p vs y.0 y.1 y.2
      go (inl (inr (inl (at_sign_lem p vs y)))) = by tail_word refl p vs y.0 y.1 y.2
      go (inl (inr (inr (inl (at_sign_lem p vs y))))) = by ext_word refl p vs y.0 y.1 y.2
      go (inr y) = no_more i y.1
      go (inl (inr (inr (inr x)))) = elim x [ ]

  pub relation-tail : (ws : List Word) → Accepts J (ask M.relation_tail ∷ K) n h (push e b) c ws → Is N.arithmetic h xs (expression e) → Extended J N.relation K n h xs e b c ws
  unfolding rule_of tallied counted_expression word_no expression_no
  relation-tail ws x i = go (chosen J M.relation_tail ws x)
    where
      by₂ : (k : ℕ) → is_relation k ≡ true → (p : Position) {vs : List Word} (m : ℕ) → n ≡ suc m → Found J N.arithmetic (make make_binary ∷ K) m h (keep_word (sign k p) (push e b)) (more counted c) vs → Extended J N.relation K n h xs e b c (sign k p ∷ vs)
      by₂ k q p m s (found us vs f d j g y) = extended (sign k p ∷ us) vs (binary k p e f) d (G.relation-of q i j) (omega arith) (weaken s (made vs y).1)

      by : (k : ℕ) → is_relation k ≡ true → (p : Position) (vs : List Word) (m : ℕ) → n ≡ suc m → Accepts J (ask M.arithmetic ∷ make make_binary ∷ K) m h (keep_word (sign k p) (push e b)) (more counted c) vs → Extended J N.relation K n h xs e b c (sign k p ∷ vs)
      by k q p vs m s y = by₂ k q p m s ((ih m s).arithmetic _ _ _ _ _ y)

      go : {ws : List Word} → Picks J (relation_ways tree_steps) K n h (push e b) c ws ⊎ Leaves J (M.may (λ p d. d)) K n h (push e b) c ws → Extended J N.relation K n h xs e b c ws
      go (inl (inl (at_sign_lem p vs y))) = by same_sign refl p vs y.0 y.1 y.2
      go (inl (inr (inl (at_sign_lem p vs y)))) = by hash refl p vs y.0 y.1 y.2
      go (inl (inr (inr (inl (at_sign_lem p vs y))))) = by less_sign refl p vs y.0 y.1 y.2
      go (inl (inr (inr (inr (inl (at_sign_lem p vs y)))))) = by greater_sign refl p vs y.0 y.1 y.2
      go (inl (inr (inr (inr (inr (inl (at_sign_lem p vs y))))))) = by at_most_sign refl p vs y.0 y.1 y.2
      go (inl (inr (inr (inr (inr (inr (inl (at_sign_lem p vs y)))))))) = by at_least_sign refl p vs y.0 y.1 y.2
      go (inr y) = no_more (G.relation-none i) y.1
      go (inl (inr (inr (inr (inr (inr (inr x))))))) = elim x [ ]

  pub more-arms : (ws : List Word) → Accepts J (ask M.more_arms ∷ K) n h (push e b) c ws → Is N.expression_arms h xs (expression e) → Extended J N.expression_arms K n h xs e b c ws
  unfolding rule_of tallied counted_expression word_no expression_no
  more-arms ws x i = go (chosen J M.more_arms ws x)
    where
      joined : {p : Position} {m : ℕ} (us : List Word) {f : Expression} {d : Counts} {ws : List Word} → n ≡ suc m → Grown (counted_expression f) c d → Extended J N.expression_arms K m h (xs ++ sign do_word p ∷ us) (next_arm e f) b d ws → Extended J N.expression_arms K n h xs e b c (sign do_word p ∷ (us ++ ws))
      joined {p} us s g (extended vs₁ vs₂ f d j r y) =
          subst (λ (l : List Word). Extended J N.expression_arms K n h xs e b c (sign do_word p ∷ l)) (append_assoc us vs₁ vs₂)
          (extended (sign do_word p ∷ (us ++ vs₁)) vs₂ f d (spelt (append_assoc xs (sign do_word p ∷ us) vs₁) j) (omega arith) (weaken s y))

      by : (p : Position) {vs : List Word} (m : ℕ) → n ≡ suc m → Found J N.boolean_exp (make make_next_arm ∷ ask M.more_arms ∷ K) m h (push e b) c vs → Extended J N.expression_arms K n h xs e b c (sign do_word p ∷ vs)
      by p m s (found us vs f d j g y) = joined us s g ((ih m s).more_arms K h b (next_arm e f) d (xs ++ sign do_word p ∷ us) vs (made vs y).1 (G.arms_next p i j))

      go : {ws : List Word} → Picks J (lead do_word (ask M.expression ∷ make make_next_arm ∷ ask M.more_arms ∷ []) ∷ []) K n h (push e b) c ws ⊎ Leaves J (M.may (λ p d. d)) K n h (push e b) c ws → Extended J N.expression_arms K n h xs e b c ws
      go (inl (inl (at_sign_lem p vs y))) = by p y.0 y.1 ((ih y.0 y.1).expression _ _ _ _ _ y.2)
      go (inr y) = no_more i y.1
      go (inl (inr x)) = elim x [ ]
