-- Expressions in accepted words: each level as the grammar has it, by induction on how many words are left.
use Rattle.std.specs.Prelude.{true, ◌⊎◌, ◌≡◌, ℕ, zero, suc}
use mathlib.Core.List.{List, [], ◌∷◌, ◌++◌, append_assoc}
use Rattle.std.proofs.Common.{inl, inr, arith}
use Rattle.std.proofs.Math.Path.{refl, subst}
use Rattle.language.specs.Building.{Built, expression_no, keep_word, make_prefix, word_no}
use Rattle.language.specs.CountedWords.{counted_expression}
use Rattle.language.specs.Declaring.{tree_steps}
use Rattle.language.specs.Grammar as G
use Rattle.language.specs.Grammar.{Is}
use Rattle.language.specs.Kinds.{difference_sign, exclusive_sign, minus, plus, red_word, star, sum_sign}
use Rattle.language.specs.Machine as M
use Rattle.language.specs.Machine.{Counts, ask, counted, ease, level, make, more, tallied}
use Rattle.language.specs.Notions as N
use Rattle.language.specs.Notions.{Notion, expression}
use Rattle.language.specs.SectionWays.{rule_of}
use Rattle.language.specs.Tree.{Expression, prefix}
use Rattle.language.specs.Ways.{adjustment_ways, arithmetic_ways, complement_ways, minterm_ways, product_ways, reduction_ways, term_ways}
use Rattle.language.specs.Words.{Position, Word, sign}
use Rattle.about_grammar.specs.Accepting.{Accepts, AtSign, Judge, Picks, at_sign_lem, made, relieved, weaken}
use Rattle.about_grammar.specs.Acting.{back, deeper}
use Rattle.about_grammar.specs.Courses.{Stack}
use Rattle.about_grammar.specs.Finding.{Found, Inverts, found, join}
use Rattle.about_grammar.specs.FoundReferences.{a-reference}
use Rattle.about_grammar.specs.FoundTails.{and-tail, arithmetic-tail, con-tail, cut-tail, exclusive-tail, more-arms, or-tail, relation-tail}
use Rattle.about_grammar.specs.FoundTerms.{a-term, raised}
use Rattle.about_grammar.specs.Levels.{minus_way, negating_way, reducing_ways}
use Rattle.about_grammar.specs.Peeling.{early-or-later, worded}
use Rattle.about_grammar.specs.Stacks.{plain_ways}
use Rattle.language.specs.Operators.{is_reduction}

-- A prefix operator's node, behind its operand; `front` is what stands before the operand.
module _ (J : Judge) (K : Stack) (n m g k : ℕ) (p : Position) (b : Built) (c : Counts) (s : n ≡ suc m) where
  prefixed : {R N : Notion} (front : List Word) → ((us : List Word) (e : Expression) → Is R g us (expression e) → Is N (suc g) (sign k p ∷ (front ++ us)) (expression (prefix k p e)))
      → {ws : List Word} → Found J R (make make_prefix ∷ ease ∷ K) m g (keep_word (sign k p) b) (deeper (more counted c)) ws → Found J N K n (suc g) b c (sign k p ∷ (front ++ ws))
  unfolding counted_expression word_no expression_no
  prefixed {R} {N} front rule (found us vs e d i r y) =
      subst (λ (l : List Word). Found J N K n (suc g) b c (sign k p ∷ l)) (append_assoc front us vs)
      (found (sign k p ∷ (front ++ us)) vs (prefix k p e) (back d) (rule us e i) (omega arith) (weaken s (relieved vs (made vs y).1)))

module _ (J : Judge) (n : ℕ) (ih : (m : ℕ) → n ≡ suc m → Inverts J m) (K : Stack) (h : ℕ) (b : Built) (c : Counts) where
  arithmetic : (ws : List Word) → Accepts J (ask M.arithmetic ∷ K) n h b c ws → Found J N.arithmetic K n h b c ws
  unfolding rule_of plain_ways tallied
  arithmetic ws x = go (early-or-later M.arithmetic M.term (ask M.arithmetic_tail ∷ []) (negating_way ∷ []) (term_ways tree_steps) refl refl refl ws x)
    where
      go : {ws : List Word} → Picks J (negating_way ∷ []) K n h b c ws ⊎ Accepts J (ask M.term ∷ ask M.arithmetic_tail ∷ K) n h b c ws → Found J N.arithmetic K n h b c ws
      go (inl (inl (at_sign_lem p vs z))) =
          raised z.2.1 (join (prefixed J (ask M.arithmetic_tail ∷ K) n z.0 z.2.0 difference_sign p b c z.1 [] (λ us e i. G.negation-of i) ((ih z.0 z.1).term _ _ _ _ _ z.2.2)) (λ us e i. i) (λ e d xs ws a i. arithmetic-tail J n ih K (suc z.2.0) b e d xs ws a i))
      go {ws} (inr y) = join (a-term J n ih (ask M.arithmetic_tail ∷ K) h b c ws y) (λ us e i. G.arithmetic-one i) (λ e d xs ws a i. arithmetic-tail J n ih K h b e d xs ws a i)
      go (inl (inr x)) = elim x [ ]

module _ (J : Judge) (n : ℕ) (ih : (m : ℕ) → n ≡ suc m → Inverts J m) (K : Stack) (h : ℕ) (b : Built) (c : Counts) where
  adjustment : (ws : List Word) → Accepts J (ask M.adjustment ∷ K) n h b c ws → Found J N.adjustment K n h b c ws
  unfolding rule_of plain_ways
  adjustment ws x = go (early-or-later M.adjustment M.arithmetic (ask M.relation_tail ∷ ask M.cut_tail ∷ []) [] (arithmetic_ways tree_steps (term_ways tree_steps)) refl refl refl ws x)
    where
      go : {ws : List Word} → Picks J [] K n h b c ws ⊎ Accepts J (ask M.arithmetic ∷ ask M.relation_tail ∷ ask M.cut_tail ∷ K) n h b c ws → Found J N.adjustment K n h b c ws
      go {ws} (inr y) =
          join (join (arithmetic J n ih (ask M.relation_tail ∷ ask M.cut_tail ∷ K) h b c ws y) (λ us e i. i) (λ e d xs ws a i. relation-tail J n ih (ask M.cut_tail ∷ K) h b e d xs ws a i))
          (λ us e i. G.cut-none i) (λ e d xs ws a i. cut-tail J n ih K h b e d xs ws a i)
      go (inl x) = elim x [ ]

module _ (J : Judge) (n : ℕ) (ih : (m : ℕ) → n ≡ suc m → Inverts J m) (K : Stack) (h : ℕ) (b : Built) (c : Counts) where
  reduction-by : (k : ℕ) → is_reduction k ≡ true → (p : Position) (m g : ℕ) → n ≡ suc m → {vs : List Word} → AtSign red_word (λ q vs. (l : ℕ) × (m ≡ suc l) × Accepts J (ask M.adjustment ∷ make make_prefix ∷ ease ∷ K) l g (keep_word (sign k p) b) (deeper (more counted c)) vs) vs
      → Found J N.reduction K n (suc g) b c (sign k p ∷ vs)
  reduction-by k o p m g s (at_sign_lem q vs z) =
      prefixed J K n m g k p b c s (sign red_word q ∷ []) (λ us e i. G.reduction-of o i) ((ih m s).adjustment _ _ _ _ _ (weaken z.1 z.2))

  reduction : (ws : List Word) → Accepts J (ask M.reduction ∷ K) n h b c ws → Found J N.reduction K n h b c ws
  unfolding rule_of plain_ways tallied
  reduction ws x = go (early-or-later M.reduction M.adjustment [] reducing_ways (adjustment_ways tree_steps (term_ways tree_steps)) refl refl refl ws x)
    where
      plainly : {ws : List Word} → Found J N.adjustment K n h b c ws → Found J N.reduction K n h b c ws
      plainly (found us vs e d i g a) = found us vs e d (G.reduction-none i) g a

      go : {ws : List Word} → Picks J reducing_ways K n h b c ws ⊎ Accepts J (ask M.adjustment ∷ K) n h b c ws → Found J N.reduction K n h b c ws
      go (inl (inl (at_sign_lem p vs z))) = raised z.2.1 (reduction-by plus refl p z.0 z.2.0 z.1 (worded red_word level vs z.2.2))
      go (inl (inr (inl (at_sign_lem p vs z)))) = raised z.2.1 (reduction-by star refl p z.0 z.2.0 z.1 (worded red_word level vs z.2.2))
      go (inl (inr (inr (inl (at_sign_lem p vs z))))) = raised z.2.1 (reduction-by exclusive_sign refl p z.0 z.2.0 z.1 (worded red_word level vs z.2.2))
      go (inl (inr (inr (inr (inl (at_sign_lem p vs z)))))) = raised z.2.1 (reduction-by sum_sign refl p z.0 z.2.0 z.1 (worded red_word level vs z.2.2))
      go {ws} (inr y) = plainly (adjustment J n ih K h b c ws y)
      go (inl (inr (inr (inr (inr x))))) = elim x [ ]

module _ (J : Judge) (n : ℕ) (ih : (m : ℕ) → n ≡ suc m → Inverts J m) (K : Stack) (h : ℕ) (b : Built) (c : Counts) where
  complement : (ws : List Word) → Accepts J (ask M.complement ∷ K) n h b c ws → Found J N.complement K n h b c ws
  unfolding rule_of plain_ways tallied
  complement ws x = go (early-or-later M.complement M.reduction (ask M.con_tail ∷ []) (minus_way ∷ []) (reduction_ways tree_steps (term_ways tree_steps)) refl refl refl ws x)
    where
      plainly : {ws : List Word} → Found J N.chain K n h b c ws → Found J N.complement K n h b c ws
      plainly (found us vs e d i g a) = found us vs e d (G.complement-none i) g a

      go : {ws : List Word} → Picks J (minus_way ∷ []) K n h b c ws ⊎ Accepts J (ask M.reduction ∷ ask M.con_tail ∷ K) n h b c ws → Found J N.complement K n h b c ws
      go (inl (inl (at_sign_lem p vs z))) =
          let r = ih z.0 z.1 in
          raised z.2.1 (prefixed J K n z.0 z.2.0 minus p b c z.1 [] (λ us e i. G.complement-of i) (join (r.reduction _ _ _ _ _ z.2.2) (λ us e i. G.con-one i) (λ e d xs ws a i. r.con_tail _ _ _ _ _ _ _ a i)))
      go {ws} (inr y) = plainly (join (reduction J n ih (ask M.con_tail ∷ K) h b c ws y) (λ us e i. G.con-one i) (λ e d xs ws a i. con-tail J n ih K h b e d xs ws a i))
      go (inl (inr x)) = elim x [ ]

module _ (J : Judge) (n : ℕ) (ih : (m : ℕ) → n ≡ suc m → Inverts J m) (K : Stack) (h : ℕ) (b : Built) (c : Counts) where
  product : (ws : List Word) → Accepts J (ask M.product ∷ K) n h b c ws → Found J N.product K n h b c ws
  unfolding rule_of plain_ways
  product ws x = go (early-or-later M.product M.complement (ask M.and_tail ∷ []) [] (complement_ways tree_steps (term_ways tree_steps)) refl refl refl ws x)
    where
      go : {ws : List Word} → Picks J [] K n h b c ws ⊎ Accepts J (ask M.complement ∷ ask M.and_tail ∷ K) n h b c ws → Found J N.product K n h b c ws
      go {ws} (inr y) = join (complement J n ih (ask M.and_tail ∷ K) h b c ws y) (λ us e i. G.and_one i) (λ e d xs ws a i. and-tail J n ih K h b e d xs ws a i)
      go (inl x) = elim x [ ]

module _ (J : Judge) (n : ℕ) (ih : (m : ℕ) → n ≡ suc m → Inverts J m) (K : Stack) (h : ℕ) (b : Built) (c : Counts) where
  minterm : (ws : List Word) → Accepts J (ask M.minterm ∷ K) n h b c ws → Found J N.minterm K n h b c ws
  unfolding rule_of plain_ways
  minterm ws x = go (early-or-later M.minterm M.product (ask M.exclusive_tail ∷ []) [] (product_ways tree_steps (term_ways tree_steps)) refl refl refl ws x)
    where
      go : {ws : List Word} → Picks J [] K n h b c ws ⊎ Accepts J (ask M.product ∷ ask M.exclusive_tail ∷ K) n h b c ws → Found J N.minterm K n h b c ws
      go {ws} (inr y) = join (product J n ih (ask M.exclusive_tail ∷ K) h b c ws y) (λ us e i. G.exclusive-one i) (λ e d xs ws a i. exclusive-tail J n ih K h b e d xs ws a i)
      go (inl x) = elim x [ ]

module _ (J : Judge) (n : ℕ) (ih : (m : ℕ) → n ≡ suc m → Inverts J m) (K : Stack) (h : ℕ) (b : Built) (c : Counts) where
  boolean : (ws : List Word) → Accepts J (ask M.expression ∷ K) n h b c ws → Found J N.boolean_exp K n h b c ws
  unfolding rule_of plain_ways
  boolean ws x = go (early-or-later M.expression M.minterm (ask M.or_tail ∷ []) [] (minterm_ways tree_steps (term_ways tree_steps)) refl refl refl ws x)
    where
      go : {ws : List Word} → Picks J [] K n h b c ws ⊎ Accepts J (ask M.minterm ∷ ask M.or_tail ∷ K) n h b c ws → Found J N.boolean_exp K n h b c ws
      go {ws} (inr y) = join (minterm J n ih (ask M.or_tail ∷ K) h b c ws y) (λ us e i. G.or-one i) (λ e d xs ws a i. or-tail J n ih K h b e d xs ws a i)
      go (inl x) = elim x [ ]

-- All levels, in n words, from those in fewer.
inverts-by : (J : Judge) (n : ℕ) → ((m : ℕ) → n ≡ suc m → Inverts J m) → Inverts J n
inverts-by J n ih = record {
  expression = boolean J n ih;
  minterm = minterm J n ih;
  product = product J n ih;
  complement = complement J n ih;
  reduction = reduction J n ih;
  adjustment = adjustment J n ih;
  arithmetic = arithmetic J n ih;
  term = a-term J n ih;
  or_tail = or-tail J n ih;
  exclusive_tail = exclusive-tail J n ih;
  and_tail = and-tail J n ih;
  con_tail = con-tail J n ih;
  cut_tail = cut-tail J n ih;
  relation_tail = relation-tail J n ih;
  arithmetic_tail = arithmetic-tail J n ih;
  more_arms = more-arms J n ih;
  subscripts = a-reference J n ih;
}

pub inverts : (J : Judge) (n : ℕ) → Inverts J n
inverts J zero = inverts-by J zero (λ m e. absurd (omega arith))
inverts J (suc n) = inverts-by J (suc n) (λ m e. subst (Inverts J) (omega arith) (inverts J n))
