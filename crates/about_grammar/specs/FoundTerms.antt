-- The terms in accepted words.
use mathlib.Core.List.{List, [], ◌∷◌, ◌++◌, append_assoc}
use Rattle.std.specs.Prelude.{◌⊎◌, ◌≡◌}
use Rattle.std.proofs.Common.{inl, inr, sym, arith}
use Rattle.std.proofs.Math.Path.{subst}
use Prim.Native.Nat.{ℕ, suc}
use Rattle.language.specs.Alternatives.{closing, plain_word}
use Rattle.language.specs.Building.{Built, expression_no, keep_word, make_choice, make_first_arm, make_next_arm, word_no}
use Rattle.language.specs.CountedWords.{counted_expression}
use Rattle.language.specs.Declaring.{tree_steps}
use Rattle.language.specs.Grammar as G
use Rattle.language.specs.Kinds.{case_word, close_paren, do_word, else_word, end_case_word, end_if_word, if_word, open_paren, then_word}
use Rattle.language.specs.Machine as M
use Rattle.language.specs.Machine.{Counts, ask, closes, counted, level, make, more, tallied}
use Rattle.language.specs.Notions as N
use Rattle.language.specs.Notions.{Notion, expression}
use Rattle.language.specs.SectionWays.{rule_of}
use Rattle.language.specs.Tree.{Name, choice, constant, first_arm, next_arm}
use Rattle.language.specs.Ways.{term_ways}
use Rattle.language.specs.Words as W
use Rattle.language.specs.Words.{Position, Word, sign}
use Rattle.about_grammar.specs.Accepting.{Accepts, Judge, Leaves, Picks, at_constant, at_name, at_sign_lem, chosen, made, weaken}
use Rattle.about_grammar.specs.Acting.{back, deeper}
use Rattle.about_grammar.specs.Courses.{Stack}
use Rattle.about_grammar.specs.Finding.{Found, Inverts, Referred, found, referred, with-extended, with-found}
use Rattle.about_grammar.specs.Peeling.{with-sign, worded}
use Rattle.about_grammar.specs.Taking.{push}

module _ (J : Judge) (n : ℕ) (ih : (m : ℕ) → n ≡ suc m → Inverts J m) (K : Stack) (b : Built) (c : Counts) where
  parens : (p : Position) (m g : ℕ) (vs : List Word) → n ≡ suc m → Accepts J (ask M.expression ∷ closing close_paren ∷ K) m g b (deeper c) vs → Found J N.term K n (suc g) b c (sign open_paren p ∷ vs)
  parens p m g vs s x =
      with-found (λ l. Found J N.term K n (suc g) b c (sign open_paren p ∷ l)) ((ih m s).expression _ _ _ _ _ x) λ us vs₁ e d i r y.
      with-sign (λ l. Found J N.term K n (suc g) b c (sign open_paren p ∷ (us ++ l))) (worded close_paren closes vs₁ y) λ q vs₂ z.
      subst (λ (l : List Word). Found J N.term K n (suc g) b c (sign open_paren p ∷ l)) (append_assoc us (sign close_paren q ∷ []) vs₂)
      (found (sign open_paren p ∷ (us ++ sign close_paren q ∷ [])) vs₂ e (back d) (G.term-parens q i) (omega arith) (weaken s (weaken z.1 z.2)))

  conditional : (p : Position) (m g : ℕ) (vs : List Word) → n ≡ suc m
      → Accepts J (ask M.expression ∷ plain_word then_word ∷ ask M.expression ∷ make make_first_arm ∷ plain_word else_word ∷ ask M.expression ∷ make make_next_arm ∷ closing end_if_word ∷ make make_choice ∷ K) m g (keep_word (sign if_word p) b) (deeper (more counted c)) vs
      → Found J N.term K n (suc g) b c (sign if_word p ∷ vs)
  unfolding counted_expression word_no expression_no
  conditional p m g vs s x =
      with-found (λ l. Found J N.term K n (suc g) b c (sign if_word p ∷ l)) ((ih m s).expression _ _ _ _ _ x) λ us vs₁ e d i r y.
      with-sign (λ l. Found J N.term K n (suc g) b c (sign if_word p ∷ (us ++ l))) (worded then_word level vs₁ y) λ q vs₂ z.
      with-found (λ l. Found J N.term K n (suc g) b c (sign if_word p ∷ (us ++ sign then_word q ∷ l))) ((ih m s).expression _ _ _ _ _ (weaken z.1 z.2)) λ us₁ vs₃ e₁ d₁ i₁ r₁ y₁.
      with-sign (λ l. Found J N.term K n (suc g) b c (sign if_word p ∷ (us ++ sign then_word q ∷ (us₁ ++ l)))) (worded else_word level vs₃ (made vs₃ y₁).1) λ q₁ vs₄ z₁.
      with-found (λ l. Found J N.term K n (suc g) b c (sign if_word p ∷ (us ++ sign then_word q ∷ (us₁ ++ sign else_word q₁ ∷ l)))) ((ih m s).expression _ _ _ _ _ (weaken z₁.1 z₁.2)) λ us₂ vs₅ e₂ d₂ i₂ r₂ y₂.
      with-sign (λ l. Found J N.term K n (suc g) b c (sign if_word p ∷ (us ++ sign then_word q ∷ (us₁ ++ sign else_word q₁ ∷ (us₂ ++ l))))) (worded end_if_word closes vs₅ (made vs₅ y₂).1) λ q₂ vs₆ z₂.
      subst (λ (l : List Word). Found J N.term K n (suc g) b c (sign if_word p ∷ l)) (simp append_assoc)
      (found (sign if_word p ∷ (us ++ sign then_word q ∷ (us₁ ++ sign else_word q₁ ∷ (us₂ ++ sign end_if_word q₂ ∷ [])))) vs₆ (choice p e (next_arm (first_arm e₁) e₂)) (back d₂) (G.term-if q q₁ q₂ i i₁ i₂) (omega arith) (made vs₆ (weaken s (weaken z₂.1 z₂.2))).1)

  cases : (p : Position) (m g : ℕ) (vs : List Word) → n ≡ suc m
      → Accepts J (ask M.expression ∷ plain_word do_word ∷ ask M.expression ∷ make make_first_arm ∷ plain_word do_word ∷ ask M.expression ∷ make make_next_arm ∷ ask M.more_arms ∷ closing end_case_word ∷ make make_choice ∷ K) m g (keep_word (sign case_word p) b) (deeper (more counted c)) vs
      → Found J N.term K n (suc g) b c (sign case_word p ∷ vs)
  unfolding counted_expression word_no expression_no
  cases p m g vs s x =
      with-found (λ l. Found J N.term K n (suc g) b c (sign case_word p ∷ l)) ((ih m s).expression _ _ _ _ _ x) λ us vs₁ e d i r y.
      with-sign (λ l. Found J N.term K n (suc g) b c (sign case_word p ∷ (us ++ l))) (worded do_word level vs₁ y) λ q vs₂ z.
      with-found (λ l. Found J N.term K n (suc g) b c (sign case_word p ∷ (us ++ sign do_word q ∷ l))) ((ih m s).expression _ _ _ _ _ (weaken z.1 z.2)) λ us₁ vs₃ e₁ d₁ i₁ r₁ y₁.
      with-sign (λ l. Found J N.term K n (suc g) b c (sign case_word p ∷ (us ++ sign do_word q ∷ (us₁ ++ l)))) (worded do_word level vs₃ (made vs₃ y₁).1) λ q₁ vs₄ z₁.
      with-found (λ l. Found J N.term K n (suc g) b c (sign case_word p ∷ (us ++ sign do_word q ∷ (us₁ ++ sign do_word q₁ ∷ l)))) ((ih m s).expression _ _ _ _ _ (weaken z₁.1 z₁.2)) λ us₂ vs₅ e₂ d₂ i₂ r₂ y₂.
      with-extended (λ l. Found J N.term K n (suc g) b c (sign case_word p ∷ (us ++ sign do_word q ∷ (us₁ ++ sign do_word q₁ ∷ (us₂ ++ l)))))
      ((ih m s).more_arms _ _ (push e (keep_word (sign case_word p) b)) (next_arm (first_arm e₁) e₂) d₂ (sign do_word q ∷ (us₁ ++ sign do_word q₁ ∷ us₂)) vs₅ (made vs₅ y₂).1 (G.arms-two q₁ i₁ i₂)) λ us₃ vs₆ e₃ d₃ i₃ r₃ y₃.
      with-sign (λ l. Found J N.term K n (suc g) b c (sign case_word p ∷ (us ++ sign do_word q ∷ (us₁ ++ sign do_word q₁ ∷ (us₂ ++ (us₃ ++ l)))))) (worded end_case_word closes vs₆ y₃) λ q₂ vs₇ z₂.
      subst (λ (l : List Word). Found J N.term K n (suc g) b c (sign case_word p ∷ l)) (simp append_assoc)
      (found (sign case_word p ∷ (us ++ (((sign do_word q ∷ (us₁ ++ sign do_word q₁ ∷ us₂)) ++ us₃) ++ sign end_case_word q₂ ∷ []))) vs₇ (choice p e e₃) (back d₃) (G.term-case q₂ i i₃) (omega arith) (made vs₇ (weaken s (weaken z₂.1 z₂.2))).1)

-- The nesting that is left, known by an equation.
pub raised : {J : Judge} {N : Notion} {K : Stack} {n h g : ℕ} {b : Built} {c : Counts} {ws : List Word} → h ≡ suc g → Found J N K n (suc g) b c ws → Found J N K n h b c ws
raised {J} {N} {K} {n} {b = b} {c} {ws} e x = subst (λ (h : ℕ). Found J N K n h b c ws) (sym e) x

module _ (J : Judge) (n : ℕ) (ih : (m : ℕ) → n ≡ suc m → Inverts J m) (K : Stack) (h : ℕ) (b : Built) (c : Counts) where
  pub a-term : (ws : List Word) → Accepts J (ask M.term ∷ K) n h b c ws → Found J N.term K n h b c ws
  unfolding rule_of tallied counted_expression word_no
  a-term ws x = go (chosen J M.term ws x)
    where
      refers : {y : Name} {p : Position} {m : ℕ} {vs : List Word} → n ≡ suc m → Referred J K m h y p b (more counted c) vs → Found J N.term K n h b c (W.name y p ∷ vs)
      refers {y} {p} s (referred us vs e d i g o a) = found (W.name y p ∷ us) vs e d (G.term-reference i) (omega arith) (weaken s a)

      go : {ws : List Word} → Picks J (term_ways tree_steps) K n h b c ws ⊎ Leaves J M.must K n h b c ws → Found J N.term K n h b c ws
      go (inl (inl (at_constant y p vs z))) = found (W.constant y p ∷ []) vs (constant y p) (more counted c) G.term-constant (omega arith) (weaken z.1 (made vs z.2).1)
      go (inl (inr (inl (at_name y p vs z)))) = refers z.1 ((ih z.0 z.1).subscripts _ _ _ _ _ _ _ z.2)
      go (inl (inr (inr (inl (at_sign_lem p vs z))))) = raised z.2.1 (parens J n ih K b c p z.0 z.2.0 vs z.1 z.2.2)
      go (inl (inr (inr (inr (inl (at_sign_lem p vs z)))))) = raised z.2.1 (conditional J n ih K b c p z.0 z.2.0 vs z.1 z.2.2)
      go (inl (inr (inr (inr (inr (inl (at_sign_lem p vs z))))))) = raised z.2.1 (cases J n ih K b c p z.0 z.2.0 vs z.1 z.2.2)
      go (inl (inr (inr (inr (inr (inr x)))))) = elim x [ ]
      go (inr x) = elim x [ ]
