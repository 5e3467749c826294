-- References in accepted words, behind their names.
use mathlib.Core.List.{List, [], ◌∷◌, ◌++◌, append_assoc}
use Rattle.std.specs.Prelude.{◌⊎◌, ◌≡◌, ℕ, suc}
use Rattle.std.proofs.Common.{inl, inr, sym, arith}
use Rattle.std.proofs.Math.Path.{refl, subst}
use Rattle.language.specs.Alternatives.{enter}
use Rattle.language.specs.Building.{Built, expression_no, keep_word, make_one, make_whole, word_no}
use Rattle.language.specs.CountedWords.{counted_expression}
use Rattle.language.specs.Declaring.{tree_steps}
use Rattle.language.specs.Grammar as G
use Rattle.language.specs.Grammar.{Is}
use Rattle.language.specs.Kinds.{close_bracket, colon, comma, open_bracket}
use Rattle.language.specs.Machine as M
use Rattle.language.specs.Machine.{Counts, after_subscript, ask, second, second_end, second_option, subscript, subscripts, tallied}
use Rattle.language.specs.Notions as N
use Rattle.language.specs.Notions.{expression, pair_of}
use Rattle.language.specs.SectionWays.{rule_of}
use Rattle.language.specs.Tree.{Expression, Name, one, part, two, whole, word_part}
use Rattle.language.specs.Ways.{after_subscript_ways, second_end_ways}
use Rattle.language.specs.Words as W
use Rattle.language.specs.Words.{Position, Word, sign}
use Rattle.about_grammar.specs.Accepting.{Accepts, Judge, Leaves, Picks, at_sign_lem, chosen, made, weaken}
use Rattle.about_grammar.specs.Acting.{back, deeper}
use Rattle.about_grammar.specs.Courses.{Grown, Stack}
use Rattle.about_grammar.specs.Finding.{Found, Inverts, Referred, found, referred}
use Rattle.about_grammar.specs.FoundSubscripts.{FirstPart, SecondPart, first_found, first_part, second-one-found, second-one-part}
use Rattle.about_grammar.specs.Taking.{push}

-- Found from the bracket on; the name before it is x at p, and of the first subscript the words are us.
module _ (J : Judge) (m : ℕ) (r : Inverts J m) (K : Stack) (g : ℕ) (x : Name) (p o : Position) (b : Built) (c : Counts) (us : List Word) (e : Expression) (d : Counts) (i : Is N.boolean_exp g us (expression e)) (grown : Grown (counted_expression e) (deeper c) d) where
  abbrev Behind : List Word → Type 0
  Behind ws = Referred J K m (suc g) x p b c (sign open_bracket o ∷ (us ++ ws))

  -- The second subscript, behind a comma.
  comma-ends : (k : Position) (l : ℕ) → m ≡ suc l → {ws : List Word} → Found J N.boolean_exp (ask second_end ∷ K) m g (push e (keep_word (W.name x p) b)) d ws ⊎ SecondPart J K m g (push e (keep_word (W.name x p) b)) d ws → Behind (sign comma k ∷ ws)
  unfolding rule_of tallied counted_expression word_no expression_no
  comma-ends k l s (inl (found us₁ vs f d₁ j h y)) = go (chosen J second_end vs y)
    where
      go : {vs : List Word} → Picks J (second_end_ways tree_steps) K m g (push f (push e (keep_word (W.name x p) b))) d₁ vs ⊎ Leaves J M.must K m g (push f (push e (keep_word (W.name x p) b))) d₁ vs → Behind (sign comma k ∷ (us₁ ++ vs))
      go (inl (inl (at_sign_lem q vs z))) =
          subst (λ (l : List Word). Referred J K m (suc g) x p b c (sign open_bracket o ∷ l)) (simp append_assoc)
          (referred (sign open_bracket o ∷ (us ++ sign comma k ∷ (us₁ ++ sign close_bracket q ∷ []))) vs (two x p e f) (back d₁) (G.ref-two q k i j) (omega arith) refl (made vs (weaken z.1 z.2)).1)
      go (inl (inr x)) = elim x [ ]
      go (inr x) = elim x [ ]
  comma-ends k l s (inr (second-one-part y z q n v t u vs a)) =
      subst (λ (l : List Word). Referred J K m (suc g) x p b c (sign open_bracket o ∷ l)) (simp append_assoc)
      (referred (sign open_bracket o ∷ (us ++ sign comma k ∷ W.constant y q ∷ sign colon n ∷ W.constant z v ∷ sign close_bracket t ∷ [])) vs (word_part x p e (pair_of y q z v)) (back d) (G.ref-word-part t k n i) (omega arith) refl a)

  -- The second subscript, in brackets of its own.
  apart-ends : (k k₁ : Position) → {ws : List Word} → Found J N.boolean_exp (ask second_end ∷ K) m g (push e (keep_word (W.name x p) b)) (deeper (back d)) ws ⊎ SecondPart J K m g (push e (keep_word (W.name x p) b)) (deeper (back d)) ws
      → Behind (sign close_bracket k ∷ sign open_bracket k₁ ∷ ws)
  unfolding rule_of tallied counted_expression word_no expression_no
  apart-ends k k₁ (inl (found us₁ vs f d₁ j h y)) = go (chosen J second_end vs y)
    where
      go : {vs : List Word} → Picks J (second_end_ways tree_steps) K m g (push f (push e (keep_word (W.name x p) b))) d₁ vs ⊎ Leaves J M.must K m g (push f (push e (keep_word (W.name x p) b))) d₁ vs → Behind (sign close_bracket k ∷ sign open_bracket k₁ ∷ (us₁ ++ vs))
      go (inl (inl (at_sign_lem q vs z))) =
          subst (λ (l : List Word). Referred J K m (suc g) x p b c (sign open_bracket o ∷ l)) (simp append_assoc)
          (referred (sign open_bracket o ∷ (us ++ sign close_bracket k ∷ sign open_bracket k₁ ∷ (us₁ ++ sign close_bracket q ∷ []))) vs (two x p e f) (back d₁) (G.ref-two-apart q k k₁ i j) (omega arith) refl (made vs (weaken z.1 z.2)).1)
      go (inl (inr x)) = elim x [ ]
      go (inr x) = elim x [ ]
  apart-ends k k₁ (inr (second-one-part y z q n v t u vs a)) =
      subst (λ (l : List Word). Referred J K m (suc g) x p b c (sign open_bracket o ∷ l)) (simp append_assoc)
      (referred (sign open_bracket o ∷ (us ++ sign close_bracket k ∷ sign open_bracket k₁ ∷ W.constant y q ∷ sign colon n ∷ W.constant z v ∷ sign close_bracket t ∷ [])) vs (word_part x p e (pair_of y q z v)) (back (deeper (back d))) (G.ref-word-part-apart t k n k₁ i) (omega arith) refl a)

  one-or-two : (k : Position) {ws : List Word} → Picks J (enter open_bracket (ask second ∷ []) ∷ []) K m (suc g) (push e (keep_word (W.name x p) b)) (back d) ws ⊎ Leaves J (M.may make_one) K m (suc g) (push e (keep_word (W.name x p) b)) (back d) ws → Behind (sign close_bracket k ∷ ws)
  unfolding counted_expression word_no expression_no tallied
  one-or-two k (inl (inl (at_sign_lem k₁ vs z))) =
      let q : z.2.0 ≡ g = omega (arith, z.2.1) in
      apart-ends k k₁ (second-one-found J m r K g (push e (keep_word (W.name x p) b)) (deeper (back d)) vs (weaken z.1 (subst (λ (j : ℕ). Accepts J (ask second ∷ K) z.0 j (push e (keep_word (W.name x p) b)) (deeper (back d)) vs) q z.2.2)))
  one-or-two k {ws} (inr z) =
      subst (λ (l : List Word). Referred J K m (suc g) x p b c (sign open_bracket o ∷ l)) (append_assoc us (sign close_bracket k ∷ []) ws)
      (referred (sign open_bracket o ∷ (us ++ sign close_bracket k ∷ [])) ws (one x p e) (back d) (G.ref-one k i) (omega arith) refl z.1)
  one-or-two k (inl (inr x)) = elim x [ ]

  after_first : {ws : List Word} → Picks J (after_subscript_ways tree_steps) K m g (push e (keep_word (W.name x p) b)) d ws ⊎ Leaves J M.must K m g (push e (keep_word (W.name x p) b)) d ws → Behind ws
  unfolding rule_of tallied
  after_first (inl (inl (at_sign_lem k vs z))) = one-or-two k (chosen J second_option vs (weaken z.1 z.2))
  after_first (inl (inr (inl (at_sign_lem k vs z)))) = comma-ends k z.0 z.1 (second-one-found J m r K g (push e (keep_word (W.name x p) b)) d vs (weaken z.1 z.2))
  after_first (inl (inr (inr x))) = elim x [ ]
  after_first (inr x) = elim x [ ]

module _ (J : Judge) (n : ℕ) (ih : (m : ℕ) → n ≡ suc m → Inverts J m) (K : Stack) (h : ℕ) (x : Name) (p : Position) (b : Built) (c : Counts) where
  bracketed : (m g : ℕ) → n ≡ suc m → h ≡ suc g → (o : Position) {ws : List Word} → Referred J K m (suc g) x p b c (sign open_bracket o ∷ ws) → Referred J K n h x p b c (sign open_bracket o ∷ ws)
  bracketed m g s q o {ws} y = subst (λ (j : ℕ). Referred J K n j x p b c (sign open_bracket o ∷ ws)) (sym q) (go y)
    where
      go : {ws : List Word} → Referred J K m (suc g) x p b c ws → Referred J K n (suc g) x p b c ws
      go (referred us vs e d i r t a) = referred us vs e d i r t (weaken s a)

  in-bracket : (m g : ℕ) → n ≡ suc m → (o : Position) {ws : List Word} → Found J N.boolean_exp (ask after_subscript ∷ K) m g (keep_word (W.name x p) b) (deeper c) ws ⊎ FirstPart J K m g (keep_word (W.name x p) b) (deeper c) ws
      → Referred J K m (suc g) x p b c (sign open_bracket o ∷ ws)
  unfolding rule_of word_no counted_expression
  in-bracket m g s o (inl (found us vs e d i r y)) = after_first J m (ih m s) K g x p o b c us e d i r (chosen J after_subscript vs y)
  in-bracket m g s o (inr (first_part y z q k v t u vs a)) =
      referred (sign open_bracket o ∷ W.constant y q ∷ sign colon k ∷ W.constant z v ∷ sign close_bracket t ∷ []) vs (part x p (pair_of y q z v)) (back (deeper c)) G.ref-part (omega arith) refl a

  pub a-reference : (ws : List Word) → Accepts J (ask subscripts ∷ K) n h (keep_word (W.name x p) b) c ws → Referred J K n h x p b c ws
  unfolding rule_of tallied word_no counted_expression
  a-reference ws y = go (chosen J subscripts ws y)
    where
      go : {ws : List Word} → Picks J (enter open_bracket (ask subscript ∷ []) ∷ []) K n h (keep_word (W.name x p) b) c ws ⊎ Leaves J (M.may make_whole) K n h (keep_word (W.name x p) b) c ws → Referred J K n h x p b c ws
      go (inl (inl (at_sign_lem o vs z))) = bracketed z.0 z.2.0 z.1 z.2.1 o (in-bracket z.0 z.2.0 z.1 o (first_found J z.0 (ih z.0 z.1) K z.2.0 (keep_word (W.name x p) b) (deeper c) vs z.2.2))
      go {ws} (inr z) = referred [] ws (whole x p) c G.ref-whole (omega arith) refl z.1
      go (inl (inr x)) = elim x [ ]
