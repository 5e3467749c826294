-- Terminals in accepted words, behind their names: plain, from INPUT, or with an expression.
use Rattle.std.specs.Prelude.{Bool, true, false, ◌&&◌, ◌⊎◌, ◌≡◌, eqb}
use mathlib.Core.List.{List, [], ◌∷◌, ◌++◌, append_assoc}
use Rattle.std.proofs.Common.{inl, inr, ◌∙◌, ap, sym, arith, eqb-true}
use Rattle.std.proofs.Math.Path.{refl, subst}
use Prim.Native.Nat.{ℕ, suc}
use Rattle.language.specs.Alternatives.{after_step, closing, enter, kept, lead, plain_word, shut}
use Rattle.language.specs.Building.{Built, expression_no, keep_word, with_ends, with_extents, with_text, word_no}
use Rattle.language.specs.CountedWords.{counted_function}
use Rattle.language.specs.Declaring.{make_computed, make_input, make_no_dimension, make_plain, make_row, make_table, tree_steps, with_terminal}
use Rattle.language.specs.Grammar as G
use Rattle.language.specs.Grammar.{Is}
use Rattle.language.specs.Kinds.{a_constant, close_bracket, close_paren, comma, equal_sign, input_word, open_bracket, open_paren}
use Rattle.language.specs.Machine as M
use Rattle.language.specs.Machine.{Counts, again, ask, closes, function_of, keep, level, make, opens, range_rest, tallied, terminal_dimensions, terminal_function, terminal_rest, word}
use Rattle.language.specs.Notions as N
use Rattle.language.specs.Notions.{AtMostOne, as_declared, ends, extent, facility}
use Rattle.language.specs.Scan.{same}
use Rattle.language.specs.SectionWays.{rule_of}
use Rattle.language.specs.Tree as T
use Rattle.language.specs.Tree.{Declaration, Ends, Extent, Name, computed, from_input, given, input, plain, row, table, unspecified}
use Rattle.language.specs.Ways.{expression_ways, term_ways}
use Rattle.language.specs.Words as W
use Rattle.language.specs.Words.{Position, Word, sign}
use Rattle.about_grammar.specs.Accepting.{Accepts, Judge, Leaves, Picks, at_sign_lem, chosen, made, weaken}
use Rattle.about_grammar.specs.Acting.{back, deeper}
use Rattle.about_grammar.specs.Courses.{Grown, Stack}
use Rattle.about_grammar.specs.Finding.{Found, found}
use Rattle.about_grammar.specs.FoundDimensions.{a-range, with-range}
use Rattle.about_grammar.specs.FoundExpressions.{inverts}
use Rattle.about_grammar.specs.Peeling.{again-word, early-or-later, with-constant, with-name, with-sign, worded}
use Rattle.about_grammar.specs.Stacks.{false-true, plain_ways}

pub data TerminalFound (J : Judge) (K : Stack) (n h : ℕ) (x : Name) (p : Position) (b : Built) (c : Counts) : List Word → Type 0 where
  terminal : (us vs : List Word) (t : Declaration) (d : Counts) → Is N.terminal_spec h (W.name x p ∷ us) (facility t) → Grown (counted_function t.function) c d → Accepts J K n h (with_text b (with_terminal b.text t)) d vs → TerminalFound J K n h x p b c (us ++ vs)

same-one : (a b : Name) → same a b ≡ true → a ≡ b
unfolding same
same-one [] [] e = refl
same-one [] (y ∷ b) e = false-true e
same-one (x ∷ a) [] e = false-true e
same-one (x ∷ a) (y ∷ b) e = go (eqb x y) refl e (same-one a b)
  where
    go : (z : Bool) → eqb x y ≡ z → (z && same a b) ≡ true → (same a b ≡ true → a ≡ b) → x ∷ a ≡ y ∷ b
    go true f g rec = ap (λ (v : ℕ). v ∷ a) (eqb-true x y f) ∙ ap (λ (v : List ℕ). y ∷ v) (rec g)
    go false f g rec = false-true g

raised : {J : Judge} {K : Stack} {n h g : ℕ} {x : Name} {p : Position} {b : Built} {c : Counts} {ws : List Word} → h ≡ suc g → TerminalFound J K n (suc g) x p b c ws → TerminalFound J K n h x p b c ws
raised {J} {K} {n} {x = x} {p} {b} {c} {ws} e y = subst (λ (h : ℕ). TerminalFound J K n h x p b c ws) (sym e) y

module _ (J : Judge) (K : Stack) (n h : ℕ) (x : Name) (p : Position) (b : Built) (c d : Counts) (us : List Word) (y : Extent) (one : AtMostOne y) (i : Is N.dimensions h us (extent y)) (g₀ : Grown 0 c d) (q : Position) where
  abbrev Behind : List Word → Type 0
  Behind ws = TerminalFound J K n h x p b c (us ++ sign equal_sign q ∷ ws)

  abbrev sofar : Built
  sofar = keep_word (sign equal_sign q) (with_extents (keep_word (W.name x p) b) (y ∷ b.extents))

  -- = INPUT ( c , T )
  from-input : (m : ℕ) → n ≡ suc m → (r : Position) (ws : List Word) → Accepts J (word open_paren opens ∷ plain_word a_constant ∷ plain_word comma ∷ again ∷ closing close_paren ∷ make make_input ∷ K) m h sofar d ws → Behind (sign input_word r ∷ ws)
  unfolding word_no
  from-input m e r ws a =
      with-sign (λ v. Behind (sign input_word r ∷ v)) (worded open_paren opens ws a) λ s vs z.
      with-constant (λ v. Behind (sign input_word r ∷ sign open_paren s ∷ v)) (worded a_constant level vs z.2.2) λ k t vs₁ z₁.
      with-sign (λ v. Behind (sign input_word r ∷ sign open_paren s ∷ W.constant k t ∷ v)) (worded comma level vs₁ z₁.2) λ u vs₂ z₂.
      with-name (λ v. Behind (sign input_word r ∷ sign open_paren s ∷ W.constant k t ∷ sign comma u ∷ v)) (again-word vs₂ z₂.2) λ x₁ o vs₃ z₃.
      with-sign (λ v. Behind (sign input_word r ∷ sign open_paren s ∷ W.constant k t ∷ sign comma u ∷ W.name x₁ o ∷ v)) (worded close_paren closes vs₃ z₃.3) λ w vs₄ z₄.
      let g : ℕ = z.2.0 in
      let f : h ≡ suc g = z.2.1 in
      let j : Is N.terminal_spec h (W.name x p ∷ (us ++ sign equal_sign q ∷ sign input_word r ∷ sign open_paren s ∷ W.constant k t ∷ sign comma u ∷ W.name x o ∷ sign close_paren w ∷ [])) (facility (as_declared input x p y from_input)) =
      subst (λ (h : ℕ). Is N.terminal_spec h (W.name x p ∷ (us ++ sign equal_sign q ∷ sign input_word r ∷ sign open_paren s ∷ W.constant k t ∷ sign comma u ∷ W.name x o ∷ sign close_paren w ∷ [])) (facility (as_declared input x p y from_input))) (sym f)
      (G.an-input q r s t u o w k one (subst (λ (h : ℕ). Is N.dimensions h us (extent y)) f i)) in
      subst (λ (v : Name). Behind (sign input_word r ∷ sign open_paren s ∷ W.constant k t ∷ sign comma u ∷ W.name v o ∷ sign close_paren w ∷ vs₄)) (sym (same-one x₁ x z₃.2))
      (subst (TerminalFound J K n h x p b c) (append_assoc us (sign equal_sign q ∷ sign input_word r ∷ sign open_paren s ∷ W.constant k t ∷ sign comma u ∷ W.name x o ∷ sign close_paren w ∷ []) vs₄)
      (terminal (us ++ sign equal_sign q ∷ sign input_word r ∷ sign open_paren s ∷ W.constant k t ∷ sign comma u ∷ W.name x o ∷ sign close_paren w ∷ []) vs₄ (as_declared input x p y from_input) (back (deeper d)) j (omega arith)
      (subst (λ (h : ℕ). Accepts J K n h (with_text b (with_terminal b.text (as_declared input x p y from_input))) (back (deeper d)) vs₄) (sym f)
      (made vs₄ (weaken e (weaken z.1 (weaken z₁.1 (weaken z₂.1 (weaken z₃.1 (weaken z₄.1 z₄.2))))))).1)))

  a-function : (ws : List Word) → Accepts J (ask function_of ∷ K) n h sofar d ws → Behind ws
  unfolding rule_of plain_ways tallied word_no expression_no
  a-function ws a = go (early-or-later function_of M.expression (make make_computed ∷ []) (lead input_word (word open_paren opens ∷ plain_word a_constant ∷ plain_word comma ∷ again ∷ closing close_paren ∷ make make_input ∷ []) ∷ []) (expression_ways tree_steps (term_ways tree_steps)) refl refl refl ws a)
    where
      computes : {ws : List Word} → Found J N.boolean_exp (make make_computed ∷ K) n h sofar d ws → Behind ws
      computes (found us₁ vs e d₁ j g a) =
          subst (TerminalFound J K n h x p b c) (append_assoc us (sign equal_sign q ∷ us₁) vs)
          (terminal (us ++ sign equal_sign q ∷ us₁) vs (as_declared computed x p y (given q e)) d₁ (G.a-computed one i j) (omega arith) (made vs a).1)

      go : {ws : List Word} → Picks J (lead input_word (word open_paren opens ∷ plain_word a_constant ∷ plain_word comma ∷ again ∷ closing close_paren ∷ make make_input ∷ []) ∷ []) K n h sofar d ws ⊎ Accepts J (ask M.expression ∷ make make_computed ∷ K) n h sofar d ws → Behind ws
      go (inl (inl (at_sign_lem r vs z))) = from-input z.0 z.1 r vs z.2
      go {ws} (inr z) = computes ((inverts J n).expression _ _ _ _ _ z)
      go (inl (inr x)) = elim x [ ]

-- Behind the bracket of a terminal's dimensions.
module _ (J : Judge) (K : Stack) (n m g : ℕ) (x : Name) (p : Position) (b : Built) (c : Counts) (e : n ≡ suc m) (o : Position) where
  abbrev Opened : List Word → Type 0
  Opened ws = TerminalFound J K n (suc g) x p b c (sign open_bracket o ∷ ws)

  one-row : (us : List Word) (y : Ends) (q : Position) → Is N.range g us (ends y) → {ws : List Word}
      → Picks J (kept equal_sign (ask function_of ∷ []) ∷ []) K n (suc g) (with_extents (keep_word (W.name x p) b) (row y ∷ b.extents)) (back (deeper c)) ws ⊎ Leaves J (M.may make_plain) K n (suc g) (with_extents (keep_word (W.name x p) b) (row y ∷ b.extents)) (back (deeper c)) ws
      → Opened (us ++ sign close_bracket q ∷ ws)
  unfolding tallied word_no
  one-row us y q i (inl (inl (at_sign_lem r vs z))) =
      subst (λ (v : List Word). Opened v) (append_assoc us (sign close_bracket q ∷ []) (sign equal_sign r ∷ vs))
      (a-function J K n (suc g) x p b c (back (deeper c)) (sign open_bracket o ∷ (us ++ sign close_bracket q ∷ [])) (row y) tt (G.one-dimension q i) (omega arith) r vs (weaken z.1 z.2))
  one-row us y q i {ws} (inr z) =
      subst (λ (v : List Word). Opened v) (append_assoc us (sign close_bracket q ∷ []) ws)
      (terminal (sign open_bracket o ∷ (us ++ sign close_bracket q ∷ [])) ws (as_declared plain x p (row y) unspecified) (back (deeper c)) (G.a-terminal (G.one-dimension q i)) (omega arith) z.1)
  one-row us y q i (inl (inr x)) = elim x [ ]

  sized : (us : List Word) (y : Ends) → Is N.range g us (ends y) → {ws : List Word}
      → Picks J (shut close_bracket (make make_row ∷ ask terminal_function ∷ []) ∷ lead comma (keep a_constant ∷ ask range_rest ∷ closing close_bracket ∷ make make_table ∷ make make_plain ∷ []) ∷ []) K m g (with_ends (keep_word (W.name x p) b) (y ∷ b.ends)) (deeper c) ws
      ⊎ Leaves J M.must K m g (with_ends (keep_word (W.name x p) b) (y ∷ b.ends)) (deeper c) ws → Opened (us ++ ws)
  unfolding rule_of tallied word_no
  sized us y i (inl (inl (at_sign_lem q vs z))) = one-row us y q i (chosen J terminal_function vs (made vs (weaken e (weaken z.1 z.2))).1)
  sized us y i (inl (inr (inl (at_sign_lem q vs z)))) =
      with-range (λ v. Opened (us ++ sign comma q ∷ v)) (a-range J (closing close_bracket ∷ make make_table ∷ make make_plain ∷ K) m g (with_ends (keep_word (W.name x p) b) (y ∷ b.ends)) (deeper c) vs (weaken z.1 z.2)) λ us₁ vs₁ y₁ j a.
      with-sign (λ v. Opened (us ++ sign comma q ∷ (us₁ ++ v))) (worded close_bracket closes vs₁ a) λ r vs₂ z₁.
      subst (λ (v : List Word). Opened v) (simp append_assoc)
      (terminal (sign open_bracket o ∷ (us ++ sign comma q ∷ (us₁ ++ sign close_bracket r ∷ []))) vs₂ (as_declared plain x p (table y y₁) unspecified) (back (deeper c)) (G.a-terminal (G.two-dimensions q r i j)) (omega arith)
      (made vs₂ (made vs₂ (weaken e (weaken z₁.1 z₁.2))).1).1)
  sized us y i (inl (inr (inr x))) = elim x [ ]
  sized us y i (inr x) = elim x [ ]

pub a-terminal : (J : Judge) (K : Stack) (n h : ℕ) (x : Name) (p : Position) (b : Built) (c : Counts) (ws : List Word) → Accepts J (ask terminal_dimensions ∷ K) n h (keep_word (W.name x p) b) c ws → TerminalFound J K n h x p b c ws
unfolding rule_of tallied word_no
a-terminal J K n h x p b c ws a = go (chosen J terminal_dimensions ws a)
  where
    go : {ws : List Word} → Picks J (enter open_bracket (keep a_constant ∷ ask range_rest ∷ ask terminal_rest ∷ []) ∷ after_step make_no_dimension [] (kept equal_sign (ask function_of ∷ [])) ∷ []) K n h (keep_word (W.name x p) b) c ws
        ⊎ Leaves J (M.may (λ q d. make_plain q (make_no_dimension q d))) K n h (keep_word (W.name x p) b) c ws → TerminalFound J K n h x p b c ws
    go (inl (inl (at_sign_lem o vs z))) =
        raised z.2.1 (with-range (λ v. TerminalFound J K n (suc z.2.0) x p b c (sign open_bracket o ∷ v)) (a-range J (ask terminal_rest ∷ K) z.0 z.2.0 (keep_word (W.name x p) b) (deeper c) vs z.2.2) λ us vs₁ y i a₁.
        sized J K n z.0 z.2.0 x p b c z.1 o us y i (chosen J terminal_rest vs₁ a₁))
    go (inl (inr (inl (at_sign_lem q vs z)))) = a-function J K n h x p b c c [] T.single tt G.no-dimension (omega arith) q vs (weaken z.1 z.2)
    go {ws} (inr z) = terminal [] ws (as_declared plain x p T.single unspecified) c (G.a-terminal G.no-dimension) (omega arith) z.1
    go (inl (inr (inr x))) = elim x [ ]
