-- Bounds and dimensions in accepted words.
use mathlib.Core.List.{List, [], ◌∷◌, ◌++◌, append_assoc}
use Rattle.std.specs.Prelude.{◌⊎◌, ◌≡◌, ℕ, suc}
use Rattle.std.proofs.Common.{inl, inr, sym, arith}
use Rattle.std.proofs.Math.Path.{subst}
use Rattle.language.specs.Alternatives.{closing, enter, lead, shut}
use Rattle.language.specs.Building.{Built, keep_word, with_ends, with_extents, word_no}
use Rattle.language.specs.Declaring.{make_both, make_last, make_no_dimension, make_row, make_table}
use Rattle.language.specs.Grammar as G
use Rattle.language.specs.Grammar.{Is}
use Rattle.language.specs.Kinds.{a_constant, close_bracket, colon, comma, open_bracket}
use Rattle.language.specs.Machine as M
use Rattle.language.specs.Machine.{Counts, ask, closes, dimension_rest, dimensions, keep, make, range_rest, tallied}
use Rattle.language.specs.Notions as N
use Rattle.language.specs.Notions.{ends, extent, one_bound, pair_of}
use Rattle.language.specs.SectionWays.{rule_of}
use Rattle.language.specs.Tree as T
use Rattle.language.specs.Tree.{Ends, Extent, row, table}
use Rattle.language.specs.Words as W
use Rattle.language.specs.Words.{Constant, Position, Word, sign}
use Rattle.about_grammar.specs.Accepting.{Accepts, Judge, Leaves, Picks, at_sign_lem, chosen, made, weaken}
use Rattle.about_grammar.specs.Acting.{back, deeper}
use Rattle.about_grammar.specs.Courses.{Grown, Stack}
use Rattle.about_grammar.specs.Peeling.{kept_word, with-constant, with-sign, worded}

pub data RangeFound (J : Judge) (K : Stack) (n h : ℕ) (b : Built) (c : Counts) : List Word → Type 0 where
  ranged : (us vs : List Word) (x : Ends) → Is N.range h us (ends x) → Accepts J K n h (with_ends b (x ∷ b.ends)) c vs → RangeFound J K n h b c (us ++ vs)

pub with-range : {J : Judge} {K : Stack} {n h : ℕ} {b : Built} {c : Counts} {ws : List Word} (R : List Word → Type 0) → RangeFound J K n h b c ws
    → ((us vs : List Word) (x : Ends) → Is N.range h us (ends x) → Accepts J K n h (with_ends b (x ∷ b.ends)) c vs → R (us ++ vs)) → R ws
with-range R (ranged us vs x i a) f = f us vs x i a

pub a-range : (J : Judge) (K : Stack) (n h : ℕ) (b : Built) (c : Counts) (ws : List Word) → Accepts J (keep a_constant ∷ ask range_rest ∷ K) n h b c ws → RangeFound J K n h b c ws
unfolding rule_of tallied word_no
a-range J K n h b c ws x = with-constant (RangeFound J K n h b c) (kept_word a_constant ws x) (λ y p vs z. go y p (chosen J range_rest vs (weaken z.1 z.2)))
  where
    go : (y : Constant) (p : Position) {vs : List Word} → Picks J (lead colon (keep a_constant ∷ make make_both ∷ []) ∷ []) K n h (keep_word (W.constant y p) b) c vs ⊎ Leaves J (M.may make_last) K n h (keep_word (W.constant y p) b) c vs → RangeFound J K n h b c (W.constant y p ∷ vs)
    go y p (inl (inl (at_sign_lem q vs z))) =
        with-constant (λ v. RangeFound J K n h b c (W.constant y p ∷ sign colon q ∷ v)) (kept_word a_constant vs (weaken z.1 z.2)) λ y₁ p₁ vs₁ z₁.
        ranged (W.constant y p ∷ sign colon q ∷ W.constant y₁ p₁ ∷ []) vs₁ (pair_of y p y₁ p₁) G.range-both (made vs₁ (weaken z₁.1 z₁.2)).1
    go y p {vs} (inr z) = ranged (W.constant y p ∷ []) vs (pair_of one_bound p y p) G.range_last z.1
    go y p (inl (inr x)) = elim x [ ]

pub data DimensionsFound (J : Judge) (K : Stack) (n h : ℕ) (b : Built) (c : Counts) : List Word → Type 0 where
  sized : (us vs : List Word) (x : Extent) (d : Counts) → Is N.dimensions h us (extent x) → Grown 0 c d → Accepts J K n h (with_extents b (x ∷ b.extents)) d vs → DimensionsFound J K n h b c (us ++ vs)

-- The nesting that is left, known by an equation.
raised : {J : Judge} {K : Stack} {n h g : ℕ} {b : Built} {c : Counts} {ws : List Word} → h ≡ suc g → DimensionsFound J K n (suc g) b c ws → DimensionsFound J K n h b c ws
raised {J} {K} {n} {b = b} {c} {ws} e x = subst (λ (h : ℕ). DimensionsFound J K n h b c ws) (sym e) x

module _ (J : Judge) (K : Stack) (n m g : ℕ) (b : Built) (c : Counts) (e : n ≡ suc m) (p : Position) where
  bracketed : (us : List Word) (x : Ends) → Is N.range g us (ends x) → {ws : List Word}
      → Picks J (shut close_bracket (make make_row ∷ []) ∷ lead comma (keep a_constant ∷ ask range_rest ∷ closing close_bracket ∷ make make_table ∷ []) ∷ []) K m g (with_ends b (x ∷ b.ends)) (deeper c) ws ⊎ Leaves J M.must K m g (with_ends b (x ∷ b.ends)) (deeper c) ws
      → DimensionsFound J K n (suc g) b c (sign open_bracket p ∷ (us ++ ws))
  unfolding tallied
  bracketed us x i (inl (inl (at_sign_lem q vs z))) =
      subst (λ (v : List Word). DimensionsFound J K n (suc g) b c (sign open_bracket p ∷ v)) (append_assoc us (sign close_bracket q ∷ []) vs)
      (sized (sign open_bracket p ∷ (us ++ sign close_bracket q ∷ [])) vs (row x) (back (deeper c)) (G.one-dimension q i) (omega arith) (made vs (weaken e (weaken z.1 z.2))).1)
  bracketed us x i (inl (inr (inl (at_sign_lem q vs z)))) =
      with-range (λ v. DimensionsFound J K n (suc g) b c (sign open_bracket p ∷ (us ++ sign comma q ∷ v))) (a-range J (closing close_bracket ∷ make make_table ∷ K) m g (with_ends b (x ∷ b.ends)) (deeper c) vs (weaken z.1 z.2)) λ us₁ vs₁ y j a.
      with-sign (λ v. DimensionsFound J K n (suc g) b c (sign open_bracket p ∷ (us ++ sign comma q ∷ (us₁ ++ v)))) (worded close_bracket closes vs₁ a) λ r vs₂ z₁.
      subst (λ (v : List Word). DimensionsFound J K n (suc g) b c (sign open_bracket p ∷ v)) (simp append_assoc)
      (sized (sign open_bracket p ∷ (us ++ sign comma q ∷ (us₁ ++ sign close_bracket r ∷ []))) vs₂ (table x y) (back (deeper c)) (G.two-dimensions q r i j) (omega arith) (made vs₂ (weaken e (weaken z₁.1 z₁.2))).1)
  bracketed us x i (inl (inr (inr y))) = elim y [ ]
  bracketed us x i (inr y) = elim y [ ]

pub a-dimension : (J : Judge) (K : Stack) (n h : ℕ) (b : Built) (c : Counts) (ws : List Word) → Accepts J (ask dimensions ∷ K) n h b c ws → DimensionsFound J K n h b c ws
unfolding rule_of tallied
a-dimension J K n h b c ws x = go (chosen J dimensions ws x)
  where
    go : {ws : List Word} → Picks J (enter open_bracket (keep a_constant ∷ ask range_rest ∷ ask dimension_rest ∷ []) ∷ []) K n h b c ws ⊎ Leaves J (M.may make_no_dimension) K n h b c ws → DimensionsFound J K n h b c ws
    go (inl (inl (at_sign_lem p vs z))) =
        raised z.2.1 (with-range (λ v. DimensionsFound J K n (suc z.2.0) b c (sign open_bracket p ∷ v)) (a-range J (ask dimension_rest ∷ K) z.0 z.2.0 b (deeper c) vs z.2.2) λ us vs₁ y i a.
        bracketed J K n z.0 z.2.0 b c z.1 p us y i (chosen J dimension_rest vs₁ a))
    go {ws} (inr z) = sized [] ws T.single c G.no-dimension (omega arith) z.1
    go (inl (inr x)) = elim x [ ]
