-- The machine's levels: what begins a level begins the tighter one with its tails, where no prefix operator stands there.
use mathlib.Core.Bool.{true, false, true≢false}
use mathlib.Core.List.{List, [], ◌∷◌, ◌++◌, map}
use mathlib.Core.Path.{◌≡◌, refl, sym, ◌∙◌}
use Prim.Native.Nat.{ℕ}
use lib.Dec.{eqb, leb}
use lib.ListN.{length}
use Rattle.about_grammar.specs.Following.{among}
use Rattle.about_grammar.specs.Levels.{minus_way, negating_way, reducing_ways}
use Rattle.about_grammar.specs.Stacks.{begins-later, kinds_of, plain_ways}
use Rattle.language.specs.Alternatives.{always, followed}
use Rattle.language.specs.Building.{Built}
use Rattle.language.specs.Declaring.{tree_steps}
use Rattle.language.specs.Kinds.{difference_sign, minus}
use Rattle.language.specs.Machine.{Alternative, Ask, Counts, Parsed, adjustment, and_tail, arithmetic, arithmetic_tail, ask, complement, con_tail, cut_tail, exclusive_tail, expression, finish, minterm, or_tail, product, reading, reduction, relation_tail, run, term, within_ceilings}
use Rattle.language.specs.Operators.{reductions}
use Rattle.language.specs.SectionWays.{rule_of}
use Rattle.language.specs.Ways.{arithmetic_ways, complement_ways, minterm_ways, product_ways, reduction_ways, term_ways}
use Rattle.text_words.specs.declared.Word.{Word}
use Rattle.parse_step.specs.Course.{Seen, Stack, ahead, behind, kind_no, runs_on}
use Rattle.parse_step.proofs.Looking.{View, begun, ended, view}
use Rattle.parse_levels.specs.declared.Level.{Level}
use Rattle.parse_levels.specs.declared.Level.TheVariants as E
use Rattle.parse_levels.specs.declared.Rank.TheVariants as R
use Rattle.parse_levels.specs.Orders.{level_no, stack_of, tails_from}
use Rattle.language.specs.Tests.{both}

module _ (text : List ℕ) (w : Word) (z : Seen text w) (b : Built) (c : Counts) where
  abbrev on : Stack → Parsed Built
  on K = runs_on text K (ahead text w) b c

  -- Where a notion must come, the end of the text is refused alike.
  later : (a d : Ask) (M : Stack) (early ways : List (Alternative Built)) → plain_ways ways ≡ true
      → rule_of tree_steps a ≡ always (early ++ map (followed M) ways) → rule_of tree_steps d ≡ always ways
      → among (kind_no w.kind) (kinds_of early) ≡ false → (K : Stack) → on (ask a ∷ K) ≡ on (ask d ∷ (M ++ K))
  unfolding runs_on run finish
  later a d M early ways p e g n K = go (view text w z)
    where
      go : View text w → on (ask a ∷ K) ≡ on (ask d ∷ (M ++ K))
      go (ended x y q) = rw (x, e, g)
      go (begun v x q y) =
          rw x (begins-later tree_steps within_ceilings (rule_of tree_steps) a d M early ways p e g K (reading b c) v (rw q n) (behind text w) (length text))

  -- Level by level.
  to-minterm : (K : Stack) → on (ask expression ∷ K) ≡ on (ask minterm ∷ ask or_tail ∷ K)
  unfolding rule_of plain_ways among
  to-minterm K = later expression minterm (ask or_tail ∷ []) [] (minterm_ways tree_steps (term_ways tree_steps)) refl refl refl refl K

  to-product : (K : Stack) → on (ask minterm ∷ K) ≡ on (ask product ∷ ask exclusive_tail ∷ K)
  unfolding rule_of plain_ways among
  to-product K = later minterm product (ask exclusive_tail ∷ []) [] (product_ways tree_steps (term_ways tree_steps)) refl refl refl refl K

  to-complement : (K : Stack) → on (ask product ∷ K) ≡ on (ask complement ∷ ask and_tail ∷ K)
  unfolding rule_of plain_ways among
  to-complement K = later product complement (ask and_tail ∷ []) [] (complement_ways tree_steps (term_ways tree_steps)) refl refl refl refl K

  to-reduction : eqb (kind_no w.kind) minus ≡ false → (K : Stack) → on (ask complement ∷ K) ≡ on (ask reduction ∷ ask con_tail ∷ K)
  unfolding rule_of plain_ways among
  to-reduction e K = later complement reduction (ask con_tail ∷ []) (minus_way ∷ []) (reduction_ways tree_steps (term_ways tree_steps)) refl refl refl (rw e) K

  to-arithmetic : among (kind_no w.kind) reductions ≡ false → (K : Stack) → on (ask reduction ∷ K) ≡ on (ask arithmetic ∷ ask relation_tail ∷ ask cut_tail ∷ K)
  unfolding rule_of plain_ways
  to-arithmetic e K = later reduction arithmetic (ask relation_tail ∷ ask cut_tail ∷ []) reducing_ways (arithmetic_ways tree_steps (term_ways tree_steps)) refl refl refl e K

  adjusted : (K : Stack) → on (ask adjustment ∷ K) ≡ on (ask arithmetic ∷ ask relation_tail ∷ ask cut_tail ∷ K)
  unfolding rule_of plain_ways among
  adjusted K = later adjustment arithmetic (ask relation_tail ∷ ask cut_tail ∷ []) [] (arithmetic_ways tree_steps (term_ways tree_steps)) refl refl refl refl K

  to-term : eqb (kind_no w.kind) difference_sign ≡ false → (K : Stack) → on (ask arithmetic ∷ K) ≡ on (ask term ∷ ask arithmetic_tail ∷ K)
  unfolding rule_of plain_ways among
  to-term e K = later arithmetic term (ask arithmetic_tail ∷ []) (negating_way ∷ []) (term_ways tree_steps) refl refl refl (rw e) K

  -- ---- From a level to a tighter one.

  abbrev k : ℕ
  k = kind_no w.kind

  pub down-complement : (l : Level) → leb 5 (level_no l) ≡ true → (K : Stack) → on (stack_of l ++ K) ≡ on (ask complement ∷ (tails_from R.And l ++ K))
  unfolding tails_from
  down-complement E.Term e K = absurd (true≢false (sym e))
  down-complement E.Arithmetic e K = absurd (true≢false (sym e))
  down-complement E.Adjustment e K = absurd (true≢false (sym e))
  down-complement E.Reduction e K = absurd (true≢false (sym e))
  down-complement E.Chain e K = absurd (true≢false (sym e))
  down-complement E.Complement e K = refl
  down-complement E.Product e K = to-complement K
  down-complement E.Minterm e K = to-product K ∙ to-complement (ask exclusive_tail ∷ K)
  down-complement E.Expression e K = to-minterm K ∙ to-product (ask or_tail ∷ K) ∙ to-complement (ask exclusive_tail ∷ ask or_tail ∷ K)

  pub down-reduction : (l : Level) → leb 3 (level_no l) ≡ true → both (leb 5 (level_no l)) (eqb k minus) ≡ false → (K : Stack) → on (stack_of l ++ K) ≡ on (ask reduction ∷ (tails_from R.Con l ++ K))
  unfolding tails_from
  down-reduction E.Term e f K = absurd (true≢false (sym e))
  down-reduction E.Arithmetic e f K = absurd (true≢false (sym e))
  down-reduction E.Adjustment e f K = absurd (true≢false (sym e))
  down-reduction E.Reduction e f K = refl
  down-reduction E.Chain e f K = refl
  down-reduction E.Complement e f K = to-reduction f K
  down-reduction E.Product e f K = to-complement K ∙ to-reduction f (ask and_tail ∷ K)
  down-reduction E.Minterm e f K = to-product K ∙ to-complement (ask exclusive_tail ∷ K) ∙ to-reduction f (ask and_tail ∷ ask exclusive_tail ∷ K)
  down-reduction E.Expression e f K =
      to-minterm K ∙ to-product (ask or_tail ∷ K) ∙ to-complement (ask exclusive_tail ∷ ask or_tail ∷ K) ∙ to-reduction f (ask and_tail ∷ ask exclusive_tail ∷ ask or_tail ∷ K)

  pub down-arithmetic : (l : Level) → leb 1 (level_no l) ≡ true → both (leb 5 (level_no l)) (eqb k minus) ≡ false → both (leb 3 (level_no l)) (among k reductions) ≡ false
      → (K : Stack) → on (stack_of l ++ K) ≡ on (ask arithmetic ∷ (tails_from R.Relation l ++ K))
  unfolding tails_from
  down-arithmetic E.Term e f g K = absurd (true≢false (sym e))
  down-arithmetic E.Arithmetic e f g K = refl
  down-arithmetic E.Adjustment e f g K = adjusted K
  down-arithmetic E.Reduction e f g K = to-arithmetic g K
  down-arithmetic E.Chain e f g K = to-arithmetic g (ask con_tail ∷ K)
  down-arithmetic E.Complement e f g K = to-reduction f K ∙ to-arithmetic g (ask con_tail ∷ K)
  down-arithmetic E.Product e f g K = to-complement K ∙ to-reduction f (ask and_tail ∷ K) ∙ to-arithmetic g (ask con_tail ∷ ask and_tail ∷ K)
  down-arithmetic E.Minterm e f g K =
      to-product K ∙ to-complement (ask exclusive_tail ∷ K) ∙ to-reduction f (ask and_tail ∷ ask exclusive_tail ∷ K) ∙ to-arithmetic g (ask con_tail ∷ ask and_tail ∷ ask exclusive_tail ∷ K)
  down-arithmetic E.Expression e f g K =
      to-minterm K ∙ to-product (ask or_tail ∷ K) ∙ to-complement (ask exclusive_tail ∷ ask or_tail ∷ K) ∙ to-reduction f (ask and_tail ∷ ask exclusive_tail ∷ ask or_tail ∷ K)
      ∙ to-arithmetic g (ask con_tail ∷ ask and_tail ∷ ask exclusive_tail ∷ ask or_tail ∷ K)

  pub down-term : (l : Level) → both (leb 5 (level_no l)) (eqb k minus) ≡ false → both (leb 3 (level_no l)) (among k reductions) ≡ false
      → both (leb 1 (level_no l)) (eqb k difference_sign) ≡ false → (K : Stack) → on (stack_of l ++ K) ≡ on (ask term ∷ (tails_from R.Sum l ++ K))
  unfolding tails_from
  down-term E.Term f g h K = refl
  down-term E.Arithmetic f g h K = to-term h K
  down-term E.Adjustment f g h K = adjusted K ∙ to-term h (ask relation_tail ∷ ask cut_tail ∷ K)
  down-term E.Reduction f g h K = down-arithmetic E.Reduction refl f g K ∙ to-term h (tails_from R.Relation E.Reduction ++ K)
  down-term E.Chain f g h K = down-arithmetic E.Chain refl f g K ∙ to-term h (tails_from R.Relation E.Chain ++ K)
  down-term E.Complement f g h K = down-arithmetic E.Complement refl f g K ∙ to-term h (tails_from R.Relation E.Complement ++ K)
  down-term E.Product f g h K = down-arithmetic E.Product refl f g K ∙ to-term h (tails_from R.Relation E.Product ++ K)
  down-term E.Minterm f g h K = down-arithmetic E.Minterm refl f g K ∙ to-term h (tails_from R.Relation E.Minterm ++ K)
  down-term E.Expression f g h K = down-arithmetic E.Expression refl f g K ∙ to-term h (tails_from R.Relation E.Expression ++ K)
