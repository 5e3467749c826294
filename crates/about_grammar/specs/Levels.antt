-- The levels of expressions, each from the level under it: the machine's start of a level is that of the next one with its tail.
use Rattle.std.specs.Prelude.{false, ◌≡◌, ℕ}
use mathlib.Core.List.{List, [], ◌∷◌, ◌++◌}
use Rattle.std.proofs.Common.{◌∙◌, ap}
use Rattle.std.proofs.Math.Path.{refl}
use Rattle.language.specs.Alternatives.{counts_opening, each, plain_word}
use Rattle.language.specs.Building.{Built}
use Rattle.language.specs.Declaring.{tree_steps}
use Rattle.language.specs.Kinds.{difference_sign, minus, red_word}
use Rattle.language.specs.Machine.{Alternative, Reading, adjustment, and_tail, arithmetic, arithmetic_tail, ask, complement, con_tail, cut_tail, ease, exclusive_tail, expression, make, minterm, or_tail, product, reading, reduction, relation_tail, term}
use Rattle.language.specs.Notions.{Tree}
use Rattle.language.specs.SectionWays.{rule_of}
use Rattle.language.specs.Ways.{adjustment_ways, and_ways, arithmetic_tail_ways, arithmetic_ways, complement_ways, con_ways, cut_ways, exclusive_ways, minterm_ways, or_ways, product_ways, reduction_ways, relation_ways, term_ways}
use Rattle.language.specs.Words.{Word, kind_of}
use Rattle.about_grammar.specs.Courses.{Ceiling, Comes, Stack, comes, runs}
use Rattle.about_grammar.specs.Following.{after_and, after_con, after_cut, after_exclusive, after_or, after_relation, after_sum, after_term, among, among-rest, among-right, among-left}
use Rattle.about_grammar.specs.Operators.{clean}
use Rattle.about_grammar.specs.Stacks.{begins, begins-later, kinds_of, plain_ways}
use Rattle.about_grammar.specs.Taking.{Heads, Phrase, Takes, arriving, not_adjustment, not_boolean, not_chain, not_term, put}
use Rattle.language.specs.Operators.{reductions}

-- The words of a phrase from another stack that begins alike; below the phrase's own stack stands M.
pub lift : {C : Ceiling} {hs js : List ℕ} {P Q : Stack} {ks : List ℕ} {h : ℕ} {us : List Word} {t : Tree} (P₁ Q₁ M : Stack)
    → ((K : Stack) (r : Reading Built) (w : Word) → among (kind_of w) hs ≡ false → (vs : List Word) (end : ℕ) → runs C (P₁ ++ K) (w ∷ vs) end r ≡ runs C (P ++ (M ++ K)) (w ∷ vs) end r)
    → ((K : Stack) → ◌≡◌ {A = Stack} (Q ++ (M ++ K)) (Q₁ ++ K)) → ((k : ℕ) → among k hs ≡ false → among k js ≡ false)
    → Phrase C hs P Q ks h us t → Phrase C js P₁ Q₁ ks h us t
lift {C} {hs} {js} {P} {Q} {ks} {h} {us} {t} P₁ Q₁ M same below sub x = record { heads = begun us x.heads; apart = x.apart; takes = go }
  where
    begun : (vs : List Word) → Heads hs vs → Heads js vs
    begun [] f = absurd f
    begun (w ∷ vs) f = sub (kind_of w) f

    course : (xs : List Word) → Heads hs xs → (K : Stack) (r q : Reading Built) → Comes C ks (P ++ (M ++ K)) r xs (Q ++ (M ++ K)) q → Comes C ks (P₁ ++ K) r xs (Q₁ ++ K) q
    course [] f K r q y = absurd f
    course (w ∷ xs) f K r q y =
        comes (λ vs end g. same K r w f (xs ++ vs) end ∙ y.course vs end g ∙ ap (λ (L : Stack). runs C L vs end q) (below K))

    go : Takes C P₁ Q₁ ks h us t
    go K b c room =
        arriving (x.takes (M ++ K) b c room) λ d g m.
        record { counts = d; grown = g; comes = course us x.heads K (reading b c) (reading (put t b) d) m }

module _ (C : Ceiling) where
  abbrev pub Term : ℕ → List Word → Tree → Type 0
  Term h us t = Phrase C not_term (ask term ∷ []) [] after_term h us t

  abbrev pub Arithmetic : ℕ → List Word → Tree → Type 0
  Arithmetic h us t = Phrase C not_adjustment (ask arithmetic ∷ []) (ask arithmetic_tail ∷ []) after_term h us t

  abbrev pub Relation : ℕ → List Word → Tree → Type 0
  Relation h us t = Phrase C not_adjustment (ask arithmetic ∷ ask relation_tail ∷ []) [] after_relation h us t

  abbrev pub Adjustment : ℕ → List Word → Tree → Type 0
  Adjustment h us t = Phrase C not_adjustment (ask adjustment ∷ []) (ask cut_tail ∷ []) after_relation h us t

  abbrev pub Reduction : ℕ → List Word → Tree → Type 0
  Reduction h us t = Phrase C not_chain (ask reduction ∷ []) [] after_cut h us t

  abbrev pub Chain : ℕ → List Word → Tree → Type 0
  Chain h us t = Phrase C not_chain (ask reduction ∷ ask con_tail ∷ []) (ask con_tail ∷ []) after_cut h us t

  abbrev pub Complement : ℕ → List Word → Tree → Type 0
  Complement h us t = Phrase C not_boolean (ask complement ∷ []) [] after_con h us t

  abbrev pub Product : ℕ → List Word → Tree → Type 0
  Product h us t = Phrase C not_boolean (ask product ∷ []) (ask and_tail ∷ []) after_con h us t

  abbrev pub Minterm : ℕ → List Word → Tree → Type 0
  Minterm h us t = Phrase C not_boolean (ask minterm ∷ []) (ask exclusive_tail ∷ []) after_and h us t

  abbrev pub Boolean : ℕ → List Word → Tree → Type 0
  Boolean h us t = Phrase C not_boolean (ask expression ∷ []) (ask or_tail ∷ []) after_exclusive h us t

  abbrev pub Expressed : ℕ → List Word → Tree → Type 0
  Expressed h us t = Phrase C not_boolean (ask expression ∷ []) [] after_or h us t

-- The first ways of a complement, a reduction and a sum: by a prefix operator.
abbrev pub minus_way : Alternative Built
minus_way = counts_opening minus (ask reduction ∷ ask con_tail ∷ make tree_steps.make_prefix ∷ ease ∷ [])

abbrev pub reducing_ways : List (Alternative Built)
reducing_ways =
    each reductions (λ k. counts_opening k (plain_word red_word ∷ ask adjustment ∷ make tree_steps.make_prefix ∷ ease ∷ []))

abbrev pub negating_way : Alternative Built
negating_way = counts_opening difference_sign (ask term ∷ make tree_steps.make_prefix ∷ ease ∷ ask arithmetic_tail ∷ [])

module _ {C : Ceiling} {h : ℕ} {us : List Word} {t : Tree} where
  -- Each level with its tail left out.
  pub whole-expression : Boolean C h us t → Expressed C h us t
  unfolding rule_of
  whole-expression x = clean (or_ways tree_steps) refl x

  pub whole-minterm : Minterm C h us t → Phrase C not_boolean (ask minterm ∷ []) [] after_exclusive h us t
  unfolding rule_of
  whole-minterm x = clean (exclusive_ways tree_steps) refl x

  pub whole-product : Product C h us t → Phrase C not_boolean (ask product ∷ []) [] after_and h us t
  unfolding rule_of
  whole-product x = clean (and_ways tree_steps) refl x

  pub whole-chain : Chain C h us t → Phrase C not_chain (ask reduction ∷ ask con_tail ∷ []) [] after_con h us t
  unfolding rule_of
  whole-chain x = clean (con_ways tree_steps) refl x

  pub whole-adjustment : Adjustment C h us t → Phrase C not_adjustment (ask adjustment ∷ []) [] after_cut h us t
  unfolding rule_of
  whole-adjustment x = clean (cut_ways tree_steps) refl x

  pub whole-arithmetic : Arithmetic C h us t → Phrase C not_adjustment (ask arithmetic ∷ []) [] after_sum h us t
  unfolding rule_of
  whole-arithmetic x = clean (arithmetic_tail_ways tree_steps) refl x

  -- Each level from the next.
  pub or-one : Minterm C h us t → Boolean C h us t
  unfolding rule_of plain_ways
  or-one x =
      lift (ask expression ∷ []) (ask or_tail ∷ []) (ask or_tail ∷ [])
      (λ K r w _ vs end. begins tree_steps C.fits (rule_of tree_steps) expression minterm (ask or_tail ∷ []) (minterm_ways tree_steps (term_ways tree_steps)) refl refl refl K r (w ∷ vs) end)
      (λ K. refl) (λ k e. e) (whole-minterm x)

  pub exclusive-one : Product C h us t → Minterm C h us t
  unfolding rule_of plain_ways
  exclusive-one x =
      lift (ask minterm ∷ []) (ask exclusive_tail ∷ []) (ask exclusive_tail ∷ [])
      (λ K r w _ vs end. begins tree_steps C.fits (rule_of tree_steps) minterm product (ask exclusive_tail ∷ []) (product_ways tree_steps (term_ways tree_steps)) refl refl refl K r (w ∷ vs) end)
      (λ K. refl) (λ k e. e) (whole-product x)

  pub and_one : Complement C h us t → Product C h us t
  unfolding rule_of plain_ways
  and_one x =
      lift (ask product ∷ []) (ask and_tail ∷ []) (ask and_tail ∷ [])
      (λ K r w _ vs end. begins tree_steps C.fits (rule_of tree_steps) product complement (ask and_tail ∷ []) (complement_ways tree_steps (term_ways tree_steps)) refl refl refl K r (w ∷ vs) end)
      (λ K. refl) (λ k e. e) x

  pub complement-none : Chain C h us t → Complement C h us t
  unfolding rule_of plain_ways
  complement-none x =
      lift (ask complement ∷ []) [] []
      (λ K r w e vs end. begins-later tree_steps C.fits (rule_of tree_steps) complement reduction (ask con_tail ∷ []) (minus_way ∷ []) (reduction_ways tree_steps (term_ways tree_steps)) refl refl refl K r w (among-left (kind_of w) (minus ∷ []) not_boolean e) vs end)
      (λ K. refl) (λ k e. among-rest k minus not_boolean e) (whole-chain x)

  pub con-one : Reduction C h us t → Chain C h us t
  con-one x = lift (ask reduction ∷ ask con_tail ∷ []) (ask con_tail ∷ []) (ask con_tail ∷ []) (λ K r w e vs end. refl) (λ K. refl) (λ k e. e) x

  pub reduction-none : Adjustment C h us t → Reduction C h us t
  unfolding rule_of plain_ways
  reduction-none x =
      lift (ask reduction ∷ []) [] []
      (λ K r w e vs end. begins-later tree_steps C.fits (rule_of tree_steps) reduction adjustment [] reducing_ways (adjustment_ways tree_steps (term_ways tree_steps)) refl refl refl K r w (among-left (kind_of w) (kinds_of reducing_ways) not_chain e) vs end)
      (λ K. refl) (λ k e. among-right k (kinds_of reducing_ways) not_chain e) (whole-adjustment x)

  pub cut-none : Relation C h us t → Adjustment C h us t
  unfolding rule_of plain_ways
  cut-none x =
      lift (ask adjustment ∷ []) (ask cut_tail ∷ []) (ask cut_tail ∷ [])
      (λ K r w _ vs end. begins tree_steps C.fits (rule_of tree_steps) adjustment arithmetic (ask relation_tail ∷ ask cut_tail ∷ []) (arithmetic_ways tree_steps (term_ways tree_steps)) refl refl refl K r (w ∷ vs) end)
      (λ K. refl) (λ k e. e) x

  pub relation-none : Arithmetic C h us t → Relation C h us t
  unfolding rule_of
  relation-none x =
      clean (relation_ways tree_steps) refl
      (lift (ask arithmetic ∷ ask relation_tail ∷ []) (ask relation_tail ∷ []) (ask relation_tail ∷ []) (λ K r w e vs end. refl) (λ K. refl) (λ k e. e) (whole-arithmetic x))

  pub arithmetic-one : Term C h us t → Arithmetic C h us t
  unfolding rule_of plain_ways
  arithmetic-one x =
      lift (ask arithmetic ∷ []) (ask arithmetic_tail ∷ []) (ask arithmetic_tail ∷ [])
      (λ K r w e vs end. begins-later tree_steps C.fits (rule_of tree_steps) arithmetic term (ask arithmetic_tail ∷ []) (negating_way ∷ []) (term_ways tree_steps) refl refl refl K r w (among-left (kind_of w) (difference_sign ∷ []) not_adjustment e) vs end)
      (λ K. refl) (λ k e. among-rest k difference_sign not_adjustment e) x
