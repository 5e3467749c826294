-- The machine's tale of terms, subscripts and references is what the grammar counts.
use Rattle.std.specs.Prelude.{false, ◌≡◌, ℕ, suc, eqb, drop, take}
use mathlib.Core.List.{List, [], ◌∷◌, ◌++◌, map, append_assoc}
use Rattle.std.proofs.Math.Option.{none}
use Rattle.std.proofs.Common.{◌∙◌, ap}
use Rattle.std.proofs.Math.Path.{sym, refl, subst}
use Rattle.language.specs.Alternatives.{always, closing, enter, followed, kept, lead, plain_word}
use Rattle.language.specs.Building.{Built, make_choice, make_constant, make_first_arm, make_next_arm, make_one, make_part, make_two, make_whole, make_word_part}
use Rattle.language.specs.Declaring.{tree_steps}
use Rattle.language.specs.Kinds.{a_constant, case_word, close_bracket, close_paren, colon, comma, do_word, else_word, end_case_word, end_if_word, if_word, open_bracket, open_paren, then_word}
use Rattle.language.specs.Machine as M
use Rattle.language.specs.Machine.{Ask, Sym, after_constant, after_second_constant, after_subscript, and_tail, arithmetic_tail, ask, con_tail, counted, cut_tail, exclusive_tail, keep, make, more_arms, operand_rest, or_tail, relation_tail, second, second_end, second_option, second_rest, subscript, subscripts, term}
use Rattle.language.specs.Notions.{between_subscripts}
use Rattle.language.specs.SectionWays.{rule_of}
use Rattle.language.specs.Ways.{colon_instead, expression_ways, other_term_ways, subscript_ways, term_ways}
use Rattle.language.specs.Words as W
use Rattle.language.specs.Words.{Constant, Position, Word, sign}
use Rattle.about_grammar.specs.Counting.{Mark, first_counts, one, plain}
use Rattle.about_grammar.specs.Courses.{Stack}
use Rattle.about_grammar.specs.Following.{Follows, after_or, after_term, among, follows-left, follows-right}
use Rattle.about_grammar.specs.Stacks.{plain_ways}
use Rattle.about_grammar.specs.Taking.{Apart, Heads, NoPart, not_boolean}
use Rattle.about_grammar.specs.Tale as T
use Rattle.about_grammar.specs.Tale.{Eaten, Goes, ◌⊳◌, after-counting, after-make, at_last, before, building, eat, ends-in, goes, leaving, next_among, pick, pick-append, pick-followed, pick-none, same-tale, same_word, stopped, tale, then-move, waits_for}
use Rattle.about_grammar.specs.Telling.{Boolean, Marks, Tells, Term, at, by, clean, closing-word, plain_word_lem, tells, whole-expression}
use Rattle.about_grammar.specs.Terms.{heads-follow}

pub term-constant : (c : Constant) (p : Position) → Term (W.constant c p ∷ []) (λ n ms. one counted n ∷ ms)
unfolding tale eat pick waits_for rule_of
term-constant c p = by (λ K n. then-move (eats K n) building)
  where
    eats : (K : Stack) (n : ℕ) → Goes after_term (ask term ∷ K) n (W.constant c p ∷ []) (λ ms. one counted n ∷ ms) (make make_constant ∷ K) n
    eats K n = goes (λ vs _. refl)

module _ {us : List Word} {f : Marks} where
  pub term-parens : (p q : Position) → Boolean us f → Term (sign open_paren p ∷ (us ++ sign close_paren q ∷ [])) (λ n ms. plain (suc n) ∷ f (suc n) (plain n ∷ ms))
  unfolding tale eat pick waits_for rule_of among
  term-parens p q x = by (λ K n. eats K n ⊳ before (at (whole-expression x) (closing close_paren ∷ K) (suc n)) (λ ws _. refl) (at_last closing-word))
    where
      eats : (K : Stack) (n : ℕ) → Goes [] (ask term ∷ K) n (sign open_paren p ∷ []) (λ ms. plain (suc n) ∷ ms) (ask M.expression ∷ closing close_paren ∷ K) (suc n)
      eats K n = goes (λ vs _. refl)

module _ {us vs ws : List Word} {f g h : Marks} where
  pub term-if : (p q r s : Position) → Boolean us f → Boolean vs g → Boolean ws h
      → Term (sign if_word p ∷ (us ++ sign then_word q ∷ (vs ++ sign else_word r ∷ (ws ++ sign end_if_word s ∷ [])))) (λ n ms. one counted (suc n) ∷ f (suc n) (plain (suc n) ∷ g (suc n) (plain (suc n) ∷ h (suc n) (plain n ∷ ms))))
  unfolding tale eat pick waits_for rule_of among
  term-if p q r s x y z =
      by (λ K n.
      let L₃ : Stack = make make_next_arm ∷ closing end_if_word ∷ make make_choice ∷ K in
      let L₂ : Stack = make make_first_arm ∷ plain_word else_word ∷ ask M.expression ∷ L₃ in
      eats K n ⊳ before (at (whole-expression x) (plain_word then_word ∷ ask M.expression ∷ L₂) (suc n)) (λ xs _. refl) (plain_word_lem
      ⊳ before (then-move (at (whole-expression y) L₂ (suc n)) building) (λ xs _. refl) (plain_word_lem
      ⊳ before (then-move (at (whole-expression z) L₃ (suc n)) building) (λ xs _. refl) (then-move (at_last closing-word) building))))
    where
      eats : (K : Stack) (n : ℕ)
          → Goes [] (ask term ∷ K) n (sign if_word p ∷ []) (λ ms. one counted (suc n) ∷ ms) (ask M.expression ∷ plain_word then_word ∷ ask M.expression ∷ make make_first_arm ∷ plain_word else_word ∷ ask M.expression ∷ make make_next_arm ∷ closing end_if_word ∷ make make_choice ∷ K) (suc n)
      eats K n = goes (λ vs _. refl)

-- ---- Arms.

abbrev pub Arms : List Word → Marks → Type 0
Arms us f = Tells (plain_word do_word ∷ ask M.expression ∷ make make_first_arm ∷ plain_word do_word ∷ ask M.expression ∷ make make_next_arm ∷ ask more_arms ∷ []) (ask more_arms ∷ []) after_or us f

module _ {us vs : List Word} {f g : Marks} where
  pub arms-two : (p q : Position) → Boolean us f → Boolean vs g → Arms (sign do_word p ∷ (us ++ sign do_word q ∷ vs)) (λ n ms. plain n ∷ f n (plain n ∷ g n ms))
  unfolding among
  arms-two p q x y =
      by (λ K n.
      let L : Stack = make make_next_arm ∷ ask more_arms ∷ K in
      plain_word_lem ⊳ before (then-move (at (whole-expression x) (make make_first_arm ∷ plain_word do_word ∷ ask M.expression ∷ L) n) building) (λ xs _. refl) (plain_word_lem ⊳ then-move (at (whole-expression y) L n) building))

  pub arms_next : (p : Position) → Arms us f → Boolean vs g → Arms (us ++ sign do_word p ∷ vs) (λ n ms. f n (plain n ∷ g n ms))
  unfolding tale eat pick waits_for rule_of among
  arms_next p x y = by (λ K n. before (at x K n) (λ xs _. refl) (eats K n ⊳ then-move (at (whole-expression y) (make make_next_arm ∷ ask more_arms ∷ K) n) building))
    where
      eats : (K : Stack) (n : ℕ) → Goes [] (ask more_arms ∷ K) n (sign do_word p ∷ []) (λ ms. plain n ∷ ms) (ask M.expression ∷ make make_next_arm ∷ ask more_arms ∷ K) n
      eats K n = goes (λ ws _. refl)

  pub term-case : (p q : Position) → Heads after_or vs → Boolean us f → Arms vs g → Term (sign case_word p ∷ (us ++ (vs ++ sign end_case_word q ∷ []))) (λ n ms. one counted (suc n) ∷ f (suc n) (g (suc n) (plain n ∷ ms)))
  unfolding tale eat pick waits_for rule_of among
  term-case p q hs x y =
      by (λ K n.
      let L : Stack = closing end_case_word ∷ make make_choice ∷ K in
      eats K n ⊳ before (at (whole-expression x) (plain_word do_word ∷ ask M.expression ∷ make make_first_arm ∷ plain_word do_word ∷ ask M.expression ∷ make make_next_arm ∷ ask more_arms ∷ L) (suc n))
      (λ xs _. subst (Follows after_or) (sym (append_assoc vs (sign end_case_word q ∷ []) xs)) (heads-follow after_or vs (sign end_case_word q ∷ xs) hs))
      (before (at (clean (lead do_word (ask M.expression ∷ make make_next_arm ∷ ask more_arms ∷ []) ∷ []) (λ p b. b) refl y) L (suc n)) (λ xs _. refl) (then-move (at_last closing-word) building)))
    where
      eats : (K : Stack) (n : ℕ)
          → Goes [] (ask term ∷ K) n (sign case_word p ∷ []) (λ ms. one counted (suc n) ∷ ms) (ask M.expression ∷ plain_word do_word ∷ ask M.expression ∷ make make_first_arm ∷ plain_word do_word ∷ ask M.expression ∷ make make_next_arm ∷ ask more_arms ∷ closing end_case_word ∷ make make_choice ∷ K) (suc n)
      eats K n = goes (λ vs _. refl)

-- ---- Subscripts.

abbrev tails : Stack
tails = ask arithmetic_tail ∷ ask relation_tail ∷ ask cut_tail ∷ ask con_tail ∷ ask and_tail ∷ ask exclusive_tail ∷ ask or_tail ∷ []

sign-alike : (k : ℕ) (p : Position) → eqb k a_constant ≡ false → (K : Stack) (n : ℕ) (o : Eaten)
    → pick (expression_ways tree_steps (other_term_ways tree_steps)) (sign k p) K n o ≡ pick (expression_ways tree_steps (term_ways tree_steps)) (sign k p) K n o
unfolding among
sign-alike k p e K n o =
    let ways = expression_ways tree_steps (term_ways tree_steps) in
    pick-append (take 6 ways) (drop 7 ways) (sign k p) K n o
    ∙ ap (pick (take 6 ways) (sign k p) K n) (sym (pick-none (take 1 (drop 6 ways)) (sign k p) (rw e refl) K n (pick (drop 7 ways) (sign k p) K n o)))
    ∙ ap (pick (take 6 ways) (sign k p) K n) (sym (pick-append (take 1 (drop 6 ways)) (drop 7 ways) (sign k p) K n o))
    ∙ sym (pick-append (take 6 ways) (drop 6 ways) (sign k p) K n o)

pub none-next : (ks : List ℕ) (vs : List Word) → Follows ks vs → next_among vs ks ≡ false
none-next ks [] h = refl
none-next ks (w ∷ vs) h = h

module _ (start waits rest ending : Ask) (part : List (Sym Built)) (quiet : waits_for (ask ending ∷ []) ≡ none) (starts : rule_of tree_steps start ≡ always (subscript_ways tree_steps waits rest (ask ending ∷ [])))
    (waiting : rule_of tree_steps waits ≡ record { ways = colon_instead tree_steps part ∷ []; without = M.operand make_constant })
    (goes_on : (K : Stack) (n : ℕ) (vs : List Word) → tale (ask rest ∷ K) n vs ≡ tale (tails ++ ask ending ∷ K) n vs) where
  started : (K : Stack) (n : ℕ) (w : Word) (vs : List Word) → Apart (w ∷ vs) → tale (ask start ∷ K) n (w ∷ vs) ≡ tale (ask M.expression ∷ ask ending ∷ K) n (w ∷ vs)
  unfolding tale eat pick waits_for rule_of plain_ways among
  started K n (W.name x p) vs a = rw starts refl
  started K n (W.constant c p) vs a =
      rw (starts, waiting, none-next (colon ∷ []) vs a) (ap (λ (l : List Mark). one counted n ∷ l) (after-counting waits (colon_instead tree_steps part ∷ []) make_constant waiting (ask rest ∷ K) n vs a ∙ goes_on K n vs ∙ sym (after-make make_constant (tails ++ ask ending ∷ K) n vs)))
  started K n (W.sign k p) vs a =
      same_word (ask start ∷ K) (ask M.expression ∷ ask ending ∷ K) n (sign k p)
      (rw starts
      (pick-none (kept a_constant (ask waits ∷ ask rest ∷ []) ∷ []) (sign k p) (rw a refl) K n (pick (map (followed (ask ending ∷ [])) (expression_ways tree_steps (other_term_ways tree_steps))) (sign k p) K n stopped)
      ∙ pick-followed (ask ending ∷ []) quiet (expression_ways tree_steps (other_term_ways tree_steps)) refl (sign k p) K n stopped ∙ sign-alike k p a (ask ending ∷ K) n stopped)) vs

  started-by : {us : List Word} {f : Marks} → Heads not_boolean us → NoPart us → Boolean us f → Tells (ask start ∷ []) (ask ending ∷ []) (colon ∷ after_or) us f
  started-by {us = []} h a x = absurd h
  started-by {us = w ∷ us} h a x = tells (λ K n vs g. started K n w (us ++ vs) (a vs (follows-left (colon ∷ []) after_or vs g)) ∙ (whole-expression x).says (ask ending ∷ K) n vs (follows-right (colon ∷ []) after_or vs g))

first-goes-on : (K : Stack) (n : ℕ) (vs : List Word) → tale (ask operand_rest ∷ K) n vs ≡ tale (tails ++ ask after_subscript ∷ K) n vs
unfolding eat pick waits_for rule_of
first-goes-on K n vs = same-tale (ask operand_rest ∷ K) (tails ++ ask after_subscript ∷ K) n (λ w. refl) vs

second-goes-on : (K : Stack) (n : ℕ) (vs : List Word) → tale (ask second_rest ∷ K) n vs ≡ tale (tails ++ ask second_end ∷ K) n vs
unfolding eat pick waits_for rule_of
second-goes-on K n vs = same-tale (ask second_rest ∷ K) (tails ++ ask second_end ∷ K) n (λ w. refl) vs

-- An expression in brackets, with how its words begin.
pub record Inside (us : List Word) (f : Marks) : Type 0 where
  pub heads : Heads not_boolean us
  pub apart : NoPart us
  pub boolean : Boolean us f

first : {us : List Word} {f : Marks} → Inside us f → Tells (ask subscript ∷ []) (ask after_subscript ∷ []) (colon ∷ after_or) us f
unfolding rule_of waits_for
first x = started-by subscript after_constant operand_rest after_subscript (keep a_constant ∷ closing close_bracket ∷ make make_part ∷ []) refl refl refl first-goes-on x.heads x.apart x.boolean

later : {us : List Word} {f : Marks} → Inside us f → Tells (ask second ∷ []) (ask second_end ∷ []) (colon ∷ after_or) us f
unfolding rule_of waits_for
later x = started-by second after_second_constant second_rest second_end (keep a_constant ∷ closing close_bracket ∷ make make_word_part ∷ []) refl refl refl second-goes-on x.heads x.apart x.boolean

-- ---- References: what stands behind the name, which does not count here.

pub record Behind (us : List Word) (f : Marks) : Type 0 where
  pub rest : Marks
  pub first_plain : (n : ℕ) (ms : List Mark) → ◌≡◌ {A = List Mark} (f n ms) (plain n ∷ rest n ms)
  pub goes : Tells (ask subscripts ∷ []) [] after_term us rest

abbrev pub Refers : List Word → Marks → Type 0
Refers [] f = ⊥
Refers (W.name x p ∷ us) f = Behind us f
Refers (W.constant c p ∷ us) f = ⊥
Refers (W.sign k p ∷ us) f = ⊥

behind : {us : List Word} {f : Marks} → Tells (ask subscripts ∷ []) [] after_term us f → Behind us (λ n ms. plain n ∷ f n ms)
behind {f = f} x = record { rest = f; first_plain = λ n ms. refl; goes = x }

module _ {K : Stack} {n : ℕ} {p : Position} where
  opened : Goes [] (ask subscripts ∷ K) n (sign open_bracket p ∷ []) (λ ms. plain (suc n) ∷ ms) (ask subscript ∷ K) (suc n)
  unfolding tale eat pick waits_for rule_of
  opened = T.goes (λ ws _. refl)

  shut-first : Goes [] (ask after_subscript ∷ K) (suc n) (sign close_bracket p ∷ []) (λ ms. plain n ∷ ms) (ask second_option ∷ K) n
  unfolding tale eat pick waits_for rule_of
  shut-first = T.goes (λ ws _. refl)

  opened-again : Goes [] (ask second_option ∷ K) n (sign open_bracket p ∷ []) (λ ms. plain (suc n) ∷ ms) (ask second ∷ K) (suc n)
  unfolding tale eat pick waits_for rule_of
  opened-again = T.goes (λ ws _. refl)

  at-comma : Goes [] (ask after_subscript ∷ K) n (sign comma p ∷ []) (λ ms. plain n ∷ ms) (ask second ∷ K) n
  unfolding tale eat pick waits_for rule_of
  at-comma = T.goes (λ ws _. refl)

  shut-second : Goes [] (ask second_end ∷ K) (suc n) (sign close_bracket p ∷ []) (λ ms. plain n ∷ ms) (make make_two ∷ K) n
  unfolding tale eat pick waits_for rule_of
  shut-second = T.goes (λ ws _. refl)

module _ {K : Stack} {n : ℕ} {k q r s : Position} {x y : Constant} where
  part-ends : Goes after_term (ask subscript ∷ K) (suc n) (W.constant x q ∷ sign colon k ∷ W.constant y r ∷ sign close_bracket s ∷ []) (λ ms. plain (suc n) ∷ plain (suc n) ∷ plain (suc n) ∷ plain n ∷ ms) (make make_part ∷ K) n
  unfolding tale eat pick waits_for rule_of among
  part-ends = T.goes (λ ws _. refl)

  word-part-ends : Goes after_term (ask second ∷ K) (suc n) (W.constant x q ∷ sign colon k ∷ W.constant y r ∷ sign close_bracket s ∷ []) (λ ms. plain (suc n) ∷ plain (suc n) ∷ plain (suc n) ∷ plain n ∷ ms) (make make_word_part ∷ K) n
  unfolding tale eat pick waits_for rule_of among
  word-part-ends = T.goes (λ ws _. refl)

pub ref-whole : Behind [] (λ n ms. plain n ∷ ms)
unfolding rule_of
ref-whole = behind (by (λ K n. leaving (enter open_bracket (ask subscript ∷ []) ∷ []) make_whole refl))

pub ref-part : (o s k q r : Position) (x y : Constant) → Behind (sign open_bracket o ∷ W.constant x q ∷ sign colon k ∷ W.constant y r ∷ sign close_bracket s ∷ []) (λ n ms. plain n ∷ plain (suc n) ∷ plain (suc n) ∷ plain (suc n) ∷ plain (suc n) ∷ plain n ∷ ms)
ref-part o s k q r x y = behind (by (λ K n. opened ⊳ then-move part-ends building))

module _ {us : List Word} {f : Marks} where
  pub ref-one : (o s : Position) → Inside us f → Behind (sign open_bracket o ∷ (us ++ sign close_bracket s ∷ [])) (λ n ms. plain n ∷ plain (suc n) ∷ f (suc n) (plain n ∷ ms))
  unfolding rule_of among
  ref-one o s x = behind (by (λ K n. opened ⊳ before (at (first x) K (suc n)) (λ ws _. refl) (ends-in {ks = open_bracket ∷ []} (at_last shut-first) (λ ws h. h) (leaving (enter open_bracket (ask second ∷ []) ∷ []) make_one refl))))

  pub ref-word-part : (o q r s k l : Position) (a b : Constant) → Inside us f
      → Behind (sign open_bracket o ∷ (us ++ sign comma k ∷ W.constant a q ∷ sign colon l ∷ W.constant b r ∷ sign close_bracket s ∷ [])) (λ n ms. plain n ∷ plain (suc n) ∷ f (suc n) (plain (suc n) ∷ plain (suc n) ∷ plain (suc n) ∷ plain (suc n) ∷ plain n ∷ ms))
  unfolding among
  ref-word-part o q r s k l a b x = behind (by (λ K n. opened ⊳ before (at (first x) K (suc n)) (λ ws _. refl) (at-comma ⊳ then-move word-part-ends building)))

  pub ref-word-part-apart : (o q r s k l m : Position) (a b : Constant) → Inside us f
      → Behind (sign open_bracket o ∷ (us ++ (between_subscripts k m ++ (W.constant a q ∷ sign colon l ∷ W.constant b r ∷ sign close_bracket s ∷ [])))) (λ n ms. plain n ∷ plain (suc n) ∷ f (suc n) (plain n ∷ plain (suc n) ∷ plain (suc n) ∷ plain (suc n) ∷ plain (suc n) ∷ plain n ∷ ms))
  unfolding among
  ref-word-part-apart o q r s k l m a b x = behind (by (λ K n. opened ⊳ before (at (first x) K (suc n)) (λ ws _. refl) (shut-first ⊳ opened-again ⊳ then-move word-part-ends building)))

module _ {us vs : List Word} {f g : Marks} where
  pub ref-two : (o s k : Position) → Inside us f → Inside vs g → Behind (sign open_bracket o ∷ (us ++ sign comma k ∷ (vs ++ sign close_bracket s ∷ []))) (λ n ms. plain n ∷ plain (suc n) ∷ f (suc n) (plain (suc n) ∷ g (suc n) (plain n ∷ ms)))
  unfolding among
  ref-two o s k x y = behind (by (λ K n. opened ⊳ before (at (first x) K (suc n)) (λ ws _. refl) (at-comma ⊳ before (at (later y) K (suc n)) (λ ws _. refl) (then-move (at_last shut-second) building))))

  pub ref-two-apart : (o s k l : Position) → Inside us f → Inside vs g → Behind (sign open_bracket o ∷ (us ++ (between_subscripts k l ++ (vs ++ sign close_bracket s ∷ [])))) (λ n ms. plain n ∷ plain (suc n) ∷ f (suc n) (plain n ∷ plain (suc n) ∷ g (suc n) (plain n ∷ ms)))
  unfolding among
  ref-two-apart o s k l x y = behind (by (λ K n. opened ⊳ before (at (first x) K (suc n)) (λ ws _. refl) (shut-first ⊳ opened-again ⊳ before (at (later y) K (suc n)) (λ ws _. refl) (then-move (at_last shut-second) building))))

-- As an operand it counts at its name.
pub term-reference : (us : List Word) (f : Marks) → Refers us f → Term us (λ n ms. first_counts counted (f n ms))
unfolding tale eat pick waits_for rule_of
term-reference [] f x = absurd x
term-reference (W.name y p ∷ us) f x = tells (λ K n vs h. ap (λ (l : List Mark). one counted n ∷ l) (x.goes.says K n vs h) ∙ ap (first_counts counted) (sym (x.first_plain n (tale K n vs))))
term-reference (W.constant c p ∷ us) f x = absurd x
term-reference (W.sign k p ∷ us) f x = absurd x
