-- The machine takes the words of each term: constants, brackets, conditionals with their arms, references.
use Rattle.std.specs.Prelude.{Bool, cond, List, [], ◌∷◌, ◌++◌, refl, ℕ, suc, ◌-◌}
use Rattle.std.proofs.Common.{append_assoc, ◌∙◌, ap, sym, subst, arith, eq-eqb}
use Rattle.language.specs.Alternatives.{closing, lead, plain_word}
use Rattle.language.specs.Building.{Built, expression_no, keep_word, make_choice, make_constant, make_first_arm, make_next_arm, word_no}
use Rattle.language.specs.CountedWords.{counted_expression}
use Rattle.language.specs.Declaring.{tree_steps}
use Rattle.language.specs.Kinds.{case_word, close_paren, do_word, else_word, end_case_word, end_if_word, if_word, open_paren, then_word}
use Rattle.language.specs.Machine as M
use Rattle.language.specs.Machine.{Counts, after, ask, choose, counted, feed, make, more, more_arms, nested, reading, run, stuck, taken, tallied, term}
use Rattle.language.specs.Notions.{Tree, expression}
use Rattle.language.specs.SectionWays.{rule_of}
use Rattle.language.specs.Tree.{Expression, choice, constant, first_arm, next_arm}
use Rattle.language.specs.Words as W
use Rattle.language.specs.Words.{Constant, Position, Word, sign}
use Rattle.about_grammar.specs.Courses.{Ceiling, Comes, Stack, Under, ◌⊳◌, at_last, before, comes, runs, then-move, took_it}
use Rattle.about_grammar.specs.Following.{Follows, after_or, after_term, among}
use Rattle.about_grammar.specs.Levels.{Boolean, Term, whole-expression}
use Rattle.about_grammar.specs.Operations.{plain_word_lem}
use Rattle.about_grammar.specs.Operators.{apart-on, building, clean, heads-on}
use Rattle.about_grammar.specs.Taking.{Heads, Phrase, Referring, Takes, arriving, push}

-- A closing word.
pub closing-word : {C : Ceiling} {k : ℕ} {p : Position} {K : Stack} {b : Built} {c : Counts} → Under C.top (nested (c.nesting - 1) c)
    → Comes C [] (closing k ∷ K) (reading b c) (sign k p ∷ []) K (reading b (nested (c.nesting - 1) c))
unfolding run feed
closing-word {C} {k} {p} {K} {b} {c} u = comes (λ ws end _. ap (λ (z : Bool). after tree_steps C.fits (rule_of tree_steps) (cond z (taken tree_steps C.fits p K b (nested (c.nesting - 1) c)) (stuck tree_steps C.fits (sign k p))) (λ L q. runs C L ws end q)) (eq-eqb k k refl) ∙ took_it C _ _ _ _ u _)

pub term-constant : {C : Ceiling} {h : ℕ} {n : Constant} {p : Position} → Term C h (W.constant n p ∷ []) (expression (constant n p))
unfolding run feed choose rule_of tallied among counted_expression word_no
term-constant {C} {h} {n} {p} = record { heads = refl; apart = λ vs f. f; takes = go }
  where
    go : Takes C (ask term ∷ []) [] after_term h (W.constant n p ∷ []) (expression (constant n p))
    go K b c room = record {
      counts = more counted c;
      grown = omega arith;
      comes = then-move (eat (omega arith)) (building (λ _. refl));
    }
      where
        eat : Under C.top (more counted c)
            → Comes C after_term (ask term ∷ K) (reading b c) (W.constant n p ∷ []) (make make_constant ∷ K) (reading (keep_word (W.constant n p) b) (more counted c))
        eat u = comes (λ ws end _. took_it C _ _ _ _ u _)

pub term-parens : {C : Ceiling} {h : ℕ} {us : List Word} {p : Position} (q : Position) {t : Tree} → Boolean C h us t → Term C (suc h) (sign open_paren p ∷ (us ++ sign close_paren q ∷ [])) t
unfolding run feed choose rule_of tallied among
term-parens {C} {h} {us} {p} q {t} x = record { heads = refl; apart = λ vs _. refl; takes = go }
  where
    go : Takes C (ask term ∷ []) [] after_term (suc h) (sign open_paren p ∷ (us ++ sign close_paren q ∷ [])) t
    go K b c room =
        arriving ((whole-expression x).takes (closing close_paren ∷ K) b (nested (suc c.nesting) c) (omega arith)) λ d g m.
        record {
          counts = nested (d.nesting - 1) d;
          grown = omega arith;
          comes = eat (omega arith) ⊳ before m (λ ws _. refl) (at_last (closing-word (omega arith)));
        }
      where
        eat : Under C.top (nested (suc c.nesting) c)
            → Comes C [] (ask term ∷ K) (reading b c) (sign open_paren p ∷ []) (ask M.expression ∷ closing close_paren ∷ K) (reading b (nested (suc c.nesting) c))
        eat u = comes (λ ws end _. took_it C _ _ _ _ u _)

pub term-if : {C : Ceiling} {h : ℕ} {us vs ws : List Word} {p : Position} (q r s : Position) {e f g : Expression} → Boolean C h us (expression e) → Boolean C h vs (expression f) → Boolean C h ws (expression g)
    → Term C (suc h) (sign if_word p ∷ (us ++ sign then_word q ∷ (vs ++ sign else_word r ∷ (ws ++ sign end_if_word s ∷ [])))) (expression (choice p e (next_arm (first_arm f) g)))
unfolding run feed choose rule_of tallied among counted_expression word_no expression_no
term-if {C} {h} {us} {vs} {ws} {p} q r s {e} {f} {g} x y z = record { heads = refl; apart = λ xs _. refl; takes = go }
  where
    go : Takes C (ask term ∷ []) [] after_term (suc h) (sign if_word p ∷ (us ++ sign then_word q ∷ (vs ++ sign else_word r ∷ (ws ++ sign end_if_word s ∷ [])))) (expression (choice p e (next_arm (first_arm f) g)))
    go K b c room =
        let L₃ : Stack = make make_next_arm ∷ closing end_if_word ∷ make make_choice ∷ K in
        let L₂ : Stack = make make_first_arm ∷ plain_word else_word ∷ ask M.expression ∷ L₃ in
        arriving ((whole-expression x).takes (plain_word then_word ∷ ask M.expression ∷ L₂) (keep_word (sign if_word p) b) (nested (suc c.nesting) (more counted c)) (omega arith)) λ d i m.
        arriving ((whole-expression y).takes L₂ (push e (keep_word (sign if_word p) b)) d (omega arith)) λ d₁ j n.
        arriving ((whole-expression z).takes L₃ (push (first_arm f) (push e (keep_word (sign if_word p) b))) d₁ (omega arith)) λ d₂ k o.
        record {
          counts = nested (d₂.nesting - 1) d₂;
          grown = omega arith;
          comes =
              eat (omega arith) ⊳ before m (λ xs _. refl) (plain_word_lem (omega arith)
              ⊳ before (then-move n (building (λ _. refl))) (λ xs _. refl) (plain_word_lem (omega arith)
              ⊳ before (then-move o (building (λ _. refl))) (λ xs _. refl) (then-move (at_last (closing-word (omega arith))) (building (λ _. refl)))));
        }
      where
        eat : Under C.top (nested (suc c.nesting) (more counted c))
            → Comes C [] (ask term ∷ K) (reading b c) (sign if_word p ∷ [])
            (ask M.expression ∷ plain_word then_word ∷ ask M.expression ∷ make make_first_arm ∷ plain_word else_word ∷ ask M.expression ∷ make make_next_arm ∷ closing end_if_word ∷ make make_choice ∷ K)
            (reading (keep_word (sign if_word p) b) (nested (suc c.nesting) (more counted c)))
        eat u = comes (λ xs end _. took_it C _ _ _ _ u _)

-- ---- Arms.

abbrev pub Arms : Ceiling → ℕ → List Word → Tree → Type 0
Arms C h us t = Phrase C after_or (plain_word do_word ∷ ask M.expression ∷ make make_first_arm ∷ plain_word do_word ∷ ask M.expression ∷ make make_next_arm ∷ ask more_arms ∷ []) (ask more_arms ∷ []) after_or h us t

pub arms-two : {C : Ceiling} {h : ℕ} {us vs : List Word} {p : Position} (q : Position) {e f : Expression} → Boolean C h us (expression e) → Boolean C h vs (expression f)
    → Arms C h (sign do_word p ∷ (us ++ sign do_word q ∷ vs)) (expression (next_arm (first_arm e) f))
unfolding among counted_expression word_no expression_no
arms-two {C} {h} {us} {vs} {p} q {e} {f} x y = record { heads = refl; apart = λ xs _. refl; takes = go }
  where
    go : Takes C (plain_word do_word ∷ ask M.expression ∷ make make_first_arm ∷ plain_word do_word ∷ ask M.expression ∷ make make_next_arm ∷ ask more_arms ∷ []) (ask more_arms ∷ []) after_or h (sign do_word p ∷ (us ++ sign do_word q ∷ vs)) (expression (next_arm (first_arm e) f))
    go K b c room =
        arriving ((whole-expression x).takes (make make_first_arm ∷ plain_word do_word ∷ ask M.expression ∷ make make_next_arm ∷ ask more_arms ∷ K) b c (omega arith)) λ d i m.
        arriving ((whole-expression y).takes (make make_next_arm ∷ ask more_arms ∷ K) (push (first_arm e) b) d (omega arith)) λ d₁ j n.
        record {
          counts = d₁;
          grown = omega arith;
          comes = plain_word_lem (omega arith) ⊳ before (then-move m (building (λ _. refl))) (λ xs _. refl) (plain_word_lem (omega arith) ⊳ then-move n (building (λ _. refl)));
        }

pub arms_next : {C : Ceiling} {h : ℕ} {us vs : List Word} (p : Position) {e f : Expression} → Arms C h us (expression e) → Boolean C h vs (expression f)
    → Arms C h (us ++ sign do_word p ∷ vs) (expression (next_arm e f))
unfolding run feed choose rule_of tallied among counted_expression word_no expression_no
arms_next {C} {h} {us} {vs} p {e} {f} x y =
    record { heads = heads-on after_or us (sign do_word p ∷ vs) x.heads; apart = apart-on us (sign do_word p) vs refl x.apart; takes = go }
  where
    go : Takes C (plain_word do_word ∷ ask M.expression ∷ make make_first_arm ∷ plain_word do_word ∷ ask M.expression ∷ make make_next_arm ∷ ask more_arms ∷ []) (ask more_arms ∷ []) after_or h (us ++ sign do_word p ∷ vs) (expression (next_arm e f))
    go K b c room =
        arriving (x.takes K b c (omega arith)) λ d i m.
        arriving ((whole-expression y).takes (make make_next_arm ∷ ask more_arms ∷ K) (push e b) d (omega arith)) λ d₁ j n.
        record {
          counts = d₁;
          grown = omega arith;
          comes = before m (λ xs _. refl) (eat K (push e b) d (omega arith) ⊳ then-move n (building (λ _. refl)));
        }
      where
        eat : (L : Stack) (a : Built) (d : Counts) → Under C.top d → Comes C [] (ask more_arms ∷ L) (reading a d) (sign do_word p ∷ []) (ask M.expression ∷ make make_next_arm ∷ ask more_arms ∷ L) (reading a d)
        eat L a d u = comes (λ xs end _. took_it C _ _ _ _ u _)

-- What begins so that it may follow an expression.
pub heads-follow : (ks : List ℕ) (us vs : List Word) → Heads ks us → Follows ks (us ++ vs)
heads-follow ks [] vs h = absurd h
heads-follow ks (w ∷ us) vs h = h

pub term-case : {C : Ceiling} {h : ℕ} {us vs : List Word} {p : Position} (q : Position) {e f : Expression} → Boolean C h us (expression e) → Arms C h vs (expression f)
    → Term C (suc h) (sign case_word p ∷ (us ++ (vs ++ sign end_case_word q ∷ []))) (expression (choice p e f))
unfolding run feed choose rule_of tallied among counted_expression word_no expression_no
term-case {C} {h} {us} {vs} {p} q {e} {f} x y = record { heads = refl; apart = λ xs _. refl; takes = go }
  where
    all : Phrase C after_or (plain_word do_word ∷ ask M.expression ∷ make make_first_arm ∷ plain_word do_word ∷ ask M.expression ∷ make make_next_arm ∷ ask more_arms ∷ []) [] (do_word ∷ after_or) h vs (expression f)
    all = clean (lead do_word (ask M.expression ∷ make make_next_arm ∷ ask more_arms ∷ []) ∷ []) refl y

    go : Takes C (ask term ∷ []) [] after_term (suc h) (sign case_word p ∷ (us ++ (vs ++ sign end_case_word q ∷ []))) (expression (choice p e f))
    go K b c room =
        arriving ((whole-expression x).takes (plain_word do_word ∷ ask M.expression ∷ make make_first_arm ∷ plain_word do_word ∷ ask M.expression ∷ make make_next_arm ∷ ask more_arms ∷ closing end_case_word ∷ make make_choice ∷ K) (keep_word (sign case_word p) b) (nested (suc c.nesting) (more counted c)) (omega arith)) λ d i m.
        arriving (all.takes (closing end_case_word ∷ make make_choice ∷ K) (push e (keep_word (sign case_word p) b)) d (omega arith)) λ d₁ j n.
        record {
          counts = nested (d₁.nesting - 1) d₁;
          grown = omega arith;
          comes =
              eat (omega arith) ⊳ before m (λ xs _. subst (Follows after_or) (sym (append_assoc vs (sign end_case_word q ∷ []) xs)) (heads-follow after_or vs (sign end_case_word q ∷ xs) y.heads))
              (before n (λ xs _. refl) (then-move (at_last (closing-word (omega arith))) (building (λ _. refl))));
        }
      where
        eat : Under C.top (nested (suc c.nesting) (more counted c))
            → Comes C [] (ask term ∷ K) (reading b c) (sign case_word p ∷ [])
            (ask M.expression ∷ plain_word do_word ∷ ask M.expression ∷ make make_first_arm ∷ plain_word do_word ∷ ask M.expression ∷ make make_next_arm ∷ ask more_arms ∷ closing end_case_word ∷ make make_choice ∷ K)
            (reading (keep_word (sign case_word p) b) (nested (suc c.nesting) (more counted c)))
        eat u = comes (λ xs end _. took_it C _ _ _ _ u _)

-- ---- A reference as an operand counts at its name.

pub term-reference : {C : Ceiling} {h : ℕ} (us : List Word) {t : Tree} → Referring C h us t → Term C h us t
unfolding run feed choose rule_of tallied among
term-reference [] x = absurd x
term-reference {C} {h} (W.name n p ∷ us) {t} x = record { heads = refl; apart = λ vs _. tt; takes = go }
  where
    go : Takes C (ask term ∷ []) [] after_term h (W.name n p ∷ us) t
    go K b c room =
        let o = x.one_more in
        arriving (x.takes K b (more counted c) (omega arith)) λ d g m.
        record { counts = d; grown = omega arith; comes = eat (omega arith) ⊳ m }
      where
        eat : Under C.top (more counted c) → Comes C [] (ask term ∷ K) (reading b c) (W.name n p ∷ []) (ask M.subscripts ∷ K) (reading (keep_word (W.name n p) b) (more counted c))
        eat u = comes (λ xs end _. took_it C _ _ _ _ u _)
term-reference (W.constant n p ∷ us) x = absurd x
term-reference (W.sign k p ∷ us) x = absurd x
