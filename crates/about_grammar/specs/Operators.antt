-- Levels of operators: an operator's node, and the tails that are left out.
use Rattle.std.specs.Prelude.{false, List, [], ◌∷◌, ◌++◌, ◌≡◌, refl, ℕ, suc, ◌-◌, eqb}
use Rattle.std.proofs.Common.{append_assoc, ◌∙◌, ap, sym, subst, arith}
use Rattle.language.specs.Alternatives.{no_step}
use Rattle.language.specs.Building.{Built, expression_no, keep_word, make_binary, make_prefix, word_no}
use Rattle.language.specs.CountedWords.{counted_expression}
use Rattle.language.specs.Declaring.{tree_steps}
use Rattle.language.specs.Kinds.{a_constant, colon}
use Rattle.language.specs.Machine.{Alternative, Ask, Counts, ask, counted, ease, feed, finish, leave, leave_at_end, make, may, more, nested, operand, reading, run, Rule}
use Rattle.language.specs.Notions.{Tree, expression}
use Rattle.language.specs.SectionWays.{rule_of}
use Rattle.language.specs.BuildSteps.{Step}
use Rattle.language.specs.Tree.{Expression, binary, prefix}
use Rattle.language.specs.Words.{Position, Word, kind_of, position, sign, word_at}
use Rattle.about_grammar.specs.Courses.{Ceiling, Comes, Stack, Under, ◌⊳◌, asking, before, comes, ends-in, runs, then-move, then-words}
use Rattle.about_grammar.specs.Following.{Follows, among, follows-left, follows-right}
use Rattle.about_grammar.specs.Stacks.{asks, asks-end, choose-none, kinds_of, makes, omits, on}
use Rattle.about_grammar.specs.Taking.{Apart, Heads, NoPart, Phrase, Takes, arriving, push}

-- A node is built.
pub building : {C : Ceiling} {f : Step Built} {K : Stack} {b d : Built} {c : Counts} → ((p : Position) → f p b ≡ d) → Comes C [] (make f ∷ K) (reading b c) [] K (reading d c)
building {C} {f} {K} {b} {d} {c} e = comes (λ vs end _. makes tree_steps C.fits (rule_of tree_steps) f K b d c e vs end)

-- A prefix operator's operand ends.
pub easing : {C : Ceiling} {K : Stack} {b : Built} {c : Counts} → Comes C [] (ease ∷ K) (reading b c) [] K (reading b (nested (c.nesting - 1) c))
unfolding run feed finish
easing {C} {K} {b} {c} = comes go
  where
    go : (vs : List Word) (end : ℕ) → Follows [] vs → runs C (ease ∷ K) vs end (reading b c) ≡ runs C K vs end (reading b (nested (c.nesting - 1) c))
    go [] end _ = refl
    go (w ∷ vs) end _ = refl

-- A notion is left out with its step.
pub leaving : {C : Ceiling} {a : Ask} (ways : List (Alternative Built)) (f : Step Built) → rule_of tree_steps a ≡ record { ways = ways; without = may f } → {K : Stack} {b d : Built} {c : Counts}
    → ((p : Position) → f p b ≡ d) → Comes C (kinds_of ways) (ask a ∷ K) (reading b c) [] K (reading d c)
leaving {C} {a} ways f e {K} {b} {d} {c} g = comes (λ vs end h. omits tree_steps C.fits (rule_of tree_steps) a ways f e K b d c g vs h end)

-- What stands in front keeps the beginning.
pub heads-on : (hs : List ℕ) (us vs : List Word) → Heads hs us → Heads hs (us ++ vs)
heads-on hs [] vs h = absurd h
heads-on hs (w ∷ us) vs h = h

pub apart-on : (us : List Word) (w : Word) (vs : List Word) → among (kind_of w) (colon ∷ []) ≡ false → NoPart us → NoPart (us ++ w ∷ vs)
apart-on us w vs e x ws h = subst Apart (sym (append_assoc us (w ∷ vs) ws)) (x (w ∷ (vs ++ ws)) e)

-- A tail is left out.
pub clean : {C : Ceiling} {hs : List ℕ} {P : Stack} {a : Ask} {ks : List ℕ} {h : ℕ} {us : List Word} {t : Tree} (ways : List (Alternative Built)) → rule_of tree_steps a ≡ record { ways = ways; without = may no_step }
    → Phrase C hs P (ask a ∷ []) ks h us t → Phrase C hs P [] (kinds_of ways ++ ks) h us t
clean {C} {hs} {P} {a} {ks} {h} {us} {t} ways e x = record { heads = x.heads; apart = x.apart; takes = go }
  where
    go : Takes C P [] (kinds_of ways ++ ks) h us t
    go K b c room =
        let r = x.takes K b c room in
        record {
          counts = r.counts;
          grown = r.grown;
          comes = ends-in r.comes (λ ws f. follows-right (kinds_of ways) ks ws f) (asking (λ ws f. follows-left (kinds_of ways) ks ws f) (leaving ways no_step e (λ p. refl)));
        }

-- An operator between a phrase of its own level and a right operand.
pub left-binary : {C : Ceiling} {hs js : List ℕ} {P : Stack} {a right : Ask} {ks : List ℕ} {h : ℕ} (k : ℕ) {us vs : List Word} {p : Position} {e f : Expression}
    → ((K : Stack) (b : Built) (c : Counts) → Under C.top (more counted c)
    → Comes C [] (ask a ∷ K) (reading b c) (sign k p ∷ []) (ask right ∷ make make_binary ∷ ask a ∷ K) (reading (keep_word (sign k p) b) (more counted c)))
    → among k ks ≡ false → among k (colon ∷ []) ≡ false → Phrase C hs P (ask a ∷ []) ks h us (expression e) → Phrase C js (ask right ∷ []) [] ks h vs (expression f)
    → Phrase C hs P (ask a ∷ []) ks h (us ++ sign k p ∷ vs) (expression (binary k p e f))
unfolding counted_expression expression_no word_no
left-binary {C} {hs} {js} {P} {a} {right} {ks} {h} k {us} {vs} {p} {e} {f} eat ok off x y =
    record { heads = heads-on hs us (sign k p ∷ vs) x.heads; apart = apart-on us (sign k p) vs off x.apart; takes = go }
  where
    go : Takes C P (ask a ∷ []) ks h (us ++ sign k p ∷ vs) (expression (binary k p e f))
    go K b c room =
        arriving (x.takes K b c (omega arith)) λ d g m.
        arriving (y.takes (make make_binary ∷ ask a ∷ K) (keep_word (sign k p) (push e b)) (more counted d) (omega arith)) λ d₁ i l.
        record {
          counts = d₁;
          grown = omega arith;
          comes = before m (λ ws _. ok) (eat K (push e b) d (omega arith) ⊳ then-move l (building (λ _. refl)));
        }

-- What is asked of the follower may be more.
pub asking-more : {C : Ceiling} {hs : List ℕ} {P Q : Stack} {ks : List ℕ} {h : ℕ} {us : List Word} {t : Tree} (js : List ℕ) → Phrase C hs P Q ks h us t → Phrase C hs P Q (js ++ ks) h us t
asking-more {ks = ks} js x = record {
  heads = x.heads;
  apart = x.apart;
  takes = λ K b c room. arriving (x.takes K b c room) λ d g m. record { counts = d; grown = g; comes = asking (λ ws f. follows-right js ks ws f) m };
}

-- An operator before its operand; the words `front` lead to the operand.
pub prefixed : {C : Ceiling} {hs : List ℕ} {P R Q : Stack} {ks : List ℕ} {h : ℕ} {us : List Word} {e : Expression} (js : List ℕ) (k : ℕ) (p : Position) (front : List Word)
    → among k js ≡ false → eqb k a_constant ≡ false
    → ((K : Stack) (b : Built) (c : Counts) → Under C.top (nested (suc c.nesting) (more counted c))
    → Comes C [] (P ++ K) (reading b c) (sign k p ∷ front) (R ++ (make make_prefix ∷ ease ∷ (Q ++ K))) (reading (keep_word (sign k p) b) (nested (suc c.nesting) (more counted c))))
    → Phrase C hs R [] ks h us (expression e) → Phrase C js P Q ks (suc h) (sign k p ∷ (front ++ us)) (expression (prefix k p e))
unfolding counted_expression expression_no word_no
prefixed {C} {hs} {P} {R} {Q} {ks} {h} {us} {e} js k p front ok off eat x =
    record { heads = ok; apart = λ vs _. off; takes = go }
  where
    go : Takes C P Q ks (suc h) (sign k p ∷ (front ++ us)) (expression (prefix k p e))
    go K b c room =
        arriving (x.takes (make make_prefix ∷ ease ∷ (Q ++ K)) (keep_word (sign k p) b) (nested (suc c.nesting) (more counted c)) (omega arith)) λ d g m.
        record {
          counts = nested (d.nesting - 1) d;
          grown = omega arith;
          comes = then-words (eat K b c (omega arith)) (then-move (then-move m (building (λ _. refl))) easing);
        }

-- A notion is left out, and the word kept last counts.
pub leaving-counted : {C : Ceiling} {a : Ask} (ways : List (Alternative Built)) (f : Step Built) → rule_of tree_steps a ≡ record { ways = ways; without = operand f } → {K : Stack} {b d : Built} {c : Counts}
    → Under C.top (more counted c) → ((p : Position) → f p b ≡ d) → Comes C (kinds_of ways) (ask a ∷ K) (reading b c) [] K (reading d (more counted c))
unfolding run on
leaving-counted {C} {a} ways f e {K} {b} {d} {c} u g = comes go
  where
    R : Rule Built
    R = record { ways = ways; without = operand f }

    at-end : (end : ℕ) → leave_at_end tree_steps C.fits (operand f) end (reading b c) (λ q. finish tree_steps C.fits (rule_of tree_steps) K end q) ≡ finish tree_steps C.fits (rule_of tree_steps) K end (reading d (more counted c))
    at-end end = rw (C.below (more counted c) u) (ap (λ (x : Built). finish tree_steps C.fits (rule_of tree_steps) K end (reading x (more counted c))) (g (position end)))

    at-word : (w : Word) → leave tree_steps C.fits (operand f) w (reading b c) (λ q. feed tree_steps C.fits (rule_of tree_steps) K w q) ≡ feed tree_steps C.fits (rule_of tree_steps) K w (reading d (more counted c))
    at-word w = rw (C.below (more counted c) u) (ap (λ (x : Built). feed tree_steps C.fits (rule_of tree_steps) K w (reading x (more counted c))) (g (word_at w)))

    go : (vs : List Word) (end : ℕ) → Follows (kinds_of ways) vs → runs C (ask a ∷ K) vs end (reading b c) ≡ runs C K vs end (reading d (more counted c))
    go [] end _ = asks-end tree_steps C.fits (rule_of tree_steps) a R e K end (reading b c) ∙ at-end end
    go (w ∷ vs) end h =
        ap (on tree_steps C.fits (rule_of tree_steps) vs end)
        (asks tree_steps C.fits (rule_of tree_steps) a R e K w (reading b c)
        ∙ choose-none tree_steps C.fits ways w h K (reading b c) (leave tree_steps C.fits (operand f) w (reading b c) (λ q. feed tree_steps C.fits (rule_of tree_steps) K w q)) ∙ at-word w)
