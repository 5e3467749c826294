-- The machine takes the words of lists of actions, of their conditionals and of the arms.
use mathlib.Core.List.{List, [], ◌∷◌, ◌++◌, append_assoc}
use Rattle.std.specs.Prelude.{◌≡◌, refl, ℕ, suc}
use Rattle.std.proofs.Common.{ap, sym, arith}
use Rattle.std.proofs.Math.Path.{subst}
use Rattle.language.specs.Alternatives.{closing, plain_word}
use Rattle.language.specs.Building.{Built, begin_list, expression_no, joined, keep_word, list_no, make_arm, make_choose, make_if, with_lists, word_no}
use Rattle.language.specs.CountedWords.{counted_actions}
use Rattle.language.specs.Kinds.{at_sign, case_word, colon, comma, delayed_sign, do_word, else_word, end_case_word, end_if_word, equal_sign, if_word, open_paren, then_word}
use Rattle.language.specs.Machine.{Counts, Reading, ask, counted, make, more, reading}
use Rattle.language.specs.Notions.{Section, expression}
use Rattle.language.specs.Tree as T
use Rattle.language.specs.Tree.{Actions, Expression}
use Rattle.language.specs.Words.{Position, Word, sign}
use Rattle.about_grammar.specs.Acting.{Acting, Armed, MoreArmed, Resting, action_of, after_list, arms_of, back, case-word, deeper, do-word, else-word, end-if-word, if_word_lem, if_rest_of, list_done, more-tail, more_of, no-arms}
use Rattle.about_grammar.specs.Courses.{Ceiling, Comes, Stack, ◌⊳◌, asking, before, comes, ends-in, starts-as, then-move}
use Rattle.about_grammar.specs.Following.{Follows, after_or, among, follows-left, follows-right}
use Rattle.about_grammar.specs.Levels.{Boolean, whole-expression}
use Rattle.about_grammar.specs.Operations.{plain_word_lem}
use Rattle.about_grammar.specs.Operators.{building}
use Rattle.about_grammar.specs.Taking.{arriving, push}
use Rattle.about_grammar.specs.Terms.{closing-word, heads-follow}

-- Lists joined, either way.
pub joined-assoc : (l a b : Actions) → joined (joined l a) b ≡ joined l (joined a b)
unfolding joined
joined-assoc T.done a b = refl
joined-assoc (T.store k p x e l) a b = ap (T.store k p x e) (joined-assoc l a b)
joined-assoc (T.set p e l) a b = ap (T.set p e) (joined-assoc l a b)
joined-assoc (T.perform n p l) a b = ap (T.perform n p) (joined-assoc l a b)
joined-assoc (T.goto n p l) a b = ap (T.goto n p) (joined-assoc l a b)
joined-assoc (T.call n p l) a b = ap (T.call n p) (joined-assoc l a b)
joined-assoc (T.return p l) a b = ap (T.return p) (joined-assoc l a b)
joined-assoc (T.when p e x l) a b = ap (T.when p e x) (joined-assoc l a b)
joined-assoc (T.choose p e x l) a b = ap (T.choose p e x) (joined-assoc l a b)
joined-assoc (T.arm x l) a b = ap (T.arm x) (joined-assoc l a b)

pub joined-done : (l : Actions) → joined l T.done ≡ l
unfolding joined
joined-done T.done = refl
joined-done (T.store k p x e l) = ap (T.store k p x e) (joined-done l)
joined-done (T.set p e l) = ap (T.set p e) (joined-done l)
joined-done (T.perform n p l) = ap (T.perform n p) (joined-done l)
joined-done (T.goto n p l) = ap (T.goto n p) (joined-done l)
joined-done (T.call n p l) = ap (T.call n p) (joined-done l)
joined-done (T.return p l) = ap (T.return p) (joined-done l)
joined-done (T.when p e x l) = ap (T.when p e x) (joined-done l)
joined-done (T.choose p e x l) = ap (T.choose p e x) (joined-done l)
joined-done (T.arm x l) = ap (T.arm x) (joined-done l)

-- What was built, known by an equation.
pub rebuilt : {C : Ceiling} {ks : List ℕ} {K : Stack} {r : Reading Built} {us : List Word} {L : Stack} {b d : Built} {c : Counts} → b ≡ d → Comes C ks K r us L (reading b c) → Comes C ks K r us L (reading d c)
rebuilt {C} {ks} {K} {r} {us} {L} {c = c} e x = subst (λ (y : Built). Comes C ks K r us L (reading y c)) e x

module _ {C : Ceiling} {s : Section} {h : ℕ} where
  pub rest-none : Resting C s h [] T.done
  unfolding counted_actions
  rest-none = record {
    follows = λ vs f. f;
    takes = λ t K b c l ls room. record { counts = c; grown = omega arith; comes = rebuilt (ap (λ (x : Actions). with_lists b (x ∷ ls)) (sym (joined-done l))) (comes (λ vs end _. refl)) };
  }

  pub rest_more : {us : List Word} {p : Position} {a : Actions} → Acting C s h us a → Resting C s h (sign comma p ∷ us) a
  unfolding among
  rest_more x = record {
    follows = λ vs f. refl;
    takes = λ t K b c l ls room.
        arriving (x.takes t K b c l ls room) λ d g m.
        record { counts = d; grown = g; comes = t.at-comma (omega arith) ⊳ m };
  }

  pub arms-one : {us vs : List Word} {p : Position} {a b : Actions} → Acting C s h us a → MoreArmed C s h vs b → Armed C s h (sign do_word p ∷ (us ++ vs)) (T.arm a b)
  unfolding among joined list_no counted_actions
  arms-one {us} {vs} {p} {a} {b} x y = record {
    heads = refl;
    takes = λ K e c l ls room.
        arriving (x.takes (more-tail C s) (make make_arm ∷ ask (arms_of s) ∷ K) e c T.done (l ∷ ls) (omega arith)) λ d g m.
        arriving (y.takes K e d (joined l (T.arm a T.done)) ls (omega arith)) λ d₁ i n.
        record {
          counts = d₁;
          grown = omega arith;
          comes = plain_word_lem (omega arith) ⊳ starts-as (building (λ _. refl)) (rebuilt (ap (λ (z : Actions). with_lists e (z ∷ ls)) (joined-assoc l (T.arm a T.done) b)) (before (then-move (list_done s m) (building (λ _. refl))) y.follows n));
        };
    takes-more = λ K e c l ls room.
        arriving (x.takes (more-tail C s) (make make_arm ∷ ask (arms_of s) ∷ K) e c T.done (l ∷ ls) (omega arith)) λ d g m.
        arriving (y.takes K e d (joined l (T.arm a T.done)) ls (omega arith)) λ d₁ i n.
        record {
          counts = d₁;
          grown = omega arith;
          comes = do-word s (omega arith) ⊳ starts-as (building (λ _. refl)) (rebuilt (ap (λ (z : Actions). with_lists e (z ∷ ls)) (joined-assoc l (T.arm a T.done) b)) (before (then-move (list_done s m) (building (λ _. refl))) y.follows n));
        };
  }

  pub arms_end : MoreArmed C s h [] T.done
  unfolding counted_actions
  arms_end = record {
    follows = λ vs f. f;
    takes = λ K b c l ls room. record { counts = c; grown = omega arith; comes = rebuilt (ap (λ (x : Actions). with_lists b (x ∷ ls)) (sym (joined-done l))) (comes (λ vs end _. refl)) };
  }

  pub arms_more : {us : List Word} {a : Actions} → Armed C s h us a → MoreArmed C s h us a
  arms_more {us} x = record { follows = λ vs f. heads-follow after_list us vs x.heads; takes = x.takes-more }

  pub act-when : {us vs ws : List Word} {p : Position} (r q : Position) {e : Expression} {a b : Actions} → Boolean C h us (expression e) → Acting C s h vs a → Resting C s (suc h) ws b
      → Acting C s (suc h) (sign if_word p ∷ (us ++ sign then_word q ∷ (vs ++ sign end_if_word r ∷ ws))) (T.when p e a b)
  unfolding among joined list_no word_no expression_no counted_actions
  act-when {us} {vs} {ws} {p} r q {e} {a} {b} x y z = record {
    starts = λ xs _. refl;
    takes = λ {t} i K f c l ls room.
        arriving ((whole-expression x).takes (plain_word then_word ∷ make begin_list ∷ ask (action_of s) ∷ ask (more_of s) ∷ ask (if_rest_of s) ∷ ask t ∷ K) (keep_word (sign if_word p) (with_lists f (l ∷ ls))) (deeper (more counted c)) (omega arith)) λ d g m.
        arriving (y.takes (more-tail C s) (ask (if_rest_of s) ∷ ask t ∷ K) (push e (keep_word (sign if_word p) f)) d T.done (l ∷ ls) (omega arith)) λ d₁ j n.
        arriving (z.takes i K f (back d₁) (joined l (T.when p e a T.done)) ls (omega arith)) λ d₂ k o.
        record {
          counts = d₂;
          grown = omega arith;
          comes =
              if_word_lem s (omega arith) ⊳ before m (λ xs _. refl) (plain_word_lem (omega arith)
              ⊳ starts-as (building (λ _. refl)) (before (list_done s n) (λ xs _. refl) (end-if-word s (omega arith)
              ⊳ starts-as (building (λ _. refl)) (rebuilt (ap (λ (v : Actions). with_lists f (v ∷ ls)) (joined-assoc l (T.when p e a T.done) b)) o))));
        };
  }

  pub act-if : {us vs xs ws : List Word} {p : Position} (t r q : Position) {e : Expression} {a b c : Actions} → Boolean C h us (expression e) → Acting C s h vs a → Acting C s h xs b → Resting C s (suc h) ws c
      → Acting C s (suc h) (sign if_word p ∷ (us ++ sign then_word q ∷ (vs ++ sign else_word r ∷ (xs ++ sign end_if_word t ∷ ws)))) (T.choose p e (T.arm a (T.arm b T.done)) c)
  unfolding among joined list_no word_no expression_no counted_actions
  act-if {us} {vs} {xs} {ws} {p} v r q {e} {a} {b} {c = b₁} x y y₁ z = record {
    starts = λ xs _. refl;
    takes = λ {t} i K f c l ls room.
        arriving ((whole-expression x).takes (plain_word then_word ∷ make begin_list ∷ ask (action_of s) ∷ ask (more_of s) ∷ ask (if_rest_of s) ∷ ask t ∷ K) (keep_word (sign if_word p) (with_lists f (l ∷ ls))) (deeper (more counted c)) (omega arith)) λ d g m.
        arriving (y.takes (more-tail C s) (ask (if_rest_of s) ∷ ask t ∷ K) (push e (keep_word (sign if_word p) f)) d T.done (l ∷ ls) (omega arith)) λ d₁ j n.
        arriving (y₁.takes (more-tail C s) (closing end_if_word ∷ make make_if ∷ ask t ∷ K) (push e (keep_word (sign if_word p) f)) d₁ T.done (a ∷ l ∷ ls) (omega arith)) λ d₂ j₁ n₁.
        arriving (z.takes i K f (back d₂) (joined l (T.choose p e (T.arm a (T.arm b T.done)) T.done)) ls (omega arith)) λ d₃ k o.
        record {
          counts = d₃;
          grown = omega arith;
          comes =
              if_word_lem s (omega arith) ⊳ before m (λ xs _. refl) (plain_word_lem (omega arith)
              ⊳ starts-as (building (λ _. refl)) (before (list_done s n) (λ xs _. refl) (else-word s (omega arith)
              ⊳ starts-as (building (λ _. refl)) (before (list_done s n₁) (λ xs _. refl) (closing-word (omega arith)
              ⊳ starts-as (building (λ _. refl)) (rebuilt (ap (λ (v : Actions). with_lists f (v ∷ ls)) (joined-assoc l (T.choose p e (T.arm a (T.arm b T.done)) T.done) b₁)) o))))));
        };
  }

  pub act-case : {us vs ws : List Word} {p : Position} (q : Position) {e : Expression} {a b : Actions} → Boolean C h us (expression e) → Armed C s h vs a → Resting C s (suc h) ws b
      → Acting C s (suc h) (sign case_word p ∷ (us ++ (vs ++ sign end_case_word q ∷ ws))) (T.choose p e a b)
  unfolding among joined list_no word_no expression_no counted_actions
  act-case {us} {vs} {ws} {p} q {e} {a} {b} x y z = record {
    starts = λ xs _. refl;
    takes = λ {t} i K f c l ls room.
        arriving ((whole-expression x).takes (make begin_list ∷ plain_word do_word ∷ make begin_list ∷ ask (action_of s) ∷ ask (more_of s) ∷ make make_arm ∷ ask (arms_of s) ∷ closing end_case_word ∷ make make_choose ∷ ask t ∷ K) (keep_word (sign case_word p) (with_lists f (l ∷ ls))) (deeper (more counted c)) (omega arith)) λ d g m.
        arriving (y.takes (closing end_case_word ∷ make make_choose ∷ ask t ∷ K) (push e (keep_word (sign case_word p) f)) d T.done (l ∷ ls) (omega arith)) λ d₁ j n.
        arriving (z.takes i K f (back d₁) (joined l (T.choose p e a T.done)) ls (omega arith)) λ d₂ k o.
        record {
          counts = d₂;
          grown = omega arith;
          comes =
              case-word s (omega arith) ⊳ before m (λ xs _. begun xs)
              (starts-as (building (λ _. refl)) (before {ks = (do_word ∷ []) ++ after_list} (ends-in n (λ xs f. follows-right (do_word ∷ []) after_list xs f) (asking (λ xs f. follows-left (do_word ∷ []) after_list xs f) (no-arms s))) (λ xs _. refl) (closing-word (omega arith)
              ⊳ starts-as (building (λ _. refl)) (rebuilt (ap (λ (v : Actions). with_lists f (v ∷ ls)) (joined-assoc l (T.choose p e a T.done) b)) o))));
        };
  }
    where
      begun : (xs : List Word) → Follows after_or ((vs ++ sign end_case_word q ∷ ws) ++ xs)
      begun xs =
          subst (Follows after_or) (sym (append_assoc vs (sign end_case_word q ∷ ws) xs))
          (follows-right (comma ∷ colon ∷ open_paren ∷ delayed_sign ∷ equal_sign ∷ at_sign ∷ []) after_or (vs ++ sign end_case_word q ∷ (ws ++ xs)) (heads-follow after_list vs (sign end_case_word q ∷ (ws ++ xs)) y.heads))
