-- The machine's tale of actions is what the grammar counts.
use Rattle.std.specs.Prelude.{Bool, true, false, cond, ◌≡◌, refl, ℕ, suc}
use mathlib.Core.List.{List, [], ◌∷◌, ◌++◌, append_assoc}
use Rattle.std.proofs.Math.Option.{some}
use Rattle.std.proofs.Common.{◌∙◌, ap, sym}
use Rattle.std.proofs.Math.Path.{subst}
use Rattle.language.specs.Alternatives.{closing, lead, no_step, plain_word}
use Rattle.language.specs.Building.{begin_list, make_arm, make_call, make_choose, make_goto, make_if, make_pair, make_perform, make_return, make_set, make_store, make_when}
use Rattle.language.specs.Declaring.{tree_steps}
use Rattle.language.specs.Kinds.{at_sign, call_sign, case_word, colon, comma, con_word, delayed_sign, do_word, else_word, end_case_word, end_if_word, equal_sign, goto_sign, if_word, open_bracket, open_paren, return_word, then_word}
use Rattle.language.specs.Machine as M
use Rattle.language.specs.Machine.{Ask, ask, counted, left_rest, make, operation_action, operation_arms, operation_more, operation_name, set_sign, state_action, state_arms, state_more, state_name, state_rest, store_sign, subscripts}
use Rattle.language.specs.Notions.{Section, in_operation, in_state, is_store}
use Rattle.language.specs.SectionWays.{rule_of}
use Rattle.language.specs.Tree.{Name}
use Rattle.language.specs.Words as W
use Rattle.language.specs.Words.{Position, Word, sign}
use Rattle.about_grammar.specs.Acting.{action_of, after_action, after_list, arms_of, if_rest_of, more_of, name_of}
use Rattle.about_grammar.specs.Counting.{Mark, one, plain}
use Rattle.about_grammar.specs.Courses.{Stack}
use Rattle.about_grammar.specs.Following.{Follows, after_or, after_term, among, follows-left, follows-right, follows-within, within}
use Rattle.about_grammar.specs.Stores.{set_of, store-kinds}
use Rattle.about_grammar.specs.Taking.{Heads, Opens}
use Rattle.about_grammar.specs.Tale.{Goes, ◌⊳◌, after-counting, asking, before, building, eat, ends-in, goes, leaving, next_among, pick, respelt, settled, starts-as, tale, then-move, then-words, waits_for}
use Rattle.about_grammar.specs.Telling.{Boolean, Marks, Tells, at, by, closing-word, plain_word_lem, tells, whole-expression}
use Rattle.about_grammar.specs.TellingTerms.{Behind, none-next}
use Rattle.about_grammar.specs.Terms.{heads-follow}

-- What is told, known by an equation.
pub remarked : {ks : List ℕ} {K L : Stack} {n m : ℕ} {us : List Word} {f : List Mark → List Mark} (g : List Mark → List Mark) → ((ms : List Mark) → f ms ≡ g ms) → Goes ks K n us f L m → Goes ks K n us g L m
remarked {L = L} {m = m} g e x = goes (λ vs h. x.says vs h ∙ e (tale L m vs))

-- A tail of lists: a comma leads to one more action.
pub record Tail (s : Section) (a : Ask) : Type 0 where
  pub at-comma : (K : Stack) (n : ℕ) (p : Position) → Goes [] (ask a ∷ K) n (sign comma p ∷ []) (λ ms. plain n ∷ ms) (ask (action_of s) ∷ ask a ∷ K) n

pub record Acting (s : Section) (us : List Word) (f : Marks) : Type 0 where
  pub takes : (t : Ask) → Tail s t → Tells (ask (action_of s) ∷ ask t ∷ []) (ask t ∷ []) after_action us f

pub record Resting (s : Section) (us : List Word) (f : Marks) : Type 0 where
  pub follows : (vs : List Word) → Follows after_action vs → Follows after_action (us ++ vs)
  pub takes : (t : Ask) → Tail s t → Tells (ask t ∷ []) (ask t ∷ []) after_action us f

pub record Armed (s : Section) (us : List Word) (f : Marks) : Type 0 where
  pub heads : Heads after_list us
  pub takes : Tells (plain_word do_word ∷ make begin_list ∷ ask (action_of s) ∷ ask (more_of s) ∷ make make_arm ∷ ask (arms_of s) ∷ []) (ask (arms_of s) ∷ []) after_list us f
  pub takes-more : Tells (ask (arms_of s) ∷ []) (ask (arms_of s) ∷ []) after_list us f

pub record MoreArmed (s : Section) (us : List Word) (f : Marks) : Type 0 where
  pub follows : (vs : List Word) → Follows after_list vs → Follows after_list (us ++ vs)
  pub takes : Tells (ask (arms_of s) ∷ []) (ask (arms_of s) ∷ []) after_list us f

-- ---- The words of lists and conditionals.

pub more-tail : (s : Section) → Tail s (more_of s)
unfolding tale eat pick waits_for rule_of
more-tail in_operation = record { at-comma = λ K n p. goes (λ ws _. refl) }
more-tail in_state = record { at-comma = λ K n p. goes (λ ws _. refl) }

pub rest-tail : Tail in_state state_rest
unfolding tale eat pick waits_for rule_of
rest-tail = record { at-comma = λ K n p. goes (λ ws _. refl) }

no_more : (s : Section) {K : Stack} {n : ℕ} → Goes (comma ∷ []) (ask (more_of s) ∷ K) n [] (λ ms. ms) K n
unfolding rule_of
no_more in_operation = leaving (lead comma (ask operation_action ∷ ask operation_more ∷ []) ∷ []) no_step refl
no_more in_state = leaving (lead comma (ask state_action ∷ ask state_more ∷ []) ∷ []) no_step refl

no-arms : (s : Section) {K : Stack} {n : ℕ} → Goes (do_word ∷ []) (ask (arms_of s) ∷ K) n [] (λ ms. ms) K n
unfolding rule_of
no-arms in_operation = leaving (lead do_word (make begin_list ∷ ask operation_action ∷ ask operation_more ∷ make make_arm ∷ ask operation_arms ∷ []) ∷ []) no_step refl
no-arms in_state = leaving (lead do_word (make begin_list ∷ ask state_action ∷ ask state_more ∷ make make_arm ∷ ask state_arms ∷ []) ∷ []) no_step refl

pub list_done : (s : Section) {K L : Stack} {n m : ℕ} {us : List Word} {f : List Mark → List Mark} → Goes after_action K n us f (ask (more_of s) ∷ L) m → Goes after_list K n us f L m
list_done s x = ends-in x (λ ws f. follows-right (comma ∷ []) after_action ws f) (asking (λ ws f. follows-left (comma ∷ []) after_action ws f) (no_more s))

module _ {K : Stack} {n : ℕ} {p : Position} where
  if_word_lem : (s : Section) → Goes [] (ask (action_of s) ∷ K) n (sign if_word p ∷ []) (λ ms. one counted (suc n) ∷ ms) (ask M.expression ∷ plain_word then_word ∷ make begin_list ∷ ask (action_of s) ∷ ask (more_of s) ∷ ask (if_rest_of s) ∷ K) (suc n)
  unfolding tale eat pick waits_for rule_of
  if_word_lem in_operation = goes (λ ws _. refl)
  if_word_lem in_state = goes (λ ws _. refl)

  end-if-word : (s : Section) → Goes [] (ask (if_rest_of s) ∷ K) (suc n) (sign end_if_word p ∷ []) (λ ms. plain n ∷ ms) (make make_when ∷ K) n
  unfolding tale eat pick waits_for rule_of
  end-if-word in_operation = goes (λ ws _. refl)
  end-if-word in_state = goes (λ ws _. refl)

  else-word : (s : Section) → Goes [] (ask (if_rest_of s) ∷ K) n (sign else_word p ∷ []) (λ ms. plain n ∷ ms) (make begin_list ∷ ask (action_of s) ∷ ask (more_of s) ∷ closing end_if_word ∷ make make_if ∷ K) n
  unfolding tale eat pick waits_for rule_of
  else-word in_operation = goes (λ ws _. refl)
  else-word in_state = goes (λ ws _. refl)

  case-word : (s : Section) → Goes [] (ask (action_of s) ∷ K) n (sign case_word p ∷ []) (λ ms. one counted (suc n) ∷ ms)
      (ask M.expression ∷ make begin_list ∷ plain_word do_word ∷ make begin_list ∷ ask (action_of s) ∷ ask (more_of s) ∷ make make_arm ∷ ask (arms_of s) ∷ closing end_case_word ∷ make make_choose ∷ K) (suc n)
  unfolding tale eat pick waits_for rule_of
  case-word in_operation = goes (λ ws _. refl)
  case-word in_state = goes (λ ws _. refl)

  do-word : (s : Section) → Goes [] (ask (arms_of s) ∷ K) n (sign do_word p ∷ []) (λ ms. plain n ∷ ms) (make begin_list ∷ ask (action_of s) ∷ ask (more_of s) ∷ make make_arm ∷ ask (arms_of s) ∷ K) n
  unfolding tale eat pick waits_for rule_of
  do-word in_operation = goes (λ ws _. refl)
  do-word in_state = goes (λ ws _. refl)

module _ {s : Section} where
  pub rest-none : Resting s [] (λ n ms. ms)
  rest-none = record { follows = λ vs f. f; takes = λ t i. tells (λ K n vs h. refl) }

  pub rest_more : {us : List Word} {f : Marks} (p : Position) → Acting s us f → Resting s (sign comma p ∷ us) (λ n ms. plain n ∷ f n ms)
  unfolding among
  rest_more p x = record { follows = λ vs f. refl; takes = λ t i. by (λ K n. i.at-comma K n p ⊳ at (x.takes t i) K n) }

  pub arms-one : {us vs : List Word} {f g : Marks} (p : Position) → Acting s us f → MoreArmed s vs g → Armed s (sign do_word p ∷ (us ++ vs)) (λ n ms. plain n ∷ f n (g n ms))
  unfolding among
  arms-one p x y = record {
    heads = refl;
    takes = by (λ K n. plain_word_lem ⊳ starts-as building (before (then-move (list_done s (at (x.takes (more_of s) (more-tail s)) (make make_arm ∷ ask (arms_of s) ∷ K) n)) building) y.follows (at y.takes K n)));
    takes-more = by (λ K n. do-word s ⊳ starts-as building (before (then-move (list_done s (at (x.takes (more_of s) (more-tail s)) (make make_arm ∷ ask (arms_of s) ∷ K) n)) building) y.follows (at y.takes K n)));
  }

  pub arms_end : MoreArmed s [] (λ n ms. ms)
  arms_end = record { follows = λ vs f. f; takes = tells (λ K n vs h. refl) }

  pub arms_more : {us : List Word} {f : Marks} → Armed s us f → MoreArmed s us f
  arms_more {us} x = record { follows = λ vs f. heads-follow after_list us vs x.heads; takes = x.takes-more }

  pub act-when : {us vs ws : List Word} {f g h : Marks} (p q r : Position) → Boolean us f → Acting s vs g → Resting s ws h
      → Acting s (sign if_word p ∷ (us ++ sign then_word q ∷ (vs ++ sign end_if_word r ∷ ws))) (λ n ms. one counted (suc n) ∷ f (suc n) (plain (suc n) ∷ g (suc n) (plain n ∷ h n ms)))
  unfolding among
  act-when p q r x y z = record {
    takes = λ t i. by (λ K n.
        if_word_lem s ⊳ before (at (whole-expression x) (plain_word then_word ∷ make begin_list ∷ ask (action_of s) ∷ ask (more_of s) ∷ ask (if_rest_of s) ∷ ask t ∷ K) (suc n)) (λ xs _. refl) (plain_word_lem
        ⊳ starts-as building (before (list_done s (at (y.takes (more_of s) (more-tail s)) (ask (if_rest_of s) ∷ ask t ∷ K) (suc n))) (λ xs _. refl) (end-if-word s ⊳ starts-as building (at (z.takes t i) K n)))));
  }

  pub act-if : {us vs xs ws : List Word} {f g g₁ h : Marks} (p q r v : Position) → Boolean us f → Acting s vs g → Acting s xs g₁ → Resting s ws h
      → Acting s (sign if_word p ∷ (us ++ sign then_word q ∷ (vs ++ sign else_word r ∷ (xs ++ sign end_if_word v ∷ ws)))) (λ n ms. one counted (suc n) ∷ f (suc n) (plain (suc n) ∷ g (suc n) (plain (suc n) ∷ g₁ (suc n) (plain n ∷ h n ms))))
  unfolding among
  act-if p q r v x y y₁ z = record {
    takes = λ t i. by (λ K n.
        if_word_lem s ⊳ before (at (whole-expression x) (plain_word then_word ∷ make begin_list ∷ ask (action_of s) ∷ ask (more_of s) ∷ ask (if_rest_of s) ∷ ask t ∷ K) (suc n)) (λ xs _. refl) (plain_word_lem
        ⊳ starts-as building (before (list_done s (at (y.takes (more_of s) (more-tail s)) (ask (if_rest_of s) ∷ ask t ∷ K) (suc n))) (λ xs _. refl) (else-word s
        ⊳ starts-as building (before (list_done s (at (y₁.takes (more_of s) (more-tail s)) (closing end_if_word ∷ make make_if ∷ ask t ∷ K) (suc n))) (λ xs _. refl) (closing-word ⊳ starts-as building (at (z.takes t i) K n)))))));
  }

  pub act-case : {us vs ws : List Word} {f g h : Marks} (p q : Position) → Boolean us f → Armed s vs g → Resting s ws h
      → Acting s (sign case_word p ∷ (us ++ (vs ++ sign end_case_word q ∷ ws))) (λ n ms. one counted (suc n) ∷ f (suc n) (g (suc n) (plain n ∷ h n ms)))
  unfolding among
  act-case {vs = vs} {ws} p q x y z = record {
    takes = λ t i. by (λ K n.
        case-word s ⊳ before (at (whole-expression x) (make begin_list ∷ plain_word do_word ∷ make begin_list ∷ ask (action_of s) ∷ ask (more_of s) ∷ make make_arm ∷ ask (arms_of s) ∷ closing end_case_word ∷ make make_choose ∷ ask t ∷ K) (suc n)) (λ xs _. begun xs)
        (starts-as building (before {ks = (do_word ∷ []) ++ after_list} (ends-in (at y.takes (closing end_case_word ∷ make make_choose ∷ ask t ∷ K) (suc n)) (λ xs f. follows-right (do_word ∷ []) after_list xs f) (asking (λ xs f. follows-left (do_word ∷ []) after_list xs f) (no-arms s))) (λ xs _. refl)
        (closing-word ⊳ starts-as building (at (z.takes t i) K n)))));
  }
    where
      begun : (xs : List Word) → Follows after_or ((vs ++ sign end_case_word q ∷ ws) ++ xs)
      begun xs =
          subst (Follows after_or) (sym (append_assoc vs (sign end_case_word q ∷ ws) xs))
          (follows-right (comma ∷ colon ∷ open_paren ∷ delayed_sign ∷ equal_sign ∷ at_sign ∷ []) after_or (vs ++ sign end_case_word q ∷ (ws ++ xs)) (heads-follow after_list vs (sign end_case_word q ∷ (ws ++ xs)) y.heads))

-- ---- Names at the start of an action.

-- The kinds that keep it from counting.
abbrev pub left_kinds : Section → List ℕ
left_kinds in_operation = open_bracket ∷ con_word ∷ at_sign ∷ delayed_sign ∷ equal_sign ∷ []
left_kinds in_state = open_bracket ∷ at_sign ∷ []

pub named : (s : Section) (x : Name) (p : Position) (K : Stack) (n : ℕ) (vs : List Word) → tale (ask (action_of s) ∷ K) n (W.name x p ∷ vs) ≡ record { tallies = settled (some (left_kinds s)) vs []; depth = n } ∷ tale (ask (name_of s) ∷ K) n vs
unfolding tale eat pick waits_for rule_of
named in_operation x p K n vs = refl
named in_state x p K n vs = refl

left-next : (ks : List ℕ) (us : List Word) → Opens us → (k : ℕ) (q : Position) → among open_bracket ks ≡ true → among k ks ≡ true → (xs : List Word) → next_among (us ++ sign k q ∷ xs) ks ≡ true
left-next ks [] o k q e g xs = g
left-next ks (W.name n p ∷ us) o k q e g xs = absurd o
left-next ks (W.constant n p ∷ us) o k q e g xs = absurd o
left-next ks (W.sign j p ∷ us) o k q e g xs = subst (λ (i : ℕ). among i ks ≡ true) (sym o) e

-- A left side: the name does not count.
name-left : (s : Section) (x : Name) (y : Position) (us : List Word) → Opens us → (k : ℕ) (q : Position) (ws : List Word) → among open_bracket (left_kinds s) ≡ true → among k (left_kinds s) ≡ true
    → {ks : List ℕ} {K : Stack} {n : ℕ} {f : List Mark → List Mark} {L : Stack} {m : ℕ} → Goes ks (ask (name_of s) ∷ K) n (us ++ sign k q ∷ ws) f L m → Goes ks (ask (action_of s) ∷ K) n (W.name x y ∷ (us ++ sign k q ∷ ws)) (λ ms. plain n ∷ f ms) L m
name-left s x y us o k q ws e g {K = K} {n} z =
    goes (λ vs h. named s x y K n ((us ++ sign k q ∷ ws) ++ vs)
    ∙ ap (λ (b : Bool). record { tallies = cond b [] (counted ∷ []); depth = n } ∷ tale (ask (name_of s) ∷ K) n ((us ++ sign k q ∷ ws) ++ vs)) (ap (λ (l : List Word). next_among l (left_kinds s)) (append_assoc us (sign k q ∷ ws) vs) ∙ left-next (left_kinds s) us o k q e g (ws ++ vs))
    ∙ ap (λ (l : List Mark). plain n ∷ l) (z.says vs h))

-- An operation reference counts.
no-reference : (s : Section) (K : Stack) (n : ℕ) (vs : List Word) → Follows (left_kinds s) vs → tale (ask (name_of s) ∷ K) n vs ≡ tale K n vs
unfolding rule_of
no-reference in_operation K n vs h = after-counting operation_name (rule_of tree_steps operation_name).ways make_perform refl K n vs h
no-reference in_state K n vs h = after-counting state_name (rule_of tree_steps state_name).ways make_perform refl K n vs h

left-within : (s : Section) → within (left_kinds s) after_action ≡ true
unfolding within among
left-within in_operation = refl
left-within in_state = refl

pub act-perform : {s : Section} {ws : List Word} {f : Marks} (x : Name) (p : Position) → Resting s ws f → Acting s (W.name x p ∷ ws) (λ n ms. one counted n ∷ f n ms)
act-perform {s} {ws} {f} x p z = record { takes = λ t i. tells (λ K n vs h. go t i K n vs (follows-within (left_kinds s) after_action (left-within s) (ws ++ vs) (z.follows vs h)) h) }
  where
    go : (t : Ask) → Tail s t → (K : Stack) (n : ℕ) (vs : List Word) → Follows (left_kinds s) (ws ++ vs) → Follows after_action vs → tale (ask (action_of s) ∷ ask t ∷ K) n (W.name x p ∷ (ws ++ vs)) ≡ one counted n ∷ f n (tale (ask t ∷ K) n vs)
    go t i K n vs g h =
        named s x p (ask t ∷ K) n (ws ++ vs)
        ∙ ap (λ (b : Bool). record { tallies = cond b [] (counted ∷ []); depth = n } ∷ tale (ask (name_of s) ∷ ask t ∷ K) n (ws ++ vs)) (none-next (left_kinds s) (ws ++ vs) g)
        ∙ ap (λ (l : List Mark). one counted n ∷ l) (no-reference s (ask t ∷ K) n (ws ++ vs) g ∙ (z.takes t i).says K n vs h)

-- ---- References that are set or stored to.

module _ (a next : Ask) (k : ℕ) (q : Position)
    (bracket : (K : Stack) (n : ℕ) (o : Position) (vs : List Word) → tale (ask a ∷ K) n (sign open_bracket o ∷ vs) ≡ tale (ask subscripts ∷ ask next ∷ K) n (sign open_bracket o ∷ vs))
    (mark : (K : Stack) (n : ℕ) (vs : List Word) → tale (ask a ∷ K) n (sign k q ∷ vs) ≡ tale (ask subscripts ∷ ask next ∷ K) n (sign k q ∷ vs)) where
  referred : (us : List Word) → Opens us → (ws : List Word) {ks : List ℕ} {K : Stack} {n : ℕ} {f : List Mark → List Mark} {L : Stack} {m : ℕ} → Goes ks (ask subscripts ∷ ask next ∷ K) n (us ++ sign k q ∷ ws) f L m → Goes ks (ask a ∷ K) n (us ++ sign k q ∷ ws) f L m
  referred [] o ws {K = K} {n} x = goes (λ vs h. mark K n (ws ++ vs) ∙ x.says vs h)
  referred (W.name y p ∷ us) o ws x = absurd o
  referred (W.constant y p ∷ us) o ws x = absurd o
  referred (W.sign j p ∷ us) o ws {K = K} {n} x =
      goes (λ vs h. subst (λ i. tale (ask a ∷ K) n (sign i p ∷ ((us ++ sign k q ∷ ws) ++ vs)) ≡ tale (ask subscripts ∷ ask next ∷ K) n (sign i p ∷ ((us ++ sign k q ∷ ws) ++ vs))) (sym o) (bracket K n p ((us ++ sign k q ∷ ws) ++ vs)) ∙ x.says vs h)

set_word : {K : Stack} {n : ℕ} {p : Position} (s : Section) → Goes [] (ask (set_of s) ∷ K) n (sign at_sign p ∷ []) (λ ms. one counted n ∷ ms) (make make_set ∷ K) n
unfolding tale eat pick waits_for rule_of
set_word in_operation = goes (λ ws _. refl)
set_word in_state = goes (λ ws _. refl)

set-referred : (s : Section) (us : List Word) → Opens us → (p : Position) (ws : List Word) {ks : List ℕ} {K : Stack} {n : ℕ} {f : List Mark → List Mark} {L : Stack} {m : ℕ} → Goes ks (ask subscripts ∷ ask (set_of s) ∷ K) n (us ++ sign at_sign p ∷ ws) f L m → Goes ks (ask (name_of s) ∷ K) n (us ++ sign at_sign p ∷ ws) f L m
unfolding tale eat pick waits_for rule_of
set-referred in_operation us o p ws x = referred operation_name left_rest at_sign p (λ K n o vs. refl) (λ K n vs. refl) us o ws x
set-referred in_state us o p ws x = referred state_name set_sign at_sign p (λ K n o vs. refl) (λ K n vs. refl) us o ws x

set-kinds : (s : Section) → (among open_bracket (left_kinds s) ≡ true) × (among at_sign (left_kinds s) ≡ true)
unfolding among
set-kinds in_operation = (refl, refl)
set-kinds in_state = (refl, refl)

pub act-set : (s : Section) (x : Name) (y : Position) (us : List Word) → Opens us → {ws : List Word} (f : Marks) {g : Marks} (p : Position) → Behind us f → Resting s ws g → Acting s (W.name x y ∷ (us ++ sign at_sign p ∷ ws)) (λ n ms. f n (one counted n ∷ g n ms))
unfolding among
act-set s x y us o {ws} f {g} p z r = record {
  takes = λ t i. by (λ K n.
      remarked (λ ms. f n (one counted n ∷ g n ms)) (λ ms. sym (z.first_plain n (one counted n ∷ g n ms)))
      (name-left s x y us o at_sign p ws (set-kinds s).0 (set-kinds s).1 (set-referred s us o p ws (before (at z.goes (ask (set_of s) ∷ ask t ∷ K) n) (λ vs _. refl) (set_word s ⊳ starts-as building (at (r.takes t i) K n))))));
}

-- Left sides, up to and with the store's sign; the first word is the name.
pub record Sided (us : List Word) (f : Marks) : Type 0 where
  pub rest : Marks
  pub first_plain : (n : ℕ) (ms : List Mark) → ◌≡◌ {A = List Mark} (f n ms) (plain n ∷ rest n ms)
  pub next : (k : ℕ) (q : Position) → is_store k ≡ true → (xs : List Word) → next_among (us ++ sign k q ∷ xs) (left_kinds in_operation) ≡ true
  pub goes : (k : ℕ) (q : Position) → is_store k ≡ true → (K : Stack) (n : ℕ) → Goes [] (ask operation_name ∷ K) n (us ++ sign k q ∷ []) (λ ms. rest n (one counted n ∷ ms)) (ask M.expression ∷ make make_store ∷ K) n

abbrev pub Siding : List Word → Marks → Type 0
Siding [] f = ⊥
Siding (W.name x p ∷ us) f = Sided us f
Siding (W.constant c p ∷ us) f = ⊥
Siding (W.sign k p ∷ us) f = ⊥

store_word : (k : ℕ) (p : Position) (K : Stack) (n : ℕ) → is_store k ≡ true → Goes [] (ask left_rest ∷ K) n (sign k p ∷ []) (λ ms. one counted n ∷ ms) (ask M.expression ∷ make make_store ∷ K) n
unfolding tale eat pick waits_for rule_of
store_word k p K n i = store-kinds (λ k. Goes [] (ask left_rest ∷ K) n (sign k p ∷ []) (λ ms. one counted n ∷ ms) (ask M.expression ∷ make make_store ∷ K) n) (goes (λ ws _. refl)) (goes (λ ws _. refl)) k i

pair-store-word : (k : ℕ) (p : Position) (K : Stack) (n : ℕ) → is_store k ≡ true → Goes [] (ask store_sign ∷ K) n (sign k p ∷ []) (λ ms. one counted n ∷ ms) (ask M.expression ∷ make make_store ∷ K) n
unfolding tale eat pick waits_for rule_of
pair-store-word k p K n i = store-kinds (λ k. Goes [] (ask store_sign ∷ K) n (sign k p ∷ []) (λ ms. one counted n ∷ ms) (ask M.expression ∷ make make_store ∷ K) n) (goes (λ ws _. refl)) (goes (λ ws _. refl)) k i

con-word : {K : Stack} {n : ℕ} {p q : Position} {x : Name} → Goes [] (ask left_rest ∷ K) n (sign con_word p ∷ W.name x q ∷ []) (λ ms. plain n ∷ plain n ∷ ms) (ask subscripts ∷ make make_pair ∷ ask store_sign ∷ K) n
unfolding tale eat pick waits_for rule_of
con-word = goes (λ ws _. refl)

store-left : (k : ℕ) → is_store k ≡ true → among k (left_kinds in_operation) ≡ true
unfolding among
store-left k i = store-kinds (λ k. among k (left_kinds in_operation) ≡ true) refl refl k i

bracket-left : among open_bracket (left_kinds in_operation) ≡ true
unfolding among
bracket-left = refl

con-left : among con_word (left_kinds in_operation) ≡ true
unfolding among
con-left = refl

one_side : (us : List Word) → Opens us → (f : Marks) → Behind us f → Sided us f
unfolding tale eat pick waits_for rule_of among
one_side us o f z = record {
  rest = z.rest;
  first_plain = z.first_plain;
  next = λ k q i xs. left-next (left_kinds in_operation) us o k q bracket-left (store-left k i) xs;
  goes = λ k q i K n.
      store-kinds (λ k. Goes [] (ask left_rest ∷ K) n (sign k q ∷ []) (λ ms. one counted n ∷ ms) (ask M.expression ∷ make make_store ∷ K) n → Goes [] (ask operation_name ∷ K) n (us ++ sign k q ∷ []) (λ ms. z.rest n (one counted n ∷ ms)) (ask M.expression ∷ make make_store ∷ K) n)
      (λ y. referred operation_name left_rest delayed_sign q (λ K n o vs. refl) (λ K n vs. refl) us o [] (before (at z.goes (ask left_rest ∷ K) n) (λ ws _. refl) y))
      (λ y. referred operation_name left_rest equal_sign q (λ K n o vs. refl) (λ K n vs. refl) us o [] (before (at z.goes (ask left_rest ∷ K) n) (λ ws _. refl) y)) k i (store_word k q K n i);
}

pub left_one : (us : List Word) (x : Name) (p : Position) → Opens us → (f : Marks) → Behind us f → Siding (W.name x p ∷ us) f
left_one us x p o f z = one_side us o f z

pub left-two : (us vs : List Word) (x y : Name) (p q r : Position) → Opens us → (f g : Marks) → Behind us f → Behind vs g → Siding (W.name x p ∷ (us ++ sign con_word r ∷ W.name y q ∷ vs)) (λ n ms. f n (plain n ∷ g n ms))
unfolding tale eat pick waits_for rule_of among
left-two us vs x y p q r o f g z w = record {
  rest = λ n ms. z.rest n (plain n ∷ plain n ∷ w.rest n ms);
  first_plain = λ n ms. ap (λ (l : List Mark). f n (plain n ∷ l)) (w.first_plain n ms) ∙ z.first_plain n (plain n ∷ plain n ∷ w.rest n ms);
  next = λ k m i xs. ap (λ (l : List Word). next_among l (left_kinds in_operation)) (append_assoc us (sign con_word r ∷ W.name y q ∷ vs) (sign k m ∷ xs)) ∙ left-next (left_kinds in_operation) us o con_word r bracket-left con-left (W.name y q ∷ (vs ++ sign k m ∷ xs));
  goes = λ k m i K n.
      respelt (sym (append_assoc us (sign con_word r ∷ W.name y q ∷ vs) (sign k m ∷ [])))
      (referred operation_name left_rest con_word r (λ K n o vs. refl) (λ K n vs. refl) us o (W.name y q ∷ (vs ++ sign k m ∷ []))
      (before (at z.goes (ask left_rest ∷ K) n) (λ ws _. refl) (then-words con-word (before (then-move (at w.goes (make make_pair ∷ ask store_sign ∷ K) n) building) (λ ws _. free_of k i) (pair-store-word k m K n i)))));
}
  where
    free_of : (k : ℕ) → is_store k ≡ true → among k after_term ≡ false
    free_of k i = store-kinds (λ k. among k after_term ≡ false) refl refl k i

pub act-store : (k : ℕ) (x : Name) (y : Position) (us : List Word) {vs ws : List Word} (f : Marks) {g h : Marks} (p : Position) → is_store k ≡ true → Sided us f → Boolean vs g → Resting in_operation ws h
    → Acting in_operation (W.name x y ∷ (us ++ sign k p ∷ (vs ++ ws))) (λ n ms. f n (one counted n ∷ g n (h n ms)))
unfolding within among
act-store k x y us {vs} {ws} f {g} {h} p i z b r = record {
  takes = λ t j. by (λ K n.
      remarked (λ ms. f n (one counted n ∷ g n (h n ms))) (λ ms. sym (z.first_plain n (one counted n ∷ g n (h n ms)))) (go t K n
      (respelt (append_assoc us (sign k p ∷ []) (vs ++ ws)) (then-words (z.goes k p i (ask t ∷ K) n)
      (before (then-move (at (whole-expression b) (make make_store ∷ ask t ∷ K) n) building) (λ xs q. follows-within after_or after_action refl (ws ++ xs) (r.follows xs q)) (at (r.takes t j) K n))))));
}
  where
    go : (t : Ask) (K : Stack) (n : ℕ) {e : List Mark → List Mark} → Goes after_action (ask operation_name ∷ ask t ∷ K) n (us ++ sign k p ∷ (vs ++ ws)) e (ask t ∷ K) n → Goes after_action (ask operation_action ∷ ask t ∷ K) n (W.name x y ∷ (us ++ sign k p ∷ (vs ++ ws))) (λ ms. plain n ∷ e ms) (ask t ∷ K) n
    go t K n u =
        goes (λ xs q. named in_operation x y (ask t ∷ K) n ((us ++ sign k p ∷ (vs ++ ws)) ++ xs)
        ∙ ap (λ (b : Bool). record { tallies = cond b [] (counted ∷ []); depth = n } ∷ tale (ask operation_name ∷ ask t ∷ K) n ((us ++ sign k p ∷ (vs ++ ws)) ++ xs)) (ap (λ (l : List Word). next_among l (left_kinds in_operation)) (append_assoc us (sign k p ∷ (vs ++ ws)) xs) ∙ z.next k p i ((vs ++ ws) ++ xs))
        ∙ ap (λ (l : List Mark). plain n ∷ l) (u.says xs q))

-- ---- In a state: where it goes on.

pub act-goto : {ws : List Word} {f : Marks} (x : Name) (p q : Position) → Resting in_state ws f → Acting in_state (sign goto_sign p ∷ W.name x q ∷ ws) (λ n ms. one counted n ∷ plain n ∷ f n ms)
unfolding tale eat pick waits_for rule_of
act-goto x p q r = record { takes = λ t i. by (λ K n. then-words {us = sign goto_sign p ∷ W.name x q ∷ []} (eats t K n) (starts-as building (at (r.takes t i) K n))) }
  where
    eats : (t : Ask) (K : Stack) (n : ℕ) → Goes [] (ask state_action ∷ ask t ∷ K) n (sign goto_sign p ∷ W.name x q ∷ []) (λ ms. one counted n ∷ plain n ∷ ms) (make make_goto ∷ ask t ∷ K) n
    eats t K n = goes (λ ws _. refl)

pub act-call : {ws : List Word} {f : Marks} (x : Name) (p q : Position) → Resting in_state ws f → Acting in_state (sign call_sign p ∷ W.name x q ∷ ws) (λ n ms. one counted n ∷ plain n ∷ f n ms)
unfolding tale eat pick waits_for rule_of
act-call x p q r = record { takes = λ t i. by (λ K n. then-words {us = sign call_sign p ∷ W.name x q ∷ []} (eats t K n) (starts-as building (at (r.takes t i) K n))) }
  where
    eats : (t : Ask) (K : Stack) (n : ℕ) → Goes [] (ask state_action ∷ ask t ∷ K) n (sign call_sign p ∷ W.name x q ∷ []) (λ ms. one counted n ∷ plain n ∷ ms) (make make_call ∷ ask t ∷ K) n
    eats t K n = goes (λ ws _. refl)

pub act-return : {ws : List Word} {f : Marks} (p : Position) → Resting in_state ws f → Acting in_state (sign return_word p ∷ ws) (λ n ms. one counted n ∷ f n ms)
unfolding tale eat pick waits_for rule_of
act-return p r = record { takes = λ t i. by (λ K n. eats t K n ⊳ starts-as building (at (r.takes t i) K n)) }
  where
    eats : (t : Ask) (K : Stack) (n : ℕ) → Goes [] (ask state_action ∷ ask t ∷ K) n (sign return_word p ∷ []) (λ ms. one counted n ∷ ms) (make make_return ∷ ask t ∷ K) n
    eats t K n = goes (λ ws _. refl)
