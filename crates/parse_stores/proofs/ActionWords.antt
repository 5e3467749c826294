-- The machine's words where a simple action begins or goes on.
use mathlib.Core.Bool.{Bool, true, false, cond}
use mathlib.Core.List.{List, [], ◌∷◌}
use mathlib.Core.Path.{◌≡◌, refl, sym, ap, ◌∙◌}
use Prim.Native.Nat.{ℕ, suc}
use native.Mathlib.Omega.{arith}
use borrow.Author.Tests.{ne_eqb}
use lib.ListN.{length}
use Rattle.language.specs.declared.refusals.Refusal.TheVariants.{CeilingPassed, NoContinuation}
use Rattle.parse_step.proofs.Looking.{View, begun, ended, name-ahead, name_word, sign-ahead, view}
use Rattle.parse_step.proofs.TakenWords.{on_taken, taken-on}
use Rattle.parse_step.specs.Course.{Seen, Stack, ahead, behind, kind_no, runs_on}
use Rattle.parse_step.specs.Says.{pushed}
use Rattle.about_grammar.specs.Following.{among, among_first, among-rest}
use Rattle.about_grammar.specs.Stacks.{asks, asks-end, choose-none, kinds_of}
use Rattle.language.specs.Building.{Built, expression_no, keep_word, list_no, with_lefts, word_no}
use Rattle.language.specs.Declaring.{tree_steps}
use Rattle.language.specs.Kinds.{a_name, at_sign, call_sign, con_word, delayed_sign, equal_sign, goto_sign, open_bracket, return_word}
use Rattle.language.specs.Machine.{Alternative, Ask, Counts, Fed, Parsed, Reading, after, ask, choose, counted, expression, feed, finish, keep, left_rest, make, more, operand, operation_name, reading, refused, run, set_sign, state_action, state_name, store_sign, subscripts, tallied, within_ceilings, wrong}
use Rattle.language.specs.SectionWays.{rule_of}
use Rattle.language.specs.Tree as T
use Rattle.language.specs.Tree.{Expression, Name}
use Rattle.language.specs.Words as L
use Rattle.language.specs.Words.{fault}
use Rattle.parse_levels.proofs.HeadWords.{among-first-or, among_none}
use Rattle.parse_operands.proofs.TermWords.{counts_after}
use Rattle.text_words.specs.declared.Word.{Word}
use Rattle.text_words.specs.Meaning.{positioned}
use Rattle.parse_stores.specs.Actions.{grown}

module _ (text : List ℕ) (w : Word) (z : Seen text w) (b : Built) (c : Counts) where
  abbrev on : Stack → Parsed Built
  on K = runs_on text K (ahead text w) b c

  abbrev at : L.Position
  at = positioned w.at

  abbrev k : ℕ
  k = kind_no w.kind

  -- One more is counted.
  abbrev one : Counts
  one = counts_after c (suc c.counted) c.nesting

  -- ---- A name that must come.

  pub name-kept : k ≡ a_name → (K : Stack) → on (keep a_name ∷ K) ≡ runs_on text K (behind text w) (keep_word (name_word text w) b) c
  unfolding runs_on run feed
  name-kept e K = rw (name-ahead text w z e)

  pub no_name : (k ≡ a_name → ⊥) → (K : Stack) → on (keep a_name ∷ K) ≡ refused (fault at NoContinuation)
  unfolding runs_on run feed finish
  no_name n K = go (view text w z)
    where
      go : View text w → on (keep a_name ∷ K) ≡ refused (fault at NoContinuation)
      go (ended x y q) = rw (x, y)
      go (begun v x q y) = rw (x, q, ne_eqb k a_name n, y)

  -- ---- Signs in a state.

  pub goto-comes : k ≡ goto_sign → (K : Stack) → on (ask state_action ∷ K) ≡ on_taken text w (keep a_name ∷ make tree_steps.make_goto ∷ K) b one
  unfolding runs_on run feed choose rule_of tallied
  goto-comes e K = rw (sign-ahead text w goto_sign e (omega arith)) (taken-on text at _ (behind text w) _ _)

  pub call-comes : k ≡ call_sign → (K : Stack) → on (ask state_action ∷ K) ≡ on_taken text w (keep a_name ∷ make tree_steps.make_call ∷ K) b one
  unfolding runs_on run feed choose rule_of tallied
  call-comes e K = rw (sign-ahead text w call_sign e (omega arith)) (taken-on text at _ (behind text w) _ _)

  pub return-comes : k ≡ return_word → (K : Stack) → on (ask state_action ∷ K) ≡ on_taken text w (make tree_steps.make_return ∷ K) (keep_word (L.sign return_word at) b) one
  unfolding runs_on run feed choose rule_of tallied
  return-comes e K = rw (sign-ahead text w return_word e (omega arith)) (taken-on text at _ (behind text w) _ _)

  -- ---- What goes on with a reference.

  pub set-comes : k ≡ at_sign → (K : Stack) → on (ask set_sign ∷ K) ≡ on_taken text w (make tree_steps.make_set ∷ K) (keep_word (L.sign at_sign at) b) one
  unfolding runs_on run feed choose rule_of tallied
  set-comes e K = rw (sign-ahead text w at_sign e (omega arith)) (taken-on text at _ (behind text w) _ _)

  pub no-set : (k ≡ at_sign → ⊥) → (K : Stack) → on (ask set_sign ∷ K) ≡ refused (fault at NoContinuation)
  unfolding runs_on run feed finish choose rule_of
  no-set n K = go (view text w z)
    where
      go : View text w → on (ask set_sign ∷ K) ≡ refused (fault at NoContinuation)
      go (ended x y q) = rw (x, y)
      go (begun v x q y) = rw (x, q, ne_eqb k at_sign n, y)

  -- Behind a store's sign its right side comes.
  abbrev right : Stack → Stack
  right K = ask expression ∷ make tree_steps.make_store ∷ K

  delayed-comes : k ≡ delayed_sign → (K : Stack) → on (ask store_sign ∷ K) ≡ on_taken text w (right K) (keep_word (L.sign delayed_sign at) b) one
  unfolding runs_on run feed choose rule_of tallied
  delayed-comes e K = rw (sign-ahead text w delayed_sign e (omega arith)) (taken-on text at _ (behind text w) _ _)

  equal-comes : k ≡ equal_sign → (K : Stack) → on (ask store_sign ∷ K) ≡ on_taken text w (right K) (keep_word (L.sign equal_sign at) b) one
  unfolding runs_on run feed choose rule_of tallied
  equal-comes e K = rw (sign-ahead text w equal_sign e (omega arith)) (taken-on text at _ (behind text w) _ _)

  pub store-comes : among k (delayed_sign ∷ equal_sign ∷ []) ≡ true → (K : Stack) → on (ask store_sign ∷ K) ≡ on_taken text w (right K) (keep_word (L.sign k at) b) one
  store-comes e K =
      let kept : (j : ℕ) → k ≡ j → on_taken text w (right K) (keep_word (L.sign j at) b) one ≡ on_taken text w (right K) (keep_word (L.sign k at) b) one =
      λ j q. ap (λ (i : ℕ). on_taken text w (right K) (keep_word (L.sign i at) b) one) (sym q) in
      among-first-or k delayed_sign (equal_sign ∷ []) e (λ q. delayed-comes q K ∙ kept delayed_sign q) λ e₁.
      among-first-or k equal_sign [] e₁ (λ q. equal-comes q K ∙ kept equal_sign q) (among_none k)

  pub no_store : among k (delayed_sign ∷ equal_sign ∷ []) ≡ false → (K : Stack) → on (ask store_sign ∷ K) ≡ refused (fault at NoContinuation)
  unfolding runs_on run feed finish choose rule_of
  no_store h K = go (view text w z)
    where
      go : View text w → on (ask store_sign ∷ K) ≡ refused (fault at NoContinuation)
      go (ended x y q) = rw (x, y)
      go (begun v x q y) = rw (x, q, among_first k delayed_sign (equal_sign ∷ []) h, among_first k equal_sign [] (among-rest k delayed_sign (equal_sign ∷ []) h), y)

  -- CON joins a second reference.
  pub con-comes : k ≡ con_word → (K : Stack) → on (ask left_rest ∷ K) ≡ on_taken text w (keep a_name ∷ ask subscripts ∷ make tree_steps.make_pair ∷ ask store_sign ∷ K) b c
  unfolding runs_on run feed choose rule_of tallied
  con-comes e K = rw (sign-ahead text w con_word e (omega arith)) (taken-on text at _ (behind text w) _ _)

  pub set-left : k ≡ at_sign → (K : Stack) → on (ask left_rest ∷ K) ≡ on (ask set_sign ∷ K)
  unfolding runs_on run feed choose rule_of tallied
  set-left e K = rw (sign-ahead text w at_sign e (omega arith))

  -- ---- A name by the word behind it.

  pub left-begins : among k (open_bracket ∷ con_word ∷ at_sign ∷ delayed_sign ∷ equal_sign ∷ []) ≡ true → (K : Stack) → on (ask operation_name ∷ K) ≡ on (ask subscripts ∷ ask left_rest ∷ K)
  unfolding runs_on run feed choose rule_of tallied
  left-begins e K =
      among-first-or k open_bracket (con_word ∷ at_sign ∷ delayed_sign ∷ equal_sign ∷ []) e (λ q. rw (sign-ahead text w open_bracket q (omega arith))) λ e₁.
      among-first-or k con_word (at_sign ∷ delayed_sign ∷ equal_sign ∷ []) e₁ (λ q. rw (sign-ahead text w con_word q (omega arith))) λ e₂.
      among-first-or k at_sign (delayed_sign ∷ equal_sign ∷ []) e₂ (λ q. rw (sign-ahead text w at_sign q (omega arith))) λ e₃.
      among-first-or k delayed_sign (equal_sign ∷ []) e₃ (λ q. rw (sign-ahead text w delayed_sign q (omega arith))) λ e₄.
      among-first-or k equal_sign [] e₄ (λ q. rw (sign-ahead text w equal_sign q (omega arith))) (among_none k)

  pub set-begins : among k (open_bracket ∷ at_sign ∷ []) ≡ true → (K : Stack) → on (ask state_name ∷ K) ≡ on (ask subscripts ∷ ask set_sign ∷ K)
  unfolding runs_on run feed choose rule_of tallied
  set-begins e K =
      among-first-or k open_bracket (at_sign ∷ []) e (λ q. rw (sign-ahead text w open_bracket q (omega arith))) λ e₁.
      among-first-or k at_sign [] e₁ (λ q. rw (sign-ahead text w at_sign q (omega arith))) (among_none k)

-- A store by its sign, behind one reference.
pub store-left : (text : List ℕ) (w : Word) → Seen text w → (c : Counts) → (kind_no w.kind ≡ con_word → ⊥) → (kind_no w.kind ≡ at_sign → ⊥) → (e : Expression) (b : Built) (K : Stack)
    → runs_on text (ask left_rest ∷ K) (ahead text w) (pushed e b) c ≡ runs_on text (ask store_sign ∷ K) (ahead text w) (with_lefts b (T.single e ∷ b.lefts)) c
unfolding runs_on run feed finish choose rule_of tallied expression_no
store-left text w z c n m e b K = go (view text w z)
  where
    go : View text w → runs_on text (ask left_rest ∷ K) (ahead text w) (pushed e b) c ≡ runs_on text (ask store_sign ∷ K) (ahead text w) (with_lefts b (T.single e ∷ b.lefts)) c
    go (ended x y q) = rw (x, y)
    go (begun v x q y) = rw (x, q, ne_eqb (kind_no w.kind) con_word n, ne_eqb (kind_no w.kind) at_sign m)

-- ---- A name alone performs an operation, and counts.

module _ (text : List ℕ) (w : Word) (z : Seen text w) (c : Counts) (n : Name) (p : L.Position) (b : Built) (K : Stack) where
  abbrev performed : Parsed Built
  performed = cond (within_ceilings (more counted c)) (runs_on text K (ahead text w) (grown (T.perform n p T.done) b) (more counted c)) (refused (fault p CeilingPassed))

  by-test : (q : Bool) (f : Fed Built) (on : Stack → Reading Built → Parsed Built)
      → after tree_steps within_ceilings (rule_of tree_steps) (cond q f (wrong (fault p CeilingPassed))) on ≡ cond q (after tree_steps within_ceilings (rule_of tree_steps) f on) (refused (fault p CeilingPassed))
  by-test true f on = refl
  by-test false f on = refl

  performs : (a : Ask) (ways : List (Alternative Built)) → rule_of tree_steps a ≡ record { ways = ways; without = operand tree_steps.make_perform } → among (kind_no w.kind) (kinds_of ways) ≡ false
      → runs_on text (ask a ∷ K) (ahead text w) (keep_word (L.name n p) b) c ≡ performed
  unfolding runs_on run word_no list_no
  performs a ways e h = go (view text w z)
    where
      r : Reading Built
      r = reading (keep_word (L.name n p) b) c

      go : View text w → runs_on text (ask a ∷ K) (ahead text w) (keep_word (L.name n p) b) c ≡ performed
      go (ended x y q) = rw x (asks-end tree_steps within_ceilings (rule_of tree_steps) a (record { ways = ways; without = operand tree_steps.make_perform }) e K (length text) r)
      go (begun v x q y) =
          let on : Stack → Reading Built → Parsed Built = λ M s. run tree_steps within_ceilings (rule_of tree_steps) M (behind text w) (length text) s in
          rw x
          (ap (λ (f : Fed Built). after tree_steps within_ceilings (rule_of tree_steps) f on)
          (asks tree_steps within_ceilings (rule_of tree_steps) a (record { ways = ways; without = operand tree_steps.make_perform }) e K v r ∙ choose-none tree_steps within_ceilings ways v (rw q h) K r _)
          ∙ by-test (within_ceilings (more counted c)) (feed tree_steps within_ceilings (rule_of tree_steps) K v (reading (grown (T.perform n p T.done) b) (more counted c))) on)

  pub performs-in-operation : among (kind_no w.kind) (open_bracket ∷ con_word ∷ at_sign ∷ delayed_sign ∷ equal_sign ∷ []) ≡ false → runs_on text (ask operation_name ∷ K) (ahead text w) (keep_word (L.name n p) b) c ≡ performed
  unfolding rule_of
  performs-in-operation h = performs operation_name _ refl h

  pub performs-in-state : among (kind_no w.kind) (open_bracket ∷ at_sign ∷ []) ≡ false → runs_on text (ask state_name ∷ K) (ahead text w) (keep_word (L.name n p) b) c ≡ performed
  unfolding rule_of
  performs-in-state h = performs state_name _ refl h
