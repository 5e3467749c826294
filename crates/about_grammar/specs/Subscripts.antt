-- A subscript that is an expression: the machine waits behind a constant for a colon, and otherwise reads it as the expression it is.
use Rattle.std.specs.Prelude.{Bool, false, List, [], ◌∷◌, ◌++◌, map, ◌≡◌, ℕ, ◌≤◌, eqb, drop, take}
use Rattle.std.proofs.Common.{◌∙◌, arith}
use Rattle.std.proofs.Math.Path.{ap, sym, refl}
use Rattle.language.specs.Alternatives.{always, closing, followed, kept}
use Rattle.language.specs.Building.{Built, keep_word, make_constant, make_part, make_word_part}
use Rattle.language.specs.CountedWords.{counted_expression}
use Rattle.language.specs.Declaring.{tree_steps}
use Rattle.language.specs.Kinds.{a_constant, close_bracket, colon}
use Rattle.language.specs.Machine as M
use Rattle.language.specs.Machine.{Ask, Counts, Fed, Reading, Sym, after_constant, after_second_constant, after_subscript, and_tail, arithmetic_tail, ask, choose, con_tail, counted, cut_tail, exclusive_tail, feed, finish, keep, make, more, operand_rest, or_tail, reading, relation_tail, run, second, second_end, second_rest, stuck, subscript, tallied}
use Rattle.language.specs.Notions.{expression}
use Rattle.language.specs.SectionWays.{rule_of}
use Rattle.language.specs.Tree as T
use Rattle.language.specs.Tree.{Expression}
use Rattle.language.specs.Ways.{colon_instead, expression_ways, other_term_ways, subscript_ways, term_ways}
use Rattle.language.specs.Words as W
use Rattle.language.specs.Words.{Position, Word, sign}
use Rattle.about_grammar.specs.Courses.{Ceiling, Comes, Room, Stack, Under, comes, runs, took_it}
use Rattle.about_grammar.specs.Following.{Follows, after_or, among, follows-left, follows-right, none-following}
use Rattle.about_grammar.specs.Levels.{Boolean, whole-expression}
use Rattle.about_grammar.specs.Operators.{building, leaving-counted}
use Rattle.about_grammar.specs.Stacks.{asks, choose-append, choose-followed, choose-none, on, plain_ways, same-run}
use Rattle.about_grammar.specs.Taking.{Apart, Arrives, Heads, NoPart, arriving, not_boolean, push}

-- Each expression counts.
pub counts-one : (e : Expression) → 1 ≤ counted_expression e
unfolding counted_expression
counts-one (T.constant c p) = omega arith
counts-one (T.whole n p) = omega arith
counts-one (T.one n p e) = omega arith
counts-one (T.part n p x) = omega arith
counts-one (T.two n p e f) = omega arith
counts-one (T.word_part n p e x) = omega arith
counts-one (T.binary k p e f) = omega arith
counts-one (T.prefix k p e) = omega arith
counts-one (T.cut k p e c) = omega arith
counts-one (T.choice p e f) = omega arith
counts-one (T.first_arm e) = counts-one e
counts-one (T.next_arm e f) = omega (arith, counts-one e)

abbrev tails : Stack
tails = ask arithmetic_tail ∷ ask relation_tail ∷ ask cut_tail ∷ ask con_tail ∷ ask and_tail ∷ ask exclusive_tail ∷ ask or_tail ∷ []

module _ (fits : Counts → Bool) where
  -- A sign begins an expression the same way whether or not a constant might.
  pub sign-alike : (k : ℕ) (p : Position) → eqb k a_constant ≡ false → (K : Stack) (r : Reading Built) (o : Fed Built)
      → choose tree_steps fits (expression_ways tree_steps (other_term_ways tree_steps)) (sign k p) K r o ≡ choose tree_steps fits (expression_ways tree_steps (term_ways tree_steps)) (sign k p) K r o
  unfolding among
  sign-alike k p e K r o =
      let ways = expression_ways tree_steps (term_ways tree_steps) in
      choose-append tree_steps fits (take 6 ways) (drop 7 ways) (sign k p) K r o
      ∙ ap (choose tree_steps fits (take 6 ways) (sign k p) K r) (sym (choose-none tree_steps fits (take 1 (drop 6 ways)) (sign k p) (rw e refl) K r (choose tree_steps fits (drop 7 ways) (sign k p) K r o)))
      ∙ ap (choose tree_steps fits (take 6 ways) (sign k p) K r) (sym (choose-append tree_steps fits (take 1 (drop 6 ways)) (drop 7 ways) (sign k p) K r o))
      ∙ sym (choose-append tree_steps fits (take 6 ways) (drop 6 ways) (sign k p) K r o)

module _ (C : Ceiling) where
  module _ (start waits rest ending : Ask) (part : List (Sym Built)) (starts : rule_of tree_steps start ≡ always (subscript_ways tree_steps waits rest (ask ending ∷ [])))
      (waiting : rule_of tree_steps waits ≡ record { ways = colon_instead tree_steps part ∷ []; without = M.operand make_constant })
      (goes_on : (K : Stack) (r : Reading Built) (vs : List Word) (end : ℕ) → runs C (ask rest ∷ K) vs end r ≡ runs C (tails ++ ask ending ∷ K) vs end r) where
    started : (K : Stack) (b : Built) (c : Counts) → Under C.top c → Under C.top (more counted c) → (w : Word) (vs : List Word) → Apart (w ∷ vs) → (end : ℕ)
        → runs C (ask start ∷ K) (w ∷ vs) end (reading b c) ≡ runs C (ask M.expression ∷ ask ending ∷ K) (w ∷ vs) end (reading b c)
    unfolding run feed choose rule_of on plain_ways tallied among
    started K b c u v (W.name n p) vs a end =
        ap (on tree_steps C.fits (rule_of tree_steps) vs end) (asks tree_steps C.fits (rule_of tree_steps) start (always (subscript_ways tree_steps waits rest (ask ending ∷ []))) starts K (W.name n p) (reading b c))
    started K b c u v (W.constant n p) vs a end =
        ap (on tree_steps C.fits (rule_of tree_steps) vs end) (asks tree_steps C.fits (rule_of tree_steps) start (always (subscript_ways tree_steps waits rest (ask ending ∷ []))) starts K (W.constant n p) (reading b c))
        ∙ took_it C p (ask waits ∷ ask rest ∷ K) (keep_word (W.constant n p) b) c u (λ L q. runs C L vs end q)
        ∙ (leaving-counted {C = C} (colon_instead tree_steps part ∷ []) make_constant waiting {K = ask rest ∷ K} {b = keep_word (W.constant n p) b} {d = make_constant p (keep_word (W.constant n p) b)} v (λ _. refl)).course vs end a
        ∙ goes_on K (reading (make_constant p (keep_word (W.constant n p) b)) (more counted c)) vs end
        ∙ sym (took_it C p (make make_constant ∷ (tails ++ ask ending ∷ K)) (keep_word (W.constant n p) b) (more counted c) v (λ L q. runs C L vs end q)
        ∙ (building {C = C} {f = make_constant} {K = tails ++ ask ending ∷ K} {b = keep_word (W.constant n p) b} {d = make_constant p (keep_word (W.constant n p) b)} (λ _. refl)).course vs end (none-following vs))
    started K b c u v (W.sign k p) vs a end =
        ap (on tree_steps C.fits (rule_of tree_steps) vs end)
        (asks tree_steps C.fits (rule_of tree_steps) start (always (subscript_ways tree_steps waits rest (ask ending ∷ []))) starts K (sign k p) (reading b c)
        ∙ choose-none tree_steps C.fits (kept a_constant (ask waits ∷ ask rest ∷ []) ∷ []) (sign k p) (rw a refl) K (reading b c) (choose tree_steps C.fits (map (followed (ask ending ∷ [])) (expression_ways tree_steps (other_term_ways tree_steps))) (sign k p) K (reading b c) (stuck tree_steps C.fits (sign k p)))
        ∙ choose-followed tree_steps C.fits (ask ending ∷ []) (expression_ways tree_steps (other_term_ways tree_steps)) refl (sign k p) K (reading b c) (stuck tree_steps C.fits (sign k p))
        ∙ sign-alike C.fits k p a (ask ending ∷ K) (reading b c) (stuck tree_steps C.fits (sign k p)))

    -- The words of an expression as a subscript.
    started-by : {h : ℕ} {us : List Word} {e : Expression} → Boolean C h us (expression e) → (K : Stack) (b : Built) (c : Counts) → Room C.top c (counted_expression e) h
        → Arrives C (colon ∷ after_or) (ask start ∷ K) b c us (ask ending ∷ K) (push e b) (counted_expression e)
    started-by {h} {us} {e} x K b c room =
        let i : 1 ≤ counted_expression e = counts-one e in
        arriving ((whole-expression x).takes (ask ending ∷ K) b c room) λ d g m.
        record { counts = d; grown = g; comes = comes (go us x.heads x.apart (omega arith) (omega arith) (reading (push e b) d) m) }
      where
        go : (us : List Word) → Heads not_boolean us → NoPart us → Under C.top c → Under C.top (more counted c) → (q : Reading Built) → Comes C after_or (ask M.expression ∷ ask ending ∷ K) (reading b c) us (ask ending ∷ K) q
            → (vs : List Word) (end : ℕ) → Follows (colon ∷ after_or) vs → runs C (ask start ∷ K) (us ++ vs) end (reading b c) ≡ runs C (ask ending ∷ K) vs end q
        go [] f a u v q m vs end h = absurd f
        go (w ∷ us) f a u v q m vs end h =
            started K b c u v w (us ++ vs) (a vs (follows-left (colon ∷ []) after_or vs h)) end ∙ m.course vs end (follows-right (colon ∷ []) after_or vs h)

  first-goes-on : (K : Stack) (r : Reading Built) (vs : List Word) (end : ℕ) → runs C (ask operand_rest ∷ K) vs end r ≡ runs C (tails ++ ask after_subscript ∷ K) vs end r
  unfolding feed choose rule_of finish
  first-goes-on K r = same-run tree_steps C.fits (rule_of tree_steps) (ask operand_rest ∷ K) (tails ++ ask after_subscript ∷ K) r r (λ w. refl) (λ end. refl)

  second-goes-on : (K : Stack) (r : Reading Built) (vs : List Word) (end : ℕ) → runs C (ask second_rest ∷ K) vs end r ≡ runs C (tails ++ ask second_end ∷ K) vs end r
  unfolding feed choose rule_of finish
  second-goes-on K r = same-run tree_steps C.fits (rule_of tree_steps) (ask second_rest ∷ K) (tails ++ ask second_end ∷ K) r r (λ w. refl) (λ end. refl)

module _ {C : Ceiling} {h : ℕ} {us : List Word} {e : Expression} (x : Boolean C h us (expression e)) (K : Stack) (b : Built) (c : Counts) (room : Room C.top c (counted_expression e) h) where
  pub first-subscript : Arrives C (colon ∷ after_or) (ask subscript ∷ K) b c us (ask after_subscript ∷ K) (push e b) (counted_expression e)
  unfolding rule_of
  first-subscript = started-by C subscript after_constant operand_rest after_subscript (keep a_constant ∷ closing close_bracket ∷ make make_part ∷ []) refl refl (first-goes-on C) x K b c room

  pub second-subscript : Arrives C (colon ∷ after_or) (ask second ∷ K) b c us (ask second_end ∷ K) (push e b) (counted_expression e)
  unfolding rule_of
  second-subscript = started-by C second after_second_constant second_rest second_end (keep a_constant ∷ closing close_bracket ∷ make make_word_part ∷ []) refl refl (second-goes-on C) x K b c room
