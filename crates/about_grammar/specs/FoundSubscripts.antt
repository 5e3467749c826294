-- Subscripts in accepted words: an expression, or the ends of a part.
use Rattle.std.specs.Prelude.{false, ◌⊎◌, ◌≡◌, eqb}
use mathlib.Core.List.{List, [], ◌∷◌, map}
use Rattle.std.proofs.Math.Logic.{inl, inr}
use Rattle.std.proofs.Common.{◌∙◌, ap, arith}
use Rattle.std.proofs.Math.Path.{refl}
use Prim.Native.Nat.{ℕ, zero, suc, ◌≤◌}
use Rattle.std.proofs.Math.ListN.{length}
use Rattle.language.specs.Alternatives.{closing, followed, kept}
use Rattle.language.specs.Building.{Built, keep_word, make_constant, make_part, make_word_part, word_no}
use Rattle.language.specs.CountedWords.{counted_expression}
use Rattle.language.specs.Declaring.{tree_steps}
use Rattle.language.specs.Grammar as G
use Rattle.language.specs.Kinds.{a_constant, a_name, close_bracket, colon}
use Rattle.language.specs.Machine as M
use Rattle.language.specs.Machine.{Counts, Reading, after_constant, after_second_constant, after_subscript, and_tail, arithmetic_tail, ask, choose, closes, con_tail, counted, cut_tail, exclusive_tail, feed, finish, keep, level, make, more, operand_rest, or_tail, reading, relation_tail, run, second, second_end, second_rest, stuck, subscript, tallied}
use Rattle.language.specs.Notions as N
use Rattle.language.specs.Notions.{expression}
use Rattle.language.specs.SectionWays.{rule_of}
use Rattle.language.specs.Tree.{constant}
use Rattle.language.specs.Ways.{colon_instead, expression_ways, other_term_ways}
use Rattle.language.specs.Words as W
use Rattle.language.specs.Words.{Constant, Position, Word, sign}
use Rattle.about_grammar.specs.Accepting.{Accepts, AtConstant, AtSign, Judge, Leaves, Picks, at_constant, at_sign_lem, borne, chosen, made, never, weaken}
use Rattle.about_grammar.specs.Acting.{back}
use Rattle.about_grammar.specs.Courses.{Stack}
use Rattle.about_grammar.specs.Finding.{Found, Inverts, found, join}
use Rattle.about_grammar.specs.Following.{among, among_first, among-rest}
use Rattle.about_grammar.specs.Peeling.{kept_word, restacked, worded}
use Rattle.about_grammar.specs.Stacks.{choose-followed, choose-none, on, plain_ways, same-run}
use Rattle.about_grammar.specs.Subscripts.{sign-alike}
use Rattle.about_grammar.specs.Taking.{push}

abbrev tails : Stack → Stack
tails K = ask arithmetic_tail ∷ ask relation_tail ∷ ask cut_tail ∷ ask con_tail ∷ ask and_tail ∷ ask exclusive_tail ∷ ask or_tail ∷ K

-- A constant with the tails of an expression behind it.
pub all-tails : {J : Judge} {m : ℕ} (r : Inverts J m) (K : Stack) (h : ℕ) (b : Built) (c : Counts) (y : Constant) (q : Position) (vs : List Word)
    → Accepts J (tails K) m h (push (constant y q) b) (more counted c) vs → Found J N.boolean_exp K m h b c (W.constant y q ∷ vs)
unfolding counted_expression
all-tails {J} {m} r K h b c y q vs x =
    join (join (join (join (join (join (join (found (W.constant y q ∷ []) vs (constant y q) (more counted c) (G.term-constant {h = h}) (omega arith) x)
    (λ us e i. G.arithmetic-one i) (λ e d xs ws a i. r.arithmetic_tail _ _ _ _ _ _ _ a i))
    (λ us e i. i) (λ e d xs ws a i. r.relation_tail _ _ _ _ _ _ _ a i))
    (λ us e i. G.cut-none i) (λ e d xs ws a i. r.cut_tail _ _ _ _ _ _ _ a i))
    (λ us e i. G.con-one (G.reduction-none i)) (λ e d xs ws a i. r.con_tail _ _ _ _ _ _ _ a i))
    (λ us e i. G.and_one (G.complement-none i)) (λ e d xs ws a i. r.and_tail _ _ _ _ _ _ _ a i))
    (λ us e i. G.exclusive-one i) (λ e d xs ws a i. r.exclusive_tail _ _ _ _ _ _ _ a i))
    (λ us e i. G.or-one i) (λ e d xs ws a i. r.or_tail _ _ _ _ _ _ _ a i)

-- ---- The first subscript.
pub data FirstPart (J : Judge) (K : Stack) (m g : ℕ) (b : Built) (c : Counts) : List Word → Type 0 where
  first_part : (y z : Constant) (q k r s o : Position) (vs : List Word) → Accepts J K m (suc g) (make_part o (keep_word (W.constant z r) (keep_word (W.constant y q) b))) (back c) vs
      → FirstPart J K m g b c (W.constant y q ∷ sign colon k ∷ W.constant z r ∷ sign close_bracket s ∷ vs)

first-goes-on : (J : Judge) (K : Stack) (r : Reading Built) (vs : List Word) → run tree_steps J.fits (rule_of tree_steps) (ask operand_rest ∷ K) vs J.end r ≡ run tree_steps J.fits (rule_of tree_steps) (tails (ask after_subscript ∷ K)) vs J.end r
unfolding feed choose rule_of finish
first-goes-on J K r vs = same-run tree_steps J.fits (rule_of tree_steps) (ask operand_rest ∷ K) (tails (ask after_subscript ∷ K)) r r (λ w. refl) (λ end. refl) vs J.end

first-sign : (J : Judge) (K : Stack) (r : Reading Built) (k : ℕ) (p : Position) (vs : List Word) → eqb k a_constant ≡ false
    → run tree_steps J.fits (rule_of tree_steps) (ask subscript ∷ K) (sign k p ∷ vs) J.end r ≡ run tree_steps J.fits (rule_of tree_steps) (ask M.expression ∷ ask after_subscript ∷ K) (sign k p ∷ vs) J.end r
unfolding run feed choose rule_of on plain_ways among
first-sign J K r k p vs a =
    ap (on tree_steps J.fits (rule_of tree_steps) vs J.end)
    (choose-none tree_steps J.fits (kept a_constant (ask after_constant ∷ ask operand_rest ∷ []) ∷ []) (sign k p) (rw a refl) K r (choose tree_steps J.fits (map (followed (ask after_subscript ∷ [])) (expression_ways tree_steps (other_term_ways tree_steps))) (sign k p) K r (stuck tree_steps J.fits (sign k p)))
    ∙ choose-followed tree_steps J.fits (ask after_subscript ∷ []) (expression_ways tree_steps (other_term_ways tree_steps)) refl (sign k p) K r (stuck tree_steps J.fits (sign k p))
    ∙ sign-alike J.fits k p a (ask after_subscript ∷ K) r (stuck tree_steps J.fits (sign k p)))

module _ (J : Judge) (m : ℕ) (r : Inverts J m) (K : Stack) (g : ℕ) (b : Built) (c : Counts) where
  first-last : (y : Constant) (q k : Position) {l : ℕ} {vs : List Word} → m ≡ suc l → AtConstant (λ z o vs. (j : ℕ) × (l ≡ suc j) × Accepts J (closing close_bracket ∷ make make_part ∷ K) j g (keep_word (W.constant z o) (keep_word (W.constant y q) b)) c vs) vs
      → FirstPart J K m g b c (W.constant y q ∷ sign colon k ∷ vs)
  first-last y q k s (at_constant z o vs x) = go (worded close_bracket closes vs x.2)
    where
      go : {vs : List Word} → AtSign close_bracket (λ p vs. (i : ℕ) × (x.0 ≡ suc i) × Accepts J (make make_part ∷ K) i (suc g) (keep_word (W.constant z o) (keep_word (W.constant y q) b)) (back c) vs) vs → FirstPart J K m g b c (W.constant y q ∷ sign colon k ∷ W.constant z o ∷ vs)
      go (at_sign_lem p vs t) = let u = made vs (weaken s (weaken x.1 (weaken t.1 t.2))) in first_part y z q k o p u.0 vs u.1

  first-constant : (y : Constant) (q : Position) {l : ℕ} (vs : List Word) → m ≡ suc l → Accepts J (ask after_constant ∷ ask operand_rest ∷ K) l g (keep_word (W.constant y q) b) c vs
      → Found J N.boolean_exp (ask after_subscript ∷ K) m g b c (W.constant y q ∷ vs) ⊎ FirstPart J K m g b c (W.constant y q ∷ vs)
  unfolding rule_of word_no tallied
  first-constant y q {l} vs s x = go (chosen J after_constant vs x)
    where
      go : {vs : List Word} → Picks J (colon_instead tree_steps (keep a_constant ∷ closing close_bracket ∷ make make_part ∷ []) ∷ []) (ask operand_rest ∷ K) l g (keep_word (W.constant y q) b) c vs ⊎ Leaves J (M.operand make_constant) (ask operand_rest ∷ K) l g (keep_word (W.constant y q) b) c vs
          → Found J N.boolean_exp (ask after_subscript ∷ K) m g b c (W.constant y q ∷ vs) ⊎ FirstPart J K m g b c (W.constant y q ∷ vs)
      go (inl (inl (at_sign_lem k vs z))) = inr (first-last y q k s (kept_word a_constant vs (weaken z.1 z.2)))
      go {vs} (inr z) = inl (all-tails r (ask after_subscript ∷ K) g b c y q vs (restacked (first-goes-on J K (reading (push (constant y q) b) (more counted c)) vs) (weaken s z.1)))
      go (inl (inr x)) = elim x [ ]

  pub first_found : (ws : List Word) → Accepts J (ask subscript ∷ K) m g b c ws → Found J N.boolean_exp (ask after_subscript ∷ K) m g b c ws ⊎ FirstPart J K m g b c ws
  unfolding run feed finish choose rule_of tallied
  first_found [] x = never x.runs
  first_found (W.name y p ∷ vs) x = inl (r.expression _ _ _ _ _ (restacked refl x))
  first_found (W.sign k p ∷ vs) x = inl (r.expression _ _ _ _ _ (restacked (first-sign J K (reading b c) k p vs (among_first k a_constant [] (among-rest k a_name (a_constant ∷ []) x.proper.0))) x))
  first_found (W.constant y q ∷ vs) x = go m refl x.short
    where
      go : (i : ℕ) → m ≡ i → length (W.constant y q ∷ vs) ≤ i → Found J N.boolean_exp (ask after_subscript ∷ K) m g b c (W.constant y q ∷ vs) ⊎ FirstPart J K m g b c (W.constant y q ∷ vs)
      go zero e s = absurd (omega arith)
      go (suc l) e s = first-constant y q vs e (borne J level (ask after_constant ∷ ask operand_rest ∷ K) l g (keep_word (W.constant y q) b) c c q vs x.room (omega arith) x.proper.1 x.runs)

-- ---- The second one.
pub data SecondPart (J : Judge) (K : Stack) (m g : ℕ) (b : Built) (c : Counts) : List Word → Type 0 where
  second-one-part : (y z : Constant) (q k r s o : Position) (vs : List Word) → Accepts J K m (suc g) (make_word_part o (keep_word (W.constant z r) (keep_word (W.constant y q) b))) (back c) vs
      → SecondPart J K m g b c (W.constant y q ∷ sign colon k ∷ W.constant z r ∷ sign close_bracket s ∷ vs)

second-one-goes-on : (J : Judge) (K : Stack) (r : Reading Built) (vs : List Word) → run tree_steps J.fits (rule_of tree_steps) (ask second_rest ∷ K) vs J.end r ≡ run tree_steps J.fits (rule_of tree_steps) (tails (ask second_end ∷ K)) vs J.end r
unfolding feed choose rule_of finish
second-one-goes-on J K r vs = same-run tree_steps J.fits (rule_of tree_steps) (ask second_rest ∷ K) (tails (ask second_end ∷ K)) r r (λ w. refl) (λ end. refl) vs J.end

second-one-sign : (J : Judge) (K : Stack) (r : Reading Built) (k : ℕ) (p : Position) (vs : List Word) → eqb k a_constant ≡ false
    → run tree_steps J.fits (rule_of tree_steps) (ask second ∷ K) (sign k p ∷ vs) J.end r ≡ run tree_steps J.fits (rule_of tree_steps) (ask M.expression ∷ ask second_end ∷ K) (sign k p ∷ vs) J.end r
unfolding run feed choose rule_of on plain_ways among
second-one-sign J K r k p vs a =
    ap (on tree_steps J.fits (rule_of tree_steps) vs J.end)
    (choose-none tree_steps J.fits (kept a_constant (ask after_second_constant ∷ ask second_rest ∷ []) ∷ []) (sign k p) (rw a refl) K r (choose tree_steps J.fits (map (followed (ask second_end ∷ [])) (expression_ways tree_steps (other_term_ways tree_steps))) (sign k p) K r (stuck tree_steps J.fits (sign k p)))
    ∙ choose-followed tree_steps J.fits (ask second_end ∷ []) (expression_ways tree_steps (other_term_ways tree_steps)) refl (sign k p) K r (stuck tree_steps J.fits (sign k p))
    ∙ sign-alike J.fits k p a (ask second_end ∷ K) r (stuck tree_steps J.fits (sign k p)))

module _ (J : Judge) (m : ℕ) (r : Inverts J m) (K : Stack) (g : ℕ) (b : Built) (c : Counts) where
  second-one-last : (y : Constant) (q k : Position) {l : ℕ} {vs : List Word} → m ≡ suc l → AtConstant (λ z o vs. (j : ℕ) × (l ≡ suc j) × Accepts J (closing close_bracket ∷ make make_word_part ∷ K) j g (keep_word (W.constant z o) (keep_word (W.constant y q) b)) c vs) vs
      → SecondPart J K m g b c (W.constant y q ∷ sign colon k ∷ vs)
  second-one-last y q k s (at_constant z o vs x) = go (worded close_bracket closes vs x.2)
    where
      go : {vs : List Word} → AtSign close_bracket (λ p vs. (i : ℕ) × (x.0 ≡ suc i) × Accepts J (make make_word_part ∷ K) i (suc g) (keep_word (W.constant z o) (keep_word (W.constant y q) b)) (back c) vs) vs → SecondPart J K m g b c (W.constant y q ∷ sign colon k ∷ W.constant z o ∷ vs)
      go (at_sign_lem p vs t) = let u = made vs (weaken s (weaken x.1 (weaken t.1 t.2))) in second-one-part y z q k o p u.0 vs u.1

  second-one-constant : (y : Constant) (q : Position) {l : ℕ} (vs : List Word) → m ≡ suc l → Accepts J (ask after_second_constant ∷ ask second_rest ∷ K) l g (keep_word (W.constant y q) b) c vs
      → Found J N.boolean_exp (ask second_end ∷ K) m g b c (W.constant y q ∷ vs) ⊎ SecondPart J K m g b c (W.constant y q ∷ vs)
  unfolding rule_of word_no tallied
  second-one-constant y q {l} vs s x = go (chosen J after_second_constant vs x)
    where
      go : {vs : List Word} → Picks J (colon_instead tree_steps (keep a_constant ∷ closing close_bracket ∷ make make_word_part ∷ []) ∷ []) (ask second_rest ∷ K) l g (keep_word (W.constant y q) b) c vs ⊎ Leaves J (M.operand make_constant) (ask second_rest ∷ K) l g (keep_word (W.constant y q) b) c vs
          → Found J N.boolean_exp (ask second_end ∷ K) m g b c (W.constant y q ∷ vs) ⊎ SecondPart J K m g b c (W.constant y q ∷ vs)
      go (inl (inl (at_sign_lem k vs z))) = inr (second-one-last y q k s (kept_word a_constant vs (weaken z.1 z.2)))
      go {vs} (inr z) = inl (all-tails r (ask second_end ∷ K) g b c y q vs (restacked (second-one-goes-on J K (reading (push (constant y q) b) (more counted c)) vs) (weaken s z.1)))
      go (inl (inr x)) = elim x [ ]

  pub second-one-found : (ws : List Word) → Accepts J (ask second ∷ K) m g b c ws → Found J N.boolean_exp (ask second_end ∷ K) m g b c ws ⊎ SecondPart J K m g b c ws
  unfolding run feed finish choose rule_of tallied
  second-one-found [] x = never x.runs
  second-one-found (W.name y p ∷ vs) x = inl (r.expression _ _ _ _ _ (restacked refl x))
  second-one-found (W.sign k p ∷ vs) x = inl (r.expression _ _ _ _ _ (restacked (second-one-sign J K (reading b c) k p vs (among_first k a_constant [] (among-rest k a_name (a_constant ∷ []) x.proper.0))) x))
  second-one-found (W.constant y q ∷ vs) x = go m refl x.short
    where
      go : (i : ℕ) → m ≡ i → length (W.constant y q ∷ vs) ≤ i → Found J N.boolean_exp (ask second_end ∷ K) m g b c (W.constant y q ∷ vs) ⊎ SecondPart J K m g b c (W.constant y q ∷ vs)
      go zero e s = absurd (omega arith)
      go (suc l) e s = second-one-constant y q vs e (borne J level (ask after_second_constant ∷ ask second_rest ∷ K) l g (keep_word (W.constant y q) b) c c q vs x.room (omega arith) x.proper.1 x.runs)
