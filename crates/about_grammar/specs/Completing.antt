-- Every stack that the machine comes to can be completed: some words that follow are accepted.
use Rattle.std.specs.Prelude.{Bool, true, false, cond, List, [], ◌∷◌, ◌++◌, ◌≡◌, refl, ℕ, ◌-◌, eqb}
use Rattle.std.proofs.Common.{◌∙◌, ap, sym, subst, eq-eqb, eqb-true}
use Rattle.language.specs.Alternatives.{no_step, optional}
use Rattle.language.specs.Building.{Built, keep_word, name_of, word_no}
use Rattle.language.specs.Declaring.{tree_steps}
use Rattle.language.specs.Kinds.{a_constant, a_name}
use Rattle.language.specs.Machine
use Rattle.language.specs.Machine.{Alternative, Ask, Bearing, Counts, Parsed, after, again, ask, bears, ease, feed, finish, keep, make, nested, parsed, reading, run, word}
use Rattle.language.specs.Notions.{one_bound}
use Rattle.language.specs.SectionWays.{rule_of}
use Rattle.language.specs.BuildSteps.{Step}
use Rattle.language.specs.Ways.{and_ways, arithmetic_tail_ways, con_ways, cut_ways, exclusive_ways, or_ways, relation_ways}
use Rattle.language.specs.Words as W
use Rattle.language.specs.Words.{Position, Word, kind_of, position, sign, word_at}
use Rattle.about_grammar.specs.Accepting.{Proper, ProperWord}
use Rattle.about_grammar.specs.Ceilingless.{all}
use Rattle.about_grammar.specs.Courses.{Stack}
use Rattle.about_grammar.specs.Declarations.{same_name}
use Rattle.about_grammar.specs.Fine.{head_of}
use Rattle.about_grammar.specs.Following.{Follows, after_and, after_con, after_cut, after_exclusive, after_or, after_relation, after_sum, among, among-within, within}
use Rattle.about_grammar.specs.Stacks.{kinds_of, omits}

abbrev pub runs_on : Stack → List Word → Built → Counts → Parsed Built
runs_on K ws b c = run tree_steps all (rule_of tree_steps) K ws 0 (reading b c)

-- The first word is of this kind and stands at the start of a text, as all words here do.
abbrev pub HeadIs : ℕ → List Word → Type 0
HeadIs k [] = k ≡ 0
HeadIs k (w ∷ ws) = (kind_of w ≡ k) × (word_at w ≡ position 0)

pub record Completed (K : Stack) (b : Built) (c : Counts) : Type 0 where
  pub words : List Word
  pub proper : Proper words
  pub head : HeadIs (head_of K) words
  pub result : Built
  pub accepted : runs_on K words b c ≡ parsed result

-- Words of a kind, a name and a constant.
abbrev pub at : ℕ → Word
at k = sign k (position 0)

abbrev pub x : Word
x = W.name [] (position 0)

abbrev pub i : Word
i = W.constant one_bound (position 0)

pub proper-on : (us vs : List Word) → Proper us → Proper vs → Proper (us ++ vs)
proper-on [] vs p q = q
proper-on (w ∷ us) vs p q = (p.0, proper-on us vs p.1 q)

-- Some words lead from K to L.
pub begin : {K : Stack} (L : Stack) {b b₁ : Built} {c c₁ : Counts} (w : Word) (ws : List Word) → kind_of w ≡ head_of K → word_at w ≡ position 0 → Proper (w ∷ ws) → ((vs : List Word) → runs_on K (w ∷ (ws ++ vs)) b c ≡ runs_on L vs b₁ c₁) → Completed L b₁ c₁ → Completed K b c
begin L w ws k p q e r = record {
  words = w ∷ (ws ++ r.words);
  proper = proper-on (w ∷ ws) r.words q r.proper;
  head = (k, p);
  result = r.result;
  accepted = e r.words ∙ r.accepted;
}

-- ---- Symbols that are no notions.

pub makes : {K : Stack} (f : Step Built) {b : Built} {c : Counts} → Completed K (f (position 0) b) c → Completed (make f ∷ K) b c
unfolding run feed finish
makes {K} f {b} {c} r = record { words = r.words; proper = r.proper; head = r.head; result = r.result; accepted = go r.words r.head ∙ r.accepted }
  where
    go : (ws : List Word) → HeadIs (head_of K) ws → runs_on (make f ∷ K) ws b c ≡ runs_on K ws (f (position 0) b) c
    go [] h = refl
    go (w ∷ ws) h = ap (λ (p : Position). after tree_steps all (rule_of tree_steps) (feed tree_steps all (rule_of tree_steps) K w (reading (f p b) c)) (λ L q. run tree_steps all (rule_of tree_steps) L ws 0 q)) h.1

pub eases : {K : Stack} {b : Built} {c : Counts} → Completed K b (nested (c.nesting - 1) c) → Completed (ease ∷ K) b c
unfolding run feed finish
eases {K} {b} {c} r = record { words = r.words; proper = r.proper; head = r.head; result = r.result; accepted = go r.words ∙ r.accepted }
  where
    go : (ws : List Word) → runs_on (ease ∷ K) ws b c ≡ runs_on K ws b (nested (c.nesting - 1) c)
    go [] = refl
    go (w ∷ ws) = refl

-- A word of any kind.
unfoldable pub word_of : ℕ → Word
word_of k = cond (eqb k a_name) x (cond (eqb k a_constant) i (at k))

of-kind : (k : ℕ) → (kind_of (word_of k) ≡ k) × (word_at (word_of k) ≡ position 0) × ProperWord (word_of k)
unfolding word_of among
of-kind k = go (eqb k a_name) (eqb k a_constant) refl refl
  where
    go : (y z : Bool) → eqb k a_name ≡ y → eqb k a_constant ≡ z → (kind_of (cond y x (cond z i (at k))) ≡ k) × (word_at (cond y x (cond z i (at k))) ≡ position 0) × ProperWord (cond y x (cond z i (at k)))
    go true z e f = (sym (eqb-true k a_name e), refl, tt)
    go false true e f = (sym (eqb-true k a_constant f), refl, tt)
    go false false e f = (refl, refl, rw (e, f) refl)

pub words : {K : Stack} (k : ℕ) (g : Bearing) {b : Built} {c : Counts} → Completed K b (nested (bears g c.nesting) c) → Completed (word k g ∷ K) b c
unfolding run feed
words {K} k g {b} {c} r = let o = of-kind k in begin K (word_of k) [] o.0 o.1 (o.2, tt) (λ vs. rw (eq-eqb (kind_of (word_of k)) k o.0) refl) r

pub keeps : {K : Stack} (k : ℕ) {b : Built} {c : Counts} → Completed K (keep_word (word_of k) b) c → Completed (keep k ∷ K) b c
unfolding run feed
keeps {K} k {b} {c} r = let o = of-kind k in begin K (word_of k) [] o.0 o.1 (o.2, tt) (λ vs. rw (eq-eqb (kind_of (word_of k)) k o.0) refl) r

pub repeats : {K : Stack} {b : Built} {c : Counts} → Completed K b c → Completed (again ∷ K) b c
unfolding run feed
repeats {K} {b} {c} r = begin K (W.name (name_of (word_no 1 b)) (position 0)) [] refl refl (tt, tt) (λ vs. rw (same_name (name_of (word_no 1 b))) refl) r

-- ---- Loops are left out.

pub follows : (k : ℕ) (ks : List ℕ) (ws : List Word) → HeadIs k ws → among k ks ≡ false → Follows ks ws
follows k ks [] h e = tt
follows k ks (w ∷ ws) h e = subst (λ (j : ℕ). among j ks ≡ false) (sym h.0) e

pub omitted : {K : Stack} (a : Ask) (ways : List (Alternative Built)) → rule_of tree_steps a ≡ optional ways → head_of (ask a ∷ K) ≡ head_of K → among (head_of K) (kinds_of ways) ≡ false → {b : Built} {c : Counts} → Completed K b c → Completed (ask a ∷ K) b c
omitted {K} a ways e s f {b} {c} r = record {
  words = r.words;
  proper = r.proper;
  head = subst (λ (k : ℕ). HeadIs k r.words) (sym s) r.head;
  result = r.result;
  accepted = omits tree_steps all (rule_of tree_steps) a ways no_step e K b b c (λ p. refl) r.words (follows (head_of K) (kinds_of ways) r.words r.head f) 0 ∙ r.accepted;
}

no-arithmetic_tail : {K : Stack} {b : Built} {c : Counts} → among (head_of K) after_sum ≡ false → Completed K b c → Completed (ask Machine.arithmetic_tail ∷ K) b c
unfolding rule_of within among
no-arithmetic_tail {K} f r = omitted Machine.arithmetic_tail (arithmetic_tail_ways tree_steps) refl refl (among-within (head_of K) (kinds_of (arithmetic_tail_ways tree_steps)) after_sum refl f) r

no-relation_tail : {K : Stack} {b : Built} {c : Counts} → among (head_of K) after_relation ≡ false → Completed K b c → Completed (ask Machine.relation_tail ∷ K) b c
unfolding rule_of within among
no-relation_tail {K} f r = omitted Machine.relation_tail (relation_ways tree_steps) refl refl (among-within (head_of K) (kinds_of (relation_ways tree_steps)) after_relation refl f) r

no-cut_tail : {K : Stack} {b : Built} {c : Counts} → among (head_of K) after_cut ≡ false → Completed K b c → Completed (ask Machine.cut_tail ∷ K) b c
unfolding rule_of within among
no-cut_tail {K} f r = omitted Machine.cut_tail (cut_ways tree_steps) refl refl (among-within (head_of K) (kinds_of (cut_ways tree_steps)) after_cut refl f) r

no-con_tail : {K : Stack} {b : Built} {c : Counts} → among (head_of K) after_con ≡ false → Completed K b c → Completed (ask Machine.con_tail ∷ K) b c
unfolding rule_of within among
no-con_tail {K} f r = omitted Machine.con_tail (con_ways tree_steps) refl refl (among-within (head_of K) (kinds_of (con_ways tree_steps)) after_con refl f) r

no-and_tail : {K : Stack} {b : Built} {c : Counts} → among (head_of K) after_and ≡ false → Completed K b c → Completed (ask Machine.and_tail ∷ K) b c
unfolding rule_of within among
no-and_tail {K} f r = omitted Machine.and_tail (and_ways tree_steps) refl refl (among-within (head_of K) (kinds_of (and_ways tree_steps)) after_and refl f) r

no-exclusive_tail : {K : Stack} {b : Built} {c : Counts} → among (head_of K) after_exclusive ≡ false → Completed K b c → Completed (ask Machine.exclusive_tail ∷ K) b c
unfolding rule_of within among
no-exclusive_tail {K} f r = omitted Machine.exclusive_tail (exclusive_ways tree_steps) refl refl (among-within (head_of K) (kinds_of (exclusive_ways tree_steps)) after_exclusive refl f) r

no-or_tail : {K : Stack} {b : Built} {c : Counts} → among (head_of K) after_or ≡ false → Completed K b c → Completed (ask Machine.or_tail ∷ K) b c
unfolding rule_of within among
no-or_tail {K} f r = omitted Machine.or_tail (or_ways tree_steps) refl refl (among-within (head_of K) (kinds_of (or_ways tree_steps)) after_or refl f) r

pub tails-1 : {K : Stack} {b : Built} {c : Counts} → among (head_of K) after_sum ≡ false → Completed K b c → Completed (ask Machine.arithmetic_tail ∷ K) b c
unfolding within among
tails-1 {K} f r = no-arithmetic_tail f r

pub tails-3 : {K : Stack} {b : Built} {c : Counts} → among (head_of K) after_cut ≡ false → Completed K b c → Completed (ask Machine.arithmetic_tail ∷ ask Machine.relation_tail ∷ ask Machine.cut_tail ∷ K) b c
unfolding within among
tails-3 {K} f r = no-arithmetic_tail (among-within (head_of K) after_sum after_cut refl f) (no-relation_tail (among-within (head_of K) after_relation after_cut refl f) (no-cut_tail f r))

pub tails-4 : {K : Stack} {b : Built} {c : Counts} → among (head_of K) after_con ≡ false → Completed K b c → Completed (ask Machine.arithmetic_tail ∷ ask Machine.relation_tail ∷ ask Machine.cut_tail ∷ ask Machine.con_tail ∷ K) b c
unfolding within among
tails-4 {K} f r = no-arithmetic_tail (among-within (head_of K) after_sum after_con refl f) (no-relation_tail (among-within (head_of K) after_relation after_con refl f) (no-cut_tail (among-within (head_of K) after_cut after_con refl f) (no-con_tail f r)))

pub tails-5 : {K : Stack} {b : Built} {c : Counts} → among (head_of K) after_and ≡ false → Completed K b c → Completed (ask Machine.arithmetic_tail ∷ ask Machine.relation_tail ∷ ask Machine.cut_tail ∷ ask Machine.con_tail ∷ ask Machine.and_tail ∷ K) b c
unfolding within among
tails-5 {K} f r = no-arithmetic_tail (among-within (head_of K) after_sum after_and refl f) (no-relation_tail (among-within (head_of K) after_relation after_and refl f) (no-cut_tail (among-within (head_of K) after_cut after_and refl f) (no-con_tail (among-within (head_of K) after_con after_and refl f) (no-and_tail f r))))

pub tails-6 : {K : Stack} {b : Built} {c : Counts} → among (head_of K) after_exclusive ≡ false → Completed K b c → Completed (ask Machine.arithmetic_tail ∷ ask Machine.relation_tail ∷ ask Machine.cut_tail ∷ ask Machine.con_tail ∷ ask Machine.and_tail ∷ ask Machine.exclusive_tail ∷ K) b c
unfolding within among
tails-6 {K} f r = no-arithmetic_tail (among-within (head_of K) after_sum after_exclusive refl f) (no-relation_tail (among-within (head_of K) after_relation after_exclusive refl f) (no-cut_tail (among-within (head_of K) after_cut after_exclusive refl f) (no-con_tail (among-within (head_of K) after_con after_exclusive refl f) (no-and_tail (among-within (head_of K) after_and after_exclusive refl f) (no-exclusive_tail f r)))))

pub tails-7 : {K : Stack} {b : Built} {c : Counts} → among (head_of K) after_or ≡ false → Completed K b c → Completed (ask Machine.arithmetic_tail ∷ ask Machine.relation_tail ∷ ask Machine.cut_tail ∷ ask Machine.con_tail ∷ ask Machine.and_tail ∷ ask Machine.exclusive_tail ∷ ask Machine.or_tail ∷ K) b c
unfolding within among
tails-7 {K} f r = no-arithmetic_tail (among-within (head_of K) after_sum after_or refl f) (no-relation_tail (among-within (head_of K) after_relation after_or refl f) (no-cut_tail (among-within (head_of K) after_cut after_or refl f) (no-con_tail (among-within (head_of K) after_con after_or refl f) (no-and_tail (among-within (head_of K) after_and after_or refl f) (no-exclusive_tail (among-within (head_of K) after_exclusive after_or refl f) (no-or_tail f r))))))
