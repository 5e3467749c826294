-- Where the machine refuses with 10, the word that passes a ceiling stands.
use Rattle.std.specs.Prelude.{Bool, cond, ◌≡◌, ℕ, length}
use Rattle.std.proofs.Math.Bool.{true, false}
use mathlib.Core.List.{List, [], ◌∷◌, ◌++◌, append_assoc, append-nil}
use Rattle.std.proofs.Math.Option.{Option, none, some}
use Rattle.std.proofs.Common.{◌∙◌, sym, subst}
use Rattle.std.proofs.Math.Path.{ap, refl}
use Rattle.language.specs.Building.{Built, word_no}
use Rattle.language.specs.Declaring.{tree_steps}
use Rattle.language.specs.Machine.{Ask, Counts, Reading, Without, ask, counted, more, must, may, operand, refused, tallied, within_ceilings, again, ease, keep, make, word}
use Rattle.language.specs.declared.refusals.Refusal.TheVariants.{CeilingPassed}
use Rattle.language.specs.SectionWays.{parse, rule_of}
use Rattle.language.specs.BuildSteps.{Step}
use Rattle.language.specs.Words.{Position, Word, fault, word_at}
use Rattle.about_grammar.specs.Accepting.{Proper}
use Rattle.about_grammar.specs.Calm.{counts, not_so, top_waits, waits}
use Rattle.about_grammar.specs.Ceilingless.{Passes, by-kept}
use Rattle.about_grammar.proofs.Chains.{Walk, before-within, chain-begins, chain-below, chain-fine, chain-on, chain-text, chain-within, halves, kept-last, left_out, start-calm, still-past, text-counts, walk}
use Rattle.about_grammar.specs.Courses.{Stack}
use Rattle.about_grammar.specs.FirstFault.{proper-left}
use Rattle.about_grammar.specs.Following.{Follows}
use Rattle.about_grammar.specs.Places.{Begins, IsText, NoneWithin, PlaceOfTen, Within, counts_to, past_end, past_word}
use Rattle.about_grammar.specs.Refusals.{ChainOf, StoppedAt, begun, nothing-counted, start, start_fine, stopped, ten-why}
use Rattle.about_grammar.specs.Stacks.{false-true, kinds_of}
use Rattle.about_grammar.specs.Stepping.{quiet, settled_counts}
use Rattle.about_grammar.specs.Stops.{no_word}
use Rattle.about_grammar.specs.Tale.{next_among, settled, waits_for}
use Rattle.about_grammar.specs.Tens.{ByWord, Passed, kept-counts, kept-passes, passed, passed-at-end, word-passes}

-- The last of some words.
data Last : List Word → Type 0 where
  no_last : Last []
  last : (us : List Word) (x : Word) → Last (us ++ x ∷ [])

last_of : (us : List Word) → Last us
last_of [] = no_last
last_of (u ∷ us) = go (last_of us)
  where
    go : {vs : List Word} → Last vs → Last (u ∷ vs)
    go no_last = last [] u
    go (last vs x) = last (u ∷ vs) x

-- Of what follows only the next word bears on what counts.
pub settled-next : (K : Stack) (c : Counts) (w : Word) (us vs : List Word) → settled_counts K c (w ∷ us) ≡ settled_counts K c (w ∷ vs)
settled-next K c w us vs = go (waits_for K)
  where
    go : (o : Option (List ℕ)) → tallied (settled o (w ∷ us) []) c ≡ tallied (settled o (w ∷ vs) []) c
    go none = refl
    go (some ks) = refl

pub not-both : {A : Type 0} {c d : Counts} → c ≡ d → Within c → within_ceilings d ≡ false → A
not-both e i j = false-true (sym j ∙ ap within_ceilings (sym e) ∙ i)

none_so : (vs : List Word) (ks : List ℕ) → next_among vs ks ≡ false → Follows ks vs
none_so [] ks e = tt
none_so (v ∷ vs) ks e = e

uncounted : (n : Ask) (f : Step Built) (K : Stack) (c : Counts) (vs : List Word) → (rule_of tree_steps n).without ≡ operand f → next_among vs (kinds_of (rule_of tree_steps n).ways) ≡ true → settled_counts (ask n ∷ K) c vs ≡ c
unfolding waits_for tallied
uncounted n f K c vs q e = rw (q, e) refl

quiet-counts : (K : Stack) (c : Counts) (vs : List Word) → (top_waits K ≡ true → ⊥) → settled_counts K c vs ≡ c
unfolding tallied
quiet-counts K c vs h = ap (λ (o : Option (List ℕ)). tallied (settled o vs []) c) (quiet K h)

-- A notion that waits.
data Waiting : Stack → Type 0 where
  waiting : (n : Ask) (f : Step Built) (K : Stack) → (rule_of tree_steps n).without ≡ operand f → Waiting (ask n ∷ K)

operand-of : (n : Ask) (K : Stack) (o : Without Built) → (rule_of tree_steps n).without ≡ o → counts o ≡ true → Waiting (ask n ∷ K)
operand-of n K must q e = not_so e
operand-of n K (may f) q e = not_so e
operand-of n K (operand f) q e = waiting n f K q

waiting-of : (K : Stack) → top_waits K ≡ true → Waiting K
unfolding waits
waiting-of [] e = not_so e
waiting-of (word k g ∷ K) e = not_so e
waiting-of (keep k ∷ K) e = not_so e
waiting-of (again ∷ K) e = not_so e
waiting-of (make f ∷ K) e = not_so e
waiting-of (ease ∷ K) e = not_so e
waiting-of (ask n ∷ K) e = operand-of n K (rule_of tree_steps n).without refl e

-- Where the machine does not pass a ceiling, the word kept last does not.
pub kept-fits : (K : Stack) (r : Reading Built) → Within r.counts → (left : List Word) (end : ℕ) → ((p : Position) → Passes tree_steps within_ceilings (rule_of tree_steps) end K r left p → ⊥) → Within (settled_counts K r.counts left)
unfolding waits
kept-fits K r i left end h = go (top_waits K) refl
  where
    either : (b : Bool) → (b ≡ false → ⊥) → b ≡ true
    either true f = refl
    either false f = absurd (f refl)

    by : {M : Stack} → Waiting M → ((p : Position) → Passes tree_steps within_ceilings (rule_of tree_steps) end M r left p → ⊥) → Within (settled_counts M r.counts left)
    by (waiting n f M q) h = next (next_among left (kinds_of (rule_of tree_steps n).ways)) refl
      where
        next : (b : Bool) → next_among left (kinds_of (rule_of tree_steps n).ways) ≡ b → Within (settled_counts (ask n ∷ M) r.counts left)
        next true e = subst Within (sym (uncounted n f M r.counts left q e)) i
        next false e = subst Within (sym (kept-counts n f M r.counts left q (none_so left _ e))) (either (within_ceilings (more counted r.counts)) (λ g. h _ (by-kept left q (none_so left _ e) g)))

    go : (b : Bool) → top_waits K ≡ b → Within (settled_counts K r.counts left)
    go true e = by (waiting-of K e) h
    go false e = subst Within (sym (quiet-counts K r.counts left (λ t. false-true (sym e ∙ t)))) i

-- Behind each word of a chain but the last, in any text that begins with it.
chain-counts-within : {ws : List Word} (vs us xs : List Word) (w : Word) {M : Stack} {s : Reading Built} → ChainOf start begun (vs ++ w ∷ us) M s → ws ≡ vs ++ ((w ∷ us) ++ xs) → (t : IsText ws) → Within (counts_to (length vs) t)
chain-counts-within vs us xs w c e t =
    let h = halves vs (w ∷ us) c in
    subst Within (sym (text-counts vs ((w ∷ us) ++ xs) e (walk h.first) t)) (before-within w h.second (chain-below (walk h.first)) (chain-within h.first nothing-counted) xs)

-- The next word passes.
module _ {us : List Word} {M : Stack} {r : Reading Built} (c : ChainOf start begun us M r) (w : Word) (left : List Word) (p : Position) (proper : Proper (us ++ w ∷ [])) (i : Within (settled_counts M r.counts (w ∷ left))) (b : ByWord M r w p) where
  on : Walk start begun (us ++ w ∷ []) b.stack b.reads
  on = chain-on w (walk c) b.takes

  on-text : Begins (us ++ w ∷ [])
  on-text = chain-begins proper on

  word-past : {ws : List Word} (vs : List Word) → ws ≡ (us ++ w ∷ []) ++ vs → (t : IsText ws) → within_ceilings (counts_to (length (us ++ w ∷ [])) t) ≡ false
  word-past vs e t = ap within_ceilings (text-counts (us ++ w ∷ []) vs e on t) ∙ still-past (settled (waits_for b.stack) vs []) b.reads.counts b.past

  word-within : (vs ws : List Word) → us ≡ vs ++ ws → Within (counts_to (length vs) on-text.is-text)
  word-within vs [] e =
      let q : us ≡ vs = e ∙ append-nil vs in
      subst (λ (l : List Word). Within (counts_to (length l) on-text.is-text)) q
      (subst Within (sym (text-counts us (w ∷ on-text.more) (append_assoc us (w ∷ []) on-text.more) (walk c) on-text.is-text)) (subst Within (settled-next M r.counts w left on-text.more) i))
  word-within vs (u ∷ ws) e =
      chain-counts-within vs ws (w ∷ on-text.more) u (subst (λ (l : List Word). ChainOf start begun l M r) e c)
      (append_assoc us (w ∷ []) on-text.more ∙ ap (λ (l : List Word). l ++ w ∷ on-text.more) e ∙ append_assoc vs (u ∷ ws) (w ∷ on-text.more)) on-text.is-text

  word_none : (vs : List Word) → NoneWithin (us ++ w ∷ []) vs
  word_none [] = past_end (λ t j. false-true (sym (word-past [] (sym (append-nil (us ++ w ∷ []))) t) ∙ j))
  word_none (v ∷ vs) = past_word v vs (λ t j. false-true (sym (word-past (v ∷ t.more) (append_assoc (us ++ w ∷ []) (v ∷ []) t.more) t.is-text) ∙ j))

  word-place : {ws : List Word} → ws ≡ us ++ w ∷ left → PlaceOfTen ws p
  word-place e = record { us = us; here = w; left = left; split = e; place = sym b.place; begun = on-text; within = word-within; past = word-past on-text.more refl on-text.is-text; none = word_none left }

-- The word kept last passes.
module _ (us : List Word) (x : Word) {n : Ask} {f : Step Built} {K : Stack} {r : Reading Built} (q : (rule_of tree_steps n).without ≡ operand f) (c : ChainOf start begun (us ++ x ∷ []) (ask n ∷ K) r) (left : List Word) (proper : Proper (us ++ x ∷ [])) (i : within_ceilings (settled_counts (ask n ∷ K) r.counts left) ≡ false) where
  kept-past : within_ceilings (more counted r.counts) ≡ false
  unfolding waits_for tallied
  kept-past = go (next_among left (kinds_of (rule_of tree_steps n).ways)) (rw q at i)
    where
      go : (b : Bool) → within_ceilings (tallied (cond b [] (counted ∷ [])) r.counts) ≡ false → within_ceilings (more counted r.counts) ≡ false
      go true e = false-true (sym e ∙ chain-within c nothing-counted)
      go false e = e

  kept-text : Begins (us ++ x ∷ [])
  kept-text = let l = left_out n f q K (chain-fine (walk c) start_fine) r.built r.counts in chain-text proper (walk c) l.words l.proper l.result l.accepted

  kept-text-past : within_ceilings (counts_to (length (us ++ x ∷ [])) kept-text.is-text) ≡ false
  unfolding kept-text chain-text
  kept-text-past =
      let l = left_out n f q K (chain-fine (walk c) start_fine) r.built r.counts in
      ap within_ceilings (text-counts (us ++ x ∷ []) l.words refl (walk c) kept-text.is-text ∙ kept-counts n f K r.counts l.words q l.none-begins) ∙ kept-past

  kept-within : (vs ws : List Word) → us ≡ vs ++ ws → Within (counts_to (length vs) kept-text.is-text)
  kept-within vs [] e =
      let g : us ++ x ∷ [] ≡ vs ++ x ∷ [] = ap (λ (l : List Word). l ++ x ∷ []) (e ∙ append-nil vs) in
      chain-counts-within vs [] kept-text.more x (subst (λ (l : List Word). ChainOf start begun l (ask n ∷ K) r) g c) (ap (λ (l : List Word). l ++ kept-text.more) g ∙ append_assoc vs (x ∷ []) kept-text.more) kept-text.is-text
  kept-within vs (u ∷ ws) e =
      let g : us ++ x ∷ [] ≡ vs ++ u ∷ (ws ++ x ∷ []) = ap (λ (l : List Word). l ++ x ∷ []) e ∙ append_assoc vs (u ∷ ws) (x ∷ []) in
      chain-counts-within vs (ws ++ x ∷ []) kept-text.more u (subst (λ (l : List Word). ChainOf start begun l (ask n ∷ K) r) g c) (ap (λ (l : List Word). l ++ kept-text.more) g ∙ append_assoc vs (u ∷ (ws ++ x ∷ [])) kept-text.more) kept-text.is-text

  kept-none : (vs : List Word) → within_ceilings (settled_counts (ask n ∷ K) r.counts vs) ≡ false → NoneWithin (us ++ x ∷ []) vs
  kept-none [] e = past_end (λ t j. not-both (text-counts (us ++ x ∷ []) [] (sym (append-nil (us ++ x ∷ []))) (walk c) t) j e)
  kept-none (v ∷ vs) e = past_word v vs (λ t j. not-both (text-counts (us ++ x ∷ []) (v ∷ t.more) (append_assoc (us ++ x ∷ []) (v ∷ []) t.more) (walk c) t.is-text ∙ settled-next (ask n ∷ K) r.counts v t.more vs) j e)

  kept-place : {ws : List Word} {p : Position} → p ≡ word_at (word_no 0 r.built) → ws ≡ (us ++ x ∷ []) ++ left → top_waits (ask n ∷ K) ≡ true → PlaceOfTen ws p
  kept-place e g t = record { us = us; here = x; left = left; split = g ∙ append_assoc us (x ∷ []) left; place = sym (e ∙ ap word_at (kept-last us x (walk c) start-calm t)); begun = kept-text; within = kept-within; past = kept-text-past; none = kept-none left i }

kept_by : (us : List Word) {M : Stack} {r : Reading Built} → Last us → ChainOf start begun us M r → Waiting M → top_waits M ≡ true → (left : List Word) → Proper us → within_ceilings (settled_counts M r.counts left) ≡ false
    → {ws : List Word} {p : Position} → p ≡ word_at (word_no 0 r.built) → ws ≡ us ++ left → PlaceOfTen ws p
unfolding waits rule_of
kept_by _ no_last no_word (waiting n f K q) t left p i e g = not_so t
kept_by _ (last us x) c (waiting n f K q) t left p i e g = kept-place us x q c left p i e g t

pub ten-place : (ws : List Word) (end : ℕ) (p : Position) → Proper ws → parse ws end ≡ refused (fault p CeilingPassed) → PlaceOfTen ws p
ten-place ws end p q h = go (stopped ws end (fault p CeilingPassed) h).left refl (ten-why (stopped ws end (fault p CeilingPassed) h).why refl)
  where
    s : StoppedAt ws end (fault p CeilingPassed)
    s = stopped ws end (fault p CeilingPassed) h

    front : Proper s.us
    front = proper-left s.us s.left (subst Proper s.split q)

    go : (left : List Word) → s.left ≡ left → Passes tree_steps within_ceilings (rule_of tree_steps) end s.stack s.sofar left p → PlaceOfTen ws p
    go [] e x =
        let k = passed-at-end end (chain-below (walk s.chain)) x in
        kept_by s.us (last_of s.us) s.chain (waiting-of s.stack k.waiting) k.waiting [] front k.past k.place (s.split ∙ ap (λ (l : List Word). s.us ++ l) e)
    go (w ∷ vs) e x = by (passed end w vs (chain-below (walk s.chain)) s.within x)
      where
        g : ws ≡ s.us ++ w ∷ vs
        g = s.split ∙ ap (λ (l : List Word). s.us ++ l) e

        by : Passed s.stack s.sofar w vs p → PlaceOfTen ws p
        by (kept-passes t k i) = kept_by s.us (last_of s.us) s.chain (waiting-of s.stack t) t (w ∷ vs) front i k g
        by (word-passes i b) = word-place s.chain w vs p (proper-left (s.us ++ w ∷ []) vs (subst Proper (g ∙ sym (append_assoc s.us (w ∷ []) vs)) q)) i b g
