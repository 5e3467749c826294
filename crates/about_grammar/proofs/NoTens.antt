-- Where the machine refuses with 3 or accepts, no word passes a ceiling; and at most one does.
use Rattle.std.specs.Prelude.{Bool, true, false, cond, ◌≡◌, ℕ, length, take}
use mathlib.Core.List.{List, [], ◌∷◌, ◌++◌, append_assoc}
use Rattle.std.proofs.Math.Option.{Option, none, some}
use Rattle.std.proofs.Common.{◌∙◌, sym, subst, arith}
use Rattle.std.proofs.Math.Path.{ap, refl}
use Rattle.language.specs.Building.{Built, nothing_built}
use Rattle.language.specs.Declaring.{tree_steps}
use Rattle.language.specs.Machine.{Counts, Fed, Reading, Without, after, again, ask, counted, ease, feed, keep, make, may, must, no_counts, operand, parsed, run, tallied, took, within_ceilings, word, wrong}
use Rattle.language.specs.SectionWays.{parse_with, rule_of}
use Rattle.language.specs.Words.{Position, Word, kind_of, word_at}
use Rattle.about_grammar.specs.Accepting.{Proper}
use Rattle.about_grammar.specs.Ceilingless.{all}
use Rattle.about_grammar.proofs.Chains.{before-within, chain-begins, chain-below, chain-reach, chain-within, halves, text-counts, walk}
use Rattle.about_grammar.specs.Complete.{complete-unbounded}
use Rattle.about_grammar.specs.Counting.{Mark, counts_behind}
use Rattle.about_grammar.specs.Courses.{Stack}
use Rattle.about_grammar.specs.FirstFault.{Splits, begins-front, further, nearer, same, splits}
use Rattle.about_grammar.specs.Following.{among}
use Rattle.about_grammar.specs.Places.{Begins, IsText, NoneWithin, PlaceOfTen, Within, counts_to, past_end, past_word}
use Rattle.about_grammar.specs.Refusals.{ChainOf, begun, nothing-counted, start}
use Rattle.about_grammar.specs.Stacks.{false-true, kinds_of}
use Rattle.about_grammar.specs.Stepping.{settled_counts, takes-way}
use Rattle.about_grammar.specs.Stops.{not-refused}
use Rattle.about_grammar.specs.Tale.{next_among, settled, tale, waiting, waits_for}
use Rattle.about_grammar.proofs.TenPlaces.{settled-next}
use Rattle.about_grammar.specs.Told.{telling}

-- Texts of the same words count alike.
counts_same : {ws vs : List Word} (k : ℕ) → ws ≡ vs → (t : IsText ws) (u : IsText vs) → counts_to k t ≡ counts_to k u
unfolding counts_to
counts_same k e t u = ap (λ (ms : List Mark). counts_behind (take k ms) no_counts) (sym (telling t.derived 0) ∙ ap (tale start 0) e ∙ telling u.derived 0)

none_of : {us left : List Word} (w : Word) (vs : List Word) → NoneWithin us left → left ≡ w ∷ vs → (t : Begins (us ++ w ∷ [])) → Within (counts_to (length us) t.is-text) → ⊥
none_of {us} w vs (past_word v xs n) e = subst (λ (u : Word). (t : Begins (us ++ u ∷ [])) → Within (counts_to (length us) t.is-text) → ⊥) (let q : v ≡ w = cc in q) n
none_of w vs (past_end n) e = absurd (let z : ◌≡◌ {A = ℕ} 0 1 = cc in omega arith)

-- Counts that pass where others do not: the next word begins what waits.
record Clash (K : Stack) (left : List Word) : Type 0 where
  kinds : List ℕ
  waits : waits_for K ≡ some kinds
  begins : next_among left kinds ≡ true

clash : (K : Stack) (c : Counts) (vs left : List Word) → Within c → Within (settled_counts K c left) → within_ceilings (settled_counts K c vs) ≡ false → Clash K left
unfolding tallied
clash K c vs left i j e = go (waits_for K) refl j e
  where
    by : (ks : List ℕ) → waits_for K ≡ some ks → (a b : Bool) → next_among left ks ≡ b → Within (tallied (cond b [] (counted ∷ [])) c) → within_ceilings (tallied (cond a [] (counted ∷ [])) c) ≡ false → Clash K left
    by ks q true b g j e = false-true (sym e ∙ i)
    by ks q false true g j e = record { kinds = ks; waits = q; begins = g }
    by ks q false false g j e = false-true (sym e ∙ j)

    go : (o : Option (List ℕ)) → waits_for K ≡ o → Within (tallied (settled o left []) c) → within_ceilings (tallied (settled o vs []) c) ≡ false → Clash K left
    go none q j e = false-true (sym e ∙ i)
    go (some ks) q j e = by ks q (next_among vs ks) (next_among left ks) refl j e

some-not-none : {A : Type 0} {ks : List ℕ} → ◌≡◌ {A = Option (List ℕ)} none (some ks) → A
some-not-none e = absurd (let z : ◌≡◌ {A = ℕ} 0 1 = cc in omega arith)

waits-takes : (K : Stack) (ks : List ℕ) → waits_for K ≡ some ks → (r : Reading Built) (w : Word) → among (kind_of w) ks ≡ true → (L : Stack) × (q : Reading Built) × (feed tree_steps all (rule_of tree_steps) K w r ≡ took L q)
unfolding waits_for
waits-takes [] ks e r w a = some-not-none e
waits-takes (word k g ∷ K) ks e r w a = some-not-none e
waits-takes (keep k ∷ K) ks e r w a = some-not-none e
waits-takes (again ∷ K) ks e r w a = some-not-none e
waits-takes (make f ∷ K) ks e r w a = some-not-none e
waits-takes (ease ∷ K) ks e r w a = some-not-none e
waits-takes (ask n ∷ K) ks e r w a = takes-way n K r w (subst (λ (l : List ℕ). among (kind_of w) l ≡ true) (sym (kinds (rule_of tree_steps n).without e)) a)
  where
    kinds : (o : Without Built) → waiting o (kinds_of (rule_of tree_steps n).ways) ≡ some ks → kinds_of (rule_of tree_steps n).ways ≡ ks
    kinds must q = some-not-none q
    kinds (may f) q = some-not-none q
    kinds (operand f) q = cc

-- The words us were taken within the ceilings, and so is the word kept last, by what is left; and the first word that is left cannot stand.
module _ {ws us left : List Word} {M : Stack} {r : Reading Built} (c : ChainOf start begun us M r) (e : ws ≡ us ++ left) (proper : Proper us) (i : Within (settled_counts M r.counts left))
    (stuck : (w : Word) (vs : List Word) → left ≡ w ∷ vs → (L : Stack) (q : Reading Built) → feed tree_steps all (rule_of tree_steps) M w r ≡ took L q → ⊥) where
  no-text-on : (w : Word) (vs : List Word) → left ≡ w ∷ vs → Begins (us ++ w ∷ []) → ⊥
  unfolding run parse_with
  no-text-on w vs q t = go (feed tree_steps all (rule_of tree_steps) M w r) refl (complete-unbounded t.is-text.derived 0)
    where
      go : (x : Fed Built) → feed tree_steps all (rule_of tree_steps) M w r ≡ x → (b : Built) × (parse_with tree_steps all nothing_built ((us ++ w ∷ []) ++ t.more) 0 ≡ parsed b) × (b.text ≡ t.is-text.tree) → ⊥
      go (took L s) f y = stuck w vs q L s f
      go (wrong f) g y =
          not-refused (sym y.1 ∙ ap (λ (l : List Word). run tree_steps all (rule_of tree_steps) start l 0 begun) (append_assoc us (w ∷ []) t.more) ∙ chain-reach (walk c) (w ∷ t.more) 0
          ∙ ap (λ (z : Fed Built). after tree_steps all (rule_of tree_steps) z (λ L s. run tree_steps all (rule_of tree_steps) L t.more 0 s)) g)

  taken-clash : (vs : List Word) → left ≡ vs → Clash M vs → ⊥
  taken-clash [] q x = false-true x.begins
  taken-clash (w ∷ vs) q x = let y = waits-takes M x.kinds x.waits r w x.begins in stuck w vs q y.0 y.1 y.2

  pub no-ten : (p : Position) → PlaceOfTen ws p → ⊥
  no-ten p y = go (splits Y y.left us left (append_assoc y.us (y.here ∷ []) y.left ∙ sym y.split ∙ e))
    where
      Y : List Word
      Y = y.us ++ y.here ∷ []

      go : Splits Y y.left us left → ⊥
      go (same a b) =
          let k = text-counts us y.begun.more (ap (λ (l : List Word). l ++ y.begun.more) a) (walk c) y.begun.is-text in
          let j : within_ceilings (counts_to (length us) y.begun.is-text) ≡ false = subst (λ (l : List Word). within_ceilings (counts_to (length l) y.begun.is-text) ≡ false) a y.past in
          taken-clash left refl (clash M r.counts y.begun.more left (chain-within c nothing-counted) i (ap within_ceilings (sym k) ∙ j))
      go (further w ds a b) =
          let h = halves Y (w ∷ ds) (subst (λ (l : List Word). ChainOf start begun l M r) a c) in
          let t : Begins (Y ++ w ∷ []) = begins-front (Y ++ w ∷ []) ds (subst Begins (a ∙ sym (append_assoc Y (w ∷ []) ds)) (chain-begins proper (walk c))) in
          let k = before-within w h.second (chain-below (walk h.first)) (chain-within h.first nothing-counted) [] in
          none_of w (ds ++ left) y.none b t
          (subst Within (sym (text-counts Y (w ∷ t.more) (append_assoc Y (w ∷ []) t.more) (walk h.first) t.is-text)) (subst Within (settled-next h.stack h.sofar.counts w (ds ++ []) t.more) k))
      go (nearer w ds a b) = no-text-on w (ds ++ y.left) b (begins-front (us ++ w ∷ []) ds (subst Begins (a ∙ sym (append_assoc us (w ∷ []) ds)) y.begun))

-- ---- One place.

-- Words with one more at the end, in two ways.
one_last : (us vs : List Word) (x y : Word) → us ++ x ∷ [] ≡ vs ++ y ∷ [] → x ≡ y
one_last [] [] x y e = cc
one_last [] (v ∷ []) x y e = absurd (let z : ◌≡◌ {A = ℕ} 0 1 = cc in omega arith)
one_last [] (v ∷ w ∷ vs) x y e = absurd (let z : ◌≡◌ {A = ℕ} 0 1 = cc in omega arith)
one_last (u ∷ []) [] x y e = absurd (let z : ◌≡◌ {A = ℕ} 0 1 = cc in omega arith)
one_last (u ∷ w ∷ us) [] x y e = absurd (let z : ◌≡◌ {A = ℕ} 0 1 = cc in omega arith)
one_last (u ∷ us) (v ∷ vs) x y e = one_last us vs x y (cc)

-- A proper front is a front of what stands before the last.
before_last : (us vs : List Word) (x w : Word) (ds : List Word) → us ++ x ∷ [] ≡ vs ++ w ∷ ds → (es : List Word) × (us ≡ vs ++ es)
before_last us [] x w ds e = (us, refl)
before_last [] (v ∷ []) x w ds e = absurd (let z : ◌≡◌ {A = ℕ} 0 1 = cc in omega arith)
before_last [] (v ∷ u ∷ vs) x w ds e = absurd (let z : ◌≡◌ {A = ℕ} 0 1 = cc in omega arith)
before_last (u ∷ us) (v ∷ vs) x w ds e = let r = before_last us vs x w ds (cc) in (r.0, cc r.1)

later : {ws : List Word} {p q : Position} (y : PlaceOfTen ws p) (z : PlaceOfTen ws q) (w : Word) (ds vs : List Word) → z.us ++ z.here ∷ [] ≡ (y.us ++ y.here ∷ []) ++ w ∷ ds → y.left ≡ w ∷ vs → ⊥
later y z w ds vs a b =
    let Y = y.us ++ y.here ∷ [] in
    let m = z.begun.more in
    let r = before_last z.us Y z.here w ds a in
    let e : (z.us ++ z.here ∷ []) ++ m ≡ (Y ++ w ∷ []) ++ (ds ++ m) = ap (λ (l : List Word). l ++ m) a ∙ append_assoc Y (w ∷ ds) m ∙ sym (append_assoc Y (w ∷ []) (ds ++ m)) in
    let t : Begins (Y ++ w ∷ []) = record { more = ds ++ m; is-text = subst IsText e z.begun.is-text } in
    none_of w vs y.none b t (subst Within (counts_same (length Y) e z.begun.is-text t.is-text) (z.within Y r.0 r.1))

pub ten-one : {ws : List Word} {p q : Position} → PlaceOfTen ws p → PlaceOfTen ws q → p ≡ q
ten-one {ws} {p} {q} y z = go (splits (y.us ++ y.here ∷ []) y.left (z.us ++ z.here ∷ []) z.left (append_assoc y.us (y.here ∷ []) y.left ∙ sym y.split ∙ z.split ∙ sym (append_assoc z.us (z.here ∷ []) z.left)))
  where
    go : Splits (y.us ++ y.here ∷ []) y.left (z.us ++ z.here ∷ []) z.left → p ≡ q
    go (same a b) = sym y.place ∙ ap word_at (one_last y.us z.us y.here z.here a) ∙ z.place
    go (further w ds a b) = absurd (later y z w ds (ds ++ z.left) a b)
    go (nearer w ds a b) = absurd (later z y w ds (ds ++ y.left) a b)
