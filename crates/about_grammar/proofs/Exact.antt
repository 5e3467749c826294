-- The grammar is exact, in one place: for the words of a text the machine accepts what the grammar derives within the ceilings, with the one tree that it has; and it refuses with the number and at the place that 01 says, the only ones.
use Rattle.std.specs.Prelude.{List, [], ◌∷◌, ◌≡◌, refl, ℕ}
use Rattle.std.proofs.Common.{append-nil, ◌∙◌, ap, subst, sym, arith}
use Rattle.language.specs.Building.{Built}
use Rattle.language.specs.Declaring.{tree_steps}
use Rattle.language.specs.Machine.{Fed, Parsed, Reading, after, feed, parsed, refused, run, took, within_ceilings}
use Rattle.language.specs.Ceilings.{deepest}
use Rattle.language.specs.declared.refusals.Refusal.TheVariants.{CeilingPassed, NoContinuation}
use Rattle.language.specs.SectionWays.{parse, parse_with, rule_of}
use Rattle.language.specs.Tree.{Text}
use Rattle.language.specs.WordStage.{scan}
use Rattle.language.specs.Words.{Fault, Position, Word, fault, position, word_at}
use Rattle.about_grammar.specs.Accepting.{Proper}
use Rattle.about_grammar.specs.Ceilingless.{Passes, all, passes-feed, passes-finish}
use Rattle.about_grammar.specs.Complete.{complete}
use Rattle.about_grammar.specs.Courses.{Stack}
use Rattle.about_grammar.specs.Exact.{Accepted}
use Rattle.about_grammar.specs.Fine.{Fine}
use Rattle.about_grammar.specs.FirstFault.{first-fault, first_one, no_text, proper-left}
use Rattle.about_grammar.proofs.NoTens.{no-ten, ten-one}
use Rattle.about_grammar.specs.Places.{Legal, PlaceOfTen, RefusalOf, Within, ten, three}
use Rattle.about_grammar.specs.ProperWords.{scan-proper}
use Rattle.about_grammar.specs.Refusals.{StoppedAt, begun, eased, nothing-counted, start, stopped}
use Rattle.about_grammar.specs.Sound.{sound}
use Rattle.about_grammar.specs.StaysFine.{stays-fine}
use Rattle.about_grammar.specs.Stepping.{settled_counts}
use Rattle.about_grammar.specs.Stops.{Finished, Why, finishes, no_way, not-refused, refused-one, too_much, too_short}
use Rattle.about_grammar.proofs.TenPlaces.{kept-fits, ten-place}

-- Where the machine stops for 3, the word kept last is within the ceilings.
settled-there : {ws : List Word} {end : ℕ} {f : Fault} (s : StoppedAt ws end f) → f.refusal ≡ NoContinuation → parse ws end ≡ refused f → Within (settled_counts s.stack s.sofar.counts s.left)
unfolding run parse parse_with
settled-there {ws} {end} {f} s n h = kept-fits s.stack s.sofar s.within s.left end (λ p x. not-ten-too (sym h ∙ ap (λ (l : List Word). parse l end) s.split ∙ s.reach s.left end ∙ ten-run s.left p x))
  where
    ten-run : (vs : List Word) (p : Position) → Passes tree_steps within_ceilings (rule_of tree_steps) end s.stack s.sofar vs p → run tree_steps within_ceilings (rule_of tree_steps) s.stack vs end s.sofar ≡ refused (fault p CeilingPassed)
    ten-run [] p x = passes-finish tree_steps within_ceilings (rule_of tree_steps) end x
    ten-run (w ∷ vs) p x = ap (λ (z : Fed Built). after tree_steps within_ceilings (rule_of tree_steps) z (λ L q. run tree_steps within_ceilings (rule_of tree_steps) L vs end q)) (passes-feed tree_steps within_ceilings (rule_of tree_steps) end w vs x)

    not-ten-too : {p : Position} → ◌≡◌ {A = Parsed Built} (refused f) (refused (fault p CeilingPassed)) → ⊥
    not-ten-too e = let k : NoContinuation ≡ CeilingPassed = sym n ∙ ap (λ (g : Fault). g.refusal) (refused-one e) in let z : ◌≡◌ {A = ℕ} 0 1 = cc in omega arith

-- The word that it stops for is taken by no machine.
cannot-stand : {L : Stack} {q : Reading Built} {end : ℕ} {left : List Word} {f : Fault} → Why tree_steps within_ceilings Within (λ c e. e) eased (rule_of tree_steps) Fine stays-fine L q end left f → f.refusal ≡ NoContinuation
    → (w : Word) (vs : List Word) → left ≡ w ∷ vs → (M : Stack) (s : Reading Built) → feed tree_steps all (rule_of tree_steps) L w q ≡ took M s → ⊥
cannot-stand {L} {q} (no_way v xs e) n w vs g M s h = let k : v ≡ w = cc in let z : ◌≡◌ {A = ℕ} 0 1 = cc (ap (λ (u : Word). feed tree_steps all (rule_of tree_steps) L u q) k) in omega arith
cannot-stand (too_short e) n w vs g M s h = let z : ◌≡◌ {A = ℕ} 0 1 = cc in omega arith
cannot-stand (too_much xs p x) n w vs g M s h = let z : ◌≡◌ {A = ℕ} 0 1 = cc in omega arith

abbrev AcceptedBy : List Word → ℕ → Built → Type 0
AcceptedBy ws end b = Finished tree_steps within_ceilings Within (λ c e. e) eased (rule_of tree_steps) Fine stays-fine start begun ws end b

accepted-by : (ws : List Word) (end : ℕ) (b : Built) → parse ws end ≡ parsed b → AcceptedBy ws end b
unfolding parse parse_with
accepted-by ws end b h = finishes tree_steps within_ceilings Within (λ c e. e) eased (rule_of tree_steps) Fine stays-fine ws start begun nothing-counted end b h

finished-within : (ws : List Word) (end : ℕ) (b : Built) (a : AcceptedBy ws end b) → Within (settled_counts a.stack a.sofar.counts [])
finished-within ws end b a = kept-fits a.stack a.sofar a.within [] end (λ p x. not-refused (sym a.finished ∙ passes-finish tree_steps within_ceilings (rule_of tree_steps) end x))

module _ (ws : List Word) (end : ℕ) (proper : Proper ws) where
  pub exact : (t : Text) → (Legal ws t → Accepted ws end t) × (Accepted ws end t → Legal ws t)
  exact t = (λ l. complete l.0 l.1 end, λ a. subst (Legal ws) a.2 (sound ws end a.0 proper a.1))

  -- No word passes a ceiling where the machine stops for 3.
  none_passes : {f : Fault} (s : StoppedAt ws end f) → Why tree_steps within_ceilings Within (λ c e. e) eased (rule_of tree_steps) Fine stays-fine s.stack s.sofar end s.left f → f.refusal ≡ NoContinuation → parse ws end ≡ refused f → (q : Position) → PlaceOfTen ws q → ⊥
  none_passes s y n h q x = no-ten s.chain s.split (proper-left s.us s.left (subst Proper s.split proper)) (settled-there s n h) (cannot-stand y n) q x

  a-three : (p : Position) → parse ws end ≡ refused (fault p NoContinuation) → RefusalOf ws end (fault p NoContinuation)
  a-three p h = let s = stopped ws end (fault p NoContinuation) h in three p (first-fault ws end p proper h) (none_passes s s.why refl h)

  judged : {L : Stack} {q : Reading Built} {left : List Word} {f : Fault} → Why tree_steps within_ceilings Within (λ c e. e) eased (rule_of tree_steps) Fine stays-fine L q end left f → parse ws end ≡ refused f → RefusalOf ws end f
  judged (no_way w vs e) h = a-three (word_at w) h
  judged (too_short e) h = a-three (position end) h
  judged (too_much vs p x) h = ten p (ten-place ws end p proper h)

  -- A refusal is 3 or 10, and stands where it should.
  pub refusal : (f : Fault) → parse ws end ≡ refused f → RefusalOf ws end f
  refusal f h = judged (stopped ws end f h).why h

  -- Words that are accepted have none.
  pub none-accepted : (b : Built) → parse ws end ≡ parsed b → (f : Fault) → RefusalOf ws end f → ⊥
  none-accepted b h f (three p x n) = no_text x (record { depth = deepest; tree = b.text; derived = (sound ws end b proper h).0 })
  none-accepted b h f (ten p x) = let a = accepted-by ws end b h in no-ten a.chain (sym (append-nil ws)) proper (finished-within ws end b a) (λ w vs q. absurd (let z : ◌≡◌ {A = ℕ} 0 1 = cc in omega arith)) p x

-- There is one refusal at most.
pub refusal-one : {ws : List Word} {end : ℕ} {f g : Fault} → RefusalOf ws end f → RefusalOf ws end g → f ≡ g
refusal-one (three p x n) (three q y m) = ap (λ (z : Position). fault z NoContinuation) (first_one x y)
refusal-one (three p x n) (ten q y) = absurd (n q y)
refusal-one (ten p x) (three q y m) = absurd (m p x)
refusal-one (ten p x) (ten q y) = ap (λ (z : Position). fault z CeilingPassed) (ten-one x y)

-- And what is such a refusal is the machine's.
pub refused-so : (ws : List Word) (end : ℕ) → Proper ws → (f : Fault) → RefusalOf ws end f → parse ws end ≡ refused f
refused-so ws end q f x = go (parse ws end) refl
  where
    go : (r : Parsed Built) → parse ws end ≡ r → r ≡ refused f
    go (parsed b) e = absurd (none-accepted ws end q b e f x)
    go (refused g) e = ap refused (refusal-one (refusal ws end q g e) x)

-- The words of a text are proper.
pub exact-text : (s : List ℕ) (end : ℕ) (t : Text) → (Legal (scan s).words t → Accepted (scan s).words end t) × (Accepted (scan s).words end t → Legal (scan s).words t)
exact-text s end t = exact (scan s).words end (scan-proper s) t

pub refusal-of-text : (s : List ℕ) (end : ℕ) (f : Fault) → parse (scan s).words end ≡ refused f → RefusalOf (scan s).words end f
refusal-of-text s end f h = refusal (scan s).words end (scan-proper s) f h

pub refused-text : (s : List ℕ) (end : ℕ) (f : Fault) → RefusalOf (scan s).words end f → parse (scan s).words end ≡ refused f
refused-text s end f x = refused-so (scan s).words end (scan-proper s) f x
