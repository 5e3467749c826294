-- The machine's tale of states, and of a whole text, is what the grammar counts.
use Rattle.std.specs.Prelude.{Bool, true, false, cond, List, [], ◌∷◌, ◌++◌, map, ◌≡◌, refl, ℕ, suc, eqb, drop, take}
use Rattle.std.proofs.Math.Option.{Option, none, some}
use Rattle.std.proofs.Common.{◌∙◌, ap, sym}
use Rattle.language.specs.Alternatives.{after_step, followed, lead}
use Rattle.language.specs.Building.{Built}
use Rattle.language.specs.Declaring.{begin_labelled, begin_valued, make_state, tree_steps}
use Rattle.language.specs.Kinds.{a_name, at_sign, close_paren, colon, control_word, dollar, end_word, open_bracket, open_paren, period, slash}
use Rattle.language.specs.Machine.{Alternative, Ask, Tally, ask, counted, dollar_option, first_name, make, sections, state, state_action, state_body, state_name, state_rest, state_start, states_more}
use Rattle.language.specs.Notions.{in_state}
use Rattle.language.specs.SectionWays.{rule_of}
use Rattle.language.specs.BuildSteps.{Step}
use Rattle.language.specs.Tree.{Name}
use Rattle.language.specs.Ways.{signed_state_ways}
use Rattle.language.specs.Words as W
use Rattle.language.specs.Words.{Constant, Position, Word, kind_of, sign}
use Rattle.about_grammar.specs.Acting.{Started, after_action}
use Rattle.about_grammar.specs.Counting.{Mark, first_counts, one, plain}
use Rattle.about_grammar.specs.Courses.{Stack}
use Rattle.about_grammar.specs.Declared.{ending-kinds}
use Rattle.about_grammar.specs.Following.{Follows, among, among_first, among-rest, among-within}
use Rattle.about_grammar.specs.Stacks.{plain_ways}
use Rattle.about_grammar.specs.States.{all_there, name-there, slash-there}
use Rattle.about_grammar.specs.Taking.{Heads}
use Rattle.about_grammar.specs.Tale.{Eaten, Goes, ◌⊳◌, ate, bearing, before, building, eat, goes, next_among, pick, pick-append, pick-followed, pick-none, same_word, settled, stopped, tale, then-move, then-words, told, waits_for}
use Rattle.about_grammar.specs.Telling.{Marks, Tells, at, by}
use Rattle.about_grammar.specs.TellingActions.{Acting, rest-tail}
use Rattle.about_grammar.specs.TellingDeclared.{BeforeControl, Declares, Ended, Ending, OperationsPart, Optional}

-- ---- Labels.

pub data Labelling : List Word → Marks → Type 0 where
  unlabelled : Labelling [] (λ n ms. ms)
  labelled : {x : Name} {p : Position} {us : List Word} {f : Marks} → ((K : Stack) (n : ℕ) → Goes [] (ask state_start ∷ K) n (W.name x p ∷ us) (λ ms. first_counts state (f n ms)) (ask state_body ∷ K) n) → Labelling (W.name x p ∷ us) f

pub plain_label : (x : Name) (p q : Position) → Labelling (W.name x p ∷ sign colon q ∷ []) (λ n ms. plain n ∷ plain n ∷ ms)
unfolding tale eat pick waits_for rule_of among
plain_label x p q = labelled (λ K n. then-move (eats K n) building)
  where
    eats : (K : Stack) (n : ℕ) → Goes [] (ask state_start ∷ K) n (W.name x p ∷ sign colon q ∷ []) (λ ms. one state n ∷ plain n ∷ ms) (make begin_labelled ∷ ask state_body ∷ K) n
    eats K n = goes (λ ws _. refl)

pub label-with-value : (x : Name) (c : Constant) (p q r s t : Position) → Labelling (W.name x p ∷ sign open_paren q ∷ W.constant c r ∷ sign close_paren s ∷ sign colon t ∷ []) (λ n ms. plain n ∷ plain (suc n) ∷ plain (suc n) ∷ plain n ∷ plain n ∷ ms)
unfolding tale eat pick waits_for rule_of among
label-with-value x c p q r s t = labelled (λ K n. then-move (eats K n) building)
  where
    eats : (K : Stack) (n : ℕ) → Goes [] (ask state_start ∷ K) n (W.name x p ∷ sign open_paren q ∷ W.constant c r ∷ sign close_paren s ∷ sign colon t ∷ []) (λ ms. one state n ∷ plain (suc n) ∷ plain (suc n) ∷ plain n ∷ plain n ∷ ms) (make begin_valued ∷ ask state_body ∷ K) n
    eats K n = goes (λ ws _. refl)

-- ---- The first action of a state.

settled-more : (t : Tally) (o : Option (List ℕ)) (vs : List Word) (ts : List Tally) → settled o vs (t ∷ ts) ≡ t ∷ settled o vs ts
settled-more t none vs ts = refl
settled-more t (some ks) vs ts = go (next_among vs ks)
  where
    go : (b : Bool) → cond b (t ∷ ts) (t ∷ (ts ++ counted ∷ [])) ≡ t ∷ cond b ts (ts ++ counted ∷ [])
    go true = refl
    go false = refl

-- Ways that count as a state besides.
state-ways : (f : Step Built) (xs : List (Alternative Built)) (w : Word) (K : Stack) (n : ℕ) (vs : List Word)
    → told (pick (map (after_step f (state ∷ [])) xs) w K n stopped) vs (λ L m. tale L m vs) ≡ first_counts state (told (pick xs w K n stopped) vs (λ L m. tale L m vs))
unfolding pick
state-ways f [] w K n vs = refl
state-ways f (a ∷ xs) w K n vs = go (eqb (kind_of w) a.on) (state-ways f xs w K n vs)
  where
    L : Stack
    L = a.to ++ cond a.instead (drop 1 K) K

    go : (b : Bool) → told (pick (map (after_step f (state ∷ [])) xs) w K n stopped) vs (λ L m. tale L m vs) ≡ first_counts state (told (pick xs w K n stopped) vs (λ L m. tale L m vs))
        → told (cond b (ate L (bearing a.bearing n) (state ∷ a.tallies) (waits_for a.to)) (pick (map (after_step f (state ∷ [])) xs) w K n stopped)) vs (λ L m. tale L m vs)
        ≡ first_counts state (told (cond b (ate L (bearing a.bearing n) a.tallies (waits_for a.to)) (pick xs w K n stopped)) vs (λ L m. tale L m vs))
    go true rec = ap (λ (ts : List Tally). record { tallies = ts; depth = bearing a.bearing n } ∷ tale L (bearing a.bearing n) vs) (settled-more state (waits_for a.to) vs a.tallies)
    go false rec = rec

abbrev name_kinds : List ℕ
name_kinds = open_bracket ∷ at_sign ∷ []

-- A name at the start that is no label's counts as an action's does.
first-name-counts : (vs : List Word) → Follows (colon ∷ open_paren ∷ []) vs → settled (some (colon ∷ open_paren ∷ name_kinds)) vs (state ∷ []) ≡ state ∷ settled (some name_kinds) vs []
unfolding among
first-name-counts [] h = refl
first-name-counts (v ∷ vs) h =
    rw (among_first (kind_of v) colon (open_paren ∷ []) h, among_first (kind_of v) open_paren [] (among-rest (kind_of v) colon (open_paren ∷ []) h)) (go (cond (eqb (kind_of v) open_bracket) true (cond (eqb (kind_of v) at_sign) true false)))
  where
    go : (b : Bool) → cond b (state ∷ []) (state ∷ counted ∷ []) ≡ state ∷ cond b [] (counted ∷ [])
    go true = refl
    go false = refl

first-name : (K : Stack) (n : ℕ) (vs : List Word) → Follows (colon ∷ open_paren ∷ []) vs → tale (ask first_name ∷ K) n vs ≡ tale (ask state_name ∷ K) n vs
unfolding tale eat pick waits_for rule_of
first-name K n [] h = refl
first-name K n (w ∷ vs) h =
    let early = take 2 (rule_of tree_steps first_name).ways in
    let late = drop 2 (rule_of tree_steps first_name).ways in
    ap (λ (x : Eaten). told x vs (λ L m. tale L m vs)) (pick-append early late w K n (eat K n w) ∙ pick-none early w h K n (pick late w K n (eat K n w)))

start-acting : (K : Stack) (n : ℕ) (w : Word) (vs : List Word) → Started (w ∷ vs) → tale (ask state_start ∷ K) n (w ∷ vs) ≡ first_counts state (tale (ask state_action ∷ ask state_rest ∷ K) n (w ∷ vs))
unfolding tale eat pick waits_for rule_of plain_ways
start-acting K n (W.name x p) vs s =
    ap (λ (ts : List Tally). record { tallies = ts; depth = n } ∷ tale (ask first_name ∷ ask state_rest ∷ K) n vs) (first-name-counts vs s)
    ∙ ap (λ (l : List Mark). record { tallies = state ∷ settled (some name_kinds) vs []; depth = n } ∷ l) (first-name (ask state_rest ∷ K) n vs s)
start-acting K n (W.constant c p) vs s = absurd s
start-acting K n (W.sign k p) vs s =
    let early = take 2 (rule_of tree_steps state_start).ways in
    let late = drop 2 (rule_of tree_steps state_start).ways in
    let w = sign k p in
    let signed = signed_state_ways tree_steps in
    ap (λ (x : Eaten). told x vs (λ L m. tale L m vs))
    (pick-append early late w K n stopped ∙ pick-none early w (among-within k (a_name ∷ slash ∷ []) (slash ∷ a_name ∷ period ∷ end_word ∷ []) all_there s) K n (pick late w K n stopped))
    ∙ state-ways (λ p b. tree_steps.begin_actions p (tree_steps.begin_unlabelled p b)) (map (followed (ask state_rest ∷ [])) signed) w K n vs
    ∙ ap (λ (x : Eaten). first_counts state (told x vs (λ L m. tale L m vs)))
    (pick-followed (ask state_rest ∷ []) refl signed refl w K n stopped
    ∙ sym (pick-append (take 1 (rule_of tree_steps state_action).ways) signed w (ask state_rest ∷ K) n stopped
    ∙ pick-none (take 1 (rule_of tree_steps state_action).ways) w (among-within k (a_name ∷ []) (slash ∷ a_name ∷ period ∷ end_word ∷ []) name-there s) (ask state_rest ∷ K) n (pick signed w (ask state_rest ∷ K) n stopped)))

body-acting : (K : Stack) (n : ℕ) (w : Word) (vs : List Word) → Started (w ∷ vs) → tale (ask state_body ∷ K) n (w ∷ vs) ≡ tale (ask state_action ∷ ask state_rest ∷ K) n (w ∷ vs)
unfolding tale eat pick waits_for rule_of
body-acting K n (W.name x p) vs s = refl
body-acting K n (W.constant c p) vs s = absurd s
body-acting K n (W.sign k p) vs s =
    let early = take 1 (rule_of tree_steps state_body).ways in
    let late = drop 1 (rule_of tree_steps state_body).ways in
    ap (λ (x : Eaten). told x vs (λ L m. tale L m vs))
    (pick-append early late (sign k p) K n stopped ∙ pick-none early (sign k p) (among-within k (slash ∷ []) (slash ∷ a_name ∷ period ∷ end_word ∷ []) slash-there s) K n (pick late (sign k p) K n stopped))

-- ---- States.

abbrev pub Stated : List Word → Marks → Type 0
Stated us f = Tells (ask state_start ∷ []) [] [] us f

module _ {K : Stack} {n : ℕ} {p : Position} where
  slash-first : Goes [] (ask state_start ∷ K) n (sign slash p ∷ []) (λ ms. one state n ∷ ms) (make make_state ∷ K) n
  unfolding tale eat pick waits_for rule_of
  slash-first = goes (λ ws _. refl)

  slash-body : Goes [] (ask state_body ∷ K) n (sign slash p ∷ []) (λ ms. plain n ∷ ms) (make make_state ∷ K) n
  unfolding tale eat pick waits_for rule_of
  slash-body = goes (λ ws _. refl)

  slash-rest : Goes [] (ask state_rest ∷ K) n (sign slash p ∷ []) (λ ms. plain n ∷ ms) (make make_state ∷ K) n
  unfolding tale eat pick waits_for rule_of
  slash-rest = goes (λ ws _. refl)

pub state-idle : {us : List Word} {f : Marks} (p : Position) → Labelling us f → Stated (us ++ sign slash p ∷ []) (λ n ms. first_counts state (f n (plain n ∷ ms)))
state-idle p unlabelled = by (λ K n. then-move slash-first building)
state-idle p (labelled x) = by (λ K n. then-words (x K n) (then-move slash-body building))

acting-first : (us : List Word) → Heads [] us → ((vs : List Word) → Follows after_action vs → Started (us ++ vs)) → {K : Stack} {n : ℕ} {f : List Mark → List Mark} {L : Stack} {m : ℕ}
    → Goes after_action (ask state_action ∷ ask state_rest ∷ K) n us f L m → Goes after_action (ask state_start ∷ K) n us (λ ms. first_counts state (f ms)) L m
acting-first [] h s x = absurd h
acting-first (w ∷ us) h s {K} {n} x = goes (λ vs g. start-acting K n w (us ++ vs) (s vs g) ∙ ap (first_counts state) (x.says vs g))

acting-body : (us : List Word) → Heads [] us → ((vs : List Word) → Follows after_action vs → Started (us ++ vs)) → {K : Stack} {n : ℕ} {f : List Mark → List Mark} {L : Stack} {m : ℕ}
    → Goes after_action (ask state_action ∷ ask state_rest ∷ K) n us f L m → Goes after_action (ask state_body ∷ K) n us f L m
acting-body [] h s x = absurd h
acting-body (w ∷ us) h s {K} {n} x = goes (λ vs g. body-acting K n w (us ++ vs) (s vs g) ∙ x.says vs g)

-- Actions begin with a word.
some_word : (us : List Word) → ((vs : List Word) → Follows after_action vs → Started (us ++ vs)) → Heads [] us
unfolding among
some_word [] s = absurd (s [] tt)
some_word (w ∷ us) s = refl

pub state-acting : {us vs : List Word} {f g : Marks} (p : Position) → ((ws : List Word) → Follows after_action ws → Started (vs ++ ws)) → Labelling us f → Acting in_state vs g → Stated (us ++ (vs ++ sign slash p ∷ [])) (λ n ms. first_counts state (f n (g n (plain n ∷ ms))))
unfolding among
state-acting {vs = vs} p s unlabelled y = by (λ K n. before (acting-first vs (some_word vs s) s (at (y.takes state_rest rest-tail) K n)) (λ ws _. refl) (then-move slash-rest building))
state-acting {vs = vs} p s (labelled x) y = by (λ K n. then-words (x K n) (before (acting-body vs (some_word vs s) s (at (y.takes state_rest rest-tail) K n)) (λ ws _. refl) (then-move slash-rest building)))

abbrev ends : List ℕ
ends = period ∷ end_word ∷ []

more-states : (K : Stack) (n : ℕ) (w : Word) → among (kind_of w) ends ≡ false → (vs : List Word) → tale (ask states_more ∷ K) n (w ∷ vs) ≡ tale (ask state_start ∷ ask states_more ∷ K) n (w ∷ vs)
unfolding eat rule_of plain_ways waits_for
more-states K n w h vs =
    let ways = (rule_of tree_steps state_start).ways in
    let two = lead period [] ∷ lead end_word [] ∷ [] in
    same_word (ask states_more ∷ K) (ask state_start ∷ ask states_more ∷ K) n w
    (pick-append (map (followed (ask states_more ∷ [])) ways) two w K n stopped ∙ ap (pick (map (followed (ask states_more ∷ [])) ways) w K n) (pick-none two w h K n stopped) ∙ pick-followed (ask states_more ∷ []) refl ways refl w K n stopped) vs

abbrev pub StatesListed : List Word → Marks → Type 0
StatesListed us f = Tells (ask state_start ∷ ask states_more ∷ []) (ask states_more ∷ []) [] us f

acting-more : (us : List Word) → Heads ends us → {K : Stack} {n : ℕ} {ks : List ℕ} {f : List Mark → List Mark} {L : Stack} {m : ℕ} → Goes ks (ask state_start ∷ ask states_more ∷ K) n us f L m → Goes ks (ask states_more ∷ K) n us f L m
acting-more [] h x = absurd h
acting-more (w ∷ us) h {K} {n} x = goes (λ vs g. more-states K n w h (us ++ vs) ∙ x.says vs g)

pub states-one : {us : List Word} {f : Marks} → Stated us f → StatesListed us f
states-one x = by (λ K n. at x (ask states_more ∷ K) n)

pub states-more : {us vs : List Word} {f g : Marks} → Heads ends vs → Stated us f → StatesListed vs g → StatesListed (us ++ vs) (λ n ms. f n (g n ms))
states-more {vs = vs} h x y = by (λ K n. then-words (at x (ask states_more ∷ K) n) (acting-more vs h (at y K n)))

states-end : Ending states_more []
unfolding tale eat pick waits_for rule_of
states-end = record { ends = λ k e K n p. ending-kinds (λ k. Goes [] (ask states_more ∷ K) n (sign k p ∷ []) (λ ms. plain n ∷ ms) K n) (goes (λ ws _. refl)) (goes (λ ws _. refl)) k e }

pub record Controlled (us : List Word) (f : Marks) : Type 0 where
  pub takes : (a : Ask) → BeforeControl a → (K : Stack) (n : ℕ) → Goes [] (ask a ∷ K) n us (f n) (ask dollar_option ∷ K) n

pub control-section : {us vs : List Word} {f g : Marks} (p : Position) → StatesListed us f → Ended vs g → Controlled (sign control_word p ∷ (us ++ vs)) (λ n ms. plain n ∷ f n (g n ms))
control-section p x e = record { takes = λ a r K n. r.to K n p ⊳ then-words (at x (ask dollar_option ∷ K) n) (e.takes states_more [] states-end (ask dollar_option ∷ K) n) }

-- ---- The whole.

abbrev pub Dollared : List Word → Marks → Type 0
Dollared us f = (n : ℕ) → tale (ask dollar_option ∷ []) n us ≡ f n []

pub no-dollar : Dollared [] (λ n ms. ms)
unfolding tale
no-dollar n = refl

pub some-dollar : (p : Position) → Dollared (sign dollar p ∷ []) (λ n ms. plain n ∷ ms)
unfolding tale eat pick waits_for rule_of
some-dollar p n = refl

pub whole-text : (us vs ws xs : List Word) (f g h k : Marks) → Declares us f → OperationsPart vs g → Controlled ws h → Dollared xs k → (n : ℕ) → tale (ask sections ∷ []) n (us ++ (vs ++ (ws ++ xs))) ≡ f n (g n (h n (k n [])))
unfolding among
whole-text us vs ws xs f g h k x y z w n = go (y.from x.next x.ready)
  where
    free : (l : List Word) → Follows [] l
    free [] = tt
    free (v ∷ l) = refl

    go : Optional x.next BeforeControl vs g → tale (ask sections ∷ []) n (us ++ (vs ++ (ws ++ xs))) ≡ f n (g n (h n (k n [])))
    go o =
        (x.takes [] n).says (vs ++ (ws ++ xs)) (free (vs ++ (ws ++ xs))) ∙ ap (f n) ((o.takes [] n).says (ws ++ xs) (free (ws ++ xs)) ∙ ap (g n) ((z.takes o.next o.ready [] n).says xs (free xs) ∙ ap (h n) (w n)))
