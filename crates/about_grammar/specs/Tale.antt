-- What the machine counts at each word: its tale, told without what it builds and without ceilings.
use Rattle.std.specs.Prelude.{Bool, true, false, cond, List, [], ◌∷◌, ◌++◌, map, ◌≡◌, refl, ℕ, zero, suc, eqb, drop}
use Rattle.std.proofs.Common.{append_assoc, ◌∙◌, ap, subst}
use Rattle.std.proofs.Math.Option.{Option, none, some}
use Rattle.language.specs.Alternatives.{always, followed}
use Rattle.language.specs.Building.{Built}
use Rattle.language.specs.Declaring.{tree_steps}
use Rattle.language.specs.Kinds.{a_name}
use Rattle.language.specs.Machine.{Alternative, Ask, Bearing, Tally, Without, again, ask, closes, counted, ease, keep, level, make, may, must, opens, operand, word}
use Rattle.language.specs.SectionWays.{rule_of}
use Rattle.language.specs.BuildSteps.{Step}
use Rattle.language.specs.Words.{Word, kind_of}
use Rattle.about_grammar.specs.Counting.{Mark}
use Rattle.about_grammar.specs.Courses.{Stack}
use Rattle.about_grammar.specs.Following.{Follows, among, among_first, among-rest}
use Rattle.about_grammar.specs.Stacks.{kinds_of, plain-first, plain-rest, plain_ways}

abbrev pub mark : List Tally → ℕ → Mark
mark ts n = record { tallies = ts; depth = n }

abbrev pub fewer : ℕ → ℕ
fewer zero = zero
fewer (suc n) = n

abbrev pub bearing : Bearing → ℕ → ℕ
bearing level n = n
bearing opens n = suc n
bearing closes n = fewer n

-- The kinds of words that begin a notion on top which waits for the word just kept.
abbrev pub waiting : Without Built → List ℕ → Option (List ℕ)
waiting must ks = none
waiting (may f) ks = none
waiting (operand f) ks = some ks

unfoldable pub waits_for : Stack → Option (List ℕ)
waits_for [] = none
waits_for (word k g ∷ K) = none
waits_for (keep k ∷ K) = none
waits_for (again ∷ K) = none
waits_for (make f ∷ K) = none
waits_for (ease ∷ K) = none
waits_for (ask a ∷ K) = waiting (rule_of tree_steps a).without (kinds_of (rule_of tree_steps a).ways)

-- A word taken: the stack, how many are open, what it counts as, and what may still keep it from counting.
pub data Eaten : Type 0 where
  ate : Stack → ℕ → List Tally → Option (List ℕ) → Eaten
  stopped : Eaten

unfoldable pub pick : List (Alternative Built) → Word → Stack → ℕ → Eaten → Eaten
pick [] w K n o = o
pick (a ∷ xs) w K n o =
    let rest = pick xs w K n o in
    cond (eqb (kind_of w) a.on) (ate (a.to ++ cond a.instead (drop 1 K) K) (bearing a.bearing n) a.tallies (waits_for a.to)) rest

abbrev pub leaves : Without Built → Eaten → Eaten
leaves must x = stopped
leaves (may f) x = x
leaves (operand f) x = x

unfoldable pub eat : Stack → ℕ → Word → Eaten
eat [] n w = stopped
eat (word k g ∷ K) n w = cond (eqb (kind_of w) k) (ate K (bearing g n) [] none) stopped
eat (keep k ∷ K) n w = cond (eqb (kind_of w) k) (ate K n [] none) stopped
eat (again ∷ K) n w = cond (eqb (kind_of w) a_name) (ate K n [] none) stopped
eat (make f ∷ K) n w = eat K n w
eat (ease ∷ K) n w = eat K (fewer n) w
eat (ask a ∷ K) n w = pick (rule_of tree_steps a).ways w K n (leaves (rule_of tree_steps a).without (eat K n w))

-- The word kept last counts, unless what follows begins what waits for it.
abbrev pub next_among : List Word → List ℕ → Bool
next_among [] ks = false
next_among (w ∷ ws) ks = among (kind_of w) ks

abbrev pub settled : Option (List ℕ) → List Word → List Tally → List Tally
settled none ws ts = ts
settled (some ks) ws ts = cond (next_among ws ks) ts (ts ++ counted ∷ [])

abbrev pub told : Eaten → List Word → (Stack → ℕ → List Mark) → List Mark
told (ate L n ts o) ws on = mark (settled o ws ts) n ∷ on L n
told stopped ws on = []

unfoldable pub tale : Stack → ℕ → List Word → List Mark
tale K n [] = []
tale K n (w ∷ ws) = told (eat K n w) ws (λ L m. tale L m ws)

-- ---- Stacks that tell the same.

pub after-make : (f : Step Built) (K : Stack) (n : ℕ) (vs : List Word) → tale (make f ∷ K) n vs ≡ tale K n vs
unfolding tale eat
after-make f K n [] = refl
after-make f K n (w ∷ vs) = refl

pub after-ease : (K : Stack) (n : ℕ) (vs : List Word) → tale (ease ∷ K) (suc n) vs ≡ tale K n vs
unfolding tale eat
after-ease K n [] = refl
after-ease K n (w ∷ vs) = refl

pub same-tale : (K L : Stack) (n : ℕ) → ((w : Word) → eat K n w ≡ eat L n w) → (vs : List Word) → tale K n vs ≡ tale L n vs
unfolding tale
same-tale K L n f [] = refl
same-tale K L n f (w ∷ vs) = ap (λ (x : Eaten). told x vs (λ M m. tale M m vs)) (f w)

pub same_word : (K L : Stack) (n : ℕ) (w : Word) → eat K n w ≡ eat L n w → (vs : List Word) → tale K n (w ∷ vs) ≡ tale L n (w ∷ vs)
unfolding tale
same_word K L n w e vs = ap (λ (x : Eaten). told x vs (λ M m. tale M m vs)) e

pub pick-none : (xs : List (Alternative Built)) (w : Word) → among (kind_of w) (kinds_of xs) ≡ false → (K : Stack) (n : ℕ) (o : Eaten) → pick xs w K n o ≡ o
unfolding pick
pick-none [] w h K n o = refl
pick-none (a ∷ xs) w h K n o = rw (among_first (kind_of w) a.on (kinds_of xs) h) (pick-none xs w (among-rest (kind_of w) a.on (kinds_of xs) h) K n o)

pub pick-append : (xs ys : List (Alternative Built)) (w : Word) (K : Stack) (n : ℕ) (o : Eaten) → pick (xs ++ ys) w K n o ≡ pick xs w K n (pick ys w K n o)
unfolding pick
pick-append [] ys w K n o = refl
pick-append (a ∷ xs) ys w K n o = ap (cond (eqb (kind_of w) a.on) (ate (a.to ++ cond a.instead (drop 1 K) K) (bearing a.bearing n) a.tallies (waits_for a.to))) (pick-append xs ys w K n o)

pub waits-on : (P M : Stack) → waits_for M ≡ none → waits_for (P ++ M) ≡ waits_for P
unfolding waits_for
waits-on [] M e = e
waits-on (word k g ∷ P) M e = refl
waits-on (keep k ∷ P) M e = refl
waits-on (again ∷ P) M e = refl
waits-on (make f ∷ P) M e = refl
waits-on (ease ∷ P) M e = refl
waits-on (ask a ∷ P) M e = refl

pub pick-followed : (M : Stack) → waits_for M ≡ none → (xs : List (Alternative Built)) → plain_ways xs ≡ true → (w : Word) (K : Stack) (n : ℕ) (o : Eaten) → pick (map (followed M) xs) w K n o ≡ pick xs w (M ++ K) n o
unfolding pick
pick-followed M q [] h w K n o = refl
pick-followed M q (a ∷ xs) h w K n o =
    ap (cond (eqb (kind_of w) a.on) (ate ((a.to ++ M) ++ cond a.instead (drop 1 K) K) (bearing a.bearing n) a.tallies (waits_for (a.to ++ M)))) (pick-followed M q xs (plain-rest a xs h) w K n o)
    ∙ ap (λ (f : Eaten). cond (eqb (kind_of w) a.on) f (pick xs w (M ++ K) n o)) (so (plain-first a xs h))
  where
    so : a.instead ≡ false
        → ate ((a.to ++ M) ++ cond a.instead (drop 1 K) K) (bearing a.bearing n) a.tallies (waits_for (a.to ++ M)) ≡ ate (a.to ++ cond a.instead (drop 1 (M ++ K)) (M ++ K)) (bearing a.bearing n) a.tallies (waits_for a.to)
    so e = rw (e, append_assoc, waits-on a.to M q) refl

-- A notion is left out where what follows begins none of its ways.
pub after-leaving : (a : Ask) (ways : List (Alternative Built)) (f : Step Built) → rule_of tree_steps a ≡ record { ways = ways; without = may f } → (K : Stack) (n : ℕ) (vs : List Word) → Follows (kinds_of ways) vs → tale (ask a ∷ K) n vs ≡ tale K n vs
unfolding tale eat
after-leaving a ways f e K n [] h = refl
after-leaving a ways f e K n (w ∷ vs) h = rw e (ap (λ (x : Eaten). told x vs (λ M m. tale M m vs)) (pick-none ways w h K n (eat K n w)))

pub after-counting : (a : Ask) (ways : List (Alternative Built)) (f : Step Built) → rule_of tree_steps a ≡ record { ways = ways; without = operand f } → (K : Stack) (n : ℕ) (vs : List Word) → Follows (kinds_of ways) vs → tale (ask a ∷ K) n vs ≡ tale K n vs
unfolding tale eat
after-counting a ways f e K n [] h = refl
after-counting a ways f e K n (w ∷ vs) h = rw e (ap (λ (x : Eaten). told x vs (λ M m. tale M m vs)) (pick-none ways w h K n (eat K n w)))

-- A notion begins as another does with more to follow; or its later ways do.
pub begins : (a d : Ask) (M : Stack) → waits_for M ≡ none → (ways : List (Alternative Built)) → plain_ways ways ≡ true → rule_of tree_steps a ≡ always (map (followed M) ways) → rule_of tree_steps d ≡ always ways
    → (K : Stack) (n : ℕ) (w : Word) (vs : List Word) → tale (ask a ∷ K) n (w ∷ vs) ≡ tale (ask d ∷ (M ++ K)) n (w ∷ vs)
unfolding eat
begins a d M q ways p e g K n w vs = same_word (ask a ∷ K) (ask d ∷ (M ++ K)) n w (rw (e, g) (pick-followed M q ways p w K n stopped)) vs

pub begins-later : (a d : Ask) (M : Stack) → waits_for M ≡ none → (early ways : List (Alternative Built)) → plain_ways ways ≡ true → rule_of tree_steps a ≡ always (early ++ map (followed M) ways) → rule_of tree_steps d ≡ always ways
    → (K : Stack) (n : ℕ) (w : Word) → among (kind_of w) (kinds_of early) ≡ false → (vs : List Word) → tale (ask a ∷ K) n (w ∷ vs) ≡ tale (ask d ∷ (M ++ K)) n (w ∷ vs)
unfolding eat
begins-later a d M q early ways p e g K n w h vs =
    same_word (ask a ∷ K) (ask d ∷ (M ++ K)) n w
    (rw (e, g) (pick-append early (map (followed M) ways) w K n stopped ∙ pick-none early w h K n (pick (map (followed M) ways) w K n stopped) ∙ pick-followed M q ways p w K n stopped)) vs

-- ---- From a stack to another: the words tell what f says, where behind them no word of the kinds ks follows.

pub record Goes (ks : List ℕ) (K : Stack) (n : ℕ) (us : List Word) (f : List Mark → List Mark) (L : Stack) (m : ℕ) : Type 0 where
  pub says : (vs : List Word) → Follows ks vs → tale K n (us ++ vs) ≡ f (tale L m vs)

pub goes : {ks : List ℕ} {K : Stack} {n : ℕ} {us : List Word} {f : List Mark → List Mark} {L : Stack} {m : ℕ} → ((vs : List Word) → Follows ks vs → tale K n (us ++ vs) ≡ f (tale L m vs)) → Goes ks K n us f L m
goes x = record { says = x }

pub before : {ks js : List ℕ} {K L M : Stack} {n m o : ℕ} {us vs : List Word} {f g : List Mark → List Mark} → Goes ks K n us f L m → ((ws : List Word) → Follows js ws → Follows ks (vs ++ ws)) → Goes js L m vs g M o
    → Goes js K n (us ++ vs) (λ ms. f (g ms)) M o
before {K = K} {n = n} {us = us} {vs} {f} x h y = goes (λ ws q. ap (tale K n) (append_assoc us vs ws) ∙ x.says (vs ++ ws) (h ws q) ∙ ap f (y.says ws q))

free : (ws : List Word) → Follows [] ws
unfolding among
free [] = tt
free (w ∷ ws) = refl

pub then-words : {js : List ℕ} {K L M : Stack} {n m o : ℕ} {us vs : List Word} {f g : List Mark → List Mark} → Goes [] K n us f L m → Goes js L m vs g M o → Goes js K n (us ++ vs) (λ ms. f (g ms)) M o
then-words {vs = vs} x y = before x (λ ws _. free (vs ++ ws)) y

-- A word, and what comes behind it.
pub ◌⊳◌ : {js : List ℕ} {K L M : Stack} {n m o : ℕ} {w : Word} {vs : List Word} {f g : List Mark → List Mark} → Goes [] K n (w ∷ []) f L m → Goes js L m vs g M o → Goes js K n (w ∷ vs) (λ ms. f (g ms)) M o
x ⊳ y = then-words x y

infixr 30 ◌⊳◌
-- A move without a word, behind words and before them.
pub ends-in : {ks js : List ℕ} {K L M : Stack} {n m o : ℕ} {us : List Word} {f : List Mark → List Mark} → Goes ks K n us f L m → ((ws : List Word) → Follows js ws → Follows ks ws) → Goes js L m [] (λ ms. ms) M o → Goes js K n us f M o
ends-in {f = f} x h y = goes (λ ws q. x.says ws (h ws q) ∙ ap f (y.says ws q))

pub then-move : {ks : List ℕ} {K L M : Stack} {n m o : ℕ} {us : List Word} {f : List Mark → List Mark} → Goes ks K n us f L m → Goes [] L m [] (λ ms. ms) M o → Goes ks K n us f M o
then-move {f = f} x y = goes (λ ws q. x.says ws q ∙ ap f (y.says ws (free ws)))

pub starts-as : {ks : List ℕ} {K L M : Stack} {n m o : ℕ} {us : List Word} {f : List Mark → List Mark} → Goes [] K n [] (λ ms. ms) L m → Goes ks L m us f M o → Goes ks K n us f M o
starts-as {us = us} x y = goes (λ ws q. x.says (us ++ ws) (free (us ++ ws)) ∙ y.says ws q)

pub asking : {ks js : List ℕ} {K L : Stack} {n m : ℕ} {us : List Word} {f : List Mark → List Mark} → ((ws : List Word) → Follows js ws → Follows ks ws) → Goes ks K n us f L m → Goes js K n us f L m
asking h x = goes (λ ws q. x.says ws (h ws q))

pub at_last : {ks : List ℕ} {K L : Stack} {n m : ℕ} {us : List Word} {f : List Mark → List Mark} → Goes [] K n us f L m → Goes ks K n us f L m
at_last x = asking (λ ws _. free ws) x

pub respelt : {ks : List ℕ} {K L : Stack} {n m : ℕ} {us vs : List Word} {f : List Mark → List Mark} → us ≡ vs → Goes ks K n us f L m → Goes ks K n vs f L m
respelt {ks} {K} {L} {n} {m} {f = f} e x = subst (λ (l : List Word). Goes ks K n l f L m) e x

pub building : {f : Step Built} {K : Stack} {n : ℕ} → Goes [] (make f ∷ K) n [] (λ ms. ms) K n
building {f} {K} {n} = goes (λ vs _. after-make f K n vs)

pub easing : {K : Stack} {n : ℕ} → Goes [] (ease ∷ K) (suc n) [] (λ ms. ms) K n
easing {K} {n} = goes (λ vs _. after-ease K n vs)

pub leaving : {a : Ask} (ways : List (Alternative Built)) (f : Step Built) → rule_of tree_steps a ≡ record { ways = ways; without = may f } → {K : Stack} {n : ℕ} → Goes (kinds_of ways) (ask a ∷ K) n [] (λ ms. ms) K n
leaving {a} ways f e {K} {n} = goes (λ vs h. after-leaving a ways f e K n vs h)
