-- Names without fault are declared once, so each means what bears it. Assumes nothing.
use Rattle.std.specs.Prelude.{Bool, true, false, cond, ◌||◌, List, [], ◌∷◌, ◌++◌, ◌≡◌, refl, ℕ, zero, suc, ◌+◌, ◌<◌, get_or, length, take}
use Rattle.std.proofs.Math.Option.{none, some}
use Rattle.std.proofs.Common.{ap, ◌∙◌, arith, eq-eqb, length-append}
use Rattle.language.specs.Description.{nowhere}
use Rattle.language.specs.Judging.{unless}
use Rattle.language.specs.Naming.{Scope, by_labels, facility, meaning, number_of, operation, state}
use Rattle.language.specs.declared.refusals.Refusal.TheVariants.{BadName}
use Rattle.language.specs.Rules.{declared, name_faults, twice}
use Rattle.language.specs.Scan.{same}
use Rattle.language.specs.Tree.{Name}
use Rattle.language.specs.Words.{Position}
use Rattle.about_running.specs.Judged.{append-none-left, append-none-right, unless-none}

-- A name is none of these.
abbrev pub Apart : Name → List Name → Type 0
Apart n [] = Unit {0}
Apart n (m ∷ ms) = (same n m ≡ false) × Apart n ms

pub apart-left : (n : Name) (xs ys : List Name) → Apart n (xs ++ ys) → Apart n xs
apart-left n [] ys h = tt
apart-left n (x ∷ xs) ys h = (h.0, apart-left n xs ys h.1)

pub apart-right : (n : Name) (xs ys : List Name) → Apart n (xs ++ ys) → Apart n ys
apart-right n [] ys h = h
apart-right n (x ∷ xs) ys h = apart-right n xs ys h.1

-- Every name that is there is none of those before it; the empty name may come again.
unfoldable pub Once : List Name → Type 0
Once ns = (j : ℕ) → j < length ns → 0 < length (get_or ns j []) → Apart (get_or ns j []) (take j ns)

not-declared : (n : Name) (ms : List Name) → declared n ms ≡ false → Apart n ms
unfolding declared
not-declared n [] e = tt
not-declared n (m ∷ ms) e = go (same n m) refl (λ h. not-declared n ms h) e
  where
    go : (b : Bool) → same n m ≡ b → (declared n ms ≡ false → Apart n ms) → (b || declared n ms) ≡ false → (same n m ≡ false) × Apart n ms
    go true q h k = absurd (let z : ◌≡◌ {A = ℕ} 0 1 = cc in omega arith)
    go false q h k = (q, h k)

named-once : (n : Name) (before : List Name) → 0 < length n → cond (twice n before) false true ≡ true → Apart n before
named-once [] before l e = absurd (omega arith)
named-once (c ∷ n) before l e = not-declared (c ∷ n) before (go (declared (c ∷ n) before) e)
  where
    go : (b : Bool) → cond b false true ≡ true → b ≡ false
    go true k = absurd (let z : ◌≡◌ {A = ℕ} 0 1 = cc in omega arith)
    go false k = refl

apart-at : (before ns : List Name) (ps : List Position) → name_faults before ns ps ≡ [] → (j : ℕ) → j < length ns → 0 < length (get_or ns j []) → Apart (get_or ns j []) before × Apart (get_or ns j []) (take j ns)
unfolding name_faults
apart-at before [] ps e j l h = absurd (omega arith)
apart-at before (n ∷ ns) [] e zero l h = (named-once n before h (unless-none (cond (twice n before) false true) _ BadName (append-none-left _ _ e)), tt)
apart-at before (n ∷ ns) (p ∷ ps) e zero l h = (named-once n before h (unless-none (cond (twice n before) false true) _ BadName (append-none-left _ _ e)), tt)
apart-at before (n ∷ ns) [] e (suc j) l h =
    let y = apart-at (n ∷ before) ns [] (append-none-right (unless (cond (twice n before) false true) nowhere BadName) _ e) j (omega arith) h in
    (y.0.1, (y.0.0, y.1))
apart-at before (n ∷ ns) (p ∷ ps) e (suc j) l h =
    let y = apart-at (n ∷ before) ns ps (append-none-right (unless (cond (twice n before) false true) p BadName) _ e) j (omega arith) h in
    (y.0.1, (y.0.0, y.1))

pub once : (ns : List Name) (ps : List Position) → name_faults [] ns ps ≡ [] → Once ns
unfolding Once
once ns ps e j l h = (apart-at [] ns ps e j l h).1

-- ---- The first that bears a name.

pub same_self : (n : Name) → same n n ≡ true
unfolding same
same_self [] = refl
same_self (b ∷ n) = rw (eq-eqb b b refl, same_self n) refl

pub number-none : (n : Name) (k : ℕ) (ms : List Name) → Apart n ms → number_of n k ms ≡ none
unfolding number_of
number-none n k [] h = refl
number-none n k (m ∷ ms) h = rw h.0 (number-none n (suc k) ms h.1)

pub number-first : (k : ℕ) (ms : List Name) (i : ℕ) → i < length ms → Apart (get_or ms i []) (take i ms) → number_of (get_or ms i []) k ms ≡ some (k + i)
unfolding number_of
number-first k [] i l h = absurd (omega arith)
number-first k (m ∷ ms) zero l h = let z : k ≡ k + 0 = omega arith in rw (same_self m) (ap some z)
number-first k (m ∷ ms) (suc i) l h =
    let z : suc k + i ≡ k + suc i = omega arith in
    rw h.0 (number-first (suc k) ms i (omega arith) h.1 ∙ ap some z)

zero-and : (n : ℕ) → 0 + n ≡ n
zero-and n = omega arith

pub means-facility : (sc : Scope) (i : ℕ) → i < length sc.facilities → Apart (get_or sc.facilities i []) (take i sc.facilities) → meaning sc (get_or sc.facilities i []) ≡ facility i
unfolding meaning
means-facility sc i l h = rw (number-first 0 sc.facilities i l h ∙ ap some (zero-and i)) refl

pub means-operation : (sc : Scope) (i : ℕ) → i < length sc.operations → Apart (get_or sc.operations i []) sc.facilities → Apart (get_or sc.operations i []) (take i sc.operations) → meaning sc (get_or sc.operations i []) ≡ operation i
unfolding meaning
means-operation sc i l f h = rw (number-none (get_or sc.operations i []) 0 sc.facilities f, number-first 0 sc.operations i l h ∙ ap some (zero-and i)) refl

pub means-state : (fs os labels : List Name) (i : ℕ) → i < length labels → Apart (get_or labels i []) fs → Apart (get_or labels i []) os → Apart (get_or labels i []) (take i labels)
    → meaning (record { facilities = fs; operations = os; state_named = by_labels labels }) (get_or labels i []) ≡ state i
unfolding meaning
means-state fs os labels i l f o h = rw (number-none (get_or labels i []) 0 fs f, number-none (get_or labels i []) 0 os o, number-first 0 labels i l h ∙ ap some (zero-and i)) refl

-- ---- Names of three sections one after the other.

pub take-front : (xs ys : List Name) (i : ℕ) → i < length xs → (take i (xs ++ ys) ≡ take i xs) × (get_or (xs ++ ys) i [] ≡ get_or xs i [])
take-front [] ys i l = absurd (omega arith)
take-front (x ∷ xs) ys zero l = (refl, refl)
take-front (x ∷ xs) ys (suc i) l = let y = take-front xs ys i (omega arith) in (ap (λ (s : List Name). x ∷ s) y.0, y.1)

pub take_behind : (xs ys : List Name) (i : ℕ) → (take (length xs + i) (xs ++ ys) ≡ xs ++ take i ys) × (get_or (xs ++ ys) (length xs + i) [] ≡ get_or ys i [])
take_behind [] ys i = rw (zero-and i) (refl, refl)
take_behind (x ∷ xs) ys i =
    let z : length (x ∷ xs) + i ≡ suc (length xs + i) = omega arith in
    let y = take_behind xs ys i in
    rw z (ap (λ (s : List Name). x ∷ s) y.0, y.1)

pub once-front : (xs ys : List Name) → Once (xs ++ ys) → Once xs
unfolding Once
once-front xs ys h j l p =
    let y = take-front xs ys j l in
    let n = length-append xs ys in
    rw (y.0, y.1) at (h j (omega (arith, n, l)) (rw y.1 p))

-- A name behind others is none of them, and none before it.
pub once-behind : (xs ys : List Name) → Once (xs ++ ys) → (i : ℕ) → i < length ys → 0 < length (get_or ys i []) → Apart (get_or ys i []) (xs ++ take i ys)
unfolding Once
once-behind xs ys h i l p =
    let y = take_behind xs ys i in
    let n = length-append xs ys in
    rw (y.0, y.1) at (h (length xs + i) (omega (arith, n, l)) (rw y.1 p))
