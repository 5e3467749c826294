-- Words that the machine accepts from a stack, taken apart: the first symbol, and what is accepted behind it.
use Rattle.std.specs.Prelude.{Bool, ◌⊎◌, ◌≡◌, eqb, drop, length}
use Rattle.std.proofs.Math.Bool.{true, false, cond}
use mathlib.Core.List.{List, [], ◌∷◌, ◌++◌}
use Rattle.std.proofs.Math.Logic.{inl, inr}
use Rattle.std.proofs.Math.Path.{refl}
use Rattle.std.proofs.Common.{subst, arith, eqb-true}
use Prim.Native.Nat.{ℕ, zero, suc, ◌-◌, ◌≤◌}
use Rattle.language.specs.Building.{Built}
use Rattle.language.specs.Declaring.{tree_steps}
use Rattle.language.specs.Kinds.{a_constant, a_name}
use Rattle.language.specs.Machine.{Alternative, Ask, Bearing, Counts, Fed, Parsed, Without, after, ask, bears, choose, closes, counted, ease, feed, finish, kept_if, leave, leave_at_end, level, make, may, more, must, nested, opens, operand, parsed, reading, refused, run, take_way, taken, tallied, took, wrong}
use Rattle.language.specs.declared.refusals.Refusal.TheVariants.{CeilingPassed}
use Rattle.language.specs.SectionWays.{rule_of}
use Rattle.language.specs.BuildSteps.{Step}
use Rattle.language.specs.Tree.{Name}
use Rattle.language.specs.Words as W
use Rattle.language.specs.Words.{Constant, Fault, Position, Word, fault, kind_of, position, sign, word_at}
use Rattle.about_grammar.specs.Courses.{Stack}
use Rattle.about_grammar.specs.Following.{among, among_first, among-rest}

-- A sign is none of a name's or a constant's kind.
abbrev pub ProperWord : Word → Type 0
ProperWord (W.name n p) = Unit {0}
ProperWord (W.constant c p) = Unit {0}
ProperWord (W.sign k p) = among k (a_name ∷ a_constant ∷ []) ≡ false

abbrev pub Proper : List Word → Type 0
Proper [] = Unit {0}
Proper (w ∷ ws) = ProperWord w × Proper ws

-- A machine's ceilings, what is known of counts that fit, and what the machine came to. `Room n h k`: with n open and k words left, at least h more may be open; `deep` is how many at the start.
pub record Judge : Type 1 where
  pub fits : Counts → Bool
  pub Good : Counts → Type 0
  pub good : (c : Counts) → fits c ≡ true → Good c
  pub eased : (c : Counts) → Good c → Good (nested (c.nesting - 1) c)
  pub deep : ℕ
  pub Room : ℕ → ℕ → ℕ → Type 0
  pub level-room : (n h k : ℕ) → Room n h (suc k) → Room n h k
  pub close-room : (n h k : ℕ) → Room n h k → Room (n - 1) (suc h) k
  pub open-room : (c : Counts) (n h k : ℕ) → fits (nested (suc n) c) ≡ true → Room n h (suc k) → (g : ℕ) × (h ≡ suc g) × Room (suc n) g k
  pub end : ℕ
  pub result : Built

-- At most n words are left; at least h more may be open.
pub record Accepts (J : Judge) (K : Stack) (n h : ℕ) (b : Built) (c : Counts) (ws : List Word) : Type 0 where
  pub runs : run tree_steps J.fits (rule_of tree_steps) K ws J.end (reading b c) ≡ parsed J.result
  pub good : J.Good c
  pub room : J.Room c.nesting h (length ws)
  pub short : length ws ≤ n
  pub proper : Proper ws

pub never : {f : Fault} {b : Built} {A : Type 0} → ◌≡◌ {A = Parsed Built} (refused f) (parsed b) → A
never {A = A} e = absurd (let z : ◌≡◌ {A = ℕ} 0 1 = cc in omega arith)

pub weaken : {J : Judge} {K : Stack} {m n h : ℕ} {b : Built} {c : Counts} {ws : List Word} → n ≡ suc m → Accepts J K m h b c ws → Accepts J K n h b c ws
weaken e a = let s = a.short in record { runs = a.runs; good = a.good; room = a.room; short = omega arith; proper = a.proper }

-- ---- Symbols without a word.

pub made : {J : Judge} {f : Step Built} {K : Stack} {n h : ℕ} {b : Built} {c : Counts} (ws : List Word) → Accepts J (make f ∷ K) n h b c ws → (p : Position) × Accepts J K n h (f p b) c ws
unfolding run feed finish
made {J} [] a = (position J.end, record { runs = a.runs; good = a.good; room = a.room; short = a.short; proper = a.proper })
made (w ∷ ws) a = (word_at w, record { runs = a.runs; good = a.good; room = a.room; short = a.short; proper = a.proper })

pub relieved : {J : Judge} {K : Stack} {n h : ℕ} {b : Built} {c : Counts} (ws : List Word) → Accepts J (ease ∷ K) n h b c ws → Accepts J K n (suc h) b (nested (c.nesting - 1) c) ws
unfolding run feed finish
relieved {J} {h = h} {c = c} [] a = record { runs = a.runs; good = J.eased c a.good; room = J.close-room c.nesting h 0 a.room; short = a.short; proper = a.proper }
relieved {J} {h = h} {c = c} (w ∷ ws) a = record { runs = a.runs; good = J.eased c a.good; room = J.close-room c.nesting h (suc (length ws)) a.room; short = a.short; proper = a.proper }

-- ---- A word taken.

pub data AtSign (k : ℕ) (P : Position → List Word → Type 0) : List Word → Type 0 where
  at_sign_lem : (p : Position) (vs : List Word) → P p vs → AtSign k P (sign k p ∷ vs)

pub data AtName (P : Name → Position → List Word → Type 0) : List Word → Type 0 where
  at_name : (n : Name) (p : Position) (vs : List Word) → P n p vs → AtName P (W.name n p ∷ vs)

pub data AtConstant (P : Constant → Position → List Word → Type 0) : List Word → Type 0 where
  at_constant : (x : Constant) (p : Position) (vs : List Word) → P x p vs → AtConstant P (W.constant x p ∷ vs)

-- By the word's kind.
abbrev pub At : ℕ → (Word → List Word → Type 0) → List Word → Type 0
At k P ws = cond (eqb k a_name) (AtName (λ n p. P (W.name n p)) ws) (cond (eqb k a_constant) (AtConstant (λ x p. P (W.constant x p)) ws) (AtSign k (λ p. P (sign k p)) ws))

-- How much more may be open behind the word.
abbrev pub Borne : Bearing → ℕ → (ℕ → Type 0) → Type 0
Borne level h P = P h
Borne opens h P = (g : ℕ) × (h ≡ suc g) × P g
Borne closes h P = P (suc h)

pub spelled : (k : ℕ) (P : Word → List Word → Type 0) (w : Word) (vs : List Word) → ProperWord w → eqb (kind_of w) k ≡ true → P w vs → At k P (w ∷ vs)
spelled k P (W.name n p) vs i e x = subst (λ (j : ℕ). At j P (W.name n p ∷ vs)) (eqb-true a_name k e) (at_name n p vs x)
spelled k P (W.constant y p) vs i e x = subst (λ (j : ℕ). At j P (W.constant y p ∷ vs)) (eqb-true a_constant k e) (at_constant y p vs x)
spelled k P (W.sign j p) vs i e x = subst (λ (l : ℕ). At l P (sign j p ∷ vs)) (eqb-true j k e) (rw (among_first j a_name (a_constant ∷ []) i, among_first j a_constant [] (among-rest j a_name (a_constant ∷ []) i)) (at_sign_lem p vs x))

module _ (J : Judge) where
  -- The counts fit: what is accepted behind the word.
  pub borne : (g : Bearing) (K : Stack) (m h : ℕ) (b : Built) (c d : Counts) (p : Position) (vs : List Word) → J.Room c.nesting h (suc (length vs)) → length vs ≤ m → Proper vs
      → after tree_steps J.fits (rule_of tree_steps) (taken tree_steps J.fits p K b (nested (bears g c.nesting) d)) (λ L q. run tree_steps J.fits (rule_of tree_steps) L vs J.end q) ≡ parsed J.result
      → Borne g h (λ i. Accepts J K m i b (nested (bears g c.nesting) d) vs)
  borne g K m h b c d p vs r s q x = go (J.fits (nested (bears g c.nesting) d)) refl x
    where
      give : (g : Bearing) → J.fits (nested (bears g c.nesting) d) ≡ true → run tree_steps J.fits (rule_of tree_steps) K vs J.end (reading b (nested (bears g c.nesting) d)) ≡ parsed J.result
          → (h : ℕ) → J.Room c.nesting h (suc (length vs)) → Borne g h (λ i. Accepts J K m i b (nested (bears g c.nesting) d) vs)
      give level f x h r = record { runs = x; good = J.good _ f; room = J.level-room c.nesting h (length vs) r; short = s; proper = q }
      give closes f x h r = record { runs = x; good = J.good _ f; room = J.close-room c.nesting h (length vs) (J.level-room c.nesting h (length vs) r); short = s; proper = q }
      give opens f x h r = let o = J.open-room d c.nesting h (length vs) f r in (o.0, o.1, record { runs = x; good = J.good _ f; room = o.2; short = s; proper = q })

      go : (z : Bool) → J.fits (nested (bears g c.nesting) d) ≡ z
          → after tree_steps J.fits (rule_of tree_steps) (cond z (took K (reading b (nested (bears g c.nesting) d))) (wrong (fault p CeilingPassed))) (λ L q. run tree_steps J.fits (rule_of tree_steps) L vs J.end q) ≡ parsed J.result
          → Borne g h (λ i. Accepts J K m i b (nested (bears g c.nesting) d) vs)
      go true f x = give g f x h r
      go false f x = never x

  -- ---- The ways of a notion.

  abbrev pub Behind : Alternative Built → Stack → ℕ → ℕ → Built → Counts → Word → List Word → Type 0
  Behind a K n h b c w vs =
      (m : ℕ) × (n ≡ suc m) × Borne a.bearing h (λ i. Accepts J (a.to ++ cond a.instead (drop 1 K) K) m i (kept_if tree_steps J.fits a.kept w (a.first (word_at w) b)) (nested (bears a.bearing c.nesting) (tallied a.tallies c)) vs)

  abbrev pub Picks : List (Alternative Built) → Stack → ℕ → ℕ → Built → Counts → List Word → Type 0
  Picks [] K n h b c ws = ⊥
  Picks (a ∷ xs) K n h b c ws = At a.on (Behind a K n h b c) ws ⊎ Picks xs K n h b c ws

  abbrev pub Leaves : Without Built → Stack → ℕ → ℕ → Built → Counts → List Word → Type 0
  Leaves must K n h b c ws = ⊥
  Leaves (may f) K n h b c ws = (p : Position) × Accepts J K n h (f p b) c ws
  Leaves (operand f) K n h b c ws = (p : Position) × Accepts J K n h (f p b) (more counted c) ws

  pub picks : (ways : List (Alternative Built)) (K : Stack) (n h : ℕ) (b : Built) (c : Counts) (w : Word) (vs : List Word) (o : Fed Built) {X : Type 0} → J.Room c.nesting h (suc (length vs)) → length (w ∷ vs) ≤ n → ProperWord w → Proper vs
      → (after tree_steps J.fits (rule_of tree_steps) o (λ L q. run tree_steps J.fits (rule_of tree_steps) L vs J.end q) ≡ parsed J.result → X)
      → after tree_steps J.fits (rule_of tree_steps) (choose tree_steps J.fits ways w K (reading b c) o) (λ L q. run tree_steps J.fits (rule_of tree_steps) L vs J.end q) ≡ parsed J.result
      → Picks ways K n h b c (w ∷ vs) ⊎ X
  unfolding choose
  picks [] K n h b c w vs o r s i q f x = inr (f x)
  picks (a ∷ ways) K zero h b c w vs o r s i q f x = absurd (omega arith)
  picks (a ∷ ways) K (suc m) h b c w vs o {X} r s i q f x = go (eqb (kind_of w) a.on) refl (picks ways K (suc m) h b c w vs o r s i q f) x
    where
      later : Picks ways K (suc m) h b c (w ∷ vs) ⊎ X → Picks (a ∷ ways) K (suc m) h b c (w ∷ vs) ⊎ X
      later (inl y) = inl (inr y)
      later (inr y) = inr y

      go : (z : Bool) → eqb (kind_of w) a.on ≡ z
          → (after tree_steps J.fits (rule_of tree_steps) (choose tree_steps J.fits ways w K (reading b c) o) (λ L q. run tree_steps J.fits (rule_of tree_steps) L vs J.end q) ≡ parsed J.result → Picks ways K (suc m) h b c (w ∷ vs) ⊎ X)
          → after tree_steps J.fits (rule_of tree_steps) (cond z (take_way tree_steps J.fits a w K (reading b c)) (choose tree_steps J.fits ways w K (reading b c) o)) (λ L q. run tree_steps J.fits (rule_of tree_steps) L vs J.end q) ≡ parsed J.result
          → Picks (a ∷ ways) K (suc m) h b c (w ∷ vs) ⊎ X
      go true e rec x =
          inl (inl (spelled a.on (Behind a K (suc m) h b c) w vs i e
          (m, refl, borne a.bearing (a.to ++ cond a.instead (drop 1 K) K) m h (kept_if tree_steps J.fits a.kept w (a.first (word_at w) b)) c (tallied a.tallies c) (word_at w) vs r (omega arith) q x)))
      go false e rec x = later (rec x)

  -- Where the notion is left out before a word, and at the end.
  left_out : (o : Without Built) (K : Stack) (n h : ℕ) (b : Built) (c : Counts) (w : Word) (vs : List Word) → J.Good c → J.Room c.nesting h (suc (length vs)) → length (w ∷ vs) ≤ n → Proper (w ∷ vs)
      → after tree_steps J.fits (rule_of tree_steps) (leave tree_steps J.fits o w (reading b c) (λ q. feed tree_steps J.fits (rule_of tree_steps) K w q)) (λ L q. run tree_steps J.fits (rule_of tree_steps) L vs J.end q) ≡ parsed J.result
      → Leaves o K n h b c (w ∷ vs)
  unfolding run
  left_out must K n h b c w vs g r s q x = never x
  left_out (may f) K n h b c w vs g r s q x = (word_at w, record { runs = x; good = g; room = r; short = s; proper = q })
  left_out (operand f) K n h b c w vs g r s q x = go (J.fits (more counted c)) refl x
    where
      go : (z : Bool) → J.fits (more counted c) ≡ z
          → after tree_steps J.fits (rule_of tree_steps) (cond z (feed tree_steps J.fits (rule_of tree_steps) K w (reading (f (word_at w) b) (more counted c))) (wrong (fault (word_at (tree_steps.last_word b)) CeilingPassed))) (λ L q. run tree_steps J.fits (rule_of tree_steps) L vs J.end q) ≡ parsed J.result
          → Leaves (operand f) K n h b c (w ∷ vs)
      go true e y = (word_at w, record { runs = y; good = J.good (more counted c) e; room = r; short = s; proper = q })
      go false e y = never y

  left-at-end : (o : Without Built) (K : Stack) (n h : ℕ) (b : Built) (c : Counts) → J.Good c → J.Room c.nesting h 0 → 0 ≤ n
      → leave_at_end tree_steps J.fits o J.end (reading b c) (λ q. finish tree_steps J.fits (rule_of tree_steps) K J.end q) ≡ parsed J.result → Leaves o K n h b c []
  unfolding run
  left-at-end must K n h b c g r s x = never x
  left-at-end (may f) K n h b c g r s x = (position J.end, record { runs = x; good = g; room = r; short = s; proper = tt })
  left-at-end (operand f) K n h b c g r s x = go (J.fits (more counted c)) refl x
    where
      go : (z : Bool) → J.fits (more counted c) ≡ z
          → cond z (finish tree_steps J.fits (rule_of tree_steps) K J.end (reading (f (position J.end) b) (more counted c))) (refused (fault (word_at (tree_steps.last_word b)) CeilingPassed)) ≡ parsed J.result → Leaves (operand f) K n h b c []
      go true e y = (position J.end, record { runs = y; good = J.good (more counted c) e; room = r; short = s; proper = tt })
      go false e y = never y

  pub chosen : (a : Ask) {K : Stack} {n h : ℕ} {b : Built} {c : Counts} (ws : List Word) → Accepts J (ask a ∷ K) n h b c ws → Picks (rule_of tree_steps a).ways K n h b c ws ⊎ Leaves (rule_of tree_steps a).without K n h b c ws
  unfolding run feed finish
  chosen a {K} {n} {h} {b} {c} [] x = inr (left-at-end (rule_of tree_steps a).without K n h b c x.good x.room x.short x.runs)
  chosen a {K} {n} {h} {b} {c} (w ∷ ws) x =
      picks (rule_of tree_steps a).ways K n h b c w ws (leave tree_steps J.fits (rule_of tree_steps a).without w (reading b c) (λ q. feed tree_steps J.fits (rule_of tree_steps) K w q)) x.room x.short x.proper.0 x.proper.1
      (left_out (rule_of tree_steps a).without K n h b c w ws x.good x.room x.short x.proper) x.runs
