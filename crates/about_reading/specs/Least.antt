-- The least of some faults is one of them, and none of them is smaller; it is the only one so. Assumes nothing.
use Rattle.std.specs.Prelude.{Bool, true, false, cond, ◌||◌, ◌&&◌, List, [], ◌∷◌, ◌≡◌, refl, ℕ, ◌≤◌, ◌<◌, eqb, ltb, get_or}
use Rattle.std.proofs.Math.Option.{Option, none, some}
use Rattle.std.proofs.Common.{◌∙◌, ap, sym, subst, arith, eqb-true, ltb-false, ltb-true}
use Rattle.std.proofs.lemmas.Bool.{eqb-false}
use Rattle.language.specs.declared.refusals.Refusal.{Refusal}
use Rattle.language.specs.declared.refusals.Refusal.TheVariants.{TextTooLong, BadCharacter, NoContinuation, BadName, BadConstant, BadSubscript, BadLength, BadStore, BadSequencing, CeilingPassed, BufferTooShort, ImageFails, Unsound, BadStimulus}
use Rattle.language.specs.Refusals.{refusal_number}
use Rattle.language.specs.WordStage.{before, least, smaller}
use Rattle.language.specs.Words.{Fault, fault, fault_number, position}

pub data Among (f : Fault) : List Fault → Type 0 where
  first : {fs : List Fault} → Among f (f ∷ fs)
  later : {g : Fault} {fs : List Fault} → Among f fs → Among f (g ∷ fs)

-- By place, and at one place by number.
pub record NotBefore (f g : Fault) : Type 0 where
  pub place : f.at.place ≤ g.at.place
  pub number : f.at.place ≡ g.at.place → fault_number f ≤ fault_number g

pub record Least (f : Fault) (fs : List Fault) : Type 0 where
  pub one-of-them : Among f fs
  pub none-smaller : (g : Fault) → Among g fs → NotBefore f g

itself : (f : Fault) → NotBefore f f
itself f = record { place = omega arith; number = λ e. omega arith }

chain : (f g h : Fault) → NotBefore f g → NotBefore g h → NotBefore f h
chain f g h x y = record { place = omega (arith, x.place, y.place); number = λ e. let z : f.at.place ≡ g.at.place = omega (arith, e, x.place, y.place) in let w : g.at.place ≡ h.at.place = omega (arith, e, z) in omega (arith, x.number z, y.number w) }

-- The test of the definition, both ways.
before-so : (a b : Fault) → before a b ≡ true → NotBefore a b
unfolding before
before-so a b e = go (ltb a.at.place b.at.place) refl (eqb a.at.place b.at.place) refl (ltb (fault_number a) (fault_number b)) refl e
  where
    go : (l : Bool) → ltb a.at.place b.at.place ≡ l → (q : Bool) → eqb a.at.place b.at.place ≡ q → (n : Bool) → ltb (fault_number a) (fault_number b) ≡ n → (l || (q && n)) ≡ true → NotBefore a b
    go true x q y n z h = let l : a.at.place < b.at.place = ltb-true _ _ x in record { place = omega (arith, l); number = λ e. absurd (omega (arith, l, e)) }
    go false x true y true z h = let p : a.at.place ≡ b.at.place = eqb-true _ _ y in let m : fault_number a < fault_number b = ltb-true _ _ z in record { place = omega (arith, p); number = λ e. omega (arith, m) }
    go false x true y false z h = absurd (let i : ◌≡◌ {A = ℕ} 0 1 = cc in omega arith)
    go false x false y n z h = absurd (let i : ◌≡◌ {A = ℕ} 0 1 = cc in omega arith)

not-before : (a b : Fault) → before a b ≡ false → NotBefore b a
unfolding before
not-before a b e = go (ltb a.at.place b.at.place) refl (eqb a.at.place b.at.place) refl (ltb (fault_number a) (fault_number b)) refl e
  where
    go : (l : Bool) → ltb a.at.place b.at.place ≡ l → (q : Bool) → eqb a.at.place b.at.place ≡ q → (n : Bool) → ltb (fault_number a) (fault_number b) ≡ n → (l || (q && n)) ≡ false → NotBefore b a
    go true x q y n z h = absurd (let i : ◌≡◌ {A = ℕ} 0 1 = cc in omega arith)
    go false x true y true z h = absurd (let i : ◌≡◌ {A = ℕ} 0 1 = cc in omega arith)
    go false x true y false z h = let l = ltb-false _ _ x in let m = ltb-false _ _ z in record { place = l; number = λ e. m }
    go false x false y n z h = let l = ltb-false _ _ x in let m = eqb-false _ _ y in record { place = l; number = λ e. absurd (m (sym e)) }

some_same : {f g : Fault} → some f ≡ some g → f ≡ g
some_same e = cc

no-fault : {A : Type 0} {f : Fault} → none ≡ some f → A
no-fault e = absurd (let z : ◌≡◌ {A = ℕ} 0 1 = cc in omega arith)

none-there : (g : Fault) → Among g [] → ⊥
none-there g = elim [ ]

alone : (f g : Fault) → Among g (f ∷ []) → NotBefore f g
alone f g first = itself f
alone f g (later h) = absurd (none-there g h)

pub least-so : (fs : List Fault) (f : Fault) → least fs ≡ some f → Least f fs
unfolding least
least-so [] f e = no-fault e
least-so (a ∷ more) f e = go (least more) refl (λ g. least-so more g) (some_same e)
  where
    nothing-else : least more ≡ none → more ≡ []
    nothing-else q = empty more q
      where
        empty : (gs : List Fault) → least gs ≡ none → gs ≡ []
        empty [] r = refl
        empty (g ∷ gs) r = no-fault (sym r)

    two : (b : Fault) → Least b more → (c : Bool) → before b a ≡ c → cond c b a ≡ f → Least f (a ∷ more)
    two b l true q r = subst (λ (x : Fault). Least x (a ∷ more)) r (record { one-of-them = later l.one-of-them; none-smaller = λ g m. pick g m })
      where
        pick : (g : Fault) → Among g (a ∷ more) → NotBefore b g
        pick g first = before-so b a q
        pick g (later m) = l.none-smaller g m
    two b l false q r = subst (λ (x : Fault). Least x (a ∷ more)) r (record { one-of-them = first; none-smaller = λ g m. pick g m })
      where
        pick : (g : Fault) → Among g (a ∷ more) → NotBefore a g
        pick g first = itself a
        pick g (later m) = chain a b g (not-before b a q) (l.none-smaller g m)

    go : (x : Option Fault) → least more ≡ x → ((g : Fault) → least more ≡ some g → Least g more) → smaller a x ≡ f → Least f (a ∷ more)
    go none q h r = rw (nothing-else q) (subst (λ (x : Fault). Least x (a ∷ [])) r (record { one-of-them = first; none-smaller = λ g m. alone a g m }))
    go (some b) q h r = two b (h b q) (before b a) refl r

pub none-least : (fs : List Fault) → least fs ≡ none → fs ≡ []
unfolding least
none-least [] e = refl
none-least (f ∷ fs) e = no-fault (sym e)

-- ---- The least of some faults is one.

-- The refusals at their numbers; 0 and 11 are none.
abbrev numbered : List Refusal
numbered = TextTooLong ∷ TextTooLong ∷ BadCharacter ∷ NoContinuation ∷ BadName ∷ BadConstant ∷ BadSubscript ∷ BadLength ∷ BadStore ∷ BadSequencing ∷ CeilingPassed ∷ TextTooLong ∷ BufferTooShort ∷ ImageFails ∷ Unsound ∷ BadStimulus ∷ []

numbered-back : (r : Refusal) → get_or numbered (refusal_number r) TextTooLong ≡ r
numbered-back TextTooLong = refl
numbered-back BadCharacter = refl
numbered-back NoContinuation = refl
numbered-back BadName = refl
numbered-back BadConstant = refl
numbered-back BadSubscript = refl
numbered-back BadLength = refl
numbered-back BadStore = refl
numbered-back BadSequencing = refl
numbered-back CeilingPassed = refl
numbered-back BufferTooShort = refl
numbered-back ImageFails = refl
numbered-back Unsound = refl
numbered-back BadStimulus = refl

refusal-one : (a b : Refusal) → refusal_number a ≡ refusal_number b → a ≡ b
refusal-one a b e = sym (numbered-back a) ∙ ap (λ (n : ℕ). get_or numbered n TextTooLong) e ∙ numbered-back b

pub least-one : (fs : List Fault) (f g : Fault) → Least f fs → Least g fs → f ≡ g
least-one fs f g x y =
    let a = x.none-smaller g y.one-of-them in
    let b = y.none-smaller f x.one-of-them in
    let p : f.at.place ≡ g.at.place = omega (arith, a.place, b.place) in
    let n : fault_number f ≡ fault_number g = omega (arith, a.number p, b.number (sym p)) in
    ap (λ (k : ℕ). fault (position k) f.refusal) p ∙ ap (λ (r : Refusal). fault g.at r) (refusal-one f.refusal g.refusal n)

pub some-least : (fs : List Fault) (f : Fault) → Least f fs → least fs ≡ some f
some-least fs f l = go (least fs) refl
  where
    go : (x : Option Fault) → least fs ≡ x → x ≡ some f
    go none q = absurd (none-there f (subst (Among f) (none-least fs q) l.one-of-them))
    go (some g) q = ap some (least-one fs g f (least-so fs g q) l)
