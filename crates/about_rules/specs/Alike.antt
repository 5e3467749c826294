-- Faults come and go whatever their places: two judgements with other places are fine together, with the same worth, or faulty together. The combinators of judging keep this. Assumes nothing.
use Rattle.std.specs.Prelude.{Bool, true, false, cond, List, [], ◌∷◌, ◌++◌, ◌≡◌, refl, eqb, leb, ltb, length}
use Rattle.std.proofs.Common.{sym, ◌∙◌, arith}
use Prim.Native.Nat.{ℕ, zero, suc}
use Rattle.std.proofs.Math.Dec.{eqb-suc-zero}
use Rattle.language.specs.Judging.{Judged, Worth, arm_list, faults_of, faulty, fine, given, given_both, or_faulty, proper, sized, unless}
use Rattle.language.specs.Recursion.{below}
use Rattle.language.specs.declared.refusals.Refusal.{Refusal}
use Rattle.language.specs.Ceilings.{longest}
use Rattle.language.specs.Words.{Fault, Position}

pub data Alike : Judged → Judged → Type 0 where
  both-fine : {w : Worth} → Alike (fine w) (fine w)
  both-faulty : {f g : Fault} {fs gs : List Fault} → Alike (faulty f fs) (faulty g gs)

pub data Together : List Fault → List Fault → Type 0 where
  no-fault : Together [] []
  some-fault : {f g : Fault} {fs gs : List Fault} → Together (f ∷ fs) (g ∷ gs)

-- ---- Lists of faults.

pub unless-together : (b : Bool) (p q : Position) (r : Refusal) → Together (unless b p r) (unless b q r)
unless-together true p q r = no-fault
unless-together false p q r = some-fault

pub append-together : {xs ys zs ws : List Fault} → Together xs ys → Together zs ws → Together (xs ++ zs) (ys ++ ws)
append-together no-fault h = h
append-together some-fault h = some-fault

pub cond-together : (b : Bool) {xs ys zs ws : List Fault} → Together xs ys → Together zs ws → Together (cond b xs zs) (cond b ys ws)
cond-together true h k = h
cond-together false h k = k

pub faults-together : {i j : Judged} → Alike i j → Together (faults_of i) (faults_of j)
faults-together both-fine = no-fault
faults-together both-faulty = some-fault

pub none-together : {xs ys : List Fault} → Together xs ys → eqb (length xs) 0 ≡ eqb (length ys) 0
none-together no-fault = refl
none-together (some-fault {fs = fs} {gs = gs}) = eqb-suc-zero (length fs) ∙ sym (eqb-suc-zero (length gs))

pub none-as-well : {xs ys : List Fault} → Together xs ys → xs ≡ [] → ys ≡ []
none-as-well no-fault e = refl
none-as-well some-fault e = absurd (let z : ◌≡◌ {A = ℕ} 0 1 = cc in omega arith)

-- ---- Judgements.

pub cond-alike : (b : Bool) {i j k l : Judged} → Alike i j → Alike k l → Alike (cond b i k) (cond b j l)
cond-alike true h k = h
cond-alike false h k = k

pub given-alike : {i j : Judged} {k l : Worth → Judged} → Alike i j → ((w : Worth) → Alike (k w) (l w)) → Alike (given i k) (given j l)
given-alike (both-fine {w}) h = h w
given-alike both-faulty h = both-faulty

pub both-alike : {i j i' j' : Judged} {k l : Worth → Worth → Judged} → Alike i j → Alike i' j' → ((v w : Worth) → Alike (k v w) (l v w)) → Alike (given_both i i' k) (given_both j j' l)
both-alike (both-fine {w = v}) (both-fine {w = w}) h = h v w
both-alike both-fine both-faulty h = both-faulty
both-alike both-faulty both-fine h = both-faulty
both-alike both-faulty both-faulty h = both-faulty

pub proper-alike : {i j : Judged} (p q : Position) → Alike i j → Alike (proper p i) (proper q j)
unfolding proper
proper-alike p q (both-fine {w}) = cond-alike (eqb w.arms 0) both-fine both-faulty
proper-alike p q both-faulty = both-faulty

pub arms-alike : {i j : Judged} (p q : Position) → Alike i j → Alike (arm_list p i) (arm_list q j)
unfolding arm_list
arms-alike p q (both-fine {w}) = cond-alike (eqb w.arms 0) both-faulty both-fine
arms-alike p q both-faulty = both-faulty

pub sized-alike : (p q : Position) (l w : ℕ) → Alike (sized p l w) (sized q l w)
unfolding sized
sized-alike p q l w = cond-alike (ltb 0 l) (cond-alike (leb l longest) both-fine both-faulty) both-faulty

pub or-alike : {xs ys : List Fault} {i j : Judged} → Together xs ys → Alike i j → Alike (or_faulty xs i) (or_faulty ys j)
or-alike no-fault h = h
or-alike some-fault h = both-faulty

-- ---- Recursion on what is below.

module _ {X : Type 0} (R : X → X → Type 0) (none other : X) (here : R none other) (step next : (ℕ → X) → ℕ → X)
    (keeps : (f g : ℕ → X) → ((a : ℕ) → R (f a) (g a)) → (n : ℕ) → R (step f n) (next g n)) where
  pick-related : (b : Bool) {x y z w : X} → R x y → R z w → R (cond b x z) (cond b y w)
  pick-related true h k = h
  pick-related false h k = k

  pub below-related : (k a : ℕ) → R (below none step k a) (below other next k a)
  unfolding below
  below-related zero a = here
  below-related (suc k) a = pick-related (eqb a k) (keeps (below none step k) (below other next k) (below-related k) k) (below-related k a)
