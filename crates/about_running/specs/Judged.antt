-- What is judged fine has fine parts, and its own rules hold: the combinators of judging, read backwards. Assumes nothing.
use Rattle.std.specs.Prelude.{Bool, true, false, cond, List, [], ◌∷◌, ◌++◌, ◌≡◌, refl, ℕ, ◌≤◌, ◌<◌, eqb, leb, ltb}
use Rattle.std.proofs.Common.{arith, eqb-true, leb-true, ltb-true}
use Rattle.std.proofs.lemmas.Bool.{eqb-false}
use Rattle.language.specs.Judging.{Judged, Worth, arm_list, faulty, fine, given, given_both, or_faulty, proper, refuse, sized, unless, worth}
use Rattle.language.specs.declared.refusals.Refusal.{Refusal}
use Rattle.language.specs.declared.refusals.Refusal.TheVariants.{BadLength, NoContinuation}
use Rattle.language.specs.Ceilings.{longest}
use Rattle.language.specs.Words.{Fault, Position}

pub faulty-fine : {A : Type 0} {f : Fault} {fs : List Fault} {w : Worth} → faulty f fs ≡ fine w → A
faulty-fine e = absurd (let z : ◌≡◌ {A = ℕ} 0 1 = cc in omega arith)

pub record One (j : Judged) (k : Worth → Judged) (w : Worth) : Type 0 where
  pub v : Worth
  pub part : j ≡ fine v
  pub own : k v ≡ fine w

pub given-fine : (j : Judged) (k : Worth → Judged) {w : Worth} → given j k ≡ fine w → One j k w
given-fine (fine v) k e = record { v = v; part = refl; own = e }
given-fine (faulty f fs) k e = faulty-fine e

pub record Two (i j : Judged) (k : Worth → Worth → Judged) (w : Worth) : Type 0 where
  pub u : Worth
  pub v : Worth
  pub left : i ≡ fine u
  pub right : j ≡ fine v
  pub own : k u v ≡ fine w

pub both-fine : (i j : Judged) (k : Worth → Worth → Judged) {w : Worth} → given_both i j k ≡ fine w → Two i j k w
both-fine (fine u) (fine v) k e = record { u = u; v = v; left = refl; right = refl; own = e }
both-fine (fine u) (faulty g gs) k e = faulty-fine e
both-fine (faulty f fs) (fine v) k e = faulty-fine e
both-fine (faulty f fs) (faulty g gs) k e = faulty-fine e

pub record Proper (j : Judged) (w : Worth) : Type 0 where
  pub same : j ≡ fine w
  pub arms : w.arms ≡ 0

pub proper-fine : (p : Position) (j : Judged) {w : Worth} → proper p j ≡ fine w → Proper j w
unfolding proper
proper-fine p (faulty f fs) e = faulty-fine e
proper-fine p (fine v) {w} e = go (eqb v.arms 0) refl e
  where
    go : (b : Bool) → eqb v.arms 0 ≡ b → cond b (fine v) (refuse p NoContinuation) ≡ fine w → Proper (fine v) w
    go true q r = record { same = r; arms = let z : v ≡ w = cc in rw (← z) (eqb-true _ _ q) }
    go false q r = faulty-fine r

pub record Arms (j : Judged) (w : Worth) : Type 0 where
  pub same : j ≡ fine w
  pub some : 0 < w.arms

pub arms-fine : (p : Position) (j : Judged) {w : Worth} → arm_list p j ≡ fine w → Arms j w
unfolding arm_list
arms-fine p (faulty f fs) e = faulty-fine e
arms-fine p (fine v) {w} e = go (eqb v.arms 0) refl e
  where
    pos : (n : ℕ) → (n ≡ 0 → ⊥) → 0 < n
    pos n h = omega arith

    go : (b : Bool) → eqb v.arms 0 ≡ b → cond b (refuse p NoContinuation) (fine v) ≡ fine w → Arms (fine v) w
    go true q r = faulty-fine r
    go false q r = record { same = r; some = let z : v ≡ w = cc in rw (← z) (pos _ (eqb-false _ _ q)) }

pub record Sized (l k : ℕ) (w : Worth) : Type 0 where
  pub some : 1 ≤ l
  pub most : l ≤ longest
  pub same : w ≡ record { length = l; arms = 0; work = k }

pub sized-fine : (p : Position) (l k : ℕ) {w : Worth} → sized p l k ≡ fine w → Sized l k w
unfolding sized
sized-fine p l k {w} e = go (ltb 0 l) refl e
  where
    go2 : 0 < l → (b : Bool) → leb l longest ≡ b → cond b (worth l 0 k) (refuse p BadLength) ≡ fine w → Sized l k w
    go2 h true q r = record { some = h; most = leb-true _ _ q; same = cc }
    go2 h false q r = faulty-fine r

    go : (b : Bool) → ltb 0 l ≡ b → cond b (cond (leb l longest) (worth l 0 k) (refuse p BadLength)) (refuse p BadLength) ≡ fine w → Sized l k w
    go true q r = go2 (ltb-true _ _ q) (leb l longest) refl r
    go false q r = faulty-fine r

pub record Clean (fs : List Fault) (j : Judged) (w : Worth) : Type 0 where
  pub none : fs ≡ []
  pub same : j ≡ fine w

pub clean-fine : (fs : List Fault) (j : Judged) {w : Worth} → or_faulty fs j ≡ fine w → Clean fs j w
clean-fine [] j e = record { none = refl; same = e }
clean-fine (x ∷ xs) j e = faulty-fine e

pub unless-none : (b : Bool) (p : Position) (r : Refusal) → unless b p r ≡ [] → b ≡ true
unless-none true p n e = refl
unless-none false p n e = absurd (let z : ◌≡◌ {A = ℕ} 0 1 = cc in omega arith)

pub append-none-left : (xs ys : List Fault) → xs ++ ys ≡ [] → xs ≡ []
append-none-left [] ys e = refl
append-none-left (x ∷ xs) ys e = absurd (let z : ◌≡◌ {A = ℕ} 0 1 = cc in omega arith)

pub append-none-right : (xs ys : List Fault) → xs ++ ys ≡ [] → ys ≡ []
append-none-right [] ys e = e
append-none-right (x ∷ xs) ys e = absurd (let z : ◌≡◌ {A = ℕ} 0 1 = cc in omega arith)
