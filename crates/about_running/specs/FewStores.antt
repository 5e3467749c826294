-- A single action delays at most one store, and its work is then at least one. Over any store in which putting delays nothing and delaying delays one more. Assumes nothing.
use Rattle.std.specs.Prelude.{Bool, cond, ◌||◌, ◌≡◌, eqb, ltb, length}
use Rattle.std.proofs.Math.Bool.{true, false}
use mathlib.Core.List.{List, [], ◌∷◌, ◌++◌}
use Rattle.std.proofs.Math.Path.{refl}
use Rattle.std.proofs.Common.{◌∙◌}
use native.Mathlib.Omega.{arith}
use Prim.Native.Nat.{ℕ, suc, ◌+◌, ◌/◌, ◌%◌, ◌^◌, ◌≤◌}
use Rattle.language.specs.Acting as A
use Rattle.language.specs.Acting.{Doing, Ran, landing, on_place, on_value, onward, put_all, setting, side, storing, to_state, went}
use Rattle.language.specs.ActionRules as J
use Rattle.language.specs.ActionRules.{actions, simple_judged}
use Rattle.language.specs.Description as D
use Rattle.language.specs.Description.{Action, Description, Places, facility_at}
use Rattle.language.specs.Expressions.{own_work}
use Rattle.language.specs.Judging.{Judged, Worth, fine, given_both, unless, worth}
use Rattle.language.specs.Kinds.{delayed_sign}
use Rattle.language.specs.Meaning.{Answer, Located, Place, Stores, Stuck, Write, eval_at, is, stops}
use Rattle.language.specs.declared.refusals.Refusal.TheVariants.{BadLength, BadStore}
use Rattle.language.specs.declared.stops.Stop.{Stop}
use Rattle.language.specs.Storing.{is_plain, may_store}
use Rattle.language.specs.Value.{Value}
use Rattle.language.specs.Words.{Position}
use Rattle.about_running.specs.OneAction.{simple}
use Rattle.about_running.specs.Judged.{both-fine, clean-fine, faulty-fine, given-fine}
use Rattle.language.specs.Tests.{both}

-- How many stores have been delayed.
pub record Counts {X : Type 0} (S : Stores X) (delayed : X → ℕ) : Type 0 where
  pub puts : (x : X) (w : Write) → delayed (S.put x w) ≡ delayed x
  pub delays : (x : X) (ws : List Write) → delayed (S.delay x ws) ≡ suc (delayed x)

module _ {X : Type 0} (S : Stores X) (d : Description) (p : Places) (delayed : X → ℕ) (count : Counts S delayed) where
  -- At most n stores have been delayed when a list has been carried out.
  pub data Few (n : ℕ) : Ran X → Type 0 where
    carried : {c : Doing X} → delayed c.store ≤ n → Few n (went c)
    stopped-so : {k : Stop} → Few n (Ran.stopped k)
    stuck-so : {s : Stuck} → Few n (Ran.stuck s)

  pub few-more : {m n : ℕ} (r : Ran X) → m ≤ n → Few m r → Few n r
  few-more (went c) l (carried h) = carried {c = c} (omega arith)
  few-more (Ran.stopped k) l stopped-so = stopped-so
  few-more (Ran.stuck s) l stuck-so = stuck-so

  pub onward-few : {m n : ℕ} (r : Ran X) (on : Doing X → Ran X) → Few m r → ((c : Doing X) → delayed c.store ≤ m → Few n (on c)) → Few n (onward r on)
  onward-few (went c) on (carried h) k = k c h
  onward-few (Ran.stopped n) on h k = stopped-so
  onward-few (Ran.stuck s) on h k = stuck-so

  pub value-few : {n : ℕ} (a : Answer) (on : Value → Ran X) → ((v : Value) → Few n (on v)) → Few n (on_value a on)
  value-few (is v) on k = k v
  value-few (stops m) on k = stopped-so
  value-few (Answer.stuck s) on k = stuck-so

  place-few : {n : ℕ} (a : Located) (on : Place → Ran X) → ((q : Place) → Few n (on q)) → Few n (on_place a on)
  place-few (Located.at q) on k = k q
  place-few (Located.stops m) on k = stopped-so
  place-few (Located.stuck s) on k = stuck-so

  pub chosen-few : {n : ℕ} (b : Bool) {r t : Ran X} → Few n r → Few n t → Few n (cond b r t)
  chosen-few true h k = h
  chosen-few false h k = k

  -- ---- Single actions.

  puts_none : (x : X) (ws : List Write) → delayed (put_all S d x ws) ≡ delayed x
  unfolding put_all
  puts_none x [] = refl
  puts_none x (w ∷ ws) = puts_none (S.put x w) ws ∙ count.puts x w

  landing-few : (k : ℕ) (ws : List Write) (q : Bool) (c : Doing X) → delayed (landing S d k ws q c).store ≤ suc (delayed c.store)
  unfolding landing
  landing-few k ws q c = go (eqb k delayed_sign)
    where
      go : (b : Bool) → delayed (cond b (A.with_store S d (S.delay c.store ws) q c) (A.with_store S d (put_all S d c.store ws) false c)).store ≤ suc (delayed c.store)
      go true = let e : delayed (S.delay c.store ws) ≡ suc (delayed c.store) = count.delays c.store ws in omega arith
      go false = let e : delayed (put_all S d c.store ws) ≡ delayed c.store = puts_none c.store ws in omega arith

  storing-few : (k bits : ℕ) (allowed q : Bool) (v : Value) (ws : List Write) (c : Doing X) → Few (suc (delayed c.store)) (storing S d k bits allowed q v ws c)
  unfolding storing
  storing-few k bits allowed q v ws c =
      chosen-few (eqb v.length bits) (chosen-few allowed (carried (landing-few k ws q c)) stuck-so) stuck-so

  single-few : (k l r : ℕ) (c : Doing X) → Few (suc (delayed c.store)) (A.store_to S d k l r c)
  single-few k l r c =
      place-few (side S d c.store l) _ (λ q. value-few (eval_at S d c.store r) _ (λ v.
      storing-few k q.count (A.storable S d k q) (A.on_sequencing S d q) v (A.write S d q v.number ∷ []) c))

  pair-few : (k l m r : ℕ) (c : Doing X) → Few (suc (delayed c.store)) (A.store_to_pair S d k l m r c)
  pair-few k l m r c =
      place-few (side S d c.store l) _ (λ q. place-few (side S d c.store m) _ (λ u. value-few (eval_at S d c.store r) _ (λ v.
      storing-few k (q.count + u.count) (cond (A.storable S d k q) (A.storable S d k u) false) (A.on_sequencing S d q || A.on_sequencing S d u) v
      (A.write S d q (v.number / 2 ^ u.count) ∷ A.write S d u (v.number % 2 ^ u.count) ∷ []) c)))

  setting-few : (q : Place) (c : Doing X) → Few (delayed c.store) (setting S d q c)
  setting-few q c =
      let e : delayed (S.put c.store (A.write S d q 1)) ≡ delayed c.store = count.puts c.store (A.write S d q 1) in
      chosen-few (is_plain (facility_at d q.facility).kind) (chosen-few (eqb q.count 1) (carried (omega arith)) stuck-so) stuck-so

  to-state-few : (s : ℕ) (f : ℕ → Doing X → Doing X) (c : Doing X) → (f s c).store ≡ c.store → Few (delayed c.store) (to_state S d s f c)
  to-state-few s f c e = chosen-few (ltb s (length d.states)) (carried (rw e (omega arith))) stuck-so

  module _ (in_state : Bool) (works : ℕ → Judged) (perform : ℕ → Doing X → Ran X)
      (performs : (o : ℕ) (w : Worth) (c : Doing X) → works o ≡ fine w → Few (delayed c.store + w.work) (perform o c)) where
    pub worth-work : {l a n : ℕ} {w : Worth} → worth l a n ≡ fine w → w.work ≡ n
    worth-work e = cc

    only-in : (b : Bool) (at : Position) (j : Judged) {w : Worth} → J.only_in d p in_state works b at j ≡ fine w → j ≡ fine w
    only-in true at j e = e
    only-in false at j e = faulty-fine e

    -- A store's work is at least one.
    store-few : (i j : Judged) (allowed b : Bool) (at : Position) {w : Worth} (c : Doing X) (r : Ran X)
        → J.only_in d p in_state works b at (given_both i j (J.stored d p in_state works allowed at)) ≡ fine w → Few (suc (delayed c.store)) r → Few (delayed c.store + w.work) r
    unfolding own_work
    store-few i j allowed b at {w} c r e h =
        let y = both-fine i j _ (only-in b at _ e) in
        let z = clean-fine (unless (eqb y.u.length y.v.length) at BadLength ++ unless allowed at BadStore) (worth 1 0 (own_work + y.u.work + y.v.work)) y.own in
        let n : w.work ≡ own_work + y.u.work + y.v.work = worth-work z.same in
        few-more r (rw n (some-work _ y.u.work y.v.work)) h
      where
        some-work : (m a b : ℕ) → suc m ≤ m + (own_work + a + b)
        some-work m a b = omega arith

    pub simple-few : (a : Action) (at : Position) (c : Doing X) {w : Worth} → simple_judged d p in_state works at a ≡ fine w → Few (delayed c.store + w.work) (simple S d perform a c)
    unfolding simple_judged simple
    simple-few (D.store k l r) at c e =
        store-few (J.side d p in_state works l) (J.right d p in_state works r) (may_store k (J.kind_at d l)) (J.not_in_state d p in_state works) at c _ e (single-few k l r c)
    simple-few (D.store_pair k l m r) at c e =
        store-few (J.sides d p in_state works l m) (J.right d p in_state works r) (both (may_store k (J.kind_at d l)) (may_store k (J.kind_at d m))) (J.not_in_state d p in_state works) at c _ e (pair-few k l m r c)
    simple-few (D.set l) at c e = few-more _ (omega arith) (place-few (side S d c.store l) _ (λ q. setting-few q c))
    simple-few (D.perform o) at c {w} e =
        let y = given-fine (works o) _ e in
        let n : w.work ≡ own_work + y.v.work = worth-work y.own in
        few-more _ (omega (arith, n)) (performs o y.v c y.part)
    simple-few (D.goto s) at c e = few-more _ (omega arith) (to-state-few s (A.going_to S d) c refl)
    simple-few (D.call s) at c e = few-more _ (omega arith) (to-state-few s (A.calling S d) c refl)
    simple-few D.return at c e = carried {c = A.returning S d c} (omega arith)
    simple-few (D.when b x) at c e = stuck-so
    simple-few (D.choose b n x) at c e = stuck-so
    simple-few (D.arm x) at c e = stuck-so
    simple-few D.Action.broken at c e = stuck-so
