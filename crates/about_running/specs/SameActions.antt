-- Two stores that load, put and delay alike carry out one action alike. Assumes nothing.
use Rattle.std.specs.Prelude.{Bool, cond, ◌||◌, ℕ, suc, ◌+◌, ◌/◌, ◌%◌, ◌^◌, eqb, ltb, length}
use Rattle.std.proofs.Math.Bool.{true, false}
use mathlib.Core.List.{List, [], ◌∷◌, ◌++◌}
use Rattle.std.proofs.Math.Option.{Option, none, some}
use Rattle.std.proofs.Math.Path.{◌≡◌, refl}
use Rattle.std.proofs.Common.{ap, arith}
use Rattle.language.specs.Acting.{Doing, Ran, calling, going_to, landing, on_place, on_sequencing, on_value, onward, put_all, returning, setting, side, side_of, storable, store_to, store_to_pair, storing, to_state, went, with_store, write}
use Rattle.language.specs.Description as D
use Rattle.language.specs.Description.{Action, Description, facility_at, is_computed, node_at}
use Rattle.language.specs.Kinds.{delayed_sign, equal_sign}
use Rattle.language.specs.Meaning.{Answer, Located, Place, Stores, Stuck, Write, eval_at, eval_below, is, not_storable, sides_differ, stops, stuck, no_state}
use Rattle.language.specs.References.{Reference, reference_of}
use Rattle.language.specs.declared.stops.Stop.{Stop}
use Rattle.language.specs.Storing.{is_plain, may_store}
use Rattle.language.specs.Tree.{Kind, computed, input, memory, plain, register, sequencing}
use Rattle.language.specs.Value.{Value}
use Rattle.about_running.specs.OneAction.{simple}
use Rattle.about_running.specs.PlaceFound.{Taken, found-taken}
use Rattle.about_running.specs.SameValues.{Stored, below-same, place_same, value_same}

abbrev pub AllStored : Description → List Write → Type 0
AllStored d [] = Unit {0}
AllStored d (w ∷ ws) = Stored d w.at × AllStored d ws

-- Stores of two kinds that stand for each other go on doing so.
pub record Joins {X Y : Type 0} (S : Stores X) (T : Stores Y) (d : Description) (R : X → Y → Type 0) : Type 0 where
  pub loads : (x : X) (y : Y) → R x y → (p : Place) → Stored d p → S.load x p ≡ T.load y p
  pub puts : (x : X) (y : Y) (w : Write) → R x y → Stored d w.at → R (S.put x w) (T.put y w)
  pub delays : (x : X) (y : Y) (ws : List Write) → R x y → AllStored d ws → R (S.delay x ws) (T.delay y ws)

-- What may be stored to is in the store.
storable-kept : (k : ℕ) (f : Kind) → may_store k f ≡ true → is_computed f ≡ false
unfolding may_store
storable-kept k register e = refl
storable-kept k sequencing e = refl
storable-kept k memory e = refl
storable-kept k plain e = refl
storable-kept k input e = refl
storable-kept k computed e = go (eqb k delayed_sign) (eqb k equal_sign) e
  where
    go : (a b : Bool) → cond a false (cond b false false) ≡ true → is_computed computed ≡ false
    go true b q = absurd (let z : ◌≡◌ {A = ℕ} 0 1 = cc in omega arith)
    go false true q = absurd (let z : ◌≡◌ {A = ℕ} 0 1 = cc in omega arith)
    go false false q = absurd (let z : ◌≡◌ {A = ℕ} 0 1 = cc in omega arith)

plain-kept : (f : Kind) → is_plain f ≡ true → is_computed f ≡ false
plain-kept register e = refl
plain-kept sequencing e = refl
plain-kept memory e = refl
plain-kept plain e = refl
plain-kept input e = refl
plain-kept computed e = absurd (let z : ◌≡◌ {A = ℕ} 0 1 = cc in omega arith)

module _ {X Y : Type 0} (S : Stores X) (T : Stores Y) (d : Description) (R : X → Y → Type 0) (joins : Joins S T d R) where
  pub record Same (c : Doing X) (e : Doing Y) : Type 0 where
    pub stores : R c.store e.store
    pub gotos-same : c.gotos ≡ e.gotos
    pub returns-same : c.returns ≡ e.returns
    pub calls_same : c.calls ≡ e.calls
    pub sequenced-same : c.sequenced ≡ e.sequenced

  pub data Alike : Ran X → Ran Y → Type 0 where
    go_on : {c : Doing X} {e : Doing Y} → Same c e → Alike (went c) (went e)
    stop : {n : Stop} → Alike (Ran.stopped n) (Ran.stopped n)
    stick : {s : Stuck} → Alike (Ran.stuck s) (Ran.stuck s)

  pub onward-alike : {a : Ran X} {b : Ran Y} (on : Doing X → Ran X) (on' : Doing Y → Ran Y) → Alike a b → ((c : Doing X) (e : Doing Y) → Same c e → Alike (on c) (on' e)) → Alike (onward a on) (onward b on')
  onward-alike on on' (go_on {c} {e} s) k = k c e s
  onward-alike on on' stop k = stop
  onward-alike on on' stick k = stick

  pub value-alike : {a b : Answer} (on : Value → Ran X) (on' : Value → Ran Y) → a ≡ b → ((v : Value) → Alike (on v) (on' v)) → Alike (on_value a on) (on_value b on')
  value-alike {a} {b} on on' e k = rw (← e) (go a)
    where
      go : (a : Answer) → Alike (on_value a on) (on_value a on')
      go (is v) = k v
      go (stops n) = stop
      go (stuck s) = stick

  -- A side names the same place, which is there.
  place-alike : {a b : Located} (on : Place → Ran X) (on' : Place → Ran Y) → a ≡ b → ((p : Place) → a ≡ Located.at p → Alike (on p) (on' p)) → Alike (on_place a on) (on_place b on')
  place-alike {a} {b} on on' e k = rw (← e) (go a k)
    where
      go : (a : Located) → ((p : Place) → a ≡ Located.at p → Alike (on p) (on' p)) → Alike (on_place a on) (on_place a on')
      go (Located.at p) k = k p refl
      go (Located.stops n) k = stop
      go (Located.stuck s) k = stick

  module _ (c : Doing X) (e : Doing Y) (same : Same c e) where
    pub value-at : (n : ℕ) → eval_at S d c.store n ≡ eval_at T d e.store n
    value-at n = value_same S T d c.store e.store (joins.loads c.store e.store same.stores) n

    side_same : (n : ℕ) → side S d c.store n ≡ side T d e.store n
    unfolding side
    side_same n = go (reference_of (node_at d n))
      where
        go : (r : Option Reference) → side_of S d r c.store n ≡ side_of T d r e.store n
        go none = refl
        go (some r) = place_same (eval_below S d c.store n) (eval_below T d e.store n) (below-same S T d c.store e.store (joins.loads c.store e.store same.stores) n) d r

    side-there : (n : ℕ) (p : Place) → side S d c.store n ≡ Located.at p → Taken d p
    unfolding side
    side-there n p q = go (reference_of (node_at d n)) q
      where
        go : (r : Option Reference) → side_of S d r c.store n ≡ Located.at p → Taken d p
        go none k = absurd (let z : ◌≡◌ {A = ℕ} 0 1 = cc in omega arith)
        go (some r) k = (found-taken d (eval_below S d c.store n) r p k).1

    with-alike : (x : X) (y : Y) (q : Bool) → R x y → Same (with_store S d x q c) (with_store T d y q e)
    with-alike x y q h = record {
      stores = h;
      gotos-same = same.gotos-same;
      returns-same = same.returns-same;
      calls_same = same.calls_same;
      sequenced-same = ap (λ (t : Bool). t || q) same.sequenced-same;
    }

    puts-alike : (x : X) (y : Y) (ws : List Write) → R x y → AllStored d ws → R (put_all S d x ws) (put_all T d y ws)
    unfolding put_all
    puts-alike x y [] h a = h
    puts-alike x y (w ∷ ws) h a = puts-alike (S.put x w) (T.put y w) ws (joins.puts x y w h a.0) a.1

    storing-alike : (k bits : ℕ) (allowed q : Bool) (v : Value) (ws : List Write) → (allowed ≡ true → AllStored d ws) → Alike (storing S d k bits allowed q v ws c) (storing T d k bits allowed q v ws e)
    unfolding storing landing
    storing-alike k bits allowed q v ws a = go (eqb v.length bits) allowed refl (eqb k delayed_sign)
      where
        go : (b t : Bool) → allowed ≡ t → (l : Bool)
            → Alike (cond b (cond t (went (cond l (with_store S d (S.delay c.store ws) q c) (with_store S d (put_all S d c.store ws) false c))) (Ran.stuck not_storable)) (Ran.stuck sides_differ))
            (cond b (cond t (went (cond l (with_store T d (T.delay e.store ws) q e) (with_store T d (put_all T d e.store ws) false e))) (Ran.stuck not_storable)) (Ran.stuck sides_differ))
        go true true z true = go_on (with-alike _ _ q (joins.delays c.store e.store ws same.stores (a z)))
        go true true z false = go_on (with-alike _ _ false (puts-alike c.store e.store ws same.stores (a z)))
        go true false z l = stick
        go false t z l = stick

    stored-so : (k : ℕ) (p : Place) → Taken d p → storable S d k p ≡ true → Stored d p
    stored-so k p t q = record { taken = t; kept = storable-kept k (facility_at d p.facility).kind q }

    one_alike : (k l r : ℕ) → Alike (store_to S d k l r c) (store_to T d k l r e)
    one_alike k l r =
        place-alike _ _ (side_same l) (λ p q. value-alike _ _ (value-at r) (λ v.
        storing-alike k p.count (storable S d k p) (on_sequencing S d p) v (write S d p v.number ∷ []) (λ z. (stored-so k p (side-there l p q) z, tt))))

    both_so : (a b : Bool) → cond a b false ≡ true → (a ≡ true) × (b ≡ true)
    both_so true b q = (refl, q)
    both_so false b q = absurd (let z : ◌≡◌ {A = ℕ} 0 1 = cc in omega arith)

    pair-alike : (k l m r : ℕ) → Alike (store_to_pair S d k l m r c) (store_to_pair T d k l m r e)
    pair-alike k l m r =
        place-alike _ _ (side_same l) (λ p s. place-alike _ _ (side_same m) (λ q t. value-alike _ _ (value-at r) (λ v.
        storing-alike k (p.count + q.count) (cond (storable S d k p) (storable S d k q) false) (on_sequencing S d p || on_sequencing S d q) v
        (write S d p (v.number / 2 ^ q.count) ∷ write S d q (v.number % 2 ^ q.count) ∷ [])
        (λ z. let y = both_so _ _ z in (stored-so k p (side-there l p s) y.0, (stored-so k q (side-there m q t) y.1, tt))))))

    set-alike : (l : ℕ) → Alike (on_place (side S d c.store l) (λ p. setting S d p c)) (on_place (side T d e.store l) (λ p. setting T d p e))
    set-alike l = place-alike _ _ (side_same l) (λ p q. go p q (is_plain (facility_at d p.facility).kind) refl (eqb p.count 1))
      where
        go : (p : Place) → side S d c.store l ≡ Located.at p → (a : Bool) → is_plain (facility_at d p.facility).kind ≡ a → (b : Bool)
            → Alike (cond a (cond b (went (with_store S d (S.put c.store (write S d p 1)) false c)) (Ran.stuck sides_differ)) (Ran.stuck not_storable))
            (cond a (cond b (went (with_store T d (T.put e.store (write T d p 1)) false e)) (Ran.stuck sides_differ)) (Ran.stuck not_storable))
        go p q true z true =
            go_on (with-alike _ _ false (joins.puts c.store e.store (write S d p 1) same.stores (record { taken = side-there l p q; kept = plain-kept (facility_at d p.facility).kind z })))
        go p q true z false = stick
        go p q false z b = stick

    going : (s : ℕ) → Same (going_to S d s c) (going_to T d s e)
    going s = record {
      stores = same.stores;
      gotos-same = ap (λ (xs : List ℕ). xs ++ s ∷ []) same.gotos-same;
      returns-same = same.returns-same;
      calls_same = same.calls_same;
      sequenced-same = same.sequenced-same;
    }

    called : (s : ℕ) → Same (calling S d s c) (calling T d s e)
    called s = record {
      stores = same.stores;
      gotos-same = same.gotos-same;
      returns-same = same.returns-same;
      calls_same = ap (λ (xs : List ℕ). xs ++ s ∷ []) same.calls_same;
      sequenced-same = same.sequenced-same;
    }

    returned : Same (returning S d c) (returning T d e)
    returned = record {
      stores = same.stores;
      gotos-same = same.gotos-same;
      returns-same = ap suc same.returns-same;
      calls_same = same.calls_same;
      sequenced-same = same.sequenced-same;
    }

    to-alike : (s : ℕ) (f : ℕ → Doing X → Doing X) (g : ℕ → Doing Y → Doing Y) → Same (f s c) (g s e) → Alike (to_state S d s f c) (to_state T d s g e)
    to-alike s f g h = go (ltb s (length d.states))
      where
        go : (b : Bool) → Alike (cond b (went (f s c)) (Ran.stuck no_state)) (cond b (went (g s e)) (Ran.stuck no_state))
        go true = go_on h
        go false = stick

    module _ (perform : ℕ → Doing X → Ran X) (perform' : ℕ → Doing Y → Ran Y) (performs : (o : ℕ) → Alike (perform o c) (perform' o e)) where
      pub simple-alike : (a : Action) → Alike (simple S d perform a c) (simple T d perform' a e)
      unfolding simple
      simple-alike (D.store k l r) = one_alike k l r
      simple-alike (D.store_pair k l m r) = pair-alike k l m r
      simple-alike (D.set l) = set-alike l
      simple-alike (D.perform o) = performs o
      simple-alike (D.goto s) = to-alike s (going_to S d) (going_to T d) (going s)
      simple-alike (D.call s) = to-alike s (calling S d) (calling T d) (called s)
      simple-alike D.return = go_on returned
      simple-alike (D.when a x) = stick
      simple-alike (D.choose a n x) = stick
      simple-alike (D.arm x) = stick
      simple-alike D.Action.broken = stick
