-- Never stuck, for actions: a list judged fine is carried out, or stops for S1; what it does to the store it does within facilities, and it names only states that are there. Assumes nothing.
use Rattle.std.specs.Prelude.{Bool}
use Rattle.std.proofs.Math.Bool.{true, false, cond}
use mathlib.Core.List.{List, [], ◌∷◌, ◌++◌}
use Rattle.std.proofs.Math.Option.{Option, none, some}
use Rattle.std.proofs.Math.Path.{◌≡◌, refl, sym, ap, subst}
use Rattle.std.proofs.Common.{◌∙◌, div-lt_iff_lt-mul, mod-lt, arith, pow-add, pow_pos}
use Prim.Native.Nat.{ℕ, ◌+◌, ◌*◌, ◌/◌, ◌%◌, ◌^◌, ◌≤◌, ◌<◌}
use borrow.Author.Tests.{eq-eqb, eqb-true, lt-ltb, ltb-false, ltb-true}
use Rattle.std.proofs.Math.Dec.{eqb, ltb}
use Rattle.std.proofs.Math.ListN.{get_or-eq_default, length}
use Rattle.language.specs.Acting.{Doing, Ran, landing, on_place, on_value, put_all, setting, side, side_of, store_to, store_to_pair, storing, went, with_store, write}
use Rattle.language.specs.ActionRules as J
use Rattle.language.specs.ActionRules.{kind_at, simple_judged}
use Rattle.language.specs.Description as D
use Rattle.language.specs.Description.{Action, Description, Node, Places, facility_at, node_at, node_place, state_at, word_count, word_length}
use Rattle.language.specs.Expressions.{expression_at, judge_at, judge_below, left_at, left_of, own_work, terminal_below}
use Rattle.language.specs.Judging.{Judged, Worth, faulty, fine, refuse, unless, worth}
use Rattle.language.specs.Kinds.{delayed_sign, equal_sign}
use Rattle.language.specs.Meaning.{Answer, Located, Place, Stores, Write, eval_at, eval_below}
use Rattle.language.specs.Order.{just_before, start_at, start_below, start_node}
use Rattle.language.specs.ReferenceRules.{subscript_worth}
use Rattle.language.specs.References as R
use Rattle.language.specs.References.{Reference, part, reference_of, taken_length, two, whole, word_part}
use Rattle.language.specs.declared.refusals.Refusal.TheVariants.{BadLength, BadName, BadStore}
use Rattle.language.specs.declared.stops.Stop.TheVariants.{OutsideBounds}
use Rattle.language.specs.Storing.{is_plain, may_store, takes_immediate}
use Rattle.language.specs.Tree as T
use Rattle.language.specs.Tree.{Kind}
use Rattle.language.specs.Value.{Value}
use Rattle.language.specs.Words.{Position}
use Rattle.about_running.specs.OneAction.{simple}
use Rattle.about_running.specs.Evaluates.{Claim, Terminal, evaluates, eval-lt, judge-lt}
use Rattle.about_running.specs.Finds.{Each, Finds, finds, outside, reference-fine, reference-finds}
use Rattle.about_running.specs.Gives.{Gives, gives, stopped}
use Rattle.about_running.specs.Judged.{append-none-left, append-none-right, both-fine, clean-fine, faulty-fine, given-fine, proper-fine, unless-none}
use Rattle.about_running.specs.Starts.{one-before, two-parts}
use Rattle.language.specs.Tests.{both}

-- A part of a word that is there, in a facility that a store of sign k may change.
pub record There (d : Description) (q : Place) : Type 0 where
  pub facility-in : q.facility < length d.facilities
  pub word-in : q.word < word_count (facility_at d q.facility)
  pub part_in : q.from + q.count ≤ word_length (facility_at d q.facility)

-- A number for such a part, which fits it.
pub record Right (d : Description) (k : ℕ) (w : Write) : Type 0 where
  pub there : There d w.at
  pub fits : w.number < 2 ^ w.at.count
  pub allowed : may_store k (facility_at d w.at.facility).kind ≡ true

abbrev pub AllRight : Description → ℕ → List Write → Type 0
AllRight d k [] = Unit {0}
AllRight d k (w ∷ ws) = Right d k w × AllRight d k ws

abbrev pub AllStates : Description → List ℕ → Type 0
AllStates d [] = Unit {0}
AllStates d (s ∷ ss) = (s < length d.states) × AllStates d ss

pub states-more : (d : Description) (ss : List ℕ) (s : ℕ) → AllStates d ss → s < length d.states → AllStates d (ss ++ s ∷ [])
states-more d [] s h k = (k, tt)
states-more d (t ∷ ss) s h k = (h.0, states-more d ss s h.1 k)

-- A store that can be put to and delayed to at right places keeps a property.
pub record Keeps {X : Type 0} (S : Stores X) (d : Description) (Inv : X → Type 0) : Type 0 where
  pub loads : (x : X) (q : Place) → S.load x q < 2 ^ q.count
  pub puts : (x : X) (w : Write) → Inv x → Right d equal_sign w → Inv (S.put x w)
  pub delays : (x : X) (ws : List Write) → Inv x → AllRight d delayed_sign ws → Inv (S.delay x ws)

module _ {X : Type 0} (S : Stores X) (d : Description) (p : Places) (Inv : X → Type 0) (keeps : Keeps S d Inv) (base : ℕ)
    (terms : (x : X) (f : ℕ) (w : Worth) → f < length d.facilities → ◌≡◌ {A = Bool} (D.is_computed (facility_at d f).kind) true
    → terminal_below d p (length d.facilities) f ≡ fine w → Terminal S d x base f w) where
  abbrev all : ℕ
  all = length d.facilities

  abbrev terminals : ℕ → Judged
  terminals = terminal_below d p all

  -- What a list comes to.
  pub data Good : Ran X → Type 0 where
    good : {c : Doing X} → Inv c.store → AllStates d c.gotos → AllStates d c.calls → Good (went c)
    stops_so : Good (Ran.stopped OutsideBounds)

  -- The tree of a root stands in order.
  abbrev pub Own : ℕ → Type 0
  Own e = (s : ℕ) × (start_at d e ≡ some s) × (base ≤ s)

  claims : (x : X) (n : ℕ) → Claim S d p x (keeps.loads x) terminals all base (omega arith) (terms x) n
  claims x n = evaluates S d p x (keeps.loads x) terminals all base (omega arith) (terms x) n

  pub right-gives : (x : X) (n : ℕ) {w : Worth} → Own n → expression_at d p terminals all n ≡ fine w → Gives w.length (eval_at S d x n)
  right-gives x n o e =
      let y = proper-fine (node_place p n).at (judge_at d p terminals all n) e in
      (claims x n).as-value y.same y.arms o.1 o.2

  -- ---- Left sides.

  module _ (x : X) (n : ℕ) where
    abbrev Sub : ℕ → Type 0
    Sub e = (e < n) × Own e

    sub-gives : (e : ℕ) (v : Worth) → Sub e → subscript_worth d p terminals (judge_below d p terminals all n) e ≡ fine v → Gives v.length (eval_below S d x n e)
    sub-gives e v o h =
        let y = proper-fine (node_place p e).at (judge_below d p terminals all n e) h in
        rw (below-eval o.0) ((claims x e).as-value (sym (below-judge o.0) ∙ y.same) y.arms o.1.1 o.1.2)
      where
        below-eval : e < n → eval_below S d x n e ≡ eval_at S d x e
        below-eval l = eval-lt S d p x (keeps.loads x) terminals all base (omega arith) (terms x) n e l

        below-judge : e < n → judge_below d p terminals all n e ≡ judge_at d p terminals all e
        below-judge l = judge-lt S d p x (keeps.loads x) terminals all base (omega arith) (terms x) n e l

    one-sub : (e s : ℕ) → base ≤ s → just_before d (start_below d n) e n ≡ some s → Sub e
    one-sub e s b o = let y = one-before d e n s o in (omega (arith, y.last), (s, y.start, b))

    none-ref : {A : Type 0} {r : Reference} → none ≡ some r → A
    none-ref e = absurd (let z : ◌≡◌ {A = ℕ} 0 1 = cc in omega arith)

    each-sub : (nd : Node) (r : Reference) (s : ℕ) → base ≤ s → reference_of nd ≡ some r → start_node d (start_below d n) n nd ≡ some s → Each Sub r.subscripts
    unfolding start_node
    each-sub (D.constant v) r s b q o = none-ref q
    each-sub (D.more m) r s b q o = none-ref q
    each-sub (D.whole f) r s b q o = let z : whole ≡ r.subscripts = cc in subst (Each Sub) z tt
    each-sub (D.one f e) r s b q o = let z : R.one e ≡ r.subscripts = cc in subst (Each Sub) z (one-sub e s b o)
    each-sub (D.part f c) r s b q o = let z : part c ≡ r.subscripts = cc in subst (Each Sub) z tt
    each-sub (D.two f e g) r s b q o =
        let y = two-parts d e g n s o in
        let z : two e g ≡ r.subscripts = cc in
        subst (Each Sub) z ((y.left_below, (s, y.left, b)), (y.right-below, (y.middle, y.right, omega (arith, y.after))))
    each-sub (D.word_part f e c) r s b q o = let z : word_part e c ≡ r.subscripts = cc in subst (Each Sub) z (one-sub e s b o)
    each-sub (D.binary k a c) r s b q o = none-ref q
    each-sub (D.prefix k a) r s b q o = none-ref q
    each-sub (D.cut k a c) r s b q o = none-ref q
    each-sub (D.first_arm e) r s b q o = none-ref q
    each-sub (D.next_arm a e) r s b q o = none-ref q
    each-sub (D.choice e a k) r s b q o = none-ref q
    each-sub D.Node.broken r s b q o = none-ref q

    -- What a left side without fault names.
    pub data Names (l : ℕ) : Located → Type 0 where
      names : {q : Place} → There d q → q.count ≡ l → kind_at d n ≡ (facility_at d q.facility).kind → Names l (Located.at q)
      outside-so : Names l (Located.stops OutsideBounds)

    left-names : {w : Worth} → Own n → left_at d p terminals all n ≡ fine w → Names w.length (side S d x n)
    unfolding left_at side kind_at start_at
    left-names {w} o e = go (reference_of (node_at d n)) refl e
      where
        found : (r : Reference) (loc : Located) (l : ℕ) → r.facility < length d.facilities → reference_of (node_at d n) ≡ some r → Finds (facility_at d r.facility) r.facility l loc → Names l loc
        found r (Located.stops m) l h q outside = outside-so
        found r (Located.stuck _) l h q x5 = elim x5 [ ]
        found r (Located.at y) l h q (finds i1 i2) = names (record { facility-in = h; word-in = i1; part_in = i2 }) refl (rw q)

        go : (x' : Option Reference) → reference_of (node_at d n) ≡ x' → left_of d p terminals all n x' ≡ fine w → Names w.length (side_of S d x' x n)
        go none q k = faulty-fine k
        go (some r) q k =
            let each = each-sub (node_at d n) r o.0 o.2 q o.1 in
            let y = reference-fine d p terminals (judge_below d p terminals all n) (eval_below S d x n) Sub sub-gives 0 all r (node_place p n) k in
            rw y.length
            (found r _ (taken_length (facility_at d r.facility) r.subscripts) y.known-here q
            (reference-finds d p terminals (judge_below d p terminals all n) (eval_below S d x n) Sub sub-gives 0 all r (node_place p n) each (omega arith) k))

  -- ---- Stores.

  all-puts : (x : X) (ws : List Write) → Inv x → AllRight d equal_sign ws → Inv (put_all S d x ws)
  unfolding put_all
  all-puts x [] h r = h
  all-puts x (w ∷ ws) h r = all-puts (S.put x w) ws (keeps.puts x w h r.0) r.1

  may-either : (k : ℕ) (f : Kind) → may_store k f ≡ true → (eqb k delayed_sign ≡ true → k ≡ delayed_sign) × (eqb k delayed_sign ≡ false → k ≡ equal_sign)
  unfolding may_store
  may-either k f h = (λ e. eqb-true k delayed_sign e, λ e. go e (eqb k equal_sign) refl (rw e at h))
    where
      go : eqb k delayed_sign ≡ false → (b : Bool) → eqb k equal_sign ≡ b → cond b (takes_immediate f) false ≡ true → k ≡ equal_sign
      go e true q r = eqb-true k equal_sign q
      go e false q r = absurd (let z : ◌≡◌ {A = ℕ} 0 1 = cc in omega arith)

  land-good : (k : ℕ) (w : Write) (ws : List Write) (q : Bool) (c : Doing X) → Inv c.store → AllStates d c.gotos → AllStates d c.calls → AllRight d k (w ∷ ws) → Good (went (landing S d k (w ∷ ws) q c))
  unfolding landing
  land-good k w ws q c h g s r = go (eqb k delayed_sign) refl
    where
      go : (b : Bool) → eqb k delayed_sign ≡ b
          → Good (went (cond b (with_store S d (S.delay c.store (w ∷ ws)) q c) (with_store S d (put_all S d c.store (w ∷ ws)) false c)))
      go true e =
          let z : k ≡ delayed_sign = eqb-true k delayed_sign e in
          good (keeps.delays c.store (w ∷ ws) h (subst (λ (m : ℕ). AllRight d m (w ∷ ws)) z r)) g s
      go false e =
          let z : k ≡ equal_sign = (may-either k _ r.0.allowed).1 e in
          good (all-puts c.store (w ∷ ws) h (subst (λ (m : ℕ). AllRight d m (w ∷ ws)) z r)) g s

  store-good : (k bits : ℕ) (allowed q : Bool) (v : Value) (w : Write) (ws : List Write) (c : Doing X) → Inv c.store → AllStates d c.gotos → AllStates d c.calls
      → v.length ≡ bits → allowed ≡ true → AllRight d k (w ∷ ws) → Good (storing S d k bits allowed q v (w ∷ ws) c)
  unfolding storing
  store-good k bits allowed q v w ws c h g s l a r = rw (eq-eqb v.length bits l, a) (land-good k w ws q c h g s r)

  pub on_value_lem : {l : ℕ} {a : Answer} (on : Value → Ran X) → Gives l a → ((v : Value) → v.length ≡ l → v.number < 2 ^ l → Good (on v)) → Good (on_value a on)
  on_value_lem on (gives {v = v} e h) k = k v e h
  on_value_lem on stopped k = stops_so

  on-place : {x : X} {n l : ℕ} {loc : Located} (on : Place → Ran X) → Names x n l loc
      → ((q : Place) → There d q → q.count ≡ l → kind_at d n ≡ (facility_at d q.facility).kind → Good (on q)) → Good (on_place loc on)
  on-place on (names {q = q} t e k) f = f q t e k
  on-place on outside-so f = stops_so

  -- What a store without fault says of its sides.
  record Sides (allowed : Bool) (v w : Worth) : Type 0 where
    same : v.length ≡ w.length
    may : allowed ≡ true

  stored-fine : (in_state : Bool) (works : ℕ → Judged) (allowed : Bool) (at : Position) (v w : Worth) {u : Worth} → J.stored d p in_state works allowed at v w ≡ fine u → Sides allowed v w
  stored-fine in_state works allowed at v w e =
      let y = clean-fine (unless (eqb v.length w.length) at BadLength ++ unless allowed at BadStore) _ e in
      record {
        same = eqb-true _ _ (unless-none (eqb v.length w.length) at BadLength (append-none-left _ _ y.none));
        may = unless-none allowed at BadStore (append-none-right (unless (eqb v.length w.length) at BadLength) _ y.none);
      }

  only-in : (b : Bool) (at : Position) (j : Judged) (in_state : Bool) (works : ℕ → Judged) {w : Worth} → J.only_in d p in_state works b at j ≡ fine w → j ≡ fine w
  only-in true at j i ws e = e
  only-in false at j i ws e = faulty-fine e

  low_fits : (v m n : ℕ) → v < 2 ^ (m + n) → (v / 2 ^ n < 2 ^ m) × (v % 2 ^ n < 2 ^ n)
  low_fits v m n h = (div-lt (pow-add 2 m n) h, mod-lt v (pow_pos n))
    where
      div-lt : 2 ^ (m + n) ≡ 2 ^ m * 2 ^ n → v < 2 ^ (m + n) → v / 2 ^ n < 2 ^ m
      div-lt e l = (div-lt_iff_lt-mul (pow_pos n)).1 (rw e at l)

  -- ---- One action.

  -- The roots of an action stand in order.
  abbrev pub Rooted : Action → Type 0
  Rooted (D.store k l r) = Own l × Own r
  Rooted (D.store_pair k l m r) = Own l × Own m × Own r
  Rooted (D.set l) = Own l
  Rooted (D.perform o) = Unit {0}
  Rooted (D.goto s) = Unit {0}
  Rooted (D.call s) = Unit {0}
  Rooted D.return = Unit {0}
  Rooted (D.when c x) = Own c
  Rooted (D.choose c n x) = Own c
  Rooted (D.arm x) = Unit {0}
  Rooted D.Action.broken = Unit {0}

  abbrev pub Ready : Doing X → Type 0
  Ready c = Inv c.store × AllStates d c.gotos × AllStates d c.calls

  named_in : (s : ℕ) → 0 < length (state_at d s).name → s < length d.states
  unfolding state_at
  named_in s h = go (ltb s (length d.states)) refl
    where
      go : (b : Bool) → ltb s (length d.states) ≡ b → s < length d.states
      go true e = ltb-true s (length d.states) e
      go false e =
          let z : length d.states ≤ s = ltb-false s (length d.states) e in
          absurd (omega (arith, rw (get_or-eq_default d.states _ z) at h))

  module _ (in_state : Bool) (works : ℕ → Judged) (perform : ℕ → Doing X → Ran X)
      (performs : (o : ℕ) (w : Worth) (c : Doing X) → works o ≡ fine w → Ready c → Good (perform o c)) where
    set-good : (l : ℕ) (at : Position) (c : Doing X) {w : Worth} → Own l → Ready c → simple_judged d p in_state works at (D.set l) ≡ fine w → Good (on_place (side S d c.store l) (λ q. setting S d q c))
    unfolding simple_judged may_store
    set-good l at c o h e =
        let y = given-fine (left_at d p terminals all l) _ e in
        let z = clean-fine _ _ y.own in
        let b = both_true (is_plain (kind_at d l)) (eqb y.v.length 1) (unless-none (both (is_plain (kind_at d l)) (eqb y.v.length 1)) at BadStore z.none) in
        let one : y.v.length ≡ 1 = eqb-true _ _ b.1 in
        on-place (λ q. setting S d q c) (left-names c.store l o y.part) (λ q t n k.
        let m : q.count ≡ 1 = n ∙ one in
        let pl : is_plain (facility_at d q.facility).kind ≡ true = ap is_plain (sym k) ∙ b.0 in
        rw (pl, eq-eqb q.count 1 m)
        (good (keeps.puts c.store (write S d q 1) h.0 (record { there = t; fits = rw m (omega arith); allowed = plain-stores (facility_at d q.facility).kind pl })) h.1 h.2))
      where
        plain-stores : (f : Kind) → is_plain f ≡ true → takes_immediate f ≡ true
        plain-stores T.register e = absurd (let z : ◌≡◌ {A = ℕ} 0 1 = cc in omega arith)
        plain-stores T.sequencing e = absurd (let z : ◌≡◌ {A = ℕ} 0 1 = cc in omega arith)
        plain-stores T.memory e = refl
        plain-stores T.plain e = refl
        plain-stores T.input e = absurd (let z : ◌≡◌ {A = ℕ} 0 1 = cc in omega arith)
        plain-stores T.computed e = absurd (let z : ◌≡◌ {A = ℕ} 0 1 = cc in omega arith)

        both_true : (a b : Bool) → both a b ≡ true → (a ≡ true) × (b ≡ true)
        both_true true b h = (refl, h)
        both_true false b h = absurd (let z : ◌≡◌ {A = ℕ} 0 1 = cc in omega arith)

    one-good : (k l r : ℕ) (at : Position) (c : Doing X) {w : Worth} → Own l → Own r → Ready c → simple_judged d p in_state works at (D.store k l r) ≡ fine w → Good (store_to S d k l r c)
    unfolding simple_judged
    one-good k l r at c ol or h e =
        let y = both-fine (left_at d p terminals all l) (expression_at d p terminals all r) _ (only-in (J.not_in_state d p in_state works) at _ in_state works e) in
        let z = stored-fine in_state works (may_store k (kind_at d l)) at y.u y.v y.own in
        on-place _ (left-names c.store l ol y.left) (λ q t n kd.
        on_value_lem _ (right-gives c.store r or y.right) (λ v lv fv.
        let lc : v.length ≡ q.count = lv ∙ sym z.same ∙ sym n in
        let al : may_store k (facility_at d q.facility).kind ≡ true = ap (may_store k) (sym kd) ∙ z.may in
        store-good k q.count _ _ v (write S d q v.number) [] c h.0 h.1 h.2 lc al
        (record { there = t; fits = rw (← lc, lv) fv; allowed = al }, tt)))

    pair-good : (k l m r : ℕ) (at : Position) (c : Doing X) {w : Worth} → Own l → Own m → Own r → Ready c → simple_judged d p in_state works at (D.store_pair k l m r) ≡ fine w → Good (store_to_pair S d k l m r c)
    unfolding simple_judged
    pair-good k l m r at c ol om or h e =
        let y = both-fine (J.sides d p in_state works l m) (expression_at d p terminals all r) _ (only-in (J.not_in_state d p in_state works) at _ in_state works e) in
        let s = both-fine (left_at d p terminals all l) (left_at d p terminals all m) (λ v u. worth (v.length + u.length) 0 (v.work + u.work)) y.left in
        let ls : s.u.length + s.v.length ≡ y.u.length = ap (λ (j : Judged). length_of j) s.own in
        let z = stored-fine in_state works (both (may_store k (kind_at d l)) (may_store k (kind_at d m))) at y.u y.v y.own in
        let may = both_true (may_store k (kind_at d l)) (may_store k (kind_at d m)) z.may in
        on-place _ (left-names c.store l ol s.left) (λ q t n kd.
        on-place _ (left-names c.store m om s.right) (λ q' t' n' kd'.
        on_value_lem _ (right-gives c.store r or y.right) (λ v lv fv.
        let lc : v.length ≡ q.count + q'.count = lv ∙ sym z.same ∙ sym ls ∙ sums (sym n) (sym n') in
        let al : may_store k (facility_at d q.facility).kind ≡ true = ap (may_store k) (sym kd) ∙ may.0 in
        let al' : may_store k (facility_at d q'.facility).kind ≡ true = ap (may_store k) (sym kd') ∙ may.1 in
        let fits = low_fits v.number q.count q'.count (rw (← lc, lv) fv) in
        store-good k (q.count + q'.count) _ _ v (write S d q (v.number / 2 ^ q'.count)) (write S d q' (v.number % 2 ^ q'.count) ∷ []) c h.0 h.1 h.2 lc (rw al al')
        (record { there = t; fits = fits.0; allowed = al }, (record { there = t'; fits = fits.1; allowed = al' }, tt)))))
      where
        length_of : Judged → ℕ
        length_of (fine v) = v.length
        length_of (faulty f fs) = 0

        sums : {a b c' d' : ℕ} → a ≡ b → c' ≡ d' → a + c' ≡ b + d'
        sums e f = cc

        both_true : (a b : Bool) → both a b ≡ true → (a ≡ true) × (b ≡ true)
        both_true true b h = (refl, h)
        both_true false b h = absurd (let z : ◌≡◌ {A = ℕ} 0 1 = cc in omega arith)

    to-state-in : (s : ℕ) (at : Position) {w : Worth} → J.to_state d p in_state works at s ≡ fine w → s < length d.states
    to-state-in s at {w} e = go (ltb 0 (length (state_at d s).name)) refl e
      where
        go : (b : Bool) → ltb 0 (length (state_at d s).name) ≡ b → cond b (worth 1 0 own_work) (refuse at BadName) ≡ fine w → s < length d.states
        go true q k = named_in s (ltb-true _ _ q)
        go false q k = faulty-fine k

    pub simple-good : (a : Action) (at : Position) (c : Doing X) {w : Worth} → Rooted a → Ready c → simple_judged d p in_state works at a ≡ fine w → Good (simple S d perform a c)
    unfolding simple_judged simple
    simple-good (D.store k l r) at c o h e = one-good k l r at c o.0 o.1 h e
    simple-good (D.store_pair k l m r) at c o h e = pair-good k l m r at c o.0 o.1 o.2 h e
    simple-good (D.set l) at c o h e = set-good l at c o h e
    simple-good (D.perform m) at c o h e = let y = given-fine (works m) _ e in performs m y.v c y.part h
    simple-good (D.goto s) at c o h e =
        let l = to-state-in s at (only-in in_state at _ in_state works e) in
        rw (lt-ltb s (length d.states) l) (good h.0 (states-more d c.gotos s h.1 l) h.2)
    simple-good (D.call s) at c o h e =
        let l = to-state-in s at (only-in in_state at _ in_state works e) in
        rw (lt-ltb s (length d.states) l) (good h.0 h.1 (states-more d c.calls s h.2 l))
    simple-good D.return at c o h e = good h.0 h.1 h.2
    simple-good (D.when b x) at c o h e = faulty-fine e
    simple-good (D.choose b n x) at c o h e = faulty-fine e
    simple-good (D.arm x) at c o h e = faulty-fine e
    simple-good D.Action.broken at c o h e = faulty-fine e
