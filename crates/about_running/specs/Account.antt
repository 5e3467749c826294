-- What a cycle comes to, told from 01's sentences ("One cycle"): what an expression is worth, what ends a cycle while it is worked out, and which actions are executed, in order. It is told over any store and any description, a constructor for each way that it can go, and leaves out what no passing image comes to. That `Meaning` and `Acting` come to the same is proved in ValuesAccounted and ActionsAccounted.
use Rattle.std.specs.Prelude.{Bool, true, false, cond, ◌||◌, List, [], ◌∷◌, ◌++◌, ◌≡◌, ℕ, suc, ◌+◌, ◌-◌, ◌/◌, ◌%◌, ◌^◌, ◌≤◌, ◌<◌, eqb, get_or}
use Rattle.std.proofs.Math.Option.{some}
use Rattle.language.specs.Acting.{arm_at}
use Rattle.language.specs.Description as D
use Rattle.language.specs.Description.{Action, Bounds, Description, Facility, Node, Run, action_at, facility_at, from_first, in_bounds, is_computed, is_sequencing, node_at, operation_at, span_of, word_length}
use Rattle.language.specs.Kinds.{delayed_sign}
use Rattle.language.specs.Meaning.{Place, Stores, Write, arm_back, place}
use Rattle.language.specs.Operators.{binary_of, cut_of, prefix_of}
use Rattle.language.specs.References as R
use Rattle.language.specs.References.{Reference, Subscripts, part, reference_of, two, whole, word_part}
use Rattle.language.specs.declared.stops.Stop.{Stop}
use Rattle.language.specs.declared.stops.Stop.TheVariants.{OutsideBounds}
use Rattle.language.specs.Value.{Value, made, value}

-- ---- References.

-- A computed subscript: its expression's record, and the bounds that it must lie in.
pub record Subscript : Type 0 where
  pub expression : ℕ
  pub bounds : Bounds

abbrev pub within : ℕ → Bounds → Subscript
within e b = record { expression = e; bounds = b }

-- The computed subscripts of a reference, in text order. X[e] is a bit of one dimension and a word of two.
unfoldable pub computed_subscripts : Facility → Subscripts → List Subscript
computed_subscripts f whole = []
computed_subscripts f (R.one e) = within e (cond (eqb f.dimensions 1) f.bits f.words) ∷ []
computed_subscripts f (part b) = []
computed_subscripts f (two e g) = within e f.words ∷ within g f.bits ∷ []
computed_subscripts f (word_part e b) = within e f.words ∷ []

-- The place that a reference names, where its computed subscripts lie this far from their first bounds.
unfoldable pub place_at : ℕ → Facility → Subscripts → List ℕ → Place
place_at n f whole ks = place n 0 0 (word_length f)
place_at n f (R.one e) ks = cond (eqb f.dimensions 1) (place n 0 (get_or ks 0 0) 1) (place n (get_or ks 0 0) 0 (word_length f))
place_at n f (part b) ks = place n 0 (from_first f.bits b.first) (span_of b)
place_at n f (two e g) ks = place n (get_or ks 0 0) (get_or ks 1 0) 1
place_at n f (word_part e b) ks = place n (get_or ks 0 0) (from_first f.bits b.first) (span_of b)

-- The bits of a value that stand where a place lies in its word.
abbrev pub bits_at : Place → Value → Value
bits_at p v = value p.count (v.number / 2 ^ (v.length - (p.from + p.count)) % 2 ^ p.count)

-- ---- Arms: of n, a value from 1 to n - 1 takes the arm of that number, and 0 takes arm n.

pub data Takes (n : ℕ) : ℕ → ℕ → Type 0 where
  by_number : {v : ℕ} → 1 ≤ v → v < n → Takes n v v
  last-for-zero : Takes n 0 n

-- ---- What ends a cycle while its actions are executed.

pub data Met : Type 0 where
  -- S1: a computed subscript, and its value, which lies outside the bounds
  outside : Subscript → Value → Met

abbrev pub stop_for : Met → Stop
stop_for (outside s v) = OutsideBounds

-- ---- Expressions.

-- What there is to work out: an expression; what a reference stands for; the place that it names; its computed subscripts, from one on; the sides of a store, the left ones by their records and then the right one.
pub data Task : Type 0 where
  expression : Node → Task
  reading : Reference → Task
  naming : Reference → Task
  subscripts : List Subscript → Task
  sides : List ℕ → ℕ → Task

-- What it comes to: a value; a place; how far each subscript lies from its first bound; the places and the value of a store; or what ends the cycle.
pub data Result : Type 0 where
  worth : Value → Result
  names : Place → Result
  lie : List ℕ → Result
  fixes : List Place → Value → Result
  meets : Met → Result

-- What record n says is to be worked out; a reference; and the facility that it is to.
abbrev pub record_at : Description → ℕ → Task
record_at d n = expression (node_at d n)

abbrev pub to : ℕ → Subscripts → Reference
to f s = record { facility = f; subscripts = s }

abbrev pub referred : Description → Reference → Facility
referred d r = facility_at d r.facility

module _ {X : Type 0} (S : Stores X) (d : Description) (x : X) where
  -- On the store x, working this out comes to that.
  pub data Comes : Task → Result → Type 0 where
    -- A constant is worth itself.
    constant : {v : Value} → Comes (expression (D.constant v)) (worth v)
    -- The five forms of a reference.
    reads_whole : {f : ℕ} {r : Result} → Comes (reading (to f whole)) r → Comes (expression (D.whole f)) r
    reads-one : {f e : ℕ} {r : Result} → Comes (reading (to f (R.one e))) r → Comes (expression (D.one f e)) r
    reads-part : {f : ℕ} {b : Bounds} {r : Result} → Comes (reading (to f (part b))) r → Comes (expression (D.part f b)) r
    reads_two : {f e g : ℕ} {r : Result} → Comes (reading (to f (two e g))) r → Comes (expression (D.two f e g)) r
    reads-word-part : {f e : ℕ} {b : Bounds} {r : Result} → Comes (reading (to f (word_part e b))) r → Comes (expression (D.word_part f e b)) r
    -- An operator: the left operand, then the right one.
    binary : {k a b : ℕ} {v w u : Value} → Comes (record_at d a) (worth v) → Comes (record_at d b) (worth w) → binary_of k v w ≡ made u → Comes (expression (D.binary k a b)) (worth u)
    left_meets : {k a b : ℕ} {o : Met} → Comes (record_at d a) (meets o) → Comes (expression (D.binary k a b)) (meets o)
    right-meets : {k a b : ℕ} {v : Value} {o : Met} → Comes (record_at d a) (worth v) → Comes (record_at d b) (meets o) → Comes (expression (D.binary k a b)) (meets o)
    prefix : {k a : ℕ} {v u : Value} → Comes (record_at d a) (worth v) → prefix_of k v ≡ made u → Comes (expression (D.prefix k a)) (worth u)
    prefix-meets : {k a : ℕ} {o : Met} → Comes (record_at d a) (meets o) → Comes (expression (D.prefix k a)) (meets o)
    -- HEAD, TAIL and EXT with their count.
    cut : {k a c : ℕ} {v u : Value} → Comes (record_at d a) (worth v) → cut_of k v c ≡ made u → Comes (expression (D.cut k a c)) (worth u)
    cut-meets : {k a c : ℕ} {o : Met} → Comes (record_at d a) (meets o) → Comes (expression (D.cut k a c)) (meets o)
    -- A conditional: its condition, and then the chosen arm alone, whatever that comes to.
    chosen : {e a n m g : ℕ} {v : Value} {r : Result} → Comes (record_at d e) (worth v) → Takes n v.number m → arm_back d (n - m) a ≡ some g
        → Comes (record_at d g) r → Comes (expression (D.choice e a n)) r
    condition-meets : {e a n : ℕ} {o : Met} → Comes (record_at d e) (meets o) → Comes (expression (D.choice e a n)) (meets o)
    -- What a reference stands for: its place is found; what is stored is loaded; a computed terminal's expression is worked out now.
    loaded : {r : Reference} {p : Place} → is_computed (referred d r).kind ≡ false → Comes (naming r) (names p) → Comes (reading r) (worth (value p.count (S.load x p)))
    worked : {r : Reference} {p : Place} {v : Value} → is_computed (referred d r).kind ≡ true → Comes (naming r) (names p)
        → Comes (record_at d (referred d r).expression) (worth v) → Comes (reading r) (worth (bits_at p v))
    worked-meets : {r : Reference} {p : Place} {o : Met} → is_computed (referred d r).kind ≡ true → Comes (naming r) (names p)
        → Comes (record_at d (referred d r).expression) (meets o) → Comes (reading r) (meets o)
    place-meets : {r : Reference} {o : Met} → Comes (naming r) (meets o) → Comes (reading r) (meets o)
    -- The place: the computed subscripts in text order.
    named : {r : Reference} {ks : List ℕ} → Comes (subscripts (computed_subscripts (referred d r) r.subscripts)) (lie ks)
        → Comes (naming r) (names (place_at r.facility (referred d r) r.subscripts ks))
    subscripts-meet : {r : Reference} {o : Met} → Comes (subscripts (computed_subscripts (referred d r) r.subscripts)) (meets o) → Comes (naming r) (meets o)
    all_lie : Comes (subscripts []) (lie [])
    lies : {s : Subscript} {ss : List Subscript} {v : Value} {ks : List ℕ} → Comes (record_at d s.expression) (worth v) → in_bounds s.bounds v.number ≡ true
        → Comes (subscripts ss) (lie ks) → Comes (subscripts (s ∷ ss)) (lie (from_first s.bounds v.number ∷ ks))
    -- The subscript's own expression; the subscript itself; one of those after it.
    within-meets : {s : Subscript} {ss : List Subscript} {o : Met} → Comes (record_at d s.expression) (meets o) → Comes (subscripts (s ∷ ss)) (meets o)
    lies-outside : {s : Subscript} {ss : List Subscript} {v : Value} → Comes (record_at d s.expression) (worth v) → in_bounds s.bounds v.number ≡ false
        → Comes (subscripts (s ∷ ss)) (meets (outside s v))
    later-meets : {s : Subscript} {ss : List Subscript} {v : Value} {o : Met} → Comes (record_at d s.expression) (worth v) → in_bounds s.bounds v.number ≡ true
        → Comes (subscripts ss) (meets o) → Comes (subscripts (s ∷ ss)) (meets o)
    -- A store: the left sides in text order, then the right side.
    right_side : {e : ℕ} {v : Value} → Comes (record_at d e) (worth v) → Comes (sides [] e) (fixes [] v)
    right-side-meets : {e : ℕ} {o : Met} → Comes (record_at d e) (meets o) → Comes (sides [] e) (meets o)
    left-side : {n e : ℕ} {ls : List ℕ} {r : Reference} {p : Place} {ps : List Place} {v : Value} → reference_of (node_at d n) ≡ some r → Comes (naming r) (names p)
        → Comes (sides ls e) (fixes ps v) → Comes (sides (n ∷ ls) e) (fixes (p ∷ ps) v)
    left-side-meets : {n e : ℕ} {ls : List ℕ} {r : Reference} {o : Met} → reference_of (node_at d n) ≡ some r → Comes (naming r) (meets o) → Comes (sides (n ∷ ls) e) (meets o)
    later-side-meets : {n e : ℕ} {ls : List ℕ} {r : Reference} {p : Place} {o : Met} → reference_of (node_at d n) ≡ some r → Comes (naming r) (names p)
        → Comes (sides ls e) (meets o) → Comes (sides (n ∷ ls) e) (meets o)

  -- Record n is worth v; working it out comes first to o.
  abbrev pub Worth : ℕ → Value → Type 0
  Worth n v = Comes (record_at d n) (worth v)

  abbrev pub Meets : ℕ → Met → Type 0
  Meets n o = Comes (record_at d n) (meets o)

-- ---- Actions.

-- What was executed: a store with its places and numbers, by `<-` or by `=`; `@`; -> and => with their states; RETURN.
pub data Executed : Type 0 where
  delayed : List Write → Executed
  immediate : List Write → Executed
  sets : Place → Executed
  goes : ℕ → Executed
  calls : ℕ → Executed
  returns : Executed

abbrev pub number_for : Place → ℕ → Write
number_for p n = record { at = p; number = n }

-- A store by its sign.
abbrev pub stores : ℕ → List Write → Executed
stores k ws = cond (eqb k delayed_sign) (delayed ws) (immediate ws)

-- Any of these writes is to the sequencing register.
unfoldable pub to_register : Description → List Write → Bool
to_register d [] = false
to_register d (w ∷ ws) = is_sequencing (facility_at d w.at.facility).kind || to_register d ws

module _ {X : Type 0} (S : Stores X) where
  unfoldable pub put_each : X → List Write → X
  put_each x [] = x
  put_each x (w ∷ ws) = put_each (S.put x w) ws

  -- `=` and `@` land at once, and `<-` waits.
  abbrev pub lands : X → Executed → X
  lands x (delayed ws) = S.delay x ws
  lands x (immediate ws) = put_each x ws
  lands x (sets p) = S.put x (number_for p 1)
  lands x (goes s) = x
  lands x (calls s) = x
  lands x returns = x

  -- The store that stands when these have been executed.
  unfoldable pub stands : X → List Executed → X
  stands x [] = x
  stands x (e ∷ es) = stands (lands x e) es

-- How many records behind an action belong to it: a conditional's arms.
abbrev pub held_by : Action → ℕ
held_by (D.store k l r) = 0
held_by (D.store_pair k l m r) = 0
held_by (D.set l) = 0
held_by (D.perform o) = 0
held_by (D.goto s) = 0
held_by (D.call s) = 0
held_by D.return = 0
held_by (D.when e x) = x
held_by (D.choose e n x) = x
held_by (D.arm x) = 0
held_by D.Action.broken = 0

-- k records from record i on; or the action that stands at record i.
pub data Work : Type 0 where
  list : ℕ → ℕ → Work
  action : ℕ → Action → Work

-- All of it was executed; or what was met.
pub data End : Type 0 where
  over : End
  met : Met → End

module _ {X : Type 0} (S : Stores X) (d : Description) where
  -- From the store x on, these are executed in order, and so it ends: what is met is met on the store that stands when they have been.
  pub data Executes : X → Work → List Executed → End → Type 0 where
    nothing : {x : X} {i : ℕ} → Executes x (list 0 i) [] over
    one_by_one : {x : X} {k i : ℕ} {es fs : List Executed} {e : End} → Executes x (action i (action_at d i)) es over
        → Executes (stands S x es) (list (k - held_by (action_at d i)) (i + 1 + held_by (action_at d i))) fs e → Executes x (list (suc k) i) (es ++ fs) e
    first-meets : {x : X} {k i : ℕ} {es : List Executed} {o : Met} → Executes x (action i (action_at d i)) es (met o) → Executes x (list (suc k) i) es (met o)
    -- A store fixes place and value when executed; of two places the left one takes the high bits.
    store : {x : X} {i k l r : ℕ} {p : Place} {v : Value} → Comes S d x (sides (l ∷ []) r) (fixes (p ∷ []) v)
        → Executes x (action i (D.store k l r)) (stores k (number_for p v.number ∷ []) ∷ []) over
    store-meets : {x : X} {i k l r : ℕ} {o : Met} → Comes S d x (sides (l ∷ []) r) (meets o) → Executes x (action i (D.store k l r)) [] (met o)
    pair : {x : X} {i k l m r : ℕ} {p q : Place} {v : Value} → Comes S d x (sides (l ∷ m ∷ []) r) (fixes (p ∷ q ∷ []) v)
        → Executes x (action i (D.store_pair k l m r)) (stores k (number_for p (v.number / 2 ^ q.count) ∷ number_for q (v.number % 2 ^ q.count) ∷ []) ∷ []) over
    pair-meets : {x : X} {i k l m r : ℕ} {o : Met} → Comes S d x (sides (l ∷ m ∷ []) r) (meets o) → Executes x (action i (D.store_pair k l m r)) [] (met o)
    set : {x : X} {i l : ℕ} {r : Reference} {p : Place} → reference_of (node_at d l) ≡ some r → Comes S d x (naming r) (names p) → Executes x (action i (D.set l)) (sets p ∷ []) over
    set-meets : {x : X} {i l : ℕ} {r : Reference} {o : Met} → reference_of (node_at d l) ≡ some r → Comes S d x (naming r) (meets o) → Executes x (action i (D.set l)) [] (met o)
    goto : {x : X} {i s : ℕ} → Executes x (action i (D.goto s)) (goes s ∷ []) over
    call : {x : X} {i s : ℕ} → Executes x (action i (D.call s)) (calls s ∷ []) over
    return : {x : X} {i : ℕ} → Executes x (action i D.return) (returns ∷ []) over
    -- An operation is what its body executes.
    performs : {x : X} {i o : ℕ} {es : List Executed} {e : End} → Executes x (list (operation_at d o).body.count (operation_at d o).body.first) es e → Executes x (action i (D.perform o)) es e
    -- IF without ELSE: one takes the arm, zero nothing.
    taken : {x : X} {i e m : ℕ} {v : Value} {r : Run} {es : List Executed} {f : End} → Worth S d x e v → 1 ≤ v.number → arm_at d 0 (i + 1) m ≡ some r
        → Executes x (list r.count r.first) es f → Executes x (action i (D.when e m)) es f
    not_taken : {x : X} {i e m : ℕ} {v : Value} → Worth S d x e v → v.number ≡ 0 → Executes x (action i (D.when e m)) [] over
    when-meets : {x : X} {i e m : ℕ} {o : Met} → Meets S d x e o → Executes x (action i (D.when e m)) [] (met o)
    -- A conditional with more arms: the chosen arm alone.
    chosen-arm : {x : X} {i e n m k : ℕ} {v : Value} {r : Run} {es : List Executed} {f : End} → Worth S d x e v → Takes n v.number k → arm_at d (k - 1) (i + 1) m ≡ some r
        → Executes x (list r.count r.first) es f → Executes x (action i (D.choose e n m)) es f
    choose-meets : {x : X} {i e n m : ℕ} {o : Met} → Meets S d x e o → Executes x (action i (D.choose e n m)) [] (met o)
