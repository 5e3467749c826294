-- What an expression is worth (01, "One cycle"; the manual, 5), over any store that can load a part of a word. It knows nothing of the rules: each way in which a bad image could leave it without a meaning has its own stuck case.
use Rattle.std.specs.Prelude.{Bool, true, cond, List, ℕ, zero, suc, ◌+◌, ◌-◌, ◌/◌, ◌%◌, ◌^◌, eqb, leb, ltb, length}
use Rattle.std.proofs.Math.Option.{Option, none, some}
use Rattle.language.specs.Description as D
use Rattle.language.specs.Description.{Bounds, Description, Facility, Node, facility_at, from_first, in_bounds, is_computed, node_at, span_of, word_length}
use Rattle.language.specs.Operators.{binary_of, cut_of, is_binary, is_cut, is_prefix, prefix_of}
use Rattle.language.specs.Recursion.{below}
use Rattle.language.specs.References as R
use Rattle.language.specs.References.{Reference, Subscripts, part, right_count, same_direction, two, whole, word_part}
use Rattle.language.specs.declared.stops.Stop.{Stop}
use Rattle.language.specs.declared.stops.Stop.TheVariants.{OutsideBounds}
use Rattle.language.specs.Value as Value
use Rattle.language.specs.Value.{Made, Value, made, value}
use Rattle.language.specs.Ceilings.{longest}
use Rattle.language.specs.Tests.{both}

-- A part of a word: facility, word, first bit from the left, number of bits.
pub record Place : Type 0 where
  pub facility : ℕ
  pub word : ℕ
  pub from : ℕ
  pub count : ℕ

abbrev pub place : ℕ → ℕ → ℕ → ℕ → Place
place f w a n = record { facility = f; word = w; from = a; count = n }

-- A number for a place.
pub record Write : Type 0 where
  pub at : Place
  pub number : ℕ

-- A store: load a part, put a number there at once, and take the writes of one delayed store.
pub record Stores (X : Type 0) : Type 0 where
  pub load : X → Place → ℕ
  pub put : X → Write → X
  pub delay : X → List Write → X

-- The ways to be stuck. No passing image reaches one.
pub data Stuck : Type 0 where
  -- a part whose record is not before its owner's; a record of the wrong kind
  not_before wrong_record : Stuck
  -- a value that takes none of the arms; a chosen arm that is not where it should be
  no_arm missing_arm : Stuck
  -- a facility, an operation, a state or an operator that is not there
  no_facility no_operation no_state no_operator : Stuck
  -- subscripts that do not fit the dimensions; a part that leaves its word
  wrong_subscripts outside : Stuck
  -- a value of 0 or more than 256 bits; a constant whose number does not fit its length; HEAD, TAIL or EXT of too little or too much
  wrong_length too_large wrong_count : Stuck
  -- a computed terminal of another length than its expression; a condition of more than one bit; sides of a store of different lengths, or a state's value and its register
  length_differs not_one_bit sides_differ : Stuck
  -- a store to what may not be stored to
  not_storable : Stuck
  -- actions that run past what holds them; a state without the value that the sequencing register takes
  runs_over no_state_value : Stuck

-- What an expression gives: a value, a stop, or nothing.
pub data Answer : Type 0 where
  is : Value → Answer
  stops : Stop → Answer
  stuck : Stuck → Answer

abbrev pub after : Answer → (Value → Answer) → Answer
after (is v) on = on v
after (stops n) on = stops n
after (stuck s) on = stuck s

abbrev pub worth_or : Stuck → Made → Answer
worth_or s (made v) = is v
worth_or s Value.none = stuck s

-- Why an operator makes nothing: it is none, or this.
abbrev pub missed : Bool → Stuck → Stuck
missed known s = cond known s no_operator

-- Whether a number fits its length.
unfoldable pub fitting : Value → Bool
fitting v = ltb v.number (2 ^ v.length)

abbrev pub constant_worth : Value → Answer
constant_worth v = cond (fitting v) (is v) (stuck too_large)

-- A part found, or why it is not.
pub data Located : Type 0 where
  at : Place → Located
  stops : Stop → Located
  stuck : Stuck → Located

-- S1: a computed subscript outside its bounds. `on` goes on with how far it is from the first bound.
abbrev pub subscript : Answer → Bounds → (ℕ → Located) → Located
subscript (is v) b on = cond (in_bounds b v.number) (on (from_first b v.number)) (Located.stops OutsideBounds)
subscript (stops n) b on = Located.stops n
subscript (stuck s) b on = Located.stuck s

-- A constant part lies in its word, in the declared direction.
abbrev pub constant_part : Bounds → Bounds → (ℕ → ℕ → Located) → Located
constant_part b x on =
    cond (both (in_bounds b x.first) (both (in_bounds b x.last) (same_direction b x)))
    (on (from_first b x.first) (span_of x))
    (Located.stuck outside)

-- At most 256 bits are taken.
abbrev pub up_to_longest : Place → Located
up_to_longest p = cond (leb p.count longest) (Located.at p) (Located.stuck wrong_length)

-- The place that subscripts name; `ev` gives their values.
unfoldable pub located : (ℕ → Answer) → ℕ → Facility → Subscripts → Located
located ev n f whole = up_to_longest (place n 0 0 (word_length f))
located ev n f (R.one e) =
    cond (eqb f.dimensions 1)
    (subscript (ev e) f.bits (λ b. up_to_longest (place n 0 b 1)))
    (subscript (ev e) f.words (λ w. up_to_longest (place n w 0 (word_length f))))
located ev n f (part x) = constant_part f.bits x (λ b c. up_to_longest (place n 0 b c))
located ev n f (two e g) = subscript (ev e) f.words (λ w. subscript (ev g) f.bits (λ b. up_to_longest (place n w b 1)))
located ev n f (word_part e x) = subscript (ev e) f.words (λ w. constant_part f.bits x (λ b c. up_to_longest (place n w b c)))

-- IF with ELSE is the conditional of two arms, and its condition has one bit.
unfoldable pub decides : ℕ → Value → Bool
decides n v = cond (eqb n 2) (eqb v.length 1) true

-- Arm k of n: a value v from 1 to n - 1 takes arm v, 0 takes arm n; any other has no arm.
unfoldable pub arm_number : ℕ → ℕ → Option ℕ
arm_number n v = cond (eqb v 0) (some n) (cond (ltb v n) (some v) none)

module _ (d : Description) where
  unfoldable pub place_of : (ℕ → Answer) → Reference → Located
  place_of ev r =
      let f = facility_at d r.facility in
      cond (ltb r.facility (length d.facilities))
      (cond (right_count f.dimensions r.subscripts) (located ev r.facility f r.subscripts) (Located.stuck wrong_subscripts))
      (Located.stuck no_facility)

  -- An arm's own expression, or that of one before it.
  abbrev pub arm_here : ℕ → (ℕ → Option ℕ) → Node → Option ℕ
  arm_here zero before (D.first_arm e) = some e
  arm_here (suc k) before (D.first_arm e) = none
  arm_here zero before (D.next_arm a e) = some e
  arm_here (suc k) before (D.next_arm a e) = before a
  arm_here k before (D.constant v) = none
  arm_here k before (D.more n) = none
  arm_here k before (D.whole f) = none
  arm_here k before (D.one f e) = none
  arm_here k before (D.part f b) = none
  arm_here k before (D.two f e g) = none
  arm_here k before (D.word_part f e b) = none
  arm_here k before (D.binary o a b) = none
  arm_here k before (D.prefix o a) = none
  arm_here k before (D.cut o a c) = none
  arm_here k before (D.choice e a n) = none
  arm_here k before D.Node.broken = none

  -- The expression of the arm that is so many arms before the one at record a.
  unfoldable pub arm_back : ℕ → ℕ → Option ℕ
  arm_back zero a = arm_here 0 (λ b. none) (node_at d a)
  arm_back (suc k) a = arm_here 1 (arm_back k) (node_at d a)

module _ {X : Type 0} (S : Stores X) (d : Description) (x : X) where
  -- The part of a computed terminal's value, which is as long as the terminal.
  abbrev pub part_of_value : Facility → Place → Value → Answer
  part_of_value f p v =
      cond (eqb v.length (word_length f))
      (is (value p.count (v.number / 2 ^ (v.length - (p.from + p.count)) % 2 ^ p.count)))
      (stuck length_differs)

  -- Computed terminals are worked out when read; the others are loaded.
  abbrev pub read_at : (ℕ → Answer) → Facility → Place → Answer
  read_at ev f p =
      let worked = after (ev f.expression) (part_of_value f p) in
      cond (is_computed f.kind) worked (is (value p.count (S.load x p)))

  abbrev pub read : (ℕ → Answer) → Facility → Located → Answer
  read ev f (Located.at p) = read_at ev f p
  read ev f (Located.stops n) = stops n
  read ev f (Located.stuck s) = stuck s

  abbrev pub operand : (ℕ → Answer) → ℕ → Subscripts → Answer
  operand ev f s = read ev (facility_at d f) (place_of d ev (record { facility = f; subscripts = s }))

  -- Only the chosen arm is worked out.
  abbrev pub arm_worth : (ℕ → Answer) → Option ℕ → Answer
  arm_worth ev none = stuck missing_arm
  arm_worth ev (some e) = ev e

  abbrev pub chosen : (ℕ → Answer) → ℕ → ℕ → Option ℕ → Answer
  chosen ev a n none = stuck no_arm
  chosen ev a n (some k) = arm_worth ev (arm_back d (n - k) a)

  abbrev pub choice_worth : (ℕ → Answer) → ℕ → ℕ → Value → Answer
  choice_worth ev a n v = cond (decides n v) (chosen ev a n (arm_number n v.number)) (stuck not_one_bit)

  unfoldable pub eval_node : (ℕ → Answer) → Node → Answer
  eval_node ev (D.constant v) = constant_worth v
  eval_node ev (D.more n) = stuck wrong_record
  eval_node ev (D.whole f) = operand ev f whole
  eval_node ev (D.one f e) = operand ev f (R.one e)
  eval_node ev (D.part f b) = operand ev f (part b)
  eval_node ev (D.two f e g) = operand ev f (two e g)
  eval_node ev (D.word_part f e b) = operand ev f (word_part e b)
  eval_node ev (D.binary k a b) = after (ev a) (λ v. after (ev b) (λ w. worth_or (missed (is_binary k) wrong_length) (binary_of k v w)))
  eval_node ev (D.prefix k a) = after (ev a) (λ v. worth_or (missed (is_prefix k) wrong_length) (prefix_of k v))
  eval_node ev (D.cut k a c) = after (ev a) (λ v. worth_or (missed (is_cut k) wrong_count) (cut_of k v c))
  eval_node ev (D.first_arm e) = stuck wrong_record
  eval_node ev (D.next_arm a e) = stuck wrong_record
  eval_node ev (D.choice e a n) = after (ev e) (choice_worth ev a n)
  eval_node ev D.Node.broken = stuck wrong_record

  abbrev pub eval_step : (ℕ → Answer) → ℕ → Answer
  eval_step ev n = eval_node ev (node_at d n)

  unfoldable pub eval_below : ℕ → ℕ → Answer
  eval_below = below (stuck not_before) eval_step

  unfoldable pub eval_at : ℕ → Answer
  eval_at n = eval_step (eval_below n) n
