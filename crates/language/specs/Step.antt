-- One cycle (01, "One cycle") on the words of the store. The stops are tested in 01's order: S7; S1 when met; then S2, S4, S3, S6, S5.
use Rattle.std.specs.Prelude.{Bool, true, false, cond, ◌||◌, List, [], ℕ, zero, suc, ◌+◌, ◌-◌, eqb, leb, ltb, get_or, length, replicate, set}
use Rattle.std.proofs.Math.Option.{Option, none, some}
use Rattle.language.specs.Ceilings.{last_cycle, most_returns}
use Rattle.language.specs.Acting.{Doing, Ran, run_actions, went}
use Rattle.language.specs.Description.{Description, constant_in, number_of_constant, facility_at, node_at, sequencing_of, state_at, word_length}
use Rattle.language.specs.Meaning.{Stuck, fitting, no_state, no_state_value, sides_differ, too_large, wrong_record}
use Rattle.language.specs.declared.stops.Stop.{Stop}
use Rattle.language.specs.declared.stops.Stop.TheVariants.{LastCycleReached, NoNextState, NothingToReturn, TooManyCalls, TwoNextStates, ValueUnborne}
use Rattle.language.specs.Store.{Held, StoreWords, begin, conflicts, held, land_all, numbers, set_word, word_of}
use Rattle.language.specs.Value.{Value, bit}
use Rattle.language.specs.Tests.{both}

-- ---- The run record: state, cycle number, and the return states held, up to 16, unused ones zero.

pub record Record : Type 0 where
  pub state : ℕ
  pub cycle : ℕ
  pub held : ℕ
  pub returns : List ℕ

-- A state entered: the words then, or nothing.
pub data Entered : Type 0 where
  into : StoreWords → Entered
  stuck : Stuck → Entered

-- What a cycle gives: the words and the record after it with the conflict count; a stop; or nothing.
pub data Outcome : Type 0 where
  completed : StoreWords → Record → ℕ → Outcome
  stopped : Stop → Outcome
  stuck : Stuck → Outcome

module _ (d : Description) where
  -- ---- State values.

  abbrev pub number_of : Option ℕ → Option ℕ
  number_of none = none
  number_of (some n) = number_of_constant (node_at d n)

  -- The number that a state bears: that of its value, which is a constant.
  unfoldable pub state_number : ℕ → Option ℕ
  state_number s = number_of (state_at d s).value

  abbrev pub bears : Option ℕ → ℕ → Bool
  bears none x = false
  bears (some y) x = eqb x y

  -- The first of k states from n on that bears x.
  unfoldable pub bearer : ℕ → ℕ → ℕ → Option ℕ
  bearer zero n x = none
  bearer (suc k) n x =
      let later = bearer k (suc n) x in
      cond (bears (state_number n) x) (some n) later

  abbrev pub state_count : ℕ
  state_count = length d.states

  -- The sequencing register's value in a store.
  abbrev pub register_value : Option ℕ → StoreWords → ℕ
  register_value none s = 0
  register_value (some f) s = word_of s f 0

  -- The state whose value the sequencing register has.
  abbrev pub sequenced_state : StoreWords → Option ℕ
  sequenced_state s = bearer state_count 0 (register_value (sequencing_of d) s)

  -- The sequencing register f takes a value of its own length.
  abbrev pub taking : ℕ → StoreWords → Option Value → Entered
  taking f s none = stuck wrong_record
  taking f s (some v) =
      cond (eqb v.length (word_length (facility_at d f)))
      (cond (fitting v) (into (set_word s f 0 v.number)) (stuck too_large))
      (stuck sides_differ)

  -- The sequencing register, if there is one, takes the value of the state entered.
  abbrev pub set_register : Option ℕ → Option ℕ → StoreWords → Entered
  set_register none v s = into s
  set_register (some f) none s = stuck no_state_value
  set_register (some f) (some n) s = taking f s (constant_in (node_at d n))

  -- ---- The next state.

  module _ (r : Record) (c : Doing Held) where
    -- ->, RETURN, and delayed stores to the sequencing register, which together count once.
    abbrev pub plain_count : ℕ
    plain_count = length c.gotos + c.returns + bit c.sequenced

    abbrev pub landed : StoreWords
    landed = land_all d c.store.words c.store.waits

    abbrev pub returns_left : ℕ
    returns_left = cond (ltb 0 c.returns) (r.held - 1) r.held

    -- The returns after any RETURN has taken its own off.
    abbrev pub popped : List ℕ
    popped = cond (ltb 0 c.returns) (set r.returns (r.held - 1) 0) r.returns

    abbrev pub or_zero : Option ℕ → ℕ
    or_zero none = 0
    or_zero (some n) = n

    unfoldable pub plain_next : ℕ
    plain_next =
        cond (ltb 0 (length c.gotos)) (get_or c.gotos 0 0)
        (cond (ltb 0 c.returns) (get_or r.returns (r.held - 1) 0)
        (cond c.sequenced (or_zero (sequenced_state landed)) (r.state + 1)))

    abbrev pub is_none : Option ℕ → Bool
    is_none none = true
    is_none (some n) = false

    -- The first stop after the actions, if any.
    unfoldable pub stop_after : Option Stop
    stop_after =
        cond (leb 2 plain_count || leb 2 (length c.calls)) (some TwoNextStates)
        (cond (both (ltb 0 c.returns) (eqb r.held 0)) (some NothingToReturn)
        (cond (both c.sequenced (is_none (sequenced_state landed))) (some ValueUnborne)
        (cond (both (eqb plain_count 0) (leb state_count (r.state + 1))) (some NoNextState)
        (cond (both (ltb 0 (length c.calls)) (leb most_returns returns_left)) (some TooManyCalls) none))))

    -- => T puts the plain next state on the returns and goes to T.
    unfoldable pub next_record : Record
    next_record =
        cond (ltb 0 (length c.calls))
        (record { state = get_or c.calls 0 0; cycle = suc r.cycle; held = suc returns_left; returns = set popped returns_left plain_next })
        (record { state = plain_next; cycle = suc r.cycle; held = returns_left; returns = popped })

    abbrev pub entered : Entered → Outcome
    entered (into s) = completed s next_record (conflicts [] c.store.waits)
    entered (Entered.stuck s) = stuck s

    abbrev pub or_stopped : Option Stop → Outcome
    or_stopped none = entered (set_register (sequencing_of d) (state_at d next_record.state).value landed)
    or_stopped (some n) = stopped n

    unfoldable pub finished : Outcome
    finished = or_stopped stop_after

  abbrev pub after_actions : Record → Ran Held → Outcome
  after_actions r (went c) = finished r c
  after_actions r (Ran.stopped n) = stopped n
  after_actions r (Ran.stuck s) = stuck s

  abbrev pub nothing_done : StoreWords → Doing Held
  nothing_done s = record { store = held s []; gotos = []; returns = 0; calls = []; sequenced = false }

  -- A cycle with these input words.
  unfoldable pub step : StoreWords → Record → StoreWords → Outcome
  step s r ins =
      let run = run_actions (numbers d) d (state_at d r.state).actions (nothing_done (begin d.facilities s ins)) in
      let done = after_actions r run in
      cond (leb last_cycle r.cycle) (stopped LastCycleReached)
      (cond (ltb r.state state_count) done (stuck no_state))

  -- ---- The record that opening gives: the first state, cycle 0, and no return held.

  abbrev pub open_record : Record
  open_record = record { state = 0; cycle = 0; held = 0; returns = replicate most_returns 0 }
