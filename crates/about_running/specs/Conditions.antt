-- 01's conditions for a stop ("Stops"), of what the account says that a cycle executes, the record before it, and the store when all delayed stores have landed; and 01's order.
use Rattle.std.specs.Prelude.{Bool, true, false, cond, ◌||◌, List, [], ◌∷◌, ◌≡◌, ℕ, ◌+◌, ◌-◌, ◌≤◌, ◌<◌, leb, length}
use Rattle.std.proofs.Math.Option.{Option, none, some}
use Rattle.std.proofs.Common.{arith}
use Rattle.language.specs.Description.{Description, sequencing_of, state_at}
use Rattle.language.specs.Step.{Record, register_value, state_number}
use Rattle.language.specs.Ceilings.{last_cycle, most_returns}
use Rattle.language.specs.Store.{Held, StoreWords, begin, held, land_all, numbers}
use Rattle.language.specs.Stops.{stop_number}
use Rattle.language.specs.declared.stops.Stop.{Stop}
use Rattle.language.specs.declared.stops.Stop.TheVariants.{LastCycleReached, NoNextState, NothingToReturn, OutsideBounds, TooManyCalls, TwoNextStates, ValueUnborne}
use Rattle.language.specs.Value.{Value, bit}
use Rattle.about_running.specs.Account as Account
use Rattle.about_running.specs.Account.{End, Executed, Executes, Subscript, Work, list, outside, stands, to_register}

-- ---- What is counted of the executed actions.

abbrev pub is_goto : Executed → Bool
is_goto (Account.delayed ws) = false
is_goto (Account.immediate ws) = false
is_goto (Account.sets p) = false
is_goto (Account.goes s) = true
is_goto (Account.calls s) = false
is_goto Account.returns = false

abbrev pub is_return : Executed → Bool
is_return (Account.delayed ws) = false
is_return (Account.immediate ws) = false
is_return (Account.sets p) = false
is_return (Account.goes s) = false
is_return (Account.calls s) = false
is_return Account.returns = true

abbrev pub is_call : Executed → Bool
is_call (Account.delayed ws) = false
is_call (Account.immediate ws) = false
is_call (Account.sets p) = false
is_call (Account.goes s) = false
is_call (Account.calls s) = true
is_call Account.returns = false

-- A delayed store to the sequencing register.
abbrev pub is_sequenced : Description → Executed → Bool
is_sequenced d (Account.delayed ws) = to_register d ws
is_sequenced d (Account.immediate ws) = false
is_sequenced d (Account.sets p) = false
is_sequenced d (Account.goes s) = false
is_sequenced d (Account.calls s) = false
is_sequenced d Account.returns = false

unfoldable pub how_many : (Executed → Bool) → List Executed → ℕ
how_many t [] = 0
how_many t (e ∷ es) = bit (t e) + how_many t es

unfoldable pub any_of : (Executed → Bool) → List Executed → Bool
any_of t [] = false
any_of t (e ∷ es) = t e || any_of t es

-- The plain next states given: by ->, by RETURN, and by delayed stores to the sequencing register, which together count once.
abbrev pub plain_given : Description → List Executed → ℕ
plain_given d es = how_many is_goto es + how_many is_return es + bit (any_of (is_sequenced d) es)

-- The returns held after any RETURN has taken its own off.
abbrev pub held_after : Record → List Executed → ℕ
held_after r es = cond (leb 1 (how_many is_return es)) (r.held - 1) r.held

-- Some state bears this value.
pub record Borne (d : Description) (x : ℕ) : Type 0 where
  pub state : ℕ
  pub there : state < length d.states
  pub bears : state_number d state ≡ some x

module _ (d : Description) (s : StoreWords) (r : Record) (ins : StoreWords) where
  -- The store that a cycle begins with, and the actions of its state.
  abbrev pub begun : Held
  begun = held (begin d.facilities s ins) []

  abbrev pub state_work : Work
  state_work = list (state_at d r.state).actions.count (state_at d r.state).actions.first

  -- The cycle executes these, and so ends.
  abbrev pub Cycle : List Executed → End → Type 0
  Cycle es e = Executes (numbers d) d begun state_work es e

  -- The sequencing register's value when all delayed stores have landed.
  abbrev pub register_after : List Executed → ℕ
  register_after es =
      let x = stands (numbers d) begun es in
      register_value d (sequencing_of d) (land_all d x.words x.waits)

  -- ---- The conditions.

  pub data Condition : Stop → Type 0 where
    -- S7 cycle number 4,294,967,295
    last-number : last_cycle ≤ r.cycle → Condition LastCycleReached
    -- S1 computed subscript outside its bounds
    subscript-outside : {es : List Executed} {t : Subscript} {v : Value} → Cycle es (Account.met (outside t v)) → Condition OutsideBounds
    -- S2 two plain next states, even if equal, or two calls
    two-plain : {es : List Executed} → Cycle es Account.over → 2 ≤ plain_given d es → Condition TwoNextStates
    two-calls : {es : List Executed} → Cycle es Account.over → 2 ≤ how_many is_call es → Condition TwoNextStates
    -- S4 RETURN with no return held
    none-held : {es : List Executed} → Cycle es Account.over → 1 ≤ how_many is_return es → r.held ≡ 0 → Condition NothingToReturn
    -- S3 delayed stores leave the sequencing register a value that no state bears
    unborne : {es : List Executed} → Cycle es Account.over → any_of (is_sequenced d) es ≡ true → (Borne d (register_after es) → ⊥) → Condition ValueUnborne
    -- S6 no plain next state given and no state below
    none_below : {es : List Executed} → Cycle es Account.over → plain_given d es ≡ 0 → length d.states ≤ r.state + 1 → Condition NoNextState
    -- S5 call with 16 held after any RETURN
    no_room : {es : List Executed} → Cycle es Account.over → 1 ≤ how_many is_call es → most_returns ≤ held_after r es → Condition TooManyCalls

-- ---- The order: S7 is tested first, S1 comes when met, then S2, S4, S3, S6, S5.

abbrev pub after_actions : List Stop
after_actions = TwoNextStates ∷ NothingToReturn ∷ ValueUnborne ∷ NoNextState ∷ TooManyCalls ∷ []

abbrev pub order : List Stop
order = LastCycleReached ∷ OutsideBounds ∷ after_actions

-- The stops end at S7.
pub stops_end : (n : Stop) → (1 ≤ stop_number n) × (stop_number n ≤ 7)
stops_end LastCycleReached = (omega arith, omega arith)
stops_end OutsideBounds = (omega arith, omega arith)
stops_end TwoNextStates = (omega arith, omega arith)
stops_end NothingToReturn = (omega arith, omega arith)
stops_end ValueUnborne = (omega arith, omega arith)
stops_end NoNextState = (omega arith, omega arith)
stops_end TooManyCalls = (omega arith, omega arith)

-- The first stop whose condition holds, or none where none does.
pub data FirstOf (C : Stop → Type 0) : List Stop → Option Stop → Type 0 where
  none-holds : FirstOf C [] none
  this-one : {n : Stop} {ns : List Stop} → C n → FirstOf C (n ∷ ns) (some n)
  a-later-one : {n : Stop} {ns : List Stop} {m : Option Stop} → (C n → ⊥) → FirstOf C ns m → FirstOf C (n ∷ ns) m
