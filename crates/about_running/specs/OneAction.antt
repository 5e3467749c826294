-- An action that holds no others, apart from those that follow it: the rows of the step's list of actions, in one function to argue about. Assumes nothing.
use Rattle.std.specs.Prelude.{ℕ, ◌+◌}
use Rattle.language.specs.Acting.{Doing, Ran, calling, going_to, on_place, onward, returning, setting, side, store_to, store_to_pair, stuck, to_state, went}
use Rattle.language.specs.Description as D
use Rattle.language.specs.Description.{Action, Description}
use Rattle.language.specs.Meaning.{Stores, wrong_record}

module _ {X : Type 0} (S : Stores X) (d : Description) (perform : ℕ → Doing X → Ran X) where
  -- Conditionals hold others, and the step does not come here with one.
  unfoldable pub simple : Action → Doing X → Ran X
  simple (D.store k l r) c = store_to S d k l r c
  simple (D.store_pair k l m r) c = store_to_pair S d k l m r c
  simple (D.set l) c = on_place (side S d c.store l) (λ p. setting S d p c)
  simple (D.perform o) c = perform o c
  simple (D.goto s) c = to_state S d s (going_to S d) c
  simple (D.call s) c = to_state S d s (calling S d) c
  simple D.return c = went (returning S d c)
  simple (D.when e x) c = stuck wrong_record
  simple (D.choose e n x) c = stuck wrong_record
  simple (D.arm x) c = stuck wrong_record
  simple D.Action.broken c = stuck wrong_record

  -- The action, and then the k records from i + 1 on.
  abbrev pub plainly : (ℕ → ℕ → Doing X → Ran X) → ℕ → ℕ → Action → Doing X → Ran X
  plainly ev k i a c = onward (simple a c) (ev k (i + 1))
