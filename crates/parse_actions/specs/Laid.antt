-- Records laid behind those that stand, whatever they are the records of.
use Rattle.std.specs.Prelude.{List, ◌++◌, ◌≡◌, ℕ, ◌+◌}
use Rattle.parse_step.specs.declared.State.{State}
use Rattle.parse_step.specs.Gained.{with_action_count}
use Rattle.language.specs.Describe.{Noted, NotedAction}
use Rattle.parse_stores.specs.Actions.{OthersKept, action_besides, action_records, front_of}
use Rattle.parse_tables.specs.declared.Table.TheVariants as T
use Rattle.parse_tables.specs.Rows.{rows}
use Rattle.parse_array.specs.Held.{with_nodes}

-- The state with one action record more.
abbrev pub one_more : State → State
one_more s = with_action_count s (s.actions + 1)

-- The expression records ns, which are k in number, and the action records xs, which are m.
pub record Laid (k : ℕ) (ns : List Noted) (m : ℕ) (xs : List NotedAction) (s : State) (work : List ℕ) (s' : State) (work' : List ℕ) : Type 0 where
  pub nodes : s'.nodes ≡ s.nodes + k
  pub expressions : front_of s'.nodes work' ≡ with_nodes (front_of s.nodes work) ns
  pub count : s'.actions ≡ s.actions + m
  pub records : rows T.Actions s'.actions work' ≡ rows T.Actions s.actions work ++ action_records xs
  pub places : rows T.ActionPlaces s'.actions work' ≡ rows T.ActionPlaces s.actions work ++ action_besides xs
  pub tables : OthersKept work work'
