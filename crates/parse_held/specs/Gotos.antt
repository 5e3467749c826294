-- Gotos and calls that wait for their state. Until all labels are known a record has the length of the name, whose word stands at the action's place.
use Rattle.std.specs.Prelude.{List, [], ◌∷◌, ◌++◌, map, ◌≡◌, ℕ, ◌+◌, length}
use Rattle.std.proofs.Math.Option.{Option, none, some}
use Rattle.image_records.proofs.ActionBack.{Fits}
use Rattle.judge_records.specs.Noted.{place_bytes}
use Rattle.language.specs.Describe.{NotedAction, act}
use Rattle.language.specs.Description as D
use Rattle.language.specs.Description.{Action}
use Rattle.language.specs.Encode.{action_bytes, concat}
use Rattle.language.specs.Naming.{number_of}
use Rattle.language.specs.Tree.{Name}
use Rattle.language.specs.Words.{Position}
use Rattle.parse_array.specs.Layout.{work_size}
use Rattle.parse_array.specs.Names.{letters}
use Rattle.parse_held.specs.Standing.{ActsFit, Near}
use Rattle.parse_tables.specs.declared.Table.TheVariants as T
use Rattle.parse_tables.specs.Names.{names_in}
use Rattle.parse_tables.specs.Rows.{Kept, Wrote, rows}

-- ---- What an action says when all labels are known.

-- A state's number; broken where there is none.
abbrev pub or_broken : Option ℕ → (ℕ → Action) → Action
or_broken none f = D.Action.broken
or_broken (some k) f = f k

module _ (text : List ℕ) (labels : List Name) where
  -- The state whose name of k letters stands at a place.
  abbrev pub state_at : Position → ℕ → Option ℕ
  state_at p k = number_of (letters text p.place k) 0 labels

  unfoldable pub resolved_at : Position → Action → Action
  resolved_at p (D.store k l r) = D.store k l r
  resolved_at p (D.store_pair k l m r) = D.store_pair k l m r
  resolved_at p (D.set l) = D.set l
  resolved_at p (D.perform o) = D.perform o
  resolved_at p (D.goto k) = or_broken (state_at p k) D.goto
  resolved_at p (D.call k) = or_broken (state_at p k) D.call
  resolved_at p D.return = D.return
  resolved_at p (D.when c x) = D.when c x
  resolved_at p (D.choose c n x) = D.choose c n x
  resolved_at p (D.arm x) = D.arm x
  resolved_at p D.Action.broken = D.Action.broken

  abbrev pub resolved : NotedAction → NotedAction
  resolved x = act (resolved_at x.at x.action) x.at

-- ---- In the tables.

-- The labels known.
abbrev pub labels_in : List ℕ → List ℕ → ℕ → List Name
labels_in text w n = names_in text T.Labels w n

-- Action k is x.
pub record IsAt (k : ℕ) (x : NotedAction) (w : List ℕ) : Type 0 where
  pub whole : length w ≡ work_size
  pub fits : Fits x.action
  pub near : Near x.at
  pub bytes : rows T.Actions (k + 1) w ≡ rows T.Actions k w ++ action_bytes x.action
  pub place : rows T.ActionPlaces (k + 1) w ≡ rows T.ActionPlaces k w ++ place_bytes 0 x.at

-- It was resolved.
abbrev pub Resolves : List ℕ → ℕ → ℕ → List ℕ → List ℕ → Type 0
Resolves text k n w w' =
    (x : NotedAction) → IsAt k x w → Wrote T.Actions k (action_bytes (resolved_at text (labels_in text w n) x.at x.action)) w w'

-- The actions from a number on are xs, up to another.
pub record Waiting (from to : ℕ) (xs : List NotedAction) (w : List ℕ) : Type 0 where
  pub whole : length w ≡ work_size
  pub fits : ActsFit xs
  pub count : from + length xs ≡ to
  pub records : rows T.Actions to w ≡ rows T.Actions from w ++ concat (λ x. action_bytes x.action) xs
  pub places : rows T.ActionPlaces to w ≡ rows T.ActionPlaces from w ++ concat (λ x. place_bytes 0 x.at) xs

-- They were resolved, and nothing else changed.
pub record Resolved (text : List ℕ) (labels : List Name) (from to : ℕ) (xs : List NotedAction) (w w' : List ℕ) : Type 0 where
  pub whole : length w' ≡ work_size
  pub records : rows T.Actions to w' ≡ rows T.Actions from w ++ concat (λ x. action_bytes x.action) (map (resolved text labels) xs)
  pub kept : Kept (T.Actions ∷ []) w w'

abbrev pub ResolvesAll : List ℕ → ℕ → ℕ → ℕ → List ℕ → List ℕ → Type 0
ResolvesAll text from to n w w' = (xs : List NotedAction) → Waiting from to xs w → Resolved text (labels_in text w n) from to xs w w'
