-- What a cycle works on and what its answer means.
use Rattle.std.specs.Prelude.{false, Err, Ok, Result, List, [], ◌≡◌, ℕ, min, length, replicate}
use Rattle.language.specs.Acting as T
use Rattle.language.specs.Description.{Description, Facility}
use Rattle.language.specs.Step as S
use Rattle.language.specs.Store.{Held, conflicts, from_bytes, land_all}
use Rattle.store_layout.specs.InBytes.{InBytes, waiting}
use Rattle.run_references.specs.Worth.{stuck_meant}
use Rattle.run_references.specs.declared.worth.Halted.{Halted}
use Rattle.run_references.specs.declared.worth.Halted.TheVariants as H
use Rattle.run_stores.specs.declared.doing.Doing.{Doing}
use Rattle.run_next.specs.Seen.{Sees, record_meant}
use Rattle.run_end.specs.declared.outcome.Stepped.{Stepped}

-- Pending bytes P and a mask M as long as the store B, the mask clear.
pub record Clear (B P M : List ℕ) : Type 0 where
  pub pending : length P ≡ length B
  pub mask : M ≡ replicate (length B) 0

-- The code's g, and the bytes B of the store once all has landed, stand for what the cycle did.
pub record Landed (d : Description) (g : Doing) (B : List ℕ) (c : T.Doing Held) : Type 0 where
  pub sees : Sees g c
  pub lands : land_all d c.store.words c.store.waits ≡ from_bytes d.facilities B
  pub counts : g.conflicts ≡ min (conflicts [] c.store.waits) 4294967295

-- Nothing done yet.
abbrev pub nothing_seen : Doing
nothing_seen = record {
  gotos = record { first = 0; count = 0 };
  returns = 0;
  calls = record { first = 0; count = 0 };
  sequenced = false;
  conflicts = 0;
}

-- The same for a store in bytes B, with pending bytes P and a mask M.
abbrev pub nothing_in : List ℕ → List ℕ → List ℕ → T.Doing InBytes
nothing_in B P M = record { store = record { bytes = B; waiting = waiting P M }; gotos = []; returns = 0; calls = []; sequenced = false }

-- ---- Answers.

-- A halt in place of what a cycle leaves.
abbrev pub unfinished : Halted → S.Outcome
unfinished (H.Stopped k) = S.stopped k
unfinished (H.Stuck x) = S.stuck (stuck_meant x)

-- The outcome that an answer means, with the bytes B left.
abbrev pub stepped : List Facility → Result Stepped Halted → List ℕ → S.Outcome
stepped fs (Ok a) B = S.completed (from_bytes fs B) (record_meant a.record) a.conflicts
stepped fs (Err h) B = unfinished h

-- Conflicts are counted as far as 32 bits count.
abbrev pub counted : S.Outcome → S.Outcome
counted (S.completed s r n) = S.completed s r (min n 4294967295)
counted (S.stopped k) = S.stopped k
counted (S.stuck x) = S.stuck x
