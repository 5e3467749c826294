-- A whole cycle: how it ends at once, and what the run of its actions over bytes tells of it. Assumes nothing.
use mathlib.Core.List.{List}
use mathlib.Core.Path.{◌≡◌, refl, sym, ap, ◌∙◌, subst}
use Prim.Native.Nat.{ℕ, ◌≤◌, ◌<◌}
use native.Mathlib.Omega.{arith}
use borrow.Author.Tests.{le-leb, le-ltb, lt-leb, lt-ltb}
use lib.ListN.{length, length-replicate}
use Rattle.language.specs.Acting as T
use Rattle.language.specs.Calls.{over, stimulus_size}
use Rattle.language.specs.Description.{Description, state_at}
use Rattle.language.specs.Layout.{store_size_of}
use Rattle.language.specs.Meaning.{no_state}
use Rattle.language.specs.Step as S
use Rattle.language.specs.Step.{nothing_done}
use Rattle.language.specs.Ceilings.{last_cycle}
use Rattle.language.specs.declared.stops.Stop.TheVariants.{LastCycleReached}
use Rattle.language.specs.Store.{Held, StoreWords, begin, from_bytes, inputs_of, numbers, to_bytes}
use Rattle.store_layout.proofs.Zeros.{Zeros}
use Rattle.store_layout.specs.InBytes.{bytes}
use Rattle.store_layout.specs.Layout.{Bytes}
use Rattle.store_layout.specs.Slices.{landed}
use Rattle.std.specs.Prelude.{Err, Ok, Result}
use Rattle.run_references.specs.declared.worth.Halted.{Halted}
use Rattle.run_references.specs.declared.worth.Halted.TheVariants as H
use Rattle.run_stores.specs.Seen.{did, ran_seen}
use Rattle.run_stores.specs.declared.doing.Doing.{Doing}
use Rattle.run_begin.proofs.BeginLaws.{zeros}
use Rattle.run_begin.proofs.BegunWords.{Rooms, begun-are-bytes, begun-as-long, begun-means}
use Rattle.run_end.specs.Stepped.{Clear, Landed, counted, nothing_in, unfinished}
use Rattle.run_step.proofs.Finished.{Ended, run-ended}
use Rattle.run_step.proofs.Joined.{actions-joined}

module _ (d : Description) (s : StoreWords) (r : S.Record) (ins : StoreWords) where
  pub step-last : 4294967295 ≤ r.cycle → S.stopped LastCycleReached ≡ counted (S.step d s r ins)
  unfolding S.step last_cycle
  step-last h = rw (le-leb 4294967295 r.cycle h)

  pub step-nowhere : r.cycle < 4294967295 → length d.states ≤ r.state → S.stuck no_state ≡ counted (S.step d s r ins)
  unfolding S.step last_cycle
  step-nowhere h k = rw (lt-leb 4294967295 r.cycle h, le-ltb r.state (length d.states) k)

  step-goes : r.cycle < 4294967295 → r.state < length d.states
      → S.step d s r ins ≡ S.after_actions d r (T.run_actions (numbers d) d (state_at d r.state).actions (nothing_done d (begin d.facilities s ins)))
  unfolding S.step last_cycle
  step-goes h k = rw (lt-leb 4294967295 r.cycle h, lt-ltb r.state (length d.states) k)

-- ---- From the store B, the stimulus S, pending bytes P and a clear mask M.

module _ (d : Description) (B P M I : List ℕ) (bytes-B : Bytes B) (bytes-P : Bytes P) (bytes-M : Bytes M) (bytes-I : Bytes I)
    (room : store_size_of d.facilities ≤ length B) (enough : stimulus_size d ≤ length I) (clear : Clear B P M) where
  abbrev begun : StoreWords
  begun = begin d.facilities (from_bytes d.facilities B) (from_bytes (inputs_of d.facilities) I)

  -- The bytes that the actions begin with.
  abbrev pub bytes_begun : List ℕ
  bytes_begun = over (to_bytes d.facilities begun) B

  rooms : Rooms d.facilities B I
  unfolding stimulus_size
  rooms = record { store = room; stimulus = enough }

  room-P : store_size_of d.facilities ≤ length P
  room-P = omega (arith, clear.pending, room)

  size-M : length M ≡ length P
  size-M = ap length clear.mask ∙ (length-replicate (length B) 0 ∙ sym clear.pending)

  zero-M : Zeros M
  zero-M = subst Zeros (sym clear.mask) (zeros (length B))

  module _ (r : S.Record) (cycle : r.cycle < 4294967295) (state : r.state < length d.states) (B' P' M' : List ℕ) where
    abbrev ran : T.Ran Held
    ran = T.run_actions (numbers d) d (state_at d r.state).actions (nothing_done d begun)

    abbrev Sees : Result Doing Halted → Type 0
    Sees a = did a B' P' M' ≡ ran_seen (T.run_actions (bytes d) d (state_at d r.state).actions (nothing_in bytes_begun P M))

    ended : (a : Result Doing Halted) → Sees a → Ended d P M room-P bytes-P bytes-M size-M zero-M a B' P' M' ran
    ended a e =
        let means = begun-means d.facilities B I bytes-B bytes-I rooms in
        let are = begun-are-bytes d.facilities B I bytes-B bytes-I rooms in
        let long = begun-as-long d.facilities B I bytes-B bytes-I rooms in
        let joined = actions-joined d P M room-P bytes_begun are (long ∙ sym clear.pending) (state_at d r.state).actions in
        run-ended d P M room-P bytes-P bytes-M size-M zero-M (rw means at joined) a B' P' M' e

    abbrev pub outcome : S.Outcome
    outcome = S.step d (from_bytes d.facilities B) r (from_bytes (inputs_of d.facilities) I)

    after : {x : T.Ran Held} → ran ≡ x → outcome ≡ S.after_actions d r x
    after e = step-goes d (from_bytes d.facilities B) r (from_bytes (inputs_of d.facilities) I) cycle state ∙ ap (S.after_actions d r) e

    -- What the cycle did, and what follows.
    pub record Went (g : Doing) : Type 0 where
      pub doing : T.Doing Held
      pub landing : Landed d g (landed B' P' M') doing
      pub is : outcome ≡ S.finished d r doing

    pub went-so : (g : Doing) → Sees (Ok g) → Went g
    went-so g e =
        let w = ended (Ok g) e in record {
          doing = w.doing;
          landing = record { sees = w.finished.sees; lands = w.finished.lands; counts = w.finished.counts };
          is = after w.is;
        }

    pub halted-so : (h : Halted) → Sees (Err h) → unfinished h ≡ counted outcome
    halted-so (H.Stopped n) e = rw (after (ended (Err (H.Stopped n)) e)) refl
    halted-so (H.Stuck x) e = rw (after (ended (Err (H.Stuck x)) e)) refl
