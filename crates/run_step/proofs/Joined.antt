-- The store in bytes and the store in numbers go through every list of actions alike, so what the code sees of the one decides what the other comes to. Assumes nothing.
use mathlib.Core.Bool.{false}
use mathlib.Core.List.{List, [], ◌∷◌}
use mathlib.Core.Path.{◌≡◌, refl}
use Prim.Native.Nat.{ℕ, ◌≤◌}
use lib.ListN.{length}
use Rattle.language.specs.Acting as T
use Rattle.language.specs.Description.{Description, Run, facility_at}
use Rattle.language.specs.Layout.{store_size_of}
use Rattle.language.specs.Meaning.{Place, Write}
use Rattle.language.specs.Step.{nothing_done}
use Rattle.language.specs.Store.{from_bytes, numbers}
use Rattle.about_running.specs.SameActions.{AllStored, Joins}
use Rattle.about_running.specs.SameRuns.{Alike, actions-alike}
use Rattle.about_running.specs.SameValues.{Stored}
use Rattle.store_words.proofs.Alike.{Means, delays-alike, loads-alike, puts-alike}
use Rattle.store_layout.proofs.Naming.{AllThere}
use Rattle.store_layout.specs.InBytes.{InBytes, There, bytes, delayed_all, waiting}
use Rattle.store_layout.specs.Layout.{Bytes}

module _ (d : Description) where
  -- What the rules call stored is there among the bytes.
  there-stored : (p : Place) → Stored d p → There d p
  unfolding facility_at
  there-stored p s = record {
    word = record { there = s.taken.there.facility-in; kept = s.kept; below = s.taken.there.word-in };
    part = s.taken.there.part_in;
    some = s.taken.some;
    few = s.taken.few;
  }

  all_there : (ws : List Write) → AllStored d ws → AllThere d ws
  all_there [] h = tt
  all_there (w ∷ ws) h = (there-stored w.at h.0, all_there ws h.1)

  module _ (P M : List ℕ) (room : store_size_of d.facilities ≤ length P) where
    -- The two stores stand for each other and go on doing so.
    pub joined : Joins (numbers d) (bytes d) d (Means d P M room)
    joined = record {
      loads = λ x y m p s. loads-alike d P M room x y m p (there-stored p s);
      puts = λ x y w m s. puts-alike d P M room x y m w (there-stored w.at s);
      delays = λ x y ws m s. delays-alike d P M room x y m ws (all_there ws s);
    }

    -- Nothing done yet, in bytes.
    abbrev pub started : List ℕ → T.Doing InBytes
    started B = record { store = record { bytes = B; waiting = waiting P M }; gotos = []; returns = 0; calls = []; sequenced = false }

    -- A state's actions come to the same from the same store.
    pub actions-joined : (B : List ℕ) → Bytes B → length B ≡ length P → (r : Run)
        → Alike (numbers d) (bytes d) d (Means d P M room) joined (T.run_actions (numbers d) d r (nothing_done d (from_bytes d.facilities B))) (T.run_actions (bytes d) d r (started B))
    unfolding delayed_all
    actions-joined B are size r =
        actions-alike (numbers d) (bytes d) d (Means d P M room) joined r (nothing_done d (from_bytes d.facilities B)) (started B)
        (record {
          stores = record { same = refl; are-bytes = are; size = size; delays = refl; there = tt };
          gotos-same = refl;
          returns-same = refl;
          calls_same = refl;
          sequenced-same = refl;
        })
