-- Soundness in the order of its tests. Assumes nothing.
use mathlib.Core.Bool.{Bool, true, false}
use mathlib.Core.List.{List}
use mathlib.Core.Path.{◌≡◌, refl, ap}
use lib.Dec.{leb, ltb}
use lib.ListN.{length}
use Prim.Native.Nat.{ℕ}
use Rattle.language.specs.Calls.{sound_bytes}
use Rattle.language.specs.Description.{Description, sequencing_of}
use Rattle.language.specs.RecordBytes.{agrees, marked, record_from, returns_sound, sound}
use Rattle.language.specs.Step.{Record, register_value, state_number}
use Rattle.language.specs.Ceilings.{most_returns}
use Rattle.language.specs.Store.{from_bytes, narrow}
use Rattle.run_soundness.specs.Tested.{record_sound}
use Rattle.language.specs.Tests.{both}

both-thrice : (a b c x : Bool) → both a (both b (both c x)) ≡ both (both a (both b c)) x
both-thrice true true c x = refl
both-thrice true false c x = refl
both-thrice false b c x = refl

pub in-turn : (d : Description) (S R : List ℕ) (r : Record) → r ≡ record_from R
    → sound_bytes d S R
    ≡ both (marked R)
    (both (record_sound (length d.states) r)
    (both (narrow d.facilities (from_bytes d.facilities S)) (agrees (sequencing_of d) (state_number d r.state) (register_value d (sequencing_of d) (from_bytes d.facilities S)))))
unfolding sound_bytes sound record_sound
in-turn d S R r e =
    rw (← e)
    (ap (both (marked R))
    (both-thrice (ltb r.state (length d.states)) (leb r.held most_returns) (returns_sound (length d.states) r.held r.returns)
    (both (narrow d.facilities (from_bytes d.facilities S)) (agrees (sequencing_of d) (state_number d r.state) (register_value d (sequencing_of d) (from_bytes d.facilities S))))))
