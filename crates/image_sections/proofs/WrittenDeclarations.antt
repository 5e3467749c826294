-- The bytes that records of declarations are written with.
use mathlib.Core.Bool.{Bool, true, false, cond}
use mathlib.Core.Path.{◌≡◌, refl}
use Prim.Native.Nat.{ℕ}
use lib.ListN.{length}
use Rattle.language.specs.Description.{Facility, Operation, State}
use Rattle.language.specs.Encode.{facility_record, little, operation_record, state_record}

pub cond-again : (b : Bool) (p q : ℕ) → cond b (cond b p 0) q ≡ cond b p q
cond-again true p q = refl
cond-again false p q = refl

pub facility-length : (place : ℕ) (f : Facility) → length (facility_record place f) ≡ 13
unfolding facility_record little
facility-length place f = refl

pub operation-length : (o : Operation) → length (operation_record o) ≡ 5
unfolding operation_record little
operation-length o = refl

pub state-length : (s : State) → length (state_record s) ≡ 7
unfolding state_record little
state-length s = refl
