-- How much the code keeps of what a cycle has done: of the states gone to and of those called the first, and whether there is none, one or more; returns up to two; conflicts as far as 32 bits count.
use Rattle.std.specs.Prelude.{Bool, Err, Ok, Result, List, ◌≡◌, ℕ, min, get_or, length}
use Rattle.language.specs.Acting as T
use Rattle.language.specs.Description.{Description}
use Rattle.language.specs.Meaning as M
use Rattle.language.specs.declared.stops.Stop.{Stop}
use Rattle.run_references.specs.Worth.{stuck_meant}
use Rattle.run_references.specs.Described.{Describes}
use Rattle.run_references.specs.declared.worth.Halted.{Halted}
use Rattle.run_references.specs.declared.worth.Halted.TheVariants as H
use Rattle.store_layout.specs.InBytes.{InBytes}
use Rattle.run_stores.specs.declared.doing.Doing.{Doing}
use Rattle.run_stores.specs.declared.doing.Named.{Named}

pub record States : Type 0 where
  pub first : ℕ
  pub count : ℕ

pub record View : Type 0 where
  pub bytes : List ℕ
  pub pending : List ℕ
  pub mask : List ℕ
  pub conflicts : ℕ
  pub gotos : States
  pub returns : ℕ
  pub calls : States
  pub sequenced : Bool

abbrev pub states_seen : List ℕ → States
states_seen ss = record { first = get_or ss 0 0; count = min (length ss) 2 }

abbrev pub seen : T.Doing InBytes → View
seen c = record {
  bytes = c.store.bytes;
  pending = c.store.waiting.pending;
  mask = c.store.waiting.mask;
  conflicts = min c.store.waiting.conflicts 4294967295;
  gotos = states_seen c.gotos;
  returns = min c.returns 2;
  calls = states_seen c.calls;
  sequenced = c.sequenced;
}

pub data Ran : Type 0 where
  went : View → Ran
  stopped : Stop → Ran
  stuck : M.Stuck → Ran

abbrev pub ran_seen : T.Ran InBytes → Ran
ran_seen (T.went c) = went (seen c)
ran_seen (T.stopped n) = stopped n
ran_seen (T.stuck s) = stuck s

-- ---- The same of the code, with the bytes of the store, the pending ones and the mask.

abbrev pub named : Named → States
named l = record { first = l.first; count = l.count }

abbrev pub viewed : Doing → List ℕ → List ℕ → List ℕ → View
viewed g B P M = record {
  bytes = B;
  pending = P;
  mask = M;
  conflicts = g.conflicts;
  gotos = named g.gotos;
  returns = g.returns;
  calls = named g.calls;
  sequenced = g.sequenced;
}

abbrev pub halted : Halted → Ran
halted (H.Stopped n) = stopped n
halted (H.Stuck s) = stuck (stuck_meant s)

abbrev pub did : Result Doing Halted → List ℕ → List ℕ → List ℕ → Ran
did (Ok g) B P M = went (viewed g B P M)
did (Err h) B P M = halted h

-- ---- Claims about each doing that the code sees so.

-- r follows from g as f says.
abbrev pub Follows : Doing → Doing → (Description → T.Doing InBytes → T.Doing InBytes) → Type 0
Follows g r f = (d : Description) (c : T.Doing InBytes) (B P M : List ℕ) → viewed g B P M ≡ seen c → viewed r B P M ≡ seen (f d c)

-- A claim about each description by the sections F and E, and each doing that is seen as this view.
abbrev pub ForDoing : List ℕ → List ℕ → View → (Description → T.Doing InBytes → Type 0) → Type 0
ForDoing F E v claim = (d : Description) (c : T.Doing InBytes) → Describes d F E → v ≡ seen c → claim d c
