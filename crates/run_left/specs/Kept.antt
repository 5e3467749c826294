-- What a cycle leaves, by how it ended: the store, the record, and the call that its answer means.
use Rattle.std.specs.Prelude.{Err, Ok, Result, List, ℕ, zero, suc}
use Rattle.language.specs.Calls as L
use Rattle.language.specs.Reading.{zeroes}
use Rattle.language.specs.RecordBytes.{record_bytes}
use Rattle.language.specs.declared.refusals.Refusal.TheVariants.{ImageFails}
use Rattle.language.specs.Step as S
use Rattle.store_layout.specs.Slices.{copied}
use Rattle.run_references.specs.declared.worth.Halted.{Halted}
use Rattle.run_references.specs.declared.worth.Halted.TheVariants as H
use Rattle.run_next.specs.Seen.{record_meant}
use Rattle.run_next.specs.declared.record.Record.{Record}
use Rattle.run_end.specs.declared.outcome.Stepped.{Stepped}

-- The store after a cycle that ended so: its working copy in front where it completed.
abbrev pub kept_store : Result Stepped Halted → List ℕ → List ℕ → List ℕ
kept_store (Ok a) work store = copied store work
kept_store (Err h) work store = store

-- The record's bytes after so many completed cycles, which came to r from the bytes K.
abbrev pub kept_record : ℕ → S.Record → List ℕ → List ℕ
kept_record zero r K = K
kept_record (suc n) r K = L.over (record_bytes r) K

-- The call of a cycle that halts, with the store left, the record's bytes K before it and n bytes of scratch.
abbrev pub called_off : Halted → List ℕ → List ℕ → ℕ → L.CycleCall
called_off (H.Stopped k) store K n = record { answer = L.stopped_for k; store = store; record' = K; scratch = zeroes n }
called_off (H.Stuck x) store K n = record { answer = L.refused_for ImageFails; store = store; record' = K; scratch = zeroes n }

-- The call of a cycle that ends so.
abbrev pub called : Result Stepped Halted → List ℕ → List ℕ → ℕ → L.CycleCall
called (Ok a) store K n = record { answer = L.cycled a.conflicts; store = store; record' = L.over (record_bytes (record_meant a.record)) K; scratch = zeroes n }
called (Err h) store K n = called_off h store K n

-- The record after a cycle from r that ended so: the one that it came to where it completed, r where it did not.
abbrev pub kept : Result Stepped Halted → Record → Record
kept (Ok a) r = a.record
kept (Err h) r = r
