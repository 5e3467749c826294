-- After the actions: what the code has seen of the run over bytes tells how the run over numbers went. Assumes nothing.
use mathlib.Core.Path.{◌≡◌, refl, sym, ap, ◌∙◌}
use mathlib.Core.List.{List, []}
use native.Mathlib.Omega.{arith}
use Prim.Native.Nat.{ℕ, ◌≤◌, min}
use lib.ListN.{length}
use Rattle.language.specs.Acting as T
use Rattle.language.specs.Description.{Description}
use Rattle.language.specs.Layout.{store_size_of}
use Rattle.language.specs.Store.{Held, conflicts, from_bytes, land_all, numbers}
use Rattle.about_running.specs.SameActions as Actions
use Rattle.about_running.specs.SameRuns.{Alike}
use Rattle.store_words.proofs.Alike.{Means, counts-alike, lands-alike}
use Rattle.store_layout.proofs.Zeros.{Zeros}
use Rattle.store_layout.specs.InBytes.{InBytes, bytes}
use Rattle.store_layout.specs.Layout.{Bytes}
use Rattle.store_layout.specs.Slices.{landed}
use Rattle.std.specs.Prelude.{Err, Ok, Result}
use Rattle.run_references.specs.Worth.{stuck_meant}
use Rattle.run_references.specs.declared.worth.Halted.{Halted}
use Rattle.run_references.specs.declared.worth.Halted.TheVariants as H
use Rattle.run_stores.specs.Seen.{View, did, ran_seen, seen, states_seen, viewed}
use Rattle.run_stores.specs.declared.doing.Doing.{Doing}
use Rattle.run_next.specs.Seen.{Sees}
use Rattle.run_step.proofs.Joined.{joined}

module _ (d : Description) (P M : List ℕ) (room : store_size_of d.facilities ≤ length P) (bytes-P : Bytes P) (bytes-M : Bytes M) (size-M : length M ≡ length P) (clear : Zeros M) where
  -- The code's g, with the bytes it has left, stands for the doing c: its landing and its conflicts too.
  pub record Finished (g : Doing) (B' P' M' : List ℕ) (c : T.Doing Held) : Type 0 where
    pub sees : Sees g c
    pub lands : land_all d c.store.words c.store.waits ≡ from_bytes d.facilities (landed B' P' M')
    pub counts : g.conflicts ≡ min (conflicts [] c.store.waits) 4294967295

  pub record Went (g : Doing) (B' P' M' : List ℕ) (r : T.Ran Held) : Type 0 where
    pub doing : T.Doing Held
    pub is : r ≡ T.went doing
    pub finished : Finished g B' P' M' doing

  -- How the run over numbers went.
  abbrev pub Halts : Halted → T.Ran Held → Type 0
  Halts (H.Stopped n) r = r ≡ T.stopped n
  Halts (H.Stuck s) r = r ≡ T.stuck (stuck_meant s)

  abbrev pub Ended : Result Doing Halted → List ℕ → List ℕ → List ℕ → T.Ran Held → Type 0
  Ended (Ok g) B' P' M' r = Went g B' P' M' r
  Ended (Err h) B' P' M' r = Halts h r

  finishes : (c : T.Doing Held) (y : T.Doing InBytes) (g : Doing) (B' P' M' : List ℕ)
      → Actions.Same (numbers d) (bytes d) d (Means d P M room) (joined d P M room) c y → viewed g B' P' M' ≡ seen y → Finished g B' P' M' c
  finishes c y g B' P' M' s e =
      let b = ap (λ (v : View). v.bytes) e in
      let p = ap (λ (v : View). v.pending) e in
      let m = ap (λ (v : View). v.mask) e in
      record {
        sees = record {
          gotos = ap (λ (v : View). v.gotos) e ∙ ap states_seen (sym s.gotos-same);
          returns = ap (λ (v : View). v.returns) e ∙ ap (λ (n : ℕ). min n 2) (sym s.returns-same);
          calls = ap (λ (v : View). v.calls) e ∙ ap states_seen (sym s.calls_same);
          sequenced = ap (λ (v : View). v.sequenced) e ∙ sym s.sequenced-same;
        };
        lands = rw (b, p, m) (lands-alike d P M room c.store y.store s.stores bytes-P bytes-M size-M clear);
        counts = ap (λ (v : View). v.conflicts) e ∙ ap (λ (n : ℕ). min n 4294967295) (sym (counts-alike d P M room c.store y.store s.stores bytes-P bytes-M size-M clear));
      }

  pub run-ended : {a : T.Ran Held} {b : T.Ran InBytes} → Alike (numbers d) (bytes d) d (Means d P M room) (joined d P M room) a b
      → (r : Result Doing Halted) (B' P' M' : List ℕ) → did r B' P' M' ≡ ran_seen b → Ended r B' P' M' a
  run-ended (Actions.go_on {c} {e} s) (Ok g) B' P' M' q = record { doing = c; is = refl; finished = finishes c e g B' P' M' s (let z : viewed g B' P' M' ≡ seen e = cc in z) }
  run-ended (Actions.go_on s) (Err (H.Stopped n)) B' P' M' q = absurd (let z : ◌≡◌ {A = ℕ} 0 1 = cc in omega arith)
  run-ended (Actions.go_on s) (Err (H.Stuck t)) B' P' M' q = absurd (let z : ◌≡◌ {A = ℕ} 0 1 = cc in omega arith)
  run-ended (Actions.stop {n}) (Ok g) B' P' M' e = absurd (let z : ◌≡◌ {A = ℕ} 0 1 = cc in omega arith)
  run-ended (Actions.stop {n}) (Err (H.Stopped m)) B' P' M' e = let z : n ≡ m = cc in ap T.stopped z
  run-ended (Actions.stop {n}) (Err (H.Stuck t)) B' P' M' e = absurd (let z : ◌≡◌ {A = ℕ} 0 1 = cc in omega arith)
  run-ended (Actions.stick {s}) (Ok g) B' P' M' e = absurd (let z : ◌≡◌ {A = ℕ} 0 1 = cc in omega arith)
  run-ended (Actions.stick {s}) (Err (H.Stopped n)) B' P' M' e = absurd (let z : ◌≡◌ {A = ℕ} 0 1 = cc in omega arith)
  run-ended (Actions.stick {s}) (Err (H.Stuck t)) B' P' M' e = let z : s ≡ stuck_meant t = cc in ap T.stuck z
