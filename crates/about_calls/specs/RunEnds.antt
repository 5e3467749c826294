-- A run that is not refused carries out every cycle asked for, or ends at one of 01's stops; no cycle of it is refused. Assumes nothing.
use Rattle.std.specs.Prelude.{true, ◌≡◌, drop}
use mathlib.Core.List.{List, [], ◌++◌}
use Rattle.std.proofs.Math.Option.{Option, none, some}
use Rattle.std.proofs.Math.Path.{refl}
use native.Mathlib.Omega.{arith}
use Prim.Native.Nat.{ℕ, zero, suc, ◌+◌, ◌*◌, ◌≤◌}
use Rattle.std.proofs.Math.ListN.{take}
use Rattle.language.specs.Calls.{CycleAnswer, CycleCall, OpenCall, RunAnswer, Running, after_cycle, all_well_formed, cycle, cycled, cycles, open', ran, run, run_refusal, stimulus_size, stopped_for, trace_roomy, well_formed}
use Rattle.language.specs.Decode.{decode}
use Rattle.language.specs.Description.{Description}
use Rattle.language.specs.Layout.{store_size}
use Rattle.language.specs.Reading.{accepted, read}
use Rattle.language.specs.RecordBytes.{record_size}
use Rattle.language.specs.Ceilings.{most_work}
use Rattle.about_calls.specs.EachCycle.{ready-again}
use Rattle.about_calls.specs.EndToEnd.{not-refused}
use Rattle.about_calls.specs.StopsFirst.{Ends, goes_on, halts-for, stops_first}
use Rattle.about_bytes.specs.AnyRun.{Ready, opens-ready}
use Rattle.about_bytes.specs.ManyCycles.{all_first, all_rest, going, run-free}
use Rattle.about_bytes.specs.StaysSound.{no-refusal, unrefused}
use Rattle.language.specs.declared.stops.Stop.{Stop}

-- Of k cycles from r on: how many more were completed, and what ended them.
record Ended (k : ℕ) (r : Running) (e : Running × Option Stop) : Type 0 where
  more : ℕ
  completed-so : e.0.completed' ≡ r.completed' + more
  few : more ≤ k
  all_done : e.1 ≡ none → more ≡ k
  counted : e.0.conflicts ≤ r.conflicts + more * most_work

module _ (image : List ℕ) (scratch : ℕ) where
  abbrev d : Description
  d = decode image

  abbrev next_of : CycleCall → ℕ → Running → Running
  next_of c n r = record { completed' = suc r.completed'; conflicts = r.conflicts + n; store = c.store; record' = c.record'; trace = r.trace ++ take (store_size d) c.store }

  cycled-on : (c : CycleCall) (r : Running) (on : Running → Running × Option Stop) (n : ℕ) → c.answer ≡ cycled n → after_cycle image scratch (store_size d) (stimulus_size d) c r on ≡ on (next_of c n r)
  cycled-on c r on n e = rw e refl

  stopped-on : (c : CycleCall) (r : Running) (on : Running → Running × Option Stop) (n : Stop) → c.answer ≡ stopped_for n → after_cycle image scratch (store_size d) (stimulus_size d) c r on ≡ (r, some n)
  stopped-on c r on n e = rw e refl

  one_more : (k : ℕ) (c : CycleCall) (r : Running) (n : ℕ) (e : Running × Option Stop) → n ≤ most_work → Ended k (next_of c n r) e → Ended (suc k) r e
  unfolding most_work
  one_more k c r n e l h = record {
    more = suc h.more;
    completed-so = omega (arith, h.completed-so);
    few = omega (arith, h.few);
    all_done = λ z. let y = h.all_done z in omega (arith, y);
    counted = omega (arith, h.counted, l);
  }

  ended : (k : ℕ) (stimuli : List ℕ) (r : Running) → Ready image r.store r.record' scratch → all_well_formed d k stimuli ≡ true → Ended k r (cycles image scratch (store_size d) (stimulus_size d) k stimuli r)
  unfolding cycles
  ended zero stimuli r h f = record { more = 0; completed-so = omega arith; few = omega arith; all_done = λ z. refl; counted = omega arith }
  ended (suc k) stimuli r h f =
      go (λ t x. ended k (drop (stimulus_size d) stimuli) t x (all_rest d k stimuli f)) c.answer refl
      (stops_first image r.store r.record' stimulus scratch (h.unrefused-with stimulus form))
    where
      stimulus : List ℕ
      stimulus = take (stimulus_size d) stimuli

      form : well_formed d stimulus ≡ true
      form = all_first d k stimuli f

      c : CycleCall
      c = cycle image r.store r.record' stimulus scratch

      on : Running → Running × Option Stop
      on = cycles image scratch (store_size d) (stimulus_size d) k (drop (stimulus_size d) stimuli)

      go : ((t : Running) → Ready image t.store t.record' scratch → Ended k t (on t)) → (a : CycleAnswer) → c.answer ≡ a → Ends image r.store r.record' stimulus a
          → Ended (suc k) r (after_cycle image scratch (store_size d) (stimulus_size d) c r on)
      go next a q (goes_on {n} first l) = rw (cycled-on c r on n q) (one_more k c r n (on (next_of c n r)) l (next (next_of c n r) (ready-again image r.store r.record' stimulus scratch h form)))
      go next a q (halts-for {n} first) =
          rw (stopped-on c r on n q) (record { more = 0; completed-so = omega arith; few = omega arith; all_done = λ z. absurd (let y : ◌≡◌ {A = ℕ} 0 1 = cc in omega arith); counted = omega arith })

-- What a run answers.
pub record Ran (count : ℕ) (a : RunAnswer) : Type 0 where
  pub completed : ℕ
  pub conflicts : ℕ
  pub stop : Option Stop
  pub answers : a ≡ ran completed conflicts stop
  pub few : completed ≤ count
  pub all_done : stop ≡ none → completed ≡ count
  pub counted : conflicts ≤ completed * most_work

module _ (image store record' stimuli : List ℕ) (count scratch trace : ℕ) (none-refused : run_refusal image store record' stimuli count scratch trace ≡ none) where
  pub run_ends : Ran count (run image store record' stimuli count scratch trace).answer
  unfolding run most_work
  run_ends =
      let f = run-free image store record' stimuli count scratch trace none-refused in
      let ready : Ready image store record' scratch = record { unrefused-with = λ i w. no-refusal image store record' i scratch (record { passing = f.passing; room = f.room; sound-there = f.sound-there; form = w }) } in
      let e = ended image scratch count stimuli (going 0 0 store record' []) ready f.form in
      rw none-refused (record {
        completed = _;
        conflicts = _;
        stop = _;
        answers = refl;
        few = let a = e.completed-so in let b = e.few in omega (arith, a, b);
        all_done = λ z. let a = e.completed-so in let b = e.all_done z in omega (arith, a, b);
        counted = let a = e.completed-so in let b = e.counted in omega (arith, a, b);
      })

-- ---- From a text: what reading accepts and opening has opened is run to its end, or to a stop.

module _ (text : List ℕ) (room n : ℕ) (accepts : (read text room).answer ≡ accepted n) (store record' : ℕ) (store-room : store_size (decode (read text room).image) ≤ store) (record-room : record_size ≤ record')
    (k scratch trace : ℕ) (stimuli : List ℕ) (enough : 4 * store_size (decode (read text room).image) ≤ scratch) (trace-fits : trace_roomy (decode (read text room).image) (suc k) trace ≡ true)
    (form : all_well_formed (decode (read text room).image) (suc k) stimuli ≡ true) where
  abbrev image : List ℕ
  image = (read text room).image

  abbrev began : OpenCall
  began = open' image store record'

  pub not-refused-run : run_refusal (read text room).image (open' (read text room).image store record').store (open' (read text room).image store record').record' stimuli (suc k) scratch trace ≡ none
  unfolding run_refusal
  not-refused-run =
      let first = take (stimulus_size (decode image)) stimuli in
      let ready = opens-ready image store record' scratch (not-refused text room n accepts store record' store-room record-room) enough in
      let u = unrefused image began.store began.record' first scratch (ready.unrefused-with first (all_first (decode image) k stimuli form)) in
      rw (u.passing, u.room, trace-fits, u.sound-there, form) refl

  pub accepted-run : Ran (suc k) (run (read text room).image (open' (read text room).image store record').store (open' (read text room).image store record').record' stimuli (suc k) scratch trace).answer
  accepted-run = run_ends image began.store began.record' stimuli (suc k) scratch trace not-refused-run
