-- A run cycle by cycle: what is left to do gives the same as the whole. Assumes nothing.
use mathlib.Core.Bool.{Bool, true, false, cond}
use mathlib.Core.List.{List, [], ◌∷◌, ◌++◌}
use mathlib.Core.Option.{Option, none, some}
use mathlib.Core.Path.{◌≡◌, refl, sym, ap, subst, ◌∙◌}
use Prim.Native.Nat.{ℕ, zero, suc, ◌+◌, ◌-◌, ◌*◌, ◌≤◌, ◌<◌}
use native.Mathlib.Nat.{suc-mul}
use native.Mathlib.Omega.{arith}
use borrow.Author.Tests.{eqb-false, eqb-true, leb-true, ne_eqb}
use lib.Dec.{eqb, leb}
use lib.ListN.{drop, length, length-append, take}
use lib.Seq.{drop-drop, length-take-le}
use Rattle.language.specs.Calls.{CycleAnswer, CycleCall, RunCall, after_step, all_well_formed, cycle, cycle_refusal, cycled, cycles, ran, refused_for, roomy, run, run_refusal, stimulus_size, stopped_for, trace_roomy, well_formed}
use Rattle.language.specs.Decode.{decode}
use Rattle.language.specs.Description.{Description}
use Rattle.language.specs.Layout.{store_size}
use Rattle.language.specs.Reading.{filled, zeroes}
use Rattle.language.specs.RecordBytes.{record_from, record_size}
use Rattle.language.specs.declared.refusals.Refusal.{Refusal}
use Rattle.language.specs.Step.{Outcome, completed, step}
use Rattle.language.specs.declared.stops.Stop.{Stop}
use Rattle.language.specs.Store.{from_bytes, inputs_of}
use Rattle.image_records.proofs.ByteLaws.{placed-length}
use Rattle.image_records.specs.Placed.{placed}
use Rattle.about_running.specs.LegalForm.{left-of, right_of}
use Rattle.about_bytes.specs.AnyRun.{Ready}
use Rattle.about_bytes.specs.StaysSound.{no-refusal, stays-sound}
use Rattle.run_soundness.proofs.PassedLaws.{passed-size}
use Rattle.run_advance.proofs.CarryLaws.{cycle-is}
use Rattle.image_records.proofs.FilledLaws.{filled_more, filled_none}
use Rattle.about_bytes.specs.ManyCycles.{all_first, all-long, all_rest, first-there, going, run-free}

-- Any answer but a conflict count.
abbrev Ends : CycleAnswer → Type 0
Ends (cycled n) = ⊥
Ends (stopped_for n) = Unit {0}
Ends (refused_for n) = Unit {0}

-- The run of `count` cycles that began with B₀ and K₀, after n of them.
pub record Left (image S : List ℕ) (count scratch : ℕ) (B₀ K₀ : List ℕ) (B K T : List ℕ) (n conflicts at to : ℕ) : Type 0 where
  pub traced : List ℕ
  pub same : cycles image scratch (store_size (decode image)) (stimulus_size (decode image)) (count - n) (drop at S) (going n conflicts B K traced)
      ≡ cycles image scratch (store_size (decode image)) (stimulus_size (decode image)) count S (going 0 0 B₀ K₀ [])
  pub ready : Ready image B K scratch
  pub form : all_well_formed (decode image) (count - n) (drop at S) ≡ true
  pub store_long : store_size (decode image) ≤ length B
  pub long : length traced ≡ to
  pub noted : 0 < length T → T ≡ filled (length T) traced
  pub trace-room : 0 < length T → to + (count - n) * store_size (decode image) ≤ length T

module _ (image S : List ℕ) (count scratch : ℕ) (B₀ K₀ : List ℕ) where
  abbrev d : Description
  d = decode image

  enough-trace : (t : ℕ) → trace_roomy d count t ≡ true → 0 < t → count * store_size d ≤ t
  enough-trace t e h =
      let f : cond (eqb t 0) true (leb (count * store_size d) t) ≡ true = e in
      leb-true (count * store_size d) t (rw (ne_eqb t 0 (λ z. omega (arith, z, h))) at f)

  pub run_small : (t : ℕ) → run_refusal image B₀ K₀ S count scratch t ≡ none → store_size (decode image) ≤ 16384
  unfolding store_size
  run_small t e = passed-size image (run-free image B₀ K₀ S count scratch t e).passing

  pub run-scratch : (t : ℕ) → run_refusal image B₀ K₀ S count scratch t ≡ none → store_size (decode image) ≤ scratch
  unfolding roomy
  run-scratch t e =
      let room = right_of (leb (store_size d) (length B₀)) _ (run-free image B₀ K₀ S count scratch t e).room in
      let h = leb-true (4 * store_size d) scratch (right_of (leb record_size (length K₀)) _ room) in
      omega (arith, h)

  pub run-record : (t : ℕ) → run_refusal image B₀ K₀ S count scratch t ≡ none → 80 ≤ length K₀
  unfolding roomy
  run-record t e = leb-true record_size (length K₀) (left-of (leb record_size (length K₀)) _ (right_of (leb (store_size d) (length B₀)) _ (run-free image B₀ K₀ S count scratch t e).room))

  pub left-all : (T : List ℕ) → run_refusal image B₀ K₀ S count scratch (length T) ≡ none → T ≡ zeroes (length T) → Left image S count scratch B₀ K₀ B₀ K₀ T 0 0 0 0
  unfolding roomy
  left-all T e z =
      let f = run-free image B₀ K₀ S count scratch (length T) e in
      let c : count - 0 ≡ count = omega arith in record {
        traced = [];
        same = rw c refl;
        ready = record { unrefused-with = λ i w. no-refusal image B₀ K₀ i scratch (record { passing = f.passing; room = f.room; sound-there = f.sound-there; form = w }) };
        form = rw c f.form;
        store_long = leb-true (store_size d) (length B₀) (left-of (leb (store_size d) (length B₀)) _ f.room);
        long = refl;
        noted = λ h. z ∙ filled_none (length T);
        trace-room = λ h. rw c (let m = enough-trace (length T) f.trace-room h in omega (arith, m));
      }

  -- How many bytes a cycle has of the stimuli.
  pub each-so : (each t : ℕ) → ((m : ℕ) → 0 < count → length S ≡ count * m → each ≡ m) → 0 < count → run_refusal image B₀ K₀ S count scratch t ≡ none → each ≡ stimulus_size (decode image)
  each-so each t shared h e = shared (stimulus_size d) h (all-long d count S (run-free image B₀ K₀ S count scratch t e).form)

  module _ (B K T : List ℕ) (n conflicts at to : ℕ) (h : n < count) (l : Left image S count scratch B₀ K₀ B K T n conflicts at to) where
    abbrev stimulus : List ℕ
    stimulus = take (stimulus_size d) (drop at S)

    next : count - n ≡ suc (count - (n + 1))
    next = omega arith

    form-next : all_well_formed d (suc (count - (n + 1))) (drop at S) ≡ true
    form-next = rw next at l.form

    formed : well_formed d stimulus ≡ true
    formed = all_first d (count - (n + 1)) (drop at S) form-next

    -- The next cycle is not refused, and its stimulus is there.
    pub next-free : cycle_refusal image B K (take (stimulus_size (decode image)) (drop at S)) scratch ≡ none
    next-free = l.ready.unrefused-with stimulus formed

    pub next-there : stimulus_size (decode image) ≤ length (drop at S)
    next-there = first-there d (drop at S) formed

    abbrev given : CycleAnswer → List ℕ → List ℕ → CycleCall
    given a B' K' = record { answer = a; store = B'; record' = K'; scratch = zeroes scratch }

    same_next : cycles image scratch (store_size d) (stimulus_size d) (suc (count - (n + 1))) (drop at S) (going n conflicts B K l.traced)
        ≡ cycles image scratch (store_size d) (stimulus_size d) count S (going 0 0 B₀ K₀ [])
    same_next = rw next at l.same

    module _ (B' K' : List ℕ) where
      same_more : (c : ℕ) → given (cycled c) B' K' ≡ cycle image B K stimulus scratch
          → cycles image scratch (store_size d) (stimulus_size d) (count - (n + 1)) (drop (at + stimulus_size d) S) (going (n + 1) (conflicts + c) B' K' (l.traced ++ take (store_size d) B'))
          ≡ cycles image scratch (store_size d) (stimulus_size d) count S (going 0 0 B₀ K₀ [])
      unfolding cycles
      same_more c q =
          let m : suc n ≡ n + 1 = omega arith in
          let f : (k : ℕ) → cycles image scratch (store_size d) (stimulus_size d) (suc k) (drop at S) (going n conflicts B K l.traced) ≡ cycles image scratch (store_size d) (stimulus_size d) k (drop (stimulus_size d) (drop at S)) (going (n + 1) (conflicts + c) B' K' (l.traced ++ take (store_size d) B')) = λ k. rw (← q, ← m) refl in
          rw (← drop-drop (stimulus_size d) at S) (sym (f (count - (n + 1))) ∙ same_next)

      pub left-more : (c : ℕ) → given (cycled c) B' K' ≡ cycle image B K (take (stimulus_size (decode image)) (drop at S)) scratch → length B' ≡ length B
          → Left image S count scratch B₀ K₀ B' K' (placed T to (take (store_size (decode image)) B')) (n + 1) (conflicts + c) (at + stimulus_size (decode image)) (to + store_size (decode image))
      left-more c q e =
          let s : ℕ = store_size d in
          let X = take s B' in
          let x : length X ≡ s = length-take-le s B' (omega (arith, l.store_long, e)) in
          let t : length (placed T to X) ≡ length T = placed-length T X to in
          let j = drop-drop (stimulus_size d) at S in
          let p = suc-mul (count - (n + 1)) s in
          let room : 0 < length T → to + (s + (count - (n + 1)) * s) ≤ length T = λ g. let r = rw next at (l.trace-room g) in omega (arith, r, p) in record {
            traced = l.traced ++ X;
            same = same_more c q;
            ready = record { unrefused-with = λ i w. rw (← q) at (stays-sound image B K stimulus scratch next-free c i (ap (λ (y : CycleCall). y.answer) (sym q)) w) };
            form = rw j at (all_rest d (count - (n + 1)) (drop at S) form-next);
            store_long = omega (arith, l.store_long, e);
            long = let a = length-append l.traced X in omega (arith, a, x, l.long);
            noted = λ g. let g' : 0 < length T = omega (arith, t, g) in let r = room g' in rw t (filled_more (length T) l.traced X l.long (l.noted g') (omega (arith, r, x)) refl refl);
            trace-room = λ g. let g' : 0 < length T = omega (arith, t, g) in let r = room g' in omega (arith, r, t);
          }

      -- A stop ends them, and leaves store and record as they were.
      stopped-here : (a : CycleAnswer) → Ends a → given a B' K' ≡ cycle image B K stimulus scratch → (B ≡ B') × (K ≡ K')
      stopped-here a k q = go (step d (from_bytes d.facilities B) (record_from K) (from_bytes (inputs_of d.facilities) stimulus)) (q ∙ sym (cycle-is image B K stimulus scratch next-free))
        where
          go : (o : Outcome) → given a B' K' ≡ after_step d B K scratch o → (B ≡ B') × (K ≡ K')
          go (completed s r m) e = absurd (subst Ends (ap (λ (y : CycleCall). y.answer) e) k)
          go (Outcome.stopped m) e = (ap (λ (y : CycleCall). y.store) (sym e), ap (λ (y : CycleCall). y.record') (sym e))
          go (Outcome.stuck x) e = (ap (λ (y : CycleCall). y.store) (sym e), ap (λ (y : CycleCall). y.record') (sym e))

      pub left-stop : (m : Stop) → given (stopped_for m) B' K' ≡ cycle image B K (take (stimulus_size (decode image)) (drop at S)) scratch
          → (going n conflicts B' K' l.traced, some m) ≡ cycles image scratch (store_size (decode image)) (stimulus_size (decode image)) count S (going 0 0 B₀ K₀ [])
      unfolding cycles
      left-stop m q =
          let f : (k : ℕ) → cycles image scratch (store_size d) (stimulus_size d) (suc k) (drop at S) (going n conflicts B K l.traced) ≡ (going n conflicts B K l.traced, some m) = λ k. rw (← q) refl in
          let u = stopped-here (stopped_for m) tt q in
          rw (← u.0, ← u.1) (sym (f (count - (n + 1))) ∙ same_next)

      pub left-refused : (m : Refusal) → given (refused_for m) B' K' ≡ cycle image B K (take (stimulus_size (decode image)) (drop at S)) scratch
          → (going n conflicts B' K' l.traced, none) ≡ cycles image scratch (store_size (decode image)) (stimulus_size (decode image)) count S (going 0 0 B₀ K₀ [])
      unfolding cycles
      left-refused m q =
          let f : (k : ℕ) → cycles image scratch (store_size d) (stimulus_size d) (suc k) (drop at S) (going n conflicts B K l.traced) ≡ (going n conflicts B K l.traced, none) = λ k. rw (← q) refl in
          let u = stopped-here (refused_for m) tt q in
          rw (← u.0, ← u.1) (sym (f (count - (n + 1))) ∙ same_next)

  -- No cycle is left.
  pub left-none : (B K T : List ℕ) (n conflicts at to : ℕ) → count ≤ n → (l : Left image S count scratch B₀ K₀ B K T n conflicts at to)
      → (going n conflicts B K l.traced, none) ≡ cycles image scratch (store_size (decode image)) (stimulus_size (decode image)) count S (going 0 0 B₀ K₀ [])
  unfolding cycles
  left-none B K T n conflicts at to h l = let z : count - n ≡ 0 = omega arith in rw z at l.same

  trace-so : (T traced : List ℕ) (t : ℕ) → length T ≡ t → (0 < length T → T ≡ filled (length T) traced) → T ≡ cond (eqb t 0) [] (filled t traced)
  trace-so T traced t e f = by-test (eqb t 0) refl
    where
      positive : (k : ℕ) → (k ≡ 0 → ⊥) → 0 < k
      positive zero h = absurd (h refl)
      positive (suc k) h = omega arith

      empty : (U : List ℕ) → length U ≡ 0 → U ≡ []
      empty [] z = refl
      empty (x ∷ U) z = absurd (omega (arith, z))

      by-test : (b : Bool) → eqb t 0 ≡ b → T ≡ cond b [] (filled t traced)
      by-test true z = let u = eqb-true t 0 z in empty T (omega (arith, e, u))
      by-test false z = let u = eqb-false t 0 z in let p : 0 < length T = positive (length T) (λ y. u (omega (arith, e, y))) in f p ∙ ap (λ (k : ℕ). filled k traced) e

  -- The whole.
  abbrev done : ℕ → ℕ → Option Stop → List ℕ → List ℕ → List ℕ → RunCall
  done n conflicts m B K T = record { answer = ran n conflicts m; store = B; record' = K; scratch = zeroes scratch; trace = T }

  pub run-so : (B K T : List ℕ) (n conflicts : ℕ) (m : Option Stop) (t : ℕ) (traced : List ℕ) → run_refusal image B₀ K₀ S count scratch t ≡ none → length T ≡ t → (0 < length T → T ≡ filled (length T) traced)
      → (going n conflicts B K traced, m) ≡ cycles image scratch (store_size (decode image)) (stimulus_size (decode image)) count S (going 0 0 B₀ K₀ [])
      → done n conflicts m B K T ≡ run image B₀ K₀ S count scratch t
  unfolding run
  run-so B K T n conflicts m t traced free e f q = rw (free, ← q) (ap (done n conflicts m B K) (trace-so T traced t e f))
