-- What a completed cycle did: its actions carried out to the end, then the delayed stores landed in order, then the sequencing register set; the conflicts are counted from those stores. Assumes nothing.
use Rattle.std.specs.Prelude.{Bool, [], ℕ, leb, ltb}
use Rattle.std.proofs.Math.Bool.{true, false, cond}
use Rattle.std.proofs.Math.Option.{Option, none, some}
use Rattle.std.proofs.Math.Path.{◌≡◌, refl}
use Rattle.std.proofs.Common.{ap, ◌∙◌, arith}
use Rattle.language.specs.Acting.{Doing, Ran, run_actions, went}
use Rattle.language.specs.Description.{Description, sequencing_of, state_at}
use Rattle.language.specs.Meaning.{no_state}
use Rattle.language.specs.Step.{Entered, Outcome, Record, after_actions, completed, entered, finished, into, landed, next_record, nothing_done, or_stopped, set_register, state_count, step, stop_after}
use Rattle.language.specs.Ceilings.{last_cycle}
use Rattle.language.specs.declared.stops.Stop.{Stop}
use Rattle.language.specs.declared.stops.Stop.TheVariants.{LastCycleReached}
use Rattle.language.specs.Store.{Held, StoreWords, begin, conflicts, land_all, numbers}

module _ (d : Description) (s : StoreWords) (r : Record) (ins : StoreWords) (t : StoreWords) (q : Record) (n : ℕ) where
  abbrev run : Ran Held
  run = run_actions (numbers d) d (state_at d r.state).actions (nothing_done d (begin d.facilities s ins))

  -- Its actions were carried out; then the delayed stores landed in the order of their execution, and the sequencing register was set; the conflicts are theirs.
  pub record Did : Type 0 where
    pub done : Doing Held
    pub ran : run_actions (numbers d) d (state_at d r.state).actions (nothing_done d (begin d.facilities s ins)) ≡ went done
    pub lands : set_register d (sequencing_of d) (state_at d q.state).value (land_all d done.store.words done.store.waits) ≡ into t
    pub counted : n ≡ conflicts [] done.store.waits

  did-enter : (c : Doing Held) → run ≡ went c → (x : Entered) → set_register d (sequencing_of d) (state_at d (next_record d r c).state).value (landed d r c) ≡ x → entered d r c x ≡ completed t q n → Did
  did-enter c h (Entered.stuck x) k e = absurd (let z : ◌≡◌ {A = ℕ} 0 1 = cc in omega arith)
  did-enter c h (into u) k e =
      let same : u ≡ t = cc in
      let next : next_record d r c ≡ q = cc in
      record { done = c; ran = h; lands = rw (← next) (k ∙ ap into same); counted = cc }

  did-finish : (c : Doing Held) → run ≡ went c → (x : Option Stop) → or_stopped d r c x ≡ completed t q n → Did
  did-finish c h none e = did-enter c h (set_register d (sequencing_of d) (state_at d (next_record d r c).state).value (landed d r c)) refl e
  did-finish c h (some m) e = absurd (let z : ◌≡◌ {A = ℕ} 0 1 = cc in omega arith)

  did_after : (x : Ran Held) → run ≡ x → after_actions d r x ≡ completed t q n → Did
  unfolding finished
  did_after (went c) h e = did-finish c h (stop_after d r c) e
  did_after (Ran.stopped m) h e = absurd (let z : ◌≡◌ {A = ℕ} 0 1 = cc in omega arith)
  did_after (Ran.stuck x) h e = absurd (let z : ◌≡◌ {A = ℕ} 0 1 = cc in omega arith)

  pub lands_last : step d s r ins ≡ completed t q n → Did
  unfolding step
  lands_last e = go (leb last_cycle r.cycle) (ltb r.state (state_count d)) e
    where
      go : (a b : Bool) → cond a (Outcome.stopped LastCycleReached) (cond b (after_actions d r run) (Outcome.stuck no_state)) ≡ completed t q n → Did
      go true b h = absurd (let z : ◌≡◌ {A = ℕ} 0 1 = cc in omega arith)
      go false false h = absurd (let z : ◌≡◌ {A = ℕ} 0 1 = cc in omega arith)
      go false true h = did_after run refl h
