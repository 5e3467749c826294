-- A cycle stops exactly for the first condition in 01's order that holds, and completes exactly when none does. Assumes nothing.
use Rattle.std.specs.Prelude.{Bool, true, false, cond, ◌≡◌, ℕ, ◌+◌, ◌≤◌, ◌<◌, leb}
use mathlib.Core.List.{List, ◌∷◌}
use Rattle.std.proofs.Math.Option.{Option, none, some}
use Rattle.std.proofs.Math.Path.{refl}
use Rattle.std.proofs.Common.{sym, arith, leb-false, leb-true, lt-ltb}
use Rattle.std.proofs.Math.ListN.{length}
use Rattle.language.specs.Acting as A
use Rattle.language.specs.Acting.{Doing, Ran, went}
use Rattle.language.specs.Description.{Description, sequencing_of, state_at}
use Rattle.language.specs.Step.{Entered, Outcome, Record, after_actions, bearer, bears, entered, finished, into, is_none, next_record, nothing_done, or_stopped, set_register, state_count, step, stop_after}
use Rattle.language.specs.Ceilings.{last_cycle, most_returns}
use Rattle.language.specs.Step as Step
use Rattle.language.specs.declared.stops.Stop.{Stop}
use Rattle.language.specs.declared.stops.Stop.TheVariants.{LastCycleReached, NoNextState, NothingToReturn, OutsideBounds, TooManyCalls, TwoNextStates, ValueUnborne}
use Rattle.language.specs.Store.{Held, StoreWords, begin, inputs_of, numbers}
use Rattle.about_running.specs.Account as Account
use Rattle.about_running.specs.Account.{Executed, Met, outside, stands, stop_for}
use Rattle.about_running.proofs.ActionsAccounted.{ToldRun, actions-told, done, done-store, told-stopped, told-went}
use Rattle.about_running.specs.Acts.{Good}
use Rattle.about_running.specs.Bearers.{none-bears, one-bears}
use Rattle.about_running.specs.Conditions as C
use Rattle.about_running.specs.Conditions.{Borne, Condition, Cycle, FirstOf, a-later-one, any_of, begun, held_after, how_many, is_call, is_goto, is_return, is_sequenced, none-holds, order, plain_given, register_after, state_work, this-one}
use Rattle.about_running.proofs.Counted.{counts}
use Rattle.about_running.specs.Cycle.{Sound, run-good}
use Rattle.about_running.proofs.Decided.{Decides, and_then, at_least, either, equals, itself}
use Rattle.about_running.specs.Fitting.{Fit, Inv, numbers_keep}
use Rattle.about_running.specs.LegalForm.{Legal}
use Rattle.about_running.proofs.MetThere as M
use Rattle.about_running.proofs.MetThere.{There, course-there}
use Rattle.about_running.proofs.OneAccount.{one-course, over-apart}
use Rattle.about_running.specs.StopOrder.{FirstOutside, stop_of}

-- At most one stop is the first.
pub first_one : {K : Stop → Type 0} {ns : List Stop} {a b : Option Stop} → FirstOf K ns a → FirstOf K ns b → a ≡ b
first_one none-holds none-holds = refl
first_one (this-one h) (this-one k) = refl
first_one (this-one h) (a-later-one f k) = absurd (f h)
first_one (a-later-one f h) (this-one k) = absurd (f k)
first_one (a-later-one f h) (a-later-one g k) = first_one h k

-- Tested in turn.
in-turn : {K : Stop → Type 0} {n : Stop} {ns : List Stop} {m : Option Stop} (b : Bool) → Decides b (K n) → FirstOf K ns m → FirstOf K (n ∷ ns) (cond b (some n) m)
in-turn true f h = this-one (f.holds refl)
in-turn false f h = a-later-one (f.fails refl) h

module _ (d : Description) (s : StoreWords) (r : Record) (ins : StoreWords) where
  abbrev first : Doing Held
  first = nothing_done d (begin d.facilities s ins)

  abbrev K : Stop → Type 0
  K = Condition d s r ins

  -- ---- Where all actions were executed.

  module _ (es : List Executed) (all : Cycle d s r ins es Account.over) where
    abbrev c : Doing Held
    c = done (numbers d) d es first

    these : {fs : List Executed} → Cycle d s r ins fs Account.over → fs ≡ es
    these h = (one-course (numbers d) d h all).executed

    no_end : {fs : List Executed} {o : Met} → Cycle d s r ins fs (Account.met o) → ⊥
    no_end h = over-apart (sym (one-course (numbers d) d h all).ended)

    no-subscript : K OutsideBounds → ⊥
    no-subscript (C.subscript-outside h) = no_end h

    two-so : K TwoNextStates → (2 ≤ plain_given d es → ⊥) → (2 ≤ how_many is_call es → ⊥) → ⊥
    two-so (C.two-plain h l) f g = f (rw (these h) at l)
    two-so (C.two-calls h l) f g = g (rw (these h) at l)

    four-so : K NothingToReturn → (1 ≤ how_many is_return es) × (r.held ≡ 0)
    four-so (C.none-held h l e) = (rw (these h) at l, e)

    three-so : K ValueUnborne → (any_of (is_sequenced d) es ≡ true) × (Borne d (register_after d s r ins es) → ⊥)
    three-so (C.unborne h l e) = (rw (these h) at l, rw (these h) at e)

    six-so : K NoNextState → (plain_given d es ≡ 0) × (length d.states ≤ r.state + 1)
    six-so (C.none_below h l e) = (rw (these h) at l, e)

    five-so : K TooManyCalls → (1 ≤ how_many is_call es) × (most_returns ≤ held_after r es)
    five-so (C.no_room h l e) = (rw (these h) at l, rw (these h) at e)

    borne-or-not : (x : ℕ) → Decides (is_none d r c (bearer d (state_count d) 0 x)) (Borne d x → ⊥)
    borne-or-not x = go (bearer d (state_count d) 0 x) refl
      where
        go : (m : Option ℕ) → bearer d (state_count d) 0 x ≡ m → Decides (is_none d r c m) (Borne d x → ⊥)
        go none q = record { holds = λ e b. none-bears d (state_count d) 0 x q b.state (omega arith) (omega (arith, b.there)) b.bears; fails = λ e. absurd (let z : ◌≡◌ {A = ℕ} 0 1 = cc in omega arith) }
        go (some m) q =
            let y = one-bears d (state_count d) 0 x m q in
            record { holds = λ e. absurd (let z : ◌≡◌ {A = ℕ} 0 1 = cc in omega arith); fails = λ e h. h (record { state = m; there = omega (arith, y.0); bears = y.1 }) }

    after-all : FirstOf K C.after_actions (stop_after d r c)
    unfolding stop_after
    after-all =
        let n = counts d es first in
        let gotos : length c.gotos ≡ how_many is_goto es = omega (arith, n.gotos-so) in
        let returns : c.returns ≡ how_many is_return es = omega (arith, n.returns-so) in
        let calls : length c.calls ≡ how_many is_call es = omega (arith, n.calls-so) in
        let sequenced : c.sequenced ≡ any_of (is_sequenced d) es = n.sequenced-so in
        let lands : c.store ≡ stands (numbers d) (begun d s r ins) es = done-store (numbers d) d es first in
        rw (gotos, returns, calls, sequenced, lands)
        (in-turn _ (either (at_least 2 _) (at_least 2 _) (C.two-plain all) (C.two-calls all) (λ f g h. two-so h f g))
        (in-turn _ (and_then (at_least 1 _) (equals r.held 0) (C.none-held all) four-so)
        (in-turn _ (and_then (itself _) (borne-or-not (register_after d s r ins es)) (C.unborne all) three-so)
        (in-turn _ (and_then (equals _ 0) (at_least (length d.states) (r.state + 1)) (C.none_below all) six-so)
        (in-turn _ (and_then (at_least 1 _) (at_least most_returns _) (C.no_room all) five-so) none-holds)))))

  not_last : r.cycle < last_cycle → K LastCycleReached → ⊥
  not_last l (C.last-number h) = omega arith

module _ (d : Description) (s : StoreWords) (r : Record) (ins : StoreWords) where
  there-outside : Condition d s r ins OutsideBounds → FirstOutside d s r ins
  there-outside (C.subscript-outside {es = es} {t = t} {v = v} h) = go (course-there (numbers d) d h)
    where
      go : There (numbers d) d (stands (numbers d) (begun d s r ins) es) (outside t v) → FirstOutside d s r ins
      go (M.beyond k e) = record { before = es; subscript = t; worth = v; met-first = h; worked-out = k; beyond = e }

-- ---- The cycle.

pub first_holds : {P : Stop → Type 0} {ns : List Stop} {n : Stop} → FirstOf P ns (some n) → P n
first_holds (this-one h) = h
first_holds (a-later-one f h) = first_holds h

module _ (d : Description) (L : Legal d) (s : StoreWords) (r : Record) (ins : StoreWords) (sound : Sound d s r) (fitting : Fit (inputs_of d.facilities) ins) where
  abbrev run : Ran Held
  run = A.run_actions (numbers d) d (state_at d r.state).actions (nothing_done d (begin d.facilities s ins))

  -- Entering the next state is no stop.
  entered_on : (c : Doing Held) (t : Entered) → stop_of (entered d r c t) ≡ none
  entered_on c (into t) = refl
  entered_on c (Entered.stuck x) = refl

  finished-stop : (c : Doing Held) → stop_of (finished d r c) ≡ stop_after d r c
  unfolding finished
  finished-stop c = go (stop_after d r c)
    where
      go : (x : Option Stop) → stop_of (or_stopped d r c x) ≡ x
      go none = entered_on c (set_register d (sequencing_of d) (state_at d (next_record d r c).state).value (Step.landed d r c))
      go (some n) = refl

  pub stops-in-order : FirstOf (Condition d s r ins) order (stop_of (step d s r ins))
  unfolding step
  stops-in-order = rw (lt-ltb r.state (length d.states) sound.state-in) (go (leb last_cycle r.cycle) refl)
    where
      met-so : {n : Stop} (o : Met) (es : List Executed) → Cycle d s r ins es (Account.met o) → stop_for o ≡ n → FirstOf (Condition d s r ins) (OutsideBounds ∷ C.after_actions) (some n)
      met-so (outside t v) es h e = rw (← e) (this-one (C.subscript-outside h))

      after : (x : Ran Held) → Good (numbers d) d (Inv d) (numbers_keep d) L x → ToldRun (numbers d) d (state_work d s r ins) (nothing_done d (begin d.facilities s ins)) x
          → FirstOf (Condition d s r ins) (OutsideBounds ∷ C.after_actions) (stop_of (after_actions d r x))
      after (went e) g (told-went es h y) = rw (finished-stop e, y) (a-later-one (no-subscript d s r ins es h) (after-all d s r ins es h))
      after (Ran.stopped n) g (told-stopped {o = o} es h y) = met-so o es h y
      after (A.stuck _) g _ = elim g [ ]

      go : (b : Bool) → leb last_cycle r.cycle ≡ b → FirstOf (Condition d s r ins) order (stop_of (cond b (Outcome.stopped LastCycleReached) (after_actions d r run)))
      go true q = this-one (C.last-number (leb-true last_cycle r.cycle q))
      go false q =
          a-later-one (not_last d s r ins (leb-false last_cycle r.cycle q)) (after run (run-good d L s r ins sound fitting) (actions-told (numbers d) d (state_at d r.state).actions (nothing_done d (begin d.facilities s ins))))

  -- S1, where the number is not the last: exactly when, in the order of execution, the cycle comes to a subscript that lies outside its bounds on the store that stands then.
  pub one-first : r.cycle < last_cycle → (stop_of (step d s r ins) ≡ some OutsideBounds → FirstOutside d s r ins) × (FirstOutside d s r ins → stop_of (step d s r ins) ≡ some OutsideBounds)
  one-first l = (
    (λ e. there-outside d s r ins (first_holds (rw e at stops-in-order))),
    (λ h. first_one stops-in-order (a-later-one (not_last d s r ins l) (this-one (C.subscript-outside h.met-first)))),
  )
