-- A cycle of a passing image delays at most 65,536 stores, so it counts at most so many conflicts. Assumes nothing.
use Rattle.std.specs.Prelude.{Bool, true, false, cond, ℕ, suc, ◌+◌, ◌≤◌, leb, ltb, length}
use mathlib.Core.List.{List, [], ◌∷◌, ◌++◌}
use Rattle.std.proofs.Math.Option.{Option, none, some}
use Rattle.std.proofs.Math.Path.{◌≡◌, refl}
use Rattle.std.proofs.Common.{ap, arith, ltb-true}
use Rattle.language.specs.Acting as A
use Rattle.language.specs.Acting.{Doing, Ran, went}
use Rattle.language.specs.Description.{Description, no_places, sequencing_of, state_at}
use Rattle.language.specs.Meaning.{Write, no_state}
use Rattle.language.specs.Ceilings.{last_cycle, most_work}
use Rattle.language.specs.Step.{Entered, Outcome, Record, after_actions, completed, entered, finished, into, landed, next_record, nothing_done, or_stopped, set_register, step, stop_after}
use Rattle.language.specs.declared.stops.Stop.{Stop}
use Rattle.language.specs.declared.stops.Stop.TheVariants.{LastCycleReached}
use Rattle.language.specs.Store.{Held, StoreWords, any_meets, begin, conflicts, numbers}
use Rattle.language.specs.Value.{bit}
use Rattle.about_running.specs.FewInLists.{few-stores}
use Rattle.about_running.specs.FewStores as F
use Rattle.about_running.specs.FewStores.{Counts, carried}
use Rattle.about_running.specs.LegalForm.{Legal}

delayed : Held → ℕ
delayed x = length x.waits

one_more : {A : Type 0} (xs : List A) (y : A) → length (xs ++ y ∷ []) ≡ suc (length xs)
one_more [] y = refl
one_more (x ∷ xs) y = ap suc (one_more xs y)

counts : (d : Description) → Counts (numbers d) delayed
unfolding delayed
counts d = record { puts = λ x w. refl; delays = λ x ws. one_more x.waits ws }

at_most_one : (b : Bool) → bit b ≤ 1
at_most_one true = omega arith
at_most_one false = omega arith

-- Each delayed store counts at most once.
pub no-more-conflicts : (earlier : List Write) (gs : List (List Write)) → conflicts earlier gs ≤ length gs
unfolding conflicts
no-more-conflicts earlier [] = omega arith
no-more-conflicts earlier (g ∷ gs) =
    let one = at_most_one (any_meets g earlier) in
    let rest = no-more-conflicts (earlier ++ g) gs in
    omega (arith, one, rest)

module _ (d : Description) (L : Legal d) where
  entered-count : (r : Record) (c : Doing Held) (x : Entered) {s : StoreWords} {r' : Record} {n : ℕ} → entered d r c x ≡ completed s r' n → n ≡ conflicts [] c.store.waits
  entered-count r c (Entered.stuck y) e = absurd (let z : ◌≡◌ {A = ℕ} 0 1 = cc in omega arith)
  entered-count r c (into t) e = cc

  finished-count : (r : Record) (c : Doing Held) (x : Option Stop) {s : StoreWords} {r' : Record} {n : ℕ} → or_stopped d r c x ≡ completed s r' n → n ≡ conflicts [] c.store.waits
  finished-count r c none e = entered-count r c (set_register d (sequencing_of d) (state_at d (next_record d r c).state).value (landed d r c)) e
  finished-count r c (some m) e = absurd (let z : ◌≡◌ {A = ℕ} 0 1 = cc in omega arith)

  after-count : (r : Record) (x : Ran Held) (k : ℕ) → F.Few (numbers d) d no_places delayed (counts d) k x → {s : StoreWords} {r' : Record} {n : ℕ} → after_actions d r x ≡ completed s r' n → n ≤ k
  unfolding finished delayed
  after-count r (went c) k (carried h) e =
      let q = finished-count r c (stop_after d r c) e in
      let m = no-more-conflicts [] c.store.waits in
      omega (arith, q, m, h)
  after-count r (Ran.stopped m) k h e = absurd (let z : ◌≡◌ {A = ℕ} 0 1 = cc in omega arith)
  after-count r (Ran.stuck x) k h e = absurd (let z : ◌≡◌ {A = ℕ} 0 1 = cc in omega arith)

  pub few-conflicts : (s : StoreWords) (r : Record) (ins : StoreWords) {s' : StoreWords} {r' : Record} {n : ℕ} → step d s r ins ≡ completed s' r' n → n ≤ most_work
  unfolding step delayed
  few-conflicts s r ins {s'} {r'} {n} e = go (leb last_cycle r.cycle) (ltb r.state (length d.states)) refl e
    where
      ran : Ran Held
      ran = A.run_actions (numbers d) d (state_at d r.state).actions (nothing_done d (begin d.facilities s ins))

      go : (a b : Bool) → ltb r.state (length d.states) ≡ b
          → cond a (Outcome.stopped LastCycleReached) (cond b (after_actions d r ran) (Outcome.stuck no_state)) ≡ completed s' r' n → n ≤ most_work
      go true b q k = absurd (let z : ◌≡◌ {A = ℕ} 0 1 = cc in omega arith)
      go false false q k = absurd (let z : ◌≡◌ {A = ℕ} 0 1 = cc in omega arith)
      go false true q k =
          let y = (L.states r.state (ltb-true r.state (length d.states) q)).1.1 in
          let few = few-stores (numbers d) d no_places delayed (counts d) (state_at d r.state).actions (nothing_done d (begin d.facilities s ins)) y.run-fine in
          let most = after-count r ran (0 + y.run-worth.work) few k in
          omega (arith, most, y.little-work)
