-- What has fine parts and keeps its own rules is judged fine: the combinators of judging, read forwards. Assumes nothing.
use Rattle.std.specs.Prelude.{Bool, true, List, [], ◌++◌, ◌≡◌, ℕ, ◌+◌, ◌≤◌, ◌<◌}
use Rattle.std.proofs.Common.{arith, eq-eqb, le-leb, lt-ltb, ne_eqb}
use Rattle.language.specs.Description.{Description, Facility, NodePlaces, Places, facility_at}
use Rattle.language.specs.Judging.{Judged, Worth, arm_list, faults_of, fine, given, given_both, or_faulty, proper, sized, unless, worth}
use Rattle.language.specs.ReferenceRules.{bound_faults, computed_work, counted_right, direction_faults, reference_judged, subscripts_judged}
use Rattle.language.specs.References.{Reference, right_count, taken_length}
use Rattle.language.specs.declared.refusals.Refusal.{Refusal}
use Rattle.language.specs.Ceilings.{longest}
use Rattle.language.specs.Words.{Fault, Position}

pub fine-given : (j : Judged) (k : Worth → Judged) {v w : Worth} → j ≡ fine v → k v ≡ fine w → given j k ≡ fine w
fine-given j k e h = rw e h

pub fine-both : (i j : Judged) (k : Worth → Worth → Judged) {u v w : Worth} → i ≡ fine u → j ≡ fine v → k u v ≡ fine w → given_both i j k ≡ fine w
fine-both i j k e f h = rw (e, f) h

pub fine-proper : (q : Position) (j : Judged) {w : Worth} → j ≡ fine w → w.arms ≡ 0 → proper q j ≡ fine w
unfolding proper
fine-proper q j {w} e h = rw (e, eq-eqb w.arms 0 h)

pub fine-arms : (q : Position) (j : Judged) {w : Worth} → j ≡ fine w → 0 < w.arms → arm_list q j ≡ fine w
unfolding arm_list
fine-arms q j {w} e h = rw (e, ne_eqb w.arms 0 (λ z. omega arith))

pub fine-sized : (q : Position) (l k : ℕ) → 1 ≤ l → l ≤ longest → sized q l k ≡ worth l 0 k
unfolding sized
fine-sized q l k h m = rw (lt-ltb 0 l h, le-leb l longest m)

pub fine-clean : (fs : List Fault) (j : Judged) {w : Worth} → fs ≡ [] → j ≡ fine w → or_faulty fs j ≡ fine w
fine-clean fs j e h = rw e h

pub none-unless : (b : Bool) (p : Position) (r : Refusal) → b ≡ true → unless b p r ≡ []
none-unless b p r e = rw e

pub none-append : (xs ys : List Fault) → xs ≡ [] → ys ≡ [] → xs ++ ys ≡ []
none-append xs ys e h = rw (e, h)

-- ---- References.

module _ (d : Description) (p : Places) (terminals : ℕ → Judged) (ev : ℕ → Judged) where
  -- What a reference of l bits has to have; `s` and `t` are the worth of its subscripts and of its terminal.
  pub record Sound (known : ℕ) (r : Reference) (at : NodePlaces) (l : ℕ) (s t : Worth) : Type 0 where
    pub known-here : r.facility < known
    pub count : right_count (facility_at d r.facility).dimensions r.subscripts ≡ true
    pub worked : subscripts_judged d p terminals ev r.subscripts ≡ fine s
    pub bound : bound_faults d p terminals (facility_at d r.facility) r.subscripts at ≡ []
    pub direction : direction_faults d p terminals (facility_at d r.facility) r.subscripts at ≡ []
    pub terminal : computed_work d p terminals r.facility (facility_at d r.facility) ≡ fine t
    pub taken : taken_length (facility_at d r.facility) r.subscripts ≡ l
    pub some : 1 ≤ l
    pub most : l ≤ longest

  module _ (own known : ℕ) (r : Reference) (at : NodePlaces) where
    abbrev f : Facility
    f = facility_at d r.facility

    counted-fine : {l : ℕ} {s t : Worth} → Sound known r at l s t → counted_right d p terminals ev own r.facility f r.subscripts at ≡ worth l 0 (own + s.work + t.work)
    counted-fine {l} {s} {t} h =
        let none : faults_of (subscripts_judged d p terminals ev r.subscripts) ≡ [] = rw h.worked in
        fine-clean _ _ (none-append _ _ none h.bound)
        (fine-clean _ _ h.direction
        (fine-both _ _ (λ v w. sized at.at (taken_length f r.subscripts) (own + v.work + w.work)) h.worked h.terminal
        (rw h.taken (fine-sized at.at l (own + s.work + t.work) h.some h.most))))

    pub fine-reference : {l : ℕ} {s t : Worth} → Sound known r at l s t → reference_judged d p terminals ev own known r at ≡ worth l 0 (own + s.work + t.work)
    unfolding reference_judged
    fine-reference h = rw (lt-ltb r.facility known h.known-here, h.count) (counted-fine h)
