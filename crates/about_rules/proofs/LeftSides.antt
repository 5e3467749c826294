-- The left side of a store is judged fine exactly where it is a reference that has a length, and with that length. Assumes nothing.
use Rattle.std.proofs.Math.Option.{Option, none, some}
use Rattle.std.specs.Prelude.{◌≡◌, ℕ, ◌+◌}
use Rattle.std.proofs.Math.Path.{refl, ap}
use Rattle.std.proofs.Common.{sym, ◌∙◌}
use Rattle.language.specs.ActionRules.{kind_at, kind_named}
use Rattle.language.specs.Description as D
use Rattle.language.specs.Description.{Description, Node, NodePlaces, Places, facility_at, node_at, node_place}
use Rattle.language.specs.Expressions.{judge_at, judge_below, judge_node, left_at, left_of, own_work, terminal_below}
use Rattle.language.specs.Judging.{Judged, Worth, fine, worth}
use Rattle.language.specs.Meaning as M
use Rattle.language.specs.ReferenceRules.{reference_judged}
use Rattle.language.specs.References as R
use Rattle.language.specs.References.{Reference, reference_of}
use Rattle.language.specs.declared.stops.Stop.TheVariants.{OutsideBounds}
use Rattle.about_running.specs.Finds.{reference-fine}
use Rattle.about_running.specs.Judged.{faulty-fine}
use Rattle.about_rules.specs.ActionsRight as A
use Rattle.about_rules.specs.ActionsRight.{RefersTo}
use Rattle.about_rules.proofs.FineIsLong.{fine-is-long}
use Rattle.about_rules.specs.HasLength.{HasLength}
use Rattle.about_rules.specs.JudgedFine.{fine-reference}
use Rattle.about_rules.proofs.LongIsFine.{long-is-fine}

-- A record is a reference, or is none.
data View (x : Node) : Type 0 where
  reference : {f : ℕ} → RefersTo x f → View x
  other : reference_of x ≡ none → View x

view : (x : Node) → View x
view (D.constant v) = other refl
view (D.more n) = other refl
view (D.whole f) = reference A.whole
view (D.one f e) = reference A.one
view (D.part f b) = reference A.part
view (D.two f e g) = reference A.two
view (D.word_part f e b) = reference A.word-part
view (D.binary k a b) = other refl
view (D.prefix k a) = other refl
view (D.cut k a c) = other refl
view (D.first_arm e) = other refl
view (D.next_arm a e) = other refl
view (D.choice e a n) = other refl
view D.Node.broken = other refl

module _ (d : Description) (p : Places) (known n : ℕ) where
  abbrev terminals : ℕ → Judged
  terminals = terminal_below d p known

  abbrev ev : ℕ → Judged
  ev = judge_below d p terminals known n

  abbrev at : NodePlaces
  at = node_place p n

  -- The reference that a record is, as judging sees it.
  record Seen (x : Node) (f : ℕ) : Type 0 where
    r : Reference
    same : reference_of x ≡ some r
    facility : r.facility ≡ f
    judges : judge_node d p terminals known ev at x ≡ reference_judged d p terminals ev own_work known r at

  seen : {x : Node} {f : ℕ} → RefersTo x f → Seen x f
  unfolding judge_node
  seen (A.whole {f}) = record { r = record { facility = f; subscripts = R.whole }; same = refl; facility = refl; judges = refl }
  seen (A.one {f} {e}) = record { r = record { facility = f; subscripts = R.one e }; same = refl; facility = refl; judges = refl }
  seen (A.part {f} {b}) = record { r = record { facility = f; subscripts = R.part b }; same = refl; facility = refl; judges = refl }
  seen (A.two {f} {e} {g}) = record { r = record { facility = f; subscripts = R.two e g }; same = refl; facility = refl; judges = refl }
  seen (A.word-part {f} {e} {b}) = record { r = record { facility = f; subscripts = R.word_part e b }; same = refl; facility = refl; judges = refl }

  -- A reference's own work has no bearing on its length.
  other-work : (own own' : ℕ) (r : Reference) {w : Worth} → reference_judged d p terminals ev own known r at ≡ fine w
      → (work : ℕ) × (reference_judged d p terminals ev own' known r at ≡ worth w.length 0 work)
  other-work own own' r {w} e =
      let y = reference-fine d p terminals ev (λ e. M.Answer.stops OutsideBounds) (λ e. ⊥) (λ e w q h. absurd q) own known r at e in (
        own' + y.right.some.work + y.terminal.work,
        fine-reference d p terminals ev own' known r at (record {
          known-here = y.known-here;
          count = y.right.count;
          worked = y.right.worked;
          bound = y.right.bound;
          direction = y.right.direction;
          terminal = y.worked;
          taken = sym y.length;
          some = rw y.length y.some_bits;
          most = rw y.length y.right.short;
        }),
      )

  pub kind-of : {f : ℕ} → RefersTo (node_at d n) f → kind_at d n ≡ (facility_at d f).kind
  unfolding kind_at
  kind-of {f} h =
      let s = seen h in
      ap (λ (x : Option Reference). kind_named d x) s.same ∙ ap (λ (g : ℕ). (facility_at d g).kind) s.facility

  pub left-fine : {f l : ℕ} → RefersTo (node_at d n) f → HasLength d known n l → (work : ℕ) × (left_at d p terminals known n ≡ worth l 0 work)
  unfolding left_at judge_at
  left-fine {l = l} h k =
      let s = seen h in
      let j = long-is-fine d p k in
      let o = other-work own_work 0 s.r (sym s.judges ∙ j.same) in
      (o.0, ap (λ (x : Option Reference). left_of d p terminals known n x) s.same ∙ o.1)

  -- What holds of a left side without fault.
  pub record LeftRight (w : Worth) : Type 0 where
    pub f : ℕ
    pub refers : RefersTo (node_at d n) f
    pub long : HasLength d known n w.length

  pub fine-left : {w : Worth} → left_at d p terminals known n ≡ fine w → LeftRight w
  unfolding left_at judge_at
  fine-left {w} e = go (view (node_at d n))
    where
      go : View (node_at d n) → LeftRight w
      go (other q) = faulty-fine (ap (λ (x : Option Reference). left_of d p terminals known n x) (sym q) ∙ e)
      go (reference {f} h) =
          let s = seen h in
          let o = other-work 0 own_work s.r (ap (λ (x : Option Reference). left_of d p terminals known n x) (sym s.same) ∙ e) in
          record { f = f; refers = h; long = fine-is-long d p known n (s.judges ∙ o.1) refl }
