use mathlib.Core.Bool.{true}
use mathlib.Core.List.{List}
use mathlib.Core.Logic.{inl, inr}
use mathlib.Core.Path.{◌≡◌, refl, sym, ap, subst, ◌∙◌}
use borrow.Enum.Refused.{opened}
use types.Run.{miss}
use Rattle.language.specs.Decode.{node_of}
use Rattle.language.specs.Description as D
use Rattle.language.specs.Description.{constant_value, is_computed}
use Rattle.language.specs.Meaning as M
use Rattle.language.specs.Meaning.{eval_at, eval_below, eval_node, place_of}
use Rattle.language.specs.Value as L
use Rattle.image_records.specs.Nodes.{constant_number, held}
use Rattle.image_sections.specs.Declarations.{FacilityRead, facility_meant}
use Rattle.store_geometry.specs.Subscripts.{subscripts_meant}
use Rattle.store_layout.specs.InBytes.{InBytes, bytes, load_bytes}
use Rattle.run_references.specs.Described.{Describes}
use Rattle.run_references.specs.Worth.{answered, unanswered}
use Rattle.run_references.specs.Places.{Worked, first_of, place_meant, refers_to, second_of, unlocated}
use Rattle.run_expressions.specs.Chains.{operand_of, operated_on}
use Rattle.run_expressions.specs.Sides.{PlaceWorked, Side, side_meant}
use Rattle.run_expressions.proofs.ChainLaws.{chain-follows, kept-worth, left-value, operand-worth}
use Rattle.run_references.proofs.EvalLaws.{constant-worth, eval-before, eval-not-before, held-fitting, node-read, other-worth, others}
use Rattle.run_references.proofs.PlaceLaws.{computed-read, facility-known, name_of, place-of-facility, place-there, stored-load, stored-read}
use Prim.Native.Nat.{ℕ}
use Rattle.std.proofs.Common.{Option, Result}
use Rattle.std.proofs.lemmas.Result.{err_from_is_err_and}
use Rattle.image_sections.specs.declared.facilities.FacilityRecord.{FacilityRecord}
use Rattle.image_sections.specs.declared.facilities.ShortBounds.{ShortBounds}
use Rattle.run_references.specs.declared.worth.Halted.{Halted}
use Rattle.run_references.specs.declared.worth.Halted.TheVariants as H
use Rattle.store_geometry.specs.declared.subscripts.Subscripts.{Subscripts}
use Rattle.run_expressions.proofs.eval.+arm_binary_choice_distance_eval_operand_other_part.Goals as goal
use Rattle.run_expressions.proofs.eval.+arm_binary_choice_distance_eval_operand_other_part.Goals.{eval-in-Binary, eval-in-Choice, eval-in-Constant, eval-in-Prefix2, eval-in_default}

-- The place found by the subscripts' distances is the reference's.
operand-side : {d : D.Description} {F E : List ℕ} (h : Describes d F E) (ev : ℕ → M.Answer) (n : ℕ) (s : Subscripts) (p q : Option (ℕ × ShortBounds)) (a b : Result ℕ Halted) (r : Side) → PlaceWorked F n s a b r
    → ((f : FacilityRecord) → FacilityRead F n f → p ≡ first_of f s) → ((f : FacilityRecord) → FacilityRead F n f → q ≡ second_of f s a) → Worked ev p a → Worked ev q b
    → side_meant r ≡ place_of d ev (refers_to n s)
operand-side {d} {F} {E} h ev n s p q a b r w i j k l =
    w d E h ev (λ f g. (subst (λ (u : Option (ℕ × ShortBounds)). Worked ev u a) (i f g) k, subst (λ (u : Option (ℕ × ShortBounds)). Worked ev u b) (j f g) l))

pub eval-returns : goal.eval-returns
unfolding eval_node operand_of operated_on
eval-returns t c =
    λ d x h e.
    let E = c.args.image.now.expressions.now in
    let m = c.foot-m.result in
    let k = c.node_at-node in
    let v = constant_number m E in
    let low : M.after (answered c.match-node.w) (operated_on (node_of E m)) ≡ eval_at (bytes d) d x m = elim c.match-node.branch [
      | eval-in-Constant w ↦
          let q = node-read d E m h.nodes _ k.ensures w.in-Constant.is in
          let f = h.fit m _ q in
          kept-worth (bytes d) d x E m _ (h.nodes m) q (λ y. refl) _
          (ap answered w.w-is ∙ (ap M.Answer.is (w.constant_at.ensures ∙ (ap (λ (n : D.Node). held (constant_value n)) (sym (h.nodes m) ∙ q) ∙ held-fitting _ f.0 f.1)) ∙ sym (constant-worth _ f.0)))
      | eval-in-Binary w ↦ kept-worth (bytes d) d x E m _ (h.nodes m) (node-read d E m h.nodes _ k.ensures w.in-Binary.is) (λ y. refl) _ (ap answered w.w-is ∙ w.binary-w.ensures d x h e)
      | eval-in-Prefix2 w ↦ elim w.in-Prefix.is [
        | inl p ↦ operand-worth (bytes d) d x E m _ (h.nodes m) (node-read d E m h.nodes _ k.ensures p.1) _ refl _ (ap answered w.w-is ∙ w.part-w.ensures d x h e)
        | inr p ↦ operand-worth (bytes d) d x E m _ (h.nodes m) (node-read d E m h.nodes _ k.ensures p.2) _ refl _ (ap answered w.w-is ∙ w.part-w.ensures d x h e)
      ]
      | eval-in-Choice w ↦ kept-worth (bytes d) d x E m _ (h.nodes m) (node-read d E m h.nodes _ k.ensures w.in-Choice.is) (λ y. refl) _ (ap answered w.w-is ∙ w.choice-w.ensures d x h e)
      | eval-in_default w ↦
          kept-worth (bytes d) d x E m _ (h.nodes m) (node-read d E m h.nodes {r = k.result} k.result k.ensures refl) (left-value others (miss others 8 tt) (miss others 9 tt) v k.result (opened w.in_default.in_default-own.keys6)) _
          (ap answered w.w-is ∙ (w.other-w.ensures d x h e ∙ sym (other-worth (bytes d) d x v (eval_below (bytes d) d x m) k.result (opened w.in_default.in_default-own.keys6))))
    ] in
    c.ended.ensures (eval_at (bytes d) d x) c.foot-m.ensures.0 (chain-follows (bytes d) d x E m c.args.n h.nodes c.foot-m.ensures.1) low

-- What is read at a place in a computed terminal is a part of its expression's value.
computed-operand : {d : D.Description} {F E : List ℕ} (h : Describes d F E) (x : InBytes) (ev : ℕ → M.Answer) (n : ℕ) (s : Subscripts) (f : FacilityRecord) (g : FacilityRead F n f) (p : M.Place)
    → place_of d ev (refers_to n s) ≡ M.Located.at p → is_computed (facility_meant (name_of h n f g) f).kind ≡ true
    → M.operand (bytes d) d x ev n (subscripts_meant s) ≡ M.after (ev f.place) (M.part_of_value (bytes d) d x (facility_meant (name_of h n f g) f) p)
computed-operand {d} h x ev n s f g p q z = rw (q, facility-known h n f g) (computed-read d x ev (name_of h n f g) f p z)

-- A reference whose place halts has no value for the same reason.
halted-operand : (d : D.Description) (x : InBytes) (ev : ℕ → M.Answer) (n : ℕ) (s : Subscripts) (h : Halted) → place_of d ev (refers_to n s) ≡ unlocated h
    → unanswered h ≡ M.operand (bytes d) d x ev n (subscripts_meant s)
halted-operand d x ev n s (H.Stopped k) q = rw q
halted-operand d x ev n s (H.Stuck k) q = rw q

pub operand-returns-in_err-f : goal.operand-returns-in_err-f
operand-returns-in_err-f t c =
    λ d x h e.
    let r = err_from_is_err_and c.from_residual.result c.from_residual.ensures.1 in
    let q = sym (operand-side h (eval_below (bytes d) d x c.args.n) c.args.number c.args.s _ _ _ _ _ c.place.ensures.1 c.first-first.ensures c.second-second.ensures (c.distance-at.ensures d x h e) (c.distance-inside.ensures d x h e)) ∙ ap side_meant c.in_err-f.was in
    rw (r.1, r.2) (halted-operand d x (eval_below (bytes d) d x c.args.n) c.args.number c.args.s _ q)

pub operand-returns-then-is_computed : goal.operand-returns-then-is_computed
operand-returns-then-is_computed t c =
    λ d x h e.
    let f = c.in_ok-f.f in
    let g : FacilityRead c.args.image.now.facilities.now c.args.number f = rw c.in_ok-f.was at c.place.ensures.0 in
    let p = place_meant c.in_ok-f.p in
    let ev = eval_below (bytes d) d x c.args.n in
    let q = sym (operand-side h ev c.args.number c.args.s _ _ _ _ _ c.place.ensures.1 c.first-first.ensures c.second-second.ensures (c.distance-at.ensures d x h e) (c.distance-inside.ensures d x h e)) ∙ ap side_meant c.in_ok-f.was in
    let z = sym c.is_computed.ensures ∙ c.if-is_computed.true in
    let name = name_of h c.args.number f g in
    c.of_computed.ensures d x name ∙ sym (computed-operand h x ev c.args.number c.args.s f g p q z ∙ ap (λ (w : M.Answer). M.after w (M.part_of_value (bytes d) d x (facility_meant name f) p)) (sym (c.part-w.ensures d x h e)))

pub operand-returns : goal.operand-returns
operand-returns t c =
    λ d x h e.
    let f = c.in_ok-f.f in
    let g : FacilityRead c.args.image.now.facilities.now c.args.number f = rw c.in_ok-f.was at c.place.ensures.0 in
    let name = name_of h c.args.number f g in
    let p = place_meant c.in_ok-f.p in
    let ev = eval_below (bytes d) d x c.args.n in
    let r = refers_to c.args.number c.args.s in
    let q = sym (operand-side h ev c.args.number c.args.s _ _ _ _ _ c.place.ensures.1 c.first-first.ensures c.second-second.ensures (c.distance-at.ensures d x h e) (c.distance-inside.ensures d x h e)) ∙ ap side_meant c.in_ok-f.was in
    let z = sym c.is_computed.ensures ∙ c.if-is_computed.false in
    let load : ℕ → M.Answer = λ m. M.Answer.is (L.value p.count m) in
    rw (facility-known h c.args.number f g, q)
    (ap M.Answer.is (c.of_stored.ensures name) ∙ (ap load (stored-load h c.args.number f g (place-there d ev r p q) z c.args.store.now p.word p.from p.count ∙ (ap (λ (k : ℕ). load_bytes d c.args.store.now (M.place k p.word p.from p.count)) (sym (place-of-facility d ev r p q)) ∙ ap (λ (B : List ℕ). load_bytes d B p) (sym e))) ∙ sym (stored-read d x ev name f p z)))

pub part-returns-then-n-a : goal.part-returns-then-n-a
part-returns-then-n-a t c =
    λ d x h e. sym (eval-not-before (bytes d) d x _ _ c.if-n-a.true)

pub part-returns : goal.part-returns
part-returns t c =
    λ d x h e. c.eval.ensures d x h e ∙ sym (eval-before (bytes d) d x _ _ c.if-n-a.false)
