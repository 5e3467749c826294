-- The rules of references (01, "Lengths" and refusals 4, 6 and 7; the manual, 5.1.1).
use Rattle.std.specs.Prelude.{cond, List, [], ◌++◌, ℕ, ◌+◌, eqb, ltb}
use Rattle.std.proofs.Math.Option.{Option, none, some}
use Rattle.language.specs.Description.{Bounds, Description, Facility, NodePlaces, Places, number_of_constant, facility_at, in_bounds, is_computed, node_at, node_place}
use Rattle.language.specs.Judging.{Judged, Worth, faults_of, given_both, or_faulty, proper, refuse, sized, unless, worth}
use Rattle.language.specs.References.{Reference, Subscripts, one, part, right_count, same_direction, taken_length, two, whole, word_part}
use Rattle.language.specs.declared.refusals.Refusal.TheVariants.{BadName, BadSubscript}
use Rattle.language.specs.Words.{Fault, Position}

-- `terminals` judges the expression of a computed terminal that may be named.
module _ (d : Description) (p : Places) (terminals : ℕ → Judged) where
  -- A subscript that is one constant lies within the bounds.
  abbrev pub constant_faults : Bounds → Position → Option ℕ → List Fault
  constant_faults b at none = []
  constant_faults b at (some n) = unless (in_bounds b n) at BadSubscript

  abbrev pub subscript_faults : Bounds → ℕ → List Fault
  subscript_faults b e = constant_faults b (node_place p e).at (number_of_constant (node_at d e))

  abbrev pub end_faults : Bounds → Bounds → NodePlaces → List Fault
  end_faults b x at = unless (in_bounds b x.first) at.first BadSubscript ++ unless (in_bounds b x.last) at.last BadSubscript

  -- The constants of a reference with the right number of subscripts.
  unfoldable pub bound_faults : Facility → Subscripts → NodePlaces → List Fault
  bound_faults f whole at = []
  bound_faults f (one e) at = cond (eqb f.dimensions 1) (subscript_faults f.bits e) (subscript_faults f.words e)
  bound_faults f (part b) at = end_faults f.bits b at
  bound_faults f (two e g) at = subscript_faults f.words e ++ subscript_faults f.bits g
  bound_faults f (word_part e b) at = subscript_faults f.words e ++ end_faults f.bits b at

  -- Refusal 6 at a part's second constant.
  unfoldable pub direction_faults : Facility → Subscripts → NodePlaces → List Fault
  direction_faults f whole at = []
  direction_faults f (one e) at = []
  direction_faults f (part b) at = unless (same_direction f.bits b) at.last BadSubscript
  direction_faults f (two e g) at = []
  direction_faults f (word_part e b) at = unless (same_direction f.bits b) at.last BadSubscript

  -- `ev` judges a part; all subscripts together, with their work.
  abbrev pub subscript_worth : (ℕ → Judged) → ℕ → Judged
  subscript_worth ev e = proper (node_place p e).at (ev e)

  abbrev pub added_work : Worth → Worth → Judged
  added_work v w = worth 1 0 (v.work + w.work)

  unfoldable pub subscripts_judged : (ℕ → Judged) → Subscripts → Judged
  subscripts_judged ev whole = worth 1 0 0
  subscripts_judged ev (one e) = subscript_worth ev e
  subscripts_judged ev (part b) = worth 1 0 0
  subscripts_judged ev (two e g) = given_both (subscript_worth ev e) (subscript_worth ev g) added_work
  subscripts_judged ev (word_part e b) = subscript_worth ev e

  -- A computed terminal adds its expression's work.
  abbrev pub computed_work : ℕ → Facility → Judged
  computed_work n f = cond (is_computed f.kind) (terminals n) (worth 1 0 0)

  -- A reference with the right number of subscripts; `own` is its own work.
  abbrev pub counted_right : (ℕ → Judged) → ℕ → ℕ → Facility → Subscripts → NodePlaces → Judged
  counted_right ev own n f s at =
      or_faulty (faults_of (subscripts_judged ev s) ++ bound_faults f s at)
      (or_faulty (direction_faults f s at)
      (given_both (subscripts_judged ev s) (computed_work n f) (λ v w. sized at.at (taken_length f s) (own + v.work + w.work))))

  abbrev pub counted_wrong : (ℕ → Judged) → Subscripts → NodePlaces → Judged
  counted_wrong ev s at = or_faulty (faults_of (subscripts_judged ev s)) (refuse at.at BadSubscript)

  -- Only facilities below `known` may be named.
  unfoldable pub reference_judged : (ℕ → Judged) → ℕ → ℕ → Reference → NodePlaces → Judged
  reference_judged ev own known r at =
      let f = facility_at d r.facility in
      cond (ltb r.facility known)
      (cond (right_count f.dimensions r.subscripts) (counted_right ev own r.facility f r.subscripts at) (counted_wrong ev r.subscripts at))
      (refuse at.at BadName)
