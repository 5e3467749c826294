-- Faults of expressions, references and computed terminals stand where words do. Assumes nothing.
use Rattle.std.specs.Prelude.{List, [], ◌∷◌, ℕ, ◌+◌, eqb, ltb}
use Rattle.std.proofs.Math.Option.{Option, none, some}
use Rattle.language.specs.Description as D
use Rattle.language.specs.Description.{Bounds, Description, Facility, FacilityPlaces, Node, NodePlaces, Places, action_place, number_of_constant, facility_at, facility_place, in_bounds, is_computed, node_at, node_place, state_place}
use Rattle.language.specs.Expressions as E
use Rattle.language.specs.Expressions.{judge_node, own_work, selects}
use Rattle.language.specs.Judging.{Judged}
use Rattle.language.specs.ReferenceRules as RR
use Rattle.language.specs.ReferenceRules.{bound_faults, direction_faults, reference_judged, subscripts_judged}
use Rattle.language.specs.References as R
use Rattle.language.specs.References.{Reference, Subscripts, part, reference_of, right_count, same_direction, two, whole, word_part}
use Rattle.language.specs.declared.refusals.Refusal.TheVariants.{BadSubscript}
use Rattle.language.specs.Rules.{name_places}
use Rattle.language.specs.Words.{Position}
use Rattle.about_reading.specs.Standing as S
use Rattle.about_reading.specs.Standing.{Judges, Stand, below-so}
use Rattle.language.specs.Tests.{both}

module _ (Here : Position → Type 0) where
  -- ---- Of all places it holds.

  pub record NodeHere (x : NodePlaces) : Type 0 where
    pub at : Here x.at
    pub first : Here x.first
    pub last : Here x.last

  pub record FacilityHere (at : FacilityPlaces) : Type 0 where
    pub name : Here at.name
    pub words_first : Here at.words_first
    pub words_last : Here at.words_last
    pub bits_first : Here at.bits_first
    pub bits_last : Here at.bits_last
    pub equals : Here at.equals

  abbrev pub EachHere : List Position → Type 0
  EachHere [] = Unit {0}
  EachHere (p ∷ ps) = Here p × EachHere ps

  pub record AllHere (p : Places) : Type 0 where
    pub none : Here D.nowhere
    pub names : EachHere (name_places p)
    pub nodes : (n : ℕ) → NodeHere (node_place p n)
    pub actions : (n : ℕ) → Here (action_place p n)
    pub facilities : (n : ℕ) → FacilityHere (facility_place p n)
    pub states : (n : ℕ) → Here (state_place p n).at × Here (state_place p n).value

module _ (Here : Position → Type 0) (d : Description) (p : Places) (all : AllHere Here p) where
  abbrev Is : Judged → Type 0
  Is = Judges Here

  -- ---- References; `t` judges computed terminals.

  module _ (t : ℕ → Judged) where
    subscript-stands : (b : Bounds) (e : ℕ) → Stand Here (RR.subscript_faults d p t b e)
    subscript-stands b e = go (number_of_constant (node_at d e))
      where
        go : (x : Option ℕ) → Stand Here (RR.constant_faults d p t b (node_place p e).at x)
        go none = S.no-fault
        go (some n) = S.unless-stand Here (in_bounds b n) (node_place p e).at BadSubscript (all.nodes e).at

    ends-stand : (b x : Bounds) (at : NodePlaces) → NodeHere Here at → Stand Here (RR.end_faults d p t b x at)
    ends-stand b x at h =
        S.append-stand Here (S.unless-stand Here (in_bounds b x.first) at.first BadSubscript h.first) (S.unless-stand Here (in_bounds b x.last) at.last BadSubscript h.last)

    bounds-stand : (f : Facility) (s : Subscripts) (at : NodePlaces) → NodeHere Here at → Stand Here (bound_faults d p t f s at)
    unfolding bound_faults
    bounds-stand f whole at h = S.no-fault
    bounds-stand f (R.one e) at h = S.cond-stand Here (eqb f.dimensions 1) (subscript-stands f.bits e) (subscript-stands f.words e)
    bounds-stand f (part b) at h = ends-stand f.bits b at h
    bounds-stand f (two e g) at h = S.append-stand Here (subscript-stands f.words e) (subscript-stands f.bits g)
    bounds-stand f (word_part e b) at h = S.append-stand Here (subscript-stands f.words e) (ends-stand f.bits b at h)

    direction-stands : (f : Facility) (s : Subscripts) (at : NodePlaces) → NodeHere Here at → Stand Here (direction_faults d p t f s at)
    unfolding direction_faults
    direction-stands f whole at h = S.no-fault
    direction-stands f (R.one e) at h = S.no-fault
    direction-stands f (part b) at h = S.unless-stand Here (same_direction f.bits b) at.last BadSubscript h.last
    direction-stands f (two e g) at h = S.no-fault
    direction-stands f (word_part e b) at h = S.unless-stand Here (same_direction f.bits b) at.last BadSubscript h.last

    module _ (terms : (n : ℕ) → Is (t n)) (ev : ℕ → Judged) (parts : (n : ℕ) → Is (ev n)) where
      worth-of : (e : ℕ) → Is (RR.subscript_worth d p t ev e)
      worth-of e = S.proper-judges Here (all.nodes e).at (parts e)

      subscripts-judge : (s : Subscripts) → Is (subscripts_judged d p t ev s)
      unfolding subscripts_judged
      subscripts-judge whole = S.is-fine
      subscripts-judge (R.one e) = worth-of e
      subscripts-judge (part b) = S.is-fine
      subscripts-judge (two e g) = S.both-judges Here (worth-of e) (worth-of g) (λ v w. S.is-fine)
      subscripts-judge (word_part e b) = worth-of e

      reference-judges : (own known : ℕ) (r : Reference) (at : NodePlaces) → NodeHere Here at → Is (reference_judged d p t ev own known r at)
      unfolding reference_judged
      reference-judges own known r at h =
          let f = facility_at d r.facility in
          let s = r.subscripts in
          S.cond-judges Here (ltb r.facility known)
          (S.cond-judges Here (right_count f.dimensions s)
          (S.or-judges Here (S.append-stand Here (S.faults-stand Here (subscripts-judge s)) (bounds-stand f s at h))
          (S.or-judges Here (direction-stands f s at h)
          (S.both-judges Here (subscripts-judge s) (S.cond-judges Here (is_computed f.kind) (terms r.facility) S.is-fine) (λ v w. S.sized-judges Here (R.taken_length f s) (own + v.work + w.work) h.at))))
          (S.or-judges Here (S.faults-stand Here (subscripts-judge s)) (S.refuse-judges Here h.at)))
          (S.refuse-judges Here h.at)

      -- ---- Records.

      module _ (known : ℕ) where
        proper-at : (a : ℕ) → Is (E.proper_at d p t known ev a)
        proper-at a = S.proper-judges Here (all.nodes a).at (parts a)

        operand-judges : (at : NodePlaces) (f : ℕ) (s : Subscripts) → NodeHere Here at → Is (E.operand_at d p t known ev at (R.refer_to f s))
        operand-judges at f s h = reference-judges own_work known (record { facility = f; subscripts = s }) at h

        node-judges : (at : NodePlaces) (n : Node) → NodeHere Here at → Is (judge_node d p t known ev at n)
        unfolding judge_node
        node-judges at (D.constant v) h = S.sized-judges Here v.length own_work h.at
        node-judges at (D.more n) h = S.refuse-judges Here h.at
        node-judges at (D.whole f) h = operand-judges at f whole h
        node-judges at (D.one f e) h = operand-judges at f (R.one e) h
        node-judges at (D.part f b) h = operand-judges at f (part b) h
        node-judges at (D.two f e g) h = operand-judges at f (two e g) h
        node-judges at (D.word_part f e b) h = operand-judges at f (word_part e b) h
        node-judges at (D.binary k a b) h = S.both-judges Here (proper-at a) (proper-at b) (λ v w. S.sized-judges Here _ _ h.at)
        node-judges at (D.prefix k a) h = S.given-judges Here (proper-at a) (λ v. S.sized-judges Here _ _ h.at)
        node-judges at (D.cut k a c) h = S.given-judges Here (proper-at a) (λ v. S.sized-judges Here _ _ h.at)
        node-judges at (D.first_arm e) h = S.given-judges Here (proper-at e) (λ v. S.is-fine)
        node-judges at (D.next_arm a e) h = S.both-judges Here (S.arms-judges Here h.at (parts a)) (proper-at e) (λ v w. S.is-fine)
        node-judges at (D.choice e a n) h =
            S.both-judges Here (proper-at e) (S.arms-judges Here h.at (parts a))
            (λ v w. S.cond-judges Here (both (selects v.length n) (eqb w.arms n)) (S.sized-judges Here _ _ h.at) (S.refuse-judges Here h.at))
        node-judges at D.Node.broken h = S.refuse-judges Here h.at

    module _ (terms : (n : ℕ) → Is (t n)) (known : ℕ) where
      step-judges : (ev : ℕ → Judged) → ((a : ℕ) → Is (ev a)) → (n : ℕ) → Is (E.judge_step d p t known ev n)
      step-judges ev parts n = node-judges terms ev parts known (node_place p n) (node_at d n) (all.nodes n)

      below-judges : (k a : ℕ) → Is (E.judge_below d p t known k a)
      unfolding E.judge_below
      below-judges k a = below-so Is _ (S.refuse-judges Here all.none) (E.judge_step d p t known) step-judges k a

      at-judges : (n : ℕ) → Is (E.judge_at d p t known n)
      unfolding E.judge_at
      at-judges n = step-judges (E.judge_below d p t known n) (below-judges n) n

      pub expression-judges : (n : ℕ) → Is (E.expression_at d p t known n)
      expression-judges n = S.proper-judges Here (all.nodes n).at (at-judges n)

      pub left-judges : (n : ℕ) → Is (E.left_at d p t known n)
      unfolding E.left_at
      left-judges n = go (reference_of (node_at d n))
        where
          go : (r : Option Reference) → Is (E.left_of d p t known n r)
          go none = S.refuse-judges Here (all.nodes n).at
          go (some r) = reference-judges terms (E.judge_below d p t known n) (below-judges n) 0 known r (node_place p n) (all.nodes n)

  -- ---- Computed terminals.

  terminal-step : (ev : ℕ → Judged) → ((a : ℕ) → Is (ev a)) → (n : ℕ) → Is (E.terminal_step d p ev n)
  terminal-step ev h n = expression-judges ev h n (facility_at d n).expression

  pub terminals-judge : (k a : ℕ) → Is (E.terminal_below d p k a)
  unfolding E.terminal_below
  terminals-judge k a = below-so Is _ (S.refuse-judges Here all.none) (E.terminal_step d p) terminal-step k a

  pub terminal-judges : (n : ℕ) → Is (E.terminal_judged d p n)
  unfolding E.terminal_judged
  terminal-judges n = terminal-step (E.terminal_below d p n) (terminals-judge n) n
