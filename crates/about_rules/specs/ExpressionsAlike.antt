-- Expressions, references and computed terminals are judged alike whatever the places. Assumes nothing.
use Rattle.std.proofs.Math.Option.{Option, none, some}
use Rattle.std.specs.Prelude.{ℕ, ◌+◌, eqb, ltb}
use Rattle.language.specs.Description as D
use Rattle.language.specs.Description.{Bounds, Description, Facility, Node, NodePlaces, Places, number_of_constant, facility_at, in_bounds, is_computed, node_at, node_place}
use Rattle.language.specs.Expressions as E
use Rattle.language.specs.Expressions.{judge_node, own_work, selects}
use Rattle.language.specs.Judging.{Judged}
use Rattle.language.specs.ReferenceRules as RR
use Rattle.language.specs.ReferenceRules.{bound_faults, direction_faults, reference_judged, subscripts_judged}
use Rattle.language.specs.References as R
use Rattle.language.specs.References.{Reference, Subscripts, part, reference_of, right_count, same_direction, two, whole, word_part}
use Rattle.about_rules.specs.Alike.{Alike, Together, append-together, arms-alike, below-related, both-alike, both-faulty, both-fine, cond-alike, cond-together, faults-together, given-alike, no-fault, or-alike, proper-alike, sized-alike, unless-together}
use Rattle.language.specs.declared.refusals.Refusal.TheVariants.{BadSubscript}
use Rattle.language.specs.Tests.{both}

module _ (d : Description) (p q : Places) where
  -- ---- References; `t` and `u` judge computed terminals.

  module _ (t u : ℕ → Judged) where
    subscript-together : (b : Bounds) (e : ℕ) → Together (RR.subscript_faults d p t b e) (RR.subscript_faults d q u b e)
    subscript-together b e = go (number_of_constant (node_at d e))
      where
        go : (x : Option ℕ) → Together (RR.constant_faults d p t b (node_place p e).at x) (RR.constant_faults d q u b (node_place q e).at x)
        go none = no-fault
        go (some n) = unless-together (in_bounds b n) (node_place p e).at (node_place q e).at BadSubscript

    ends-together : (b x : Bounds) (at to : NodePlaces) → Together (RR.end_faults d p t b x at) (RR.end_faults d q u b x to)
    ends-together b x at to =
        append-together (unless-together (in_bounds b x.first) at.first to.first BadSubscript) (unless-together (in_bounds b x.last) at.last to.last BadSubscript)

    bounds-together : (f : Facility) (s : Subscripts) (at to : NodePlaces) → Together (bound_faults d p t f s at) (bound_faults d q u f s to)
    unfolding bound_faults
    bounds-together f whole at to = no-fault
    bounds-together f (R.one e) at to = cond-together (eqb f.dimensions 1) (subscript-together f.bits e) (subscript-together f.words e)
    bounds-together f (part b) at to = ends-together f.bits b at to
    bounds-together f (two e g) at to = append-together (subscript-together f.words e) (subscript-together f.bits g)
    bounds-together f (word_part e b) at to = append-together (subscript-together f.words e) (ends-together f.bits b at to)

    direction-together : (f : Facility) (s : Subscripts) (at to : NodePlaces) → Together (direction_faults d p t f s at) (direction_faults d q u f s to)
    unfolding direction_faults
    direction-together f whole at to = no-fault
    direction-together f (R.one e) at to = no-fault
    direction-together f (part b) at to = unless-together (same_direction f.bits b) at.last to.last BadSubscript
    direction-together f (two e g) at to = no-fault
    direction-together f (word_part e b) at to = unless-together (same_direction f.bits b) at.last to.last BadSubscript

    module _ (terms : (n : ℕ) → Alike (t n) (u n)) (ev on : ℕ → Judged) (parts : (n : ℕ) → Alike (ev n) (on n)) where
      worth-of : (e : ℕ) → Alike (RR.subscript_worth d p t ev e) (RR.subscript_worth d q u on e)
      worth-of e = proper-alike (node_place p e).at (node_place q e).at (parts e)

      subscripts-alike : (s : Subscripts) → Alike (subscripts_judged d p t ev s) (subscripts_judged d q u on s)
      unfolding subscripts_judged
      subscripts-alike whole = both-fine
      subscripts-alike (R.one e) = worth-of e
      subscripts-alike (part b) = both-fine
      subscripts-alike (two e g) = both-alike (worth-of e) (worth-of g) (λ v w. both-fine)
      subscripts-alike (word_part e b) = worth-of e

      reference-alike : (own known : ℕ) (r : Reference) (at to : NodePlaces) → Alike (reference_judged d p t ev own known r at) (reference_judged d q u on own known r to)
      unfolding reference_judged
      reference-alike own known r at to =
          let f = facility_at d r.facility in
          let s = r.subscripts in
          cond-alike (ltb r.facility known)
          (cond-alike (right_count f.dimensions s)
          (or-alike (append-together (faults-together (subscripts-alike s)) (bounds-together f s at to))
          (or-alike (direction-together f s at to)
          (both-alike (subscripts-alike s) (cond-alike (is_computed f.kind) (terms r.facility) both-fine) (λ v w. sized-alike at.at to.at (R.taken_length f s) (own + v.work + w.work)))))
          (or-alike (faults-together (subscripts-alike s)) both-faulty))
          both-faulty

      -- ---- Records.

      module _ (known : ℕ) where
        proper-at : (a : ℕ) → Alike (E.proper_at d p t known ev a) (E.proper_at d q u known on a)
        proper-at a = proper-alike (node_place p a).at (node_place q a).at (parts a)

        operand-alike : (at to : NodePlaces) (f : ℕ) (s : Subscripts) → Alike (E.operand_at d p t known ev at (R.refer_to f s)) (E.operand_at d q u known on to (R.refer_to f s))
        operand-alike at to f s = reference-alike own_work known (record { facility = f; subscripts = s }) at to

        node_alike : (at to : NodePlaces) (n : Node) → Alike (judge_node d p t known ev at n) (judge_node d q u known on to n)
        unfolding judge_node
        node_alike at to (D.constant v) = sized-alike at.at to.at v.length own_work
        node_alike at to (D.more n) = both-faulty
        node_alike at to (D.whole f) = operand-alike at to f whole
        node_alike at to (D.one f e) = operand-alike at to f (R.one e)
        node_alike at to (D.part f b) = operand-alike at to f (part b)
        node_alike at to (D.two f e g) = operand-alike at to f (two e g)
        node_alike at to (D.word_part f e b) = operand-alike at to f (word_part e b)
        node_alike at to (D.binary k a b) = both-alike (proper-at a) (proper-at b) (λ v w. sized-alike at.at to.at _ _)
        node_alike at to (D.prefix k a) = given-alike (proper-at a) (λ v. sized-alike at.at to.at _ _)
        node_alike at to (D.cut k a c) = given-alike (proper-at a) (λ v. sized-alike at.at to.at _ _)
        node_alike at to (D.first_arm e) = given-alike (proper-at e) (λ v. both-fine)
        node_alike at to (D.next_arm a e) = both-alike (arms-alike at.at to.at (parts a)) (proper-at e) (λ v w. both-fine)
        node_alike at to (D.choice e a n) =
            both-alike (proper-at e) (arms-alike at.at to.at (parts a))
            (λ v w. cond-alike (both (selects v.length n) (eqb w.arms n)) (sized-alike at.at to.at _ _) both-faulty)
        node_alike at to D.Node.broken = both-faulty

    module _ (terms : (n : ℕ) → Alike (t n) (u n)) (known : ℕ) where
      step-alike : (ev on : ℕ → Judged) → ((a : ℕ) → Alike (ev a) (on a)) → (n : ℕ) → Alike (E.judge_step d p t known ev n) (E.judge_step d q u known on n)
      step-alike ev on parts n = node_alike terms ev on parts known (node_place p n) (node_place q n) (node_at d n)

      pub below_alike : (k a : ℕ) → Alike (E.judge_below d p t known k a) (E.judge_below d q u known k a)
      unfolding E.judge_below
      below_alike k a = below-related Alike _ _ both-faulty (E.judge_step d p t known) (E.judge_step d q u known) step-alike k a

      pub at-alike : (n : ℕ) → Alike (E.judge_at d p t known n) (E.judge_at d q u known n)
      unfolding E.judge_at
      at-alike n = step-alike (E.judge_below d p t known n) (E.judge_below d q u known n) (below_alike n) n

      pub expression-alike : (n : ℕ) → Alike (E.expression_at d p t known n) (E.expression_at d q u known n)
      expression-alike n = proper-alike (node_place p n).at (node_place q n).at (at-alike n)

      pub left-alike : (n : ℕ) → Alike (E.left_at d p t known n) (E.left_at d q u known n)
      unfolding E.left_at
      left-alike n = go (reference_of (node_at d n))
        where
          go : (r : Option Reference) → Alike (E.left_of d p t known n r) (E.left_of d q u known n r)
          go none = both-faulty
          go (some r) = reference-alike terms (E.judge_below d p t known n) (E.judge_below d q u known n) (below_alike n) 0 known r (node_place p n) (node_place q n)

  -- ---- Computed terminals.

  terminal-step : (ev on : ℕ → Judged) → ((a : ℕ) → Alike (ev a) (on a)) → (n : ℕ) → Alike (E.terminal_step d p ev n) (E.terminal_step d q on n)
  terminal-step ev on h n = expression-alike ev on h n (facility_at d n).expression

  pub terminals-alike : (k a : ℕ) → Alike (E.terminal_below d p k a) (E.terminal_below d q k a)
  unfolding E.terminal_below
  terminals-alike k a = below-related Alike _ _ both-faulty (E.terminal_step d p) (E.terminal_step d q) terminal-step k a

  pub terminal-alike : (n : ℕ) → Alike (E.terminal_judged d p n) (E.terminal_judged d q n)
  unfolding E.terminal_judged
  terminal-alike n = terminal-step (E.terminal_below d p n) (E.terminal_below d q n) (terminals-alike n) n
