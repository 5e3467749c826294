-- What sections describe stands in them.
use mathlib.Core.Bool.{Bool, true, false}
use mathlib.Core.List.{List}
use mathlib.Core.Path.{◌≡◌, refl, sym, ap, ◌∙◌}
use Prim.Native.Nat.{ℕ, ◌+◌, ◌*◌}
use lib.Dec.{leb}
use lib.ListN.{length}
use Rattle.language.specs.Decode.{described, facility_of, pick}
use Rattle.language.specs.Description.{Facility, Operation, State, facility_at}
use Rattle.language.specs.Encode.{Sections, facility_size, state_size}
use Rattle.language.specs.Tree.{Name}
use Rattle.image_sections.proofs.DescribedLaws.{action-described, actions-count, expressions-count, facilities-count, facility-described, node-described, operation-described, operations-count, state-described, states-count}
use Rattle.image_sections.specs.Declarations.{facility_in, operation_in, state_in}
use Rattle.image_sections.specs.Names.{facility_part, named}
use Rattle.image_order.specs.Holds.{Actions, Facilities, Nodes, Operations, States}

-- ---- A record has the name that it is given.

picked : {A : Type 0} (name : A → Name) (b : Bool) (x y : A) (n : Name) → name x ≡ n → name y ≡ n → name (pick b x y) ≡ n
picked name true x y n p q = p
picked name false x y n p q = q

module _ (s : List ℕ) (n : ℕ) (name : Name) where
  facility-name : (facility_in s n name).name ≡ name
  unfolding facility_in facility_of
  facility-name = picked (λ (f : Facility). f.name) (leb (facility_size * n + facility_size) (length s)) _ _ name refl refl

  operation-name : (operation_in s n name).name ≡ name
  unfolding operation_in
  operation-name = refl

  state-name : (state_in s n name).name ≡ name
  unfolding state_in
  state-name = picked (λ (x : State). x.name) (leb (state_size * n + state_size) (length s)) _ _ name refl refl

-- ---- Section by section.

module _ (x : Sections) where
  pub nodes-held : Nodes (described x) x.expressions
  nodes-held = record { count = expressions-count x; at = node-described x }

  pub actions-held : Actions (described x) x.actions
  actions-held = record { count = actions-count x; at = action-described x }

  pub facility-named : (n : ℕ) → (facility_at (described x) n).name ≡ named (facility_part x.facilities n) x.names
  facility-named n = ap (λ (f : Facility). f.name) (facility-described x n) ∙ facility-name x.facilities n _

  pub facilities-held : Facilities (described x) x.facilities
  facilities-held =
      record { count = facilities-count x; at = λ n. facility-described x n ∙ ap (facility_in x.facilities n) (sym (facility-named n)) }

  pub operations-held : Operations (described x) x.operations
  operations-held =
      record {
        count = operations-count x;
        at = λ n. operation-described x n
            ∙ ap (operation_in x.operations n) (sym (ap (λ (o : Operation). o.name) (operation-described x n) ∙ operation-name x.operations n _));
      }

  pub states-held : States (described x) x.states
  states-held =
      record {
        count = states-count x;
        at = λ n. state-described x n
            ∙ ap (state_in x.states n) (sym (ap (λ (y : State). y.name) (state-described x n) ∙ state-name x.states n _));
      }
