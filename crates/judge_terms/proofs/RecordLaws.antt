-- What a record that was read says of the description.
use mathlib.Core.List.{List, [], ◌∷◌}
use mathlib.Core.Option.{none}
use mathlib.Core.Path.{◌≡◌, refl, sym, ap, ◌∙◌}
use denote.Enum.Declared.{tag_of}
use types.Run.{OneOf, miss}
use Prim.Native.Nat.{ℕ, ◌+◌, ◌*◌}
use Rattle.language.specs.Decode.{node_of}
use Rattle.language.specs.Description.{Description, NodePlaces, Places, number_of_constant, node_at, node_place}
use Rattle.language.specs.Words as W
use Rattle.image_records.specs.References.{widened_node}
use Rattle.judge_records.specs.Noted.{large_no}
use Rattle.judge_records.specs.Read.{place_of}
use Rattle.image_records.specs.contracts.nodes.Node.{the_type}
use Rattle.image_records.specs.Nodes.{constant_number, meant}
use Rattle.image_records.specs.declared.nodes.Node.{Node}
use Rattle.image_records.specs.declared.nodes.Node.TheVariants as N
use Rattle.judge_terms.specs.Shown.{Records, node_noted}

module _ {exprs places : List ℕ} {d : Description} {p : Places} (s : Records exprs places d p) (n : ℕ) where
  pub node-is : (r : Node) {x : Node} → meant (constant_number n exprs) r ≡ node_of exprs n → r ≡ x
      → node_at d n ≡ widened_node (large_no places (3 * n + 1)) (large_no places (3 * n + 2)) (meant (constant_number n exprs) x)
  unfolding node_noted
  node-is r e q =
      s.nodes n ∙ ap (widened_node (large_no places (3 * n + 1)) (large_no places (3 * n + 2))) (sym e ∙ ap (meant (constant_number n exprs)) q)

  pub at-is : {a : W.Position} → a ≡ place_of 3 places n 0 → a ≡ (node_place p n).at
  at-is e = e ∙ sym (ap (λ (x : NodePlaces). x.at) (s.places_of n))

  pub first-is : {a : W.Position} → a ≡ place_of 3 places n 1 → a ≡ (node_place p n).first
  first-is e = e ∙ sym (ap (λ (x : NodePlaces). x.first) (s.places_of n))

  pub last-is : {a : W.Position} → a ≡ place_of 3 places n 2 → a ≡ (node_place p n).last
  last-is e = e ∙ sym (ap (λ (x : NodePlaces). x.last) (s.places_of n))

-- ---- What is no constant.

not-zero : OneOf (1 ∷ 2 ∷ 3 ∷ 4 ∷ 5 ∷ 6 ∷ 7 ∷ 8 ∷ 9 ∷ 10 ∷ 11 ∷ 12 ∷ 13 ∷ []) 0 → ⊥
not-zero = miss (1 ∷ 2 ∷ 3 ∷ 4 ∷ 5 ∷ 6 ∷ 7 ∷ 8 ∷ 9 ∷ 10 ∷ 11 ∷ 12 ∷ 13 ∷ []) 0 tt

pub no-constant : (a b v : ℕ) (r : Node) → OneOf (1 ∷ 2 ∷ 3 ∷ 4 ∷ 5 ∷ 6 ∷ 7 ∷ 8 ∷ 9 ∷ 10 ∷ 11 ∷ 12 ∷ 13 ∷ []) (tag_of the_type r)
    → number_of_constant (widened_node a b (meant v r)) ≡ none
no-constant a b v (N.Constant l) k = absurd (not-zero k)
no-constant a b v (N.More d) k = refl
no-constant a b v (N.Whole f) k = refl
no-constant a b v (N.One f e) k = refl
no-constant a b v (N.Part f x y) k = refl
no-constant a b v (N.Two f e g) k = refl
no-constant a b v (N.WordPart f e x y) k = refl
no-constant a b v (N.Binary o x y) k = refl
no-constant a b v (N.Prefix o x) k = refl
no-constant a b v (N.Cut o x c) k = refl
no-constant a b v (N.FirstArm e) k = refl
no-constant a b v (N.NextArm x e) k = refl
no-constant a b v (N.Choice e x n) k = refl
no-constant a b v N.Broken k = refl
