-- The arms of a conditional expression, record by record.
use mathlib.Core.List.{List, [], ◌∷◌}
use mathlib.Core.Option.{Option, none}
use mathlib.Core.Path.{◌≡◌, refl}
use Prim.Native.Nat.{ℕ, suc}
use denote.Enum.Declared.{tag_of}
use types.Run.{OneOf, miss}
use Rattle.language.specs.Description.{Description, node_at}
use Rattle.language.specs.Meaning.{arm_back, arm_here}
use Rattle.image_records.specs.contracts.nodes.Node.{the_type}
use Rattle.image_records.specs.Nodes.{meant}
use Rattle.image_records.specs.declared.nodes.Node.{Node}
use Rattle.image_records.specs.declared.nodes.Node.TheVariants as N
use Rattle.run_references.specs.Places.{arm_expression}

abbrev not-next : List ℕ
not-next = 0 ∷ 1 ∷ 2 ∷ 3 ∷ 4 ∷ 5 ∷ 6 ∷ 7 ∷ 8 ∷ 9 ∷ 10 ∷ 12 ∷ 13 ∷ []

module _ (d : Description) (v : ℕ) where
  none_before : (on : ℕ → Option ℕ) (r : Node) → OneOf not-next (tag_of the_type r) → arm_here d 1 on (meant v r) ≡ none
  none_before on (N.Constant l) k = refl
  none_before on (N.More d) k = refl
  none_before on (N.Whole f) k = refl
  none_before on (N.One f e) k = refl
  none_before on (N.Part f a b) k = refl
  none_before on (N.Two f e g) k = refl
  none_before on (N.WordPart f e a b) k = refl
  none_before on (N.Binary o a b) k = refl
  none_before on (N.Prefix o a) k = refl
  none_before on (N.Cut o a c) k = refl
  none_before on (N.FirstArm e) k = refl
  none_before on (N.NextArm a e) k = absurd (miss not-next 11 tt k)
  none_before on (N.Choice e a n) k = refl
  none_before on N.Broken k = refl

  here : (r : Node) → arm_here d 0 (λ b. none) (meant v r) ≡ arm_expression r
  here (N.Constant l) = refl
  here (N.More d) = refl
  here (N.Whole f) = refl
  here (N.One f e) = refl
  here (N.Part f a b) = refl
  here (N.Two f e g) = refl
  here (N.WordPart f e a b) = refl
  here (N.Binary o a b) = refl
  here (N.Prefix o a) = refl
  here (N.Cut o a c) = refl
  here (N.FirstArm e) = refl
  here (N.NextArm a e) = refl
  here (N.Choice e a n) = refl
  here N.Broken = refl

  module _ (a : ℕ) (r : Node) (e : node_at d a ≡ meant v r) where
    -- The arm itself.
    pub arm-here : arm_back d 0 a ≡ arm_expression r
    unfolding arm_back
    arm-here = rw e (here r)

    -- One arm further back.
    pub arm-before : {b x : ℕ} → r ≡ N.NextArm b x → (k : ℕ) → arm_back d (suc k) a ≡ arm_back d k b
    unfolding arm_back
    arm-before p k = rw (e, p)

    pub arm-nowhere : OneOf not-next (tag_of the_type r) → (k : ℕ) → arm_back d (suc k) a ≡ none
    unfolding arm_back
    arm-nowhere o k = rw e (none_before (arm_back d k) r o)
