-- How deep expressions are: a record is one deeper than the deepest of its parts. What bounds the walks over an image: few records, and none too deep.
use Rattle.std.specs.Prelude.{Bool, true, ◌≡◌, leb, length}
use Rattle.std.proofs.Math.Path.{refl, ap}
use Rattle.std.proofs.Common.{◌∙◌, arith}
use Prim.Native.Nat.{ℕ, zero, suc, max, ◌≤◌, ◌<◌}
use borrow.Author.Tests.{le-leb}
use Rattle.language.specs.Description as D
use Rattle.language.specs.Description.{Description, Node, node_at}
use Rattle.language.specs.Recursion.{below, below-lt}
use Rattle.language.specs.Tests.{both}

-- ---- Depths. A part that does not stand before its record has no depth.

abbrev pub depth_node : (ℕ → ℕ) → Node → ℕ
depth_node depth (D.constant v) = 1
depth_node depth (D.more m) = 1
depth_node depth (D.whole f) = 1
depth_node depth (D.one f e) = suc (depth e)
depth_node depth (D.part f b) = 1
depth_node depth (D.two f e g) = suc (max (depth e) (depth g))
depth_node depth (D.word_part f e b) = suc (depth e)
depth_node depth (D.binary k a b) = suc (max (depth a) (depth b))
depth_node depth (D.prefix k a) = suc (depth a)
depth_node depth (D.cut k a c) = suc (depth a)
depth_node depth (D.first_arm e) = suc (depth e)
depth_node depth (D.next_arm a e) = suc (max (depth a) (depth e))
depth_node depth (D.choice e a n) = suc (max (depth e) (depth a))
depth_node depth D.Node.broken = 1

module _ (d : Description) where
  abbrev pub depth_step : (ℕ → ℕ) → ℕ → ℕ
  depth_step depth n = depth_node depth (node_at d n)

  unfoldable pub depth_below : ℕ → ℕ → ℕ
  depth_below = below 0 depth_step

  unfoldable pub depth_at : ℕ → ℕ
  depth_at n = depth_step (depth_below n) n

  depth-lt : (n a : ℕ) → a < n → depth_below n a ≡ depth_at a
  unfolding depth_below depth_at
  depth-lt n a h = below-lt 0 depth_step n a h

  module _ (n : ℕ) (x : Node) (e : node_at d n ≡ x) where
    depth-here : depth_at n ≡ depth_node (depth_below n) x
    unfolding depth_at
    depth-here = ap (depth_node (depth_below n)) e

    pub depth-leaf : ((f : ℕ → ℕ) → depth_node f x ≡ 1) → depth_at n ≡ 1
    depth-leaf k = depth-here ∙ k (depth_below n)

    pub depth-one : (a : ℕ) → a < n → ((f : ℕ → ℕ) → depth_node f x ≡ suc (f a)) → depth_at n ≡ suc (depth_at a)
    depth-one a l k = depth-here ∙ k (depth_below n) ∙ ap suc (depth-lt n a l)

    pub depth-two : (a b : ℕ) → a < n → b < n → ((f : ℕ → ℕ) → depth_node f x ≡ suc (max (f a) (f b))) → depth_at n ≡ suc (max (depth_at a) (depth_at b))
    depth-two a b l m k = depth-here ∙ k (depth_below n) ∙ rw (depth-lt n a l, depth-lt n b m)

-- ---- Bounds. Each counted record has at most one arm above it, and one root is a left side that is not counted: twice 2,049, less one.

unfoldable pub most_expressions : ℕ
most_expressions = 34816

unfoldable pub most_actions : ℕ
most_actions = 4096

unfoldable pub deepest : ℕ
deepest = 4097

module _ (d : Description) where
  -- The first k expressions are not too deep.
  unfoldable pub shallow_to : ℕ → Bool
  shallow_to zero = true
  shallow_to (suc k) = both (shallow_to k) (leb (depth_at d k) deepest)

  unfoldable pub shallow : Bool
  unfolding shallow_to
  shallow = shallow_to (length d.expressions)

  unfoldable pub bounded : Bool
  bounded = both (leb (length d.expressions) most_expressions) (both (leb (length d.actions) most_actions) shallow)

  pub shallow-so : (k : ℕ) → ((n : ℕ) → n < k → depth_at d n ≤ 4097) → shallow_to k ≡ true
  unfolding shallow_to deepest
  shallow-so zero h = refl
  shallow-so (suc k) h = rw (shallow-so k (λ n l. h n (omega arith)), le-leb (depth_at d k) 4097 (h k (omega arith)))
