-- What record n of the expressions is, by its mark.
use mathlib.Core.Bool.{true, false}
use mathlib.Core.List.{List, [], ◌∷◌}
use mathlib.Core.Path.{◌≡◌, refl, ◌∙◌}
use Prim.Native.Nat.{ℕ, ◌+◌, ◌*◌, ◌/◌, ◌<◌, ◌≤◌}
use native.Mathlib.Omega.{arith}
use borrow.Author.Tests.{ne_eqb, le-leb, lt-leb}
use denote.Enum.Declared.{tag_of}
use types.Run.{OneOf, miss}
use lib.Dec.{eqb}
use lib.ListN.{length, get_or}
use Rattle.language.specs.Decode.{constant_at, digits_marked, node_of, number_at, pick, plain_node}
use Rattle.language.specs.Description as D
use Rattle.language.specs.Description.{constant_value}
use Rattle.language.specs.Value.{value}
use Rattle.image_records.proofs.DigitLaws.{further-of}
use Rattle.image_records.specs.contracts.nodes.Node.{the_type}
use Rattle.image_records.specs.Nodes.{constant_number, meant}
use Rattle.image_records.specs.declared.nodes.Node.{Node}
use Rattle.image_records.specs.declared.nodes.Node.TheVariants as N
use Rattle.language.specs.Encode.{node_size}

module _ (s : List ℕ) (n : ℕ) where
  pub node-past : length s / node_size ≤ n → node_of s n ≡ D.Node.broken
  unfolding node_of
  node-past h = let g : length s < node_size * n + node_size = omega arith in rw (lt-leb _ _ g)

  module _ (h : n < length s / node_size) where
    pub node-whole : node_of s n
        ≡ pick (eqb (get_or s (node_size * n) 0) 1) (constant_at n s)
        (pick (eqb (get_or s (node_size * n) 0) 2) (D.more (number_at 6 (node_size * n + 2) s))
        (plain_node (get_or s (node_size * n) 0) (get_or s (node_size * n + 1) 0) (number_at 2 (node_size * n + 2) s) (number_at 2 (node_size * n + 4) s) (number_at 2 (node_size * n + 6) s)))
    unfolding node_of
    node-whole = let g : node_size * n + node_size ≤ length s = omega arith in rw (le-leb _ _ g)

    pub node-constant : get_or s (node_size * n) 0 ≡ 1 → digits_marked (get_or s (node_size * n + 1) 0 / 48) n s ≡ true
        → node_of s n ≡ D.constant (value (get_or s (node_size * n + 1) 0 + 1) (constant_number n s))
    unfolding constant_at constant_number
    node-constant m e = node-whole ∙ rw (m, further-of (get_or s (node_size * n + 1) 0), e)

    pub node-unmarked : get_or s (node_size * n) 0 ≡ 1 → digits_marked (get_or s (node_size * n + 1) 0 / 48) n s ≡ false → node_of s n ≡ D.Node.broken
    unfolding constant_at
    node-unmarked m e = node-whole ∙ rw (m, further-of (get_or s (node_size * n + 1) 0), e)

    pub node-more : get_or s (node_size * n) 0 ≡ 2 → node_of s n ≡ D.more (number_at 6 (node_size * n + 2) s)
    node-more m = node-whole ∙ rw m

    pub node-plain : (get_or s (node_size * n) 0 ≡ 1 → ⊥) → (get_or s (node_size * n) 0 ≡ 2 → ⊥)
        → node_of s n
        ≡ plain_node (get_or s (node_size * n) 0) (get_or s (node_size * n + 1) 0) (number_at 2 (node_size * n + 2) s) (number_at 2 (node_size * n + 4) s) (number_at 2 (node_size * n + 6) s)
    node-plain p q = node-whole ∙ rw (ne_eqb _ _ p, ne_eqb _ _ q)

-- ---- Values.

not_first : OneOf (1 ∷ 2 ∷ 3 ∷ 4 ∷ 5 ∷ 6 ∷ 7 ∷ 8 ∷ 9 ∷ 10 ∷ 11 ∷ 12 ∷ 13 ∷ []) 0 → ⊥
not_first = miss (1 ∷ 2 ∷ 3 ∷ 4 ∷ 5 ∷ 6 ∷ 7 ∷ 8 ∷ 9 ∷ 10 ∷ 11 ∷ 12 ∷ 13 ∷ []) 0 tt

-- What is no constant has no bits.
pub no_value : (v : ℕ) (r : Node) → OneOf (1 ∷ 2 ∷ 3 ∷ 4 ∷ 5 ∷ 6 ∷ 7 ∷ 8 ∷ 9 ∷ 10 ∷ 11 ∷ 12 ∷ 13 ∷ []) (tag_of the_type r)
    → constant_value (meant v r) ≡ value 0 0
no_value v (N.Constant l) k = absurd (not_first k)
no_value v (N.More d) k = refl
no_value v (N.Whole f) k = refl
no_value v (N.One f e) k = refl
no_value v (N.Part f a b) k = refl
no_value v (N.Two f e g) k = refl
no_value v (N.WordPart f e a b) k = refl
no_value v (N.Binary o a b) k = refl
no_value v (N.Prefix o a) k = refl
no_value v (N.Cut o a c) k = refl
no_value v (N.FirstArm e) k = refl
no_value v (N.NextArm a e) k = refl
no_value v (N.Choice e a n) k = refl
no_value v N.Broken k = refl
