-- What a record is worth, by the kind of record, over any store.
use mathlib.Core.List.{List, [], ◌∷◌}
use mathlib.Core.Path.{◌≡◌, refl, sym, ap, ◌∙◌}
use Prim.Native.Nat.{ℕ, ◌^◌, ◌<◌, ◌≤◌}
use native.Mathlib.Nat.{lt_of_lt_of_le, mod-eq_of_lt}
use borrow.Author.Tests.{lt-ltb}
use denote.Enum.Declared.{tag_of}
use lib.Pow.{pow_mono}
use types.Run.{OneOf, miss}
use Rattle.language.specs.Decode.{node_of}
use Rattle.language.specs.Description as D
use Rattle.language.specs.Description.{Description, node_at}
use Rattle.language.specs.Meaning.{Answer, Stores, constant_worth, eval_at, eval_below, eval_node, eval_step, fitting, not_before}
use Rattle.language.specs.Recursion.{below-ge, below-lt}
use Rattle.language.specs.References.{reference_of}
use Rattle.language.specs.Value.{Value, value}
use Rattle.image_records.specs.contracts.nodes.Node.{the_type}
use Rattle.image_records.specs.Nodes.{constant_number, held, meant}
use Rattle.image_records.specs.declared.nodes.Node.{Node}
use Rattle.image_records.specs.declared.nodes.Node.TheVariants as N
use Rattle.run_references.specs.Described.{Nodes}
use Rattle.run_references.specs.Places.{referred}

-- A value that 256 bits hold is held whole.
pub held_whole : (v : Value) → v.number < 2 ^ 256 → held v ≡ v
unfolding held
held_whole v h = ap (value v.length) (mod-eq_of_lt h)

-- A number that fits its length, of up to 256 bits, is held whole.
pub held-fitting : (v : Value) → v.number < 2 ^ v.length → v.length ≤ 256 → held v ≡ v
held-fitting v h l = held_whole v (lt_of_lt_of_le h (pow_mono l))

pub constant-worth : (v : Value) → v.number < 2 ^ v.length → constant_worth v ≡ Answer.is v
unfolding fitting
constant-worth v h = rw (lt-ltb v.number (2 ^ v.length) h)

-- Record n of the description is the node that was read.
pub node-read : (d : Description) (E : List ℕ) (n : ℕ) → Nodes d E → {r : Node} (nd : Node) → meant (constant_number n E) r ≡ node_of E n → r ≡ nd
    → node_at d n ≡ meant (constant_number n E) nd
node-read d E n h nd p q = h n ∙ (sym p ∙ ap (meant (constant_number n E)) q)

-- Neither constants nor operators nor conditionals.
abbrev pub others : List ℕ
others = 1 ∷ 2 ∷ 3 ∷ 4 ∷ 5 ∷ 6 ∷ 10 ∷ 11 ∷ 13 ∷ []

module _ {X : Type 0} (S : Stores X) (d : Description) (x : X) where
  pub eval-before : (n a : ℕ) → a < n → eval_below S d x n a ≡ eval_at S d x a
  unfolding eval_below eval_at
  eval-before n a h = below-lt (Answer.stuck not_before) (eval_step S d x) n a h

  pub eval-not-before : (n a : ℕ) → n ≤ a → eval_below S d x n a ≡ Answer.stuck not_before
  unfolding eval_below
  eval-not-before n a h = below-ge (Answer.stuck not_before) (eval_step S d x) n a h

  pub eval-node : (n : ℕ) (nd : D.Node) → node_at d n ≡ nd → eval_at S d x n ≡ eval_node S d x (eval_below S d x n) nd
  unfolding eval_at
  eval-node n nd e = ap (eval_node S d x (eval_below S d x n)) e

  pub other-worth : (v : ℕ) (ev : ℕ → Answer) (r : Node) → OneOf others (tag_of the_type r)
      → eval_node S d x ev (meant v r) ≡ referred S d x ev (reference_of (meant 0 r))
  unfolding eval_node
  other-worth v ev (N.Constant l) k = absurd (miss others 0 tt k)
  other-worth v ev (N.More m) k = refl
  other-worth v ev (N.Whole f) k = refl
  other-worth v ev (N.One f e) k = refl
  other-worth v ev (N.Part f a b) k = refl
  other-worth v ev (N.Two f e g) k = refl
  other-worth v ev (N.WordPart f e a b) k = refl
  other-worth v ev (N.Binary o a b) k = absurd (miss others 7 tt k)
  other-worth v ev (N.Prefix o a) k = absurd (miss others 8 tt k)
  other-worth v ev (N.Cut o a c) k = absurd (miss others 9 tt k)
  other-worth v ev (N.FirstArm e) k = refl
  other-worth v ev (N.NextArm a e) k = refl
  other-worth v ev (N.Choice e a n) k = absurd (miss others 12 tt k)
  other-worth v ev N.Broken k = refl
