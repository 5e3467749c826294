-- One pass over the expressions notes their depths: what is noted of the first n records is their depth, and nothing is noted of others.
use mathlib.Core.Bool.{Bool, true, false, cond}
use mathlib.Core.List.{List}
use mathlib.Core.Path.{◌≡◌, refl, sym, ap, ◌∙◌}
use native.Mathlib.Numerals.{add-one}
use native.Mathlib.Omega.{arith}
use Prim.Native.Nat.{ℕ, zero, suc, ◌+◌, ◌/◌, ◌≤◌, ◌<◌}
use borrow.Author.Tests.{eqb-false, eqb-true, lt-leb, le-leb}
use lib.Dec.{eqb, leb}
use lib.ListN.{length, replicate, set}
use lib.Seq.{get_or-set_other, get_or-set_same}
use Rattle.language.specs.Decode.{node_of}
use Rattle.language.specs.Description as D
use Rattle.language.specs.Description.{Description, node_at}
use Rattle.language.specs.Recursion.{below}
use Rattle.image_records.specs.Nodes.{constant_number, meant}
use Rattle.image_records.specs.declared.nodes.Node.{Node}
use Rattle.image_records.specs.declared.nodes.Node.TheVariants as N
use Rattle.image_order.specs.Holds.{Actions, Nodes}
use Rattle.image_order.specs.Parts.{parts_of}
use Rattle.image_order.specs.declared.starts.Parts.{Parts}
use Rattle.image_order.specs.declared.starts.Parts.TheVariants as S
use Rattle.about_images.specs.Depth.{bounded, deepest, depth_at, depth_below, depth_node, depth_step, most_actions, most_expressions, shallow, shallow-so, shallow_to}
use Rattle.image_form.specs.Depths.{depth_parts, noted}
use Rattle.language.specs.Encode.{action_size, node_size}
use Rattle.language.specs.Tests.{both}

-- ---- Depths by parts.

depth-parts : (f : ℕ → ℕ) (v : ℕ) (x : Node) → depth_node f (meant v x) ≡ depth_parts f (parts_of x)
depth-parts f v (N.Constant l) = refl
depth-parts f v (N.More m) = refl
depth-parts f v (N.Whole g) = refl
depth-parts f v (N.One g e) = refl
depth-parts f v (N.Part g a b) = refl
depth-parts f v (N.Two g e h) = refl
depth-parts f v (N.WordPart g e a b) = refl
depth-parts f v (N.Binary k a b) = refl
depth-parts f v (N.Prefix k a) = refl
depth-parts f v (N.Cut k a c) = refl
depth-parts f v (N.FirstArm e) = refl
depth-parts f v (N.NextArm a e) = refl
depth-parts f v (N.Choice e a m) = refl
depth-parts f v N.Broken = refl

parts_same : (f g : ℕ → ℕ) → ((n : ℕ) → f n ≡ g n) → (x : Parts) → depth_parts f x ≡ depth_parts g x
parts_same f g h S.No = refl
parts_same f g h S.Leaf = refl
parts_same f g h (S.Digits l) = refl
parts_same f g h (S.One a) = ap suc (h a)
parts_same f g h (S.Two a b) = rw (h a, h b)

-- ---- What is noted after n records.

pub nothing : (k i : ℕ) → noted (replicate k 0) i ≡ 0
nothing zero i = refl
nothing (suc k) zero = refl
nothing (suc k) (suc i) = nothing k i

-- What is noted is small.
pub small-next : (depths : List ℕ) (n own : ℕ) → own ≤ 4097 → ((i : ℕ) → noted depths i ≤ 4097) → n < length depths → (i : ℕ) → noted (set depths n own) i ≤ 4097
small-next depths n own h f l i = by-test (eqb i n) refl
  where
    by-test : (b : Bool) → eqb i n ≡ b → noted (set depths n own) i ≤ 4097
    by-test true t = rw (eqb-true i n t, get_or-set_same depths n own 0 l) h
    by-test false t = rw (get_or-set_other depths n i own 0 (eqb-false i n t)) (f i)

pub record Noted (d : Description) (n : ℕ) (depths : List ℕ) : Type 0 where
  pub at : (i : ℕ) → noted depths i ≡ depth_below d n i
  pub shallow-so-far : shallow_to d n ≡ true

module _ (d : Description) where
  pub none-noted : (k : ℕ) → Noted d 0 (replicate k 0)
  unfolding depth_below shallow_to below
  none-noted k = record { at = nothing k; shallow-so-far = refl }

  module _ (s : List ℕ) (h : Nodes d s) (n : ℕ) (depths : List ℕ) (k : Noted d n depths) (x : Node) (e : meant (constant_number n s) x ≡ node_of s n) {own : ℕ} (o : own ≡ depth_parts (noted depths) (parts_of x)) where
    own-depth : own ≡ depth_at d n
    unfolding depth_at
    own-depth =
        o ∙ parts_same (noted depths) (depth_below d n) k.at (parts_of x) ∙ sym (depth-parts (depth_below d n) (constant_number n s) x)
        ∙ ap (depth_node (depth_below d n)) (e ∙ sym (h.at n))

    noted-next : n < length depths → (i : ℕ) → noted (set depths n own) i ≡ depth_below d (suc n) i
    unfolding depth_at depth_below below
    noted-next l i = by-test (eqb i n) refl
      where
        by-test : (b : Bool) → eqb i n ≡ b → noted (set depths n own) i ≡ cond b (depth_step d (below 0 (depth_step d) n) n) (below 0 (depth_step d) n i)
        by-test true t = rw (eqb-true i n t) (get_or-set_same depths n own 0 l ∙ own-depth)
        by-test false t = get_or-set_other depths n i own 0 (eqb-false i n t) ∙ k.at i

    pub one_more : n < length depths → own ≤ 4097 → Noted d (n + 1) (set depths n own)
    unfolding shallow_to deepest
    one_more l m = rw add-one (record { at = noted-next l; shallow-so-far = rw (k.shallow-so-far, ← own-depth) (le-leb own 4097 m) })

    -- A record that is too deep.
    too-deep : (m : ℕ) → n < m → 4097 < own → shallow_to d m ≡ false
    unfolding shallow_to deepest
    too-deep zero l g = absurd (omega arith)
    too-deep (suc m) l g = by-test (λ z. too-deep m z g) (eqb n m) refl
      where
        not-both : (b : Bool) → both b false ≡ false
        not-both true = refl
        not-both false = refl

        by-test : (n < m → shallow_to d m ≡ false) → (b : Bool) → eqb n m ≡ b → both (shallow_to d m) (leb (depth_at d m) 4097) ≡ false
        by-test f true t = rw (← eqb-true n m t, ← own-depth, lt-leb own 4097 g) (not-both (shallow_to d n))
        by-test f false t = rw (f (omega (arith, eqb-false n m t)))

    pub refused : n < length s / node_size → 4097 < own → false ≡ shallow d
    unfolding shallow
    refused l g = sym (too-deep (length d.expressions) (omega (arith, h.count)) g)

  pub all_noted : (s : List ℕ) → Nodes d s → (n : ℕ) (depths : List ℕ) → n ≡ length s / node_size → Noted d n depths → true ≡ shallow d
  unfolding shallow
  all_noted s h n depths e k = let z : length d.expressions ≡ n = h.count ∙ sym e in rw z (sym k.shallow-so-far)

-- ---- Few records.

module _ (d : Description) where
  pub many-expressions : (s : List ℕ) → Nodes d s → 34816 < length s / node_size → false ≡ bounded d
  unfolding bounded most_expressions
  many-expressions s h l = rw (lt-leb (length d.expressions) 34816 (omega (arith, h.count)))

  pub many-actions : (s : List ℕ) → Actions d s → 4096 < length s / action_size → false ≡ bounded d
  unfolding bounded most_actions
  many-actions s h l = rw (lt-leb (length d.actions) 4096 (omega (arith, h.count))) (by-test (leb (length d.expressions) most_expressions))
    where
      by-test : (b : Bool) → false ≡ both b false
      by-test true = refl
      by-test false = refl

  pub few : (s t : List ℕ) → Nodes d s → Actions d t → length s / node_size ≤ 34816 → length t / action_size ≤ 4096 → shallow d ≡ bounded d
  unfolding bounded most_expressions most_actions
  few s t h k l m = rw (le-leb (length d.expressions) 34816 (omega (arith, h.count)), le-leb (length d.actions) 4096 (omega (arith, k.count)))

-- ---- A record is no deeper than the records up to it are many.

node-deep : (f : ℕ → ℕ) (n : ℕ) → ((a : ℕ) → f a ≤ n) → (x : D.Node) → depth_node f x ≤ suc n
node-deep f n h (D.constant v) = omega arith
node-deep f n h (D.more m) = omega arith
node-deep f n h (D.whole g) = omega arith
node-deep f n h (D.one g e) = omega (arith, h e)
node-deep f n h (D.part g b) = omega arith
node-deep f n h (D.two g e k) = omega (arith, h e, h k)
node-deep f n h (D.word_part g e b) = omega (arith, h e)
node-deep f n h (D.binary k a b) = omega (arith, h a, h b)
node-deep f n h (D.prefix k a) = omega (arith, h a)
node-deep f n h (D.cut k a c) = omega (arith, h a)
node-deep f n h (D.first_arm e) = omega (arith, h e)
node-deep f n h (D.next_arm a e) = omega (arith, h a, h e)
node-deep f n h (D.choice e a m) = omega (arith, h e, h a)
node-deep f n h D.Node.broken = omega arith

module _ (d : Description) where
  below-deep : (n i : ℕ) → depth_below d n i ≤ n
  unfolding depth_below below
  below-deep zero i = omega arith
  below-deep (suc n) i = by-test (below-deep n) (eqb i n)
    where
      by-test : ((a : ℕ) → below 0 (depth_step d) n a ≤ n) → (b : Bool) → cond b (depth_step d (below 0 (depth_step d) n) n) (below 0 (depth_step d) n i) ≤ suc n
      by-test f true = node-deep (below 0 (depth_step d) n) n f (node_at d n)
      by-test f false = omega (arith, f i)

  pub few-shallow : (s : List ℕ) → Nodes d s → length s / node_size ≤ 4097 → true ≡ shallow d
  unfolding shallow depth_at
  few-shallow s h l =
      sym (shallow-so d (length d.expressions) (λ n k. let b : depth_at d n ≤ suc n = node-deep (depth_below d n) n (below-deep n) (node_at d n) in omega (arith, h.count)))
