-- A tree whose records stand in a description: from where on, how many, and what they count. Trees of one part and of two. Assumes nothing.
use Rattle.std.specs.Prelude.{List, [], ◌∷◌, ◌++◌, ◌≡◌, ℕ, suc, ◌+◌, length}
use Rattle.std.proofs.Math.Path.{sym}
use Rattle.std.proofs.Common.{◌∙◌}
use native.Mathlib.Omega.{arith}
use Rattle.language.specs.Canonical.{node_count, total}
use Rattle.language.specs.CountedWords.{counted_expression}
use Rattle.language.specs.Describe.{Noted, expression_size, last_of, nodes_of}
use Rattle.language.specs.Description.{Description, node_at}
use Rattle.language.specs.Naming.{Scope}
use Rattle.language.specs.Tree.{Expression}
use Rattle.about_rules.specs.Counted.{nodes, nodes-append}
use Rattle.about_rules.specs.Sizes.{nodes-size}
use Rattle.about_rules.specs.Starts.{Stand}

module _ (d : Description) (sc : Scope) where
  pub record Placed (n s : ℕ) (t : Expression) : Type 0 where
    pub size : s + expression_size t ≡ n + 1
    pub stands : Stand d s (nodes_of sc s t)
    pub counted : nodes (nodes_of sc s t) ≡ counted_expression t

  pub stand-append : (s at : ℕ) (xs ys : List Noted) → Stand d s xs → at ≡ s + length xs → Stand d at ys → Stand d s (xs ++ ys)
  stand-append s at [] ys h e k = let z : at ≡ s = omega (arith, e) in rw z at k
  stand-append s at (x ∷ xs) ys h e k = (h.0, stand-append (suc s) at xs ys h.1 (omega (arith, e)) k)

  -- One record.
  pub leaf : (n : ℕ) (t : Expression) (R : Noted) → node_at d n ≡ R.node → nodes_of sc n t ≡ R ∷ [] → expression_size t ≡ 1 → counted_expression t ≡ node_count R.node → Placed n n t
  unfolding total
  leaf n t R q e z c = record {
    size = omega (arith, z);
    stands = rw e (q, tt);
    counted = rw e (let y : node_count R.node + 0 ≡ node_count R.node = omega arith in y ∙ sym c);
  }

  -- The root behind one part.
  pub behind-one : (n a s : ℕ) (x t : Expression) (R : Noted) → a + 1 ≡ n → Placed a s x → node_at d n ≡ R.node → nodes_of sc s t ≡ nodes_of sc s x ++ R ∷ [] → expression_size t ≡ expression_size x + 1
      → counted_expression t ≡ counted_expression x + node_count R.node → Placed n s t
  unfolding total
  behind-one n a s x t R l h q e z c =
      let m = nodes-size sc s x in
      let k = h.size in
      let y : nodes (nodes_of sc s x ++ R ∷ []) ≡ nodes (nodes_of sc s x) + (node_count R.node + 0) = nodes-append (nodes_of sc s x) (R ∷ []) in
      record {
        size = omega (arith, z, k, l);
        stands = rw e (stand-append s n (nodes_of sc s x) (R ∷ []) h.stands (omega (arith, m, k, l)) (q, tt));
        counted = rw e (let i = h.counted in omega (arith, y, i, c));
      }

  -- The root behind two parts.
  pub behind-two : (n a b m s : ℕ) (x y t : Expression) (R : Noted) → b + 1 ≡ n → a + 1 ≡ m → Placed a s x → Placed b m y → node_at d n ≡ R.node
      → nodes_of sc s t ≡ nodes_of sc s x ++ (nodes_of sc (s + expression_size x) y ++ R ∷ []) → expression_size t ≡ expression_size x + expression_size y + 1
      → counted_expression t ≡ counted_expression x + counted_expression y + node_count R.node → Placed n s t
  unfolding total
  behind-two n a b m s x y t R l j h k q e z c =
      let at : s + expression_size x ≡ m = let i = h.size in omega (arith, i, j) in
      let xs = nodes_of sc s x in
      let ys = nodes_of sc m y in
      let u = nodes-append xs (ys ++ R ∷ []) in
      let v : nodes (ys ++ R ∷ []) ≡ nodes ys + (node_count R.node + 0) = nodes-append ys (R ∷ []) in
      let p = nodes-size sc s x in
      let r = nodes-size sc m y in
      let i = h.size in
      let g = k.size in
      record {
        size = omega (arith, i, g, z, l, j);
        stands = rw (e, at) (stand-append s m xs (ys ++ R ∷ []) h.stands (omega (arith, p, at)) (stand-append m n ys (R ∷ []) k.stands (omega (arith, r, g, l)) (q, tt)));
        counted = rw (e, at) (let f = h.counted in let o = k.counted in omega (arith, u, v, f, o, c));
      }

  -- The number of a part's last record.
  pub last-record : (n s : ℕ) (t : Expression) → Placed n s t → last_of s (expression_size t) ≡ n
  last-record n s t h = let i = h.size in omega (arith, i)
