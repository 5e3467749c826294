-- What the working array holds of the expressions: their records in bytes and the places beside them, each behind the other; and all the rest.
use Rattle.std.specs.Prelude.{List, ◌++◌, ◌≡◌, ℕ, ◌+◌, ◌*◌, ◌<◌, ◌≤◌, drop, take, Option, None, Some}
use Rattle.language.specs.Describe.{Noted}
use Rattle.language.specs.Encode.{concat, node_bytes, node_size, two}
use Rattle.judge_records.specs.Noted.{node_beside_bytes}
use Rattle.parse_array.specs.declared.nodes.Beside.{Beside}
use Rattle.parse_array.specs.Layout.{most_nodes, other_from, places_from}

pub record Held : Type 0 where
  pub nodes : List ℕ
  pub places : List ℕ
  pub other : List ℕ

unfoldable pub other_in : List ℕ → List ℕ
other_in w = drop other_from w

-- With n expression records.
unfoldable pub held : ℕ → List ℕ → Held
held n w = record { nodes = take (node_size * n) w; places = take (6 * n) (drop places_from w); other = other_in w }

-- More bytes behind those of the records, and of the places.
abbrev pub with_bytes : Held → List ℕ → List ℕ → Held
with_bytes h bs ps = record { nodes = h.nodes ++ bs; places = h.places ++ ps; other = h.other }

-- More records.
unfoldable pub with_nodes : Held → List Noted → Held
with_nodes h ns = with_bytes h (concat (λ n. node_bytes n.node) ns) (concat (λ n. node_beside_bytes n.node n.places) ns)

abbrev pub fields : Beside → List ℕ
fields p = two p.at ++ (two p.first ++ two p.last)

-- What adding a record of these bytes to n others leaves: it, where there was room.
pub record Added (n : ℕ) (bs ps w w' : List ℕ) (r : Option ℕ) : Type 0 where
  pub room : {m : ℕ} → r ≡ Some m → n < most_nodes
  pub count : {m : ℕ} → r ≡ Some m → m ≡ n + 1
  pub added : {m : ℕ} → r ≡ Some m → held (n + 1) w' ≡ with_bytes (held n w) bs ps
  pub full : r ≡ None → most_nodes ≤ n

-- What adding records that are `size` in number to n others leaves: them, where there was room for them all.
pub record Grew (n : ℕ) (ns : List Noted) (size : ℕ) (w w' : List ℕ) (r : Option ℕ) : Type 0 where
  pub nodes : {m : ℕ} → r ≡ Some m → m ≡ n + size
  pub added : {m : ℕ} → r ≡ Some m → held m w' ≡ with_nodes (held n w) ns
  pub full : r ≡ None → most_nodes < n + size
