-- The sections of records: how long they are, and one behind the other in an image.
use mathlib.Core.List.{List, ◌++◌, append_assoc}
use mathlib.Core.Path.{◌≡◌, ap, ◌∙◌}
use Prim.Native.Nat.{ℕ, ◌+◌, ◌*◌, ◌≤◌}
use native.Mathlib.Nat.{min-eq_left, mul-le-mul_left}
use native.Mathlib.Omega.{arith}
use lib.ListN.{drop, length, length-append, length-drop, length-take}
use lib.Seq.{length-take-le}
use Rattle.image_sections.specs.Header.{names_from}
use Rattle.language.specs.Reading.{filled}
use Rattle.image_records.specs.Placed.{placed}
use Rattle.parse_tables.proofs.RowLaws.{ends-within}
use Rattle.parse_tables.specs.declared.Table.{Table}
use Rattle.parse_tables.specs.declared.Table.TheVariants as T
use Rattle.parse_tables.specs.Rows.{from, most, rows, size}
use Rattle.parse_array.specs.Held.{held}
use Rattle.parse_array.specs.Layout.{most_nodes, work_size}
use Rattle.image_records.proofs.FilledLaws.{filled_more}
use Rattle.language.specs.Encode.{action_size, facility_size, header_size, node_size, operation_size, state_size}
use Rattle.parse_held.specs.declared.Holding.{Holding}
use Rattle.parse_held.specs.Sections.{Few, counts_held, records_held, within}

pub within-few : (c : Holding) → Few c → within c ≡ c
unfolding within
within-few c f = rw (min-eq_left f.facilities, min-eq_left f.operations, min-eq_left f.nodes, min-eq_left f.actions, min-eq_left f.states)

-- ---- Lengths.

pub row-most : (t : Table) (n : ℕ) (w : List ℕ) → length (rows t n w) ≤ size t * n
unfolding rows
row-most t n w = omega (arith, length-take (size t * n) (drop (from t) w))

pub row-length : (t : Table) (n : ℕ) (w : List ℕ) → length w ≡ work_size → n ≤ most t → length (rows t n w) ≡ size t * n
unfolding rows
row-length t n w l h =
    let e = mul-le-mul_left (size t) h in
    length-take-le (size t * n) (drop (from t) w) (omega (arith, e, ends-within t, length-drop (from t) w))

pub node-length : (n : ℕ) (w : List ℕ) → length w ≡ work_size → n ≤ most_nodes → length (held n w).nodes ≡ node_size * n
unfolding held
node-length n w l h = length-take-le (node_size * n) w (omega arith)

-- ---- In an image.

module _ (w : List ℕ) (c : Holding) (l : length w ≡ work_size) (few : Few c) where
  pub records-length : header_size + length (records_held w c) ≡ names_from (counts_held c 0)
  unfolding records_held
  records-length =
      let f = row-length T.Facilities c.facilities w l few.facilities in
      let o = row-length T.Operations c.operations w l few.operations in
      let e = node-length c.nodes w l few.nodes in
      let a = row-length T.Actions c.actions w l few.actions in
      let s = row-length T.States c.states w l few.states in
      simp (length-append, f, o, e, a, s) (omega arith)

  pub records-put : (n : ℕ) (p : List ℕ) {i₀ i₁ i₂ i₃ i₄ i₅ fs os es acts ss : List ℕ} → length p ≡ 52 → i₀ ≡ filled n p → names_from (counts_held c 0) ≤ n
      → fs ≡ rows T.Facilities c.facilities w → i₁ ≡ placed i₀ 52 fs
      → os ≡ rows T.Operations c.operations w → i₂ ≡ placed i₁ (header_size + facility_size * c.facilities) os
      → es ≡ (held c.nodes w).nodes → i₃ ≡ placed i₂ (header_size + facility_size * c.facilities + operation_size * c.operations) es
      → acts ≡ rows T.Actions c.actions w → i₄ ≡ placed i₃ (header_size + facility_size * c.facilities + operation_size * c.operations + node_size * c.nodes) acts
      → ss ≡ rows T.States c.states w → i₅ ≡ placed i₄ (header_size + facility_size * c.facilities + operation_size * c.operations + node_size * c.nodes + action_size * c.actions) ss
      → i₅ ≡ filled n (p ++ records_held w c)
  unfolding records_held
  records-put n p k z h e₁ p₁ e₂ p₂ e₃ p₃ e₄ p₄ e₅ p₅ =
      let fs = rows T.Facilities c.facilities w in
      let os = rows T.Operations c.operations w in
      let es = (held c.nodes w).nodes in
      let acts = rows T.Actions c.actions w in
      let ss = rows T.States c.states w in
      let f : length fs ≡ facility_size * c.facilities = row-length T.Facilities c.facilities w l few.facilities in
      let o : length os ≡ operation_size * c.operations = row-length T.Operations c.operations w l few.operations in
      let e : length es ≡ node_size * c.nodes = node-length c.nodes w l few.nodes in
      let a : length acts ≡ action_size * c.actions = row-length T.Actions c.actions w l few.actions in
      let s : length ss ≡ state_size * c.states = row-length T.States c.states w l few.states in
      let q₁ = filled_more n p fs k z (omega arith) e₁ p₁ in
      let k₁ : length (p ++ fs) ≡ header_size + facility_size * c.facilities = length-append p fs ∙ omega arith in
      let q₂ = filled_more n (p ++ fs) os k₁ q₁ (omega arith) e₂ p₂ in
      let k₂ : length (p ++ fs ++ os) ≡ header_size + facility_size * c.facilities + operation_size * c.operations = length-append (p ++ fs) os ∙ omega arith in
      let q₃ = filled_more n (p ++ fs ++ os) es k₂ q₂ (omega arith) e₃ p₃ in
      let k₃ : length (p ++ fs ++ os ++ es) ≡ header_size + facility_size * c.facilities + operation_size * c.operations + node_size * c.nodes = length-append (p ++ fs ++ os) es ∙ omega arith in
      let q₄ = filled_more n (p ++ fs ++ os ++ es) acts k₃ q₃ (omega arith) e₄ p₄ in
      let k₄ : length (p ++ fs ++ os ++ es ++ acts) ≡ header_size + facility_size * c.facilities + operation_size * c.operations + node_size * c.nodes + action_size * c.actions = length-append (p ++ fs ++ os ++ es) acts ∙ omega arith in
      filled_more n (p ++ fs ++ os ++ es ++ acts) ss k₄ q₄ (omega arith) e₅ p₅ ∙ ap (filled n) (simp append_assoc)
