-- What stays as it is while actions are read: the tables of names, the records before, the ceilings.
use mathlib.Core.List.{List}
use mathlib.Core.Path.{◌≡◌, refl, sym, ap, ◌∙◌}
use Prim.Native.Nat.{ℕ, ◌+◌, ◌*◌, ◌≤◌}
use native.Mathlib.Omega.{arith}
use lib.ListN.{drop, length, length-drop, take}
use lib.Seq.{drop_at, length-take-le, take-add, take-take}
use Rattle.language.specs.Encode.{node_size}
use Rattle.language.specs.Naming.{Scope}
use Rattle.parse_tables.specs.declared.meaning.KnownNames.{KnownNames}
use Rattle.parse_tables.specs.Known.{Known}
use Rattle.parse_tables.proofs.NamesGrown.{names-kept}
use Rattle.parse_tables.proofs.RowLaws.{rows_other}
use Rattle.parse_tables.specs.declared.Table.TheVariants as T
use Rattle.parse_tables.specs.Rows.{expressions, rows}
use Rattle.parse_array.proofs.Regions.{same-held}
use Rattle.parse_array.specs.Held.{held, other_in}
use Rattle.parse_array.specs.Layout.{facility_rows, most_nodes, operation_rows, other_from, places_from, work_size}
use Rattle.parse_stores.specs.Actions.{OthersKept, front_of}

-- ---- Tables, read from all that stands behind the expressions.

module _ (w w' : List ℕ) where
  pub others-other : other_in w' ≡ other_in w → OthersKept w w'
  others-other e u a m h = rows_other w w' e u m

  pub whole-other : other_in w' ≡ other_in w → length w ≡ work_size → length w' ≡ work_size
  unfolding other_in
  whole-other e l = omega (arith, length-drop other_from w', length-drop other_from w, ap length e)

  -- ---- The first records, where nothing before the tables changes.

  front-part : length w ≡ work_size → length w' ≡ work_size → expressions w' ≡ expressions w → (p k : ℕ) → p + k ≤ other_from → take k (drop p w') ≡ take k (drop p w)
  unfolding expressions
  front-part l l' e p k h = part w' (omega arith) ∙ ap (drop p) (sym (take-take (p + k) other_from w' h) ∙ ap (take (p + k)) e ∙ take-take (p + k) other_from w h) ∙ sym (part w (omega arith))
    where
      part : (v : List ℕ) → p ≤ length v → take k (drop p v) ≡ drop p (take (p + k) v)
      part v g = sym (ap (drop p) (take-add p k v) ∙ drop_at (take p v) (take k (drop p v)) p (length-take-le p v g))

  pub front_kept : length w ≡ work_size → length w' ≡ work_size → expressions w' ≡ expressions w → (n : ℕ) → n ≤ most_nodes → front_of n w' ≡ front_of n w
  unfolding front_of held
  front_kept l l' e n h = same-held (front-part l l' e 0 (node_size * n) (omega arith)) (front-part l l' e places_from (6 * n) (omega arith)) refl

-- ---- The names known.

-- Where the tables of names are as they were.
pub known_by : {text : List ℕ} {sc : Scope} {n : KnownNames} {w : List ℕ} (w' : List ℕ) → ((m : ℕ) → m ≤ facility_rows → rows T.FacilityNames m w' ≡ rows T.FacilityNames m w)
    → ((m : ℕ) → m ≤ operation_rows → rows T.OperationNames m w' ≡ rows T.OperationNames m w) → Known text sc n w → Known text sc n w'
known_by {text} {n = n} {w} w' f o k = record {
  facilities = k.facilities ∙ sym (names-kept text T.FacilityNames w w' f n.facilities);
  operations = k.operations ∙ sym (names-kept text T.OperationNames w w' o n.operations);
  states = k.states;
}

pub known_kept : {text : List ℕ} {sc : Scope} {n : KnownNames} {w : List ℕ} (w' : List ℕ) → OthersKept w w' → Known text sc n w → Known text sc n w'
known_kept w' o k = known_by w' (o T.FacilityNames refl) (o T.OperationNames refl) k
