-- What stood before more was written behind it: the first records are the same.
use mathlib.Core.List.{List, [], ◌∷◌, ◌++◌, map}
use mathlib.Core.Path.{◌≡◌, refl, ap, ◌∙◌}
use Prim.Native.Nat.{ℕ, ◌*◌, ◌≤◌}
use native.Mathlib.Omega.{arith}
use lib.ListN.{length, take}
use lib.Seq.{take_at}
use Rattle.language.specs.Encode.{concat}
use Rattle.parse_tables.specs.declared.Table.{Table}
use Rattle.parse_tables.specs.Rows.{most, rows, size}
use Rattle.parse_array.specs.Layout.{work_size}
use Rattle.parse_held.proofs.BodyLaws.{row-length}
use Rattle.parse_held.proofs.RowByRow.{rows-shorter}

-- ---- Rows of a table.

pub rows_none : (t : Table) (w : List ℕ) → rows t 0 w ≡ []
unfolding rows
rows_none t w = let e : size t * 0 ≡ 0 = omega arith in rw e

-- Behind n rows others were written.
pub rows_before : (t : Table) (n m : ℕ) (w w' more : List ℕ) → length w ≡ work_size → n ≤ m → n ≤ most t → rows t m w' ≡ rows t n w ++ more → rows t n w' ≡ rows t n w
rows_before t n m w w' more l h k e = rows-shorter t n m w' h ∙ ap (take (size t * n)) e ∙ take_at (rows t n w) more (size t * n) (row-length t n w l k)

-- ---- Records of lists.

pub concat-mapped : {A B : Type 0} (f : B → List ℕ) (g : A → B) (xs : List A) → concat (λ x. f (g x)) xs ≡ concat f (map g xs)
unfolding concat
concat-mapped f g [] = refl
concat-mapped f g (x ∷ xs) = ap (λ (l : List ℕ). f (g x) ++ l) (concat-mapped f g xs)
