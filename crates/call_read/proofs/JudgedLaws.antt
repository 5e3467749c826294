-- What judging is handed of the array.
use mathlib.Core.List.{List, [], ◌++◌}
use mathlib.Core.Path.{◌≡◌, refl, ap, ◌∙◌}
use Prim.Native.Nat.{ℕ, ◌+◌, ◌*◌, ◌/◌, ◌≤◌}
use native.Mathlib.Omega.{arith}
use lib.ListN.{drop, length, length-replicate, replicate, take}
use lib.Seq.{take-append_seam}
use Rattle.language.specs.Reading.{filled}
use Rattle.parse_tables.specs.declared.Table.TheVariants as T
use Rattle.parse_tables.specs.Rows.{rows}
use Rattle.parse_held.proofs.BodyLaws.{row-most}
use Rattle.image_records.proofs.FilledLaws.{filled_none}
use Rattle.language.specs.Encode.{facility_size, operation_size}

-- Few enough facilities and operations.
pub not-many : (w fs os : List ℕ) {n m : ℕ} → n ≤ 256 → m ≤ 128 → fs ≡ rows T.Facilities n w → os ≡ rows T.Operations m w → (length fs / facility_size ≤ 65536) × (length os / operation_size ≤ 256)
not-many w fs os {n} {m} h g e f =
    let a : length fs ≤ facility_size * n = omega (arith, ap length e, row-most T.Facilities n w) in
    let b : length os ≤ operation_size * m = omega (arith, ap length f, row-most T.Operations m w) in
    (omega arith, omega arith)

-- Bytes written to a row of zeros, read again.
pub read_again : (room : ℕ) (names : List ℕ) {i₀ i₁ ns : List ℕ} {n : ℕ} → i₀ ≡ replicate room 0
    → ((p : List ℕ) → length p ≡ 0 → i₀ ≡ filled (length i₀) p → 0 + length names ≤ length i₀ → i₁ ≡ filled (length i₀) (p ++ names))
    → n ≡ length names → ns ≡ take n (drop 0 i₁) → length names ≤ room → ns ≡ names
unfolding filled
read_again room names {i₀} {i₁} z f e g h =
    let l : length i₀ ≡ room = ap length z ∙ length-replicate room 0 in
    let q : i₁ ≡ filled (length i₀) names = f [] refl (z ∙ rw (← l) (filled_none (length i₀))) (omega arith) in
    g ∙ rw (q, e) (take-append_seam names _)
