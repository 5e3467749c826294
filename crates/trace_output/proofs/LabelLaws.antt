-- A label in print, and the line of a cycle. Assumes nothing.
use mathlib.Core.List.{List, [], ◌∷◌, ◌++◌}
use mathlib.Core.Path.{◌≡◌, refl, ap}
use Prim.Native.Nat.{ℕ}
use native.Mathlib.Omega.{arith}
use lib.ListN.{length}
use Rattle.language.specs.Description.{Description, state_at}
use Rattle.language.specs.Scan.{bytes}
use Rattle.language.specs.Store.{from_bytes}
use Rattle.language.specs.Trace.{cycle_line, decimal, facilities_line, line_end, printed_label}
use Rattle.language.specs.Tree.{Name}

pub no_label : (n : Name) → length n ≡ 0 → 45 ∷ [] ≡ printed_label n
unfolding bytes
no_label [] e = refl
no_label (b ∷ n) e = absurd (omega arith)

pub some-label : (n : Name) → (length n ≡ 0 → ⊥) → n ≡ printed_label n
some-label [] h = absurd (h refl)
some-label (b ∷ n) h = refl

pub line-whole : (d : Description) (number state : ℕ) (B n : List ℕ) → n ≡ (state_at d state).name
    → decimal number ++ ((32 ∷ []) ++ (printed_label n ++ (facilities_line d.facilities (from_bytes d.facilities B) ++ line_end))) ≡ cycle_line d number state B
unfolding cycle_line bytes
line-whole d number state B n e =
    ap (λ (m : List ℕ). decimal number ++ ((32 ∷ []) ++ (printed_label m ++ (facilities_line d.facilities (from_bytes d.facilities B) ++ line_end)))) e
