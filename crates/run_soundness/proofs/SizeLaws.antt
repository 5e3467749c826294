-- The size of a store facility by facility. Assumes nothing.
use mathlib.Core.List.{List}
use mathlib.Core.Path.{◌≡◌, ap, ◌∙◌}
use Prim.Native.Nat.{ℕ, suc, ◌+◌, ◌<◌}
use lib.ListN.{drop, get_or, length}
use lib.Seq.{drop-cons}
use Rattle.language.specs.Description.{Facility, no_facility}
use Rattle.language.specs.Layout.{facility_bytes, store_size_of}

-- Facility n and those after it.
pub size-here : (fs : List Facility) (n : ℕ) (f : Facility) → n < length fs → get_or fs n no_facility ≡ f → store_size_of (drop n fs) ≡ facility_bytes f + store_size_of (drop (suc n) fs)
unfolding store_size_of
size-here fs n f h e = ap store_size_of (drop-cons fs n no_facility h) ∙ ap (λ (g : Facility). facility_bytes g + store_size_of (drop (suc n) fs)) e
