-- The left side of a store: the place of the reference that its record is.
use mathlib.Core.List.{List}
use mathlib.Core.Option.{none, some}
use mathlib.Core.Path.{◌≡◌, sym}
use Prim.Native.Nat.{ℕ}
use Rattle.language.specs.Acting.{side}
use Rattle.language.specs.Description as D
use Rattle.language.specs.Description.{Description, node_at}
use Rattle.language.specs.Meaning as M
use Rattle.language.specs.Meaning.{eval_below, place_of}
use Rattle.language.specs.References.{Reference, reference_of}
use Rattle.store_layout.specs.InBytes.{InBytes, bytes}
use Rattle.run_references.specs.Places.{place_meant}
use Rattle.run_expressions.specs.Sides.{Side, SideRead, SideThere, side_meant}
use Rattle.std.specs.Prelude.{Err, Ok}
use Rattle.run_references.proofs.PlaceLaws.{place-of-facility, place-there}

module _ (d : Description) (x : InBytes) (n : ℕ) (nd : D.Node) (m : node_at d n ≡ nd) where
  pub left-place : (r : Reference) → reference_of nd ≡ some r → side (bytes d) d x n ≡ place_of d (eval_below (bytes d) d x n) r
  unfolding side
  left-place r q = rw (m, q)

  pub left-none : reference_of nd ≡ none → side (bytes d) d x n ≡ M.Located.stuck M.wrong_record
  unfolding side
  left-none q = rw (m, q)

-- The facility read for a reference is the place's own.
pub left_there : (d : Description) (F : List ℕ) (ev : ℕ → M.Answer) (r : Reference) (s : Side) → SideRead F r.facility s → side_meant s ≡ place_of d ev r → SideThere d F s
left_there d F ev r (Ok s) g e =
    let q : place_of d ev r ≡ M.Located.at (place_meant s.1) = sym e in
    let k = sym (place-of-facility d ev r (place_meant s.1) q) in
    record { read = rw k at g; listed = rw k at (place-there d ev r (place_meant s.1) q) }
left_there d F ev r (Err h) g e = tt
