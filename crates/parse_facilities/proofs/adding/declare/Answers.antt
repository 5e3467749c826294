use mathlib.Core.Path.{◌≡◌}
use Prim.Native.Nat.{suc}
use native.Mathlib.Omega.{arith}
use Rattle.parse_facilities.proofs.ListedMore.{added}
use Rattle.parse_facilities.proofs.adding.declare.Goals as goal

pub returns : goal.returns
returns c =
    added c.add_facility.ensures (λ h. let e : c.saturating_add.result ≡ suc c.args.s.known = omega arith in rw e) c.place_after.ensures
