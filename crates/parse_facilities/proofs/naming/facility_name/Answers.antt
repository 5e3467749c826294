use mathlib.Core.Path.{◌≡◌}
use Prim.Native.Nat.{suc}
use native.Mathlib.Omega.{arith}
use Rattle.parse_facilities.proofs.NameWords.{name-told}
use Rattle.parse_facilities.proofs.naming.facility_name.Goals as goal

pub returns : goal.returns
returns c = name-told (λ h. let e : c.saturating_add.result ≡ suc c.args.s.facilities = omega arith in rw e) c.expect.ensures
