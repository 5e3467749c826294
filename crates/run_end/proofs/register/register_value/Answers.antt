use mathlib.Core.Path.{sym, ap, ◌∙◌}
use Rattle.language.specs.Value.{Value}
use Rattle.value_limbs.specs.Limbs.{number}
use Rattle.run_references.proofs.PlaceLaws.{name_of}
use Rattle.run_end.proofs.RegisterLaws.{register-found, short-read}
use Rattle.run_end.proofs.register.register_value.Goals as goal

pub returns-in_default : goal.returns-in_default
unfolding number
returns-in_default c =
    λ d E h k room. let q = rw c.in_default.is at (c.sequencing.ensures d E h) in rw (← q)

pub returns : goal.returns
returns c =
    λ d E h k room.
    let q = rw c.in-Some.is at (c.sequencing.ensures d E h) in
    rw (← q)
    (ap (λ (v : Value). v.number) (c.first_word.ensures (name_of h c.in-Some.f c.facility_at.result c.facility_at.ensures) (short-read h k c.in-Some.f (sym q) c.facility_at.result c.facility_at.ensures))
    ∙ register-found h k c.in-Some.f (sym q) c.facility_at.result c.facility_at.ensures c.args.store.now (λ i. (c.shared_slice_known-2-1.given i).fits) room)
