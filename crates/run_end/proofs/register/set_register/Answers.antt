use mathlib.Core.Path.{sym, ap, ◌∙◌}
use Rattle.language.specs.Description.{constant_value, node_at}
use Rattle.language.specs.Step.{into}
use Rattle.run_references.proofs.PlaceLaws.{name_of}
use Rattle.run_end.proofs.RegisterLaws.{number_read, register-put, short-read, value_read}
use Rattle.run_end.proofs.register.set_register.Goals as goal

pub returns-in_default : goal.returns-in_default
returns-in_default c =
    λ d h room. let q = rw c.in_default.is at (c.sequencing.ensures d _ h.described) in rw (← q)

pub returns-in_default-value : goal.returns-in_default-value
returns-in_default-value c =
    λ d h room.
    let q = rw c.in-Some.is at (c.sequencing.ensures d _ h.described) in
    let v = rw c.in_default-value.is at (value_read h c.args.s c.state_at.result c.state_at.ensures) in
    rw (← q, v)

pub returns : goal.returns
returns c =
    λ d h room.
    let q = rw c.in-Some.is at (c.sequencing.ensures d _ h.described) in
    let v = rw c.in-Some-value.is at (value_read h c.args.s c.state_at.result c.state_at.ensures) in
    let k = number_read h c.in-Some-value.n c.constant_at.result c.constant_at.ensures in
    let p = c.put_first_word.ensures (name_of h.described c.in-Some.f c.facility_at.result c.facility_at.ensures) (short-read h.described h.register c.in-Some.f (sym q) c.facility_at.result c.facility_at.ensures) in
    let put = register-put h.described h.register c.in-Some.f (sym q) c.facility_at.result c.facility_at.ensures c.args.store.now (λ i. (c.slice_known-1.given i).fits) room (constant_value (node_at d c.in-Some-value.n)).number (h.register.fits c.in-Some.f c.args.s c.in-Some-value.n (sym q) v) in
    rw (← q, v, p, k) (ap into put ∙ sym (h.register.takes c.in-Some.f c.args.s c.in-Some-value.n _ (sym q) v))
