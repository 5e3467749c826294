use mathlib.Core.Path.{◌≡◌, refl, sym, ap, ◌∙◌}
use Prim.Native.Nat.{ℕ, ◌+◌, ◌-◌, ◌≤◌, ◌<◌}
use native.Mathlib.Omega.{arith}
use lib.ListN.{drop}
use Rattle.language.specs.Trace.{bits_number}
use Rattle.trace_input.proofs.LineBits.{bits_above, bits_below, bits-one, bits-past, more-bits}
use Rattle.trace_input.proofs.stimulus.octet_at.Goals as goal
use Rattle.trace_input.proofs.stimulus.octet_at.Goals.{then-b-lt48-via-then-b-lt48, then-b-lt48-via-else-b-lt48+then-b-gt49}

pub returns-in_err-b : goal.returns-in_err-b
returns-in_err-b c =
    let left : ℕ = c.args.at + c.args.count - c.loop-place.place in
    rw c.from_residual.ensures (bits-past _ c.loop-place.place left c.loop-place.number (omega (arith, c.loop-place-test.true)) c.in_err-b.ensures.lookup.3 ∙ sym c.loop-place.invariant.1)

pub returns-then-b-lt48 : goal.returns-then-b-lt48
returns-then-b-lt48 c =
    let left : ℕ = c.args.at + c.args.count - c.loop-place.place in
    let some_left : 0 < left = omega (arith, c.loop-place-test.true) in
    let there = c.in_ok-b.ensures.lookup.3 in
    elim c.then-b-lt48.branch [
      | then-b-lt48-via-then-b-lt48 w ↦
          bits_below _ c.loop-place.place left c.loop-place.number some_left _ there.0 (there.1 0) w.if-b-lt48.true ∙ sym c.loop-place.invariant.1
      | then-b-lt48-via-else-b-lt48+then-b-gt49 w ↦
          bits_above _ c.loop-place.place left c.loop-place.number some_left _ there.0 (there.1 0) w.if-b-gt49.true ∙ sym c.loop-place.invariant.1
    ]

pub loop-place-preserved : goal.loop-place-preserved
loop-place-preserved c =
    let b : ℕ = c.in_ok-b.field-0.now in
    let there = c.in_ok-b.ensures.lookup.3 in
    let left : ℕ = c.args.at + c.args.count - c.loop-place.place in
    let some_left : 0 < left = omega (arith, c.loop-place-test.true) in
    let e : c.loop-place.place + 1 - c.args.at ≡ c.loop-place.place - c.args.at + 1 = omega (arith, c.loop-place.auto.place) in
    let n : c.args.at + c.args.count - (c.loop-place.place + 1) ≡ c.args.at + c.args.count - c.loop-place.place - 1 = omega arith in
    let m : b - 48 ≤ 1 = omega (arith, c.if-b-gt49.false) in (
      rw e (more-bits (c.loop-place.place - c.args.at) c.loop-place.invariant.0 m),
      c.loop-place.invariant.1 ∙ rw n (bits-one c.args.line.now c.loop-place.place left c.loop-place.number some_left b there.0 (there.1 0) c.if-b-lt48.false c.if-b-gt49.false),
    )

pub returns : goal.returns
unfolding bits_number
returns c =
    let z : c.args.at + c.args.count - c.loop-place.place ≡ 0 = omega (arith, c.loop-place-test.false) in
    sym (c.loop-place.invariant.1 ∙ ap (λ (n : ℕ). bits_number n c.loop-place.number (drop c.loop-place.place c.args.line.now)) z)
