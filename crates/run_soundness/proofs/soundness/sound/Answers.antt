use native.Mathlib.Omega.{arith}
use Rattle.run_next.specs.Seen.{record_meant}
use Rattle.run_soundness.proofs.SoundLaws.{in-turn}
use Rattle.run_soundness.proofs.soundness.sound.Goals as goal
use Rattle.run_soundness.proofs.soundness.sound.Goals.{then-marked, else-marked, then-record_sound, else-record_sound}

pub returns-then-narrow : goal.returns-then-narrow
returns-then-narrow c =
    λ d h room.
    let t = in-turn d c.args.store.now c.args.«record».now (record_meant c.record_at-r.result) c.record_at-r.ensures in
    elim c.if-record_sound.branch [
      | then-record_sound w ↦ elim c.if-marked.branch [ then-marked v ↦ grind (arith, t, h.states, w.narrow.ensures d _ h.described room, c.agrees.ensures d h room) | else-marked v ↦ grind (arith, t) ]
      | else-record_sound w ↦ grind (arith, t)
    ]

pub returns-else-narrow : goal.returns-else-narrow
returns-else-narrow c =
    λ d h room.
    let t = in-turn d c.args.store.now c.args.«record».now (record_meant c.record_at-r.result) c.record_at-r.ensures in
    elim c.if-record_sound.branch [
      | then-record_sound w ↦ elim c.if-marked.branch [ then-marked v ↦ grind (arith, t, h.states, w.narrow.ensures d _ h.described room) | else-marked v ↦ grind (arith, t) ]
      | else-record_sound w ↦ elim c.if-marked.branch [ then-marked v ↦ grind (arith, t, h.states) | else-marked v ↦ grind (arith, t) ]
    ]
