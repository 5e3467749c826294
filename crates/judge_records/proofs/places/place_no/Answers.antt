use Rattle.judge_records.specs.Noted.{place_no}
use Rattle.language.specs.Words.{position}
use Prim.Native.Nat.{ℕ, ◌%◌}
use mathlib.Core.Path.{ap, ◌∙◌}
use Rattle.judge_records.proofs.places.place_no.Goals as goal

pub returns : goal.returns
unfolding place_no
returns c =
    c.position.ensures ∙ ap (λ (h : ℕ). position (h % 32768)) c.half-place.ensures
