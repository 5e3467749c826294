use mathlib.Core.List.{[], ◌∷◌}
use mathlib.Core.Path.{ap, sym, ◌∙◌}
use Prim.Native.Nat.{ℕ}
use lib.ListN.{get_or}
use Rattle.language.specs.Columns.{width_after}
use Rattle.text_words.proofs.Widths.{line-long, line-next, lines_end}
use native.Mathlib.Omega.{arith}
use Rattle.text_words.proofs.lines.first_long.Goals as goal

pub returns-then-width-gt-LINE : goal.returns-then-width-gt-LINE
returns-then-width-gt-LINE c =
    c.refused.ensures
    ∙ line-long c.args.text.now c.loop-at.width c.loop-at.at c.width_after-width.result (omega arith) (omega arith) (c.width_after-width.ensures ∙ ap (λ (n : ℕ). width_after c.loop-at.width (get_or c.args.text.now c.loop-at.at 0) (n ∷ [])) c.byte.ensures) c.if-width-gt-LINE.true
    ∙ sym c.loop-at.invariant.1

pub loop-at-preserved : goal.loop-at-preserved
loop-at-preserved c =
    (c.if-width-gt-LINE.false, c.loop-at.invariant.1 ∙ line-next c.args.text.now c.loop-at.width c.loop-at.at c.width_after-width.result (omega arith) (omega arith) (c.width_after-width.ensures ∙ ap (λ (n : ℕ). width_after c.loop-at.width (get_or c.args.text.now c.loop-at.at 0) (n ∷ [])) c.byte.ensures) c.if-width-gt-LINE.false)

pub returns : goal.returns
returns c = lines_end c.loop-at.width c.loop-at.at c.args.text.now (omega arith) ∙ sym c.loop-at.invariant.1
