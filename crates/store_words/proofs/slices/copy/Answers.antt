use lib.ListN.{get_or, length, set}
use mathlib.Core.Path.{◌≡◌, refl, sym, ap, ◌∙◌}
use mathlib.Core.List.{List}
use Prim.Native.Nat.{ℕ, min}
use native.Mathlib.Omega.{arith}
use Rattle.store_layout.specs.Slices.{copied}
use Rattle.store_layout.proofs.Writing.{copied_at, copied-rest, length-copied, written, written_all, written-more}
use Rattle.store_words.proofs.slices.copy.Goals as goal

pub loop-i-init : goal.loop-i-init
unfolding written
loop-i-init c =
    refl

pub loop-i-preserved : goal.loop-i-preserved
loop-i-preserved c =
    let s = c.args.s.now in
    let t = c.args.source.now in
    ap (λ (X : List ℕ). set X c.loop-i.i (get_or t c.loop-i.i 0)) c.loop-i.invariant
    ∙ ap (set (written (copied s t) c.loop-i.i s) c.loop-i.i) (sym (copied_at s t c.loop-i.i (omega arith) (omega arith)))
    ∙ written-more (copied s t) s (length-copied s t) c.loop-i.i (omega arith)

pub returns : goal.returns
returns c =
    let s = c.args.s.now in
    let t = c.args.source.now in
    let z : c.loop-i.i ≡ min (length s) (length t) = omega arith in
    c.loop-i.invariant ∙ written_all (copied s t) s (length-copied s t) c.loop-i.i (omega arith) (λ k g. copied-rest s t k (omega arith))
