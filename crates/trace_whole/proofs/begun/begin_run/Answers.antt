use Rattle.std.proofs.Common.{◌≡◌, ℕ, ◌-◌, ◌≤◌, length, take, ap, ◌∙◌, arith, rules}
use Rattle.language.specs.Image.{passes}
use Rattle.about_calls.specs.ImageRoom.{largest-image, read_fits}
use Rattle.trace_whole.proofs.BegunLaws.{found, found-passes, refuses, runs}
use borrow.Author.Rules.{rules}
use Rattle.trace_whole.proofs.begun.begin_run.Goals as goal

pub slice_bounds-opened-end : goal.slice_bounds-opened-end
slice_bounds-opened-end c =
    let f = found c.args.text.now c.read.new.image c.read.result c.in-Ok.n _ c.in-Ok.is c.read.ensures.image_after in
    let h : c.in-Ok.n ≤ length c.read.new.image = f.inside in
    search rules

pub opened-size-requires : goal.opened-size-requires
opened-size-requires c =
    let f = found c.args.text.now c.read.new.image c.read.result c.in-Ok.n _ c.in-Ok.is c.read.ensures.image_after in
    let z : c.in-Ok.n - 0 ≡ c.in-Ok.n = omega arith in
    (ap (λ (m : ℕ). passes (take m c.read.new.image)) z ∙ found-passes f, c.requires.1)

pub returns-in-Err : goal.returns-in-Err
returns-in-Err c =
    refuses c.args.text.now c.read.new.image c.read.result _ _ _ (omega (arith, c.from.ensures)) (omega arith) c.in-Err.is c.read.ensures.image_after (rw c.from.ensures at c.refusal.ensures) (λ d e. omega (arith, read_fits c.args.text.now d e, largest-image, c.requires.0))

pub returns-in-Ok : goal.returns-in-Ok
returns-in-Ok c =
    let f = found c.args.text.now c.read.new.image c.read.result c.in-Ok.n _ c.in-Ok.is c.read.ensures.image_after in
    let z : c.in-Ok.n - 0 ≡ c.in-Ok.n = omega arith in
    runs f z c.requires.2 c.opened-size.ensures
