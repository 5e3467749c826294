use mathlib.Core.Path.{refl}
use native.Mathlib.Omega.{arith}
use Rattle.parse_held.proofs.WholeLaws.{names-counted}
use Rattle.parse_held.proofs.names.count.Goals as goal

pub returns : goal.returns
returns c =
    (names-counted c.args.text.now c.args.work.now c.args.c (c.count-f.ensures.0 refl) (c.count-o.ensures.0 refl) (c.count-s.ensures.0 refl), omega (arith, c.count-f.ensures.1, c.count-o.ensures.1, c.count-s.ensures.1))
