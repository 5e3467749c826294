use mathlib.Core.Path.{refl}
use Rattle.parse_held.proofs.WholeLaws.{names-put}
use Rattle.parse_held.proofs.names.put.Goals as goal

pub returns : goal.returns
returns c =
    λ p k z h. names-put c.args.text.now c.args.work.now c.args.c p k z h (c.put-o.ensures.0 refl) (c.put-o.ensures.2 refl) (c.put-s.ensures.0 refl) (c.put-s.ensures.2 refl) (c.put.ensures.2 refl)
