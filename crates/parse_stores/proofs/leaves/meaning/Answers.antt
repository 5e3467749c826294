use mathlib.Core.Path.{ap, ◌∙◌}
use Rattle.language.specs.Naming.{meaning}
use Rattle.language.specs.Words.{Position}
use Rattle.parse_array.specs.Names.{letters}
use Rattle.parse_stores.proofs.leaves.meaning.Goals as goal

pub returns : goal.returns
unfolding letters
returns c h sc k =
    c.what.ensures h sc k
    ∙ ap (λ (p : Position). meaning sc (letters c.args.text.now p.place c.args.name.size)) c.place.ensures
