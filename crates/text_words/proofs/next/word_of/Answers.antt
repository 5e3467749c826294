use mathlib.Core.Path.{ap₂}
use Rattle.language.specs.Words as L
use Rattle.text_words.specs.declared.WordKind.{WordKind}
use Rattle.text_words.proofs.next.word_of.Goals as goal

pub returns : goal.returns
returns c = ap₂ (λ (k : WordKind) (p : L.Position). record { kind = k; at = record { place = p.place }; size = c.args.item.size; bare = c.args.item.bare; value = c.args.item.value })
    c.from.ensures c.position.ensures
