use mathlib.Core.Path.{ap, refl, sym, ◌∙◌}
use Rattle.text_items.specs.Meaning.{meant}
use Rattle.text_items.proofs.Lookup.{none-unless, none-of-one, none-of-three, none_of_two, of_one_lem, of_three_lem, of_two_lem, some-unless}
use Rattle.text_items.proofs.symbols.symbol.Goals as goal

pub returns-in-Some : goal.returns-in-Some
returns-in-Some c =
    let text = c.args.text.now in
    let k = some-unless c.in-Some.three (sym c.in-Some.is ∙ c.of_three.ensures) in
    ap (meant text) c.plain.ensures
    ∙ of_three_lem text c.byte-a.ensures c.byte-b.ensures c.byte.ensures k.0 k.1

pub returns-in-Some-of_two : goal.returns-in-Some-of_two
returns-in-Some-of_two c =
    let text = c.args.text.now in
    let three = none-unless (sym c.in_default.is ∙ c.of_three.ensures) in
    let k = some-unless c.in-Some-of_two.two (sym c.in-Some-of_two.is ∙ c.of_two.ensures) in
    ap (meant text) c.plain-in-Some-of_two.ensures
    ∙ of_two_lem text c.byte-a.ensures c.byte-b.ensures k.0 k.1 ∙ none-of-three text c.byte-a.ensures c.byte-b.ensures c.byte.ensures three refl

pub returns-in-Some-of_one : goal.returns-in-Some-of_one
returns-in-Some-of_one c =
    let text = c.args.text.now in
    let three = none-unless (sym c.in_default.is ∙ c.of_three.ensures) in
    let two = none-unless (sym c.in_default-of_two.is ∙ c.of_two.ensures) in
    let k = some-unless c.in-Some-of_one.one (sym c.in-Some-of_one.is ∙ c.of_one.ensures) in
    ap (meant text) c.plain-in-Some-of_one.ensures
    ∙ of_one_lem text c.byte-a.ensures k.0 k.1 ∙ none_of_two text c.byte-a.ensures c.byte-b.ensures two refl
    ∙ none-of-three text c.byte-a.ensures c.byte-b.ensures c.byte.ensures three refl

pub returns : goal.returns
returns c =
    let text = c.args.text.now in
    let three = none-unless (sym c.in_default.is ∙ c.of_three.ensures) in
    let two = none-unless (sym c.in_default-of_two.is ∙ c.of_two.ensures) in
    let one = none-unless (sym c.in_default-of_one.is ∙ c.of_one.ensures) in
    ap (meant text) c.plain-2.ensures
    ∙ none-of-one text c.byte-a.ensures one refl ∙ none_of_two text c.byte-a.ensures c.byte-b.ensures two refl
    ∙ none-of-three text c.byte-a.ensures c.byte-b.ensures c.byte.ensures three refl
