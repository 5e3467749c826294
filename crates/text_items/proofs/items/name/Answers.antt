use mathlib.Core.List.{List, map}
use mathlib.Core.Path.{ap, refl, sym, ◌∙◌}
use Prim.Native.Nat.{ℕ}
use Rattle.language.specs.Characters.{folded}
use Rattle.language.specs.Scan.{reserved_kind}
use Rattle.text_items.specs.Meaning.{meant}
use Rattle.text_items.specs.Tables.{unless_zero}
use Rattle.text_items.proofs.Begin.{name-long, name-short, name-sign}
use Rattle.text_items.proofs.Lookup.{none-unless, some-unless}
use Rattle.text_items.proofs.items.name.Goals as goal

pub returns-in-Some : goal.returns-in-Some
returns-in-Some c =
    let text = c.args.text.now in
    let k = some-unless c.in-Some.kind (sym c.in-Some.is ∙ c.kind_of.ensures ∙ ap (λ (l : List ℕ). unless_zero (reserved_kind (map folded l))) c.first.ensures) in
    ap (meant text) c.plain.ensures
    ∙ name-sign text _ _ c.length_of-size.ensures k.0 k.1

pub returns-then-size-le-NAME : goal.returns-then-size-le-NAME
returns-then-size-le-NAME c =
    let text = c.args.text.now in
    let none = none-unless (sym c.in_default.is ∙ c.kind_of.ensures ∙ ap (λ (l : List ℕ). unless_zero (reserved_kind (map folded l))) c.first.ensures) in
    ap (meant text) c.plain-then-size-le-NAME.ensures
    ∙ name-short text _ _ c.length_of-size.ensures none refl c.if-size-le-NAME.true

pub returns-else-size-le-NAME : goal.returns-else-size-le-NAME
returns-else-size-le-NAME c =
    let text = c.args.text.now in
    let none = none-unless (sym c.in_default.is ∙ c.kind_of.ensures ∙ ap (λ (l : List ℕ). unless_zero (reserved_kind (map folded l))) c.first.ensures) in
    ap (meant text) c.plain-else-size-le-NAME.ensures
    ∙ name-long text _ _ c.length_of-size.ensures none refl c.if-size-le-NAME.false
