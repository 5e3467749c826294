use Rattle.about_grammar.specs.Following.{among}
use Rattle.language.specs.Kinds.{delayed_sign, equal_sign}
use Prim.Native.Nat.{ℕ}
use mathlib.Core.List.{[], ◌∷◌}
use mathlib.Core.Path.{sym, ap, ◌∙◌}
use Rattle.parse_stores.proofs.StoreLaws.{right-unread, sign-untaken, stores, unstored}
use Rattle.parse_step.proofs.Answers.{err-came}
use mathlib.Core.Path.{refl}
use Rattle.parse_stores.proofs.stores.store.Goals as goal

pub returns-in_err-taken : goal.returns-in_err-taken
returns-in_err-taken c =
    rw (err-came c.from_residual.ensures.1) (sign-untaken c.args.left (ap (λ (j : ℕ). among j (delayed_sign ∷ equal_sign ∷ [])) (sym c.kind_of-kind.ensures) ∙ sym c.signs.ensures ∙ c.if-signs.true) c.in_err-taken.ensures refl)

pub returns-in_err-right : goal.returns-in_err-right
returns-in_err-right c =
    rw (err-came c.from_residual-in_err-right.ensures.1) (right-unread c.args.left (ap (λ (j : ℕ). among j (delayed_sign ∷ equal_sign ∷ [])) (sym c.kind_of-kind.ensures) ∙ sym c.signs.ensures ∙ c.if-signs.true) c.in_ok-taken.ensures refl c.in_err-right.ensures.0 c.in_err-right.ensures.1 refl)

pub returns-then-signs : goal.returns-then-signs
returns-then-signs c =
    stores c.args.left (ap (λ (j : ℕ). among j (delayed_sign ∷ equal_sign ∷ [])) (sym c.kind_of-kind.ensures) ∙ sym c.signs.ensures ∙ c.if-signs.true) c.in_ok-taken.ensures refl c.in_ok-right.ensures.0 c.in_ok-right.ensures.1 refl c.kind_of-kind.ensures c.last.ensures c.storing-action.ensures c.put.ensures

pub returns : goal.returns
returns c =
    unstored c.args.left (ap (λ (j : ℕ). among j (delayed_sign ∷ equal_sign ∷ [])) (sym c.kind_of-kind.ensures) ∙ sym c.signs.ensures ∙ c.if-signs.false) c.refuse.ensures
