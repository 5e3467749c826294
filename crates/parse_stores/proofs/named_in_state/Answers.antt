use Rattle.language.specs.Machine.{set_sign, state_name}
use Rattle.parse_step.specs.Course.{counts_of}
use Rattle.text_words.specs.Meaning.{positioned}
use Rattle.parse_operands.specs.References.{letters_of}
use Rattle.parse_stores.proofs.ActionWords.{set-begins, performs-in-state}
use Rattle.about_grammar.specs.Following.{among}
use Rattle.language.specs.Kinds.{at_sign, open_bracket}
use Prim.Native.Nat.{ℕ}
use mathlib.Core.List.{[], ◌∷◌}
use mathlib.Core.Path.{sym, ap, ◌∙◌}
use Rattle.parse_stores.proofs.StoreLaws.{referred, unreferred}
use Rattle.parse_step.proofs.Answers.{err-came}
use mathlib.Core.Path.{refl}
use Rattle.parse_stores.proofs.named_in_state.Goals as goal

pub returns-in_err-first : goal.returns-in_err-first
returns-in_err-first c =
    rw (err-came c.from_residual.ensures.1) (unreferred c.args.name state_name set_sign (λ z K b. set-begins c.args.text.now c.args.w z b (counts_of c.args.s) (ap (λ (j : ℕ). among j (open_bracket ∷ at_sign ∷ [])) (sym c.kind_of.ensures) ∙ sym c.sets.ensures ∙ c.if-sets.true) K) c.in_err-first.ensures.0 c.in_err-first.ensures.1 refl)

pub returns-then-sets : goal.returns-then-sets
returns-then-sets c =
    referred c.args.name state_name set_sign (λ z K b. set-begins c.args.text.now c.args.w z b (counts_of c.args.s) (ap (λ (j : ℕ). among j (open_bracket ∷ at_sign ∷ [])) (sym c.kind_of.ensures) ∙ sym c.sets.ensures ∙ c.if-sets.true) K) c.in_ok-first.ensures.0 c.in_ok-first.ensures.1 refl c.set.ensures

pub returns : goal.returns
returns c =
    c.perform.ensures state_name (λ z K b. performs-in-state c.args.text.now c.args.w z (counts_of c.args.s) (letters_of c.args.text.now c.args.name) (positioned c.args.name.at) b K (ap (λ (j : ℕ). among j (open_bracket ∷ at_sign ∷ [])) (sym c.kind_of.ensures) ∙ sym c.sets.ensures ∙ c.if-sets.false))
