use Rattle.language.specs.Machine.{left_rest, operation_name}
use Rattle.parse_step.specs.Course.{counts_of}
use Rattle.text_words.specs.Meaning.{positioned}
use Rattle.parse_operands.specs.References.{letters_of}
use Rattle.parse_stores.proofs.ActionWords.{left-begins, performs-in-operation}
use Rattle.about_grammar.specs.Following.{among}
use Rattle.language.specs.Kinds.{at_sign, con_word, delayed_sign, equal_sign, open_bracket}
use Prim.Native.Nat.{ℕ}
use mathlib.Core.List.{[], ◌∷◌}
use mathlib.Core.Path.{sym, ap, ◌∙◌}
use Rattle.parse_stores.proofs.StoreLaws.{referred, unreferred}
use Rattle.parse_step.proofs.Answers.{err-came}
use mathlib.Core.Path.{refl}
use Rattle.parse_stores.proofs.named_in_operation.Goals as goal

pub returns-in_err-first : goal.returns-in_err-first
returns-in_err-first c =
    rw (err-came c.from_residual.ensures.1) (unreferred c.args.name operation_name left_rest (λ z K b. left-begins c.args.text.now c.args.w z b (counts_of c.args.s) (ap (λ (j : ℕ). among j (open_bracket ∷ con_word ∷ at_sign ∷ delayed_sign ∷ equal_sign ∷ [])) (sym c.kind_of.ensures) ∙ sym c.refers.ensures ∙ c.if-refers.true) K) c.in_err-first.ensures.0 c.in_err-first.ensures.1 refl)

pub returns-then-refers : goal.returns-then-refers
returns-then-refers c =
    referred c.args.name operation_name left_rest (λ z K b. left-begins c.args.text.now c.args.w z b (counts_of c.args.s) (ap (λ (j : ℕ). among j (open_bracket ∷ con_word ∷ at_sign ∷ delayed_sign ∷ equal_sign ∷ [])) (sym c.kind_of.ensures) ∙ sym c.refers.ensures ∙ c.if-refers.true) K) c.in_ok-first.ensures.0 c.in_ok-first.ensures.1 refl c.rest.ensures

pub returns : goal.returns
returns c =
    c.perform.ensures operation_name (λ z K b. performs-in-operation c.args.text.now c.args.w z (counts_of c.args.s) (letters_of c.args.text.now c.args.name) (positioned c.args.name.at) b K (ap (λ (j : ℕ). among j (open_bracket ∷ con_word ∷ at_sign ∷ delayed_sign ∷ equal_sign ∷ [])) (sym c.kind_of.ensures) ∙ sym c.refers.ensures ∙ c.if-refers.false))
