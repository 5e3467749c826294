use mathlib.Core.Path.{◌≡◌, sym, ap, ◌∙◌}
use native.Mathlib.Omega.{arith}
use Rattle.language.specs.Decode.{node_of}
use Rattle.language.specs.Description as D
use Rattle.language.specs.Meaning.{Answer}
use Rattle.language.specs.Value.{Value}
use Rattle.image_records.specs.Nodes.{constant_number}
use Rattle.value_operators.specs.Meaning.{valued}
use Rattle.std.proofs.lemmas.Result.{err_from_is_err_and}
use Rattle.run_expressions.specs.Chains.{operated_on}
use Rattle.run_expressions.proofs.ChainLaws.{halt-stays, stays}
use Rattle.run_expressions.proofs.chains.ended.Goals as goal

-- What a record makes of what is in hand is the worth of the record that was read.
in-hand : {a b : Answer} {m n : D.Node} (v : Value) → a ≡ operated_on m v → m ≡ n → operated_on n v ≡ b → a ≡ b
in-hand v p q r = p ∙ (ap (λ (k : D.Node). operated_on k v) q ∙ r)

pub returns-in_err-w : goal.returns-in_err-w
returns-in_err-w c =
    λ worth h f e.
    let r = err_from_is_err_and c.from_residual.result c.from_residual.ensures.1 in
    rw (r.1, r.2) (stays c.args.expressions.now worth c.args.b c.args.n c.args.b f (omega arith) _ (sym (halt-stays _ _) ∙ (rw c.in_err-w.was at e)) h)

pub returns-in_err-operated : goal.returns-in_err-operated
returns-in_err-operated c =
    λ worth h f e.
    let E = c.args.expressions.now in
    let r = err_from_is_err_and c.from_residual-in_err-operated.result c.from_residual-in_err-operated.ensures.1 in
    let held = c.loop-i.invariant worth h f (ap (λ (k : Value). operated_on (node_of E c.args.b) k) c.anew-v.ensures ∙ (rw c.in_ok-w.was at e)) in
    rw (r.1, r.2) (stays E worth c.args.b c.args.n c.loop-i.i f c.loop-i.auto.i _ (in-hand (valued c.loop-i.v) (c.in_err-operated.ensures (constant_number c.loop-i.i E)) c.node_at.ensures held) (omega arith))
