use Rattle.language.specs.Description as D
use Rattle.language.specs.Encode.{node_bytes}
use Rattle.language.specs.Value.{value}
use Rattle.text_words.specs.Meaning.{positioned}
use Rattle.value_operators.specs.Meaning.{valued}
use Rattle.parse_array.proofs.NodesAdded.{all_digits, all-records, digit-added, digit_node, lowest-added}
use Rattle.parse_array.specs.Held.{held, with_nodes}
use mathlib.Core.Path.{◌≡◌, refl, sym, ap, ◌∙◌}
use Prim.Native.Nat.{ℕ, ◌+◌, ◌-◌}
use native.Mathlib.Omega.{arith}
use borrow.Author.Rules.{rules}
use Rattle.parse_array.proofs.constants.add_constant.Goals as goal

pub loop-i-init : goal.loop-i-init
loop-i-init c =
    (omega (arith, c.further_digits-i.ensures), λ p e. ap (with_nodes (held c.args.n c.args.work.now)) (sym (all_digits (valued c.args.v) p c.further_digits-i.ensures)))

pub returns-in_err-k : goal.returns-in_err-k
returns-in_err-k c =
    record {
      nodes = λ {m} e. search rules;
      added = λ {m} e. search rules;
      full = λ e. omega (arith, c.in_err-k.ensures.full refl, c.loop-i.invariant.0, c.loop-i-test.true, all-records (valued c.args.v) (positioned c.args.at));
    }

pub loop-i-preserved : goal.loop-i-preserved
loop-i-preserved c =
    let a = c.in_ok-k.ensures in
    let i : c.loop-i.i - 1 + 1 ≡ c.loop-i.i = omega (arith, c.loop-i-test.true) in
    let d : node_bytes (D.more c.digit_of.result) ≡ node_bytes (digit_node (valued c.args.v) (positioned c.args.at) c.loop-i.i).node = rw (← i) (ap (λ (x : ℕ). node_bytes (D.more x)) c.digit_of.ensures) in (
      omega (arith, a.count refl, c.loop-i.invariant.0, c.loop-i-test.true),
      λ p e. c.loop-i.invariant.1 p e ∙ digit-added (valued c.args.v) p a refl c.loop-i-test.true d e ∙ rw (a.count refl),
    )

pub returns : goal.returns
returns c =
    let p = positioned c.args.at in
    let v = valued c.args.v in
    let a = c.add_node-2.ensures in
    let d = ap (λ (x : ℕ). node_bytes (D.constant (value c.args.v.length x))) c.digit_of-2.ensures in
    record {
      nodes = λ {m} e. omega (arith, a.count e, c.loop-i.invariant.0, c.loop-i-test.false, all-records v p);
      added = λ {m} e. rw (a.count e) (sym (c.loop-i.invariant.1 p c.plain-beside.ensures ∙ lowest-added v p a e c.loop-i-test.false d c.plain-beside.ensures));
      full = λ e. omega (arith, a.full e, c.loop-i.invariant.0, c.loop-i-test.false, all-records v p);
    }
