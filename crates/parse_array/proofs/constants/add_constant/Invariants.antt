use Rattle.language.specs.Describe.{constant_nodes}
use Rattle.language.specs.Description.{further_digits, node_places}
use Rattle.language.specs.Words.{Position}
use Rattle.judge_records.specs.Noted.{plain_places}
use Rattle.value_operators.specs.Meaning.{valued}
use Rattle.parse_array.proofs.NodesAdded.{digits_from}
use Rattle.parse_array.specs.Held.{fields, held, with_nodes}
use mathlib.Core.Path.{◌≡◌}
use Prim.Native.Nat.{◌+◌}
use Rattle.parse_array.proofs.constants.add_constant.Given as goal

abbrev pub invariant-loop-i : goal.invariant-loop-i
invariant-loop-i l =
    (l.k + l.i ≡ l.n + further_digits l.v.length)
    × ((p : Position) → fields l.beside ≡ plain_places (node_places p) → with_nodes (held l.n l.initial.work) (constant_nodes (valued l.v) p) ≡ with_nodes (held l.k l.work) (digits_from (valued l.v) p l.i))
