-- A record gained.
use mathlib.Core.List.{List, ◌∷◌, []}
use mathlib.Core.Path.{◌≡◌, ap, ◌∙◌}
use Prim.Native.Nat.{ℕ, ◌+◌, ◌≤◌}
use native.Mathlib.Omega.{arith}
use Rattle.language.specs.Describe.{Noted}
use Rattle.language.specs.Encode.{node_bytes}
use Rattle.judge_records.specs.Noted.{node_beside_bytes}
use Rattle.text_words.specs.declared.Word.{Word}
use Rattle.parse_array.proofs.NodesAdded.{node-one}
use Rattle.parse_array.specs.Held.{held, with_nodes}
use Rattle.parse_step.specs.Answers.{Answer}
use Rattle.parse_step.specs.declared.Reached.{Reached}
use Rattle.parse_step.specs.declared.State.{State}
use Rattle.parse_step.specs.Gained.{Behind, Gained, Grows}

pub grown : {next : Word} {s : State} {bs ps w w' : List ℕ} {r : Answer} → Gained next s bs ps w w' r → (s₀ : State) → s₀.nodes ≤ s.nodes → Grows s₀ r
grown {s = s} g s₀ h r' d =
    let b = g.done d in
    let e : r'.state.nodes ≡ s.nodes + 1 = ap (λ (q : State). q.nodes) b.state in
    (omega (arith, b.room, e, h), omega (arith, b.room, e))

-- The record as one with its places.
pub gained-node : {next : Word} {s : State} {bs ps w w' : List ℕ} {r : Reached} → Behind next s bs ps w w' r → (x : Noted) → bs ≡ node_bytes x.node → ps ≡ node_beside_bytes x.node x.places
    → held (s.nodes + 1) w' ≡ with_nodes (held s.nodes w) (x ∷ [])
gained-node {s = s} {w = w} a x p q = a.held ∙ rw (p, q) (node-one (held s.nodes w) x)
