-- A cycle from the run of its one stimulus. Assumes nothing.
use Rattle.std.specs.Prelude.{Result}
use mathlib.Core.List.{List}
use mathlib.Core.Path.{◌≡◌, sym, ap, ◌∙◌}
use Prim.Native.Nat.{ℕ}
use Rattle.language.specs.Calls as L
use Rattle.about_bytes.specs.OneCycle.{one-cycle, single, told}
use Rattle.call_answers.specs.Cycle as Cycle
use Rattle.call_answers.specs.Run as Run
use Rattle.call_answers.specs.declared.cycled.Halt.{Halt}
use Rattle.call_answers.specs.declared.ran.Tally.{Tally}
use Rattle.language.specs.declared.refusals.Refusal.{Refusal}

pub from-run : (image store kept stimulus : List ℕ) (scratch : ℕ) (a : Result Tally Refusal) (r : Result ℕ Halt) {B K S T : List ℕ} → Cycle.answered r ≡ told (Run.answered a)
    → Run.call a B K S T ≡ L.run image store kept stimulus 1 scratch 0 → Cycle.call r B K S ≡ L.cycle image store kept stimulus scratch
from-run image store kept stimulus scratch a r {B} {K} {S} e f =
    ap (λ (x : L.CycleAnswer). record { answer = x; store = B; record' = K; scratch = S }) e ∙ (ap single f ∙ sym (one-cycle image store kept stimulus scratch))
