-- What is said of a conditional (proofs/ArmAlways.antt): which a run can come to, and that an arm of it stands.
use Rattle.std.specs.Prelude.{◌≡◌, ℕ, ◌+◌, ◌-◌}
use Rattle.std.proofs.Math.Option.{some}
use Rattle.language.specs.Acting.{arm_at}
use Rattle.language.specs.Description as D
use Rattle.language.specs.Description.{Description, Run, action_at, node_at}
use Rattle.language.specs.Meaning.{arm_back}
use Rattle.about_calls.specs.WorkedOut.{Acts, WorkedOut}

-- A conditional that a run can come to, CASE or IF with ELSE, among expressions or actions: the record of its condition, and how many arms it has.
pub data Conditional (d : Description) (e m : ℕ) : Type 0 where
  in-expression : {n a : ℕ} → WorkedOut d n → node_at d n ≡ D.choice e a m → Conditional d e m
  in-action : {i x : ℕ} → Acts d i → action_at d i ≡ D.choose e m x → Conditional d e m

-- Its arm of number k stands: as an expression, or as a run of actions.
abbrev pub ArmStands : {d : Description} {e m : ℕ} → Conditional d e m → ℕ → Type 0
ArmStands {d} {m = m} (in-expression {a = a} o q) k = (g : ℕ) × (arm_back d (m - k) a ≡ some g)
ArmStands {d} (in-action {i = i} {x = x} o q) k = (r : Run) × (arm_at d (k - 1) (i + 1) x ≡ some r)
