use mathlib.Core.List.{List}
use mathlib.Core.Path.{◌≡◌, ap, ◌∙◌}
use Prim.Native.Nat.{ℕ, ◌+◌, ◌*◌, ◌/◌, ◌%◌, ◌^◌}
use native.Mathlib.Omega.{arith}
use Rattle.value_limbs.specs.Limbs.{number}
use Rattle.value_limbs.proofs.Laws.{left-left, lowest-four}
use borrow.Author.Rules.{rules}
use Rattle.value_limbs.proofs.shifts.left.Goals as goal
use Rattle.value_limbs.proofs.shifts.left.Goals.{then-k-lt64, else-k-lt64}

pub returns : goal.returns
unfolding number
returns c =
    let x = c.args.x in
    let k = c.args.k in
    let r = c.left_within-l0.result in
    let e : number c.if-k-lt64.a * 2 ^ (k % 64) % 2 ^ 256 ≡ number x * 2 ^ k % 2 ^ 256 = elim c.if-k-lt64.branch [
      | then-k-lt64 w ↦
          let s : k % 64 ≡ k = omega arith in
          ap (λ (l : List ℕ). number l * 2 ^ (k % 64) % 2 ^ 256) w.a-is ∙ ap (λ (m : ℕ). number x * 2 ^ m % 2 ^ 256) s
      | else-k-lt64 w ↦
          let s : 64 * (k / 64) + k % 64 ≡ k = omega arith in
          ap (λ (l : List ℕ). number l * 2 ^ (k % 64) % 2 ^ 256) w.a-is
          ∙ ap (λ (m : ℕ). m * 2 ^ (k % 64) % 2 ^ 256) w.limbs_up-a.ensures
          ∙ left-left (number x) (64 * (k / 64)) (k % 64) (2 ^ 256)
          ∙ ap (λ (m : ℕ). number x * 2 ^ m % 2 ^ 256) s
    ] in
    lowest-four r.0 r.1 r.2 r.3 r.4 _ (search rules) (search rules) (search rules) (search rules) c.left_within-l0.ensures ∙ e
