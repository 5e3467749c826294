-- Ten times a number and a digit more by doubling and adding alone: five sums, each modulo 2 to the 256, and whether one of them passed that.
use Rattle.std.specs.Prelude.{Bool, true, cond, ℕ, ◌+◌, ◌%◌, ◌^◌, leb}
use Rattle.value_constants.specs.Digits.{Held}

-- A sum: what is left of it below 2 to the 256, and whether it passed that, or a sum had before.
unfoldable pub adding : ℕ → ℕ → Bool → Held
adding x y passed = record { low = (x + y) % 2 ^ 256; passed = cond passed true (leb (2 ^ 256) (x + y)) }

-- The five sums.
unfoldable pub by_doubling : Held → ℕ → Held
by_doubling x d =
    let a = adding x.low x.low x.passed in
    let b = adding a.low a.low a.passed in
    let c = adding b.low x.low b.passed in
    let e = adding c.low c.low c.passed in
    adding e.low d e.passed
