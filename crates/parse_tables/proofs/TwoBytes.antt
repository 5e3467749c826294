-- Numbers of two bytes.
use mathlib.Core.List.{List, ◌++◌}
use mathlib.Core.Path.{◌≡◌, ap}
use Prim.Native.Nat.{ℕ, ◌+◌, ◌*◌, ◌/◌, ◌%◌}
use native.Mathlib.Omega.{arith}
use lib.ListN.{drop, take}
use Rattle.language.specs.Encode.{little, two}

shifted : (k y : ℕ) → (256 * k + y) % 256 ≡ y % 256
shifted k y = omega arith

-- A number's low 16 bits have the same bytes.
pub two-low : {a : ℕ} (x : ℕ) → a ≡ x % 65536 → two a ≡ two x
unfolding little
two-low {a} x e =
    let d : x / 256 ≡ 256 * (x / 65536) + a / 256 = omega arith in
    let f : a % 256 ≡ x % 256 = omega arith in
    rw (f, d) (rw (shifted (x / 65536) (a / 256)))

-- Three of them, one by one.
pub three-apart : (a b c x y z : ℕ) → two a ++ (two b ++ two c) ≡ two x ++ (two y ++ two z) → (two a ≡ two x) × (two b ≡ two y) × (two c ≡ two z)
unfolding little
three-apart a b c x y z e = (ap (take 2) e, ap (λ (l : List ℕ). take 2 (drop 2 l)) e, ap (drop 4) e)
