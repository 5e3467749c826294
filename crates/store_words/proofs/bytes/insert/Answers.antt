use mathlib.Core.Path.{refl}
use Prim.Native.Nat.{ℕ, ◌+◌, ◌/◌, ◌^◌, ◌≤◌, ◌<◌}
use native.Mathlib.Nat.{div-mul-le_self, mod-lt, mul-le-mul_left}
use native.Mathlib.Omega.{arith}
use lib.Pow.{pow_mono, pow_pos}
use Rattle.language.specs.Value.{replaced}
use Rattle.store_layout.proofs.Numbers.{replaced-lt}
use borrow.Author.Rules.{rules}
use Rattle.store_words.proofs.bytes.insert.Goals as goal

pub join-above-requires : goal.join-above-requires
join-above-requires c =
    let b : ℕ = c.args.b in
    let p : 2 ^ c.args.n ≤ 2 ^ (c.args.shift + c.args.n) = pow_mono {i = c.args.n} {j = c.args.shift + c.args.n} (omega arith) in
    let m = mul-le-mul_left (b / 2 ^ (c.args.shift + c.args.n)) p in
    let d = div-mul-le_self b (2 ^ (c.args.shift + c.args.n)) in
    let low : c.low.result < 2 ^ c.args.n = rw c.low.ensures (mod-lt c.args.v (pow_pos c.args.n)) in
    (search rules, low, omega arith)

pub join-requires : goal.join-requires
unfolding replaced
join-requires c =
    let b : ℕ = c.args.b in
    let low : c.low-2.result < 2 ^ c.args.shift = rw c.low-2.ensures (mod-lt b (pow_pos c.args.shift)) in
    let p : replaced b c.args.shift c.args.n c.args.v < 2 ^ 8 = replaced-lt b c.args.shift c.args.n c.args.v 8 (search rules) (search rules) in
    let q = rw (← c.low.ensures, ← c.join-above.ensures) at p in
    (search rules, low, omega arith)

pub overflow_cast-result : goal.overflow_cast-result
unfolding replaced
overflow_cast-result c =
    let b : ℕ = c.args.b in
    let p : replaced b c.args.shift c.args.n c.args.v < 2 ^ 8 = replaced-lt b c.args.shift c.args.n c.args.v 8 (search rules) (search rules) in
    record { fits = rw (c.join.ensures, c.join-above.ensures, c.low.ensures, c.low-2.ensures) p }

pub returns : goal.returns
unfolding replaced
returns c = rw (c.join.ensures, c.join-above.ensures, c.low.ensures, c.low-2.ensures) refl
