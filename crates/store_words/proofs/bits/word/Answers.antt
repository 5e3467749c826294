use mathlib.Core.Path.{◌≡◌, sym, ap, ap₂, ◌∙◌}
use mathlib.Core.List.{List}
use Prim.Native.Nat.{ℕ, ◌+◌, ◌-◌, ◌*◌, ◌/◌, ◌^◌, ◌≤◌, ◌<◌}
use native.Mathlib.Nat.{div-eq_of_lt, div-one}
use native.Mathlib.Omega.{arith}
use lib.ListN.{drop, get_or, length as size, take}
use lib.Pow.{pow_mono, shr_le}
use lib.Seq.{get_or-drop, get_or-take, length-take-le}
use Rattle.std.proofs.Common.{length-drop}
use Rattle.language.specs.Layout.{word_bytes}
use Rattle.store_layout.specs.Layout.{Bytes, position, word_in}
use Rattle.store_layout.proofs.Words.{word_lt}
use Rattle.store_words.proofs.PartLaws.{word-turn}
use Rattle.store_words.proofs.bits.word.Goals as goal

-- One byte more of those of a word, the most significant first.
module _ (B : List ℕ) (at l n : ℕ) (room : at + word_bytes l ≤ size B) (bytes : Bytes B) (all : n ≡ word_bytes l) where
  abbrev own : List ℕ
  own = take (at + n - at) (drop at B)

  many : size own ≡ n
  many = length-take-le (at + n - at) (drop at B) (omega (arith, length-drop at B)) ∙ omega arith

  module _ (i : ℕ) (h : i < size own) where
    byte : get_or own i 0 ≡ get_or B (at + i) 0
    byte = get_or-take (at + n - at) (drop at B) i 0 (omega (arith, many)) ∙ get_or-drop at B i 0

    turn : word_in B at l / 2 ^ (8 * (word_bytes l - (i + 1))) ≡ word_in B at l / 2 ^ (8 * (word_bytes l - i)) * 256 + get_or own i 0
    unfolding position
    turn =
        let j : ℕ = word_bytes l - (i + 1) in
        let e : j + 1 ≡ word_bytes l - i = omega (arith, many) in
        let p : word_bytes l - 1 - j ≡ i = omega (arith, many) in
        word-turn B at l room bytes j (omega (arith, many))
        ∙ ap₂ (λ (m k : ℕ). word_in B at l / 2 ^ (8 * m) * 256 + get_or B (at + k) 0) e p
        ∙ ap (λ (b : ℕ). word_in B at l / 2 ^ (8 * (word_bytes l - i)) * 256 + b) (sym byte)

    small : word_bytes l ≤ 8 → word_in B at l / 2 ^ (8 * (word_bytes l - i)) * 256 < 2 ^ 64
    small few =
        let p = shr_le (word_in B at l) (8 * (word_bytes l - (i + 1))) in
        let q = word_lt B at l room bytes in
        let r : 2 ^ (8 * word_bytes l) ≤ 2 ^ 64 = pow_mono {i = 8 * word_bytes l} {j = 64} (omega arith) in
        omega (arith, turn)

pub loop-b-init : goal.loop-b-init
loop-b-init c =
    let e : word_bytes c.args.length - 0 ≡ word_bytes c.args.length = omega arith in
    rw e (sym (div-eq_of_lt (word_lt c.args.s.now c.args.at c.args.length c.requires.0 (λ i. (c.type_inv.s i).fits))))

pub join-acc-requires : goal.join-acc-requires
join-acc-requires c =
    let bytes : Bytes c.args.s.now = λ i. (c.type_inv.s i).fits in
    let b = byte c.args.s.now c.args.at c.args.length c.word_bytes.result c.requires.0 bytes c.word_bytes.ensures c.loop-b.b-index c.loop-b-test.true in
    let s = small c.args.s.now c.args.at c.args.length c.word_bytes.result c.requires.0 bytes c.word_bytes.ensures c.loop-b.b-index c.loop-b-test.true c.requires.1 in
    (omega arith, omega (arith, b, bytes (c.args.at + c.loop-b.b-index)), rw (← c.loop-b.invariant) at s)

pub loop-b-preserved : goal.loop-b-preserved
loop-b-preserved c =
    let bytes : Bytes c.args.s.now = λ i. (c.type_inv.s i).fits in
    let t = turn c.args.s.now c.args.at c.args.length c.word_bytes.result c.requires.0 bytes c.word_bytes.ensures c.loop-b.b-index c.loop-b-test.true in
    let b = get_or (take (c.args.at + c.word_bytes.result - c.args.at) (drop c.args.at c.args.s.now)) c.loop-b.b-index 0 in
    c.join-acc.ensures ∙ ap (λ (x : ℕ). x * 256 + b) c.loop-b.invariant ∙ sym t

pub returns : goal.returns
returns c =
    let W : ℕ = word_in c.args.s.now c.args.at c.args.length in
    let m = many c.args.s.now c.args.at c.args.length c.word_bytes.result c.requires.0 (λ i. (c.type_inv.s i).fits) c.word_bytes.ensures in
    let z : word_bytes c.args.length - c.loop-b.b-index ≡ 0 = omega (arith, m, c.word_bytes.ensures) in
    c.loop-b.invariant ∙ ap (λ (m : ℕ). W / 2 ^ (8 * m)) z ∙ div-one W
