use Rattle.store_layout.proofs.ByteOrder.{few-spare}
use mathlib.Core.Bool.{false}
use mathlib.Core.List.{List}
use mathlib.Core.Path.{◌≡◌, refl, sym, ap, ap₂, ◌∙◌}
use Prim.Native.Nat.{ℕ, ◌+◌, ◌-◌, ◌*◌, ◌≤◌, ◌<◌}
use native.Mathlib.Nat.{mul-le-mul, mul-le-mul_left}
use native.Mathlib.Omega.{arith}
use borrow.Author.Tests.{lt-leb}
use lib.ListN.{drop, length as size}
use Rattle.language.specs.Layout.{word_bytes}
use Rattle.language.specs.Store.{all_narrow, words_from}
use Rattle.store_layout.specs.Spare.{narrow_at}
use Rattle.store_layout.proofs.SpareLaws.{narrow-full, narrow-inside, narrow-more, narrow-stop, spare-some, spare-zero}
use Rattle.store_words.proofs.spare.no_spare_bits.Goals as goal
use Rattle.store_words.proofs.spare.no_spare_bits.Goals.{then-s-all-via-then-s-all, then-s-all-via-else-s-all+then-s-all-2}

pub overflow_mul-all : goal.overflow_mul-all
overflow_mul-all c =
    let r = few-spare c.args.length in
    let p = mul-le-mul {n₁ = c.args.words} {m₁ = c.word_bytes-n.result} {n₂ = 4294967296} {m₂ = 1073741824} (omega arith) (omega (arith, c.word_bytes-n.ensures)) in
    omega arith

outside : (B : List ℕ) (at w l : ℕ) → size B < at + w * word_bytes l → false ≡ narrow_at B at w l
unfolding narrow_at
outside B at w l h = rw (lt-leb (at + w * word_bytes l) (size B) h) refl

pub returns-then-s-all : goal.returns-then-s-all
returns-then-s-all c =
    let e = ap (λ (n : ℕ). c.args.words * n) c.word_bytes-n.ensures in
    outside c.args.s.now c.args.at c.args.words c.args.length
    (elim c.then-s-all.branch [ then-s-all-via-then-s-all w ↦ omega arith | then-s-all-via-else-s-all+then-s-all-2 w ↦ omega arith ])

pub overflow_mul-n : goal.overflow_mul-n
overflow_mul-n c = omega (arith, few-spare c.args.length, c.word_bytes-n.ensures)

pub returns-then-n-length : goal.returns-then-n-length
returns-then-n-length c =
    let e = ap (λ (k : ℕ). c.args.words * k) c.word_bytes-n.ensures in
    let fits : c.args.at + c.args.words * word_bytes c.args.length ≤ size c.args.s.now = omega arith in
    let full : 8 * word_bytes c.args.length ≡ c.args.length = omega arith in
    sym (narrow-inside c.args.s.now c.args.at c.args.words c.args.length fits ∙ narrow-full c.args.s.now c.args.at c.args.words c.args.length fits (λ i. (c.type_inv.s i).fits) full)

pub loop-i-init : goal.loop-i-init
loop-i-init c =
    let e = ap (λ (n : ℕ). c.args.words * n) c.word_bytes-n.ensures in
    let z : c.args.words - 0 ≡ c.args.words = omega arith in
    let p : c.args.at + c.word_bytes-n.result * 0 ≡ c.args.at = omega arith in
    rw (z, p) (sym (narrow-inside c.args.s.now c.args.at c.args.words c.args.length (omega arith)))

-- The word that stands after i others, of w in all.
room : (B : List ℕ) (at w l n i : ℕ) → n ≡ word_bytes l → at + w * n ≤ size B → i < w → at + n * i + word_bytes l ≤ size B
room B at w l n i e h g = let m = mul-le-mul_left {m = i + 1} {n = w} n (omega arith) in omega arith

pub spare_bits-requires : goal.spare_bits-requires
spare_bits-requires c =
    room c.args.s.now c.args.at c.args.words c.args.length c.word_bytes-n.result c.loop-i.i c.word_bytes-n.ensures (omega arith) c.loop-i-test.true

pub returns-then-spare_bits-ne0 : goal.returns-then-spare_bits-ne0
returns-then-spare_bits-ne0 c =
    let place : ℕ = c.args.at + c.word_bytes-n.result * c.loop-i.i in
    let fits = room c.args.s.now c.args.at c.args.words c.args.length c.word_bytes-n.result c.loop-i.i c.word_bytes-n.ensures (omega arith) c.loop-i-test.true in
    let some = spare-some c.args.s.now place c.args.length fits (λ i. (c.type_inv.s i).fits) (λ z. c.if-spare_bits-ne0.true (c.spare_bits.ensures ∙ z)) in
    sym (narrow-stop c.args.s.now place (c.args.words - c.loop-i.i) c.args.length (omega arith) some) ∙ c.loop-i.invariant

pub loop-i-preserved : goal.loop-i-preserved
loop-i-preserved c =
    let place : ℕ = c.args.at + c.word_bytes-n.result * c.loop-i.i in
    let fits = room c.args.s.now c.args.at c.args.words c.args.length c.word_bytes-n.result c.loop-i.i c.word_bytes-n.ensures (omega arith) c.loop-i-test.true in
    let none = spare-zero c.args.s.now place c.args.length fits (λ i. (c.type_inv.s i).fits) (sym c.spare_bits.ensures ∙ c.if-spare_bits-ne0.false) in
    ap₂ (λ (w p : ℕ). all_narrow c.args.length (words_from w c.args.length (drop p c.args.s.now))) (omega arith) (omega (arith, c.word_bytes-n.ensures))
    ∙ sym (narrow-more c.args.s.now place (c.args.words - c.loop-i.i) c.args.length (omega arith) none) ∙ c.loop-i.invariant

pub returns : goal.returns
unfolding words_from all_narrow
returns c =
    let z : 0 ≡ c.args.words - c.loop-i.i = omega arith in
    ap (λ (w : ℕ). all_narrow c.args.length (words_from w c.args.length (drop (c.args.at + c.word_bytes-n.result * c.loop-i.i) c.args.s.now))) z ∙ c.loop-i.invariant
