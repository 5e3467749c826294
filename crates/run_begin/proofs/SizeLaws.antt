-- The bytes of a facility, in the store and in the stimulus, and bytes that are cleared. Assumes nothing.
use mathlib.Core.Bool.{true, false}
use mathlib.Core.List.{List, ◌++◌, append_assoc}
use mathlib.Core.Path.{◌≡◌, refl, sym, ap, ◌∙◌}
use Prim.Native.Nat.{ℕ, ◌+◌, ◌-◌, ◌*◌, ◌≤◌}
use native.Mathlib.Nat.{mul-le-mul}
use native.Mathlib.Omega.{arith}
use lib.ListN.{drop, length, length-drop, length-replicate, replicate, take}
use lib.Seq.{drop-drop, length-take-le}
use Rattle.language.specs.Description.{Facility, is_computed, word_count, word_length}
use Rattle.language.specs.Layout.{facility_bytes, word_bytes}
use Rattle.language.specs.Store.{is_input}
use Rattle.language.specs.Tree.{Kind, computed, input, memory, plain, register, sequencing}
use Rattle.image_records.proofs.ByteLaws.{placed-whole}
use Rattle.image_records.specs.Placed.{placed}
use Rattle.store_layout.specs.Spare.{narrow_at}
use Rattle.run_begin.specs.InBytes.{fits_at, input_bytes}

-- 65,536 words of 8,192 bytes at most.
pub few_bytes : {w l b : ℕ} → w ≤ 65536 → l ≤ 65536 → b ≡ word_bytes l → w * b ≤ 536870912
unfolding word_bytes
few_bytes {w} {l} {b} p q e = let m = mul-le-mul {n₁ = w} {m₁ = b} {n₂ = 65536} {m₂ = 8192} p (omega (arith, q, e)) in omega (arith, m)

pub input-stored : (k : Kind) → is_input k ≡ true → is_computed k ≡ false
input-stored register e = refl
input-stored sequencing e = refl
input-stored memory e = refl
input-stored plain e = refl
input-stored input e = refl
input-stored computed e = absurd (let z : ◌≡◌ {A = ℕ} 0 1 = cc in omega arith)

pub stored_bytes : (f : Facility) → is_computed f.kind ≡ false → facility_bytes f ≡ word_count f * word_bytes (word_length f)
unfolding facility_bytes
stored_bytes f e = rw e refl

-- ---- In the stimulus.

pub input-whole : (f : Facility) → is_input f.kind ≡ true → input_bytes f ≡ facility_bytes f
unfolding input_bytes
input-whole f e = rw e refl

pub input-here : (f : Facility) (n : ℕ) → is_input f.kind ≡ true → n ≡ word_count f * word_bytes (word_length f) → n ≡ input_bytes f
input-here f n e h = h ∙ (sym (stored_bytes f (input-stored f.kind e)) ∙ sym (input-whole f e))

pub input-not : (f : Facility) → is_input f.kind ≡ false → 0 ≡ input_bytes f
unfolding input_bytes
input-not f e = rw e refl

pub fits-input : (S : List ℕ) (at : ℕ) (f : Facility) → is_input f.kind ≡ true → fits_at S at f ≡ narrow_at S at (word_count f) (word_length f)
unfolding fits_at
fits-input S at f e = rw e refl

pub fits-other : (S : List ℕ) (at : ℕ) (f : Facility) → is_input f.kind ≡ false → fits_at S at f ≡ true
unfolding fits_at
fits-other S at f e = rw e refl

-- ---- In the middle of a slice.

pub put-there : (B : List ℕ) (at n : ℕ) (X : List ℕ) → at + n ≤ length B → length X ≡ n → placed B at X ≡ take at B ++ (X ++ drop (at + n) B)
put-there B at n X h e =
    placed-whole B X at (omega (arith, e, h))
    ∙ (ap (λ (m : ℕ). take at B ++ X ++ drop (at + m) B) e ∙ append_assoc (take at B) X (drop (at + n) B))

pub cleared : (B : List ℕ) (at n : ℕ) (X : List ℕ) → at + n ≤ length B → X ≡ replicate (length (take (at + n - at) (drop at B))) 0
    → take at B ++ (X ++ drop (at + n - at) (drop at B)) ≡ placed B at (replicate n 0)
cleared B at n X h e =
    let s : at + n - at ≡ n = omega arith in
    let m : length (take n (drop at B)) ≡ n = length-take-le n (drop at B) (omega (arith, h, length-drop at B)) in
    let x : X ≡ replicate n 0 = e ∙ (ap (λ (k : ℕ). replicate (length (take k (drop at B))) 0) s ∙ ap (λ (k : ℕ). replicate k 0) m) in
    rw (x, s, drop-drop n at B) (sym (put-there B at n (replicate n 0) h (length-replicate n 0)))
