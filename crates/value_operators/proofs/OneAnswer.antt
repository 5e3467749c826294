-- A contract `Means r m` leaves one answer: two answers of four limbs that mean the same are the same.
use mathlib.Core.List.{List}
use mathlib.Core.Path.{◌≡◌, refl, sym, ap, ap₂, ◌∙◌}
use Prim.Native.Nat.{ℕ, zero, suc, ◌^◌, ◌<◌}
use native.Mathlib.Omega.{arith}
use lib.ListN.{length, get_or}
use lib.Seq.{ext_get_or}
use Rattle.std.specs.Prelude.{Option, None, Some}
use Rattle.language.specs.Value as L
use Rattle.value_limbs.specs.Limbs.{number, cat}
use Rattle.value_limbs.proofs.Laws.{two-parts}
use Rattle.value_operators.specs.Meaning.{Means, valued}
use Rattle.value_operators.specs.declared.Value.{Value}

-- Four limbs, each of 64 bits, as the type says.
pub record Sound (x : List ℕ) : Type 0 where
  pub size : length x ≡ 4
  pub below : (i : ℕ) → get_or x i 0 < 2 ^ 64

-- A number has its limbs.
pub number-one : (x y : List ℕ) → Sound x → Sound y → number x ≡ number y → x ≡ y
unfolding number
number-one x y sx sy e =
    let p = two-parts (cat (cat (get_or x 3 0) (get_or x 2 0)) (get_or x 1 0)) (cat (cat (get_or y 3 0) (get_or y 2 0)) (get_or y 1 0)) (sx.below 0) (sy.below 0) e in
    let q = two-parts (cat (get_or x 3 0) (get_or x 2 0)) (cat (get_or y 3 0) (get_or y 2 0)) (sx.below 1) (sy.below 1) p.0 in
    let r = two-parts (get_or x 3 0) (get_or y 3 0) (sx.below 2) (sy.below 2) q.0 in
    ext_get_or 0 x y (sx.size ∙ sym sy.size) (each p.1 q.1 r.1 r.0)
  where
    each : get_or x 0 0 ≡ get_or y 0 0 → get_or x 1 0 ≡ get_or y 1 0 → get_or x 2 0 ≡ get_or y 2 0 → get_or x 3 0 ≡ get_or y 3 0 → (i : ℕ) → i < length x → get_or x i 0 ≡ get_or y i 0
    each a b c d zero h = a
    each a b c d (suc zero) h = b
    each a b c d (suc (suc zero)) h = c
    each a b c d (suc (suc (suc zero))) h = d
    each a b c d (suc (suc (suc (suc i)))) h = let z = sx.size in absurd (omega arith)

pub value-one : (x y : Value) → Sound x.limbs → Sound y.limbs → valued x ≡ valued y → x ≡ y
value-one x y sx sy e =
    ap₂ (λ (l : List ℕ) (n : ℕ). record { limbs = l; length = n }) (number-one x.limbs y.limbs sx sy (ap (λ (v : L.Value). v.number) e)) (ap (λ (v : L.Value). v.length) e)

-- What a value holds, where there is one.
abbrev inner : L.Made → L.Value
inner (L.made v) = v
inner L.none = L.value 0 0

made_none : {v : L.Value} → L.made v ≡ L.none → ⊥
made_none e =
    let z : ◌≡◌ {A = ℕ} 0 1 = cc in
    omega arith

-- The limbs of an answer, where there is one.
abbrev pub SoundIn : Option Value → Type 0
SoundIn (Some v) = Sound v.limbs
SoundIn None = Unit {0}

pub one_answer : (r s : Option Value) (m : L.Made) → SoundIn r → SoundIn s → Means r m → Means s m → r ≡ s
one_answer (Some x) (Some y) m hr hs a b = ap Some (value-one x y hr hs (ap inner (a.meaning ∙ sym b.meaning)))
one_answer None None m hr hs a b = refl
one_answer (Some x) None m hr hs a b = absurd (made_none (a.meaning ∙ sym b.meaning))
one_answer None (Some y) m hr hs a b = absurd (made_none (b.meaning ∙ sym a.meaning))
