-- Texts written one after the other. Assumes nothing.
use mathlib.Core.List.{List, [], ◌∷◌, ◌++◌, append_assoc, append-nil}
use mathlib.Core.Path.{◌≡◌, refl, sym, ap, ◌∙◌}
use Prim.Native.Nat.{ℕ, suc, ◌+◌, ◌≤◌, ◌<◌}
use native.Mathlib.Omega.{arith}
use lib.ListN.{length, length-append, length-set, set, take}
use lib.Seq.{take-suc-set}
use Rattle.trace_output.specs.Adds.{Added, Adds}

pub adds_none : (B : List ℕ) (at : ℕ) → Adds [] B at B at
adds_none B at = record { long = refl; roomy = λ h. record { place = omega arith; text = sym (append-nil (take at B)) } }

pub adds_one : (B : List ℕ) (at b : ℕ) → at < length B → Adds (b ∷ []) B at (set B at b) (at + 1)
adds_one B at b h =
    let e : at + 1 ≡ suc at = omega arith in
    record { long = length-set B at b; roomy = λ _. record { place = refl; text = ap (λ (n : ℕ). take n (set B at b)) e ∙ take-suc-set B at b h } }

pub adds-full : (B : List ℕ) (at b : ℕ) → length B ≤ at → Adds (b ∷ []) B at B at
adds-full B at b h = record { long = refl; roomy = λ g. absurd (omega arith) }

pub adds-both : {X Y B C D : List ℕ} {at r q : ℕ} → Adds X B at C r → Adds Y C r D q → Adds (X ++ Y) B at D q
adds-both {X} {Y} {B} {C} {D} {at} {r} {q} a b = record {
  long = b.long ∙ a.long;
  roomy = λ h.
      let n = length-append X Y in
      let p : Added X B at C r = a.roomy (omega (arith, h, n)) in
      let s : Added Y C r D q = b.roomy (omega (arith, h, n, p.place, a.long)) in
      record {
        place = omega (arith, n, p.place, s.place);
        text = s.text ∙ (ap (λ (T : List ℕ). T ++ Y) p.text ∙ append_assoc (take at B) X Y);
      };
}

pub adds-as : {X Y B C : List ℕ} {at r : ℕ} → Adds X B at C r → X ≡ Y → Adds Y B at C r
adds-as {X} {Y} {B} {C} {at} {r} a e = rw e at a
