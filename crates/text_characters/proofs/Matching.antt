-- Two parts of a text are compared from the end, in capitals.
use mathlib.Core.Bool.{Bool, true, false, ◌&&◌, and-false, and-true}
use mathlib.Core.List.{List, [], ◌∷◌, ◌++◌, map, map-append}
use mathlib.Core.Path.{◌≡◌, ◌∙◌, ap, ap₂, sym, refl}
use Prim.Native.Nat.{ℕ, suc, ◌-◌, ◌<◌, ◌≤◌}
use native.Mathlib.Omega.{arith}
use lib.Dec.{eqb}
use lib.ListN.{length, get_or, take, length-map}
use lib.Seq.{length-take-le, take_all, take-length, take-suc}
use Rattle.language.specs.Characters.{folded}
use Rattle.language.specs.Scan.{same}

pub other_length : (a b : List ℕ) → (length a ≡ length b → ⊥) → false ≡ same a b
unfolding same
other_length [] [] h = absurd (h refl)
other_length [] (y ∷ b) h = refl
other_length (x ∷ a) [] h = refl
other_length (x ∷ a) (y ∷ b) h = go (eqb x y) (other_length a b (λ e. h (ap suc e)))
  where
    go : (t : Bool) → false ≡ same a b → false ≡ (t && same a b)
    go true e = e
    go false e = refl

abbrev capitals : List ℕ → List ℕ
capitals s = map folded s

pub other-size : (a b : List ℕ) → (length a ≡ length b → ⊥) → false ≡ same (capitals a) (capitals b)
other-size a b h = other_length (capitals a) (capitals b) (λ e. h (sym (length-map a folded) ∙ e ∙ length-map b folded))

-- One more byte at the end of both.
more-at-end : (s t : List ℕ) (x y : ℕ) → length s ≡ length t → same (s ++ (x ∷ [])) (t ++ (y ∷ [])) ≡ (same s t && eqb x y)
unfolding same
more-at-end [] [] x y h = and-true (eqb x y)
more-at-end [] (b ∷ t) x y h = absurd (omega arith)
more-at-end (a ∷ s) [] x y h = absurd (omega arith)
more-at-end (a ∷ s) (b ∷ t) x y h = go (eqb a b) (more-at-end s t x y (omega arith))
  where
    go : (q : Bool) → same (s ++ (x ∷ [])) (t ++ (y ∷ [])) ≡ (same s t && eqb x y)
        → (q && same (s ++ (x ∷ [])) (t ++ (y ∷ []))) ≡ ((q && same s t) && eqb x y)
    go true e = e
    go false e = refl

-- Of two parts of the same size all but the first i bytes are the same.
abbrev pub Alike : List ℕ → List ℕ → ℕ → Type 0
Alike a b i = same (capitals a) (capitals b) ≡ same (capitals (take i a)) (capitals (take i b))

first_more : (s : List ℕ) (i : ℕ) → i < length s → capitals (take (suc i) s) ≡ capitals (take i s) ++ (folded (get_or s i 0) ∷ [])
first_more s i h = ap capitals (take-suc s i 0 h) ∙ map-append folded (take i s) (get_or s i 0 ∷ [])

first-size : (s : List ℕ) (i : ℕ) → i ≤ length s → length (capitals (take i s)) ≡ i
first-size s i h = length-map (take i s) folded ∙ length-take-le i s h

pub all_alike : (a b : List ℕ) → length a ≡ length b → Alike a b (length a)
all_alike a b h =
    let e : take (length a) b ≡ b = take_all (length a) b (omega arith) in
    sym (ap₂ (λ (s t : List ℕ). same (capitals s) (capitals t)) (take-length a) e)

module _ (a b : List ℕ) (i : ℕ) (size : length a ≡ length b) (alike : Alike a b i) where
  module _ (some : 0 < i) (there : i ≤ length a) where
    last : same (capitals a) (capitals b)
        ≡ (same (capitals (take (i - 1) a)) (capitals (take (i - 1) b)) && eqb (folded (get_or a (i - 1) 0)) (folded (get_or b (i - 1) 0)))
    last =
        let n : i ≡ suc (i - 1) = omega arith in
        alike ∙ ap (λ (j : ℕ). same (capitals (take j a)) (capitals (take j b))) n
        ∙ ap₂ same (first_more a (i - 1) (omega arith)) (first_more b (i - 1) (omega arith))
        ∙ more-at-end (capitals (take (i - 1) a)) (capitals (take (i - 1) b)) _ _
        (first-size a (i - 1) (omega arith) ∙ sym (first-size b (i - 1) (omega arith)))

    pub less : eqb (folded (get_or a (i - 1) 0)) (folded (get_or b (i - 1) 0)) ≡ true → Alike a b (i - 1)
    less e = last ∙ simp (e, and-true)

    pub stop : eqb (folded (get_or a (i - 1) 0)) (folded (get_or b (i - 1) 0)) ≡ false → false ≡ same (capitals a) (capitals b)
    stop e = sym (last ∙ simp (e, and-false))

  pub end : i ≤ 0 → true ≡ same (capitals a) (capitals b)
  unfolding same
  end h = let z : i ≡ 0 = omega arith in sym (alike ∙ rw z)
