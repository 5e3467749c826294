-- Values of states: their numbers, and those borne before.
use mathlib.Core.Bool.{Bool, true, false, cond, not, ◌||◌}
use mathlib.Core.List.{List, []}
use mathlib.Core.Logic.{◌⊎◌, inl, inr, ⊎_elim}
use mathlib.Core.Option.{Option, none, some}
use Rattle.std.specs.Prelude as C
use mathlib.Core.Path.{◌≡◌, refl, sym, ap, ◌∙◌}
use native.Mathlib.Numerals.{add-one}
use native.Mathlib.Omega.{arith}
use Prim.Native.Nat.{ℕ, zero, suc, ◌+◌, ◌-◌, ◌*◌, ◌/◌, ◌<◌, ◌≤◌}
use borrow.Author.Tests.{eq-eqb, eqb-false, eqb-true, ne_eqb}
use lib.Dec.{eqb}
use lib.ListN.{get_or}
use Rattle.language.specs.Decode.{digits_before, node_of, number_at}
use Rattle.language.specs.Description as D
use Rattle.language.specs.Description.{Description, Node, Places, constant_value, node_at, state_at}
use Rattle.language.specs.Judging as L
use Rattle.language.specs.declared.refusals.Refusal.TheVariants.{BadSequencing}
use Rattle.language.specs.Rules as R
use Rattle.language.specs.Value.{Value, value}
use Rattle.language.specs.Words as W
use Rattle.image_records.proofs.ConstantLaws.{constant-ends}
use Rattle.image_records.proofs.DigitLaws.{further-of}
use Rattle.image_records.specs.Nodes.{constant_number}
use Rattle.judge_all.specs.Stated.{right_value, values_before, wanted_length}
use Rattle.language.specs.Encode.{node_size}

-- ---- The number of a record: that of its own and those before it, or 0.

module _ (s : List ℕ) (n : ℕ) where
  abbrev Either : Node → Type 0
  Either x = (constant_value x ≡ value 0 0) ⊎ (constant_value x ≡ value (get_or s (node_size * n + 1) 0 + 1) (constant_number n s))

  either : (x : Node) → node_of s n ≡ x → Either x
  either (D.constant v) e = inr (constant-ends s n v e).is
  either (D.more k) e = inl refl
  either (D.whole f) e = inl refl
  either (D.one f a) e = inl refl
  either (D.part f b) e = inl refl
  either (D.two f a b) e = inl refl
  either (D.word_part f a b) e = inl refl
  either (D.binary k a b) e = inl refl
  either (D.prefix k a) e = inl refl
  either (D.cut k a b) e = inl refl
  either (D.first_arm a) e = inl refl
  either (D.next_arm a b) e = inl refl
  either (D.choice a b k) e = inl refl
  either D.Node.broken e = inl refl

  abbrev length_here : Value → ℕ
  length_here v = v.length

  abbrev number_here : Value → ℕ
  number_here v = v.number

  pub number-none : (constant_value (node_of s n)).length ≡ 0 → (constant_value (node_of s n)).number ≡ 0
  number-none h =
      ⊎_elim (λ e. ap number_here e)
      (λ e. absurd (let z : (constant_value (node_of s n)).length ≡ get_or s (node_size * n + 1) 0 + 1 = ap length_here e in omega arith)) (either (node_of s n) refl)

  pub number-some : (k : ℕ) → ((constant_value (node_of s n)).length ≡ 0 → ⊥) → k ≡ get_or s (node_size * n + 1) 0 / 48
      → number_at 6 (node_size * n + 2) s + digits_before k n s ≡ (constant_value (node_of s n)).number
  unfolding constant_number
  number-some k h q =
      ⊎_elim (λ e. absurd (h (ap length_here e)))
      (λ e. sym (ap number_here e ∙ ap (λ (j : ℕ). number_at 6 (node_size * n + 2) s + digits_before j n s) (further-of (get_or s (node_size * n + 1) 0) ∙ sym q)))
      (either (node_of s n) refl)

pub zero-first : (a b : ℕ) → a ≡ 0 → eqb b 0 ≡ eqb a b
zero-first a b e = by-test (eqb b 0) refl
  where
    by-test : (t : Bool) → eqb b 0 ≡ t → eqb b 0 ≡ eqb a b
    by-test true t = t ∙ sym (eq-eqb a b (e ∙ sym (eqb-true b 0 t)))
    by-test false t = t ∙ sym (ne_eqb a b (λ h. eqb-false b 0 t (sym h ∙ e)))

pub zero-second : (a b : ℕ) → b ≡ 0 → eqb a 0 ≡ eqb a b
zero-second a b e = ap (eqb a) (sym e)

-- ---- Values borne before.

module _ (d : Description) (p : Places) (v n : ℕ) where
  pub bears-some : (b : ℕ) (r : Bool) → some b ≡ (state_at d n).value → r ≡ eqb v (constant_value (node_at d b)).number
      → R.repeated d p v (values_before d p (n + 1)) ≡ (r || R.repeated d p v (values_before d p n))
  unfolding values_before R.repeated
  bears-some b r e q = rw (add-one n, ← e, q)

  pub bears-none : none ≡ (state_at d n).value → R.repeated d p v (values_before d p (n + 1)) ≡ (false || R.repeated d p v (values_before d p n))
  unfolding values_before R.repeated
  bears-none e = rw (add-one n, ← e)

-- Whether one of the first n states bears a number.
abbrev pub borne_by : Description → Places → ℕ → ℕ → Bool
borne_by d p v n = R.repeated d p v (values_before d p n)

pub one_less : (f : ℕ → Bool) (n : ℕ) {r b whole : Bool} → 0 < n → f (n - 1 + 1) ≡ (r || f (n - 1)) → r ≡ b → f n ≡ whole → (b || f (n - 1)) ≡ whole
one_less f n h e q w =
    let z : n - 1 + 1 ≡ n = omega arith in
    sym (ap (λ (t : Bool). t || f (n - 1)) q) ∙ sym e ∙ ap f z ∙ w

pub none_left : (d : Description) (p : Places) (v n : ℕ) {whole : Bool} → n ≤ 0 → borne_by d p v n ≡ whole → false ≡ whole
unfolding values_before R.repeated
none_left d p v zero h w = w
none_left d p v (suc n) h w = absurd (omega arith)

-- ---- The length that is wanted.

not-is : (b : Bool) → not b ≡ cond b false true
not-is true = refl
not-is false = refl

module _ (d : Description) (p : Places) (before : List ℕ) (a : ℕ) {w : C.Option ℕ} where
  pub unwanted : w ≡ C.None → false ≡ right_value d p (wanted_length w) before a
  unfolding wanted_length
  unwanted e = rw e

  module _ (l : ℕ) (h : w ≡ C.Some l) where
    pub wrong-length : ((constant_value (node_at d a)).length ≡ l → ⊥) → false ≡ right_value d p (wanted_length w) before a
    unfolding wanted_length
    wrong-length g = rw (h, ne_eqb (constant_value (node_at d a)).length l g)

    pub right-length : {b : Bool} → (constant_value (node_at d a)).length ≡ l → R.repeated d p (constant_value (node_at d a)).number before ≡ b
        → not b ≡ right_value d p (wanted_length w) before a
    unfolding wanted_length
    right-length {b} g e = rw (h, eq-eqb (constant_value (node_at d a)).length l g, e) (not-is b)

module _ (d : Description) (p : Places) (before : List ℕ) (q : W.Position) where
  pub no-value-faults : (l : Option ℕ) → [] ≡ R.value_faults d p l before q none
  no-value-faults none = refl
  no-value-faults (some l) = refl

  pub value-faults-are : (l : Option ℕ) (a : ℕ) → L.unless (right_value d p l before a) q BadSequencing ≡ R.value_faults d p l before q (some a)
  value-faults-are none a = refl
  value-faults-are (some l) a = refl
