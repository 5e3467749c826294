-- The value that a constant gives a state.
use mathlib.Core.Bool.{Bool, true, false, cond}
use mathlib.Core.Option.{Option, none, some}
use mathlib.Core.Path.{◌≡◌, refl, sym, ◌∙◌}
use Prim.Native.Nat.{ℕ, ◌%◌, ◌^◌, ◌<◌, ◌≤◌}
use native.Mathlib.Nat.{mod-eq_of_lt, mod-lt}
use borrow.Author.Tests.{eqb-false, eqb-true, lt-ltb, ltb-true}
use lib.Dec.{eqb, ltb}
use lib.Pow.{pow_pos}
use Rattle.language.specs.DescribeText.{state_constant}
use Rattle.language.specs.Scan.{written}
use Rattle.language.specs.Value.{Value, value}
use Rattle.language.specs.Words.{Constant}
use Rattle.value_operators.proofs.Fits.{allowed-le}
use Rattle.value_operators.specs.Meaning.{allowed}
use Rattle.parse_states.specs.Begins.{length_of}

module _ (l : ℕ) (v : Value) where
  -- One that was written with its length keeps it.
  pub not-bare : {b : Bool} → b ≡ false → v ≡ state_constant (length_of l) (written b v)
  unfolding state_constant
  not-bare {b} e = go (length_of l)
    where
      go : (o : Option ℕ) → v ≡ state_constant o (written b v)
      go none = refl
      go (some m) = rw e

  pub no_length : (b : Bool) → allowed l ≡ false → v ≡ state_constant (length_of l) (written b v)
  unfolding state_constant length_of
  no_length b e = rw e

  below : {m : ℕ} → m ≡ v.number % 2 ^ l → eqb m v.number ≡ true → v.number < 2 ^ l
  below {m} e h =
      let p : v.number ≡ v.number % 2 ^ l = sym (eqb-true m v.number h) ∙ e in
      rw p (mod-lt v.number (pow_pos l))

  pub length_taken : {b : Bool} {m : ℕ} → b ≡ true → allowed l ≡ true → m ≡ v.number % 2 ^ l → eqb m v.number ≡ true → value l v.number ≡ state_constant (length_of l) (written b v)
  unfolding state_constant length_of
  length_taken e a d h = rw (e, a, lt-ltb v.number (2 ^ l) (below d h))

  pub too_large : {b : Bool} {m : ℕ} → b ≡ true → allowed l ≡ true → m ≡ v.number % 2 ^ l → eqb m v.number ≡ false → v ≡ state_constant (length_of l) (written b v)
  unfolding state_constant length_of
  too_large {b} {m} e a d h = go (ltb v.number (2 ^ l)) refl
    where
      go : (t : Bool) → ltb v.number (2 ^ l) ≡ t → v ≡ state_constant (length_of l) (written b v)
      go true q = absurd (eqb-false m v.number h (d ∙ mod-eq_of_lt (ltb-true v.number (2 ^ l) q)))
      go false q = rw (e, a, q)

-- No value is longer than those of a text.
pub not-longer : (l : ℕ) (c : Constant) → c.value.length ≤ 256 → (state_constant (length_of l) c).length ≤ 256
unfolding state_constant length_of
not-longer l c h = go (allowed l) refl
  where
    go : (t : Bool) → allowed l ≡ t → (state_constant (cond t (some l) none) c).length ≤ 256
    go false e = h
    go true e = by c.bare (ltb c.value.number (2 ^ l))
      where
        by : (p q : Bool) → (cond p (cond q (value l c.value.number) c.value) c.value).length ≤ 256
        by true true = allowed-le l e
        by true false = h
        by false q = h
