-- What HEAD and TAIL give has as many bits as asked for, at least one, and no more than the value that they take it of, whatever the image. Assumes nothing.
use Rattle.std.specs.Prelude.{Bool, true, false, cond, ◌≡◌, refl, ℕ, ◌%◌, ◌^◌, ◌≤◌, eqb, leb, ltb}
use Rattle.std.proofs.Common.{sym, ap, arith, eqb-true, leb-true, ltb-true}
use Rattle.language.specs.Kinds.{ext_word, head_word, tail_word}
use Rattle.language.specs.Operators.{cut_of}
use Rattle.language.specs.Value as Values
use Rattle.language.specs.Value.{Value, cut_length, extended, fit, head, made, tail, value}
use Rattle.language.specs.Ceilings.{longest}
use Rattle.about_calls.specs.Substrings.{Within}

no_value : {A : Type 0} {w : Value} → Values.none ≡ made w → A
no_value e = absurd (let z : ◌≡◌ {A = ℕ} 0 1 = cc in omega arith)

cut_fits : (m c n : ℕ) (w : Value) → fit (cut_length m c) n ≡ made w → Within m c w
unfolding fit cut_length longest
cut_fits m c n w e = by-room (leb c m) refl e
  where
    by_length : (l : ℕ) (a b : Bool) → ltb 0 l ≡ a → cond a (cond b (made (value l (n % 2 ^ l))) Values.none) Values.none ≡ made w → (w.length ≡ l) × (1 ≤ l)
    by_length l true true q h = let z : value l (n % 2 ^ l) ≡ w = cc in (ap (λ (x : Value). x.length) (sym z), ltb-true 0 l q)
    by_length l true false q h = no_value h
    by_length l false b q h = no_value h

    fitted : (l : ℕ) → fit l n ≡ made w → (w.length ≡ l) × (1 ≤ l)
    fitted l h = by_length l (ltb 0 l) (leb l longest) refl h

    by-room : (t : Bool) → leb c m ≡ t → fit (cond t c 0) n ≡ made w → Within m c w
    by-room true q h = let y = fitted c h in record { so-long = y.0; some-bit = y.1; no_longer = leb-true c m q }
    by-room false q h = let y = fitted 0 h in absurd (omega (arith, y.1))

pub substrings-within : (k c : ℕ) (v w : Value) → (k ≡ ext_word → ⊥) → cut_of k v c ≡ made w → Within v.length c w
unfolding cut_of head tail
substrings-within k c v w not-ext e = go (eqb k head_word) (eqb k tail_word) (eqb k ext_word) refl e
  where
    go : (a b t : Bool) → eqb k ext_word ≡ t → cond a (head v c) (cond b (tail v c) (cond t (extended v c) Values.none)) ≡ made w → Within v.length c w
    go true b t q h = cut_fits v.length c _ w h
    go false true t q h = cut_fits v.length c _ w h
    go false false true q h = absurd (not-ext (eqb-true k ext_word q))
    go false false false q h = no_value h
