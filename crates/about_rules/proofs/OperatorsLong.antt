-- The operators, one by one: a length that judging works out for one is a length by the relation of HasLength. Assumes nothing.
use Rattle.std.specs.Prelude.{Bool, ◌≡◌, ℕ, zero, suc, ◌*◌, ◌≤◌}
use Rattle.std.proofs.Math.Bool.{true, false, cond}
use Rattle.std.proofs.Math.Path.{refl}
use native.Mathlib.Omega.{arith}
use Rattle.std.proofs.Common.{leb-true}
use Rattle.std.proofs.Math.Dec.{eqb, leb}
use Rattle.language.specs.Description.{Description}
use Rattle.language.specs.Kinds.{at_least_sign, at_most_sign, con_word, difference_sign, exclusive_sign, ext_word, greater_sign, hash, head_word, less_sign, minus, plus, same_sign, star, sum_sign, tail_word}
use Rattle.language.specs.Operators.{binary_length, cut_length_of, prefix_length}
use Rattle.language.specs.Value.{complement_length, count_length, cut_length, difference_length, join_length, logical_length, negation_length, reduction_length, relation_length, repeat_length, sum_length}
use Rattle.about_running.specs.Operators.{by_kind}
use Rattle.about_rules.specs.HasLength as H
use Rattle.about_rules.specs.HasLength.{Binary, Cut, Long, Prefix, expression, most_bits}

module _ (d : Description) (known n a b l m : ℕ) (left : Long d known expression a l) (right : Long d known expression b m) where
  abbrev BinaryLong : ℕ → Type 0
  BinaryLong k = Binary d n k a b → 1 ≤ binary_length k l m → binary_length k l m ≤ most_bits → Long d known expression n (binary_length k l m)

  pub binary-long : (k : ℕ) → BinaryLong k
  unfolding binary_length sum_length difference_length join_length logical_length relation_length
  binary-long k =
      by_kind BinaryLong k sum_sign (λ e h j. H.sum e left right j) (λ e1.
      by_kind BinaryLong k difference_sign (λ e h j. H.difference e left right j) (λ e2.
      by_kind BinaryLong k con_word (λ e h j. H.joined e left right j) (λ e3.
      by_kind BinaryLong k plus (λ e h j. H.logical H.either e left right) (λ e4.
      by_kind BinaryLong k star (λ e h j. H.logical H.each e left right) (λ e5.
      by_kind BinaryLong k exclusive_sign (λ e h j. H.logical H.exclusive e left right) (λ e6.
      by_kind BinaryLong k same_sign (λ e h j. H.relation H.equals e left right) (λ e7.
      by_kind BinaryLong k hash (λ e h j. H.relation H.unequal e left right) (λ e8.
      by_kind BinaryLong k less_sign (λ e h j. H.relation H.less e left right) (λ e9.
      by_kind BinaryLong k greater_sign (λ e h j. H.relation H.greater e left right) (λ ea.
      by_kind BinaryLong k at_most_sign (λ e h j. H.relation H.at-most e left right) (λ eb.
      by_kind BinaryLong k at_least_sign (λ e h j. H.relation H.at_least e left right) (λ ec.
      λ e h j. absurd (other e1 e2 e3 e4 e5 e6 e7 e8 e9 ea eb ec h)))))))))))))
    where
      other : eqb k sum_sign ≡ false → eqb k difference_sign ≡ false → eqb k con_word ≡ false → eqb k plus ≡ false → eqb k star ≡ false → eqb k exclusive_sign ≡ false
          → eqb k same_sign ≡ false → eqb k hash ≡ false → eqb k less_sign ≡ false → eqb k greater_sign ≡ false → eqb k at_most_sign ≡ false → eqb k at_least_sign ≡ false
          → 1 ≤ binary_length k l m → ⊥
      other e1 e2 e3 e4 e5 e6 e7 e8 e9 ea eb ec h = let z = rw (e1, e2, e3, e4, e5, e6, e7, e8, e9, ea, eb, ec) at h in omega arith

module _ (d : Description) (known n a l : ℕ) (of : Long d known expression a l) where
  abbrev PrefixLong : ℕ → Type 0
  PrefixLong k = Prefix d n k a → 1 ≤ prefix_length k l → prefix_length k l ≤ most_bits → Long d known expression n (prefix_length k l)

  pub prefix-long : (k : ℕ) → PrefixLong k
  unfolding prefix_length complement_length negation_length count_length reduction_length
  prefix-long k =
      by_kind PrefixLong k minus (λ e h j. H.complement e of) (λ e1.
      by_kind PrefixLong k difference_sign (λ e h j. H.negation e of j) (λ e2.
      by_kind PrefixLong k sum_sign (λ e h j. H.counted e of) (λ e3.
      by_kind PrefixLong k plus (λ e h j. H.reduced H.either e of) (λ e4.
      by_kind PrefixLong k star (λ e h j. H.reduced H.each e of) (λ e5.
      by_kind PrefixLong k exclusive_sign (λ e h j. H.reduced H.exclusive e of) (λ e6.
      λ e h j. absurd (other e1 e2 e3 e4 e5 e6 h)))))))
    where
      other : eqb k minus ≡ false → eqb k difference_sign ≡ false → eqb k sum_sign ≡ false → eqb k plus ≡ false → eqb k star ≡ false → eqb k exclusive_sign ≡ false
          → 1 ≤ prefix_length k l → ⊥
      other e1 e2 e3 e4 e5 e6 h = let z = rw (e1, e2, e3, e4, e5, e6) at h in omega arith

  -- HEAD and TAIL give c bits, where there are as many.
  cut-so : (c : ℕ) → 1 ≤ cut_length l c → (c ≤ l → 1 ≤ c → Long d known expression n c) → Long d known expression n (cut_length l c)
  unfolding cut_length
  cut-so c h on = go (leb c l) refl h
    where
      go : (t : Bool) → leb c l ≡ t → 1 ≤ cond t c 0 → Long d known expression n (cond t c 0)
      go true q h' = on (leb-true c l q) h'
      go false q h' = absurd (omega arith)

  times-some : (c : ℕ) → 1 ≤ l * c → 1 ≤ c
  times-some zero h = absurd (omega arith)
  times-some (suc c) h = omega arith

  abbrev CutLong : ℕ → ℕ → Type 0
  CutLong c k = Cut d n k a c → 1 ≤ cut_length_of k l c → cut_length_of k l c ≤ most_bits → Long d known expression n (cut_length_of k l c)

  pub cut-long : (k c : ℕ) → CutLong c k
  unfolding cut_length_of repeat_length
  cut-long k c =
      by_kind (CutLong c) k head_word (λ e h j. cut-so c h (λ m s. H.substring H.head e of s m)) (λ e1.
      by_kind (CutLong c) k tail_word (λ e h j. cut-so c h (λ m s. H.substring H.tail e of s m)) (λ e2.
      by_kind (CutLong c) k ext_word (λ e h j. H.extended e of (times-some c h) j) (λ e3.
      λ e h j. absurd (other e1 e2 e3 h))))
    where
      other : eqb k head_word ≡ false → eqb k tail_word ≡ false → eqb k ext_word ≡ false → 1 ≤ cut_length_of k l c → ⊥
      other e1 e2 e3 h = let z = rw (e1, e2, e3) at h in omega arith
