-- Of the constants with which a text begins, the scanner finds the longest, or refuses it. Assumes nothing.
use Rattle.std.specs.Prelude.{Bool, true, false, cond, List, [], ◌∷◌, ◌++◌, ◌≡◌, refl, ℕ, suc, ◌+◌, ◌^◌, ◌≤◌, ◌<◌, eqb, leb, ltb, drop, get_or, length, take}
use Rattle.std.proofs.Common.{append_assoc, append-nil, sym, ap, subst, ◌∙◌, arith, eqb-true, ltb-true, lt-ltb, ne_eqb, length-append, length-drop, take-append-drop, length-take-le}
use Rattle.std.proofs.Math.ListN.{get_or-eq_default}
use Rattle.std.proofs.lemmas.List.{length-map}
use Rattle.std.proofs.Math.Seq.{get_or-append_seam}
use Rattle.language.specs.Characters.{digit_worth, folded}
use Rattle.language.specs.Constants.{binary_constant, digits_number}
use Rattle.language.specs.Scan as Scan
use Rattle.language.specs.Scan.{Found, bare_at, based, based_item, binary_at, constant_at, decimal_at, digit_bits, digits_of, is_decimal_base, is_digit_of, span}
use Rattle.language.specs.declared.refusals.Refusal.TheVariants.{BadConstant}
use Rattle.language.specs.Ceilings.{longest}
use Rattle.language.specs.Words.{Constant}
use Rattle.about_reading.proofs.SpelledBytes.{Pass, all_map, bits-designator, decimal-tens, designator-bits, designator-small, digit-test, span-all, span-exact, span-le, span-most, span-stop, tens-decimal, test-digit}
use Rattle.about_reading.proofs.SpelledSymbols.{Taken}
use Rattle.about_reading.specs.Spelling.{All, Begins, DecimalDesignator, Designator, Digits, DigitOf, IsConstant, digits, more, none}

-- ---- Digits.

abbrev D : ℕ → Bool
D = is_digit_of 10

digits-length : (base : ℕ) (t : List ℕ) → length (digits_of base t) ≡ span (is_digit_of base) t
unfolding digits_of
digits-length base t = length-map (take (span (is_digit_of base) t) t) digit_worth ∙ length-take-le (span (is_digit_of base) t) t (span-le (is_digit_of base) t)

digits-pass : {base : ℕ} {s : List ℕ} → Digits base s → All (Pass (is_digit_of base)) s
digits-pass {base} (digits {b = b} h a) = more (digit-test base b h) (all_map (digit-test base) a)

pass-digits : {base : ℕ} {s : List ℕ} → base ≤ 16 → All (Pass (is_digit_of base)) s → 0 < length s → Digits base s
pass-digits m none h = absurd (omega arith)
pass-digits {base} m (more {b = b} e a) h = digits (test-digit base b m e) (all_map (λ c k. test-digit base c m k) a)

-- ---- What follows the first digits decides.

drop_past : (l : List ℕ) (c : ℕ) (r : List ℕ) → drop (suc (length l)) (l ++ c ∷ r) ≡ r
drop_past [] c r = refl
drop_past (x ∷ l) c r = drop_past l c r

abbrev follows : ℕ → ℕ → List ℕ → ℕ → List ℕ → Found
follows c n r l ds = cond (ltb 0 (digit_bits c)) (binary_at (digit_bits c) l n r) (cond (is_decimal_base c) (decimal_at l n r) (bare_at ds))

constant-parts : (l r : List ℕ) (c : ℕ) → All (Pass D) l → D c ≡ false
    → constant_at (l ++ c ∷ r) ≡ follows c (length l) r (digits_number 10 (digits_of 10 (l ++ c ∷ r))) (digits_of 10 (l ++ c ∷ r))
unfolding constant_at
constant-parts l r c a e =
    let n : length (digits_of 10 (l ++ c ∷ r)) ≡ length l = digits-length 10 (l ++ c ∷ r) ∙ span-exact D a c r e in
    rw (n, get_or-append_seam l c r 0, drop_past l c r)

binary-size : (k l n : ℕ) (r : List ℕ) → eqb (get_or r 0 0) 46 ≡ false → (binary_at k l n r).size ≡ n + 1 + span (is_digit_of (2 ^ k)) r
unfolding binary_at
binary-size k l n r e = rw (e, digits-length (2 ^ k) r)

period-size : (k l n : ℕ) (r : List ℕ) → (binary_at k l n (46 ∷ r)).size ≡ n + 2 + span (is_digit_of (2 ^ k)) r
unfolding binary_at
period-size k l n r = rw (digits-length (2 ^ k) r)

decimal-size : (l n : ℕ) (r : List ℕ) → (decimal_at l n r).size ≡ n + 1 + span D r
unfolding decimal_at
decimal-size l n r = rw (digits-length 10 r)

bare-size : (t : List ℕ) → (bare_at (digits_of 10 t)).size ≡ span D t
unfolding bare_at
bare-size t = digits-length 10 t

-- ---- No constant with which the text begins is longer than what is found.

binary-least : (k l n : ℕ) (r : List ℕ) → n ≤ (binary_at k l n r).size
unfolding binary_at
binary-least k l n r = go (eqb (get_or r 0 0) 46)
  where
    go : (t : Bool) → n ≤ (cond t (based l (digits_of (2 ^ k) (drop 1 r)) (Scan.written false (binary_constant k true l (digits_of (2 ^ k) (drop 1 r)))) (n + 2))
        (based l (digits_of (2 ^ k) r) (Scan.written false (binary_constant k false l (digits_of (2 ^ k) r))) (n + 1))).size
    go true = omega arith
    go false = omega arith

-- The first digits are part of it.
digits-least : (t : List ℕ) → span D t ≤ (constant_at t).size
unfolding constant_at
digits-least t = rw (← digits-length 10 t) (go (ltb 0 (digit_bits (get_or t (length (digits_of 10 t)) 0))) (is_decimal_base (get_or t (length (digits_of 10 t)) 0)))
  where
    n : ℕ
    n = length (digits_of 10 t)

    go : (x y : Bool) → n ≤ (cond x (binary_at (digit_bits (get_or t n 0)) (digits_number 10 (digits_of 10 t)) n (drop (suc n) t))
        (cond y (decimal_at (digits_number 10 (digits_of 10 t)) n (drop (suc n) t)) (bare_at (digits_of 10 t)))).size
    go true y = binary-least (digit_bits (get_or t n 0)) (digits_number 10 (digits_of 10 t)) n (drop (suc n) t)
    go false true = rw (decimal-size (digits_number 10 (digits_of 10 t)) n (drop (suc n) t)) (omega arith)
    go false false = rw (bare-size t, ← digits-length 10 t) (omega arith)

-- A digit is no period.
digit-first : {base : ℕ} {s : List ℕ} → Digits base s → (v : List ℕ) → eqb (get_or (s ++ v) 0 0) 46 ≡ false
digit-first {base} (digits {b = b} h a) v = ne_eqb b 46 (other h)
  where
    other : DigitOf base b → b ≡ 46 → ⊥
    other (DigitOf.numeral h k l) e = omega arith
    other (DigitOf.capital h k l) e = omega arith
    other (DigitOf.small h k l) e = omega arith

module _ {l : List ℕ} (len : Digits 10 l) where
  based-most : {s : List ℕ} {c base : ℕ} → Designator c base → Digits base s → (v : List ℕ) → length (l ++ c ∷ s) ≤ (constant_at (l ++ c ∷ (s ++ v))).size
  based-most {s} {c} {base} g h v =
      let b = designator-bits g in
      rw (constant-parts l (s ++ v) c (digits-pass len) b.other, b.same, lt-ltb 0 b.bits b.some, binary-size b.bits (digits_number 10 (digits_of 10 (l ++ c ∷ (s ++ v)))) (length l) (s ++ v) (digit-first h v), b.power)
      (omega (arith, length-append l (c ∷ s), span-most (is_digit_of base) (digits-pass h) v))

  justified-most : {s : List ℕ} {c base : ℕ} → Designator c base → Digits base s → (v : List ℕ) → length (l ++ c ∷ 46 ∷ s) ≤ (constant_at (l ++ c ∷ 46 ∷ (s ++ v))).size
  justified-most {s} {c} {base} g h v =
      let b = designator-bits g in
      rw (constant-parts l (46 ∷ (s ++ v)) c (digits-pass len) b.other, b.same, lt-ltb 0 b.bits b.some, period-size b.bits (digits_number 10 (digits_of 10 (l ++ c ∷ 46 ∷ (s ++ v)))) (length l) (s ++ v), b.power)
      (omega (arith, length-append l (c ∷ 46 ∷ s), span-most (is_digit_of base) (digits-pass h) v))

  decimal-most : {s : List ℕ} {c : ℕ} → DecimalDesignator c → Digits 10 s → (v : List ℕ) → length (l ++ c ∷ s) ≤ (constant_at (l ++ c ∷ (s ++ v))).size
  decimal-most {s} {c} g h v =
      let b = decimal-tens g in
      rw (constant-parts l (s ++ v) c (digits-pass len) b.other, b.bits, b.tens, decimal-size (digits_number 10 (digits_of 10 (l ++ c ∷ (s ++ v)))) (length l) (s ++ v))
      (omega (arith, length-append l (c ∷ s), span-most D (digits-pass h) v))

pub constant-longest : {u : List ℕ} → IsConstant u → (v : List ℕ) → length u ≤ (constant_at (u ++ v)).size
constant-longest {u} (IsConstant.bare h) v = omega (arith, span-most D (digits-pass h) v, digits-least (u ++ v))
constant-longest (IsConstant.based {l} {s} {c} {base} g e h) v = rw append_assoc (based-most g e h v)
constant-longest (IsConstant.justified {l} {s} {c} {base} g e h) v = rw append_assoc (justified-most g e h v)
constant-longest (IsConstant.decimal {l} {s} {c} g e h) v = rw append_assoc (decimal-most g e h v)

-- ---- What is found is a constant, and the text begins with it.

based-taken : (l : ℕ) (ds : List ℕ) (c : Constant) → Taken (based_item l ds c) → 0 < length ds
based-taken l ds c h = go (ltb 0 (length ds)) refl h
  where
    go : (t : Bool) → ltb 0 (length ds) ≡ t → Taken (cond t (cond (ltb 0 l) (cond (leb l longest) (Scan.constant c) (Scan.wrong BadConstant)) (Scan.wrong BadConstant)) (Scan.wrong BadConstant)) → 0 < length ds
    go true q k = ltb-true 0 _ q
    go false q k = absurd k

-- The digits at the start of a text.
run_of : (base : ℕ) (r : List ℕ) → base ≤ 16 → 0 < length (digits_of base r) → Digits base (take (span (is_digit_of base) r) r)
run_of base r m h =
    let n = length-take-le (span (is_digit_of base) r) r (span-le (is_digit_of base) r) in
    pass-digits m (span-all (is_digit_of base) r) (omega (arith, digits-length base r))

binary-taken : (k l n : ℕ) (r : List ℕ) → eqb (get_or r 0 0) 46 ≡ false → Taken (binary_at k l n r).item → 0 < length (digits_of (2 ^ k) r)
unfolding binary_at
binary-taken k l n r e h = based-taken l (digits_of (2 ^ k) r) _ (rw e at h)

period-taken : (k l n : ℕ) (r : List ℕ) → Taken (binary_at k l n (46 ∷ r)).item → 0 < length (digits_of (2 ^ k) r)
unfolding binary_at
period-taken k l n r h = based-taken l (digits_of (2 ^ k) r) _ h

decimal-taken : (l n : ℕ) (r : List ℕ) → Taken (decimal_at l n r).item → 0 < length (digits_of 10 r)
unfolding decimal_at
decimal-taken l n r h = based-taken l (digits_of 10 r) _ h

module _ (l : List ℕ) (len : Digits 10 l) (c : ℕ) where
  -- A word that goes on behind the length and the designator.
  goes_on : (f : Found) (r a : List ℕ) (base : ℕ) → f.size ≡ length l + suc (length a) + span (is_digit_of base) r
      → IsConstant (l ++ c ∷ (a ++ take (span (is_digit_of base) r) r)) → Begins IsConstant (l ++ c ∷ (a ++ r)) f.size
  goes_on f r a base e h =
      let n : ℕ = span (is_digit_of base) r in
      record {
        word = l ++ c ∷ (a ++ take n r);
        rest = drop n r;
        begins = sym (append_assoc l (c ∷ (a ++ take n r)) (drop n r) ∙ ap (λ (x : List ℕ). l ++ c ∷ x) (append_assoc a (take n r) (drop n r) ∙ ap (λ (x : List ℕ). a ++ x) (take-append-drop n r)));
        size = length-append l (c ∷ (a ++ take n r)) ∙ (ap (λ (k : ℕ). length l + suc k) (length-append a (take n r) ∙ ap (λ (k : ℕ). length a + k) (length-take-le n r (span-le (is_digit_of base) r))) ∙ (omega arith ∙ sym e));
        holds = h;
      }

  module _ (k m : ℕ) (g : Designator c (2 ^ k)) where
    straight : (r : List ℕ) → eqb (get_or r 0 0) 46 ≡ false → Taken (binary_at k m (length l) r).item → Begins IsConstant (l ++ c ∷ r) (binary_at k m (length l) r).size
    straight r e h =
        goes_on (binary_at k m (length l) r) r [] (2 ^ k) (binary-size k m (length l) r e)
        (IsConstant.based len g (run_of (2 ^ k) r (designator-small g) (binary-taken k m (length l) r e h)))

    with-period : (r : List ℕ) → Taken (binary_at k m (length l) (46 ∷ r)).item → Begins IsConstant (l ++ c ∷ 46 ∷ r) (binary_at k m (length l) (46 ∷ r)).size
    with-period r h =
        goes_on (binary_at k m (length l) (46 ∷ r)) r (46 ∷ []) (2 ^ k) (period-size k m (length l) r)
        (IsConstant.justified len g (run_of (2 ^ k) r (designator-small g) (period-taken k m (length l) r h)))

    binary-found : (r : List ℕ) → Taken (binary_at k m (length l) r).item → Begins IsConstant (l ++ c ∷ r) (binary_at k m (length l) r).size
    binary-found [] h = straight [] refl h
    binary-found (x ∷ r) h = go (eqb x 46) refl
      where
        go : (t : Bool) → eqb x 46 ≡ t → Begins IsConstant (l ++ c ∷ x ∷ r) (binary_at k m (length l) (x ∷ r)).size
        go true q =
            subst (λ (y : ℕ). Taken (binary_at k m (length l) (y ∷ r)).item → Begins IsConstant (l ++ c ∷ y ∷ r) (binary_at k m (length l) (y ∷ r)).size)
            (sym (eqb-true x 46 q)) (with-period r) h
        go false q = straight (x ∷ r) q h

  decimal-found : (m : ℕ) (r : List ℕ) → DecimalDesignator c → Taken (decimal_at m (length l) r).item → Begins IsConstant (l ++ c ∷ r) (decimal_at m (length l) r).size
  decimal-found m r g h =
      goes_on (decimal_at m (length l) r) r [] 10 (decimal-size m (length l) r) (IsConstant.decimal len g (run_of 10 r (omega arith) (decimal-taken m (length l) r h)))

  -- Nothing follows the digits that makes them a length.
  bare-found : (r : List ℕ) → D c ≡ false → Begins IsConstant (l ++ c ∷ r) (bare_at (digits_of 10 (l ++ c ∷ r))).size
  bare-found r e =
      record {
        word = l;
        rest = c ∷ r;
        begins = refl;
        size = sym (bare-size (l ++ c ∷ r) ∙ span-exact D (digits-pass len) c r e);
        holds = IsConstant.bare len;
      }

  parts-found : (r : List ℕ) → D c ≡ false → Taken (constant_at (l ++ c ∷ r)).item → Begins IsConstant (l ++ c ∷ r) (constant_at (l ++ c ∷ r)).size
  parts-found r e h =
      subst (λ (f : Found). Taken f.item → Begins IsConstant (l ++ c ∷ r) f.size) (sym (constant-parts l r c (digits-pass len) e))
      (go (ltb 0 (digit_bits c)) refl (is_decimal_base c) refl) h
    where
      go : (x : Bool) → ltb 0 (digit_bits c) ≡ x → (y : Bool) → is_decimal_base c ≡ y
          → Taken (cond x (binary_at (digit_bits c) (digits_number 10 (digits_of 10 (l ++ c ∷ r))) (length l) r)
          (cond y (decimal_at (digits_number 10 (digits_of 10 (l ++ c ∷ r))) (length l) r) (bare_at (digits_of 10 (l ++ c ∷ r))))).item
          → Begins IsConstant (l ++ c ∷ r) (cond x (binary_at (digit_bits c) (digits_number 10 (digits_of 10 (l ++ c ∷ r))) (length l) r)
          (cond y (decimal_at (digits_number 10 (digits_of 10 (l ++ c ∷ r))) (length l) r) (bare_at (digits_of 10 (l ++ c ∷ r))))).size
      go true q y z k = binary-found (digit_bits c) (digits_number 10 (digits_of 10 (l ++ c ∷ r))) (bits-designator c q) r k
      go false q true z k = decimal-found (digits_number 10 (digits_of 10 (l ++ c ∷ r))) r (tens-decimal c z) k
      go false q false z k = bare-found r e

-- A text of digits alone.
bare-end : (t : List ℕ) → length t ≤ span D t → constant_at t ≡ bare_at (digits_of 10 t)
unfolding constant_at digit_bits folded
bare-end t h = rw (digits-length 10 t, get_or-eq_default t 0 h)

end-found : (t : List ℕ) → Digits 10 t → length t ≤ span D t → Begins IsConstant t (constant_at t).size
end-found t len h =
    record {
      word = t;
      rest = [];
      begins = sym (append-nil t);
      size = rw (bare-end t h, bare-size t) (omega (arith, span-le D t));
      holds = IsConstant.bare len;
    }

pub constant-at : (b : ℕ) (s : List ℕ) → D b ≡ true → Taken (constant_at (b ∷ s)).item → Begins IsConstant (b ∷ s) (constant_at (b ∷ s)).size
constant-at b s e h = go (drop (span D (b ∷ s)) (b ∷ s)) refl
  where
    t : List ℕ
    t = b ∷ s

    n : ℕ
    n = span D t

    some : 1 ≤ n
    some = span-most D (more e none) s

    len : Digits 10 (take n t)
    len = pass-digits (omega arith) (span-all D t) (omega (arith, some, length-take-le n t (span-le D t)))

    go : (x : List ℕ) → drop n t ≡ x → Begins IsConstant t (constant_at t).size
    go [] q =
        let w : take n t ≡ t = sym (append-nil (take n t)) ∙ (ap (λ (y : List ℕ). take n t ++ y) (sym q) ∙ take-append-drop n t) in
        end-found t (subst (λ (y : List ℕ). Digits 10 y) w len) (omega (arith, ap length q, length-drop n t))
    go (c ∷ r) q =
        let w : take n t ++ c ∷ r ≡ t = ap (λ (y : List ℕ). take n t ++ y) (sym q) ∙ take-append-drop n t in
        subst (λ (y : List ℕ). Taken (constant_at y).item → Begins IsConstant y (constant_at y).size) w
        (parts-found (take n t) len c r (span-stop D t r c q)) h
