-- A write to a part leaves every bit outside the part as it was. Assumes nothing.
use Rattle.std.specs.Prelude.{Bool, true, false, ◌≡◌, ℕ, zero, suc, ◌+◌, ◌-◌, ◌*◌, ◌/◌, ◌%◌, ◌^◌, ◌≤◌, ◌<◌, eqb, leb, ltb, get_or, set}
use mathlib.Core.List.{List, [], ◌∷◌}
use Rattle.std.proofs.Math.Path.{refl}
use Rattle.std.proofs.Common.{sym, ap, ◌∙◌, mod-lt, mul_assoc, mul_comm, arith, eqb-true, leb-false, leb-true, ltb-false, ltb-true, pow-add, pow_pos, get_or-set_other}
use Rattle.std.proofs.Math.Nat.{div-div-eq-div-mul, div-eq_of_lt, mul-add-div_right, mul-add-mod_self_right, div-add-mod}
use Rattle.std.proofs.lemmas.Bool.{eqb-false}
use Rattle.language.specs.Description.{Description}
use Rattle.language.specs.Meaning.{Place, Write}
use Rattle.language.specs.Store.{StoreWords, land_all, low_of, put_part, put_parts, set_word, word_of}
use Rattle.language.specs.Value.{replaced}

-- Bit k from the right.
unfoldable pub bit_of : ℕ → ℕ → ℕ
bit_of n k = n / 2 ^ k % 2

-- ---- Bits of a number.

bit_below : (a l low k : ℕ) → k < low → bit_of (a * 2 ^ low + l) k ≡ bit_of l k
unfolding bit_of
bit_below a l low k h =
    let j : ℕ = low - suc k in
    let e : low ≡ j + 1 + k = omega arith in
    let p1 : 2 ^ low ≡ 2 ^ (j + 1) * 2 ^ k = ap (λ (n : ℕ). 2 ^ n) e ∙ pow-add 2 (j + 1) k in
    let p2 : 2 ^ (j + 1) ≡ 2 ^ j * 2 = pow-add 2 j 1 in
    let s : a * 2 ^ low ≡ a * 2 ^ j * 2 * 2 ^ k = rw (p1, p2) (sym (ap (λ (n : ℕ). n * 2 ^ k) (mul_assoc a (2 ^ j) 2) ∙ mul_assoc a (2 ^ j * 2) (2 ^ k))) in
    let q : (a * 2 ^ j * 2 * 2 ^ k + l) / 2 ^ k ≡ a * 2 ^ j * 2 + l / 2 ^ k = mul-add-div_right (pow_pos k) (a * 2 ^ j * 2) l in
    rw (s, q) (mul-add-mod_self_right (a * 2 ^ j) 2 (l / 2 ^ k))

bit-above : (a b m k : ℕ) → b < 2 ^ m → m ≤ k → bit_of (a * 2 ^ m + b) k ≡ bit_of a (k - m)
unfolding bit_of
bit-above a b m k h l =
    let e : k ≡ m + (k - m) = omega arith in
    let p : 2 ^ k ≡ 2 ^ m * 2 ^ (k - m) = ap (λ (n : ℕ). 2 ^ n) e ∙ pow-add 2 m (k - m) in
    let q : (a * 2 ^ m + b) / 2 ^ m ≡ a = mul-add-div_right (pow_pos m) a b ∙ (ap (λ (n : ℕ). a + n) (div-eq_of_lt h) ∙ omega arith) in
    let r : (a * 2 ^ m + b) / 2 ^ k ≡ a / 2 ^ (k - m) = ap (λ (n : ℕ). (a * 2 ^ m + b) / n) p ∙ (sym (div-div-eq-div-mul (a * 2 ^ m + b) (2 ^ m) (2 ^ (k - m))) ∙ ap (λ (n : ℕ). n / 2 ^ (k - m)) q) in
    ap (λ (n : ℕ). n % 2) r

whole_of : (n m : ℕ) → n ≡ n / 2 ^ m * 2 ^ m + n % 2 ^ m
whole_of n m = let z = div-add-mod n (2 ^ m) in let y = mul_comm (2 ^ m) (n / 2 ^ m) in omega arith

replaced-below : (w low c v k : ℕ) → k < low → bit_of (replaced w low c v) k ≡ bit_of w k
unfolding replaced
replaced-below w low c v k h =
    bit_below (w / 2 ^ (low + c) * 2 ^ c + v % 2 ^ c) (w % 2 ^ low) low k h
    ∙ sym (ap (λ (n : ℕ). bit_of n k) (whole_of w low) ∙ bit_below (w / 2 ^ low) (w % 2 ^ low) low k h)

replaced-above : (w low c v k : ℕ) → low + c ≤ k → bit_of (replaced w low c v) k ≡ bit_of w k
unfolding replaced
replaced-above w low c v k h =
    let up : ℕ = w / 2 ^ (low + c) in
    let a : bit_of ((up * 2 ^ c + v % 2 ^ c) * 2 ^ low + w % 2 ^ low) k ≡ bit_of (up * 2 ^ c + v % 2 ^ c) (k - low) = bit-above (up * 2 ^ c + v % 2 ^ c) (w % 2 ^ low) low k (mod-lt w (pow_pos low)) (omega arith) in
    let b : bit_of (up * 2 ^ c + v % 2 ^ c) (k - low) ≡ bit_of up (k - low - c) = bit-above up (v % 2 ^ c) c (k - low) (mod-lt v (pow_pos c)) (omega arith) in
    let e : k - low - c ≡ k - (low + c) = omega arith in
    let f : bit_of w k ≡ bit_of up (k - (low + c)) = ap (λ (n : ℕ). bit_of n k) (whole_of w (low + c)) ∙ bit-above up (w % 2 ^ (low + c)) (low + c) k (mod-lt w (pow_pos (low + c))) h in
    a ∙ (b ∙ (ap (λ (n : ℕ). bit_of up n) e ∙ sym f))

-- ---- Bits of the store.

-- A part has bit k, counted from the right, of word w of facility f.
pub record Has (d : Description) (f w k : ℕ) (p : Place) : Type 0 where
  pub facility-so : p.facility ≡ f
  pub word-so : p.word ≡ w
  pub from_low : low_of d p ≤ k
  pub below-high : k < low_of d p + p.count

abbrev pub NoneHas : Description → ℕ → ℕ → ℕ → List Write → Type 0
NoneHas d f w k [] = Unit {0}
NoneHas d f w k (x ∷ xs) = (Has d f w k x.at → ⊥) × NoneHas d f w k xs

abbrev pub NoneHasAny : Description → ℕ → ℕ → ℕ → List (List Write) → Type 0
NoneHasAny d f w k [] = Unit {0}
NoneHasAny d f w k (g ∷ gs) = NoneHas d f w k g × NoneHasAny d f w k gs

-- What holds of the old entry and the new one holds of the entry after.
set-either : {A : Type 0} (P : A → Type 0) (xs : List A) (i : ℕ) (x def : A) → P x → P (get_or xs i def) → P (get_or (set xs i x) i def)
set-either P [] i x def h k = k
set-either P (y ∷ xs) zero x def h k = h
set-either P (y ∷ xs) (suc i) x def h k = set-either P xs i x def h k

-- Another word is not touched.
pub other-facility : (s : StoreWords) (f g w v x : ℕ) → (f ≡ g → ⊥) → word_of (set_word s g v x) f w ≡ word_of s f w
unfolding word_of set_word
other-facility s f g w v x h = ap (λ (row : List ℕ). get_or row w 0) (get_or-set_other s g f (set (get_or s g []) v x) [] h)

other_word : (s : StoreWords) (f g w v x : ℕ) → g ≡ f → (w ≡ v → ⊥) → word_of (set_word s g v x) f w ≡ word_of s f w
unfolding word_of set_word
other_word s f g w v x e h =
    rw e (set-either (λ row. get_or row w 0 ≡ get_or (get_or s f []) w 0) s f (set (get_or s f []) v x) [] (get_or-set_other (get_or s f []) v w x 0 h) refl)

this-word : (s : StoreWords) (f w x k : ℕ) → bit_of x k ≡ bit_of (word_of s f w) k → bit_of (word_of (set_word s f w x) f w) k ≡ bit_of (word_of s f w) k
unfolding word_of set_word
this-word s f w x k h =
    set-either (λ row. bit_of (get_or row w 0) k ≡ bit_of (get_or (get_or s f []) w 0) k) s f (set (get_or s f []) w x) []
    (set-either (λ n. bit_of n k ≡ bit_of (get_or (get_or s f []) w 0) k) (get_or s f []) w x 0 h refl) refl

module _ (d : Description) (f w k : ℕ) where
  pub put_keeps : (s : StoreWords) (x : Write) → (Has d f w k x.at → ⊥) → bit_of (word_of (put_part d s x) f w) k ≡ bit_of (word_of s f w) k
  unfolding put_part
  put_keeps s x h = go (eqb x.at.facility f) refl (eqb x.at.word w) refl (leb (low_of d p) k) refl (ltb k (low_of d p + p.count)) refl
    where
      p : Place
      p = x.at

      new : ℕ
      new = replaced (word_of s p.facility p.word) (low_of d p) p.count x.number

      here : p.facility ≡ f → p.word ≡ w → bit_of new k ≡ bit_of (word_of s p.facility p.word) k → bit_of (word_of (set_word s p.facility p.word new) f w) k ≡ bit_of (word_of s f w) k
      here y z e = rw (← y, ← z) (this-word s p.facility p.word new k e)

      go : (a : Bool) → eqb p.facility f ≡ a → (b : Bool) → eqb p.word w ≡ b → (c : Bool) → leb (low_of d p) k ≡ c → (e : Bool) → ltb k (low_of d p + p.count) ≡ e
          → bit_of (word_of (set_word s p.facility p.word new) f w) k ≡ bit_of (word_of s f w) k
      go false q b r c t e u = let z : p.facility ≡ f → ⊥ = eqb-false _ _ q in ap (λ (n : ℕ). bit_of n k) (other-facility s f p.facility w p.word new (λ y. z (sym y)))
      go true q false r c t e u =
          let y : p.facility ≡ f = eqb-true _ _ q in
          let z : p.word ≡ w → ⊥ = eqb-false _ _ r in
          ap (λ (n : ℕ). bit_of n k) (other_word s f p.facility w p.word new y (λ e. z (sym e)))
      go true q true r false t e u = here (eqb-true _ _ q) (eqb-true _ _ r) (replaced-below (word_of s p.facility p.word) (low_of d p) p.count x.number k (leb-false _ _ t))
      go true q true r true t false u = here (eqb-true _ _ q) (eqb-true _ _ r) (replaced-above (word_of s p.facility p.word) (low_of d p) p.count x.number k (ltb-false _ _ u))
      go true q true r true t true u = absurd (h (record { facility-so = eqb-true _ _ q; word-so = eqb-true _ _ r; from_low = leb-true _ _ t; below-high = ltb-true _ _ u }))

  pub puts-keep : (s : StoreWords) (xs : List Write) → NoneHas d f w k xs → bit_of (word_of (put_parts d s xs) f w) k ≡ bit_of (word_of s f w) k
  unfolding put_parts
  puts-keep s [] h = refl
  puts-keep s (x ∷ xs) h = puts-keep (put_part d s x) xs h.1 ∙ put_keeps s x h.0

  -- What lands leaves every bit that it does not name.
  pub land-keeps : (s : StoreWords) (gs : List (List Write)) → NoneHasAny d f w k gs → bit_of (word_of (land_all d s gs) f w) k ≡ bit_of (word_of s f w) k
  unfolding land_all
  land-keeps s [] h = refl
  land-keeps s (g ∷ gs) h = land-keeps (put_parts d s g) gs h.1 ∙ puts-keep s g h.0
