-- The laws of a word's bytes that depend on their order and number: these alone move with the layout. Assumes nothing.
use mathlib.Core.Path.{◌≡◌, refl, sym, ap, ◌∙◌}
use mathlib.Core.List.{List, [], ◌∷◌, ◌++◌}
use Prim.Native.Nat.{ℕ, zero, suc, ◌+◌, ◌-◌, ◌*◌, ◌/◌, ◌%◌, ◌^◌, ◌≤◌, ◌<◌}
use native.Mathlib.Omega.{arith}
use native.Mathlib.Nat.{div-one}
use lib.ListN.{get_or-append, get_or, length, length-append, take}
use lib.Pow.{pow-add, shr-shr}
use lib.Seq.{get_or_at, get_or-take, take-suc, take-length, length-take-le}
use Rattle.language.specs.Layout.{bytes_of, number_after, word_bytes, word_from_bytes, word_to_bytes}
use Rattle.store_layout.specs.Layout.{Bytes, position}
use Rattle.store_layout.proofs.ByteLists.{bytes_take}

-- ---- Bytes, most significant first.

length-bytes : (n x : ℕ) → length (bytes_of n x) ≡ n
unfolding bytes_of
length-bytes zero x = refl
length-bytes (suc n) x = let ih = length-bytes n (x / 256) in rw (length-append (bytes_of n (x / 256)) (x % 256 ∷ [])) (omega arith)

digit-to : (n x j : ℕ) → j < n → get_or (bytes_of n x) (n - 1 - j) 0 ≡ x / 2 ^ (8 * j) % 2 ^ 8
unfolding bytes_of
digit-to zero x j h = absurd (omega arith)
digit-to (suc n) x zero h =
    let e : suc n - 1 - 0 ≡ n = omega arith in
    rw e (get_or_at (bytes_of n (x / 256)) (x % 256) [] 0 n (length-bytes n (x / 256)) ∙ ap (λ (y : ℕ). y % 256) (sym (div-one x)))
digit-to (suc n) x (suc j) h =
    let e : suc n - 1 - suc j ≡ n - 1 - j = omega arith in
    let f : 8 * suc j ≡ 8 + 8 * j = omega arith in
    let l = length-bytes n (x / 256) in
    rw (e, f) (get_or-append (bytes_of n (x / 256)) (x % 256 ∷ []) 0 (n - 1 - j) (omega arith) ∙ digit-to n (x / 256) j (omega arith) ∙ ap (λ (y : ℕ). y % 256) (shr-shr x 8 (8 * j)))

number_append : (x : ℕ) (cs bs : List ℕ) → number_after x (cs ++ bs) ≡ number_after (number_after x cs) bs
unfolding number_after
number_append x [] bs = refl
number_append x (c ∷ cs) bs = number_append (x * 256 + c) cs bs

number-last : (bs : List ℕ) (n : ℕ) → length bs ≡ suc n → number_after 0 bs ≡ number_after 0 (take n bs) * 256 + get_or bs n 0
unfolding number_after
number-last bs n e =
    let s : bs ≡ take n bs ++ get_or bs n 0 ∷ [] = sym (take-length bs) ∙ ap (λ (k : ℕ). take k bs) e ∙ take-suc bs n 0 (omega arith) in
    ap (number_after 0) s ∙ number_append 0 (take n bs) (get_or bs n 0 ∷ [])

digit-from : (n : ℕ) (bs : List ℕ) (j : ℕ) → Bytes bs → length bs ≡ n → j < n → number_after 0 bs / 2 ^ (8 * j) % 2 ^ 8 ≡ get_or bs (n - 1 - j) 0
digit-from zero bs j b e h = absurd (omega arith)
digit-from (suc n) bs zero b e h =
    let f : suc n - 1 - 0 ≡ n = omega arith in
    let m = number-last bs n e in
    let l = b n in
    rw f (ap (λ (y : ℕ). y % 256) (div-one (number_after 0 bs)) ∙ omega arith)
digit-from (suc n) bs (suc j) b e h =
    let f : suc n - 1 - suc j ≡ n - 1 - j = omega arith in
    let g : 8 * suc j ≡ 8 + 8 * j = omega arith in
    let m = number-last bs n e in
    let l = b n in
    let q : number_after 0 bs / 256 ≡ number_after 0 (take n bs) = omega arith in
    rw (f, g) (ap (λ (y : ℕ). y % 256) (sym (shr-shr (number_after 0 bs) 8 (8 * j)) ∙ ap (λ (y : ℕ). y / 2 ^ (8 * j)) q)
    ∙ digit-from n (take n bs) j (bytes_take bs n b) (length-take-le n bs (omega arith)) (omega arith) ∙ get_or-take n bs (n - 1 - j) 0 (omega arith))

number_lt : (n : ℕ) (bs : List ℕ) → Bytes bs → length bs ≡ n → number_after 0 bs < 2 ^ (8 * n)
unfolding number_after
number_lt zero [] b e = omega arith
number_lt zero (x ∷ bs) b e = absurd (omega arith)
number_lt (suc n) bs b e =
    let f : 8 * suc n ≡ 8 * n + 8 = omega arith in
    let m = number-last bs n e in
    let l = b n in
    let ih = number_lt n (take n bs) (bytes_take bs n b) (length-take-le n bs (omega arith)) in
    rw (f, pow-add 2 (8 * n) 8) (omega arith)

-- ---- The laws that all others use.

-- A word's bytes hold its bits, and fewer than 64 spare ones.
pub word_room : (l : ℕ) → l ≤ 8 * word_bytes l
unfolding word_bytes
word_room l = omega arith

pub few-spare : (l : ℕ) → 8 * word_bytes l - l < 64
unfolding word_bytes
few-spare l = omega arith

pub length-word : (l x : ℕ) → length (word_to_bytes l x) ≡ word_bytes l
unfolding word_to_bytes
length-word l x = length-bytes (word_bytes l) x

pub position-lt : (l j : ℕ) → j < word_bytes l → position l j < word_bytes l
unfolding position
position-lt l j h = omega arith

-- The index of the byte at an index is the byte's number again.
pub position-twice : (l j : ℕ) → j < word_bytes l → position l (position l j) ≡ j
unfolding position
position-twice l j h = omega arith

pub to-digit : (l x j : ℕ) → j < word_bytes l → get_or (word_to_bytes l x) (position l j) 0 ≡ x / 2 ^ (8 * j) % 2 ^ 8
unfolding word_to_bytes position
to-digit l x j h = digit-to (word_bytes l) x j h

module _ (l : ℕ) (bs : List ℕ) (bytes : Bytes bs) (size : length bs ≡ word_bytes l) where
  pub from-digit : (j : ℕ) → j < word_bytes l → word_from_bytes bs / 2 ^ (8 * j) % 2 ^ 8 ≡ get_or bs (position l j) 0
  unfolding word_from_bytes position
  from-digit j h = digit-from (word_bytes l) bs j bytes size h

  pub from-lt : word_from_bytes bs < 2 ^ (8 * word_bytes l)
  unfolding word_from_bytes
  from-lt = number_lt (word_bytes l) bs bytes size
