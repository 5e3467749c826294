-- A record written is read back, whatever lies behind it. Assumes nothing.
use mathlib.Core.List.{List, [], ◌∷◌, ◌++◌}
use Rattle.std.specs.Prelude.{◌≡◌, ℕ, zero, suc, ◌+◌, ◌*◌, ◌/◌, ◌%◌, ◌^◌, ◌<◌, true, get_or, length}
use Rattle.std.proofs.Math.Path.{refl}
use Rattle.std.proofs.Common.{sym, ap, ◌∙◌, div-lt_iff_lt-mul, div-add-mod', pow-suc, arith, eq-eqb, length-append}
use Rattle.language.specs.Decode.{number_at}
use Rattle.language.specs.Encode.{four, little}
use Rattle.language.specs.RecordBytes.{fours, marked, open_mark, record_bytes, record_from, returns_from}
use Rattle.language.specs.Step.{Record}
use Rattle.language.specs.Ceilings.{most_returns}

append_assoc : {A : Type 0} (xs ys zs : List A) → (xs ++ ys) ++ zs ≡ xs ++ (ys ++ zs)
append_assoc [] ys zs = refl
append_assoc (x ∷ xs) ys zs = ap (λ (s : List _). x ∷ s) (append_assoc xs ys zs)

get_d_front : (pre rest : List ℕ) (x : ℕ) → get_or (pre ++ x ∷ rest) (length pre) 0 ≡ x
get_d_front [] rest x = refl
get_d_front (p ∷ pre) rest x = get_d_front pre rest x

-- A number in k bytes behind some others.
number-front : (k x : ℕ) (pre rest : List ℕ) (at : ℕ) → at ≡ length pre → x < 256 ^ k → number_at k at (pre ++ (little k x ++ rest)) ≡ x
unfolding number_at little
number-front zero x pre rest at e l = omega (arith, l)
number-front (suc k) x pre rest at e l =
    let more = little k (x / 256) ++ rest in
    let s : pre ++ (x % 256 ∷ more) ≡ (pre ++ x % 256 ∷ []) ++ more = sym (append_assoc pre (x % 256 ∷ []) more) in
    let n : suc at ≡ length (pre ++ x % 256 ∷ []) = let a = length-append pre (x % 256 ∷ []) in omega (arith, a, e) in
    let p : x < 256 ^ k * 256 = rw (pow-suc 256 k) at l in
    let q : x / 256 < 256 ^ k = (div-lt_iff_lt-mul {k = 256} (omega arith)).1 p in
    let tail : number_at k (suc at) (pre ++ (x % 256 ∷ more)) ≡ x / 256 = rw s (number-front k (x / 256) (pre ++ x % 256 ∷ []) rest (suc at) n q) in
    let head : get_or (pre ++ (x % 256 ∷ more)) at 0 ≡ x % 256 = rw e (get_d_front pre more (x % 256)) in
    rw (head, tail) (let d = div-add-mod' x 256 in omega (arith, d))

-- ---- Numbers of four bytes, one after the other.

abbrev pub Words32 : List ℕ → Type 0
Words32 [] = Unit {0}
Words32 (x ∷ xs) = (x < 256 ^ 4) × Words32 xs

four-long : (x : ℕ) → length (four x) ≡ 4
unfolding little
four-long x = refl

first-four : (x : ℕ) (xs pre rest : List ℕ) (at : ℕ) → at ≡ length pre → x < 256 ^ 4 → number_at 4 at (pre ++ (fours (x ∷ xs) ++ rest)) ≡ x
unfolding fours
first-four x xs pre rest at e l = rw (append_assoc (four x) (fours xs) rest) (number-front 4 x pre (fours xs ++ rest) at e l)

-- Those after the first stand behind four bytes more.
rest-fours : (x : ℕ) (xs pre rest : List ℕ) → pre ++ (fours (x ∷ xs) ++ rest) ≡ (pre ++ four x) ++ (fours xs ++ rest)
unfolding fours
rest-fours x xs pre rest = ap (λ (s : List ℕ). pre ++ s) (append_assoc (four x) (fours xs) rest) ∙ sym (append_assoc pre (four x) (fours xs ++ rest))

behind-four : (x at : ℕ) (pre : List ℕ) → at ≡ length pre → at + 4 ≡ length (pre ++ four x)
behind-four x at pre e = let a = length-append pre (four x) in let b = four-long x in omega (arith, a, b, e)

returns-back : (xs pre rest : List ℕ) (at : ℕ) → at ≡ length pre → Words32 xs → returns_from (length xs) at (pre ++ (fours xs ++ rest)) ≡ xs
unfolding returns_from
returns-back [] pre rest at e h = refl
returns-back (x ∷ xs) pre rest at e h =
    rw (first-four x xs pre rest at e h.0)
    (ap (λ (s : List ℕ). x ∷ s) (ap (returns_from (length xs) (at + 4)) (rest-fours x xs pre rest) ∙ returns-back xs (pre ++ four x) rest (at + 4) (behind-four x at pre e) h.1))

-- ---- The record.

abbrev pub InWords : Record → Type 0
InWords r = Words32 (r.state ∷ r.cycle ∷ r.held ∷ r.returns)

all-numbers : Record → List ℕ
all-numbers r = open_mark ∷ r.state ∷ r.cycle ∷ r.held ∷ r.returns

as-fours : (r : Record) → record_bytes r ≡ fours (all-numbers r)
unfolding record_bytes fours all-numbers
as-fours r = refl

mark-small : open_mark < 256 ^ 4
unfolding open_mark
mark-small = omega arith

pub record-marked : (r : Record) (rest : List ℕ) → marked (record_bytes r ++ rest) ≡ true
unfolding marked all-numbers
record-marked r rest = rw (as-fours r) (eq-eqb _ _ (first-four open_mark (r.state ∷ r.cycle ∷ r.held ∷ r.returns) [] rest 0 refl mark-small))

module _ (r : Record) (rest : List ℕ) (h : InWords r) (sixteen : length r.returns ≡ most_returns) where
  abbrev behind-mark : List ℕ
  behind-mark = four open_mark

  abbrev behind-state : List ℕ
  behind-state = four open_mark ++ four r.state

  abbrev behind-cycle : List ℕ
  behind-cycle = behind-state ++ four r.cycle

  abbrev behind-held : List ℕ
  behind-held = behind-cycle ++ four r.held

  whole : List ℕ
  whole = fours (all-numbers r) ++ rest

  at-state : whole ≡ behind-mark ++ (fours (r.state ∷ r.cycle ∷ r.held ∷ r.returns) ++ rest)
  unfolding whole all-numbers
  at-state = rest-fours open_mark (r.state ∷ r.cycle ∷ r.held ∷ r.returns) [] rest

  at-cycle : whole ≡ behind-state ++ (fours (r.cycle ∷ r.held ∷ r.returns) ++ rest)
  at-cycle = at-state ∙ rest-fours r.state (r.cycle ∷ r.held ∷ r.returns) behind-mark rest

  at_held : whole ≡ behind-cycle ++ (fours (r.held ∷ r.returns) ++ rest)
  at_held = at-cycle ∙ rest-fours r.cycle (r.held ∷ r.returns) behind-state rest

  at-returns : whole ≡ behind-held ++ (fours r.returns ++ rest)
  at-returns = at_held ∙ rest-fours r.held r.returns behind-cycle rest

  read-state : number_at 4 4 whole ≡ r.state
  read-state = rw at-state (first-four r.state _ behind-mark rest 4 (behind-four open_mark 0 [] refl) h.0)

  read-cycle : number_at 4 8 whole ≡ r.cycle
  read-cycle = rw at-cycle (first-four r.cycle _ behind-state rest 8 (behind-four r.state 4 behind-mark (behind-four open_mark 0 [] refl)) h.1.0)

  read_held : number_at 4 12 whole ≡ r.held
  read_held = rw at_held (first-four r.held _ behind-cycle rest 12 (behind-four r.cycle 8 behind-state (behind-four r.state 4 behind-mark (behind-four open_mark 0 [] refl))) h.1.1.0)

  read-returns : returns_from most_returns 16 whole ≡ r.returns
  read-returns =
      rw (← sixteen, at-returns)
      (returns-back r.returns behind-held rest 16 (behind-four r.held 12 behind-cycle (behind-four r.cycle 8 behind-state (behind-four r.state 4 behind-mark (behind-four open_mark 0 [] refl)))) h.1.1.1)

  pub record-back : record_from (record_bytes r ++ rest) ≡ r
  unfolding record_from whole
  record-back = rw (as-fours r, read-state, read-cycle, read_held, read-returns) refl
