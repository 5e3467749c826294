-- Where a line of standard input ends, and what a buffer holds of it. Assumes nothing.
use mathlib.Core.Bool.{Bool, true, false, cond, ◌&&◌}
use mathlib.Core.List.{List, [], ◌∷◌, ◌++◌}
use mathlib.Core.Path.{◌≡◌, refl, sym, ap, ◌∙◌}
use Prim.Native.Nat.{ℕ, suc, ◌+◌, ◌-◌, ◌≤◌, ◌<◌, min}
use native.Mathlib.Omega.{arith}
use borrow.Author.Tests.{eq-eqb, ne_eqb}
use lib.Dec.{eqb}
use lib.ListN.{get_or, length, length-append, length-set, length-take, set, take}
use lib.Seq.{length-take-le, take_all, take-append-le, take-suc, take-suc-set}
use Rattle.language.specs.Characters.{carriage_return, line_feed}
use Rattle.language.specs.InputLines.{in_front, lines_of}
use Rattle.trace_input.specs.Lines.{Held, Unended, byte, nothing, without_return}

-- ---- The lines of an input that begins with a line.

goes_on : (b : ℕ) (t : List ℕ) → (b ≡ line_feed → ⊥) → (get_or t 0 0 ≡ line_feed → ⊥) → lines_of (b ∷ t) ≡ in_front b (lines_of t)
unfolding lines_of
goes_on b t h g = rw (ne_eqb b line_feed h, ne_eqb (get_or t 0 0) line_feed g) (go (eqb b carriage_return))
  where
    go : (c : Bool) → cond (c && false) (lines_of t) (in_front b (lines_of t)) ≡ in_front b (lines_of t)
    go true = refl
    go false = refl

-- A line that an LF ends.
pub line-ends : {l : List ℕ} (rest : List ℕ) → Unended l → lines_of (l ++ line_feed ∷ rest) ≡ without_return l ∷ lines_of rest
unfolding lines_of without_return
line-ends {l = []} rest nothing = refl
line-ends {l = b ∷ []} rest (byte h nothing) = rw (ne_eqb b line_feed h) (go (eqb b carriage_return))
  where
    go : (t : Bool) → cond (t && true) ([] ∷ lines_of rest) ((b ∷ []) ∷ lines_of rest) ≡ cond t [] (b ∷ []) ∷ lines_of rest
    go true = refl
    go false = refl
line-ends {l = b ∷ c ∷ l} rest (byte h (byte g u)) = goes_on b (c ∷ (l ++ line_feed ∷ rest)) h g ∙ ap (in_front b) (line-ends rest (byte g u))

-- The last one, which no LF ends: all its bytes.
abbrev pub alone : List ℕ → List (List ℕ)
alone [] = []
alone (b ∷ l) = (b ∷ l) ∷ []

pub line-left : {l : List ℕ} → Unended l → lines_of l ≡ alone l
unfolding lines_of
line-left nothing = refl
line-left {l = b ∷ []} (byte h nothing) = goes_on b [] h (λ e. omega (arith, e))
line-left {l = b ∷ c ∷ l} (byte h (byte g u)) = goes_on b (c ∷ l) h g ∙ ap (in_front b) (line-left (byte g u))

-- ---- The CR before an LF.

without-last : (p : List ℕ) (b : ℕ) → without_return (p ++ b ∷ []) ≡ cond (eqb b carriage_return) p (p ++ b ∷ [])
unfolding without_return
without-last [] b = refl
without-last (a ∷ []) b = go (eqb b carriage_return)
  where
    go : (t : Bool) → a ∷ cond t [] (b ∷ []) ≡ cond t (a ∷ []) (a ∷ b ∷ [])
    go true = refl
    go false = refl
without-last (a ∷ c ∷ p) b = ap (λ (t : List ℕ). a ∷ t) (without-last (c ∷ p) b) ∙ go (eqb b carriage_return)
  where
    go : (t : Bool) → a ∷ cond t (c ∷ p) (c ∷ (p ++ b ∷ [])) ≡ cond t (a ∷ c ∷ p) (a ∷ c ∷ (p ++ b ∷ []))
    go true = refl
    go false = refl

pub without-nothing : (l : List ℕ) → length l ≡ 0 → l ≡ without_return l
unfolding without_return
without-nothing [] h = refl
without-nothing (b ∷ l) h = absurd (omega arith)

module _ (l : List ℕ) (h : 0 < length l) where
  abbrev last : ℕ
  last = length l - 1

  last_apart : l ≡ take last l ++ get_or l last 0 ∷ []
  last_apart =
      let e : suc last ≡ length l = omega arith in
      sym (take_all (suc last) l (omega arith)) ∙ take-suc l last 0 (omega arith)

  by_last : without_return l ≡ cond (eqb (get_or l last 0) carriage_return) (take last l) (take last l ++ get_or l last 0 ∷ [])
  by_last = ap without_return last_apart ∙ without-last (take last l) (get_or l last 0)

  pub without-taken : get_or l last 0 ≡ carriage_return → take last l ≡ without_return l
  without-taken e = sym (by_last ∙ rw (eq-eqb (get_or l last 0) carriage_return e) refl)

  pub without-kept : (get_or l last 0 ≡ carriage_return → ⊥) → l ≡ without_return l
  without-kept e = last_apart ∙ sym (by_last ∙ rw (ne_eqb (get_or l last 0) carriage_return e) refl)

-- It is one byte at most.
pub without-long : (l : List ℕ) → length l ≤ length (without_return l) + 1
unfolding without_return
without-long [] = omega arith
without-long (b ∷ []) = go (eqb b carriage_return)
  where
    go : (t : Bool) → 1 ≤ length (cond t [] (b ∷ [])) + 1
    go true = omega arith
    go false = omega arith
without-long (b ∷ c ∷ l) = omega (arith, without-long (c ∷ l))

-- ---- A line in a buffer.

pub held-nothing : (B : List ℕ) → Held [] B 0
held-nothing B = record { unended = nothing; fits = omega arith; text = sym (take_all (length B) [] (omega arith)) }

unended-more : {l : List ℕ} {b : ℕ} → Unended l → (b ≡ line_feed → ⊥) → Unended (l ++ b ∷ [])
unended-more nothing h = byte h nothing
unended-more (byte g u) h = byte g (unended-more u h)

pub held-count : {l B : List ℕ} {n : ℕ} → Held l B n → n ≡ min (length B) (length l)
held-count {l} {B} {n} e = sym (length-take-le n B e.fits) ∙ (ap length e.text ∙ length-take (length B) l)

pub held_more : {l B : List ℕ} {n b : ℕ} → Held l B n → n < length B → (b ≡ line_feed → ⊥) → Held (l ++ b ∷ []) (set B n b) (n + 1)
held_more {l} {B} {n} {b} e h g =
    let k : length l ≡ n = omega (arith, held-count e) in
    let m : length (set B n b) ≡ length B = length-set B n b in
    let s : n + 1 ≡ suc n = omega arith in
    record {
      unended = unended-more e.unended g;
      fits = omega arith;
      text =
          ap (λ (j : ℕ). take j (set B n b)) s
          ∙ (take-suc-set B n b h
          ∙ (ap (λ (t : List ℕ). t ++ b ∷ []) (e.text ∙ take_all (length B) l (omega arith))
          ∙ sym (take_all (length (set B n b)) (l ++ b ∷ []) (omega (arith, length-append l (b ∷ []))))));
    }

pub held-full : {l B : List ℕ} {n b : ℕ} → Held l B n → length B ≤ n → (b ≡ line_feed → ⊥) → Held (l ++ b ∷ []) B n
held-full {l} {B} {n} {b} e h g = record {
  unended = unended-more e.unended g;
  fits = e.fits;
  text = e.text ∙ sym (take-append-le (length B) l (b ∷ []) (omega (arith, held-count e)));
}
