-- Delayed stores take the values standing when executed and land at the end of the cycle: none sees another, and A <- B, B <- A swaps. Assumes nothing.
use Rattle.std.proofs.Math.Bool.{true}
use Rattle.std.specs.Prelude.{false, List, [], ◌∷◌, ◌++◌, ◌≡◌, get_or, length}
use Rattle.std.proofs.Math.Path.{refl}
use Rattle.std.proofs.Common.{sym, ap, ◌∙◌}
use Rattle.std.proofs.Math.Nat.{div-eq_of_lt, mod-eq_of_lt, div-one, mod-one}
use native.Mathlib.Omega.{arith}
use Prim.Native.Nat.{ℕ, ◌+◌, ◌-◌, ◌*◌, ◌/◌, ◌%◌, ◌^◌, ◌≤◌, ◌<◌}
use borrow.Author.Tests.{eq-eqb, le-leb, lt-ltb}
use Rattle.std.proofs.Math.Dec.{leb}
use Rattle.language.specs.Acting.{Doing, landing, side, store_to, storing, went, with_store, write}
use Rattle.language.specs.Description as D
use Rattle.language.specs.Description.{Description, facility_at, no_facility, node_at, word_count, word_length}
use Rattle.language.specs.Kinds.{delayed_sign}
use Rattle.language.specs.Meaning.{Answer, Located, Place, Write, eval_at, eval_below, eval_node, is, located, place, place_of}
use Rattle.language.specs.References.{right_count, whole}
use Rattle.language.specs.Storing.{may_store}
use Rattle.language.specs.Store.{Held, StoreWords, held, land_all, load_part, numbers, put_part, put_parts, set_word, word_of}
use Rattle.language.specs.Tree.{register}
use Rattle.language.specs.Value.{replaced, value}
use Rattle.language.specs.Ceilings.{longest}
use Rattle.about_running.specs.BitsKept.{other-facility}
use Rattle.about_running.specs.Cycle.{row_of, set_same}
use Rattle.about_running.specs.Fitting.{Fit, fit-set, fit_word, stored}
use Rattle.about_running.specs.SameValues.{value_same}
use Rattle.about_running.specs.StateValues.{some_word}

-- An expression has the same value after a delayed store as before it.
pub unseen : (d : Description) (x : Held) (g : List Write) (n : ℕ) → eval_at (numbers d) d (held x.words (x.waits ++ g ∷ [])) n ≡ eval_at (numbers d) d x n
unseen d x g n = value_same (numbers d) (numbers d) d (held x.words (x.waits ++ g ∷ [])) x (λ p s. refl) n

-- A register of one dimension and up to 256 bits.
pub record Register (d : Description) (f : ℕ) : Type 0 where
  pub inside : f < length d.facilities
  pub kind-so : (facility_at d f).kind ≡ register
  pub one-dimension : (facility_at d f).dimensions ≡ 1
  pub short : word_length (facility_at d f) ≤ longest

module _ (d : Description) where
  abbrev all_of : ℕ → Place
  all_of f = place f 0 0 (word_length (facility_at d f))

  whole-place : (f : ℕ) (ev : ℕ → Answer) → Register d f → place_of d ev (record { facility = f; subscripts = whole }) ≡ Located.at (all_of f)
  unfolding place_of located right_count
  whole-place f ev r =
      let count : leb (facility_at d f).dimensions 1 ≡ true = le-leb (facility_at d f).dimensions 1 (omega (arith, r.one-dimension)) in
      rw (lt-ltb f (length d.facilities) r.inside, count, le-leb (word_length (facility_at d f)) longest r.short) refl

  whole-value : (f n : ℕ) (x : Held) → Register d f → node_at d n ≡ D.whole f → eval_at (numbers d) d x n ≡ is (value (word_length (facility_at d f)) (load_part d x.words (all_of f)))
  unfolding eval_at eval_node
  whole-value f n x r e = rw (e, whole-place f (eval_below (numbers d) d x n) r, r.kind-so) refl

  -- F <- G waits with G's value.
  pub whole-waits : (f g l r : ℕ) (c : Doing Held) → Register d f → Register d g → word_length (facility_at d f) ≡ word_length (facility_at d g) → node_at d l ≡ D.whole f → node_at d r ≡ D.whole g
      → store_to (numbers d) d delayed_sign l r c
      ≡ went (with_store (numbers d) d (held c.store.words (c.store.waits ++ (write (numbers d) d (all_of f) (load_part d c.store.words (all_of g)) ∷ []) ∷ [])) false c)
  unfolding side storing landing may_store
  whole-waits f g l r c a b same e q =
      rw (e, whole-place f (eval_below (numbers d) d c.store l) a, whole-value g r c.store b q, eq-eqb (word_length (facility_at d g)) (word_length (facility_at d f)) (sym same), a.kind-so) refl

  -- ---- Landing.

  -- The whole of a word that fits.
  whole-load : (s : StoreWords) (f : ℕ) → Fit d.facilities s → load_part d s (all_of f) ≡ word_of s f 0
  unfolding load_part facility_at
  whole-load s f h =
      let L : ℕ = word_length (facility_at d f) in
      let z : L - (0 + L) ≡ 0 = omega arith in
      let y : word_of s f 0 / 2 ^ 0 ≡ word_of s f 0 = div-one (word_of s f 0) in
      rw (z, y) (mod-eq_of_lt (fit_word d.facilities s f 0 h))

  whole-put : (s : StoreWords) (f x : ℕ) → Fit d.facilities s → x < 2 ^ word_length (facility_at d f) → put_part d s (write (numbers d) d (all_of f) x) ≡ set_word s f 0 x
  unfolding put_part replaced facility_at
  whole-put s f x h l =
      let L : ℕ = word_length (facility_at d f) in
      let z : L - (0 + L) ≡ 0 = omega arith in
      let u : 0 + L ≡ L = omega arith in
      let old : word_of s f 0 / 2 ^ L ≡ 0 = div-eq_of_lt (fit_word d.facilities s f 0 h) in
      let new : x % 2 ^ L ≡ x = mod-eq_of_lt l in
      let one : word_of s f 0 % 2 ^ 0 ≡ 0 = mod-one (word_of s f 0) in
      let e : (0 * 2 ^ L + x) * 2 ^ 0 + 0 ≡ x = omega arith in
      rw (z, u, old, new, one, e) refl

  -- F <- G, G <- F: each has the other's value.
  module _ (f g : ℕ) (s : StoreWords) (a : Register d f) (b : Register d g) (same : word_length (facility_at d f) ≡ word_length (facility_at d g)) (apart : f ≡ g → ⊥) (h : Fit d.facilities s) where
    abbrev after_both : StoreWords
    after_both = land_all d s ((write (numbers d) d (all_of f) (load_part d s (all_of g)) ∷ []) ∷ (write (numbers d) d (all_of g) (load_part d s (all_of f)) ∷ []) ∷ [])

    small : (n : ℕ) → word_of s n 0 < 2 ^ word_length (facility_at d n)
    unfolding facility_at
    small n = fit_word d.facilities s n 0 h

    first-fit : Fit d.facilities (set_word s f 0 (word_of s g 0))
    unfolding facility_at
    first-fit = fit-set d.facilities s f 0 (word_of s g 0) h (rw same (small g))

    both-set : after_both ≡ set_word (set_word s f 0 (word_of s g 0)) g 0 (word_of s f 0)
    unfolding land_all put_parts
    both-set =
        rw (whole-load s g h, whole-load s f h, whole-put s f (word_of s g 0) h (rw same (small g)))
        (whole-put (set_word s f 0 (word_of s g 0)) g (word_of s f 0) first-fit (rw (← same) (small f)))

    has_word : (n : ℕ) (t : StoreWords) → Register d n → Fit d.facilities t → (n < length t) × (0 < length (get_or t n []))
    unfolding facility_at stored
    has_word n t r k =
        let y = row_of d.facilities t n k r.inside in
        let z : stored (get_or d.facilities n no_facility) ≡ word_count (get_or d.facilities n no_facility) = rw r.kind-so refl in
        (y.0, omega (arith, y.1, z, some_word (get_or d.facilities n no_facility)))

    pub swaps : (word_of after_both f 0 ≡ word_of s g 0) × (word_of after_both g 0 ≡ word_of s f 0)
    swaps =
        let one = has_word f s a h in
        let two = has_word g (set_word s f 0 (word_of s g 0)) b first-fit in (
          ap (λ (t : StoreWords). word_of t f 0) both-set ∙ (other-facility (set_word s f 0 (word_of s g 0)) f g 0 0 (word_of s f 0) apart ∙ set_same s f (word_of s g 0) one.0 one.1),
          ap (λ (t : StoreWords). word_of t g 0) both-set ∙ set_same (set_word s f 0 (word_of s g 0)) g (word_of s f 0) two.0 two.1,
        )
