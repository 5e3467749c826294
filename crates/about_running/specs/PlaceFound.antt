-- A part that a reference names lies in its facility, whatever the image: the step looks before it reads. Assumes nothing.
use Rattle.std.specs.Prelude.{Bool, true, false, cond, ◌≡◌, ℕ, ◌+◌, ◌-◌, ◌≤◌, ◌<◌, eqb, leb, ltb, length}
use Rattle.std.proofs.Math.Path.{refl}
use native.Mathlib.Omega.{arith}
use borrow.Author.Tests.{eqb-false, eqb-true, leb-true, ltb-true, ne_eqb}
use Rattle.language.specs.Description.{Bounds, Description, Facility, facility_at, from_first, in_bounds, span_of, word_count, word_length}
use Rattle.language.specs.Meaning.{Answer, Located, Place, constant_part, is, located, no_facility, outside, place, place_of, stops, stuck, subscript, up_to_longest, wrong_length, wrong_subscripts}
use Rattle.language.specs.References as R
use Rattle.language.specs.References.{Reference, Subscripts, part, right_count, same_direction, two, whole, word_part}
use Rattle.language.specs.Ceilings.{longest}
use Rattle.about_running.specs.Executes.{There}
use Rattle.about_running.specs.InBounds.{from_in, part_in}
use Rattle.about_running.specs.LegalForm.{left-of, right_of}
use Rattle.about_running.specs.StateValues.{some_word}
use Rattle.language.specs.declared.stops.Stop.{Stop}
use Rattle.language.specs.declared.stops.Stop.TheVariants.{OutsideBounds}
use Rattle.language.specs.Tests.{both}

-- A part of a facility's word, of up to 256 bits.
record Within (f : Facility) (n : ℕ) (p : Place) : Type 0 where
  facility-so : p.facility ≡ n
  word-in : p.word < word_count f
  part-within : p.from + p.count ≤ word_length f

pub not_at : {A : Type 0} {n : Stop} {p : Place} → Located.stops n ≡ Located.at p → A
not_at e = absurd (let z : ◌≡◌ {A = ℕ} 0 1 = cc in omega arith)

stuck-not-at : {A : Type 0} {s : Rattle.language.specs.Meaning.Stuck} {p : Place} → Located.stuck s ≡ Located.at p → A
stuck-not-at e = absurd (let z : ◌≡◌ {A = ℕ} 0 1 = cc in omega arith)

two-words : (f : Facility) → f.dimensions ≡ 2 → word_count f ≡ span_of f.words
unfolding word_count
two-words f e = rw e refl

some_bits : (f : Facility) → 1 ≤ f.dimensions → word_length f ≡ span_of f.bits
unfolding word_length
some_bits f h = rw (ne_eqb f.dimensions 0 (omega arith)) refl

module _ (f : Facility) (n : ℕ) (p : Place) where
  -- The goal of each step: what is found lies within.
  narrowed : (q : Place) → Within f n q → up_to_longest q ≡ Located.at p → Within f n p
  narrowed q w e = go (leb q.count longest) e
    where
      go : (b : Bool) → cond b (Located.at q) (Located.stuck wrong_length) ≡ Located.at p → Within f n p
      go true k = let z : q ≡ p = cc in rw (← z) w
      go false k = stuck-not-at k

  -- A subscript that is found is below the span.
  subscripted : (a : Answer) (b : Bounds) (on : ℕ → Located) → ((m : ℕ) → m < span_of b → on m ≡ Located.at p → Within f n p) → subscript a b on ≡ Located.at p → Within f n p
  subscripted (is v) b on k e = go (in_bounds b v.number) refl e
    where
      go : (t : Bool) → in_bounds b v.number ≡ t → cond t (on (from_first b v.number)) (Located.stops OutsideBounds) ≡ Located.at p → Within f n p
      go true q j = k (from_first b v.number) (from_in b v.number q) j
      go false q j = not_at j
  subscripted (stops m) b on k e = not_at e
  subscripted (stuck s) b on k e = stuck-not-at e

  parted : (b x : Bounds) (on : ℕ → ℕ → Located) → ((m c : ℕ) → m + c ≤ span_of b → on m c ≡ Located.at p → Within f n p) → constant_part b x on ≡ Located.at p → Within f n p
  parted b x on k e = go (both (in_bounds b x.first) (both (in_bounds b x.last) (same_direction b x))) refl e
    where
      go : (t : Bool) → both (in_bounds b x.first) (both (in_bounds b x.last) (same_direction b x)) ≡ t
          → cond t (on (from_first b x.first) (span_of x)) (Located.stuck outside) ≡ Located.at p → Within f n p
      go true q j =
          let r = right_of (in_bounds b x.first) _ q in
          k (from_first b x.first) (span_of x) (part_in b x (left-of (in_bounds b x.first) _ q) (left-of (in_bounds b x.last) _ r) (right_of (in_bounds b x.last) _ r)) j
      go false q j = stuck-not-at j

  located-within : (ev : ℕ → Answer) (s : Subscripts) → right_count f.dimensions s ≡ true → located ev n f s ≡ Located.at p → Within f n p
  unfolding located right_count
  located-within ev whole r e = narrowed (place n 0 0 (word_length f)) (record { facility-so = refl; word-in = some_word f; part-within = omega arith }) e
  located-within ev (R.one a) r e = go (eqb f.dimensions 1) refl e
    where
      least : 1 ≤ f.dimensions
      least = leb-true _ _ (left-of (leb 1 f.dimensions) _ r)

      most : f.dimensions ≤ 2
      most = leb-true _ _ (right_of (leb 1 f.dimensions) _ r)

      go : (t : Bool) → eqb f.dimensions 1 ≡ t
          → cond t (subscript (ev a) f.bits (λ b. up_to_longest (place n 0 b 1))) (subscript (ev a) f.words (λ w. up_to_longest (place n w 0 (word_length f)))) ≡ Located.at p → Within f n p
      go true q k =
          subscripted (ev a) f.bits (λ b. up_to_longest (place n 0 b 1))
          (λ b h. narrowed (place n 0 b 1) (record { facility-so = refl; word-in = some_word f; part-within = omega (arith, h, some_bits f least) })) k
      go false q k =
          let z : f.dimensions ≡ 1 → ⊥ = eqb-false _ _ q in
          subscripted (ev a) f.words (λ w. up_to_longest (place n w 0 (word_length f)))
          (λ w h. narrowed (place n w 0 (word_length f)) (record { facility-so = refl; word-in = omega (arith, h, two-words f (omega (arith, least, most, z))); part-within = omega arith })) k
  located-within ev (part x) r e =
      let z : f.dimensions ≡ 1 = eqb-true _ _ r in
      parted f.bits x (λ b c. up_to_longest (place n 0 b c))
      (λ b c h. narrowed (place n 0 b c) (record { facility-so = refl; word-in = some_word f; part-within = omega (arith, h, some_bits f (omega arith)) })) e
  located-within ev (two a b) r e =
      let z : f.dimensions ≡ 2 = eqb-true _ _ r in
      subscripted (ev a) f.words (λ w. subscript (ev b) f.bits (λ m. up_to_longest (place n w m 1)))
      (λ w h. subscripted (ev b) f.bits (λ m. up_to_longest (place n w m 1))
      (λ m k. narrowed (place n w m 1) (record { facility-so = refl; word-in = omega (arith, h, two-words f z); part-within = omega (arith, k, some_bits f (omega arith)) }))) e
  located-within ev (word_part a x) r e =
      let z : f.dimensions ≡ 2 = eqb-true _ _ r in
      subscripted (ev a) f.words (λ w. constant_part f.bits x (λ m c. up_to_longest (place n w m c)))
      (λ w h. parted f.bits x (λ m c. up_to_longest (place n w m c))
      (λ m c k. narrowed (place n w m c) (record { facility-so = refl; word-in = omega (arith, h, two-words f z); part-within = omega (arith, k, some_bits f (omega arith)) }))) e

-- The part that a reference names is there.
pub found-there : (d : Description) (ev : ℕ → Answer) (r : Reference) (p : Place) → place_of d ev r ≡ Located.at p → (p.facility ≡ r.facility) × There d p
unfolding place_of
found-there d ev r p e = go (ltb r.facility (length d.facilities)) refl (right_count (facility_at d r.facility).dimensions r.subscripts) refl e
  where
    found : Facility
    found = facility_at d r.facility

    go : (a : Bool) → ltb r.facility (length d.facilities) ≡ a → (b : Bool) → right_count found.dimensions r.subscripts ≡ b
        → cond a (cond b (located ev r.facility found r.subscripts) (Located.stuck wrong_subscripts)) (Located.stuck no_facility) ≡ Located.at p
        → (p.facility ≡ r.facility) × There d p
    go true q true k j =
        let w = located-within found r.facility p ev r.subscripts k j in
        let h : r.facility < length d.facilities = ltb-true _ _ q in
        let e : p.facility ≡ r.facility = w.facility-so in
        (e, record { facility-in = rw e h; word-in = rw e w.word-in; part_in = rw e w.part-within })
    go true q false k j = stuck-not-at j
    go false q b k j = stuck-not-at j

-- ---- A place has at least one bit and at most 256.

some-span : (b : Bounds) → 0 < span_of b
unfolding span_of
some-span b = go (leb b.first b.last)
  where
    go : (t : Bool) → 0 < cond t (b.last - b.first + 1) (b.first - b.last + 1)
    go true = omega arith
    go false = omega arith

pub some-length : (f : Facility) → 0 < word_length f
unfolding word_length
some-length f = go (eqb f.dimensions 0)
  where
    go : (t : Bool) → 0 < cond t 1 (span_of f.bits)
    go true = omega arith
    go false = some-span f.bits

abbrev Few : Located → Type 0
Few (Located.at p) = (0 < p.count) × (p.count ≤ 256)
Few (Located.stops n) = Unit {0}
Few (Located.stuck s) = Unit {0}

few-either : (b : Bool) (l m : Located) → Few l → Few m → Few (cond b l m)
few-either true l m h k = h
few-either false l m h k = k

few-narrow : (p : Place) → 0 < p.count → Few (up_to_longest p)
unfolding longest
few-narrow p h = go (leb p.count 256) refl
  where
    go : (b : Bool) → leb p.count 256 ≡ b → Few (cond b (Located.at p) (Located.stuck wrong_length))
    go true e = (h, leb-true p.count 256 e)
    go false e = tt

few-subscript : (a : Answer) (b : Bounds) (on : ℕ → Located) → ((m : ℕ) → Few (on m)) → Few (subscript a b on)
few-subscript (is v) b on h = few-either (in_bounds b v.number) (on (from_first b v.number)) (Located.stops OutsideBounds) (h (from_first b v.number)) tt
few-subscript (stops m) b on h = tt
few-subscript (stuck s) b on h = tt

few-part : (b x : Bounds) (on : ℕ → ℕ → Located) → ((m : ℕ) → Few (on m (span_of x))) → Few (constant_part b x on)
few-part b x on h =
    few-either (both (in_bounds b x.first) (both (in_bounds b x.last) (same_direction b x))) (on (from_first b x.first) (span_of x)) (Located.stuck outside)
    (h (from_first b x.first)) tt

few-located : (ev : ℕ → Answer) (n : ℕ) (f : Facility) (s : Subscripts) → Few (located ev n f s)
unfolding located
few-located ev n f whole = few-narrow (place n 0 0 (word_length f)) (some-length f)
few-located ev n f (R.one e) =
    few-either (eqb f.dimensions 1) (subscript (ev e) f.bits (λ b. up_to_longest (place n 0 b 1))) (subscript (ev e) f.words (λ w. up_to_longest (place n w 0 (word_length f))))
    (few-subscript (ev e) f.bits (λ b. up_to_longest (place n 0 b 1)) (λ b. few-narrow (place n 0 b 1) (omega arith)))
    (few-subscript (ev e) f.words (λ w. up_to_longest (place n w 0 (word_length f))) (λ w. few-narrow (place n w 0 (word_length f)) (some-length f)))
few-located ev n f (part x) = few-part f.bits x (λ b c. up_to_longest (place n 0 b c)) (λ b. few-narrow (place n 0 b (span_of x)) (some-span x))
few-located ev n f (two e g) =
    few-subscript (ev e) f.words (λ w. subscript (ev g) f.bits (λ b. up_to_longest (place n w b 1)))
    (λ w. few-subscript (ev g) f.bits (λ b. up_to_longest (place n w b 1)) (λ b. few-narrow (place n w b 1) (omega arith)))
few-located ev n f (word_part e x) =
    few-subscript (ev e) f.words (λ w. constant_part f.bits x (λ b c. up_to_longest (place n w b c)))
    (λ w. few-part f.bits x (λ b c. up_to_longest (place n w b c)) (λ b. few-narrow (place n w b (span_of x)) (some-span x)))

few-place : (d : Description) (ev : ℕ → Answer) (r : Reference) → Few (place_of d ev r)
unfolding place_of
few-place d ev r =
    let f : Facility = facility_at d r.facility in
    few-either (ltb r.facility (length d.facilities)) (cond (right_count f.dimensions r.subscripts) (located ev r.facility f r.subscripts) (Located.stuck wrong_subscripts)) (Located.stuck no_facility)
    (few-either (right_count f.dimensions r.subscripts) (located ev r.facility f r.subscripts) (Located.stuck wrong_subscripts) (few-located ev r.facility f r.subscripts) tt)
    tt

-- A part that a reference names, as long as a value may be.
pub record Taken (d : Description) (p : Place) : Type 0 where
  pub there : There d p
  pub some : 0 < p.count
  pub few : p.count ≤ 256

pub found-taken : (d : Description) (ev : ℕ → Answer) (r : Reference) (p : Place) → place_of d ev r ≡ Located.at p → (p.facility ≡ r.facility) × Taken d p
found-taken d ev r p e =
    let f = found-there d ev r p e in
    let k : Few (Located.at p) = rw e at (few-place d ev r) in
    (f.0, record { there = f.1; some = k.0; few = k.1 })
