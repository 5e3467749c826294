-- No reference leaves its facility: what a reference without fault names is a part of a word that is there, of the length worked out, or stop S1. Assumes nothing.
use Rattle.std.specs.Prelude.{Bool, ◌≡◌, ℕ, ◌+◌, ◌≤◌, ◌<◌, eqb, leb, ltb, length}
use Rattle.std.proofs.Math.Bool.{true, false, cond}
use mathlib.Core.List.{[], ◌++◌}
use Rattle.std.proofs.Math.Path.{refl}
use Rattle.std.proofs.Common.{ap, arith}
use borrow.Author.Tests.{eqb-false, eqb-true, le-leb, leb-true, ltb-true, eq-eqb, ne_eqb, lt-ltb}
use Rattle.language.specs.Description.{Bounds, Description, Facility, NodePlaces, Places, facility_at, from_first, in_bounds, span_of, word_count, word_length}
use Rattle.language.specs.Judging.{Judged, Worth, faults_of, fine, refuse, unless}
use Rattle.language.specs.Meaning.{Answer, Located, constant_part, located, place, place_of, subscript, up_to_longest}
use Rattle.language.specs.ReferenceRules.{bound_faults, computed_work, counted_right, counted_wrong, direction_faults, end_faults, reference_judged, subscript_faults, subscript_worth, subscripts_judged}
use Rattle.language.specs.References.{Reference, Subscripts, one, part, right_count, same_direction, taken_length, two, whole, word_part}
use Rattle.language.specs.declared.refusals.Refusal.TheVariants.{BadName, BadSubscript}
use Rattle.language.specs.declared.stops.Stop.TheVariants.{OutsideBounds}
use Rattle.language.specs.Ceilings.{longest}
use Rattle.about_running.specs.Gives.{Gives, gives, stopped}
use Rattle.about_running.specs.InBounds.{from_in, part_in}
use Rattle.about_running.specs.Judged.{append-none-left, append-none-right, both-fine, clean-fine, faulty-fine, sized-fine, unless-none}
use Rattle.language.specs.Tests.{both}

-- A part of l bits within a word of facility f, whose number is n.
pub data Finds (f : Facility) (n l : ℕ) : Located → Type 0 where
  finds : {w a : ℕ} → w < word_count f → a + l ≤ word_length f → Finds f n l (Located.at (place n w a l))
  outside : Finds f n l (Located.stops OutsideBounds)

module _ (f : Facility) (n l : ℕ) where
  narrow-finds : l ≤ longest → (w a : ℕ) → w < word_count f → a + l ≤ word_length f → Finds f n l (up_to_longest (place n w a l))
  narrow-finds h w a p q = rw (le-leb l longest h) (finds p q)

  subscript-finds : {m : ℕ} {a : Answer} (b : Bounds) (on : ℕ → Located) → Gives m a → ((k : ℕ) → k < span_of b → Finds f n l (on k)) → Finds f n l (subscript a b on)
  subscript-finds b on stopped h = outside
  subscript-finds b on (gives {v = v} e r) h = go (in_bounds b v.number) refl
    where
      go : (t : Bool) → in_bounds b v.number ≡ t → Finds f n l (cond t (on (from_first b v.number)) (Located.stops OutsideBounds))
      go true q = h _ (from_in b v.number q)
      go false q = outside

  part-finds : (b x : Bounds) (on : ℕ → ℕ → Located) → in_bounds b x.first ≡ true → in_bounds b x.last ≡ true → same_direction b x ≡ true
      → Finds f n l (on (from_first b x.first) (span_of x)) → Finds f n l (constant_part b x on)
  part-finds b x on p q r h = rw (p, q, r) h

-- How many words and bits there are.
module _ (f : Facility) where
  one_word : (f.dimensions ≡ 2 → ⊥) → word_count f ≡ 1
  unfolding word_count
  one_word h = rw (ne_eqb f.dimensions 2 h)

  words : f.dimensions ≡ 2 → word_count f ≡ span_of f.words
  unfolding word_count
  words h = rw (eq-eqb f.dimensions 2 h)

  bits : (f.dimensions ≡ 0 → ⊥) → word_length f ≡ span_of f.bits
  unfolding word_length
  bits h = rw (ne_eqb f.dimensions 0 h)

both_left : (a b : Bool) → both a b ≡ true → a ≡ true
both_left true b h = refl
both_left false b h = h

both_right : (a b : Bool) → both a b ≡ true → b ≡ true
both_right true b h = h
both_right false b h = absurd (let z : ◌≡◌ {A = ℕ} 0 1 = cc in omega arith)

-- Each subscript has a property.
abbrev pub Each : (ℕ → Type 0) → Subscripts → Type 0
Each Q whole = Unit {0}
Each Q (one e) = Q e
Each Q (part b) = Unit {0}
Each Q (two e g) = Q e × Q g
Each Q (word_part e b) = Q e

-- Subscripts that have the property Q give values of their lengths.
module _ (d : Description) (p : Places) (terminals : ℕ → Judged) (ev : ℕ → Judged) (EV : ℕ → Answer) (Q : ℕ → Type 0)
    (parts : (e : ℕ) (w : Worth) → Q e → subscript_worth d p terminals ev e ≡ fine w → Gives w.length (EV e)) where
  -- What holds of the subscripts and the constants of a reference without fault.
  pub record Right (f : Facility) (s : Subscripts) (at : NodePlaces) : Type 0 where
    pub count : right_count f.dimensions s ≡ true
    pub some : Worth
    pub worked : subscripts_judged d p terminals ev s ≡ fine some
    pub bound : bound_faults d p terminals f s at ≡ []
    pub direction : direction_faults d p terminals f s at ≡ []
    pub short : taken_length f s ≤ longest

  -- Both ends of a part are in bounds.
  module _ (f : Facility) (at : NodePlaces) (b : Bounds) (e : end_faults d p terminals f.bits b at ≡ []) where
    first-in : in_bounds f.bits b.first ≡ true
    first-in = unless-none (in_bounds f.bits b.first) at.first BadSubscript (append-none-left (unless (in_bounds f.bits b.first) at.first BadSubscript) (unless (in_bounds f.bits b.last) at.last BadSubscript) e)

    last-in : in_bounds f.bits b.last ≡ true
    last-in = unless-none (in_bounds f.bits b.last) at.last BadSubscript (append-none-right (unless (in_bounds f.bits b.first) at.first BadSubscript) (unless (in_bounds f.bits b.last) at.last BadSubscript) e)

  module _ (f : Facility) (n : ℕ) (at : NodePlaces) where
    place-whole : Right f whole at → Finds f n (taken_length f whole) (located EV n f whole)
    unfolding located taken_length right_count
    place-whole r =
        let h : f.dimensions ≤ 1 = leb-true _ _ r.count in
        narrow-finds f n (word_length f) r.short 0 0 (rw (one_word f (λ e. omega arith)) (omega arith)) (omega arith)

    place-one : (e : ℕ) → Q e → Right f (one e) at → Finds f n (taken_length f (one e)) (located EV n f (one e))
    unfolding located taken_length right_count subscripts_judged
    place-one e o r = go (eqb f.dimensions 1) refl r.short
      where
        low : 1 ≤ f.dimensions
        low = leb-true _ _ (both_left _ _ r.count)

        high : f.dimensions ≤ 2
        high = leb-true _ _ (both_right (leb 1 f.dimensions) _ r.count)

        given-e : Gives r.some.length (EV e)
        given-e = parts e _ o r.worked

        go : (t : Bool) → eqb f.dimensions 1 ≡ t → cond t 1 (word_length f) ≤ longest
            → Finds f n (cond t 1 (word_length f)) (cond t (subscript (EV e) f.bits (λ b. up_to_longest (place n 0 b 1))) (subscript (EV e) f.words (λ w. up_to_longest (place n w 0 (word_length f)))))
        go true q s =
            let h : f.dimensions ≡ 1 = eqb-true _ _ q in
            subscript-finds f n 1 f.bits _ given-e (λ k l. narrow-finds f n 1 s 0 k
            (rw (one_word f (λ z. omega arith)) (omega arith))
            (rw (bits f (λ z. omega arith)) (omega arith)))
        go false q s =
            let z : f.dimensions ≡ 1 → ⊥ = eqb-false f.dimensions 1 q in
            let h : f.dimensions ≡ 2 = omega (arith, low, high) in
            subscript-finds f n (word_length f) f.words _ given-e (λ k l. narrow-finds f n (word_length f) s k 0 (rw (words f h) l) (omega arith))

    place-part : (b : Bounds) → Right f (part b) at → Finds f n (taken_length f (part b)) (located EV n f (part b))
    unfolding located taken_length right_count bound_faults direction_faults
    place-part b r =
        let h : f.dimensions ≡ 1 = eqb-true _ _ r.count in
        let i1 = first-in f at b r.bound in
        let i2 = last-in f at b r.bound in
        let i3 : same_direction f.bits b ≡ true = unless-none (same_direction f.bits b) at.last BadSubscript r.direction in
        part-finds f n (span_of b) f.bits b (λ a c. up_to_longest (place n 0 a c)) i1 i2 i3
        (narrow-finds f n (span_of b) r.short 0 (from_first f.bits b.first) (rw (one_word f (λ z. omega arith)) (omega arith)) (rw (bits f (λ z. omega arith)) (part_in f.bits b i1 i2 i3)))

    place-two : (e g : ℕ) → Q e → Q g → Right f (two e g) at → Finds f n (taken_length f (two e g)) (located EV n f (two e g))
    unfolding located taken_length right_count subscripts_judged
    place-two e g o o' r =
        let h : f.dimensions ≡ 2 = eqb-true _ _ r.count in
        let w = both-fine _ _ _ r.worked in
        subscript-finds f n 1 f.words _ (parts e _ o w.left) (λ i l.
        subscript-finds f n 1 f.bits _ (parts g _ o' w.right) (λ k m.
        narrow-finds f n 1 r.short i k (rw (words f h) l) (rw (bits f (λ z. omega arith)) (omega arith))))

    place-word-part : (e : ℕ) (b : Bounds) → Q e → Right f (word_part e b) at → Finds f n (taken_length f (word_part e b)) (located EV n f (word_part e b))
    unfolding located taken_length right_count subscripts_judged bound_faults direction_faults
    place-word-part e b o r =
        let h : f.dimensions ≡ 2 = eqb-true _ _ r.count in
        let ends : end_faults d p terminals f.bits b at ≡ [] = append-none-right (subscript_faults d p terminals f.words e) (end_faults d p terminals f.bits b at) r.bound in
        let i1 = first-in f at b ends in
        let i2 = last-in f at b ends in
        let i3 : same_direction f.bits b ≡ true = unless-none (same_direction f.bits b) at.last BadSubscript r.direction in
        subscript-finds f n (span_of b) f.words _ (parts e _ o r.worked) (λ i l.
        part-finds f n (span_of b) f.bits b (λ a c. up_to_longest (place n i a c)) i1 i2 i3
        (narrow-finds f n (span_of b) r.short i (from_first f.bits b.first) (rw (words f h) l) (rw (bits f (λ z. omega arith)) (part_in f.bits b i1 i2 i3))))

    pub place-right : (s : Subscripts) → Each Q s → Right f s at → Finds f n (taken_length f s) (located EV n f s)
    place-right whole o r = place-whole r
    place-right (one e) o r = place-one e o r
    place-right (part b) o r = place-part b r
    place-right (two e g) o r = place-two e g o.0 o.1 r
    place-right (word_part e b) o r = place-word-part e b o r

  -- What holds of a reference without fault.
  pub record Refers (known : ℕ) (r : Reference) (at : NodePlaces) (w : Worth) : Type 0 where
    pub known-here : r.facility < known
    pub right : Right (facility_at d r.facility) r.subscripts at
    pub some_bits : 1 ≤ taken_length (facility_at d r.facility) r.subscripts
    pub length : w.length ≡ taken_length (facility_at d r.facility) r.subscripts
    pub arms : w.arms ≡ 0
    pub terminal : Worth
    pub worked : computed_work d p terminals r.facility (facility_at d r.facility) ≡ fine terminal

  module _ (own known : ℕ) (r : Reference) (at : NodePlaces) where
    abbrev f' : Facility
    f' = facility_at d r.facility

    right-count : {w : Worth} → r.facility < known → right_count f'.dimensions r.subscripts ≡ true
        → counted_right d p terminals ev own r.facility f' r.subscripts at ≡ fine w → Refers known r at w
    right-count {w} h c e =
        let c1 = clean-fine (faults_of (subscripts_judged d p terminals ev r.subscripts) ++ bound_faults d p terminals f' r.subscripts at) _ e in
        let c2 = clean-fine (direction_faults d p terminals f' r.subscripts at) _ c1.same in
        let t = both-fine (subscripts_judged d p terminals ev r.subscripts) (computed_work d p terminals r.facility f') _ c2.same in
        let z = sized-fine at.at (taken_length f' r.subscripts) _ t.own in
        record {
          known-here = h;
          right = record {
            count = c;
            some = t.u;
            worked = t.left;
            bound = append-none-right (faults_of (subscripts_judged d p terminals ev r.subscripts)) _ c1.none;
            direction = c2.none;
            short = z.most;
          };
          some_bits = z.some;
          length = ap (λ (x : Worth). x.length) z.same;
          arms = ap (λ (x : Worth). x.arms) z.same;
          terminal = t.v;
          worked = t.right;
        }

    wrong-count : {A : Type 0} {w : Worth} → counted_wrong d p terminals ev r.subscripts at ≡ fine w → A
    wrong-count e = faulty-fine (clean-fine (faults_of (subscripts_judged d p terminals ev r.subscripts)) (refuse at.at BadSubscript) e).same

    pub reference-fine : {w : Worth} → reference_judged d p terminals ev own known r at ≡ fine w → Refers known r at w
    unfolding reference_judged
    reference-fine {w} e = go (ltb r.facility known) refl e
      where
        go2 : r.facility < known → (t : Bool) → right_count f'.dimensions r.subscripts ≡ t
            → cond t (counted_right d p terminals ev own r.facility f' r.subscripts at) (counted_wrong d p terminals ev r.subscripts at) ≡ fine w → Refers known r at w
        go2 h true c k = right-count h c k
        go2 h false c k = wrong-count k

        go : (t : Bool) → ltb r.facility known ≡ t
            → cond t (cond (right_count f'.dimensions r.subscripts) (counted_right d p terminals ev own r.facility f' r.subscripts at) (counted_wrong d p terminals ev r.subscripts at)) (refuse at.at BadName) ≡ fine w → Refers known r at w
        go true q k = go2 (ltb-true _ _ q) (right_count f'.dimensions r.subscripts) refl k
        go false q k = faulty-fine k

    -- The place that it names.
    pub reference-finds : {w : Worth} → Each Q r.subscripts → known ≤ length d.facilities → reference_judged d p terminals ev own known r at ≡ fine w
        → Finds f' r.facility (taken_length f' r.subscripts) (place_of d EV r)
    unfolding place_of
    reference-finds o l e =
        let x = reference-fine e in
        rw (lt-ltb r.facility (length d.facilities) (omega (arith, x.known-here)), x.right.count)
        (place-right f' r.facility at r.subscripts o x.right)
