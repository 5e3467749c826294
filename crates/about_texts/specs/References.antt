-- What a reference without fault says of its facility, its subscripts and its constant ends. Assumes nothing.
use Rattle.std.specs.Prelude.{Bool, true, false, cond, ◌||◌, [], ◌++◌, ◌≡◌, ℕ, ◌*◌, ◌≤◌, ◌<◌, eqb, leb, ltb}
use Rattle.std.proofs.Common.{ap, mul-le-mul_right, arith, leb-true, ltb-true}
use Rattle.std.proofs.Math.Path.{refl}
use Rattle.language.specs.Describe.{bound, count}
use Rattle.language.specs.Description.{Bounds, Description, Facility, NodePlaces, Places, facility_at, in_bounds}
use Rattle.language.specs.Image.{ConstantRight}
use Rattle.language.specs.Judging.{Judged, Worth, faults_of, fine, refuse}
use Rattle.language.specs.Kinds.{ext_word, head_word, tail_word}
use Rattle.language.specs.Operators.{cut_length_of}
use Rattle.language.specs.ReferenceRules as RR
use Rattle.language.specs.ReferenceRules.{bound_faults, direction_faults, reference_judged, subscripts_judged}
use Rattle.language.specs.References.{Reference, right_count, taken_length}
use Rattle.language.specs.declared.refusals.Refusal.TheVariants.{BadName, BadSubscript}
use Rattle.language.specs.Value.{cut_length, repeat_length, value}
use Rattle.language.specs.Ceilings.{longest}
use Rattle.language.specs.Words.{Constant}
use Rattle.about_running.specs.Judged.{append-none-right, both-fine, clean-fine, faulty-fine, sized-fine}

-- ---- Numbers that take 16 bits.

abbrev pub small : ℕ → Constant
small n = record { bare = false; value = value 16 n }

pub small-right : (n : ℕ) → n ≤ 65535 → ConstantRight (small n)
unfolding longest
small-right n l = record { some_bits = omega arith; at-most = omega arith; fits = omega (arith, l); bare-length = λ e. absurd (let z : ◌≡◌ {A = ℕ} 0 1 = cc in omega arith) }

pub bound-same : (n : ℕ) → n ≤ 65535 → bound n ≡ n
unfolding bound
bound-same n l = omega (arith, l)

pub count_same : (n : ℕ) → n ≤ 65535 → count n ≡ n
unfolding count
count_same n l = omega (arith, l)

-- Bounds that take 16 bits each.
pub record Small (b : Bounds) : Type 0 where
  pub first : b.first ≤ 65535
  pub last : b.last ≤ 65535

pub in_small : (b : Bounds) (n : ℕ) → Small b → in_bounds b n ≡ true → n ≤ 65535
unfolding in_bounds
in_small b n h e = go (leb b.first b.last) (leb b.first n) (leb n b.last) refl (leb b.last n) (leb n b.first) refl e
  where
    go : (a c x : Bool) → leb n b.last ≡ x → (y z : Bool) → leb n b.first ≡ z → cond a (cond c x false) (cond y z false) ≡ true → n ≤ 65535
    go true true true q y z r k = let l = leb-true n b.last q in omega (arith, l, h.last)
    go true true false q y z r k = absurd (let i : ◌≡◌ {A = ℕ} 0 1 = cc in omega arith)
    go true false x q y z r k = absurd (let i : ◌≡◌ {A = ℕ} 0 1 = cc in omega arith)
    go false c x q true true r k = let l = leb-true n b.first r in omega (arith, l, h.first)
    go false c x q true false r k = absurd (let i : ◌≡◌ {A = ℕ} 0 1 = cc in omega arith)
    go false c x q false z r k = absurd (let i : ◌≡◌ {A = ℕ} 0 1 = cc in omega arith)

-- A count that HEAD, TAIL or EXT may have.
pub count_small : (k m c : ℕ) → 1 ≤ m → 1 ≤ cut_length_of k m c → cut_length_of k m c ≤ 256 → c ≤ 256
unfolding cut_length_of cut_length repeat_length
count_small k m c pos l h = go (eqb k head_word) (eqb k tail_word) (eqb k ext_word) (leb c m) l h
  where
    times : c ≤ m * c
    times = let z : 1 * c ≤ m * c = mul-le-mul_right c pos in omega (arith, z)

    go : (a b e x : Bool) → 1 ≤ cond (a || b) (cond x c 0) (cond e (m * c) 0) → cond (a || b) (cond x c 0) (cond e (m * c) 0) ≤ 256 → c ≤ 256
    go true b e true p q = q
    go true b e false p q = absurd (omega arith)
    go false true e true p q = q
    go false true e false p q = absurd (omega arith)
    go false false true x p q = omega (arith, times, q)
    go false false false x p q = absurd (omega arith)

-- ---- References.

module _ (d : Description) (p : Places) (terms ev : ℕ → Judged) (own known : ℕ) (r : Reference) (at : NodePlaces) where
  pub record Refers (w : Worth) : Type 0 where
    pub arms : w.arms ≡ 0
    pub some_bits : 1 ≤ w.length
    pub known-here : r.facility < known
    pub some : Worth
    pub subscripts-fine : subscripts_judged d p terms ev r.subscripts ≡ fine some
    pub within : bound_faults d p terms (facility_at d r.facility) r.subscripts at ≡ []

  pub refers : {w : Worth} → reference_judged d p terms ev own known r at ≡ fine w → Refers w
  unfolding reference_judged
  refers {w} e = go (ltb r.facility known) refl (right_count (facility_at d r.facility).dimensions r.subscripts) e
    where
      f : Facility
      f = facility_at d r.facility

      go : (a : Bool) → ltb r.facility known ≡ a → (b : Bool)
          → cond a (cond b (RR.counted_right d p terms ev own r.facility f r.subscripts at) (RR.counted_wrong d p terms ev r.subscripts at)) (refuse at.at BadName) ≡ fine w → Refers w
      go false q b k = faulty-fine k
      go true q false k = faulty-fine (clean-fine (faults_of (subscripts_judged d p terms ev r.subscripts)) (refuse at.at BadSubscript) k).same
      go true q true k =
          let c1 = clean-fine (faults_of (subscripts_judged d p terms ev r.subscripts) ++ bound_faults d p terms f r.subscripts at) _ k in
          let c2 = clean-fine (direction_faults d p terms f r.subscripts at) _ c1.same in
          let t = both-fine (subscripts_judged d p terms ev r.subscripts) (RR.computed_work d p terms r.facility f) _ c2.same in
          let z = sized-fine at.at (taken_length f r.subscripts) _ t.own in
          record {
            arms = ap (λ (x : Worth). x.arms) z.same;
            some_bits = rw z.same z.some;
            known-here = ltb-true _ _ q;
            some = t.u;
            subscripts-fine = t.left;
            within = append-none-right (faults_of (subscripts_judged d p terms ev r.subscripts)) _ c1.none;
          }
