-- StoreWords that fit their facilities: as many as declared, none with a spare bit. A write to a part that is there keeps them so. Assumes nothing.
use Rattle.std.specs.Prelude.{cond, List, [], ◌∷◌, ◌++◌, ◌≡◌, get_or, length, set}
use Rattle.std.proofs.Common.{sym, ap, ◌∙◌, div-lt_iff_lt-mul, mul-le-mul_right, mul_assoc, suc-mul, arith, length-set, pow-add, pow_pos}
use Rattle.std.proofs.Math.Nat.{mod-lt}
use Prim.Native.Nat.{ℕ, zero, suc, ◌+◌, ◌*◌, ◌/◌, ◌%◌, ◌^◌, ◌≤◌, ◌<◌}
use Rattle.language.specs.Description.{Description, Facility, facility_at, is_computed, no_facility, word_count, word_length}
use Rattle.language.specs.Kinds.{delayed_sign}
use Rattle.language.specs.Meaning.{Write}
use Rattle.language.specs.Store.{Held, StoreWords, load_part, low_of, numbers, put_part, set_word, word_of}
use Rattle.language.specs.Value.{replaced}
use Rattle.about_running.specs.Executes.{AllRight, Keeps, There}

-- ---- A number with a part replaced has no more bits.

-- a digit below the base added to a multiple below a bound
digit : (a b x y : ℕ) → a < x → b < y → a * y + b < x * y
digit a b x y h k =
    let e : suc a * y ≤ x * y = mul-le-mul_right {m = suc a} {n = x} y h in
    let f : suc a * y ≡ a * y + y = suc-mul a y in
    omega arith

pub replaced-lt : (w low c v top : ℕ) → w < 2 ^ (top + (c + low)) → replaced w low c v < 2 ^ (top + (c + low))
unfolding replaced
replaced-lt w low c v top h =
    let e1 : 2 ^ (top + (c + low)) ≡ 2 ^ top * 2 ^ (c + low) = pow-add 2 top (c + low) in
    let e2 : 2 ^ (c + low) ≡ 2 ^ c * 2 ^ low = pow-add 2 c low in
    let e3 : low + c ≡ c + low = omega arith in
    let high : w / 2 ^ (low + c) < 2 ^ top = rw e3 ((div-lt_iff_lt-mul (pow_pos (c + low))).1 (rw e1 at h)) in
    let d1 : w / 2 ^ (low + c) * 2 ^ c + v % 2 ^ c < 2 ^ top * 2 ^ c = digit (w / 2 ^ (low + c)) (v % 2 ^ c) (2 ^ top) (2 ^ c) high (mod-lt v (pow_pos c)) in
    let d2 = digit (w / 2 ^ (low + c) * 2 ^ c + v % 2 ^ c) (w % 2 ^ low) (2 ^ top * 2 ^ c) (2 ^ low) d1 (mod-lt w (pow_pos low)) in
    let e4 : 2 ^ top * 2 ^ c * 2 ^ low ≡ 2 ^ (top + (c + low)) = mul_assoc (2 ^ top) (2 ^ c) (2 ^ low) ∙ ap (λ (n : ℕ). 2 ^ top * n) (sym e2) ∙ sym e1 in
    rw e4 at d2

-- ---- Rows.

abbrev pub AllBelow : ℕ → List ℕ → Type 0
AllBelow b [] = Unit {0}
AllBelow b (x ∷ xs) = (x < b) × AllBelow b xs

pub below_at : (b : ℕ) (xs : List ℕ) (i : ℕ) → 0 < b → AllBelow b xs → get_or xs i 0 < b
below_at b [] i z h = z
below_at b (x ∷ xs) zero z h = h.0
below_at b (x ∷ xs) (suc i) z h = below_at b xs i z h.1

below_set : (b : ℕ) (xs : List ℕ) (i x : ℕ) → AllBelow b xs → x < b → AllBelow b (set xs i x)
below_set b [] i x h l = tt
below_set b (y ∷ xs) zero x h l = (l, h.1)
below_set b (y ∷ xs) (suc i) x h l = (h.0, below_set b xs i x h.1 l)

-- How many words a facility has in the store.
unfoldable pub stored : Facility → ℕ
stored f = cond (is_computed f.kind) 0 (word_count f)

pub record Row (f : Facility) (ws : List ℕ) : Type 0 where
  pub count : length ws ≡ stored f
  pub small : AllBelow (2 ^ word_length f) ws

abbrev pub Fit : List Facility → StoreWords → Type 0
Fit [] [] = Unit {0}
Fit [] (ws ∷ s) = ⊥
Fit (f ∷ fs) [] = ⊥
Fit (f ∷ fs) (ws ∷ s) = Row f ws × Fit fs s

pub fit_word : (fs : List Facility) (s : StoreWords) (n w : ℕ) → Fit fs s → word_of s n w < 2 ^ word_length (get_or fs n no_facility)
unfolding word_of
fit_word [] [] n w h = pow_pos (word_length no_facility)
fit_word [] (ws ∷ s) n w h = absurd h
fit_word (f ∷ fs) [] n w h = absurd h
fit_word (f ∷ fs) (ws ∷ s) zero w h = below_at (2 ^ word_length f) ws w (pow_pos (word_length f)) h.0.small
fit_word (f ∷ fs) (ws ∷ s) (suc n) w h = fit_word fs s n w h.1

pub fit-set : (fs : List Facility) (s : StoreWords) (n w x : ℕ) → Fit fs s → x < 2 ^ word_length (get_or fs n no_facility) → Fit fs (set_word s n w x)
unfolding set_word
fit-set [] [] n w x h l = tt
fit-set [] (ws ∷ s) n w x h l = absurd h
fit-set (f ∷ fs) [] n w x h l = absurd h
fit-set (f ∷ fs) (ws ∷ s) zero w x h l = (record { count = length-set ws w x ∙ h.0.count; small = below_set (2 ^ word_length f) ws w x h.0.small l }, h.1)
fit-set (f ∷ fs) (ws ∷ s) (suc n) w x h l = (h.0, fit-set fs s n w x h.1 l)

module _ (d : Description) where
  -- A write to a part that is there.
  pub fit-put : (s : StoreWords) (w : Write) → There d w.at → Fit d.facilities s → Fit d.facilities (put_part d s w)
  unfolding put_part facility_at
  fit-put s w t h =
      let q = w.at in
      let L : ℕ = word_length (facility_at d q.facility) in
      let old : ℕ = word_of s q.facility q.word in
      let e : q.from + (q.count + low_of d q) ≡ L = omega (arith, t.part_in) in
      let b : old < 2 ^ (q.from + (q.count + low_of d q)) = rw e (fit_word d.facilities s q.facility q.word h) in
      let c : replaced old (low_of d q) q.count w.number < 2 ^ L = rw e at (replaced-lt old (low_of d q) q.count w.number q.from b) in
      fit-set d.facilities s q.facility q.word (replaced old (low_of d q) q.count w.number) h c

  abbrev pub AllWaits : List (List Write) → Type 0
  AllWaits [] = Unit {0}
  AllWaits (g ∷ gs) = AllRight d delayed_sign g × AllWaits gs

  waits-more : (gs : List (List Write)) (g : List Write) → AllWaits gs → AllRight d delayed_sign g → AllWaits (gs ++ g ∷ [])
  waits-more [] g h k = (k, tt)
  waits-more (x ∷ gs) g h k = (h.0, waits-more gs g h.1 k)

  -- The words fit, and what waits is right.
  abbrev pub Inv : Held → Type 0
  Inv x = Fit d.facilities x.words × AllWaits x.waits

  pub numbers_keep : Keeps (numbers d) d Inv
  unfolding load_part
  numbers_keep = record {
    loads = λ x q. mod-lt _ (pow_pos q.count);
    puts = λ x w h r. (fit-put x.words w r.there h.0, h.1);
    delays = λ x ws h r. (h.0, waits-more x.waits ws h.1 r);
  }
