-- An action that was written is read back.
use mathlib.Core.List.{List}
use mathlib.Core.Logic.{◌⊎◌, inl, inr}
use mathlib.Core.Path.{◌≡◌, subst, ◌∙◌}
use Prim.Native.Nat.{ℕ, ◌+◌, ◌*◌, ◌/◌, ◌<◌, ◌≤◌}
use native.Mathlib.Omega.{arith}
use lib.ListN.{length, get_or}
use Rattle.language.specs.Decode.{action_of, action_with, number_at}
use Rattle.language.specs.Description as D
use Rattle.language.specs.Description.{Action}
use Rattle.language.specs.Encode.{action_bytes, action_record, action_size, little}
use Rattle.language.specs.Kinds.{delayed_sign, equal_sign}
use Rattle.image_records.proofs.ActionLaws.{action-length, action-whole}
use Rattle.image_records.proofs.ByteLaws.{placed-in, placed-length}
use Rattle.image_records.proofs.NodeBack.{Half, half_back}
use Rattle.image_records.specs.Placed.{placed}

-- ---- Fields that fit.

-- A store's sign is `<-` or `=`.
abbrev pub Sign : ℕ → Type 0
Sign k = (k ≡ delayed_sign) ⊎ (k ≡ equal_sign)

abbrev pub Fits : Action → Type 0
Fits (D.store k l r) = Sign k × Half l × Half r
Fits (D.store_pair k l m r) = Sign k × Half l × Half m × Half r
Fits (D.set l) = Half l
Fits (D.perform o) = Half o
Fits (D.goto s) = Half s
Fits (D.call s) = Half s
Fits D.return = Unit {0}
Fits (D.when c x) = Half c × Half x
Fits (D.choose c n x) = Half c × Half n × Half x
Fits (D.arm x) = Half x
Fits D.Action.broken = Unit {0}

module _ (t : List ℕ) (n : ℕ) (h : n < length t / action_size) where
  -- These seven bytes stand at record n.
  abbrev Stand : List ℕ → Type 0
  Stand bs = (i : ℕ) → i < action_size → get_or t (action_size * n + i) 0 ≡ get_or bs i 0

  fields_back : (mark a b c : ℕ) → Half a → Half b → Half c → Stand (action_record mark a b c) → action_of t n ≡ action_with mark a b c
  unfolding little
  fields_back mark a b c ha hb hc f =
      let e0 : action_size * n + 0 ≡ action_size * n = omega arith in
      let m : get_or t (action_size * n) 0 ≡ mark = rw e0 at (f 0 (omega arith)) in
      let e2 : action_size * n + 1 + 1 ≡ action_size * n + 2 = omega arith in
      let e4 : action_size * n + 3 + 1 ≡ action_size * n + 4 = omega arith in
      let e6 : action_size * n + 5 + 1 ≡ action_size * n + 6 = omega arith in
      let u : number_at 2 (action_size * n + 1) t ≡ a = half_back t (action_size * n + 1) a ha (f 1 (omega arith)) (rw e2 (f 2 (omega arith))) in
      let v : number_at 2 (action_size * n + 3) t ≡ b = half_back t (action_size * n + 3) b hb (f 3 (omega arith)) (rw e4 (f 4 (omega arith))) in
      let w : number_at 2 (action_size * n + 5) t ≡ c = half_back t (action_size * n + 5) c hc (f 5 (omega arith)) (rw e6 (f 6 (omega arith))) in
      action-whole t n h ∙ rw (m, u, v, w)

  store-back : (k l r : ℕ) → Sign k → Half l → Half r → Stand (action_bytes (D.store k l r)) → action_of t n ≡ D.store k l r
  unfolding action_bytes action_with
  store-back k l r (inl e) hl hr f = rw e (fields_back 1 l r 0 hl hr (omega arith) (subst (λ (j : ℕ). Stand (action_bytes (D.store j l r))) e f))
  store-back k l r (inr e) hl hr f = rw e (fields_back 2 l r 0 hl hr (omega arith) (subst (λ (j : ℕ). Stand (action_bytes (D.store j l r))) e f))

  pair-back : (k l m r : ℕ) → Sign k → Half l → Half m → Half r → Stand (action_bytes (D.store_pair k l m r)) → action_of t n ≡ D.store_pair k l m r
  unfolding action_bytes action_with
  pair-back k l m r (inl e) hl hm hr f = rw e (fields_back 3 l m r hl hm hr (subst (λ (j : ℕ). Stand (action_bytes (D.store_pair j l m r))) e f))
  pair-back k l m r (inr e) hl hm hr f = rw e (fields_back 4 l m r hl hm hr (subst (λ (j : ℕ). Stand (action_bytes (D.store_pair j l m r))) e f))

  -- What stands at record n with the bytes of x is x.
  pub action-back : (x : Action) → Fits x → Stand (action_bytes x) → action_of t n ≡ x
  unfolding action_bytes action_with
  action-back (D.store k l r) g f = store-back k l r g.0 g.1 g.2 f
  action-back (D.store_pair k l m r) g f = pair-back k l m r g.0 g.1 g.2 g.3 f
  action-back (D.set l) g f = fields_back 5 l 0 0 g (omega arith) (omega arith) f
  action-back (D.perform o) g f = fields_back 6 o 0 0 g (omega arith) (omega arith) f
  action-back (D.goto s) g f = fields_back 7 s 0 0 g (omega arith) (omega arith) f
  action-back (D.call s) g f = fields_back 8 s 0 0 g (omega arith) (omega arith) f
  action-back D.return g f = fields_back 9 0 0 0 (omega arith) (omega arith) (omega arith) f
  action-back (D.when c x) g f = fields_back 10 c x 0 g.0 g.1 (omega arith) f
  action-back (D.choose c m x) g f = fields_back 11 c m x g.0 g.1 g.2 f
  action-back (D.arm x) g f = fields_back 12 x 0 0 g (omega arith) (omega arith) f
  action-back D.Action.broken g f = fields_back 0 0 0 0 (omega arith) (omega arith) (omega arith) f

-- ---- A record that was written.

module _ (s : List ℕ) (n : ℕ) (x : Action) where
  abbrev pub written : List ℕ
  written = placed s (action_size * n) (action_bytes x)

  pub action-written : n < length s / action_size → Fits x → action_of written n ≡ x
  action-written h g =
      let l = action-length x in
      let p : length written ≡ length s = placed-length s (action_bytes x) (action_size * n) in
      let r : action_size * n + length (action_bytes x) ≤ length s = omega arith in
      action-back written n (rw p h) x g (λ i j. placed-in s (action_bytes x) (action_size * n) r i (omega arith))
