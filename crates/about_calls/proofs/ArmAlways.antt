-- ARM-ALWAYS: in a passing image a conditional has as many arms as its condition has values, so that on every store, whatever that holds, the condition's value has its arm, and the arm stands where it should. Assumes nothing.
use Rattle.std.specs.Prelude.{true, List, ◌≡◌, refl, ℕ, zero, suc, ◌+◌, ◌-◌, ◌^◌, ◌≤◌, ◌<◌, length}
use Rattle.std.proofs.Math.Option.{some}
use Rattle.std.proofs.Common.{sym, subst, arith}
use Rattle.language.specs.Acting.{arm_at}
use Rattle.language.specs.Decode.{decode}
use Rattle.language.specs.Description as D
use Rattle.language.specs.Description.{Action, Description, Run, action_at, no_places}
use Rattle.language.specs.Image.{passes}
use Rattle.language.specs.Meaning.{Answer, Stores, arm_back, eval_at, is, stops}
use Rattle.language.specs.Value.{Value}
use Rattle.about_running.specs.Account.{Takes, Worth}
use Rattle.about_running.specs.Conditionals.{arm-number}
use Rattle.about_running.specs.Gives.{Gives, gives}
use Rattle.about_running.specs.LegalForm.{Legal}
use Rattle.about_running.specs.NeverStuck.{legal-image}
use Rattle.about_running.proofs.ValuesAccounted.{arm-so, is-worth}
use Rattle.about_rules.specs.ActionsRight.{Has}
use Rattle.about_rules.proofs.FineIsLong.{fine-choice}
use Rattle.about_rules.specs.HasLength as H
use Rattle.about_rules.specs.HasLength.{Long, Selects, arms}
use Rattle.about_calls.specs.ArmAlways.{ArmStands, Conditional, in-action, in-expression}
use Rattle.about_calls.proofs.EachLength.{each-length, each-never-stuck}
use Rattle.about_calls.specs.EveryAction.{Roots}
use Rattle.about_calls.specs.MoreKnown.{more-known}
use Rattle.about_calls.specs.OnStores.{Loads}
use Rattle.about_calls.proofs.Settled.{acts-roots, settled}
use Rattle.about_calls.specs.WorkedOut as W
use Rattle.about_calls.specs.WorkedOut.{Acts, Valued, WorkedOut}

-- The arms of an expression, counted back from the last.
arms-stand : {d : Description} {known c a l : ℕ} → Long d known (arms c) a l → (j : ℕ) → j < c → (g : ℕ) × (arm_back d j a ≡ some g)
unfolding arm_back
arms-stand (H.first {e = e} q h i) zero k = (e, rw q refl)
arms-stand (H.first q h i) (suc j) k = absurd (omega arith)
arms-stand (H.next {e = e} q h i r s) zero k = (e, rw q refl)
arms-stand (H.next q h i r s) (suc j) k = let y = arms-stand r j (omega arith) in (y.0, rw q y.1)

module _ (image : List ℕ) (passing : passes image ≡ true) where
  abbrev d : Description
  d = decode image

  abbrev L : Legal d
  L = legal-image image passing

  -- A condition of at most 6 bits, 2 to the length arms, and all of them standing.
  pub for-each-value : {e m : ℕ} (c : Conditional (decode image) e m) → Selects (decode image) (length (decode image).facilities) e m × ((k : ℕ) → 1 ≤ k → k ≤ m → ArmStands c k)
  for-each-value {m = m} (in-expression o q) =
      let s = settled d L o in
      let y = fine-choice d no_places s.known _ s.proper.stands.same q in
      let c = y.0 in
      (record { bits = c.bits; long = more-known s.within c.long; few = c.few; each-value = c.each-value }, λ k h l. arms-stand y.1 (m - k) (omega arith))
  for-each-value (in-action {i = i} a q) =
      let y = subst (Roots d i) q (acts-roots d L a) in
      (y.0, λ k h l. y.1 (k - 1) (omega arith))

  -- The condition is worked out.
  condition-out : {e m : ℕ} → Conditional (decode image) e m → WorkedOut (decode image) e
  condition-out (in-expression o q) = W.part o (W.condition q)
  condition-out {e} (in-action a q) = W.valued a (subst (λ (x : Action). Valued x e) (sym q) W.choose)

  -- What a record that a run can work out is worth fits its length.
  fits : {e l : ℕ} {v : Value} → WorkedOut (decode image) e → Has (decode image) e l → {X : Type 0} (S : Stores X) (x : X) → Loads S x → Worth S (decode image) x e v → v.number < 2 ^ l
  fits {e} {l} {v} o h S x loads w =
      let y = each-length image passing o in
      rw (y.only l h) (go (eval_at S d x e) (is-worth S d x e w (λ s. each-never-stuck image passing o S x loads s)) (y.kept S x loads))
    where
      go : {b : ℕ} (a : Answer) → a ≡ is v → Gives b a → v.number < 2 ^ b
      go (is u) q (gives k j) = let z : u ≡ v = cc in rw (← z) j
      go (stops n) q k = absurd (let z : ◌≡◌ {A = ℕ} 0 1 = cc in omega arith)
      go {b = b} (Answer.stuck _) q k = elim k [ ]

  -- The value of the condition has its arm.
  pub arm-always : {e m : ℕ} {v : Value} (c : Conditional (decode image) e m) {X : Type 0} (S : Stores X) (x : X) → Loads S x → Worth S (decode image) x e v
      → (k : ℕ) × Takes m v.number k × ArmStands c k
  arm-always {m = m} {v = v} c S x loads w =
      let y = for-each-value c in
      let l : v.number < m = rw y.0.each-value (fits (condition-out c) y.0.long S x loads w) in
      let k = arm-number m v.number (omega arith) l in
      (k.0, arm-so m v.number k.0 k.1, y.1 k.0 k.2 k.3)

  -- IF without ELSE: one takes its arm, which stands, and zero takes nothing; there is no other value.
  pub if-always : {i e y : ℕ} {v : Value} → Acts (decode image) i → action_at (decode image) i ≡ D.when e y → {X : Type 0} (S : Stores X) (x : X) → Loads S x → Worth S (decode image) x e v
      → (v.number ≤ 1) × ((r : Run) × (arm_at (decode image) 0 (i + 1) y ≡ some r))
  if-always {i} {e} a q S x loads w =
      let y = subst (Roots d i) q (acts-roots d L a) in
      let o : WorkedOut d e = W.valued a (subst (λ (x : Action). Valued x e) (sym q) W.when) in
      let l = fits o y.0 S x loads w in
      (omega arith, y.1 0 (omega arith))
