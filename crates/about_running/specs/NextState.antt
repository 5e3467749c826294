-- Where no stop comes after the actions, the next state is there and the record stays sound. Assumes nothing.
use Rattle.std.specs.Prelude.{Bool, ◌||◌, List, [], ◌∷◌, ◌≡◌, ℕ, zero, suc, ◌+◌, ◌-◌, ◌≤◌, ◌<◌, eqb, get_or, set}
use Rattle.std.proofs.Math.Bool.{true, false, cond}
use Rattle.std.proofs.Math.Option.{Option, none, some}
use Rattle.std.proofs.Math.Path.{refl, ap}
use Rattle.std.proofs.Common.{sym, ◌∙◌, length-set, get_or-set_other, get_or-set_same}
use native.Mathlib.Omega.{arith}
use borrow.Author.Tests.{eqb-false, eqb-true, leb-false, ltb-false, ltb-true, eq-eqb, lt-ltb}
use Rattle.std.proofs.Math.Dec.{leb, ltb}
use Rattle.std.proofs.Math.ListN.{length}
use Rattle.language.specs.Acting.{Doing}
use Rattle.language.specs.Description.{Description}
use Rattle.language.specs.Step.{Record, is_none, landed, next_record, or_zero, plain_count, plain_next, popped, returns_left, sequenced_state, state_count, stop_after}
use Rattle.language.specs.Ceilings.{most_returns}
use Rattle.language.specs.declared.stops.Stop.{Stop}
use Rattle.language.specs.Store.{Held}
use Rattle.language.specs.Value.{bit}
use Rattle.about_running.specs.Bearers.{one-bears}
use Rattle.about_running.specs.Executes.{AllStates}
use Rattle.language.specs.Tests.{both}

-- Return states: sixteen places, those held are states, the others zero.
pub record Returns (d : Description) (held : ℕ) (rs : List ℕ) : Type 0 where
  pub places : length rs ≡ most_returns
  pub most : held ≤ most_returns
  pub states : (i : ℕ) → i < held → get_or rs i 0 < length d.states
  pub zero-beyond : (i : ℕ) → held ≤ i → get_or rs i 0 ≡ 0

-- A stop that does not come: its condition does not hold.
passed : (b : Bool) (s : Stop) (x : Option Stop) → cond b (some s) x ≡ none → (b ≡ false) × (x ≡ none)
passed true s x e = absurd (let z : ◌≡◌ {A = ℕ} 0 1 = cc in omega arith)
passed false s x e = (refl, e)

not-either : (a b : Bool) → (a || b) ≡ false → (a ≡ false) × (b ≡ false)
not-either true b e = absurd (let z : ◌≡◌ {A = ℕ} 0 1 = cc in omega arith)
not-either false b e = (refl, e)

both_false : (a b : Bool) → both a b ≡ false → a ≡ true → b ≡ false
both_false true b e q = e
both_false false b e q = absurd (let z : ◌≡◌ {A = ℕ} 0 1 = cc in omega arith)

first-state : (d : Description) (ss : List ℕ) → 0 < length ss → AllStates d ss → get_or ss 0 0 < length d.states
first-state d [] h a = absurd (omega arith)
first-state d (s ∷ ss) h a = a.0

module _ (d : Description) (r : Record) (c : Doing Held) (state-in : r.state < length d.states) (returns-in : Returns d r.held r.returns)
    (gotos : AllStates d c.gotos) (calls : AllStates d c.calls) (none-stops : stop_after d r c ≡ none) where
  record Passed : Type 0 where
    plain : plain_count d r c < 2
    one-call : length c.calls < 2
    return_held : 0 < c.returns → 0 < r.held
    borne : c.sequenced ≡ true → is_none d r c (sequenced_state d (landed d r c)) ≡ false
    below-there : plain_count d r c ≡ 0 → r.state + 1 < length d.states
    room : 0 < length c.calls → returns_left d r c < most_returns

  all-passed : Passed
  unfolding stop_after
  all-passed =
      let s2 = passed (leb 2 (plain_count d r c) || leb 2 (length c.calls)) _ _ none-stops in
      let s4 = passed (both (ltb 0 c.returns) (eqb r.held 0)) _ _ s2.1 in
      let s3 = passed (both c.sequenced (is_none d r c (sequenced_state d (landed d r c)))) _ _ s4.1 in
      let s6 = passed (both (eqb (plain_count d r c) 0) (leb (state_count d) (r.state + 1))) _ _ s3.1 in
      let s5 = passed (both (ltb 0 (length c.calls)) (leb most_returns (returns_left d r c))) _ _ s6.1 in
      let two = not-either (leb 2 (plain_count d r c)) (leb 2 (length c.calls)) s2.0 in
      record {
        plain = leb-false 2 (plain_count d r c) two.0;
        one-call = leb-false 2 (length c.calls) two.1;
        return_held = λ h. pos r.held (eqb-false r.held 0 (both_false _ _ s4.0 (lt-ltb 0 c.returns h)));
        borne = λ q. both_false c.sequenced _ s3.0 q;
        below-there = λ z. leb-false (state_count d) (r.state + 1) (both_false _ _ s6.0 (eq-eqb (plain_count d r c) 0 z));
        room = λ h. leb-false most_returns (returns_left d r c) (both_false _ _ s5.0 (lt-ltb 0 (length c.calls) h));
      }
    where
      pos : (n : ℕ) → (n ≡ 0 → ⊥) → 0 < n
      pos n h = omega arith

  some-borne : (x : Option ℕ) → sequenced_state d (landed d r c) ≡ x → is_none d r c x ≡ false → or_zero d r c x < length d.states
  some-borne none q e = absurd (let z : ◌≡◌ {A = ℕ} 0 1 = cc in omega arith)
  some-borne (some n) q e = let z = (one-bears d (state_count d) 0 _ n q).0 in omega arith

  -- The plain next state is there.
  pub plain_in : plain_next d r c < length d.states
  unfolding plain_next
  plain_in = go (ltb 0 (length c.gotos)) refl (ltb 0 c.returns) refl c.sequenced refl
    where
      go : (a : Bool) → ltb 0 (length c.gotos) ≡ a → (b : Bool) → ltb 0 c.returns ≡ b → (s : Bool) → c.sequenced ≡ s
          → cond a (get_or c.gotos 0 0) (cond b (get_or r.returns (r.held - 1) 0) (cond s (or_zero d r c (sequenced_state d (landed d r c))) (r.state + 1))) < length d.states
      go true q b p s t = first-state d c.gotos (ltb-true _ _ q) gotos
      go false q true p s t = let h = all-passed.return_held (ltb-true _ _ p) in returns-in.states (r.held - 1) (omega arith)
      go false q false p true t = some-borne (sequenced_state d (landed d r c)) refl (all-passed.borne t)
      go false q false p false t =
          let g : length c.gotos ≤ 0 = ltb-false _ _ q in
          let b : c.returns ≤ 0 = ltb-false _ _ p in
          let z : bit c.sequenced ≡ 0 = ap bit t in
          all-passed.below-there (omega (arith, g, b, z))

  -- Taking one off keeps the returns right.
  popped-right : Returns d (returns_left d r c) (popped d r c)
  popped-right = go (ltb 0 c.returns) refl
    where
      go : (b : Bool) → ltb 0 c.returns ≡ b → Returns d (cond b (r.held - 1) r.held) (cond b (set r.returns (r.held - 1) 0) r.returns)
      go true q =
          let h = all-passed.return_held (ltb-true _ _ q) in
          record {
            places = length-set r.returns (r.held - 1) 0 ∙ returns-in.places;
            most = omega (arith, returns-in.most);
            states = λ i l. rw (get_or-set_other r.returns (r.held - 1) i 0 0 (λ e. omega arith)) (returns-in.states i (omega arith));
            zero-beyond = λ i l. beyond i l (eqb (r.held - 1) i) refl;
          }
        where
          beyond : (i : ℕ) → r.held - 1 ≤ i → (t : Bool) → eqb (r.held - 1) i ≡ t → get_or (set r.returns (r.held - 1) 0) i 0 ≡ 0
          beyond i l true e = let z : r.held - 1 ≡ i = eqb-true _ _ e in rw z (same-zero r.returns i)
            where
              same-zero : (xs : List ℕ) (i : ℕ) → get_or (set xs i 0) i 0 ≡ 0
              same-zero [] i = refl
              same-zero (x ∷ xs) zero = refl
              same-zero (x ∷ xs) (suc i) = same-zero xs i
          beyond i l false e =
              let z : r.held - 1 ≡ i → ⊥ = eqb-false _ _ e in
              get_or-set_other r.returns (r.held - 1) i 0 0 (λ q. z (sym q)) ∙ returns-in.zero-beyond i (omega arith)
      go false q = returns-in

  -- Putting the plain next state on keeps them right.
  pushed-right : 0 < length c.calls → Returns d (suc (returns_left d r c)) (set (popped d r c) (returns_left d r c) (plain_next d r c))
  pushed-right h =
      let p = popped-right in
      let l = all-passed.room h in
      record {
        places = length-set (popped d r c) (returns_left d r c) (plain_next d r c) ∙ p.places;
        most = l;
        states = λ i k. on i k (eqb (returns_left d r c) i) refl;
        zero-beyond = λ i k. get_or-set_other (popped d r c) (returns_left d r c) i (plain_next d r c) 0 (λ e. omega arith) ∙ p.zero-beyond i (omega arith);
      }
    where
      on : (i : ℕ) → i < suc (returns_left d r c) → (t : Bool) → eqb (returns_left d r c) i ≡ t → get_or (set (popped d r c) (returns_left d r c) (plain_next d r c)) i 0 < length d.states
      on i k true e =
          let z : returns_left d r c ≡ i = eqb-true _ _ e in
          let p = popped-right in
          let l : returns_left d r c < length (popped d r c) = omega (arith, p.places, all-passed.room h) in
          rw (← z) (rw (get_or-set_same (popped d r c) (returns_left d r c) (plain_next d r c) 0 l) plain_in)
      on i k false e =
          let z : returns_left d r c ≡ i → ⊥ = eqb-false _ _ e in
          rw (get_or-set_other (popped d r c) (returns_left d r c) i (plain_next d r c) 0 (λ q. z (sym q))) (popped-right.states i (omega arith))

  -- The next record is right.
  pub record Next : Type 0 where
    pub state-there : (next_record d r c).state < length d.states
    pub returns-there : Returns d (next_record d r c).held (next_record d r c).returns

  pub next-right : Next
  unfolding next_record
  next-right = go (ltb 0 (length c.calls)) refl
    where
      go : (b : Bool) → ltb 0 (length c.calls) ≡ b → Next
      go true q = record { state-there = rw q (first-state d c.calls (ltb-true _ _ q) calls); returns-there = rw q (pushed-right (ltb-true _ _ q)) }
      go false q = record { state-there = rw q plain_in; returns-there = rw q popped-right }
