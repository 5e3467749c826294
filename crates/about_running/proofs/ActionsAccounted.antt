-- The definition and the account agree on actions: a list of actions goes on, having done what the account says that it executes, or stops for what the account says it meets first, wherever it is not stuck. Assumes nothing.
use Rattle.std.specs.Prelude.{Bool, ◌||◌, ◌≡◌, leb}
use Rattle.std.proofs.Math.Bool.{true, false, cond, or-false}
use mathlib.Core.List.{List, [], ◌∷◌, ◌++◌}
use Rattle.std.proofs.Math.Option.{Option, none, some}
use Rattle.std.proofs.Math.Path.{refl, ap}
use Rattle.std.proofs.Common.{sym, ◌∙◌, arith}
use Prim.Native.Nat.{ℕ, zero, suc, ◌+◌, ◌-◌, ◌<◌}
use borrow.Author.Tests.{eqb-false, eqb-true, ltb-false, ltb-true}
use Rattle.std.proofs.Math.Dec.{eqb, ltb}
use Rattle.std.proofs.Math.ListN.{length}
use Rattle.language.specs.Acting.{Doing, Ran, arm_at, arm_chosen, calling, going_to, in_arm, landing, list_act, list_below, list_step, on_place, on_sequencing, on_value, onward, operation_below, operation_step, passing, put_all, returning, run_actions, run_list, side, storing, went, when_worth, with_store, write}
use Rattle.language.specs.Description as D
use Rattle.language.specs.Description.{Action, Description, Run, action_at, facility_at, node_at, operation_at}
use Rattle.language.specs.Kinds.{delayed_sign}
use Rattle.language.specs.Meaning.{Answer, Located, Place, Stores, Stuck, Write, arm_number, decides, eval_at, is, no_operation, no_state, not_one_bit, not_storable, runs_over, sides_differ, stops, stuck}
use Rattle.language.specs.Recursion.{below-ge, below-lt}
use Rattle.language.specs.References.{Reference, reference_of}
use Rattle.language.specs.Storing.{is_plain}
use Rattle.language.specs.declared.stops.Stop.{Stop}
use Rattle.language.specs.Value.{Value}
use Rattle.about_running.specs.OneAction.{plainly, simple}
use Rattle.about_running.specs.Account as Account
use Rattle.about_running.specs.Account.{Comes, End, Executed, Executes, Meets, Met, Work, Worth, action, held_by, list, meets, names, naming, number_for, put_each, record_at, stands, stop_for, stores, to_register}
use Rattle.about_running.proofs.OneAccount.{one-course, over-apart}
use Rattle.about_running.proofs.ValuesAccounted.{Told, ToldSide, arm-so, side-at, side-meets, side-stuck, side-told, told-meets, told-stuck, told-worth, value-told}

module _ {X : Type 0} (S : Stores X) (d : Description) where
  -- ---- What has been done when these have been executed.

  abbrev pub did : Executed → Doing X → Doing X
  did (Account.delayed ws) c = with_store S d (S.delay c.store ws) (to_register d ws) c
  did (Account.immediate ws) c = with_store S d (put_each S c.store ws) false c
  did (Account.sets p) c = with_store S d (S.put c.store (number_for p 1)) false c
  did (Account.goes s) c = going_to S d s c
  did (Account.calls s) c = calling S d s c
  did Account.returns c = returning S d c

  unfoldable pub done : List Executed → Doing X → Doing X
  done [] c = c
  done (e ∷ es) c = done es (did e c)

  did-store : (e : Executed) (c : Doing X) → (did e c).store ≡ Account.lands S c.store e
  did-store (Account.delayed ws) c = refl
  did-store (Account.immediate ws) c = refl
  did-store (Account.sets p) c = refl
  did-store (Account.goes s) c = refl
  did-store (Account.calls s) c = refl
  did-store Account.returns c = refl

  pub done-store : (es : List Executed) (c : Doing X) → (done es c).store ≡ stands S c.store es
  unfolding done stands
  done-store [] c = refl
  done-store (e ∷ es) c = done-store es (did e c) ∙ ap (λ y. stands S y es) (did-store e c)

  done-both : (es fs : List Executed) (c : Doing X) → done (es ++ fs) c ≡ done fs (done es c)
  unfolding done
  done-both [] fs c = refl
  done-both (e ∷ es) fs c = done-both es fs (did e c)

  puts-each : (x : X) (ws : List Write) → put_all S d x ws ≡ put_each S x ws
  unfolding put_all put_each
  puts-each x [] = refl
  puts-each x (w ∷ ws) = puts-each (S.put x w) ws

  -- What a run came to, as the account has it.
  pub data ToldRun (w : Work) (c : Doing X) : Ran X → Type 0 where
    told-went : {e : Doing X} (es : List Executed) → Executes S d c.store w es Account.over → e ≡ done es c → ToldRun w c (went e)
    told-stopped : {n : Stop} {o : Met} (es : List Executed) → Executes S d c.store w es (Account.met o) → stop_for o ≡ n → ToldRun w c (Ran.stopped n)
    told-nothing : {s : Stuck} → ToldRun w c (Ran.stuck s)

  -- ---- Stores.

  either-run : {w : Work} {c : Doing X} (b : Bool) (k l : Ran X) → ToldRun w c k → ToldRun w c l → ToldRun w c (cond b k l)
  either-run true k l h i = h
  either-run false k l h i = i

  landing-did : (k : ℕ) (ws : List Write) (c : Doing X) → landing S d k ws (to_register d ws) c ≡ did (stores k ws) c
  unfolding landing
  landing-did k ws c = go (eqb k delayed_sign)
    where
      go : (b : Bool) → cond b (with_store S d (S.delay c.store ws) (to_register d ws) c) (with_store S d (put_all S d c.store ws) false c) ≡ did (cond b (Account.delayed ws) (Account.immediate ws)) c
      go true = refl
      go false = ap (λ y. with_store S d y false c) (puts-each c.store ws)

  storing-told : {w : Work} (k bits : ℕ) (allowed q : Bool) (v : Value) (ws : List Write) (c : Doing X) → q ≡ to_register d ws → Executes S d c.store w (stores k ws ∷ []) Account.over → ToldRun w c (storing S d k bits allowed q v ws c)
  unfolding storing done
  storing-told k bits allowed q v ws c e h =
      either-run (eqb v.length bits) _ (Ran.stuck sides_differ)
      (either-run allowed (went (landing S d k ws q c)) (Ran.stuck not_storable) (told-went (stores k ws ∷ []) h (rw e (landing-did k ws c))) told-nothing) told-nothing

  -- What goes on with the place of a left side, and with the value of an expression.
  side-run : {w : Work} {c : Doing X} (n : ℕ) (l : Located) (on : Place → Ran X) → ToldSide S d c.store n l
      → ((r : Reference) (p : Place) → reference_of (node_at d n) ≡ some r → Comes S d c.store (naming r) (names p) → ToldRun w c (on p))
      → ((r : Reference) (o : Met) → reference_of (node_at d n) ≡ some r → Comes S d c.store (naming r) (meets o) → Executes S d c.store w [] (Account.met o))
      → ToldRun w c (on_place l on)
  side-run n (Located.at p) on (side-at {r = r} q h) next before = next r p q h
  side-run n (Located.stops m) on (side-meets {r = r} {o = o} q h e) next before = told-stopped [] (before r o q h) e
  side-run n (Located.stuck s) on side-stuck next before = told-nothing

  value-run : {w : Work} {c : Doing X} (n : ℕ) (a : Answer) (on : Value → Ran X) → Told S d c.store (record_at d n) a
      → ((v : Value) → Worth S d c.store n v → ToldRun w c (on v))
      → ((o : Met) → Meets S d c.store n o → Executes S d c.store w [] (Account.met o))
      → ToldRun w c (on_value a on)
  value-run n (is v) on (told-worth h) next before = next v h
  value-run n (stops m) on (told-meets {o = o} h e) next before = told-stopped [] (before o h) e
  value-run n (stuck s) on told-stuck next before = told-nothing

  -- The account of a list by the action that stands first.
  module _ (k i : ℕ) (a : Action) (stands-there : action_at d i ≡ a) where
    with_rest : {x : X} {es fs : List Executed} {f : End} → Executes S d x (action i a) es Account.over → Executes S d (stands S x es) (list (k - held_by a) (i + 1 + held_by a)) fs f
        → Executes S d x (list (suc k) i) (es ++ fs) f
    with_rest {x} {es} {fs} {f} h g = Account.one_by_one {x = x} {k = k} {i = i} {es = es} {fs = fs} {e = f} (rw stands-there h) (rw stands-there g)

    met-first : {x : X} {es : List Executed} {o : Met} → Executes S d x (action i a) es (Account.met o) → Executes S d x (list (suc k) i) es (Account.met o)
    met-first {x} {es} {o} h = Account.first-meets {x = x} {k = k} {i = i} {es = es} {o = o} (rw stands-there h)

  -- ---- One action.

  module _ (perform : ℕ → Doing X → Ran X) (performs : (o : ℕ) (c : Doing X) → ToldRun (list (operation_at d o).body.count (operation_at d o).body.first) c (perform o c)) where
    performed : (i o : ℕ) (c : Doing X) (r : Ran X) → ToldRun (list (operation_at d o).body.count (operation_at d o).body.first) c r → ToldRun (action i (D.perform o)) c r
    performed i o c (went e) (told-went es h q) = told-went es (Account.performs h) q
    performed i o c (Ran.stopped n) (told-stopped es h q) = told-stopped es (Account.performs h) q
    performed i o c (Ran.stuck s) told-nothing = told-nothing

    simple-told : (i : ℕ) (a : Action) (c : Doing X) → ToldRun (action i a) c (simple S d perform a c)
    unfolding simple to_register done
    simple-told i (D.store k l r) c =
        side-run l (side S d c.store l) _ (side-told S d c.store l)
        (λ t p q h. value-run r (eval_at S d c.store r) _ (value-told S d c.store r)
        (λ v g. storing-told k _ _ _ v _ c (sym (or-false (on_sequencing S d p))) (Account.store (Account.left-side q h (Account.right_side g))))
        (λ o g. Account.store-meets (Account.later-side-meets q h (Account.right-side-meets g))))
        (λ t o q h. Account.store-meets (Account.left-side-meets q h))
    simple-told i (D.store_pair k l m r) c =
        side-run l (side S d c.store l) _ (side-told S d c.store l)
        (λ t p q h. side-run m (side S d c.store m) _ (side-told S d c.store m)
        (λ u p' q' h'. value-run r (eval_at S d c.store r) _ (value-told S d c.store r)
        (λ v g. storing-told k _ _ _ v _ c (ap (λ b. on_sequencing S d p || b) (sym (or-false (on_sequencing S d p')))) (Account.pair (Account.left-side q h (Account.left-side q' h' (Account.right_side g)))))
        (λ o g. Account.pair-meets (Account.later-side-meets q h (Account.later-side-meets q' h' (Account.right-side-meets g)))))
        (λ u o q' h'. Account.pair-meets (Account.later-side-meets q h (Account.left-side-meets q' h'))))
        (λ t o q h. Account.pair-meets (Account.left-side-meets q h))
    simple-told i (D.set l) c =
        side-run l (side S d c.store l) _ (side-told S d c.store l)
        (λ t p q h. either-run (is_plain (facility_at d p.facility).kind) _ (Ran.stuck not_storable)
        (either-run (eqb p.count 1) (went (with_store S d (S.put c.store (write S d p 1)) false c)) (Ran.stuck sides_differ) (told-went (Account.sets p ∷ []) (Account.set q h) refl) told-nothing) told-nothing)
        (λ t o q h. Account.set-meets q h)
    simple-told i (D.perform o) c = performed i o c (perform o c) (performs o c)
    simple-told i (D.goto s) c = either-run (ltb s (length d.states)) (went (going_to S d s c)) (Ran.stuck no_state) (told-went (Account.goes s ∷ []) Account.goto refl) told-nothing
    simple-told i (D.call s) c = either-run (ltb s (length d.states)) (went (calling S d s c)) (Ran.stuck no_state) (told-went (Account.calls s ∷ []) Account.call refl) told-nothing
    simple-told i D.return c = told-went (Account.returns ∷ []) Account.return refl
    simple-told i (D.when e x) c = told-nothing
    simple-told i (D.choose e n x) c = told-nothing
    simple-told i (D.arm x) c = told-nothing
    simple-told i D.Action.broken c = told-nothing

    -- ---- Lists.

    -- An action and then what stands behind it.
    joined : (k i : ℕ) (a : Action) → action_at d i ≡ a → (c : Doing X) (es : List Executed) → Executes S d c.store (action i a) es Account.over → (e : Doing X) → e ≡ done es c
        → (r : Ran X) → ToldRun (list (k - held_by a) (i + 1 + held_by a)) e r → ToldRun (list (suc k) i) c r
    joined k i a q c es h e y (went z) (told-went fs g p) =
        told-went (es ++ fs) (with_rest k i a q h (rw (← done-store es c, ← y) g)) (p ∙ (ap (λ b. done fs b) y ∙ sym (done-both es fs c)))
    joined k i a q c es h e y (Ran.stopped n) (told-stopped {o = o} fs g p) = told-stopped {o = o} (es ++ fs) (with_rest k i a q h (rw (← done-store es c, ← y) g)) p
    joined k i a q c es h e y (Ran.stuck s) told-nothing = told-nothing

    follow : (k i : ℕ) (a : Action) → action_at d i ≡ a → (c : Doing X) (r : Ran X) (on : Doing X → Ran X) → ToldRun (action i a) c r
        → ((e : Doing X) → ToldRun (list (k - held_by a) (i + 1 + held_by a)) e (on e)) → ToldRun (list (suc k) i) c (onward r on)
    follow k i a q c (went e) on (told-went es h y) next = joined k i a q c es h e y (on e) (next e)
    follow k i a q c (Ran.stopped n) on (told-stopped es h y) next = told-stopped es (met-first k i a q h) y
    follow k i a q c (Ran.stuck s) on told-nothing next = told-nothing

    module _ (ev : ℕ → ℕ → Doing X → Ran X) (evs : (k i : ℕ) (c : Doing X) → ToldRun (list k i) c (ev k i c)) (k i : ℕ) where
      passing-told : (x : ℕ) (c : Doing X) → ToldRun (list (k - x) (i + 1 + x)) c (passing S d perform ev k i x c)
      passing-told x c = either-run (leb x k) (ev (k - x) (i + 1 + x) c) (Ran.stuck runs_over) (evs _ _ c) told-nothing

      plain-told : (a : Action) → action_at d i ≡ a → held_by a ≡ 0 → (c : Doing X) → ToldRun (list (suc k) i) c (plainly S d perform ev k i a c)
      plain-told a q z c =
          let m : k - held_by a ≡ k = omega (arith, z) in
          let n : i + 1 + held_by a ≡ i + 1 = omega (arith, z) in
          follow k i a q c (simple S d perform a c) (ev k (i + 1)) (simple-told i a c) (λ e. rw (m, n) (evs k (i + 1) e))

      -- An arm, and what stands behind the conditional.
      arm-told : (a : Action) (x : ℕ) → action_at d i ≡ a → held_by a ≡ x → (c : Doing X) (r : Option Run)
          → ((t : Run) → r ≡ some t → (es : List Executed) (f : End) → Executes S d c.store (list t.count t.first) es f → Executes S d c.store (action i a) es f)
          → ToldRun (list (suc k) i) c (in_arm S d perform ev k i x r c)
      arm-told a x q z c none on = told-nothing
      arm-told a x q z c (some t) on = follow k i a q c (ev t.count t.first c) (passing S d perform ev k i x) (by (ev t.count t.first c) (evs t.count t.first c)) (λ e. rw z (passing-told x e))
        where
          by : (r : Ran X) → ToldRun (list t.count t.first) c r → ToldRun (action i a) c r
          by (went e) (told-went es h y) = told-went es (on t refl es Account.over h) y
          by (Ran.stopped n) (told-stopped {o = o} es h y) = told-stopped es (on t refl es (Account.met o) h) y
          by (Ran.stuck s) told-nothing = told-nothing

      when-told : (e x : ℕ) → action_at d i ≡ D.when e x → (c : Doing X) (v : Value) → Worth S d c.store e v → ToldRun (list (suc k) i) c (when_worth S d perform ev k i x v c)
      unfolding done
      when-told e x q c v h = either-run (eqb v.length 1) _ (Ran.stuck not_one_bit) (go (eqb v.number 0) refl) told-nothing
        where
          go : (b : Bool) → eqb v.number 0 ≡ b → ToldRun (list (suc k) i) c (cond b (passing S d perform ev k i x c) (in_arm S d perform ev k i x (arm_at d 0 (i + 1) x) c))
          go true y = follow k i (D.when e x) q c (went c) (passing S d perform ev k i x) (told-went [] (Account.not_taken h (eqb-true v.number 0 y)) refl) (passing-told x)
          go false y = arm-told (D.when e x) x q refl c (arm_at d 0 (i + 1) x) (λ t z es f g. Account.taken h (omega (arith, eqb-false v.number 0 y)) z g)

      choose-told : (e n x : ℕ) → action_at d i ≡ D.choose e n x → (c : Doing X) (v : Value) → Worth S d c.store e v → (m : Option ℕ) → arm_number n v.number ≡ m → ToldRun (list (suc k) i) c (arm_chosen S d perform ev k i x m c)
      choose-told e n x q c v h none y = told-nothing
      choose-told e n x q c v h (some m) y = arm-told (D.choose e n x) x q refl c (arm_at d (m - 1) (i + 1) x) (λ t z es f g. Account.chosen-arm h (arm-so n v.number m y) z g)

      act-told : (a : Action) → action_at d i ≡ a → (c : Doing X) → ToldRun (list (suc k) i) c (list_act S d perform ev k i a c)
      unfolding list_act simple
      act-told (D.store s l r) q c = plain-told (D.store s l r) q refl c
      act-told (D.store_pair s l n r) q c = plain-told (D.store_pair s l n r) q refl c
      act-told (D.set l) q c = plain-told (D.set l) q refl c
      act-told (D.perform o) q c = plain-told (D.perform o) q refl c
      act-told (D.goto s) q c = plain-told (D.goto s) q refl c
      act-told (D.call s) q c = plain-told (D.call s) q refl c
      act-told D.return q c = plain-told D.return q refl c
      act-told (D.when e x) q c = value-run e (eval_at S d c.store e) _ (value-told S d c.store e) (λ v h. when-told e x q c v h) (λ o h. met-first k i (D.when e x) q (Account.when-meets h))
      act-told (D.choose e n x) q c =
          value-run e (eval_at S d c.store e) _ (value-told S d c.store e) (λ v h. either-run (decides n v) _ (Ran.stuck not_one_bit) (choose-told e n x q c v h (arm_number n v.number) refl) told-nothing) (λ o h. met-first k i (D.choose e n x) q (Account.choose-meets h))
      act-told (D.arm x) q c = told-nothing
      act-told D.Action.broken q c = told-nothing

    step-told : (ev : ℕ → ℕ → Doing X → Ran X) → ((k i : ℕ) (c : Doing X) → ToldRun (list k i) c (ev k i c)) → (k i : ℕ) (c : Doing X) → ToldRun (list k i) c (list_step S d perform ev k i c)
    unfolding done
    step-told ev evs k i c = go (eqb k 0) refl
      where
        go : (b : Bool) → eqb k 0 ≡ b → ToldRun (list k i) c (cond b (went c) (list_act S d perform ev (k - 1) i (action_at d i) c))
        go true q = let z : k ≡ 0 = eqb-true k 0 q in rw z (told-went [] Account.nothing refl)
        go false q = let z : suc (k - 1) ≡ k = omega (arith, eqb-false k 0 q) in rw z at (act-told ev evs (k - 1) i (action_at d i) refl c)

    list-step : (n : ℕ) → ((m : ℕ) → m < n → (k i : ℕ) (c : Doing X) → ToldRun (list k i) c (list_below S d perform m k i c)) → (k i : ℕ) (c : Doing X) → ToldRun (list k i) c (list_below S d perform n k i c)
    unfolding list_below
    list-step n ih k i c = go (ltb k n) refl
      where
        go : (b : Bool) → ltb k n ≡ b → ToldRun (list k i) c (list_below S d perform n k i c)
        go true q =
            let l : k < n = ltb-true k n q in
            let s = ap (λ (f : ℕ → Doing X → Ran X). f i c) (below-lt (λ i c. Ran.stuck runs_over) (list_step S d perform) n k l) in
            rw s (step-told (list_below S d perform k) (ih k l) k i c)
        go false q =
            let s = ap (λ (f : ℕ → Doing X → Ran X). f i c) (below-ge (λ i c. Ran.stuck runs_over) (list_step S d perform) n k (ltb-false k n q)) in
            rw s told-nothing

    list-under : (b n : ℕ) → n < b → (k i : ℕ) (c : Doing X) → ToldRun (list k i) c (list_below S d perform n k i c)
    list-under zero n h k i c = absurd (omega arith)
    list-under (suc b) n h k i c = list-step n (λ m l. list-under b m (omega arith)) k i c

    run-told : (r : Run) (c : Doing X) → ToldRun (list r.count r.first) c (run_list S d perform r c)
    unfolding run_list
    run-told r c = step-told (list_below S d perform r.count) (list-under (suc r.count) r.count (omega arith)) r.count r.first c

  -- ---- Operations.

  abbrev body : ℕ → Work
  body o = list (operation_at d o).body.count (operation_at d o).body.first

  operation-step : (n : ℕ) → ((m : ℕ) → m < n → (o : ℕ) (c : Doing X) → ToldRun (body o) c (operation_below S d m o c)) → (o : ℕ) (c : Doing X) → ToldRun (body o) c (operation_below S d n o c)
  unfolding operation_below
  operation-step n ih o c = go (ltb o n) refl
    where
      go : (b : Bool) → ltb o n ≡ b → ToldRun (body o) c (operation_below S d n o c)
      go true q =
          let l : o < n = ltb-true o n q in
          let s = ap (λ (f : Doing X → Ran X). f c) (below-lt (λ c. Ran.stuck no_operation) (operation_step S d) n o l) in
          rw s (run-told (operation_below S d o) (ih o l) (operation_at d o).body c)
      go false q =
          let s = ap (λ (f : Doing X → Ran X). f c) (below-ge (λ c. Ran.stuck no_operation) (operation_step S d) n o (ltb-false o n q)) in
          rw s told-nothing

  operation-under : (b n : ℕ) → n < b → (o : ℕ) (c : Doing X) → ToldRun (body o) c (operation_below S d n o c)
  operation-under zero n h o c = absurd (omega arith)
  operation-under (suc b) n h o c = operation-step n (λ m l. operation-under b m (omega arith)) o c

  -- A state's actions.
  pub actions-told : (r : Run) (c : Doing X) → ToldRun (list r.count r.first) c (run_actions S d r c)
  unfolding run_actions
  actions-told r c =
      let n : ℕ = length d.operations in
      run-told (operation_below S d n) (operation-under (suc n) n (omega arith)) r c

-- ---- Exactly when.

-- Not without a meaning: no run of a passing image is (never-stuck).
abbrev pub UnstuckRun : {X : Type 0} → Ran X → Type 0
UnstuckRun r = (s : Stuck) → r ≡ Ran.stuck s → ⊥

module _ {X : Type 0} (S : Stores X) (d : Description) (r : Run) (c : Doing X) where
  -- Actions go on exactly when all is executed, and then have done that.
  pub executed-of : {e : Doing X} → run_actions S d r c ≡ went e → (es : List Executed) × (Executes S d c.store (list r.count r.first) es Account.over × (e ≡ done S d es c))
  executed-of {e} q = go (rw q at (actions-told S d r c))
    where
      go : ToldRun S d (list r.count r.first) c (went e) → (es : List Executed) × (Executes S d c.store (list r.count r.first) es Account.over × (e ≡ done S d es c))
      go (told-went es h y) = (es, (h, y))

  pub went-executed : {es : List Executed} → Executes S d c.store (list r.count r.first) es Account.over → UnstuckRun (run_actions S d r c) → run_actions S d r c ≡ went (done S d es c)
  went-executed {es} h free = go (run_actions S d r c) (actions-told S d r c) free
    where
      go : (a : Ran X) → ToldRun S d (list r.count r.first) c a → UnstuckRun a → a ≡ went (done S d es c)
      go (went e) (told-went fs k y) f = ap went (y ∙ ap (λ l. done S d l c) (one-course S d k h).executed)
      go (Ran.stopped n) (told-stopped fs k y) f = over-apart (one-course S d h k).ended
      go (Ran.stuck s) told-nothing f = absurd (f s refl)

  -- They stop exactly when something is met, and for that, which is the first and the only one.
  pub met_of : {n : Stop} → run_actions S d r c ≡ Ran.stopped n → (es : List Executed) × ((o : Met) × (Executes S d c.store (list r.count r.first) es (Account.met o) × (stop_for o ≡ n)))
  met_of {n} q = go (rw q at (actions-told S d r c))
    where
      go : ToldRun S d (list r.count r.first) c (Ran.stopped n) → (es : List Executed) × ((o : Met) × (Executes S d c.store (list r.count r.first) es (Account.met o) × (stop_for o ≡ n)))
      go (told-stopped {o = o} es h y) = (es, (o, (h, y)))

  pub stopped-met : {es : List Executed} {o : Met} → Executes S d c.store (list r.count r.first) es (Account.met o) → UnstuckRun (run_actions S d r c) → run_actions S d r c ≡ Ran.stopped (stop_for o)
  stopped-met {es} {o} h free = go (run_actions S d r c) (actions-told S d r c) free
    where
      go : (a : Ran X) → ToldRun S d (list r.count r.first) c a → UnstuckRun a → a ≡ Ran.stopped (stop_for o)
      go (went e) (told-went fs k y) f = over-apart (one-course S d k h).ended
      go (Ran.stopped n) (told-stopped fs k y) f = let e = (one-course S d h k).ended in cc
      go (Ran.stuck s) told-nothing f = absurd (f s refl)
