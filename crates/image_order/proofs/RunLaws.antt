-- Runs one after the other, taken one by one.
use mathlib.Core.Bool.{Bool, true, false, cond}
use mathlib.Core.List.{List, [], ◌∷◌}
use mathlib.Core.Option.{Option, none, some}
use mathlib.Core.Path.{◌≡◌, refl, sym, ap, ◌∙◌}
use Prim.Native.Nat.{ℕ, suc, ◌+◌, ◌<◌, ◌≤◌}
use native.Mathlib.Numerals.{add-one}
use lib.Dec.{eqb}
use lib.ListN.{drop, drop_of_length-le, get_or, length}
use lib.Seq.{drop-cons}
use Rattle.language.specs.Description.{Description, Run, no_run, operation_at, state_at}
use Rattle.language.specs.Order.{ending, ends_at, operations_end, runs_right, states_end}
use Rattle.image_order.specs.Edges.{run_end}

-- Records with runs in a list, n of which are done.
module _ {A : Type 0} (end : ℕ → List A → Option ℕ) (run : A → Run) (none_left : (m : ℕ) → end m [] ≡ some m)
    (more : (m : ℕ) (x : A) (xs : List A) → end m (x ∷ xs) ≡ cond (eqb (run x).first m) (end (m + (run x).count) xs) none) where
  one_more : (e : Option ℕ) (x : A) (xs : List A) → ending (run_end e (run x)) (λ m. end m xs) ≡ ending e (λ m. end m (x ∷ xs))
  one_more none x xs = refl
  one_more (some m) x xs = by-test (eqb (run x).first m) ∙ sym (more m x xs)
    where
      by-test : (b : Bool) → ending (cond b (some (m + (run x).count)) none) (λ n. end n xs) ≡ cond b (end (m + (run x).count) xs) none
      by-test true = refl
      by-test false = refl

  runs-next : (e : Option ℕ) {x y : Option ℕ} (xs : List A) (n : ℕ) (z : A) → n < length xs → y ≡ run_end e (run (get_or xs n z))
      → ending e (λ m. end m (drop n xs)) ≡ x → ending y (λ m. end m (drop (n + 1) xs)) ≡ x
  runs-next e xs n z h p q =
      ap (λ (w : Option ℕ). ending w (λ m. end m (drop (n + 1) xs))) p ∙ ap (λ (k : ℕ). ending (run_end e (run (get_or xs n z))) (λ m. end m (drop k xs))) (add-one n)
      ∙ one_more e (get_or xs n z) (drop (suc n) xs) ∙ ap (λ (l : List A). ending e (λ m. end m l)) (sym (drop-cons xs n z h)) ∙ q

  runs_done : (e : Option ℕ) {x : Option ℕ} (xs : List A) (n : ℕ) → length xs ≤ n → ending e (λ m. end m (drop n xs)) ≡ x → e ≡ x
  runs_done e xs n h q = by-edge e ∙ ap (λ (l : List A). ending e (λ m. end m l)) (sym (drop_of_length-le xs h)) ∙ q
    where
      by-edge : (e : Option ℕ) → e ≡ ending e (λ m. end m [])
      by-edge none = refl
      by-edge (some m) = sym (none_left m)

module _ (d : Description) where
  operation-none : (m : ℕ) → operations_end d m [] ≡ some m
  unfolding operations_end
  operation-none m = refl

  state-none : (m : ℕ) → states_end d m [] ≡ some m
  unfolding states_end
  state-none m = refl

  pub operations-next : (e : Option ℕ) {x y : Option ℕ} (n : ℕ) → n < length d.operations → y ≡ run_end e (operation_at d n).body
      → ending e (λ m. operations_end d m (drop n d.operations)) ≡ x → ending y (λ m. operations_end d m (drop (n + 1) d.operations)) ≡ x
  unfolding operation_at operations_end
  operations-next e n h p q =
      runs-next (operations_end d) (λ o. o.body) operation-none (λ m x xs. refl) e d.operations n (record { name = []; body = no_run }) h p q

  pub operations-done : (e : Option ℕ) {x : Option ℕ} (n : ℕ) → length d.operations ≤ n
      → ending e (λ m. operations_end d m (drop n d.operations)) ≡ x → e ≡ x
  unfolding operations_end
  operations-done e n h q = runs_done (operations_end d) (λ o. o.body) operation-none (λ m x xs. refl) e d.operations n h q

  pub states-next : (e : Option ℕ) {x y : Option ℕ} (n : ℕ) → n < length d.states → y ≡ run_end e (state_at d n).actions
      → ending e (λ m. states_end d m (drop n d.states)) ≡ x → ending y (λ m. states_end d m (drop (n + 1) d.states)) ≡ x
  unfolding state_at states_end
  states-next e n h p q =
      runs-next (states_end d) (λ s. s.actions) state-none (λ m x xs. refl) e d.states n (record { name = []; value = none; actions = no_run }) h p q

  pub states-done : (e : Option ℕ) {x : Option ℕ} (n : ℕ) → length d.states ≤ n → ending e (λ m. states_end d m (drop n d.states)) ≡ x → e ≡ x
  unfolding states_end
  states-done e n h q = runs_done (states_end d) (λ s. s.actions) state-none (λ m x xs. refl) e d.states n h q

  pub all_runs : {x y : Option ℕ} → x ≡ operations_end d 0 d.operations → y ≡ ending x (λ m. states_end d m d.states)
      → ends_at d (length d.actions) y ≡ runs_right d
  unfolding runs_right
  all_runs p q = ap (ends_at d (length d.actions)) (q ∙ ap (λ (w : Option ℕ). ending w (λ m. states_end d m d.states)) p)
