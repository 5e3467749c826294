-- Faults that stand where words do: of whatever holds of the places given, all that judging adds to them says the same. The combinators of judging keep this. Assumes nothing.
use Rattle.std.specs.Prelude.{Bool, true, false, cond, List, [], ◌∷◌, ◌++◌, eqb, leb, ltb}
use Prim.Native.Nat.{ℕ, zero, suc}
use Rattle.language.specs.Judging.{Judged, Worth, arm_list, faults_of, faulty, fine, given, given_both, or_faulty, proper, refuse, sized, unless}
use Rattle.language.specs.Recursion.{below}
use Rattle.language.specs.declared.refusals.Refusal.{Refusal}
use Rattle.language.specs.Ceilings.{longest}
use Rattle.language.specs.Words.{Fault, Position}

module _ (Here : Position → Type 0) where
  pub data Stand : List Fault → Type 0 where
    no-fault : Stand []
    a-fault : {f : Fault} {fs : List Fault} → Here f.at → Stand fs → Stand (f ∷ fs)

  pub data Judges : Judged → Type 0 where
    is-fine : {w : Worth} → Judges (fine w)
    is-faulty : {f : Fault} {fs : List Fault} → Here f.at → Stand fs → Judges (faulty f fs)

  -- ---- Lists of faults.

  pub unless-stand : (b : Bool) (p : Position) (r : Refusal) → Here p → Stand (unless b p r)
  unless-stand true p r h = no-fault
  unless-stand false p r h = a-fault h no-fault

  pub append-stand : {xs ys : List Fault} → Stand xs → Stand ys → Stand (xs ++ ys)
  append-stand no-fault k = k
  append-stand (a-fault x h) k = a-fault x (append-stand h k)

  pub cond-stand : (b : Bool) {xs ys : List Fault} → Stand xs → Stand ys → Stand (cond b xs ys)
  cond-stand true h k = h
  cond-stand false h k = k

  pub faults-stand : {j : Judged} → Judges j → Stand (faults_of j)
  faults-stand is-fine = no-fault
  faults-stand (is-faulty x h) = a-fault x h

  -- ---- Judgements.

  pub refuse-judges : {p : Position} {r : Refusal} → Here p → Judges (refuse p r)
  refuse-judges h = is-faulty h no-fault

  pub cond-judges : (b : Bool) {i j : Judged} → Judges i → Judges j → Judges (cond b i j)
  cond-judges true h k = h
  cond-judges false h k = k

  pub given-judges : {i : Judged} {k : Worth → Judged} → Judges i → ((w : Worth) → Judges (k w)) → Judges (given i k)
  given-judges (is-fine {w}) h = h w
  given-judges (is-faulty x y) h = is-faulty x y

  pub both-judges : {i j : Judged} {k : Worth → Worth → Judged} → Judges i → Judges j → ((v w : Worth) → Judges (k v w)) → Judges (given_both i j k)
  both-judges (is-fine {w = v}) (is-fine {w = w}) h = h v w
  both-judges is-fine (is-faulty x y) h = is-faulty x y
  both-judges (is-faulty x y) is-fine h = is-faulty x y
  both-judges (is-faulty x y) (is-faulty z u) h = is-faulty x (append-stand y (a-fault z u))

  pub proper-judges : {i : Judged} {p : Position} → Here p → Judges i → Judges (proper p i)
  unfolding proper
  proper-judges h (is-fine {w}) = cond-judges (eqb w.arms 0) is-fine (refuse-judges h)
  proper-judges h (is-faulty x y) = is-faulty x y

  pub arms-judges : {i : Judged} {p : Position} → Here p → Judges i → Judges (arm_list p i)
  unfolding arm_list
  arms-judges h (is-fine {w}) = cond-judges (eqb w.arms 0) (refuse-judges h) is-fine
  arms-judges h (is-faulty x y) = is-faulty x y

  pub sized-judges : {p : Position} (l w : ℕ) → Here p → Judges (sized p l w)
  unfolding sized
  sized-judges l w h = cond-judges (ltb 0 l) (cond-judges (leb l longest) is-fine (refuse-judges h)) (refuse-judges h)

  pub or-judges : {xs : List Fault} {j : Judged} → Stand xs → Judges j → Judges (or_faulty xs j)
  or-judges no-fault h = h
  or-judges (a-fault x y) h = is-faulty x y

-- ---- Recursion on what is below.

module _ {X : Type 0} (R : X → Type 0) (none : X) (here : R none) (step : (ℕ → X) → ℕ → X)
    (keeps : (f : ℕ → X) → ((a : ℕ) → R (f a)) → (n : ℕ) → R (step f n)) where
  pick-so : (b : Bool) {x y : X} → R x → R y → R (cond b x y)
  pick-so true h k = h
  pick-so false h k = k

  pub below-so : (k a : ℕ) → R (below none step k a)
  unfolding below
  below-so zero a = here
  below-so (suc k) a = pick-so (eqb a k) (keeps (below none step k) (below-so k) k) (below-so k a)
