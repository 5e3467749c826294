-- What is noted grows and shrinks at its end, and what is kept before it stays.
use mathlib.Core.List.{List}
use mathlib.Core.Bool.{Bool, true, false}
use mathlib.Core.Path.{◌≡◌, refl, sym, ◌∙◌}
use native.Mathlib.Omega.{arith}
use Prim.Native.Nat.{ℕ, ◌+◌, ◌*◌, ◌<◌, ◌≤◌}
use borrow.Author.Tests.{eqb-false, eqb-true}
use lib.Dec.{eqb}
use lib.ListN.{get_or, length, length-set, length-take, set, take}
use lib.Seq.{get_or-set_other, get_or-set_same, get_or-take, take-set-le}
use Rattle.language.specs.Description.{Description, Places}
use Rattle.language.specs.Judging.{Judged}
use Rattle.judge_verdicts.specs.Meaning.{recalled}
use Rattle.judge_verdicts.specs.Noted.{noted_from}
use Rattle.judge_terms.specs.Shown.{NotedRight, Shown}
use Rattle.judge_expressions.specs.Filled.{Filled}

-- ---- What is kept.

pub recalled-take : (m : List ℕ) (k n : ℕ) → noted_from ≤ k → n < 256 → recalled (take k m) n ≡ recalled m n
unfolding recalled
recalled-take m k n h l =
    let a : 2 * n < k = omega arith in
    let b : 2 * n + 1 < k = omega arith in
    rw (get_or-take k m (2 * n) 0 a, get_or-take k m (2 * n + 1) 0 b)

recalled-set : (m : List ℕ) (i x n : ℕ) → noted_from ≤ i → n < 256 → recalled (set m i x) n ≡ recalled m n
unfolding recalled
recalled-set m i x n h l =
    rw (get_or-set_other m i (2 * n) x 0 (λ e. omega arith), get_or-set_other m i (2 * n + 1) x 0 (λ e. omega arith))

-- ---- What is shown with another list of what is kept and noted.

module _ {facs exprs marks places memo : List ℕ} {known : ℕ} {d : Description} {p : Places} {t : ℕ → Judged} (s : Shown facs exprs marks places memo known d p t) where
  pub shown-other : (other : List ℕ) → ((n : ℕ) → n < 256 → recalled other n ≡ recalled memo n)
      → ((i : ℕ) → noted_from ≤ i → i < length other → NotedRight d p t known (get_or other i 0)) → Shown facs exprs marks places other known d p t
  shown-other other same right = record {
    records = s.records;
    facility = s.facility;
    kind = s.kind;
    terminal = λ n h k c. same n h ∙ s.terminal n h k c;
    noted = right;
  }

within : (m : List ℕ) (k i : ℕ) → i < length (take k m) → (i < k) × (i < length m)
within m k i h = let e = length-take k m in (omega arith, omega arith)

pub filled_none : {facs exprs marks places : List ℕ} {known : ℕ} (memo : List ℕ) → noted_from ≤ length memo → Filled facs exprs marks places known memo memo noted_from
filled_none memo h = record { size = refl; kept = refl; from = omega arith; within = h; shown = λ d p t s. s }

module _ {facs exprs marks places before after : List ℕ} {known end : ℕ} (f : Filled facs exprs marks places known before after end) where
  -- Fewer are noted.
  pub filled-less : (less : ℕ) → noted_from ≤ less → less ≤ end → Filled facs exprs marks places known before after less
  filled-less less h k = record {
    size = f.size;
    kept = f.kept;
    from = h;
    within = omega (arith, f.within);
    shown = λ d p t s.
        let w = f.shown d p t s in
        shown-other w (take less after) (λ n l. recalled-take after less n h l ∙ sym (recalled-take after end n f.from l))
        (λ i l m.
        let q = within after less i m in
        let g : i < length (take end after) = omega (arith, length-take end after, q.0, q.1) in
        let e : get_or (take end after) i 0 ≡ get_or (take less after) i 0 = get_or-take end after i 0 (omega (arith, q.0)) ∙ sym (get_or-take less after i 0 q.0) in
        rw e at (w.noted i l g));
  }

  -- One more is noted.
  pub filled_more : (x : ℕ) → end < length after
      → ((d : Description) (p : Places) (t : ℕ → Judged) → Shown facs exprs marks places (take noted_from before) known d p t → NotedRight d p t known x)
      → Filled facs exprs marks places known before (set after end x) (end + 1)
  filled_more x h right = record {
    size = length-set after end x ∙ f.size;
    kept = take-set-le noted_from after end x f.from ∙ f.kept;
    from = omega (arith, f.from);
    within = omega (arith, length-set after end x);
    shown = λ d p t s.
        let w = f.shown d p t s in
        shown-other w (take (end + 1) (set after end x))
        (λ n l. recalled-take (set after end x) (end + 1) n (omega (arith, f.from)) l ∙ recalled-set after end x n f.from l ∙ sym (recalled-take after end n f.from l))
        (λ i l m.
        let q = within (set after end x) (end + 1) i m in
        rw (get_or-take (end + 1) (set after end x) i 0 q.0) (by_place d p t (right d p t s) w i l q.0 (eqb i end) refl));
  }
    where
      by_place : (d : Description) (p : Places) (t : ℕ → Judged) → NotedRight d p t known x → Shown facs exprs marks places (take end after) known d p t
          → (i : ℕ) → noted_from ≤ i → i < end + 1 → (b : Bool) → eqb i end ≡ b → NotedRight d p t known (get_or (set after end x) i 0)
      by_place d p t r w i l m true e = rw (eqb-true i end e, get_or-set_same after end x 0 h) r
      by_place d p t r w i l m false e =
          let n : i < end = omega (arith, eqb-false i end e) in
          rw (get_or-set_other after end i x 0 (eqb-false i end e), ← get_or-take end after i 0 n) (w.noted i l (omega (arith, length-take end after)))
