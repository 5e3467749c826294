-- Names whose sum has no mark are none of those that were marked.
use mathlib.Core.Bool.{Bool, true, false, ◌||◌}
use mathlib.Core.List.{List, [], ◌∷◌}
use mathlib.Core.Path.{◌≡◌, refl, sym, ◌∙◌}
use native.Mathlib.Numerals.{add-one}
use native.Mathlib.Omega.{arith}
use Prim.Native.Nat.{ℕ, ◌+◌, ◌*◌, ◌%◌, ◌<◌, ◌≤◌}
use borrow.Author.Tests.{eqb-false, eqb-true}
use lib.Dec.{eqb}
use lib.ListN.{drop, drop_of_length-le, get_or, length, set}
use lib.Seq.{drop-cons, get_or-set_other, get_or-set_same}
use Rattle.language.specs.Rules.{declared}
use Rattle.language.specs.Scan.{same}
use Rattle.language.specs.Tree.{Name}
use Rattle.image_records.proofs.ByteLaws.{same_true}
use Rattle.judge_names.specs.Numbered.{earlier, name_no}
use Rattle.judge_names.specs.Sums.{AllMarked, sum_after, sum_of}

-- ---- The sum, byte by byte.

abbrev pub SumLeft : List ℕ → ℕ → ℕ → Type 0
SumLeft s total i = sum_of s ≡ sum_after total (drop i s)

pub sum-next : (s : List ℕ) (total i : ℕ) → SumLeft s total i → i < length s → SumLeft s ((total * 45 + get_or s i 0) % 1024) (i + 1)
unfolding sum_after
sum-next s total i e h = e ∙ rw (drop-cons s i 0 h, add-one i)

pub sum-last : (s : List ℕ) (total i : ℕ) → SumLeft s total i → length s ≤ i → total ≡ sum_of s
unfolding sum_after
sum-last s total i e h = sym (e ∙ rw (drop_of_length-le s h))

-- ---- Marks.

pub unmarked-new : (marks : List ℕ) (name : Name) (before : List Name) → AllMarked marks before → get_or marks (sum_of name) 0 ≡ 0 → declared name before ≡ false
unfolding declared
unmarked-new marks name [] m e = refl
unmarked-new marks name (n ∷ before) m e = go (unmarked-new marks name before m.1 e) (same name n) refl
  where
    go : declared name before ≡ false → (b : Bool) → same name n ≡ b → (b || declared name before) ≡ false
    go later true q =
        let z : name ≡ n = same_true name n q in
        let one : get_or marks (sum_of name) 0 ≡ 1 = rw z m.0 in
        absurd (omega (arith, e, one))
    go later false q = later

mark-kept : (marks : List ℕ) (i j : ℕ) → get_or marks j 0 ≡ 1 → i < length marks → get_or (set marks i 1) j 0 ≡ 1
mark-kept marks i j e h = go (eqb i j) refl
  where
    go : (b : Bool) → eqb i j ≡ b → get_or (set marks i 1) j 0 ≡ 1
    go true q = let z : i ≡ j = eqb-true i j q in rw (← z) (get_or-set_same marks i 1 0 h)
    go false q = get_or-set_other marks i j 1 0 (λ z. eqb-false i j q (sym z)) ∙ e

marks-kept : (marks : List ℕ) (i : ℕ) (before : List Name) → AllMarked marks before → i < length marks → AllMarked (set marks i 1) before
marks-kept marks i [] m h = tt
marks-kept marks i (n ∷ before) m h = (mark-kept marks i (sum_of n) m.0 h, marks-kept marks i before m.1 h)

pub marks-more : (ls names marks : List ℕ) (k : ℕ) {name : Name} {slot : ℕ} → AllMarked marks (earlier ls names k) → name ≡ name_no ls names k → slot ≡ sum_of name → slot < length marks
    → AllMarked (set marks slot 1) (earlier ls names (k + 1))
unfolding earlier
marks-more ls names marks k {name} {slot} m e s h =
    rw (add-one k) (rw (← e, ← s) (get_or-set_same marks slot 1 0 h), marks-kept marks slot (earlier ls names k) m h)
