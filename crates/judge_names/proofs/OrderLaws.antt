-- Names one after the other: each against those before it, and the faults that are left.
use mathlib.Core.Bool.{Bool, true, false, cond, ◌||◌}
use mathlib.Core.List.{List, [], ◌∷◌, ◌++◌}
use mathlib.Core.Option.{Option, none}
use mathlib.Core.Path.{◌≡◌, refl, sym, ap, ◌∙◌}
use native.Mathlib.Numerals.{add-one}
use native.Mathlib.Omega.{arith}
use Prim.Native.Nat.{ℕ, zero, suc, ◌+◌, ◌-◌, ◌<◌, ◌≤◌}
use borrow.Author.Tests.{eqb-false, eqb-true}
use lib.Dec.{eqb}
use lib.ListN.{drop, get_or, length, take}
use lib.Seq.{drop-drop, get_or-drop}
use Rattle.language.specs.Decode.{up_to}
use Rattle.language.specs.Description as D
use Rattle.language.specs.Judging.{unless}
use Rattle.language.specs.declared.refusals.Refusal.TheVariants.{BadName}
use Rattle.language.specs.Rules.{declared, name_faults, twice}
use Rattle.language.specs.Scan.{same}
use Rattle.language.specs.Tree.{Name}
use Rattle.language.specs.WordStage.{least}
use Rattle.language.specs.Words as W
use Rattle.language.specs.Words.{Position}
use Rattle.text_words.proofs.Least.{least-both, lesser-all, lesser-none}
use Rattle.text_words.specs.Meaning.{lesser}
use Rattle.judge_names.specs.Numbered.{earlier, name_no, offset_of}
use Rattle.language.specs.Encode.{facilities_section}

-- ---- Name k, at a running offset.

module _ (ls names : List ℕ) (k offset : ℕ) {n : ℕ} (o : drop offset names ≡ drop (offset_of k ls) names) (e : n ≡ get_or ls k 0) where
  pub name-here : take n (drop offset names) ≡ name_no ls names k
  unfolding name_no
  name-here = rw (o, e)

  pub offset-next : {rest : List ℕ} → rest ≡ drop (offset + n) names → rest ≡ drop (offset_of (k + 1) ls) names
  unfolding offset_of
  offset-next h =
      rw (add-one k)
      (h ∙ sym (drop-drop n offset names) ∙ ap (drop n) o ∙ drop-drop n (offset_of k ls) names
      ∙ ap (λ (m : ℕ). drop (offset_of k ls + m) names) e)

pub offset-start : (ls names : List ℕ) → drop 0 names ≡ drop (offset_of facilities_section ls) names
unfolding offset_of
offset-start ls names = refl

-- ---- A name among those before it.

or-true : (b : Bool) → (b || true) ≡ true
or-true true = refl
or-true false = refl

pub unnamed-new : (name : Name) (before : List Name) → length name ≡ 0 → true ≡ cond (twice name before) false true
unnamed-new [] before h = refl
unnamed-new (c ∷ name) before h = absurd (omega arith)

module _ (name : Name) (ls names : List ℕ) (named : length name ≡ 0 → ⊥) where
  named-twice : (before : List Name) → twice name before ≡ declared name before
  named-twice before = go name named
    where
      go : (n : Name) → (length n ≡ 0 → ⊥) → twice n before ≡ declared n before
      go [] h = absurd (h refl)
      go (c ∷ n) h = refl

  pub all_new : (i k : ℕ) → i ≤ k → k ≤ i → declared name (earlier ls names i) ≡ false → true ≡ cond (twice name (earlier ls names k)) false true
  all_new i k h g e =
      let z : i ≡ k = omega arith in
      let u : declared name (earlier ls names k) ≡ false = rw z at e in
      rw (named-twice (earlier ls names k), u)

  declared-up : (i k : ℕ) → i < k → same name (name_no ls names i) ≡ true → declared name (earlier ls names k) ≡ true
  unfolding declared earlier
  declared-up i zero h e = absurd (omega arith)
  declared-up i (suc k) h e = by-test (eqb i k) refl (λ g. declared-up i k g e)
    where
      by-test : (b : Bool) → eqb i k ≡ b → (i < k → declared name (earlier ls names k) ≡ true) → declared name (earlier ls names (suc k)) ≡ true
      by-test true t more = let z : i ≡ k = eqb-true i k t in rw (← z, e)
      by-test false t more = rw (more (omega (arith, eqb-false i k t)), or-true (same name (name_no ls names k)))

  pub one_same : (i k : ℕ) {m : Name} {b : Bool} → i < k → m ≡ name_no ls names i → b ≡ same name m → b ≡ true
      → false ≡ cond (twice name (earlier ls names k)) false true
  one_same i k h e t y =
      let u : same name (name_no ls names i) ≡ true = ap (same name) (sym e) ∙ sym t ∙ y in
      rw (named-twice (earlier ls names k), declared-up i k h u)

pub none_before : (name : Name) (ls names : List ℕ) → declared name (earlier ls names 0) ≡ false
unfolding declared earlier
none_before name ls names = refl

pub one_more : (name : Name) (ls names : List ℕ) (i : ℕ) {m : Name} {b : Bool} → m ≡ name_no ls names i → b ≡ same name m → b ≡ false
    → declared name (earlier ls names i) ≡ false → declared name (earlier ls names (i + 1)) ≡ false
unfolding declared earlier
one_more name ls names i e t n h =
    let u : same name (name_no ls names i) ≡ false = ap (same name) (sym e) ∙ sym t ∙ n in
    rw (add-one i, u, h)

-- ---- The faults that are left: of the names from k on.

module _ (ls names : List ℕ) (ps : List Position) where
  unfoldable pub left : ℕ → ℕ → Option W.Fault
  left m k = least (name_faults (earlier ls names k) (up_to (name_no ls names) k m) (drop k ps))

  abbrev pub own : ℕ → List W.Fault
  own k = unless (cond (twice (name_no ls names k) (earlier ls names k)) false true) (get_or ps k D.nowhere) BadName

  first-fault : (before : List Name) (n : Name) (ns : List Name) (qs : List Position)
      → name_faults before (n ∷ ns) qs ≡ unless (cond (twice n before) false true) (get_or qs 0 D.nowhere) BadName ++ name_faults (n ∷ before) ns (drop 1 qs)
  unfolding name_faults
  first-fault before n ns [] = refl
  first-fault before n ns (p ∷ qs) = refl

  next-name : (m k : ℕ) → left (suc m) k ≡ lesser (least (own k)) (left m (suc k))
  unfolding left up_to earlier
  next-name m k =
      let e : k + 0 ≡ k = omega arith in
      ap least (first-fault (earlier ls names k) (name_no ls names k) (up_to (name_no ls names) (suc k) m) (drop k ps))
      ∙ least-both (unless (cond (twice (name_no ls names k) (earlier ls names k)) false true) (get_or (drop k ps) 0 D.nowhere) BadName) (name_faults (earlier ls names (suc k)) (up_to (name_no ls names) (suc k) m) (drop 1 (drop k ps)))
      ∙ rw (get_or-drop k ps 0 D.nowhere, e, drop-drop 1 k ps, add-one k)

  pub own-fault : (k : ℕ) {name : Name} {fresh : Bool} {at : Position} {one : Option W.Fault} → name ≡ name_no ls names k
      → fresh ≡ cond (twice name (earlier ls names k)) false true → at ≡ get_or ps k D.nowhere → one ≡ least (unless fresh at BadName) → one ≡ least (own k)
  own-fault k e f a h = rw (h, f, e, a)

  pub start-name : {N : ℕ} → N ≡ length ls → lesser none (left (N - 0) 0) ≡ least (name_faults [] (up_to (name_no ls names) 0 (length ls)) ps)
  unfolding left earlier
  start-name {N} e = let z : N - 0 ≡ length ls = omega arith in rw z

  pub stop-name : (N k : ℕ) (all : Option W.Fault) {whole : Option W.Fault} → N ≤ k → lesser all (left (N - k) k) ≡ whole → all ≡ whole
  unfolding left up_to name_faults least
  stop-name N k all h w =
      let z : N - k ≡ 0 = omega arith in
      let u : lesser all (left 0 k) ≡ _ = rw z at w in
      sym (lesser-none all) ∙ u

  pub step-name : (N k : ℕ) (all one : Option W.Fault) {more whole : Option W.Fault} → k < N → more ≡ lesser all one → one ≡ least (own k)
      → lesser all (left (N - k) k) ≡ whole → lesser more (left (N - (k + 1)) (k + 1)) ≡ whole
  step-name N k all one h e g w =
      let z : N - k ≡ suc (N - (k + 1)) = omega arith in
      let u : lesser all (left (suc (N - (k + 1))) k) ≡ _ = rw z at w in
      rw (e, g, add-one k)
      (sym (lesser-all all (least (own k)) (left (N - suc k) (suc k))) ∙ ap (lesser all) (sym (next-name (N - suc k) k)) ∙ rw (add-one k) at u)
