-- Facilities one after the other.
use mathlib.Core.Bool.{Bool, true, false, cond, ◌||◌}
use mathlib.Core.List.{List, [], ◌∷◌, ◌++◌}
use mathlib.Core.Option.{Option, none, some}
use mathlib.Core.Path.{◌≡◌, refl, sym, ap, ap₂, ◌∙◌}
use native.Mathlib.Numerals.{add-one}
use native.Mathlib.Omega.{arith}
use Prim.Native.Nat.{ℕ, suc, ◌+◌, ◌/◌, ◌<◌, ◌≤◌}
use borrow.Author.Tests.{eqb-false, eqb-true}
use lib.Dec.{eqb, leb}
use lib.ListN.{drop, drop_of_length-le, get_or, length, length-take, take}
use lib.Seq.{drop-cons}
use Rattle.language.specs.Description as D
use Rattle.language.specs.Description.{Description, Facility, FacilityPlaces, Places, facility_at, facility_place, is_computed, is_sequencing, no_facility, word_length}
use Rattle.language.specs.Expressions.{expression_at, terminal_below, terminal_judged, terminal_step}
use Rattle.language.specs.Judging as L
use Rattle.language.specs.Judging.{Judged, refuse, unless}
use Rattle.language.specs.Layout.{facility_bytes}
use Rattle.language.specs.Recursion.{below-lt}
use Rattle.language.specs.declared.refusals.Refusal.TheVariants.{BadName, BadSequencing, CeilingPassed}
use Rattle.language.specs.Rules.{bounds_faults, facilities_faults, facility_faults, first_faults, same_length, sequencing_right}
use Rattle.language.specs.Ceilings.{largest_store}
use Rattle.language.specs.Tree.{Name}
use Rattle.language.specs.WordStage.{least}
use Rattle.language.specs.Words as W
use Rattle.store_geometry.specs.Places.{capped, capped-add, capped-within}
use Rattle.text_words.proofs.Least.{least-both, lesser-all, lesser-none}
use Rattle.image_sections.specs.Declarations.{facility_in, kind_meant}
use Rattle.judge_records.specs.Read.{facility_meant}
use Rattle.judge_records.specs.declared.facilities.Facility as N
use Rattle.text_words.specs.declared.Fault.{Fault}
use Rattle.text_words.specs.Meaning.{faulted, lesser}
use Rattle.judge_verdicts.proofs.VerdictLaws.{is-faulty}
use Rattle.judge_verdicts.specs.Meaning.{Verdict}
use Rattle.std.specs.Prelude.{Err}
use Rattle.judge_verdicts.specs.Meaning.{recalled, seen, work_of}
use Rattle.judge_verdicts.specs.Noted.{noted_from}
use Rattle.judge_terms.specs.Shown.{Shown, worked}
use Rattle.judge_expressions.proofs.FilledLaws.{recalled-take}
use Rattle.judge_all.proofs.MemoryLaws.{worked-seen}
use Rattle.judge_all.specs.InSlices.{Declared, Remembered}
use Rattle.language.specs.Encode.{facility_size}

-- ---- Computed terminals.

pub terminal-lt : (d : Description) (p : Places) (k n : ℕ) → n < k → terminal_below d p k n ≡ terminal_judged d p n
unfolding terminal_below terminal_judged
terminal-lt d p k n h = below-lt (refuse D.nowhere BadName) (terminal_step d p) k n h

-- With what is kept alone.
pub shown-kept : {facs exprs marks places memo : List ℕ} {d : Description} {p : Places} (k : ℕ) → Declared facs exprs marks places d p
    → Remembered facs memo k d p → k ≤ length facs / facility_size → Shown facs exprs marks places (take noted_from memo) k d p (terminal_below d p k)
shown-kept {memo = memo} {d = d} {p = p} k s r h = record {
  records = s.records;
  facility = λ n l f q. s.facility n (omega arith) f q;
  kind = s.kind;
  terminal = λ n l m c. recalled-take memo noted_from n (omega arith) l ∙ r.terminal n l m c ∙ ap (λ (j : Judged). seen (worked j)) (sym (terminal-lt d p k n m));
  noted = λ i l m. absurd (omega (arith, length-take noted_from memo));
}

module _ (d : Description) (p : Places) (n : ℕ) where
  pub terminal-is : {x : ℕ} → x ≡ (facility_at d n).expression → expression_at d p (terminal_below d p n) n x ≡ terminal_judged d p n
  unfolding terminal_judged
  terminal-is e = rw e

  -- ---- One facility.

  module _ (another : Bool) (before after : ℕ) (x : Facility) (at : FacilityPlaces) (e : after ≡ capped (before + facility_bytes x)) where
    abbrev Sequencing : Bool
    Sequencing = cond (is_sequencing x.kind) (sequencing_right d p another x) true

    pub computed-faults : is_computed x.kind ≡ true
        → unless Sequencing at.name BadSequencing ++ (unless (leb after largest_store) at.name CeilingPassed ++ same_length d p (word_length x) at.equals (terminal_judged d p n))
        ≡ facility_faults d p n another before x at
    unfolding facility_faults largest_store
    computed-faults c = rw (c, e, capped-within (before + facility_bytes x))

    pub other-faults : is_computed x.kind ≡ false
        → unless Sequencing at.name BadSequencing ++ (unless (leb after largest_store) at.name CeilingPassed ++ []) ≡ facility_faults d p n another before x at
    unfolding facility_faults largest_store
    other-faults c = rw (c, e, capped-within (before + facility_bytes x))

-- ---- The rest of them.

module _ (d : Description) (p : Places) where
  same_place : (n : ℕ) (another : Bool) (a : ℕ) (f : Facility) (at : FacilityPlaces)
      → facility_faults d p n another (capped a) f at ≡ facility_faults d p n another a f at
  unfolding facility_faults largest_store
  same_place n another a f at =
      rw (← capped-within (capped a + facility_bytes f), capped-add a (facility_bytes f), capped-within (a + facility_bytes f))

  same-places : (n : ℕ) (another : Bool) (a : ℕ) (fs : List Facility) → facilities_faults d p n another (capped a) fs ≡ facilities_faults d p n another a fs
  unfolding facilities_faults
  same-places n another a [] = refl
  same-places n another a (f ∷ fs) =
      ap₂ (λ (x y : List W.Fault). first_faults d p (bounds_faults d p f (facility_place p n)) x ++ y) (same_place n another a f (facility_place p n))
      (sym (same-places (suc n) (another || is_sequencing f.kind) (capped a + facility_bytes f) fs)
      ∙ ap (λ (k : ℕ). facilities_faults d p (suc n) (another || is_sequencing f.kind) k fs) (capped-add a (facility_bytes f))
      ∙ same-places (suc n) (another || is_sequencing f.kind) (a + facility_bytes f) fs)

  abbrev one_of : ℕ → Bool → ℕ → List W.Fault
  one_of n another before =
      first_faults d p (bounds_faults d p (facility_at d n) (facility_place p n)) (facility_faults d p n another before (facility_at d n) (facility_place p n))

  pub next-facility : (n : ℕ) (another more : Bool) (before after : ℕ) → n < length d.facilities
      → after ≡ capped (before + facility_bytes (facility_at d n)) → more ≡ (another || is_sequencing (facility_at d n).kind)
      → least (facilities_faults d p n another before (drop n d.facilities))
      ≡ lesser (least (one_of n another before)) (least (facilities_faults d p (n + 1) more after (drop (n + 1) d.facilities)))
  unfolding facilities_faults facility_at
  next-facility n another more before after h e q =
      ap (λ (fs : List Facility). least (facilities_faults d p n another before fs)) (drop-cons d.facilities n no_facility h)
      ∙ least-both (one_of n another before) (facilities_faults d p (suc n) (another || is_sequencing (get_or d.facilities n no_facility).kind) (before + facility_bytes (get_or d.facilities n no_facility)) (drop (suc n) d.facilities))
      ∙ rw (add-one n, q, e, same-places (suc n) (another || is_sequencing (get_or d.facilities n no_facility).kind) (before + facility_bytes (get_or d.facilities n no_facility)) (drop (suc n) d.facilities))

  pub no_more : (n : ℕ) (another : Bool) (before : ℕ) → length d.facilities ≤ n → none ≡ least (facilities_faults d p n another before (drop n d.facilities))
  unfolding facilities_faults least
  no_more n another before h = rw (drop_of_length-le d.facilities h)

-- ---- What is read of a facility, and lists of faults.

pub computed-expression : (f : N.Facility) {name : Name} {x : Facility} → facility_meant name f ≡ x → is_computed (kind_meant f.kind) ≡ true → f.expression ≡ x.expression
computed-expression f {name} {x} e c =
    let q : (facility_meant name f).expression ≡ x.expression = ap (λ (y : Facility). y.expression) e in
    sym (rw c) ∙ q

pub passed_none : none ≡ least []
unfolding least
passed_none = refl

pub or_else_none : (d : Description) (p : Places) (x y : List W.Fault) {o : Option W.Fault} → none ≡ least x → o ≡ least y → o ≡ least (first_faults d p x y)
unfolding least
or_else_none d p [] y e f = f
or_else_none d p (g ∷ gs) y e f = absurd (let z : ◌≡◌ {A = ℕ} 0 1 = cc in omega arith)

pub or_else_some : (d : Description) (p : Places) (x y : List W.Fault) (g : Fault) → some (faulted g) ≡ least x → some (faulted g) ≡ least (first_faults d p x y)
unfolding least
or_else_some d p [] y g e = absurd (let z : ◌≡◌ {A = ℕ} 0 1 = cc in omega arith)
or_else_some d p (h ∷ hs) y g e = e

-- ---- The loop: what is found so far and what is left make the whole.

module _ (d : Description) (p : Places) where
  pub start : lesser none (least (facilities_faults d p 0 false 0 (drop 0 d.facilities))) ≡ least (facilities_faults d p 0 false 0 d.facilities)
  start = refl

  module _ {facs exprs marks places : List ℕ} (s : Declared facs exprs marks places d p) (n : ℕ) where
    pub stop : (all : Option W.Fault) (another : Bool) (before : ℕ) {whole : Option W.Fault} → length facs / facility_size ≤ n
        → lesser all (least (facilities_faults d p n another before (drop n d.facilities))) ≡ whole → all ≡ whole
    stop all another before h e =
        sym (lesser-none all) ∙ ap (lesser all) (no_more d p n another before (omega (arith, s.count))) ∙ e

    pub step : (f : N.Facility) (all one : Option W.Fault) (another next now : Bool) (before after : ℕ) {more whole : Option W.Fault}
        → facility_meant (facility_at d n).name f ≡ facility_at d n → n < length facs / facility_size
        → more ≡ lesser all one
        → one ≡ least (one_of d p n another before)
        → after ≡ capped (before + facility_bytes (facility_meant (facility_at d n).name f))
        → next ≡ (another || now) → now ≡ is_sequencing (kind_meant f.kind)
        → lesser all (least (facilities_faults d p n another before (drop n d.facilities))) ≡ whole
        → lesser more (least (facilities_faults d p (n + 1) next after (drop (n + 1) d.facilities))) ≡ whole
    step f all one another next now before after m h e g a b c w =
        let x : after ≡ capped (before + facility_bytes (facility_at d n)) = a ∙ ap (λ (y : Facility). capped (before + facility_bytes y)) m in
        let y : next ≡ (another || is_sequencing (facility_at d n).kind) = b ∙ ap (λ (z : Bool). another || z) (c ∙ ap (λ (z : Facility). is_sequencing z.kind) m) in
        let z : n < length d.facilities = omega (arith, s.count) in
        rw (e, g) (sym (lesser-all all (least (one_of d p n another before)) (least (facilities_faults d p (n + 1) next after (drop (n + 1) d.facilities))))
        ∙ ap (lesser all) (sym (next-facility d p n another next before after z x y)) ∙ w)

pub remember-first : (facs memo : List ℕ) (d : Description) (p : Places) → Remembered facs memo 0 d p
remember-first facs memo d p = record { terminal = λ n l m c. absurd (omega arith) }

-- What is noted behind it does not count.
pub remember-same : {facs memo : List ℕ} {k : ℕ} {d : Description} {p : Places} (after : List ℕ) → take noted_from after ≡ take noted_from memo → Remembered facs memo k d p → Remembered facs after k d p
remember-same {memo = memo} after e r = record {
  terminal = λ n l m c.
      sym (recalled-take after noted_from n (omega arith) l) ∙ ap (λ (x : List ℕ). recalled x n) e ∙ recalled-take memo noted_from n (omega arith) l ∙ r.terminal n l m c;
}

module _ {facs exprs marks places : List ℕ} {d : Description} {p : Places} (s : Declared facs exprs marks places d p) {n : ℕ} where
  pub remember-all : {memo : List ℕ} → n ≤ length facs / facility_size → length facs / facility_size ≤ n → Remembered facs memo n d p → Remembered facs memo (length facs / facility_size) d p
  remember-all g h r = record { terminal = λ i l m c. r.terminal i l (omega arith) c }

  pub remember-next : {memo after : List ℕ} {v : Verdict} → Remembered facs memo n d p
      → v ≡ seen (cond (is_computed (facility_at d n).kind) (terminal_judged d p n) (L.worth 1 0 0))
      → (n < 256 → recalled after n ≡ work_of v) → ((i : ℕ) → i < n → i < 256 → recalled after i ≡ recalled memo i) → Remembered facs after (n + 1) d p
  remember-next {memo} {after} {v} r e here others = record { terminal = λ i l m c. by-test i l m c (eqb i n) refl }
    where
      by-test : (i : ℕ) → i < 256 → i < n + 1 → is_computed (facility_in facs i []).kind ≡ true → (b : Bool) → eqb i n ≡ b → recalled after i ≡ seen (worked (terminal_judged d p i))
      by-test i l m c true t =
          let q : i ≡ n = eqb-true i n t in
          let k : is_computed (facility_at d n).kind ≡ true = ap is_computed (s.kind n) ∙ ap (λ (x : ℕ). is_computed (facility_in facs x []).kind) (sym q) ∙ c in
          rw q (here (omega arith) ∙ ap work_of (e ∙ ap (λ (b : Bool). seen (cond b (terminal_judged d p n) (L.worth 1 0 0))) k) ∙ worked-seen (terminal_judged d p n))
      by-test i l m c false t = let q : i < n = omega (arith, eqb-false i n t) in others i q l ∙ r.terminal i l q c

pub same-faulty : (d : Description) (p : Places) (l : ℕ) (q : W.Position) (j : Judged) (g : Fault) → Err g ≡ seen j → some (faulted g) ≡ least (same_length d p l q j)
unfolding least
same-faulty d p l q j g e = is-faulty j g (λ k. some (faulted g) ≡ least (same_length d p l q k)) e (λ f fs m. ap (λ (x : Fault). some (faulted x)) m)
