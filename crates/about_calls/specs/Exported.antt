-- One outcome for each exported call: a call whose contract gives its numbers and every later buffer by equations with what is owed has one outcome, and what the buffers that it only writes held before has no bearing. `owed` is what the definitions of `language` say of the call; `numbers` and `buffers` are how the contract shows it to C.
use Rattle.std.specs.Prelude.{List, [], ◌∷◌, ◌≡◌, ℕ, length}
use Rattle.std.proofs.Common.{sym, ap, ap₂, ◌∙◌}
use Rattle.language.specs.Calls as L
use Rattle.language.specs.Lookups as Lk
use Rattle.language.specs.Reading as R

-- The contract of an exported call, clause by clause.
pub record Exported {Call C : Type 0} (numbers : Call → C) (buffers : Call → List (List ℕ)) (owed : Call) (answer : C) (left : List (List ℕ)) : Type 0 where
  pub answers : answer ≡ numbers owed
  pub leaves : left ≡ buffers owed

pub exported-one : {Call C : Type 0} (numbers : Call → C) (buffers : Call → List (List ℕ)) (owed owed' : Call) (a b : C) (x y : List (List ℕ)) → owed ≡ owed'
    → Exported numbers buffers owed a x → Exported numbers buffers owed' b y → (a ≡ b) × (x ≡ y)
exported-one numbers buffers owed owed' a b x y e p q =
    (p.answers ∙ ap numbers e ∙ sym q.answers, p.leaves ∙ ap buffers e ∙ sym q.leaves)

-- ---- Fresh: of a buffer that is only written no more than the length bears on what is owed. The lookups are lent nothing to write.

pub read-fresh : (text image image' : List ℕ) → length image ≡ length image' → R.read text (length image) ≡ R.read text (length image')
read-fresh text image image' s = ap (R.read text) s

pub open-fresh : (image store store' kept kept' : List ℕ) → length store ≡ length store' → length kept ≡ length kept' → L.open' image (length store) (length kept) ≡ L.open' image (length store') (length kept')
open-fresh image store store' kept kept' s k = ap₂ (λ (m n : ℕ). L.open' image m n) s k

pub cycle-fresh : (image store kept stimulus scratch scratch' : List ℕ) → length scratch ≡ length scratch' → L.cycle image store kept stimulus (length scratch) ≡ L.cycle image store kept stimulus (length scratch')
cycle-fresh image store kept stimulus scratch scratch' s = ap (L.cycle image store kept stimulus) s

pub run-fresh : (image store kept stimuli : List ℕ) (count : ℕ) (scratch scratch' trace trace' : List ℕ) → length scratch ≡ length scratch' → length trace ≡ length trace'
    → L.run image store kept stimuli count (length scratch) (length trace) ≡ L.run image store kept stimuli count (length scratch') (length trace')
run-fresh image store kept stimuli count scratch scratch' trace trace' s t = ap₂ (λ (m n : ℕ). L.run image store kept stimuli count m n) s t

-- ---- How each contract shows it: the answer as numbers, and every buffer lent to be written.

abbrev pub ReadShown : {C : Type 0} (numbers : R.ReadAnswer → C) → R.ReadCall → C → List (List ℕ) → Type 0
ReadShown numbers owed = Exported (λ c. numbers c.answer) (λ c. c.image ∷ []) owed

abbrev pub OpenShown : {C : Type 0} (numbers : L.OpenAnswer → C) → L.OpenCall → C → List (List ℕ) → Type 0
OpenShown numbers owed = Exported (λ c. numbers c.answer) (λ c. c.store ∷ c.record' ∷ []) owed

abbrev pub CycleShown : {C : Type 0} (numbers : L.CycleAnswer → C) → L.CycleCall → C → List (List ℕ) → Type 0
CycleShown numbers owed = Exported (λ c. numbers c.answer) (λ c. c.store ∷ c.record' ∷ c.scratch ∷ []) owed

abbrev pub RunShown : {C : Type 0} (numbers : L.RunAnswer → C) → L.RunCall → C → List (List ℕ) → Type 0
RunShown numbers owed = Exported (λ c. numbers c.answer) (λ c. c.store ∷ c.record' ∷ c.scratch ∷ c.trace ∷ []) owed

abbrev pub NameShown : {C : Type 0} (numbers : Lk.NameAnswer → C) → Lk.NameAnswer → C → List (List ℕ) → Type 0
NameShown numbers owed = Exported numbers (λ c. []) owed

abbrev pub FacilityShown : {C : Type 0} (numbers : Lk.FacilityAnswer → C) → Lk.FacilityAnswer → C → List (List ℕ) → Type 0
FacilityShown numbers owed = Exported numbers (λ c. []) owed
