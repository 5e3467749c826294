-- Declarations that were written are read back; and a whole record of an operation or a state has the bytes that writing gives it.
use mathlib.Core.Bool.{Bool, true, false, cond}
use mathlib.Core.List.{List}
use mathlib.Core.Option.{Option, none, some}
use mathlib.Core.Path.{◌≡◌, refl, sym, ap, ap₂, ◌∙◌}
use Prim.Native.Nat.{ℕ, suc, ◌+◌, ◌*◌, ◌/◌, ◌%◌, ◌<◌}
use native.Mathlib.Nat.{mod-eq_of_lt}
use native.Mathlib.Omega.{arith}
use borrow.Author.Tests.{eqb-true, ne_eqb}
use lib.Dec.{eqb}
use lib.ListN.{drop, get_or, length, take}
use Rattle.language.specs.Decode.{kind_of, number_at, pick, run_at, value_of}
use Rattle.language.specs.Description.{Facility, Operation, Run, State, bounds, is_computed}
use Rattle.language.specs.Encode.{facility_record, facility_size, kind_number, little, operation_record, operation_size, state_record, state_size, value_field}
use Rattle.language.specs.Tree as T
use Rattle.language.specs.Tree.{Name}
use Rattle.image_records.proofs.ByteLaws.{placed-in, placed-length}
use Rattle.image_records.proofs.FieldLaws.{action-fields, next-byte, two-halves}
use Rattle.image_records.proofs.NodeBack.{Half, half_back}
use Rattle.image_records.specs.Placed.{placed}
use Rattle.image_sections.proofs.DeclarationLaws.{facility-fields, facility-whole, operation-whole, state-whole}
use Rattle.image_sections.proofs.WrittenDeclarations.{facility-length, operation-length, state-length}
use Rattle.image_sections.specs.Declarations.{facility_in, operation_in, state_in}

-- These bytes stand in t from `at` on.
abbrev Stand : List ℕ → ℕ → List ℕ → Type 0
Stand t at bs = (i : ℕ) → i < length bs → get_or t (at + i) 0 ≡ get_or bs i 0

-- A number of two bytes, k bytes behind a place.
two_back : (t : List ℕ) (at k a : ℕ) → Half a → get_or t (at + k) 0 ≡ a % 256 → get_or t (at + suc k) 0 ≡ a / 256 % 256 → number_at 2 (at + k) t ≡ a
two_back t at k a h p q = let e : at + k + 1 ≡ at + suc k = omega arith in half_back t (at + k) a h p (rw e q)

-- ---- Facilities.

kind-back : (k : T.Kind) → kind_of (kind_number k) ≡ k
unfolding kind_of
kind-back T.register = refl
kind-back T.sequencing = refl
kind-back T.memory = refl
kind-back T.plain = refl
kind-back T.input = refl
kind-back T.computed = refl

-- Fields that fit their bytes; only a computed terminal has an expression.
pub record FacilityFits (f : Facility) : Type 0 where
  pub dimensions : f.dimensions < 256
  pub words : Half f.words.first × Half f.words.last
  pub bits : Half f.bits.first × Half f.bits.last
  pub expression : Half f.expression
  pub plain : is_computed f.kind ≡ false → f.expression ≡ 0

module _ (t : List ℕ) (n place : ℕ) (f : Facility) (h : n < length t / facility_size) (g : FacilityFits f) (s : Stand t (facility_size * n) (facility_record place f)) where
  expression-back : (b : Bool) → is_computed f.kind ≡ b → cond b (number_at 2 (facility_size * n + 11) t) 0 ≡ f.expression
  unfolding facility_record little
  expression-back true e =
      let p : get_or t (facility_size * n + 11) 0 ≡ f.expression % 256 = s 11 (omega arith) ∙ rw e in
      let q : get_or t (facility_size * n + 12) 0 ≡ f.expression / 256 % 256 = s 12 (omega arith) ∙ rw e in
      two_back t (facility_size * n) 11 f.expression g.expression p q
  expression-back false e = sym (g.plain e)

  pub facility-back : facility_in t n f.name ≡ f
  unfolding facility_record little
  facility-back =
      let e0 : facility_size * n + 0 ≡ facility_size * n = omega arith in
      let e5 : facility_size * n + 3 + 2 ≡ facility_size * n + 5 = omega arith in
      let e9 : facility_size * n + 7 + 2 ≡ facility_size * n + 9 = omega arith in
      let m : get_or t (facility_size * n) 0 ≡ kind_number f.kind = rw e0 at (s 0 (omega arith)) in
      let k : f.kind ≡ kind_of (get_or t (facility_size * n) 0) = rw m (sym (kind-back f.kind)) in
      let d : f.dimensions ≡ get_or t (facility_size * n + 1) 0 = sym (s 1 (omega arith) ∙ mod-eq_of_lt g.dimensions) in
      let w0 : number_at 2 (facility_size * n + 3) t ≡ f.words.first = two_back t (facility_size * n) 3 f.words.first g.words.0 (s 3 (omega arith)) (s 4 (omega arith)) in
      let w1 : number_at 2 (facility_size * n + 5) t ≡ f.words.last = two_back t (facility_size * n) 5 f.words.last g.words.1 (s 5 (omega arith)) (s 6 (omega arith)) in
      let b0 : number_at 2 (facility_size * n + 7) t ≡ f.bits.first = two_back t (facility_size * n) 7 f.bits.first g.bits.0 (s 7 (omega arith)) (s 8 (omega arith)) in
      let b1 : number_at 2 (facility_size * n + 9) t ≡ f.bits.last = two_back t (facility_size * n) 9 f.bits.last g.bits.1 (s 9 (omega arith)) (s 10 (omega arith)) in
      facility-whole t n f.name h
      ∙ sym (facility-fields t n f.name k d (rw e5 (ap₂ bounds (sym w0) (sym w1))) (rw e9 (ap₂ bounds (sym b0) (sym b1))) refl)
      ∙ ap (λ (x : ℕ). record { name = f.name; kind = f.kind; dimensions = f.dimensions; words = f.words; bits = f.bits; expression = x }) (expression-back (is_computed f.kind) refl)

-- ---- Operations and states.

run-back : (t : List ℕ) (at k : ℕ) (r : Run) → Half r.first → Half r.count
    → get_or t (at + k) 0 ≡ r.first % 256 → get_or t (at + suc k) 0 ≡ r.first / 256 % 256
    → get_or t (at + suc (suc k)) 0 ≡ r.count % 256 → get_or t (at + suc (suc (suc k))) 0 ≡ r.count / 256 % 256
    → run_at (at + k) t ≡ r
run-back t at k r hf hc p q u v =
    let e : at + k + 2 ≡ at + suc (suc k) = omega arith in
    let f : number_at 2 (at + k) t ≡ r.first = two_back t at k r.first hf p q in
    let c : number_at 2 (at + k + 2) t ≡ r.count = rw e (two_back t at (suc (suc k)) r.count hc u v) in
    ap₂ (λ (a b : ℕ). record { first = a; count = b }) f c

pub operation-back : (t : List ℕ) (n : ℕ) (o : Operation) → n < length t / operation_size → Half o.body.first → Half o.body.count
    → Stand t (operation_size * n) (operation_record o) → operation_in t n o.name ≡ o
unfolding operation_record little
operation-back t n o h hf hc s =
    operation-whole t n o.name h
    ∙ ap (λ (r : Run). record { name = o.name; body = r })
    (run-back t (operation_size * n) 1 o.body hf hc (s 1 (omega arith)) (s 2 (omega arith)) (s 3 (omega arith)) (s 4 (omega arith)))

-- A value's number is below 65,535, which says that there is none.
abbrev pub ValueFits : Option ℕ → Type 0
ValueFits none = Unit {0}
ValueFits (some n) = n < 65535

value-back : (v : Option ℕ) → ValueFits v → value_of (value_field v) ≡ v
value-back none h = refl
value-back (some n) h = rw (ne_eqb n 65535 (λ e. omega arith))

field-value : (n : ℕ) → value_field (value_of n) ≡ n
field-value n = by-test (eqb n 65535) refl
  where
    by-test : (b : Bool) → eqb n 65535 ≡ b → value_field (pick b none (some n)) ≡ n
    by-test true t = sym (eqb-true n 65535 t)
    by-test false t = refl

field-half : (v : Option ℕ) → ValueFits v → Half (value_field v)
field-half none h = omega arith
field-half (some n) h = omega arith

pub state-back : (t : List ℕ) (n : ℕ) (x : State) → n < length t / state_size → ValueFits x.value → Half x.actions.first → Half x.actions.count
    → Stand t (state_size * n) (state_record x) → state_in t n x.name ≡ x
unfolding state_record little
state-back t n x h hv hf hc s =
    let v : number_at 2 (state_size * n + 1) t ≡ value_field x.value = two_back t (state_size * n) 1 (value_field x.value) (field-half x.value hv) (s 1 (omega arith)) (s 2 (omega arith)) in
    let r : run_at (state_size * n + 3) t ≡ x.actions =
    run-back t (state_size * n) 3 x.actions hf hc (s 3 (omega arith)) (s 4 (omega arith)) (s 5 (omega arith)) (s 6 (omega arith)) in
    state-whole t n x.name h
    ∙ ap₂ (λ (a : Option ℕ) (b : Run). record { name = x.name; value = a; actions = b }) (ap value_of v ∙ value-back x.value hv) r

-- ---- Records that were written.

module _ (s : List ℕ) (n : ℕ) where
  pub facility-written : (place : ℕ) (f : Facility) → n < length s / facility_size → FacilityFits f
      → facility_in (placed s (facility_size * n) (facility_record place f)) n f.name ≡ f
  facility-written place f h g =
      let l = facility-length place f in
      facility-back (placed s (facility_size * n) (facility_record place f)) n place f (rw (placed-length s (facility_record place f) (facility_size * n)) h) g
      (placed-in s (facility_record place f) (facility_size * n) (omega arith))

  pub operation-written : (o : Operation) → n < length s / operation_size → Half o.body.first → Half o.body.count
      → operation_in (placed s (operation_size * n) (operation_record o)) n o.name ≡ o
  operation-written o h hf hc =
      let l = operation-length o in
      operation-back (placed s (operation_size * n) (operation_record o)) n o (rw (placed-length s (operation_record o) (operation_size * n)) h) hf hc
      (placed-in s (operation_record o) (operation_size * n) (omega arith))

  pub state-written : (x : State) → n < length s / state_size → ValueFits x.value → Half x.actions.first → Half x.actions.count
      → state_in (placed s (state_size * n) (state_record x)) n x.name ≡ x
  state-written x h hv hf hc =
      let l = state-length x in
      state-back (placed s (state_size * n) (state_record x)) n x (rw (placed-length s (state_record x) (state_size * n)) h) hv hf hc
      (placed-in s (state_record x) (state_size * n) (omega arith))

-- ---- A whole record of an operation or a state always has the bytes that writing gives it.

module _ (s : List ℕ) (bytes : (i : ℕ) → get_or s i 0 < 256) where
  pub operation-right : (n : ℕ) (name : Name) → n < length s / operation_size → length name ≡ get_or s (operation_size * n) 0
      → take operation_size (drop (operation_size * n) s) ≡ operation_record (operation_in s n name)
  unfolding operation_record
  operation-right n name h l =
      rw (operation-whole s n name h, l, mod-eq_of_lt (bytes (operation_size * n)), next-byte s bytes (operation_size * n) 4 (omega arith), two-halves s bytes (operation_size * n + 1) (omega arith))

  pub state-right : (n : ℕ) (name : Name) → n < length s / state_size → length name ≡ get_or s (state_size * n) 0
      → take state_size (drop (state_size * n) s) ≡ state_record (state_in s n name)
  unfolding state_record
  state-right n name h l =
      let e : state_size * n + 3 + 2 ≡ state_size * n + 5 = omega arith in
      rw (state-whole s n name h, l, mod-eq_of_lt (bytes (state_size * n)), field-value (number_at 2 (state_size * n + 1) s), e) (action-fields s bytes n h)
