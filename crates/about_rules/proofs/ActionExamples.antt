-- Actions that keep the sentences of 01, worked out record by record, and some that do not; and a whole description.
use Rattle.std.specs.Prelude.{Bool, true, false, [], ◌∷◌, ◌≡◌, refl, ℕ, length}
use Rattle.std.proofs.Math.Option.{none}
use Rattle.std.proofs.Common.{sym, ap, ◌∙◌, arith}
use Rattle.language.specs.ActionRules.{operation_below, run_judged}
use Rattle.language.specs.Computing.{computing}
use Rattle.language.specs.Description as D
use Rattle.language.specs.Description.{Description, Facility, action_at, bounds, facility_at, no_places, node_at, word_length}
use Rattle.language.specs.Judging.{Judged, faults_of}
use Rattle.language.specs.Kinds.{delayed_sign, equal_sign}
use Rattle.language.specs.Rules.{faults}
use Rattle.language.specs.Tree.{Kind, Name, plain, register}
use Rattle.language.specs.Value.{value}
use Rattle.about_rules.proofs.ActionsJudged.{acts-right}
use Rattle.about_rules.specs.ActionsRight as A
use Rattle.about_rules.specs.ActionsRight.{Has, LengthsRight, Right}
use Rattle.about_rules.specs.HasLength as H
use Rattle.about_rules.specs.HasLength.{Long, facility}
use Rattle.about_rules.proofs.LengthsWhole.{lengths-right, more, nothing}

-- ---- REGISTER A[1:4]. TERMINAL P.

abbrev declared : Name → Kind → ℕ → D.Bounds → Facility
declared a k n b = record { name = a; kind = k; dimensions = n; words = bounds 0 0; bits = b; expression = 0 }

abbrev pub acting : Description
acting = record {
  facilities = declared (65 ∷ []) register 1 (bounds 1 4) ∷ declared (80 ∷ []) plain 0 (bounds 0 0) ∷ [];
  operations = [];
  expressions = D.whole 0 ∷ D.constant (value 4 9) ∷ D.constant (value 16 3) ∷ D.whole 1 ∷ D.constant (value 5 17) ∷ [];
  actions =
      D.store delayed_sign 0 1
      ∷ D.store_pair equal_sign 0 3 4
      ∷ D.when 3 2
      ∷ D.arm 1
      ∷ D.set 3
      ∷ D.store delayed_sign 0 2
      ∷ D.store delayed_sign 3 3
      ∷ D.set 0
      ∷ D.when 0 2
      ∷ D.arm 1
      ∷ D.set 3
      ∷ [];
  states = [];
}

-- A has four bits, P one.
a-named : Long acting 2 facility 0 4
unfolding facility_at word_length
a-named = H.stored {known = 2} {f = 0} (omega arith) refl

p-named : Long acting 2 facility 1 1
unfolding facility_at word_length
p-named = H.stored {known = 2} {f = 1} (omega arith) refl

a_4 : Has acting 0 4
unfolding facility_at node_at
a_4 = H.whole {f = 0} refl (omega arith) a-named (omega arith)

p_1 : Has acting 3 1
unfolding facility_at node_at
p_1 = H.whole {f = 1} refl (omega arith) p-named (omega arith)

nine-4 : Has acting 1 4
unfolding node_at
nine-4 = H.constant {v = value 4 9} refl (omega arith) (omega arith)

seventeen-5 : Has acting 4 5
unfolding node_at
seventeen-5 = H.constant {v = value 5 17} refl (omega arith) (omega arith)

-- A <- 4D9; A CON P = 5D17; IF P THEN P@ ENDIF, in a state.
delayed : Right acting false 0 A.actions 0 1
unfolding action_at facility_at node_at
delayed = A.store {n = 0} {f = 0} refl (A.whole, a_4) nine-4 A.delayed-register A.end

pair : Right acting false 0 A.actions 1 1
unfolding action_at facility_at node_at
pair = A.store-pair {n = 0} {f = 0} {g = 1} refl (A.whole, a_4) (A.whole, p_1) seventeen-5 A.at-once-register A.at-once-plain A.end

set_p : Right acting true 0 A.actions 4 1
unfolding action_at facility_at node_at
set_p = A.set {n = 0} {f = 1} refl (A.whole, p_1) refl A.end

if-p : Right acting true 0 A.actions 2 3
unfolding action_at
if-p = A.when {n = 0} {m = 2} refl p_1 (A.arm {n = 0} {m = 1} {c = 0} refl (omega arith) set_p A.no-arms) A.end

-- ---- Lists that do not keep them: the n records from i on.

without : (s : Bool) (i n : ℕ) → length (faults_of (run_judged acting no_places s (operation_below acting no_places 0) (record { first = i; count = n }))) ≡ 1 → Right acting s 0 A.actions i n → ⊥
without s i n e h =
    let j = (acts-right acting no_places s 0 (record { first = i; count = n })).0 h in
    let z : ◌≡◌ {A = ℕ} 0 1 = sym (ap (λ (x : Judged). length (faults_of x)) j.1) ∙ e in
    omega arith

-- A <- 3, sixteen bits to four; a store in a state; P <- P, a delayed store to a terminal; A@, of four bits; IF A, of four bits.
no-sixteen : Right acting false 0 A.actions 5 1 → ⊥
unfolding computing
no-sixteen h = without false 5 1 refl h

no-store-in-state : Right acting true 0 A.actions 0 1 → ⊥
unfolding computing
no-store-in-state h = without true 0 1 refl h

no-delayed-terminal : Right acting false 0 A.actions 6 1 → ⊥
unfolding computing
no-delayed-terminal h = without false 6 1 refl h

no-set-a : Right acting true 0 A.actions 7 1 → ⊥
unfolding computing
no-set-a h = without true 7 1 refl h

no-if-a : Right acting true 0 A.actions 8 3 → ⊥
unfolding computing
no-if-a h = without true 8 3 refl h

-- ---- OPERATION X = [A <- r]. CONTROL P: X, ->P/ with 4D9 for r, and with 3: the one has no fault, the other refusal 7 alone.

abbrev whole : ℕ → Description
whole r = record {
  facilities = declared (65 ∷ []) register 1 (bounds 1 4) ∷ [];
  operations = record { name = 88 ∷ []; body = record { first = 0; count = 1 } } ∷ [];
  expressions = D.whole 0 ∷ D.constant (value 4 9) ∷ D.constant (value 16 3) ∷ [];
  actions = D.store delayed_sign 0 r ∷ D.perform 0 ∷ D.goto 0 ∷ [];
  states = record { name = 80 ∷ []; value = none; actions = record { first = 1; count = 2 } } ∷ [];
}

nine-right : LengthsRight (whole 1)
unfolding computing
nine-right = (lengths-right (whole 1) no_places nothing).0 refl

-- The state that performs X passes its fault on, so it stands there twice.
three-wrong : LengthsRight (whole 2) → ⊥
unfolding computing
three-wrong r =
    let z : length (faults (whole 2) no_places) ≡ 0 = ap length ((lengths-right (whole 2) no_places (more refl (more refl nothing))).1 r) in
    omega arith
