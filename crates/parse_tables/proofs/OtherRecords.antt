-- Actions, operations and states in their tables.
use mathlib.Core.List.{List}
use mathlib.Core.Option.{Option}
use mathlib.Core.Path.{◌≡◌, refl, ◌∙◌}
use Prim.Native.Nat.{ℕ, ◌%◌}
use native.Mathlib.Omega.{arith}
use lib.ListN.{length, length-replicate, replicate}
use Rattle.language.specs.Description.{Action, Run}
use Rattle.language.specs.Description as D
use Rattle.language.specs.Encode.{little, operation_record, state_record, two}
use Rattle.language.specs.Tree.{Name}
use Rattle.language.specs.Words as L
use Rattle.judge_records.specs.Noted.{place_bytes, plain_places}
use Rattle.text_words.specs.declared.Position.{Position}
use Rattle.text_words.specs.Meaning.{positioned}
use Rattle.parse_array.specs.declared.nodes.Beside.{Beside}
use Rattle.parse_array.specs.Held.{fields}
use Rattle.parse_tables.proofs.TwoBytes.{three-apart}

-- ---- Places.

pub place-length : (n : ℕ) (p : L.Position) → length (place_bytes n p) ≡ 2
unfolding place_bytes little
place-length n p = refl

pub place-said : (p : Position) (b : Beside) → fields b ≡ plain_places (D.node_places (positioned p)) → two b.at ≡ place_bytes 0 (positioned p)
unfolding place_bytes
place-said p b e = (three-apart b.at b.first b.last _ _ _ e).0

-- ---- Operations.

same_operation : (n m : Name) (b : Run) → length n % 256 ≡ length m % 256 → operation_record (record { name = n; body = b }) ≡ operation_record (record { name = m; body = b })
unfolding operation_record
same_operation n m b e = rw e

-- A name of a size, where only the size matters.
blank : ℕ → Name
blank n = replicate n 0

blank-length : (n : ℕ) → length (blank n) ≡ n
unfolding blank
blank-length n = length-replicate n 0

pub operation-said : (size : ℕ) (b : Run) {r : List ℕ} → ((n : Name) → length n ≡ size % 256 → r ≡ operation_record (record { name = n; body = b }))
    → (name : Name) → length name ≡ size → r ≡ operation_record (record { name = name; body = b })
operation-said size b g name l =
    g (blank (size % 256)) (blank-length (size % 256)) ∙ same_operation (blank (size % 256)) name b (omega (arith, blank-length (size % 256), l))

-- ---- States.

same-state : (n m : Name) (v : Option ℕ) (b : Run) → length n % 256 ≡ length m % 256 → state_record (record { name = n; value = v; actions = b }) ≡ state_record (record { name = m; value = v; actions = b })
unfolding state_record
same-state n m v b e = rw e

pub state-said : (size : ℕ) (v : Option ℕ) (b : Run) {r : List ℕ} → ((n : Name) → length n ≡ size % 256 → r ≡ state_record (record { name = n; value = v; actions = b }))
    → (name : Name) → length name ≡ size → r ≡ state_record (record { name = name; value = v; actions = b })
state-said size v b g name l =
    g (blank (size % 256)) (blank-length (size % 256)) ∙ same-state (blank (size % 256)) name v b (omega (arith, blank-length (size % 256), l))
