-- Answers by their cases.
use mathlib.Core.Bool.{true≢false}
use mathlib.Core.Path.{◌≡◌, ap, sym, ◌∙◌, subst}
use Prim.Native.Nat.{ℕ}
use native.Mathlib.Omega.{arith}
use Rattle.std.specs.Prelude.{Err, IsErr, IsErrAnd, Ok, Result, is_err}
use Rattle.std.proofs.lemmas.Result.{err_from_is_err_and}
use Rattle.text_words.specs.declared.Fault.{Fault}
use Rattle.parse_step.specs.declared.State.{State}
use Rattle.parse_step.specs.declared.Unread.{Unread}
use Rattle.parse_step.specs.declared.Unread.TheVariants.{Full, Refused}

pub ok_err : {A T : Type 0} {x : T} {e : Unread} → ◌≡◌ {A = Result T Unread} (Ok x) (Err e) → A
ok_err e = absurd (let z : ◌≡◌ {A = ℕ} 0 1 = ap kind e in omega arith)
  where
    kind : {T : Type 0} → Result T Unread → ℕ
    kind (Ok y) = 0
    kind (Err f) = 1

pub not_ok : {A T : Type 0} {r : Result T Unread} {x : T} → IsErr r → r ≡ Ok x → A
not_ok n e = absurd (true≢false (sym n ∙ ap is_err e))

-- What is said of an answer that is known.
read_of : {T : Type 0} → T → Result T Unread → T
read_of x (Ok y) = y
read_of x (Err e) = x

pub at_ok : {T : Type 0} (P : T → Type 0) {x y : T} → ◌≡◌ {A = Result T Unread} (Ok x) (Ok y) → P x → P y
unfolding read_of
at_ok P {x = x} e p = subst P (ap (read_of x) e) p

state_of : {T : Type 0} → State → Result T Unread → State
state_of s (Ok y) = s
state_of s (Err (Refused f)) = s
state_of s (Err (Full z)) = z

pub at_full : {T : Type 0} (P : State → Type 0) {s z : State} → ◌≡◌ {A = Result T Unread} (Err (Full s)) (Err (Full z)) → P s → P z
unfolding state_of
at_full P {s = s} e p = subst P (ap (state_of s) e) p

fault_of : {T : Type 0} → Fault → Result T Unread → Fault
fault_of f (Ok y) = f
fault_of f (Err (Refused g)) = g
fault_of f (Err (Full s)) = f

pub same-fault : {T : Type 0} {f g : Fault} → ◌≡◌ {A = Result T Unread} (Err (Refused f)) (Err (Refused g)) → f ≡ g
unfolding fault_of
same-fault {f = f} e = ap (fault_of f) e

pub refused_full : {A T : Type 0} {f : Fault} {s : State} → ◌≡◌ {A = Result T Unread} (Err (Refused f)) (Err (Full s)) → A
refused_full e = absurd (let z : ◌≡◌ {A = ℕ} 0 1 = ap kind e in omega arith)
  where
    kind : {T : Type 0} → Result T Unread → ℕ
    kind (Ok y) = 2
    kind (Err (Refused f)) = 0
    kind (Err (Full s)) = 1

-- The same refusal of an answer of another type.
unread_of : {T : Type 0} → Unread → Result T Unread → Unread
unread_of e (Ok y) = e
unread_of e (Err f) = f

pub err_as : {A B : Type 0} {e f : Unread} → ◌≡◌ {A = Result A Unread} (Err e) (Err f) → ◌≡◌ {A = Result B Unread} (Err e) (Err f)
unfolding unread_of
err_as {e = e} d = ap Err (ap (unread_of e) d)

-- What `?` hands on.
pub err-came : {T : Type 0} {r : Result T Unread} {e : Unread} → IsErrAnd r (λ x. x ≡ e) → r ≡ Err e
err-came {r = r} h = let p = err_from_is_err_and r h in rw (p.1, p.2)
