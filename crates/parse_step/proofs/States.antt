-- A state by its counts.
use mathlib.Core.Path.{◌≡◌, ap}
use Prim.Native.Nat.{ℕ}
use Rattle.parse_step.specs.declared.State.{State}
use Rattle.parse_step.specs.Course.{counts_of}
use Rattle.parse_step.specs.Taken.{Kept}
use Rattle.language.specs.Machine.{Counts}

-- A state with these counts, and otherwise as it was.
abbrev pub counted : Counts → State → State
counted c s = record { facilities = c.facilities; operations = c.operations; states = c.states; counted = c.counted; nesting = c.nesting; nodes = s.nodes; actions = s.actions; known = s.known }

same-fields : {a a' b b' c c' d d' e e' m m' i i' n n' : ℕ} → a ≡ a' → b ≡ b' → c ≡ c' → d ≡ d' → e ≡ e' → m ≡ m' → i ≡ i' → n ≡ n'
    → ◌≡◌ {A = State} (record { facilities = a; operations = b; states = c; counted = d; nesting = e; nodes = m; actions = i; known = n }) (record { facilities = a'; operations = b'; states = c'; counted = d'; nesting = e'; nodes = m'; actions = i'; known = n' })
same-fields p q r s t u v z = rw (p, q, r, s, t, u, v, z)

pub state-of : {s s' : State} {c : Counts} → counts_of s' ≡ c → Kept s s' → s' ≡ counted c s
state-of e k =
    same-fields (ap (λ (x : Counts). x.facilities) e) (ap (λ (x : Counts). x.operations) e) (ap (λ (x : Counts). x.states) e) (ap (λ (x : Counts). x.counted) e) (ap (λ (x : Counts). x.nesting) e) k.nodes k.actions k.known
