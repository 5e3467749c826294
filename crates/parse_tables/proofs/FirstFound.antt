-- The first of the names of a table that is a word, one after the other.
use mathlib.Core.Bool.{Bool, true, false, cond}
use mathlib.Core.List.{List, map}
use mathlib.Core.Option.{none, some}
use mathlib.Core.Path.{◌≡◌, sym, ◌∙◌}
use Prim.Native.Nat.{ℕ, suc, ◌+◌, ◌-◌, ◌<◌, ◌≤◌, min}
use native.Mathlib.Omega.{arith}
use Rattle.language.specs.Characters.{folded}
use Rattle.language.specs.Decode.{up_to}
use Rattle.language.specs.Naming.{number_of}
use Rattle.language.specs.Scan.{same}
use Rattle.language.specs.Tree.{Name}
use Rattle.parse_tables.specs.declared.Table.{Table}
use Rattle.parse_tables.specs.Names.{name_at, names_in, names_of}
use Rattle.parse_tables.specs.Rows.{most, rows}

module _ (text : List ℕ) (t : Table) (n : ℕ) (w : List ℕ) (name : Name) where
  abbrev held : ℕ
  held = min n (most t)

  -- The names from number k on.
  abbrev pub names_after : ℕ → List Name
  names_after k = up_to (name_at text (rows t held w)) k (held - k)

  -- What is found among them.
  abbrev pub Left : ℕ → Type 0
  Left k = number_of name 0 (names_in text t w n) ≡ number_of name k (names_after k)

  pub all_left : Left 0
  unfolding names_in names_of
  all_left = let d : held - 0 ≡ held = omega arith in rw d

  step : (k : ℕ) → k < held → number_of name k (names_after k) ≡ cond (same name (name_at text (rows t held w) k)) (some k) (number_of name (suc k) (names_after (suc k)))
  unfolding number_of up_to
  step k h = let e : held - k ≡ suc (held - suc k) = omega arith in rw e

  module _ (v u : List ℕ) {k : ℕ} {b : Bool} (inv : Left k) (d : name ≡ map folded v) (e : map folded u ≡ name_at text (rows t held w) k) (f : b ≡ same (map folded v) (map folded u)) (h : k < held) where
    tested : same name (name_at text (rows t held w) k) ≡ b
    tested = rw (d, ← e) (sym f)

    pub found_here : b ≡ true → some k ≡ number_of name 0 (names_in text t w n)
    found_here g = sym (inv ∙ step k h ∙ rw (tested, g))

    pub not-here : b ≡ false → Left (k + 1)
    not-here g = inv ∙ step k h ∙ rw (tested, g) (let q : k + 1 ≡ suc k = omega arith in rw q)

  pub none_left : (k : ℕ) → Left k → held ≤ k → none ≡ number_of name 0 (names_in text t w n)
  unfolding number_of up_to
  none_left k inv h = sym (inv ∙ let e : held - k ≡ 0 = omega arith in rw e)
