-- What record n of the actions is, and the length of its bytes.
use mathlib.Core.List.{List}
use mathlib.Core.Path.{◌≡◌, refl}
use Prim.Native.Nat.{ℕ, ◌+◌, ◌*◌, ◌/◌, ◌<◌, ◌≤◌}
use native.Mathlib.Omega.{arith}
use borrow.Author.Tests.{le-leb, lt-leb}
use lib.ListN.{length, get_or}
use Rattle.language.specs.Decode.{action_of, action_with, number_at}
use Rattle.language.specs.Description as D
use Rattle.language.specs.Encode.{action_bytes, action_size, little}

module _ (s : List ℕ) (n : ℕ) where
  pub action-past : length s / action_size ≤ n → action_of s n ≡ D.Action.broken
  unfolding action_of
  action-past h = let g : length s < action_size * n + action_size = omega arith in rw (lt-leb _ _ g)

  pub action-whole : n < length s / action_size
      → action_of s n ≡ action_with (get_or s (action_size * n) 0) (number_at 2 (action_size * n + 1) s) (number_at 2 (action_size * n + 3) s) (number_at 2 (action_size * n + 5) s)
  unfolding action_of
  action-whole h = let g : action_size * n + action_size ≤ length s = omega arith in rw (le-leb _ _ g)

pub action-length : (x : D.Action) → length (action_bytes x) ≡ 7
unfolding action_bytes little
action-length (D.store k l r) = refl
action-length (D.store_pair k l m r) = refl
action-length (D.set l) = refl
action-length (D.perform o) = refl
action-length (D.goto s) = refl
action-length (D.call s) = refl
action-length D.return = refl
action-length (D.when c x) = refl
action-length (D.choose c n x) = refl
action-length (D.arm x) = refl
action-length D.Action.broken = refl
