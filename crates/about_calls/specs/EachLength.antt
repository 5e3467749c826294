-- What is said of each record that a run can work out (proofs/EachLength.antt): its one length.
use Rattle.std.specs.Prelude.{◌≡◌, ℕ, ◌≤◌}
use Rattle.language.specs.Description.{Description}
use Rattle.language.specs.Meaning.{Stores, eval_at}
use Rattle.about_running.specs.Gives.{Gives}
use Rattle.about_rules.specs.ActionsRight.{Has}
use Rattle.about_rules.specs.HasLength.{most_bits}
use Rattle.about_calls.specs.OnStores.{Loads}

-- A record with one length, from 1 to 256, which it keeps on every store, whatever that holds.
pub record OneLength (d : Description) (n : ℕ) : Type 1 where
  pub bits : ℕ
  pub long : Has d n bits
  pub only : (m : ℕ) → Has d n m → m ≡ bits
  pub some-bit : 1 ≤ bits
  pub most : bits ≤ most_bits
  pub kept : {X : Type 0} (S : Stores X) (x : X) → Loads S x → Gives bits (eval_at S d x n)
