-- Where records in order end, one step after the other.
use Rattle.std.specs.Prelude.{cond, List, ℕ, zero, suc, ◌+◌, eqb}
use Rattle.std.proofs.Math.Option.{Option, none, some}
use Rattle.language.specs.Description.{Description, Run}
use Rattle.language.specs.Order.{ending, trees_end}

-- An edge as a number: one more than that of the record, and 0 for none.
abbrev pub edge : ℕ → Option ℕ
edge zero = none
edge (suc n) = some n

-- Trees one after the other from an edge on.
unfoldable pub after : Description → Option ℕ → List ℕ → Option ℕ
after d e rs = ending e (λ n. trees_end d n rs)

-- A run that begins at an edge.
abbrev pub run_end : Option ℕ → Run → Option ℕ
run_end e r = ending e (λ n. cond (eqb r.first n) (some (n + r.count)) none)
