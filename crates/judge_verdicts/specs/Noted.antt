-- A verdict on a record of expressions in one number: from the top 16 bits for the record's number, one that says whether it is a reference, four for the number of a refusal or 0, and 43 for the place of a fault, or for a length, arms and work.
use Rattle.std.specs.Prelude.{Bool, cond, List, ◌≡◌, ℕ, ◌+◌, ◌*◌, ◌/◌, ◌%◌, ◌^◌, ◌≤◌, ◌<◌, eqb, get_or, length, Ok, Err}
use Rattle.language.specs.Decode.{pick}
use Rattle.judge_verdicts.specs.Meaning.{Verdict, numbered}

-- Where such numbers begin, behind two for each facility.
abbrev pub noted_from : ℕ
noted_from = 512

unfoldable pub record_in : ℕ → ℕ
record_in e = e / 2 ^ 43 / 32

unfoldable pub is_reference : ℕ → Bool
is_reference e = eqb (e / 2 ^ 43 / 16 % 2) 1

unfoldable pub verdict_in : ℕ → Verdict
verdict_in e =
    pick (eqb (e / 2 ^ 43 % 16) 0)
    (Ok (record { length = e % 2 ^ 43 / 2 ^ 17 / 2 ^ 17; arms = e % 2 ^ 43 / 2 ^ 17 % 2 ^ 17; work = e % 2 ^ 43 % 2 ^ 17 }))
    (Err (record { at = record { place = e % 2 ^ 43 }; refusal = numbered (e / 2 ^ 43 % 16) }))

-- A record's number, whether it is a reference, a mark and a value in one number.
unfoldable pub joined : ℕ → Bool → ℕ → ℕ → ℕ
joined n reference mark value = (32 * n + cond reference 16 0 + mark) * 2 ^ 43 + value

-- The number e stands among those noted, and is that of record n.
abbrev pub NotedAt : List ℕ → ℕ → ℕ → Type 0
NotedAt memo n e = (r : ℕ) × (noted_from ≤ r) × (r < length memo) × (e ≡ get_or memo r 0) × (record_in e ≡ n)

-- What a number notes.
pub record Notes (e n : ℕ) (reference : Bool) (v : Verdict) : Type 0 where
  pub of : record_in e ≡ n
  pub refers : is_reference e ≡ reference
  pub verdict : verdict_in e ≡ v
