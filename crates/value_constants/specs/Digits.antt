-- The digits of a constant, taken one by one in 256 bits (the manual, 2.3).
use Rattle.std.specs.Prelude.{Bool, true, cond, ℕ, ◌+◌, ◌-◌, ◌*◌, ◌%◌, ◌^◌, min, leb}
use Rattle.language.specs.Value as L
use Rattle.language.specs.Constants.{left_justified, bare_length}
use Rattle.language.specs.Ceilings.{bare_largest}
use Rattle.value_limbs.specs.Limbs.{number}
use Rattle.value_constants.specs.declared.Decimal.{Decimal}
use Rattle.value_constants.specs.declared.Binary.{Binary}

-- ---- Decimal digits: their number modulo 2 to the 256, and whether it is as large as that.

pub record Held : Type 0 where
  pub low : ℕ
  pub passed : Bool

abbrev pub held : Decimal → Held
held x = record { low = number x.limbs; passed = x.passed }

-- What is held of the number n.
unfoldable pub holding : ℕ → Held
holding n = record { low = n % 2 ^ 256; passed = leb (2 ^ 256) n }

-- One digit more.
unfoldable pub decimal_more : Held → ℕ → Held
decimal_more h d = record {
  low = (h.low * 10 + d) % 2 ^ 256;
  passed = cond h.passed true (leb (2 ^ 256) (h.low * 10 + d));
}

-- The number where it is at most that of a bare constant, and one more than that for any larger one.
unfoldable pub counting : Held → ℕ
counting h = cond h.passed (bare_largest + 1) (min h.low (bare_largest + 1))

-- The bare constant, or none.
unfoldable pub bare : Held → L.Made
bare h = cond (leb (counting h) bare_largest) (L.fit bare_length (counting h)) L.none

-- ---- Digits of k bits: right-justified or left-justified in 256 bits, and how many bits were written, up to 256.

pub record Written : Type 0 where
  pub low : ℕ
  pub bits : ℕ

abbrev pub written : Binary → Written
written x = record { low = number x.limbs; bits = x.bits }

-- What is written of the number n of b bits, at the right and at the left.
unfoldable pub on_right : ℕ → ℕ → Written
on_right b n = record { low = n % 2 ^ 256; bits = min b 256 }

unfoldable pub on_left : ℕ → ℕ → Written
on_left b n = record { low = (left_justified 256 b n).number; bits = min b 256 }

-- One digit more, at the right of the others and in the room that they leave.
unfoldable pub right_more : Written → ℕ → ℕ → Written
right_more w k d = record { low = (w.low * 2 ^ k + d) % 2 ^ 256; bits = min (w.bits + k) 256 }

unfoldable pub left_more : Written → ℕ → ℕ → Written
left_more w k d = record {
  low = (w.low + (left_justified (256 - w.bits) k d).number) % 2 ^ 256;
  bits = min (w.bits + k) 256;
}
