-- Spare bits: a word takes whole bytes, and the bits above its own are zero (01, "Image, store, record").
use Rattle.std.specs.Prelude.{Bool, cond, false, List, ℕ, ◌+◌, ◌*◌, leb, drop, length}
use Rattle.language.specs.Layout.{word_bytes}
use Rattle.language.specs.Store.{all_narrow, words_from}

-- The w words of l bits from `at` on lie among the bytes, and none has a spare bit.
unfoldable pub narrow_at : List ℕ → ℕ → ℕ → ℕ → Bool
narrow_at B at w l = cond (leb (at + w * word_bytes l) (length B)) (all_narrow l (words_from w l (drop at B))) false
