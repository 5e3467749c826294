-- No buffer that holds the largest image (specs/ImageRoom.antt) is too short for the cycles of a legal text. Assumes nothing.
use Rattle.std.specs.Prelude.{List, ℕ, ◌≤◌}
use native.Mathlib.Omega.{arith}
use Rattle.language.specs.Tree.{Text}
use Rattle.about_reading.specs.ReadsExactly.{LegalText}
use Rattle.about_calls.specs.ImageRoom.{image-room, largest_image}
use Rattle.about_calls.specs.TextToCycles.{ItsCycles}
use Rattle.about_calls.proofs.TextToCycles.{text-to-cycles}

-- A buffer of that length is enough for every legal text.
pub always-room : (s : List ℕ) (t : Text) (room : ℕ) → LegalText s t → largest_image ≤ room → ItsCycles s t room
always-room s t n h l = (text-to-cycles s n).then-cycles t h (omega (arith, image-room s t h, l))
