-- What the bytes of a run are.
use Rattle.std.specs.Prelude.{Bool, ℕ}
use Rattle.language.specs.Scan.{in_comment, is_digit_of, is_name_part}
use Rattle.text_characters.specs.declared.runs.Stretch.{Stretch}
use Rattle.text_characters.specs.declared.runs.Stretch.TheVariants.{Name, Digits, Comment}

abbrev pub belonging : Stretch → ℕ → Bool
belonging Name = is_name_part
belonging (Digits base) = is_digit_of base
belonging Comment = in_comment
