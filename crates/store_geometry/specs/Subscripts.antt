-- What the code's forms of references mean in the language.
use Rattle.language.specs.References as R
use Rattle.store_geometry.specs.Shapes.{bounds_meant}
use Rattle.store_geometry.specs.declared.subscripts.Subscripts.{Subscripts}
use Rattle.store_geometry.specs.declared.subscripts.Subscripts.TheVariants as S

abbrev pub subscripts_meant : Subscripts → R.Subscripts
subscripts_meant S.Whole = R.whole
subscripts_meant (S.One e) = R.one e
subscripts_meant (S.Part b) = R.part (bounds_meant b)
subscripts_meant (S.Two e g) = R.two e g
subscripts_meant (S.WordPart e b) = R.word_part e (bounds_meant b)
