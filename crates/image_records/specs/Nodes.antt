-- What the code's expression records mean in the language.
use Rattle.std.specs.Prelude.{List, ℕ, zero, suc, ◌+◌, ◌*◌, ◌%◌, ◌^◌, get_or}
use Rattle.language.specs.Decode.{digits_before, number_at}
use Rattle.language.specs.Description as D
use Rattle.language.specs.Description.{bounds, digit_length, further_digits}
use Rattle.language.specs.Encode.{node_size}
use Rattle.language.specs.Value.{Value, value}
use Rattle.image_records.specs.declared.nodes.Node.{Node}
use Rattle.image_records.specs.declared.nodes.Node.TheVariants as N

-- The number that the k records before record n have, the highest digit first.
unfoldable pub digits : ℕ → ℕ → List ℕ → ℕ
unfolding digit_length
digits zero n s = 0
digits (suc k) zero s = 0
digits (suc k) (suc n) s = digits k n s * 2 ^ digit_length + number_at 6 (node_size * n + 2) s

-- The number of the constant that ends at record n.
unfoldable pub constant_number : ℕ → List ℕ → ℕ
unfolding further_digits
constant_number n s = number_at 6 (node_size * n + 2) s + digits_before (further_digits (get_or s (node_size * n + 1) 0 + 1)) n s

-- A record; a constant's number is given beside it.
abbrev pub meant : ℕ → Node → D.Node
meant v (N.Constant l) = D.constant (value l v)
meant v (N.More d) = D.more d
meant v (N.Whole f) = D.whole f
meant v (N.One f e) = D.one f e
meant v (N.Part f a b) = D.part f (bounds a b)
meant v (N.Two f e g) = D.two f e g
meant v (N.WordPart f e a b) = D.word_part f e (bounds a b)
meant v (N.Binary k a b) = D.binary k a b
meant v (N.Prefix k a) = D.prefix k a
meant v (N.Cut k a c) = D.cut k a c
meant v (N.FirstArm e) = D.first_arm e
meant v (N.NextArm a e) = D.next_arm a e
meant v (N.Choice e a n) = D.choice e a n
meant v N.Broken = D.Node.broken

-- As much of a value as 256 bits hold: all of it, where its number fits its length.
unfoldable pub held : Value → Value
held v = value v.length (v.number % 2 ^ 256)
