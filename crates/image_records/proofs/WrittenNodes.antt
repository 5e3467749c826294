-- The bytes that an expression's record is written with.
use mathlib.Core.List.{List}
use mathlib.Core.Path.{◌≡◌, refl, sym}
use Prim.Native.Nat.{ℕ, ◌+◌, ◌-◌, ◌*◌, ◌%◌, ◌^◌}
use native.Mathlib.Nat.{add-mul-mod_self_right, mod-mod}
use lib.ListN.{get_or, length}
use Rattle.language.specs.Decode.{number_at}
use Rattle.language.specs.Description as D
use Rattle.language.specs.Description.{digit_length, further_digits}
use Rattle.language.specs.Encode.{digit_record, little, node_bytes, node_size}
use Rattle.language.specs.Value.{value}
use Rattle.image_records.proofs.DigitLaws.{before-digits}
use Rattle.image_records.specs.Nodes.{constant_number}

pub constant-fields : {x : ℕ} (l v : ℕ) → x ≡ (l - 1) % 256 → digit_record 1 x (v % 2 ^ 48) ≡ node_bytes (D.constant (value l v))
unfolding node_bytes digit_length
constant-fields l v e = rw (e, mod-mod (l - 1) 256)

-- Of a constant's number only the low bits are in its own record.
pub constant-low : (n : ℕ) (s : List ℕ) → number_at 6 (node_size * n + 2) s % 2 ^ 48 ≡ constant_number n s % 2 ^ 48
unfolding constant_number
constant-low n s =
    rw (before-digits (further_digits (get_or s (node_size * n + 1) 0 + 1)) n s) (sym (add-mul-mod_self_right _ _ (2 ^ 48)))

pub node-length : (x : D.Node) → length (node_bytes x) ≡ 8
unfolding node_bytes little digit_length
node-length (D.constant v) = refl
node-length (D.more n) = refl
node-length (D.whole f) = refl
node-length (D.one f e) = refl
node-length (D.part f b) = refl
node-length (D.two f e g) = refl
node-length (D.word_part f e b) = refl
node-length (D.binary k a b) = refl
node-length (D.prefix k a) = refl
node-length (D.cut k a c) = refl
node-length (D.first_arm e) = refl
node-length (D.next_arm a e) = refl
node-length (D.choice e a n) = refl
node-length D.Node.broken = refl
