-- What an item of the code means in the language: a name's letters are the capitals of its part of the text.
use Rattle.std.specs.Prelude.{Bool, false, List, [], ◌∷◌, Option, None, Some, map, ℕ, take}
use Rattle.language.specs.Characters.{folded}
use Rattle.language.specs.declared.refusals.Refusal.TheVariants.{BadConstant}
use Rattle.language.specs.Scan as L
use Rattle.language.specs.Scan.{Found, found, gap, item_at, written}
use Rattle.language.specs.Words.{Constant}
use Rattle.value_operators.specs.declared.Value.{Value}
use Rattle.value_operators.specs.Meaning.{valued}
use Rattle.text_items.specs.declared.Item.{Item}
use Rattle.text_items.specs.declared.ItemKind.{ItemKind}
use Rattle.text_items.specs.declared.ItemKind.TheVariants as K

-- An item of a kind, where it may be a name of these letters or that constant.
abbrev pub item_of : List ℕ → Constant → ItemKind → L.Item
item_of n v K.Gap = gap
item_of n v K.Name = L.named n
item_of n v K.Constant = L.constant v
item_of n v (K.Sign k) = L.sign k
item_of n v (K.Wrong w) = L.wrong w

-- The item that stands at the start of s.
abbrev pub meant : List ℕ → Item → Found
meant s r = found (item_of (map folded (take r.size s)) (written r.bare (valued r.value)) r.kind) r.size

-- What stands as the value where there is none.
abbrev pub blank : Value
blank = record { limbs = 0 ∷ 0 ∷ 0 ∷ 0 ∷ []; length = 0 }

-- An item without a value.
abbrev pub plain_item : ItemKind → ℕ → Item
plain_item k n = record { kind = k; size = n; bare = false; value = blank }

-- A constant, or what is wrong where no value was made.
abbrev pub made_item : Option Value → Bool → ℕ → Item
made_item (Some v) b n = record { kind = K.Constant; size = n; bare = b; value = v }
made_item None b n = record { kind = K.Wrong BadConstant; size = n; bare = b; value = blank }

-- The item at the start of a text, and an empty gap where it ends.
unfoldable pub item_start : List ℕ → Found
item_start [] = found gap 0
item_start (b ∷ s) = item_at b s
