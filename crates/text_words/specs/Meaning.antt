-- What the code's words, faults and judgements mean in the language.
use Rattle.std.specs.Prelude.{Bool, true, false, cond, List, [], ◌∷◌, map, ◌≡◌, ℕ, ◌+◌, ◌<◌, ◌≤◌, ltb, drop, length, take, Result, Ok, Err}
use Rattle.std.proofs.Math.Option.{Option, none, some}
use Rattle.language.specs.Characters.{folded}
use Rattle.language.specs.Ceilings.{longest_text}
use Rattle.language.specs.declared.refusals.Refusal.{Refusal}
use Rattle.language.specs.declared.refusals.Refusal.TheVariants.{TextTooLong}
use Rattle.language.specs.Scan.{written}
use Rattle.language.specs.Words as L
use Rattle.language.specs.Words.{fault, position}
use Rattle.language.specs.WordStage.{before, word_fault, words_from}
use Rattle.text_items.specs.declared.Item.{Item}
use Rattle.text_items.specs.declared.ItemKind as S
use Rattle.text_items.specs.declared.ItemKind.TheVariants as I
use Rattle.text_items.specs.Meaning.{item_start}
use Rattle.value_operators.specs.Meaning.{valued}
use Rattle.text_words.specs.declared.Fault.{Fault}
use Rattle.text_words.specs.declared.WordKind.{WordKind}
use Rattle.text_words.specs.declared.WordKind.TheVariants as K
use Rattle.text_words.specs.declared.Position.{Position}
use Rattle.text_words.specs.declared.Word.{Word}

abbrev pub positioned : Position → L.Position
positioned p = position p.place

-- ---- Words.

-- A word of a kind in front of others, where it may be a name of these letters or that constant.
abbrev pub in_front : List ℕ → L.Constant → L.Position → List L.Word → WordKind → List L.Word
in_front n v p ws K.End = []
in_front n v p ws K.Name = L.name n p ∷ ws
in_front n v p ws K.Constant = L.constant v p ∷ ws
in_front n v p ws (K.Sign k) = L.sign k p ∷ ws

-- A word of the text and all that follow it; none where it is the end.
abbrev pub following : List ℕ → Word → List L.Word
following text w =
    let p = w.at.place in
    in_front (map folded (take w.size (drop p text))) (written w.bare (valued w.value)) (positioned w.at)
    (words_from (p + w.size) (drop (p + w.size) text)) w.kind

abbrev pub is_end : WordKind → Bool
is_end K.End = true
is_end K.Name = false
is_end K.Constant = false
is_end (K.Sign k) = false

abbrev pub word_kind : S.ItemKind → WordKind
word_kind I.Gap = K.End
word_kind I.Name = K.Name
word_kind I.Constant = K.Constant
word_kind (I.Sign k) = K.Sign k
word_kind (I.Wrong r) = K.End

abbrev pub word_item : Item → ℕ → Word
word_item i p = record { kind = word_kind i.kind; at = record { place = p }; size = i.size; bare = i.bare; value = i.value }

-- The next word w from a place on.
pub record Next (text : List ℕ) (from : ℕ) (w : Word) : Type 0 where
  -- it and all that follow it are the words from there
  pub words : following text w ≡ words_from from (drop from text)
  -- it takes the bytes of the item that stands at its place
  pub size : w.size ≡ (item_start (drop w.at.place text)).size
  pub within : w.at.place + w.size ≤ length text
  pub forward : is_end w.kind ≡ false → (from ≤ w.at.place) × (0 < w.size)
  pub last : is_end w.kind ≡ true → w.at.place ≡ length text

-- ---- Faults.

abbrev pub faulted : Fault → L.Fault
faulted f = fault (positioned f.at) f.refusal

abbrev pub judged : Result (Unit {0}) Fault → Option L.Fault
judged (Ok u) = none
judged (Err f) = some (faulted f)

abbrev pub refused_at : ℕ → Refusal → Option L.Fault
refused_at p r = some (fault (position p) r)

abbrev pub kind_fault : S.ItemKind → ℕ → Option L.Fault
kind_fault I.Gap p = none
kind_fault I.Name p = none
kind_fault I.Constant p = none
kind_fault (I.Sign k) p = none
kind_fault (I.Wrong r) p = refused_at p r

-- The length of a text answers first, then its words.
abbrev pub first_fault : List ℕ → Option L.Fault
first_fault text = cond (ltb longest_text (length text)) (refused_at 0 TextTooLong) (word_fault text)

-- The smaller of two faults, where there are.
abbrev pub lesser : Option L.Fault → Option L.Fault → Option L.Fault
lesser none b = b
lesser (some a) none = some a
lesser (some a) (some b) = some (cond (before b a) b a)
