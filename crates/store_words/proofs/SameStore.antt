-- Loading and saving in bytes are loading and saving in words. Assumes nothing.
use mathlib.Core.Path.{◌≡◌, sym, ap, ◌∙◌, subst}
use mathlib.Core.Bool.{true}
use mathlib.Core.List.{List}
use Prim.Native.Nat.{ℕ, ◌+◌, ◌*◌, ◌/◌, ◌%◌, ◌^◌, ◌≤◌}
use native.Mathlib.Nat.{le_trans}
use native.Mathlib.Omega.{arith}
use lib.ListN.{get_or, length}
use Rattle.language.specs.Description.{Description, facility_at, no_facility, word_length}
use Rattle.language.specs.Layout.{store_size_of, word_bytes}
use Rattle.language.specs.Meaning.{Place}
use Rattle.language.specs.Store.{StoreWords, from_bytes, load_part, low_of, put_part, word_of}
use Rattle.language.specs.Value.{Value, replaced}
use Rattle.store_layout.specs.InBytes.{Stored, There, load_bytes, place_of_word, put_bytes}
use Rattle.store_layout.specs.Layout.{Bytes, word_in}
use Rattle.store_layout.specs.Parts.{inside, part_in, with_part}
use Rattle.store_layout.proofs.ByteOrder.{word_room}
use Rattle.store_words.proofs.PartLaws.{bytes-saved, inside_is, length-saved, loaded-inside, saved-inside, word-saved}
use Rattle.store_layout.proofs.StoreWords.{in-store, one_set, word-from, words-apart}
use Rattle.store_layout.proofs.Words.{word-apart}

module _ (d : Description) (B : List ℕ) (bytes : Bytes B) (room : store_size_of d.facilities ≤ length B) (p : Place) (here : There d p) where
  abbrev at : ℕ
  at = place_of_word d.facilities p.facility p.word

  abbrev l : ℕ
  l = word_length (facility_at d p.facility)

  abbrev store : StoreWords
  store = from_bytes d.facilities B

  fits : at + word_bytes l ≤ length B
  unfolding facility_at
  fits = le_trans (in-store d.facilities p.facility p.word here.word) room

  in-there : inside (length B) at l p.from p.count ≡ true
  in-there = inside_is (length B) _ _ p.from p.count fits here.part here.few

  whole : low_of d p + p.count ≤ 8 * word_bytes l
  whole = omega (arith, here.part, word_room l)

  word-is : word_of store p.facility p.word ≡ word_in B at l
  unfolding facility_at
  word-is = word-from d.facilities B p.facility p.word here.word

  pub load_same : load_bytes d B p ≡ load_part d store p
  unfolding load_bytes load_part part_in
  load_same =
      ap (λ (v : Value). v.number) (loaded-inside B at l p.from p.count in-there)
      ∙ ap (λ (x : ℕ). x / 2 ^ low_of d p % 2 ^ p.count) (sym word-is)

  module _ (v : ℕ) where
    abbrev new : List ℕ
    new = with_part B at l (low_of d p) p.count v

    abbrev x : ℕ
    x = replaced (word_of store p.facility p.word) (low_of d p) p.count v

    put_is : put_bytes d B (record { at = p; number = v }) ≡ new
    unfolding put_bytes
    put_is = saved-inside B at l p.from p.count v in-there

    pub length-put : length (put_bytes d B (record { at = p; number = v })) ≡ length B
    length-put = ap length put_is ∙ length-saved B _ _ fits bytes (low_of d p) p.count v

    pub bytes-put : Bytes (put_bytes d B (record { at = p; number = v }))
    bytes-put = subst Bytes (sym put_is) (bytes-saved B _ _ fits bytes (low_of d p) p.count v)

    new_word : word_of (from_bytes d.facilities new) p.facility p.word
        ≡ x
    unfolding facility_at
    new_word =
        word-from d.facilities _ p.facility p.word here.word ∙ word-saved B _ _ fits bytes (low_of d p) p.count v whole
        ∙ ap (λ (y : ℕ). replaced y (low_of d p) p.count v) (sym word-is)

    old-word : (g j : ℕ) → Stored d.facilities g j → (g ≡ p.facility → j ≡ p.word → ⊥)
        → word_of (from_bytes d.facilities new) g j
        ≡ word_of store g j
    unfolding facility_at with_part
    old-word g j s n =
        word-from d.facilities _ g j s
        ∙ word-apart B _ _ fits _ (place_of_word d.facilities g j) (word_length (get_or d.facilities g no_facility)) (words-apart d.facilities p.facility p.word g j here.word s n)
        ∙ sym (word-from d.facilities B g j s)

    pub save-same : from_bytes d.facilities (put_bytes d B (record { at = p; number = v })) ≡ put_part d store (record { at = p; number = v })
    unfolding put_part
    save-same = ap (from_bytes d.facilities) put_is ∙ one_set d.facilities new B p.facility p.word x here.word new_word old-word
