-- A text is walked item by item: what is found from a place on.
use mathlib.Core.Bool.{true, false, false≢true}
use mathlib.Core.List.{List, [], ◌∷◌, map}
use mathlib.Core.Option.{none, some}
use mathlib.Core.Path.{◌≡◌, ◌∙◌, ap, sym, refl, subst}
use Prim.Native.Nat.{ℕ, zero, suc, ◌+◌, ◌-◌, ◌<◌, ◌≤◌}
use native.Mathlib.Omega.{arith}
use lib.ListN.{length, drop, take, length-drop, drop_of_length-le}
use lib.Seq.{drop-drop, drop-length}
use borrow.Author.Rules.{part_to_end}
use Rattle.language.specs.Characters.{folded}
use Rattle.language.specs.Scan as L
use Rattle.language.specs.Scan.{Found, item_at, written}
use Rattle.language.specs.Words.{Constant, Fault, fault, position}
use Rattle.language.specs.WordStage.{Scanned, least, noted, scan, scan_from, words_from}
use Rattle.text_items.specs.declared.Item.{Item}
use Rattle.text_items.specs.declared.ItemKind as S
use Rattle.text_items.specs.declared.ItemKind.TheVariants as I
use Rattle.text_items.specs.Meaning.{item_of, item_start, meant, plain_item}
use Rattle.value_operators.specs.Meaning.{valued}
use Rattle.text_words.specs.Meaning.{Next, following, in_front, is_end, kind_fault, word_item, word_kind}
use Rattle.text_words.proofs.Least.{From, first-least, from_less}
use Rattle.text_words.proofs.Sizes.{Sized, item-sized, start-sized}

-- ---- The count of items is no more than a bound.

scan-none : (k at : ℕ) → scan_from k at [] ≡ record { words = []; faults = [] }
unfolding scan_from
scan-none zero at = refl
scan-none (suc k) at = refl

scan-enough : (j k at : ℕ) (s : List ℕ) → length s ≤ j → length s ≤ k → scan_from j at s ≡ scan_from k at s
unfolding scan_from
scan-enough zero k at [] h l = sym (scan-none k at)
scan-enough (suc j) k at [] h l = sym (scan-none k at)
scan-enough zero k at (b ∷ s) h l = absurd (omega arith)
scan-enough (suc j) zero at (b ∷ s) h l = absurd (omega arith)
scan-enough (suc j) (suc k) at (b ∷ s) h l =
    let n = (item_at b s).size in
    let z : length (drop n (b ∷ s)) ≤ length s = omega (arith, length-drop n (b ∷ s), (item-sized b s).some) in
    ap (noted (position at) (item_at b s).item) (scan-enough j k (at + n) (drop n (b ∷ s)) (omega arith) (omega arith))

-- What is found in a text from a place on.
abbrev pub scanned : List ℕ → ℕ → Scanned
scanned text at = scan_from (length (drop at text)) at (drop at text)

first-item : (at : ℕ) (s : List ℕ) → 0 < length s
    → scan_from (length s) at s
    ≡ (let f = item_start s in noted (position at) f.item (scan_from (length (drop f.size s)) (at + f.size) (drop f.size s)))
unfolding scan_from item_start
first-item at [] h = absurd (omega arith)
first-item at (b ∷ s) h =
    let n = (item_at b s).size in
    ap (noted (position at) (item_at b s).item)
    (scan-enough (length s) (length (drop n (b ∷ s))) (at + n) (drop n (b ∷ s)) (omega (arith, length-drop n (b ∷ s), (item-sized b s).some)) (omega arith))

-- ---- The faults found stand at that place or later.

noted-from : (at : ℕ) (i : L.Item) (r : Scanned) → From (suc at) (least r.faults) → From at (least (noted (position at) i r).faults)
noted-from at L.gap r h = from_less at (suc at) (least r.faults) (omega arith) h
noted-from at (L.named n) r h = from_less at (suc at) (least r.faults) (omega arith) h
noted-from at (L.constant c) r h = from_less at (suc at) (least r.faults) (omega arith) h
noted-from at (L.sign k) r h = from_less at (suc at) (least r.faults) (omega arith) h
noted-from at (L.wrong n) r h = subst (From at) (sym (first-least (fault (position at) n) r.faults h)) (omega arith)

scan-from : (k at : ℕ) (s : List ℕ) → From at (least (scan_from k at s).faults)
unfolding scan_from least
scan-from zero at s = tt
scan-from (suc k) at [] = tt
scan-from (suc k) at (b ∷ s) =
    let n = (item_at b s).size in
    let r = scan_from k (at + n) (drop n (b ∷ s)) in
    noted-from at (item_at b s).item r (from_less (suc at) (at + n) (least r.faults) (omega (arith, (item-sized b s).some)) (scan-from k (at + n) (drop n (b ∷ s))))

-- ---- One item of the code.

never : {f : Fault} → none ≡ some f → ⊥
never e = let z : ◌≡◌ {A = ℕ} 0 1 = cc in omega arith

words-end : (text : List ℕ) (at : ℕ) → length text ≤ at → [] ≡ words_from at (drop at text)
unfolding words_from
words-end text at h = sym (ap (λ (s : List ℕ). (scan_from (length s) at s).words) (drop_of_length-le text h) ∙ ap (λ (r : Scanned). r.words) (scan-none 0 at))

-- No word is left.
pub word_end : (text : List ℕ) (from at : ℕ) → length text ≤ at → words_from from (drop from text) ≡ words_from at (drop at text)
    → Next text from (word_item (plain_item I.Gap 0) (length text))
unfolding item_start
word_end text from at h p = record {
  words = words-end text at h ∙ sym p;
  size = sym (ap (λ (s : List ℕ). (item_start s).size) (drop-length text));
  within = omega arith;
  forward = λ r. absurd (false≢true (sym r));
  last = λ r. refl;
}

pub faults-end : (text : List ℕ) (at : ℕ) → length text ≤ at → none ≡ least (scanned text at).faults
unfolding least
faults-end text at h =
    sym
    (ap (λ (s : List ℕ). least (scan_from (length s) at s).faults) (drop_of_length-le text h) ∙ ap (λ (r : Scanned). least r.faults) (scan-none 0 at))

pub faults-all : (text : List ℕ) → least (scan text).faults ≡ least (scanned text 0).faults
unfolding scan
faults-all text = refl

module _ (text : List ℕ) (at : ℕ) (i : Item) (h : at < length text)
    (e : meant (take (length text - at) (drop at text)) i ≡ item_start (take (length text - at) (drop at text))) where
  here : meant (drop at text) i ≡ item_start (drop at text)
  here = subst (λ (s : List ℕ). meant s i ≡ item_start s) (part_to_end text at) e

  left : 0 < length (drop at text)
  left = omega (arith, length-drop at text)

  sized : Sized (length (drop at text)) (meant (drop at text) i)
  sized = subst (Sized (length (drop at text))) (sym here) (start-sized (drop at text) left)

  pub item-some : 0 < i.size
  item-some = sized.some

  pub item-fits : at + i.size ≤ length text
  item-fits = omega (arith, sized.within, length-drop at text)

  abbrev letters : List ℕ
  letters = map folded (take i.size (drop at text))

  abbrev constant : Constant
  constant = written i.bare (valued i.value)

  abbrev rest : Scanned
  rest = scanned text (at + i.size)

  walked : scanned text at ≡ noted (position at) (item_of letters constant i.kind) rest
  walked =
      first-item at (drop at text) left
      ∙ ap (λ (f : Found). noted (position at) f.item (scan_from (length (drop f.size (drop at text))) (at + f.size) (drop f.size (drop at text)))) (sym here)
      ∙ ap (λ (s : List ℕ). noted (position at) (item_of letters constant i.kind) (scan_from (length s) (at + i.size) s)) (drop-drop i.size at text)

  here-words : is_end (word_kind i.kind) ≡ false → following text (word_item i at) ≡ words_from at (drop at text)
  unfolding words_from
  here-words q = go i.kind q ∙ sym (ap (λ (r : Scanned). r.words) walked)
    where
      go : (k : S.ItemKind) → is_end (word_kind k) ≡ false → in_front letters constant (position at) rest.words (word_kind k) ≡ (noted (position at) (item_of letters constant k) rest).words
      go I.Gap q = absurd (false≢true (sym q))
      go I.Name q = refl
      go I.Constant q = refl
      go (I.Sign k) q = refl
      go (I.Wrong n) q = absurd (false≢true (sym q))

  pub word-here : (from : ℕ) → from ≤ at → words_from from (drop from text) ≡ words_from at (drop at text) → is_end (word_kind i.kind) ≡ false → Next text from (word_item i at)
  word-here from l p q = record {
    words = here-words q ∙ sym p;
    size = ap (λ (f : Found). f.size) here;
    within = item-fits;
    forward = λ r. (l, item-some);
    last = λ r. absurd (false≢true (sym q ∙ r));
  }

  pub word_next : is_end (word_kind i.kind) ≡ true → words_from at (drop at text) ≡ words_from (at + i.size) (drop (at + i.size) text)
  unfolding words_from
  word_next q = ap (λ (r : Scanned). r.words) walked ∙ go i.kind q
    where
      go : (k : S.ItemKind) → is_end (word_kind k) ≡ true → (noted (position at) (item_of letters constant k) rest).words ≡ rest.words
      go I.Gap q = refl
      go I.Name q = absurd (false≢true q)
      go I.Constant q = absurd (false≢true q)
      go (I.Sign k) q = absurd (false≢true q)
      go (I.Wrong n) q = refl

  later : From (suc at) (least rest.faults)
  later =
      from_less (suc at) (at + i.size) (least rest.faults) (omega (arith, item-some))
      (scan-from (length (drop (at + i.size) text)) (at + i.size) (drop (at + i.size) text))

  pub fault-here : (f : Fault) → kind_fault i.kind at ≡ some f → some f ≡ least (scanned text at).faults
  fault-here f q = go i.kind q ∙ sym (ap (λ (r : Scanned). least r.faults) walked)
    where
      go : (k : S.ItemKind) → kind_fault k at ≡ some f → some f ≡ least (noted (position at) (item_of letters constant k) rest).faults
      go I.Gap q = absurd (never q)
      go I.Name q = absurd (never q)
      go I.Constant q = absurd (never q)
      go (I.Sign k) q = absurd (never q)
      go (I.Wrong n) q = sym q ∙ sym (first-least (fault (position at) n) rest.faults later)

  pub fault-next : kind_fault i.kind at ≡ none → least (scanned text at).faults ≡ least (scanned text (at + i.size)).faults
  fault-next q = ap (λ (r : Scanned). least r.faults) walked ∙ go i.kind q
    where
      go : (k : S.ItemKind) → kind_fault k at ≡ none → least (noted (position at) (item_of letters constant k) rest).faults ≡ least rest.faults
      go I.Gap q = refl
      go I.Name q = refl
      go I.Constant q = refl
      go (I.Sign k) q = refl
      go (I.Wrong n) q = absurd (never (sym q))
