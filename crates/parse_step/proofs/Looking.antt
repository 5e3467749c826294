-- What the look-ahead is: a word in front of those behind it, or the end of the text.
use mathlib.Core.Bool.{true, true≢false}
use mathlib.Core.List.{List, [], ◌∷◌, map}
use mathlib.Core.Path.{◌≡◌, refl, sym, ap, ◌∙◌, subst}
use Prim.Native.Nat.{ℕ, ◌+◌, ◌≤◌}
use native.Mathlib.Omega.{arith}
use lib.ListN.{drop, length, take}
use Rattle.about_grammar.specs.Accepting.{Proper}
use Rattle.about_grammar.specs.Following.{among}
use Rattle.about_grammar.specs.ProperWords.{from-proper}
use Rattle.language.specs.Characters.{folded}
use Rattle.language.specs.Kinds.{a_constant, a_name}
use Rattle.language.specs.Scan.{written}
use Rattle.language.specs.Words as L
use Rattle.language.specs.Words.{position}
use Rattle.language.specs.WordStage.{words_from}
use Rattle.value_operators.specs.Meaning.{valued}
use Rattle.text_words.specs.declared.WordKind.{WordKind}
use Rattle.text_words.specs.declared.WordKind.TheVariants as K
use Rattle.text_words.specs.declared.Word.{Word}
use Rattle.text_words.specs.Meaning.{Next, following, in_front, is_end, positioned}
use Rattle.parse_step.specs.Course.{Seen, ahead, behind, kind_no}
use Rattle.parse_step.specs.Taken.{constant_word}

-- The next word, from where the last one ends.
pub next-ahead : {text : List ℕ} {n : Word} (w : Word) (end : ℕ) → end ≡ w.at.place + w.size → Next text end n → ahead text n ≡ behind text w
unfolding ahead behind
next-ahead w end e x = x.words ∙ rw e

pub next-seen : {text : List ℕ} {n : Word} (end : ℕ) → Next text end n → Seen text n
next-seen end x = record { from = end; next = x }

-- ---- What stands there.

pub data View (text : List ℕ) (w : Word) : Type 0 where
  ended : ahead text w ≡ [] → position (length text) ≡ positioned w.at → kind_no w.kind ≡ 0 → View text w
  begun : (v : L.Word) → ahead text w ≡ v ∷ behind text w → L.kind_of v ≡ kind_no w.kind → L.word_at v ≡ positioned w.at → View text w

pub view : (text : List ℕ) (w : Word) → Seen text w → View text w
unfolding ahead behind
view text w z = go w.kind refl
  where
    place_end : is_end w.kind ≡ true → position (length text) ≡ positioned w.at
    place_end e = ap position (sym (z.next.last e))

    front : (k : WordKind) → w.kind ≡ k → ahead text w
        ≡ in_front (map folded (take w.size (drop w.at.place text))) (written w.bare (valued w.value)) (positioned w.at) (behind text w) k
    front k e = ap (in_front (map folded (take w.size (drop w.at.place text))) (written w.bare (valued w.value)) (positioned w.at) (behind text w)) e

    go : (k : WordKind) → w.kind ≡ k → View text w
    go K.End e = ended (front K.End e) (place_end (ap is_end e)) (ap kind_no e)
    go K.Name e = begun _ (front K.Name e) (sym (ap kind_no e)) refl
    go K.Constant e = begun _ (front K.Constant e) (sym (ap kind_no e)) refl
    go (K.Sign k) e = begun _ (front (K.Sign k) e) (sym (ap kind_no e)) refl

-- ---- A word of a kind.

-- A name as the language's word.
abbrev pub name_word : List ℕ → Word → L.Word
name_word text w = L.name (map folded (take w.size (drop w.at.place text))) (positioned w.at)

pub sign-ahead : (text : List ℕ) (w : Word) (k : ℕ) → kind_no w.kind ≡ k → 3 ≤ k → ahead text w ≡ L.sign k (positioned w.at) ∷ behind text w
unfolding ahead behind
sign-ahead text w k e h = go w.kind refl
  where
    go : (q : WordKind) → w.kind ≡ q → ahead text w ≡ L.sign k (positioned w.at) ∷ behind text w
    go K.End d = absurd (let z : ◌≡◌ {A = ℕ} 0 k = sym (ap kind_no d) ∙ e in omega arith)
    go K.Name d = absurd (let z : ◌≡◌ {A = ℕ} a_name k = sym (ap kind_no d) ∙ e in omega arith)
    go K.Constant d = absurd (let z : ◌≡◌ {A = ℕ} a_constant k = sym (ap kind_no d) ∙ e in omega arith)
    go (K.Sign j) d = let z : j ≡ k = sym (ap kind_no d) ∙ e in rw (d, z)

-- No sign of a text has the kind of a name or a constant.
proper : (text : List ℕ) (w : Word) → Seen text w → Proper (following text w)
unfolding words_from
proper text w z = subst Proper (sym z.next.words) (from-proper (length (drop z.from text)) z.from (drop z.from text))

pub name-ahead : (text : List ℕ) (w : Word) → Seen text w → kind_no w.kind ≡ a_name → ahead text w ≡ name_word text w ∷ behind text w
unfolding ahead behind among
name-ahead text w z e = go w.kind refl (proper text w z)
  where
    go : (q : WordKind) → w.kind ≡ q
        → Proper (in_front (map folded (take w.size (drop w.at.place text))) (written w.bare (valued w.value)) (positioned w.at) (behind text w) q)
        → ahead text w ≡ name_word text w ∷ behind text w
    go K.End d p = absurd (let x : ◌≡◌ {A = ℕ} 0 a_name = sym (ap kind_no d) ∙ e in omega arith)
    go K.Name d p = rw d
    go K.Constant d p = absurd (let x : ◌≡◌ {A = ℕ} a_constant a_name = sym (ap kind_no d) ∙ e in omega arith)
    go (K.Sign j) d p = let x : j ≡ a_name = sym (ap kind_no d) ∙ e in absurd (true≢false (rw x at p.0))

pub constant-ahead : (text : List ℕ) (w : Word) → Seen text w → kind_no w.kind ≡ a_constant → ahead text w ≡ constant_word w ∷ behind text w
unfolding ahead behind among
constant-ahead text w z e = go w.kind refl (proper text w z)
  where
    go : (q : WordKind) → w.kind ≡ q
        → Proper (in_front (map folded (take w.size (drop w.at.place text))) (written w.bare (valued w.value)) (positioned w.at) (behind text w) q)
        → ahead text w ≡ constant_word w ∷ behind text w
    go K.End d p = absurd (let x : ◌≡◌ {A = ℕ} 0 a_constant = sym (ap kind_no d) ∙ e in omega arith)
    go K.Name d p = absurd (let x : ◌≡◌ {A = ℕ} a_name a_constant = sym (ap kind_no d) ∙ e in omega arith)
    go K.Constant d p = rw d
    go (K.Sign j) d p = let x : j ≡ a_constant = sym (ap kind_no d) ∙ e in absurd (true≢false (rw x at p.0))
