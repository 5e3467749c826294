-- EVERY LEGAL TREE IS THAT OF SOME BYTES, places apart: so what is said of trees and their words is said of texts, but for the ceilings on length and nesting. Assumes nothing.
use Rattle.std.specs.Prelude.{List, [], ◌∷◌, map, ◌≡◌, refl, ℕ, suc, ◌+◌, get_or}
use Rattle.std.proofs.Math.Option.{none}
use Rattle.std.proofs.Common.{sym, ap, subst, ◌∙◌, arith}
use Rattle.language.specs.CountedWords.{WithinCeilings}
use Rattle.language.specs.DescribeText.{describe}
use Rattle.language.specs.Grammar.{Is}
use Rattle.language.specs.Image as Image
use Rattle.language.specs.Notions as N
use Rattle.language.specs.Rules.{faults}
use Rattle.language.specs.Tree.{Text}
use Rattle.language.specs.WordStage.{scan, word_fault}
use Rattle.language.specs.Words as W
use Rattle.language.specs.Words.{Position, Word, word_at}
use Rattle.about_rules.specs.FaultsAlike.{faultless-anywhere}
use Rattle.about_texts.specs.Derivations.{here}
use Rattle.about_texts.specs.Moved.{at, moved-text}
use Rattle.about_texts.specs.SameDescription.{places-apart, within_same}
use Rattle.about_texts.specs.SignedWords.{signed}
use Rattle.about_texts.specs.WrittenWords.{unplaced, words-of-bytes}

-- Where the j-th of some words stands.
abbrev places_of : List Word → ℕ → Position
places_of vs j = word_at (get_or vs j (W.sign 0 here))

-- ---- Words that differ in places alone.

not_alike : {A : Type 0} → ◌≡◌ {A = ℕ} 0 1 → A
not_alike z = absurd (omega arith)

moved-head : (u v : Word) (p : Position) → unplaced u ≡ unplaced v → p ≡ word_at v → (us : List Word) (place : ℕ → Position) (i : ℕ) → place i ≡ p → at place i (u ∷ us) ≡ v ∷ at place (suc i) us
unfolding at
moved-head (W.name n q) (W.name m r) p e f us place i g = let z : n ≡ m = cc in rw (z, g, f) refl
moved-head (W.constant c q) (W.constant d r) p e f us place i g = let z : c ≡ d = cc in rw (z, g, f) refl
moved-head (W.sign k q) (W.sign l r) p e f us place i g = let z : k ≡ l = cc in rw (z, g, f) refl
moved-head (W.name n q) (W.constant d r) p e f us place i g = not_alike cc
moved-head (W.name n q) (W.sign l r) p e f us place i g = not_alike cc
moved-head (W.constant c q) (W.name m r) p e f us place i g = not_alike cc
moved-head (W.constant c q) (W.sign l r) p e f us place i g = not_alike cc
moved-head (W.sign k q) (W.name m r) p e f us place i g = not_alike cc
moved-head (W.sign k q) (W.constant d r) p e f us place i g = not_alike cc

at_same : (place : ℕ → Position) (i : ℕ) (us vs : List Word) → map unplaced us ≡ map unplaced vs → ((j : ℕ) → place (i + j) ≡ places_of vs j) → at place i us ≡ vs
unfolding at
at_same place i [] [] e h = refl
at_same place i [] (v ∷ vs) e h = not_alike cc
at_same place i (u ∷ us) [] e h = not_alike cc
at_same place i (u ∷ us) (v ∷ vs) e h =
    let a : unplaced u ≡ unplaced v = cc in
    let b : map unplaced us ≡ map unplaced vs = cc in
    let z : i + 0 ≡ i = omega arith in
    moved-head u v (word_at v) a refl us place i (rw z at (h 0))
    ∙ ap (λ (ws : List Word). v ∷ ws) (at_same place (suc i) us vs b (λ j. let y : suc i + j ≡ i + suc j = omega arith in rw y (h (suc j))))

-- ---- Texts.

-- Bytes with this tree that are legal, if texts and nesting had no ceiling.
pub record LegalBytes (s : List ℕ) (t : Text) : Type 0 where
  pub words-fine : word_fault s ≡ none
  pub nesting : ℕ
  pub derived : Is N.whole_text nesting (scan s).words (N.text t)
  pub within : WithinCeilings t
  pub faultless : faults (describe t).description (describe t).places ≡ []

-- Bytes for a tree: their own tree differs from it in places alone, and describes the same.
pub record InText (t : Text) : Type 0 where
  pub text : List ℕ
  pub tree : Text
  pub legal : LegalBytes text tree
  pub described : (describe tree).description ≡ (describe t).description

pub text_in-bytes : (t : Text) → Image.Legal t → InText t
text_in-bytes t L =
    let b = words-of-bytes L.words L.right (signed L.derived) in
    let place = places_of (scan b.text).words in
    let m = moved-text place 0 L.derived in
    let same : at place 0 L.words ≡ (scan b.text).words = at_same place 0 L.words (scan b.text).words (sym b.same-words) (λ j. let z : 0 + j ≡ j = omega arith in rw z refl) in
    let d : (describe m.tree).description ≡ (describe t).description = places-apart m.tree t m.same in
    record {
      text = b.text;
      tree = m.tree;
      legal = record {
        words-fine = b.words-fine;
        nesting = L.nesting;
        derived = subst (λ (ws : List Word). Is N.whole_text L.nesting ws (N.text m.tree)) same m.derived;
        within = within_same t m.tree (sym m.same) L.within;
        faultless = faultless-anywhere (describe m.tree).description (describe t).places (describe m.tree).places (rw d L.faultless);
      };
      described = d;
    }
