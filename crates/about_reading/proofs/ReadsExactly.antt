-- Reading accepts exactly the legal texts, each with the description of the one tree that it has; and a refusal is the least fault of the earliest stage that has one. Assumes nothing.
use Rattle.std.specs.Prelude.{Bool, true, false, cond, List, ◌≡◌, refl, ℕ, ◌≤◌, ltb, length}
use Rattle.std.proofs.Math.Option.{Option, none, some}
use Rattle.std.proofs.Common.{◌∙◌, subst, sym, arith, le-ltb, lt-ltb, ltb-false, ltb-true}
use Rattle.language.specs.Building.{Built}
use Rattle.language.specs.DescribeText.{describe}
use Rattle.language.specs.Description.{Description}
use Rattle.language.specs.Image as Image
use Rattle.language.specs.Machine.{Parsed, parsed, refused}
use Rattle.language.specs.Ceilings.{deepest, longest_text}
use Rattle.language.specs.Reading.{after_grammar, after_words, legal, or_legal, read_text, refused_at, rest_of}
use Rattle.language.specs.declared.refusals.Refusal.TheVariants.{TextTooLong}
use Rattle.language.specs.Rules.{faults}
use Rattle.language.specs.SectionWays.{parse}
use Rattle.language.specs.Tree.{Text}
use Rattle.language.specs.WordStage.{least, scan, word_fault, word_faults}
use Rattle.language.specs.Words.{Fault, fault, position}
use Rattle.about_grammar.specs.Complete.{unique}
use Rattle.about_grammar.proofs.Exact.{exact-text, refusal-of-text, refused-text}
use Rattle.about_rules.specs.RightWords.{words_right}
use Rattle.about_reading.specs.Least.{least-so, none-least, some-least}
use Rattle.about_reading.specs.ReadsExactly.{Accepted, LegalText, Refusal, of-grammar, of-rules, of_words, one}

-- A text has one tree at most.
pub one-tree : (s : List ℕ) (t u : Text) → LegalText s t → LegalText s u → t ≡ u
one-tree s t u x y = unique x.derived y.derived

-- ---- Legal texts are accepted.

pub accepts : (s : List ℕ) (t : Text) → LegalText s t → read_text s ≡ legal (describe t).description
unfolding read_text rest_of least
accepts s t x =
    let a = (exact-text s (length s) t).0 (x.derived, x.within) in
    rw (le-ltb longest_text (length s) x.short, x.words-fine, a.1, a.2, x.faultless) refl

-- ---- What is accepted is legal.

refused-legal : {A : Type 0} {f : Fault} {d : Description} → refused_at f ≡ legal d → A
refused-legal e = absurd (let z : ◌≡◌ {A = ℕ} 0 1 = cc in omega arith)

legal-refused : {A : Type 0} {f : Fault} {d : Description} → legal d ≡ refused_at f → A
legal-refused e = absurd (let z : ◌≡◌ {A = ℕ} 0 1 = cc in omega arith)

pub accepted : (s : List ℕ) (d : Description) → read_text s ≡ legal d → Accepted s d
unfolding read_text rest_of
accepted s d e = by_length (ltb longest_text (length s)) refl e
  where
    by-faults : (b : Built) → length s ≤ longest_text → word_fault s ≡ none → parse (scan s).words (length s) ≡ parsed b → (x : Option Fault) → least (faults (describe b.text).description (describe b.text).places) ≡ x
        → or_legal (describe b.text).description x ≡ legal d → Accepted s d
    by-faults b l w p none q k =
        let g = (exact-text s (length s) b.text).1 (b, p, refl) in
        record {
          tree = b.text;
          legal-text = record { short = l; words-fine = w; derived = g.0; within = g.1; faultless = none-least _ q };
          described = cc;
        }
    by-faults b l w p (some f) q k = refused-legal k

    by-grammar : length s ≤ longest_text → word_fault s ≡ none → (x : Parsed Built) → parse (scan s).words (length s) ≡ x → after_grammar x ≡ legal d → Accepted s d
    by-grammar l w (parsed b) q k = by-faults b l w q (least (faults (describe b.text).description (describe b.text).places)) refl k
    by-grammar l w (refused f) q k = refused-legal k

    by-words : length s ≤ longest_text → (x : Option Fault) → word_fault s ≡ x → after_words s x ≡ legal d → Accepted s d
    by-words l none q k = by-grammar l q (parse (scan s).words (length s)) refl k
    by-words l (some f) q k = refused-legal k

    by_length : (b : Bool) → ltb longest_text (length s) ≡ b → cond b (refused_at (fault (position 0) TextTooLong)) (after_words s (word_fault s)) ≡ legal d → Accepted s d
    by_length true q k = refused-legal k
    by_length false q k = by-words (ltb-false _ _ q) (word_fault s) refl k

-- ---- A refusal is the least fault of the earliest stage that has one.

pub refuses-least : (s : List ℕ) (f : Fault) → read_text s ≡ refused_at f → Refusal s f
unfolding read_text rest_of word_fault
refuses-least s f e = by_length (ltb longest_text (length s)) refl e
  where
    same-fault : {g : Fault} → refused_at g ≡ refused_at f → g ≡ f
    same-fault k = cc

    by-faults : (b : Built) → length s ≤ longest_text → least (word_faults s) ≡ none → parse (scan s).words (length s) ≡ parsed b → (x : Option Fault) → least (faults (describe b.text).description (describe b.text).places) ≡ x
        → or_legal (describe b.text).description x ≡ refused_at f → Refusal s f
    by-faults b l w p none q k = legal-refused k
    by-faults b l w p (some g) q k =
        let y = (exact-text s (length s) b.text).1 (b, p, refl) in
        subst (Refusal s) (same-fault k) (of-rules {t = b.text} l w y.0 y.1 (least-so _ g q))

    by-grammar : length s ≤ longest_text → least (word_faults s) ≡ none → (x : Parsed Built) → parse (scan s).words (length s) ≡ x → after_grammar x ≡ refused_at f → Refusal s f
    by-grammar l w (parsed b) q k = by-faults b l w q (least (faults (describe b.text).description (describe b.text).places)) refl k
    by-grammar l w (refused g) q k = subst (Refusal s) (same-fault k) (of-grammar l w (refusal-of-text s (length s) g q))

    by-words : length s ≤ longest_text → (x : Option Fault) → least (word_faults s) ≡ x → after_words s x ≡ refused_at f → Refusal s f
    by-words l none q k = by-grammar l q (parse (scan s).words (length s)) refl k
    by-words l (some g) q k = subst (Refusal s) (same-fault k) (of_words l (least-so (word_faults s) g q))

    by_length : (b : Bool) → ltb longest_text (length s) ≡ b → cond b (refused_at (fault (position 0) TextTooLong)) (after_words s (least (word_faults s))) ≡ refused_at f → Refusal s f
    by_length true q k = subst (Refusal s) (same-fault k) (one (ltb-true _ _ q))
    by_length false q k = by-words (ltb-false _ _ q) (least (word_faults s)) refl k

-- What is such a refusal is the one that reading answers with.
pub refuses-so : (s : List ℕ) (f : Fault) → Refusal s f → read_text s ≡ refused_at f
unfolding read_text rest_of word_fault
refuses-so s f (one l) = rw (lt-ltb longest_text (length s) l) refl
refuses-so s f (of_words l x) = rw (le-ltb longest_text (length s) l, some-least (word_faults s) f x) refl
refuses-so s f (of-grammar l w x) = rw (le-ltb longest_text (length s) l, w, refused-text s (length s) f x) refl
refuses-so s f (of-rules {t = t} l w x y z) =
    let a = (exact-text s (length s) t).0 (x, y) in
    rw (le-ltb longest_text (length s) l, w, a.1, a.2, some-least _ f z) refl

-- A text has one refusal at most.
pub refusal-one : (s : List ℕ) (f g : Fault) → Refusal s f → Refusal s g → f ≡ g
refusal-one s f g x y = same (sym (refuses-so s f x) ∙ refuses-so s g y)
  where
    same : refused_at f ≡ refused_at g → f ≡ g
    same e = cc

-- ---- What is accepted describes in legal form.

pub as-legal : (s : List ℕ) (t : Text) → LegalText s t → Image.Legal t
as-legal s t x = record { words = (scan s).words; nesting = deepest; right = words_right s; derived = x.derived; within = x.within; faultless = x.faultless }
