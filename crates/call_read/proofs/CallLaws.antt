-- The stages of reading, one behind the other.
use mathlib.Core.List.{List}
use mathlib.Core.Option.{Option}
use mathlib.Core.Path.{◌≡◌, refl, sym, ap, ◌∙◌}
use Prim.Native.Nat.{ℕ, ◌≤◌}
use lib.ListN.{length}
use Rattle.call_read.specs.Outcomes.{Described, Parses}
use Rattle.about_grammar.proofs.Exact.{exact-text}
use Rattle.language.specs.Building.{Built}
use Rattle.language.specs.DescribeText.{describe}
use Rattle.language.specs.Encode.{image_of}
use Rattle.language.specs.Grammar.{Is}
use Rattle.language.specs.Machine.{Parsed}
use Rattle.language.specs.Ceilings.{deepest}
use Rattle.language.specs.Notions as N
use Rattle.language.specs.Notions.{whole_text}
use Rattle.language.specs.Reading.{ReadCall, after_grammar, after_words, or_legal, read, read_call, read_refused, rest_of, with_room}
use Rattle.language.specs.Rules.{faults}
use Rattle.language.specs.SectionWays.{parse}
use Rattle.language.specs.Tree.{Text}
use Rattle.language.specs.Words as L
use Rattle.language.specs.WordStage.{least, scan}
use Rattle.judge_records.specs.Noted.{noted_description, places_in}
use Rattle.text_words.proofs.Stages.{none-short, read_first}
use Rattle.text_words.specs.declared.Fault.{Fault}
use Rattle.std.specs.Prelude.{Result, Ok, Err}
use Rattle.text_words.specs.Meaning.{first_fault, judged}
use Rattle.parse_held.proofs.StandingLaws.{image-stands}
use Rattle.parse_held.proofs.TextsStand.{names-room, text-judged}
use Rattle.parse_step.specs.declared.Unread.{Unread}
use Rattle.parse_held.specs.declared.Holding.{Holding}
use Rattle.parse_held.specs.Sections.{Few, beside_held, most_letters, names_held, sections_held}
use Rattle.parse_step.specs.declared.Unread.TheVariants.{Refused}
use Rattle.std.specs.Prelude.{Err, Result}

-- ---- The rest of the rules.

-- What judging says of the array.
abbrev Judges : List ℕ → List ℕ → Holding → Result (Unit {0}) Fault → Type 0
Judges text work c j = Few c → length (names_held text work c) ≤ most_letters → judged j ≡ least (faults (noted_description (sections_held text work c) (beside_held work c)) (places_in (beside_held work c)))

module _ {text work : List ℕ} {c : Holding} (p : Parses text work c) (short : length text ≤ 32768) where
  abbrev t : Text
  t = p.built.text

  derived : Is whole_text deepest (scan text).words (N.text t)
  derived = ((exact-text text (length text) t).1 (p.built, p.course, refl)).0

  rest-judged : (j : Result (Unit {0}) Fault) → Judges text work c j → rest_of (describe t) ≡ or_legal (describe t).description (judged j)
  unfolding rest_of
  rest-judged j h =
      ap (or_legal (describe t).description)
      (sym (h p.whole.few (names-room text work c t short derived p.whole.few p.whole.stands) ∙ text-judged text work c t short derived p.whole.few p.whole.stands p.whole.beside))

  pub rest-written : (n : ℕ) {j : Result (Unit {0}) Fault} {y : ReadCall} → Judges text work c j → j ≡ Ok tt
      → (Few c → y ≡ with_room n (image_of (sections_held text work c))) → y ≡ read_call n (rest_of (describe t))
  rest-written n {j} h e b =
      b p.whole.few ∙ ap (with_room n) (image-stands p.whole.stands)
      ∙ ap (λ (o : Option L.Fault). read_call n (or_legal (describe t).description o)) (sym (ap judged e)) ∙ ap (read_call n) (sym (rest-judged j h))

  pub rest-refused : (n : ℕ) {j : Result (Unit {0}) Fault} {f : Fault} {y : ReadCall} → Judges text work c j → j ≡ Err f → y ≡ read_refused n f.refusal f.at.place
      → y ≡ read_call n (rest_of (describe t))
  rest-refused n {j} h e a =
      a ∙ ap (λ (o : Option L.Fault). read_call n (or_legal (describe t).description o)) (sym (ap judged e)) ∙ ap (read_call n) (sym (rest-judged j h))

-- ---- The grammar.

abbrev parsing : List ℕ → Parsed Built
parsing text = parse (scan text).words (length text)

pub grammar-refused : (n : ℕ) {text work : List ℕ} {r : Result Holding Unread} {f : Fault} {y : ReadCall} → Described text work r → r ≡ Err (Refused f) → y ≡ read_refused n f.refusal f.at.place
    → y ≡ read_call n (after_grammar (parsing text))
grammar-refused n {f = f} d e a = a ∙ ap (λ (x : Parsed Built). read_call n (after_grammar x)) (sym (d.refused f e))

pub grammar-done : (n : ℕ) {text work : List ℕ} {c : Holding} {y : ReadCall} (p : Parses text work c) → y ≡ read_call n (rest_of (describe p.built.text)) → y ≡ read_call n (after_grammar (parsing text))
grammar-done n p a = a ∙ ap (λ (x : Parsed Built). read_call n (after_grammar x)) (sym p.course)

-- ---- The words, and the length.

pub words-refused : (text : List ℕ) (n : ℕ) {j : Result (Unit {0}) Fault} {f : Fault} {y : ReadCall} → judged j ≡ first_fault text → j ≡ Err f
    → y ≡ read_refused n f.refusal f.at.place → y ≡ read text n
unfolding read
words-refused text n h e a = a ∙ ap (λ (o : Option L.Fault). read_call n (after_words text o)) (sym (ap judged e) ∙ h) ∙ ap (read_call n) (read_first text)

pub words-passed : (text : List ℕ) (n : ℕ) {j : Result (Unit {0}) Fault} {y : ReadCall} → judged j ≡ first_fault text → j ≡ Ok tt
    → y ≡ read_call n (after_grammar (parsing text)) → y ≡ read text n
unfolding read
words-passed text n h e a = a ∙ ap (λ (o : Option L.Fault). read_call n (after_words text o)) (sym (ap judged e) ∙ h) ∙ ap (read_call n) (read_first text)

pub passed-short : (text : List ℕ) {j : Result (Unit {0}) Fault} → judged j ≡ first_fault text → j ≡ Ok tt → length text ≤ 32768
passed-short text h e = none-short text (sym h ∙ ap judged e)
