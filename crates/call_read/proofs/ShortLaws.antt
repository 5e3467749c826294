-- What reading answers has 32 bits: a refusal stands at a word or at the end of a text of at most 32,768 bytes, and an image has no more records than the array has room for.
use mathlib.Core.Bool.{Bool, true, false, cond}
use mathlib.Core.List.{List, [], ◌∷◌, ◌++◌, map}
use mathlib.Core.Option.{Option, none, some}
use mathlib.Core.Path.{◌≡◌, refl, sym, subst, ap, ◌∙◌}
use native.Mathlib.Omega.{arith}
use Prim.Native.Nat.{ℕ, zero, suc, ◌+◌, ◌*◌, ◌/◌, ◌^◌, ◌<◌, ◌≤◌}
use borrow.Author.Tests.{ltb-false}
use lib.Dec.{leb, ltb}
use lib.ListN.{get_or, length, length-take}
use Rattle.call_read.specs.Outcomes.{Parses}
use Rattle.about_grammar.proofs.Exact.{exact-text}
use Rattle.language.specs.Building.{Built}
use Rattle.language.specs.Decode.{pick, up_to}
use Rattle.language.specs.DescribeText.{describe}
use Rattle.language.specs.Description as D
use Rattle.language.specs.Description.{Description, action_place, facility_place, node_place, state_place}
use Rattle.language.specs.Encode.{Sections, encode, node_size}
use Rattle.language.specs.Grammar.{Is}
use Rattle.language.specs.Machine.{Parsed, refused}
use Rattle.language.specs.Ceilings.{deepest, longest_text}
use Rattle.language.specs.Notions as N
use Rattle.language.specs.Notions.{whole_text}
use Rattle.language.specs.Reading.{accepted, after_grammar, after_words, filled, or_legal, read, read_call, read_refused, read_text, refused_at, rest_of}
use Rattle.language.specs.declared.refusals.Refusal.TheVariants.{BufferTooShort, TextTooLong}
use Rattle.language.specs.Rules.{faults}
use Rattle.language.specs.SectionWays.{parse}
use Rattle.language.specs.Tree.{Text}
use Rattle.language.specs.Words as L
use Rattle.language.specs.Words.{Position}
use Rattle.language.specs.WordStage.{least, scan, word_fault}
use Rattle.judge_records.proofs.NotedLaws.{up_to_pick}
use Rattle.judge_records.specs.Noted.{Beside, facility_places_no, node_places_no, noted_description, place_no, places_in, state_places_no}
use Rattle.about_reading.specs.ExpressionsStand.{AllHere, EachHere, FacilityHere, NodeHere}
use Rattle.about_reading.specs.FaultsStand.{all-stand}
use Rattle.about_reading.specs.GrammarStands.{grammar-here}
use Rattle.about_reading.specs.WordsStand.{Before, least-here, word-fault-before, words-before}
use Rattle.parse_tables.specs.declared.Table.TheVariants as T
use Rattle.parse_array.specs.Held.{held}
use Rattle.text_words.proofs.Stages.{short_none}
use Rattle.text_words.specs.declared.Fault.{Fault}
use Rattle.std.specs.Prelude.{Result, Err}
use Rattle.text_words.specs.Meaning.{first_fault, judged}
use Rattle.parse_held.proofs.BodyLaws.{row-most}
use Rattle.parse_held.proofs.StandingLaws.{sections-stand}
use Rattle.parse_held.proofs.TextsStand.{names-room, text-judged}
use Rattle.parse_held.specs.declared.Holding.{Holding}
use Rattle.parse_held.specs.Sections.{beside_held, sections_held}
use Rattle.about_images.specs.Whole.{encode-long, sized}
use Rattle.call_answers.specs.Reading.{Short}

-- ---- Places beside records have fifteen bits.

abbrev Near : Position → Type 0
Near = Before (2 ^ 32)

place-near : (s : List ℕ) (k : ℕ) → Near (place_no s k)
unfolding place_no
place-near s k = omega arith

at_up : {A : Type 0} (P : A → Type 0) (f : ℕ → A) (z : A) → ((n : ℕ) → P (f n)) → P z → (k n : ℕ) → P (get_or (up_to f 0 k) n z)
at_up P f z all other k n = subst P (sym (up_to_pick f z 0 k n)) (go (ltb n k))
  where
    go : (b : Bool) → P (pick b (f (0 + n)) z)
    go true = all (0 + n)
    go false = other

each-up : {A : Type 0} (f : ℕ → A) (g : A → Position) → ((n : ℕ) → Near (g (f n))) → (i k : ℕ) → EachHere Near (map g (up_to f i k))
unfolding up_to
each-up f g h i zero = tt
each-up f g h i (suc k) = (h i, each-up f g h (suc i) k)

plain-up : (f : ℕ → Position) → ((n : ℕ) → Near (f n)) → (i k : ℕ) → EachHere Near (up_to f i k)
unfolding up_to
plain-up f h i zero = tt
plain-up f h i (suc k) = (h i, plain-up f h (suc i) k)

each_append : (ps qs : List Position) → EachHere Near ps → EachHere Near qs → EachHere Near (ps ++ qs)
each_append [] qs h k = k
each_append (p ∷ ps) qs h k = (h.0, each_append ps qs h.1 k)

nowhere-near : Near D.nowhere
nowhere-near = omega arith

noted-near : (q : Beside) → AllHere Near (places_in q)
unfolding places_in facility_places_no node_places_no state_places_no node_place action_place facility_place state_place
noted-near q =
    let o = nowhere-near in
    let places = places_in q in
    record {
      none = o;
      names =
          each_append (map (λ x. x.name) places.facilities) (places.operations ++ map (λ x. x.at) places.states)
          (each-up (facility_places_no q.facilities) (λ x. x.name) (λ n. place-near _ _) 0 (length q.facilities / 12))
          (each_append places.operations (map (λ x. x.at) places.states) (plain-up (place_no q.operations) (λ n. place-near _ _) 0 (length q.operations / 2))
          (each-up (state_places_no q.states) (λ x. x.at) (λ n. place-near _ _) 0 (length q.states / 4)));
      nodes = λ n. at_up (NodeHere Near) (node_places_no q.expressions) _ (λ m. record { at = place-near _ _; first = place-near _ _; last = place-near _ _ }) (record { at = o; first = o; last = o }) _ n;
      actions = λ n. at_up Near (place_no q.actions) _ (λ m. place-near _ _) o _ n;
      facilities = λ n.
          at_up (FacilityHere Near) (facility_places_no q.facilities) _
          (λ m. record { name = place-near _ _; words_first = place-near _ _; words_last = place-near _ _; bits_first = place-near _ _; bits_last = place-near _ _; equals = place-near _ _ })
          (record { name = o; words_first = o; words_last = o; bits_first = o; bits_last = o; equals = o }) _ n;
      states = λ n. at_up (λ (x : D.StatePlaces). Near x.at × Near x.value) (state_places_no q.states) _ (λ m. (place-near _ _, place-near _ _)) (o, o) _ n;
    }

-- ---- The rest of the rules, and the image.

module _ {text work : List ℕ} {c : Holding} (p : Parses text work c) (short : length text ≤ 32768) where
  abbrev t : Text
  t = p.built.text

  abbrev d : Description
  d = (describe t).description

  derived : Is whole_text deepest (scan text).words (N.text t)
  derived = ((exact-text text (length text) t).1 (p.built, p.course, refl)).0

  image-short : length (encode d) < 2 ^ 32
  unfolding sections_held held
  image-short =
      let e = sections-stand p.whole.stands in
      let z = sized d in
      let few = p.whole.few in
      omega (
        arith,
        encode-long d,
        z.facilities,
        z.operations,
        z.expressions,
        z.actions,
        z.states,
        z.names,
        ap (λ (x : Sections). length x.facilities) e,
        ap (λ (x : Sections). length x.operations) e,
        ap (λ (x : Sections). length x.expressions) e,
        ap (λ (x : Sections). length x.actions) e,
        ap (λ (x : Sections). length x.states) e,
        ap (λ (x : Sections). length x.names) e,
        row-most T.Facilities c.facilities work,
        row-most T.Operations c.operations work,
        length-take (node_size * c.nodes) work,
        row-most T.Actions c.actions work,
        row-most T.States c.states work,
        names-room text work c t short derived few p.whole.stands,
        few.facilities,
        few.operations,
        few.nodes,
        few.actions,
        few.states,
      )

  rest-short : (n : ℕ) → Short (read_call n (rest_of (describe t))).answer
  unfolding rest_of
  rest-short n = go (least (faults d (describe t).places)) refl
    where
      by-room : (b : Bool) → Short (cond b (record { answer = accepted (length (encode d)); image = filled n (encode d) }) (read_refused n BufferTooShort 0)).answer
      by-room true = image-short
      by-room false = omega arith

      go : (x : Option L.Fault) → least (faults d (describe t).places) ≡ x → Short (read_call n (or_legal d x)).answer
      go none e = by-room (leb (length (encode d)) n)
      go (some f) e =
          let q = beside_held work c in
          let x = noted_description (sections_held text work c) q in
          least-here Near (faults x (places_in q)) f (text-judged text work c t short derived p.whole.few p.whole.stands p.whole.beside ∙ e) (all-stand Near x (places_in q) (noted-near q))

-- ---- The grammar.

abbrev parsing : List ℕ → Parsed Built
parsing text = parse (scan text).words (length text)

abbrev GrammarShort : List ℕ → ℕ → Type 0
GrammarShort text n = Short (read_call n (after_grammar (parsing text))).answer

pub refused-short : (text : List ℕ) (n : ℕ) (f : L.Fault) → length text ≤ 32768 → parsing text ≡ refused f → GrammarShort text n
refused-short text n f h e =
    subst (λ (x : Parsed Built). Short (read_call n (after_grammar x)).answer) (sym e)
    (grammar-here Near (length text) (omega arith) (scan text).words f (words-before text (2 ^ 32) (omega arith)) e)

pub parsed-short : (n : ℕ) {text work : List ℕ} {c : Holding} (p : Parses text work c) → length text ≤ 32768 → GrammarShort text n
parsed-short n p h = subst (λ (x : Parsed Built). Short (read_call n (after_grammar x)).answer) (sym p.course) (rest-short p h n)

-- ---- The words, and the length.

pub read_short : (text : List ℕ) (n : ℕ) → (length text ≤ 32768 → word_fault text ≡ none → GrammarShort text n) → Short (read text n).answer
unfolding read read_text longest_text
read_short text n h = by_length (ltb 32768 (length text)) refl
  where
    by-words : length text ≤ 32768 → (x : Option L.Fault) → word_fault text ≡ x → Short (read_call n (after_words text x)).answer
    by-words l none e = h l e
    by-words l (some f) e = omega (arith, l, word-fault-before text f e)

    by_length : (b : Bool) → ltb 32768 (length text) ≡ b → Short (read_call n (cond b (refused_at (L.fault (L.position 0) TextTooLong)) (after_words text (word_fault text)))).answer
    by_length true e = omega arith
    by_length false e = by-words (ltb-false 32768 (length text) e) (word_fault text) refl

none-some : {A : Type 0} {f : L.Fault} → some f ≡ none → A
none-some e = absurd (let z : ◌≡◌ {A = ℕ} 0 1 = cc in omega arith)

pub words-short : (text : List ℕ) (n : ℕ) {j : Result (Unit {0}) Fault} {f : Fault} → judged j ≡ first_fault text → j ≡ Err f → Short (read text n).answer
words-short text n h g = read_short text n (λ l e. none-some (sym (ap judged g) ∙ h ∙ short_none text l e))
