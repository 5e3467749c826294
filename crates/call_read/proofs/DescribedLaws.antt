-- A text is in the array: behind the sections and the states, where the text is not refused.
use mathlib.Core.List.{List, ◌++◌}
use mathlib.Core.Option.{Option, none, some}
use mathlib.Core.Path.{◌≡◌, refl, ◌∙◌, sym}
use Prim.Native.Nat.{ℕ, ◌≤◌}
use native.Mathlib.Omega.{arith}
use lib.ListN.{length}
use Rattle.parse_step.proofs.Ceilings.{few-counted}
use Rattle.parse_step.specs.Course.{counts_of}
use Rattle.parse_facilities.proofs.NameWords.{few-facilities}
use Rattle.about_grammar.proofs.Exact.{exact-text}
use Rattle.language.specs.Building.{nothing_built, with_text}
use Rattle.language.specs.DescribeText.{facilities_of, length_at}
use Rattle.language.specs.Description.{Facility, sequencing_from}
use Rattle.language.specs.Grammar.{Is}
use Rattle.language.specs.Machine.{parsed}
use Rattle.language.specs.Ceilings.{deepest}
use Rattle.language.specs.Notions as N
use Rattle.language.specs.Notions.{whole_text}
use Rattle.language.specs.SectionWays.{parse}
use Rattle.language.specs.Tree as T
use Rattle.language.specs.Tree.{Declaration, Text}
use Rattle.language.specs.WordStage.{scan}
use Rattle.about_rules.specs.RightWords.{words_right}
use Rattle.about_rules.specs.TidyTexts.{tidy}
use Rattle.parse_sections.specs.Sections as P
use Rattle.parse_states.specs.Begins.{length_of}
use Rattle.parse_tables.specs.declared.Table.TheVariants as Tb
use Rattle.parse_tables.specs.Rows.{rows}
use Rattle.parse_held.proofs.NearTrees.{text-near}
use Rattle.parse_held.specs.NearTexts.{TextNear}
use Rattle.call_read.proofs.LengthLaws.{Lends}
use Rattle.call_read.proofs.Sequenced.{length_no, register-lent}
use Rattle.call_read.specs.Lengths.{lending}
use Rattle.call_read.specs.Outcomes.{Described, Parses}
use Rattle.call_read.specs.Ready.{Behind, Closes, Whole, length_in, tallied}
use Rattle.parse_step.specs.declared.Reached.{Reached}
use Rattle.parse_step.specs.declared.Unread.{Unread}
use Rattle.parse_step.proofs.Answers.{at_ok, err_as, ok_err}
use Rattle.std.specs.Prelude.{Err, Ok}

-- What a register lends is what a description says.
lengths-agree : (fs : List Facility) (n : Option ℕ) → lending (length_no fs n) ≡ length_at fs n
lengths-agree fs none = refl
lengths-agree fs (some n) = refl

module _ {text w₁ : List ℕ} {r : Reached} (short : length text ≤ 32768) (x : P.Opened text w₁ r) where
  abbrev ds : List Declaration
  ds = x.registers ++ (x.memories ++ x.terminals)

  abbrev text_of : List T.State → Text
  text_of ss = record { registers = x.registers; memories = x.memories; terminals = x.terminals; operations = x.operations; states = ss }

  module _ (l : ℕ) {r₂ : Reached} {w₂ : List ℕ} (z : Closes text ds x.operations l r.next r.state w₂ (Ok r₂))
      (f : Lends l (rows Tb.Facilities r.state.known w₁) (rows Tb.FacilityPlaces r.state.known w₁)) where
    abbrev whole-text : Text
    whole-text = text_of (z.done refl).trees

    pub text-parsed : parse (scan text).words (length text) ≡ parsed (with_text nothing_built whole-text)
    text-parsed = x.course ∙ (z.done refl).course _

    derived : Is whole_text deepest (scan text).words (N.text whole-text)
    derived = ((exact-text text (length text) whole-text).1 (with_text nothing_built whole-text, text-parsed, refl)).0

    standing-near : TextNear text whole-text
    standing-near = text-near text short whole-text derived

    lent_length : length_of l ≡ length_in ds
    lent_length =
        register-lent whole-text (tidy derived (words_right text)) standing-near
        (omega (arith, x.ready.facilities.known, x.ready.counted, few-facilities (counts_of r.state) x.ready.standing.within))
        (omega (arith, x.ready.standing.bodies.nodes, x.ready.standing.nodes, few-counted (counts_of r.state) x.ready.standing.within)) l
        (rw (x.ready.facilities.records, x.ready.facilities.places) at f)
        ∙ lengths-agree (facilities_of 0 ds) (sequencing_from 0 (facilities_of 0 ds))

    pub text-whole : Whole text w₂ (tallied r.state r₂.state) whole-text
    text-whole = (z.done refl).whole whole-text refl refl refl lent_length standing-near

    pub text-described : Described text w₂ (Ok (tallied r.state r₂.state))
    text-described = record {
      refused = λ i e. ok_err e;
      full = λ e. ok_err e;
      done = λ c e. at_ok (Parses text w₂) e (record { built = with_text nothing_built whole-text; course = text-parsed; whole = text-whole });
    }

  -- A refusal of the states is one of the text.
  pub states-refused : {l : ℕ} {u : Unread} {w₂ : List ℕ} → Closes text ds x.operations l r.next r.state w₂ (Err u) → Described text w₂ (Err u)
  states-refused z = record { refused = λ f e. x.course ∙ z.refused f (err_as e) _; full = λ e. z.full (err_as e); done = λ c e. ok_err (sym e) }

-- A refusal of what is before the states.
pub opening-refused : {text w₁ : List ℕ} {u : Unread} → P.Preamble text w₁ (Err u) → Described text w₁ (Err u)
opening-refused p = record { refused = λ f e. p.refused f (err_as e); full = λ e. p.full (err_as e); done = λ c e. ok_err (sym e) }

pub behind : {text w₁ : List ℕ} {r : Reached} → P.Opened text w₁ r → Behind text r.next r.state w₁
behind x = record { declared = x.registers ++ (x.memories ++ x.terminals); operations = x.operations; ready = x.ready }
