-- Bounds, form and rules together: what an image that is not bounded comes to, what one of the right form owes the rules, and what the least of its faults says.
use mathlib.Core.Bool.{Bool, true, false}
use mathlib.Core.List.{List, [], ◌∷◌}
use mathlib.Core.Option.{none, some}
use mathlib.Core.Path.{◌≡◌, refl, sym, ap, ◌∙◌}
use Prim.Native.Nat.{ℕ, ◌/◌, ◌≤◌}
use native.Mathlib.Omega.{arith}
use borrow.Author.Tests.{leb-true, ne_eqb}
use lib.Dec.{eqb, leb}
use lib.ListN.{length}
use Rattle.language.specs.Canonical.{canonical, counts_right}
use Rattle.language.specs.Decode.{decode, described, section_at, sections_in}
use Rattle.language.specs.Description.{no_places}
use Rattle.language.specs.DescribeText.{Described}
use Rattle.language.specs.Encode.{Sections, action_size, actions_section, expressions_section, facilities_section, facility_size, node_size, operation_size, operations_section}
use Rattle.language.specs.Image.{passes}
use Rattle.language.specs.Ceilings.{most_facilities, most_operations}
use Rattle.language.specs.Rules.{faults}
use Rattle.language.specs.Words.{Fault}
use Rattle.std.specs.Prelude.{Result, Ok, Err}
use Rattle.std.specs.Result.{is_ok}
use Rattle.text_words.specs.declared.Fault as C
use Rattle.text_words.specs.Meaning.{judged}
use Rattle.language.specs.WordStage.{least}
use Rattle.image_sections.proofs.DescribedLaws.{facilities-count, operations-count}
use Rattle.judge_records.proofs.NotedLaws.{noted-none}
use Rattle.judge_records.specs.Noted.{noted, noted_description, nothing_beside, places_in}
use Rattle.about_images.specs.Whole.{both_left, both_right, bytes_right}
use Rattle.image_order.proofs.HoldsLaws.{actions-held, nodes-held}
use Rattle.image_order.specs.Holds.{Actions, Nodes}
use Rattle.image_form.specs.Form.{form_right, passes-form}
use Rattle.about_images.specs.CheckExact.{passes-bounded}
use Rattle.about_images.specs.Depth.{bounded}

-- ---- The least of no faults.

none-least : (fs : List Fault) → none ≡ least fs → true ≡ eqb (length fs) 0
unfolding least
none-least [] e = refl
none-least (f ∷ fs) e = cc

some-least : (fs : List Fault) {f : Fault} → some f ≡ least fs → false ≡ eqb (length fs) 0
unfolding least
some-least [] e = cc
some-least (f ∷ fs) e = sym (ne_eqb (length (f ∷ fs)) 0 (λ z. omega arith))

pub passed-faultless : (r : Result (Unit {0}) C.Fault) (fs : List Fault) → judged r ≡ least fs → is_ok r ≡ eqb (length fs) 0
passed-faultless (Ok u) fs e = none-least fs e
passed-faultless (Err f) fs e = some-least fs e

-- Beside an image there are no places.
pub least-plain : (x : Sections) → least (faults (noted_description x nothing_beside) (places_in nothing_beside)) ≡ least (faults (described x) no_places)
unfolding noted
least-plain x = ap (λ (d : Described). least (faults d.description d.places)) (noted-none x)

-- ---- Bounds first, then the form.

module _ (image : List ℕ) where
  pub nodes-in : {s : List ℕ} → s ≡ section_at expressions_section node_size image → Nodes (decode image) s
  unfolding decode sections_in
  nodes-in e = rw e (nodes-held (sections_in image))

  pub actions-in : {s : List ℕ} → s ≡ section_at actions_section action_size image → Actions (decode image) s
  unfolding decode sections_in
  actions-in e = rw e (actions-held (sections_in image))

  pub unbounded : bounded (decode image) ≡ false → false ≡ passes image
  unbounded e = by-test (passes image) refl
    where
      by-test : (b : Bool) → passes image ≡ b → false ≡ b
      by-test true q = sym e ∙ passes-bounded image q
      by-test false q = refl

  pub unformed : form_right image ≡ false → false ≡ passes image
  unformed e = rw (passes-form image, e)

  module _ (e : form_right image ≡ true) where
    pub rules-left : eqb (length (faults (described (sections_in image)) no_places)) 0 ≡ passes image
    unfolding decode
    rules-left = rw (passes-form image, e)

    counts-so : counts_right (decode image) ≡ true
    unfolding form_right canonical
    counts-so = both_left (counts_right (decode image)) _ (both_right (bytes_right image) (canonical (decode image)) e)

    few-facilities : length (decode image).facilities ≤ 256
    unfolding counts_right most_facilities
    few-facilities = leb-true (length (decode image).facilities) 256 (both_left (leb (length (decode image).facilities) 256) _ counts-so)

    few-operations : length (decode image).operations ≤ 128
    unfolding counts_right most_facilities most_operations
    few-operations =
        leb-true (length (decode image).operations) 128
        (both_left (leb (length (decode image).operations) 128) _ (both_right (leb (length (decode image).facilities) 256) _ counts-so))

    -- Counts within what judging asks for.
    pub few : (length (section_at facilities_section facility_size image) / facility_size ≤ 65536) × (length (section_at operations_section operation_size image) / operation_size ≤ 256)
    unfolding decode sections_in
    few = (omega (arith, few-facilities, facilities-count (sections_in image)), omega (arith, few-operations, operations-count (sections_in image)))
