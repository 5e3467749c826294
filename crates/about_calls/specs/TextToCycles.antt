-- What is said of a text and its cycles (proofs/TextToCycles.antt): the course that `step` takes, the calls that go through it, and that they do so from the text on.
use Rattle.std.specs.Prelude.{◌≡◌, ℕ, ◌-◌, ◌*◌, ◌≤◌, length}
use mathlib.Core.List.{List, [], ◌∷◌, ◌++◌}
use Rattle.language.specs.Calls.{CycleCall, after_step, cycle, cycled, open', open_words, opened, stopped_for}
use Rattle.language.specs.DescribeText.{describe}
use Rattle.language.specs.Description.{Description}
use Rattle.language.specs.Encode.{encode}
use Rattle.language.specs.Layout.{store_size}
use Rattle.language.specs.Reading.{filled, read, zeroes}
use Rattle.language.specs.Reading as Reading
use Rattle.language.specs.RecordBytes.{record_bytes, record_from, record_size}
use Rattle.language.specs.Step.{Outcome, Record, completed, open_record, step, stopped}
use Rattle.language.specs.Store.{StoreWords, from_bytes, inputs_of, to_bytes}
use Rattle.language.specs.Tree.{Text}
use Rattle.language.specs.declared.stops.Stop.{Stop}
use Rattle.about_bytes.specs.AnyRun.{AllFormed}
use Rattle.about_reading.specs.ReadsExactly.{LegalText}

-- ---- Reading accepts just the legal texts for whose image there is room.

-- A legal text whose image has n bytes, for which there is room.
pub record Fits (text : List ℕ) (room n : ℕ) : Type 0 where
  pub tree : Text
  pub legal-text : LegalText text tree
  pub so-long : n ≡ length (encode (describe tree).description)
  pub enough : n ≤ room

-- ---- A course: what `step` gives for inputs one after the other.

module _ (d : Description) where
  -- A completed cycle hands on its words and its record; a stop leaves both as found.
  pub data Course : StoreWords → Record → List StoreWords → List Outcome → Type 0 where
    over : {s : StoreWords} {r : Record} → Course s r [] []
    goes_on : {s t : StoreWords} {r q : Record} {n : ℕ} {i : StoreWords} {is : List StoreWords} {os : List Outcome} → step d s r i ≡ completed t q n → Course t q is os → Course s r (i ∷ is) (completed t q n ∷ os)
    stops : {s : StoreWords} {r : Record} {n : Stop} {i : StoreWords} {is : List StoreWords} {os : List Outcome} → step d s r i ≡ stopped n → Course s r is os → Course s r (i ∷ is) (stopped n ∷ os)

-- ---- The calls for cycles, one for each stimulus.

-- Each is lent what the one before it left.
unfoldable pub calls : List ℕ → ℕ → List ℕ → List ℕ → List (List ℕ) → List CycleCall
calls image scratch store record' [] = []
calls image scratch store record' (i ∷ is) =
    let c = cycle image store record' i scratch in
    c ∷ calls image scratch c.store c.record' is

module _ (d : Description) where
  -- What they come to, to the byte, where their cycles have these outcomes.
  unfoldable pub owed : ℕ → List ℕ → List ℕ → List Outcome → List CycleCall
  owed scratch store record' [] = []
  owed scratch store record' (o ∷ os) =
      let c = after_step d store record' scratch o in
      c ∷ owed scratch c.store c.record' os

  -- The outcome that can be read off a call.
  pub data Shows (c : CycleCall) : Outcome → Type 0 where
    a-cycle : {n : ℕ} → c.answer ≡ cycled n → Shows c (completed (from_bytes d.facilities c.store) (record_from c.record') n)
    a-stop : {n : Stop} → c.answer ≡ stopped_for n → Shows c (stopped n)

  pub data AllShow : List CycleCall → List Outcome → Type 0 where
    no_more : AllShow [] []
    and-more : {c : CycleCall} {cs : List CycleCall} {o : Outcome} {os : List Outcome} → Shows c o → AllShow cs os → AllShow (c ∷ cs) (o ∷ os)

  -- The words of the input terminals in stimuli.
  unfoldable pub inputs : List (List ℕ) → List StoreWords
  inputs [] = []
  inputs (i ∷ is) = from_bytes (inputs_of d.facilities) i ∷ inputs is

  -- The calls on a store and a record go through the course from these words and this record.
  pub record Through (image : List ℕ) (scratch : ℕ) (store record' : List ℕ) (s : StoreWords) (r : Record) (is : List (List ℕ)) : Type 0 where
    pub outcomes : List Outcome
    pub course : Course d s r (inputs is) outcomes
    pub exact : calls image scratch store record' is ≡ owed scratch store record' outcomes
    pub shown : AllShow (calls image scratch store record' is) outcomes

-- ---- The whole.

-- What the calls come to for a text with this tree, with a buffer of `room` bytes for its image.
module _ (text : List ℕ) (t : Text) (room : ℕ) where
  abbrev pub meant : Description
  meant = (describe t).description

  abbrev pub its_image : List ℕ
  its_image = (read text room).image

  pub record ItsCycles : Type 0 where
    -- Reading accepts it with the length of its image, and leaves that image followed by zeroes.
    pub read-so : read text room ≡ record { answer = Reading.accepted (length (encode meant)); image = encode meant ++ zeroes (room - length (encode meant)) }
    -- With room for store and record the image opens: everything zero but the sequencing register.
    pub opens-so : (store record' : ℕ) → store_size meant ≤ store → record_size ≤ record'
        → open' its_image store record' ≡ record { answer = opened; store = filled store (to_bytes meant.facilities (open_words meant)); record' = filled record' (record_bytes (open_record meant)) }
    -- From there, whatever stimuli of the right form come, the calls go through the course of what the text describes.
    pub runs_so : (store record' scratch : ℕ) (stimuli : List (List ℕ)) → store_size meant ≤ store → record_size ≤ record' → 4 * store_size meant ≤ scratch → AllFormed meant stimuli
        → Through meant its_image scratch (open' its_image store record').store (open' its_image store record').record' (open_words meant) (open_record meant) stimuli

-- A text is accepted exactly when it is legal and there is room for its image; and then each cycle is that of its description.
pub record FromText (text : List ℕ) (room : ℕ) : Type 0 where
  pub accepted-exactly : (n : ℕ) → ((read text room).answer ≡ Reading.accepted n → Fits text room n) × (Fits text room n → (read text room).answer ≡ Reading.accepted n)
  pub then-cycles : (t : Text) → LegalText text t → length (encode (describe t).description) ≤ room → ItsCycles text t room
