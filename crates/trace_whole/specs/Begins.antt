-- What a run begins with: the output of a refusal, or an image, a store and a record that its lines of input go on from (language, Trace).
use Rattle.std.specs.Prelude.{Err, Ok, Result, ◌≡◌, ℕ, ◌≤◌, true, List, length, take}
use Rattle.language.specs.Calls.{open'}
use Rattle.language.specs.Decode.{decode}
use Rattle.language.specs.Image.{passes}
use Rattle.language.specs.Layout.{store_size}
use Rattle.language.specs.Trace.{run_lines, trace}
use Rattle.trace_output.specs.Adds.{Adds}
use Rattle.trace_whole.specs.declared.begun.Begun.{Begun}

-- An image that passes is opened in the first bytes of a store of `room` bytes.
pub record Opened (image : List ℕ) (kept size room : ℕ) (S' R' : List ℕ) : Type 0 where
  pub is : size ≡ store_size (decode image)
  pub fits : size ≤ room
  pub store : take size S' ≡ (open' image (store_size (decode image)) kept).store
  pub record' : R' ≡ (open' image (store_size (decode image)) kept).record'

-- A legal text: its image is the first n bytes of I, and its store the first of a buffer of `space` bytes. What a run prints is left to its lines.
pub record Runs (text : List ℕ) (n size space : ℕ) (I S R : List ℕ) : Type 0 where
  pub inside : n ≤ length I
  pub passed : passes (take n I) ≡ true
  pub is : size ≡ store_size (decode (take n I))
  pub fits : size ≤ space
  pub same : (lines : List (List ℕ)) → trace text lines ≡ run_lines (take n I) (decode (take n I)) lines 0 (take size S) R

-- Room for the image of every legal text (docs/IMAGE.md).
abbrev pub image_room : ℕ
image_room = 165556

-- Room for what a refusal prints: its word, two numbers of at most 20 digits, what stands between them, and LF.
abbrev pub refused_room : ℕ
refused_room = 50

-- What a refusal prints is added.
pub record Refuses (text B C : List ℕ) (end : ℕ) : Type 0 where
  pub out : List ℕ
  pub adds : Adds out B 0 C end
  pub short : length out ≤ refused_room
  pub same : (lines : List (List ℕ)) → trace text lines ≡ out

abbrev pub Begins : List ℕ → ℕ → Result Begun ℕ → List ℕ → List ℕ → List ℕ → List ℕ → List ℕ → Type 0
Begins text space (Ok b) I S R B C = Runs text b.image b.store space I S R
Begins text space (Err end) I S R B C = Refuses text B C end
