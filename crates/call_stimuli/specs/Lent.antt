-- What the cycles of a run are carried out on, and the record that they come to.
use Rattle.std.specs.Prelude.{List, ◌≡◌, ℕ, length}
use Rattle.std.proofs.Math.Option.{none}
use Rattle.language.specs.Calls as L
use Rattle.language.specs.Decode.{decode}
use Rattle.language.specs.Layout.{store_size}
use Rattle.language.specs.Reading.{zeroes}
use Rattle.language.specs.RecordBytes.{record_from}
use Rattle.language.specs.Step as S
use Rattle.image_sections.specs.declared.sections.Sections.{Sections}
use Rattle.run_advance.specs.Carried.{Sliced}

-- What the cycles of a run are carried out on: the sections of an image and the record in K, which a scratch of n bytes does not refuse; as many bytes as the store has for the working copy, for delayed stores that wait, and for their mask; a trace of zeroes.
pub record Lent (image K : List ℕ) (n : ℕ) (sections : Sections) (r : S.Record) (store stimuli : List ℕ) (cycles : ℕ) (work pending mask trace : List ℕ) : Type 0 where
  pub sliced : Sliced image sections
  pub read : record_from K ≡ r
  pub free : L.run_refusal image store K stimuli cycles n (length trace) ≡ none
  pub copy : length work ≡ store_size (decode image)
  pub waiting : length pending ≡ store_size (decode image)
  pub masked : length mask ≡ store_size (decode image)
  pub clear : trace ≡ zeroes (length trace)

-- So for some image, bytes of a record and scratch.
pub record SomeLent (sections : Sections) (r : S.Record) (store stimuli : List ℕ) (cycles : ℕ) (work pending mask trace : List ℕ) : Type 0 where
  pub image : List ℕ
  pub kept : List ℕ
  pub scratch : ℕ
  pub lent : Lent image kept scratch sections r store stimuli cycles work pending mask trace
