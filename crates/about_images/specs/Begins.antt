-- Images that begin with what is written of a description: those that pass do, and those of a description in range pass.
use Rattle.std.specs.Prelude.{true, List, ◌≡◌, ℕ, length, take}
use Rattle.std.proofs.Common.{sym, ◌∙◌, arith}
use Rattle.language.specs.Decode.{decode}
use Rattle.language.specs.Description.{Description}
use Rattle.language.specs.Encode.{encode}
use Rattle.language.specs.Image.{legal_form, passes, total_length}
use Rattle.about_images.specs.Back.{InRange}
use Rattle.about_images.specs.Whole.{both_left, both_right, bytes_of, bytes-parts, bytes_right, decode-written, encode-long, long-enough, passes-parts, total-written, whole-right}

-- An image begins with what is written of a description.
pub record Begins (image : List ℕ) (d : Description) : Type 0 where
  pub legal : legal_form d ≡ true
  pub same : take (length (encode d)) image ≡ encode d

-- An image that passes begins with what is written of the description that it is read as.
pub passes-begins : (image : List ℕ) → passes image ≡ true → Begins image (decode image)
passes-begins image h =
    let p = sym (passes-parts image) ∙ h in
    let b = bytes-parts image (both_left (bytes_right image) (legal_form (decode image)) p) in
    record {
      legal = both_right (bytes_right image) (legal_form (decode image)) p;
      same = (whole-right image (decode image) b.1 b.2).is;
    }

-- And one that begins with what is written of a description in range passes, and is read as it.
module _ (image : List ℕ) (d : Description) (r : InRange d) (b : Begins image d) where
  pub begins-read : decode image ≡ d
  begins-read = decode-written d image r b.same

  pub begins-passes : passes image ≡ true
  begins-passes =
      let t : length (encode d) ≡ total_length image = total-written d image r.whole b.same in
      let l = long-enough d image r.whole b.same in
      let e = begins-read in
      let s : take (total_length image) image ≡ encode (decode image) = rw (e, ← t) b.same in
      passes-parts image ∙ rw (bytes_of image (omega (arith, encode-long d)) (omega arith) s, e, b.legal)
