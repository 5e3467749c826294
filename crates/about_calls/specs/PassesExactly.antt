-- THE CHECK IS EXACT: an image passes if and only if it begins with the bytes of what a legal text describes; it is read as that; and what reading makes of a legal text passes.
use Rattle.std.specs.Prelude.{true, List, ◌++◌, ◌≡◌, ℕ, length, take}
use Rattle.std.proofs.Common.{sym, subst}
use Rattle.std.proofs.Math.Seq.{take-append_seam}
use Rattle.language.specs.Decode.{decode}
use Rattle.language.specs.DescribeText.{describe}
use Rattle.language.specs.Description.{Description}
use Rattle.language.specs.Encode.{encode}
use Rattle.language.specs.Image.{Passes, legal_form, passes}
use Rattle.language.specs.Image as Image
use Rattle.language.specs.Reading.{legal, read_text}
use Rattle.language.specs.Tree.{Text}
use Rattle.language.specs.WordStage.{scan}
use Rattle.about_rules.specs.LegalTexts.{in-legal-form}
use Rattle.about_rules.specs.RightWords.{words_right}
use Rattle.about_reading.specs.ReadsExactly.{Accepted}
use Rattle.about_reading.proofs.ReadsExactly.{accepted, as-legal}
use Rattle.about_texts.specs.FromDescriptions.{text-of}
use Rattle.about_texts.specs.WrittenTexts.{LegalBytes, text_in-bytes}
use Rattle.about_images.specs.CheckExact.{Written, legal-back, passes-written, written-passes, written_read}
use Rattle.about_images.specs.Legal.{Plain}
use Rattle.about_calls.specs.PlainTexts.{plain-text}

-- ---- Both ways.

of-legal : {image : List ℕ} → Passes image → Written image
of-legal p = record {
  description = (describe p.tree).description;
  legal = in-legal-form p.tree p.legal;
  plain = plain-text p.tree p.legal;
  same = p.same;
}

pub passing : (image : List ℕ) → Passes image → passes image ≡ true
passing image p = written-passes image (of-legal p)

pub passed : (image : List ℕ) → passes image ≡ true → Passes image
passed image e =
    let w = passes-written image e in
    let t = text-of w.description w.legal w.plain in
    record {
      tree = t.tree;
      legal = t.legal;
      same = subst (λ (d : Description). take (length (encode d)) image ≡ encode d) (sym t.described) w.same;
    }

pub passes-exactly : (image : List ℕ) → (passes image ≡ true → Passes image) × (Passes image → passes image ≡ true)
passes-exactly image = (passed image, passing image)

-- It is read as what the text describes.
pub passing-read : (image : List ℕ) (p : Passes image) → decode image ≡ (describe p.tree).description
unfolding of-legal
passing-read image p = written_read image (of-legal p)

-- ---- In texts: an image passes exactly when it begins with the bytes of what some bytes describe that are legal, if texts and nesting had no ceiling.

pub record PassesText (image : List ℕ) : Type 0 where
  pub text : List ℕ
  pub tree : Text
  pub legal : LegalBytes text tree
  pub same : take (length (encode (describe tree).description)) image ≡ encode (describe tree).description

of-text : {image : List ℕ} → PassesText image → Passes image
of-text p = record {
  tree = p.tree;
  legal = record {
    words = (scan p.text).words;
    nesting = p.legal.nesting;
    right = words_right p.text;
    derived = p.legal.derived;
    within = p.legal.within;
    faultless = p.legal.faultless;
  };
  same = p.same;
}

in-text : {image : List ℕ} → Passes image → PassesText image
in-text {image} p =
    let t = text_in-bytes p.tree p.legal in
    record {
      text = t.text;
      tree = t.tree;
      legal = t.legal;
      same = subst (λ (d : Description). take (length (encode d)) image ≡ encode d) (sym t.described) p.same;
    }

pub passes-texts : (image : List ℕ) → (passes image ≡ true → PassesText image) × (PassesText image → passes image ≡ true)
passes-texts image = (λ e. in-text (passed image e), λ p. passing image (of-text p))

-- ---- What reading makes passes, whatever bytes follow, and is read as the text's description.

module _ (s : List ℕ) (d : Description) (e : read_text s ≡ legal d) (rest : List ℕ) where
  a : Accepted s d
  a = accepted s d e

  legal-tree : Image.Legal a.tree
  legal-tree = as-legal s a.tree a.legal-text

  form : legal_form d ≡ true
  form = subst (λ (x : Description). legal_form x ≡ true) a.described (in-legal-form a.tree legal-tree)

  plainly : Plain d
  plainly = subst Plain a.described (plain-text a.tree legal-tree)

  pub reads-pass : passes (encode d ++ rest) ≡ true
  reads-pass = written-passes (encode d ++ rest) (record { description = d; legal = form; plain = plainly; same = take-append_seam (encode d) rest })

  pub reads-back : decode (encode d ++ rest) ≡ d
  reads-back = legal-back d rest form plainly
