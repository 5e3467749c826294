-- Whole images: what an image of a description is read as, and when the bytes of an image are those of what it describes.
use Rattle.std.specs.Prelude.{Bool, true, false, cond, List, ◌++◌, ◌≡◌, refl, ℕ, ◌*◌, ◌/◌, ◌^◌, ◌<◌, ◌≤◌, leb, drop, take}
use Rattle.std.proofs.Common.{true≢false, ◌∙◌, arith, le-leb, leb-true, length-append, length-take, length-take-le, take-take}
use Rattle.std.proofs.Math.Path.{sym, ap}
use Rattle.std.proofs.Math.ListN.{length}
use Rattle.std.proofs.Math.Seq.{take_at}
use Rattle.language.specs.Decode.{action_of, decode, described, node_of, sections_in}
use Rattle.language.specs.Description.{Description, facility_at}
use Rattle.language.specs.Encode.{Sections, action_bytes, action_size, encode, facility_record, facility_size, header_size, image_of, name_bytes, node_bytes, node_size, operation_record, operation_size, sections_of, state_record, state_size}
use Rattle.language.specs.Image.{legal_form, passes, total_length}
use Rattle.language.specs.Layout.{place_in}
use Rattle.language.specs.RecordBytes.{fours}
use Rattle.language.specs.Scan.{same}
use Rattle.image_records.proofs.ActionLaws.{action-length}
use Rattle.image_records.proofs.ByteLaws.{same_of, same_true}
use Rattle.image_records.proofs.WrittenNodes.{node-length}
use Rattle.image_sections.proofs.HeaderLaws.{header-bytes}
use Rattle.image_sections.proofs.ImageLaws.{Sized, body_of, header-complete, header-sized, header-sound, image-header, right-parts, sections-found, total-below}
use Rattle.image_sections.proofs.WrittenDeclarations.{operation-length, state-length}
use Rattle.image_sections.specs.Header.{counts_in, header_numbers, header_right, total_of}
use Rattle.image_sections.specs.declared.header.Counts.{Counts}
use Rattle.about_images.specs.Again.{Bytes, actions-again, all_names, expressions-again, facilities-again, names-again, operations-again, states-again}
use Rattle.about_images.specs.Back.{InRange, sections-back}
use Rattle.about_images.specs.Rows.{facilities-length, row-length}
use Rattle.language.specs.Tests.{both}

-- ---- The size of an image.

abbrev pub counts_for : Description → Counts
counts_for d = record {
  facilities = length d.facilities;
  operations = length d.operations;
  expressions = length d.expressions;
  actions = length d.actions;
  states = length d.states;
  names = length (name_bytes d);
}

pub sized : (d : Description) → Sized (sections_of d) (counts_for d)
unfolding sections_of
sized d = record {
  facilities = facilities-length d.facilities;
  operations = row-length operation_record operation_size operation-length d.operations;
  expressions = row-length node_bytes node_size node-length d.expressions;
  actions = row-length action_bytes action_size action-length d.actions;
  states = row-length state_record state_size state-length d.states;
  names = refl;
}

image-long : (x : Sections) (c : Counts) → Sized x c → length (image_of x) ≡ total_of c
image-long x c z =
    ap length (image-header x c z) ∙ length-append (fours (header_numbers c)) (body_of x)
    ∙ rw (header-bytes c) (simp (length-append, z.facilities, z.operations, z.expressions, z.actions, z.states, z.names) (omega arith))

pub encode-long : (d : Description) → length (encode d) ≡ total_of (counts_for d)
unfolding encode
encode-long d = image-long (sections_of d) (counts_for d) (sized d)

-- ---- An image of a description.

module _ (d : Description) (image : List ℕ) (below : length (encode d) < 2 ^ 32) (is : take (length (encode d)) image ≡ encode d) where
  written_is : take (total_of (counts_for d)) image ≡ image_of (sections_of d)
  unfolding encode
  written_is = rw (encode-long d) at is

  written_below : total_of (counts_for d) < 2 ^ 32
  written_below = rw (encode-long d) at below

  pub found : sections_in image ≡ sections_of d
  found = sections-found image (sections_of d) (counts_for d) (sized d) written_below written_is

  pub right-header : header_right image ≡ true
  right-header = header-complete image (sections_of d) (counts_for d) (sized d) written_below written_is

  -- The header has the length of what was written.
  pub total-written : length (encode d) ≡ total_length image
  unfolding encode
  total-written =
      let h = right-header in
      let p = right-parts image h in
      let l = image-long (sections_in image) (counts_in image) (header-sized image h) in
      ap (λ (x : Sections). length (image_of x)) (sym found) ∙ l ∙ sym p.total

  pub long-enough : length (encode d) ≤ length image
  long-enough = omega (arith, ap length is, length-take (length (encode d)) image)

-- What is written of a description in range is read back, whatever bytes follow.
pub decode-written : (d : Description) (image : List ℕ) → InRange d → take (length (encode d)) image ≡ encode d → decode image ≡ d
unfolding decode
decode-written d image r is = ap described (found d image r.whole is) ∙ sections-back d r

pub decode-encode : (d : Description) (rest : List ℕ) → InRange d → decode (encode d ++ rest) ≡ d
decode-encode d rest r = decode-written d (encode d ++ rest) r (take_at (encode d) rest (length (encode d)) refl)

-- ---- The bytes of an image against what it describes.

-- No byte is missing, and those up to the total length are the bytes of what they describe.
unfoldable pub bytes_right : List ℕ → Bool
bytes_right image =
    cond (both (leb header_size (length image)) (leb (total_length image) (length image))) (same (take (total_length image) image) (encode (decode image))) false

-- Sections are the same as those that are written of what they describe.
unfoldable pub sections_same : Sections → Bool
sections_same x =
    let y = sections_of (described x) in
    both (same x.names y.names)
    (both (same x.facilities y.facilities)
    (both (same x.operations y.operations)
    (both (same x.expressions y.expressions)
    (both (same x.actions y.actions) (same x.states y.states)))))

pub both_left : (a b : Bool) → both a b ≡ true → a ≡ true
both_left true b e = refl
both_left false b e = absurd (true≢false (sym e))

pub both_right : (a b : Bool) → both a b ≡ true → b ≡ true
both_right true b e = e
both_right false b e = absurd (true≢false (sym e))

abbrev made : List ℕ → List ℕ → List ℕ → List ℕ → List ℕ → List ℕ → Sections
made n f o e a s = record { facilities = f; operations = o; expressions = e; actions = a; states = s; names = n }

made-same : {f f' o o' e e' a a' s s' n n' : List ℕ} → n ≡ n' → f ≡ f' → o ≡ o' → e ≡ e' → a ≡ a' → s ≡ s' → made n f o e a s ≡ made n' f' o' e' a' s'
made-same p q r u v w = rw (p, q, r, u, v, w)

pub same-sections : (x : Sections) → sections_same x ≡ true → x ≡ sections_of (described x)
unfolding sections_same
same-sections x e0 =
    let y : Sections = sections_of (described x) in
    let n = same x.names y.names in
    let f = same x.facilities y.facilities in
    let o = same x.operations y.operations in
    let e = same x.expressions y.expressions in
    let a = same x.actions y.actions in
    let s = same x.states y.states in
    let e1 = both_right n (both f (both o (both e (both a s)))) e0 in
    let e2 = both_right f (both o (both e (both a s))) e1 in
    let e3 = both_right o (both e (both a s)) e2 in
    let e4 = both_right e (both a s) e3 in
    made-same (same_true _ _ (both_left n _ e0)) (same_true _ _ (both_left f _ e1)) (same_true _ _ (both_left o _ e2)) (same_true _ _ (both_left e _ e3))
    (same_true _ _ (both_left a _ e4)) (same_true _ _ (both_right a s e4))

-- Sections in which every record is right, and whose records say as much of names as there is.
pub record RecordsRight (x : Sections) : Type 0 where
  pub whole-facilities : length x.facilities ≡ facility_size * (length x.facilities / facility_size)
  pub whole-operations : length x.operations ≡ operation_size * (length x.operations / operation_size)
  pub whole-expressions : length x.expressions ≡ node_size * (length x.expressions / node_size)
  pub whole-actions : length x.actions ≡ action_size * (length x.actions / action_size)
  pub whole-states : length x.states ≡ state_size * (length x.states / state_size)
  pub facilities : (n : ℕ) → n < length x.facilities / facility_size
      → take facility_size (drop (facility_size * n) x.facilities) ≡ facility_record (place_in (described x).facilities n) (facility_at (described x) n)
  pub operations : Bytes x.operations
  pub expressions : (n : ℕ) → n < length x.expressions / node_size → take node_size (drop (node_size * n) x.expressions) ≡ node_bytes (node_of x.expressions n)
  pub actions : (n : ℕ) → n < length x.actions / action_size → take action_size (drop (action_size * n) x.actions) ≡ action_bytes (action_of x.actions n)
  pub states : Bytes x.states
  pub names : all_names x ≡ length x.names

-- They are those that are written of what they describe.
pub sections-again : (x : Sections) → RecordsRight x → x ≡ sections_of (described x)
unfolding sections_of
sections-again x r =
    made-same (names-again x r.names) (facilities-again x r.whole-facilities r.facilities) (operations-again x r.whole-operations r.operations (omega (arith, r.names)))
    (expressions-again x r.whole-expressions r.expressions) (actions-again x r.whole-actions r.actions) (states-again x r.whole-states r.states (omega (arith, r.names)))

pub sections-same : (x : Sections) → x ≡ sections_of (described x) → sections_same x ≡ true
unfolding sections_same
sections-same x e =
    rw (
      same_of (ap (λ (z : Sections). z.names) e),
      same_of (ap (λ (z : Sections). z.facilities) e),
      same_of (ap (λ (z : Sections). z.operations) e),
      same_of (ap (λ (z : Sections). z.expressions) e),
      same_of (ap (λ (z : Sections). z.actions) e),
      same_of (ap (λ (z : Sections). z.states) e),
    )

-- Where the bytes are right, the total is the length of what was written, and fits four bytes.
pub record Whole (image : List ℕ) (d : Description) : Type 0 where
  pub total : length (encode d) ≡ total_length image
  pub below : length (encode d) < 2 ^ 32
  pub is : take (length (encode d)) image ≡ encode d

module _ (image : List ℕ) (d : Description) (long : total_length image ≤ length image) (e : take (total_length image) image ≡ encode d) where
  total-long : length (encode d) ≡ total_length image
  total-long = sym (ap length e) ∙ length-take-le (total_length image) image long

  header-stands : take header_size image ≡ fours (header_numbers (counts_for d))
  unfolding encode
  header-stands =
      let c = counts_for d in
      let l : header_size ≤ total_length image = omega (arith, total-long, encode-long d) in
      sym (take-take header_size (total_length image) image l) ∙ ap (take header_size) (e ∙ image-header (sections_of d) c (sized d))
      ∙ take_at (fours (header_numbers c)) (body_of (sections_of d)) header_size (header-bytes c)

  pub whole-right : Whole image d
  whole-right = record {
    total = total-long;
    below = rw total-long (total-below image (counts_for d) header-stands);
    is = rw total-long e;
  }

-- What it means that the bytes are right.
pub bytes-parts : (image : List ℕ) → bytes_right image ≡ true → (header_size ≤ length image) × (total_length image ≤ length image) × (take (total_length image) image ≡ encode (decode image))
unfolding bytes_right
bytes-parts image h = by-test (both (leb header_size (length image)) (leb (total_length image) (length image))) refl h
  where
    by-test : (b : Bool) → both (leb header_size (length image)) (leb (total_length image) (length image)) ≡ b
        → cond b (same (take (total_length image) image) (encode (decode image))) false ≡ true
        → (header_size ≤ length image) × (total_length image ≤ length image) × (take (total_length image) image ≡ encode (decode image))
    by-test true t g = (leb-true _ _ (both_left (leb header_size (length image)) _ t), leb-true _ _ (both_right (leb header_size (length image)) _ t), same_true _ _ g)
    by-test false t g = absurd (true≢false (sym g))

pub bytes_of : (image : List ℕ) → header_size ≤ length image → total_length image ≤ length image → take (total_length image) image ≡ encode (decode image) → bytes_right image ≡ true
unfolding bytes_right
bytes_of image h g e = rw (le-leb _ _ h, le-leb _ _ g, same_of e)

decoded : (image : List ℕ) → sections_of (decode image) ≡ sections_of (described (sections_in image))
unfolding decode
decoded image = refl

encoded : (d : Description) → image_of (sections_of d) ≡ encode d
unfolding encode
encoded d = refl

-- The bytes are right where the header and the sections are.
pub bytes-right : (image : List ℕ) → bytes_right image ≡ both (header_right image) (sections_same (sections_in image))
bytes-right image = by_bytes (bytes_right image) refl
  where
    x : Sections
    x = sections_in image

    one_way : bytes_right image ≡ true → both (header_right image) (sections_same x) ≡ true
    one_way t =
        let p = bytes-parts image t in
        let w = whole-right image (decode image) p.1 p.2 in
        rw (right-header (decode image) image w.below w.is, sections-same (sections_in image) (found (decode image) image w.below w.is ∙ decoded image))

    other_way : both (header_right image) (sections_same x) ≡ true → bytes_right image ≡ true
    other_way t =
        let h = both_left (header_right image) (sections_same x) t in
        let r = right-parts image h in
        let e = same-sections x (both_right (header_right image) (sections_same x) t) in
        bytes_of image (omega (arith, r.long)) (omega (arith, r.long, r.total)) (header-sound image h ∙ ap image_of (e ∙ sym (decoded image)) ∙ encoded (decode image))

    by_bytes : (b : Bool) → bytes_right image ≡ b → bytes_right image ≡ both (header_right image) (sections_same x)
    by_bytes true t = t ∙ sym (one_way t)
    by_bytes false t = t ∙ by-other (both (header_right image) (sections_same x)) refl t
      where
        by-other : (c : Bool) → both (header_right image) (sections_same x) ≡ c → bytes_right image ≡ false → false ≡ both (header_right image) (sections_same x)
        by-other true u v = absurd (true≢false (sym (other_way u) ∙ v))
        by-other false u v = sym u

-- An image passes where its bytes are right and it describes what is in legal form.
pub passes-parts : (image : List ℕ) → passes image ≡ both (bytes_right image) (legal_form (decode image))
unfolding passes bytes_right
passes-parts image = by-test (both (leb header_size (length image)) (leb (total_length image) (length image)))
  where
    by-test : (b : Bool) → cond b (both (same (take (total_length image) image) (encode (decode image))) (legal_form (decode image))) false
        ≡ both (cond b (same (take (total_length image) image) (encode (decode image))) false) (legal_form (decode image))
    by-test true = refl
    by-test false = refl
