-- An image whose header is right is the image of its sections, and the image of sections has the right header.
use mathlib.Core.Bool.{Bool, true, false, true≢false}
use mathlib.Core.List.{List, [], ◌∷◌, ◌++◌, append_assoc}
use mathlib.Core.Path.{◌≡◌, refl, sym, ap, ◌∙◌}
use Prim.Native.Nat.{ℕ, zero, suc, ◌+◌, ◌-◌, ◌*◌, ◌/◌, ◌%◌, ◌^◌, ◌<◌, ◌≤◌}
use native.Mathlib.Omega.{arith}
use borrow.Author.Tests.{eqb-false, eqb-true, leb-false, leb-true}
use lib.Dec.{eqb, leb}
use lib.ListN.{drop, get_or, length, take, length-append, length-drop, length-take}
use lib.Seq.{drop_at, get_or-take, length-take-le, take-add, take_at, take-take}
use Rattle.language.specs.Decode.{number_at, sections_in}
use Rattle.language.specs.Encode.{Sections, action_size, facility_size, header_size, image_of, length_field, little, node_size, operation_size, state_size}
use Rattle.language.specs.RecordBytes.{fours}
use Rattle.image_records.proofs.ByteLaws.{same_of, same_true}
use Rattle.image_records.proofs.NumberLaws.{number-back}
use Rattle.image_sections.proofs.HeaderLaws.{header-bytes, right-other, right-same, right-short}
use Rattle.image_sections.specs.Header.{actions_from, counts_in, expressions_from, header_numbers, header_right, names_from, operations_from, states_from, total_of}
use Rattle.image_sections.specs.declared.header.Counts.{Counts}

-- The sections have as many whole records as the counts say.
pub record Sized (x : Sections) (c : Counts) : Type 0 where
  pub facilities : length x.facilities ≡ facility_size * c.facilities
  pub operations : length x.operations ≡ operation_size * c.operations
  pub expressions : length x.expressions ≡ node_size * c.expressions
  pub actions : length x.actions ≡ action_size * c.actions
  pub states : length x.states ≡ state_size * c.states
  pub names : length x.names ≡ c.names

abbrev pub body_of : Sections → List ℕ
body_of x = x.facilities ++ (x.operations ++ (x.expressions ++ (x.actions ++ (x.states ++ x.names))))

-- The first 52 bytes of an image are the header for its counts.
pub image-header : (x : Sections) (c : Counts) → Sized x c → image_of x ≡ fours (header_numbers c) ++ body_of x
unfolding image_of header_numbers fours little
image-header x c z =
    let f : facility_size * c.facilities / facility_size ≡ c.facilities = omega arith in
    let o : operation_size * c.operations / operation_size ≡ c.operations = omega arith in
    let e : node_size * c.expressions / node_size ≡ c.expressions = omega arith in
    let a : action_size * c.actions / action_size ≡ c.actions = omega arith in
    let s : state_size * c.states / state_size ≡ c.states = omega arith in
    let n : c.names / 1 ≡ c.names = omega arith in
    rw (z.facilities, z.operations, z.expressions, z.actions, z.states, z.names, f, o, e, a, s, n)

-- ---- Numbers back from four bytes each.

fours-back : (ns s : List ℕ) (at j : ℕ) → j < length ns → ((i : ℕ) → i < 4 * length ns → get_or s (at + i) 0 ≡ get_or (fours ns) i 0)
    → get_or ns j 0 < 2 ^ 32 → number_at 4 (at + 4 * j) s ≡ get_or ns j 0
unfolding fours little
fours-back [] s at j h f g = absurd (omega arith)
fours-back (x ∷ ns) s at zero h f g =
    let e : at + 4 * 0 ≡ at = omega arith in
    rw e (number-back 4 at x s g (by_place f))
  where
    by_place : ((i : ℕ) → i < 4 * suc (length ns) → get_or s (at + i) 0 ≡ get_or (fours (x ∷ ns)) i 0) → (i : ℕ) → i < 4 → get_or s (at + i) 0 ≡ get_or (little 4 x) i 0
    by_place f zero l = f 0 (omega arith)
    by_place f (suc zero) l = f 1 (omega arith)
    by_place f (suc (suc zero)) l = f 2 (omega arith)
    by_place f (suc (suc (suc zero))) l = f 3 (omega arith)
    by_place f (suc (suc (suc (suc i)))) l = absurd (omega arith)
fours-back (x ∷ ns) s at (suc j) h f g =
    let e : at + 4 * suc j ≡ at + 4 + 4 * j = omega arith in
    rw e (fours-back ns s (at + 4) j (omega arith) (λ i l. let d : at + 4 + i ≡ at + suc (suc (suc (suc i))) = omega arith in rw d (f (suc (suc (suc (suc i)))) (omega arith))) g)

-- ---- From a header that stands to the sections.

module _ (s : List ℕ) (c : Counts) (stands : take header_size s ≡ fours (header_numbers c)) where
  byte : (i : ℕ) → i < header_size → get_or s (0 + i) 0 ≡ get_or (fours (header_numbers c)) i 0
  byte i h = let e : 0 + i ≡ i = omega arith in rw e (sym (get_or-take header_size s i 0 h) ∙ ap (λ (l : List ℕ). get_or l i 0) stands)

  -- The total is what fits four bytes.
  pub total-below : number_at 4 length_field s < 2 ^ 32
  unfolding number_at fours little header_numbers
  total-below =
      let b0 : get_or s 0 0 ≡ total_of c % 256 = byte 0 (omega arith) in
      let b1 : get_or s 1 0 ≡ total_of c / 256 % 256 = byte 1 (omega arith) in
      let b2 : get_or s 2 0 ≡ total_of c / 256 / 256 % 256 = byte 2 (omega arith) in
      let b3 : get_or s 3 0 ≡ total_of c / 256 / 256 / 256 % 256 = byte 3 (omega arith) in
      omega arith

  module _ (below : total_of c < 2 ^ 32) where
    number_of : (j : ℕ) → j < 13 → get_or (header_numbers c) j 0 < 2 ^ 32 → number_at 4 (0 + 4 * j) s ≡ get_or (header_numbers c) j 0
    unfolding header_numbers
    number_of j h g = fours-back (header_numbers c) s 0 j h byte g

    pub total-is : number_at 4 length_field s ≡ total_of c
    unfolding header_numbers
    total-is = number_of 0 (omega arith) below

    pub counts-are : counts_in s ≡ c
    unfolding header_numbers counts_in
    counts-are =
        let f : number_at 4 4 s ≡ c.facilities = number_of 1 (omega arith) (omega arith) in
        let o : number_at 4 12 s ≡ c.operations = number_of 3 (omega arith) (omega arith) in
        let e : number_at 4 20 s ≡ c.expressions = number_of 5 (omega arith) (omega arith) in
        let a : number_at 4 28 s ≡ c.actions = number_of 7 (omega arith) (omega arith) in
        let t : number_at 4 36 s ≡ c.states = number_of 9 (omega arith) (omega arith) in
        let n : number_at 4 44 s ≡ c.names = number_of 11 (omega arith) (omega arith) in
        rw (f, o, e, a, t, n)

    -- The sections stand one after the other.
    abbrev cut : Sections
    cut = record {
      facilities = take (facility_size * c.facilities) (drop header_size s);
      operations = take (operation_size * c.operations) (drop (operations_from c) s);
      expressions = take (node_size * c.expressions) (drop (expressions_from c) s);
      actions = take (action_size * c.actions) (drop (actions_from c) s);
      states = take (state_size * c.states) (drop (states_from c) s);
      names = take (1 * c.names) (drop (names_from c) s);
    }

    pub sections-are : sections_in s ≡ cut
    unfolding header_numbers sections_in
    sections-are =
        let f : number_at 4 4 s ≡ c.facilities = number_of 1 (omega arith) (omega arith) in
        let o : number_at 4 12 s ≡ c.operations = number_of 3 (omega arith) (omega arith) in
        let e : number_at 4 20 s ≡ c.expressions = number_of 5 (omega arith) (omega arith) in
        let a : number_at 4 28 s ≡ c.actions = number_of 7 (omega arith) (omega arith) in
        let t : number_at 4 36 s ≡ c.states = number_of 9 (omega arith) (omega arith) in
        let n : number_at 4 44 s ≡ c.names = number_of 11 (omega arith) (omega arith) in
        let f2 : number_at 4 8 s ≡ header_size = number_of 2 (omega arith) (omega arith) in
        let o2 : number_at 4 16 s ≡ operations_from c = number_of 4 (omega arith) (omega arith) in
        let e2 : number_at 4 24 s ≡ expressions_from c = number_of 6 (omega arith) (omega arith) in
        let a2 : number_at 4 32 s ≡ actions_from c = number_of 8 (omega arith) (omega arith) in
        let t2 : number_at 4 40 s ≡ states_from c = number_of 10 (omega arith) (omega arith) in
        let n2 : number_at 4 48 s ≡ names_from c = number_of 12 (omega arith) (omega arith) in
        rw (f, o, e, a, t, n, f2, o2, e2, a2, t2, n2)

    module _ (long : total_of c ≤ length s) where
      run : (n from : ℕ) → from + n ≤ length s → length (take n (drop from s)) ≡ n
      run n from h = length-take-le n (drop from s) (omega (arith, length-drop from s))

      cut-sized : Sized cut c
      cut-sized = record {
        facilities = run (facility_size * c.facilities) header_size (omega arith);
        operations = run (operation_size * c.operations) (operations_from c) (omega arith);
        expressions = run (node_size * c.expressions) (expressions_from c) (omega arith);
        actions = run (action_size * c.actions) (actions_from c) (omega arith);
        states = run (state_size * c.states) (states_from c) (omega arith);
        names = run (1 * c.names) (names_from c) (omega arith) ∙ omega arith;
      }

      cut-whole : take (total_of c) s ≡ fours (header_numbers c) ++ body_of cut
      cut-whole =
          let e : c.names ≡ 1 * c.names = omega arith in
          take-add (names_from c) c.names s
          ∙ rw (
            take-add (states_from c) (state_size * c.states) s,
            take-add (actions_from c) (action_size * c.actions) s,
            take-add (expressions_from c) (node_size * c.expressions) s,
            take-add (operations_from c) (operation_size * c.operations) s,
            take-add 52 (facility_size * c.facilities) s,
            stands,
            ← e,
          )
          (simp append_assoc)

      pub image-is : take (total_of c) s ≡ image_of (sections_in s)
      image-is = cut-whole ∙ sym (image-header cut c cut-sized) ∙ ap image_of (sym sections-are)

      pub sections-sized : Sized (sections_in s) c
      sections-sized = rw sections-are cut-sized

-- ---- The test is exact.

refused : (s : List ℕ) → header_right s ≡ true → header_right s ≡ false → ⊥
refused s p q = true≢false (sym p ∙ q)

-- What the test says of an image.
pub record Right (s : List ℕ) : Type 0 where
  pub long : total_of (counts_in s) ≤ length s
  pub total : number_at 4 length_field s ≡ total_of (counts_in s)
  pub stands : take header_size s ≡ fours (header_numbers (counts_in s))

pub right-parts : (s : List ℕ) → header_right s ≡ true → Right s
right-parts s p = by_length (leb (total_of (counts_in s)) (length s)) refl
  where
    by_total : total_of (counts_in s) ≤ length s → (b : Bool) → eqb (number_at 4 length_field s) (total_of (counts_in s)) ≡ b → Right s
    by_total h true t =
        let e = eqb-true (number_at 4 length_field s) (total_of (counts_in s)) t in
        record { long = h; total = e; stands = same_true (take header_size s) (fours (header_numbers (counts_in s))) (sym (right-same s h e) ∙ p) }
    by_total h false t = absurd (refused s p (right-other s h (eqb-false (number_at 4 length_field s) (total_of (counts_in s)) t)))

    by_length : (b : Bool) → leb (total_of (counts_in s)) (length s) ≡ b → Right s
    by_length true t = by_total (leb-true _ _ t) (eqb (number_at 4 length_field s) (total_of (counts_in s))) refl
    by_length false t = absurd (refused s p (right-short s (leb-false _ _ t)))

-- The bytes up to the total length are the image of the sections.
pub header-sound : (s : List ℕ) → header_right s ≡ true → take (number_at 4 length_field s) s ≡ image_of (sections_in s)
header-sound s p =
    let r = right-parts s p in
    let b : total_of (counts_in s) < 2 ^ 32 = rw r.total at (total-below s (counts_in s) r.stands) in
    rw r.total (image-is s (counts_in s) r.stands b r.long)

pub header-sized : (s : List ℕ) → header_right s ≡ true → Sized (sections_in s) (counts_in s)
header-sized s p =
    let r = right-parts s p in
    let b : total_of (counts_in s) < 2 ^ 32 = rw r.total at (total-below s (counts_in s) r.stands) in
    sections-sized s (counts_in s) r.stands b r.long

same-front : (a b c d : List ℕ) → a ++ b ≡ c ++ d → length a ≡ length c → a ≡ c
same-front a b c d e l = sym (take_at a b (length a) refl) ∙ ap (take (length a)) e ∙ take_at c d (length a) (sym l)

same_back : (a b c d : List ℕ) → a ++ b ≡ c ++ d → length a ≡ length c → b ≡ d
same_back a b c d e l = sym (drop_at a b (length a) refl) ∙ ap (drop (length a)) e ∙ drop_at c d (length a) (sym l)

abbrev made : List ℕ → List ℕ → List ℕ → List ℕ → List ℕ → List ℕ → Sections
made f o e a s n = record { facilities = f; operations = o; expressions = e; actions = a; states = s; names = n }

made-same : {f f' o o' e e' a a' s s' n n' : List ℕ} → f ≡ f' → o ≡ o' → e ≡ e' → a ≡ a' → s ≡ s' → n ≡ n' → made f o e a s n ≡ made f' o' e' a' s' n'
made-same p q r u v w = rw (p, q, r, u, v, w)

-- Sections of the same sizes that make the same bytes are the same.
same-sections : (x y : Sections) (c : Counts) → Sized x c → Sized y c → body_of x ≡ body_of y → x ≡ y
same-sections x y c p q e0 =
    let l0 = p.facilities ∙ sym q.facilities in
    let l1 = p.operations ∙ sym q.operations in
    let l2 = p.expressions ∙ sym q.expressions in
    let l3 = p.actions ∙ sym q.actions in
    let l4 = p.states ∙ sym q.states in
    let e1 = same_back x.facilities (from1 x) y.facilities (from1 y) e0 l0 in
    let e2 = same_back x.operations (from2 x) y.operations (from2 y) e1 l1 in
    let e3 = same_back x.expressions (from3 x) y.expressions (from3 y) e2 l2 in
    let e4 = same_back x.actions (from4 x) y.actions (from4 y) e3 l3 in
    let f = same-front x.facilities (from1 x) y.facilities (from1 y) e0 l0 in
    let o = same-front x.operations (from2 x) y.operations (from2 y) e1 l1 in
    let g = same-front x.expressions (from3 x) y.expressions (from3 y) e2 l2 in
    let a = same-front x.actions (from4 x) y.actions (from4 y) e3 l3 in
    let t = same-front x.states x.names y.states y.names e4 l4 in
    let n = same_back x.states x.names y.states y.names e4 l4 in
    made-same f o g a t n
  where
    from4 : Sections → List ℕ
    from4 z = z.states ++ z.names

    from3 : Sections → List ℕ
    from3 z = z.actions ++ from4 z

    from2 : Sections → List ℕ
    from2 z = z.expressions ++ from3 z

    from1 : Sections → List ℕ
    from1 z = z.operations ++ from2 z

module _ (s : List ℕ) (x : Sections) (c : Counts) (z : Sized x c) (below : total_of c < 2 ^ 32) (is : take (total_of c) s ≡ image_of x) where
  whole : take (total_of c) s ≡ fours (header_numbers c) ++ body_of x
  whole = is ∙ image-header x c z

  whole_long : total_of c ≤ length s
  whole_long =
      let l : length (body_of x) ≡ total_of c - header_size =
      simp (length-append, z.facilities, z.operations, z.expressions, z.actions, z.states, z.names) (omega arith) in
      let k : length (fours (header_numbers c) ++ body_of x) ≡ header_size + length (body_of x) = length-append (fours (header_numbers c)) (body_of x) ∙ rw (header-bytes c) in
      omega (arith, length-take (total_of c) s, ap length whole)

  whole-stands : take header_size s ≡ fours (header_numbers c)
  whole-stands =
      sym (take-take header_size (total_of c) s (omega arith)) ∙ ap (take header_size) whole ∙ take_at (fours (header_numbers c)) (body_of x) header_size (header-bytes c)

  -- The image of sections has the right header.
  pub header-complete : header_right s ≡ true
  header-complete =
      let e = counts-are s c whole-stands below in
      right-same s (rw e whole_long) (rw e (total-is s c whole-stands below)) ∙ rw e (same_of whole-stands)

  -- And they are found in it.
  pub sections-found : sections_in s ≡ x
  sections-found =
      let g = sections-are s c whole-stands below in
      g ∙ same-sections (cut s c whole-stands below) x c (cut-sized s c whole-stands below whole_long) z
      (same_back (fours (header_numbers c)) _ (fours (header_numbers c)) (body_of x) (sym (cut-whole s c whole-stands below whole_long) ∙ whole) refl)
