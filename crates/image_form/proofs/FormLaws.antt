-- The parts of the form together.
use mathlib.Core.Bool.{Bool, true, false}
use mathlib.Core.List.{List}
use mathlib.Core.Path.{◌≡◌, refl, sym, ap, ◌∙◌}
use Prim.Native.Nat.{ℕ, ◌+◌, ◌/◌, ◌≤◌}
use native.Mathlib.Omega.{arith}
use borrow.Author.Tests.{eqb-false, eqb-true}
use lib.Dec.{eqb}
use lib.ListN.{drop, length, take, length-drop}
use lib.Seq.{take_all}
use Rattle.language.specs.Canonical.{all, canonical, counts_right, facilities_right, label_right, name_right}
use Rattle.language.specs.Decode.{decode, described, names_length, section_at, sections_in}
use Rattle.language.specs.Encode.{Sections, action_bytes, action_size, actions_section, concat, expressions_section, facilities_section, facility_records, facility_size, name_size, names_section, node_bytes, node_size, operation_size, operations_section, sections_of, state_size, states_section}
use Rattle.language.specs.Order.{runs_right, trees_right}
use Rattle.language.specs.Scan.{same}
use Rattle.image_records.proofs.ByteLaws.{same_of}
use Rattle.image_sections.proofs.ImageLaws.{Sized, header-sized}
use Rattle.image_sections.specs.Header.{counts_in, header_right}
use Rattle.image_sections.specs.declared.header.Counts.{Counts}
use Rattle.about_images.specs.Again.{Bytes, all_names, facility-long, names-again, names-exact, operations-again, states-again}
use Rattle.about_images.specs.Whole.{bytes-right, same-sections, sections_same}
use Rattle.image_order.proofs.HoldsLaws.{facility-named}
use Rattle.image_form.proofs.LabelLaws.{facilities-named, operations-named}
use Rattle.image_form.specs.Form.{NamesLong, form_right, sectioned}
use Rattle.image_form.specs.Names.{labels_right, named_right, names_right}
use Rattle.language.specs.Tests.{both}

pub both_true : (b : Bool) → both b true ≡ b
both_true true = refl
both_true false = refl

pub both_false : (b : Bool) → both b false ≡ false
both_false true = refl
both_false false = refl

module _ (x : Sections) (c : Counts) (z : Sized x c) where
  -- ---- As many records as the counts say.

  facilities-many : length x.facilities / facility_size ≡ c.facilities
  facilities-many = omega (arith, z.facilities)

  operations-many : length x.operations / operation_size ≡ c.operations
  operations-many = omega (arith, z.operations)

  states-many : length x.states / state_size ≡ c.states
  states-many = omega (arith, z.states)

  -- ---- The bytes.

  -- What the counted records say of names.
  abbrev said_names : ℕ
  said_names = names_length c.facilities 2 facility_size x.facilities + (names_length c.operations 0 operation_size x.operations + names_length c.states 0 state_size x.states)

  said_all : said_names ≡ all_names x
  said_all = rw (facilities-many, operations-many, states-many)

  pub names-unfit : eqb said_names (length x.names) ≡ false → sections_same x ≡ false
  names-unfit e = by-test (sections_same x) refl
    where
      by-test : (b : Bool) → sections_same x ≡ b → sections_same x ≡ false
      by-test true t = absurd (eqb-false said_names (length x.names) e (said_all ∙ names-exact x (same-sections x t)))
      by-test false t = t

  module _ (e : eqb said_names (length x.names) ≡ true) where
    names-fit : all_names x ≡ length x.names
    names-fit = sym said_all ∙ eqb-true said_names (length x.names) e

    pub names-long : NamesLong (described x) x.facilities
    names-long n h = ap length (facility-named x n) ∙ facility-long x n h (omega (arith, names-fit))

    pub facilities-differ : same x.facilities (facility_records 0 (described x).facilities) ≡ false → sections_same x ≡ false
    unfolding sections_same sections_of
    facilities-differ f = rw (same_of (names-again x names-fit), f)

    module _ (f : same x.facilities (facility_records 0 (described x).facilities) ≡ true) (bo : Bytes x.operations) where
      operations-same : same x.operations (sections_of (described x)).operations ≡ true
      unfolding sections_of
      operations-same = same_of (operations-again x (omega (arith, z.operations)) bo (omega (arith, names-fit)))

      pub nodes-differ : same x.expressions (concat node_bytes (described x).expressions) ≡ false → sections_same x ≡ false
      unfolding sections_same sections_of
      nodes-differ g = rw (same_of (names-again x names-fit), f, operations-same, g)

      pub actions-left : same x.expressions (concat node_bytes (described x).expressions) ≡ true → Bytes x.states
          → sections_same x ≡ same x.actions (concat action_bytes (described x).actions)
      unfolding sections_same sections_of
      actions-left g bs =
          rw (same_of (names-again x names-fit), f, operations-same, g, same_of (states-again x (omega (arith, z.states)) bs (omega (arith, names-fit))))
          (both_true (same x.actions (concat action_bytes (described x).actions)))

  -- ---- What they describe.

  abbrev all_named : Bool
  all_named = both (all (λ f. name_right f.name) (described x).facilities)
      (both (all (λ o. name_right o.name) (described x).operations) (all (λ s. label_right s.name s.value) (described x).states))

  named-all : named_right c x.facilities x.operations x.states x.names ≡ all_named
  unfolding named_right described labels_right
  named-all =
      let second = drop (names_length c.facilities 2 facility_size x.facilities) x.names in
      rw (
        facilities-many,
        operations-many,
        facilities-named c.facilities 0 x.facilities x.names,
        operations-named c.operations 0 x.operations second,
      )

  canonical-parts : canonical (described x)
      ≡ both (counts_right (described x)) (both (facilities_right 0 (described x).facilities)
      (both (named_right c x.facilities x.operations x.states x.names) (both (trees_right (described x)) (runs_right (described x)))))
  unfolding canonical
  canonical-parts =
      rw named-all
      (ap (λ (b : Bool). both (counts_right (described x)) (both (facilities_right 0 (described x).facilities) b))
      (three (all (λ f. name_right f.name) (described x).facilities) (all (λ o. name_right o.name) (described x).operations) _ _))
    where
      three : (p q r t : Bool) → both p (both q (both r t)) ≡ both (both p (both q r)) t
      three true true r t = refl
      three true false r t = refl
      three false q r t = refl

  pub counts-not : counts_right (described x) ≡ false → canonical (described x) ≡ false
  counts-not e = canonical-parts ∙ rw e

  module _ (k : counts_right (described x) ≡ true) where
    pub shapes-not : facilities_right 0 (described x).facilities ≡ false → canonical (described x) ≡ false
    shapes-not e = canonical-parts ∙ rw (k, e)

    module _ (h : facilities_right 0 (described x).facilities ≡ true) where
      pub named-not : named_right c x.facilities x.operations x.states x.names ≡ false → canonical (described x) ≡ false
      named-not e = canonical-parts ∙ rw (k, h, e)

      module _ (n : named_right c x.facilities x.operations x.states x.names ≡ true) where
        pub runs-not : runs_right (described x) ≡ false → canonical (described x) ≡ false
        runs-not e = canonical-parts ∙ rw (k, h, n, e) (both_false (trees_right (described x)))

        pub trees-left : runs_right (described x) ≡ true → canonical (described x) ≡ trees_right (described x)
        trees-left e = canonical-parts ∙ rw (k, h, n, e) (both_true (trees_right (described x)))

-- ---- The whole.

module _ (image : List ℕ) where
  pub header-not : header_right image ≡ false → form_right image ≡ false
  unfolding form_right
  header-not e = rw (bytes-right image, e)

  module _ (e : header_right image ≡ true) where
    pub written-not : sections_same (sections_in image) ≡ false → form_right image ≡ false
    unfolding form_right
    written-not f = rw (bytes-right image, e, f)

    pub form-left : sections_same (sections_in image) ≡ true → form_right image ≡ canonical (described (sections_in image))
    unfolding form_right decode
    form-left f = rw (bytes-right image, e, f)

  -- The sections, one by one.
  pub sections-are : {f o x a s n : List ℕ} → f ≡ section_at facilities_section facility_size image → o ≡ section_at operations_section operation_size image → x ≡ section_at expressions_section node_size image → a ≡ section_at actions_section action_size image
      → s ≡ section_at states_section state_size image → n ≡ section_at names_section name_size image → sectioned f o x a s n ≡ sections_in image
  unfolding sections_in
  sections-are p q r t u v = rw (p, q, r, t, u, v)

  pub sections-sized : {x : Sections} {c : Counts} → header_right image ≡ true → x ≡ sections_in image → c ≡ counts_in image → Sized x c
  sections-sized e p q = rw (p, q) (header-sized image e)

-- ---- Names behind others.

module _ (c : Counts) (f o s names : List ℕ) where
  rest_of : (l k n : ℕ) (t : List ℕ) {p : List ℕ} → length t ≤ l → p ≡ take l (drop k t) → k ≡ n → p ≡ drop n t
  rest_of l k n t h e g = e ∙ take_all l (drop k t) (omega (arith, length-drop k t)) ∙ ap (λ (m : ℕ). drop m t) g

  abbrev second : List ℕ
  second = drop (names_length c.facilities 2 facility_size f) names

  pub second_is : {p : List ℕ} (k : ℕ) → p ≡ take (length names) (drop k names) → k ≡ names_length c.facilities 2 facility_size f → p ≡ second
  second_is k e g = rest_of (length names) k _ names (omega arith) e g

  pub third-is : {p q : List ℕ} (k : ℕ) → p ≡ second → q ≡ take (length names) (drop k p) → k ≡ names_length c.operations 0 operation_size o
      → q ≡ drop (names_length c.operations 0 operation_size o) second
  third-is {p} k e g h =
      rest_of (length names) k _ second (omega (arith, length-drop (names_length c.facilities 2 facility_size f) names)) (g ∙ ap (λ (t : List ℕ). take (length names) (drop k t)) e) h

  pub first-unnamed : names_right c.facilities 2 facility_size f names ≡ false → named_right c f o s names ≡ false
  unfolding named_right
  first-unnamed e = rw e

  module _ (e : names_right c.facilities 2 facility_size f names ≡ true) where
    pub second-unnamed : {p : List ℕ} → p ≡ second → names_right c.operations 0 operation_size o p ≡ false → named_right c f o s names ≡ false
    unfolding named_right
    second-unnamed q g = rw (e, ← q, g)

    pub third-left : {p q : List ℕ} → p ≡ second → names_right c.operations 0 operation_size o p ≡ true → q ≡ drop (names_length c.operations 0 operation_size o) second
        → named_right c f o s names ≡ labels_right s q
    unfolding named_right
    third-left u g v = rw (e, sym (ap (names_right c.operations 0 operation_size o) u) ∙ g, ← v)
