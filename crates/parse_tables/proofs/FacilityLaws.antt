-- A facility's record, its places and its name, as they are declared.
use mathlib.Core.Bool.{Bool, true, false, cond}
use mathlib.Core.List.{List}
use mathlib.Core.Path.{◌≡◌, refl, ◌∙◌}
use Prim.Native.Nat.{ℕ, ◌%◌}
use native.Mathlib.Omega.{arith}
use lib.ListN.{length, length-replicate, replicate}
use Rattle.image_sections.specs.declared.facilities.ShortBounds.{ShortBounds}
use Rattle.image_sections.specs.Declarations.{facility_meant, kind_meant}
use Rattle.language.specs.Description as D
use Rattle.language.specs.Description.{is_computed}
use Rattle.language.specs.Encode.{facility_record, two}
use Rattle.language.specs.Tree.{Name}
use Rattle.parse_tables.proofs.TwoBytes.{two-low}
use Rattle.parse_tables.specs.declared.facilities.Declared.{Declared}
use Rattle.parse_tables.specs.Facilities.{facility_said}

-- ---- The record.

located : (b : Bool) (e at : ℕ) {place : ℕ} → place ≡ at % 65536 → two (cond b (cond b e 0) place) ≡ two (cond b e at)
located true e at h = refl
located false e at h = two-low at h

same-record : (f g : D.Facility) (p q : ℕ) → f.kind ≡ g.kind → f.dimensions ≡ g.dimensions → length f.name % 256 ≡ length g.name % 256
    → two f.words.first ≡ two g.words.first → two f.words.last ≡ two g.words.last → two f.bits.first ≡ two g.bits.first → two f.bits.last ≡ two g.bits.last
    → two (cond (is_computed f.kind) f.expression p) ≡ two (cond (is_computed g.kind) g.expression q) → facility_record p f ≡ facility_record q g
unfolding facility_record
same-record f g p q a b c d e h i j = rw (b, c, d, e, h, i, j, a)

pub record-said : (name : Name) (at : ℕ) (x : Declared) {place : ℕ} {ws bs : ShortBounds} {r : List ℕ} → length name ≡ x.size → place ≡ at % 65536
    → ws.first ≡ x.extent.words.first % 65536 → ws.last ≡ x.extent.words.last % 65536 → bs.first ≡ x.extent.bits.first % 65536 → bs.last ≡ x.extent.bits.last % 65536
    → ((n : Name) → length n ≡ x.size % 256 → r ≡ facility_record place (facility_meant n (record { kind = x.kind; dimensions = x.extent.dimensions; name = x.size % 256; words = ws; bits = bs; place = x.expression })))
    → r ≡ facility_record at (facility_said name x)
record-said name at x l p a b c d g =
    let n : Name = replicate (x.size % 256) 0 in
    let k : length n ≡ x.size % 256 = length-replicate (x.size % 256) 0 in
    g n k ∙ same-record (facility_meant n (record { kind = x.kind; dimensions = x.extent.dimensions; name = x.size % 256; words = _; bits = _; place = x.expression })) (facility_said name x) _ at
    refl refl (omega (arith, k, l)) (two-low x.extent.words.first a) (two-low x.extent.words.last b) (two-low x.extent.bits.first c) (two-low x.extent.bits.last d)
    (located (is_computed (kind_meant x.kind)) x.expression at p)
