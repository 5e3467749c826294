use mathlib.Core.List.{List}
use mathlib.Core.Path.{◌≡◌, sym, ap, ◌∙◌}
use Prim.Native.Nat.{ℕ, ◌<◌}
use native.Mathlib.Omega.{arith}
use lib.ListN.{length}
use Rattle.language.specs.Description.{word_length}
use Rattle.language.specs.Meaning as M
use Rattle.language.specs.Value as L
use Rattle.image_sections.specs.Declarations.{facility_meant}
use Rattle.store_layout.specs.InBytes.{load_bytes}
use Rattle.run_references.proofs.PlaceLaws.{facility-known, name_of, stored-load, stored-read, whole-place}
use Rattle.run_references.proofs.whole.stored.Goals as goal

pub returns : goal.returns
returns c =
    λ E d x h e ev.
    let f = c.facility_at-f in
    let k = name_of h c.args.number f.result f.ensures in
    let w : c.word_length-length.result ≡ word_length (facility_meant k f.result) = c.word_length-length.ensures.1 k in
    let n : c.args.number < length d.facilities = rw h.count c.if-section-number.false in
    let q = whole-place h c.args.number f.result f.ensures ev c.if-section-number.false (omega arith) (omega (arith, w, c.if-length-gt-LONGEST.false)) in
    let z = sym c.is_computed.ensures ∙ c.if-is_computed.false in
    let p : M.Place = M.place c.args.number 0 0 (word_length (facility_meant k f.result)) in
    let load : ℕ → M.Answer = λ m. M.Answer.is (L.value p.count m) in
    rw (facility-known h c.args.number f.result f.ensures, q)
    (rw w at (ap M.Answer.is (c.of_stored.ensures k)) ∙ (ap load (stored-load h c.args.number f.result f.ensures n z c.args.store.now 0 0 p.count ∙ ap (λ (B : List ℕ). load_bytes d B p) (sym e)) ∙ sym (stored-read d x ev k f.result p z)))
