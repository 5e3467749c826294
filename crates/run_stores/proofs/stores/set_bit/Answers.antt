use Rattle.image_sections.specs.Declarations.{kind_meant}
use mathlib.Core.Path.{sym, ap, ◌∙◌}
use Prim.Native.Nat.{ℕ}
use borrow.Author.Tests.{eq-eqb, ne_eqb, not-false, not-true}
use mathlib.Core.List.{List}
use Rattle.language.specs.Acting as T
use Rattle.language.specs.Storing.{is_plain}
use Rattle.run_references.specs.Places.{place_meant}
use Rattle.run_references.proofs.PlaceLaws.{name_of}
use Rattle.store_layout.specs.InBytes.{bytes, put_bytes}
use Rattle.run_stores.specs.Seen.{went}
use Rattle.run_stores.proofs.StoreLaws.{bytes-seen, kind-known, plain-stored, seen-now, spot-put}
use Rattle.run_stores.proofs.stores.set_bit.Goals as goal

pub returns-then-not-is_plain : goal.returns-then-not-is_plain
returns-then-not-is_plain c =
    λ F E P M d x h e t. rw (ap is_plain (kind-known h c.args.p c.args.f t) ∙ (sym c.is_plain.ensures ∙ not-true _ c.if-not-is_plain.true-raw))

pub returns-then-p-ne1 : goal.returns-then-p-ne1
returns-then-p-ne1 c =
    λ F E P M d x h e t. rw (ap is_plain (kind-known h c.args.p c.args.f t) ∙ (sym c.is_plain.ensures ∙ not-false _ c.if-not-is_plain.false-raw), ne_eqb _ _ c.if-p-ne1.true)

pub returns : goal.returns
returns c =
    λ F E P M d x h e t.
    let y = sym c.is_plain.ensures ∙ not-false _ c.if-not-is_plain.false-raw in
    let k = plain-stored (kind_meant c.args.f.kind) y in
    let q = c.put.ensures ∙ (spot-put h c.args.p c.args.f t k c.spot_of.result (c.spot_of.ensures (name_of h c.args.p.facility c.args.f t.read)) c.args.store.now _ ∙ (ap (λ (n : ℕ). put_bytes d c.args.store.now (T.write (bytes d) d (place_meant c.args.p) n)) c.small-limbs.ensures ∙ ap (λ (Z : List ℕ). put_bytes d Z (T.write (bytes d) d (place_meant c.args.p) 1)) (sym (bytes-seen d x c.args.g c.args.store.now P M e)))) in
    rw (ap is_plain (kind-known h c.args.p c.args.f t) ∙ y, eq-eqb _ _ c.if-p-ne1.false) (ap went (seen-now d x c.args.g c.args.store.now P M e _ _ q))
