use mathlib.Core.Path.{sym, ap, ◌∙◌}
use mathlib.Core.List.{List, [], ◌∷◌}
use Prim.Native.Nat.{ℕ, ◌-◌, ◌^◌}
use borrow.Author.Tests.{not-false, not-true}
use lib.Dec.{ltb}
use Rattle.language.specs.Acting as T
use Rattle.language.specs.Description.{is_sequencing}
use Rattle.language.specs.Storing.{may_store}
use Rattle.value_limbs.specs.Limbs.{number}
use Rattle.run_references.specs.Places.{place_meant}
use Rattle.run_references.proofs.PlaceLaws.{name_of}
use Rattle.store_layout.specs.InBytes.{any_marked, bytes, mark_all, put_all, put_bytes}
use Rattle.run_stores.specs.Seen.{ran_seen, went}
use Rattle.run_stores.proofs.StoreLaws.{bytes-seen, kind-known, not-storable, or-false, seen-late, seen-now, sides-differ, spot-load, spot-put, stored-kind, stores-late, stores-now}
use Rattle.run_stores.proofs.stores.store_one.Goals as goal

pub returns-then-v-p : goal.returns-then-v-p
returns-then-v-p c =
    λ F E d x h e t. ap ran_seen (sym (sides-differ (bytes d) d _ _ _ _ _ _ x c.if-v-p.true))

pub returns-then-not-may_store : goal.returns-then-not-may_store
returns-then-not-may_store c =
    λ F E d x h e t.
    ap ran_seen (sym (not-storable (bytes d) d _ _ _ _ _ _ x c.if-v-p.false (ap (may_store c.args.sign) (kind-known h c.args.p c.args.f t) ∙ (sym c.may_store.ensures ∙ not-true _ c.if-not-may_store.true-raw))))

pub returns-then-sign-eq-DELAYED : goal.returns-then-sign-eq-DELAYED
unfolding put_all mark_all any_marked
returns-then-sign-eq-DELAYED c =
    λ F E d x h e t.
    let y = sym c.may_store.ensures ∙ not-false _ c.if-not-may_store.false-raw in
    let k = stored-kind c.args.sign _ y in
    let w = c.spot_of-s.ensures (name_of h c.args.p.facility c.args.f t.read) in
    let put = spot-put h c.args.p c.args.f t k c.spot_of-s.result w in
    let n = number c.args.v.limbs in
    let ws = T.write (bytes d) d (place_meant c.args.p) n ∷ [] in
    let hit = c.marked-hit.ensures ∙ (ap (ltb 0) (spot-load h c.args.p c.args.f t k c.spot_of-s.result w c.args.mask.now) ∙ sym (or-false _)) in
    let q = c.is_sequencing.ensures ∙ sym (ap is_sequencing (kind-known h c.args.p c.args.f t)) in
    ap went (seen-late d x c.args.g c.args.store.now c.args.pending.now c.args.mask.now e c.delaying.result ws _ _ c.marked-hit.result c.is_sequencing.result _ (c.delay.ensures.0 ∙ put c.args.pending.now n) (c.delay.ensures.1 ∙ put c.args.mask.now (2 ^ 256 - 1)) hit q c.delaying.ensures)
    ∙ ap ran_seen (sym (stores-late (bytes d) d _ _ _ _ _ ws x c.if-v-p.false (ap (may_store c.args.sign) (kind-known h c.args.p c.args.f t) ∙ y) c.if-sign-eq-DELAYED.true))

pub returns : goal.returns
unfolding T.put_all
returns c =
    λ F E d x h e t.
    let y = sym c.may_store.ensures ∙ not-false _ c.if-not-may_store.false-raw in
    let k = stored-kind c.args.sign _ y in
    let w = c.spot_of-s.ensures (name_of h c.args.p.facility c.args.f t.read) in
    let n = number c.args.v.limbs in
    let ws = T.write (bytes d) d (place_meant c.args.p) n ∷ [] in
    let q = c.put.ensures ∙ (spot-put h c.args.p c.args.f t k c.spot_of-s.result w c.args.store.now n ∙ ap (λ (Z : List ℕ). put_bytes d Z (T.write (bytes d) d (place_meant c.args.p) n)) (sym (bytes-seen d x c.args.g c.args.store.now c.args.pending.now c.args.mask.now e))) in
    ap went (seen-now d x c.args.g c.args.store.now c.args.pending.now c.args.mask.now e _ _ q)
    ∙ ap ran_seen (sym (stores-now (bytes d) d _ _ _ _ _ ws x c.if-v-p.false (ap (may_store c.args.sign) (kind-known h c.args.p c.args.f t) ∙ y) c.if-sign-eq-DELAYED.false))
