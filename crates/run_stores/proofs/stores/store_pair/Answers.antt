use mathlib.Core.Path.{sym, ap, ap₂, ◌∙◌}
use mathlib.Core.List.{List, [], ◌∷◌}
use mathlib.Core.Bool.{Bool, ◌||◌, cond, false}
use Prim.Native.Nat.{ℕ, ◌-◌, ◌/◌, ◌%◌, ◌^◌}
use borrow.Author.Tests.{not-false, not-true}
use lib.Dec.{ltb}
use Rattle.language.specs.Acting as T
use Rattle.language.specs.Description.{is_sequencing}
use Rattle.language.specs.Storing.{may_store}
use Rattle.language.specs.Meaning.{Write}
use Rattle.language.specs.Tree.{Kind}
use Rattle.value_limbs.specs.Limbs.{number}
use Rattle.run_references.specs.Places.{place_meant}
use Rattle.run_references.proofs.PlaceLaws.{name_of}
use Rattle.store_layout.specs.InBytes.{any_marked, bytes, mark_all, put_all, put_bytes}
use Rattle.run_stores.specs.Seen.{ran_seen, went}
use Rattle.run_stores.proofs.StoreLaws.{both_true, bytes-seen, kind-known, not-storable, or-false, seen-late, seen-now, sides-differ, spot-load, spot-put, stored-kind, stores-late, stores-now}
use Rattle.run_stores.proofs.stores.store_pair.Goals as goal

pub returns-then-v-p : goal.returns-then-v-p
returns-then-v-p c =
    λ F E d x h e t u. ap ran_seen (sym (sides-differ (bytes d) d _ _ _ _ _ _ x c.if-v-p.true))

pub returns-then-not-may_both : goal.returns-then-not-may_both
returns-then-not-may_both c =
    λ F E d x h e t u.
    let k = ap₂ (λ (m n : Kind). cond (may_store c.args.sign m) (may_store c.args.sign n) false) (kind-known h c.args.p c.args.f t) (kind-known h c.args.q c.args.h u) in
    ap ran_seen (sym (not-storable (bytes d) d _ _ _ _ _ _ x c.if-v-p.false (k ∙ (sym c.may_both.ensures ∙ not-true _ c.if-not-may_both.true-raw))))

pub returns-then-sign-eq-DELAYED : goal.returns-then-sign-eq-DELAYED
unfolding put_all mark_all any_marked
returns-then-sign-eq-DELAYED c =
    λ F E d x h e t u.
    let y = sym c.may_both.ensures ∙ not-false _ c.if-not-may_both.false-raw in
    let k = ap₂ (λ (m n : Kind). cond (may_store c.args.sign m) (may_store c.args.sign n) false) (kind-known h c.args.p c.args.f t) (kind-known h c.args.q c.args.h u) in
    let z = both_true _ _ y in
    let left = spot-put h c.args.p c.args.f t (stored-kind c.args.sign _ z.0) c.spot_of-s.result (c.spot_of-s.ensures (name_of h c.args.p.facility c.args.f t.read)) in
    let right = spot-put h c.args.q c.args.h u (stored-kind c.args.sign _ z.1) c.spot_of-t.result (c.spot_of-t.ensures (name_of h c.args.q.facility c.args.h u.read)) in
    let hits = spot-load h c.args.p c.args.f t (stored-kind c.args.sign _ z.0) c.spot_of-s.result (c.spot_of-s.ensures (name_of h c.args.p.facility c.args.f t.read)) c.args.mask.now in
    let meets = spot-load h c.args.q c.args.h u (stored-kind c.args.sign _ z.1) c.spot_of-t.result (c.spot_of-t.ensures (name_of h c.args.q.facility c.args.h u.read)) c.args.mask.now in
    let at_p : ℕ → Write = T.write (bytes d) d (place_meant c.args.p) in
    let at-q : ℕ → Write = T.write (bytes d) d (place_meant c.args.q) in
    let ws = at_p (number c.args.v.limbs / 2 ^ c.args.q.count) ∷ at-q (number c.args.v.limbs % 2 ^ c.args.q.count) ∷ [] in
    let pend = c.delay-then-sign-eq-DELAYED.ensures.0 ∙ (right _ _ ∙ ap₂ (λ (Z : List ℕ) (n : ℕ). put_bytes d Z (at-q n)) (c.delay.ensures.0 ∙ (left c.args.pending.now _ ∙ ap (λ (n : ℕ). put_bytes d c.args.pending.now (at_p n)) c.high.ensures)) c.low.ensures) in
    let masks = c.delay-then-sign-eq-DELAYED.ensures.1 ∙ (right _ _ ∙ ap (λ (Z : List ℕ). put_bytes d Z (at-q (2 ^ 256 - 1))) (c.delay.ensures.1 ∙ left c.args.mask.now (2 ^ 256 - 1))) in
    let hit = ap₂ (λ (m n : Bool). m || n) (c.marked.ensures ∙ ap (ltb 0) hits) (c.marked-then-sign-eq-DELAYED.ensures ∙ (ap (ltb 0) meets ∙ sym (or-false _))) in
    let seq = ap₂ (λ (m n : Bool). m || n) (c.is_sequencing.ensures ∙ sym (ap is_sequencing (kind-known h c.args.p c.args.f t))) (c.is_sequencing-then-sign-eq-DELAYED.ensures ∙ sym (ap is_sequencing (kind-known h c.args.q c.args.h u))) in
    ap went (seen-late d x c.args.g c.args.store.now c.args.pending.now c.args.mask.now e c.delaying.result ws _ _ (c.marked.result || c.marked-then-sign-eq-DELAYED.result) (c.is_sequencing.result || c.is_sequencing-then-sign-eq-DELAYED.result) _ pend masks hit seq c.delaying.ensures)
    ∙ ap ran_seen (sym (stores-late (bytes d) d _ _ _ _ _ ws x c.if-v-p.false (k ∙ y) c.if-sign-eq-DELAYED.true))

pub returns : goal.returns
unfolding T.put_all
returns c =
    λ F E d x h e t u.
    let y = sym c.may_both.ensures ∙ not-false _ c.if-not-may_both.false-raw in
    let k = ap₂ (λ (m n : Kind). cond (may_store c.args.sign m) (may_store c.args.sign n) false) (kind-known h c.args.p c.args.f t) (kind-known h c.args.q c.args.h u) in
    let z = both_true _ _ y in
    let left = spot-put h c.args.p c.args.f t (stored-kind c.args.sign _ z.0) c.spot_of-s.result (c.spot_of-s.ensures (name_of h c.args.p.facility c.args.f t.read)) in
    let right = spot-put h c.args.q c.args.h u (stored-kind c.args.sign _ z.1) c.spot_of-t.result (c.spot_of-t.ensures (name_of h c.args.q.facility c.args.h u.read)) in
    let at_p : ℕ → Write = T.write (bytes d) d (place_meant c.args.p) in
    let at-q : ℕ → Write = T.write (bytes d) d (place_meant c.args.q) in
    let ws = at_p (number c.args.v.limbs / 2 ^ c.args.q.count) ∷ at-q (number c.args.v.limbs % 2 ^ c.args.q.count) ∷ [] in
    let b = sym (bytes-seen d x c.args.g c.args.store.now c.args.pending.now c.args.mask.now e) in
    let q = c.put-2.ensures ∙ (right _ _ ∙ ap₂ (λ (Z : List ℕ) (n : ℕ). put_bytes d Z (at-q n)) (c.put.ensures ∙ (left c.args.store.now _ ∙ ap₂ (λ (Z : List ℕ) (n : ℕ). put_bytes d Z (at_p n)) b c.high-2.ensures)) c.low-2.ensures) in
    ap went (seen-now d x c.args.g c.args.store.now c.args.pending.now c.args.mask.now e _ _ q)
    ∙ ap ran_seen (sym (stores-now (bytes d) d _ _ _ _ _ ws x c.if-v-p.false (k ∙ y) c.if-sign-eq-DELAYED.false))
