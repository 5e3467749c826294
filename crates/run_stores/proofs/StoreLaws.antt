-- Stores as the code sees them: at once, or delayed under the mask.
use mathlib.Core.Bool.{Bool, true, false, cond, ◌||◌, true≢false}
use mathlib.Core.List.{List}
use mathlib.Core.Path.{◌≡◌, refl, sym, ap, ap₂, ◌∙◌}
use Prim.Native.Nat.{ℕ, ◌+◌, min}
use native.Mathlib.Omega.{arith}
use borrow.Author.Tests.{eq-eqb, ne_eqb}
use lib.Dec.{eqb}
use Rattle.language.specs.Acting as T
use Rattle.language.specs.Description as D
use Rattle.language.specs.Description.{Description, facility_at, is_computed, word_length}
use Rattle.language.specs.Kinds.{delayed_sign, equal_sign}
use Rattle.language.specs.Meaning as M
use Rattle.language.specs.Meaning.{Stores, Write}
use Rattle.language.specs.Storing.{is_plain, may_store, takes_delayed, takes_immediate}
use Rattle.language.specs.Tree as K
use Rattle.language.specs.Tree.{Kind}
use Rattle.language.specs.Value as L
use Rattle.language.specs.Value.{bit}
use Rattle.image_sections.specs.Declarations.{facility_meant, kind_meant}
use Rattle.image_sections.specs.declared.facilities.FacilityRecord.{FacilityRecord}
use Rattle.store_layout.specs.InBytes.{InBytes, any_marked, bytes, load_bytes, mark_all, place_of_word, put_all, put_bytes}
use Rattle.store_layout.specs.Parts.{loaded, saved}
use Rattle.run_references.proofs.PlaceLaws.{facility-known, name_of, stored-load, stored-word}
use Rattle.run_references.specs.Described.{Describes, There}
use Rattle.run_references.specs.Places.{place_meant}
use Rattle.run_references.specs.declared.places.Place.{Place}
use Rattle.run_stores.specs.Seen.{View, seen, viewed}
use Rattle.run_stores.specs.Spots.{spot_of}
use Rattle.run_stores.specs.declared.doing.Doing.{Doing}
use Rattle.run_stores.specs.declared.spots.Spot.{Spot}

pub or-false : (b : Bool) → (b || false) ≡ b
or-false true = refl
or-false false = refl

-- ---- What may be stored to is stored.

not-computed : (b : Bool) (k : Kind) → cond b (takes_delayed k) (takes_immediate k) ≡ true → is_computed k ≡ false
not-computed b K.register e = refl
not-computed b K.sequencing e = refl
not-computed b K.memory e = refl
not-computed b K.plain e = refl
not-computed b K.input e = refl
not-computed true K.computed e = absurd (true≢false (sym e))
not-computed false K.computed e = absurd (true≢false (sym e))

pub stored-kind : (sign : ℕ) (k : Kind) → may_store sign k ≡ true → is_computed k ≡ false
unfolding may_store
stored-kind sign k e = by_sign (eqb sign delayed_sign) (eqb sign equal_sign) e
  where
    by_sign : (a b : Bool) → cond a (takes_delayed k) (cond b (takes_immediate k) false) ≡ true → is_computed k ≡ false
    by_sign true b h = not-computed true k h
    by_sign false true h = not-computed false k h
    by_sign false false h = absurd (true≢false (sym h))

pub plain-stored : (k : Kind) → is_plain k ≡ true → is_computed k ≡ false
plain-stored K.register e = refl
plain-stored K.sequencing e = refl
plain-stored K.memory e = refl
plain-stored K.plain e = refl
plain-stored K.input e = refl
plain-stored K.computed e = absurd (true≢false (sym e))

pub both_true : (a b : Bool) → cond a b false ≡ true → (a ≡ true) × (b ≡ true)
both_true true b e = (refl, e)
both_true false b e = absurd (true≢false (sym e))

-- ---- The bytes of a place.

module _ {d : Description} {F E : List ℕ} (h : Describes d F E) (p : Place) (f : FacilityRecord) (t : There d F p.facility f) where
  pub kind-known : (facility_at d p.facility).kind ≡ kind_meant f.kind
  kind-known = ap (λ (y : D.Facility). y.kind) (facility-known h p.facility f t.read)

  abbrev pub here : Spot
  here = spot_of f.place (facility_meant (name_of h p.facility f t.read) f) p

  module _ (k : is_computed (kind_meant f.kind) ≡ false) (s : Spot) (e : s ≡ here) (B : List ℕ) where
    pub spot-load : (loaded B s.at s.length s.from s.count).number ≡ load_bytes d B (place_meant p)
    spot-load = rw e (stored-load h p.facility f t.read t.listed k B p.word p.from p.count)

    pub spot-put : (n : ℕ) → saved B s.at s.length s.from s.count n ≡ put_bytes d B (T.write (bytes d) d (place_meant p) n)
    unfolding put_bytes
    spot-put n =
        let name = name_of h p.facility f t.read in
        rw e
        (ap (λ (z : ℕ). saved B z (word_length (facility_meant name f)) p.from p.count n) (stored-word h p.facility f t.read t.listed k p.word)
        ∙ sym (ap (λ (y : D.Facility). saved B (place_of_word d.facilities p.facility p.word) (word_length y) p.from p.count n) (facility-known h p.facility f t.read)))

-- ---- What a store does, by its sign.

module _ {X : Type 0} (S : Stores X) (d : Description) (k bits : ℕ) (allowed q : Bool) (v : L.Value) (ws : List Write) (c : T.Doing X) where
  pub sides-differ : (v.length ≡ bits → ⊥) → T.storing S d k bits allowed q v ws c ≡ T.stuck M.sides_differ
  unfolding T.storing
  sides-differ h = rw (ne_eqb v.length bits h)

  module _ (e : v.length ≡ bits) where
    pub not-storable : allowed ≡ false → T.storing S d k bits allowed q v ws c ≡ T.stuck M.not_storable
    unfolding T.storing
    not-storable a = rw (eq-eqb v.length bits e, a)

    module _ (a : allowed ≡ true) where
      pub stores-late : k ≡ delayed_sign → T.storing S d k bits allowed q v ws c ≡ T.went (T.with_store S d (S.delay c.store ws) q c)
      unfolding T.storing T.landing
      stores-late s = rw (eq-eqb v.length bits e, a, eq-eqb k delayed_sign s)

      pub stores-now : (k ≡ delayed_sign → ⊥) → T.storing S d k bits allowed q v ws c ≡ T.went (T.with_store S d (T.put_all S d c.store ws) false c)
      unfolding T.storing T.landing
      stores-now s = rw (eq-eqb v.length bits e, a, ne_eqb k delayed_sign s)

-- ---- What the code sees of it.

abbrev with_bytes : View → List ℕ → Bool → View
with_bytes v B q = record { bytes = B; pending = v.pending; mask = v.mask; conflicts = v.conflicts; gotos = v.gotos; returns = v.returns; calls = v.calls; sequenced = q }

abbrev with_waiting : View → List ℕ → List ℕ → ℕ → Bool → View
with_waiting v P M n q = record { bytes = v.bytes; pending = P; mask = M; conflicts = n; gotos = v.gotos; returns = v.returns; calls = v.calls; sequenced = q }

module _ (d : Description) (c : T.Doing InBytes) (g : Doing) (B P M : List ℕ) (e : viewed g B P M ≡ seen c) where
  pub bytes-seen : c.store.bytes ≡ B
  bytes-seen = sym (ap (λ (v : View). v.bytes) e)

  -- The store has the bytes B', and nothing waits that did not.
  pub seen-now : (B' Y : List ℕ) → B' ≡ Y → viewed g B' P M ≡ seen (T.with_store (bytes d) d (record { bytes = Y; waiting = c.store.waiting }) false c)
  seen-now B' Y q =
      ap₂ (λ (v : View) (Z : List ℕ). with_bytes v Z v.sequenced) e q ∙ ap (with_bytes (seen c) Y) (sym (or-false c.sequenced))

  -- A delayed store with the writes ws.
  pub seen-late : (r : Doing) (ws : List Write) (P' M' : List ℕ) (hit u q : Bool) → P' ≡ put_all d P ws → M' ≡ mark_all d M ws → hit ≡ any_marked d M ws → u ≡ q
      → r ≡ record { gotos = g.gotos; returns = g.returns; calls = g.calls; sequenced = g.sequenced || u; conflicts = min (g.conflicts + bit hit) 4294967295 }
      → viewed r B P' M' ≡ seen (T.with_store (bytes d) d ((bytes d).delay c.store ws) q c)
  seen-late r ws P' M' hit u q a b m y w =
      let n : ℕ = bit hit in
      let k = ap (λ (v : View). v.conflicts) e in
      let l : min (g.conflicts + n) 4294967295 ≡ min (c.store.waiting.conflicts + n) 4294967295 = omega arith in
      rw (w, y, a, b)
      (ap (λ (z : ℕ). viewed (record { gotos = g.gotos; returns = g.returns; calls = g.calls; sequenced = g.sequenced || q; conflicts = z }) B (put_all d P ws) (mark_all d M ws)) (l ∙ ap (λ (z : Bool). min (c.store.waiting.conflicts + bit z) 4294967295) m)
      ∙ ap (λ (v : View). with_waiting v (put_all d v.pending ws) (mark_all d v.mask ws) (min (c.store.waiting.conflicts + bit (any_marked d v.mask ws)) 4294967295) (v.sequenced || q)) e)
