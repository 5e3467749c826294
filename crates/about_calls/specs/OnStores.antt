-- A settled record on every store: it gives a value of its length or stops for S1, and a reference names a part of its facility. Assumes nothing.
use Rattle.std.specs.Prelude.{Bool, true, false, cond, List, ◌≡◌, refl, ℕ, ◌^◌, ◌<◌, length}
use Rattle.std.proofs.Math.Option.{some}
use Rattle.std.proofs.Common.{sym, ◌∙◌, mod-lt, arith, pow_pos}
use Rattle.language.specs.Description.{Description, facility_at, is_computed, no_places, node_at, node_place}
use Rattle.language.specs.Expressions.{judge_below, own_work, terminal_below, terminal_judged}
use Rattle.language.specs.Judging.{Judged, Worth, fine}
use Rattle.language.specs.Meaning.{Located, Place, Stores, eval_at, eval_below, place_of}
use Rattle.language.specs.ReferenceRules.{subscript_worth}
use Rattle.language.specs.References as R
use Rattle.language.specs.References.{Reference, Subscripts, reference_of}
use Rattle.language.specs.Store.{Held, numbers}
use Rattle.language.specs.Value.{value}
use Rattle.language.specs.declared.stops.Stop.TheVariants.{OutsideBounds}
use Rattle.store_layout.specs.InBytes.{InBytes, bytes, load_bytes}
use Rattle.store_layout.specs.Parts as P
use Rattle.about_running.specs.Evaluates.{Claim, Terminal, eval-lt, evaluates}
use Rattle.about_running.specs.Executes.{There}
use Rattle.about_running.specs.Finds as F
use Rattle.about_running.specs.Finds.{Each, Finds, reference-fine, reference-finds}
use Rattle.about_running.specs.Fitting.{numbers_keep}
use Rattle.about_running.specs.Gives.{Gives}
use Rattle.about_running.specs.Judged.{proper-fine}
use Rattle.about_running.specs.LegalForm.{Legal}
use Rattle.about_running.specs.Terminals.{terminals-work}
use Rattle.about_rules.proofs.LongIsFine.{judge-lt, terminal-lt}
use Rattle.about_calls.specs.PartsStand.{Part, part-stands}
use Rattle.about_calls.specs.Settled.{Settled, computed-in, node_with, operand-judged, reference-node}
use Rattle.about_calls.specs.WorkedOut as W

-- What is loaded of a part has no more bits than the part.
abbrev pub Loads : {X : Type 0} → Stores X → X → Type 0
Loads S x = (q : Place) → S.load x q < 2 ^ q.count

-- The store of numbers that a step runs on loads so, and the one of bytes that the code works on, whatever they hold.
pub numbers-load : (d : Description) (x : Held) → Loads (numbers d) x
numbers-load d x = (numbers_keep d).loads x

loaded-fits : (B : List ℕ) (at l from c : ℕ) → (P.loaded B at l from c).number < 2 ^ c
unfolding P.loaded P.part_in
loaded-fits B at l from c = go (P.inside (length B) at l from c)
  where
    go : (b : Bool) → (cond b (value c (P.part_in B at l (P.low_of l from c) c)) (value 0 0)).number < 2 ^ c
    go true = mod-lt _ (pow_pos c)
    go false = pow_pos c

pub bytes-load : (d : Description) (x : InBytes) → Loads (bytes d) x
unfolding load_bytes
bytes-load d x q = loaded-fits x.bytes _ _ q.from q.count

-- What a reference to the facility f names: a part of l bits that lies in it, or nothing, for S1.
pub data NamesPart (d : Description) (f l : ℕ) : Located → Type 0 where
  inside : {p : Place} → p.facility ≡ f → There d p → p.count ≡ l → NamesPart d f l (Located.at p)
  outside : NamesPart d f l (Located.stops OutsideBounds)

module _ (d : Description) (L : Legal d) where
  module _ {X : Type 0} (S : Stores X) (x : X) (loads : Loads S x) where
    -- The computed terminals that a settled record may name.
    terms : {n : ℕ} (s : Settled d n) (f : ℕ) (w : Worth) → f < s.known → is_computed (facility_at d f).kind ≡ true
        → terminal_below d no_places s.known f ≡ fine w → Terminal S d x s.base f w
    unfolding terminal_judged
    terms s f w h c e =
        let i = computed-in d f c in
        let j = L.terminals f i c in
        record { before = s.before f h c; gives-it = (terminals-work d no_places L.base L.terminals-order L.terminals S x loads f j.0 i c (terminal-lt d no_places (length d.facilities) f i ∙ j.1)).gives-it }

    claims : {n : ℕ} (s : Settled d n) (m : ℕ) → Claim S d no_places x loads (terminal_below d no_places s.known) s.known s.base s.within (terms s) m
    claims s m = evaluates S d no_places x loads (terminal_below d no_places s.known) s.known s.base s.within (terms s) m

    pub settled-gives : {n : ℕ} (s : Settled d n) → Gives s.proper.worth.length (eval_at S d x n)
    settled-gives {n} s = (claims s n).as-value s.proper.stands.same s.proper.none s.proper.stands.starts s.proper.stands.low

  -- ---- References.

  module _ {n : ℕ} (s : Settled d n) where
    abbrev terminals : ℕ → Judged
    terminals = terminal_below d no_places s.known

    abbrev ev : ℕ → Judged
    ev = judge_below d no_places terminals s.known n

    -- A subscript stands before its reference and is settled as it is.
    abbrev Own : ℕ → Type 0
    Own e = Part d s.known s.base n e

    own-parts : (f : ℕ) (u : Subscripts) → node_at d n ≡ node_with f u → Each Own u
    own-parts f R.whole q = tt
    own-parts f (R.one e) q = part-stands d s.known s.base s.proper.stands (W.subscript q)
    own-parts f (R.part y) q = tt
    own-parts f (R.two e g) q =
        (part-stands d s.known s.base s.proper.stands (W.word-of-bit q), part-stands d s.known s.base s.proper.stands (W.bit-of-word q))
    own-parts f (R.word_part e y) q = part-stands d s.known s.base s.proper.stands (W.word_of_part q)

    module _ {X : Type 0} (S : Stores X) (x : X) (loads : Loads S x) where
      own-gives : (e : ℕ) (w : Worth) → Own e → subscript_worth d no_places terminals ev e ≡ fine w → Gives w.length (eval_below S d x n e)
      own-gives e w o h =
          let y = proper-fine _ (ev e) h in
          rw (eval-lt S d no_places x loads terminals s.known s.base s.within (terms S x loads s) n e o.0)
          ((claims S x loads s e).as-value (sym (judge-lt d no_places s.known n e o.0) ∙ y.same) y.arms o.1.stands.starts o.1.stands.low)

      -- The place that a settled reference names.
      pub settled-names : (r : Reference) → reference_of (node_at d n) ≡ some r → NamesPart d r.facility s.proper.worth.length (place_of d (eval_below S d x n) r)
      settled-names r q =
          let e = sym (operand-judged d s.known n q) ∙ s.proper.stands.same in
          let y = reference-fine d no_places terminals ev (eval_below S d x n) Own own-gives own_work s.known r (node_place no_places n) e in
          let z = reference-finds d no_places terminals ev (eval_below S d x n) Own own-gives own_work s.known r (node_place no_places n) (own-parts r.facility r.subscripts (reference-node (node_at d n) q)) s.within e in
          rw y.length (found _ (omega (arith, y.known-here, s.within)) z)
        where
          found : {l : ℕ} (loc : Located) → r.facility < length d.facilities → Finds (facility_at d r.facility) r.facility l loc → NamesPart d r.facility l loc
          found (Located.at p) h (F.finds i j) = inside refl (record { facility-in = h; word-in = i; part_in = j }) refl
          found (Located.stops m) h F.outside = outside
          found {l = l} (Located.stuck _) h x4 = elim x4 [ ]
