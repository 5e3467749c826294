-- One outcome for each public call (01, "What each public call owes"): two answers, with two sets of later buffers, that meet a call's contract for the same inputs are the same. Buffers that are only written may have held other bytes before: their lengths alone are asked to be equal.
use Rattle.std.specs.Prelude as Code
use Rattle.std.specs.Prelude.{Bool, true, false, cond, Err, List, None, Ok, Result, Some, ◌≡◌, refl, ℕ, length}
use Rattle.std.proofs.Math.Option.{Option, none, some}
use Rattle.std.proofs.Common.{sym, ap, ap₂, ◌∙◌, arith}
use Rattle.language.specs.Calls as L
use Rattle.language.specs.Decode.{decode}
use Rattle.language.specs.Description as D
use Rattle.language.specs.Description.{facility_at, is_computed}
use Rattle.language.specs.Image as I
use Rattle.language.specs.Lookups as Lk
use Rattle.language.specs.Reading as R
use Rattle.language.specs.Stops.{halted}
use Rattle.language.specs.Tree as T
use Rattle.language.specs.Tree.{Name}
use Rattle.image_sections.specs.Declarations.{facility_meant, kind_meant, short_meant}
use Rattle.image_sections.specs.Names.{part_meant}
use Rattle.image_sections.specs.declared.facilities.FacilityRecord.{FacilityRecord}
use Rattle.image_sections.specs.declared.facilities.FacilityKind.{FacilityKind}
use Rattle.image_sections.specs.declared.facilities.FacilityKind.TheVariants as K
use Rattle.image_sections.specs.declared.facilities.ShortBounds.{ShortBounds}
use Rattle.image_sections.specs.declared.names.Part.{Part}
use Rattle.call_answers.specs.Lookups.{Looks, answered, name_meant}
use Rattle.call_answers.specs.Opening as Open
use Rattle.call_answers.specs.Cycle as Cycle
use Rattle.call_answers.specs.declared.cycled.Halt.{Halt}
use Rattle.call_answers.specs.declared.cycled.Halt.TheVariants as C
use Rattle.call_answers.specs.Reading as Called
use Rattle.call_answers.specs.declared.read.Refused.{Refused}
use Rattle.call_answers.specs.Run as Run
use Rattle.call_answers.specs.declared.ran.Tally.{Tally}
use Rattle.language.specs.declared.refusals.Refusal.{Refusal}
use Rattle.language.specs.declared.stops.Stop.{Stop}

-- ---- The check, and names as parts of the image: the contract names the answer itself.

pub passes-one : (image : List ℕ) (a b : Bool) → a ≡ I.passes image → b ≡ I.passes image → a ≡ b
passes-one image a b p q = p ∙ sym q

pub facility-name-one : (image : List ℕ) (n : ℕ) (a b : List ℕ) → a ≡ Lk.part_of image (Lk.facility_name image n) → b ≡ Lk.part_of image (Lk.facility_name image n) → a ≡ b
facility-name-one image n a b p q = p ∙ sym q

pub state-name-one : (image : List ℕ) (n : ℕ) (a b : List ℕ) → a ≡ Lk.part_of image (Lk.state_name image n) → b ≡ Lk.part_of image (Lk.state_name image n) → a ≡ b
state-name-one image n a b p q = p ∙ sym q

-- ---- Where a name stands.

part-one : (p q : Part) → part_meant p ≡ part_meant q → p ≡ q
part-one p q e =
    ap₂ (λ (o n : ℕ). record { offset = o; length = n }) (ap (λ (x : Lk.Part). x.offset) e) (ap (λ (x : Lk.Part). x.length) e)

abbrev part_in : Lk.Part → Lk.NameAnswer → Lk.Part
part_in p (Lk.named q) = q
part_in p (Lk.refused n) = p

name-one : (a b : Result Part Refusal) → name_meant a ≡ name_meant b → a ≡ b
name-one (Ok p) (Ok q) e = ap Ok (part-one p q (ap (part_in (part_meant p)) e))
name-one (Err m) (Err n) e =
    let z : m ≡ n = cc in
    ap Err z
name-one (Ok p) (Err n) e =
    let z : ◌≡◌ {A = ℕ} 0 1 = cc in
    absurd (omega arith)
name-one (Err n) (Ok p) e =
    let z : ◌≡◌ {A = ℕ} 0 1 = cc in
    absurd (omega arith)

pub facility-part-one : (image : List ℕ) (n : ℕ) (a b : Result Part Refusal) → name_meant a ≡ Lk.facility_name image n → name_meant b ≡ Lk.facility_name image n → a ≡ b
facility-part-one image n a b p q = name-one a b (p ∙ sym q)

pub state-part-one : (image : List ℕ) (n : ℕ) (a b : Result Part Refusal) → name_meant a ≡ Lk.state_name image n → name_meant b ≡ Lk.state_name image n → a ≡ b
state-part-one image n a b p q = name-one a b (p ∙ sym q)

-- ---- A declaration, its place and the length of its name.

abbrev kind_back : T.Kind → FacilityKind
kind_back T.register = K.Register
kind_back T.sequencing = K.Sequencing
kind_back T.memory = K.Memory
kind_back T.plain = K.Plain
kind_back T.input = K.Input
kind_back T.computed = K.Computed

kind-back : (k : FacilityKind) → kind_back (kind_meant k) ≡ k
kind-back K.Register = refl
kind-back K.Sequencing = refl
kind-back K.Memory = refl
kind-back K.Plain = refl
kind-back K.Input = refl
kind-back K.Computed = refl

kind-one : (k l : FacilityKind) → kind_meant k ≡ kind_meant l → k ≡ l
kind-one k l e = sym (kind-back k) ∙ ap kind_back e ∙ kind-back l

bounds-one : (a b : ShortBounds) → short_meant a ≡ short_meant b → a ≡ b
bounds-one a b e = ap₂ (λ (m n : ℕ). record { first = m; last = n }) (ap (λ (x : D.Bounds). x.first) e) (ap (λ (x : D.Bounds). x.last) e)

-- A place is told by the expression or by the place in the store.
place-one : (b c : Bool) (x y : ℕ) → b ≡ c → cond b x 0 ≡ cond c y 0 → cond b none (some x) ≡ cond c none (some y) → x ≡ y
place-one true true x y h e p = e
place-one false false x y h e p = cc
place-one true false x y h e p =
    let z : ◌≡◌ {A = ℕ} 0 1 = cc in
    absurd (omega arith)
place-one false true x y h e p =
    let z : ◌≡◌ {A = ℕ} 0 1 = cc in
    absurd (omega arith)

abbrev placed : FacilityRecord → Option ℕ
placed f = cond (is_computed (kind_meant f.kind)) none (some f.place)

declared-one : (name : Name) (f g : FacilityRecord) → f.name ≡ g.name → facility_meant name f ≡ facility_meant name g → placed f ≡ placed g → f ≡ g
declared-one name f g n e p =
    let k : kind_meant f.kind ≡ kind_meant g.kind = ap (λ (x : D.Facility). x.kind) e in
    let a : f.kind ≡ g.kind = kind-one f.kind g.kind k in
    let b : f.dimensions ≡ g.dimensions = ap (λ (x : D.Facility). x.dimensions) e in
    let c : f.words ≡ g.words = bounds-one f.words g.words (ap (λ (x : D.Facility). x.words) e) in
    let d : f.bits ≡ g.bits = bounds-one f.bits g.bits (ap (λ (x : D.Facility). x.bits) e) in
    let q : f.place ≡ g.place = place-one (is_computed (kind_meant f.kind)) (is_computed (kind_meant g.kind)) f.place g.place (ap is_computed k) (ap (λ (x : D.Facility). x.expression) e) p in
    let r : f ≡ record { kind = g.kind; dimensions = g.dimensions; name = g.name; words = g.words; bits = g.bits; place = g.place } = rw (← a, ← b, ← n, ← c, ← d, ← q) in
    r

abbrev facility_in : D.Facility → Lk.FacilityAnswer → D.Facility
facility_in f (Lk.declared g p) = g
facility_in f (Lk.unknown n) = f

abbrev place_in : Lk.FacilityAnswer → Option ℕ
place_in (Lk.declared g p) = p
place_in (Lk.unknown n) = none

pub facility-one : (image : List ℕ) (n : ℕ) (a b : Result FacilityRecord Refusal) → Looks image n a → Looks image n b → a ≡ b
facility-one image n (Ok f) (Ok g) p q =
    let name = (facility_at (decode image) n).name in
    let e : answered name (Ok f) ≡ answered name (Ok g) = p.facility ∙ sym q.facility in
    ap Ok (declared-one name f g (p.name f refl ∙ sym (q.name g refl)) (ap (facility_in (facility_meant name f)) e) (ap place_in e))
facility-one image n (Err k) (Err m) p q =
    let e : Lk.unknown k ≡ Lk.unknown m = p.facility ∙ sym q.facility in
    let z : k ≡ m = cc in
    ap Err z
facility-one image n (Ok f) (Err m) p q =
    let e = p.facility ∙ sym q.facility in
    let z : ◌≡◌ {A = ℕ} 0 1 = cc in
    absurd (omega arith)
facility-one image n (Err k) (Ok g) p q =
    let e = p.facility ∙ sym q.facility in
    let z : ◌≡◌ {A = ℕ} 0 1 = cc in
    absurd (omega arith)

-- ---- Opening.

opened_one : (a b : Result (Unit {0}) Refusal) → Open.answered a ≡ Open.answered b → a ≡ b
opened_one (Ok _) (Ok _) e = refl
opened_one (Err m) (Err n) e =
    let z : m ≡ n = cc in
    ap Err z
opened_one (Ok _) (Err n) e =
    let z : ◌≡◌ {A = ℕ} 0 1 = cc in
    absurd (omega arith)
opened_one (Err n) (Ok _) e =
    let z : ◌≡◌ {A = ℕ} 0 1 = cc in
    absurd (omega arith)

module _ (image store store' kept kept' : List ℕ) (s : length store ≡ length store') (k : length kept ≡ length kept') where
  pub open-one : (a b : Result (Unit {0}) Refusal) (x y u v : List ℕ) → Open.called a x u ≡ L.open' image (length store) (length kept) → Open.called b y v ≡ L.open' image (length store') (length kept') → (a ≡ b) × ((x ≡ y) × (u ≡ v))
  open-one a b x y u v p q =
      let e : Open.called a x u ≡ Open.called b y v = p ∙ ap₂ (λ (m n : ℕ). L.open' image m n) s k ∙ sym q in
      (opened_one a b (ap (λ (c : L.OpenCall). c.answer) e), (ap (λ (c : L.OpenCall). c.store) e, ap (λ (c : L.OpenCall). c.record') e))

-- ---- A cycle: store, record and stimulus are read, scratch is not.

cycled-one : (a b : Result ℕ Halt) → Cycle.answered a ≡ Cycle.answered b → a ≡ b
cycled-one (Ok m) (Ok n) e =
    let z : m ≡ n = cc in
    ap Ok z
cycled-one (Err (C.Stopped m)) (Err (C.Stopped n)) e =
    let z : m ≡ n = cc in
    ap (λ (s : Stop). Err (C.Stopped s)) z
cycled-one (Err (C.Refused m)) (Err (C.Refused n)) e =
    let z : m ≡ n = cc in
    ap (λ (r : Refusal). Err (C.Refused r)) z
cycled-one (Ok m) (Err (C.Stopped n)) e =
    let z : ◌≡◌ {A = ℕ} 0 1 = cc in
    absurd (omega arith)
cycled-one (Ok m) (Err (C.Refused n)) e =
    let z : ◌≡◌ {A = ℕ} 0 1 = cc in
    absurd (omega arith)
cycled-one (Err (C.Stopped m)) (Ok n) e =
    let z : ◌≡◌ {A = ℕ} 0 1 = cc in
    absurd (omega arith)
cycled-one (Err (C.Stopped m)) (Err (C.Refused n)) e =
    let z : ◌≡◌ {A = ℕ} 0 1 = cc in
    absurd (omega arith)
cycled-one (Err (C.Refused m)) (Ok n) e =
    let z : ◌≡◌ {A = ℕ} 0 1 = cc in
    absurd (omega arith)
cycled-one (Err (C.Refused m)) (Err (C.Stopped n)) e =
    let z : ◌≡◌ {A = ℕ} 0 1 = cc in
    absurd (omega arith)

module _ (image store kept stimulus scratch scratch' : List ℕ) (s : length scratch ≡ length scratch') where
  pub cycle-one : (a b : Result ℕ Halt) (x y u v w z : List ℕ) → Cycle.call a x u w ≡ L.cycle image store kept stimulus (length scratch) → Cycle.call b y v z ≡ L.cycle image store kept stimulus (length scratch') → (a ≡ b) × ((x ≡ y) × ((u ≡ v) × (w ≡ z)))
  cycle-one a b x y u v w z p q =
      let e : Cycle.call a x u w ≡ Cycle.call b y v z = p ∙ ap (L.cycle image store kept stimulus) s ∙ sym q in
      (cycled-one a b (ap (λ (c : L.CycleCall). c.answer) e), (ap (λ (c : L.CycleCall). c.store) e, (ap (λ (c : L.CycleCall). c.record') e, ap (λ (c : L.CycleCall). c.scratch) e)))

-- ---- Reading: of the image's buffer only the length counts.

reading-one : (a b : Result ℕ Refused) → Called.answered a ≡ Called.answered b → a ≡ b
reading-one (Ok m) (Ok n) e =
    let z : m ≡ n = cc in
    ap Ok z
reading-one (Err p) (Err q) e =
    let y : p.refusal ≡ q.refusal = cc in
    let z : p.place ≡ q.place = cc in
    ap₂ (λ (r : Refusal) (n : ℕ). Err (record { refusal = r; place = n })) y z
reading-one (Ok m) (Err q) e =
    let z : ◌≡◌ {A = ℕ} 0 1 = cc in
    absurd (omega arith)
reading-one (Err p) (Ok n) e =
    let z : ◌≡◌ {A = ℕ} 0 1 = cc in
    absurd (omega arith)

module _ (text image image' : List ℕ) (s : length image ≡ length image') where
  pub read_one : (a b : Result ℕ Refused) (x y : List ℕ) → Called.called a x ≡ R.read text (length image) → Called.called b y ≡ R.read text (length image') → (a ≡ b) × (x ≡ y)
  read_one a b x y p q =
      let e : Called.called a x ≡ Called.called b y = p ∙ ap (R.read text) s ∙ sym q in
      (reading-one a b (ap (λ (c : R.ReadCall). c.answer) e), ap (λ (c : R.ReadCall). c.image) e)

-- ---- A run: scratch and trace are not read.

halt-one : (a b : Code.Option Stop) → halted a ≡ halted b → a ≡ b
halt-one None None e = refl
halt-one (Some m) (Some n) e =
    let z : m ≡ n = cc in
    ap Some z
halt-one None (Some n) e =
    let z : ◌≡◌ {A = ℕ} 0 1 = cc in
    absurd (omega arith)
halt-one (Some m) None e =
    let z : ◌≡◌ {A = ℕ} 0 1 = cc in
    absurd (omega arith)

tally-one : (s t : Tally) → s.completed ≡ t.completed → s.conflicts ≡ t.conflicts → s.stop ≡ t.stop → s ≡ t
tally-one s t a b c =
    let r : s ≡ record { completed = t.completed; conflicts = t.conflicts; stop = t.stop } = rw (← a, ← b, ← c) in
    r

ran-one : (a b : Result Tally Refusal) → Run.answered a ≡ Run.answered b → a ≡ b
ran-one (Ok s) (Ok t) e =
    let x : s.completed ≡ t.completed = cc in
    let y : s.conflicts ≡ t.conflicts = cc in
    let z : halted s.stop ≡ halted t.stop = cc in
    ap Ok (tally-one s t x y (halt-one s.stop t.stop z))
ran-one (Err m) (Err n) e =
    let z : m ≡ n = cc in
    ap Err z
ran-one (Ok s) (Err n) e =
    let z : ◌≡◌ {A = ℕ} 0 1 = cc in
    absurd (omega arith)
ran-one (Err m) (Ok t) e =
    let z : ◌≡◌ {A = ℕ} 0 1 = cc in
    absurd (omega arith)

module _ (image store kept stimuli : List ℕ) (count : ℕ) (scratch scratch' trace trace' : List ℕ) (s : length scratch ≡ length scratch') (t : length trace ≡ length trace') where
  pub run-one : (a b : Result Tally Refusal) (x y u v w z m n : List ℕ) → Run.call a x u w m ≡ L.run image store kept stimuli count (length scratch) (length trace) → Run.call b y v z n ≡ L.run image store kept stimuli count (length scratch') (length trace') → (a ≡ b) × ((x ≡ y) × ((u ≡ v) × ((w ≡ z) × (m ≡ n))))
  run-one a b x y u v w z m n p q =
      let e : Run.call a x u w m ≡ Run.call b y v z n = p ∙ ap₂ (λ (i j : ℕ). L.run image store kept stimuli count i j) s t ∙ sym q in
      (ran-one a b (ap (λ (c : L.RunCall). c.answer) e), (ap (λ (c : L.RunCall). c.store) e, (ap (λ (c : L.RunCall). c.record') e, (ap (λ (c : L.RunCall). c.scratch) e, ap (λ (c : L.RunCall). c.trace) e))))
