-- Places that were written beside records are read back, and so are the marks of their bounds.
use mathlib.Core.List.{List, [], ◌∷◌, ◌++◌}
use mathlib.Core.Path.{◌≡◌, refl, sym, ap, ◌∙◌}
use Prim.Native.Nat.{ℕ, zero, suc, ◌+◌, ◌*◌, ◌/◌, ◌%◌, ◌<◌}
use native.Mathlib.Nat.{mul-suc, mul-zero, zero-add}
use native.Mathlib.Omega.{arith}
use borrow.Author.Tests.{lt-ltb}
use lib.ListN.{drop, get_or, length, length-append, take}
use lib.Seq.{drop_at, drop-drop, ext_get_or, take_at}
use Rattle.image_sections.proofs.DescribedLaws.{up-to-length}
use Rattle.language.specs.Decode.{number_at, up_to}
use Rattle.language.specs.Description as D
use Rattle.language.specs.Description.{Facility, FacilityPlaces, Node, NodePlaces, StatePlaces, no_facility, node_places, nowhere}
use Rattle.language.specs.Encode.{concat, little}
use Rattle.language.specs.Words.{Position}
use Rattle.judge_records.proofs.NotedLaws.{up_to_pick}
use Rattle.judge_records.specs.Noted.{facility_beside_bytes, facility_places_no, large_no, node_beside_bytes, node_places_no, place_bytes, place_no, state_beside_bytes, state_places_no}
use Rattle.image_records.proofs.NodeBack.{half_back}
use Rattle.about_images.specs.Rows.{row_at, row-length}
use Rattle.about_images.specs.Running.{stands}
use Rattle.parse_held.specs.Standing.{FacilityNear, Near, ends_of, zipped}

-- ---- One place.

abbrev pub marked : ℕ → Position → ℕ
marked n p = p.place % 32768 + 32768 * (n / 65536 % 2)

-- The k-th place of s is p, with the mark of n.
abbrev pub At : List ℕ → ℕ → ℕ → Position → Type 0
At s k n p = number_at 2 (2 * k) s ≡ marked n p

pub place-back : (s : List ℕ) (k n : ℕ) (p : Position) → At s k n p → Near p → place_no s k ≡ p
unfolding place_no
place-back s k n p e h = let z : marked n p % 32768 ≡ p.place = omega arith in rw (e, z)

pub mark-back : (s : List ℕ) (k n : ℕ) (p : Position) → At s k n p → n < 131072 → n % 65536 + 65536 * large_no s k ≡ n
unfolding large_no
mark-back s k n p e h = let z : marked n p / 32768 ≡ n / 65536 = omega arith in rw (e, z) (omega arith)

-- It stands o bytes behind a place where some bytes stand.
place_at : (s : List ℕ) (at size k o n : ℕ) (p : Position) {bs : List ℕ} → take size (drop at s) ≡ bs → 2 * k ≡ at + o → suc o < size
    → get_or bs o 0 ≡ marked n p % 256 → get_or bs (suc o) 0 ≡ marked n p / 256 % 256 → At s k n p
place_at s at size k o n p e f h a b =
    let z : at + o + 1 ≡ at + suc o = omega arith in
    rw f (half_back s (at + o) (marked n p) (omega arith) (stands s at size e o (omega arith) ∙ a) (rw z (stands s at size e (suc o) h ∙ b)))

place-length : (n : ℕ) (p : Position) → length (place_bytes n p) ≡ 2
unfolding place_bytes little
place-length n p = refl

-- The last of some places.
pub last-place : (a : List ℕ) (k : ℕ) (p : Position) → length a ≡ 2 * k → Near p → place_no (a ++ place_bytes 0 p) k ≡ p
unfolding place_bytes little
last-place a k p l h =
    let s = a ++ place_bytes 0 p in
    place-back s k 0 p (place_at s (2 * k) 2 k 0 0 p (ap (take 2) (drop_at a (place_bytes 0 p) (2 * k) l)) (omega arith) (omega arith) refl refl) h

-- As many as a section has.
all_read : {A : Type 0} (f : ℕ → A) (d : A) (n : ℕ) (xs : List A) → n ≡ length xs → ((k : ℕ) → k < length xs → f k ≡ get_or xs k d) → up_to f 0 n ≡ xs
all_read f d n xs e h =
    ext_get_or d (up_to f 0 n) xs (up-to-length f 0 n ∙ e)
    (λ k g. let l : k < length xs = omega (arith, up-to-length f 0 n) in up_to_pick f d 0 n k ∙ rw (lt-ltb k n (omega arith), zero-add k) (h k l))

-- ---- Of operations and actions.

pub plain_back : (ps : List Position) → ((n : ℕ) → n < length ps → Near (get_or ps n nowhere)) → up_to (place_no (concat (place_bytes 0) ps)) 0 (length (concat (place_bytes 0) ps) / 2) ≡ ps
unfolding place_bytes little
plain_back ps h =
    let s = concat (place_bytes 0) ps in
    let l = row-length (place_bytes 0) 2 (place-length 0) ps in
    all_read (place_no s) nowhere (length s / 2) ps (omega arith)
    (λ n g. place-back s n 0 (get_or ps n nowhere)
    (place_at s (2 * n) 2 n 0 0 (get_or ps n nowhere) (row_at (place_bytes 0) 2 (place-length 0) ps n nowhere g) (omega arith) (omega arith) refl refl) (h n g))

-- ---- Of states.

state-length : (p : StatePlaces) → length (state_beside_bytes p) ≡ 4
unfolding state_beside_bytes place_bytes little
state-length p = refl

abbrev no_state_places : StatePlaces
no_state_places = record { at = nowhere; value = nowhere }

pub states-back : (ps : List StatePlaces) → ((n : ℕ) → n < length ps → Near (get_or ps n no_state_places).at × Near (get_or ps n no_state_places).value)
    → up_to (state_places_no (concat state_beside_bytes ps)) 0 (length (concat state_beside_bytes ps) / 4) ≡ ps
unfolding state_places_no state_beside_bytes place_bytes little
states-back ps h =
    let s = concat state_beside_bytes ps in
    let l = row-length state_beside_bytes 4 state-length ps in
    all_read (state_places_no s) no_state_places (length s / 4) ps (omega arith)
    (λ n g.
    let p = get_or ps n no_state_places in
    let e = row_at state_beside_bytes 4 state-length ps n no_state_places g in
    let a = place_at s (4 * n) 4 (2 * n) 0 0 p.at e (omega arith) (omega arith) refl refl in
    let b = place_at s (4 * n) 4 (2 * n + 1) 2 0 p.value e (omega arith) (omega arith) refl refl in
    rw (place-back s (2 * n) 0 p.at a (h n g).0, place-back s (2 * n + 1) 0 p.value b (h n g).1))

-- ---- Pairs.

module _ {A B : Type 0} (write : A → B → List ℕ) (size : ℕ) (sized : (x : A) (y : B) → length (write x y) ≡ size) where
  zipped-length : (xs : List A) (ys : List B) → length ys ≡ length xs → length (zipped write xs ys) ≡ size * length ys
  unfolding zipped
  zipped-length [] [] e = sym (mul-zero size)
  zipped-length [] (y ∷ ys) e = absurd (omega arith)
  zipped-length (x ∷ xs) [] e = absurd (omega arith)
  zipped-length (x ∷ xs) (y ∷ ys) e = length-append (write x y) (zipped write xs ys) ∙ rw (sized x y, zipped-length xs ys (omega arith), mul-suc size (length ys)) (omega arith)

  zipped-at : (xs : List A) (ys : List B) (n : ℕ) (d : A) (e : B) → length ys ≡ length xs → n < length ys → take size (drop (size * n) (zipped write xs ys)) ≡ write (get_or xs n d) (get_or ys n e)
  unfolding zipped
  zipped-at [] [] n d e l h = absurd (omega arith)
  zipped-at [] (y ∷ ys) n d e l h = absurd (omega arith)
  zipped-at (x ∷ xs) [] n d e l h = absurd (omega arith)
  zipped-at (x ∷ xs) (y ∷ ys) zero d e l h = rw (mul-zero size) (take_at (write x y) (zipped write xs ys) size (sized x y))
  zipped-at (x ∷ xs) (y ∷ ys) (suc n) d e l h =
      let z : size * suc n ≡ size + size * n = mul-suc size n ∙ omega arith in
      rw (z, ← drop-drop (size * n) size (write x y ++ zipped write xs ys), drop_at (write x y) (zipped write xs ys) size (sized x y)) (zipped-at xs ys n d e (omega arith) (omega arith))

-- ---- Of expressions.

-- The places of a node with its ends.
node-bytes : (x : Node) (p : NodePlaces) → node_beside_bytes x p ≡ place_bytes 0 p.at ++ (place_bytes (ends_of x).first p.first ++ place_bytes (ends_of x).last p.last)
unfolding node_beside_bytes
node-bytes (D.constant v) p = refl
node-bytes (D.more n) p = refl
node-bytes (D.whole f) p = refl
node-bytes (D.one f e) p = refl
node-bytes (D.part f b) p = refl
node-bytes (D.two f e g) p = refl
node-bytes (D.word_part f e b) p = refl
node-bytes (D.binary k a b) p = refl
node-bytes (D.prefix k a) p = refl
node-bytes (D.cut k a c) p = refl
node-bytes (D.first_arm e) p = refl
node-bytes (D.next_arm a e) p = refl
node-bytes (D.choice e a n) p = refl
node-bytes D.Node.broken p = refl

node-length : (x : Node) (p : NodePlaces) → length (node_beside_bytes x p) ≡ 6
unfolding place_bytes little
node-length x p = ap length (node-bytes x p)

module _ (es : List Node) (ps : List NodePlaces) (l : length ps ≡ length es) where
  abbrev nodes_beside : List ℕ
  nodes_beside = zipped node_beside_bytes es ps

  abbrev node_here : ℕ → Node
  node_here n = get_or es n D.Node.broken

  abbrev places_here : ℕ → NodePlaces
  places_here n = get_or ps n (node_places nowhere)

  pub node-places-at : (n : ℕ) → n < length ps → At nodes_beside (3 * n) 0 (places_here n).at × At nodes_beside (3 * n + 1) (ends_of (node_here n)).first (places_here n).first × At nodes_beside (3 * n + 2) (ends_of (node_here n)).last (places_here n).last
  unfolding place_bytes little
  node-places-at n h =
      let x = node_here n in
      let p = places_here n in
      let e = zipped-at node_beside_bytes 6 node-length es ps n D.Node.broken (node_places nowhere) l h ∙ node-bytes x p in (
        place_at nodes_beside (6 * n) 6 (3 * n) 0 0 p.at e (omega arith) (omega arith) refl refl,
        place_at nodes_beside (6 * n) 6 (3 * n + 1) 2 (ends_of x).first p.first e (omega arith) (omega arith) refl refl,
        place_at nodes_beside (6 * n) 6 (3 * n + 2) 4 (ends_of x).last p.last e (omega arith) (omega arith) refl refl,
      )

  pub nodes-back : ((n : ℕ) → n < length ps → Near (places_here n).at × Near (places_here n).first × Near (places_here n).last) → up_to (node_places_no nodes_beside) 0 (length nodes_beside / 6) ≡ ps
  unfolding node_places_no
  nodes-back h =
      let s = nodes_beside in
      let k = zipped-length node_beside_bytes 6 node-length es ps l in
      all_read (node_places_no s) (node_places nowhere) (length s / 6) ps (omega arith)
      (λ n g.
      let p = places_here n in
      let a = node-places-at n g in
      rw (place-back s (3 * n) 0 p.at a.0 (h n g).0, place-back s (3 * n + 1) _ p.first a.1 (h n g).1, place-back s (3 * n + 2) _ p.last a.2 (h n g).2))

-- ---- Of facilities.

facility-length : (f : Facility) (p : FacilityPlaces) → length (facility_beside_bytes f p) ≡ 12
unfolding facility_beside_bytes place_bytes little
facility-length f p = refl

abbrev pub no_facility_places : FacilityPlaces
no_facility_places = record { name = nowhere; words_first = nowhere; words_last = nowhere; bits_first = nowhere; bits_last = nowhere; equals = nowhere }

-- The n-th facility's places in s.
pub record FacilityAt (s : List ℕ) (n : ℕ) (f : Facility) (p : FacilityPlaces) : Type 0 where
  pub name : At s (6 * n) 0 p.name
  pub words_first : At s (6 * n + 1) f.words.first p.words_first
  pub words_last : At s (6 * n + 2) f.words.last p.words_last
  pub bits_first : At s (6 * n + 3) f.bits.first p.bits_first
  pub bits_last : At s (6 * n + 4) f.bits.last p.bits_last
  pub equals : At s (6 * n + 5) 0 p.equals

module _ (fs : List Facility) (ps : List FacilityPlaces) (l : length ps ≡ length fs) where
  abbrev facilities_beside : List ℕ
  facilities_beside = zipped facility_beside_bytes fs ps

  pub facility-places-at : (n : ℕ) → n < length ps → FacilityAt facilities_beside n (get_or fs n no_facility) (get_or ps n no_facility_places)
  unfolding facility_beside_bytes place_bytes little
  facility-places-at n h =
      let s = facilities_beside in
      let f = get_or fs n no_facility in
      let p = get_or ps n no_facility_places in
      let e = zipped-at facility_beside_bytes 12 facility-length fs ps n no_facility no_facility_places l h in
      record {
        name = place_at s (12 * n) 12 (6 * n) 0 0 p.name e (omega arith) (omega arith) refl refl;
        words_first = place_at s (12 * n) 12 (6 * n + 1) 2 f.words.first p.words_first e (omega arith) (omega arith) refl refl;
        words_last = place_at s (12 * n) 12 (6 * n + 2) 4 f.words.last p.words_last e (omega arith) (omega arith) refl refl;
        bits_first = place_at s (12 * n) 12 (6 * n + 3) 6 f.bits.first p.bits_first e (omega arith) (omega arith) refl refl;
        bits_last = place_at s (12 * n) 12 (6 * n + 4) 8 f.bits.last p.bits_last e (omega arith) (omega arith) refl refl;
        equals = place_at s (12 * n) 12 (6 * n + 5) 10 0 p.equals e (omega arith) (omega arith) refl refl;
      }

  pub facilities-back : ((n : ℕ) → n < length ps → FacilityNear (get_or ps n no_facility_places)) → up_to (facility_places_no facilities_beside) 0 (length facilities_beside / 12) ≡ ps
  unfolding facility_places_no
  facilities-back h =
      let s = facilities_beside in
      let k = zipped-length facility_beside_bytes 12 facility-length fs ps l in
      all_read (facility_places_no s) no_facility_places (length s / 12) ps (omega arith)
      (λ n g.
      let p = get_or ps n no_facility_places in
      let a = facility-places-at n g in
      let q = h n g in
      rw (
        place-back s (6 * n) 0 p.name a.name q.name,
        place-back s (6 * n + 1) _ p.words_first a.words_first q.words.0,
        place-back s (6 * n + 2) _ p.words_last a.words_last q.words.1,
        place-back s (6 * n + 3) _ p.bits_first a.bits_first q.bits.0,
        place-back s (6 * n + 4) _ p.bits_last a.bits_last q.bits.1,
        place-back s (6 * n + 5) 0 p.equals a.equals q.equals,
      ))
