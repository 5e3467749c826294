-- Where the tree of a record begins, by its parts; the digits of a constant that is read always stand before it.
use mathlib.Core.Bool.{Bool, true, false, cond}
use mathlib.Core.List.{List, []}
use mathlib.Core.Option.{Option, none, some}
use mathlib.Core.Path.{◌≡◌, refl, sym, ap, ◌∙◌}
use Prim.Native.Nat.{ℕ, zero, suc, ◌+◌, ◌-◌, ◌*◌, ◌/◌, ◌%◌, ◌^◌, ◌<◌, ◌≤◌}
use native.Mathlib.Omega.{arith}
use borrow.Author.Tests.{eq-eqb, eqb-true}
use lib.Dec.{eqb, ltb}
use lib.ListN.{get_or, length}
use lib.Pow.{high, low}
use Rattle.language.specs.Decode.{described, digits_marked, node_of, number_at, plain_node}
use Rattle.language.specs.Description as D
use Rattle.language.specs.Description.{Description, digit_length, further_digits, node_at}
use Rattle.language.specs.Encode.{Sections, node_size}
use Rattle.language.specs.Order.{constant_start, digits_stand, ending, is_digit48, just_before, start_at, start_below, start_node, two_before}
use Rattle.language.specs.Value.{Value}
use Rattle.about_running.specs.Starts.{start-le, start-lt}
use Rattle.image_records.proofs.ConstantLaws.{constant-ends, marked-within, six-below}
use Rattle.image_records.proofs.DigitLaws.{before-digits, further-of}
use Rattle.image_records.proofs.NodeLaws.{node-more, node-past, node-plain}
use Rattle.image_records.specs.Nodes.{constant_number, digits, meant}
use Rattle.image_records.specs.declared.nodes.Node.{Node}
use Rattle.image_records.specs.declared.nodes.Node.TheVariants as N
use Rattle.image_sections.proofs.DescribedLaws.{expressions-count, node-described}
use Rattle.image_order.specs.Holds.{ConstantAt, Nodes}
use Rattle.image_order.specs.Parts.{parts_of, start_parts}
use Rattle.image_order.specs.declared.starts.Parts.{Parts}
use Rattle.image_order.specs.declared.starts.Parts.TheVariants as S
use Rattle.language.specs.Tests.{both}

-- ---- Parts.

start-parts : (d : Description) (start : ℕ → Option ℕ) (n v : ℕ) (x : Node) → start_node d start n (meant v x) ≡ start_parts d start n v (parts_of x)
unfolding start_node
start-parts d start n v (N.Constant l) = refl
start-parts d start n v (N.More m) = refl
start-parts d start n v (N.Whole f) = refl
start-parts d start n v (N.One f e) = refl
start-parts d start n v (N.Part f a b) = refl
start-parts d start n v (N.Two f e g) = refl
start-parts d start n v (N.WordPart f e a b) = refl
start-parts d start n v (N.Binary k a b) = refl
start-parts d start n v (N.Prefix k a) = refl
start-parts d start n v (N.Cut k a c) = refl
start-parts d start n v (N.FirstArm e) = refl
start-parts d start n v (N.NextArm a e) = refl
start-parts d start n v (N.Choice e a m) = refl
start-parts d start n v N.Broken = refl

-- Only a constant has digits.
digits-only : (x : Node) {l : ℕ} → parts_of x ≡ S.Digits l → x ≡ N.Constant l
digits-only (N.Constant m) {l} e = let z : m ≡ l = cc in ap N.Constant z
digits-only (N.More m) e = absurd (let z : ◌≡◌ {A = ℕ} 0 1 = cc in omega arith)
digits-only (N.Whole f) e = absurd (let z : ◌≡◌ {A = ℕ} 0 1 = cc in omega arith)
digits-only (N.One f a) e = absurd (let z : ◌≡◌ {A = ℕ} 0 1 = cc in omega arith)
digits-only (N.Part f a b) e = absurd (let z : ◌≡◌ {A = ℕ} 0 1 = cc in omega arith)
digits-only (N.Two f a g) e = absurd (let z : ◌≡◌ {A = ℕ} 0 1 = cc in omega arith)
digits-only (N.WordPart f g a b) e = absurd (let z : ◌≡◌ {A = ℕ} 0 1 = cc in omega arith)
digits-only (N.Binary k a b) e = absurd (let z : ◌≡◌ {A = ℕ} 0 1 = cc in omega arith)
digits-only (N.Prefix k a) e = absurd (let z : ◌≡◌ {A = ℕ} 0 1 = cc in omega arith)
digits-only (N.Cut k a c) e = absurd (let z : ◌≡◌ {A = ℕ} 0 1 = cc in omega arith)
digits-only (N.FirstArm a) e = absurd (let z : ◌≡◌ {A = ℕ} 0 1 = cc in omega arith)
digits-only (N.NextArm a b) e = absurd (let z : ◌≡◌ {A = ℕ} 0 1 = cc in omega arith)
digits-only (N.Choice a b n) e = absurd (let z : ◌≡◌ {A = ℕ} 0 1 = cc in omega arith)
digits-only N.Broken e = absurd (let z : ◌≡◌ {A = ℕ} 0 1 = cc in omega arith)

pub constant-at : (s : List ℕ) (n l : ℕ) (x : Node) → meant (constant_number n s) x ≡ node_of s n → parts_of x ≡ S.Digits l → ConstantAt s n l
constant-at s n l x p q =
    record { is = record { length = l; number = constant_number n s }; here = sym p ∙ ap (meant (constant_number n s)) (digits-only x q); long = refl }

-- ---- Parts right before a record are below it.

module _ (d : Description) where
  just-same : (a n : ℕ) → just_before d (start_below d n) a n ≡ just_before d (start_at d) a n
  just-same a n = by-test (eqb (a + 1) n) refl
    where
      by-test : (b : Bool) → eqb (a + 1) n ≡ b → cond b (start_below d n a) none ≡ cond b (start_at d a) none
      by-test true t = start-lt d n a (omega (arith, eqb-true (a + 1) n t))
      by-test false t = refl

  -- A tree that ends right before n begins before n.
  pub just-within : (a n : ℕ) {m : ℕ} → just_before d (start_at d) a n ≡ some m → m < n
  just-within a n {m} e = by-test (eqb (a + 1) n) refl e
    where
      by-test : (b : Bool) → eqb (a + 1) n ≡ b → cond b (start_at d a) none ≡ some m → m < n
      by-test true t k = omega (arith, eqb-true (a + 1) n t, start-le d a m k)
      by-test false t k = absurd (let z : ◌≡◌ {A = ℕ} 0 1 = cc in omega arith)

  two-same : (a b n : ℕ) → two_before d (start_below d n) a b n ≡ two_before d (start_at d) a b n
  two-same a b n = rw (just-same b n) (by-second (just_before d (start_at d) b n) refl)
    where
      by_first : (m : ℕ) → m < n → (t : Bool) → eqb (a + 1) m ≡ t → cond t (start_below d n a) none ≡ cond t (start_at d a) none
      by_first m h true t = start-lt d n a (omega (arith, eqb-true (a + 1) m t))
      by_first m h false t = refl

      by-second : (x : Option ℕ) → just_before d (start_at d) b n ≡ x → ending x (λ m. just_before d (start_below d n) a m) ≡ ending x (λ m. just_before d (start_at d) a m)
      by-second none e = refl
      by-second (some m) e = by_first m (just-within b n e) (eqb (a + 1) m) refl

  parts_same : (n v : ℕ) (x : Parts) → start_parts d (start_below d n) n v x ≡ start_parts d (start_at d) n v x
  parts_same n v S.No = refl
  parts_same n v S.Leaf = refl
  parts_same n v (S.Digits l) = refl
  parts_same n v (S.One a) = just-same a n
  parts_same n v (S.Two a b) = two-same a b n

  module _ (s : List ℕ) (h : Nodes d s) where
    start-here : (n : ℕ) → start_at d n ≡ start_node d (start_below d n) n (node_of s n)
    unfolding start_at
    start-here n = ap (start_node d (start_below d n) n) (h.at n)

    pub starts : (n : ℕ) (x : Node) {y : Parts} → meant (constant_number n s) x ≡ node_of s n → parts_of x ≡ y
        → start_at d n ≡ start_parts d (start_at d) n (constant_number n s) y
    starts n x p q =
        start-here n ∙ ap (start_node d (start_below d n) n) (sym p) ∙ start-parts d (start_below d n) n (constant_number n s) x
        ∙ parts_same n (constant_number n s) (parts_of x) ∙ ap (start_parts d (start_at d) n (constant_number n s)) q

    -- ---- Records without parts, by their bytes.

    pub past-starts : (n : ℕ) → length s / node_size ≤ n → start_at d n ≡ none
    unfolding start_node
    past-starts n g = start-here n ∙ rw (node-past s n g)

    pub whole-starts : (n : ℕ) → n < length s / node_size → get_or s (node_size * n) 0 ≡ 3 → start_at d n ≡ some n
    unfolding start_node plain_node
    whole-starts n g m = start-here n ∙ rw (node-plain s n g (λ e. omega arith) (λ e. omega arith), m)

    -- ---- Constants.

    module _ (bytes : (i : ℕ) → get_or s i 0 < 256) where
      digits-here : (k n : ℕ) → n ≤ length s / node_size → digits_marked k n s ≡ true → digits_stand d k n (digits k n s) ≡ true
      unfolding digits_stand digits_marked digits digit_length
      digits-here zero n g e = refl
      digits-here (suc k) zero g e = absurd (let z : ◌≡◌ {A = ℕ} 0 1 = cc in omega arith)
      digits-here (suc k) (suc n) g e = by-test (eqb (get_or s (node_size * n) 0) 2) refl (digits-here k n (omega arith)) e
        where
          x : ℕ
          x = number_at 6 (node_size * n + 2) s

          low_x : (digits k n s * 2 ^ 48 + x) % 2 ^ 48 ≡ x
          low_x = low (digits k n s) 48 (six-below s bytes (node_size * n + 2))

          high-x : (digits k n s * 2 ^ 48 + x) / 2 ^ 48 ≡ digits k n s
          high-x = high (digits k n s) 48 (six-below s bytes (node_size * n + 2))

          by-test : (b : Bool) → eqb (get_or s (node_size * n) 0) 2 ≡ b → (digits_marked k n s ≡ true → digits_stand d k n (digits k n s) ≡ true) → cond b (digits_marked k n s) false ≡ true
              → both (is_digit48 d (node_at d n) ((digits k n s * 2 ^ 48 + x) % 2 ^ 48)) (digits_stand d k n ((digits k n s * 2 ^ 48 + x) / 2 ^ 48)) ≡ true
          by-test true t f m =
              let y : node_at d n ≡ D.more x = h.at n ∙ node-more s n (omega arith) (eqb-true _ _ t) in
              rw (low_x, high-x, y, eq-eqb x x refl, f m)
          by-test false t f m = absurd (let z : ◌≡◌ {A = ℕ} 0 1 = cc in omega arith)

      pub constant-starts : (n : ℕ) (v : Value) → node_of s n ≡ D.constant v
          → start_at d n ≡ cond (ltb v.number (2 ^ v.length)) (some (n - further_digits v.length)) none
      unfolding start_node constant_start digit_length constant_number
      constant-starts n v e =
          let r = constant-ends s n v e in
          let k = get_or s (node_size * n + 1) 0 / 48 in
          let f : further_digits v.length ≡ k = ap (λ (w : Value). further_digits w.length) r.is ∙ further-of (get_or s (node_size * n + 1) 0) in
          let x : v.number ≡ digits k n s * 2 ^ 48 + number_at 6 (node_size * n + 2) s =
          ap (λ (w : Value). w.number) r.is ∙ rw (further-of (get_or s (node_size * n + 1) 0), before-digits k n s) (omega arith) in
          let q : v.number / 2 ^ 48 ≡ digits k n s = ap (λ (m : ℕ). m / 2 ^ 48) x ∙ high (digits k n s) 48 (six-below s bytes (node_size * n + 2)) in
          let t : digits_stand d (further_digits v.length) n (v.number / 2 ^ 48) ≡ true = rw (f, q) (digits-here k n (omega (arith, r.whole)) r.marked) in
          start-here n ∙ rw (e, t) (by-test (ltb v.number (2 ^ v.length)))
        where
          by-test : (b : Bool) → cond (both b true) (some (n - further_digits v.length)) none ≡ cond b (some (n - further_digits v.length)) none
          by-test true = refl
          by-test false = refl

pub further-within : (s : List ℕ) (n l : ℕ) → ConstantAt s n l → further_digits l ≤ n
further-within s n l c =
    let r = constant-ends s n c.is c.here in
    let f : further_digits l ≡ get_or s (node_size * n + 1) 0 / 48 = ap further_digits (sym c.long ∙ ap (λ (w : Value). w.length) r.is) ∙ further-of (get_or s (node_size * n + 1) 0) in
    omega (arith, marked-within (get_or s (node_size * n + 1) 0 / 48) n s r.marked)

-- ---- A description with these expressions and nothing else.

abbrev alone : List ℕ → Description
alone s = described (record { facilities = []; operations = []; expressions = s; actions = []; states = []; names = [] })

alone-nodes : (s : List ℕ) → Nodes (alone s) s
alone-nodes s =
    let x : Sections = record { facilities = []; operations = []; expressions = s; actions = []; states = []; names = [] } in
    record { count = expressions-count x; at = node-described x }

-- So what holds of every such description holds.
pub found_within : (s : List ℕ) (a n m : ℕ) → ((d : Description) → Nodes d s → some m ≡ just_before d (start_at d) a n) → m < n
found_within s a n m f = just-within (alone s) a n (sym (f (alone s) (alone-nodes s)))
