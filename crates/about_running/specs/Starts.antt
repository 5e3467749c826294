-- Where the tree of a record begins: before the record, and its parts' trees lie between. Assumes nothing.
use Rattle.std.specs.Prelude.{Bool, ◌≡◌, eqb}
use Rattle.std.proofs.Math.Bool.{true, false, cond}
use Rattle.std.proofs.Math.Option.{Option, none, some}
use Rattle.std.proofs.Math.Path.{refl}
use Rattle.std.proofs.Common.{sym, ◌∙◌}
use native.Mathlib.Omega.{arith}
use Prim.Native.Nat.{ℕ, zero, suc, ◌+◌, ◌-◌, ◌/◌, ◌^◌, ◌≤◌, ◌<◌}
use borrow.Author.Tests.{eqb-true, ltb-true}
use Rattle.std.proofs.Math.Dec.{ltb}
use Rattle.language.specs.Description as D
use Rattle.language.specs.Description.{Description, Node, digit_length, further_digits, node_at}
use Rattle.language.specs.Order.{constant_start, digits_stand, ending, just_before, start_at, start_below, start_node, start_step, two_before}
use Rattle.language.specs.Recursion.{below-lt}
use Rattle.language.specs.Tests.{both}

pub none-some : {A : Type 0} {s : ℕ} → none ≡ some s → A
none-some e = absurd (let z : ◌≡◌ {A = ℕ} 0 1 = cc in omega arith)

some_same : {m n : ℕ} → some m ≡ some n → m ≡ n
some_same e = cc

module _ (d : Description) where
  pub start-lt : (n a : ℕ) → a < n → start_below d n a ≡ start_at d a
  unfolding start_below start_at
  start-lt n a h = below-lt none (start_step d) n a h

  pub record OneBefore (a n s : ℕ) : Type 0 where
    pub last : a + 1 ≡ n
    pub start : start_at d a ≡ some s

  pub one-before : (a n s : ℕ) → just_before d (start_below d n) a n ≡ some s → OneBefore a n s
  one-before a n s e = go (eqb (a + 1) n) refl e
    where
      go : (t : Bool) → eqb (a + 1) n ≡ t → cond t (start_below d n a) none ≡ some s → OneBefore a n s
      go true q r =
          let h : a + 1 ≡ n = eqb-true _ _ q in
          record { last = h; start = sym (start-lt n a (omega arith)) ∙ r }
      go false q r = none-some r

  pub record TwoBefore (a b n s : ℕ) : Type 0 where
    pub middle : ℕ
    pub last : b + 1 ≡ n
    pub right : start_at d b ≡ some middle
    pub next : a + 1 ≡ middle
    pub left : start_below d n a ≡ some s

  pub two-before : (a b n s : ℕ) → two_before d (start_below d n) a b n ≡ some s → TwoBefore a b n s
  two-before a b n s e = go (just_before d (start_below d n) b n) refl e
    where
      go2 : (m : ℕ) → OneBefore b n m → (t : Bool) → eqb (a + 1) m ≡ t → cond t (start_below d n a) none ≡ some s → TwoBefore a b n s
      go2 m o true q r = record { middle = m; last = o.last; right = o.start; next = eqb-true _ _ q; left = r }
      go2 m o false q r = none-some r

      go : (x : Option ℕ) → just_before d (start_below d n) b n ≡ x → ending x (λ m. just_before d (start_below d n) a m) ≡ some s → TwoBefore a b n s
      go none q r = none-some r
      go (some m) q r = go2 m (one-before b n m q) (eqb (a + 1) m) refl r

  -- a tree begins at or before its record
  constant-le : (n l x s : ℕ) → constant_start d n l x ≡ some s → s ≤ n
  unfolding constant_start
  constant-le n l x s e = go (both (ltb x (2 ^ l)) (digits_stand d (further_digits l) n (x / 2 ^ digit_length))) e
    where
      go : (t : Bool) → cond t (some (n - further_digits l)) none ≡ some s → s ≤ n
      go true r = let z : n - further_digits l ≡ s = some_same r in omega arith
      go false r = none-some r

  -- and a constant fits its length
  pub constant-fits : (n l x s : ℕ) → constant_start d n l x ≡ some s → x < 2 ^ l
  unfolding constant_start
  constant-fits n l x s e = go (ltb x (2 ^ l)) refl e
    where
      go : (t : Bool) → ltb x (2 ^ l) ≡ t → cond (both t (digits_stand d (further_digits l) n (x / 2 ^ digit_length))) (some (n - further_digits l)) none ≡ some s → x < 2 ^ l
      go true q r = ltb-true x (2 ^ l) q
      go false q r = none-some r

  module _ (n : ℕ) (ih : (a s : ℕ) → a < n → start_at d a ≡ some s → s ≤ a) where
    one-le : (a s : ℕ) → just_before d (start_below d n) a n ≡ some s → s ≤ n
    one-le a s e =
        let o = one-before a n s e in
        let h : s ≤ a = ih a s (omega (arith, o.last)) o.start in
        omega (arith, o.last)

    two-le : (a b s : ℕ) → two_before d (start_below d n) a b n ≡ some s → s ≤ n
    two-le a b s e =
        let o = two-before a b n s e in
        let h : o.middle ≤ b = ih b o.middle (omega (arith, o.last)) o.right in
        let l : a < n = omega (arith, o.last, o.next) in
        let k : s ≤ a = ih a s l (sym (start-lt n a l) ∙ o.left) in
        omega (arith, o.last, o.next)

    node-le : (nd : Node) (s : ℕ) → start_node d (start_below d n) n nd ≡ some s → s ≤ n
    unfolding start_node
    node-le (D.constant v) s e = constant-le n v.length v.number s e
    node-le (D.more m) s e = none-some e
    node-le (D.whole f) s e = let z : n ≡ s = some_same e in omega arith
    node-le (D.one f a) s e = one-le a s e
    node-le (D.part f b) s e = let z : n ≡ s = some_same e in omega arith
    node-le (D.two f a g) s e = two-le a g s e
    node-le (D.word_part f a b) s e = one-le a s e
    node-le (D.binary k a b) s e = two-le a b s e
    node-le (D.prefix k a) s e = one-le a s e
    node-le (D.cut k a c) s e = one-le a s e
    node-le (D.first_arm a) s e = one-le a s e
    node-le (D.next_arm a g) s e = two-le a g s e
    node-le (D.choice g a k) s e = two-le g a s e
    node-le D.Node.broken s e = none-some e

  start-below : (k n s : ℕ) → n < k → start_at d n ≡ some s → s ≤ n
  unfolding start_at
  start-below zero n s h e = absurd (omega arith)
  start-below (suc k) n s h e = node-le n (λ a t l. start-below k a t (omega arith)) (node_at d n) s e

  pub start-le : (n s : ℕ) → start_at d n ≡ some s → s ≤ n
  start-le n s e = start-below (suc n) n s (omega arith) e

  -- Of two parts, the left one's tree begins where the owner's does, and the right one's after the left part.
  pub record Parts (a b n s : ℕ) : Type 0 where
    pub middle : ℕ
    pub left_below : a < n
    pub right-below : b < n
    pub left : start_at d a ≡ some s
    pub right : start_at d b ≡ some middle
    pub after : s ≤ middle

  pub two-parts : (a b n s : ℕ) → two_before d (start_below d n) a b n ≡ some s → Parts a b n s
  two-parts a b n s e =
      let o = two-before a b n s e in
      let h : o.middle ≤ b = start-le b o.middle o.right in
      let l : a < n = omega (arith, o.last, o.next) in
      let x : start_at d a ≡ some s = sym (start-lt n a l) ∙ o.left in
      let k : s ≤ a = start-le a s x in
      record { middle = o.middle; left_below = l; right-below = omega (arith, o.last); left = x; right = o.right; after = omega (arith, o.next) }
