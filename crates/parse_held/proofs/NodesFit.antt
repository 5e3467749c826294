-- The records of a tidy expression whose words stand near have room for all that they say.
use mathlib.Core.Bool.{Bool, true, false, cond}
use mathlib.Core.List.{List, [], ◌∷◌, ◌++◌}
use mathlib.Core.Option.{Option, none, some}
use mathlib.Core.Path.{◌≡◌, refl}
use Prim.Native.Nat.{ℕ, zero, suc, ◌+◌, ◌-◌, ◌*◌, ◌/◌, ◌%◌, ◌^◌, ◌<◌, ◌≤◌}
use native.Mathlib.Nat.{mod-lt}
use native.Mathlib.Omega.{arith}
use lib.Dec.{ltb}
use lib.ListN.{length}
use Rattle.language.specs.Describe.{Noted, arms_of, bound, bounds_of, constant_nodes, constant_size, count, digits_above, expression_size, last_of, noted, nodes_of, noted_part}
use Rattle.language.specs.Description as D
use Rattle.language.specs.Description.{Description, Node, digit_length, further_digits, node_at}
use Rattle.language.specs.Naming.{Meaning, Scope, facility, meaning, number_of, of_facility, operation, or_else, state, unknown}
use Rattle.language.specs.Order.{constant_start, digits_stand, start_at, start_node}
use Rattle.language.specs.Scan.{same}
use Rattle.language.specs.Tree as T
use Rattle.language.specs.Tree.{Ends, Expression, Name}
use Rattle.language.specs.Value.{Value}
use Rattle.language.specs.Ceilings.{longest}
use Rattle.language.specs.Words.{Position}
use Rattle.about_rules.specs.Sizes.{nodes-size}
use Rattle.about_rules.specs.Starts.{Stand, constant-starts}
use Rattle.about_rules.specs.Tidy.{ExpressionTidy}
use Rattle.about_images.specs.Back.{NodeInRange}
use Rattle.parse_held.specs.NearTexts.{EndsNear, ExpressionNear}
use Rattle.parse_held.specs.Standing.{Marked, Near, ends_of, narrow_node}
use Rattle.language.specs.Tests.{both}

-- ---- What names mean.

pub number-below : (n : Name) (k : ℕ) (ms : List Name) {j : ℕ} → number_of n k ms ≡ some j → j < k + length ms
unfolding number_of
number-below n k [] e = absurd (let z : ◌≡◌ {A = ℕ} 0 1 = cc in omega arith)
number-below n k (m ∷ ms) {j} e = go (same n m) (λ d. number-below n (suc k) ms d) e
  where
    go : (b : Bool) → (number_of n (suc k) ms ≡ some j → j < suc k + length ms) → cond b (some k) (number_of n (suc k) ms) ≡ some j → j < k + suc (length ms)
    go true f d = let z : k ≡ j = cc in omega arith
    go false f d = omega (arith, f d)

-- What a scope says of the meaning of a name.
abbrev pub Known : Scope → Name → Meaning → Type 0
Known s n (facility k) = k < length s.facilities
Known s n (operation k) = k < length s.operations
Known s n (state k) = s.state_named n ≡ some k
Known s n unknown = Unit {0}

pub known : (s : Scope) (n : Name) → Known s n (meaning s n)
unfolding meaning
known s n = go (number_of n 0 s.facilities) refl
  where
    third : (r : Option ℕ) → s.state_named n ≡ r → Known s n (or_else r state unknown)
    third none e = tt
    third (some k) e = e

    second : (r : Option ℕ) → number_of n 0 s.operations ≡ r → Known s n (or_else r operation (or_else (s.state_named n) state unknown))
    second none e = third (s.state_named n) refl
    second (some k) e = omega (arith, number-below n 0 s.operations e)

    go : (r : Option ℕ) → number_of n 0 s.facilities ≡ r
        → Known s n (or_else r facility (or_else (number_of n 0 s.operations) operation (or_else (s.state_named n) state unknown)))
    go none e = second (number_of n 0 s.operations) refl
    go (some k) e = omega (arith, number-below n 0 s.facilities e)

of-facility : (s : Scope) (n : Name) → length s.facilities ≤ 256 → (m : Meaning) → Known s n m → (P : Node → Type 0) (g : ℕ → Node) → ((k : ℕ) → k < 256 → P (g k)) → P D.Node.broken → P (of_facility m g)
of-facility s n few (facility k) h P g f b = f k (omega arith)
of-facility s n few (operation k) h P g f b = b
of-facility s n few (state k) h P g f b = b
of-facility s n few unknown h P g f b = b

arms-few : (e : Expression) → arms_of e ≤ expression_size e
unfolding arms_of expression_size
arms-few (T.constant c p) = omega arith
arms-few (T.whole n p) = omega arith
arms-few (T.one n p e) = omega arith
arms-few (T.part n p x) = omega arith
arms-few (T.two n p e f) = omega arith
arms-few (T.word_part n p e x) = omega arith
arms-few (T.binary k p e f) = omega arith
arms-few (T.prefix k p e) = omega arith
arms-few (T.cut k p e c) = omega arith
arms-few (T.choice p e f) = omega arith
arms-few (T.first_arm e) = omega arith
arms-few (T.next_arm e f) = omega (arith, arms-few e)

module _ (d : Description) where
  -- The records stand from a number on, with narrow bounds.
  abbrev pub Here : ℕ → List Noted → Type 0
  Here base [] = Unit {0}
  Here base (n ∷ ns) = (node_at d base ≡ narrow_node n.node) × Here (suc base) ns

  pub here-left : (base : ℕ) (xs ys : List Noted) → Here base (xs ++ ys) → Here base xs
  here-left base [] ys h = tt
  here-left base (x ∷ xs) ys h = (h.0, here-left (suc base) xs ys h.1)

  pub here-right : (base : ℕ) (xs ys : List Noted) → Here base (xs ++ ys) → (at : ℕ) → at ≡ base + length xs → Here at ys
  here-right base [] ys h at e = let z : at ≡ base = omega arith in rw z h
  here-right base (x ∷ xs) ys h at e = here-right (suc base) xs ys h.1 at (omega arith)

  -- Record n has room for what it says, and its places too.
  pub record NodeFits (n : ℕ) (x : Noted) : Type 0 where
    pub range : NodeInRange d n (narrow_node x.node)
    pub ends : Marked (ends_of x.node)
    pub at : Near x.places.at
    pub first : Near x.places.first
    pub last : Near x.places.last

  abbrev pub AllFit : ℕ → List Noted → Type 0
  AllFit base [] = Unit {0}
  AllFit base (n ∷ ns) = NodeFits base n × AllFit (suc base) ns

  pub fit_append : (base : ℕ) (xs ys : List Noted) → AllFit base xs → (at : ℕ) → at ≡ base + length xs → AllFit at ys → AllFit base (xs ++ ys)
  fit_append base [] ys f at e g = let z : base ≡ at = omega arith in rw z g
  fit_append base (x ∷ xs) ys f at e g = (f.0, fit_append (suc base) xs ys f.1 at (omega arith) g)

  simple : (n : ℕ) (x : Node) (p : Position) → NodeInRange d n (narrow_node x) → Marked (ends_of x) → Near p → NodeFits n (noted x p)
  simple n x p r m h = record { range = r; ends = m; at = h; first = omega arith; last = omega arith }

  abbrev None : (0 < 131072) × (0 < 131072)
  None = (omega arith, omega arith)

  -- ---- Constants.

  digits-fit : (k base x : ℕ) (p : Position) (last : Noted) → Near p → NodeFits (base + k) last → AllFit base (digits_above k x p (last ∷ []))
  unfolding digits_above digit_length
  digits-fit zero base x p last h f = let z : base + 0 ≡ base = omega arith in (rw z at f, tt)
  digits-fit (suc k) base x p last h f =
      let z : base + suc k ≡ suc base + k = omega arith in
      (simple base (D.more (x / 2 ^ (digit_length * suc k) % 2 ^ digit_length)) p (mod-lt (x / 2 ^ (digit_length * suc k)) (omega arith)) None h, digits-fit k (suc base) x p last h (rw z at f))

  last-here : (k base x : ℕ) (p : Position) (v : Value) → Here base (digits_above k x p (noted (D.constant v) p ∷ [])) → node_at d (base + k) ≡ D.constant v
  unfolding digits_above
  last-here zero base x p v h = let z : base + 0 ≡ base = omega arith in rw z h.0
  last-here (suc k) base x p v h = let z : base + suc k ≡ suc base + k = omega arith in rw z (last-here k (suc base) x p v h.1)

  stand : (k base x : ℕ) (p : Position) (v : Value) → Here base (digits_above k x p (noted (D.constant v) p ∷ [])) → Stand d base (digits_above k x p (noted (D.constant v) p ∷ []))
  unfolding digits_above
  stand zero base x p v h = h
  stand (suc k) base x p v h = (h.0, stand k (suc base) x p v h.1)

  digits-so : (n base : ℕ) (v : Value) → node_at d n ≡ D.constant v → start_at d n ≡ some base → digits_stand d (further_digits v.length) n (v.number / 2 ^ 48) ≡ true
  unfolding start_at start_node constant_start digit_length
  digits-so n base v e f = go (ltb v.number (2 ^ v.length)) (digits_stand d (further_digits v.length) n (v.number / 2 ^ 48)) (rw e at f)
    where
      go : (a b : Bool) → cond (both a b) (some (n - further_digits v.length)) none ≡ some base → b ≡ true
      go true true g = refl
      go true false g = absurd (let z : ◌≡◌ {A = ℕ} 0 1 = cc in omega arith)
      go false b g = absurd (let z : ◌≡◌ {A = ℕ} 0 1 = cc in omega arith)

  pub constant-fits : (base : ℕ) (v : Value) (p : Position) → 1 ≤ v.length → v.length ≤ 256 → v.number < 2 ^ v.length → Near p → Here base (constant_nodes v p) → AllFit base (constant_nodes v p)
  unfolding constant_nodes constant_size
  constant-fits base v p a b c h g =
      let k = further_digits v.length in
      let z : last_of base (suc k) ≡ base + k = omega arith in
      let s : start_at d (base + k) ≡ some base = rw z at (constant-starts d base v p c (stand k base v.number p v g)) in
      digits-fit k base v.number p (noted (D.constant v) p) h
      (simple (base + k) (D.constant v) p (a, b, c, digits-so (base + k) base v (last-here k base v.number p v g) s) None h)

  -- ---- Expressions.

  module _ (s : Scope) (few : length s.facilities ≤ 256) where
    named : (n : Name) (P : Node → Type 0) (g : ℕ → Node) → ((k : ℕ) → k < 256 → P (g k)) → P D.Node.broken → P (of_facility (meaning s n) g)
    named n = of-facility s n few (meaning s n) (known s n)

    -- A record behind those of one part, and of two.
    behind : (base : ℕ) (e : Expression) (x : Noted) → AllFit base (nodes_of s base e) → NodeFits (base + expression_size e) x → AllFit base (nodes_of s base e ++ x ∷ [])
    behind base e x f g = fit_append base (nodes_of s base e) (x ∷ []) f (base + expression_size e) (rw (nodes-size s base e) refl) (g, tt)

    behind-two : (base : ℕ) (e f : Expression) (x : Noted) → AllFit base (nodes_of s base e) → AllFit (base + expression_size e) (nodes_of s (base + expression_size e) f) → NodeFits (base + expression_size e + expression_size f) x
        → AllFit base (nodes_of s base e ++ (nodes_of s (base + expression_size e) f ++ x ∷ []))
    behind-two base e f x g h i =
        fit_append base (nodes_of s base e) (nodes_of s (base + expression_size e) f ++ x ∷ []) g (base + expression_size e) (rw (nodes-size s base e) refl) (behind (base + expression_size e) f x h i)

    first-here : (base : ℕ) (e : Expression) (rest : List Noted) → Here base (nodes_of s base e ++ rest) → Here base (nodes_of s base e)
    first-here base e rest h = here-left base (nodes_of s base e) rest h

    next_here : (base : ℕ) (e : Expression) (rest : List Noted) → Here base (nodes_of s base e ++ rest) → Here (base + expression_size e) rest
    next_here base e rest h = here-right base (nodes_of s base e) rest h (base + expression_size e) (rw (nodes-size s base e) refl)

    second-here : (base : ℕ) (e f : Expression) (x : Noted) → Here base (nodes_of s base e ++ (nodes_of s (base + expression_size e) f ++ x ∷ [])) → Here (base + expression_size e) (nodes_of s (base + expression_size e) f)
    second-here base e f x h = first-here (base + expression_size e) f (x ∷ []) (next_here base e _ h)

    half-marked : (x : Ends) → Marked (bounds_of x)
    unfolding bound
    half-marked x = (omega arith, omega arith)

    part-fits : (n : ℕ) (g : Node) (p : Position) (x : Ends) → NodeInRange d n (narrow_node g) → Marked (ends_of g) → Near p → EndsNear x → NodeFits n (noted_part g p x)
    part-fits n g p x r m h e = record { range = r; ends = m; at = h; first = e.0; last = e.1 }

    pub nodes-fit : (base : ℕ) (e : Expression) → ExpressionTidy e → ExpressionNear e → base + expression_size e ≤ 65535 → Here base (nodes_of s base e) → AllFit base (nodes_of s base e)
    unfolding nodes_of expression_size bound count longest
    nodes-fit base (T.constant c p) t n l h = constant-fits base c.value p t.some_bits t.at-most t.fits n h
    nodes-fit base (T.whole a p) t n l h = (named a (λ x. NodeFits base (noted x p)) D.whole (λ k b. simple base (D.whole k) p b None n) (simple base D.Node.broken p tt None n), tt)
    nodes-fit base (T.one a p e) t n l h =
        let at = base + expression_size e in
        let g : ℕ → Node = λ f. D.one f (last_of base (expression_size e)) in
        behind base e (noted (of_facility (meaning s a) g) p) (nodes-fit base e t n.1 (omega arith) (first-here base e _ h))
        (named a (λ x. NodeFits at (noted x p)) g (λ k b. simple at (g k) p (b, omega arith) None n.0) (simple at D.Node.broken p tt None n.0))
    nodes-fit base (T.part a p x) t n l h =
        let g : ℕ → Node = λ f. D.part f (bounds_of x) in
        (named a (λ y. NodeFits base (noted_part y p x)) g (λ k b. part-fits base (g k) p x (b, omega arith, omega arith) (half-marked x) n.0 n.1) (part-fits base D.Node.broken p x tt None n.0 n.1), tt)
    nodes-fit base (T.two a p e f) t n l h =
        let next = base + expression_size e in
        let at = next + expression_size f in
        let g : ℕ → Node = λ i. D.two i (last_of base (expression_size e)) (last_of next (expression_size f)) in
        behind-two base e f (noted (of_facility (meaning s a) g) p) (nodes-fit base e t.0 n.1.0 (omega arith) (first-here base e _ h))
        (nodes-fit next f t.1 n.1.1 (omega arith) (second-here base e f _ h))
        (named a (λ x. NodeFits at (noted x p)) g (λ k b. simple at (g k) p (b, omega arith, omega arith) None n.0) (simple at D.Node.broken p tt None n.0))
    nodes-fit base (T.word_part a p e x) t n l h =
        let at = base + expression_size e in
        let g : ℕ → Node = λ f. D.word_part f (last_of base (expression_size e)) (bounds_of x) in
        behind base e (noted_part (of_facility (meaning s a) g) p x) (nodes-fit base e t n.1 (omega arith) (first-here base e _ h))
        (named a (λ y. NodeFits at (noted_part y p x)) g (λ k b. part-fits at (g k) p x (b, omega arith, omega arith, omega arith) (half-marked x) n.0.0 n.0.1)
        (part-fits at D.Node.broken p x tt None n.0.0 n.0.1))
    nodes-fit base (T.binary k p e f) t n l h =
        let next = base + expression_size e in
        behind-two base e f (noted (D.binary k (last_of base (expression_size e)) (last_of next (expression_size f))) p) (nodes-fit base e t.0 n.1.0 (omega arith) (first-here base e _ h))
        (nodes-fit next f t.1 n.1.1 (omega arith) (second-here base e f _ h))
        (simple (next + expression_size f) (D.binary k (last_of base (expression_size e)) (last_of next (expression_size f))) p (n.0.0, omega arith, omega arith) None n.0.1)
    nodes-fit base (T.prefix k p e) t n l h =
        behind base e (noted (D.prefix k (last_of base (expression_size e))) p) (nodes-fit base e t n.1 (omega arith) (first-here base e _ h))
        (simple (base + expression_size e) (D.prefix k (last_of base (expression_size e))) p (n.0.0, omega arith) None n.0.1)
    nodes-fit base (T.cut k p e c) t n l h =
        behind base e (noted (D.cut k (last_of base (expression_size e)) (count c.value.number)) p) (nodes-fit base e t n.1 (omega arith) (first-here base e _ h))
        (simple (base + expression_size e) (D.cut k (last_of base (expression_size e)) (count c.value.number)) p (n.0.0, omega arith, omega arith) None n.0.1)
    nodes-fit base (T.choice p e f) t n l h =
        let next = base + expression_size e in
        let x = D.choice (last_of base (expression_size e)) (last_of next (expression_size f)) (arms_of f) in
        behind-two base e f (noted x p) (nodes-fit base e t.0 n.1.0 (omega arith) (first-here base e _ h))
        (nodes-fit next f t.1 n.1.1 (omega arith) (second-here base e f _ h))
        (simple (next + expression_size f) x p (omega arith, omega arith, omega (arith, arms-few f)) None n.0)
    nodes-fit base (T.first_arm e) t n l h =
        behind base e (noted (D.first_arm (last_of base (expression_size e))) D.nowhere) (nodes-fit base e t n (omega arith) (first-here base e _ h))
        (simple (base + expression_size e) (D.first_arm (last_of base (expression_size e))) D.nowhere (omega arith) None (omega arith))
    nodes-fit base (T.next_arm e f) t n l h =
        let next = base + expression_size e in
        let x = D.next_arm (last_of base (expression_size e)) (last_of next (expression_size f)) in
        behind-two base e f (noted x D.nowhere) (nodes-fit base e t.0 n.0 (omega arith) (first-here base e _ h))
        (nodes-fit next f t.1 n.1 (omega arith) (second-here base e f _ h))
        (simple (next + expression_size f) x D.nowhere (omega arith, omega arith) None (omega arith))
