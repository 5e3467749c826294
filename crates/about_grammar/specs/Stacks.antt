-- Stacks that come to the same: a notion's ways with what follows them, notions that are left out, nodes that are built.
use Rattle.std.specs.Prelude.{Bool, ◌≡◌, ℕ, eqb}
use Rattle.std.proofs.Math.Bool.{true, false, cond}
use mathlib.Core.List.{List, [], ◌∷◌, ◌++◌, map, append_assoc}
use Rattle.std.proofs.Common.{◌∙◌, subst}
use Rattle.std.proofs.Math.Path.{ap, sym, refl}
use Rattle.language.specs.Alternatives.{always, followed}
use Rattle.language.specs.Machine.{Alternative, Ask, Counts, Fed, Parsed, Reading, Rule, Sym, after, ask, choose, feed, finish, leave, leave_at_end, make, may, reading, run, stuck, take_way}
use Rattle.language.specs.BuildSteps.{Step, Steps}
use Rattle.language.specs.Words.{Position, Word, kind_of, position, word_at}
use Rattle.about_grammar.specs.Following.{Follows, among, among_first, among-rest}

pub false-true : {A : Type 0} → false ≡ true → A
false-true {A} e = absurd (subst (λ (b : Bool). cond b ⊥ (Unit {0})) e tt)

module _ {B : Type 0} where
  -- No way stands instead of the next symbol.
  unfoldable pub plain_ways : List (Alternative B) → Bool
  plain_ways [] = true
  plain_ways (a ∷ xs) = cond a.instead false (plain_ways xs)

  abbrev pub kinds_of : List (Alternative B) → List ℕ
  kinds_of [] = []
  kinds_of (a ∷ xs) = a.on ∷ kinds_of xs

  pub plain-first : (a : Alternative B) (xs : List (Alternative B)) → plain_ways (a ∷ xs) ≡ true → a.instead ≡ false
  unfolding plain_ways
  plain-first a xs h = go a.instead h
    where
      go : (b : Bool) → cond b false (plain_ways xs) ≡ true → b ≡ false
      go true e = false-true e
      go false e = refl

  pub plain-rest : (a : Alternative B) (xs : List (Alternative B)) → plain_ways (a ∷ xs) ≡ true → plain_ways xs ≡ true
  unfolding plain_ways
  plain-rest a xs h = go a.instead h
    where
      go : (b : Bool) → cond b false (plain_ways xs) ≡ true → plain_ways xs ≡ true
      go true e = false-true e
      go false e = e

  module _ (S : Steps B) (fits : Counts → Bool) where
    pub choose-append : (xs ys : List (Alternative B)) (w : Word) (K : List (Sym B)) (r : Reading B) (o : Fed B)
        → choose S fits (xs ++ ys) w K r o ≡ choose S fits xs w K r (choose S fits ys w K r o)
    unfolding choose
    choose-append [] ys w K r o = refl
    choose-append (a ∷ xs) ys w K r o = ap (cond (eqb (kind_of w) a.on) (take_way S fits a w K r)) (choose-append xs ys w K r o)

    pub choose-followed : (M : List (Sym B)) (xs : List (Alternative B)) → plain_ways xs ≡ true → (w : Word) (K : List (Sym B)) (r : Reading B) (o : Fed B)
        → choose S fits (map (followed M) xs) w K r o ≡ choose S fits xs w (M ++ K) r o
    unfolding choose
    choose-followed M [] h w K r o = refl
    choose-followed M (a ∷ xs) h w K r o =
        ap (cond (eqb (kind_of w) a.on) (take_way S fits (followed M a) w K r)) (choose-followed M xs (plain-rest a xs h) w K r o)
        ∙ ap (λ (f : Fed B). cond (eqb (kind_of w) a.on) f (choose S fits xs w (M ++ K) r o)) (way-followed (plain-first a xs h))
      where
        way-followed : a.instead ≡ false → take_way S fits (followed M a) w K r ≡ take_way S fits a w (M ++ K) r
        way-followed e = rw (e, append_assoc) refl

    pub choose-none : (xs : List (Alternative B)) (w : Word) → among (kind_of w) (kinds_of xs) ≡ false → (K : List (Sym B)) (r : Reading B) (o : Fed B)
        → choose S fits xs w K r o ≡ o
    unfolding choose
    choose-none [] w h K r o = refl
    choose-none (a ∷ xs) w h K r o =
        rw (among_first (kind_of w) a.on (kinds_of xs) h) (choose-none xs w (among-rest (kind_of w) a.on (kinds_of xs) h) K r o)

    module _ (rules : Ask → Rule B) where
      pub same-run : (K L : List (Sym B)) (r q : Reading B) → ((w : Word) → feed S fits rules K w r ≡ feed S fits rules L w q)
          → ((end : ℕ) → finish S fits rules K end r ≡ finish S fits rules L end q)
          → (vs : List Word) (end : ℕ) → run S fits rules K vs end r ≡ run S fits rules L vs end q
      unfolding run
      same-run K L r q f g [] end = g end
      same-run K L r q f g (w ∷ vs) end = ap (λ (x : Fed B). after S fits rules x (λ M s. run S fits rules M vs end s)) (f w)

      -- A node is built by a step that looks at no place.
      pub makes : (f : Step B) (K : List (Sym B)) (b c : B) (n : Counts) → ((p : Position) → f p b ≡ c)
          → (vs : List Word) (end : ℕ) → run S fits rules (make f ∷ K) vs end (reading b n) ≡ run S fits rules K vs end (reading c n)
      unfolding run feed finish
      makes f K b c n h [] end = ap (λ (x : B). finish S fits rules K end (reading x n)) (h (position end))
      makes f K b c n h (w ∷ vs) end = ap (λ (x : B). after S fits rules (feed S fits rules K w (reading x n)) (λ M s. run S fits rules M vs end s)) (h (word_at w))

      -- A notion with its rule known.
      pub asks : (a : Ask) (R : Rule B) → rules a ≡ R → (K : List (Sym B)) (w : Word) (r : Reading B)
          → feed S fits rules (ask a ∷ K) w r ≡ choose S fits R.ways w K r (leave S fits R.without w r (λ q. feed S fits rules K w q))
      unfolding feed
      asks a R e K w r = ap (λ (x : Rule B). choose S fits x.ways w K r (leave S fits x.without w r (λ q. feed S fits rules K w q))) e

      pub asks-end : (a : Ask) (R : Rule B) → rules a ≡ R → (K : List (Sym B)) (end : ℕ) (r : Reading B)
          → finish S fits rules (ask a ∷ K) end r ≡ leave_at_end S fits R.without end r (λ q. finish S fits rules K end q)
      unfolding finish
      asks-end a R e K end r = ap (λ (x : Rule B). leave_at_end S fits x.without end r (λ q. finish S fits rules K end q)) e

      unfoldable pub on : List Word → ℕ → Fed B → Parsed B
      unfolding run
      on vs end x = after S fits rules x (λ M s. run S fits rules M vs end s)

      -- What may be left out is, where what follows begins none of its ways; its step looks at no place.
      pub omits : (a : Ask) (ways : List (Alternative B)) (f : Step B) → rules a ≡ record { ways = ways; without = may f } → (K : List (Sym B)) (b c : B) (n : Counts)
          → ((p : Position) → f p b ≡ c) → (vs : List Word) → Follows (kinds_of ways) vs → (end : ℕ)
          → run S fits rules (ask a ∷ K) vs end (reading b n) ≡ run S fits rules K vs end (reading c n)
      unfolding run on
      omits a ways f e K b c n h [] t end =
          asks-end a (record { ways = ways; without = may f }) e K end (reading b n) ∙ ap (λ (x : B). finish S fits rules K end (reading x n)) (h (position end))
      omits a ways f e K b c n h (w ∷ vs) t end =
          ap (on vs end) (asks a (record { ways = ways; without = may f }) e K w (reading b n)
          ∙ choose-none ways w t K (reading b n) (feed S fits rules K w (reading (f (word_at w) b) n)) ∙ ap (λ (x : B). feed S fits rules K w (reading x n)) (h (word_at w)))

      -- A notion that must come, and begins as another does with more to follow.
      pub begins : (a d : Ask) (M : List (Sym B)) (ways : List (Alternative B)) → plain_ways ways ≡ true → rules a ≡ always (map (followed M) ways) → rules d ≡ always ways
          → (K : List (Sym B)) (r : Reading B) (vs : List Word) (end : ℕ) → run S fits rules (ask a ∷ K) vs end r ≡ run S fits rules (ask d ∷ (M ++ K)) vs end r
      begins a d M ways p e g K r = same-run (ask a ∷ K) (ask d ∷ (M ++ K)) r r at-word at-end
        where
          at-word : (w : Word) → feed S fits rules (ask a ∷ K) w r ≡ feed S fits rules (ask d ∷ (M ++ K)) w r
          at-word w =
              asks a (always (map (followed M) ways)) e K w r ∙ choose-followed M ways p w K r (stuck S fits w) ∙ sym (asks d (always ways) g (M ++ K) w r)

          at-end : (end : ℕ) → finish S fits rules (ask a ∷ K) end r ≡ finish S fits rules (ask d ∷ (M ++ K)) end r
          at-end end = asks-end a (always (map (followed M) ways)) e K end r ∙ sym (asks-end d (always ways) g (M ++ K) end r)

      -- The same, of the later ways of a notion, where the word begins none of the first ones.
      pub begins-later : (a d : Ask) (M : List (Sym B)) (early ways : List (Alternative B)) → plain_ways ways ≡ true → rules a ≡ always (early ++ map (followed M) ways) → rules d ≡ always ways
          → (K : List (Sym B)) (r : Reading B) (w : Word) → among (kind_of w) (kinds_of early) ≡ false → (vs : List Word) (end : ℕ)
          → run S fits rules (ask a ∷ K) (w ∷ vs) end r ≡ run S fits rules (ask d ∷ (M ++ K)) (w ∷ vs) end r
      unfolding run on
      begins-later a d M early ways p e g K r w n vs end =
          ap (on vs end) (asks a (always (early ++ map (followed M) ways)) e K w r ∙ choose-append early (map (followed M) ways) w K r (stuck S fits w)
          ∙ choose-none early w n K r (choose S fits (map (followed M) ways) w K r (stuck S fits w)) ∙ choose-followed M ways p w K r (stuck S fits w)
          ∙ sym (asks d (always ways) g (M ++ K) w r))
