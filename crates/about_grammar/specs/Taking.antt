-- What it is that the machine takes the words of an expression: behind them its node stands on top and its words are counted.
use Rattle.std.specs.Prelude.{false, List, [], ◌∷◌, ◌++◌, ◌≡◌, ℕ, suc, eqb}
use Rattle.language.specs.Building.{Built, with_expressions, keep_word}
use Rattle.language.specs.CountedWords.{counted_expression, counted_reference}
use Rattle.language.specs.Kinds.{a_constant, colon, difference_sign, input_word, minus, open_bracket}
use Rattle.language.specs.Machine.{Counts, ask, reading, subscripts}
use Rattle.language.specs.Notions as N
use Rattle.language.specs.Notions.{Tree}
use Rattle.language.specs.Tree.{Expression, Name}
use Rattle.language.specs.Words as W
use Rattle.language.specs.Words.{Position, Word, kind_of}
use Rattle.about_grammar.specs.Courses.{Ceiling, Comes, Grown, Room, Stack}
use Rattle.about_grammar.specs.Following.{Follows, after_term, among}
use Rattle.language.specs.Operators.{reductions}

-- The counted words of a tree that is an expression.
abbrev pub count_of : Tree → ℕ
count_of (N.expression e) = counted_expression e
count_of (N.left l) = 0
count_of (N.actions a) = 0
count_of (N.ends x) = 0
count_of (N.extent x) = 0
count_of (N.facility d) = 0
count_of (N.facilities ds) = 0
count_of (N.declared rs ms ts) = 0
count_of (N.operations os) = 0
count_of (N.label l v) = 0
count_of (N.states ss) = 0
count_of (N.text t) = 0
count_of N.nothing = 0

-- Its node on top of the others.
abbrev pub push : Expression → Built → Built
push e b = with_expressions b (e ∷ b.expressions)

abbrev pub put : Tree → Built → Built
put (N.expression e) b = push e b
put (N.left l) b = b
put (N.actions a) b = b
put (N.ends x) b = b
put (N.extent x) b = b
put (N.facility d) b = b
put (N.facilities ds) b = b
put (N.declared rs ms ts) b = b
put (N.operations os) b = b
put (N.label l v) b = b
put (N.states ss) b = b
put (N.text t) b = b
put N.nothing b = b

-- The stack P comes to the stack Q by the words, with n counted words more, and with what f builds.
pub record Arrives (C : Ceiling) (ks : List ℕ) (K : Stack) (b : Built) (c : Counts) (us : List Word) (L : Stack) (b₁ : Built) (n : ℕ) : Type 0 where
  pub counts : Counts
  pub grown : Grown n c counts
  pub comes : Comes C ks K (reading b c) us L (reading b₁ counts)

pub arriving : {C : Ceiling} {ks : List ℕ} {K : Stack} {b : Built} {c : Counts} {us : List Word} {L : Stack} {b₁ : Built} {n : ℕ} {R : Type 0}
    → Arrives C ks K b c us L b₁ n → ((d : Counts) → Grown n c d → Comes C ks K (reading b c) us L (reading b₁ d) → R) → R
arriving a f = f a.counts a.grown a.comes

abbrev pub Takes : Ceiling → Stack → Stack → List ℕ → ℕ → List Word → Tree → Type 0
Takes C P Q ks h us t = (K : Stack) (b : Built) (c : Counts) → Room C.top c (count_of t) h → Arrives C ks (P ++ K) b c us (Q ++ K) (put t b) (count_of t)

-- ---- How the words begin.

-- The first word is of none of these kinds.
abbrev pub Heads : List ℕ → List Word → Type 0
Heads ks [] = ⊥
Heads ks (w ∷ us) = among (kind_of w) ks ≡ false

abbrev pub not_boolean : List ℕ
not_boolean = input_word ∷ []

abbrev pub not_chain : List ℕ
not_chain = minus ∷ not_boolean

abbrev pub not_adjustment : List ℕ
not_adjustment = reductions ++ not_chain

abbrev pub not_term : List ℕ
not_term = difference_sign ∷ not_adjustment

-- A constant at the start has no colon behind it, whatever but a colon follows the words; and a sign is none of a constant's kind.
abbrev pub Apart : List Word → Type 0
Apart [] = Unit {0}
Apart (W.name n p ∷ us) = Unit {0}
Apart (W.constant c p ∷ us) = Follows (colon ∷ []) us
Apart (W.sign k p ∷ us) = eqb k a_constant ≡ false

abbrev pub NoPart : List Word → Type 0
NoPart us = (vs : List Word) → Follows (colon ∷ []) vs → Apart (us ++ vs)

-- The words of an expression of some level.
pub record Phrase (C : Ceiling) (hs : List ℕ) (P Q : Stack) (ks : List ℕ) (h : ℕ) (us : List Word) (t : Tree) : Type 0 where
  pub heads : Heads hs us
  pub apart : NoPart us
  pub takes : Takes C P Q ks h us t

-- ---- References: the words behind the name. As the left side of a store it does not count.

abbrev pub count_left : Tree → ℕ
count_left (N.expression e) = counted_reference e
count_left (N.left l) = 0
count_left (N.actions a) = 0
count_left (N.ends x) = 0
count_left (N.extent x) = 0
count_left (N.facility d) = 0
count_left (N.facilities ds) = 0
count_left (N.declared rs ms ts) = 0
count_left (N.operations os) = 0
count_left (N.label l v) = 0
count_left (N.states ss) = 0
count_left (N.text t) = 0
count_left N.nothing = 0

-- Nothing, or a bracket first.
abbrev pub Opens : List Word → Type 0
Opens [] = Unit {0}
Opens (W.name n p ∷ us) = ⊥
Opens (W.constant c p ∷ us) = ⊥
Opens (W.sign k p ∷ us) = k ≡ open_bracket

pub record Subscripted (C : Ceiling) (n : Name) (p : Position) (h : ℕ) (us : List Word) (t : Tree) : Type 0 where
  pub opens : Opens us
  pub one_more : count_of t ≡ suc (count_left t)
  pub takes : (K : Stack) (b : Built) (c : Counts) → Room C.top c (count_left t) h
      → Arrives C after_term (ask subscripts ∷ K) (keep_word (W.name n p) b) c us K (put t b) (count_left t)

abbrev pub Referring : Ceiling → ℕ → List Word → Tree → Type 0
Referring C h [] t = ⊥
Referring C h (W.name n p ∷ us) t = Subscripted C n p h us t
Referring C h (W.constant c p ∷ us) t = ⊥
Referring C h (W.sign k p ∷ us) t = ⊥
