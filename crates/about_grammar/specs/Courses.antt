-- The machine's course: from a stack and a reading, by some words, to another stack and reading, whatever then follows.
use Rattle.std.specs.Prelude.{Bool, true, cond, List, [], ◌∷◌, ◌++◌, ◌≡◌, refl, ℕ, ◌+◌, ◌≤◌}
use Rattle.std.proofs.Common.{append_assoc, ◌∙◌, ap, subst}
use Rattle.language.specs.Building.{Built}
use Rattle.language.specs.Declaring.{tree_steps}
use Rattle.language.specs.Machine.{Counts, Parsed, Reading, Sym, after, reading, run, taken, took, wrong}
use Rattle.language.specs.declared.refusals.Refusal.TheVariants.{CeilingPassed}
use Rattle.language.specs.SectionWays.{rule_of}
use Rattle.language.specs.Words.{Position, Word, fault}
use Rattle.about_grammar.specs.Following.{Follows, among}

-- Counts under others.
pub record Under (top c : Counts) : Type 0 where
  pub facilities : c.facilities ≤ top.facilities
  pub operations : c.operations ≤ top.operations
  pub states : c.states ≤ top.states
  pub counted : c.counted ≤ top.counted
  pub nesting : c.nesting ≤ top.nesting

-- Ceilings: all counts under the top fit.
pub record Ceiling : Type 0 where
  pub fits : Counts → Bool
  pub top : Counts
  pub below : (c : Counts) → Under top c → fits c ≡ true

-- Room under the top for n counted words more, and for h more that are open.
pub record Room (top c : Counts) (n h : ℕ) : Type 0 where
  pub facilities : c.facilities ≤ top.facilities
  pub operations : c.operations ≤ top.operations
  pub states : c.states ≤ top.states
  pub counted : c.counted + n ≤ top.counted
  pub nesting : c.nesting + h ≤ top.nesting

-- The counts d are the counts c and n counted words more.
pub record Grown (n : ℕ) (c d : Counts) : Type 0 where
  pub facilities : d.facilities ≡ c.facilities
  pub operations : d.operations ≡ c.operations
  pub states : d.states ≡ c.states
  pub counted : d.counted ≡ c.counted + n
  pub nesting : d.nesting ≡ c.nesting

abbrev pub Stack : Type 0
Stack = List (Sym Built)

abbrev pub runs : Ceiling → Stack → List Word → ℕ → Reading Built → Parsed Built
runs C K vs end r = run tree_steps C.fits (rule_of tree_steps) K vs end r

-- Behind the words no word of the kinds ks follows.
pub record Comes (C : Ceiling) (ks : List ℕ) (K : Stack) (r : Reading Built) (us : List Word) (L : Stack) (q : Reading Built) : Type 0 where
  pub course : (vs : List Word) (end : ℕ) → Follows ks vs → runs C K (us ++ vs) end r ≡ runs C L vs end q

-- The word is taken, since its counts fit.
pub took_it : (C : Ceiling) (p : Position) (K : Stack) (b : Built) (c : Counts) → Under C.top c → (next : Stack → Reading Built → Parsed Built)
    → after tree_steps C.fits (rule_of tree_steps) (taken tree_steps C.fits p K b c) next ≡ next K (reading b c)
took_it C p K b c u next =
    ap (λ (z : Bool). after tree_steps C.fits (rule_of tree_steps) (cond z (took K (reading b c)) (wrong (fault p CeilingPassed))) next) (C.below c u)

pub comes : {C : Ceiling} {ks : List ℕ} {K : Stack} {r : Reading Built} {us : List Word} {L : Stack} {q : Reading Built}
    → ((vs : List Word) (end : ℕ) → Follows ks vs → runs C K (us ++ vs) end r ≡ runs C L vs end q) → Comes C ks K r us L q
comes f = record { course = f }

-- One after the other; what the first asks of its follower holds of the second's words.
pub before : {C : Ceiling} {ks js : List ℕ} {K : Stack} {r : Reading Built} {us : List Word} {L : Stack} {q : Reading Built} {vs : List Word} {M : Stack} {s : Reading Built}
    → Comes C ks K r us L q → ((ws : List Word) → Follows js ws → Follows ks (vs ++ ws)) → Comes C js L q vs M s → Comes C js K r (us ++ vs) M s
before {C} {K = K} {r = r} {us = us} {vs = vs} x f y =
    record { course = λ ws end h. ap (λ (l : List Word). runs C K l end r) (append_assoc us vs ws) ∙ x.course (vs ++ ws) end (f ws h) ∙ y.course ws end h }

free : (ws : List Word) → Follows [] ws
unfolding among
free [] = tt
free (w ∷ ws) = refl

-- The first asks nothing.
pub then-words : {C : Ceiling} {js : List ℕ} {K : Stack} {r : Reading Built} {us : List Word} {L : Stack} {q : Reading Built} {vs : List Word} {M : Stack} {s : Reading Built}
    → Comes C [] K r us L q → Comes C js L q vs M s → Comes C js K r (us ++ vs) M s
then-words {vs = vs} x y = before x (λ ws h. free (vs ++ ws)) y

-- A word, and what comes behind it.
pub ◌⊳◌ : {C : Ceiling} {js : List ℕ} {K : Stack} {r : Reading Built} {w : Word} {L : Stack} {q : Reading Built} {vs : List Word} {M : Stack} {s : Reading Built}
    → Comes C [] K r (w ∷ []) L q → Comes C js L q vs M s → Comes C js K r (w ∷ vs) M s
x ⊳ y = then-words x y

infixr 30 ◌⊳◌
-- A move without a word at the end.
pub ends-in : {C : Ceiling} {ks js : List ℕ} {K : Stack} {r : Reading Built} {us : List Word} {L : Stack} {q : Reading Built} {M : Stack} {s : Reading Built}
    → Comes C ks K r us L q → ((ws : List Word) → Follows js ws → Follows ks ws) → Comes C js L q [] M s → Comes C js K r us M s
ends-in x f y = record { course = λ ws end h. x.course ws end (f ws h) ∙ y.course ws end h }

pub then-move : {C : Ceiling} {ks : List ℕ} {K : Stack} {r : Reading Built} {us : List Word} {L : Stack} {q : Reading Built} {M : Stack} {s : Reading Built}
    → Comes C ks K r us L q → Comes C [] L q [] M s → Comes C ks K r us M s
then-move x y = record { course = λ ws end h. x.course ws end h ∙ y.course ws end (free ws) }

-- A move without a word at the start.
pub starts-as : {C : Ceiling} {ks : List ℕ} {K : Stack} {r : Reading Built} {us : List Word} {L : Stack} {q : Reading Built} {M : Stack} {s : Reading Built}
    → Comes C [] K r [] L q → Comes C ks L q us M s → Comes C ks K r us M s
starts-as {us = us} x y = record { course = λ ws end h. x.course (us ++ ws) end (free (us ++ ws)) ∙ y.course ws end h }

-- What is asked of the follower may be more.
pub asking : {C : Ceiling} {ks js : List ℕ} {K : Stack} {r : Reading Built} {us : List Word} {L : Stack} {q : Reading Built}
    → ((ws : List Word) → Follows js ws → Follows ks ws) → Comes C ks K r us L q → Comes C js K r us L q
asking f x = record { course = λ ws end h. x.course ws end (f ws h) }

pub at_last : {C : Ceiling} {ks : List ℕ} {K : Stack} {r : Reading Built} {us : List Word} {L : Stack} {q : Reading Built} → Comes C [] K r us L q → Comes C ks K r us L q
at_last x = asking (λ ws h. free ws) x

-- The same words in another spelling.
pub respelt : {C : Ceiling} {ks : List ℕ} {K : Stack} {r : Reading Built} {us vs : List Word} {L : Stack} {q : Reading Built} → us ≡ vs → Comes C ks K r us L q → Comes C ks K r vs L q
respelt {C} {ks} {K} {r} {L = L} {q = q} e x = subst (λ (l : List Word). Comes C ks K r l L q) e x
