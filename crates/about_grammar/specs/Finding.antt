-- What is found in accepted words: a phrase of the grammar, and what is accepted behind it.
use Rattle.std.specs.Prelude.{List, [], ◌∷◌, ◌++◌, ◌≡◌, refl, ℕ, suc, ◌+◌}
use Rattle.std.proofs.Common.{append_assoc, append-nil, sym, subst, arith}
use Rattle.language.specs.Building.{Built, expression_no, keep_word, make_binary, word_no}
use Rattle.language.specs.CountedWords.{counted_expression, counted_reference}
use Rattle.language.specs.Grammar.{Is}
use Rattle.language.specs.Machine as M
use Rattle.language.specs.Machine.{Ask, Counts, ask, counted, make, more}
use Rattle.language.specs.Notions as N
use Rattle.language.specs.Notions.{Notion, expression}
use Rattle.language.specs.Tree.{Expression, Name, binary}
use Rattle.language.specs.Words as W
use Rattle.language.specs.Words.{Position, Word, sign}
use Rattle.about_grammar.specs.Accepting.{Accepts, Judge, made, weaken}
use Rattle.about_grammar.specs.Courses.{Grown, Stack}
use Rattle.about_grammar.specs.Taking.{push}

-- A phrase, with its node on top and its words counted.
pub data Found (J : Judge) (N : Notion) (K : Stack) (n h : ℕ) (b : Built) (c : Counts) : List Word → Type 0 where
  found : (us vs : List Word) (e : Expression) (d : Counts) → Is N h us (expression e) → Grown (counted_expression e) c d → Accepts J K n h (push e b) d vs → Found J N K n h b c (us ++ vs)

-- The counts d, where the node e has become the node f.
pub record Regrown (e f : Expression) (c d : Counts) : Type 0 where
  pub facilities : d.facilities ≡ c.facilities
  pub operations : d.operations ≡ c.operations
  pub states : d.states ≡ c.states
  pub counted : d.counted + counted_expression e ≡ c.counted + counted_expression f
  pub nesting : d.nesting ≡ c.nesting

-- A phrase xs whose node e is on top, with what goes on behind it.
pub data Extended (J : Judge) (N : Notion) (K : Stack) (n h : ℕ) (xs : List Word) (e : Expression) (b : Built) (c : Counts) : List Word → Type 0 where
  extended : (us vs : List Word) (f : Expression) (d : Counts) → Is N h (xs ++ us) (expression f) → Regrown e f c d → Accepts J K n h (push f b) d vs → Extended J N K n h xs e b c (us ++ vs)

pub with-found : {J : Judge} {N : Notion} {K : Stack} {n h : ℕ} {b : Built} {c : Counts} {ws : List Word} (R : List Word → Type 0) → Found J N K n h b c ws
    → ((us vs : List Word) (e : Expression) (d : Counts) → Is N h us (expression e) → Grown (counted_expression e) c d → Accepts J K n h (push e b) d vs → R (us ++ vs)) → R ws
with-found R (found us vs e d i g a) f = f us vs e d i g a

pub with-extended : {J : Judge} {N : Notion} {K : Stack} {n h : ℕ} {xs : List Word} {e : Expression} {b : Built} {c : Counts} {ws : List Word} (R : List Word → Type 0) → Extended J N K n h xs e b c ws
    → ((us vs : List Word) (f : Expression) (d : Counts) → Is N h (xs ++ us) (expression f) → Regrown e f c d → Accepts J K n h (push f b) d vs → R (us ++ vs)) → R ws
with-extended R (extended us vs e d i g a) f = f us vs e d i g a

-- The words of a phrase in another spelling.
pub spelt : {N : Notion} {h : ℕ} {us vs : List Word} {e : Expression} → us ≡ vs → Is N h us (expression e) → Is N h vs (expression e)
spelt {N} {h} {e = e} q i = subst (λ (l : List Word). Is N h l (expression e)) q i

-- Nothing goes on.
pub no_more : {J : Judge} {N : Notion} {K : Stack} {n h : ℕ} {xs : List Word} {e : Expression} {b : Built} {c : Counts} {ws : List Word} → Is N h xs (expression e) → Accepts J K n h (push e b) c ws → Extended J N K n h xs e b c ws
no_more {xs = xs} {e} {c = c} {ws} i a = extended [] ws e c (spelt (sym (append-nil xs)) i) (record { facilities = refl; operations = refl; states = refl; counted = refl; nesting = refl }) a

-- A phrase and its tail.
pub join : {J : Judge} {N N₁ N₂ : Notion} {K : Stack} {n h : ℕ} {b : Built} {c : Counts} {a : Ask} {ws : List Word} → Found J N (ask a ∷ K) n h b c ws
    → ((us : List Word) (e : Expression) → Is N h us (expression e) → Is N₁ h us (expression e))
    → ((e : Expression) (d : Counts) (xs vs : List Word) → Accepts J (ask a ∷ K) n h (push e b) d vs → Is N₁ h xs (expression e) → Extended J N₂ K n h xs e b d vs)
    → Found J N₂ K n h b c ws
join {J} {N₂ = N₂} {K} {n} {h} {b} {c} (found us vs e d i g x) one tail = go (tail e d us vs x (one us e i))
  where
    go : {ws : List Word} → Extended J N₂ K n h us e b d ws → Found J N₂ K n h b c (us ++ ws)
    go (extended vs₁ vs₂ f d₁ j r y) = subst (Found J N₂ K n h b c) (append_assoc us vs₁ vs₂) (found (us ++ vs₁) vs₂ f d₁ j (omega arith) y)

-- An operator, its right operand, and more of the same level.
pub loop : {J : Judge} {N R : Notion} {K : Stack} {a : Ask} {n m h k : ℕ} {p : Position} {xs : List Word} {e : Expression} {b : Built} {c : Counts} {ws : List Word} → n ≡ suc m
    → Found J R (make make_binary ∷ ask a ∷ K) m h (keep_word (sign k p) (push e b)) (more counted c) ws
    → ((us : List Word) (f : Expression) (d : Counts) (vs : List Word) → Is R h us (expression f) → Accepts J (ask a ∷ K) m h (push (binary k p e f) b) d vs → Extended J N K m h (xs ++ sign k p ∷ us) (binary k p e f) b d vs)
    → Extended J N K n h xs e b c (sign k p ∷ ws)
unfolding counted_expression word_no expression_no
loop {J} {N} {R} {K} {a} {n} {m} {h} {k} {p} {xs} {e} {b} {c} q (found us vs f d i g x) tail = go (tail us f d vs i (made vs x).1)
  where
    go : {ws : List Word} → Extended J N K m h (xs ++ sign k p ∷ us) (binary k p e f) b d ws → Extended J N K n h xs e b c (sign k p ∷ (us ++ ws))
    go (extended vs₁ vs₂ f₁ d₁ j r y) =
        subst (λ (l : List Word). Extended J N K n h xs e b c (sign k p ∷ l)) (append_assoc us vs₁ vs₂)
        (extended (sign k p ∷ (us ++ vs₁)) vs₂ f₁ d₁ (spelt (append_assoc xs (sign k p ∷ us) vs₁) j) (omega arith) (weaken q y))

-- A reference found behind its name. As a left side it does not count.
pub data Referred (J : Judge) (K : Stack) (n h : ℕ) (x : Name) (p : Position) (b : Built) (c : Counts) : List Word → Type 0 where
  referred : (us vs : List Word) (e : Expression) (d : Counts) → Is N.reference h (W.name x p ∷ us) (expression e) → Grown (counted_reference e) c d → counted_expression e ≡ suc (counted_reference e) → Accepts J K n h (push e b) d vs
      → Referred J K n h x p b c (us ++ vs)

-- ---- What is found of each level of expressions, in at most n words.

pub record Inverts (J : Judge) (n : ℕ) : Type 0 where
  pub expression : (K : Stack) (h : ℕ) (b : Built) (c : Counts) (ws : List Word) → Accepts J (ask M.expression ∷ K) n h b c ws → Found J N.boolean_exp K n h b c ws
  pub minterm : (K : Stack) (h : ℕ) (b : Built) (c : Counts) (ws : List Word) → Accepts J (ask M.minterm ∷ K) n h b c ws → Found J N.minterm K n h b c ws
  pub product : (K : Stack) (h : ℕ) (b : Built) (c : Counts) (ws : List Word) → Accepts J (ask M.product ∷ K) n h b c ws → Found J N.product K n h b c ws
  pub complement : (K : Stack) (h : ℕ) (b : Built) (c : Counts) (ws : List Word) → Accepts J (ask M.complement ∷ K) n h b c ws → Found J N.complement K n h b c ws
  pub reduction : (K : Stack) (h : ℕ) (b : Built) (c : Counts) (ws : List Word) → Accepts J (ask M.reduction ∷ K) n h b c ws → Found J N.reduction K n h b c ws
  pub adjustment : (K : Stack) (h : ℕ) (b : Built) (c : Counts) (ws : List Word) → Accepts J (ask M.adjustment ∷ K) n h b c ws → Found J N.adjustment K n h b c ws
  pub arithmetic : (K : Stack) (h : ℕ) (b : Built) (c : Counts) (ws : List Word) → Accepts J (ask M.arithmetic ∷ K) n h b c ws → Found J N.arithmetic K n h b c ws
  pub term : (K : Stack) (h : ℕ) (b : Built) (c : Counts) (ws : List Word) → Accepts J (ask M.term ∷ K) n h b c ws → Found J N.term K n h b c ws
  pub or_tail : (K : Stack) (h : ℕ) (b : Built) (e : Expression) (c : Counts) (xs ws : List Word) → Accepts J (ask M.or_tail ∷ K) n h (push e b) c ws → Is N.boolean_exp h xs (N.expression e) → Extended J N.boolean_exp K n h xs e b c ws
  pub exclusive_tail : (K : Stack) (h : ℕ) (b : Built) (e : Expression) (c : Counts) (xs ws : List Word) → Accepts J (ask M.exclusive_tail ∷ K) n h (push e b) c ws → Is N.minterm h xs (N.expression e) → Extended J N.minterm K n h xs e b c ws
  pub and_tail : (K : Stack) (h : ℕ) (b : Built) (e : Expression) (c : Counts) (xs ws : List Word) → Accepts J (ask M.and_tail ∷ K) n h (push e b) c ws → Is N.product h xs (N.expression e) → Extended J N.product K n h xs e b c ws
  pub con_tail : (K : Stack) (h : ℕ) (b : Built) (e : Expression) (c : Counts) (xs ws : List Word) → Accepts J (ask M.con_tail ∷ K) n h (push e b) c ws → Is N.chain h xs (N.expression e) → Extended J N.chain K n h xs e b c ws
  pub cut_tail : (K : Stack) (h : ℕ) (b : Built) (e : Expression) (c : Counts) (xs ws : List Word) → Accepts J (ask M.cut_tail ∷ K) n h (push e b) c ws → Is N.adjustment h xs (N.expression e) → Extended J N.adjustment K n h xs e b c ws
  pub relation_tail : (K : Stack) (h : ℕ) (b : Built) (e : Expression) (c : Counts) (xs ws : List Word) → Accepts J (ask M.relation_tail ∷ K) n h (push e b) c ws → Is N.arithmetic h xs (N.expression e) → Extended J N.relation K n h xs e b c ws
  pub arithmetic_tail : (K : Stack) (h : ℕ) (b : Built) (e : Expression) (c : Counts) (xs ws : List Word) → Accepts J (ask M.arithmetic_tail ∷ K) n h (push e b) c ws → Is N.arithmetic h xs (N.expression e) → Extended J N.arithmetic K n h xs e b c ws
  pub more_arms : (K : Stack) (h : ℕ) (b : Built) (e : Expression) (c : Counts) (xs ws : List Word) → Accepts J (ask M.more_arms ∷ K) n h (push e b) c ws → Is N.expression_arms h xs (N.expression e) → Extended J N.expression_arms K n h xs e b c ws
  pub subscripts : (K : Stack) (h : ℕ) (x : Name) (p : Position) (b : Built) (c : Counts) (ws : List Word) → Accepts J (ask M.subscripts ∷ K) n h (keep_word (W.name x p) b) c ws → Referred J K n h x p b c ws
