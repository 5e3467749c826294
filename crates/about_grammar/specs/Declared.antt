-- The machine takes the words of the sections of declarations, and of all of them in their order.
use Rattle.std.specs.Prelude.{Bool, true, false, ◌||◌, List, [], ◌∷◌, ◌++◌, ◌≡◌, refl, ℕ, ◌+◌, eqb, length}
use Rattle.std.proofs.Common.{append-nil, ◌∙◌, ap, sym, subst, arith, eqb-true}
use Rattle.language.specs.Building.{Built, with_text}
use Rattle.language.specs.CountedWords.{counted_terminals}
use Rattle.language.specs.Kinds.{comma, control_word, end_word, memory_word, operation_word, period, register_word, terminal_word}
use Rattle.language.specs.Machine.{Ask, Counts, after_memories, after_registers, after_terminals, ask, choose, dollar_option, feed, operation_spec, operations_more, reading, run, sections, state_start, states_more, tallied}
use Rattle.language.specs.Notions.{ends_section}
use Rattle.language.specs.SectionWays.{rule_of}
use Rattle.language.specs.Tree.{Declaration, Text}
use Rattle.language.specs.Words.{Position, Word, sign}
use Rattle.about_grammar.specs.Conditionals.{rebuilt}
use Rattle.about_grammar.specs.Courses.{Ceiling, Comes, Stack, Under, ◌⊳◌, before, comes, then-words, took_it}
use Rattle.about_grammar.specs.Following.{among}
use Rattle.about_grammar.specs.Reaching.{Listed, Reaches, Shelf, Space, Specified, after_spec, amount, count_filed, filed, filed-more, memories, more_of, reaching, registers, spec_of, terminals}
use Rattle.about_grammar.specs.Taking.{Heads}
use Rattle.about_grammar.specs.Terms.{heads-follow}

-- ---- Lists.

comma-at : {C : Ceiling} (x : Shelf) {K : Stack} {b : Built} {c : Counts} {p : Position} → Under C.top c → Comes C [] (ask (more_of x) ∷ K) (reading b c) (sign comma p ∷ []) (ask (spec_of x) ∷ ask (more_of x) ∷ K) (reading b c)
unfolding run feed choose rule_of tallied
comma-at {C} registers u = comes (λ ws end _. took_it C _ _ _ _ u _)
comma-at {C} memories u = comes (λ ws end _. took_it C _ _ _ _ u _)
comma-at {C} terminals u = comes (λ ws end _. took_it C _ _ _ _ u _)

pub count-more : (x : Shelf) (d : Declaration) (ds : List Declaration) → count_filed x (d ∷ ds) ≡ count_filed x (d ∷ []) + count_filed x ds
unfolding counted_terminals
count-more registers d ds = omega arith
count-more memories d ds = omega arith
count-more terminals d ds = omega arith

module _ {C : Ceiling} {h : ℕ} (x : Shelf) where
  pub specs-one : {us : List Word} {d : Declaration} → Specified C x h us d → Listed C x h us (d ∷ [])
  specs-one z = record { takes = λ K b c space. reaching (z.takes (ask (more_of x) ∷ K) b c (omega arith)) λ d g m. record { counts = d; gained = omega arith; comes = m } }

  pub specs-more : {us vs : List Word} {d : Declaration} {ds : List Declaration} (p : Position) → Specified C x h us d → Listed C x h vs ds → Listed C x h (us ++ sign comma p ∷ vs) (d ∷ ds)
  unfolding among
  specs-more {d = e} {ds} p z y = record {
    takes = λ K b c space.
        let n = count-more x e ds in
        reaching (z.takes (ask (more_of x) ∷ K) b c (omega arith)) λ d g m.
        reaching (y.takes K (with_text b (filed x b.text (e ∷ []))) d (omega arith)) λ d₁ i l.
        record { counts = d₁; gained = omega arith; comes = before m (λ ws _. refl) (comma-at x (omega arith) ⊳ rebuilt (ap (with_text b) (filed-more x b.text e ds)) l) };
  }

-- ---- Endings.

pub record Ends (C : Ceiling) (a : Ask) (M : Stack) : Type 0 where
  pub by : (k : ℕ) → ends_section k ≡ true → {K : Stack} {b : Built} {c : Counts} {p : Position} → Under C.top c → Comes C [] (ask a ∷ K) (reading b c) (sign k p ∷ []) (M ++ K) (reading b c)

pub ending-kinds : (P : ℕ → Type 0) → P period → P end_word → (k : ℕ) → ends_section k ≡ true → P k
ending-kinds P x y k h = go (eqb k period) refl h
  where
    go : (b : Bool) → eqb k period ≡ b → (b || eqb k end_word) ≡ true → P k
    go true e _ = subst P (sym (eqb-true k period e)) x
    go false e g = subst P (sym (eqb-true k end_word g)) y

pub record Ended (C : Ceiling) (us : List Word) : Type 0 where
  pub heads : Heads after_spec us
  pub takes : {a : Ask} {M : Stack} → Ends C a M → (K : Stack) (b : Built) (c : Counts) → Under C.top c → Comes C [] (ask a ∷ K) (reading b c) us (M ++ K) (reading b c)

pub an-ending : {C : Ceiling} {k : ℕ} {p : Position} → ends_section k ≡ true → Ended C (sign k p ∷ [])
unfolding among
an-ending {k = k} e = record { heads = ending-kinds (λ k. among k after_spec ≡ false) refl refl k e; takes = λ x K b c u. x.by k e u }

specs-end : (C : Ceiling) (x : Shelf) → Ends C (more_of x) []
unfolding run feed choose rule_of tallied
specs-end C registers = record { by = λ k e {K} {b} {c} {p} u. ending-kinds (λ k. Comes C [] (ask (more_of registers) ∷ K) (reading b c) (sign k p ∷ []) K (reading b c)) (comes (λ ws end _. took_it C _ _ _ _ u _)) (comes (λ ws end _. took_it C _ _ _ _ u _)) k e }
specs-end C memories = record { by = λ k e {K} {b} {c} {p} u. ending-kinds (λ k. Comes C [] (ask (more_of memories) ∷ K) (reading b c) (sign k p ∷ []) K (reading b c)) (comes (λ ws end _. took_it C _ _ _ _ u _)) (comes (λ ws end _. took_it C _ _ _ _ u _)) k e }
specs-end C terminals = record { by = λ k e {K} {b} {c} {p} u. ending-kinds (λ k. Comes C [] (ask (more_of terminals) ∷ K) (reading b c) (sign k p ∷ []) K (reading b c)) (comes (λ ws end _. took_it C _ _ _ _ u _)) (comes (λ ws end _. took_it C _ _ _ _ u _)) k e }

-- ---- Sections, wherever their word leads to them.

abbrev pub word_of : Shelf → ℕ
word_of registers = register_word
word_of memories = memory_word
word_of terminals = terminal_word

abbrev pub next_of : Shelf → Ask
next_of registers = after_registers
next_of memories = after_memories
next_of terminals = after_terminals

pub record Leads (C : Ceiling) (x : Shelf) (a : Ask) : Type 0 where
  pub to : {K : Stack} {b : Built} {c : Counts} {p : Position} → Under C.top c
      → Comes C [] (ask a ∷ K) (reading b c) (sign (word_of x) p ∷ []) (ask (spec_of x) ∷ ask (more_of x) ∷ ask (next_of x) ∷ K) (reading b c)

pub record Sectioned (C : Ceiling) (x : Shelf) (h : ℕ) (us : List Word) (ds : List Declaration) : Type 0 where
  pub takes : {a : Ask} → Leads C x a → (K : Stack) (b : Built) (c : Counts) → Space C.top c (amount (length ds) 0 0 (count_filed x ds)) h
      → Reaches C [] (ask a ∷ K) b c us (ask (next_of x) ∷ K) (with_text b (filed x b.text ds)) (amount (length ds) 0 0 (count_filed x ds))

pub a-section : {C : Ceiling} (x : Shelf) {h : ℕ} {us vs : List Word} {p : Position} {ds : List Declaration} → Listed C x h us ds → Ended C vs → Sectioned C x h (sign (word_of x) p ∷ (us ++ vs)) ds
a-section {C} x {us = us} {vs} z e = record {
  takes = λ a K b c space.
      reaching (z.takes (ask (next_of x) ∷ K) b c (omega arith)) λ d g m.
      record { counts = d; gained = g; comes = a.to (omega arith) ⊳ before m (λ ws _. heads-follow after_spec vs ws e.heads) (e.takes (specs-end C x) (ask (next_of x) ∷ K) (with_text b (filed x b.text _)) d (omega arith)) };
}

-- ---- What may come next: OPERATION or CONTROL, and before them TERMINAL.

pub record BeforeControl (C : Ceiling) (a : Ask) : Type 0 where
  pub to : {K : Stack} {b : Built} {c : Counts} {p : Position} → Under C.top c
      → Comes C [] (ask a ∷ K) (reading b c) (sign control_word p ∷ []) (ask state_start ∷ ask states_more ∷ ask dollar_option ∷ K) (reading b c)

pub record BeforeOperations (C : Ceiling) (a : Ask) : Type 0 where
  pub to : {K : Stack} {b : Built} {c : Counts} {p : Position} → Under C.top c
      → Comes C [] (ask a ∷ K) (reading b c) (sign operation_word p ∷ []) (ask operation_spec ∷ ask operations_more ∷ K) (reading b c)
  pub control : BeforeControl C a

pub record BeforeTerminals (C : Ceiling) (a : Ask) : Type 0 where
  pub to : Leads C terminals a
  pub operations : BeforeOperations C a

module _ (C : Ceiling) where
  after-registers : BeforeTerminals C after_registers
  unfolding run feed choose rule_of tallied
  after-registers = record {
    to = record { to = λ u. comes (λ ws end _. took_it C _ _ _ _ u _) };
    operations = record { to = λ u. comes (λ ws end _. took_it C _ _ _ _ u _); control = record { to = λ u. comes (λ ws end _. took_it C _ _ _ _ u _) } };
  }

  after-memories : BeforeTerminals C after_memories
  unfolding run feed choose rule_of tallied
  after-memories = record {
    to = record { to = λ u. comes (λ ws end _. took_it C _ _ _ _ u _) };
    operations = record { to = λ u. comes (λ ws end _. took_it C _ _ _ _ u _); control = record { to = λ u. comes (λ ws end _. took_it C _ _ _ _ u _) } };
  }

  after-terminals : BeforeOperations C after_terminals
  unfolding run feed choose rule_of tallied
  after-terminals = record { to = λ u. comes (λ ws end _. took_it C _ _ _ _ u _); control = record { to = λ u. comes (λ ws end _. took_it C _ _ _ _ u _) } }

  leads-first : (x : Shelf) → Leads C x sections
  unfolding run feed choose rule_of tallied
  leads-first registers = record { to = λ u. comes (λ ws end _. took_it C _ _ _ _ u _) }
  leads-first memories = record { to = λ u. comes (λ ws end _. took_it C _ _ _ _ u _) }
  leads-first terminals = record { to = λ u. comes (λ ws end _. took_it C _ _ _ _ u _) }

  leads-memories : Leads C memories after_registers
  unfolding run feed choose rule_of tallied
  leads-memories = record { to = λ u. comes (λ ws end _. took_it C _ _ _ _ u _) }

-- A section that may be left out.
pub record Optional (C : Ceiling) (x : Shelf) (h : ℕ) (from : Ask) (Ready : Ask → Type 0) (us : List Word) (ds : List Declaration) : Type 0 where
  pub next : Ask
  pub ready : Ready next
  pub takes : (K : Stack) (b : Built) (c : Counts) → Space C.top c (amount (length ds) 0 0 (count_filed x ds)) h
      → Reaches C [] (ask from ∷ K) b c us (ask next ∷ K) (with_text b (filed x b.text ds)) (amount (length ds) 0 0 (count_filed x ds))

pub filed-none : (x : Shelf) (t : Text) → filed x t [] ≡ t
filed-none registers t = ap (λ (l : List Declaration). record { registers = l; memories = t.memories; terminals = t.terminals; operations = t.operations; states = t.states }) (append-nil t.registers)
filed-none memories t = ap (λ (l : List Declaration). record { registers = t.registers; memories = l; terminals = t.terminals; operations = t.operations; states = t.states }) (append-nil t.memories)
filed-none terminals t = ap (λ (l : List Declaration). record { registers = t.registers; memories = t.memories; terminals = l; operations = t.operations; states = t.states }) (append-nil t.terminals)

count_none : (x : Shelf) → count_filed x [] ≡ 0
unfolding counted_terminals
count_none registers = refl
count_none memories = refl
count_none terminals = refl

none_of : {C : Ceiling} (x : Shelf) {h : ℕ} {a : Ask} {Ready : Ask → Type 0} → Ready a → Optional C x h a Ready [] []
none_of x {a = a} r = record {
  next = a;
  ready = r;
  takes = λ K b c space. let n = count_none x in record { counts = c; gained = omega arith; comes = rebuilt (ap (with_text b) (sym (filed-none x b.text))) (comes (λ ws end _. refl)) };
}

pub no-memories : {C : Ceiling} {h : ℕ} → Optional C memories h after_registers (BeforeTerminals C) [] []
no-memories {C} = none_of memories (after-registers C)

pub some-memories : {C : Ceiling} {h : ℕ} {us : List Word} {ds : List Declaration} → Sectioned C memories h us ds → Optional C memories h after_registers (BeforeTerminals C) us ds
some-memories {C} x = record { next = after_memories; ready = after-memories C; takes = x.takes (leads-memories C) }

-- Terminals may stand wherever TERMINAL leads to them.
pub record Terminals (C : Ceiling) (h : ℕ) (us : List Word) (ds : List Declaration) : Type 0 where
  pub from : (a : Ask) → BeforeTerminals C a → Optional C terminals h a (BeforeOperations C) us ds

pub no-terminals : {C : Ceiling} {h : ℕ} → Terminals C h [] []
no-terminals = record { from = λ a r. none_of terminals r.operations }

pub some-terminals : {C : Ceiling} {h : ℕ} {us : List Word} {ds : List Declaration} → Sectioned C terminals h us ds → Terminals C h us ds
some-terminals {C} x = record { from = λ a r. record { next = after_terminals; ready = after-terminals C; takes = x.takes r.to } }

-- ---- All declarations.

pub record Declares (C : Ceiling) (h : ℕ) (us : List Word) (rs ms ts : List Declaration) : Type 0 where
  pub next : Ask
  pub ready : BeforeOperations C next
  pub takes : (K : Stack) (b : Built) (c : Counts) → Space C.top c (amount (length rs + length ms + length ts) 0 0 (counted_terminals ts)) h
      → Reaches C [] (ask sections ∷ K) b c us (ask next ∷ K) (with_text b (filed terminals (filed memories (filed registers b.text rs) ms) ts)) (amount (length rs + length ms + length ts) 0 0 (counted_terminals ts))

pub with-registers : {C : Ceiling} {h : ℕ} {us vs ws : List Word} {rs ms ts : List Declaration} → Sectioned C registers h us rs → Optional C memories h after_registers (BeforeTerminals C) vs ms → Terminals C h ws ts
    → Declares C h (us ++ (vs ++ ws)) rs ms ts
with-registers {C} {h} {us} {vs} {ws} {rs} {ms} {ts} x y z = go (z.from y.next y.ready)
  where
    go : Optional C terminals h y.next (BeforeOperations C) ws ts → Declares C h (us ++ (vs ++ ws)) rs ms ts
    go o = record {
      next = o.next;
      ready = o.ready;
      takes = λ K b c space.
          reaching (x.takes (leads-first C registers) K b c (omega arith)) λ d g m.
          reaching (y.takes K (with_text b (filed registers b.text rs)) d (omega arith)) λ d₁ g₁ m₁.
          reaching (o.takes K (with_text b (filed memories (filed registers b.text rs) ms)) d₁ (omega arith)) λ d₂ g₂ m₂.
          record { counts = d₂; gained = omega arith; comes = then-words m (then-words m₁ m₂) };
    }

pub with-memories : {C : Ceiling} {h : ℕ} {us vs : List Word} {ms ts : List Declaration} → Sectioned C memories h us ms → Terminals C h vs ts → Declares C h (us ++ vs) [] ms ts
with-memories {C} {h} {us} {vs} {ms} {ts} x z = go (z.from after_memories (after-memories C))
  where
    go : Optional C terminals h after_memories (BeforeOperations C) vs ts → Declares C h (us ++ vs) [] ms ts
    go o = record {
      next = o.next;
      ready = o.ready;
      takes = λ K b c space.
          reaching (x.takes (leads-first C memories) K b c (omega arith)) λ d g m.
          reaching (o.takes K (with_text b (filed memories b.text ms)) d (omega arith)) λ d₁ g₁ m₁.
          record { counts = d₁; gained = omega arith; comes = rebuilt (ap (λ (t : Text). with_text b (filed terminals (filed memories t ms) ts)) (sym (filed-none registers b.text))) (then-words m m₁) };
    }

pub with-terminals : {C : Ceiling} {h : ℕ} {us : List Word} {ts : List Declaration} → Sectioned C terminals h us ts → Declares C h us [] [] ts
with-terminals {C} {ts = ts} x = record {
  next = after_terminals;
  ready = after-terminals C;
  takes = λ K b c space.
      reaching (x.takes (leads-first C terminals) K b c (omega arith)) λ d g m.
      record { counts = d; gained = omega arith; comes = rebuilt (ap (λ (t : Text). with_text b (filed terminals t ts)) (sym (filed-none memories (filed registers b.text []) ∙ filed-none registers b.text))) m };
}
