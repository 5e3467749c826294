-- The whole text in accepted words: its sections in their order.
use Rattle.std.specs.Prelude.{true, ◌⊎◌, ◌≡◌, ℕ, ◌+◌, length}
use mathlib.Core.List.{List, [], ◌∷◌, ◌++◌, append_assoc, append-nil}
use Rattle.std.proofs.Common.{inl, inr, ◌∙◌, sym, subst, arith}
use Rattle.std.proofs.Math.Path.{ap, refl}
use Rattle.language.specs.Building.{Built, nothing_built, with_text}
use Rattle.language.specs.CountedWords.{counted_operations, counted_states, counted_terminals, counted_words}
use Rattle.language.specs.Declaring.{tree_steps}
use Rattle.language.specs.Grammar as G
use Rattle.language.specs.Grammar.{Is}
use Rattle.language.specs.Kinds.{control_word, dollar, memory_word, operation_word, register_word, terminal_word}
use Rattle.language.specs.Machine as M
use Rattle.language.specs.Machine.{Counts, after_memories, after_registers, after_terminals, ask, control, dollar_option, feed, finish, no_counts, operation_spec, operations_more, run, sections, state_start, states_more, tallied}
use Rattle.language.specs.Notions as N
use Rattle.language.specs.Notions.{declared, facilities, nothing, operations, states, text, whole_text}
use Rattle.language.specs.SectionWays.{rule_of}
use Rattle.language.specs.Tree.{Declaration, Operation, State, Text}
use Rattle.language.specs.Words.{Position, Word, sign}
use Rattle.about_grammar.specs.Accepting.{Accepts, Judge, Leaves, Picks, at_sign_lem, chosen, never, weaken}
use Rattle.about_grammar.specs.Complete.{parsed-one}
use Rattle.about_grammar.specs.Control.{stated}
use Rattle.about_grammar.specs.Declared.{filed-none}
use Rattle.about_grammar.specs.FindingActions.{Next}
use Rattle.about_grammar.specs.FoundDeclarations as D
use Rattle.about_grammar.specs.FoundDeclarations.{ListFound, listed}
use Rattle.about_grammar.specs.FoundOperations as O
use Rattle.about_grammar.specs.FoundOperations.{OperationsFound, all-operations}
use Rattle.about_grammar.specs.FoundStarts as S
use Rattle.about_grammar.specs.FoundStarts.{StatesFound, all-states}
use Rattle.about_grammar.specs.Operated.{operated, operated-none}
use Rattle.about_grammar.specs.Reaching.{Gained, amount, filed, memories, registers, terminals}
use Rattle.about_grammar.specs.WholeText.{amount_of}

-- ---- The end.

data Over (J : Judge) (b : Built) (c : Counts) : List Word → Type 0 where
  over : b ≡ J.result → J.Good c → Over J b c []

finished : {J : Judge} {n h : ℕ} {b : Built} {c : Counts} (ws : List Word) → Accepts J [] n h b c ws → Over J b c ws
unfolding run feed finish
finished [] a = over (parsed-one a.runs) a.good
finished (w ∷ ws) a = never a.runs

-- ---- The control section, behind its word.

data Closing (J : Judge) (h : ℕ) (b : Built) (c : Counts) (p : Position) : List Word → Type 0 where
  closing : (us xs : List Word) (ss : List State) (d : Counts) → Is N.control_section h (sign control_word p ∷ us) (states ss) → Is N.dollar_option h xs nothing → Gained (amount 0 0 (length ss) (counted_states ss)) c d → J.Good d → with_text b (stated b.text ss) ≡ J.result
      → Closing J h b c p (us ++ xs)

controls : (J : Judge) (n h : ℕ) (b : Built) (c : Counts) (p : Position) (ws : List Word) → Accepts J (ask state_start ∷ ask states_more ∷ ask dollar_option ∷ []) n h b c ws → Closing J h b c p ws
unfolding rule_of tallied
controls J n h b c p ws a = go (S.a-list J n (ask dollar_option ∷ []) h b c ws a)
  where
    go : {ws : List Word} → StatesFound J (ask dollar_option ∷ []) n h b c ws → Closing J h b c p ws
    go (all-states us vs k q ss d i f g a) = ends (chosen J dollar_option vs a)
      where
        last : (xs : List Word) → Is N.dollar_option h xs nothing → {vs : List Word} → Over J (with_text b (stated b.text ss)) d vs → Closing J h b c p (us ++ sign k q ∷ (xs ++ vs))
        last xs j (over e y) =
            subst (Closing J h b c p) (append_assoc us (sign k q ∷ []) xs ∙ ap (λ (l : List Word). us ++ sign k q ∷ l) (sym (append-nil xs)))
            (closing (us ++ sign k q ∷ []) xs ss d (G.control-section i (G.an-ending f)) j g y e)

        ends : {vs : List Word} → Picks J (rule_of tree_steps dollar_option).ways [] n h (with_text b (stated b.text ss)) d vs ⊎ Leaves J (M.may (λ p x. x)) [] n h (with_text b (stated b.text ss)) d vs → Closing J h b c p (us ++ sign k q ∷ vs)
        ends (inl (inl (at_sign_lem r vs z))) = last (sign dollar r ∷ []) G.some-dollar (finished vs z.2)
        ends {vs} (inr z) = last [] G.no-dollar (finished vs z.1)
        ends (inl (inr x)) = elim x [ ]

-- ---- Operations, and the control section.

data Finishing (J : Judge) (h : ℕ) (b : Built) (c : Counts) : List Word → Type 0 where
  finishing : (us vs xs : List Word) (os : List Operation) (ss : List State) (d : Counts) → Is N.operation_section h us (operations os) → Is N.control_section h vs (states ss) → Is N.dollar_option h xs nothing
      → Gained (amount 0 (length os) (length ss) (counted_operations os + counted_states ss)) c d → J.Good d → with_text b (stated (operated b.text os) ss) ≡ J.result → Finishing J h b c (us ++ (vs ++ xs))

module _ (J : Judge) (n h : ℕ) (b : Built) (c : Counts) where
  at-control : {p : Position} {ws : List Word} → Closing J h b c p ws → Finishing J h b c (sign control_word p ∷ ws)
  unfolding counted_operations
  at-control {p} (closing us xs ss d i j g y e) = finishing [] (sign control_word p ∷ us) xs [] ss d G.no-operations i j (omega arith) y (ap (λ (t : Text). with_text b (stated t ss)) (operated-none b.text) ∙ e)

  -- The operations are os, and an ending may stand before CONTROL.
  behind-operations : (p : Position) (us : List Word) (os : List Operation) (d : Counts) → Is N.operation_defs h us (operations os) → Gained (amount 0 (length os) 0 (counted_operations os)) c d → (xs : List Word) → Is N.optional_ending h xs nothing
      → {q : Position} {ws : List Word} → Closing J h (with_text b (operated b.text os)) d q ws → Finishing J h b c (sign operation_word p ∷ (us ++ (xs ++ sign control_word q ∷ ws)))
  behind-operations p us os d i g xs j {q} (closing vs zs ss d₁ i₁ j₁ g₁ y e) =
      subst (λ (l : List Word). Finishing J h b c (sign operation_word p ∷ l)) (append_assoc us xs (sign control_word q ∷ (vs ++ zs)))
      (finishing (sign operation_word p ∷ (us ++ xs)) (sign control_word q ∷ vs) zs os ss d₁ (G.some-operations i j) i₁ j₁ (omega arith) y e)

  ended-then : (p : Position) (us : List Word) (os : List Operation) (d : Counts) → Is N.operation_defs h us (operations os) → Gained (amount 0 (length os) 0 (counted_operations os)) c d → (k : ℕ) → N.ends_section k ≡ true → (r : Position) (ws : List Word)
      → Accepts J (ask control ∷ []) n h (with_text b (operated b.text os)) d ws → Finishing J h b c (sign operation_word p ∷ (us ++ sign k r ∷ ws))
  unfolding rule_of tallied
  ended-then p us os d i g k f r ws a = go (chosen J control ws a)
    where
      go : {ws : List Word} → Picks J (rule_of tree_steps control).ways [] n h (with_text b (operated b.text os)) d ws ⊎ Leaves J M.must [] n h (with_text b (operated b.text os)) d ws → Finishing J h b c (sign operation_word p ∷ (us ++ sign k r ∷ ws))
      go (inl (inl (at_sign_lem q vs z))) = behind-operations p us os d i g (sign k r ∷ []) (G.some-ending (G.an-ending f)) (controls J z.0 h (with_text b (operated b.text os)) d q vs z.2)
      go (inl (inr x)) = elim x [ ]
      go (inr x) = elim x [ ]

  at-operations : (p : Position) {ws : List Word} → OperationsFound J [] n h b c ws → Finishing J h b c (sign operation_word p ∷ ws)
  unfolding rule_of
  at-operations p (all-operations us vs os d i g (inl (at_sign_lem q ws z))) = behind-operations p us os d i g [] G.no-ending (controls J z.0 h (with_text b (operated b.text os)) d q ws z.2)
  at-operations p (all-operations us vs os d i g (inr (inl (at_sign_lem q ws z)))) = ended-then p us os d i g _ refl q ws (weaken z.1 z.2)
  at-operations p (all-operations us vs os d i g (inr (inr (at_sign_lem q ws z)))) = ended-then p us os d i g _ refl q ws (weaken z.1 z.2)

  -- OPERATION or CONTROL.
  finishes : {ws : List Word} → Next operation_word n (λ m vs. Accepts J (ask operation_spec ∷ ask operations_more ∷ []) m h b c vs) ws ⊎ Next control_word n (λ m vs. Accepts J (ask state_start ∷ ask states_more ∷ ask dollar_option ∷ []) m h b c vs) ws → Finishing J h b c ws
  finishes (inl (at_sign_lem p vs z)) = at-operations p (O.a-list J n [] h b c vs (weaken z.1 z.2))
  finishes (inr (at_sign_lem p vs z)) = at-control (controls J z.0 h b c p vs z.2)

-- ---- Terminals, memories and registers before them.

data Terminated (J : Judge) (h : ℕ) (b : Built) (c : Counts) : List Word → Type 0 where
  terminated : (us ws : List Word) (ts : List Declaration) (d : Counts) → Is N.terminal_option h us (facilities ts) → Gained (amount (length ts) 0 0 (counted_terminals ts)) c d → Finishing J h (with_text b (filed terminals b.text ts)) d ws → Terminated J h b c (us ++ ws)

data Remembered (J : Judge) (h : ℕ) (b : Built) (c : Counts) : List Word → Type 0 where
  remembered : (us ws : List Word) (ms : List Declaration) (d : Counts) → Is N.memory_option h us (facilities ms) → Gained (amount (length ms) 0 0 0) c d → Terminated J h (with_text b (filed memories b.text ms)) d ws → Remembered J h b c (us ++ ws)

module _ (J : Judge) (n h : ℕ) (b : Built) (c : Counts) where
  terminals-none : {ws : List Word} → Finishing J h b c ws → Terminated J h b c ws
  unfolding counted_terminals
  terminals-none {ws} x = terminated [] ws [] c G.no-terminals (omega arith) (subst (λ (t : Text). Finishing J h (with_text b t) c ws) (sym (filed-none terminals b.text)) x)

  after-terminals : (ws : List Word) → Accepts J (ask after_terminals ∷ []) n h b c ws → Finishing J h b c ws
  unfolding rule_of tallied
  after-terminals ws a = go (chosen J after_terminals ws a)
    where
      go : {ws : List Word} → Picks J (rule_of tree_steps after_terminals).ways [] n h b c ws ⊎ Leaves J M.must [] n h b c ws → Finishing J h b c ws
      go (inl (inl z)) = finishes J n h b c (inl z)
      go (inl (inr (inl z))) = finishes J n h b c (inr z)
      go (inl (inr (inr x))) = elim x [ ]
      go (inr x) = elim x [ ]

  memories-none : {ws : List Word} → Terminated J h b c ws → Remembered J h b c ws
  memories-none {ws} x = remembered [] ws [] c G.no-memories (omega arith) (subst (λ (t : Text). Terminated J h (with_text b t) c ws) (sym (filed-none memories b.text)) x)

module _ (J : Judge) (n h : ℕ) (b : Built) (c : Counts) where
  at-terminals : {p : Position} {ws : List Word} → ListFound J terminals (ask after_terminals ∷ []) n h b c ws → Terminated J h b c (sign terminal_word p ∷ ws)
  at-terminals {p} (listed us vs k q ts d i f g a) =
      subst (λ (l : List Word). Terminated J h b c (sign terminal_word p ∷ l)) (append_assoc us (sign k q ∷ []) vs)
      (terminated (sign terminal_word p ∷ (us ++ sign k q ∷ [])) vs ts d (G.some-terminals (G.terminal-section i (G.an-ending f))) g (after-terminals J n h (with_text b (filed terminals b.text ts)) d vs a))

  after-memories : (ws : List Word) → Accepts J (ask after_memories ∷ []) n h b c ws → Terminated J h b c ws
  unfolding rule_of tallied
  after-memories ws a = go (chosen J after_memories ws a)
    where
      go : {ws : List Word} → Picks J (rule_of tree_steps after_memories).ways [] n h b c ws ⊎ Leaves J M.must [] n h b c ws → Terminated J h b c ws
      go (inl (inl (at_sign_lem p vs z))) = at-terminals (D.a-list J terminals n (ask after_terminals ∷ []) h b c vs (weaken z.1 z.2))
      go (inl (inr (inl z))) = terminals-none J n h b c (finishes J n h b c (inl z))
      go (inl (inr (inr (inl z)))) = terminals-none J n h b c (finishes J n h b c (inr z))
      go (inl (inr (inr (inr x)))) = elim x [ ]
      go (inr x) = elim x [ ]

module _ (J : Judge) (n h : ℕ) (b : Built) (c : Counts) where
  at-memories : {p : Position} {ws : List Word} → ListFound J memories (ask after_memories ∷ []) n h b c ws → Remembered J h b c (sign memory_word p ∷ ws)
  at-memories {p} (listed us vs k q ms d i f g a) =
      subst (λ (l : List Word). Remembered J h b c (sign memory_word p ∷ l)) (append_assoc us (sign k q ∷ []) vs)
      (remembered (sign memory_word p ∷ (us ++ sign k q ∷ [])) vs ms d (G.some-memories (G.memory-section i (G.an-ending f))) g (after-memories J n h (with_text b (filed memories b.text ms)) d vs a))

  after-registers : (ws : List Word) → Accepts J (ask after_registers ∷ []) n h b c ws → Remembered J h b c ws
  unfolding rule_of tallied
  after-registers ws a = go (chosen J after_registers ws a)
    where
      go : {ws : List Word} → Picks J (rule_of tree_steps after_registers).ways [] n h b c ws ⊎ Leaves J M.must [] n h b c ws → Remembered J h b c ws
      go (inl (inl (at_sign_lem p vs z))) = at-memories (D.a-list J memories n (ask after_memories ∷ []) h b c vs (weaken z.1 z.2))
      go (inl (inr (inl (at_sign_lem p vs z)))) = memories-none J n h b c (at-terminals J n h b c (D.a-list J terminals n (ask after_terminals ∷ []) h b c vs (weaken z.1 z.2)))
      go (inl (inr (inr (inl z)))) = memories-none J n h b c (terminals-none J n h b c (finishes J n h b c (inl z)))
      go (inl (inr (inr (inr (inl z))))) = memories-none J n h b c (terminals-none J n h b c (finishes J n h b c (inr z)))
      go (inl (inr (inr (inr (inr x))))) = elim x [ ]
      go (inr x) = elim x [ ]

-- ---- The whole.

pub record TextFound (J : Judge) (ws : List Word) : Type 0 where
  pub tree : Text
  pub is : Is whole_text J.deep ws (text tree)
  pub built : J.result.text ≡ tree
  pub counts : Counts
  pub gained : Gained (amount_of tree) no_counts counts
  pub good : J.Good counts

module _ (J : Judge) (n : ℕ) where
  -- The declarations, and what follows them.
  whole : (us : List Word) (rs ms ts : List Declaration) (d : Counts) → Is N.declaration J.deep us (declared rs ms ts) → Gained (amount (length rs + length ms + length ts) 0 0 (counted_terminals ts)) no_counts d
      → {ws : List Word} → Finishing J J.deep (with_text nothing_built (filed terminals (filed memories (filed registers nothing_built.text rs) ms) ts)) d ws → TextFound J (us ++ ws)
  unfolding counted_words
  whole us rs ms ts d i g (finishing vs ws xs os ss d₁ i₁ i₂ i₃ g₁ y e) = record {
    tree = record { registers = rs; memories = ms; terminals = ts; operations = os; states = ss };
    is = G.whole-text i i₁ i₂ i₃;
    built = ap (λ (b : Built). b.text) (sym e);
    counts = d₁;
    gained = omega arith;
    good = y;
  }

  with-registers : (us : List Word) (rs : List Declaration) (d : Counts) → Is N.register_section J.deep us (facilities rs) → Gained (amount (length rs) 0 0 0) no_counts d → {ws : List Word} → Remembered J J.deep (with_text nothing_built (filed registers nothing_built.text rs)) d ws → TextFound J (us ++ ws)
  with-registers us rs d i g (remembered us₁ ws ms d₁ i₁ g₁ (terminated us₂ ws₁ ts d₂ i₂ g₂ f)) =
      subst (TextFound J) (append_assoc us (us₁ ++ us₂) ws₁ ∙ ap (λ (l : List Word). us ++ l) (append_assoc us₁ us₂ ws₁)) (whole (us ++ (us₁ ++ us₂)) rs ms ts d₂ (G.with-registers i i₁ i₂) (omega arith) f)

  with-memories : (us : List Word) (ms : List Declaration) (d : Counts) → Is N.memory_section J.deep us (facilities ms) → Gained (amount (length ms) 0 0 0) no_counts d → {ws : List Word} → Terminated J J.deep (with_text nothing_built (filed memories nothing_built.text ms)) d ws → TextFound J (us ++ ws)
  with-memories us ms d i g (terminated us₁ ws ts d₁ i₁ g₁ f) = subst (TextFound J) (append_assoc us us₁ ws) (whole (us ++ us₁) [] ms ts d₁ (G.with-memories i i₁) (omega arith) f)

  registers-first : {p : Position} {ws : List Word} → ListFound J registers (ask after_registers ∷ []) n J.deep nothing_built no_counts ws → TextFound J (sign register_word p ∷ ws)
  registers-first {p} (listed us vs k q rs d i f g a) =
      subst (λ (l : List Word). TextFound J (sign register_word p ∷ l)) (append_assoc us (sign k q ∷ []) vs)
      (with-registers (sign register_word p ∷ (us ++ sign k q ∷ [])) rs d (G.register-section i (G.an-ending f)) g (after-registers J n J.deep (with_text nothing_built (filed registers nothing_built.text rs)) d vs a))

  memories-first : {p : Position} {ws : List Word} → ListFound J memories (ask after_memories ∷ []) n J.deep nothing_built no_counts ws → TextFound J (sign memory_word p ∷ ws)
  memories-first {p} (listed us vs k q ms d i f g a) =
      subst (λ (l : List Word). TextFound J (sign memory_word p ∷ l)) (append_assoc us (sign k q ∷ []) vs)
      (with-memories (sign memory_word p ∷ (us ++ sign k q ∷ [])) ms d (G.memory-section i (G.an-ending f)) g (after-memories J n J.deep (with_text nothing_built (filed memories nothing_built.text ms)) d vs a))

  terminals-first : {p : Position} {ws : List Word} → ListFound J terminals (ask after_terminals ∷ []) n J.deep nothing_built no_counts ws → TextFound J (sign terminal_word p ∷ ws)
  terminals-first {p} (listed us vs k q ts d i f g a) =
      subst (λ (l : List Word). TextFound J (sign terminal_word p ∷ l)) (append_assoc us (sign k q ∷ []) vs)
      (whole (sign terminal_word p ∷ (us ++ sign k q ∷ [])) [] [] ts d (G.with-terminals (G.terminal-section i (G.an-ending f))) (omega arith) (after-terminals J n J.deep (with_text nothing_built (filed terminals nothing_built.text ts)) d vs a))

  pub a-text : (ws : List Word) → Accepts J (ask sections ∷ []) n J.deep nothing_built no_counts ws → TextFound J ws
  unfolding rule_of tallied
  a-text ws a = go (chosen J sections ws a)
    where
      go : {ws : List Word} → Picks J (rule_of tree_steps sections).ways [] n J.deep nothing_built no_counts ws ⊎ Leaves J M.must [] n J.deep nothing_built no_counts ws → TextFound J ws
      go (inl (inl (at_sign_lem p vs z))) = registers-first (D.a-list J registers n (ask after_registers ∷ []) J.deep nothing_built no_counts vs (weaken z.1 z.2))
      go (inl (inr (inl (at_sign_lem p vs z)))) = memories-first (D.a-list J memories n (ask after_memories ∷ []) J.deep nothing_built no_counts vs (weaken z.1 z.2))
      go (inl (inr (inr (inl (at_sign_lem p vs z))))) = terminals-first (D.a-list J terminals n (ask after_terminals ∷ []) J.deep nothing_built no_counts vs (weaken z.1 z.2))
      go (inl (inr (inr (inr x)))) = elim x [ ]
      go (inr x) = elim x [ ]
