-- The section of operations in accepted words.
use mathlib.Core.List.{List, [], ◌∷◌, ◌++◌, append_assoc}
use Rattle.std.specs.Prelude.{◌⊎◌, ◌≡◌, ℕ, zero, suc, length}
use Rattle.std.proofs.Common.{inl, inr, sym, arith}
use Rattle.std.proofs.Math.Path.{subst}
use Rattle.language.specs.Alternatives.{closing, plain_word}
use Rattle.language.specs.Building.{Built, begin_list, joined, keep_word, list_no, with_text, word_no}
use Rattle.language.specs.CountedWords.{counted_actions, counted_operations}
use Rattle.language.specs.Declaring.{make_operation, tree_steps}
use Rattle.language.specs.Grammar as G
use Rattle.language.specs.Grammar.{Is}
use Rattle.language.specs.Kinds.{close_bracket, comma, control_word, end_word, equal_sign, open_bracket, period}
use Rattle.language.specs.Machine as M
use Rattle.language.specs.Machine.{Counts, ask, closes, control, dollar_option, level, make, more, opens, operation_action, operation_more, operation_spec, operations_more, state_start, states_more, tallied, word}
use Rattle.language.specs.Notions as N
use Rattle.language.specs.Notions.{in_operation, operation_of, operations}
use Rattle.language.specs.SectionWays.{rule_of}
use Rattle.language.specs.Tree as T
use Rattle.language.specs.Tree.{Actions, Name, Operation, Text}
use Rattle.language.specs.Words as W
use Rattle.language.specs.Words.{Position, Word, sign}
use Rattle.about_grammar.specs.Accepting.{Accepts, Judge, Leaves, Picks, at_name, at_sign_lem, chosen, made, weaken}
use Rattle.about_grammar.specs.Acting.{back, deeper}
use Rattle.about_grammar.specs.Courses.{Stack}
use Rattle.about_grammar.specs.FindingActions.{Next, more-tail}
use Rattle.about_grammar.specs.FoundConditionals.{inverts-acts, with-acts}
use Rattle.about_grammar.specs.Operated.{operated, operated-more}
use Rattle.about_grammar.specs.Peeling.{with-sign, worded}
use Rattle.about_grammar.specs.Reaching.{Gained, amount}

-- What may follow the operations: CONTROL, or an ending before it.
abbrev pub Leading : Judge → Stack → ℕ → ℕ → Built → Counts → List Word → Type 0
Leading J K n h b c ws =
    Next control_word n (λ m vs. Accepts J (ask state_start ∷ ask states_more ∷ ask dollar_option ∷ K) m h b c vs) ws
    ⊎ (Next period n (λ m vs. Accepts J (ask control ∷ K) m h b c vs) ws ⊎ Next end_word n (λ m vs. Accepts J (ask control ∷ K) m h b c vs) ws)

pub data OperationsFound (J : Judge) (K : Stack) (n h : ℕ) (b : Built) (c : Counts) : List Word → Type 0 where
  all-operations : (us vs : List Word) (os : List Operation) (d : Counts) → Is N.operation_defs h us (operations os) → Gained (amount 0 (length os) 0 (counted_operations os)) c d → Leading J K n h (with_text b (operated b.text os)) d vs → OperationsFound J K n h b c (us ++ vs)

leading-later : (J : Judge) (K : Stack) (n m h : ℕ) (b : Built) (c : Counts) {ws : List Word} → n ≡ suc m → Leading J K m h b c ws → Leading J K n h b c ws
leading-later J K n m h b c e (inl (at_sign_lem p vs z)) = inl (at_sign_lem p vs (m, e, weaken z.1 z.2))
leading-later J K n m h b c e (inr (inl (at_sign_lem p vs z))) = inr (inl (at_sign_lem p vs (m, e, weaken z.1 z.2)))
leading-later J K n m h b c e (inr (inr (at_sign_lem p vs z))) = inr (inr (at_sign_lem p vs (m, e, weaken z.1 z.2)))

split : (J : Judge) (K : Stack) (n h : ℕ) (b : Built) (c : Counts) (ws : List Word) → Accepts J (ask operations_more ∷ K) n h b c ws → Next comma n (λ m vs. Accepts J (ask operation_spec ∷ ask operations_more ∷ K) m h b c vs) ws ⊎ Leading J K n h b c ws
unfolding rule_of tallied
split J K n h b c ws a = go (chosen J operations_more ws a)
  where
    go : {ws : List Word} → Picks J (rule_of tree_steps operations_more).ways K n h b c ws ⊎ Leaves J M.must K n h b c ws → Next comma n (λ m vs. Accepts J (ask operation_spec ∷ ask operations_more ∷ K) m h b c vs) ws ⊎ Leading J K n h b c ws
    go (inl (inl z)) = inl z
    go (inl (inr (inl z))) = inr (inl z)
    go (inl (inr (inr (inl z)))) = inr (inr (inl z))
    go (inl (inr (inr (inr (inl z))))) = inr (inr (inr z))
    go (inl (inr (inr (inr (inr x))))) = elim x [ ]
    go (inr x) = elim x [ ]

abbrev Lists : Judge → ℕ → Type 0
Lists J n = (K : Stack) (h : ℕ) (b : Built) (c : Counts) (ws : List Word) → Accepts J (ask operation_spec ∷ ask operations_more ∷ K) n h b c ws → OperationsFound J K n h b c ws

module _ (J : Judge) (n : ℕ) (ih : (m : ℕ) → n ≡ suc m → Lists J m) (K : Stack) (b : Built) (c : Counts) where
  -- Behind an operation's closing bracket.
  ends : (g : ℕ) (x : Name) (p q r s : Position) (us : List Word) (a : Actions) (d : Counts) → Is (N.action_list in_operation) g us (N.actions a) → Gained (amount 0 1 0 (counted_actions a)) c d → {ws : List Word}
      → Next comma n (λ m vs. Accepts J (ask operation_spec ∷ ask operations_more ∷ K) m (suc g) (with_text b (operated b.text (operation_of x p a ∷ []))) d vs) ws ⊎ Leading J K n (suc g) (with_text b (operated b.text (operation_of x p a ∷ []))) d ws
      → OperationsFound J K n (suc g) b c (W.name x p ∷ sign equal_sign q ∷ sign open_bracket r ∷ (us ++ sign close_bracket s ∷ ws))
  unfolding counted_operations
  ends g x p q r s us a d i g₀ (inl (at_sign_lem t vs z)) = longer (ih z.0 z.1 K (suc g) (with_text b (operated b.text (operation_of x p a ∷ []))) d vs z.2)
    where
      longer : {vs : List Word} → OperationsFound J K z.0 (suc g) (with_text b (operated b.text (operation_of x p a ∷ []))) d vs → OperationsFound J K n (suc g) b c (W.name x p ∷ sign equal_sign q ∷ sign open_bracket r ∷ (us ++ sign close_bracket s ∷ sign comma t ∷ vs))
      longer (all-operations us₁ vs₁ os d₁ j g₁ l) =
          subst (λ (v : List Word). OperationsFound J K n (suc g) b c (W.name x p ∷ sign equal_sign q ∷ sign open_bracket r ∷ v)) (simp append_assoc)
          (all-operations (W.name x p ∷ sign equal_sign q ∷ sign open_bracket r ∷ (us ++ sign close_bracket s ∷ sign comma t ∷ us₁)) vs₁ (operation_of x p a ∷ os) d₁ (G.operations-more q r s t i j) (omega arith)
          (leading-later J K n z.0 (suc g) _ d₁ z.1 (subst (λ (y : Text). Leading J K z.0 (suc g) (with_text b y) d₁ vs₁) (operated-more b.text (operation_of x p a) os) l)))
  ends g x p q r s us a d i g₀ {ws} (inr l) =
      subst (λ (v : List Word). OperationsFound J K n (suc g) b c (W.name x p ∷ sign equal_sign q ∷ sign open_bracket r ∷ v)) (append_assoc us (sign close_bracket s ∷ []) ws)
      (all-operations (W.name x p ∷ sign equal_sign q ∷ sign open_bracket r ∷ (us ++ sign close_bracket s ∷ [])) ws (operation_of x p a ∷ []) d (G.operations-one q r s i) (omega arith) l)

  one : (h m : ℕ) → n ≡ suc m → (x : Name) (p : Position) (ws : List Word)
      → Accepts J (plain_word equal_sign ∷ word open_bracket opens ∷ make begin_list ∷ ask operation_action ∷ ask operation_more ∷ closing close_bracket ∷ make make_operation ∷ ask operations_more ∷ K) m h (keep_word (W.name x p) b) (more M.operation c) ws → OperationsFound J K n h b c (W.name x p ∷ ws)
  unfolding joined list_no word_no
  one h m e x p ws a =
      with-sign (λ v. OperationsFound J K n h b c (W.name x p ∷ v)) (worded equal_sign level ws a) λ q vs z.
      with-sign (λ v. OperationsFound J K n h b c (W.name x p ∷ sign equal_sign q ∷ v)) (worded open_bracket opens vs z.2) λ r vs₁ z₁.
      subst (λ (h : ℕ). OperationsFound J K n h b c (W.name x p ∷ sign equal_sign q ∷ sign open_bracket r ∷ vs₁)) (sym z₁.2.1)
      (with-acts (λ v. OperationsFound J K n (suc z₁.2.0) b c (W.name x p ∷ sign equal_sign q ∷ sign open_bracket r ∷ v))
      ((inverts-acts J z₁.0).acts in_operation operation_more (closing close_bracket ∷ make make_operation ∷ ask operations_more ∷ K) z₁.2.0 (λ k b c ws. Accepts J (closing close_bracket ∷ make make_operation ∷ ask operations_more ∷ K) k z₁.2.0 b c ws)
      (more-tail J in_operation (closing close_bracket ∷ make make_operation ∷ ask operations_more ∷ K) z₁.2.0) (keep_word (W.name x p) b) (deeper (more M.operation c)) T.done b.lists vs₁ (made vs₁ z₁.2.2).1) λ us vs₂ a₁ d i g y.
      with-sign (λ v. OperationsFound J K n (suc z₁.2.0) b c (W.name x p ∷ sign equal_sign q ∷ sign open_bracket r ∷ (us ++ v))) (worded close_bracket closes vs₂ y) λ s vs₃ z₂.
      ends z₁.2.0 x p q r s us a₁ (back d) i (omega arith)
      (split J K n (suc z₁.2.0) (with_text b (operated b.text (operation_of x p a₁ ∷ []))) (back d) vs₃ (made vs₃ (weaken e (weaken z.1 (weaken z₁.1 (weaken z₂.1 z₂.2))))).1))

list-by : (J : Judge) (n : ℕ) → ((m : ℕ) → n ≡ suc m → Lists J m) → Lists J n
unfolding rule_of tallied
list-by J n ih K h b c ws a = go (chosen J operation_spec ws a)
  where
    go : {ws : List Word} → Picks J (rule_of tree_steps operation_spec).ways (ask operations_more ∷ K) n h b c ws ⊎ Leaves J M.must (ask operations_more ∷ K) n h b c ws → OperationsFound J K n h b c ws
    go (inl (inl (at_name x p vs z))) = one J n ih K b c h z.0 z.1 x p vs z.2
    go (inl (inr x)) = elim x [ ]
    go (inr x) = elim x [ ]

pub a-list : (J : Judge) (n : ℕ) → Lists J n
a-list J zero = list-by J zero (λ m e. absurd (omega arith))
a-list J (suc n) = list-by J (suc n) (λ m e. subst (Lists J) (omega arith) (a-list J n))
