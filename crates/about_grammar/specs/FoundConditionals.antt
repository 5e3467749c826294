-- Conditional actions and their arms in accepted words, and with them all actions, by induction on how many words are left.
use mathlib.Core.List.{List, [], ◌∷◌, ◌++◌, append_assoc}
use Rattle.std.specs.Prelude.{◌⊎◌, ◌≡◌, refl, ℕ, zero, suc, ◌+◌}
use Rattle.std.proofs.Common.{inl, inr, sym, arith}
use Rattle.std.proofs.Math.Path.{subst}
use Rattle.language.specs.Alternatives.{closing, kept, plain_word}
use Rattle.language.specs.Building.{Built, begin_list, expression_no, joined, keep_word, list_no, make_arm, make_call, make_choose, make_goto, make_if, make_return, make_when, with_lists, word_no}
use Rattle.language.specs.CountedWords.{counted_actions, counted_expression}
use Rattle.language.specs.Declaring.{tree_steps}
use Rattle.language.specs.Grammar as G
use Rattle.language.specs.Grammar.{Is}
use Rattle.language.specs.Kinds.{a_name, call_sign, case_word, do_word, else_word, end_case_word, end_if_word, goto_sign, if_word, return_word, then_word}
use Rattle.language.specs.Machine as M
use Rattle.language.specs.Machine.{Ask, Counts, ask, closes, counted, level, make, more, tallied}
use Rattle.language.specs.Notions as N
use Rattle.language.specs.Notions.{Section, actions, expression, in_operation, in_state}
use Rattle.language.specs.SectionWays.{rule_of}
use Rattle.language.specs.Tree as T
use Rattle.language.specs.Tree.{Actions, Expression}
use Rattle.language.specs.Ways.{operation_action_ways, signed_state_ways}
use Rattle.language.specs.Words as W
use Rattle.language.specs.Words.{Position, Word, sign}
use Rattle.about_grammar.specs.Accepting.{Accepts, AtName, Judge, Leaves, Picks, at_name, at_sign_lem, chosen, made, weaken}
use Rattle.about_grammar.specs.Acting.{action_of, arms_of, back, deeper, if_rest_of, more_of}
use Rattle.about_grammar.specs.Conditionals.{joined-assoc, joined-done}
use Rattle.about_grammar.specs.Courses.{Grown, Stack}
use Rattle.about_grammar.specs.Finding.{Inverts, with-found}
use Rattle.about_grammar.specs.FindingActions.{ActsFound, After, ArmsFound, InvertsActs, Next, TailOf, acts, arms, arms-rest, if-rest, more-tail, the_rest}
use Rattle.about_grammar.specs.FoundActions.{acted, named-in-operation, named-in-state}
use Rattle.about_grammar.specs.FoundExpressions.{inverts}
use Rattle.about_grammar.specs.Peeling.{kept_word, with-sign, worded}
use Rattle.about_grammar.specs.Taking.{push}

pub with-acts : {J : Judge} {s : Section} {Q : After} {n h : ℕ} {b : Built} {l : Actions} {ls : List Actions} {c : Counts} {ws : List Word} (R : List Word → Type 0) → ActsFound J s Q n h b l ls c ws
    → ((us vs : List Word) (a : Actions) (d : Counts) → Is (N.action_list s) h us (actions a) → Grown (counted_actions a) c d → Q n (with_lists b (joined l a ∷ ls)) d vs → R (us ++ vs)) → R ws
with-acts R (acts us vs a d i g q) f = f us vs a d i g q

pub with-arms : {J : Judge} {s : Section} {K : Stack} {n h : ℕ} {b : Built} {l : Actions} {ls : List Actions} {c : Counts} {ws : List Word} (R : List Word → Type 0) → ArmsFound J s K n h b l ls c ws
    → ((us vs : List Word) (a : Actions) (d : Counts) → Is (N.more_arms s) h us (actions a) → Grown (counted_actions a) c d → Accepts J K n h (with_lists b (joined l a ∷ ls)) d vs → R (us ++ vs)) → R ws
with-arms R (arms us vs a d i g q) f = f us vs a d i g q

module _ {J : Judge} {n m : ℕ} (e : n ≡ suc m) (r : Inverts J m) (ih : InvertsActs J m) (s : Section) {t : Ask} {K : Stack} (g : ℕ) {Q : After} (tail : TailOf J s t K (suc g) Q) (b : Built) (c : Counts) (l : Actions) (ls : List Actions) (p : Position) where
  abbrev Acted : List Word → Type 0
  Acted ws = ActsFound J s Q n (suc g) b l ls c ws

  -- Behind the list of THEN.
  if-ends : (us vs : List Word) (q : Position) (f : Expression) (a : Actions) (d d₁ : Counts) → Is N.boolean_exp g us (expression f) → Is (N.action_list s) g vs (actions a) → Grown (counted_expression f) (deeper (more counted c)) d → Grown (counted_actions a) d d₁
      → {ws : List Word} → Next end_if_word m (λ k ws. Accepts J (make make_when ∷ ask t ∷ K) k (suc g) (with_lists (push f (keep_word (sign if_word p) b)) (a ∷ l ∷ ls)) (back d₁) ws) ws
      ⊎ Next else_word m (λ k ws. Accepts J (make begin_list ∷ ask (action_of s) ∷ ask (more_of s) ∷ closing end_if_word ∷ make make_if ∷ ask t ∷ K) k g (with_lists (push f (keep_word (sign if_word p) b)) (a ∷ l ∷ ls)) d₁ ws) ws
      → Acted (sign if_word p ∷ (us ++ sign then_word q ∷ (vs ++ ws)))
  unfolding joined list_no word_no expression_no counted_actions
  if-ends us vs q f a d d₁ i j g₁ g₂ (inl (at_sign_lem o ws z)) =
      subst (λ (v : List Word). Acted (sign if_word p ∷ v)) (simp append_assoc)
      (acted tail (sign if_word p ∷ (us ++ sign then_word q ∷ (vs ++ sign end_if_word o ∷ []))) (T.when p f a) (suc (counted_expression f + counted_actions a))
      (λ xs a₁ j₁. subst (λ (v : List Word). Is (N.action_list s) (suc g) (sign if_word p ∷ v) (actions (T.when p f a a₁))) (simp append_assoc) (G.act-when o q i j j₁)) (λ a₁. refl) (λ a₁. omega arith) e (omega arith)
      (the_rest ih tail b (back d₁) (joined l (T.when p f a T.done)) ls ws (made ws (weaken z.1 z.2)).1))
  if-ends us vs q f a d d₁ i j g₁ g₂ (inr (at_sign_lem o ws z)) =
      with-acts (λ v. Acted (sign if_word p ∷ (us ++ sign then_word q ∷ (vs ++ sign else_word o ∷ v))))
      (ih.acts s (more_of s) (closing end_if_word ∷ make make_if ∷ ask t ∷ K) g (λ k b c ws. Accepts J (closing end_if_word ∷ make make_if ∷ ask t ∷ K) k g b c ws) (more-tail J s (closing end_if_word ∷ make make_if ∷ ask t ∷ K) g) (push f (keep_word (sign if_word p) b)) d₁ T.done (a ∷ l ∷ ls) ws (made ws (weaken z.1 z.2)).1) λ vs₁ ws₁ a₁ d₂ j₁ g₃ y.
      with-sign (λ v. Acted (sign if_word p ∷ (us ++ sign then_word q ∷ (vs ++ sign else_word o ∷ (vs₁ ++ v))))) (worded end_if_word closes ws₁ y) λ o₁ ws₂ z₁.
      subst (λ (v : List Word). Acted (sign if_word p ∷ v)) (simp append_assoc)
      (acted tail (sign if_word p ∷ (us ++ sign then_word q ∷ (vs ++ sign else_word o ∷ (vs₁ ++ sign end_if_word o₁ ∷ [])))) (T.choose p f (T.arm a (T.arm a₁ T.done))) (suc (counted_expression f + (counted_actions a + counted_actions a₁)))
      (λ xs a₂ j₂. subst (λ (v : List Word). Is (N.action_list s) (suc g) (sign if_word p ∷ v) (actions (T.choose p f (T.arm a (T.arm a₁ T.done)) a₂))) (simp append_assoc) (G.act-if o₁ o q i j j₁ j₂)) (λ a₂. refl) (λ a₂. omega arith) e (omega arith)
      (the_rest ih tail b (back d₂) (joined l (T.choose p f (T.arm a (T.arm a₁ T.done)) T.done)) ls ws₂ (made ws₂ (weaken z₁.1 z₁.2)).1))

  pub conditional : (ws : List Word) → Accepts J (ask M.expression ∷ plain_word then_word ∷ make begin_list ∷ ask (action_of s) ∷ ask (more_of s) ∷ ask (if_rest_of s) ∷ ask t ∷ K) m g (keep_word (sign if_word p) (with_lists b (l ∷ ls))) (deeper (more counted c)) ws
      → Acted (sign if_word p ∷ ws)
  unfolding joined
  conditional ws x =
      with-found (λ v. Acted (sign if_word p ∷ v)) (r.expression _ _ _ _ _ x) λ us vs f d i g₁ y.
      with-sign (λ v. Acted (sign if_word p ∷ (us ++ v))) (worded then_word level vs y) λ q vs₁ z.
      with-acts (λ v. Acted (sign if_word p ∷ (us ++ sign then_word q ∷ v)))
      (ih.acts s (more_of s) (ask (if_rest_of s) ∷ ask t ∷ K) g (λ k b c ws. Accepts J (ask (if_rest_of s) ∷ ask t ∷ K) k g b c ws) (more-tail J s (ask (if_rest_of s) ∷ ask t ∷ K) g) (push f (keep_word (sign if_word p) b)) d T.done (l ∷ ls) vs₁ (made vs₁ (weaken z.1 z.2)).1) λ us₁ vs₂ a d₁ j g₂ y₁.
      if-ends us us₁ q f a d d₁ i j g₁ g₂ (if-rest J s (ask t ∷ K) g m (with_lists (push f (keep_word (sign if_word p) b)) (a ∷ l ∷ ls)) d₁ vs₂ y₁)

  pub cases : (ws : List Word) → Accepts J (ask M.expression ∷ make begin_list ∷ plain_word do_word ∷ make begin_list ∷ ask (action_of s) ∷ ask (more_of s) ∷ make make_arm ∷ ask (arms_of s) ∷ closing end_case_word ∷ make make_choose ∷ ask t ∷ K) m g (keep_word (sign case_word p) (with_lists b (l ∷ ls))) (deeper (more counted c)) ws
      → Acted (sign case_word p ∷ ws)
  unfolding joined list_no word_no expression_no counted_actions
  cases ws x =
      with-found (λ v. Acted (sign case_word p ∷ v)) (r.expression _ _ _ _ _ x) λ us vs f d i g₁ y.
      with-sign (λ v. Acted (sign case_word p ∷ (us ++ v))) (worded do_word level vs (made vs y).1) λ q vs₁ z.
      with-acts (λ v. Acted (sign case_word p ∷ (us ++ sign do_word q ∷ v)))
      (ih.acts s (more_of s) (make make_arm ∷ ask (arms_of s) ∷ closing end_case_word ∷ make make_choose ∷ ask t ∷ K) g (λ k b c ws. Accepts J (make make_arm ∷ ask (arms_of s) ∷ closing end_case_word ∷ make make_choose ∷ ask t ∷ K) k g b c ws)
      (more-tail J s (make make_arm ∷ ask (arms_of s) ∷ closing end_case_word ∷ make make_choose ∷ ask t ∷ K) g) (push f (keep_word (sign case_word p) b)) d T.done (T.done ∷ l ∷ ls) vs₁ (made vs₁ (weaken z.1 z.2)).1) λ us₁ vs₂ a d₁ j g₂ y₁.
      with-arms (λ v. Acted (sign case_word p ∷ (us ++ sign do_word q ∷ (us₁ ++ v))))
      (ih.arms s (closing end_case_word ∷ make make_choose ∷ ask t ∷ K) g (push f (keep_word (sign case_word p) b)) d₁ (T.arm a T.done) (l ∷ ls) vs₂ (made vs₂ y₁).1) λ us₂ vs₃ a₁ d₂ j₁ g₃ y₂.
      with-sign (λ v. Acted (sign case_word p ∷ (us ++ sign do_word q ∷ (us₁ ++ (us₂ ++ v))))) (worded end_case_word closes vs₃ y₂) λ o vs₄ z₁.
      subst (λ (v : List Word). Acted (sign case_word p ∷ v)) (simp append_assoc)
      (acted tail (sign case_word p ∷ (us ++ ((sign do_word q ∷ (us₁ ++ us₂)) ++ sign end_case_word o ∷ []))) (T.choose p f (T.arm a a₁)) (suc (counted_expression f + (counted_actions a + counted_actions a₁)))
      (λ xs a₂ j₂. subst (λ (v : List Word). Is (N.action_list s) (suc g) (sign case_word p ∷ v) (actions (T.choose p f (T.arm a a₁) a₂))) (simp append_assoc) (G.act-case o i (G.arms-one {p = q} j j₁) j₂)) (λ a₂. refl) (λ a₂. omega arith) e (omega arith)
      (the_rest ih tail b (back d₂) (joined l (T.choose p f (T.arm a a₁) T.done)) ls vs₄ (made vs₄ (weaken z₁.1 z₁.2)).1))

-- ---- In a state: where it goes on.

module _ {J : Judge} {n m : ℕ} (e : n ≡ suc m) (ih : InvertsActs J m) {t : Ask} {K : Stack} {h : ℕ} {Q : After} (tail : TailOf J in_state t K h Q) (b : Built) (c : Counts) (l : Actions) (ls : List Actions) (p : Position) where
  pub goes_to : {ws : List Word} → AtName (λ x q vs. (k : ℕ) × (m ≡ suc k) × Accepts J (make make_goto ∷ ask t ∷ K) k h (keep_word (W.name x q) (with_lists b (l ∷ ls))) (more counted c) vs) ws → ActsFound J in_state Q n h b l ls c (sign goto_sign p ∷ ws)
  unfolding joined list_no word_no counted_actions
  goes_to (at_name x q vs z) =
      acted tail (sign goto_sign p ∷ W.name x q ∷ []) (T.goto x q) 1 (λ us a i. G.act-goto i) (λ a. refl) (λ a. omega arith) e (omega arith) (the_rest ih tail b (more counted c) (joined l (T.goto x q T.done)) ls vs (made vs (weaken z.1 z.2)).1)

  pub calls : {ws : List Word} → AtName (λ x q vs. (k : ℕ) × (m ≡ suc k) × Accepts J (make make_call ∷ ask t ∷ K) k h (keep_word (W.name x q) (with_lists b (l ∷ ls))) (more counted c) vs) ws → ActsFound J in_state Q n h b l ls c (sign call_sign p ∷ ws)
  unfolding joined list_no word_no counted_actions
  calls (at_name x q vs z) =
      acted tail (sign call_sign p ∷ W.name x q ∷ []) (T.call x q) 1 (λ us a i. G.act-call i) (λ a. refl) (λ a. omega arith) e (omega arith) (the_rest ih tail b (more counted c) (joined l (T.call x q T.done)) ls vs (made vs (weaken z.1 z.2)).1)

  pub returns : (vs : List Word) → Accepts J (make make_return ∷ ask t ∷ K) m h (keep_word (sign return_word p) (with_lists b (l ∷ ls))) (more counted c) vs → ActsFound J in_state Q n h b l ls c (sign return_word p ∷ vs)
  unfolding joined list_no word_no counted_actions
  returns vs z = acted tail (sign return_word p ∷ []) (T.return p) 1 (λ us a i. G.act-return i) (λ a. refl) (λ a. omega arith) e (omega arith) (the_rest ih tail b (more counted c) (joined l (T.return p T.done)) ls vs (made vs z).1)

-- ---- All actions.

module _ {J : Judge} {n : ℕ} (ih : (m : ℕ) → n ≡ suc m → InvertsActs J m) {t : Ask} {K : Stack} {h : ℕ} {Q : After} (b : Built) (c : Counts) (l : Actions) (ls : List Actions) where
  -- The nesting that is left, known by an equation.
  pub raised : (s : Section) → TailOf J s t K h Q → (g : ℕ) → h ≡ suc g → {ws : List Word} → (TailOf J s t K (suc g) Q → ActsFound J s Q n (suc g) b l ls c ws) → ActsFound J s Q n h b l ls c ws
  raised s tail g q {ws} f = subst (λ (h : ℕ). ActsFound J s Q n h b l ls c ws) (sym q) (f (subst (λ (h : ℕ). TailOf J s t K h Q) q tail))

  in-operation : TailOf J in_operation t K h Q → (ws : List Word) → Accepts J (ask M.operation_action ∷ ask t ∷ K) n h (with_lists b (l ∷ ls)) c ws → ActsFound J in_operation Q n h b l ls c ws
  unfolding rule_of tallied
  in-operation tail ws x = go (chosen J M.operation_action ws x)
    where
      go : {ws : List Word} → Picks J (operation_action_ways tree_steps) (ask t ∷ K) n h (with_lists b (l ∷ ls)) c ws ⊎ Leaves J M.must (ask t ∷ K) n h (with_lists b (l ∷ ls)) c ws → ActsFound J in_operation Q n h b l ls c ws
      go (inl (inl (at_name y p vs z))) = named-in-operation z.1 (inverts J z.0) (ih z.0 z.1) b c l ls y p tail vs z.2
      go (inl (inr (inl (at_sign_lem p vs z)))) = raised in_operation tail z.2.0 z.2.1 (λ u. conditional z.1 (inverts J z.0) (ih z.0 z.1) in_operation z.2.0 u b c l ls p vs z.2.2)
      go (inl (inr (inr (inl (at_sign_lem p vs z))))) = raised in_operation tail z.2.0 z.2.1 (λ u. cases z.1 (inverts J z.0) (ih z.0 z.1) in_operation z.2.0 u b c l ls p vs z.2.2)
      go (inl (inr (inr (inr x)))) = elim x [ ]
      go (inr x) = elim x [ ]

  in-state : TailOf J in_state t K h Q → (ws : List Word) → Accepts J (ask M.state_action ∷ ask t ∷ K) n h (with_lists b (l ∷ ls)) c ws → ActsFound J in_state Q n h b l ls c ws
  unfolding rule_of tallied
  in-state tail ws x = go (chosen J M.state_action ws x)
    where
      go : {ws : List Word} → Picks J (kept a_name (ask M.state_name ∷ []) ∷ signed_state_ways tree_steps) (ask t ∷ K) n h (with_lists b (l ∷ ls)) c ws ⊎ Leaves J M.must (ask t ∷ K) n h (with_lists b (l ∷ ls)) c ws → ActsFound J in_state Q n h b l ls c ws
      go (inl (inl (at_name y p vs z))) = named-in-state z.1 (inverts J z.0) (ih z.0 z.1) b c l ls y p tail vs z.2
      go (inl (inr (inl (at_sign_lem p vs z)))) = goes_to z.1 (ih z.0 z.1) tail b c l ls p (kept_word a_name vs z.2)
      go (inl (inr (inr (inl (at_sign_lem p vs z))))) = calls z.1 (ih z.0 z.1) tail b c l ls p (kept_word a_name vs z.2)
      go (inl (inr (inr (inr (inl (at_sign_lem p vs z)))))) = returns z.1 (ih z.0 z.1) tail b c l ls p vs z.2
      go (inl (inr (inr (inr (inr (inl (at_sign_lem p vs z))))))) = raised in_state tail z.2.0 z.2.1 (λ u. conditional z.1 (inverts J z.0) (ih z.0 z.1) in_state z.2.0 u b c l ls p vs z.2.2)
      go (inl (inr (inr (inr (inr (inr (inl (at_sign_lem p vs z)))))))) = raised in_state tail z.2.0 z.2.1 (λ u. cases z.1 (inverts J z.0) (ih z.0 z.1) in_state z.2.0 u b c l ls p vs z.2.2)
      go (inl (inr (inr (inr (inr (inr (inr x))))))) = elim x [ ]
      go (inr x) = elim x [ ]

acts-by : (J : Judge) (n : ℕ) → ((m : ℕ) → n ≡ suc m → InvertsActs J m) → (s : Section) (t : Ask) (K : Stack) (h : ℕ) (Q : After) → TailOf J s t K h Q → (b : Built) (c : Counts) (l : Actions) (ls : List Actions) (ws : List Word)
    → Accepts J (ask (action_of s) ∷ ask t ∷ K) n h (with_lists b (l ∷ ls)) c ws → ActsFound J s Q n h b l ls c ws
acts-by J n ih in_operation t K h Q tail b c l ls ws x = in-operation ih b c l ls tail ws x
acts-by J n ih in_state t K h Q tail b c l ls ws x = in-state ih b c l ls tail ws x

arms-by : (J : Judge) (n : ℕ) → ((m : ℕ) → n ≡ suc m → InvertsActs J m) → (s : Section) (K : Stack) (h : ℕ) (b : Built) (c : Counts) (l : Actions) (ls : List Actions) (ws : List Word)
    → Accepts J (ask (arms_of s) ∷ K) n h (with_lists b (l ∷ ls)) c ws → ArmsFound J s K n h b l ls c ws
unfolding joined list_no counted_actions
arms-by J n ih s K h b c l ls ws x = go (arms-rest J s K h n (with_lists b (l ∷ ls)) c ws x)
  where
    go : {ws : List Word} → Next do_word n (λ m vs. Accepts J (make begin_list ∷ ask (action_of s) ∷ ask (more_of s) ∷ make make_arm ∷ ask (arms_of s) ∷ K) m h (with_lists b (l ∷ ls)) c vs) ws ⊎ Accepts J K n h (with_lists b (l ∷ ls)) c ws → ArmsFound J s K n h b l ls c ws
    go (inl (at_sign_lem p vs z)) =
        let r = ih z.0 z.1 in
        with-acts (λ v. ArmsFound J s K n h b l ls c (sign do_word p ∷ v))
        (r.acts s (more_of s) (make make_arm ∷ ask (arms_of s) ∷ K) h (λ k b c ws. Accepts J (make make_arm ∷ ask (arms_of s) ∷ K) k h b c ws) (more-tail J s (make make_arm ∷ ask (arms_of s) ∷ K) h) b c T.done (l ∷ ls) vs (made vs z.2).1) λ us vs₁ a d i g y.
        with-arms (λ v. ArmsFound J s K n h b l ls c (sign do_word p ∷ (us ++ v))) (r.arms s K h b d (joined l (T.arm a T.done)) ls vs₁ (made vs₁ y).1) λ us₁ vs₂ a₁ d₁ i₁ g₁ y₁.
        subst (λ (v : List Word). ArmsFound J s K n h b l ls c (sign do_word p ∷ v)) (append_assoc us us₁ vs₂)
        (arms (sign do_word p ∷ (us ++ us₁)) vs₂ (T.arm a a₁) d₁ (G.arms_more (G.arms-one i i₁)) (omega arith) (subst (λ (v : Actions). Accepts J K n h (with_lists b (v ∷ ls)) d₁ vs₂) (joined-assoc l (T.arm a T.done) a₁) (weaken z.1 y₁)))
    go {ws} (inr y) = arms [] ws T.done c G.arms_end (omega arith) (subst (λ (v : Actions). Accepts J K n h (with_lists b (v ∷ ls)) c ws) (sym (joined-done l)) y)

pub inverts-acts : (J : Judge) (n : ℕ) → InvertsActs J n
inverts-acts J zero = record { acts = acts-by J zero (λ m e. absurd (omega arith)); arms = arms-by J zero (λ m e. absurd (omega arith)) }
inverts-acts J (suc n) = record { acts = acts-by J (suc n) (λ m e. subst (InvertsActs J) (omega arith) (inverts-acts J n)); arms = arms-by J (suc n) (λ m e. subst (InvertsActs J) (omega arith) (inverts-acts J n)) }
