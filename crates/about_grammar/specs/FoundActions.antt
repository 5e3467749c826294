-- Actions that are no conditional, in accepted words.
use Rattle.std.proofs.Math.Bool.{true}
use mathlib.Core.List.{List, [], ◌∷◌, ◌++◌, append_assoc, map}
use Rattle.std.specs.Prelude.{◌⊎◌, ◌≡◌, refl}
use Rattle.std.proofs.Common.{inl, inr, ◌∙◌, ap, sym, arith}
use Rattle.std.proofs.Math.Path.{subst}
use Prim.Native.Nat.{ℕ, suc, ◌+◌}
use Rattle.language.specs.Alternatives.{after_step, enter}
use Rattle.language.specs.Building.{Built, expression_no, joined, keep_word, list_no, make_pair, make_perform, make_set, make_store, make_whole, with_lefts, with_lists, word_no}
use Rattle.language.specs.CountedWords.{counted_actions, counted_expression, counted_left, counted_reference}
use Rattle.language.specs.Declaring.{tree_steps}
use Rattle.language.specs.Grammar as G
use Rattle.language.specs.Grammar.{Is}
use Rattle.language.specs.Kinds.{a_name, at_sign, con_word, delayed_sign, equal_sign, open_bracket}
use Rattle.language.specs.Machine as M
use Rattle.language.specs.Machine.{Ask, Counts, ask, choose, counted, feed, left_rest, make, more, operation_name, run, set_sign, state_name, store_sign, subscript, subscripts, tallied}
use Rattle.language.specs.Notions as N
use Rattle.language.specs.Notions.{Section, actions, expression, in_operation, in_state, is_store, left}
use Rattle.language.specs.SectionWays.{rule_of}
use Rattle.language.specs.Tree as T
use Rattle.language.specs.Tree.{Actions, Expression, Left, Name}
use Rattle.language.specs.Ways.{left_ways, set_way, state_name_ways, store_ways}
use Rattle.language.specs.Words as W
use Rattle.language.specs.Words.{Position, Word, sign}
use Rattle.about_grammar.specs.Accepting.{Accepts, AtName, Judge, Leaves, Picks, at_name, at_sign_lem, chosen, made, weaken}
use Rattle.about_grammar.specs.Conditionals.{joined-assoc}
use Rattle.about_grammar.specs.Courses.{Grown, Stack}
use Rattle.about_grammar.specs.Finding.{Found, Inverts, Referred, found, referred}
use Rattle.about_grammar.specs.FindingActions.{ActsFound, After, InvertsActs, RestFound, TailOf, acts, rests, the_rest}
use Rattle.about_grammar.specs.Peeling.{kept_word, restacked}
use Rattle.about_grammar.specs.Taking.{push}

-- An action and the rest of its list.
pub acted : {J : Judge} {s : Section} {t : Ask} {K : Stack} {h : ℕ} {Q : After} {n m : ℕ} {b : Built} {l : Actions} {ls : List Actions} {c d : Counts} {ws : List Word} → TailOf J s t K h Q → (front : List Word) (A : Actions → Actions) (k : ℕ)
    → ((us : List Word) (a : Actions) → Is (N.rest s) h us (actions a) → Is (N.action_list s) h (front ++ us) (actions (A a))) → ((a : Actions) → joined (A T.done) a ≡ A a) → ((a : Actions) → counted_actions (A a) ≡ k + counted_actions a)
    → n ≡ suc m → Grown k c d → RestFound J s Q m h b (joined l (A T.done)) ls d ws → ActsFound J s Q n h b l ls c (front ++ ws)
acted {J} {s} {h = h} {Q} {n} {m} {b} {l} {ls} {c} {d} tail front A k rule joins counts e g (rests us vs a d₁ i g₁ q) =
    let x = counts a in
    subst (ActsFound J s Q n h b l ls c) (append_assoc front us vs)
    (acts (front ++ us) vs (A a) d₁ (rule us a i) (omega arith)
    (tail.weaken n m _ d₁ vs e (subst (λ (y : Actions). Q m (with_lists b (y ∷ ls)) d₁ vs) (joined-assoc l (A T.done) a ∙ ap (joined l) (joins a)) q)))

-- A name behind which a left side's words stand, or an operation's.
pub operation-name : (J : Judge) (L : Stack) (h n : ℕ) (x : Name) (p : Position) (b : Built) (c : Counts) (ws : List Word) → Accepts J (ask operation_name ∷ L) n h (keep_word (W.name x p) b) c ws
    → Accepts J (ask subscripts ∷ ask left_rest ∷ L) n h (keep_word (W.name x p) b) c ws ⊎ ((q : Position) × Accepts J L n h (make_perform q (keep_word (W.name x p) b)) (more counted c) ws)
unfolding rule_of tallied run feed choose
operation-name J L h n x p b c ws y = go y (chosen J operation_name ws y)
  where
    go : {ws : List Word} → Accepts J (ask operation_name ∷ L) n h (keep_word (W.name x p) b) c ws
        → Picks J (enter open_bracket (ask subscript ∷ ask left_rest ∷ []) ∷ map (after_step make_whole []) (left_ways tree_steps)) L n h (keep_word (W.name x p) b) c ws ⊎ Leaves J (M.operand make_perform) L n h (keep_word (W.name x p) b) c ws
        → Accepts J (ask subscripts ∷ ask left_rest ∷ L) n h (keep_word (W.name x p) b) c ws ⊎ ((q : Position) × Accepts J L n h (make_perform q (keep_word (W.name x p) b)) (more counted c) ws)
    go a (inl (inl (at_sign_lem o vs z))) = inl (restacked refl a)
    go a (inl (inr (inl (at_sign_lem o vs z)))) = inl (restacked refl a)
    go a (inl (inr (inr (inl (at_sign_lem o vs z))))) = inl (restacked refl a)
    go a (inl (inr (inr (inr (inl (at_sign_lem o vs z)))))) = inl (restacked refl a)
    go a (inl (inr (inr (inr (inr (inl (at_sign_lem o vs z))))))) = inl (restacked refl a)
    go a (inr z) = inr z
    go a (inl (inr (inr (inr (inr (inr x)))))) = elim x [ ]

pub state-name : (J : Judge) (L : Stack) (h n : ℕ) (x : Name) (p : Position) (b : Built) (c : Counts) (ws : List Word) → Accepts J (ask state_name ∷ L) n h (keep_word (W.name x p) b) c ws
    → Accepts J (ask subscripts ∷ ask set_sign ∷ L) n h (keep_word (W.name x p) b) c ws ⊎ ((q : Position) × Accepts J L n h (make_perform q (keep_word (W.name x p) b)) (more counted c) ws)
unfolding rule_of tallied run feed choose
state-name J L h n x p b c ws y = go y (chosen J state_name ws y)
  where
    go : {ws : List Word} → Accepts J (ask state_name ∷ L) n h (keep_word (W.name x p) b) c ws → Picks J (state_name_ways tree_steps) L n h (keep_word (W.name x p) b) c ws ⊎ Leaves J (M.operand make_perform) L n h (keep_word (W.name x p) b) c ws
        → Accepts J (ask subscripts ∷ ask set_sign ∷ L) n h (keep_word (W.name x p) b) c ws ⊎ ((q : Position) × Accepts J L n h (make_perform q (keep_word (W.name x p) b)) (more counted c) ws)
    go a (inl (inl (at_sign_lem o vs z))) = inl (restacked refl a)
    go a (inl (inr (inl (at_sign_lem o vs z)))) = inl (restacked refl a)
    go a (inr z) = inr z
    go a (inl (inr (inr x))) = elim x [ ]

module _ {J : Judge} {n m : ℕ} (e : n ≡ suc m) (r : Inverts J m) (ih : InvertsActs J m) {t : Ask} {K : Stack} {h : ℕ} {Q : After} (b : Built) (c : Counts) (l : Actions) (ls : List Actions) (x : Name) (p : Position) where
  -- An operation that is named.
  pub performed : (s : Section) → TailOf J s t K h Q → {ws : List Word} → ((q : Position) × Accepts J (ask t ∷ K) m h (make_perform q (keep_word (W.name x p) (with_lists b (l ∷ ls)))) (more counted c) ws) → ActsFound J s Q n h b l ls c (W.name x p ∷ ws)
  unfolding joined list_no word_no counted_actions
  performed s tail {ws} z =
      acted tail (W.name x p ∷ []) (T.perform x p) 1 (λ us a i. G.act-perform i) (λ a. refl) (λ a. omega arith) e (omega arith) (the_rest ih tail b (more counted c) (joined l (T.perform x p T.done)) ls ws z.1)

  -- A reference that is set.
  set-behind : (s : Section) → TailOf J s t K h Q → (us : List Word) (f : Expression) (d : Counts) → Is N.reference h (W.name x p ∷ us) (expression f) → Grown (counted_reference f) c d → (q : Position) (k : ℕ) → m ≡ suc k
      → {ws : List Word} → Accepts J (make make_set ∷ ask t ∷ K) k h (keep_word (sign at_sign q) (push f (with_lists b (l ∷ ls)))) (more counted d) ws → ActsFound J s Q n h b l ls c (W.name x p ∷ (us ++ sign at_sign q ∷ ws))
  unfolding joined list_no word_no expression_no counted_actions
  set-behind s tail us f d i g q k o {ws} y =
      subst (λ (v : List Word). ActsFound J s Q n h b l ls c (W.name x p ∷ v)) (append_assoc us (sign at_sign q ∷ []) ws)
      (acted tail (W.name x p ∷ (us ++ sign at_sign q ∷ [])) (T.set q f) (suc (counted_reference f))
      (λ vs a j. subst (λ (v : List Word). Is (N.action_list s) h (W.name x p ∷ v) (actions (T.set q f a))) (sym (append_assoc us (sign at_sign q ∷ []) vs)) (G.act-set i j)) (λ a. refl) (λ a. omega arith) e (omega arith)
      (the_rest ih tail b (more counted d) (joined l (T.set q f T.done)) ls ws (weaken o (made ws y).1)))

  -- A store, from its right side on; its left side's words are x and us.
  store-behind : TailOf J in_operation t K h Q → (us : List Word) (v : Left) (d : Counts) → Is N.left_side h (W.name x p ∷ us) (left v) → Grown (counted_left v) c d → (k : ℕ) → is_store k ≡ true → (q : Position) (j : ℕ) → m ≡ suc j → (ws : List Word)
      → Accepts J (ask M.expression ∷ make make_store ∷ ask t ∷ K) j h (keep_word (sign k q) (with_lefts (with_lists b (l ∷ ls)) (v ∷ b.lefts))) (more counted d) ws → ActsFound J in_operation Q n h b l ls c (W.name x p ∷ (us ++ sign k q ∷ ws))
  unfolding joined list_no word_no expression_no counted_actions
  store-behind tail us v d i g k is q j o ws y = go (r.expression _ _ _ _ _ (weaken o y))
    where
      go : {ws : List Word} → Found J N.boolean_exp (make make_store ∷ ask t ∷ K) m h (keep_word (sign k q) (with_lefts (with_lists b (l ∷ ls)) (v ∷ b.lefts))) (more counted d) ws → ActsFound J in_operation Q n h b l ls c (W.name x p ∷ (us ++ sign k q ∷ ws))
      go (found us₁ vs f d₁ i₁ g₁ z) =
          subst (λ (w : List Word). ActsFound J in_operation Q n h b l ls c (W.name x p ∷ w)) (append_assoc us (sign k q ∷ us₁) vs)
          (acted tail (W.name x p ∷ (us ++ sign k q ∷ us₁)) (T.store k q v f) (suc (counted_left v + counted_expression f))
          (λ ws a i₂. subst (λ (w : List Word). Is (N.action_list in_operation) h (W.name x p ∷ w) (actions (T.store k q v f a))) (sym (append_assoc us (sign k q ∷ us₁) ws)) (G.act-store is i i₁ i₂)) (λ a. refl) (λ a. omega arith) e (omega arith)
          (the_rest ih tail b d₁ (joined l (T.store k q v f T.done)) ls vs (made vs z).1))

  -- Two references joined by CON, from the second one's name on.
  pair-behind : TailOf J in_operation t K h Q → (us : List Word) (f : Expression) (d : Counts) → Is N.reference h (W.name x p ∷ us) (expression f) → Grown (counted_reference f) c d → (o : Position) {ws : List Word}
      → AtName (λ y q vs. (k : ℕ) × (m ≡ suc k) × Accepts J (ask subscripts ∷ make make_pair ∷ ask store_sign ∷ ask t ∷ K) k h (keep_word (W.name y q) (push f (with_lists b (l ∷ ls)))) d vs) ws → ActsFound J in_operation Q n h b l ls c (W.name x p ∷ (us ++ sign con_word o ∷ ws))
  unfolding rule_of tallied expression_no
  pair-behind tail us f d i g o (at_name y q vs z) = go (r.subscripts _ _ _ _ _ _ _ (weaken z.1 z.2))
    where
      go : {vs : List Word} → Referred J (make make_pair ∷ ask store_sign ∷ ask t ∷ K) m h y q (push f (with_lists b (l ∷ ls))) d vs → ActsFound J in_operation Q n h b l ls c (W.name x p ∷ (us ++ sign con_word o ∷ W.name y q ∷ vs))
      go (referred us₁ vs f₁ d₁ i₁ g₁ one a) = signs (chosen J store_sign vs (made vs a).1)
        where
          by : (k : ℕ) → is_store k ≡ true → (q₁ : Position) (vs : List Word) (j : ℕ) → m ≡ suc j → Accepts J (ask M.expression ∷ make make_store ∷ ask t ∷ K) j h (keep_word (sign k q₁) (with_lefts (with_lists b (l ∷ ls)) (T.pair f f₁ ∷ b.lefts))) (more counted d₁) vs
              → ActsFound J in_operation Q n h b l ls c (W.name x p ∷ (us ++ sign con_word o ∷ W.name y q ∷ (us₁ ++ sign k q₁ ∷ vs)))
          by k is q₁ vs j s w =
              subst (λ (v : List Word). ActsFound J in_operation Q n h b l ls c (W.name x p ∷ v)) (append_assoc us (sign con_word o ∷ W.name y q ∷ us₁) (sign k q₁ ∷ vs))
              (store-behind tail (us ++ sign con_word o ∷ W.name y q ∷ us₁) (T.pair f f₁) d₁ (G.left-two o i i₁) (omega arith) k is q₁ j s vs w)

          signs : {vs : List Word} → Picks J (store_ways tree_steps) (ask t ∷ K) m h (with_lefts (with_lists b (l ∷ ls)) (T.pair f f₁ ∷ b.lefts)) d₁ vs ⊎ Leaves J M.must (ask t ∷ K) m h (with_lefts (with_lists b (l ∷ ls)) (T.pair f f₁ ∷ b.lefts)) d₁ vs
              → ActsFound J in_operation Q n h b l ls c (W.name x p ∷ (us ++ sign con_word o ∷ W.name y q ∷ (us₁ ++ vs)))
          signs (inl (inl (at_sign_lem q₁ vs w))) = by delayed_sign refl q₁ vs w.0 w.1 w.2
          signs (inl (inr (inl (at_sign_lem q₁ vs w)))) = by equal_sign refl q₁ vs w.0 w.1 w.2
          signs (inl (inr (inr x))) = elim x [ ]
          signs (inr x) = elim x [ ]

  -- A left side in an operation.
  pub left_behind : TailOf J in_operation t K h Q → {ws : List Word} → Referred J (ask left_rest ∷ ask t ∷ K) m h x p (with_lists b (l ∷ ls)) c ws → ActsFound J in_operation Q n h b l ls c (W.name x p ∷ ws)
  unfolding rule_of tallied expression_no
  left_behind tail (referred us vs f d i g one a) = go (chosen J left_rest vs a)
    where
      by : (k : ℕ) → is_store k ≡ true → (q : Position) (vs : List Word) (j : ℕ) → m ≡ suc j → Accepts J (ask M.expression ∷ make make_store ∷ ask t ∷ K) j h (keep_word (sign k q) (with_lefts (with_lists b (l ∷ ls)) (T.single f ∷ b.lefts))) (more counted d) vs → ActsFound J in_operation Q n h b l ls c (W.name x p ∷ (us ++ sign k q ∷ vs))
      by k is q vs j s w = store-behind tail us (T.single f) d (G.left_one i) g k is q j s vs w

      go : {vs : List Word} → Picks J (left_ways tree_steps) (ask t ∷ K) m h (push f (with_lists b (l ∷ ls))) d vs ⊎ Leaves J M.must (ask t ∷ K) m h (push f (with_lists b (l ∷ ls))) d vs → ActsFound J in_operation Q n h b l ls c (W.name x p ∷ (us ++ vs))
      go (inl (inl (at_sign_lem o vs w))) = pair-behind tail us f d i g o (kept_word a_name vs (weaken w.1 w.2))
      go (inl (inr (inl (at_sign_lem q vs w)))) = set-behind in_operation tail us f d i g q w.0 w.1 w.2
      go (inl (inr (inr (inl (at_sign_lem q vs w))))) = by delayed_sign refl q vs w.0 w.1 w.2
      go (inl (inr (inr (inr (inl (at_sign_lem q vs w)))))) = by equal_sign refl q vs w.0 w.1 w.2
      go (inl (inr (inr (inr (inr x))))) = elim x [ ]
      go (inr x) = elim x [ ]

  -- And in a state.
  pub set-in-state : TailOf J in_state t K h Q → {ws : List Word} → Referred J (ask set_sign ∷ ask t ∷ K) m h x p (with_lists b (l ∷ ls)) c ws → ActsFound J in_state Q n h b l ls c (W.name x p ∷ ws)
  unfolding rule_of tallied
  set-in-state tail (referred us vs f d i g one a) = go (chosen J set_sign vs a)
    where
      go : {vs : List Word} → Picks J (set_way tree_steps ∷ []) (ask t ∷ K) m h (push f (with_lists b (l ∷ ls))) d vs ⊎ Leaves J M.must (ask t ∷ K) m h (push f (with_lists b (l ∷ ls))) d vs → ActsFound J in_state Q n h b l ls c (W.name x p ∷ (us ++ vs))
      go (inl (inl (at_sign_lem q vs w))) = set-behind in_state tail us f d i g q w.0 w.1 w.2
      go (inl (inr x)) = elim x [ ]
      go (inr x) = elim x [ ]

  pub named-in-operation : TailOf J in_operation t K h Q → (ws : List Word) → Accepts J (ask operation_name ∷ ask t ∷ K) m h (keep_word (W.name x p) (with_lists b (l ∷ ls))) c ws → ActsFound J in_operation Q n h b l ls c (W.name x p ∷ ws)
  named-in-operation tail ws y = go (operation-name J (ask t ∷ K) h m x p (with_lists b (l ∷ ls)) c ws y)
    where
      go : Accepts J (ask subscripts ∷ ask left_rest ∷ ask t ∷ K) m h (keep_word (W.name x p) (with_lists b (l ∷ ls))) c ws ⊎ ((q : Position) × Accepts J (ask t ∷ K) m h (make_perform q (keep_word (W.name x p) (with_lists b (l ∷ ls)))) (more counted c) ws) → ActsFound J in_operation Q n h b l ls c (W.name x p ∷ ws)
      go (inl z) = left_behind tail (r.subscripts _ _ _ _ _ _ _ z)
      go (inr z) = performed in_operation tail z

  pub named-in-state : TailOf J in_state t K h Q → (ws : List Word) → Accepts J (ask state_name ∷ ask t ∷ K) m h (keep_word (W.name x p) (with_lists b (l ∷ ls))) c ws → ActsFound J in_state Q n h b l ls c (W.name x p ∷ ws)
  named-in-state tail ws y = go (state-name J (ask t ∷ K) h m x p (with_lists b (l ∷ ls)) c ws y)
    where
      go : Accepts J (ask subscripts ∷ ask set_sign ∷ ask t ∷ K) m h (keep_word (W.name x p) (with_lists b (l ∷ ls))) c ws ⊎ ((q : Position) × Accepts J (ask t ∷ K) m h (make_perform q (keep_word (W.name x p) (with_lists b (l ∷ ls)))) (more counted c) ws) → ActsFound J in_state Q n h b l ls c (W.name x p ∷ ws)
      go (inl z) = set-in-state tail (r.subscripts _ _ _ _ _ _ _ z)
      go (inr z) = performed in_state tail z
