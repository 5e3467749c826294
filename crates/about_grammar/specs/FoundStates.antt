-- States in accepted words.
use Rattle.std.specs.Prelude.{true, ◌⊎◌, ◌≡◌, ℕ, suc}
use mathlib.Core.List.{List, [], ◌∷◌, ◌++◌, append_assoc}
use Rattle.std.proofs.Common.{inl, inr, ap, arith}
use Rattle.std.proofs.Math.Option.{Option}
use Rattle.std.proofs.Math.Path.{refl, subst}
use Rattle.language.specs.Alternatives.{lead}
use Rattle.language.specs.Building.{Built, joined, list_no, with_lists, with_states, with_text}
use Rattle.language.specs.CountedWords.{counted_actions}
use Rattle.language.specs.Declaring.{make_state, tree_steps}
use Rattle.language.specs.Grammar as G
use Rattle.language.specs.Grammar.{Is}
use Rattle.language.specs.Kinds.{a_name, comma, slash}
use Rattle.language.specs.Machine as M
use Rattle.language.specs.Machine.{Counts, ask, make, no_counts, state_body, state_rest, tallied}
use Rattle.language.specs.Notions as N
use Rattle.language.specs.Notions.{actions, first_place, in_state, label, state_of, states}
use Rattle.language.specs.SectionWays.{rule_of}
use Rattle.language.specs.Tree as T
use Rattle.language.specs.Tree.{Actions, Label, Name, State, StateValue}
use Rattle.language.specs.Words as W
use Rattle.language.specs.Words.{Position, Word, sign, word_at}
use Rattle.about_grammar.specs.Accepting.{Accepts, Judge, Leaves, Picks, at_name, at_sign_lem, chosen, made, weaken}
use Rattle.about_grammar.specs.Control.{stated}
use Rattle.about_grammar.specs.Courses.{Ceiling, Stack}
use Rattle.about_grammar.specs.Derived.{takes}
use Rattle.about_grammar.specs.FindingActions.{ActsFound, After, Next, TailOf, acts}
use Rattle.about_grammar.specs.FoundActions.{named-in-state}
use Rattle.about_grammar.specs.FoundConditionals.{calls, cases, conditional, goes_to, inverts-acts, raised, returns}
use Rattle.about_grammar.specs.FoundExpressions.{inverts}
use Rattle.about_grammar.specs.Peeling.{kept_word}
use Rattle.about_grammar.specs.Reaching.{Gained, amount}

pub data StateFound (J : Judge) (K : Stack) (n h : ℕ) (b : Built) (c : Counts) : List Word → Type 0 where
  a-state : (us vs : List Word) (s : State) (d : Counts) → Is N.state_def h us (states (s ∷ [])) → Gained (amount 0 0 1 (counted_actions s.actions)) c d → Accepts J K n h (with_text b (stated b.text (s ∷ []))) d vs → StateFound J K n h b c (us ++ vs)

-- What is accepted behind a state's actions: its `/`.
abbrev pub Slashed : Judge → Stack → ℕ → After
Slashed J K h n b c ws = Next slash n (λ m vs. Accepts J (make make_state ∷ K) m h b c vs) ws

pub slash-tail : (J : Judge) (K : Stack) (h : ℕ) → TailOf J in_state state_rest K h (Slashed J K h)
unfolding rule_of tallied
slash-tail J K h = record { split = λ n b c ws a. go n b c (chosen J state_rest ws a); weaken = λ n m b c ws e x. later n m b c e x }
  where
    go : (n : ℕ) (b : Built) (c : Counts) {ws : List Word} → Picks J (lead comma (ask M.state_action ∷ ask state_rest ∷ []) ∷ lead slash (make make_state ∷ []) ∷ []) K n h b c ws ⊎ Leaves J M.must K n h b c ws
        → Next comma n (λ m vs. Accepts J (ask M.state_action ∷ ask state_rest ∷ K) m h b c vs) ws ⊎ Slashed J K h n b c ws
    go n b c (inl (inl z)) = inl z
    go n b c (inl (inr (inl z))) = inr z
    go n b c (inl (inr (inr x))) = elim x [ ]
    go n b c (inr x) = elim x [ ]

    later : (n m : ℕ) (b : Built) (c : Counts) {ws : List Word} → n ≡ suc m → Slashed J K h m b c ws → Slashed J K h n b c ws
    later n m b c e (at_sign_lem p vs z) = at_sign_lem p vs (m, e, weaken z.1 z.2)

-- Actions begin with their first word.
pub free : Ceiling
free = record { fits = λ c. true; top = no_counts; below = λ c u. refl }

pub first-word : {h : ℕ} {a : Actions} (us : List Word) → Is (N.action_list in_state) h us (actions a) → (w : Word) (ws xs : List Word) → us ++ xs ≡ w ∷ ws → (p : Position) → first_place us p ≡ word_at w
first-word [] i w ws xs e p = absurd ((takes free i).starts [] tt)
first-word (v ∷ us) i w ws xs e p = ap (λ (l : List Word). first_place l p) e

-- A state with actions; its label's words are us.
module _ (J : Judge) (K : Stack) (n h : ℕ) (b : Built) (c d : Counts) (us : List Word) (q : Position) (l : Option Label) (v : Option StateValue) (i : Is N.state_label h us (label l v)) (g₀ : Gained (amount 0 0 1 0) c d) where
  pub acting : {ws : List Word} → ((vs xs : List Word) (p : Position) (a : Actions) → vs ++ xs ≡ ws → Is (N.action_list in_state) h vs (actions a) → first_place (us ++ vs) p ≡ q) → ActsFound J in_state (Slashed J K h) n h (with_states b (state_of q l v T.done ∷ b.states)) T.done b.lists d ws → StateFound J K n h b c (us ++ ws)
  unfolding joined list_no
  acting place (acts vs ws a d₁ j g (at_sign_lem p xs z)) =
      let s : State = state_of q l v a in
      let k : Is N.state_def h (us ++ (vs ++ sign slash p ∷ [])) (states (s ∷ [])) = subst (λ (o : Position). Is N.state_def h (us ++ (vs ++ sign slash p ∷ [])) (states (state_of o l v a ∷ []))) (place vs (sign slash p ∷ xs) p a refl j) (G.state-acting p i j) in
      subst (StateFound J K n h b c) (simp append_assoc) (a-state (us ++ (vs ++ sign slash p ∷ [])) xs s d₁ k (omega arith) (made xs (weaken z.1 z.2)).1)

  pub idle : (p : Position) → first_place us p ≡ q → (ws : List Word) → Accepts J (make make_state ∷ K) n h (with_lists (with_states b (state_of q l v T.done ∷ b.states)) (T.done ∷ b.lists)) d ws → StateFound J K n h b c (us ++ sign slash p ∷ ws)
  unfolding list_no counted_actions
  idle p place ws a =
      let k : Is N.state_def h (us ++ sign slash p ∷ []) (states (state_of q l v T.done ∷ [])) = subst (λ (o : Position). Is N.state_def h (us ++ sign slash p ∷ []) (states (state_of o l v T.done ∷ []))) place (G.state-idle p i) in
      subst (StateFound J K n h b c) (append_assoc us (sign slash p ∷ []) ws) (a-state (us ++ sign slash p ∷ []) ws (state_of q l v T.done) d k (omega arith) (made ws a).1)

-- ---- Behind a label.

module _ (J : Judge) (K : Stack) (n h : ℕ) (b : Built) (c d : Counts) (us : List Word) (x : Name) (q : Position) (l : Option Label) (v : Option StateValue) (i : Is N.state_label h (W.name x q ∷ us) (label l v)) (g₀ : Gained (amount 0 0 1 0) c d) where
  abbrev waiting : Built
  waiting = with_states b (state_of q l v T.done ∷ b.states)

  abbrev Labelled : List Word → Type 0
  Labelled ws = StateFound J K n h b c (W.name x q ∷ (us ++ ws))

  acts-behind : {ws : List Word} → ActsFound J in_state (Slashed J K h) n h waiting T.done b.lists d ws → Labelled ws
  acts-behind a = acting J K n h b c d (W.name x q ∷ us) q l v i g₀ (λ vs xs p a₁ e j. refl) a

  pub body : (ws : List Word) → Accepts J (ask state_body ∷ K) n h waiting d ws → Labelled ws
  unfolding rule_of tallied
  body ws a = go (chosen J state_body ws a)
    where
      go : {ws : List Word} → Picks J (rule_of tree_steps state_body).ways K n h waiting d ws ⊎ Leaves J M.must K n h waiting d ws → Labelled ws
      go (inl (inl (at_sign_lem p vs z))) = idle J K n h b c d (W.name x q ∷ us) q l v i g₀ p refl vs (weaken z.1 z.2)
      go (inl (inr (inl (at_name y p vs z)))) = acts-behind (named-in-state z.1 (inverts J z.0) (inverts-acts J z.0) waiting d T.done b.lists y p (slash-tail J K h) vs z.2)
      go (inl (inr (inr (inl (at_sign_lem p vs z))))) = acts-behind (goes_to z.1 (inverts-acts J z.0) (slash-tail J K h) waiting d T.done b.lists p (kept_word a_name vs z.2))
      go (inl (inr (inr (inr (inl (at_sign_lem p vs z)))))) = acts-behind (calls z.1 (inverts-acts J z.0) (slash-tail J K h) waiting d T.done b.lists p (kept_word a_name vs z.2))
      go (inl (inr (inr (inr (inr (inl (at_sign_lem p vs z))))))) = acts-behind (returns z.1 (inverts-acts J z.0) (slash-tail J K h) waiting d T.done b.lists p vs z.2)
      go (inl (inr (inr (inr (inr (inr (inl (at_sign_lem p vs z)))))))) =
          acts-behind (raised (λ m e. inverts-acts J m) waiting d T.done b.lists in_state (slash-tail J K h) z.2.0 z.2.1 (λ u. conditional z.1 (inverts J z.0) (inverts-acts J z.0) in_state z.2.0 u waiting d T.done b.lists p vs z.2.2))
      go (inl (inr (inr (inr (inr (inr (inr (inl (at_sign_lem p vs z))))))))) =
          acts-behind (raised (λ m e. inverts-acts J m) waiting d T.done b.lists in_state (slash-tail J K h) z.2.0 z.2.1 (λ u. cases z.1 (inverts J z.0) (inverts-acts J z.0) in_state z.2.0 u waiting d T.done b.lists p vs z.2.2))
      go (inl (inr (inr (inr (inr (inr (inr (inr x)))))))) = elim x [ ]
      go (inr x) = elim x [ ]
