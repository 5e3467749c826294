-- How states begin in accepted words, and all states with the ending of their section.
use Rattle.std.specs.Prelude.{true, ◌⊎◌, ◌≡◌, ℕ, zero, suc, ◌≤◌, length}
use mathlib.Core.List.{List, [], ◌∷◌, ◌++◌, append_assoc}
use Rattle.std.proofs.Common.{inl, inr, ◌∙◌, sym, subst, arith, length-append}
use Rattle.std.proofs.Math.Option.{none, some}
use Rattle.std.proofs.Math.Path.{refl}
use Rattle.language.specs.Alternatives.{closing, plain_word}
use Rattle.language.specs.Building.{Built, keep_word, make_perform, with_states, with_text, word_no}
use Rattle.language.specs.CountedWords.{counted_states}
use Rattle.language.specs.Declaring.{begin_at_name, begin_valued, tree_steps}
use Rattle.language.specs.Grammar as G
use Rattle.language.specs.Grammar.{Is}
use Rattle.language.specs.Kinds.{a_constant, a_name, close_paren, colon, end_word, open_paren, period}
use Rattle.language.specs.Machine as M
use Rattle.language.specs.Machine.{Counts, ask, choose, closes, feed, first_name, keep, level, make, more, run, state_body, state_name, state_rest, state_start, states_more, tallied}
use Rattle.language.specs.Notions as N
use Rattle.language.specs.Notions.{ends_section, in_state, label, state_of, states}
use Rattle.language.specs.SectionWays.{rule_of}
use Rattle.language.specs.Tree as T
use Rattle.language.specs.Tree.{Name, State, Text}
use Rattle.language.specs.Words as W
use Rattle.language.specs.Words.{Position, Word, sign, word_at}
use Rattle.about_grammar.specs.Accepting.{Accepts, Judge, Leaves, Picks, at_name, at_sign_lem, chosen, made, weaken}
use Rattle.about_grammar.specs.Acting.{back, deeper}
use Rattle.about_grammar.specs.Control.{stated, stated-more}
use Rattle.about_grammar.specs.Courses.{Stack}
use Rattle.about_grammar.specs.Derived.{takes}
use Rattle.about_grammar.specs.FindingActions.{ActsFound, Next}
use Rattle.about_grammar.specs.FoundActions.{named-in-state, performed}
use Rattle.about_grammar.specs.FoundConditionals.{calls, cases, conditional, goes_to, inverts-acts, raised, returns}
use Rattle.about_grammar.specs.FoundExpressions.{inverts}
use Rattle.about_grammar.specs.FoundStates.{Slashed, StateFound, a-state, acting, body, first-word, free, idle, slash-tail}
use Rattle.about_grammar.specs.Following.{Follows, among}
use Rattle.about_grammar.specs.Peeling.{kept_word, restacked, with-constant, with-sign, worded}
use Rattle.about_grammar.specs.Reaching.{Gained, amount}
use Rattle.about_grammar.specs.States.{begun, named_start}

-- ---- A state without a label.

module _ (J : Judge) (K : Stack) (n h : ℕ) (b : Built) (c : Counts) where
  abbrev waiting : Position → Built
  waiting p = with_states b (state_of p none none T.done ∷ b.states)

  unlabelled : (w : Word) {ws : List Word} → ActsFound J in_state (Slashed J K h) n h (waiting (word_at w)) T.done b.lists (more M.state c) (w ∷ ws) → StateFound J K n h b c (w ∷ ws)
  unlabelled w {ws} a = acting J K n h b c (more M.state c) [] (word_at w) none none G.no_label (omega arith) (λ vs xs p a₁ e j. first-word vs j w ws xs e p) a

  -- Its first word is a name.
  renamed : {L : Stack} {m : ℕ} (x : Name) (p : Position) (vs : List Word) → Follows (colon ∷ open_paren ∷ []) vs → Accepts J (ask first_name ∷ L) m h (keep_word (W.name x p) b) (more M.state c) vs → Accepts J (ask state_name ∷ L) m h (keep_word (W.name x p) (begun p b)) (more M.state c) vs
  renamed {L} x p vs f a = record { runs = sym (named_start J.fits L b (more M.state c) x p vs f J.end) ∙ a.runs; good = a.good; room = a.room; short = a.short; proper = a.proper }

  valued : (x : Name) (p q : Position) (m g : ℕ) → n ≡ suc m → h ≡ suc g → (ws : List Word) → Accepts J (keep a_constant ∷ closing close_paren ∷ plain_word colon ∷ make begin_valued ∷ ask state_body ∷ K) m g (keep_word (W.name x p) b) (deeper (more M.state c)) ws
      → StateFound J K n h b c (W.name x p ∷ sign open_paren q ∷ ws)
  unfolding word_no
  valued x p q m g e f ws a =
      with-constant (λ v. StateFound J K n h b c (W.name x p ∷ sign open_paren q ∷ v)) (kept_word a_constant ws a) λ y r vs z.
      with-sign (λ v. StateFound J K n h b c (W.name x p ∷ sign open_paren q ∷ W.constant y r ∷ v)) (worded close_paren closes vs z.2) λ s vs₁ z₁.
      with-sign (λ v. StateFound J K n h b c (W.name x p ∷ sign open_paren q ∷ W.constant y r ∷ sign close_paren s ∷ v)) (worded colon level vs₁ z₁.2) λ t vs₂ z₂.
      body J K n h b c (back (deeper (more M.state c))) (sign open_paren q ∷ W.constant y r ∷ sign close_paren s ∷ sign colon t ∷ []) x p (some (record { name = x; at = p })) (some (record { constant = y; at = r }))
      (subst (λ (h : ℕ). Is N.state_label h (W.name x p ∷ sign open_paren q ∷ W.constant y r ∷ sign close_paren s ∷ sign colon t ∷ []) (label (some (record { name = x; at = p })) (some (record { constant = y; at = r })))) (sym f) (G.label-with-value {h = g})) (omega arith) vs₂
      (subst (λ (h : ℕ). Accepts J (ask state_body ∷ K) n h (with_states b (state_of p (some (record { name = x; at = p })) (some (record { constant = y; at = r })) T.done ∷ b.states)) (back (deeper (more M.state c))) vs₂) (sym f) (weaken e (weaken z.1 (weaken z₁.1 (weaken z₂.1 (made vs₂ z₂.2).1)))))

  first : (x : Name) (p : Position) (m : ℕ) → n ≡ suc m → (ws : List Word) → Accepts J (ask first_name ∷ ask state_rest ∷ K) m h (keep_word (W.name x p) b) (more M.state c) ws → StateFound J K n h b c (W.name x p ∷ ws)
  unfolding rule_of tallied word_no among
  first x p m e ws a = go a (chosen J first_name ws a)
    where
      go : {ws : List Word} → Accepts J (ask first_name ∷ ask state_rest ∷ K) m h (keep_word (W.name x p) b) (more M.state c) ws
          → Picks J (rule_of tree_steps first_name).ways (ask state_rest ∷ K) m h (keep_word (W.name x p) b) (more M.state c) ws ⊎ Leaves J (M.operand (λ q d. make_perform q (begin_at_name q d))) (ask state_rest ∷ K) m h (keep_word (W.name x p) b) (more M.state c) ws → StateFound J K n h b c (W.name x p ∷ ws)
      go y (inl (inl (at_sign_lem q vs z))) =
          body J K n h b c (more M.state c) (sign colon q ∷ []) x p (some (record { name = x; at = p })) none (G.plain_label {h = h}) (omega arith) vs (weaken e (weaken z.1 (made vs z.2).1))
      go y (inl (inr (inl (at_sign_lem q vs z)))) = valued x p q m z.2.0 e z.2.1 vs (weaken z.1 z.2.2)
      go y (inl (inr (inr (inl (at_sign_lem q vs z))))) = unlabelled (W.name x p) (named-in-state e (inverts J m) (inverts-acts J m) (waiting p) (more M.state c) T.done b.lists x p (slash-tail J K h) _ (renamed x p _ refl y))
      go y (inl (inr (inr (inr (inl (at_sign_lem q vs z)))))) = unlabelled (W.name x p) (named-in-state e (inverts J m) (inverts-acts J m) (waiting p) (more M.state c) T.done b.lists x p (slash-tail J K h) _ (renamed x p _ refl y))
      go y (inr z) = unlabelled (W.name x p) (performed e (inverts J m) (inverts-acts J m) (waiting p) (more M.state c) T.done b.lists x p in_state (slash-tail J K h) z)
      go y (inl (inr (inr (inr (inr x))))) = elim x [ ]

  start : (ws : List Word) → Accepts J (ask state_start ∷ K) n h b c ws → StateFound J K n h b c ws
  unfolding rule_of tallied
  start ws a = go (chosen J state_start ws a)
    where
      go : {ws : List Word} → Picks J (rule_of tree_steps state_start).ways K n h b c ws ⊎ Leaves J M.must K n h b c ws → StateFound J K n h b c ws
      go (inl (inl (at_name x p vs z))) = first x p z.0 z.1 vs z.2
      go (inl (inr (inl (at_sign_lem p vs z)))) = idle J K n h b c (more M.state c) [] p none none G.no_label (omega arith) p refl vs (weaken z.1 z.2)
      go (inl (inr (inr (inl (at_sign_lem p vs z))))) = unlabelled (sign _ p) (goes_to z.1 (inverts-acts J z.0) (slash-tail J K h) (waiting p) (more M.state c) T.done b.lists p (kept_word a_name vs z.2))
      go (inl (inr (inr (inr (inl (at_sign_lem p vs z)))))) = unlabelled (sign _ p) (calls z.1 (inverts-acts J z.0) (slash-tail J K h) (waiting p) (more M.state c) T.done b.lists p (kept_word a_name vs z.2))
      go (inl (inr (inr (inr (inr (inl (at_sign_lem p vs z))))))) = unlabelled (sign _ p) (returns z.1 (inverts-acts J z.0) (slash-tail J K h) (waiting p) (more M.state c) T.done b.lists p vs z.2)
      go (inl (inr (inr (inr (inr (inr (inl (at_sign_lem p vs z)))))))) =
          unlabelled (sign _ p) (raised (λ m e. inverts-acts J m) (waiting p) (more M.state c) T.done b.lists in_state (slash-tail J K h) z.2.0 z.2.1 (λ u. conditional z.1 (inverts J z.0) (inverts-acts J z.0) in_state z.2.0 u (waiting p) (more M.state c) T.done b.lists p vs z.2.2))
      go (inl (inr (inr (inr (inr (inr (inr (inl (at_sign_lem p vs z))))))))) =
          unlabelled (sign _ p) (raised (λ m e. inverts-acts J m) (waiting p) (more M.state c) T.done b.lists in_state (slash-tail J K h) z.2.0 z.2.1 (λ u. cases z.1 (inverts J z.0) (inverts-acts J z.0) in_state z.2.0 u (waiting p) (more M.state c) T.done b.lists p vs z.2.2))
      go (inl (inr (inr (inr (inr (inr (inr (inr x)))))))) = elim x [ ]
      go (inr x) = elim x [ ]

-- ---- All states.

pub data StatesFound (J : Judge) (K : Stack) (n h : ℕ) (b : Built) (c : Counts) : List Word → Type 0 where
  all-states : (us vs : List Word) (k : ℕ) (p : Position) (ss : List State) (d : Counts) → Is N.state_defs h us (states ss) → ends_section k ≡ true → Gained (amount 0 0 (length ss) (counted_states ss)) c d → Accepts J K n h (with_text b (stated b.text ss)) d vs
      → StatesFound J K n h b c (us ++ sign k p ∷ vs)

-- One more state, or an ending.
split : (J : Judge) (K : Stack) (n h : ℕ) (b : Built) (c : Counts) (ws : List Word) → Accepts J (ask states_more ∷ K) n h b c ws
    → Accepts J (ask state_start ∷ ask states_more ∷ K) n h b c ws ⊎ (Next period n (λ m vs. Accepts J K m h b c vs) ws ⊎ Next end_word n (λ m vs. Accepts J K m h b c vs) ws)
unfolding rule_of tallied run feed choose
split J K n h b c ws a = go a (chosen J states_more ws a)
  where
    go : {ws : List Word} → Accepts J (ask states_more ∷ K) n h b c ws → Picks J (rule_of tree_steps states_more).ways K n h b c ws ⊎ Leaves J M.must K n h b c ws
        → Accepts J (ask state_start ∷ ask states_more ∷ K) n h b c ws ⊎ (Next period n (λ m vs. Accepts J K m h b c vs) ws ⊎ Next end_word n (λ m vs. Accepts J K m h b c vs) ws)
    go a (inl (inl (at_name x p vs z))) = inl (restacked refl a)
    go a (inl (inr (inl (at_sign_lem p vs z)))) = inl (restacked refl a)
    go a (inl (inr (inr (inl (at_sign_lem p vs z))))) = inl (restacked refl a)
    go a (inl (inr (inr (inr (inl (at_sign_lem p vs z)))))) = inl (restacked refl a)
    go a (inl (inr (inr (inr (inr (inl (at_sign_lem p vs z))))))) = inl (restacked refl a)
    go a (inl (inr (inr (inr (inr (inr (inl (at_sign_lem p vs z)))))))) = inl (restacked refl a)
    go a (inl (inr (inr (inr (inr (inr (inr (inl (at_sign_lem p vs z))))))))) = inl (restacked refl a)
    go a (inl (inr (inr (inr (inr (inr (inr (inr (inl z))))))))) = inr (inl z)
    go a (inl (inr (inr (inr (inr (inr (inr (inr (inr (inl z)))))))))) = inr (inr z)
    go a (inl (inr (inr (inr (inr (inr (inr (inr (inr (inr x)))))))))) = elim x [ ]
    go a (inr x) = elim x [ ]

abbrev Lists : Judge → ℕ → Type 0
Lists J n = (K : Stack) (h : ℕ) (b : Built) (c : Counts) (ws : List Word) → Accepts J (ask state_start ∷ ask states_more ∷ K) n h b c ws → StatesFound J K n h b c ws

-- A state has words, so that fewer are left.
fewer : (n : ℕ) {h : ℕ} (us vs : List Word) {s : State} → Is N.state_def h us (states (s ∷ [])) → length (us ++ vs) ≤ n → (m : ℕ) × (n ≡ suc m) × (length vs ≤ m)
fewer n [] vs i l = absurd (takes free i).heads
fewer zero (w ∷ us) vs i l = absurd (omega arith)
fewer (suc m) (w ∷ us) vs i l = let k = length-append us vs in (m, refl, omega arith)

list-by : (J : Judge) (n : ℕ) → ((m : ℕ) → n ≡ suc m → Lists J m) → Lists J n
unfolding counted_states
list-by J n ih K h b c ws a = go a.short (start J (ask states_more ∷ K) n h b c ws a)
  where
    go : {ws : List Word} → length ws ≤ n → StateFound J (ask states_more ∷ K) n h b c ws → StatesFound J K n h b c ws
    go l (a-state us vs s d i g a) = ends l (split J K n h (with_text b (stated b.text (s ∷ []))) d vs a)
      where
        longer : (m : ℕ) {ws : List Word} → n ≡ suc m → StatesFound J K m h (with_text b (stated b.text (s ∷ []))) d ws → StatesFound J K n h b c (us ++ ws)
        longer m e (all-states us₁ vs₁ k q ss d₁ j f g₁ a₁) =
            subst (StatesFound J K n h b c) (append_assoc us us₁ (sign k q ∷ vs₁))
            (all-states (us ++ us₁) vs₁ k q (s ∷ ss) d₁ (G.states-more i j) f (omega arith) (weaken e (subst (λ (y : Text). Accepts J K m h (with_text b y) d₁ vs₁) (stated-more b.text s ss) a₁)))

        next : {ws : List Word} → length (us ++ ws) ≤ n → Accepts J (ask state_start ∷ ask states_more ∷ K) n h (with_text b (stated b.text (s ∷ []))) d ws → StatesFound J K n h b c (us ++ ws)
        next {ws} l y =
            let f = fewer n us ws i l in
            longer f.0 f.1 (ih f.0 f.1 K h (with_text b (stated b.text (s ∷ []))) d ws (record { runs = y.runs; good = y.good; room = y.room; short = f.2; proper = y.proper }))

        ends : {vs : List Word} → length (us ++ vs) ≤ n → Accepts J (ask state_start ∷ ask states_more ∷ K) n h (with_text b (stated b.text (s ∷ []))) d vs
            ⊎ (Next period n (λ m vs. Accepts J K m h (with_text b (stated b.text (s ∷ []))) d vs) vs ⊎ Next end_word n (λ m vs. Accepts J K m h (with_text b (stated b.text (s ∷ []))) d vs) vs) → StatesFound J K n h b c (us ++ vs)
        ends l (inl y) = next l y
        ends l (inr (inl (at_sign_lem p vs z))) = all-states us vs period p (s ∷ []) d (G.states-one i) refl (omega arith) (weaken z.1 z.2)
        ends l (inr (inr (at_sign_lem p vs z))) = all-states us vs end_word p (s ∷ []) d (G.states-one i) refl (omega arith) (weaken z.1 z.2)

pub a-list : (J : Judge) (n : ℕ) → Lists J n
a-list J zero = list-by J zero (λ m e. absurd (omega arith))
a-list J (suc n) = list-by J (suc n) (λ m e. subst (Lists J) (omega arith) (a-list J n))
