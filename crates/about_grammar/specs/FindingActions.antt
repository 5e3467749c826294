-- What is found of actions in accepted words: a list of the grammar, at the end of the list that is open.
use Rattle.std.specs.Prelude.{List, [], ◌∷◌, ◌++◌, ◌⊎◌, ◌≡◌, ℕ, suc}
use Rattle.std.proofs.Common.{inl, inr, sym, subst, arith}
use Rattle.language.specs.Alternatives.{closing, lead, shut}
use Rattle.language.specs.Building.{Built, begin_list, joined, make_arm, make_if, make_when, with_lists}
use Rattle.language.specs.CountedWords.{counted_actions}
use Rattle.language.specs.Grammar as G
use Rattle.language.specs.Grammar.{Is}
use Rattle.language.specs.Kinds.{comma, do_word, else_word, end_if_word}
use Rattle.language.specs.Machine as M
use Rattle.language.specs.Machine.{Ask, Counts, ask, make, tallied}
use Rattle.language.specs.Notions as N
use Rattle.language.specs.Notions.{Section, actions, in_operation, in_state}
use Rattle.language.specs.SectionWays.{rule_of}
use Rattle.language.specs.Tree as T
use Rattle.language.specs.Tree.{Actions}
use Rattle.language.specs.Words.{Position, Word, sign}
use Rattle.about_grammar.specs.Accepting.{Accepts, AtSign, Judge, Leaves, Picks, at_sign_lem, chosen, weaken}
use Rattle.about_grammar.specs.Acting.{action_of, arms_of, back, if_rest_of, more_of}
use Rattle.about_grammar.specs.Conditionals.{joined-done}
use Rattle.about_grammar.specs.Courses.{Grown, Stack}

-- What is accepted behind a list, in at most n words.
abbrev pub After : Type 1
After = ℕ → Built → Counts → List Word → Type 0

-- A word of a kind, with what is accepted behind it in fewer words.
abbrev pub Next : ℕ → ℕ → (ℕ → List Word → Type 0) → List Word → Type 0
Next k n P ws = AtSign k (λ p vs. (m : ℕ) × (n ≡ suc m) × P m vs) ws

pub data ActsFound (J : Judge) (s : Section) (Q : After) (n h : ℕ) (b : Built) (l : Actions) (ls : List Actions) (c : Counts) : List Word → Type 0 where
  acts : (us vs : List Word) (a : Actions) (d : Counts) → Is (N.action_list s) h us (actions a) → Grown (counted_actions a) c d → Q n (with_lists b (joined l a ∷ ls)) d vs → ActsFound J s Q n h b l ls c (us ++ vs)

pub data RestFound (J : Judge) (s : Section) (Q : After) (n h : ℕ) (b : Built) (l : Actions) (ls : List Actions) (c : Counts) : List Word → Type 0 where
  rests : (us vs : List Word) (a : Actions) (d : Counts) → Is (N.rest s) h us (actions a) → Grown (counted_actions a) c d → Q n (with_lists b (joined l a ∷ ls)) d vs → RestFound J s Q n h b l ls c (us ++ vs)

pub data ArmsFound (J : Judge) (s : Section) (K : Stack) (n h : ℕ) (b : Built) (l : Actions) (ls : List Actions) (c : Counts) : List Word → Type 0 where
  arms : (us vs : List Word) (a : Actions) (d : Counts) → Is (N.more_arms s) h us (actions a) → Grown (counted_actions a) c d → Accepts J K n h (with_lists b (joined l a ∷ ls)) d vs → ArmsFound J s K n h b l ls c (us ++ vs)

-- A tail of lists: behind a comma one more action, or else what follows the list.
pub record TailOf (J : Judge) (s : Section) (t : Ask) (K : Stack) (h : ℕ) (Q : After) : Type 0 where
  pub split : (n : ℕ) (b : Built) (c : Counts) (ws : List Word) → Accepts J (ask t ∷ K) n h b c ws → Next comma n (λ m vs. Accepts J (ask (action_of s) ∷ ask t ∷ K) m h b c vs) ws ⊎ Q n b c ws
  pub weaken : (n m : ℕ) (b : Built) (c : Counts) (ws : List Word) → n ≡ suc m → Q m b c ws → Q n b c ws

pub record InvertsActs (J : Judge) (n : ℕ) : Type 1 where
  pub acts : (s : Section) (t : Ask) (K : Stack) (h : ℕ) (Q : After) → TailOf J s t K h Q → (b : Built) (c : Counts) (l : Actions) (ls : List Actions) (ws : List Word)
      → Accepts J (ask (action_of s) ∷ ask t ∷ K) n h (with_lists b (l ∷ ls)) c ws → ActsFound J s Q n h b l ls c ws
  pub arms : (s : Section) (K : Stack) (h : ℕ) (b : Built) (c : Counts) (l : Actions) (ls : List Actions) (ws : List Word)
      → Accepts J (ask (arms_of s) ∷ K) n h (with_lists b (l ∷ ls)) c ws → ArmsFound J s K n h b l ls c ws

-- ---- The tails, by where the actions stand.

pub more-split : (J : Judge) (s : Section) (K : Stack) (h n : ℕ) (b : Built) (c : Counts) (ws : List Word) → Accepts J (ask (more_of s) ∷ K) n h b c ws → Next comma n (λ m vs. Accepts J (ask (action_of s) ∷ ask (more_of s) ∷ K) m h b c vs) ws ⊎ Accepts J K n h b c ws
unfolding rule_of tallied
more-split J in_operation K h n b c ws x = go (chosen J M.operation_more ws x)
  where
    go : {ws : List Word} → Picks J (lead comma (ask M.operation_action ∷ ask M.operation_more ∷ []) ∷ []) K n h b c ws ⊎ Leaves J (M.may (λ p d. d)) K n h b c ws → Next comma n (λ m vs. Accepts J (ask M.operation_action ∷ ask M.operation_more ∷ K) m h b c vs) ws ⊎ Accepts J K n h b c ws
    go (inl (inl (at_sign_lem p vs z))) = inl (at_sign_lem p vs z)
    go (inr z) = inr z.1
    go (inl (inr x)) = elim x [ ]
more-split J in_state K h n b c ws x = go (chosen J M.state_more ws x)
  where
    go : {ws : List Word} → Picks J (lead comma (ask M.state_action ∷ ask M.state_more ∷ []) ∷ []) K n h b c ws ⊎ Leaves J (M.may (λ p d. d)) K n h b c ws → Next comma n (λ m vs. Accepts J (ask M.state_action ∷ ask M.state_more ∷ K) m h b c vs) ws ⊎ Accepts J K n h b c ws
    go (inl (inl (at_sign_lem p vs z))) = inl (at_sign_lem p vs z)
    go (inr z) = inr z.1
    go (inl (inr x)) = elim x [ ]

pub more-tail : (J : Judge) (s : Section) (K : Stack) (h : ℕ) → TailOf J s (more_of s) K h (λ n b c ws. Accepts J K n h b c ws)
more-tail J s K h = record { split = more-split J s K h; weaken = λ n m b c ws e x. weaken e x }

pub if-rest : (J : Judge) (s : Section) (K : Stack) (h n : ℕ) (b : Built) (c : Counts) (ws : List Word) → Accepts J (ask (if_rest_of s) ∷ K) n h b c ws
    → Next end_if_word n (λ m vs. Accepts J (make make_when ∷ K) m (suc h) b (back c) vs) ws ⊎ Next else_word n (λ m vs. Accepts J (make begin_list ∷ ask (action_of s) ∷ ask (more_of s) ∷ closing end_if_word ∷ make make_if ∷ K) m h b c vs) ws
unfolding rule_of tallied
if-rest J in_operation K h n b c ws x = go (chosen J M.operation_if_rest ws x)
  where
    go : {ws : List Word} → Picks J (shut end_if_word (make make_when ∷ []) ∷ lead else_word (make begin_list ∷ ask M.operation_action ∷ ask M.operation_more ∷ closing end_if_word ∷ make make_if ∷ []) ∷ []) K n h b c ws ⊎ Leaves J M.must K n h b c ws
        → Next end_if_word n (λ m vs. Accepts J (make make_when ∷ K) m (suc h) b (back c) vs) ws ⊎ Next else_word n (λ m vs. Accepts J (make begin_list ∷ ask M.operation_action ∷ ask M.operation_more ∷ closing end_if_word ∷ make make_if ∷ K) m h b c vs) ws
    go (inl (inl z)) = inl z
    go (inl (inr (inl z))) = inr z
    go (inl (inr (inr x))) = elim x [ ]
    go (inr x) = elim x [ ]
if-rest J in_state K h n b c ws x = go (chosen J M.state_if_rest ws x)
  where
    go : {ws : List Word} → Picks J (shut end_if_word (make make_when ∷ []) ∷ lead else_word (make begin_list ∷ ask M.state_action ∷ ask M.state_more ∷ closing end_if_word ∷ make make_if ∷ []) ∷ []) K n h b c ws ⊎ Leaves J M.must K n h b c ws
        → Next end_if_word n (λ m vs. Accepts J (make make_when ∷ K) m (suc h) b (back c) vs) ws ⊎ Next else_word n (λ m vs. Accepts J (make begin_list ∷ ask M.state_action ∷ ask M.state_more ∷ closing end_if_word ∷ make make_if ∷ K) m h b c vs) ws
    go (inl (inl z)) = inl z
    go (inl (inr (inl z))) = inr z
    go (inl (inr (inr x))) = elim x [ ]
    go (inr x) = elim x [ ]

pub arms-rest : (J : Judge) (s : Section) (K : Stack) (h n : ℕ) (b : Built) (c : Counts) (ws : List Word) → Accepts J (ask (arms_of s) ∷ K) n h b c ws
    → Next do_word n (λ m vs. Accepts J (make begin_list ∷ ask (action_of s) ∷ ask (more_of s) ∷ make make_arm ∷ ask (arms_of s) ∷ K) m h b c vs) ws ⊎ Accepts J K n h b c ws
unfolding rule_of tallied
arms-rest J in_operation K h n b c ws x = go (chosen J M.operation_arms ws x)
  where
    go : {ws : List Word} → Picks J (lead do_word (make begin_list ∷ ask M.operation_action ∷ ask M.operation_more ∷ make make_arm ∷ ask M.operation_arms ∷ []) ∷ []) K n h b c ws ⊎ Leaves J (M.may (λ p d. d)) K n h b c ws
        → Next do_word n (λ m vs. Accepts J (make begin_list ∷ ask M.operation_action ∷ ask M.operation_more ∷ make make_arm ∷ ask M.operation_arms ∷ K) m h b c vs) ws ⊎ Accepts J K n h b c ws
    go (inl (inl z)) = inl z
    go (inr z) = inr z.1
    go (inl (inr x)) = elim x [ ]
arms-rest J in_state K h n b c ws x = go (chosen J M.state_arms ws x)
  where
    go : {ws : List Word} → Picks J (lead do_word (make begin_list ∷ ask M.state_action ∷ ask M.state_more ∷ make make_arm ∷ ask M.state_arms ∷ []) ∷ []) K n h b c ws ⊎ Leaves J (M.may (λ p d. d)) K n h b c ws
        → Next do_word n (λ m vs. Accepts J (make begin_list ∷ ask M.state_action ∷ ask M.state_more ∷ make make_arm ∷ ask M.state_arms ∷ K) m h b c vs) ws ⊎ Accepts J K n h b c ws
    go (inl (inl z)) = inl z
    go (inr z) = inr z.1
    go (inl (inr x)) = elim x [ ]

-- ---- The rest of a list.

pub the_rest : {J : Judge} {s : Section} {t : Ask} {K : Stack} {h : ℕ} {Q : After} {n : ℕ} → InvertsActs J n → TailOf J s t K h Q → (b : Built) (c : Counts) (l : Actions) (ls : List Actions) (ws : List Word)
    → Accepts J (ask t ∷ K) n h (with_lists b (l ∷ ls)) c ws → RestFound J s Q n h b l ls c ws
unfolding counted_actions
the_rest {J} {s} {t} {K} {h} {Q} {n} r tail b c l ls ws x = go (tail.split n (with_lists b (l ∷ ls)) c ws x)
  where
    more : {p : Position} {ws : List Word} → ActsFound J s Q n h b l ls c ws → RestFound J s Q n h b l ls c (sign comma p ∷ ws)
    more {p} (acts us vs a d i g y) = rests (sign comma p ∷ us) vs a d (G.rest_more i) g y

    go : {ws : List Word} → Next comma n (λ m vs. Accepts J (ask (action_of s) ∷ ask t ∷ K) m h (with_lists b (l ∷ ls)) c vs) ws ⊎ Q n (with_lists b (l ∷ ls)) c ws → RestFound J s Q n h b l ls c ws
    go (inl (at_sign_lem p vs z)) = more (r.acts s t K h Q tail b c l ls vs (weaken z.1 z.2))
    go {ws} (inr q) = rests [] ws T.done c G.rest-none (omega arith) (subst (λ (x : Actions). Q n (with_lists b (x ∷ ls)) c ws) (sym (joined-done l)) q)
