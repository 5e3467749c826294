-- How a state begins: its label, or its first action, which the machine reads as any action behind the steps that begin a state.
use Rattle.std.specs.Prelude.{Bool, true, ◌≡◌, ℕ, suc}
use mathlib.Core.List.{List, [], ◌∷◌}
use Rattle.std.proofs.Math.Option.{Option, none, some}
use Rattle.std.proofs.Common.{◌∙◌, arith}
use Rattle.std.proofs.Math.Path.{ap, sym, refl}
use Rattle.std.proofs.Math.ListN.{drop, take}
use Rattle.language.specs.Alternatives.{closing, plain_word}
use Rattle.language.specs.Building.{Built, keep_word, with_lists, with_states, word_no}
use Rattle.language.specs.Declaring.{begin_labelled, begin_valued, tree_steps}
use Rattle.language.specs.Kinds.{a_constant, a_name, close_paren, colon, end_word, open_paren, period, slash}
use Rattle.language.specs.Machine.{Counts, ask, choose, feed, finish, first_name, keep, leave, make, more, reading, run, state, state_action, state_body, state_name, state_rest, state_start, stuck, tallied}
use Rattle.language.specs.Notions.{state_of}
use Rattle.language.specs.SectionWays.{rule_of}
use Rattle.language.specs.Tree as T
use Rattle.language.specs.Tree.{Label, Name, StateValue}
use Rattle.language.specs.Words as W
use Rattle.language.specs.Words.{Constant, Position, Word, sign, word_at}
use Rattle.about_grammar.specs.Acting.{Started, back, deeper}
use Rattle.about_grammar.specs.Courses.{Ceiling, Comes, Stack, Under, ◌⊳◌, comes, runs, then-move, took_it}
use Rattle.about_grammar.specs.Following.{Follows, among, among-within, within}
use Rattle.about_grammar.specs.Operations.{plain_word_lem}
use Rattle.about_grammar.specs.Operators.{building}
use Rattle.about_grammar.specs.Reaching.{Reaches, Space, amount}
use Rattle.about_grammar.specs.Stacks.{choose-append, choose-none, on}
use Rattle.about_grammar.specs.Terms.{closing-word}

-- ---- Labels.

pub data Labelling (C : Ceiling) (h : ℕ) : List Word → Option Label → Option StateValue → Type 0 where
  unlabelled : Labelling C h [] none none
  labelled : {n : Name} {p : Position} {us : List Word} {l : Option Label} {v : Option StateValue}
      → ((K : Stack) (b : Built) (c : Counts) → Space C.top c (amount 0 0 1 0) h
      → Reaches C [] (ask state_start ∷ K) b c (W.name n p ∷ us) (ask state_body ∷ K) (with_states b (state_of p l v T.done ∷ b.states)) (amount 0 0 1 0))
      → Labelling C h (W.name n p ∷ us) l v

module _ {C : Ceiling} {K : Stack} {b : Built} {c : Counts} {n : Name} {p : Position} where
  first-name : Under C.top (more state c) → Comes C [] (ask state_start ∷ K) (reading b c) (W.name n p ∷ []) (ask first_name ∷ ask state_rest ∷ K) (reading (keep_word (W.name n p) b) (more state c))
  unfolding run feed choose rule_of tallied
  first-name u = comes (λ ws end _. took_it C _ _ _ _ u _)

pub plain_label : {C : Ceiling} {h : ℕ} {n : Name} {p q : Position} → Labelling C h (W.name n p ∷ sign colon q ∷ []) (some (record { name = n; at = p })) none
unfolding run feed choose rule_of tallied word_no
plain_label {C} {h} {n} {p} {q} = labelled go
  where
    eat : (K : Stack) (b : Built) (c : Counts) → Under C.top c → Comes C [] (ask first_name ∷ ask state_rest ∷ K) (reading b c) (sign colon q ∷ []) (make begin_labelled ∷ ask state_body ∷ K) (reading b c)
    eat K b c u = comes (λ ws end _. took_it C _ _ _ _ u _)

    go : (K : Stack) (b : Built) (c : Counts) → Space C.top c (amount 0 0 1 0) h
        → Reaches C [] (ask state_start ∷ K) b c (W.name n p ∷ sign colon q ∷ []) (ask state_body ∷ K) (with_states b (state_of p (some (record { name = n; at = p })) none T.done ∷ b.states)) (amount 0 0 1 0)
    go K b c space = record {
      counts = more state c;
      gained = omega arith;
      comes = first-name (omega arith) ⊳ then-move (eat K (keep_word (W.name n p) b) (more state c) (omega arith)) (building (λ _. refl));
    }

pub label-with-value : {C : Ceiling} {h : ℕ} {n : Name} {x : Constant} {p q r s t : Position}
    → Labelling C (suc h) (W.name n p ∷ sign open_paren q ∷ W.constant x r ∷ sign close_paren s ∷ sign colon t ∷ []) (some (record { name = n; at = p })) (some (record { constant = x; at = r }))
unfolding run feed choose rule_of tallied word_no
label-with-value {C} {h} {n} {x} {p} {q} {r} {s} {t} = labelled go
  where
    eat : (K : Stack) (b : Built) (c : Counts) → Under C.top (deeper c) → Comes C [] (ask first_name ∷ ask state_rest ∷ K) (reading b c) (sign open_paren q ∷ []) (keep a_constant ∷ closing close_paren ∷ plain_word colon ∷ make begin_valued ∷ ask state_body ∷ K) (reading b (deeper c))
    eat K b c u = comes (λ ws end _. took_it C _ _ _ _ u _)

    kept : (K : Stack) (b : Built) (c : Counts) → Comes C [] (keep a_constant ∷ K) (reading b c) (W.constant x r ∷ []) K (reading (keep_word (W.constant x r) b) c)
    kept K b c = comes (λ ws end _. refl)

    go : (K : Stack) (b : Built) (c : Counts) → Space C.top c (amount 0 0 1 0) (suc h)
        → Reaches C [] (ask state_start ∷ K) b c (W.name n p ∷ sign open_paren q ∷ W.constant x r ∷ sign close_paren s ∷ sign colon t ∷ []) (ask state_body ∷ K) (with_states b (state_of p (some (record { name = n; at = p })) (some (record { constant = x; at = r })) T.done ∷ b.states)) (amount 0 0 1 0)
    go K b c space = record {
      counts = back (deeper (more state c));
      gained = omega arith;
      comes =
          first-name (omega arith) ⊳ eat K (keep_word (W.name n p) b) (more state c) (omega arith) ⊳ kept (closing close_paren ∷ plain_word colon ∷ make begin_valued ∷ ask state_body ∷ K) (keep_word (W.name n p) b) (deeper (more state c))
          ⊳ closing-word (omega arith) ⊳ then-move (plain_word_lem (omega arith)) (building (λ _. refl));
    }

-- ---- The first action.

pub all_there : within (a_name ∷ slash ∷ []) (slash ∷ a_name ∷ period ∷ end_word ∷ []) ≡ true
unfolding within among
all_there = refl

pub name-there : within (a_name ∷ []) (slash ∷ a_name ∷ period ∷ end_word ∷ []) ≡ true
unfolding within among
name-there = refl

pub slash-there : within (slash ∷ []) (slash ∷ a_name ∷ period ∷ end_word ∷ []) ≡ true
unfolding within among
slash-there = refl

-- A state begins at this place, without a label, and its list is open.
abbrev pub begun : Position → Built → Built
begun p b = with_lists (with_states b (state_of p none none T.done ∷ b.states)) (T.done ∷ b.lists)

module _ (fits : Counts → Bool) (K : Stack) (b : Built) (c : Counts) where
  -- Behind a state's first word that is a name, and no label.
  pub named_start : (n : Name) (p : Position) (vs : List Word) → Follows (colon ∷ open_paren ∷ []) vs → (end : ℕ)
      → run tree_steps fits (rule_of tree_steps) (ask first_name ∷ K) vs end (reading (keep_word (W.name n p) b) c) ≡ run tree_steps fits (rule_of tree_steps) (ask state_name ∷ K) vs end (reading (keep_word (W.name n p) (begun p b)) c)
  unfolding run feed finish choose rule_of tallied word_no on
  named_start n p [] f end = refl
  named_start n p (w ∷ vs) f end =
      let early = take 2 (rule_of tree_steps first_name).ways in
      let late = drop 2 (rule_of tree_steps first_name).ways in
      let r = reading (keep_word (W.name n p) b) c in
      let o = leave tree_steps fits (rule_of tree_steps first_name).without w r (λ q. feed tree_steps fits (rule_of tree_steps) K w q) in
      ap (on tree_steps fits (rule_of tree_steps) vs end) (choose-append tree_steps fits early late w K r o ∙ choose-none tree_steps fits early w f K r (choose tree_steps fits late w K r o))

module _ (C : Ceiling) (K : Stack) (b : Built) (c : Counts) where
  pub start-acting : (w : Word) (vs : List Word) → Started (w ∷ vs) → Under C.top (more state c) → (end : ℕ)
      → runs C (ask state_start ∷ K) (w ∷ vs) end (reading b c) ≡ runs C (ask state_action ∷ ask state_rest ∷ K) (w ∷ vs) end (reading (begun (word_at w) b) (more state c))
  unfolding run feed choose rule_of tallied on
  start-acting (W.name n p) vs s u end =
      took_it C p (ask first_name ∷ ask state_rest ∷ K) (keep_word (W.name n p) b) (more state c) u (λ L q. runs C L vs end q)
      ∙ named_start C.fits (ask state_rest ∷ K) b (more state c) n p vs s end
      ∙ sym (took_it C p (ask state_name ∷ ask state_rest ∷ K) (keep_word (W.name n p) (begun p b)) (more state c) u (λ L q. runs C L vs end q))
  start-acting (W.constant n p) vs s u end = absurd s
  start-acting (W.sign k p) vs s u end =
      let early = take 2 (rule_of tree_steps state_start).ways in
      let late = drop 2 (rule_of tree_steps state_start).ways in
      let o = stuck tree_steps C.fits (sign k p) in
      let r = reading (begun p b) (more state c) in
      ap (on tree_steps C.fits (rule_of tree_steps) vs end)
      (choose-append tree_steps C.fits early late (sign k p) K (reading b c) o
      ∙ choose-none tree_steps C.fits early (sign k p) (among-within k (a_name ∷ slash ∷ []) (slash ∷ a_name ∷ period ∷ end_word ∷ []) (all_there) s) K (reading b c) (choose tree_steps C.fits late (sign k p) K (reading b c) o)
      ∙ sym (choose-append tree_steps C.fits (take 1 (rule_of tree_steps state_action).ways) (drop 1 (rule_of tree_steps state_action).ways) (sign k p) (ask state_rest ∷ K) r o
      ∙ choose-none tree_steps C.fits (take 1 (rule_of tree_steps state_action).ways) (sign k p) (among-within k (a_name ∷ []) (slash ∷ a_name ∷ period ∷ end_word ∷ []) name-there s) (ask state_rest ∷ K) r (choose tree_steps C.fits (drop 1 (rule_of tree_steps state_action).ways) (sign k p) (ask state_rest ∷ K) r o)))

  pub body-acting : (w : Word) (vs : List Word) → Started (w ∷ vs) → (end : ℕ)
      → runs C (ask state_body ∷ K) (w ∷ vs) end (reading b c) ≡ runs C (ask state_action ∷ ask state_rest ∷ K) (w ∷ vs) end (reading (with_lists b (T.done ∷ b.lists)) c)
  unfolding run feed choose rule_of tallied on
  body-acting (W.name n p) vs s end = refl
  body-acting (W.constant n p) vs s end = absurd s
  body-acting (W.sign k p) vs s end =
      let early = take 1 (rule_of tree_steps state_body).ways in
      let late = drop 1 (rule_of tree_steps state_body).ways in
      let o = stuck tree_steps C.fits (sign k p) in
      ap (on tree_steps C.fits (rule_of tree_steps) vs end)
      (choose-append tree_steps C.fits early late (sign k p) K (reading b c) o
      ∙ choose-none tree_steps C.fits early (sign k p) (among-within k (slash ∷ []) (slash ∷ a_name ∷ period ∷ end_word ∷ []) slash-there s) K (reading b c) (choose tree_steps C.fits late (sign k p) K (reading b c) o))
