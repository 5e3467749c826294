-- The machine takes the words of states and of the control section.
use Rattle.std.specs.Prelude.{Bool, false, cond, List, [], ◌∷◌, ◌++◌, map, ◌≡◌, refl, ℕ, length}
use Rattle.std.proofs.Common.{append_assoc, ◌∙◌, ap, subst, arith}
use Rattle.std.proofs.Math.Option.{Option, none}
use Rattle.language.specs.Alternatives.{followed, lead}
use Rattle.language.specs.Building.{Built, joined, list_no, with_lists, with_states, with_text}
use Rattle.language.specs.CountedWords.{counted_actions, counted_states}
use Rattle.language.specs.Declaring.{make_state, tree_steps}
use Rattle.language.specs.Kinds.{a_name, control_word, end_word, period, slash}
use Rattle.language.specs.Machine.{Ask, Counts, Reading, ask, choose, dollar_option, feed, make, more, reading, run, state_action, state_body, state_rest, state_start, states_more, stuck, tallied}
use Rattle.language.specs.Machine as M
use Rattle.language.specs.Notions.{first_place, in_state, state_of}
use Rattle.language.specs.SectionWays.{rule_of}
use Rattle.language.specs.Tree as T
use Rattle.language.specs.Tree.{Actions, Label, State, StateValue, Text}
use Rattle.language.specs.Words as W
use Rattle.language.specs.Words.{Position, Word, kind_of, sign}
use Rattle.about_grammar.specs.Acting.{Acting, Started, after_action, rest-tail}
use Rattle.about_grammar.specs.Conditionals.{rebuilt}
use Rattle.about_grammar.specs.Courses.{Ceiling, Comes, Stack, Under, ◌⊳◌, before, comes, runs, then-move, then-words, took_it}
use Rattle.about_grammar.specs.Declared.{BeforeControl, Ended, Ends, ending-kinds}
use Rattle.about_grammar.specs.Following.{Follows, among, among-within, within}
use Rattle.about_grammar.specs.Operators.{building, heads-on}
use Rattle.about_grammar.specs.Reaching.{Reaches, Space, amount, reaching}
use Rattle.about_grammar.specs.Stacks.{choose-append, choose-followed, choose-none, on, plain_ways}
use Rattle.about_grammar.specs.States.{Labelling, begun, body-acting, labelled, start-acting, unlabelled}
use Rattle.about_grammar.specs.Taking.{Heads, arriving}

abbrev pub stated : Text → List State → Text
stated t ss = record { registers = t.registers; memories = t.memories; terminals = t.terminals; operations = t.operations; states = t.states ++ ss }

pub stated-more : (t : Text) (s : State) (ss : List State) → stated (stated t (s ∷ [])) ss ≡ stated t (s ∷ ss)
stated-more t s ss = ap (λ (l : List State). record { registers = t.registers; memories = t.memories; terminals = t.terminals; operations = t.operations; states = l }) (append_assoc t.states (s ∷ []) ss)

abbrev ends : List ℕ
ends = period ∷ end_word ∷ []

-- The words of states, from the first one's start.
pub record Stated (C : Ceiling) (h : ℕ) (us : List Word) (ss : List State) : Type 0 where
  pub heads : Heads ends us
  pub takes : (K : Stack) (b : Built) (c : Counts) → Space C.top c (amount 0 0 (length ss) (counted_states ss)) h
      → Reaches C [] (ask state_start ∷ K) b c us K (with_text b (stated b.text ss)) (amount 0 0 (length ss) (counted_states ss))

-- ---- One state.

module _ {C : Ceiling} {K : Stack} {b : Built} {c : Counts} {p : Position} where
  slash-first : Under C.top (more M.state c) → Comes C [] (ask state_start ∷ K) (reading b c) (sign slash p ∷ []) (make make_state ∷ K) (reading (begun p b) (more M.state c))
  unfolding run feed choose rule_of tallied
  slash-first u = comes (λ ws end _. took_it C _ _ _ _ u _)

  slash-body : Under C.top c → Comes C [] (ask state_body ∷ K) (reading b c) (sign slash p ∷ []) (make make_state ∷ K) (reading (with_lists b (T.done ∷ b.lists)) c)
  unfolding run feed choose rule_of tallied
  slash-body u = comes (λ ws end _. took_it C _ _ _ _ u _)

  slash-rest : Under C.top c → Comes C [] (ask state_rest ∷ K) (reading b c) (sign slash p ∷ []) (make make_state ∷ K) (reading b c)
  unfolding run feed choose rule_of tallied
  slash-rest u = comes (λ ws end _. took_it C _ _ _ _ u _)

pub state-idle : {C : Ceiling} {h : ℕ} {us : List Word} {l : Option Label} {v : Option StateValue} (p : Position) → Labelling C h us l v
    → Stated C h (us ++ sign slash p ∷ []) (state_of (first_place us p) l v T.done ∷ [])
unfolding among counted_states counted_actions list_no
state-idle p unlabelled = record {
  heads = refl;
  takes = λ K b c space. record { counts = more M.state c; gained = omega arith; comes = then-move (slash-first (omega arith)) (building (λ _. refl)) };
}
state-idle p (labelled x) = record {
  heads = refl;
  takes = λ K b c space.
      reaching (x K b c (omega arith)) λ d g m.
      record { counts = d; gained = omega arith; comes = then-words m (then-move (slash-body (omega arith)) (building (λ _. refl))) };
}

-- Actions begin a state.
begins-with : (us : List Word) → ((vs : List Word) → Follows after_action vs → Started (us ++ vs)) → Heads ends us
unfolding among within
begins-with [] f = absurd (subst (λ (b : Bool). cond b (Unit {0}) ⊥) (f (sign slash (record { place = 0 }) ∷ []) refl) tt)
begins-with (W.name n p ∷ us) f = refl
begins-with (W.constant n p ∷ us) f = absurd (f [] tt)
begins-with (W.sign k p ∷ us) f = among-within k ends (slash ∷ a_name ∷ period ∷ end_word ∷ []) refl (f [] tt)

module _ {C : Ceiling} {K : Stack} {b : Built} {c : Counts} where
  acting-first : (us : List Word) → ((vs : List Word) → Follows after_action vs → Started (us ++ vs)) → Under C.top (more M.state c) → (p : Position) {L : Stack} {q : Reading Built}
      → Comes C after_action (ask state_action ∷ ask state_rest ∷ K) (reading (begun (first_place us p) b) (more M.state c)) us L q → Comes C after_action (ask state_start ∷ K) (reading b c) us L q
  acting-first [] f u p x = absurd (begins-with [] f)
  acting-first (w ∷ us) f u p x = comes (λ vs end g. start-acting C K b c w (us ++ vs) (f vs g) u end ∙ x.course vs end g)

  acting-body : (us : List Word) → ((vs : List Word) → Follows after_action vs → Started (us ++ vs)) → {L : Stack} {q : Reading Built}
      → Comes C after_action (ask state_action ∷ ask state_rest ∷ K) (reading (with_lists b (T.done ∷ b.lists)) c) us L q → Comes C after_action (ask state_body ∷ K) (reading b c) us L q
  acting-body [] f x = absurd (begins-with [] f)
  acting-body (w ∷ us) f x = comes (λ vs end g. body-acting C K b c w (us ++ vs) (f vs g) end ∙ x.course vs end g)

pub state-acting : {C : Ceiling} {h : ℕ} {us vs : List Word} {l : Option Label} {v : Option StateValue} (p : Position) {a : Actions} → Labelling C h us l v → Acting C in_state h vs a
    → Stated C h (us ++ (vs ++ sign slash p ∷ [])) (state_of (first_place (us ++ vs) p) l v a ∷ [])
unfolding among counted_states joined list_no
state-acting {C} {vs = vs} p {a} unlabelled y = record {
  heads = heads-on ends vs (sign slash p ∷ []) (begins-with vs y.starts);
  takes = λ K b c space.
      arriving (y.takes (rest-tail C) K (with_states b (state_of (first_place vs p) none none T.done ∷ b.states)) (more M.state c) T.done b.lists (omega arith)) λ d g m.
      record { counts = d; gained = omega arith; comes = before (acting-first vs y.starts (omega arith) p m) (λ ws _. refl) (then-move (slash-rest (omega arith)) (building (λ _. refl))) };
}
state-acting {C} {vs = vs} {l} {v} p {a} (labelled {p = q} x) y = record {
  heads = refl;
  takes = λ K b c space.
      reaching (x K b c (omega arith)) λ d g m.
      arriving (y.takes (rest-tail C) K (with_states b (state_of q l v T.done ∷ b.states)) d T.done b.lists (omega arith)) λ d₁ g₁ m₁.
      record { counts = d₁; gained = omega arith; comes = then-words m (before (acting-body vs y.starts m₁) (λ ws _. refl) (then-move (slash-rest (omega arith)) (building (λ _. refl)))) };
}

-- ---- All states, and the section.

-- One more state begins as the first does.
more-states : (C : Ceiling) (K : Stack) (r : Reading Built) (w : Word) → among (kind_of w) ends ≡ false → (vs : List Word) (end : ℕ)
    → runs C (ask states_more ∷ K) (w ∷ vs) end r ≡ runs C (ask state_start ∷ ask states_more ∷ K) (w ∷ vs) end r
unfolding run feed rule_of plain_ways on
more-states C K r w f vs end =
    let ways = (rule_of tree_steps state_start).ways in
    let o = stuck tree_steps C.fits w in
    let two = lead period [] ∷ lead end_word [] ∷ [] in
    ap (on tree_steps C.fits (rule_of tree_steps) vs end)
    (choose-append tree_steps C.fits (map (followed (ask states_more ∷ [])) ways) two w K r o
    ∙ ap (choose tree_steps C.fits (map (followed (ask states_more ∷ [])) ways) w K r) (choose-none tree_steps C.fits two w f K r o)
    ∙ choose-followed tree_steps C.fits (ask states_more ∷ []) ways refl w K r o)

acting-more : {C : Ceiling} (us : List Word) → Heads ends us → {K : Stack} {r : Reading Built} {ks : List ℕ} {L : Stack} {q : Reading Built}
    → Comes C ks (ask state_start ∷ ask states_more ∷ K) r us L q → Comes C ks (ask states_more ∷ K) r us L q
acting-more [] f x = absurd f
acting-more {C} (w ∷ us) f {K} {r} x = comes (λ vs end g. more-states C K r w f (us ++ vs) end ∙ x.course vs end g)

pub record StatesListed (C : Ceiling) (h : ℕ) (us : List Word) (ss : List State) : Type 0 where
  pub heads : Heads ends us
  pub takes : (K : Stack) (b : Built) (c : Counts) → Space C.top c (amount 0 0 (length ss) (counted_states ss)) h
      → Reaches C [] (ask state_start ∷ ask states_more ∷ K) b c us (ask states_more ∷ K) (with_text b (stated b.text ss)) (amount 0 0 (length ss) (counted_states ss))

pub states-one : {C : Ceiling} {h : ℕ} {us : List Word} {s : State} → Stated C h us (s ∷ []) → StatesListed C h us (s ∷ [])
states-one x = record { heads = x.heads; takes = λ K b c space. x.takes (ask states_more ∷ K) b c space }

pub states-more : {C : Ceiling} {h : ℕ} {us vs : List Word} {s : State} {ss : List State} → Stated C h us (s ∷ []) → StatesListed C h vs ss → StatesListed C h (us ++ vs) (s ∷ ss)
unfolding counted_states
states-more {us = us} {vs} {s} {ss} x y = record {
  heads = heads-on ends us vs x.heads;
  takes = λ K b c space.
      reaching (x.takes (ask states_more ∷ K) b c (omega arith)) λ d g m.
      reaching (y.takes K (with_text b (stated b.text (s ∷ []))) d (omega arith)) λ d₁ i l.
      record { counts = d₁; gained = omega arith; comes = then-words m (rebuilt (ap (with_text b) (stated-more b.text s ss)) (acting-more vs y.heads l)) };
}

states-end : (C : Ceiling) → Ends C states_more []
unfolding run feed choose rule_of tallied
states-end C = record { by = λ k e {K} {b} {c} {p} u. ending-kinds (λ k. Comes C [] (ask states_more ∷ K) (reading b c) (sign k p ∷ []) K (reading b c)) (comes (λ ws end _. took_it C _ _ _ _ u _)) (comes (λ ws end _. took_it C _ _ _ _ u _)) k e }

pub record Controlled (C : Ceiling) (h : ℕ) (us : List Word) (ss : List State) : Type 0 where
  pub takes : {a : Ask} → BeforeControl C a → (K : Stack) (b : Built) (c : Counts) → Space C.top c (amount 0 0 (length ss) (counted_states ss)) h
      → Reaches C [] (ask a ∷ K) b c us (ask dollar_option ∷ K) (with_text b (stated b.text ss)) (amount 0 0 (length ss) (counted_states ss))

pub control-section : {C : Ceiling} {h : ℕ} {us vs : List Word} {p : Position} {ss : List State} → StatesListed C h us ss → Ended C vs → Controlled C h (sign control_word p ∷ (us ++ vs)) ss
control-section {C} {ss = ss} x e = record {
  takes = λ a K b c space.
      reaching (x.takes (ask dollar_option ∷ K) b c (omega arith)) λ d g m.
      record { counts = d; gained = g; comes = a.to (omega arith) ⊳ then-words m (e.takes (states-end C) (ask dollar_option ∷ K) (with_text b (stated b.text ss)) d (omega arith)) };
}
