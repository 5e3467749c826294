-- What is reached within an action, word by word and expression by expression, and the action's record at its end.
use mathlib.Core.Bool.{true, false}
use mathlib.Core.List.{List, [], ◌∷◌, ◌++◌, append-nil}
use mathlib.Core.Path.{◌≡◌, refl, sym, ap, ◌∙◌, subst}
use Prim.Native.Nat.{ℕ, ◌+◌, ◌≤◌}
use native.Mathlib.Omega.{arith}
use Rattle.parse_step.proofs.Ceilings.{few-counted}
use Rattle.parse_step.proofs.Paying.{counted-comes, pays-on, pays-refl, took-comes}
use Rattle.parse_step.specs.declared.Bearing.TheVariants.{Level}
use Rattle.parse_step.specs.declared.Reached as W
use Rattle.parse_step.specs.declared.State.{State}
use Rattle.parse_step.specs.Course.{Seen, Stack, counts_of, runs}
use Rattle.parse_step.specs.Gained.{with_action_count}
use Rattle.parse_step.specs.Pays.{Comes, Pays}
use Rattle.parse_step.specs.Says.{Here, Read}
use Rattle.parse_step.specs.Taken.{Took, after_word}
use Rattle.language.specs.Building.{Built}
use Rattle.language.specs.Describe.{Noted, act, actions_in, actions_of, expression_size, expressions_in, nodes_in, nodes_of}
use Rattle.language.specs.Description as D
use Rattle.language.specs.Encode.{action_bytes, concat}
use Rattle.language.specs.Machine.{Counts, within_ceilings}
use Rattle.language.specs.Naming.{Scope}
use Rattle.language.specs.Tree.{Actions}
use Rattle.parse_tables.specs.declared.meaning.KnownNames as M
use Rattle.parse_tables.specs.Known.{Known}
use Rattle.judge_records.specs.Noted.{place_bytes}
use Rattle.parse_tables.proofs.NamesGrown.{facilities-other}
use Rattle.parse_tables.specs.Actions.{ActionAdded}
use Rattle.parse_tables.specs.declared.Table.TheVariants as Tb
use Rattle.text_words.specs.declared.Position.{Position}
use Rattle.text_words.specs.declared.Word.{Word}
use Rattle.text_words.specs.Meaning.{positioned}
use Rattle.parse_array.proofs.NodesAdded.{nodes-append}
use Rattle.parse_array.proofs.Regions.{same-held}
use Rattle.parse_array.specs.Held.{Held, held, other_in, with_nodes}
use Rattle.parse_array.specs.Layout.{most_nodes}
use Rattle.parse_stores.proofs.Keeping.{front_kept, known_kept, others-other, whole-other}
use Rattle.parse_tables.proofs.RowLaws.{rows_other}
use Rattle.parse_stores.proofs.Standings.{few-states, standing-after, within_more}
use Rattle.parse_stores.specs.Actions.{Paid, Standing, Written, front_of, grown}
use Rattle.parse_stores.specs.Leaves.{Puts}
use Rattle.parse_stores.specs.Reached.{Ended, Ends, Reached}
use Rattle.parse_step.specs.Answers.{Answer}
use Rattle.std.specs.Prelude.{Ok}

pub nodes-none : (h : Held) → with_nodes h [] ≡ h
unfolding with_nodes concat
nodes-none h = same-held (append-nil h.nodes) (append-nil h.places) refl

-- The records in front, of what is held.
pub front-held : (n m : ℕ) (w w' : List ℕ) (ns : List Noted) → held m w' ≡ with_nodes (held n w) ns → front_of m w' ≡ with_nodes (front_of n w) ns
unfolding front_of with_nodes
front-held n m w w' ns e = ap (λ (h : Held). record { nodes = h.nodes; places = h.places; other = [] }) e

pub other-held : (n m : ℕ) (w w' : List ℕ) (ns : List Noted) → held m w' ≡ with_nodes (held n w) ns → other_in w' ≡ other_in w
unfolding held with_nodes
other-held n m w w' ns e = ap (λ (h : Held). h.other) e

pub reached-as : {text : List ℕ} {sc : Scope} {more pay size size' : ℕ} {ns ns' : List Noted} {s : State} {work : List ℕ} {w₁ : Word} {s₁ : State} {work₁ : List ℕ}
    → Reached text sc more pay ns size s work w₁ s₁ work₁ → ns ≡ ns' → size ≡ size' → Reached text sc more pay ns' size' s work w₁ s₁ work₁
reached-as {s = s} {work} x e f = record {
  seen = x.seen;
  pays = x.pays;
  counted = x.counted;
  nesting = x.nesting;
  held = x.held ∙ ap (with_nodes (held s.nodes work)) e;
  nodes = x.nodes ∙ ap (λ (m : ℕ). s.nodes + m) f;
}

-- More may be owed.
pub cheaper : {text : List ℕ} {sc : Scope} {more pay size : ℕ} {ns : List Noted} {s : State} {work : List ℕ} {w₁ : Word} {s₁ : State} {work₁ : List ℕ} → Reached text sc more pay ns size s work w₁ s₁ work₁
    → {owed : ℕ} → pay ≤ owed → Reached text sc more owed ns size s work w₁ s₁ work₁
cheaper {s₁ = s₁} x h = record {
  seen = x.seen;
  pays = pays-on x.pays (pays-refl s₁) (omega (arith, h));
  counted = x.counted;
  nesting = x.nesting;
  held = x.held;
  nodes = x.nodes;
}

module _ {text : List ℕ} {sc : Scope} {n : M.KnownNames} {w : Word} {s : State} {acts : ℕ} {work : List ℕ} (st : Standing text sc n w s acts work) where
  pub start-reached : Reached text sc 0 0 [] 0 s work w s work
  start-reached = record {
    seen = st.seen;
    pays = pays-refl s;
    counted = omega arith;
    nesting = refl;
    held = sym (nodes-none (held s.nodes work));
    nodes = omega arith;
  }

  module _ {more pay : ℕ} {ns : List Noted} {size : ℕ} {w₁ : Word} {s₁ : State} {work₁ : List ℕ} (x : Reached text sc more pay ns size s work w₁ s₁ work₁) where
    other-reached : other_in work₁ ≡ other_in work
    other-reached = other-held s.nodes s₁.nodes work work₁ ns x.held

    pub here-reached : Here text sc w₁ s₁ work₁
    here-reached = record {
      seen = x.seen;
      names = st.known.facilities ∙ rw (st.facilities, ← facilities-other text work work₁ other-reached s.known, x.pays.known);
    }

    pub known-reached : Known text sc n work₁
    known-reached = known_kept work₁ (others-other work work₁ other-reached) st.known

    few : s₁.counted ≤ 2048
    few = x.pays.ceiling (few-counted (counts_of s) st.within)

    pub within-reached : within_ceilings (counts_of s₁) ≡ true
    within-reached = within_more (counts_of s) (counts_of s₁) st.within x.pays.facilities x.pays.operations x.pays.states few x.nesting

    -- There is room for what is not yet paid for.
    pub room-reached : {p : ℕ} {s₂ : State} → pay + p ≤ 15 → Pays p 0 s₁ s₂ → most_nodes ≤ s₂.nodes → ⊥
    room-reached h y m = omega (arith, x.pays.nodes, y.nodes, st.nodes, few-states (counts_of s) st.within, few, y.ceiling few, h, m)

    module _ {a : Answer} {a' : W.Reached} (d : a ≡ Ok a') where
      -- A word that is not counted, and one that is: it pays for what was written before it.
      pub passed-reached : Took text w₁ (after_word false Level s₁) s₁ a → Reached text sc more pay ns size s work a'.next a'.state work₁
      passed-reached t = let p = t.done d in let c = took-comes t d x.seen in record {
        seen = c.seen;
        pays = pays-on x.pays c.pays (omega arith);
        counted = omega (arith, x.counted, c.pays.counted);
        nesting = ap (λ (v : Counts). v.nesting) p.counts ∙ x.nesting;
        held = ap (λ (m : ℕ). held m work₁) p.kept.nodes ∙ x.held;
        nodes = p.kept.nodes ∙ x.nodes;
      }

      pub counted-reached : pay ≤ 7 → Took text w₁ (after_word true Level s₁) s₁ a → Reached text sc 1 0 ns size s work a'.next a'.state work₁
      counted-reached h t = let p = t.done d in let c = counted-comes t d x.seen in record {
        seen = c.seen;
        pays = pays-on x.pays c.pays (omega (arith, h));
        counted = omega (arith, x.counted, ap (λ (v : Counts). v.counted) p.counts);
        nesting = ap (λ (v : Counts). v.nesting) p.counts ∙ x.nesting;
        held = ap (λ (m : ℕ). held m work₁) p.kept.nodes ∙ x.held;
        nodes = p.kept.nodes ∙ x.nodes;
      }

    -- An expression.
    pub read-reached : {p : ℕ} {P : Stack} {pre : Built → Built} {r : W.Reached} {work₂ : List ℕ} → (y : Read text sc P [] pre (held s₁.nodes work₁) s₁.nodes s₁.nesting w₁ s₁ r work₂) → Comes text p 1 s₁ r.next r.state
        → Reached text sc more (pay + p) (ns ++ nodes_of sc s₁.nodes y.tree) (size + expression_size y.tree) s work r.next r.state work₂
    read-reached y c = record {
      seen = c.seen;
      pays = pays-on x.pays c.pays (omega arith);
      counted = omega (arith, x.counted, c.pays.counted);
      nesting = y.nesting ∙ x.nesting;
      held = y.pending.records ∙ ap (λ (h : Held). with_nodes h (nodes_of sc s₁.nodes y.tree)) x.held ∙ sym (nodes-append (held s.nodes work) ns (nodes_of sc s₁.nodes y.tree));
      nodes = omega (arith, y.pending.nodes, x.nodes);
    }

  -- ---- Where all is paid for, reading stands there.

  pub standing-reached : {more : ℕ} {ns : List Noted} {size : ℕ} {w₁ : Word} {s₁ : State} {work₁ : List ℕ} → Reached text sc more 0 ns size s work w₁ s₁ work₁ → Standing text sc n w₁ s₁ acts work₁
  standing-reached {work₁ = work₁} x = record {
    seen = x.seen;
    short = st.short;
    whole = whole-other work work₁ (other-reached x) st.whole;
    within = within-reached x;
    known = known-reached x;
    facilities = st.facilities ∙ sym x.pays.known;
    nodes = omega (arith, st.nodes, x.pays.nodes, x.pays.states);
    actions = omega (arith, st.actions, x.pays.counted);
  }

  pub standing-read : {P : Stack} {pre : Built → Built} {r : W.Reached} {work₁ : List ℕ} → Read text sc P [] pre (held s.nodes work) s.nodes s.nesting w s r work₁ → Comes text 0 1 s r.next r.state
      → Standing text sc n r.next r.state acts work₁
  standing-read y c = standing-reached (read-reached start-reached y c)

-- ---- The record of the action.

module _ {text : List ℕ} {sc : Scope} {n : M.KnownNames} {w : Word} {s : State} {work : List ℕ} (st : Standing text sc n w s s.actions work)
    {ns : List Noted} {size : ℕ} {w₁ : Word} {s₁ : State} {work₁ : List ℕ} (x : Reached text sc 1 0 ns size s work w₁ s₁ work₁) {a : D.Action} {at : Position} {work₂ : List ℕ} {r : Answer} (y : Puts a at w₁ s₁ work₁ work₂ r)
    (t : Actions) (e₁ : expressions_in t ≡ size) (e₂ : nodes_in sc s.nodes t ≡ ns) (e₃ : actions_in t ≡ 1) (e₄ : actions_of sc s.nodes t ≡ act a (positioned at) ∷ []) where
  abbrev after : State
  after = with_action_count s₁ (s₁.actions + 1)

  other : other_in work₁ ≡ other_in work
  other = other-reached st x

  put_written : ActionAdded s₁.actions a at work₁ work₂ true → Written sc t s work after work₂
  unfolding concat
  put_written z = record {
    nodes = x.nodes ∙ ap (λ (m : ℕ). s.nodes + m) (sym e₁);
    expressions =
        front_kept work₁ work₂ (whole-other work work₁ other st.whole) y.whole (z.kept refl).front s₁.nodes (omega (arith, x.pays.nodes, st.nodes, few-states (counts_of s) st.within, few st x))
        ∙ front-held s.nodes s₁.nodes work work₁ ns x.held ∙ ap (with_nodes (front_of s.nodes work)) (sym e₂);
    count = omega (arith, e₃, x.pays.actions);
    records = z.records refl ∙ rw (rows_other work work₁ other Tb.Actions s₁.actions, x.pays.actions, e₄, append-nil (action_bytes a));
    places = z.places refl ∙ rw (rows_other work work₁ other Tb.ActionPlaces s₁.actions, x.pays.actions, e₄, append-nil (place_bytes 0 (positioned at)));
    tables = λ u b m h. (z.kept refl).tables u b m h ∙ rows_other work work₁ other u m;
  }

  put-paid : Paid s s.actions after
  put-paid = record {
    facilities = x.pays.facilities;
    operations = x.pays.operations;
    states = x.pays.states;
    known = x.pays.known;
    nesting = x.nesting;
    counted = x.pays.counted;
    nodes = omega (arith, x.pays.nodes);
    actions = omega (arith, x.counted, x.pays.actions);
  }

  pub ends_with : {P : Stack} {pre : Built → Built} {w₂ : Word} {s₂ : State} → ((K : Stack) (b : Built) → runs text (P ++ K) w₂ (pre b) s₂ ≡ runs text K w₁ (grown t b) s₁)
      → Ends text sc n P pre w₂ s₂ s work work₂ r
  ends_with {P} {pre} {w₂} {s₂} c = record {
    done = λ d. ended d;
    refused = λ f d. absurd (y.refused f d);
    full = λ d. omega (arith, y.full d, st.actions, x.pays.actions, few-counted (counts_of s) st.within);
  }
    where
      ended : {r' : W.Reached} → r ≡ Ok r' → Ended text sc n P pre w₂ s₂ s work work₂ r'
      ended {r' = r'} d =
          let v : Written sc t s work r'.state work₂ = rw (y.state d) (put_written (y.added d)) in
          let q : Paid s s.actions r'.state = rw (y.state d) put-paid in
          record {
            tree = t;
            course = λ K b. c K b ∙ rw (y.word d, y.state d);
            written = v;
            paid = q;
            standing = standing-after st v q (subst (Seen text) (sym (y.word d)) x.seen) y.whole (ap (λ (j : State). within_ceilings (counts_of j)) (y.state d) ∙ within-reached st x);
          }
