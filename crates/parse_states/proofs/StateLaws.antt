-- States one after the other, as the code reads them.
use mathlib.Core.List.{List, [], ◌∷◌, ◌++◌, append_assoc, append-nil}
use mathlib.Core.Path.{◌≡◌, refl, sym, ap, ◌∙◌, subst}
use Prim.Native.Nat.{ℕ, ◌-◌, ◌<◌}
use native.Mathlib.Omega.{arith}
use Rattle.parse_step.proofs.Saying.{makes-it}
use Rattle.parse_step.specs.declared.State.{State}
use Rattle.parse_step.specs.Course.{Stack, counts_of, kind_no, runs}
use Rattle.image_sections.specs.declared.runs.Run.{Run}
use Rattle.language.specs.Building.{Built, list_no, with_text}
use Rattle.language.specs.Declaring.{tree_steps}
use Rattle.language.specs.Kinds.{end_word, period}
use Rattle.language.specs.Machine.{ask, dollar_option, parsed, state_start, states_more, within_ceilings}
use Rattle.language.specs.Naming.{Scope}
use Rattle.language.specs.Tree as T
use Rattle.language.specs.Tree.{Text}
use Rattle.parse_tables.specs.declared.meaning.KnownNames.{KnownNames}
use Rattle.parse_stores.proofs.Standings.{few-states}
use Rattle.parse_stores.specs.Actions.{Standing}
use Rattle.text_words.specs.declared.Word.{Word}
use Rattle.parse_states.proofs.BracketLaws.{tells-ok}
use Rattle.parse_states.proofs.ClosingLaws.{number, one-standing, one_written, tree}
use Rattle.parse_states.proofs.StateWords.{another-starts}
use Rattle.parse_states.proofs.WrittenLaws.{written_none, written_then}
use Rattle.parse_states.specs.Begins.{Tells, more_states, opened, same, with_list}
use Rattle.parse_states.specs.Bodies.{Bodies, BodyRead, Stands}
use Rattle.parse_states.specs.declared.Begun.{Begun}
use Rattle.parse_states.specs.Heads.{HeadRead, Heads, head_built, head_stack}
use Rattle.parse_states.specs.States.{All, AllRead, Ended, Ends, Finish, One, SomeRead, more_of, more_stack, start_stack}
use Rattle.parse_states.specs.Written.{Closed, Written}
use Rattle.parse_step.specs.Answers.{Answer}
use Rattle.parse_step.specs.declared.Reached.{Reached}
use Rattle.parse_step.specs.declared.Unread.{Unread}
use Rattle.parse_step.proofs.Answers.{err_as, not_ok, ok_err}
use Rattle.std.specs.Prelude.{Err, IsErr, Ok}

-- ---- One state.

pub not-begun : {l : ℕ} {text : List ℕ} {n : KnownNames} {w : Word} {s : State} {work work₁ : List ℕ} {u : Unread} → Heads l text w s work work₁ (Err u) → One l text n w s work work₁ (Err u)
not-begun {n = n} f sc st = let t = f sc n st in record { done = λ d. ok_err (sym d); refused = λ i d K b. t.refused i (err_as d) K b; full = λ d. t.full (err_as d) }

module _ {l : ℕ} {text : List ℕ} {n : KnownNames} {w : Word} {s : State} {work work₁ : List ℕ} {h : Begun} (f : Heads l text w s work work₁ (Ok h)) where
  head : {sc : Scope} → Standing text sc n w s s.actions work → HeadRead text sc n l w (ask state_start ∷ []) same w s (more_states s) work work₁ h
  head {sc} st = (f sc n st).done refl

  pub head-stands : Stands text n w s work → Stands text n h.reached.next h.reached.state work₁
  head-stands st = record { scope = st.scope; standing = (head st.standing).standing }

  module _ {r : Answer} {work₂ : List ℕ} (g : Bodies h.named w text n h.reached.next h.reached.state work₁ work₂ r) where
    told : {sc : Scope} → Standing text sc n w s s.actions work → Tells text (head_stack h.named) (head_built h.named w text) h.reached.next h.reached.state r (BodyRead text sc n (head_stack h.named) (head_built h.named w text) h.reached.next h.reached.state work₁ work₂)
    told {sc} st = g sc (head st).standing

    pub body-not : IsErr r → One l text n w s work work₂ r
    body-not m sc st = record {
      done = λ d. not_ok m d;
      refused = λ i d K b. (head st).course K b ∙ (told st).refused i d K (opened (head st).tree b);
      full = (told st).full;
    }

    pub one-read : {r' : Reached} → r ≡ Ok r' → {run : Run} → run ≡ record { first = s.actions; count = r'.state.actions - s.actions } → {work₃ : List ℕ} → (s.states < 256 → Closed s.states h.head run work₂ work₃) → One l text n w s work work₃ (Ok r')
    unfolding list_no
    one-read {r' = r'} read e {work₃} c sc st = tells-ok (
      record {
        trees = tree st x y few (c few) e ∷ [];
        course = λ K b. x.course K b ∙ y.course K (opened x.tree b)
            ∙ makes-it text tree_steps.make_state K r'.next (with_list y.tree (opened x.tree b)) (with_text b (more_of (tree st x y few (c few) e ∷ []) b.text)) r'.state (λ p. refl);
        written = one_written st x y few (c few) e;
        standing = one-standing st x y few (c few) e;
      },
      number st x y few (c few) e,
    )
      where
        x : HeadRead text sc n l w (ask state_start ∷ []) same w s (more_states s) work work₁ h
        x = head st

        y : BodyRead text sc n (head_stack h.named) (head_built h.named w text) h.reached.next h.reached.state work₁ work₂ r'
        y = (told st).done read

        few : s.states < 256
        few = omega (arith, x.stays.states, few-states (counts_of h.reached.state) x.standing.within)

-- ---- Some states.

more-then : (ts us : List T.State) (t : Text) → more_of us (more_of ts t) ≡ more_of (ts ++ us) t
more-then ts us t = rw (append_assoc t.states ts us)

no_more : (t : Text) → t ≡ more_of [] t
no_more t = rw (append-nil t.states)

-- From w and s on, states have been read up to here.
abbrev pub Here : ℕ → List ℕ → Scope → KnownNames → Word → State → List ℕ → Word → State → List ℕ → Type 0
Here l text sc n w s work next state work₁ = SomeRead text sc n l (ask states_more ∷ []) (ask states_more ∷ []) w s work next state work₁

module _ {l : ℕ} {text : List ℕ} {sc : Scope} {n : KnownNames} {w : Word} {s : State} {work : List ℕ} where
  pub none_yet : Standing text sc n w s s.actions work → Here l text sc n w s work w s work
  none_yet st = record {
    trees = [];
    course = λ K b. ap (λ (t : Text). runs text (ask states_more ∷ K) w (with_text b t) s) (no_more b.text);
    written = written_none text sc l s work;
    standing = st;
  }

  module _ {next : Word} {state : State} {work₁ : List ℕ} (h : Here l text sc n w s work next state work₁) where
    pub all_read : {r : Answer} → Finish more_stack text next state r → Ends text more_stack w s r (AllRead text sc n l more_stack w s work work₁)
    all_read {r} f = record {
      done = λ d. read (y.done d);
      refused = λ i d b. h.course (ask dollar_option ∷ []) b ∙ y.refused i d (with_text b (more_of h.trees b.text));
      full = y.full;
    }
      where
        y : Ends text more_stack next state r (Ended text more_stack next state)
        y = f sc n work₁ h.standing

        read : {r' : Reached} → Ended text more_stack next state r' → AllRead text sc n l more_stack w s work work₁ r'
        read v = record {
          trees = h.trees;
          course = λ b. h.course (ask dollar_option ∷ []) b ∙ v.course (with_text b (more_of h.trees b.text));
          written = subst (λ (q : State). Written text sc l h.trees s work q work₁) (sym v.state) h.written;
          standing = record {
            seen = v.seen;
            short = h.standing.short;
            whole = h.standing.whole;
            within = ap (λ (q : State). within_ceilings (counts_of q)) v.state ∙ h.standing.within;
            known = h.standing.known;
            facilities = h.standing.facilities ∙ ap (λ (q : State). q.known) (sym v.state);
            nodes = rw v.state h.standing.nodes;
            actions = rw v.state h.standing.actions;
          };
        }

    module _ (m : kind_no next.kind ≡ period → ⊥) (k : kind_no next.kind ≡ end_word → ⊥) {r : Answer} {work₂ : List ℕ} (f : One l text n next state work₁ work₂ r) where
      to_start : (K : Stack) (b : Built) → runs text (ask states_more ∷ K) w b s ≡ runs text (ask state_start ∷ ask states_more ∷ K) next (with_text b (more_of h.trees b.text)) state
      to_start K b = h.course K b ∙ another-starts text next h.standing.seen state K (with_text b (more_of h.trees b.text)) m k

      pub another-not : IsErr r → {Read : Reached → Type 0} → Ends text more_stack w s r Read
      another-not j =
          let t = f sc h.standing in
          record { done = λ d. not_ok j d; refused = λ i d b. to_start (ask dollar_option ∷ []) b ∙ t.refused i d more_stack (with_text b (more_of h.trees b.text)); full = t.full }

      module _ {r' : Reached} (read : r ≡ Ok r') where
        y : SomeRead text sc n l (ask state_start ∷ []) [] next state work₁ r'.next r'.state work₂
        y = ((f sc h.standing).done read).0

        pub another : Here l text sc n w s work r'.next r'.state work₂
        another = record {
          trees = h.trees ++ y.trees;
          course = λ K b. to_start K b ∙ y.course (ask states_more ∷ K) (with_text b (more_of h.trees b.text))
              ∙ ap (λ (t : Text). runs text (ask states_more ∷ K) r'.next (with_text b t) r'.state) (more-then h.trees y.trees b.text);
          written = written_then h.written y.written;
          standing = y.standing;
        }

        -- There is one state more, and they are not too many.
        pub one_fewer : 257 - r'.state.states < 257 - state.states
        one_fewer = omega (arith, ((f sc h.standing).done read).1, few-states (counts_of r'.state) y.standing.within)

-- ---- All states.

module _ {l : ℕ} {text : List ℕ} {n : KnownNames} {w : Word} {s : State} {work work₁ : List ℕ} {r : Answer} (f : One l text n w s work work₁ r) where
  pub first-not : IsErr r → All start_stack l text n w s work work₁ r
  first-not m sc st = let t = f sc st in record { done = λ d. not_ok m d; refused = λ i d b. t.refused i d more_stack b; full = t.full }

  module _ {r' : Reached} (done : r ≡ Ok r') where
    pub first-stands : Stands text n w s work → Stands text n r'.next r'.state work₁
    first-stands st = record { scope = st.scope; standing = ((f st.scope st.standing).done done).0.standing }

    pub all-states : {q : Answer} {work₂ : List ℕ} → All more_stack l text n r'.next r'.state work₁ work₂ q → All start_stack l text n w s work work₂ q
    all-states {q} {work₂} g sc st = record {
      done = λ d. let v = y.done d in
          record {
            trees = x.trees ++ v.trees;
            course = λ b. x.course more_stack b ∙ v.course (with_text b (more_of x.trees b.text)) ∙ ap (λ (t : Text). parsed (with_text b t)) (more-then x.trees v.trees b.text);
            written = written_then x.written v.written;
            standing = v.standing;
          };
      refused = λ i d b. x.course more_stack b ∙ y.refused i d (with_text b (more_of x.trees b.text));
      full = y.full;
    }
      where
        x : SomeRead text sc n l (ask state_start ∷ []) [] w s work r'.next r'.state work₁
        x = ((f sc st).done done).0

        y : Ends text more_stack r'.next r'.state q (AllRead text sc n l more_stack r'.next r'.state work₁ work₂)
        y = g sc x.standing
