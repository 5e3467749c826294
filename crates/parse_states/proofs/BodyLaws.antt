-- The actions of a state and its `/`, as the code reads them.
use mathlib.Core.Bool.{Bool, true, false}
use mathlib.Core.List.{List, [], ◌∷◌, ◌++◌, append-nil}
use mathlib.Core.Path.{◌≡◌, refl, sym, ap, ◌∙◌, subst}
use Prim.Native.Nat.{ℕ, ◌-◌, ◌<◌}
use native.Mathlib.Omega.{arith}
use Rattle.parse_actions.proofs.ListLaws.{counts-one, level-same}
use Rattle.parse_step.proofs.Ceilings.{few-counted}
use Rattle.parse_step.proofs.TakenWords.{took-done, took-refused}
use Rattle.parse_step.specs.declared.Bearing.TheVariants.{Level}
use Rattle.parse_step.specs.declared.State.{State}
use Rattle.parse_step.specs.Course.{Stack, counts_of, kind_no, runs}
use Rattle.parse_step.specs.Taken.{Expected, Passed, Took, after_word}
use Rattle.about_grammar.specs.Conditionals.{joined-assoc, joined-done}
use Rattle.language.specs.Building.{Built, joined, list_no}
use Rattle.language.specs.Describe.{actions_in, actions_of, expressions_in, nodes_in}
use Rattle.language.specs.Encode.{concat}
use Rattle.language.specs.Kinds.{comma, slash}
use Rattle.language.specs.Machine.{ask, level, state_action, state_body, state_name, state_rest, word}
use Rattle.language.specs.Naming.{Scope}
use Rattle.language.specs.Tree as T
use Rattle.language.specs.Tree.{Actions}
use Rattle.parse_tables.specs.declared.meaning.KnownNames.{KnownNames}
use Rattle.parse_expressions.specs.Phrases as Ph
use Rattle.parse_stores.proofs.Joining.{written_then}
use Rattle.parse_stores.proofs.ReachedLaws.{nodes-none}
use Rattle.parse_stores.proofs.Standings.{standing-word}
use Rattle.parse_stores.specs.Actions.{ActionsRead, Acts, Paid, Reads, Standing, Written, front_of, grown}
use Rattle.parse_tables.specs.declared.Table.TheVariants as Tb
use Rattle.parse_tables.specs.Rows.{rows}
use Rattle.text_words.specs.declared.Word.{Word}
use Rattle.parse_states.proofs.StateWords.{body-acts, body-ends, rest-comma, rest-last}
use Rattle.parse_states.specs.Begins.{Stays, Tells, same, with_list}
use Rattle.parse_states.specs.Bodies.{Bodies, BodyRead, Firsts, Lists, RestRead, Rests, Stands, complete, first_ask, first_built}
use Rattle.parse_step.specs.Answers.{Answer}
use Rattle.parse_step.specs.declared.Reached.{Reached}
use Rattle.parse_step.proofs.Answers.{not_ok}
use Rattle.std.specs.Prelude.{IsErr, Ok}

-- ---- Nothing read.

pub stays-refl : (s : State) → Stays s s
stays-refl s = record { facilities = refl; operations = refl; states = refl; known = refl; nesting = refl; counted = omega arith }

pub stays_then : {s t u : State} → Stays s t → Stays t u → Stays s u
stays_then x y = record {
  facilities = y.facilities ∙ x.facilities;
  operations = y.operations ∙ x.operations;
  states = y.states ∙ x.states;
  known = y.known ∙ x.known;
  nesting = y.nesting ∙ x.nesting;
  counted = omega (arith, x.counted, y.counted);
}

paid-stays : {s s' : State} {acts : ℕ} → Paid s acts s' → Stays s s'
paid-stays p = record { facilities = p.facilities; operations = p.operations; states = p.states; known = p.known; nesting = p.nesting; counted = p.counted }

written_none : (sc : Scope) (s : State) (work : List ℕ) → Written sc T.done s work s work
unfolding expressions_in nodes_in actions_in actions_of concat
written_none sc s work = record {
  nodes = omega arith;
  expressions = sym (nodes-none (front_of s.nodes work));
  count = omega arith;
  records = sym (append-nil (rows Tb.Actions s.actions work));
  places = sym (append-nil (rows Tb.ActionPlaces s.actions work));
  tables = λ u e m h. refl;
}

-- ---- Behind an action.

-- From w and s on, actions have been read up to here.
abbrev pub Here : List ℕ → Scope → KnownNames → Word → State → List ℕ → Word → State → List ℕ → Type 0
Here text sc n w s work next state work₁ = RestRead text sc n (ask state_rest ∷ []) w s work next state work₁

module _ {text : List ℕ} {sc : Scope} {n : KnownNames} {w : Word} {s : State} {work : List ℕ} where
  pub none_yet : Standing text sc n w s s.actions work → Here text sc n w s work w s work
  none_yet st = record {
    tree = T.done;
    course = λ K b t. ap (λ (u : Actions). runs text (ask state_rest ∷ K) w (with_list u b) s) (sym (joined-done t));
    written = written_none sc s work;
    stays = stays-refl s;
    standing = st;
  }

  module _ {next : Word} {state : State} {work₁ : List ℕ} (h : Here text sc n w s work next state work₁) where
    pub rest_ended : (kind_no next.kind ≡ comma → ⊥) → {a : Answer} → Expected text slash Level next state a → (t : Actions)
        → Tells text (ask state_rest ∷ []) (with_list t) w s a (λ x. RestRead text sc n complete w s work x.next x.state work₁)
    rest_ended m {a} x t = record {
      done = λ d. read (x.done d h.standing.seen (omega arith));
      refused = λ f d K b. to-slash K b t ∙ x.refused f d h.standing.seen (omega arith) (complete ++ K) (with_list (joined t h.tree) b);
      full = x.full;
    }
      where
        to-slash : (K : Stack) (b : Built) (t : Actions) → runs text (ask state_rest ∷ K) w (with_list t b) s ≡ runs text (word slash level ∷ (complete ++ K)) next (with_list (joined t h.tree) b) state
        to-slash K b t = h.course K b t ∙ rest-last text next h.standing.seen state K (with_list (joined t h.tree) b) m

        read : {a' : Reached} → Passed text next (after_word false Level state) state a' × ((K : Stack) (b : Built) → runs text (word slash level ∷ K) next b state ≡ runs text K a'.next b a'.state)
            → RestRead text sc n complete w s work a'.next a'.state work₁
        read y = record {
          tree = h.tree;
          course = λ K b u. to-slash K b u ∙ y.1 (complete ++ K) (with_list (joined u h.tree) b);
          written = subst (λ (q : State). Written sc h.tree s work q work₁) (sym (level-same y.0)) h.written;
          stays = subst (Stays s) (sym (level-same y.0)) h.stays;
          standing = standing-word false Level h.standing y.0;
        }

    module _ (k : kind_no next.kind ≡ comma) {a : Answer} (x : Took text next (after_word false Level state) state a) where
      pub comma-not : IsErr a → (t : Actions) {Read : Reached → Type 0} → Tells text (ask state_rest ∷ []) (with_list t) w s a Read
      comma-not m t = record {
        done = λ d. not_ok m d;
        refused = λ f d K b. h.course K b t ∙ rest-comma text next h.standing.seen state K (with_list (joined t h.tree) b) k ∙ took-refused x f d (ask state_action ∷ ask state_rest ∷ K) (with_list (joined t h.tree) b);
        full = λ d. absurd (x.full d);
      }

      module _ {a' : Reached} (done : a ≡ Ok a') {r : Answer} {work₂ : List ℕ} (f : Acts (ask state_action ∷ []) Ph.same text n a'.next a'.state work₁ work₂ r) where
        p : Passed text next (after_word false Level state) state a'
        p = x.done done

        to-action : (K : Stack) (b : Built) (t : Actions) → runs text (ask state_rest ∷ K) w (with_list t b) s ≡ runs text (ask state_action ∷ ask state_rest ∷ K) a'.next (with_list (joined t h.tree) b) a'.state
        to-action K b t =
            h.course K b t ∙ rest-comma text next h.standing.seen state K (with_list (joined t h.tree) b) k
            ∙ took-done p h.standing.seen (ask state_action ∷ ask state_rest ∷ K) (with_list (joined t h.tree) b)

        told : Reads text sc n (ask state_action ∷ []) [] (Ph.same text) a'.next a'.state work₁ work₂ r
        told = f sc (standing-word false Level h.standing p)

        pub another-not : IsErr r → (t : Actions) {Read : Reached → Type 0} → Tells text (ask state_rest ∷ []) (with_list t) w s r Read
        another-not m t = record {
          done = λ d. not_ok m d;
          refused = λ i d K b. to-action K b t ∙ told.refused i d (ask state_rest ∷ K) (with_list (joined t h.tree) b);
          full = told.full;
        }

        module _ {r' : Reached} (read : r ≡ Ok r') where
          y : ActionsRead text sc n (ask state_action ∷ []) [] (Ph.same text) a'.next a'.state work₁ work₂ r'
          y = told.done read

          behind : (b : Built) (t : Actions) → grown y.tree (with_list (joined t h.tree) b) ≡ with_list (joined t (joined h.tree y.tree)) b
          unfolding list_no
          behind b t = rw (joined-assoc t h.tree y.tree)

          pub another : Here text sc n w s work r'.next r'.state work₂
          another = record {
            tree = joined h.tree y.tree;
            course = λ K b t. to-action K b t ∙ y.course (ask state_rest ∷ K) (with_list (joined t h.tree) b)
                ∙ ap (λ (v : Built). runs text (ask state_rest ∷ K) r'.next v r'.state) (behind b t);
            written = written_then h.written (subst (λ (q : State). Written sc y.tree q work₁ r'.state work₂) (level-same p) y.written);
            stays = stays_then h.stays (subst (λ (q : State). Stays q r'.state) (level-same p) (paid-stays y.paid));
            standing = y.standing;
          }

          -- Words are counted, and no more than there may be.
          pub one_fewer : 2049 - r'.state.counted < 2049 - state.counted
          one_fewer = omega (arith, counts-one y, ap (λ (q : State). q.counted) (level-same p), few-counted (counts_of r'.state) y.standing.within)

-- ---- The list.

first-list : (a : Actions) (b : Built) → grown a (with_list T.done b) ≡ with_list a b
unfolding list_no joined
first-list a b = refl

module _ {named : Bool} (name : Word) {text : List ℕ} {n : KnownNames} {w : Word} {s : State} {work work' : List ℕ} {r : Answer} where
  pub first-named : named ≡ true → Acts (ask state_name ∷ []) (Ph.after_name name) text n w s work work' r → Firsts named name text n w s work work' r
  first-named e f = subst (λ (q : Bool). Firsts q name text n w s work work' r) (sym e) f

  pub first-other : named ≡ false → Acts (ask state_action ∷ []) Ph.same text n w s work work' r → Firsts named name text n w s work work' r
  first-other e f = subst (λ (q : Bool). Firsts q name text n w s work work' r) (sym e) f

module _ (named : Bool) (name : Word) {text : List ℕ} {n : KnownNames} {w : Word} {s : State} {work work₁ : List ℕ} {r : Answer} (f : Firsts named name text n w s work work₁ r) where
  pub list-not : IsErr r → Lists named name text n w s work work₁ r
  list-not m sc st =
      let x = f sc st in
      record { done = λ d. not_ok m d; refused = λ i d K b. x.refused i d (ask state_rest ∷ K) (with_list T.done b); full = x.full }

  pub list-stands : {r' : Reached} → r ≡ Ok r' → Stands text n w s work → Stands text n r'.next r'.state work₁
  list-stands d st = record { scope = st.scope; standing = ((f st.scope st.standing).done d).standing }

  pub list_read : {r' : Reached} → r ≡ Ok r' → {q : Answer} {work₂ : List ℕ} → Rests text n r'.next r'.state work₁ work₂ q → Lists named name text n w s work work₂ q
  list_read {r' = r'} d {q} {work₂} g sc st = record {
    done = λ e. read (told.done e);
    refused = λ i e K b. to-rest K b ∙ told.refused i e K b;
    full = told.full;
  }
    where
      x : ActionsRead text sc n (ask (first_ask named) ∷ []) [] (first_built named name text) w s work work₁ r'
      x = (f sc st).done d

      to-rest : (K : Stack) (b : Built) → runs text (ask (first_ask named) ∷ ask state_rest ∷ K) w (first_built named name text (with_list T.done b)) s ≡ runs text (ask state_rest ∷ K) r'.next (with_list x.tree b) r'.state
      to-rest K b = x.course (ask state_rest ∷ K) (with_list T.done b) ∙ ap (λ (v : Built). runs text (ask state_rest ∷ K) r'.next v r'.state) (first-list x.tree b)

      told : Tells text (ask state_rest ∷ []) (with_list x.tree) r'.next r'.state q (λ x. RestRead text sc n complete r'.next r'.state work₁ x.next x.state work₂)
      told = g sc x.standing x.tree

      read : {q' : Reached} → RestRead text sc n complete r'.next r'.state work₁ q'.next q'.state work₂
          → BodyRead text sc n (ask (first_ask named) ∷ ask state_rest ∷ []) (λ b. first_built named name text (with_list T.done b)) w s work work₂ q'
      read y = record {
        tree = joined x.tree y.tree;
        course = λ K b. to-rest K b ∙ y.course K b x.tree;
        written = written_then x.written y.written;
        stays = stays_then (paid-stays x.paid) y.stays;
        standing = y.standing;
      }

-- ---- The body.

module _ {named : Bool} (name : Word) {text : List ℕ} {n : KnownNames} {w : Word} {s : State} {work : List ℕ} where
  pub body-named : named ≡ true → {work' : List ℕ} {r : Answer} → Lists true name text n w s work work' r → Bodies named name text n w s work work' r
  body-named e {work'} {r} f = subst (λ (q : Bool). Bodies q name text n w s work work' r) (sym e) f

  pub body-listed : named ≡ false → (kind_no w.kind ≡ slash → ⊥) → {work' : List ℕ} {r : Answer} → Lists false name text n w s work work' r → Bodies named name text n w s work work' r
  body-listed e m {work'} {r} f = subst (λ (q : Bool). Bodies q name text n w s work work' r) (sym e) λ sc st.
      let x = f sc st in
      record {
        done = λ d. let y = x.done d in
            record { tree = y.tree; course = λ K b. body-acts text w st.seen s K b m ∙ y.course K b; written = y.written; stays = y.stays; standing = y.standing };
        refused = λ i d K b. body-acts text w st.seen s K b m ∙ x.refused i d K b;
        full = x.full;
      }

  pub body-empty : named ≡ false → kind_no w.kind ≡ slash → {a : Answer} → Took text w (after_word false Level s) s a → Bodies named name text n w s work work a
  body-empty e k {a} x = subst (λ (q : Bool). Bodies q name text n w s work work a) (sym e) λ sc st. record {
    done = λ d. read sc st (x.done d);
    refused = λ i d K b. body-ends text w st.seen s K b k ∙ took-refused x i d (complete ++ K) (with_list T.done b);
    full = λ d. absurd (x.full d);
  }
    where
      read : {a' : Reached} → (sc : Scope) → Standing text sc n w s s.actions work → Passed text w (after_word false Level s) s a' → BodyRead text sc n (ask state_body ∷ []) same w s work work a'
      read sc st p = record {
        tree = T.done;
        course = λ K b. body-ends text w st.seen s K b k ∙ took-done p st.seen (complete ++ K) (with_list T.done b);
        written = subst (λ (q : State). Written sc T.done s work q work) (sym (level-same p)) (written_none sc s work);
        stays = subst (Stays s) (sym (level-same p)) (stays-refl s);
        standing = standing-word false Level st p;
      }
