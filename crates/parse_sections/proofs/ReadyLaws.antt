-- Behind the declarations: operations, or CONTROL at once.
use mathlib.Core.List.{List, [], ◌∷◌, ◌++◌, append-nil, map}
use mathlib.Core.Path.{◌≡◌, refl, sym, ap, ◌∙◌, subst}
use Prim.Native.Nat.{ℕ, ◌%◌, ◌≤◌}
use native.Mathlib.Omega.{arith}
use lib.ListN.{length}
use Rattle.language.specs.declared.refusals.Refusal.TheVariants.{NoContinuation}
use Rattle.parse_step.proofs.TakenWords.{took-done}
use Rattle.parse_step.specs.Answers.{Answer}
use Rattle.parse_step.specs.declared.Reached.{Reached}
use Rattle.parse_step.specs.declared.Unread.{Unread}
use Rattle.std.specs.Prelude.{Err, Ok}
use Rattle.parse_step.specs.declared.State.{State}
use Rattle.parse_step.specs.Course.{Stack, counts_of, kind_no, runs}
use Rattle.parse_step.specs.Taken.{Refuses, Took}
use Rattle.parse_facilities.proofs.NameWords.{few-facilities}
use Rattle.parse_facilities.specs.Listed.{Tabled, none_held}
use Rattle.parse_facilities.specs.Lists.{terminals}
use Rattle.parse_bounds.proofs.Telling as D
use Rattle.language.specs.Building.{Built, with_text}
use Rattle.language.specs.DescribeText.{facilities_of, facility_nodes, function_sizes}
use Rattle.language.specs.Kinds.{control_word, operation_word}
use Rattle.language.specs.Layout.{store_size_of}
use Rattle.language.specs.Machine.{after_terminals, ask, operation_spec, operations_more}
use Rattle.language.specs.Tree.{Declaration, Name}
use Rattle.parse_sections.proofs.OperationLists.{begins}
use Rattle.parse_sections.proofs.Telling.{refuses, through, told}
use Rattle.parse_sections.specs.Heads.{control_stack}
use Rattle.parse_sections.specs.Listed.{Standing}
use Rattle.parse_sections.specs.Lists.{Lists, SomeRead, Stands, with_operations}
use Rattle.parse_stores.specs.Actions.{front_of}
use Rattle.parse_tables.specs.declared.Table.TheVariants as T
use Rattle.parse_tables.specs.Rows.{rows}
use Rattle.text_words.specs.declared.Word.{Word}
use Rattle.parse_array.specs.Held.{Held, with_nodes}
use Rattle.parse_array.specs.Layout.{work_size}
use Rattle.parse_sections.proofs.ListLaws.{between-passed}
use Rattle.parse_sections.proofs.SectionWords.{control-taken, nothing-behind, operation-taken}
use Rattle.parse_sections.specs.Sections.{AllRead, Between, Goes, Operates, Ready, Somewhere, from_terminals, with_sections}

abbrev names_of : List Declaration → List Name
names_of ds = map (λ (d : Declaration). d.name) ds

-- The expressions of the facilities ds.
abbrev held_of : List Declaration → Held
held_of ds = with_nodes (none_held []) (facility_nodes [] 0 ds)

abbrev alone : Held → Held
alone h = record { nodes = h.nodes; places = h.places; other = [] }

module _ {text : List ℕ} {ds : List Declaration} {place : ℕ} {w : Word} {s : State} {work : List ℕ} (x : Between text ds place w s work) where
  front : front_of s.nodes work ≡ held_of ds
  unfolding front_of with_nodes
  front = ap alone x.standing.listed.expressed.records

  -- No operation yet.
  pub stands : length work ≡ work_size → Standing text (names_of ds) (function_sizes ds) (held_of ds) [] w s work
  stands l =
      let st = x.standing in
      let e = begins s work st.seen st.short l st.within x.operations x.states x.actions st.paid in
      subst (λ (h : Held). Standing text (names_of ds) (function_sizes ds) h [] w s work) front
      (subst (λ (n : ℕ). Standing text (names_of ds) n (front_of s.nodes work) [] w s work) st.listed.expressed.nodes
      (subst (λ (names : List Name). Standing text names s.nodes (front_of s.nodes work) [] w s work) st.listed.tabled.names e))

  tables-at : Tabled text ds (store_size_of (facilities_of 0 ds) % 65536) s.known work
  tables-at = subst (λ (n : ℕ). Tabled text ds n s.known work) x.standing.listed.tabled.store x.standing.listed.tabled

  ready_at : length work ≡ work_size → Ready text ds [] w s work
  ready_at l = record { counted = x.standing.listed.counted; level = x.level; facilities = tables-at; standing = stands l }

  few : s.known ≤ 256
  few = omega (arith, x.standing.listed.counted, few-facilities (counts_of s) x.standing.within)

  -- Operations keep the tables of facilities.
  ready-behind : {P : Stack} {next : Word} {state : State} {work' : List ℕ} (y : SomeRead text (names_of ds) (function_sizes ds) (held_of ds) [] P control_stack w s work next state work')
      → Ready text ds y.trees next state work'
  ready-behind {work' = work'} y =
      let t = x.standing.listed.tabled in
      record {
        counted = y.stays.facilities ∙ x.standing.listed.counted ∙ sym y.stays.known;
        level = y.stays.nesting ∙ x.level;
        facilities = record {
          known = y.stays.known ∙ t.known;
          records = ap (λ (n : ℕ). rows T.Facilities n work') y.stays.known ∙ y.tables T.Facilities refl s.known few ∙ t.records;
          places = ap (λ (n : ℕ). rows T.FacilityPlaces n work') y.stays.known ∙ y.tables T.FacilityPlaces refl s.known few ∙ t.places;
          names = sym y.standing.known;
          store = refl;
        };
        standing = y.standing;
      }

-- ---- What the text gains.

no_more : (b : Built) → b ≡ with_text b (with_sections b.text [] [] [] [])
no_more b = rw (append-nil b.text.registers, append-nil b.text.memories, append-nil b.text.terminals, append-nil b.text.operations)

-- ---- Operations.

abbrev list_stack : Stack → Stack
list_stack K = ask operation_spec ∷ ask operations_more ∷ K

module _ {text : List ℕ} {w : Word} {s : State} {place : ℕ} {work : List ℕ} (l : length work ≡ work_size) where
  pub operations-not : {e : Unread} → Took text w (counts_of s) s (Err e) → Operates text w s place work work (Err e)
  operations-not t k ds x = told (D.not-taken t list_stack (λ b. b) (λ K b. operation-taken text w K b s k))

  module _ {a : Reached} (t : Took text w (counts_of s) s (Ok a)) where
    pub operations-stand : Somewhere text place w s work → Stands text a.next a.state work
    operations-stand x = record { names = names_of x.declared; first = function_sizes x.declared; before = held_of x.declared; declared = []; standing = stands (between-passed x.between (t.done refl)) l }

    pub operations-read : {r : Answer} {work' : List ℕ} → Lists text a.next a.state work work' r → Operates text w s place work work' r
    operations-read {r} {work'} f k ds x = through (f (names_of ds) (function_sizes ds) (held_of ds) [] (stands here l)) (λ K. K) (λ b. b) to-list read
      where
        here : Between text ds place a.next a.state work
        here = between-passed x (t.done refl)

        to-list : (K : Stack) (b : Built) → runs text (ask after_terminals ∷ K) w b s ≡ runs text (list_stack K) a.next b a.state
        to-list K b = operation-taken text w K b s k ∙ took-done (t.done refl) x.standing.seen (list_stack K) b

        gains : (b : Built) (v : Reached) (y : SomeRead text (names_of ds) (function_sizes ds) (held_of ds) [] (list_stack []) control_stack a.next a.state work v.next v.state work') → with_text b (with_operations b.text y.trees) ≡ with_text b (with_sections b.text [] [] [] y.trees)
        gains b v y = rw (append-nil b.text.registers, append-nil b.text.memories, append-nil b.text.terminals)

        read : (v : Reached) → SomeRead text (names_of ds) (function_sizes ds) (held_of ds) [] (list_stack []) control_stack a.next a.state work v.next v.state work' → AllRead text ds terminals (ask after_terminals ∷ []) w s work' v
        read v y = record {
          registers = [];
          memories = [];
          terminals = [];
          operations = y.trees;
          since = from_terminals [];
          course = λ K b. to-list K b ∙ y.course K b ∙ ap (λ (u : Built). runs text (control_stack ++ K) v.next u v.state) (gains b v y);
          ready = subst (λ (u : List Declaration). Ready text u y.trees v.next v.state work') (sym (append-nil ds)) (ready-behind here y);
        }

-- ---- CONTROL at once, or neither.

module _ {text : List ℕ} {w : Word} {s : State} {place : ℕ} {work : List ℕ} {a : Answer} where
  pub control-read : length work ≡ work_size → kind_no w.kind ≡ control_word → Took text w (counts_of s) s a → Goes terminals after_terminals text w s place work work a
  control-read l k t ds x = told (D.word-taken t read (λ K. control_stack ++ K) (λ b. b) (λ K b. control-taken text w K b s k))
    where
      read : (v : Reached) → a ≡ Ok v → AllRead text ds terminals (ask after_terminals ∷ []) w s work v
      read v d = record {
        registers = [];
        memories = [];
        terminals = [];
        operations = [];
        since = from_terminals [];
        course = λ K b. control-taken text w K b s k ∙ took-done (t.done d) x.standing.seen (control_stack ++ K) b
            ∙ ap (λ (u : Built). runs text (control_stack ++ K) v.next u v.state) (no_more b);
        ready = subst (λ (u : List Declaration). Ready text u [] v.next v.state work) (sym (append-nil ds)) (ready_at (between-passed x (t.done d)) l);
      }

  pub no-section : (kind_no w.kind ≡ operation_word → ⊥) → (kind_no w.kind ≡ control_word → ⊥) → Refuses w NoContinuation a → Goes terminals after_terminals text w s place work work a
  no-section o c f ds x = refuses NoContinuation f (λ K b. nothing-behind text w K b s x.standing.seen o c)
