-- Computed terminals: the records of their expressions stand behind those before, and leave the tables as they were.
use mathlib.Core.Bool.{Bool, true, false, true≢false}
use mathlib.Core.List.{List, [], ◌∷◌, ◌++◌}
use mathlib.Core.Path.{◌≡◌, refl, sym, ap, ◌∙◌, subst}
use Prim.Native.Nat.{ℕ, ◌+◌, ◌-◌, ◌*◌, ◌≤◌}
use native.Mathlib.Omega.{arith}
use borrow.Author.Tests.{le-leb}
use lib.Dec.{leb}
use Rattle.parse_step.proofs.Ceilings.{few-counted}
use Rattle.parse_step.proofs.Saying.{makes-it}
use Rattle.parse_step.specs.Answers.{Answer}
use Rattle.parse_step.specs.declared.Reached.{Reached}
use Rattle.parse_step.specs.declared.Unread.{Unread}
use Rattle.parse_step.proofs.Answers.{err_as, ok_err}
use Rattle.parse_bounds.proofs.Telling.{tells-ok}
use Rattle.std.specs.Prelude.{Err, Ok}
use Rattle.parse_step.specs.declared.State.{State}
use Rattle.parse_step.specs.Course.{counts_of}
use Rattle.parse_step.specs.Pays.{Pays, Spends}
use Rattle.parse_step.specs.Says.{Parses, Read, Says, pushed}
use Rattle.parse_facilities.proofs.Appended.{names_of, nodes-last, scope_of, size-last}
use Rattle.parse_facilities.specs.Listed.{Expressed, Tabled, none_held}
use Rattle.parse_facilities.specs.Specs.{declaration_of}
use Rattle.image_sections.specs.declared.facilities.FacilityKind.TheVariants as F
use Rattle.language.specs.Building.{expression_no, word_no}
use Rattle.language.specs.Declaring.{make_computed}
use Rattle.language.specs.Describe.{Noted, expression_size, nodes_of}
use Rattle.language.specs.DescribeText.{facility_nodes, function_sizes}
use Rattle.language.specs.Machine.{ask, expression, make, within_ceilings}
use Rattle.language.specs.Ceilings.{deepest, most_counted, most_facilities, most_operations, most_states}
use Rattle.language.specs.Naming.{Scope}
use Rattle.language.specs.Tree as T
use Rattle.language.specs.Tree.{Declaration, Expression, Extent}
use Rattle.language.specs.Words.{Position}
use Rattle.parse_expressions.specs.Phrases.{same}
use Rattle.parse_tables.proofs.RowLaws.{rows_other}
use Rattle.parse_tables.proofs.NamesGrown.{facilities-other}
use Rattle.parse_tables.specs.declared.Table.TheVariants as Tb
use Rattle.parse_tables.specs.Names.{facility_names}
use Rattle.parse_tables.specs.Rows.{rows}
use Rattle.text_words.specs.declared.Word.{Word}
use Rattle.text_words.specs.Meaning.{positioned}
use Rattle.parse_array.proofs.NodesAdded.{nodes-append, nodes-other}
use Rattle.parse_array.specs.Held.{Held, held, other_in, with_nodes}
use Rattle.parse_array.specs.Layout.{most_nodes}
use Rattle.parse_terminals.specs.Functions.{Begun, Computes}
use Rattle.parse_terminals.specs.Inputs.{at_function, with_one}
use Rattle.parse_terminals.proofs.FunctionWords.{expression-first}
use Rattle.language.specs.Tests.{both}

-- ---- The tables lie behind the expressions.

tabled-kept : {text : List ℕ} {ds : List Declaration} {place n : ℕ} {w w' : List ℕ} → Tabled text ds place n w → other_in w' ≡ other_in w → Tabled text ds place n w'
unfolding rows
tabled-kept {text} {n = n} {w} {w'} t e = record {
  known = t.known;
  records = rows_other w w' e Tb.Facilities n ∙ t.records;
  places = rows_other w w' e Tb.FacilityPlaces n ∙ t.places;
  names = facilities-other text w w' e n ∙ t.names;
  store = t.store;
}

other-kept : (m n : ℕ) (w w' : List ℕ) (ns : List Noted) → held m w' ≡ with_nodes (held n w) ns → other_in w' ≡ other_in w
unfolding held
other-kept m n w w' ns e = ap (λ (x : Held). x.other) e ∙ nodes-other (held n w) ns

-- ---- Expressions behind those of ds.

module _ (text : List ℕ) (name : Word) (x : Extent) (p : Position) (e : Expression) where
  abbrev computed : Declaration
  computed = declaration_of text F.Computed name x (T.given p e)

  expressed-more : (ds : List Declaration) {m n : ℕ} {w w' : List ℕ} → Expressed ds n w → held m w' ≡ with_nodes (held n w) (nodes_of (scope_of (names_of ds)) n e) → m ≡ n + expression_size e → m ≤ most_nodes
      → Expressed (ds ++ computed ∷ []) m w'
  expressed-more ds {m} {n} {w} {w'} g h q l = record { nodes = omega (arith, q, g.nodes, size-last ds computed); few = l; records = h ∙ before ∙ after }
    where
      before : with_nodes (held n w) (nodes_of (scope_of (names_of ds)) n e) ≡ with_nodes (none_held (other_in w)) (facility_nodes [] 0 ds ++ nodes_of (scope_of (names_of ds)) n e)
      before = ap (λ (v : Held). with_nodes v (nodes_of (scope_of (names_of ds)) n e)) g.records ∙ sym (nodes-append (none_held (other_in w)) (facility_nodes [] 0 ds) (nodes_of (scope_of (names_of ds)) n e))

      first : n ≡ 0 + function_sizes ds
      first = omega (arith, g.nodes)

      after : with_nodes (none_held (other_in w)) (facility_nodes [] 0 ds ++ nodes_of (scope_of (names_of ds)) n e) ≡ with_nodes (none_held (other_in w')) (facility_nodes [] 0 (ds ++ computed ∷ []))
      after =
          ap (λ (v : List ℕ). with_nodes (none_held v) (facility_nodes [] 0 ds ++ nodes_of (scope_of (names_of ds)) n e)) (sym (other-kept m n w w' (nodes_of (scope_of (names_of ds)) n e) h))
          ∙ ap (λ (k : ℕ). with_nodes (none_held (other_in w')) (facility_nodes [] 0 ds ++ nodes_of (scope_of (names_of ds)) k e)) first
          ∙ ap (with_nodes (none_held (other_in w'))) (sym (nodes-last [] 0 ds computed))

-- ---- Within the ceilings, with another number of counted words.

without-fourth : (a b c d e : Bool) → both a (both b (both c (both d e))) ≡ true → both a (both b (both c e)) ≡ true
without-fourth true true true true e h = h
without-fourth true true true false e h = absurd (true≢false (sym h))
without-fourth true true false d e h = absurd (true≢false (sym h))
without-fourth true false c d e h = absurd (true≢false (sym h))
without-fourth false b c d e h = absurd (true≢false (sym h))

within-kept : {s s' : State} → Pays 0 1 s s' → s'.nesting ≡ s.nesting → within_ceilings (counts_of s) ≡ true → within_ceilings (counts_of s') ≡ true
unfolding within_ceilings most_facilities most_operations most_states most_counted deepest
within-kept {s} {s'} p n e =
    rw (p.facilities, p.operations, p.states, n, le-leb s'.counted 2048 (p.ceiling (few-counted (counts_of s) e)))
    (without-fourth (leb s.facilities 256) (leb s.operations 128) (leb s.states 256) (leb s.counted 2048) (leb s.nesting 24) e)

-- ---- As the code reads them.

module _ {text : List ℕ} (equal : Word) {w : Word} {s : State} {work work' : List ℕ} where
  told : {a : Answer} → Parses (ask expression ∷ []) same s.nesting text w s work work' a → {ds : List Declaration} {place : ℕ} → Begun text ds place w s work
      → Says text (scope_of (names_of ds)) (ask expression ∷ []) [] (λ b. b) (held s.nodes work) s.nodes s.nesting w s a work'
  told f {ds} g = f (scope_of (names_of ds)) (record { seen = g.seen; names = sym (ap (facility_names text work) (ap (λ (j : State). j.known) g.state) ∙ g.listed.tabled.names) })

  pub computed-not : {e : Unread} → Parses (ask expression ∷ []) same s.nesting text w s work work' (Err e) → Spends text 0 w s (Err e) → Computes text equal w s work work' (Err e)
  computed-not f pay n ds place name x g = record {
    done = λ d. ok_err (sym d);
    refused = λ h d K b. expression-first text w K (at_function text name x equal b) s g.seen n ∙ (told f g).refused h (err_as d) (make make_computed ∷ K) (at_function text name x equal b);
    full = λ d. let q = pay.full (err_as d) g.seen in omega (arith, (told f g).full (err_as d), q.nodes, q.ceiling (few-counted (counts_of s) g.within), g.paid);
  }

  pub computed-read : {a : Reached} {i : ℕ} → Parses (ask expression ∷ []) same s.nesting text w s work work' (Ok a) → Spends text 0 w s (Ok a) → i ≡ a.state.nodes - 1
      → Computes text equal w s work work' (Ok (record { reached = a; kind = F.Computed; expression = i; equals = equal.at }))
  unfolding word_no expression_no
  computed-read {a} {i} f pay l n ds place name x g = tells-ok (record {
    function = T.given (positioned equal.at) y.tree;
    course = λ K b. expression-first text w K (at_function text name x equal b) s g.seen n ∙ y.course (make make_computed ∷ K) (at_function text name x equal b)
        ∙ makes-it text make_computed K a.next (pushed y.tree (at_function text name x equal b)) (with_one (computed text name x (positioned equal.at) y.tree) b) a.state (λ q. refl);
    number = omega (arith, here, y.pending.nodes, l);
    equals = refl;
    awaiting = record {
      counted = omega (arith, p.facilities, p.known, known, ap (λ (j : State). j.facilities) g.state, g.listed.counted);
      room = omega (arith, p.known, known, g.room, g.listed.counted);
      tabled = subst (λ (k : ℕ). Tabled text ds place k work') (sym (p.known ∙ known)) (tabled-kept g.listed.tabled (other-kept a.state.nodes s.nodes work work' (nodes_of sc s.nodes y.tree) y.pending.records));
      expressed = expressed-more text name x (positioned equal.at) y.tree ds (subst (λ (k : ℕ). Expressed ds k work) (sym (ap (λ (j : State). j.nodes) g.state)) g.listed.expressed) y.pending.records y.pending.nodes (omega (arith, paid, few));
    };
    seen = y.here.seen;
    within = within-kept p y.nesting g.within;
    paid = paid;
    others = record { operations = p.operations; states = p.states; nesting = y.nesting; actions = p.actions };
  })
    where
      sc : Scope
      sc = scope_of (names_of ds)

      known : s.known ≡ g.before.known
      known = ap (λ (j : State). j.known) g.state

      y : Read text sc (ask expression ∷ []) [] (λ b. b) (held s.nodes work) s.nodes s.nesting w s a work'
      y = (told f g).done refl

      p : Pays 0 1 s a.state
      p = (pay.done refl g.seen).pays

      here : s.nodes ≡ function_sizes ds
      here = ap (λ (j : State). j.nodes) g.state ∙ g.listed.expressed.nodes

      few : a.state.counted ≤ 2048
      few = p.ceiling (few-counted (counts_of s) g.within)

      paid : a.state.nodes ≤ 7 * a.state.counted
      paid = omega (arith, p.nodes, g.paid)
