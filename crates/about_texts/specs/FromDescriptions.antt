-- EVERY DESCRIPTION IN LEGAL FORM IS THAT OF A LEGAL TEXT, if texts, lines and nesting had no ceiling: so the layout that the check asks for is the one that reading writes. Assumes nothing.
use Rattle.std.specs.Prelude.{Bool, ◌||◌, eqb, leb, ltb, get_or}
use Rattle.std.proofs.Math.Bool.{true, false, cond}
use mathlib.Core.List.{List, [], ◌∷◌, ◌++◌, map}
use Rattle.std.proofs.Math.Option.{Option, none, some}
use Rattle.std.proofs.Math.Path.{◌≡◌, refl, ap}
use Rattle.std.proofs.Common.{sym, ◌∙◌, arith}
use Prim.Native.Nat.{ℕ, zero, suc, ◌+◌, ◌-◌, ◌≤◌, ◌<◌}
use borrow.Author.Tests.{eqb-true, le-leb, leb-true, ltb-true}
use Rattle.std.proofs.Math.ListN.{length, length-append}
use Rattle.language.specs.Canonical.{action_count, all, canonical, counted_records, counts_right, facilities_right, label_right, left_count, name_right, node_count, total}
use Rattle.language.specs.CountedWords.{WithinCeilings, counted_operations, counted_states, counted_terminals, counted_words}
use Rattle.language.specs.Describe.{Noted, NotedAction, actions_in}
use Rattle.language.specs.DescribeText as X
use Rattle.language.specs.DescribeText.{describe, facilities_of, facility_nodes, function_size, function_sizes, operation_actions, operation_expressions, operation_nodes, operation_records, operations_of, state_actions, state_nodes, states_of}
use Rattle.language.specs.Description as D
use Rattle.language.specs.Description.{Action, Description, Facility, Node, Operation, State, action_at, facility_at, is_computed, is_sequencing, node_at, no_places, operation_at, sequencing_from, sequencing_of, state_at, word_length}
use Rattle.language.specs.Grammar.{Is}
use Rattle.language.specs.Image as Image
use Rattle.language.specs.Image.{legal_form}
use Rattle.language.specs.Judging.{unless}
use Rattle.language.specs.Layout.{facility_bytes}
use Rattle.language.specs.Ceilings.{largest_bound, longest, most_counted, most_facilities, most_operations, most_states}
use Rattle.language.specs.Naming.{Scope, by_labels}
use Rattle.language.specs.Notions as N
use Rattle.language.specs.Order.{ending, ends_at, facility_roots, operation_roots, operations_end, runs_right, state_roots, states_end, trees_end, trees_right}
use Rattle.language.specs.declared.refusals.Refusal.TheVariants.{BadSequencing, BadSubscript}
use Rattle.language.specs.Rules as Rules
use Rattle.language.specs.Rules.{faults, name_faults, name_places, names_of, sequencing_length}
use Rattle.language.specs.Tree as T
use Rattle.language.specs.Tree.{Declaration, Name, Text}
use Rattle.language.specs.Words.{Fault, Position}
use Rattle.about_rules.specs.Counted.{acts, acts-append, lefts, lefts-append, nodes, nodes-append}
use Rattle.about_rules.specs.FaultsAlike.{faultless-anywhere}
use Rattle.about_rules.specs.LegalTexts.{facilities-nodes, operations-nodes, states-nodes}
use Rattle.about_rules.specs.Roots.{StandActions}
use Rattle.about_rules.specs.Runs.{operations-end, operations-size, state_records, states-end, states-size}
use Rattle.about_rules.specs.Sizes.{facilities-count, operations-count, states-count}
use Rattle.about_rules.specs.Starts.{Stand}
use Rattle.about_rules.specs.Tidy.{TextTidy}
use Rattle.about_rules.specs.TidyTexts.{tidy}
use Rattle.about_rules.specs.WithinCounts.{terminals-alone}
use Rattle.about_texts.specs.Facilities as F
use Rattle.about_texts.specs.Names.{Once, once, once-front}
use Rattle.about_texts.specs.Operations as O
use Rattle.about_texts.specs.Placed.{stand-append}
use Rattle.about_texts.specs.References.{Small}
use Rattle.about_texts.specs.States as S
use Rattle.about_texts.specs.Words.{Said, declaration-said, operations-said, states-said, text-said}
use Rattle.about_running.specs.Judged.{append-none-left, append-none-right, unless-none}
use Rattle.about_running.specs.LegalForm.{left-of, right_of}
use Rattle.about_running.specs.Ordered.{trees-split}
use Rattle.about_running.specs.StateValues.{found_from}
use Rattle.language.specs.Tests.{both}

-- ---- What every element has, by its number.

all-at : {A : Type 0} (f : A → Bool) (xs : List A) (x : A) (i : ℕ) → all f xs ≡ true → i < length xs → f (get_or xs i x) ≡ true
unfolding all
all-at f [] x i e l = absurd (omega arith)
all-at f (y ∷ ys) x zero e l = left-of (f y) _ e
all-at f (y ∷ ys) x (suc i) e l = all-at f ys x i (right_of (f y) _ e) (omega arith)

-- A list whose records stand is that list.
same_nodes : (d : Description) (s : ℕ) (xs : List Node) (ns : List Noted) → ((i : ℕ) → node_at d (s + i) ≡ get_or xs i D.Node.broken) → length xs ≡ length ns → Stand d s ns → map (λ n. n.node) ns ≡ xs
same_nodes d s [] [] h e k = refl
same_nodes d s [] (n ∷ ns) h e k = absurd (omega (arith, e))
same_nodes d s (x ∷ xs) [] h e k = absurd (omega (arith, e))
same_nodes d s (x ∷ xs) (n ∷ ns) h e k =
    let z : s + 0 ≡ s = omega arith in
    let q : node_at d s ≡ x = rw z at (h 0) in
    rw (sym k.0 ∙ q) (ap (λ (ys : List Node). x ∷ ys) (same_nodes d (suc s) xs ns (λ i. let y : s + suc i ≡ suc s + i = omega arith in rw y at (h (suc i))) (omega (arith, e)) k.1))

same-actions : (d : Description) (s : ℕ) (xs : List Action) (ns : List NotedAction) → ((i : ℕ) → action_at d (s + i) ≡ get_or xs i D.Action.broken) → length xs ≡ length ns → StandActions d s ns → map (λ n. n.action) ns ≡ xs
same-actions d s [] [] h e k = refl
same-actions d s [] (n ∷ ns) h e k = absurd (omega (arith, e))
same-actions d s (x ∷ xs) [] h e k = absurd (omega (arith, e))
same-actions d s (x ∷ xs) (n ∷ ns) h e k =
    let z : s + 0 ≡ s = omega arith in
    let q : action_at d s ≡ x = rw z at (h 0) in
    rw (sym k.0 ∙ q) (ap (λ (ys : List Action). x ∷ ys) (same-actions d (suc s) xs ns (λ i. let y : s + suc i ≡ suc s + i = omega arith in rw y at (h (suc i))) (omega (arith, e)) k.1))

facility-names : (s : ℕ) (ds : List Declaration) → map (λ x. x.name) (facilities_of s ds) ≡ map (λ x. x.name) ds
unfolding facilities_of
facility-names s [] = refl
facility-names s (x ∷ ds) = ap (λ (ns : List Name). x.name ∷ ns) (facility-names (s + function_size x.function) ds)

operation-names : (a : ℕ) (os : List T.Operation) → map (λ x. x.name) (operations_of a os) ≡ map (λ x. x.name) os
unfolding operations_of
operation-names a [] = refl
operation-names a (o ∷ os) = ap (λ (ns : List Name). o.name ∷ ns) (operation-names (a + actions_in o.body) os)

-- ---- Bounds and the sequencing register, where there is no fault.

or-none : (d : Description) (xs ys : List Fault) → Rules.first_faults d no_places xs ys ≡ [] → (xs ≡ []) × (ys ≡ [])
or-none d [] ys e = (refl, e)
or-none d (x ∷ xs) ys e = absurd (let z : ◌≡◌ {A = ℕ} 0 1 = cc in omega arith)

module _ (d : Description) where
  -- The faults of facility i are none.
  pub record Clean (f : Facility) : Type 0 where
    pub words : Small f.words
    pub bits : Small f.bits
    pub register : is_sequencing f.kind ≡ true → word_length f ≤ longest

  clean-one : (n : ℕ) (another : Bool) (before : ℕ) (f : Facility) → Rules.first_faults d no_places (Rules.bounds_faults d no_places f (D.facility_place no_places n)) (Rules.facility_faults d no_places n another before f (D.facility_place no_places n)) ≡ [] → Clean f
  unfolding Rules.bounds_faults Rules.facility_faults Rules.sequencing_right largest_bound
  clean-one n another before f e =
      let p = D.facility_place no_places n in
      let y = or-none d (Rules.bounds_faults d no_places f p) _ e in
      let bf : ℕ → Position → List Fault = λ k at. unless (leb k largest_bound) at BadSubscript in
      let b1 = append-none-left (bf f.words.first p.words_first) _ y.0 in
      let r1 = append-none-right (bf f.words.first p.words_first) _ y.0 in
      let b2 = append-none-left (bf f.words.last p.words_last) _ r1 in
      let r2 = append-none-right (bf f.words.last p.words_last) _ r1 in
      let b3 = append-none-left (bf f.bits.first p.bits_first) _ r2 in
      let b4 = append-none-right (bf f.bits.first p.bits_first) _ r2 in
      record {
        words = record { first = leb-true _ _ (unless-none (leb f.words.first largest_bound) p.words_first BadSubscript b1); last = leb-true _ _ (unless-none (leb f.words.last largest_bound) p.words_last BadSubscript b2) };
        bits = record { first = leb-true _ _ (unless-none (leb f.bits.first largest_bound) p.bits_first BadSubscript b3); last = leb-true _ _ (unless-none (leb f.bits.last largest_bound) p.bits_last BadSubscript b4) };
        register = λ q. sequenced q (unless-none (cond (is_sequencing f.kind) (Rules.sequencing_right d no_places another f) true) p.name BadSequencing (append-none-left _ _ y.1));
      }
    where
      sequenced : is_sequencing f.kind ≡ true → cond (is_sequencing f.kind) (both (cond another false true) (both (leb f.dimensions 1) (leb (word_length f) longest))) true ≡ true → word_length f ≤ longest
      sequenced q k = leb-true _ _ (right_of (leb f.dimensions 1) _ (right_of (cond another false true) _ (rw q at k)))

  clean_at : (fs : List Facility) (n i : ℕ) (another : Bool) (before : ℕ) → Rules.facilities_faults d no_places n another before fs ≡ [] → i < length fs → Clean (get_or fs i D.no_facility)
  unfolding Rules.facilities_faults
  clean_at [] n i another before e l = absurd (omega arith)
  clean_at (f ∷ fs) n zero another before e l = clean-one n another before f (append-none-left _ _ e)
  clean_at (f ∷ fs) n (suc i) another before e l =
      clean_at fs (suc n) i (another || is_sequencing f.kind) (before + facility_bytes f)
      (append-none-right (Rules.first_faults d no_places (Rules.bounds_faults d no_places f (D.facility_place no_places n)) (Rules.facility_faults d no_places n another before f (D.facility_place no_places n))) _ e) (omega arith)

-- A word has at least one bit.
some_bits : (f : Facility) → 1 ≤ word_length f
unfolding word_length D.span_of
some_bits f = go (eqb f.dimensions 0) (leb f.bits.first f.bits.last)
  where
    go : (a b : Bool) → 1 ≤ cond a 1 (cond b (f.bits.last - f.bits.first + 1) (f.bits.first - f.bits.last + 1))
    go true b = omega arith
    go false true = omega arith
    go false false = omega arith

-- ---- The text of a description.

module _ (d : Description) (form : legal_form d ≡ true) (plain : (f : ℕ) → f < length d.facilities → is_computed (facility_at d f).kind ≡ false → (facility_at d f).expression ≡ 0) where
  canonical-so : canonical d ≡ true
  unfolding legal_form
  canonical-so = left-of (canonical d) _ form

  none-length : {A : Type 0} (xs : List A) → length xs ≡ 0 → xs ≡ []
  none-length [] e = refl
  none-length (x ∷ xs) e = absurd (omega (arith, e))

  none-there : faults d no_places ≡ []
  unfolding legal_form
  none-there = none-length (faults d no_places) (eqb-true _ _ (right_of (canonical d) _ form))

  -- The parts of the form.
  record Form : Type 0 where
    counts : counts_right d ≡ true
    facilities : facilities_right 0 d.facilities ≡ true
    facility-named : all (λ f. name_right f.name) d.facilities ≡ true
    operation-named : all (λ o. name_right o.name) d.operations ≡ true
    labelled : all (λ s. label_right s.name s.value) d.states ≡ true
    trees : trees_right d ≡ true
    runs : runs_right d ≡ true

  parts : Form
  unfolding canonical
  parts =
      let e1 = right_of (counts_right d) _ canonical-so in
      let e2 = right_of (facilities_right 0 d.facilities) _ e1 in
      let e3 = right_of (all (λ f. name_right f.name) d.facilities) _ e2 in
      let e4 = right_of (all (λ o. name_right o.name) d.operations) _ e3 in
      let e5 = right_of (all (λ s. label_right s.name s.value) d.states) _ e4 in
      record {
        counts = left-of (counts_right d) _ canonical-so;
        facilities = left-of (facilities_right 0 d.facilities) _ e1;
        facility-named = left-of _ _ e2;
        operation-named = left-of _ _ e3;
        labelled = left-of _ _ e4;
        trees = left-of (trees_right d) _ e5;
        runs = right_of (trees_right d) _ e5;
      }

  record Counts : Type 0 where
    few-facilities : length d.facilities ≤ most_facilities
    few-operations : length d.operations ≤ most_operations
    few-states : length d.states ≤ most_states
    states-there : 0 < length d.states
    facilities-there : 0 < length d.facilities
    few-counted : counted_records d ≤ most_counted

  counted-so : Counts
  unfolding counts_right
  counted-so =
      let e1 = right_of (leb (length d.facilities) most_facilities) _ parts.counts in
      let e2 = right_of (leb (length d.operations) most_operations) _ e1 in
      let e3 = right_of (leb (length d.states) most_states) _ e2 in
      let e4 = right_of (ltb 0 (length d.states)) _ e3 in
      record {
        few-facilities = leb-true _ _ (left-of (leb (length d.facilities) most_facilities) _ parts.counts);
        few-operations = leb-true _ _ (left-of (leb (length d.operations) most_operations) _ e1);
        few-states = leb-true _ _ (left-of (leb (length d.states) most_states) _ e2);
        states-there = ltb-true _ _ (left-of (ltb 0 (length d.states)) _ e3);
        facilities-there = ltb-true _ _ (left-of (ltb 0 (length d.facilities)) _ e4);
        few-counted = leb-true _ _ (right_of (ltb 0 (length d.facilities)) _ e4);
      }

  -- ---- What holds by number.

  clean : (f : ℕ) → f < length d.facilities → Clean d (facility_at d f)
  unfolding facility_at faults
  clean f l = clean_at d d.facilities 0 f false 0 (append-none-left _ _ (append-none-right (name_faults [] (names_of d) (name_places no_places)) _ none-there)) l

  facility-right : (f : ℕ) → f < length d.facilities → name_right (facility_at d f).name ≡ true
  unfolding facility_at
  facility-right f l = all-at (λ (x : Facility). name_right x.name) d.facilities D.no_facility f parts.facility-named l

  operation-right : (o : ℕ) → o < length d.operations → name_right (operation_at d o).name ≡ true
  unfolding operation_at
  operation-right o l = all-at (λ (x : Operation). name_right x.name) d.operations (record { name = []; body = D.no_run }) o parts.operation-named l

  label-right : (s : ℕ) → s < length d.states → label_right (state_at d s).name (state_at d s).value ≡ true
  unfolding state_at
  label-right s l = all-at (λ (x : State). label_right x.name x.value) d.states (record { name = []; value = none; actions = D.no_run }) s parts.labelled l

  abbrev facility_names : List Name
  facility_names = map (λ f. f.name) d.facilities

  abbrev operation_names : List Name
  operation_names = map (λ o. o.name) d.operations

  abbrev state_names : List Name
  state_names = map (λ s. s.name) d.states

  once-named : Once (facility_names ++ (operation_names ++ state_names))
  unfolding faults
  once-named = once (names_of d) (name_places no_places) (append-none-left _ _ none-there)

  register-length : (l : ℕ) → sequencing_length d no_places ≡ some l → (1 ≤ l) × (l ≤ longest)
  unfolding sequencing_length sequencing_of facility_at
  register-length l e = go (sequencing_from 0 d.facilities) refl e
    where
      go : (x : Option ℕ) → sequencing_from 0 d.facilities ≡ x → Rules.length_if_any d no_places x ≡ some l → (1 ≤ l) × (l ≤ longest)
      go none q k = absurd (let z : ◌≡◌ {A = ℕ} 0 1 = cc in omega arith)
      go (some n) q k =
          let y = found_from 0 n d.facilities q in
          let z : word_length (facility_at d n) ≡ l = cc in
          let same : n ≡ y.0 = omega (arith, y.1) in
          let i : n < length d.facilities = let j = y.2.inside in omega (arith, same, j) in
          let s : is_sequencing (get_or d.facilities n D.no_facility).kind ≡ true = rw same y.2.sequencing in
          (rw (← z) (some_bits (facility_at d n)), rw (← z) ((clean n i).register s))

  -- ---- Where the trees and the runs of the sections end.

  record Ends : Type 0 where
    first : ℕ
    second : ℕ
    operations-at : ℕ
    terminals : trees_end d 0 (facility_roots d d.facilities) ≡ some first
    operations : trees_end d first (operation_roots d d.operations) ≡ some second
    states : trees_end d second (state_roots d d.states) ≡ some (length d.expressions)
    operation-runs : operations_end d 0 d.operations ≡ some operations-at
    state-runs : states_end d operations-at d.states ≡ some (length d.actions)

  at-end : (n : ℕ) (x : Option ℕ) → ends_at d n x ≡ true → x ≡ some n
  at-end n none e = absurd (let z : ◌≡◌ {A = ℕ} 0 1 = cc in omega arith)
  at-end n (some m) e = ap some (eqb-true m n e)

  ends : Ends
  unfolding trees_right runs_right
  ends =
      let a = trees-split d 0 (facility_roots d d.facilities) (operation_roots d d.operations ++ state_roots d d.states) (length d.expressions) (at-end _ _ parts.trees) in
      let b = trees-split d a.middle (operation_roots d d.operations) (state_roots d d.states) (length d.expressions) a.right in
      by_runs a.middle b.middle a.left b.left b.right (operations_end d 0 d.operations) refl (at-end _ _ parts.runs)
    where
      by_runs : (m n : ℕ) → trees_end d 0 (facility_roots d d.facilities) ≡ some m → trees_end d m (operation_roots d d.operations) ≡ some n → trees_end d n (state_roots d d.states) ≡ some (length d.expressions)
          → (x : Option ℕ) → operations_end d 0 d.operations ≡ x → ending x (λ at. states_end d at d.states) ≡ some (length d.actions) → Ends
      by_runs m n p q r none e k = absurd (let z : ◌≡◌ {A = ℕ} 0 1 = cc in omega arith)
      by_runs m n p q r (some o) e k = record { first = m; second = n; operations-at = o; terminals = p; operations = q; states = r; operation-runs = e; state-runs = k }

  -- ---- The sections' trees.

  bits_small : (f : ℕ) → f < length d.facilities → Small (facility_at d f).bits
  bits_small f l = (clean f l).bits

  abbrev Declared : Type 0
  Declared = F.Sections d none-there (λ f l. ((clean f l).words, (clean f l).bits)) plain facility-right 0 0 0 ends.first [] d.facilities

  once-facilities : Once facility_names
  once-facilities = once-front facility_names (operation_names ++ state_names) once-named

  declared : Declared
  declared = F.sections d none-there (λ f l. ((clean f l).words, (clean f l).bits)) plain facility-right once-facilities ends.first parts.facilities ends.terminals

  defined : O.Defined d none-there bits_small facility-right operation-right state_names once-named 0 ends.first ends.second 0 d.operations
  defined = O.defined d none-there bits_small facility-right operation-right state_names once-named ends.first ends.second ends.operations-at ends.operation-runs ends.operations

  stated : S.Stated d none-there bits_small facility-right operation-right label-right register-length once-named 0 ends.second (length d.expressions) ends.operations-at d.states
  stated = S.stated d none-there bits_small facility-right operation-right label-right register-length once-named ends.second (length d.expressions) ends.operations-at (length d.actions) ends.state-runs ends.states

  abbrev declarations : List Declaration
  declarations = declared.registers ++ (declared.memories ++ declared.terminals)

  abbrev text_of : Text
  text_of = record { registers = declared.registers; memories = declared.memories; terminals = declared.terminals; operations = defined.tree; states = stated.tree }

  -- ---- It describes d.

  names_same : map (λ x. x.name) declarations ≡ facility_names
  names_same = sym (facility-names 0 declarations) ∙ ap (map (λ (f : Facility). f.name)) declared.same

  operations-same : map (λ o. o.name) defined.tree ≡ operation_names
  operations-same = sym (operation-names 0 defined.tree) ∙ ap (map (λ (o : Operation). o.name)) defined.same

  length-same : X.length_at d.facilities (sequencing_from 0 d.facilities) ≡ sequencing_length d no_places
  unfolding sequencing_length sequencing_of facility_at
  length-same = go (sequencing_from 0 d.facilities) refl
    where
      go : (x : Option ℕ) → sequencing_from 0 d.facilities ≡ x → X.length_at d.facilities x ≡ Rules.length_if_any d no_places x
      go none q = refl
      go (some n) q = rw (le-leb (word_length (facility_at d n)) longest (register-length (word_length (facility_at d n)) (ap (Rules.length_if_any d no_places) q)).1)

  first-same : function_sizes declarations ≡ ends.first
  first-same = let z = declared.size in omega (arith, z)

  second-same : ends.first + operation_expressions defined.tree ≡ ends.second
  second-same = defined.size

  runs_same : operation_records defined.tree ≡ ends.operations-at
  runs_same =
      let e = operations-end d 0 defined.tree in
      let f : operations_end d 0 d.operations ≡ some (0 + operation_records defined.tree) = rw defined.same at e in
      let g : some ends.operations-at ≡ some (0 + operation_records defined.tree) = sym ends.operation-runs ∙ f in
      let z : ends.operations-at ≡ 0 + operation_records defined.tree = cc in
      omega (arith, z)

  -- What the text's pieces make, for these names, lengths and numbers.
  abbrev expressions_of : List Name → List Name → List Name → Option ℕ → ℕ → ℕ → List Noted
  expressions_of ns os ls l x y =
      facility_nodes [] 0 declarations ++ (operation_nodes ns [] x defined.tree ++ state_nodes l (record { facilities = ns; operations = os; state_named = by_labels ls }) y stated.tree)

  abbrev actions_of' : List Name → List Name → List Name → Option ℕ → ℕ → ℕ → List NotedAction
  actions_of' ns os ls l x y = operation_actions ns [] x defined.tree ++ state_actions l (record { facilities = ns; operations = os; state_named = by_labels ls }) y stated.tree

  assembled : List Facility → List Name → List Name → List Name → Option ℕ → ℕ → ℕ → ℕ → Description
  assembled fs ns os ls l x y a = record {
    facilities = fs;
    operations = operations_of 0 defined.tree;
    expressions = map (λ n. n.node) (expressions_of ns os ls l x y);
    actions = map (λ n. n.action) (actions_of' ns os ls l x y);
    states = states_of l y a stated.tree;
  }

  as-assembled : (describe text_of).description ≡ assembled (facilities_of 0 declarations) (map (λ x. x.name) declarations) (map (λ o. o.name) defined.tree) (map (λ s. X.label_of s.label) stated.tree)
      (X.length_at (facilities_of 0 declarations) (sequencing_from 0 (facilities_of 0 declarations))) (function_sizes declarations) (function_sizes declarations + operation_expressions defined.tree) (operation_records defined.tree)
  unfolding describe assembled
  as-assembled = refl

  abbrev register : Option ℕ
  register = sequencing_length d no_places

  abbrev all_nodes : List Noted
  all_nodes = expressions_of facility_names operation_names state_names register ends.first ends.second

  abbrev all_actions : List NotedAction
  all_actions = actions_of' facility_names operation_names state_names register ends.first ends.second

  abbrev scope : Scope
  scope = record { facilities = facility_names; operations = operation_names; state_named = by_labels state_names }

  nodes-stand : Stand d 0 all_nodes
  nodes-stand =
      let us = facility_nodes [] 0 declarations in
      let vs = operation_nodes facility_names [] ends.first defined.tree in
      let a = facilities-nodes [] 0 declarations in
      let b = operations-nodes facility_names [] ends.first defined.tree in
      let f = first-same in
      let s = second-same in
      stand-append d scope 0 ends.first us _ declared.stands (omega (arith, a, f))
      (stand-append d scope ends.first ends.second vs _ defined.stands (omega (arith, b, s)) stated.stands)

  nodes-length : length d.expressions ≡ length all_nodes
  nodes-length =
      let us = facility_nodes [] 0 declarations in
      let vs = operation_nodes facility_names [] ends.first defined.tree in
      let ws = state_nodes register scope ends.second stated.tree in
      omega (arith, length-append us (vs ++ ws), length-append vs ws, facilities-nodes [] 0 declarations, operations-nodes facility_names [] ends.first defined.tree, states-nodes register scope ends.second stated.tree, first-same, second-same, stated.size)

  stand-actions : (i at : ℕ) (xs ys : List NotedAction) → StandActions d i xs → at ≡ i + length xs → StandActions d at ys → StandActions d i (xs ++ ys)
  stand-actions i at [] ys h e k = let z : at ≡ i = omega (arith, e) in rw z at k
  stand-actions i at (x ∷ xs) ys h e k = (h.0, stand-actions (suc i) at xs ys h.1 (omega (arith, e)) k)

  actions-stand : StandActions d 0 all_actions
  actions-stand =
      let us = operation_actions facility_names [] ends.first defined.tree in
      let a = operations-size facility_names [] ends.first defined.tree in
      let b = runs_same in
      stand-actions 0 ends.operations-at us _ defined.acting (omega (arith, a, b)) stated.acting

  actions-length : length d.actions ≡ length all_actions
  actions-length =
      let us = operation_actions facility_names [] ends.first defined.tree in
      let ws = state_actions register scope ends.second stated.tree in
      let e = states-end d register ends.second ends.operations-at stated.tree in
      let f : states_end d ends.operations-at d.states ≡ some (ends.operations-at + state_records stated.tree) = rw stated.same at e in
      let g : some (length d.actions) ≡ some (ends.operations-at + state_records stated.tree) = sym ends.state-runs ∙ f in
      let z : length d.actions ≡ ends.operations-at + state_records stated.tree = cc in
      omega (arith, z, length-append us ws, operations-size facility_names [] ends.first defined.tree, states-size register scope ends.second stated.tree, runs_same)

  zero-and : (n : ℕ) → 0 + n ≡ n
  zero-and n = omega arith

  same-nodes-so : map (λ n. n.node) all_nodes ≡ d.expressions
  unfolding node_at
  same-nodes-so = same_nodes d 0 d.expressions all_nodes (λ i. rw (zero-and i) refl) nodes-length nodes-stand

  same-actions-so : map (λ n. n.action) all_actions ≡ d.actions
  unfolding action_at
  same-actions-so = same-actions d 0 d.actions all_actions (λ i. rw (zero-and i) refl) actions-length actions-stand

  describes : (describe text_of).description ≡ d
  unfolding assembled
  describes =
      as-assembled
      ∙ rw (
        declared.same,
        names_same,
        operations-same,
        stated.labels-so,
        length-same,
        first-same,
        second-same,
        runs_same,
        defined.same,
        stated.same,
        same-nodes-so,
        same-actions-so,
      ) refl

  -- ---- It is legal.

  said : Said (λ h ws. Is N.whole_text h ws (N.text text_of))
  said =
      text-said declared.registers declared.memories declared.terminals defined.tree stated.tree
      (declaration-said declared.registers declared.memories declared.terminals some-facility declared.register-specs declared.memory-specs declared.terminal-specs)
      (operations-said defined.tree defined.words defined.right defined.depth defined.derived)
      (states-said stated.tree stated.words some-state stated.right stated.depth stated.derived)
    where
      facilities-there : 0 < length d.facilities
      facilities-there = counted-so.facilities-there

      some-facility : declarations ≡ [] → ⊥
      some-facility q =
          let a = ap length declared.same in
          let b = facilities-count 0 declarations in
          let c : length declarations ≡ 0 = ap length q in
          omega (arith, a, b, c, facilities-there)

      some-state : stated.tree ≡ [] → ⊥
      some-state q =
          let a = ap length stated.same in
          let b = states-count register ends.second ends.operations-at stated.tree in
          let c : length stated.tree ≡ 0 = ap length q in
          omega (arith, a, b, c, counted-so.states-there)

  within : WithinCeilings text_of
  unfolding counted_words counted_records
  within =
      let fc = counted-so.few-facilities in
      let fs = ap length declared.same in
      let fn = facilities-count 0 declarations in
      let l1 = length-append declared.registers (declared.memories ++ declared.terminals) in
      let l2 = length-append declared.memories declared.terminals in
      let oc = counted-so.few-operations in
      let os = ap length defined.same in
      let on = operations-count 0 defined.tree in
      let sc = counted-so.few-states in
      let ss = ap length stated.same in
      let sn = states-count register ends.second ends.operations-at stated.tree in
      record {
        facilities = omega (arith, fc, fs, fn, l1, l2);
        operations = omega (arith, oc, os, on);
        states = omega (arith, sc, ss, sn);
        counted = all-counted;
      }
    where
      text-tidy : TextTidy text_of
      text-tidy = tidy (said.derived said.depth (omega arith)) said.right

      us : List Noted
      us = facility_nodes [] 0 declarations

      vs : List Noted
      vs = operation_nodes facility_names [] ends.first defined.tree

      ws : List Noted
      ws = state_nodes register scope ends.second stated.tree

      all-counted : counted_terminals declared.terminals + counted_operations defined.tree + counted_states stated.tree ≤ most_counted
      all-counted =
          let records = counted-so.few-counted in
          let ns : total node_count d.expressions ≡ nodes all_nodes = ap (total node_count) (sym (same-nodes-so)) in
          let as' : total action_count d.actions ≡ acts all_actions = ap (total action_count) (sym (same-actions-so)) in
          let ls : total left_count d.actions ≡ lefts all_actions = ap (total left_count) (sym (same-actions-so)) in
          let t = terminals-alone text_of text-tidy in
          omega (
            arith,
            records,
            ns,
            as',
            ls,
            t,
            nodes-append us (vs ++ ws),
            nodes-append vs ws,
            acts-append (operation_actions facility_names [] ends.first defined.tree) (state_actions register scope ends.second stated.tree),
            lefts-append (operation_actions facility_names [] ends.first defined.tree) (state_actions register scope ends.second stated.tree),
            declared.counted,
            defined.counted,
            stated.counted,
          )

  pub record TextOf : Type 0 where
    pub tree : Text
    pub legal : Image.Legal tree
    pub described : (describe tree).description ≡ d

  pub text-of : TextOf
  text-of = record {
    tree = text_of;
    legal = record {
      words = said.words;
      nesting = said.depth;
      right = said.right;
      derived = said.derived said.depth (omega arith);
      within = within;
      faultless = faultless-anywhere (describe text_of).description no_places (describe text_of).places (rw describes none-there);
    };
    described = describes;
  }
