-- The facilities of a description in legal form are those of declarations, section by section. Assumes nothing.
use Rattle.std.specs.Prelude.{true, false, refl, leb, get_or, take}
use mathlib.Core.List.{List, [], ◌∷◌, ◌++◌, map}
use Rattle.std.proofs.Math.Option.{Option, some}
use Rattle.std.proofs.Math.Path.{◌≡◌, subst}
use Rattle.std.proofs.Common.{sym, ap, ◌∙◌, leb-true}
use native.Mathlib.Omega.{arith}
use Prim.Native.Nat.{ℕ, zero, suc, ◌+◌, ◌≤◌, ◌<◌, max}
use Rattle.std.proofs.Math.ListN.{get_or-map, length, length-take}
use Rattle.std.proofs.lemmas.List.{length-map}
use Rattle.language.specs.Canonical.{facilities_right, facility_right, most_dimensions, name_right, rank_of, total}
use Rattle.language.specs.CountedWords.{counted_terminals}
use Rattle.language.specs.DescribeText.{facilities_of, facility_nodes, function_nodes, function_size, function_sizes}
use Rattle.language.specs.Description as D
use Rattle.language.specs.Description.{Description, Facility, facility_at, is_computed, node_place, no_places}
use Rattle.language.specs.Expressions as E
use Rattle.language.specs.Expressions.{terminal_below, terminal_judged}
use Rattle.language.specs.Grammar as G
use Rattle.language.specs.Grammar.{Is}
use Rattle.language.specs.Image.{WordsRight}
use Rattle.language.specs.Kinds.{comma, hash}
use Rattle.language.specs.Naming.{Scope, no_state}
use Rattle.language.specs.Notions as N
use Rattle.language.specs.Notions.{Notion, facilities}
use Rattle.language.specs.Order.{facility_roots, function_root, start_at, trees_end}
use Rattle.language.specs.Rules.{faults}
use Rattle.language.specs.Tree as T
use Rattle.language.specs.Tree.{Declaration, Kind, Name}
use Rattle.language.specs.Words as W
use Rattle.language.specs.Words.{Word, sign}
use Rattle.about_rules.specs.Counted.{nodes, nodes-append}
use Rattle.about_rules.specs.Sizes.{function-size}
use Rattle.about_rules.specs.Starts.{Stand}
use Rattle.about_texts.specs.Declarations.{Declares, Dimensioned, computed-declares, dimensioned, input-declares, plain-declares, spec_of}
use Rattle.about_texts.specs.Derivations.{here}
use Rattle.about_texts.specs.Names.{Apart, Once, means-facility}
use Rattle.about_texts.specs.Placed.{stand-append}
use Rattle.about_texts.specs.Rebuilt.{Knows, Rebuilt, rebuilt, words-both}
use Rattle.about_texts.specs.References.{Small}
use Rattle.about_running.specs.Judged.{proper-fine}
use Rattle.about_running.specs.LegalForm.{terminals-fine, left-of, right_of}
use Rattle.about_running.specs.Ordered.{tree-first}

-- ---- Lists.

pub get_d_take : (xs : List Name) (n i : ℕ) → i < n → get_or (take n xs) i [] ≡ get_or xs i []
get_d_take xs zero i l = absurd (omega arith)
get_d_take [] (suc n) i l = refl
get_d_take (x ∷ xs) (suc n) zero l = refl
get_d_take (x ∷ xs) (suc n) (suc i) l = get_d_take xs n i (omega arith)

pub take-take : (xs : List Name) (n i : ℕ) → i < n → take i (take n xs) ≡ take i xs
take-take xs n zero l = refl
take-take xs zero (suc i) l = absurd (omega arith)
take-take [] (suc n) (suc i) l = refl
take-take (x ∷ xs) (suc n) (suc i) l = ap (λ (ys : List Name). x ∷ ys) (take-take xs n i (omega arith))

pub take_more : (xs : List Name) (n : ℕ) → n < length xs → take n xs ++ get_or xs n [] ∷ [] ≡ take (suc n) xs
take_more [] n l = absurd (omega arith)
take_more (x ∷ xs) zero l = refl
take_more (x ∷ xs) (suc n) l = ap (λ (ys : List Name). x ∷ ys) (take_more xs n (omega arith))

pub empty-wrong : name_right [] ≡ true → ⊥
unfolding name_right
empty-wrong e = let z : ◌≡◌ {A = ℕ} 0 1 = cc in omega arith

-- ---- Declarations of one section, with commas between them.

abbrev pub specs_of : ℕ → Notion
specs_of zero = N.register_specs
specs_of (suc zero) = N.memory_specs
specs_of (suc (suc n)) = N.terminal_specs

abbrev pub Some : {A : Type 0} → List A → Type 0
Some xs = xs ≡ [] → ⊥

pub record Specs (rank : ℕ) (ds : List Declaration) : Type 0 where
  pub words : List Word
  pub right : WordsRight words
  pub depth : ℕ
  pub derived : Some ds → (h : ℕ) → depth ≤ h → Is (specs_of rank) h words (facilities ds)

no-specs : (rank : ℕ) → Specs rank []
no-specs rank = record { words = []; right = tt; depth = 0; derived = λ some h l. absurd (some refl) }

one_spec : (rank : ℕ) (x : Declaration) {h : ℕ} {ws : List Word} → Is (spec_of rank) h ws (N.facility x) → Is (specs_of rank) h ws (facilities (x ∷ []))
one_spec zero x y = G.registers-one y
one_spec (suc zero) x y = G.memories-one y
one_spec (suc (suc n)) x y = G.terminals-one y

more-specs : (rank : ℕ) (x : Declaration) (ds : List Declaration) {h : ℕ} {us vs : List Word} → Is (spec_of rank) h us (N.facility x) → Is (specs_of rank) h vs (facilities ds) → Is (specs_of rank) h (us ++ sign comma here ∷ vs) (facilities (x ∷ ds))
more-specs zero x ds y z = G.registers-more here y z
more-specs (suc zero) x ds y z = G.memories-more here y z
more-specs (suc (suc n)) x ds y z = G.terminals-more here y z

add_spec : (rank : ℕ) (x : Declaration) (ds : List Declaration) (ws : List Word) → WordsRight ws → (n : ℕ) → ((h : ℕ) → n ≤ h → Is (spec_of rank) h ws (N.facility x)) → Specs rank ds → Specs rank (x ∷ ds)
add_spec rank x [] ws w n y S = record { words = ws; right = w; depth = n; derived = λ some h l. one_spec rank x (y h l) }
add_spec rank x (e ∷ ds) ws w n y S = record {
  words = ws ++ sign comma here ∷ S.words;
  right = words-both ws _ w (tt, S.right);
  depth = max n S.depth;
  derived = λ some h l. more-specs rank x (e ∷ ds) (y h (omega (arith, l))) (S.derived (λ q. let z : ◌≡◌ {A = ℕ} 0 1 = cc in omega arith) h (omega (arith, l)));
}

dimensions-few : (f : Facility) → facility_right f ≡ true → f.dimensions ≤ most_dimensions f.kind
unfolding facility_right
dimensions-few f e = leb-true _ _ (left-of _ _ e)

rank-two : (k : Kind) (r : ℕ) → rank_of k ≡ suc (suc r) → suc (suc r) ≡ 2
rank-two T.register r e = absurd (omega (arith, e))
rank-two T.sequencing r e = absurd (omega (arith, e))
rank-two T.memory r e = absurd (omega (arith, e))
rank-two T.plain r e = sym e
rank-two T.input r e = sym e
rank-two T.computed r e = sym e

-- ---- The facilities from number n on.

module _ (d : Description) (none-there : faults d no_places ≡ [])
    (small : (f : ℕ) → f < length d.facilities → Small (facility_at d f).words × Small (facility_at d f).bits)
    (plain : (f : ℕ) → f < length d.facilities → is_computed (facility_at d f).kind ≡ false → (facility_at d f).expression ≡ 0)
    (right-names : (f : ℕ) → f < length d.facilities → name_right (facility_at d f).name ≡ true) where
  abbrev scope_of : List Name → Scope
  scope_of before = record { facilities = before; operations = []; state_named = no_state }

  -- The names before are those of the facilities below n.
  pub record Before (before : List Name) (n : ℕ) : Type 0 where
    pub count : length before ≡ n
    pub known : n ≤ length d.facilities
    pub names : (f : ℕ) → f < n → get_or before f [] ≡ (facility_at d f).name
    pub apart : (f : ℕ) → f < n → Apart (get_or before f []) (take f before)

  pub knows_before : (before : List Name) (n : ℕ) → Before before n → Knows d (scope_of before) n
  knows_before before n b = record {
    means = λ f l. let c = b.count in let y = means-facility (scope_of before) f (omega (arith, c, l)) (b.apart f l) in rw (b.names f l) at y;
    right = λ f l. let k = b.known in right-names f (omega (arith, k, l));
    bits = λ f l. let k = b.known in (small f (omega (arith, k, l))).1;
  }

  -- The expression of a computed terminal.
  terminal-built : (n s : ℕ) (before : List Name) (b : Before before n) → n < length d.facilities → is_computed (facility_at d n).kind ≡ true → start_at d (facility_at d n).expression ≡ some s
      → Rebuilt d (scope_of before) n (knows_before before n b) (terminal_below d no_places n) (facility_at d n).expression s 0
  unfolding terminal_judged
  terminal-built n s before b l c o =
      let y = terminals-fine d none-there n l c in
      let z = proper-fine (node_place no_places (facility_at d n).expression).at (E.judge_at d no_places (terminal_below d no_places n) n (facility_at d n).expression) y.1 in
      subst (Rebuilt d (scope_of before) n (knows_before before n b) (terminal_below d no_places n) (facility_at d n).expression s) z.arms
      (rebuilt d (scope_of before) n (knows_before before n b) (terminal_below d no_places n) (facility_at d n).expression s y.0 z.same o)

  -- One facility, and where the next one's expression begins.
  declares-one : (n s : ℕ) (before : List Name) (rs : List ℕ) (m : ℕ) (f : Facility) → facility_at d n ≡ f → n < length d.facilities → Before before n → facility_right f ≡ true
      → trees_end d s (function_root d f f.kind ++ rs) ≡ some m → (o : ℕ) × (Declares d (scope_of before) f s o × (trees_end d o rs ≡ some m))
  declares-one n s before rs m f q l b r g = go f.kind refl g
    where
      Dm : Dimensioned f
      Dm = dimensioned f r (subst (λ (x : Facility). Small x.words) q (small n l).0) (subst (λ (x : Facility). Small x.bits) q (small n l).1)

      name-so : name_right f.name ≡ true
      name-so = subst (λ (x : Facility). name_right x.name ≡ true) q (right-names n l)

      no-expression : is_computed f.kind ≡ false → f.expression ≡ 0
      no-expression e = subst (λ (x : Facility). x.expression ≡ 0) q (plain n l (subst (λ (x : Facility). is_computed x.kind ≡ false) (sym q) e))

      few : (k : Kind) → f.kind ≡ k → f.dimensions ≤ most_dimensions k
      few k e = subst (λ (x : Kind). f.dimensions ≤ most_dimensions x) e (dimensions-few f r)

      named : WordsRight (W.name f.name here ∷ Dm.words)
      named = (name-so, Dm.right)

      go : (k : Kind) → f.kind ≡ k → trees_end d s (function_root d f k ++ rs) ≡ some m → (o : ℕ) × (Declares d (scope_of before) f s o × (trees_end d o rs ≡ some m))
      go T.register e h = (s, (plain-declares d (scope_of before) f s s Dm T.register e (no-expression (rw e refl)) refl (W.name f.name here ∷ Dm.words) named (λ i j. G.a-register (Dm.derived i j)), h))
      go T.sequencing e h = (s, (plain-declares d (scope_of before) f s s Dm T.sequencing e (no-expression (rw e refl)) refl (sign hash here ∷ W.name f.name here ∷ Dm.words) (tt, named) (λ i j. G.a-sequencing (Dm.derived i j)), h))
      go T.memory e h = (s, (plain-declares d (scope_of before) f s s Dm T.memory e (no-expression (rw e refl)) refl (W.name f.name here ∷ Dm.words) named (λ i j. G.a_memory (Dm.derived i j)), h))
      go T.plain e h = (s, (plain-declares d (scope_of before) f s s Dm T.plain e (no-expression (rw e refl)) refl (W.name f.name here ∷ Dm.words) named (λ i j. G.a-terminal (Dm.derived i j)), h))
      go T.input e h = (s, (input-declares d (scope_of before) f s s Dm e (few T.input e) (no-expression (rw e refl)) refl name-so, h))
      go T.computed e h =
          let t = tree-first d s f.expression rs m h in
          let x : (facility_at d n).expression ≡ f.expression = ap (λ (y : Facility). y.expression) q in
          let c : is_computed (facility_at d n).kind ≡ true = subst (λ (y : Facility). is_computed y.kind ≡ true) (sym q) (rw e refl) in
          let B = terminal-built n s before b l c (rw x t.start) in
          (f.expression + 1, (computed-declares d (scope_of before) f s f.expression Dm n (knows_before before n b) (terminal_below d no_places n) (subst (λ (y : ℕ). Rebuilt d (scope_of before) n (knows_before before n b) (terminal_below d no_places n) y s 0) x B) e (few T.computed e) refl name-so, t.rest))

  -- ---- All of them, by sections.

  pub record Sections (rank n s m : ℕ) (before : List Name) (fs : List Facility) : Type 0 where
    pub registers : List Declaration
    pub memories : List Declaration
    pub terminals : List Declaration
    pub same : facilities_of s (registers ++ (memories ++ terminals)) ≡ fs
    pub no-registers : 1 ≤ rank → registers ≡ []
    pub no-memories : 2 ≤ rank → memories ≡ []
    pub stands : Stand d s (facility_nodes before s (registers ++ (memories ++ terminals)))
    pub size : s + function_sizes (registers ++ (memories ++ terminals)) ≡ m
    pub counted : nodes (facility_nodes before s (registers ++ (memories ++ terminals))) ≡ counted_terminals (registers ++ (memories ++ terminals))
    pub register-specs : Specs 0 registers
    pub memory-specs : Specs 1 memories
    pub terminal-specs : Specs 2 terminals

  none_left : (rank n s m : ℕ) (before : List Name) → s ≡ m → Sections rank n s m before []
  unfolding facilities_of facility_nodes function_sizes counted_terminals total
  none_left rank n s m before e = record {
    registers = [];
    memories = [];
    terminals = [];
    same = refl;
    no-registers = λ l. refl;
    no-memories = λ l. refl;
    stands = tt;
    size = omega (arith, e);
    counted = refl;
    register-specs = no-specs 0;
    memory-specs = no-specs 1;
    terminal-specs = no-specs 2;
  }

  -- A declaration in front of a list of them.
  pub record InFront (f : Facility) (fs : List Facility) (s o m : ℕ) (before : List Name) (x : Declaration) (ds : List Declaration) : Type 0 where
    pub same : facilities_of s (x ∷ ds) ≡ f ∷ fs
    pub stands : Stand d s (facility_nodes before s (x ∷ ds))
    pub size : s + function_sizes (x ∷ ds) ≡ m
    pub counted : nodes (facility_nodes before s (x ∷ ds)) ≡ counted_terminals (x ∷ ds)

  in-front : (f : Facility) (fs : List Facility) (s o m : ℕ) (before : List Name) (X : Declares d (scope_of before) f s o) (ds : List Declaration) → X.declared.name ≡ f.name
      → facilities_of o ds ≡ fs → Stand d o (facility_nodes (before ++ f.name ∷ []) o ds) → o + function_sizes ds ≡ m → nodes (facility_nodes (before ++ f.name ∷ []) o ds) ≡ counted_terminals ds
      → InFront f fs s o m before X.declared ds
  unfolding facilities_of facility_nodes function_sizes counted_terminals
  in-front f fs s o m before X ds q e h z c =
      let os : s + function_size X.declared.function ≡ o = X.size in
      let own = function_nodes (scope_of before) s X.declared.function in
      let a = function-size (scope_of before) s X.declared.function in
      record {
        same = rw (X.same, os, e) refl;
        stands = rw (q, os) (stand-append d (scope_of before) s o own (facility_nodes (before ++ f.name ∷ []) o ds) X.stands (omega (arith, a, os)) h);
        size = omega (arith, os, z);
        counted = rw (q, os) (let b = nodes-append own (facility_nodes (before ++ f.name ∷ []) o ds) in let k = X.counted in omega (arith, b, k, c));
      }

  declared-name : (f : Facility) (s o : ℕ) (before : List Name) (X : Declares d (scope_of before) f s o) → X.declared.name ≡ f.name
  declared-name f s o before X = ap (λ (y : Facility). y.name) X.same

  -- By the rank of the first: the sections before its own are empty.
  put_first : (rank n s o m : ℕ) (before : List Name) (f : Facility) (fs : List Facility) → rank ≤ rank_of f.kind → (X : Declares d (scope_of before) f s o) → Sections (rank_of f.kind) (suc n) o m (before ++ f.name ∷ []) fs → Sections rank n s m before (f ∷ fs)
  put_first rank n s o m before f fs l X S = go (rank_of f.kind) refl
    where
      go : (r : ℕ) → rank_of f.kind ≡ r → Sections rank n s m before (f ∷ fs)
      go zero q =
          let y = in-front f fs s o m before X (S.registers ++ (S.memories ++ S.terminals)) (declared-name f s o before X) S.same S.stands S.size S.counted in
          record {
            registers = X.declared ∷ S.registers;
            memories = S.memories;
            terminals = S.terminals;
            same = y.same;
            no-registers = λ i. absurd (omega (arith, i, l, q));
            no-memories = λ i. absurd (omega (arith, i, l, q));
            stands = y.stands;
            size = y.size;
            counted = y.counted;
            register-specs = add_spec 0 X.declared S.registers X.words X.right X.depth (λ h i. subst (λ (k : ℕ). Is (spec_of k) h X.words (N.facility X.declared)) q (X.derived h i)) S.register-specs;
            memory-specs = S.memory-specs;
            terminal-specs = S.terminal-specs;
          }
      go (suc zero) q =
          let none_before : S.registers ≡ [] = S.no-registers (omega (arith, q)) in
          let same-list : S.registers ++ (S.memories ++ S.terminals) ≡ S.memories ++ S.terminals = ap (λ (xs : List Declaration). xs ++ (S.memories ++ S.terminals)) none_before in
          let y = in-front f fs s o m before X (S.memories ++ S.terminals) (declared-name f s o before X) (rw same-list at S.same) (rw same-list at S.stands) (rw same-list at S.size) (rw same-list at S.counted) in
          record {
            registers = [];
            memories = X.declared ∷ S.memories;
            terminals = S.terminals;
            same = y.same;
            no-registers = λ i. refl;
            no-memories = λ i. absurd (omega (arith, i, l, q));
            stands = y.stands;
            size = y.size;
            counted = y.counted;
            register-specs = no-specs 0;
            memory-specs = add_spec 1 X.declared S.memories X.words X.right X.depth (λ h i. subst (λ (k : ℕ). Is (spec_of k) h X.words (N.facility X.declared)) q (X.derived h i)) S.memory-specs;
            terminal-specs = S.terminal-specs;
          }
      go (suc (suc r)) q =
          let no-reg : S.registers ≡ [] = S.no-registers (omega (arith, q)) in
          let no-mem : S.memories ≡ [] = S.no-memories (omega (arith, q)) in
          let same-list : S.registers ++ (S.memories ++ S.terminals) ≡ S.terminals = ap (λ (xs : List Declaration). xs ++ (S.memories ++ S.terminals)) no-reg ∙ ap (λ (xs : List Declaration). xs ++ S.terminals) no-mem in
          let y = in-front f fs s o m before X S.terminals (declared-name f s o before X) (rw same-list at S.same) (rw same-list at S.stands) (rw same-list at S.size) (rw same-list at S.counted) in
          record {
            registers = [];
            memories = [];
            terminals = X.declared ∷ S.terminals;
            same = y.same;
            no-registers = λ i. refl;
            no-memories = λ i. refl;
            stands = y.stands;
            size = y.size;
            counted = y.counted;
            register-specs = no-specs 0;
            memory-specs = no-specs 1;
            terminal-specs = add_spec 2 X.declared S.terminals X.words X.right X.depth (λ h i. subst (λ (k : ℕ). Is (spec_of k) h X.words (N.facility X.declared)) (q ∙ rank-two f.kind r q) (X.derived h i)) S.terminal-specs;
          }

  -- ---- The names before a number.

  abbrev all_names : List Name
  all_names = map (λ f. f.name) d.facilities

  module _ (once : Once all_names) where
    names-length : length all_names ≡ length d.facilities
    names-length = length-map d.facilities (λ (f : Facility). f.name)

    name-at : (f : ℕ) → get_or all_names f [] ≡ (facility_at d f).name
    unfolding facility_at
    name-at f = get_or-map (λ (x : Facility). x.name) d.facilities f D.no_facility

    some-name : (f : ℕ) → f < length d.facilities → 0 < length (facility_at d f).name
    some-name f l = not-empty (facility_at d f).name (right-names f l)
      where
        not-empty : (n : Name) → name_right n ≡ true → 0 < length n
        not-empty [] e = absurd (empty-wrong e)
        not-empty (b ∷ n) e = omega arith

    before-so : (n : ℕ) → n ≤ length d.facilities → Before (take n all_names) n
    unfolding Once
    before-so n l = record {
      count = let a = length-take n all_names in let b = names-length in omega (arith, a, b, l);
      known = l;
      names = λ f h. get_d_take all_names n f h ∙ name-at f;
      apart = λ f h. rw (get_d_take all_names n f h, take-take all_names n f h) (once f (let b = names-length in omega (arith, b, l, h)) (rw (name-at f) (some-name f (omega (arith, l, h)))));
    }

    more-names : (n : ℕ) (f : Facility) → n < length d.facilities → facility_at d n ≡ f → take n all_names ++ f.name ∷ [] ≡ take (suc n) all_names
    more-names n f l q = ap (λ (x : Name). take n all_names ++ x ∷ []) (sym (name-at n ∙ ap (λ (y : Facility). y.name) q)) ∙ take_more all_names n (let b = names-length in omega (arith, b, l))

    from : (rank n s m : ℕ) (fs : List Facility) → facilities_right rank fs ≡ true → n + length fs ≡ length d.facilities → ((j : ℕ) → j < length fs → facility_at d (n + j) ≡ get_or fs j D.no_facility)
        → trees_end d s (facility_roots d fs) ≡ some m → Sections rank n s m (take n all_names) fs
    unfolding facilities_right facility_roots trees_end
    from rank n s m [] r c h g = none_left rank n s m (take n all_names) (let z : ◌≡◌ {A = Option ℕ} (some s) (some m) = g in cc)
    from rank n s m (f ∷ fs) r c h g =
        let z : n + 0 ≡ n = omega arith in
        let q : facility_at d n ≡ f = rw z at (h 0 (omega arith)) in
        let l : n < length d.facilities = omega (arith, c) in
        let r1 = left-of (leb rank (rank_of f.kind)) _ r in
        let r2 = right_of (leb rank (rank_of f.kind)) _ r in
        let y = declares-one n s (take n all_names) (facility_roots d fs) m f q l (before-so n (omega (arith, l))) (left-of (facility_right f) _ r2) g in
        let S = from (rank_of f.kind) (suc n) y.0 m fs (right_of (facility_right f) _ r2) (omega (arith, c)) (λ j i. let w : n + suc j ≡ suc n + j = omega arith in rw w at (h (suc j) (omega (arith, i)))) y.1.1 in
        put_first rank n s y.0 m (take n all_names) f fs (leb-true _ _ r1) y.1.0 (subst (λ (b : List Name). Sections (rank_of f.kind) (suc n) y.0 m b fs) (sym (more-names n f l q)) S)

    pub sections : (m : ℕ) → facilities_right 0 d.facilities ≡ true → trees_end d 0 (facility_roots d d.facilities) ≡ some m → Sections 0 0 0 m [] d.facilities
    unfolding facility_at
    sections m r g = from 0 0 0 m d.facilities r (omega arith) (λ j i. let z : 0 + j ≡ j = omega arith in rw z refl) g
