-- The operations of a description in legal form are those of definitions. Assumes nothing.
use Rattle.std.specs.Prelude.{Bool, get_or, length}
use Rattle.std.proofs.Math.Bool.{true, false, cond}
use mathlib.Core.List.{List, [], ◌∷◌, ◌++◌, map}
use Rattle.std.proofs.Math.Option.{Option, none, some}
use Rattle.std.proofs.Math.Path.{◌≡◌, refl, subst}
use Rattle.std.proofs.Common.{sym, ap, ◌∙◌, length-append}
use native.Mathlib.Omega.{arith}
use Prim.Native.Nat.{ℕ, zero, suc, ◌+◌, ◌≤◌, ◌<◌, max}
use borrow.Author.Tests.{eqb-true, ltb-true, ltb-false}
use Rattle.std.proofs.Math.Dec.{eqb, eqb-suc-zero, ltb}
use Rattle.std.proofs.Math.ListN.{get_or-map, length-map, length-take, take}
use Rattle.language.specs.ActionRules as J
use Rattle.language.specs.ActionRules.{operation_below, operation_judged, run_judged}
use Rattle.language.specs.Canonical.{name_right, total}
use Rattle.language.specs.CountedWords.{counted_operations}
use Rattle.language.specs.Describe.{actions_in, actions_of, expressions_in, nodes_in}
use Rattle.language.specs.DescribeText as X
use Rattle.language.specs.DescribeText.{operation_actions, operation_expressions, operation_nodes, operation_scope, operations_of}
use Rattle.language.specs.Description as D
use Rattle.language.specs.Description.{Description, Facility, Operation, facility_at, no_places, operation_at}
use Rattle.language.specs.Grammar as G
use Rattle.language.specs.Grammar.{Is}
use Rattle.language.specs.Image.{WordsRight}
use Rattle.language.specs.Judging.{Worth, fine, refuse}
use Rattle.language.specs.Kinds.{close_bracket, comma, equal_sign, open_bracket}
use Rattle.language.specs.Naming.{Scope, meaning, no_state, operation}
use Rattle.language.specs.Notions as N
use Rattle.language.specs.Notions.{operations}
use Rattle.language.specs.Order.{operation_roots, operations_end, run_roots, trees_end}
use Rattle.language.specs.Recursion.{below-ge}
use Rattle.language.specs.declared.refusals.Refusal.TheVariants.{NoContinuation}
use Rattle.language.specs.Rules.{faults}
use Rattle.language.specs.Tree as T
use Rattle.language.specs.Tree.{Name}
use Rattle.language.specs.Words as W
use Rattle.language.specs.Words.{Word, sign}
use Rattle.about_rules.specs.Counted.{acts, acts-append, lefts, lefts-append, nodes, nodes-append}
use Rattle.about_rules.specs.Roots.{StandActions}
use Rattle.about_rules.specs.Sizes.{actions-size, in_size}
use Rattle.about_rules.specs.Starts.{Stand}
use Rattle.about_texts.specs.Derivations.{here}
use Rattle.about_texts.specs.Facilities.{Some, empty-wrong, get_d_take, take_more, take-take}
use Rattle.about_texts.specs.Lists.{Listed, Names, acting-append, listed}
use Rattle.about_texts.specs.Names.{Apart, Once, apart-left, apart-right, means-facility, means-operation, once-behind, once-front, take-front}
use Rattle.about_texts.specs.Placed.{stand-append}
use Rattle.about_texts.specs.Rebuilt.{Knows, words-both}
use Rattle.about_texts.specs.References.{Small}
use Rattle.about_running.specs.Judged.{faulty-fine}
use Rattle.about_running.specs.LegalForm.{operations-fine}
use Rattle.about_running.specs.Ordered.{trees-split}

module _ (d : Description) (none-there : faults d no_places ≡ [])
    (bits : (f : ℕ) → f < length d.facilities → Small (facility_at d f).bits)
    (facility-names : (f : ℕ) → f < length d.facilities → name_right (facility_at d f).name ≡ true)
    (operation-names : (o : ℕ) → o < length d.operations → name_right (operation_at d o).name ≡ true)
    (later : List Name) where
  abbrev facility_names : List Name
  facility_names = map (λ f. f.name) d.facilities

  abbrev operation_names : List Name
  operation_names = map (λ o. o.name) d.operations

  facility-name : (f : ℕ) → get_or facility_names f [] ≡ (facility_at d f).name
  unfolding facility_at
  facility-name f = get_or-map (λ (x : Facility). x.name) d.facilities f D.no_facility

  pub operation-name : (o : ℕ) → get_or operation_names o [] ≡ (operation_at d o).name
  unfolding operation_at
  operation-name o = get_or-map (λ (x : Operation). x.name) d.operations o (record { name = []; body = D.no_run })

  some-letters : (n : Name) → name_right n ≡ true → 0 < length n
  some-letters [] e = absurd (empty-wrong e)
  some-letters (b ∷ n) e = omega arith

  module _ (once : Once (facility_names ++ (operation_names ++ later))) where
    -- What facilities mean where all of them are known.
    pub knows-all : (os : List Name) (named : Name → Option ℕ) → Knows d (record { facilities = facility_names; operations = os; state_named = named }) (length d.facilities)
    unfolding Once
    knows-all os named = record {
      means = λ f l. let n = length-map d.facilities (λ (x : Facility). x.name) in
          let o = once-front facility_names (operation_names ++ later) once f (omega (arith, n, l)) (rw (facility-name f) (some-letters (facility_at d f).name (facility-names f l))) in
          let y = means-facility (record { facilities = facility_names; operations = os; state_named = named }) f (omega (arith, n, l)) o in rw (facility-name f) at y;
      right = facility-names;
      bits = bits;
    }

    -- An operation's name is no facility's.
    pub apart-operation : (o : ℕ) → o < length d.operations → Apart (operation_at d o).name facility_names × Apart (operation_at d o).name (take o operation_names)
    apart-operation o l =
        let n = length-map d.operations (λ (x : Operation). x.name) in
        let m = length-append operation_names later in
        let t = take-front operation_names later o (omega (arith, n, l)) in
        let y = once-behind facility_names (operation_names ++ later) once o (omega (arith, n, m, l)) (rw (t.1, operation-name o) (some-letters (operation_at d o).name (operation-names o l))) in
        let z : Apart (operation_at d o).name (facility_names ++ take o operation_names) = rw (t.0, t.1, operation-name o) at y in
        (apart-left (operation_at d o).name facility_names (take o operation_names) z, apart-right (operation_at d o).name facility_names (take o operation_names) z)

    -- In operation n those before it are known.
    names_in : (n : ℕ) → n ≤ length d.operations → Names d (operation_scope facility_names (take n operation_names)) false (operation_below d no_places n)
    unfolding operation_below
    names_in n l = record {
      performs = λ o w e. performed o w e (ltb o n) refl;
      goes = λ e. absurd (let z : ◌≡◌ {A = ℕ} 0 1 = cc in omega arith);
    }
      where
        performed : (o : ℕ) (w : Worth) → operation_below d no_places n o ≡ fine w → (b : Bool) → ltb o n ≡ b
            → (meaning (operation_scope facility_names (take n operation_names)) (operation_at d o).name ≡ operation o) × (name_right (operation_at d o).name ≡ true)
        performed o w e true q =
            let i : o < n = ltb-true o n q in
            let a = apart-operation o (omega (arith, i, l)) in
            let k = length-take n operation_names in
            let m = length-map d.operations (λ (x : Operation). x.name) in
            let g = get_d_take operation_names n o i ∙ operation-name o in
            let y = means-operation (operation_scope facility_names (take n operation_names)) o (omega (arith, k, m, i, l)) (rw g a.0) (rw (g, take-take operation_names n o i) a.1) in
            (rw g at y, operation-names o (omega (arith, i, l)))
        performed o w e false q = faulty-fine (sym (below-ge (J.unknown_operation d no_places) (J.operation_step d no_places) n o (ltb-false o n q)) ∙ e)

    -- ---- The operations from number n on.

    abbrev scope : ℕ → Scope
    scope n = operation_scope facility_names (take n operation_names)

    pub record Defined (n s m a : ℕ) (os : List Operation) : Type 0 where
      pub tree : List T.Operation
      pub same : operations_of a tree ≡ os
      pub stands : Stand d s (operation_nodes facility_names (take n operation_names) s tree)
      pub acting : StandActions d a (operation_actions facility_names (take n operation_names) s tree)
      pub size : s + operation_expressions tree ≡ m
      pub counted : nodes (operation_nodes facility_names (take n operation_names) s tree) + acts (operation_actions facility_names (take n operation_names) s tree)
          ≡ counted_operations tree + lefts (operation_actions facility_names (take n operation_names) s tree)
      pub words : List Word
      pub right : WordsRight words
      pub depth : ℕ
      pub derived : Some tree → (h : ℕ) → depth ≤ h → Is N.operation_defs h words (operations tree)

    none-defined : (n s m a : ℕ) → s ≡ m → Defined n s m a []
    unfolding operations_of operation_nodes operation_actions operation_expressions counted_operations total
    none-defined n s m a e = record { tree = []; same = refl; stands = tt; acting = tt; size = omega (arith, e); counted = refl; words = []; right = tt; depth = 0; derived = λ some h l. absurd (some refl) }

    abbrev Body : (n : ℕ) → n ≤ length d.operations → ℕ → ℕ → ℕ → ℕ → Type 0
    Body n l k a s o = Listed d (scope n) (knows-all (take n operation_names) no_state) false (operation_below d no_places n) (names_in n l) J.actions k a s o

    -- The words of a definition, and of those after it.
    abbrev def_words : Name → List Word → List T.Operation → List Word → List Word
    def_words n us [] vs = W.name n here ∷ sign equal_sign here ∷ sign open_bracket here ∷ (us ++ sign close_bracket here ∷ [])
    def_words n us (o ∷ os) vs = W.name n here ∷ sign equal_sign here ∷ sign open_bracket here ∷ (us ++ sign close_bracket here ∷ sign comma here ∷ vs)

    def-right : (n : Name) (us : List Word) (os : List T.Operation) (vs : List Word) → name_right n ≡ true → WordsRight us → WordsRight vs → WordsRight (def_words n us os vs)
    def-right n us [] vs r h k = (r, (tt, (tt, words-both us _ h (tt, tt))))
    def-right n us (o ∷ os) vs r h k = (r, (tt, (tt, words-both us _ h (tt, (tt, k)))))

    def-derived : (n : Name) (us : List Word) (os : List T.Operation) (vs : List Word) (t : T.Actions) (p r : ℕ) → ((h : ℕ) → p ≤ h → Is (N.action_list N.in_operation) h us (N.actions t)) → (Some os → (h : ℕ) → r ≤ h → Is N.operation_defs h vs (operations os))
        → (h : ℕ) → suc (max p r) ≤ h → Is N.operation_defs h (def_words n us os vs) (operations (record { name = n; at = here; body = t } ∷ os))
    def-derived n us os vs t p r f g zero i = absurd (omega (arith, i))
    def-derived n us [] vs t p r f g (suc h) i = G.operations-one here here here (f h (omega (arith, i)))
    def-derived n us (o ∷ os) vs t p r f g (suc h) i = G.operations-more here here here here (f h (omega (arith, i))) (g (λ q. let z : ◌≡◌ {A = ℕ} 0 1 = cc in omega arith) (suc h) (omega (arith, i)))

    next-names : (n : ℕ) (x : Name) → n < length d.operations → (operation_at d n).name ≡ x → take n operation_names ++ x ∷ [] ≡ take (suc n) operation_names
    next-names n x l q = ap (λ (y : Name). take n operation_names ++ y ∷ []) (sym (operation-name n ∙ q)) ∙ take_more operation_names n (let b = length-map d.operations (λ (y : Operation). y.name) in omega (arith, b, l))

    moved-fine : (n k j i a : ℕ) {w : Worth} → k ≡ j → i ≡ a → J.run_step d no_places false (operation_below d no_places n) (J.run_below d no_places false (operation_below d no_places n) k) k i J.actions ≡ fine w
        → J.run_step d no_places false (operation_below d no_places n) (J.run_below d no_places false (operation_below d no_places n) j) j a J.actions ≡ fine w
    moved-fine n k j i a {w} e f h =
        subst (λ (x : ℕ). J.run_step d no_places false (operation_below d no_places n) (J.run_below d no_places false (operation_below d no_places n) x) x a J.actions ≡ fine w) e
        (subst (λ (x : ℕ). J.run_step d no_places false (operation_below d no_places n) (J.run_below d no_places false (operation_below d no_places n) k) k x J.actions ≡ fine w) f h)

    moved-end : (k j i a s m : ℕ) → k ≡ j → i ≡ a → trees_end d s (run_roots d k i) ≡ some m → trees_end d s (run_roots d j a) ≡ some m
    moved-end k j i a s m e f h = subst (λ (x : ℕ). trees_end d s (run_roots d x a) ≡ some m) e (subst (λ (x : ℕ). trees_end d s (run_roots d k x) ≡ some m) f h)

    -- One definition in front of others.
    define : (n s o m a k : ℕ) (x : Name) (os : List Operation) (l : n < length d.operations) → (operation_at d n).name ≡ x → (B : Body n (omega (arith, l)) (suc k) a s o) → Defined (suc n) o m (a + suc k) os
        → Defined n s m a (record { name = x; body = X.run_of a (suc k) } ∷ os)
    unfolding operations_of operation_nodes operation_actions operation_expressions counted_operations
    define n s o m a k x os l q B S =
        let bs : s + expressions_in B.tree ≡ o = B.size in
        let bc : actions_in B.tree ≡ suc k = B.count in
        let more : take n operation_names ++ x ∷ [] ≡ take (suc n) operation_names = next-names n x l q in
        let us = nodes_in (scope n) s B.tree in
        let vs = operation_nodes facility_names (take (suc n) operation_names) o S.tree in
        let ks = actions_of (scope n) s B.tree in
        let ls = operation_actions facility_names (take (suc n) operation_names) o S.tree in
        record {
          tree = record { name = x; at = here; body = B.tree } ∷ S.tree;
          same = rw (bc, S.same) refl;
          stands = rw (more, bs) (stand-append d (scope n) s o us vs B.stands (let z = in_size (scope n) s B.tree in omega (arith, z, bs)) S.stands);
          acting = rw (more, bs) (acting-append d (scope n) (knows-all (take n operation_names) no_state) false (operation_below d no_places n) (names_in n (omega (arith, l))) a (a + suc k) ks ls B.acting (let z = actions-size (scope n) s B.tree in omega (arith, z, bc)) S.acting);
          size = let z = S.size in omega (arith, bs, z);
          counted = rw (more, bs) (let e = nodes-append us vs in let f = acts-append ks ls in let g = lefts-append ks ls in let h = B.counted in let i = S.counted in omega (arith, e, f, g, h, i));
          words = def_words x B.words S.tree S.words;
          right = def-right x B.words S.tree S.words (subst (λ (y : Name). name_right y ≡ true) q (operation-names n l)) B.right S.right;
          depth = suc (max B.depth S.depth);
          derived = λ some h i. def-derived x B.words S.tree S.words B.tree B.depth S.depth B.derived S.derived h i;
        }

    -- A body is judged fine, and is not empty.
    pub record Whole (n : ℕ) (o : Operation) : Type 0 where
      pub fewer : ℕ
      pub count : o.body.count ≡ suc fewer
      pub worth' : Worth
      pub body-fine : J.run_step d no_places false (operation_below d no_places n) (J.run_below d no_places false (operation_below d no_places n) o.body.count) o.body.count o.body.first J.actions ≡ fine worth'

    whole : (n : ℕ) (o : Operation) {w : Worth} → operation_at d n ≡ o → operation_judged d no_places n ≡ fine w → Whole n o
    unfolding operation_judged run_judged
    whole n o {w} q e = go o.body.count refl (rw q at e)
      where
        go : (k : ℕ) → o.body.count ≡ k → cond (eqb k 0) (refuse D.nowhere NoContinuation) (J.run_step d no_places false (operation_below d no_places n) (J.run_below d no_places false (operation_below d no_places n) o.body.count) o.body.count o.body.first J.actions) ≡ fine w → Whole n o
        go zero c k = faulty-fine k
        go (suc j) c k = record { fewer = j; count = c; worth' = w; body-fine = rw (eqb-suc-zero j) at k }

    one_more : (n s m a b : ℕ) (o : Operation) (os : List Operation) → n < length d.operations → operation_at d n ≡ o → operations_end d a (o ∷ os) ≡ some b → trees_end d s (run_roots d o.body.count o.body.first ++ operation_roots d os) ≡ some m
        → ((t : ℕ) → operations_end d (a + o.body.count) os ≡ some b → trees_end d t (operation_roots d os) ≡ some m → Defined (suc n) t m (a + o.body.count) os) → Defined n s m a (o ∷ os)
    unfolding operations_end
    one_more n s m a b o os l q e g rec = go (eqb o.body.first a) refl e
      where
        go : (t : Bool) → eqb o.body.first a ≡ t → cond t (operations_end d (a + o.body.count) os) none ≡ some b → Defined n s m a (o ∷ os)
        go false p k = absurd (let z : ◌≡◌ {A = ℕ} 0 1 = cc in omega arith)
        go true p k =
            let at : o.body.first ≡ a = eqb-true _ _ p in
            let y = whole n o q (operations-fine d none-there n l).1 in
            let sp = trees-split d s (run_roots d o.body.count o.body.first) (operation_roots d os) m g in
            let same : record { name = o.name; body = X.run_of a (suc y.fewer) } ≡ o = rw (← at, ← y.count) refl in
            let B = listed d (scope n) (knows-all (take n operation_names) no_state) false (operation_below d no_places n) (names_in n (omega (arith, l))) (suc y.fewer) a s sp.middle (moved-fine n o.body.count (suc y.fewer) o.body.first a y.count at y.body-fine) (moved-end o.body.count (suc y.fewer) o.body.first a s sp.middle y.count at sp.left) in
            let S = subst (λ (z : ℕ). Defined (suc n) sp.middle m (a + z) os) y.count (rec sp.middle k sp.right) in
            subst (λ (z : Operation). Defined n s m a (z ∷ os)) same (define n s sp.middle m a y.fewer o.name os l (ap (λ (z : Operation). z.name) q) B S)

    from : (n s m a b : ℕ) (os : List Operation) → n + length os ≡ length d.operations → ((j : ℕ) → j < length os → operation_at d (n + j) ≡ get_or os j (record { name = []; body = D.no_run }))
        → operations_end d a os ≡ some b → trees_end d s (operation_roots d os) ≡ some m → Defined n s m a os
    unfolding operation_roots trees_end
    from n s m a b [] c h e g = none-defined n s m a (let z : ◌≡◌ {A = Option ℕ} (some s) (some m) = g in cc)
    from n s m a b (o ∷ os) c h e g =
        let z : n + 0 ≡ n = omega arith in
        one_more n s m a b o os (omega (arith, c)) (rw z at (h 0 (omega arith))) e g
        (λ t k f. from (suc n) t m (a + o.body.count) b os (omega (arith, c)) (λ j i. let w : n + suc j ≡ suc n + j = omega arith in rw w at (h (suc j) (omega (arith, i)))) k f)

    pub defined : (s m b : ℕ) → operations_end d 0 d.operations ≡ some b → trees_end d s (operation_roots d d.operations) ≡ some m → Defined 0 s m 0 d.operations
    unfolding operation_at
    defined s m b e g = from 0 s m 0 b d.operations (omega arith) (λ j i. let z : 0 + j ≡ j = omega arith in rw z refl) e g
