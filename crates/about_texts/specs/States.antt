-- The states of a description in legal form are those of state definitions. Assumes nothing.
use Rattle.std.specs.Prelude.{Bool, ltb, get_or, take}
use Rattle.std.proofs.Math.Bool.{true, false, cond}
use mathlib.Core.List.{List, [], ◌∷◌, ◌++◌, map}
use Rattle.std.proofs.Math.Option.{Option, none, some}
use Rattle.std.proofs.Math.Path.{◌≡◌, refl, subst}
use Rattle.std.proofs.Common.{sym, ap, ◌∙◌, length-append}
use native.Mathlib.Omega.{arith}
use Prim.Native.Nat.{ℕ, zero, suc, ◌+◌, ◌-◌, ◌^◌, ◌≤◌, ◌<◌, max}
use borrow.Author.Tests.{eqb-true, ltb-true, ltb-false}
use Rattle.std.proofs.Math.Dec.{eqb}
use Rattle.std.proofs.Math.ListN.{get_or-map, length, length-map}
use Rattle.language.specs.ActionRules as J
use Rattle.language.specs.ActionRules.{operation_below, run_judged}
use Rattle.language.specs.Canonical.{label_right, name_right, total, value_count}
use Rattle.language.specs.CountedWords.{counted_states}
use Rattle.language.specs.Describe.{actions_in, actions_of, constant_size, expressions_in, nodes_in}
use Rattle.language.specs.DescribeText as X
use Rattle.language.specs.DescribeText.{label_of, state_actions, state_nodes, states_of, value_nodes, value_number, value_size}
use Rattle.language.specs.Description as D
use Rattle.language.specs.Description.{Description, Node, Operation, State, constant_value, facility_at, node_at, no_places, operation_at, state_at}
use Rattle.language.specs.Grammar as G
use Rattle.language.specs.Grammar.{Is}
use Rattle.language.specs.Image.{ConstantRight, WordsRight}
use Rattle.language.specs.Judging.{Worth, fine}
use Rattle.language.specs.Kinds.{close_paren, colon, open_paren, slash}
use Rattle.language.specs.Naming.{Scope, by_labels, meaning, operation, state}
use Rattle.language.specs.Notions as N
use Rattle.language.specs.Notions.{first_place, states}
use Rattle.language.specs.Order.{run_roots, start_at, start_node, state_roots, states_end, trees_end, value_root}
use Rattle.language.specs.Recursion.{below-ge}
use Rattle.language.specs.declared.refusals.Refusal.TheVariants.{BadSequencing}
use Rattle.language.specs.Rules as Rules
use Rattle.language.specs.Rules.{faults, sequencing_length, value_faults}
use Rattle.language.specs.Tree as T
use Rattle.language.specs.Tree.{Label, Name, StateValue}
use Rattle.language.specs.Value.{Value}
use Rattle.language.specs.Ceilings.{longest}
use Rattle.language.specs.Words as W
use Rattle.language.specs.Words.{Position, Word, sign}
use Rattle.about_rules.specs.Counted.{acts, acts-append, constant-count, lefts, lefts-append, nodes, nodes-append}
use Rattle.about_rules.specs.InOrder.{state_expressions}
use Rattle.about_rules.specs.Roots.{StandActions}
use Rattle.about_rules.specs.Sizes.{actions-size, in_size, value-size}
use Rattle.about_rules.specs.Starts.{Stand}
use Rattle.about_texts.specs.Constants.{constant-stands}
use Rattle.about_texts.specs.Derivations.{here}
use Rattle.about_texts.specs.Facilities.{Some}
use Rattle.about_texts.specs.Lists.{Listed, Names, acting-append, listed}
use Rattle.about_texts.specs.Names.{Apart, Once, apart-left, apart-right, means-operation, means-state, once-behind, take_behind}
use Rattle.about_texts.specs.Operations as O
use Rattle.about_texts.specs.Placed.{stand-append}
use Rattle.about_texts.specs.Rebuilt.{Knows, words-both}
use Rattle.about_texts.specs.References.{Small}
use Rattle.about_running.specs.Judged.{faulty-fine, unless-none}
use Rattle.about_running.specs.LegalForm.{states-fine, left-of}
use Rattle.about_running.specs.Ordered.{tree-first, trees-split}
use Rattle.language.specs.Tests.{both}

-- ---- A value's record is one constant.

no_bits : {A : Type 0} {l : ℕ} → 1 ≤ l → 0 ≡ l → A
no_bits p e = absurd (omega (arith, p, e))

is-constant : (n : Node) (l : ℕ) → 1 ≤ l → (constant_value n).length ≡ l → n ≡ D.constant (constant_value n)
is-constant (D.constant v) l p e = refl
is-constant (D.more m) l p e = no_bits p e
is-constant (D.whole f) l p e = no_bits p e
is-constant (D.one f a) l p e = no_bits p e
is-constant (D.part f b) l p e = no_bits p e
is-constant (D.two f a b) l p e = no_bits p e
is-constant (D.word_part f a b) l p e = no_bits p e
is-constant (D.binary k a b) l p e = no_bits p e
is-constant (D.prefix k a) l p e = no_bits p e
is-constant (D.cut k a c) l p e = no_bits p e
is-constant (D.first_arm a) l p e = no_bits p e
is-constant (D.next_arm a b) l p e = no_bits p e
is-constant (D.choice a b c) l p e = no_bits p e
is-constant D.Node.broken l p e = no_bits p e

module _ (d : Description) (none-there : faults d no_places ≡ [])
    (bits : (f : ℕ) → f < length d.facilities → Small (facility_at d f).bits)
    (facility-names : (f : ℕ) → f < length d.facilities → name_right (facility_at d f).name ≡ true)
    (operation-names : (o : ℕ) → o < length d.operations → name_right (operation_at d o).name ≡ true)
    (labels : (s : ℕ) → s < length d.states → label_right (state_at d s).name (state_at d s).value ≡ true)
    (register-length : (l : ℕ) → sequencing_length d no_places ≡ some l → (1 ≤ l) × (l ≤ longest)) where
  abbrev facility_names : List Name
  facility_names = map (λ f. f.name) d.facilities

  abbrev operation_names : List Name
  operation_names = map (λ o. o.name) d.operations

  abbrev state_names : List Name
  state_names = map (λ s. s.name) d.states

  abbrev scope : Scope
  scope = record { facilities = facility_names; operations = operation_names; state_named = by_labels state_names }

  state-name : (s : ℕ) → get_or state_names s [] ≡ (state_at d s).name
  unfolding state_at
  state-name s = get_or-map (λ (x : State). x.name) d.states s (record { name = []; value = none; actions = D.no_run })

  beyond : (s : ℕ) → 0 < length (state_at d s).name → s < length d.states
  unfolding state_at
  beyond s l = go d.states s l
    where
      go : (ss : List State) (s : ℕ) → 0 < length (get_or ss s (record { name = []; value = none; actions = D.no_run })).name → s < length ss
      go [] s k = absurd (omega arith)
      go (x ∷ ss) zero k = omega arith
      go (x ∷ ss) (suc s) k = let y = go ss s k in omega (arith, y)

  label-name : (n : Name) (v : Option ℕ) → label_right n v ≡ true → 0 < length n → name_right n ≡ true
  label-name [] v e l = absurd (omega arith)
  label-name (b ∷ n) v e l = e

  module _ (once : Once (facility_names ++ (operation_names ++ state_names))) where
    abbrev knows : Knows d scope (length d.facilities)
    knows = O.knows-all d none-there bits facility-names operation-names state_names once operation_names (by_labels state_names)

    performed : (o : ℕ) (w : Worth) → operation_below d no_places (length d.operations) o ≡ fine w → (b : Bool) → ltb o (length d.operations) ≡ b → (meaning scope (operation_at d o).name ≡ operation o) × (name_right (operation_at d o).name ≡ true)
    unfolding operation_below
    performed o w e true q =
        let l : o < length d.operations = ltb-true o (length d.operations) q in
        let a = O.apart-operation d none-there bits facility-names operation-names state_names once o l in
        let m = length-map d.operations (λ (x : Operation). x.name) in
        let g = O.operation-name d none-there bits facility-names operation-names state_names o in
        let y = means-operation scope o (omega (arith, m, l)) (rw g a.0) (rw g a.1) in
        (rw g at y, operation-names o l)
    performed o w e false q = faulty-fine (sym (below-ge (J.unknown_operation d no_places) (J.operation_step d no_places) (length d.operations) o (ltb-false o (length d.operations) q)) ∙ e)

    gone : (s : ℕ) → 0 < length (state_at d s).name → (meaning scope (state_at d s).name ≡ state s) × (name_right (state_at d s).name ≡ true)
    gone s l =
        let i = beyond s l in
        let m = length-map d.states (λ (x : State). x.name) in
        let n = length-append operation_names state_names in
        let g = state-name s in
        let t = take_behind operation_names state_names s in
        let y = once-behind facility_names (operation_names ++ state_names) once (length operation_names + s) (omega (arith, m, n, i)) (rw (t.1, g) l) in
        let z : Apart (state_at d s).name (facility_names ++ (operation_names ++ take s state_names)) = rw (t.0, t.1, g) at y in
        let f = apart-left (state_at d s).name facility_names (operation_names ++ take s state_names) z in
        let r = apart-right (state_at d s).name facility_names (operation_names ++ take s state_names) z in
        let k = means-state facility_names operation_names state_names s (omega (arith, m, i)) (rw g f) (rw g (apart-left (state_at d s).name operation_names (take s state_names) r)) (rw g (apart-right (state_at d s).name operation_names (take s state_names) r)) in
        (rw g at k, label-name (state_at d s).name (state_at d s).value (labels s i) l)

    abbrev naming : Names d scope true (operation_below d no_places (length d.operations))
    naming = record { performs = λ o w e. performed o w e (ltb o (length d.operations)) refl; goes = λ e s l. gone s l }

    -- ---- A state's value.

    abbrev register_length : Option ℕ
    register_length = sequencing_length d no_places

    -- The value, if any, stands from s to o.
    pub record Valued (v : Option ℕ) (s o : ℕ) : Type 0 where
      pub constant : Option StateValue
      pub number : value_number s register_length constant ≡ v
      pub stands : Stand d s (value_nodes register_length constant)
      pub size : s + value_size register_length constant ≡ o
      pub counted : nodes (value_nodes register_length constant) ≡ value_count (record { name = []; value = v; actions = D.no_run })
      pub right : (x : StateValue) → constant ≡ some x → ConstantRight x.constant
      pub none_so : v ≡ none → constant ≡ none

    constant-valued : (n l s : ℕ) → register_length ≡ some l → (constant_value (node_at d n)).length ≡ l → start_at d n ≡ some s → Valued (some n) s (n + 1)
    unfolding start_at start_node X.state_constant
    constant-valued n l s q e o =
        let v = constant_value (node_at d n) in
        let p = register-length l q in
        let is = is-constant (node_at d n) l p.0 e in
        let c = constant-stands d n s v here is (rw is at o) in
        record {
          constant = some (record { constant = record { bare = false; value = v }; at = here });
          number = rw q (ap some (let z = c.size in let w : s + constant_size v - 1 ≡ n = omega (arith, z) in w));
          stands = rw q c.stands;
          size = rw q c.size;
          counted = rw q (constant-count v here);
          right = λ x r. right_of x r v (rw e p.0) (rw e p.1) c.fits refl refl;
          none_so = λ r. absurd (let z : ◌≡◌ {A = ℕ} 0 1 = cc in omega arith);
        }
      where
        right_of : (x : StateValue) {w : StateValue} → some w ≡ some x → (v : Value) → 1 ≤ v.length → v.length ≤ longest → v.number < 2 ^ v.length → w.constant.bare ≡ false → w.constant.value ≡ v → ConstantRight x.constant
        right_of x {w} e v a b c f g = let z : w ≡ x = cc in rw (← z) (record { some_bits = rw g a; at-most = rw g b; fits = rw g c; bare-length = λ i. absurd (let y : ◌≡◌ {A = ℕ} 0 1 = cc in omega arith) })

    valued : (v : Option ℕ) (before : List ℕ) (at : Position) (rs : List ℕ) (s m : ℕ) → value_faults d no_places register_length before at v ≡ [] → trees_end d s (value_root d v ++ rs) ≡ some m → (o : ℕ) × (Valued v s o × (trees_end d o rs ≡ some m))
    unfolding total
    valued none before at rs s m e g =
        (s, (record { constant = none; number = refl; stands = tt; size = omega arith; counted = refl; right = λ x q. absurd (let z : ◌≡◌ {A = ℕ} 0 1 = cc in omega arith); none_so = λ q. refl }, g))
    valued (some n) before at rs s m e g = go register_length refl e
      where
        go : (l : Option ℕ) → register_length ≡ l → value_faults d no_places l before at (some n) ≡ [] → (o : ℕ) × (Valued (some n) s o × (trees_end d o rs ≡ some m))
        go none q k = absurd (let z : ◌≡◌ {A = ℕ} 0 1 = cc in omega arith)
        go (some l) q k =
            let v = constant_value (node_at d n) in
            let t = tree-first d s n rs m g in
            let y = unless-none (both (eqb v.length l) (cond (Rules.repeated d no_places v.number before) false true)) at BadSequencing k in
            (n + 1, (constant-valued n l s q (eqb-true _ _ (left-of (eqb v.length l) _ y)) t.start, t.rest))

    -- ---- A label, with or without a value.

    abbrev labelled : Name → Option Label
    labelled [] = none
    labelled (b ∷ n) = some (record { name = b ∷ n; at = here })

    label-of : (n : Name) → label_of (labelled n) ≡ n
    label-of [] = refl
    label-of (b ∷ n) = refl

    abbrev label_words : Name → Option StateValue → List Word
    label_words [] v = []
    label_words (b ∷ n) none = W.name (b ∷ n) here ∷ sign colon here ∷ []
    label_words (b ∷ n) (some v) = W.name (b ∷ n) here ∷ sign open_paren here ∷ W.constant v.constant v.at ∷ sign close_paren here ∷ sign colon here ∷ []

    label-right : (n : Name) (v : Option ℕ) (s o : ℕ) (Z : Valued v s o) → label_right n v ≡ true → WordsRight (label_words n Z.constant)
    label-right n v s o Z e = go n Z.constant refl (label-name n v e)
      where
        go : (n : Name) (c : Option StateValue) → Z.constant ≡ c → (0 < length n → name_right n ≡ true) → WordsRight (label_words n c)
        go [] c q r = tt
        go (b ∷ n) none q r = (r (omega arith), (tt, tt))
        go (b ∷ n) (some x) q r = (r (omega arith), (tt, (Z.right x q, (tt, (tt, tt)))))

    label-derived : (n : Name) (v : Option ℕ) (s o : ℕ) (Z : Valued v s o) → label_right n v ≡ true → (h : ℕ) → 1 ≤ h → Is N.state_label h (label_words n Z.constant) (N.label (labelled n) Z.constant)
    label-derived n v s o Z e h l = go n v Z.constant refl Z.none_so e h l
      where
        go : (n : Name) (v : Option ℕ) (c : Option StateValue) → Z.constant ≡ c → (v ≡ none → Z.constant ≡ none) → label_right n v ≡ true → (h : ℕ) → 1 ≤ h → Is N.state_label h (label_words n c) (N.label (labelled n) c)
        go n v c q t e zero l = absurd (omega (arith, l))
        go [] v none q t e (suc h) l = G.no_label
        go [] none (some x) q t e (suc h) l = absurd (let y = sym q ∙ t refl in let z : ◌≡◌ {A = ℕ} 0 1 = cc in omega arith)
        go [] (some k) (some x) q t e (suc h) l = absurd (let z : ◌≡◌ {A = ℕ} 0 1 = cc in omega arith)
        go (b ∷ n) v none q t e (suc h) l = G.plain_label
        go (b ∷ n) v (some x) q t e (suc h) l = G.label-with-value

    -- ---- The states from number n on.

    pub record Stated (n s m a : ℕ) (ss : List State) : Type 0 where
      pub tree : List T.State
      pub same : states_of register_length s a tree ≡ ss
      pub labels-so : map (λ x. label_of x.label) tree ≡ map (λ x. x.name) ss
      pub stands : Stand d s (state_nodes register_length scope s tree)
      pub acting : StandActions d a (state_actions register_length scope s tree)
      pub size : s + state_expressions register_length tree ≡ m
      pub counted : nodes (state_nodes register_length scope s tree) + acts (state_actions register_length scope s tree) ≡ counted_states tree + (lefts (state_actions register_length scope s tree) + total value_count ss)
      pub words : List Word
      pub right : WordsRight words
      pub depth : ℕ
      pub derived : Some tree → (h : ℕ) → depth ≤ h → Is N.state_defs h words (states tree)

    none-stated : (n s m a : ℕ) → s ≡ m → Stated n s m a []
    unfolding states_of state_nodes state_actions state_expressions counted_states total
    none-stated n s m a e = record { tree = []; same = refl; labels-so = refl; stands = tt; acting = tt; size = omega (arith, e); counted = refl; words = []; right = tt; depth = 0; derived = λ some h l. absurd (some refl) }

    abbrev Body : ℕ → ℕ → ℕ → ℕ → Type 0
    Body k a s o = Listed d scope knows true (operation_below d no_places (length d.operations)) naming J.actions k a s o

    -- The words of a state, and its place.
    abbrev state_words : ℕ → List Word → List Word → List Word
    state_words zero us vs = us ++ sign slash here ∷ []
    state_words (suc k) us vs = us ++ (vs ++ sign slash here ∷ [])

    abbrev state_at_of : ℕ → List Word → List Word → Position
    state_at_of zero us vs = first_place us here
    state_at_of (suc k) us vs = first_place (us ++ vs) here

    state-words-right : (k : ℕ) (us vs : List Word) → WordsRight us → WordsRight vs → WordsRight (state_words k us vs)
    state-words-right zero us vs h g = words-both us _ h (tt, tt)
    state-words-right (suc k) us vs h g = words-both us _ h (words-both vs _ g (tt, tt))

    state-derived : (k a s o : ℕ) (B : Body k a s o) (us : List Word) (l : Option Label) (v : Option StateValue) → ((h : ℕ) → 1 ≤ h → Is N.state_label h us (N.label l v))
        → (h : ℕ) → max 1 B.depth ≤ h → Is N.state_def h (state_words k us B.words) (states (N.state_of (state_at_of k us B.words) l v B.tree ∷ []))
    state-derived zero a s o B us l v f h i = rw B.derived (G.state-idle here (f h (omega (arith, i))))
    state-derived (suc k) a s o B us l v f h i = G.state-acting here (f h (omega (arith, i))) (B.derived h (omega (arith, i)))

    -- One state in front of others.
    abbrev many_words : List Word → List T.State → List Word → List Word
    many_words us [] vs = us
    many_words us (x ∷ xs) vs = us ++ vs

    many-right : (us : List Word) (xs : List T.State) (vs : List Word) → WordsRight us → WordsRight vs → WordsRight (many_words us xs vs)
    many-right us [] vs h k = h
    many-right us (x ∷ xs) vs h k = words-both us _ h k

    many-derived : (us : List Word) (x : T.State) (xs : List T.State) (vs : List Word) {h : ℕ} → Is N.state_def h us (states (x ∷ [])) → (Some xs → Is N.state_defs h vs (states xs)) → Is N.state_defs h (many_words us xs vs) (states (x ∷ xs))
    many-derived us x [] vs f g = G.states-one f
    many-derived us x (y ∷ ys) vs f g = G.states-more f (g (λ q. let z : ◌≡◌ {A = ℕ} 0 1 = cc in omega arith))

    value-counted : (x : State) (s o : ℕ) (Z : Valued x.value s o) → nodes (value_nodes register_length Z.constant) ≡ value_count x
    value-counted x s o Z = Z.counted

    put-state : (n s o p m a k : ℕ) (x : State) (ss : List State) → n < length d.states → state_at d n ≡ x → x.actions ≡ X.run_of a k → (Z : Valued x.value s o) (B : Body k a o p) → Stated (suc n) p m (a + k) ss → Stated n s m a (x ∷ ss)
    unfolding states_of state_nodes state_actions state_expressions counted_states total
    put-state n s o p m a k x ss l q r Z B S =
        let zs : s + value_size register_length Z.constant ≡ o = Z.size in
        let bs : o + expressions_in B.tree ≡ p = B.size in
        let bc : actions_in B.tree ≡ k = B.count in
        let next : s + (value_size register_length Z.constant + expressions_in B.tree) ≡ p = omega (arith, zs, bs) in
        let own = value_nodes register_length Z.constant in
        let us = nodes_in scope o B.tree in
        let vs = state_nodes register_length scope p S.tree in
        let ks = actions_of scope o B.tree in
        let ls = state_actions register_length scope p S.tree in
        let right-label : label_right x.name x.value ≡ true = subst (λ (y : State). label_right y.name y.value ≡ true) q (labels n l) in
        let words_of = label_words x.name Z.constant in
        record {
          tree = N.state_of (state_at_of k words_of B.words) (labelled x.name) Z.constant B.tree ∷ S.tree;
          same = rw (label-of x.name, Z.number, bc, ← r, next, S.same) refl;
          labels-so = rw (label-of x.name, S.labels-so) refl;
          stands = rw (zs, next) (stand-append d scope s o own (us ++ vs) Z.stands (let y = value-size register_length Z.constant in omega (arith, y, zs)) (stand-append d scope o p us vs B.stands (let y = in_size scope o B.tree in omega (arith, y, bs)) S.stands));
          acting = rw (zs, next) (acting-append d scope knows true (operation_below d no_places (length d.operations)) naming a (a + k) ks ls B.acting (let y = actions-size scope o B.tree in omega (arith, y, bc)) S.acting);
          size = let y = S.size in omega (arith, next, y);
          counted = rw (zs, next) (let e = nodes-append own (us ++ vs) in let f = nodes-append us vs in let g = acts-append ks ls in let h = lefts-append ks ls in let i = B.counted in let j = S.counted in let c = value-counted x s o Z in omega (arith, e, f, g, h, i, j, c));
          words = many_words (state_words k words_of B.words) S.tree S.words;
          right = many-right (state_words k words_of B.words) S.tree S.words (state-words-right k words_of B.words (label-right x.name x.value s o Z right-label) B.right) S.right;
          depth = max (max 1 B.depth) S.depth;
          derived = λ some h i. many-derived (state_words k words_of B.words) _ S.tree S.words (state-derived k a o p B words_of (labelled x.name) Z.constant (label-derived x.name x.value s o Z right-label) h (omega (arith, i))) (λ t. S.derived t h (omega (arith, i)));
        }

    run-so : (n : ℕ) (x : State) → state_at d n ≡ x → n < length d.states
        → (w : Worth) × (J.run_step d no_places true (operation_below d no_places (length d.operations)) (J.run_below d no_places true (operation_below d no_places (length d.operations)) x.actions.count) x.actions.count x.actions.first J.actions ≡ fine w)
    unfolding run_judged
    run-so n x q l = let y = (states-fine d none-there n l).1.1 in (y.run-worth, rw q at y.run-fine)

    one_more : (n s m a b : ℕ) (x : State) (ss : List State) → n < length d.states → state_at d n ≡ x → states_end d a (x ∷ ss) ≡ some b
        → trees_end d s (value_root d x.value ++ (run_roots d x.actions.count x.actions.first ++ state_roots d ss)) ≡ some m
        → ((t : ℕ) → states_end d (a + x.actions.count) ss ≡ some b → trees_end d t (state_roots d ss) ≡ some m → Stated (suc n) t m (a + x.actions.count) ss) → Stated n s m a (x ∷ ss)
    unfolding states_end
    one_more n s m a b x ss l q e g rec = go (eqb x.actions.first a) refl e
      where
        go : (t : Bool) → eqb x.actions.first a ≡ t → cond t (states_end d (a + x.actions.count) ss) none ≡ some b → Stated n s m a (x ∷ ss)
        go false p k = absurd (let z : ◌≡◌ {A = ℕ} 0 1 = cc in omega arith)
        go true p k =
            let at : x.actions.first ≡ a = eqb-true _ _ p in
            let r = states-fine d none-there n l in
            let faults-so : value_faults d no_places register_length r.0 r.1.0.value x.value ≡ [] = subst (λ (y : State). value_faults d no_places register_length r.0 r.1.0.value y.value ≡ []) q r.1.1.value-right in
            let v = valued x.value r.0 r.1.0.value (run_roots d x.actions.count x.actions.first ++ state_roots d ss) s m faults-so g in
            let sp = trees-split d v.0 (run_roots d x.actions.count x.actions.first) (state_roots d ss) m v.1.1 in
            let y = run-so n x q l in
            let B = listed d scope knows true (operation_below d no_places (length d.operations)) naming x.actions.count a v.0 sp.middle
            (subst (λ (z : ℕ). J.run_step d no_places true (operation_below d no_places (length d.operations)) (J.run_below d no_places true (operation_below d no_places (length d.operations)) x.actions.count) x.actions.count z J.actions ≡ fine y.0) at y.1)
            (subst (λ (z : ℕ). trees_end d v.0 (run_roots d x.actions.count z) ≡ some sp.middle) at sp.left) in
            put-state n s v.0 sp.middle m a x.actions.count x ss l q (rw (← at) refl) v.1.0 B (rec sp.middle k sp.right)

    from : (n s m a b : ℕ) (ss : List State) → n + length ss ≡ length d.states → ((j : ℕ) → j < length ss → state_at d (n + j) ≡ get_or ss j (record { name = []; value = none; actions = D.no_run }))
        → states_end d a ss ≡ some b → trees_end d s (state_roots d ss) ≡ some m → Stated n s m a ss
    unfolding state_roots trees_end
    from n s m a b [] c h e g = none-stated n s m a (let z : ◌≡◌ {A = Option ℕ} (some s) (some m) = g in cc)
    from n s m a b (x ∷ ss) c h e g =
        let z : n + 0 ≡ n = omega arith in
        one_more n s m a b x ss (omega (arith, c)) (rw z at (h 0 (omega arith))) e g
        (λ t k f. from (suc n) t m (a + x.actions.count) b ss (omega (arith, c)) (λ j i. let w : n + suc j ≡ suc n + j = omega arith in rw w at (h (suc j) (omega (arith, i)))) k f)

    pub stated : (s m a b : ℕ) → states_end d a d.states ≡ some b → trees_end d s (state_roots d d.states) ≡ some m → Stated 0 s m a d.states
    unfolding state_at
    stated s m a b e g = from 0 s m a b d.states (omega arith) (λ j i. let z : 0 + j ≡ j = omega arith in rw z refl) e g
