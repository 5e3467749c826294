-- Every list of actions that is judged fine and stands in order is that of a tree, and there are words for the tree. Assumes nothing.
use Rattle.std.specs.Prelude.{Bool, leb, ltb, length}
use Rattle.std.proofs.Math.Bool.{true, false, cond}
use mathlib.Core.List.{List, [], ◌∷◌, ◌++◌}
use Rattle.std.proofs.Math.Option.{some}
use Rattle.std.proofs.Math.Path.{◌≡◌, refl, ap, subst}
use Rattle.std.proofs.Common.{sym, ◌∙◌, arith, pow_pos}
use Prim.Native.Nat.{ℕ, zero, suc, ◌+◌, ◌-◌, ◌^◌, ◌≤◌, ◌<◌, max}
use borrow.Author.Tests.{eqb-true, ltb-true}
use Rattle.std.proofs.Math.Dec.{eqb}
use Rattle.std.proofs.Math.ListN.{length-append}
use Rattle.language.specs.ActionRules as J
use Rattle.language.specs.ActionRules.{Shape, actions, arms, kind_at, simple_judged}
use Rattle.language.specs.Canonical.{action_count, left_count, name_right, total}
use Rattle.language.specs.CountedWords.{counted_actions, counted_expression, counted_reference}
use Rattle.language.specs.Describe as B
use Rattle.language.specs.Describe.{actions_in, actions_of, arms_in, expression_size, expressions_in, nodes_in, nodes_of}
use Rattle.language.specs.Description as D
use Rattle.language.specs.Description.{Action, Description, action_at, action_place, node_place, no_places, operation_at, state_at}
use Rattle.language.specs.Expressions as E
use Rattle.language.specs.Expressions.{own_work, selects, terminal_below}
use Rattle.language.specs.Grammar as G
use Rattle.language.specs.Grammar.{Is}
use Rattle.language.specs.Image.{WordsRight}
use Rattle.language.specs.Judging.{Judged, Worth, fine, refuse, unless, worth}
use Rattle.language.specs.Kinds.{at_sign, call_sign, case_word, comma, con_word, delayed_sign, do_word, end_case_word, end_if_word, equal_sign, goto_sign, if_word, return_word, then_word}
use Rattle.language.specs.Naming.{Scope, meaning, operation, state}
use Rattle.language.specs.Notions as N
use Rattle.language.specs.Notions.{Section, is_store}
use Rattle.language.specs.Order.{action_roots, run_roots, start_at, trees_end}
use Rattle.language.specs.declared.refusals.Refusal.TheVariants.{BadLength, BadName, BadStore}
use Rattle.language.specs.Storing.{may_store, takes_delayed, takes_immediate}
use Rattle.language.specs.Tree as T
use Rattle.language.specs.Tree.{Actions, Kind}
use Rattle.language.specs.Words as W
use Rattle.language.specs.Words.{Position, Word, sign}
use Rattle.about_rules.specs.Counted.{acts, acts-append, lefts, lefts-append, nodes, nodes-append}
use Rattle.about_rules.specs.ListRoots.{Arm, Held, Plain, arm-fine, first-arm, first_fine, held, only-fine, plain-fine}
use Rattle.about_rules.specs.Roots.{StandActions, roots-join}
use Rattle.about_rules.specs.Sizes.{actions-size, in_size, nodes-size}
use Rattle.about_rules.specs.Starts.{Stand}
use Rattle.about_running.specs.LegalForm.{left-of}
use Rattle.about_texts.specs.Derivations.{here, of-term}
use Rattle.about_texts.specs.Placed.{last-record, stand-append}
use Rattle.about_texts.specs.Rebuilt.{Knows, Rebuilt, Referred, rebuilt, referred, words-both}
use Rattle.about_running.specs.Judged.{append-none-right, both-fine, clean-fine, faulty-fine, given-fine, proper-fine, unless-none}
use Rattle.about_running.specs.Ordered.{tree-first, trees-split}
use Rattle.language.specs.Tests.{both}

abbrev pub section_of : Bool → Section
section_of true = N.in_state
section_of false = N.in_operation

-- Names of operations and states in actions.
pub record Names (d : Description) (sc : Scope) (in_state : Bool) (works : ℕ → Judged) : Type 0 where
  pub performs : (o : ℕ) (w : Worth) → works o ≡ fine w → (meaning sc (operation_at d o).name ≡ operation o) × (name_right (operation_at d o).name ≡ true)
  pub goes : in_state ≡ true → (s : ℕ) → 0 < length (state_at d s).name → (meaning sc (state_at d s).name ≡ state s) × (name_right (state_at d s).name ≡ true)

module _ (d : Description) (sc : Scope) (knows : Knows d sc (length d.facilities)) (in_state : Bool) (works : ℕ → Judged) (names : Names d sc in_state works) where
  abbrev known : ℕ
  known = length d.facilities

  abbrev terms : ℕ → Judged
  terms = terminal_below d no_places known

  abbrev section : Section
  section = section_of in_state

  abbrev judged : ℕ → ℕ → Shape → Judged
  judged k i t = J.run_step d no_places in_state works (J.run_below d no_places in_state works k) k i t

  -- Words for a list: none for an empty one.
  abbrev Derived : Shape → ℕ → ℕ → List Word → Actions → Type 0
  Derived actions zero n ws a = a ≡ T.done
  Derived actions (suc k) n ws a = (h : ℕ) → n ≤ h → Is (N.action_list section) h ws (N.actions a)
  Derived arms zero n ws a = a ≡ T.done
  Derived arms (suc k) n ws a = (h : ℕ) → n ≤ h → Is (N.arms section) h ws (N.actions a)

  -- The k records from i on are those of a tree, whose expressions stand from s to m.
  pub record Listed (t : Shape) (k i s m : ℕ) : Type 0 where
    pub tree : Actions
    pub count : actions_in tree ≡ k
    pub size : s + expressions_in tree ≡ m
    pub acting : StandActions d i (actions_of sc s tree)
    pub stands : Stand d s (nodes_in sc s tree)
    pub counted : nodes (nodes_in sc s tree) + acts (actions_of sc s tree) ≡ counted_actions tree + lefts (actions_of sc s tree)
    pub words : List Word
    pub right : WordsRight words
    pub depth : ℕ
    pub derived : Derived t k depth words tree

  empty : (t : Shape) (i s m : ℕ) → s ≡ m → Listed t 0 i s m
  unfolding nodes_in actions_of counted_actions actions_in expressions_in total
  empty actions i s m e = record { tree = T.done; count = refl; size = omega (arith, e); acting = tt; stands = tt; counted = refl; words = []; right = tt; depth = 0; derived = refl }
  empty arms i s m e = record { tree = T.done; count = refl; size = omega (arith, e); acting = tt; stands = tt; counted = refl; words = []; right = tt; depth = 0; derived = refl }

  -- What follows an action: nothing, or a comma and the list.
  abbrev rest_words : ℕ → List Word → List Word
  rest_words zero ws = []
  rest_words (suc k) ws = sign comma here ∷ ws

  rest-right : (k : ℕ) (ws : List Word) → WordsRight ws → WordsRight (rest_words k ws)
  rest-right zero ws h = tt
  rest-right (suc k) ws h = (tt, h)

  rest_of : (k n : ℕ) (ws : List Word) (a : Actions) → Derived actions k n ws a → (h : ℕ) → n ≤ h → Is (N.rest section) h (rest_words k ws) (N.actions a)
  rest_of zero n ws a e h l = rw e G.rest-none
  rest_of (suc k) n ws a e h l = G.rest_more (e h l)

  -- ---- Expressions of actions.

  right-built : (c s : ℕ) {w : Worth} → J.right d no_places in_state works c ≡ fine w → start_at d c ≡ some s → Rebuilt d sc known knows terms c s 0
  right-built c s {w} e o =
      let y = proper-fine (node_place no_places c).at (E.judge_at d no_places terms known c) e in
      subst (Rebuilt d sc known knows terms c s) y.arms (rebuilt d sc known knows terms c s w y.same o)

  side-built : (l s : ℕ) {w : Worth} → J.side d no_places in_state works l ≡ fine w → start_at d l ≡ some s → Referred d sc known knows terms l s
  side-built l s e o = referred d sc known knows terms l s e o

  -- ---- An action, and the list after it.

  -- The action's record stands at i, its own expressions from s to o; then the list.
  following : (k i s m o : ℕ) (X : Listed actions k (suc i) o m) (t : Actions) (a : B.NotedAction) (own : List B.Noted) (c : ℕ)
      → o ≡ s + length own → Stand d s own → action_at d i ≡ a.action → nodes_in sc s t ≡ own ++ nodes_in sc o X.tree → actions_of sc s t ≡ a ∷ actions_of sc o X.tree
      → actions_in t ≡ suc (actions_in X.tree) → s + expressions_in t ≡ o + expressions_in X.tree → counted_actions t ≡ c + counted_actions X.tree
      → nodes own + action_count a.action ≡ c + left_count a.action
      → (ws : List Word) → WordsRight ws → (n : ℕ) → ((h : ℕ) → n ≤ h → Is (N.action_list section) h ws (N.actions t)) → Listed actions (suc k) i s m
  unfolding total
  following k i s m o X t a own c e h q f g u v x y ws w n z =
      let p = nodes-append own (nodes_in sc o X.tree) in
      let r = X.counted in
      let j = X.count in
      let l = X.size in
      record {
        tree = t;
        count = omega (arith, u, j);
        size = omega (arith, v, l);
        acting = rw g (q, X.acting);
        stands = rw f (stand-append d sc s o own (nodes_in sc o X.tree) h e X.stands);
        counted = rw (f, g) (omega (arith, p, r, x, y));
        words = ws;
        right = w;
        depth = n;
        derived = z;
      }

  -- What is claimed of every run of fewer records.
  record Fewer (n : ℕ) : Type 0 where
    lists : (k i s m : ℕ) (w : Worth) → k < n → judged k i actions ≡ fine w → trees_end d s (run_roots d k i) ≡ some m → Listed actions k i s m
    arm-lists : (k i s m : ℕ) (w : Worth) → k < n → judged k i arms ≡ fine w → trees_end d s (run_roots d k i) ≡ some m → (X : Listed arms k i s m) × (arms_in X.tree ≡ w.arms)

  next-to : (i : ℕ) → i + 1 ≡ suc i
  next-to i = omega arith

  moved : (k l i j : ℕ) (t : Shape) {w : Worth} → k ≡ l → i ≡ j → judged k i t ≡ fine w → judged l j t ≡ fine w
  moved k l i j t {w} e f h = subst (λ (x : ℕ). judged x j t ≡ fine w) e (subst (λ (x : ℕ). judged k x t ≡ fine w) f h)

  after_one : (n i o m : ℕ) {w : Worth} → Fewer (suc n) → judged n (i + 1) actions ≡ fine w → trees_end d o (run_roots d n (suc i)) ≡ some m → Listed actions n (suc i) o m
  after_one n i o m ih e g = ih.lists n (suc i) o m _ (omega arith) (rw (next-to i) at e) g

  allowed-store : (k : ℕ) (f : Kind) → may_store k f ≡ true → is_store k ≡ true
  unfolding may_store
  allowed-store k f e = go (eqb k delayed_sign) refl (eqb k equal_sign) refl e
    where
      go : (a : Bool) → eqb k delayed_sign ≡ a → (b : Bool) → eqb k equal_sign ≡ b → cond a (takes_delayed f) (cond b (takes_immediate f) false) ≡ true → is_store k ≡ true
      go true p b q h = rw p refl
      go false p true q h = rw (p, q) refl
      go false p false q h = absurd (let z : ◌≡◌ {A = ℕ} 0 1 = cc in omega arith)

  -- In a state nothing is stored, in an operation nothing is gone to.
  only-there : (b : Bool) (at : Position) (j : Judged) {w : Worth} → J.only_in d no_places in_state works b at j ≡ fine w → b ≡ true
  only-there true at j e = refl
  only-there false at j e = faulty-fine e

  in-operation : J.not_in_state d no_places in_state works ≡ true → N.in_operation ≡ section
  in-operation e = go in_state e
    where
      go : (b : Bool) → cond b false true ≡ true → N.in_operation ≡ section_of b
      go true h = absurd (let z : ◌≡◌ {A = ℕ} 0 1 = cc in omega arith)
      go false h = refl

  in-state : in_state ≡ true → N.in_state ≡ section
  in-state e = rw e refl

  assoc : (xs ys zs : List B.Noted) → (xs ++ ys) ++ zs ≡ xs ++ (ys ++ zs)
  assoc [] ys zs = refl
  assoc (x ∷ xs) ys zs = ap (λ (ws : List B.Noted). x ∷ ws) (assoc xs ys zs)

  abbrev Side : ℕ → ℕ → Type 0
  Side l s = Referred d sc known knows terms l s

  abbrev Term : ℕ → ℕ → Type 0
  Term c s = Rebuilt d sc known knows terms c s 0

  -- The rest of a list, in whatever section it stands.
  rest_in : (x : Section) → x ≡ section → (n o m i : ℕ) (A : Listed actions n i o m) (h : ℕ) → A.depth ≤ h → Is (N.rest x) h (rest_words n A.words) (N.actions A.tree)
  rest_in x e n o m i A h l = subst (λ (y : Section). Is (N.rest y) h (rest_words n A.words) (N.actions A.tree)) (sym e) (rest_of n A.depth A.words A.tree A.derived h l)

  list-in : (x : Section) → x ≡ section → {h : ℕ} {ws : List Word} {t : Actions} → Is (N.action_list x) h ws (N.actions t) → Is (N.action_list section) h ws (N.actions t)
  list-in x e {h} {ws} {t} y = subst (λ (z : Section). Is (N.action_list z) h ws (N.actions t)) e y

  store-made : (n i s m k l r : ℕ) (L : Side l s) (X : Term r (l + 1)) (A : Listed actions n (suc i) (r + 1) m) → action_at d i ≡ D.store k l r → N.in_operation ≡ section → is_store k ≡ true → Listed actions (suc n) i s m
  unfolding nodes_in actions_of actions_in expressions_in counted_actions
  store-made n i s m k l r L X A q o z =
      let ls : s + expression_size L.tree ≡ l + 1 = L.placed.size in
      let xs : l + 1 + expression_size X.tree ≡ r + 1 = X.placed.size in
      let us = nodes_of sc s L.tree in
      let vs = nodes_of sc (l + 1) X.tree in
      let p = nodes-size sc s L.tree in
      let y = nodes-size sc (l + 1) X.tree in
      following n i s m (r + 1) A (T.store k here (T.single L.tree) X.tree A.tree) (B.act (D.store k l r) here) (us ++ vs) (suc (counted_reference L.tree + counted_expression X.tree))
      (let a = length-append us vs in omega (arith, a, p, y, ls, xs)) (stand-append d sc s (l + 1) us vs L.placed.stands (omega (arith, p, ls)) X.placed.stands) q
      (rw (ls, xs) (sym (assoc us vs (nodes_in sc (r + 1) A.tree))))
      (rw (last-record d sc l s L.tree L.placed, ls, last-record d sc r (l + 1) X.tree X.placed, xs) refl) refl (omega (arith, ls, xs)) (omega arith)
      (let a = nodes-append us vs in let b = L.placed.counted in let c = X.placed.counted in let e = L.reference-counts in omega (arith, a, b, c, e))
      (L.words ++ sign k here ∷ (X.words ++ rest_words n A.words)) (words-both L.words _ L.right (tt, words-both X.words _ X.right (rest-right n A.words A.right))) (max L.depth (max X.depth A.depth))
      (λ h j. list-in N.in_operation o (G.act-store z (G.left_one (L.derived h (omega (arith, j)))) (of-term (X.derived h (omega (arith, j)))) (rest_in N.in_operation o n (r + 1) m (suc i) A h (omega (arith, j)))))

  store-listed : (n i s m k l r : ℕ) → Fewer (suc n) → action_at d i ≡ D.store k l r → Plain d no_places sc in_state works n i (D.store k l r) → trees_end d s (l ∷ r ∷ run_roots d n (suc i)) ≡ some m → Listed actions (suc n) i s m
  unfolding simple_judged
  store-listed n i s m k l r ih q y g =
      let at = action_place no_places i in
      let v = both-fine (J.side d no_places in_state works l) (J.right d no_places in_state works r) _ (only-fine d no_places sc in_state works (J.not_in_state d no_places in_state works) at _ y.own-fine) in
      let own = clean-fine (unless (eqb v.u.length v.v.length) at BadLength ++ unless (may_store k (kind_at d l)) at BadStore) (worth 1 0 (own_work + v.u.work + v.v.work)) v.own in
      let t1 = tree-first d s l (r ∷ run_roots d n (suc i)) m g in
      let t2 = tree-first d (l + 1) r (run_roots d n (suc i)) m t1.rest in
      store-made n i s m k l r (side-built l s v.left t1.start) (right-built r (l + 1) v.right t2.start) (after_one n i (r + 1) m ih y.rest-fine t2.rest) q
      (in-operation (only-there (J.not_in_state d no_places in_state works) at _ y.own-fine))
      (allowed-store k (kind_at d l) (unless-none (may_store k (kind_at d l)) at BadStore (append-none-right (unless (eqb v.u.length v.v.length) at BadLength) _ own.none)))

  pair_made : (n i s m k l p r : ℕ) (L : Side l s) (P : Side p (l + 1)) (X : Term r (p + 1)) (A : Listed actions n (suc i) (r + 1) m) → action_at d i ≡ D.store_pair k l p r → N.in_operation ≡ section → is_store k ≡ true → Listed actions (suc n) i s m
  unfolding nodes_in actions_of actions_in expressions_in counted_actions
  pair_made n i s m k l p r L P X A q o z =
      let ls : s + expression_size L.tree ≡ l + 1 = L.placed.size in
      let ps : l + 1 + expression_size P.tree ≡ p + 1 = P.placed.size in
      let xs : p + 1 + expression_size X.tree ≡ r + 1 = X.placed.size in
      let both_left : s + (expression_size L.tree + expression_size P.tree) ≡ p + 1 = omega (arith, ls, ps) in
      let us = nodes_of sc s L.tree in
      let ws = nodes_of sc (l + 1) P.tree in
      let vs = nodes_of sc (p + 1) X.tree in
      let a1 = nodes-size sc s L.tree in
      let a2 = nodes-size sc (l + 1) P.tree in
      let a3 = nodes-size sc (p + 1) X.tree in
      following n i s m (r + 1) A (T.store k here (T.pair L.tree P.tree) X.tree A.tree) (B.act (D.store_pair k l p r) here) ((us ++ ws) ++ vs) (suc (counted_reference L.tree + counted_reference P.tree + counted_expression X.tree))
      (let a = length-append (us ++ ws) vs in let b = length-append us ws in omega (arith, a, b, a1, a2, a3, ls, ps, xs))
      (stand-append d sc s (p + 1) (us ++ ws) vs (stand-append d sc s (l + 1) us ws L.placed.stands (omega (arith, a1, ls)) P.placed.stands) (let b = length-append us ws in omega (arith, b, a1, a2, ls, ps)) X.placed.stands) q
      (rw (ls, both_left, xs) (sym (assoc (us ++ ws) vs (nodes_in sc (r + 1) A.tree))))
      (rw (last-record d sc l s L.tree L.placed, both_left, ls, last-record d sc p (l + 1) P.tree P.placed, ps, last-record d sc r (p + 1) X.tree X.placed, xs) refl) refl (omega (arith, ls, ps, xs)) (omega arith)
      (let a = nodes-append (us ++ ws) vs in let b = nodes-append us ws in let c = L.placed.counted in let e = L.reference-counts in let f = P.placed.counted in let g = P.reference-counts in let h = X.placed.counted in omega (arith, a, b, c, e, f, g, h))
      ((L.words ++ sign con_word here ∷ P.words) ++ sign k here ∷ (X.words ++ rest_words n A.words))
      (words-both (L.words ++ sign con_word here ∷ P.words) _ (words-both L.words _ L.right (tt, P.right)) (tt, words-both X.words _ X.right (rest-right n A.words A.right))) (max (max L.depth P.depth) (max X.depth A.depth))
      (λ h j. list-in N.in_operation o (G.act-store z (G.left-two here (L.derived h (omega (arith, j))) (P.derived h (omega (arith, j)))) (of-term (X.derived h (omega (arith, j)))) (rest_in N.in_operation o n (r + 1) m (suc i) A h (omega (arith, j)))))

  pair-listed : (n i s m k l p r : ℕ) → Fewer (suc n) → action_at d i ≡ D.store_pair k l p r → Plain d no_places sc in_state works n i (D.store_pair k l p r) → trees_end d s (l ∷ p ∷ r ∷ run_roots d n (suc i)) ≡ some m → Listed actions (suc n) i s m
  unfolding simple_judged
  pair-listed n i s m k l p r ih q y g =
      let at = action_place no_places i in
      let may = both (may_store k (kind_at d l)) (may_store k (kind_at d p)) in
      let v = both-fine (J.sides d no_places in_state works l p) (J.right d no_places in_state works r) _ (only-fine d no_places sc in_state works (J.not_in_state d no_places in_state works) at _ y.own-fine) in
      let u = both-fine (J.side d no_places in_state works l) (J.side d no_places in_state works p) _ v.left in
      let own = clean-fine (unless (eqb v.u.length v.v.length) at BadLength ++ unless may at BadStore) (worth 1 0 (own_work + v.u.work + v.v.work)) v.own in
      let t1 = tree-first d s l (p ∷ r ∷ run_roots d n (suc i)) m g in
      let t2 = tree-first d (l + 1) p (r ∷ run_roots d n (suc i)) m t1.rest in
      let t3 = tree-first d (p + 1) r (run_roots d n (suc i)) m t2.rest in
      pair_made n i s m k l p r (side-built l s u.left t1.start) (side-built p (l + 1) u.right t2.start) (right-built r (p + 1) v.right t3.start) (after_one n i (r + 1) m ih y.rest-fine t3.rest) q
      (in-operation (only-there (J.not_in_state d no_places in_state works) at _ y.own-fine))
      (allowed-store k (kind_at d l) (left-of _ _ (unless-none may at BadStore (append-none-right (unless (eqb v.u.length v.v.length) at BadLength) _ own.none))))

  set-made : (n i s m l : ℕ) (L : Side l s) (A : Listed actions n (suc i) (l + 1) m) → action_at d i ≡ D.set l → Listed actions (suc n) i s m
  unfolding nodes_in actions_of actions_in expressions_in counted_actions
  set-made n i s m l L A q =
      let ls : s + expression_size L.tree ≡ l + 1 = L.placed.size in
      let us = nodes_of sc s L.tree in
      let p = nodes-size sc s L.tree in
      following n i s m (l + 1) A (T.set here L.tree A.tree) (B.act (D.set l) here) us (suc (counted_reference L.tree)) (omega (arith, p, ls)) L.placed.stands q
      (rw ls refl) (rw (last-record d sc l s L.tree L.placed, ls) refl) refl (omega (arith, ls)) (omega arith) (let b = L.placed.counted in let e = L.reference-counts in omega (arith, b, e))
      (L.words ++ sign at_sign here ∷ rest_words n A.words) (words-both L.words _ L.right (tt, rest-right n A.words A.right)) (max L.depth A.depth)
      (λ h j. G.act-set (L.derived h (omega (arith, j))) (rest_of n A.depth A.words A.tree A.derived h (omega (arith, j))))

  set-listed : (n i s m l : ℕ) → Fewer (suc n) → action_at d i ≡ D.set l → Plain d no_places sc in_state works n i (D.set l) → trees_end d s (l ∷ run_roots d n (suc i)) ≡ some m → Listed actions (suc n) i s m
  unfolding simple_judged
  set-listed n i s m l ih q y g =
      let v = given-fine (J.side d no_places in_state works l) _ y.own-fine in
      let t1 = tree-first d s l (run_roots d n (suc i)) m g in
      set-made n i s m l (side-built l s v.part t1.start) (after_one n i (l + 1) m ih y.rest-fine t1.rest) q

  -- ---- Actions without expressions.

  named-made : (n i s m c : ℕ) (t : Actions) (a : Action) (A : Listed actions n (suc i) s m) → action_at d i ≡ a → nodes_in sc s t ≡ nodes_in sc s A.tree → actions_of sc s t ≡ B.act a here ∷ actions_of sc s A.tree
      → actions_in t ≡ suc (actions_in A.tree) → expressions_in t ≡ expressions_in A.tree → counted_actions t ≡ suc (counted_actions A.tree) → action_count a ≡ suc (left_count a)
      → (ws : List Word) → WordsRight ws → ((h : ℕ) → A.depth ≤ h → Is (N.action_list section) h (ws ++ rest_words n A.words) (N.actions t)) → Listed actions (suc n) i s m
  unfolding total
  named-made n i s m c t a A q f g u v x y ws w z =
      following n i s m s A t (B.act a here) [] 1 (omega arith) tt q f g u (omega (arith, v)) (omega (arith, x)) (omega (arith, y)) (ws ++ rest_words n A.words) (words-both ws _ w (rest-right n A.words A.right)) A.depth z

  perform-listed : (n i s m o : ℕ) → Fewer (suc n) → action_at d i ≡ D.perform o → Plain d no_places sc in_state works n i (D.perform o) → trees_end d s (run_roots d n (suc i)) ≡ some m → Listed actions (suc n) i s m
  unfolding simple_judged nodes_in actions_of actions_in expressions_in counted_actions
  perform-listed n i s m o ih q y g =
      let v = given-fine (works o) _ y.own-fine in
      let name = names.performs o v.v v.part in
      let A = after_one n i s m ih y.rest-fine g in
      named-made n i s m 0 (T.perform (operation_at d o).name here A.tree) (D.perform o) A q refl (rw name.0 refl) refl refl refl refl (W.name (operation_at d o).name here ∷ []) (name.1, tt)
      (λ h j. G.act-perform (rest_of n A.depth A.words A.tree A.derived h j))

  to_named : (b : Bool) (at : Position) {w : Worth} → cond b (worth 1 0 own_work) (refuse at BadName) ≡ fine w → b ≡ true
  to_named true at e = refl
  to_named false at e = faulty-fine e

  goto-listed : (n i s m t : ℕ) → Fewer (suc n) → action_at d i ≡ D.goto t → Plain d no_places sc in_state works n i (D.goto t) → trees_end d s (run_roots d n (suc i)) ≡ some m → Listed actions (suc n) i s m
  unfolding simple_judged nodes_in actions_of actions_in expressions_in counted_actions
  goto-listed n i s m t ih q y g =
      let at = action_place no_places i in
      let b = only-there in_state at _ y.own-fine in
      let some-name = to_named (ltb 0 (length (state_at d t).name)) at (only-fine d no_places sc in_state works in_state at _ y.own-fine) in
      let name = names.goes b t (ltb-true 0 (length (state_at d t).name) some-name) in
      let A = after_one n i s m ih y.rest-fine g in
      let o = in-state b in
      named-made n i s m 0 (T.goto (state_at d t).name here A.tree) (D.goto t) A q refl (rw name.0 refl) refl refl refl refl (sign goto_sign here ∷ W.name (state_at d t).name here ∷ []) (tt, (name.1, tt))
      (λ h j. list-in N.in_state o (G.act-goto (rest_in N.in_state o n s m (suc i) A h j)))

  call-listed : (n i s m t : ℕ) → Fewer (suc n) → action_at d i ≡ D.call t → Plain d no_places sc in_state works n i (D.call t) → trees_end d s (run_roots d n (suc i)) ≡ some m → Listed actions (suc n) i s m
  unfolding simple_judged nodes_in actions_of actions_in expressions_in counted_actions
  call-listed n i s m t ih q y g =
      let at = action_place no_places i in
      let b = only-there in_state at _ y.own-fine in
      let some-name = to_named (ltb 0 (length (state_at d t).name)) at (only-fine d no_places sc in_state works in_state at _ y.own-fine) in
      let name = names.goes b t (ltb-true 0 (length (state_at d t).name) some-name) in
      let A = after_one n i s m ih y.rest-fine g in
      let o = in-state b in
      named-made n i s m 0 (T.call (state_at d t).name here A.tree) (D.call t) A q refl (rw name.0 refl) refl refl refl refl (sign call_sign here ∷ W.name (state_at d t).name here ∷ []) (tt, (name.1, tt))
      (λ h j. list-in N.in_state o (G.act-call (rest_in N.in_state o n s m (suc i) A h j)))

  return-listed : (n i s m : ℕ) → Fewer (suc n) → action_at d i ≡ D.return → Plain d no_places sc in_state works n i D.return → trees_end d s (run_roots d n (suc i)) ≡ some m → Listed actions (suc n) i s m
  unfolding simple_judged nodes_in actions_of actions_in expressions_in counted_actions
  return-listed n i s m ih q y g =
      let o = in-state (only-there in_state (action_place no_places i) _ y.own-fine) in
      let A = after_one n i s m ih y.rest-fine g in
      named-made n i s m 0 (T.return here A.tree) D.return A q refl refl refl refl refl refl (sign return_word here ∷ []) (tt, tt)
      (λ h j. list-in N.in_state o (G.act-return (rest_in N.in_state o n s m (suc i) A h j)))

  -- ---- Conditionals.

  -- One opener more.
  opened : {x : N.Notion} {ws : List Word} {t : N.Tree} {m : ℕ} (h : ℕ) → suc m ≤ h → ((g : ℕ) → m ≤ g → Is x (suc g) ws t) → Is x h ws t
  opened zero l k = absurd (omega arith)
  opened (suc h) l k = k h (omega arith)

  pub acting-append : (i at : ℕ) (xs ys : List B.NotedAction) → StandActions d i xs → at ≡ i + length xs → StandActions d at ys → StandActions d i (xs ++ ys)
  acting-append i at [] ys h e k = let z : at ≡ i = omega (arith, e) in rw z at k
  acting-append i at (x ∷ xs) ys h e k = (h.0, acting-append (suc i) at xs ys h.1 (omega (arith, e)) k)

  when-made : (x n i s c mid m : ℕ) (C : Term c s) (I : Listed actions (suc x) (suc (suc i)) (c + 1) mid) (A : Listed actions n (suc (suc i) + suc x) mid m)
      → action_at d i ≡ D.when c (suc (suc x)) → action_at d (suc i) ≡ D.arm (suc x) → Listed actions (suc (suc (suc x) + n)) i s m
  unfolding nodes_in actions_of actions_in expressions_in counted_actions total
  when-made x n i s c mid m C I A q r =
      let cs : s + expression_size C.tree ≡ c + 1 = C.placed.size in
      let is : c + 1 + expressions_in I.tree ≡ mid = I.size in
      let us = nodes_of sc s C.tree in
      let vs = nodes_in sc (c + 1) I.tree in
      let ws = nodes_in sc mid A.tree in
      let ks = actions_of sc (c + 1) I.tree in
      let ls = actions_of sc mid A.tree in
      let ic = I.count in
      let ac = A.count in
      record {
        tree = T.when here C.tree I.tree A.tree;
        count = omega (arith, ic, ac);
        size = let z = A.size in omega (arith, cs, is, z);
        acting = rw (last-record d sc c s C.tree C.placed, cs, is, ic) (q, (r, acting-append (suc (suc i)) (suc (suc i) + suc x) ks ls I.acting (let z = actions-size sc (c + 1) I.tree in omega (arith, z, ic)) A.acting));
        stands = rw (cs, is) (stand-append d sc s (c + 1) us (vs ++ ws) C.placed.stands (let z = nodes-size sc s C.tree in omega (arith, z, cs)) (stand-append d sc (c + 1) mid vs ws I.stands (let z = in_size sc (c + 1) I.tree in omega (arith, z, is)) A.stands));
        counted = rw (cs, is) (let a = nodes-append us (vs ++ ws) in let b = nodes-append vs ws in let e = acts-append ks ls in let f = lefts-append ks ls in let g = C.placed.counted in let h = I.counted in let j = A.counted in omega (arith, a, b, e, f, g, h, j));
        words = sign if_word here ∷ (C.words ++ sign then_word here ∷ (I.words ++ sign end_if_word here ∷ rest_words n A.words));
        right = (tt, words-both C.words _ C.right (tt, words-both I.words _ I.right (tt, rest-right n A.words A.right)));
        depth = suc (max C.depth (max I.depth A.depth));
        derived = λ h j. opened h j (λ g l. G.act-when here here (of-term (C.derived g (omega (arith, l)))) (I.derived g (omega (arith, l))) (rest_of n A.depth A.words A.tree A.derived (suc g) (omega (arith, l))));
      }

  choose-made : (x n i s c k mid m : ℕ) (C : Term c s) (I : Listed arms (suc x) (suc i) (c + 1) mid) (A : Listed actions n (suc i + suc x) mid m)
      → action_at d i ≡ D.choose c k (suc x) → arms_in I.tree ≡ k → Listed actions (suc (suc x + n)) i s m
  unfolding nodes_in actions_of actions_in expressions_in counted_actions total
  choose-made x n i s c k mid m C I A q r =
      let cs : s + expression_size C.tree ≡ c + 1 = C.placed.size in
      let is : c + 1 + expressions_in I.tree ≡ mid = I.size in
      let us = nodes_of sc s C.tree in
      let vs = nodes_in sc (c + 1) I.tree in
      let ws = nodes_in sc mid A.tree in
      let ks = actions_of sc (c + 1) I.tree in
      let ls = actions_of sc mid A.tree in
      let ic = I.count in
      let ac = A.count in
      record {
        tree = T.choose here C.tree I.tree A.tree;
        count = omega (arith, ic, ac);
        size = let z = A.size in omega (arith, cs, is, z);
        acting = rw (last-record d sc c s C.tree C.placed, cs, is, ic, r) (q, acting-append (suc i) (suc i + suc x) ks ls I.acting (let z = actions-size sc (c + 1) I.tree in omega (arith, z, ic)) A.acting);
        stands = rw (cs, is) (stand-append d sc s (c + 1) us (vs ++ ws) C.placed.stands (let z = nodes-size sc s C.tree in omega (arith, z, cs)) (stand-append d sc (c + 1) mid vs ws I.stands (let z = in_size sc (c + 1) I.tree in omega (arith, z, is)) A.stands));
        counted = rw (cs, is) (let a = nodes-append us (vs ++ ws) in let b = nodes-append vs ws in let e = acts-append ks ls in let f = lefts-append ks ls in let g = C.placed.counted in let h = I.counted in let j = A.counted in omega (arith, a, b, e, f, g, h, j));
        words = sign case_word here ∷ (C.words ++ (I.words ++ sign end_case_word here ∷ rest_words n A.words));
        right = (tt, words-both C.words _ C.right (words-both I.words _ I.right (tt, rest-right n A.words A.right)));
        depth = suc (max C.depth (max I.depth A.depth));
        derived = λ h j. opened h j (λ g l. G.act-case here (of-term (C.derived g (omega (arith, l)))) (I.derived g (omega (arith, l))) (rest_of n A.depth A.words A.tree A.derived (suc g) (omega (arith, l))));
      }

  -- What follows an arm: nothing, or more of them.
  abbrev more_words : ℕ → List Word → List Word
  more_words zero ws = []
  more_words (suc k) ws = ws

  more-right : (k : ℕ) (ws : List Word) → WordsRight ws → WordsRight (more_words k ws)
  more-right zero ws h = tt
  more-right (suc k) ws h = h

  more_of : (k n : ℕ) (ws : List Word) (a : Actions) → Derived arms k n ws a → (h : ℕ) → n ≤ h → Is (N.more_arms section) h (more_words k ws) (N.actions a)
  more_of zero n ws a e h l = rw e G.arms_end
  more_of (suc k) n ws a e h l = G.arms_more (e h l)

  arm-made : (x n i s mid m : ℕ) (I : Listed actions (suc x) (suc i) s mid) (A : Listed arms n (suc i + suc x) mid m) → action_at d i ≡ D.arm (suc x) → Listed arms (suc (suc x + n)) i s m
  unfolding nodes_in actions_of actions_in expressions_in counted_actions total
  arm-made x n i s mid m I A q =
      let is : s + expressions_in I.tree ≡ mid = I.size in
      let vs = nodes_in sc s I.tree in
      let ws = nodes_in sc mid A.tree in
      let ks = actions_of sc s I.tree in
      let ls = actions_of sc mid A.tree in
      let ic = I.count in
      let ac = A.count in
      record {
        tree = T.arm I.tree A.tree;
        count = omega (arith, ic, ac);
        size = let z = A.size in omega (arith, is, z);
        acting = rw (is, ic) (q, acting-append (suc i) (suc i + suc x) ks ls I.acting (let z = actions-size sc s I.tree in omega (arith, z, ic)) A.acting);
        stands = rw is (stand-append d sc s mid vs ws I.stands (let z = in_size sc s I.tree in omega (arith, z, is)) A.stands);
        counted = rw is (let b = nodes-append vs ws in let e = acts-append ks ls in let f = lefts-append ks ls in let h = I.counted in let j = A.counted in omega (arith, b, e, f, h, j));
        words = sign do_word here ∷ (I.words ++ more_words n A.words);
        right = (tt, words-both I.words _ I.right (more-right n A.words A.right));
        depth = max I.depth A.depth;
        derived = λ h j. G.arms-one (I.derived h (omega (arith, j))) (more_of n A.depth A.words A.tree A.derived h (omega (arith, j)));
      }

  -- ---- Where arms begin.

  pub record ArmAt (y j : ℕ) (w : Worth) : Type 0 where
    pub size : ℕ
    pub record-so : action_at d j ≡ D.arm size
    pub is-arm : Arm d no_places sc in_state works y j size w

  arm_at : (y j : ℕ) (a : Action) {w : Worth} → action_at d j ≡ a → judged (suc y) j arms ≡ fine w → ArmAt y j w
  unfolding J.arms_judged
  arm_at y j (D.store k l r) q e = faulty-fine (first-arm d no_places sc in_state works y j _ q e)
  arm_at y j (D.store_pair k l n r) q e = faulty-fine (first-arm d no_places sc in_state works y j _ q e)
  arm_at y j (D.set l) q e = faulty-fine (first-arm d no_places sc in_state works y j _ q e)
  arm_at y j (D.perform o) q e = faulty-fine (first-arm d no_places sc in_state works y j _ q e)
  arm_at y j (D.goto s) q e = faulty-fine (first-arm d no_places sc in_state works y j _ q e)
  arm_at y j (D.call s) q e = faulty-fine (first-arm d no_places sc in_state works y j _ q e)
  arm_at y j D.return q e = faulty-fine (first-arm d no_places sc in_state works y j _ q e)
  arm_at y j (D.when c x) q e = faulty-fine (first-arm d no_places sc in_state works y j _ q e)
  arm_at y j (D.choose c n x) q e = faulty-fine (first-arm d no_places sc in_state works y j _ q e)
  arm_at y j (D.arm x) q e = record { size = x; record-so = q; is-arm = arm-fine d no_places sc in_state works y j x (first-arm d no_places sc in_state works y j (D.arm x) q e) }
  arm_at y j D.Action.broken q e = faulty-fine (first-arm d no_places sc in_state works y j _ q e)

  no-arms : (k j : ℕ) {w : Worth} → judged k j arms ≡ fine w → w.arms ≡ 0 → k ≡ 0
  no-arms zero j e z = refl
  no-arms (suc k) j e z = let y = arm_at k j (action_at d j) refl e in absurd (let c = y.is-arm.count in omega (arith, c, z))

  some-arms : (k j : ℕ) {w : Worth} → judged k j arms ≡ fine w → 0 < w.arms → (y : ℕ) × (k ≡ suc y)
  some-arms zero j {w} e l = absurd (let own : worth 1 0 0 ≡ fine w = e in let z : 0 ≡ w.arms = cc in omega arith)
  some-arms (suc k) j e l = (k, refl)

  some_number : (x : ℕ) → 1 ≤ x → (y : ℕ) × (x ≡ suc y)
  some_number zero l = absurd (omega arith)
  some_number (suc x) l = (x, refl)

  -- ---- One record more.

  ends-moved : (a b i s m : ℕ) → a ≡ b → trees_end d s (run_roots d a i) ≡ some m → trees_end d s (run_roots d b i) ≡ some m
  ends-moved a b i s m e h = subst (λ (x : ℕ). trees_end d s (run_roots d x i) ≡ some m) e h

  roots-split : (a b i s m : ℕ) → trees_end d s (run_roots d (a + b) i) ≡ some m → (mid : ℕ) × ((trees_end d s (run_roots d a i) ≡ some mid) × (trees_end d mid (run_roots d b (i + a)) ≡ some m))
  roots-split a b i s m e =
      let y = trees-split d s (run_roots d a i) (run_roots d b (i + a)) m (rw (roots-join d a b i) at e) in
      (y.middle, (y.left, y.right))

  -- An arm's record has no roots.
  arm-skipped : (n i s m x : ℕ) → action_at d i ≡ D.arm x → trees_end d s (run_roots d (suc n) i) ≡ some m → trees_end d s (run_roots d n (suc i)) ≡ some m
  unfolding run_roots
  arm-skipped n i s m x q g = rw q at g

  when-arms : (v w : Worth) → both (eqb v.length 1) (eqb w.arms 1) ≡ true → w.arms ≡ 1
  when-arms v w e = go (eqb v.length 1) e
    where
      go : (b : Bool) → both b (eqb w.arms 1) ≡ true → w.arms ≡ 1
      go true h = eqb-true w.arms 1 h
      go false h = absurd (let z : ◌≡◌ {A = ℕ} 0 1 = cc in omega arith)

  choose-arms : (n : ℕ) (v w : Worth) → both (selects v.length n) (eqb w.arms n) ≡ true → (w.arms ≡ n) × (0 < n)
  unfolding selects
  choose-arms n v w e = go (leb v.length E.longest_selector) (eqb n (2 ^ v.length)) refl (eqb w.arms n) refl e
    where
      go : (a b : Bool) → eqb n (2 ^ v.length) ≡ b → (c : Bool) → eqb w.arms n ≡ c → both (both a b) c ≡ true → (w.arms ≡ n) × (0 < n)
      go true true p true q h = let z : n ≡ 2 ^ v.length = eqb-true _ _ p in (eqb-true _ _ q, rw z (pow_pos v.length))
      go true true p false q h = absurd (let z : ◌≡◌ {A = ℕ} 0 1 = cc in omega arith)
      go true false p c q h = absurd (let z : ◌≡◌ {A = ℕ} 0 1 = cc in omega arith)
      go false b p c q h = absurd (let z : ◌≡◌ {A = ℕ} 0 1 = cc in omega arith)

  when-listed : (n i s m c x : ℕ) → Fewer (suc n) → action_at d i ≡ D.when c x → Held d no_places sc in_state works n i c x (λ v w. both (eqb v.length 1) (eqb w.arms 1))
      → trees_end d s (c ∷ run_roots d n (suc i)) ≡ some m → Listed actions (suc n) i s m
  unfolding run_roots
  when-listed n i s m c x ih q y g =
      let one = when-arms y.condition y.inner y.holds in
      let x1 = some-arms x (i + 1) y.inner-fine (omega (arith, one)) in
      let inner : judged (suc x1.0) (suc i) arms ≡ fine y.inner = moved x (suc x1.0) (i + 1) (suc i) arms x1.1 (next-to i) y.inner-fine in
      let a = arm_at x1.0 (suc i) (action_at d (suc i)) refl inner in
      let ac = a.is-arm.count in
      let none_left : x1.0 - a.size ≡ 0 = no-arms (x1.0 - a.size) _ a.is-arm.rest-fine (omega (arith, ac, one)) in
      let z = some_number a.size a.is-arm.some-actions in
      let same : x1.0 ≡ suc z.0 = let f = a.is-arm.fits in omega (arith, none_left, f, z.1) in
      let xs : x ≡ suc (suc z.0) = omega (arith, x1.1, same) in
      let r = n - x in
      let total-so : n ≡ suc (suc z.0 + r) = let f = y.fits in omega (arith, f, xs) in
      let t1 = tree-first d s c (run_roots d n (suc i)) m g in
      let inside : trees_end d (c + 1) (run_roots d (suc z.0 + r) (suc (suc i))) ≡ some m = arm-skipped (suc z.0 + r) (suc i) (c + 1) m a.size a.record-so (ends-moved n (suc (suc z.0 + r)) (suc i) (c + 1) m total-so t1.rest) in
      let t2 = roots-split (suc z.0) r (suc (suc i)) (c + 1) m inside in
      let list : judged (suc z.0) (suc (suc i)) actions ≡ fine a.is-arm.own = moved a.size (suc z.0) (suc i + 1) (suc (suc i)) actions z.1 (next-to (suc i)) a.is-arm.own-fine in
      let at : i + 1 + x ≡ suc (suc i) + suc z.0 = omega (arith, xs) in
      let rest : judged r (suc (suc i) + suc z.0) actions ≡ fine y.rest = moved r r _ _ actions refl at y.rest-fine in
      let C = right-built c s y.condition-fine t1.start in
      let I = ih.lists (suc z.0) (suc (suc i)) (c + 1) t2.0 _ (omega (arith, total-so)) list t2.1.0 in
      let A = ih.lists r (suc (suc i) + suc z.0) t2.0 m _ (omega (arith, total-so)) rest t2.1.1 in
      let total-two : suc (suc z.0) + r ≡ n = omega (arith, total-so) in
      subst (λ (x : ℕ). Listed actions (suc x) i s m) total-two (when-made z.0 r i s c t2.0 m C I A (q ∙ ap (D.when c) xs) (a.record-so ∙ ap D.arm z.1))

  choose-listed : (n i s m c k x : ℕ) → Fewer (suc n) → action_at d i ≡ D.choose c k x → Held d no_places sc in_state works n i c x (λ v w. both (selects v.length k) (eqb w.arms k))
      → trees_end d s (c ∷ run_roots d n (suc i)) ≡ some m → Listed actions (suc n) i s m
  choose-listed n i s m c k x ih q y g =
      let many = choose-arms k y.condition y.inner y.holds in
      let x1 = some-arms x (i + 1) y.inner-fine (omega (arith, many.0, many.1)) in
      let inner : judged (suc x1.0) (suc i) arms ≡ fine y.inner = moved x (suc x1.0) (i + 1) (suc i) arms x1.1 (next-to i) y.inner-fine in
      let r = n - x in
      let total-so : n ≡ suc x1.0 + r = let f = y.fits in omega (arith, f, x1.1) in
      let t1 = tree-first d s c (run_roots d n (suc i)) m g in
      let t2 = roots-split (suc x1.0) r (suc i) (c + 1) m (ends-moved n (suc x1.0 + r) (suc i) (c + 1) m total-so t1.rest) in
      let at : i + 1 + x ≡ suc i + suc x1.0 = omega (arith, x1.1) in
      let rest : judged r (suc i + suc x1.0) actions ≡ fine y.rest = moved r r _ _ actions refl at y.rest-fine in
      let C = right-built c s y.condition-fine t1.start in
      let I = ih.arm-lists (suc x1.0) (suc i) (c + 1) t2.0 _ (omega (arith, total-so)) inner t2.1.0 in
      let A = ih.lists r (suc i + suc x1.0) t2.0 m _ (omega (arith, total-so)) rest t2.1.1 in
      subst (λ (x : ℕ). Listed actions (suc x) i s m) (sym total-so) (choose-made x1.0 r i s c k t2.0 m C I.0 A (q ∙ ap (D.choose c k) x1.1) (I.1 ∙ many.0))

  arms_step : (n i s m : ℕ) {w : Worth} → Fewer (suc n) → judged (suc n) i arms ≡ fine w → trees_end d s (run_roots d (suc n) i) ≡ some m → (X : Listed arms (suc n) i s m) × (arms_in X.tree ≡ w.arms)
  unfolding arms_in arm-made
  arms_step n i s m {w} ih e g =
      let a = arm_at n i (action_at d i) refl e in
      let z = some_number a.size a.is-arm.some-actions in
      let r = n - a.size in
      let total-so : n ≡ suc z.0 + r = let f = a.is-arm.fits in omega (arith, f, z.1) in
      let inside : trees_end d s (run_roots d (suc z.0 + r) (suc i)) ≡ some m = arm-skipped (suc z.0 + r) i s m a.size a.record-so (ends-moved (suc n) (suc (suc z.0 + r)) i s m (ap suc total-so) g) in
      let t2 = roots-split (suc z.0) r (suc i) s m inside in
      let list : judged (suc z.0) (suc i) actions ≡ fine a.is-arm.own = moved a.size (suc z.0) (i + 1) (suc i) actions z.1 (next-to i) a.is-arm.own-fine in
      let at : i + 1 + a.size ≡ suc i + suc z.0 = omega (arith, z.1) in
      let rest : judged r (suc i + suc z.0) arms ≡ fine a.is-arm.rest = moved r r _ _ arms refl at a.is-arm.rest-fine in
      let I = ih.lists (suc z.0) (suc i) s t2.0 _ (omega (arith, total-so)) list t2.1.0 in
      let A = ih.arm-lists r (suc i + suc z.0) t2.0 m _ (omega (arith, total-so)) rest t2.1.1 in
      let c : suc a.is-arm.rest.arms ≡ w.arms = let k = a.is-arm.count in omega (arith, k) in
      subst (λ (x : ℕ). (X : Listed arms (suc x) i s m) × (arms_in X.tree ≡ w.arms)) (sym total-so) (arm-made z.0 r i s t2.0 m I A.0 (a.record-so ∙ ap D.arm z.1), ap suc A.1 ∙ c)

  list-step : (n i s m : ℕ) (a : Action) {w : Worth} → Fewer (suc n) → action_at d i ≡ a → judged (suc n) i actions ≡ fine w → trees_end d s (action_roots d a ++ run_roots d n (suc i)) ≡ some m → Listed actions (suc n) i s m
  unfolding J.list_judged simple_judged
  list-step n i s m (D.store k l r) ih q e g = store-listed n i s m k l r ih q (plain-fine d no_places sc in_state works n i _ q (first_fine d no_places sc in_state works n i _ q e)) g
  list-step n i s m (D.store_pair k l p r) ih q e g = pair-listed n i s m k l p r ih q (plain-fine d no_places sc in_state works n i _ q (first_fine d no_places sc in_state works n i _ q e)) g
  list-step n i s m (D.set l) ih q e g = set-listed n i s m l ih q (plain-fine d no_places sc in_state works n i _ q (first_fine d no_places sc in_state works n i _ q e)) g
  list-step n i s m (D.perform o) ih q e g = perform-listed n i s m o ih q (plain-fine d no_places sc in_state works n i _ q (first_fine d no_places sc in_state works n i _ q e)) g
  list-step n i s m (D.goto t) ih q e g = goto-listed n i s m t ih q (plain-fine d no_places sc in_state works n i _ q (first_fine d no_places sc in_state works n i _ q e)) g
  list-step n i s m (D.call t) ih q e g = call-listed n i s m t ih q (plain-fine d no_places sc in_state works n i _ q (first_fine d no_places sc in_state works n i _ q e)) g
  list-step n i s m D.return ih q e g = return-listed n i s m ih q (plain-fine d no_places sc in_state works n i _ q (first_fine d no_places sc in_state works n i _ q e)) g
  list-step n i s m (D.when c x) ih q e g = when-listed n i s m c x ih q (held d no_places sc in_state works n i c x (λ v w. both (eqb v.length 1) (eqb w.arms 1)) (first_fine d no_places sc in_state works n i _ q e)) g
  list-step n i s m (D.choose c k x) ih q e g = choose-listed n i s m c k x ih q (held d no_places sc in_state works n i c x (λ v w. both (selects v.length k) (eqb w.arms k)) (first_fine d no_places sc in_state works n i _ q e)) g
  list-step n i s m (D.arm x) ih q e g = faulty-fine (plain-fine d no_places sc in_state works n i (D.arm x) q (first_fine d no_places sc in_state works n i (D.arm x) q e)).own-fine
  list-step n i s m D.Action.broken ih q e g = faulty-fine (plain-fine d no_places sc in_state works n i D.Action.broken q (first_fine d no_places sc in_state works n i D.Action.broken q e)).own-fine

  -- ---- Any list.

  none_left : (s m : ℕ) → trees_end d s [] ≡ some m → s ≡ m
  unfolding trees_end
  none_left s m e = cc

  narrowed : (n k : ℕ) → Fewer n → suc k < suc n → Fewer (suc k)
  narrowed n k ih l = record {
    lists = λ j i s m w h e g. ih.lists j i s m w (omega (arith, l, h)) e g;
    arm-lists = λ j i s m w h e g. ih.arm-lists j i s m w (omega (arith, l, h)) e g;
  }

  fewer-lists : (n k i s m : ℕ) (w : Worth) → Fewer n → k < suc n → judged k i actions ≡ fine w → trees_end d s (run_roots d k i) ≡ some m → Listed actions k i s m
  unfolding run_roots
  fewer-lists n zero i s m w ih l e g = empty actions i s m (none_left s m g)
  fewer-lists n (suc k) i s m w ih l e g = list-step k i s m (action_at d i) (narrowed n k ih l) refl e g

  fewer-arms : (n k i s m : ℕ) (w : Worth) → Fewer n → k < suc n → judged k i arms ≡ fine w → trees_end d s (run_roots d k i) ≡ some m → (X : Listed arms k i s m) × (arms_in X.tree ≡ w.arms)
  unfolding run_roots arms_in empty
  fewer-arms n zero i s m w ih l e g = (empty arms i s m (none_left s m g), let own : worth 1 0 0 ≡ fine w = e in cc)
  fewer-arms n (suc k) i s m w ih l e g = arms_step k i s m (narrowed n k ih l) e g

  all-fewer : (n : ℕ) → Fewer n
  all-fewer zero = record { lists = λ k i s m w l e g. absurd (omega arith); arm-lists = λ k i s m w l e g. absurd (omega arith) }
  all-fewer (suc n) = record {
    lists = λ k i s m w l e g. fewer-lists n k i s m w (all-fewer n) l e g;
    arm-lists = λ k i s m w l e g. fewer-arms n k i s m w (all-fewer n) l e g;
  }

  pub listed : (k i s m : ℕ) {w : Worth} → judged k i actions ≡ fine w → trees_end d s (run_roots d k i) ≡ some m → Listed actions k i s m
  listed k i s m {w} e g = (all-fewer (suc k)).lists k i s m w (omega arith) e g
