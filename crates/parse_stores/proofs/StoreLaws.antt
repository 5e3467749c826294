-- What follows a reference on the left.
use mathlib.Core.Bool.{true, false}
use mathlib.Core.List.{List, [], ◌∷◌, ◌++◌, append-nil}
use mathlib.Core.Path.{◌≡◌, refl, sym, ap, ◌∙◌}
use Prim.Native.Nat.{ℕ, ◌+◌, ◌-◌}
use native.Mathlib.Omega.{arith}
use Rattle.language.specs.declared.refusals.Refusal.TheVariants.{NoContinuation}
use Rattle.parse_step.proofs.Saying.{makes-it}
use Rattle.parse_step.proofs.TakenWords.{took-done}
use Rattle.parse_step.specs.declared.Bearing.TheVariants.{Level}
use Rattle.parse_step.specs.declared.State.{State}
use Rattle.parse_step.specs.Course.{Seen, Stack, counts_of, kind_no, runs}
use Rattle.parse_step.specs.Pays.{Spends}
use Rattle.parse_step.specs.Says.{Parses, pushed}
use Rattle.parse_step.specs.Taken.{Refuses, Took, after_word}
use Rattle.about_grammar.specs.Following.{among}
use Rattle.language.specs.Building.{Built, expression_no, keep_word, list_no, word_no}
use Rattle.language.specs.Declaring.{tree_steps}
use Rattle.language.specs.Describe.{Noted, act, actions_in, actions_of, expression_size, expressions_in, last_of, left_nodes, left_size, nodes_in, nodes_of, store_of}
use Rattle.language.specs.Description as D
use Rattle.language.specs.Kinds.{a_name, at_sign, con_word, delayed_sign, equal_sign}
use Rattle.language.specs.Machine.{Ask, ask, expression, keep, left_rest, make, set_sign, store_sign, subscripts}
use Rattle.language.specs.Tree as T
use Rattle.language.specs.Tree.{Expression, Left}
use Rattle.language.specs.Words as L
use Rattle.parse_tables.specs.declared.meaning.KnownNames as M
use Rattle.parse_expressions.specs.Phrases.{after_name, same}
use Rattle.text_words.specs.declared.Word.{Word}
use Rattle.text_words.specs.Meaning.{positioned}
use Rattle.parse_stores.proofs.ActionWords.{con-comes, no-set, no_store, set-comes, set-left, store-comes, store-left}
use Rattle.parse_stores.proofs.EndLaws.{ends-refused, ends_through, ends-unnamed, ends-unread, ends-untaken, reads-ended}
use Rattle.parse_stores.proofs.ReachedLaws.{cheaper, counted-reached, ends_with, here-reached, passed-reached, reached-as, read-reached, start-reached, within-reached}
use Rattle.parse_stores.specs.Actions.{Acts, grown}
use Rattle.parse_stores.specs.declared.stores.Sides.{Sides}
use Rattle.parse_stores.specs.declared.stores.Sides.TheVariants.{One, Two}
use Rattle.parse_stores.specs.Leaves.{KeepsName, Puts}
use Rattle.parse_stores.specs.Reached.{AfterLeft, Stores, sided, sides_of, with_left}
use Rattle.parse_step.specs.Answers.{Answer}
use Rattle.parse_step.specs.declared.Reached.{Reached}
use Rattle.std.specs.Prelude.{IsErr, Ok}

-- ---- What the machine keeps of a sign, and what then comes.

abbrev at_kept : Word → Expression → Built → Built
at_kept w u b = keep_word (L.sign at_sign (positioned w.at)) (pushed u b)

abbrev sign_kept : Word → Left → Built → Built
sign_kept w l b = keep_word (L.sign (kind_no w.kind) (positioned w.at)) (with_left l b)

abbrev right : Stack → Stack
right K = ask expression ∷ make tree_steps.make_store ∷ K

abbrev behind_con : Stack → Stack
behind_con K = ask subscripts ∷ make tree_steps.make_pair ∷ ask store_sign ∷ K

-- ---- `@`.

module _ {text : List ℕ} {w₁ : Word} {s₁ : State} {work₁ : List ℕ} where
  pub unset : {a : Answer} {work' : List ℕ} → (kind_no w₁.kind ≡ at_sign → ⊥) → Refuses w₁ NoContinuation a → AfterLeft set_sign text w₁ s₁ work₁ work' a
  unset m t sc n w s work u st x = ends-refused NoContinuation t (λ K b. no-set text w₁ x.seen (pushed u b) (counts_of s₁) m K)

  module _ (e : kind_no w₁.kind ≡ at_sign) {a : Answer} (t : Took text w₁ (after_word true Level s₁) s₁ a) where
    pub set-untaken : IsErr a → AfterLeft set_sign text w₁ s₁ work₁ work₁ a
    set-untaken m sc n w s work u st x = ends-untaken t m (λ K. make tree_steps.make_set ∷ K) (at_kept w₁ u) (λ K b. set-comes text w₁ x.seen (pushed u b) (counts_of s₁) e K)

    pub sets : {a' : Reached} → a ≡ Ok a' → {l : ℕ} → l ≡ a'.state.nodes - 1 → {work' : List ℕ} {r : Answer} → Puts (D.set l) w₁.at a'.next a'.state work₁ work' r → AfterLeft set_sign text w₁ s₁ work₁ work' r
    unfolding expressions_in nodes_in actions_in actions_of word_no list_no expression_no
    sets {a' = a'} d {l} f y sc n w s work u st x =
        let g = T.set (positioned w₁.at) u T.done in
        let z = counted-reached st x d (omega arith) t in
        let h : l ≡ last_of s.nodes (expression_size u) = f ∙ ap (λ (i : ℕ). i - 1) z.nodes in
        ends_with st z y g (omega arith) (append-nil (nodes_of sc s.nodes u)) refl (ap (λ (i : ℕ). act (D.set i) (positioned w₁.at) ∷ []) (sym h))
        (λ K b. set-comes text w₁ x.seen (pushed u b) (counts_of s₁) e K ∙ took-done (t.done d) x.seen (make tree_steps.make_set ∷ K) (at_kept w₁ u b)
        ∙ makes-it text tree_steps.make_set K a'.next (at_kept w₁ u b) (grown g b) a'.state (λ p. refl))

-- ---- A store's sign and its right side.

store-record : (k base : ℕ) (l : Left) (e : Expression) (m : ℕ) → m ≡ base + (left_size l + expression_size e) → sided k (sides_of base l) (m - 1) ≡ store_of k base l e
store-record k base (T.single f) e m h = let g : m - 1 ≡ last_of (base + expression_size f) (expression_size e) = omega (arith, h) in rw g
store-record k base (T.pair f g) e m h = let i : m - 1 ≡ last_of (base + expression_size f + expression_size g) (expression_size e) = omega (arith, h) in rw i

-- Where the machine then stands.
to-right : {text : List ℕ} {w₁ : Word} {s₁ : State} {a : Answer} → among (kind_no w₁.kind) (delayed_sign ∷ equal_sign ∷ []) ≡ true → Took text w₁ (after_word true Level s₁) s₁ a → {a' : Reached} → a ≡ Ok a' → (l : Left) → Seen text w₁ → (K : Stack) (b : Built)
    → runs text (ask store_sign ∷ K) w₁ (with_left l b) s₁ ≡ runs text (right K) a'.next (sign_kept w₁ l b) a'.state
to-right {text} {w₁} {s₁} e t d l z K b = store-comes text w₁ z (with_left l b) (counts_of s₁) e K ∙ took-done (t.done d) z (right K) (sign_kept w₁ l b)

module _ {text : List ℕ} {w₁ : Word} {s₁ : State} {work₁ : List ℕ} (left : Sides) where
  pub unstored : {a : Answer} {work' : List ℕ} → among (kind_no w₁.kind) (delayed_sign ∷ equal_sign ∷ []) ≡ false → Refuses w₁ NoContinuation a → Stores left text w₁ s₁ work₁ work' a
  unstored e t sc n w s work l st q x = ends-refused NoContinuation t (λ K b. no_store text w₁ x.seen (with_left l b) (counts_of s₁) e K)

  module _ (e : among (kind_no w₁.kind) (delayed_sign ∷ equal_sign ∷ []) ≡ true) {a : Answer} (t : Took text w₁ (after_word true Level s₁) s₁ a) where
    pub sign-untaken : IsErr a → Stores left text w₁ s₁ work₁ work₁ a
    sign-untaken m sc n w s work l st q x = ends-untaken t m right (sign_kept w₁ l) (λ K b. store-comes text w₁ x.seen (with_left l b) (counts_of s₁) e K)

    module _ {a' : Reached} (d : a ≡ Ok a') {work₂ : List ℕ} {i : Answer} (f : Parses (ask expression ∷ []) same a'.state.nesting text a'.next a'.state work₁ work₂ i) (p : Spends text 0 a'.next a'.state i) where
      pub right-unread : IsErr i → Stores left text w₁ s₁ work₁ work₂ i
      right-unread m sc n w s work l st q x =
          let z = counted-reached st x d (omega arith) t in
          ends-unread st z (f sc (here-reached st z)) p (omega arith) m (λ K. make tree_steps.make_store ∷ K) (sign_kept w₁ l) (λ K b. to-right e t d l x.seen K b)

      pub stores : {i' : Reached} → i ≡ Ok i' → {k j : ℕ} → k ≡ kind_no w₁.kind → j ≡ i'.state.nodes - 1 → {v : D.Action} → v ≡ sided k left j → {work₃ : List ℕ} {r : Answer} → Puts v w₁.at i'.next i'.state work₂ work₃ r
          → Stores left text w₁ s₁ work₁ work₃ r
      unfolding expressions_in nodes_in actions_in actions_of word_no list_no expression_no
      stores {i' = i'} d₁ {k} {j} c h {v} g y sc n w s work l st q x =
          let z = counted-reached st x d (omega arith) t in
          let u = (f sc (here-reached st z)).done d₁ in
          let o = read-reached st z u (p.done d₁ z.seen) in
          let tree = T.store (kind_no w₁.kind) (positioned w₁.at) l u.tree T.done in
          let rec : v ≡ store_of (kind_no w₁.kind) s.nodes l u.tree =
          g ∙ ap (λ (m : ℕ). sided m left j) c ∙ ap (λ (m : Sides). sided (kind_no w₁.kind) m j) q ∙ ap (λ (m : ℕ). sided (kind_no w₁.kind) (sides_of s.nodes l) m) h
          ∙ (store-record (kind_no w₁.kind) s.nodes l u.tree i'.state.nodes o.nodes) in
          let nodes : nodes_in sc s.nodes tree ≡ left_nodes sc s.nodes l ++ nodes_of sc a'.state.nodes u.tree =
          ap (λ (m : List Noted). left_nodes sc s.nodes l ++ m) (append-nil (nodes_of sc (s.nodes + left_size l) u.tree) ∙ ap (λ (m : ℕ). nodes_of sc m u.tree) (sym z.nodes)) in
          ends_with st o y tree (omega arith) nodes refl (ap (λ (m : D.Action). act m (positioned w₁.at) ∷ []) (sym rec))
          (λ K b. to-right e t d l x.seen K b ∙ u.course (make tree_steps.make_store ∷ K) (sign_kept w₁ l b)
          ∙ makes-it text tree_steps.make_store K i'.next (pushed u.tree (sign_kept w₁ l b)) (grown tree b) i'.state (λ m. refl))

-- ---- CON and a second reference.

module _ {text : List ℕ} {w₁ : Word} {s₁ : State} (e : kind_no w₁.kind ≡ con_word) {a : Answer} (t : Took text w₁ (after_word false Level s₁) s₁ a) {a' : Reached} (d : a ≡ Ok a') (u : Expression) (z : Seen text w₁) where
  to-name : (K : Stack) (b : Built) → runs text (ask left_rest ∷ K) w₁ (pushed u b) s₁ ≡ runs text (keep a_name ∷ behind_con K) a'.next (pushed u b) a'.state
  to-name K b = con-comes text w₁ z (pushed u b) (counts_of s₁) e K ∙ took-done (t.done d) z (keep a_name ∷ behind_con K) (pushed u b)

  to-subscripts : {i : Answer} → KeepsName text a'.next a'.state i → {i' : Reached} → i ≡ Ok i' → (K : Stack) (b : Built)
      → runs text (ask left_rest ∷ K) w₁ (pushed u b) s₁ ≡ runs text (behind_con K) i'.next (after_name a'.next text (pushed u b)) i'.state
  to-subscripts f d₁ K b = to-name K b ∙ (f.done d₁ (t.done d).seen).course (behind_con K) (pushed u b)

module _ {text : List ℕ} {w₁ : Word} {s₁ : State} {work₁ : List ℕ} (e : kind_no w₁.kind ≡ con_word) {a : Answer} (t : Took text w₁ (after_word false Level s₁) s₁ a) where
  pub con-untaken : IsErr a → AfterLeft left_rest text w₁ s₁ work₁ work₁ a
  con-untaken m sc n w s work u st x = ends-untaken t m (λ K. keep a_name ∷ behind_con K) (pushed u) (λ K b. con-comes text w₁ x.seen (pushed u b) (counts_of s₁) e K)

  module _ {a' : Reached} (d : a ≡ Ok a') {i : Answer} (f : KeepsName text a'.next a'.state i) where
    pub con-unnamed : IsErr i → AfterLeft left_rest text w₁ s₁ work₁ work₁ i
    con-unnamed m sc n w s work u st x =
        let z = passed-reached st x d t in
        ends-unnamed f m z.seen (within-reached st z) behind_con (pushed u) (λ K b. to-name e t d u x.seen K b)

    module _ {i' : Reached} (d₁ : i ≡ Ok i') {work₂ : List ℕ} {j : Answer} (g : Parses (ask subscripts ∷ []) (after_name a'.next) i'.state.nesting text i'.next i'.state work₁ work₂ j) (p : Spends text 2 i'.next i'.state j) where
      pub con-unread : IsErr j → AfterLeft left_rest text w₁ s₁ work₁ work₂ j
      con-unread m sc n w s work u st x =
          let y = passed-reached st x d t in
          let z = passed-reached st y refl (f.done d₁ y.seen).took in
          ends-unread st z (g sc (here-reached st z)) p (omega arith) m (λ K. make tree_steps.make_pair ∷ ask store_sign ∷ K) (pushed u) (λ K b. to-subscripts e t d u x.seen f d₁ K b)

      pub con-stores : {j' : Reached} → j ≡ Ok j' → {k l : ℕ} → k ≡ s₁.nodes - 1 → l ≡ j'.state.nodes - 1 → {work₃ : List ℕ} {r : Answer} → Stores (Two k l) text j'.next j'.state work₂ work₃ r
          → AfterLeft left_rest text w₁ s₁ work₁ work₃ r
      unfolding expression_no
      con-stores {j' = j'} d₂ {k} {l} h h₁ v sc n w s work u st x =
          let y = passed-reached st x d t in
          let z = passed-reached st y refl (f.done d₁ y.seen).took in
          let q = (g sc (here-reached st z)).done d₂ in
          let o = read-reached st z q (p.done d₂ z.seen) in
          let c : k ≡ last_of s.nodes (expression_size u) = h ∙ ap (λ (m : ℕ). m - 1) x.nodes in
          let c₁ : l ≡ last_of (s.nodes + expression_size u) (expression_size q.tree) = h₁ ∙ omega (arith, o.nodes) in
          ends_through (v sc n w s work (T.pair u q.tree) st (rw (c, c₁)) (reached-as o (ap (λ (m : ℕ). nodes_of sc s.nodes u ++ nodes_of sc m q.tree) z.nodes) refl))
          (λ K b. to-subscripts e t d u x.seen f d₁ K b ∙ q.course (make tree_steps.make_pair ∷ ask store_sign ∷ K) (pushed u b)
          ∙ makes-it text tree_steps.make_pair (ask store_sign ∷ K) j'.next (pushed q.tree (pushed u b)) (with_left (T.pair u q.tree) b) j'.state (λ m. refl))

-- ---- What follows the first reference.

module _ {text : List ℕ} {w₁ : Word} {s₁ : State} {work₁ work₂ : List ℕ} {r : Answer} where
  pub rest-sets : kind_no w₁.kind ≡ at_sign → AfterLeft set_sign text w₁ s₁ work₁ work₂ r → AfterLeft left_rest text w₁ s₁ work₁ work₂ r
  rest-sets e y sc n w s work u st x = ends_through (y sc n w s work u st x) (λ K b. set-left text w₁ x.seen (pushed u b) (counts_of s₁) e K)

  pub rest-stores : (kind_no w₁.kind ≡ con_word → ⊥) → (kind_no w₁.kind ≡ at_sign → ⊥) → {k : ℕ} → k ≡ s₁.nodes - 1 → Stores (One k) text w₁ s₁ work₁ work₂ r → AfterLeft left_rest text w₁ s₁ work₁ work₂ r
  rest-stores e f {k} h y sc n w s work u st x =
      let c : k ≡ last_of s.nodes (expression_size u) = h ∙ ap (λ (m : ℕ). m - 1) x.nodes in
      ends_through (y sc n w s work (T.single u) st (rw c) (cheaper x (omega arith))) (λ K b. store-left text w₁ x.seen (counts_of s₁) e f u b K)

-- ---- A name that is referred to.

module _ {text : List ℕ} (name : Word) {w : Word} {s : State} {work work₁ : List ℕ} {n : M.KnownNames} (a q : Ask)
    (c : Seen text w → (K : Stack) (b : Built) → runs text (ask a ∷ K) w b s ≡ runs text (ask subscripts ∷ ask q ∷ K) w b s)
    {i : Answer} (f : Parses (ask subscripts ∷ []) (after_name name) s.nesting text w s work work₁ i) (p : Spends text 2 w s i) where
  pub unreferred : IsErr i → Acts (ask a ∷ []) (after_name name) text n w s work work₁ i
  unreferred m sc st =
      let x = start-reached st in
      reads-ended (ends-unread st x (f sc (here-reached st x)) p (omega arith) m (λ K. ask q ∷ K) (λ b. b) (λ K b. c st.seen K (after_name name text b)))

  pub referred : {i' : Reached} → i ≡ Ok i' → {work₂ : List ℕ} {r : Answer} → AfterLeft q text i'.next i'.state work₁ work₂ r → Acts (ask a ∷ []) (after_name name) text n w s work work₂ r
  referred d y sc st =
      let x = start-reached st in
      let u = (f sc (here-reached st x)).done d in
      let z = reached-as {size' = expression_size u.tree} (read-reached st x u (p.done d x.seen)) refl (omega arith) in
      reads-ended (ends_through (y sc n w s work u.tree st z) (λ K b. c st.seen K (after_name name text b) ∙ u.course (ask q ∷ K) b))
