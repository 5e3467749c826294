-- Never stuck, for computed terminals: each is worked out from facilities before it, to its declared length. Assumes nothing.
use Rattle.std.specs.Prelude.{Bool, false, ◌≡◌, get_or, length}
use Rattle.std.proofs.Math.Bool.{true}
use mathlib.Core.List.{List, [], ◌∷◌}
use Rattle.std.proofs.Math.Option.{some}
use Rattle.std.proofs.Math.Path.{refl, subst}
use Rattle.std.proofs.Common.{sym, ◌∙◌}
use native.Mathlib.Omega.{arith}
use Prim.Native.Nat.{ℕ, zero, suc, ◌+◌, ◌^◌, ◌≤◌, ◌<◌}
use Rattle.language.specs.Description.{Description, Facility, Places, facility_at, is_computed, no_facility, word_length}
use Rattle.language.specs.Expressions.{judge_at, terminal_below, terminal_judged}
use Rattle.language.specs.Judging.{Worth, fine}
use Rattle.language.specs.Meaning.{Place, Stores, eval_at}
use Rattle.language.specs.Order.{facility_roots, function_root, start_at, trees_end}
use Rattle.language.specs.Tree as T
use Rattle.language.specs.Tree.{Kind}
use Rattle.about_running.specs.Evaluates.{Terminal, evaluates}
use Rattle.about_running.specs.Gives.{Gives}
use Rattle.about_running.specs.Judged.{proper-fine}
use Rattle.about_running.specs.Ordered.{ends-le, tree-first}
use Rattle.about_running.specs.Starts.{start-le}

no : {A : Type 0} → false ≡ true → A
no e = absurd (let z : ◌≡◌ {A = ℕ} 0 1 = cc in omega arith)

module _ (d : Description) where
  -- A computed terminal has one root, any other facility none.
  root-of : (f : Facility) (k : Kind) → is_computed k ≡ true → function_root d f k ≡ f.expression ∷ []
  root-of f T.register e = no e
  root-of f T.sequencing e = no e
  root-of f T.memory e = no e
  root-of f T.plain e = no e
  root-of f T.input e = no e
  root-of f T.computed e = refl

  no-root : (f : Facility) (k : Kind) → is_computed k ≡ false → function_root d f k ≡ []
  no-root f T.register e = refl
  no-root f T.sequencing e = refl
  no-root f T.memory e = refl
  no-root f T.plain e = refl
  no-root f T.input e = refl
  no-root f T.computed e = no (sym e)

  abbrev at : List Facility → ℕ → Facility
  at fs n = get_or fs n no_facility

  -- The tree of terminal j begins after the roots of those before it.
  pub record Root (fs : List Facility) (from m j : ℕ) : Type 0 where
    pub s : ℕ
    pub start : start_at d (at fs j).expression ≡ some s
    pub low : from ≤ s
    pub earlier : (i : ℕ) → i < j → is_computed (at fs i).kind ≡ true → (at fs i).expression < s
    pub end : (at fs j).expression < m

  pub roots : (fs : List Facility) (from m j : ℕ) → trees_end d from (facility_roots d fs) ≡ some m → j < length fs → is_computed (at fs j).kind ≡ true → Root fs from m j
  unfolding facility_roots
  roots [] from m j e h c = absurd (omega arith)
  roots (f ∷ fs) from m zero e h c =
      let t = tree-first d from f.expression (facility_roots d fs) m (rw (root-of f f.kind c) at e) in
      let k : f.expression + 1 ≤ m = ends-le d (f.expression + 1) (facility_roots d fs) m t.rest in
      record { s = from; start = t.start; low = omega arith; earlier = λ i l q. absurd (omega arith); end = omega arith }
  roots (f ∷ fs) from m (suc j) e h c = go (λ from' e'. roots fs from' m j e' (omega arith) c) (is_computed f.kind) refl
    where
      more : (from' : ℕ) → from ≤ from' → (is_computed f.kind ≡ true → f.expression < from') → Root fs from' m j → Root (f ∷ fs) from m (suc j)
      more from' l q r = record {
        s = r.s;
        start = r.start;
        low = omega (arith, r.low);
        earlier = before r.low r.earlier;
        end = r.end;
      }
        where
          before : from' ≤ r.s → ((i : ℕ) → i < j → is_computed (at fs i).kind ≡ true → (at fs i).expression < r.s)
              → (i : ℕ) → i < suc j → is_computed (at (f ∷ fs) i).kind ≡ true → (at (f ∷ fs) i).expression < r.s
          before k g zero h' c' = let z = q c' in omega arith
          before k g (suc i) h' c' = g i (omega arith) c'

      go : ((from' : ℕ) → trees_end d from' (facility_roots d fs) ≡ some m → Root fs from' m j) → (b : Bool) → is_computed f.kind ≡ b → Root (f ∷ fs) from m (suc j)
      go on true q =
          let t = tree-first d from f.expression (facility_roots d fs) m (rw (root-of f f.kind q) at e) in
          let l : from ≤ f.expression = start-le d f.expression from t.start in
          more (f.expression + 1) (omega arith) (λ z. omega arith) (on (f.expression + 1) t.rest)
      go on false q = more from (omega arith) (λ z. no (sym q ∙ z)) (on from (rw (no-root f f.kind q) at e))

module _ (d : Description) (p : Places) (base : ℕ) (order : trees_end d 0 (facility_roots d d.facilities) ≡ some base)
    (judged : (f : ℕ) → f < length d.facilities → is_computed (facility_at d f).kind ≡ true → (w : Worth) × (terminal_judged d p f ≡ fine w) × (word_length (facility_at d f) ≡ w.length)) where
  module _ {X : Type 0} (S : Stores X) (x : X) (loads : (q : Place) → S.load x q < 2 ^ q.count) where
    -- What a computed terminal gives.
    Works : ℕ → Type 0
    Works f = f < length d.facilities → is_computed (facility_at d f).kind ≡ true → Gives (word_length (facility_at d f)) (eval_at S d x (facility_at d f).expression)

    works-step : (f : ℕ) → ((g : ℕ) → g < f → Works g) → Works f
    unfolding Works terminal_judged facility_at
    works-step f ih h c =
        let r = roots d d.facilities 0 base f order h c in
        let j = judged f h c in
        let y = proper-fine _ (judge_at d p (terminal_below d p f) f (facility_at d f).expression) j.1 in
        let terms : (g : ℕ) (w : Worth) → g < f → is_computed (facility_at d g).kind ≡ true → terminal_below d p f g ≡ fine w → Terminal S d x r.s g w =
        λ g w l c' e. record { before = r.earlier g l c'; gives-it = ih g l (omega arith) c' } in
        subst (λ (l : ℕ). Gives l (eval_at S d x (facility_at d f).expression)) (sym j.2)
        ((evaluates S d p x loads (terminal_below d p f) f r.s (omega arith) terms (facility_at d f).expression).as-value y.same y.arms r.start (omega arith))

    works-below : (k f : ℕ) → f < k → Works f
    works-below zero f h = absurd (omega arith)
    works-below (suc k) f h = works-step f (λ g l. works-below k g (omega arith))

    -- Every computed terminal that actions may name.
    pub terminals-work : (f : ℕ) (w : Worth) → f < length d.facilities → is_computed (facility_at d f).kind ≡ true → terminal_below d p (length d.facilities) f ≡ fine w → Terminal S d x base f w
    unfolding Works facility_at
    terminals-work f w h c e =
        record { before = (roots d d.facilities 0 base f order h c).end; gives-it = works-below (suc f) f (omega arith) h c }
