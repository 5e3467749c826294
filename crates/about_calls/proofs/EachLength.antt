-- EACH-LENGTH: in a passing image every record that a run can work out has one length, by the sentences of 01 and before the run; on every store it comes to a value of exactly that length, or to S1. So do the parts that references name, and what HEAD and TAIL take. Assumes nothing.
use Rattle.std.specs.Prelude.{Bool, true, false, cond, List, ◌≡◌, refl, ℕ, ◌≤◌, leb}
use Rattle.std.proofs.Math.Option.{some}
use Rattle.std.proofs.Common.{sym, subst, ◌∙◌, arith, leb-true}
use Rattle.std.proofs.Math.Path.{ap}
use Rattle.language.specs.Acting.{side}
use Rattle.language.specs.Decode.{decode}
use Rattle.language.specs.Description as D
use Rattle.language.specs.Description.{Description, action_at, facility_at, is_computed, no_places, node_at, word_length}
use Rattle.language.specs.Expressions.{judge_below, judge_node, terminal_below, terminal_judged}
use Rattle.language.specs.Judging.{Worth}
use Rattle.language.specs.Operators.{cut_length_of}
use Rattle.language.specs.Value.{cut_length}
use Rattle.language.specs.Image.{passes}
use Rattle.language.specs.Meaning.{Answer, Stores, Stuck, eval_at, eval_below, place_of, stuck}
use Rattle.language.specs.References.{Reference, reference_of}
use Rattle.about_running.specs.Gives.{Gives, gives, stopped}
use Rattle.about_running.specs.Judged.{given-fine, proper-fine, sized-fine}
use Rattle.about_running.specs.LegalForm.{Legal}
use Rattle.about_running.specs.NeverStuck.{legal-image}
use Rattle.about_rules.specs.ActionsRight.{Has}
use Rattle.about_rules.proofs.FineIsLong.{fine-is-long}
use Rattle.about_rules.specs.HasLength as H
use Rattle.about_rules.specs.HasLength.{Substring}
use Rattle.about_rules.proofs.LengthsJudged.{fine-long, one-length}
use Rattle.about_rules.proofs.LongIsFine.{judge-lt, long-is-fine}
use Rattle.about_calls.specs.EachLength.{OneLength}
use Rattle.about_calls.specs.EveryAction.{side-long}
use Rattle.about_calls.specs.MoreKnown.{more-known}
use Rattle.about_calls.specs.OnStores.{Loads, NamesPart, settled-gives, settled-names}
use Rattle.about_calls.specs.PartsStand.{at-node, part-stands, proper_of}
use Rattle.about_calls.specs.Settled.{Settled, computed-in, subscripts-of}
use Rattle.about_calls.proofs.Settled.{acts-roots, settled}
use Rattle.about_calls.specs.WorkedOut as W
use Rattle.about_calls.specs.WorkedOut.{Acts, LeftSide, WorkedOut}

settled-long : {d : Description} {n : ℕ} (s : Settled d n) → Has d n s.proper.worth.length
settled-long {d} {n} s = more-known s.within (fine-is-long d no_places s.known n s.proper.stands.same s.proper.none)

-- The length that judging works out for HEAD and TAIL, where it is one.
cut-so : (l c : ℕ) → 1 ≤ cut_length l c → (cut_length l c ≡ c) × (1 ≤ c) × (c ≤ l)
unfolding cut_length
cut-so l c h = go (leb c l) refl h
  where
    go : (t : Bool) → leb c l ≡ t → 1 ≤ cond t c 0 → (cond t c 0 ≡ c) × (1 ≤ c) × (c ≤ l)
    go true q e = (refl, e, leb-true c l q)
    go false q e = absurd (omega arith)

substring-so : {k : ℕ} (l c : ℕ) → Substring k → 1 ≤ cut_length_of k l c → (cut_length_of k l c ≡ c) × (1 ≤ c) × (c ≤ l)
unfolding cut_length_of
substring-so l c H.head h = cut-so l c h
substring-so l c H.tail h = cut-so l c h

module _ (image : List ℕ) (passing : passes image ≡ true) where
  abbrev d : Description
  d = decode image

  abbrev L : Legal d
  L = legal-image image passing

  pub each-length : {n : ℕ} → WorkedOut (decode image) n → OneLength (decode image) n
  each-length o =
      let s = settled d L o in
      let h = settled-long s in
      let j = long-is-fine d no_places h in
      record {
        bits = s.proper.worth.length;
        long = h;
        only = λ m k. one-length k h;
        some-bit = j.some;
        most = j.most;
        kept = λ S x loads. settled-gives d L S x loads s;
      }

  -- It is never stuck.
  not_stuck : {l : ℕ} {a : Answer} (s : Stuck) → Gives l a → a ≡ stuck s → ⊥
  not_stuck s (gives h k) e = let z : ◌≡◌ {A = ℕ} 0 1 = cc in omega arith
  not_stuck s stopped e = let z : ◌≡◌ {A = ℕ} 0 1 = cc in omega arith

  pub each-never-stuck : {n : ℕ} → WorkedOut (decode image) n → {X : Type 0} (S : Stores X) (x : X) → Loads S x → (s : Stuck) → eval_at S (decode image) x n ≡ stuck s → ⊥
  each-never-stuck o S x loads s e = not_stuck s ((each-length o).kept S x loads) e

  -- A computed terminal has its declared length.
  pub terminal-declared : (f : ℕ) → is_computed (facility_at (decode image) f).kind ≡ true → Has (decode image) (facility_at (decode image) f).expression (word_length (facility_at (decode image) f))
  unfolding terminal_judged
  terminal-declared f c =
      let h = computed-in d f c in
      let j = L.terminals f h c in
      rw j.2 (more-known (omega arith) (fine-long d no_places f (facility_at d f).expression j.1))

  -- ---- Parts of facilities.

  -- What a reference of l bits names lies in its facility and has l bits.
  pub each_part : {n l : ℕ} {r : Reference} → WorkedOut (decode image) n → Has (decode image) n l → reference_of (node_at (decode image) n) ≡ some r
      → {X : Type 0} (S : Stores X) (x : X) → Loads S x → NamesPart (decode image) r.facility l (place_of (decode image) (eval_below S (decode image) x n) r)
  each_part {n} {l} {r} o h q S x loads =
      let s = settled d L o in
      rw (one-length h (settled-long s)) (settled-names d L s S x loads r q)

  -- So does what the left side of a store names, which is a reference.
  pub each_left : {i n l : ℕ} → Acts (decode image) i → LeftSide (action_at (decode image) i) n → Has (decode image) n l
      → {X : Type 0} (S : Stores X) (x : X) → Loads S x → (f : ℕ) × NamesPart (decode image) f l (side S (decode image) x n)
  unfolding side
  each_left {i} {n} {l} a k h S x loads =
      let y = side-long d i (action_at d i) n (acts-roots d L a) k in
      let u = subscripts-of y.1.1.0 in
      (y.0, rw u.1 (each_part (W.left-side a k) h u.1 S x loads))

  -- ---- Substrings.

  -- HEAD c or TAIL c of what has m bits has c bits: at least one, and no more than m.
  pub each-substring : {n k a c m : ℕ} → WorkedOut (decode image) n → Substring k → node_at (decode image) n ≡ D.cut k a c → Has (decode image) a m
      → Has (decode image) n c × (1 ≤ c) × (c ≤ m)
  unfolding judge_node
  each-substring {n} {k} {a} {c} {m} o t q h =
      let s = settled d L o in
      let e = at-node d s.known s.base n q s.proper.stands in
      let y = given-fine (proper_of d s.known s.base n a) _ e.fine-so in
      let z = sized-fine _ (cut_length_of k y.v.length c) _ y.own in
      let u = substring-so y.v.length c t z.some in
      let i = part-stands d s.known s.base s.proper.stands (W.source q) in
      let j = proper-fine _ (judge_below d no_places (terminal_below d no_places s.known) s.known n a) y.part in
      let g = more-known s.within (fine-is-long d no_places s.known a (sym (judge-lt d no_places s.known n a i.0) ∙ j.same) j.arms) in
      let v : s.proper.worth.length ≡ c = ap (λ (w : Worth). w.length) z.same ∙ u.0 in
      (subst (Has d n) v (settled-long s), u.1, rw (one-length h g) u.2)
