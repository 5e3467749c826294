-- Words that stand near give a tree whose words do: by induction on the grammar's derivations, a line for each rule.
use mathlib.Core.Bool.{Bool, true, false, ◌||◌}
use mathlib.Core.List.{List, [], ◌∷◌, ◌++◌}
use mathlib.Core.Logic.{inl, inr}
use mathlib.Core.Path.{◌≡◌, refl, ap, ◌∙◌}
use native.Mathlib.Omega.{arith}
use Prim.Native.Nat.{ℕ, zero, suc, ◌+◌, ◌<◌, ◌≤◌}
use borrow.Author.Tests.{eqb-true}
use lib.Dec.{eqb}
use lib.ListN.{drop, length, length-drop}
use lib.Seq.{drop-drop}
use Rattle.language.specs.Grammar as G
use Rattle.language.specs.Grammar.{Is}
use Rattle.language.specs.Kinds.{at_least_sign, at_most_sign, delayed_sign, difference_sign, equal_sign, exclusive_sign, ext_word, greater_sign, hash, head_word, less_sign, plus, same_sign, slash, star, sum_sign, tail_word}
use Rattle.language.specs.Notions as N
use Rattle.language.specs.Notions.{Notion, Tree, first_place, is_store}
use Rattle.language.specs.Scan as S
use Rattle.language.specs.Scan.{Item, item_at}
use Rattle.language.specs.Tree.{Text}
use Rattle.language.specs.WordStage.{Scanned, noted, scan, scan_from}
use Rattle.language.specs.Words.{Position, Word, position, sign}
use Rattle.image_records.proofs.ActionBack.{Sign}
use Rattle.language.specs.Operators.{is_arithmetic, is_cut, is_reduction, is_relation}
use Rattle.parse_held.proofs.SpelledNames.{Standing, item-stands}
use Rattle.parse_held.specs.NearTexts.{ActionsNear, DeclarationsNear, EndsNear, ExpressionNear, ExtentNear, FunctionNear, LeftNear, OperationsNear, StatesNear, TextNear, ValueNear, WordsNear}
use Rattle.parse_held.specs.Standing.{Near}

-- ---- The kinds of operators, and the signs of stores.

either : (a b : Bool) {P : Type 0} → (a ≡ true → P) → (b ≡ true → P) → (a || b) ≡ true → P
either true b f g e = f refl
either false b f g e = g e

kind : (k a : ℕ) → a < 64 → eqb k a ≡ true → k < 64
kind k a h e = omega (arith, eqb-true k a e)

relation-kind : (k : ℕ) → is_relation k ≡ true → k < 64
relation-kind k =
    either _ _ (either _ _ (either _ _ (either _ _ (either _ _ (kind k same_sign (omega arith)) (kind k hash (omega arith))) (kind k less_sign (omega arith))) (kind k greater_sign (omega arith))) (kind k at_most_sign (omega arith))) (kind k at_least_sign (omega arith))

arithmetic-kind : (k : ℕ) → is_arithmetic k ≡ true → k < 64
arithmetic-kind k = either _ _ (kind k sum_sign (omega arith)) (kind k difference_sign (omega arith))

reduction-kind : (k : ℕ) → is_reduction k ≡ true → k < 64
reduction-kind k = either _ _ (either _ _ (either _ _ (kind k plus (omega arith)) (kind k star (omega arith))) (kind k exclusive_sign (omega arith))) (kind k sum_sign (omega arith))

cut-kind : (k : ℕ) → is_cut k ≡ true → k < 64
cut-kind k = either _ _ (either _ _ (kind k head_word (omega arith)) (kind k tail_word (omega arith))) (kind k ext_word (omega arith))

store-sign : (k : ℕ) → is_store k ≡ true → Sign k
store-sign k = either _ _ (λ e. inl (eqb-true k delayed_sign e)) (λ e. inr (eqb-true k equal_sign e))

-- ---- Trees.

abbrev pub TreeNear : List ℕ → Tree → Type 0
TreeNear text (N.expression e) = ExpressionNear e
TreeNear text (N.left l) = LeftNear l
TreeNear text (N.actions a) = ActionsNear text a
TreeNear text (N.ends x) = EndsNear x
TreeNear text (N.extent x) = ExtentNear x
TreeNear text (N.facility d) = Near d.at × (ExtentNear d.extent × FunctionNear d.function)
TreeNear text (N.facilities ds) = DeclarationsNear ds
TreeNear text (N.declared rs ms ts) = DeclarationsNear rs × (DeclarationsNear ms × DeclarationsNear ts)
TreeNear text (N.operations os) = OperationsNear text os
TreeNear text (N.label l v) = ValueNear v
TreeNear text (N.states ss) = StatesNear text ss
TreeNear text (N.text t) = TextNear text t
TreeNear text N.nothing = Unit {0}

-- ---- Words of two lists.

module _ (text : List ℕ) where
  left : (us vs : List Word) → WordsNear text (us ++ vs) → WordsNear text us
  left [] vs h = tt
  left (u ∷ us) vs h = (h.0, left us vs h.1, h.2)

  right : (us vs : List Word) → WordsNear text (us ++ vs) → WordsNear text vs
  right [] vs h = h
  right (u ∷ us) vs h = right us vs h.1

  first-near : (us : List Word) (p : Position) → WordsNear text us → Near p → Near (first_place us p)
  first-near [] p h g = g
  first-near (u ∷ us) p h g = h.0

  acting-near : (us vs : List Word) (p : Position) → WordsNear text (us ++ (vs ++ sign slash p ∷ [])) → Near (first_place (us ++ vs) p)
  acting-near [] vs p w = first-near vs p (left vs _ w) (right vs _ w).0
  acting-near (u ∷ us) vs p w = w.0

  -- ---- By rules.

  pub near : {n : Notion} {h : ℕ} {us : List Word} {t : Tree} → Is n h us t → WordsNear text us → TreeNear text t
  near G.ref-whole w = w.0
  near (G.ref-one c {us = us} x) w = (w.0, near x (left us _ w.1.1))
  near G.ref-part w = (w.0, (w.1.1.0, w.1.1.1.1.0))
  near (G.ref-two c k {us = us} {vs = vs} x y) w = (w.0, (near x (left us _ w.1.1), near y (left vs _ (right us _ w.1.1).1)))
  near (G.ref-two-apart c k l {us = us} {vs = vs} x y) w = (w.0, (near x (left us _ w.1.1), near y (left vs _ (right us _ w.1.1).1.1)))
  near (G.ref-word-part c k l {us = us} x) w = let v = right us _ w.1.1 in ((w.0, (v.1.0, v.1.1.1.0)), near x (left us _ w.1.1))
  near (G.ref-word-part-apart c k l m {us = us} x) w = let v = right us _ w.1.1 in ((w.0, (v.1.1.0, v.1.1.1.1.0)), near x (left us _ w.1.1))
  near (G.or-one x) w = near x w
  near (G.or-more {us = us} x y) w = let v = right us _ w in ((omega arith, v.0), (near x (left us _ w), near y v.1))
  near (G.exclusive-one x) w = near x w
  near (G.exclusive-more {us = us} x y) w = let v = right us _ w in ((omega arith, v.0), (near x (left us _ w), near y v.1))
  near (G.and_one x) w = near x w
  near (G.and-more {us = us} x y) w = let v = right us _ w in ((omega arith, v.0), (near x (left us _ w), near y v.1))
  near (G.complement-none x) w = near x w
  near (G.complement-of x) w = ((omega arith, w.0), near x w.1)
  near (G.con-one x) w = near x w
  near (G.con-more {us = us} x y) w = let v = right us _ w in ((omega arith, v.0), (near x (left us _ w), near y v.1))
  near (G.reduction-none x) w = near x w
  near (G.reduction-of {k = k} e x) w = ((reduction-kind k e, w.0), near x w.1.1)
  near (G.cut-none x) w = near x w
  near (G.cut-more {k = k} {us = us} q e x) w = ((cut-kind k e, (right us _ w).0), near x (left us _ w))
  near (G.relation-none x) w = near x w
  near (G.relation-of {k = k} {us = us} e x y) w = let v = right us _ w in ((relation-kind k e, v.0), (near x (left us _ w), near y v.1))
  near (G.arithmetic-one x) w = near x w
  near (G.negation-of x) w = ((omega arith, w.0), near x w.1)
  near (G.arithmetic-more {k = k} {us = us} e x y) w = let v = right us _ w in ((arithmetic-kind k e, v.0), (near x (left us _ w), near y v.1))
  near (G.term-reference x) w = near x w
  near G.term-constant w = w.0
  near (G.term-parens {us = us} q x) w = near x (left us _ w.1)
  near (G.term-if {us = us} {vs = vs} {ws = ws} q r s x y z) w =
      let v = (right us _ w.1).1 in
      (w.0, (near x (left us _ w.1), (near y (left vs _ v), near z (left ws _ (right vs _ v).1))))
  near (G.term-case {us = us} {vs = vs} q x y) w = (w.0, (near x (left us _ w.1), near y (left vs _ (right us _ w.1))))
  near (G.arms-two {us = us} q x y) w = (near x (left us _ w.1), near y (right us _ w.1).1)
  near (G.arms_next {us = us} p x y) w = (near x (left us _ w), near y (right us _ w).1)
  near (G.left_one x) w = near x w
  near (G.left-two {us = us} p x y) w = (near x (left us _ w), near y (right us _ w).1)
  near (G.act-store {k = k} {us = us} {vs = vs} e x y z) w =
      let v = right us _ w in
      ((store-sign k e, v.0), (near x (left us _ w), (near y (left vs _ v.1), near z (right vs _ v.1))))
  near (G.act-set {us = us} x y) w = let v = right us _ w in (v.0, (near x (left us _ w), near y v.1))
  near (G.act-perform x) w = (w.0, near x w.1)
  near (G.act-goto x) w = ((w.1.0, w.1.2), near x w.1.1)
  near (G.act-call x) w = ((w.1.0, w.1.2), near x w.1.1)
  near (G.act-return x) w = (w.0, near x w.1)
  near (G.act-when {us = us} {vs = vs} r q x y z) w =
      let v = (right us _ w.1).1 in
      (w.0, (near x (left us _ w.1), (near y (left vs _ v), near z (right vs _ v).1)))
  near (G.act-if {us = us} {vs = vs} {xs = xs} t r q x y y2 z) w =
      let v = (right us _ w.1).1 in
      let u = (right vs _ v).1 in
      (w.0, (near x (left us _ w.1), ((near y (left vs _ v), (near y2 (left xs _ u), tt)), near z (right xs _ u).1)))
  near (G.act-case {us = us} {vs = vs} q x y z) w =
      let v = right us _ w.1 in
      (w.0, (near x (left us _ w.1), (near y (left vs _ v), near z (right vs _ v).1)))
  near G.rest-none w = tt
  near (G.rest_more x) w = near x w.1
  near (G.arms-one {us = us} x y) w = (near x (left us _ w.1), near y (right us _ w.1))
  near G.arms_end w = tt
  near (G.arms_more x) w = near x w
  near G.range-both w = (w.0, w.1.1.0)
  near G.range_last w = (w.0, w.0)
  near G.no-dimension w = tt
  near (G.one-dimension {us = us} q x) w = near x (left us _ w.1)
  near (G.two-dimensions {us = us} {vs = vs} q r x y) w = (near x (left us _ w.1), near y (left vs _ (right us _ w.1).1))
  near (G.a-register x) w = (w.0, (near x w.1, tt))
  near (G.a-sequencing x) w = (w.1.0, (near x w.1.1, tt))
  near (G.a_memory x) w = (w.0, (near x w.1, tt))
  near (G.a-terminal x) w = (w.0, (near x w.1, tt))
  near (G.an-input {us = us} q r s t u v y c one x) w = (w.0, (near x (left us _ w.1), tt))
  near (G.a-computed {us = us} one x y) w = let v = right us _ w.1 in (w.0, (near x (left us _ w.1), (v.0, near y v.1)))
  near (G.registers-one x) w = (near x w, tt)
  near (G.registers-more {us = us} p x y) w = (near x (left us _ w), near y (right us _ w).1)
  near (G.memories-one x) w = (near x w, tt)
  near (G.memories-more {us = us} p x y) w = (near x (left us _ w), near y (right us _ w).1)
  near (G.terminals-one x) w = (near x w, tt)
  near (G.terminals-more {us = us} p x y) w = (near x (left us _ w), near y (right us _ w).1)
  near (G.an-ending e) w = tt
  near (G.register-section {us = us} x y) w = near x (left us _ w.1)
  near (G.memory-section {us = us} x y) w = near x (left us _ w.1)
  near (G.terminal-section {us = us} x y) w = near x (left us _ w.1)
  near G.no-memories w = tt
  near (G.some-memories x) w = near x w
  near G.no-terminals w = tt
  near (G.some-terminals x) w = near x w
  near (G.with-registers {us = us} {vs = vs} x y z) w = let v = right us _ w in (near x (left us _ w), (near y (left vs _ v), near z (right vs _ v)))
  near (G.with-memories {us = us} x y) w = (tt, (near x (left us _ w), near y (right us _ w)))
  near (G.with-terminals x) w = (tt, (tt, near x w))
  near (G.operations-one {us = us} q r s x) w = ((w.0, near x (left us _ w.1.1.1)), tt)
  near (G.operations-more {us = us} q r s t x y) w = ((w.0, near x (left us _ w.1.1.1)), near y (right us _ w.1.1.1).1.1)
  near G.no-ending w = tt
  near (G.some-ending x) w = tt
  near G.no-operations w = tt
  near (G.some-operations {us = us} x y) w = near x (left us _ w.1)
  near G.no_label w = tt
  near G.plain_label w = tt
  near G.label-with-value w = w.1.1.0
  near (G.states-one x) w = near x w
  near (G.states-more {us = us} x y) w = ((near x (left us _ w)).0, near y (right us _ w))
  near (G.state-idle {us = us} p x) w = ((first-near us p (left us _ w) (right us _ w).0, (near x (left us _ w), tt)), tt)
  near (G.state-acting {us = us} {vs = vs} p x y) w = let v = right us _ w in ((acting-near us vs p w, (near x (left us _ w), near y (left vs _ v))), tt)
  near (G.control-section {us = us} x y) w = near x (left us _ w.1)
  near G.no-dollar w = tt
  near G.some-dollar w = tt
  near (G.whole-text {us = us} {vs = vs} {ws = ws} x y z d) w =
      let v = right us _ w in
      let u = right vs _ v in
      let decl = near x (left us _ w) in
      record { registers = decl.0; memories = decl.1.0; terminals = decl.1.1; operations = near y (left vs _ v); states = near z (left ws _ u) }

-- ---- The words of a text of at most 32,768 bytes.

noted-near : (text : List ℕ) (p : Position) (i : Item) (r : Scanned) → Near p → Standing text p i → WordsNear text r.words → WordsNear text (noted p i r).words
noted-near text p S.gap r h e g = g
noted-near text p (S.named n) r h e g = (h, g, e)
noted-near text p (S.constant c) r h e g = (h, g, tt)
noted-near text p (S.sign k) r h e g = (h, g, tt)
noted-near text p (S.wrong n) r h e g = g

module _ (text : List ℕ) (short : length text ≤ 32768) where
  scanned-near : (k at : ℕ) (s : List ℕ) → s ≡ drop at text → (0 < length s → at + length s ≤ length text) → WordsNear text (scan_from k at s).words
  unfolding scan_from
  scanned-near zero at s e h = tt
  scanned-near (suc k) at [] e h = tt
  scanned-near (suc k) at (b ∷ s) e h =
      let f = item_at b s in
      let l : at + suc (length s) ≤ length text = h (omega arith) in
      noted-near text (position at) f.item _ (omega arith) (item-stands text at b s e (omega arith))
      (scanned-near k (at + f.size) (drop f.size (b ∷ s)) (ap (drop f.size) e ∙ drop-drop f.size at text) (λ g. omega (arith, length-drop f.size (b ∷ s))))

  pub text-near : (t : Text) {h : ℕ} → Is N.whole_text h (scan text).words (N.text t) → TextNear text t
  unfolding scan
  text-near t d = near text d (scanned-near (length text) 0 text refl (λ g. omega arith))
