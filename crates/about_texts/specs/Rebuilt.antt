-- Every expression that is judged fine and stands in order is that of a tree, and there are words for the tree: operands in parentheses. Assumes nothing.
use Rattle.std.specs.Prelude.{Bool, true, false, cond, ◌||◌, List, [], ◌∷◌, ◌++◌, eqb, leb}
use Rattle.std.proofs.Math.Option.{some}
use Rattle.std.proofs.Math.Path.{◌≡◌, refl, sym, ap, subst}
use Rattle.std.proofs.Common.{◌∙◌, pow-suc, eqb-true}
use native.Mathlib.Omega.{arith}
use Prim.Native.Nat.{ℕ, zero, suc, ◌+◌, ◌^◌, ◌≤◌, ◌<◌, max}
use Rattle.std.proofs.Math.Pow.{pow_pos}
use Rattle.language.specs.Canonical.{name_right, node_count}
use Rattle.language.specs.CountedWords.{counted_expression, counted_reference}
use Rattle.language.specs.Describe.{Noted, arms_of, bounds_of, expression_size, last_of, nodes_of, noted, noted_part}
use Rattle.language.specs.Description as D
use Rattle.language.specs.Description.{Bounds, Description, Node, facility_at, in_bounds, node_at, node_place, no_places}
use Rattle.language.specs.Expressions as E
use Rattle.language.specs.Expressions.{judge_at, judge_below, judge_node, selects}
use Rattle.language.specs.Grammar as G
use Rattle.language.specs.Grammar.{Is}
use Rattle.language.specs.Image.{ConstantRight, WordsRight}
use Rattle.language.specs.Judging.{Judged, Worth, arm_list, fine, refuse, sized, unless, worth}
use Rattle.language.specs.Kinds.{case_word, close_bracket, colon, comma, do_word, end_case_word, minus, difference_sign, open_bracket, red_word}
use Rattle.language.specs.Naming.{Meaning, Scope, facility, meaning, of_facility}
use Rattle.language.specs.Notions as N
use Rattle.language.specs.Notions.{expression, pair_of}
use Rattle.language.specs.Operators.{binary_length, cut_length_of, prefix_length}
use Rattle.language.specs.Order.{start_at, start_below, start_node}
use Rattle.language.specs.Recursion.{below-lt}
use Rattle.language.specs.ReferenceRules.{bound_faults, reference_judged, subscript_faults, subscripts_judged}
use Rattle.language.specs.References as R
use Rattle.language.specs.References.{part, refer_to, two, whole, word_part}
use Rattle.language.specs.declared.refusals.Refusal.TheVariants.{BadLength, BadSubscript}
use Rattle.language.specs.Tree as T
use Rattle.language.specs.Tree.{Ends, Expression, Name}
use Rattle.language.specs.Words as W
use Rattle.language.specs.Words.{Word, sign}
use Rattle.language.specs.Value.{Value}
use Rattle.language.specs.Ceilings.{longest}
use Rattle.about_rules.specs.Counted.{constant-count}
use Rattle.about_texts.specs.Constants.{constant-stands}
use Rattle.about_texts.specs.Derivations.{binary-term, binary_words, cut-term, cut_words, here, of-term, prefix-term, prefix_begins, prefix_words}
use Rattle.about_texts.specs.Placed.{Placed, behind-one, behind-two, last-record, leaf}
use Rattle.about_texts.specs.References.{Small, bound-same, count_same, count_small, in_small, refers, small, small-right}
use Rattle.about_running.specs.Judged.{Two, append-none-left, append-none-right, arms-fine, both-fine, faulty-fine, given-fine, proper-fine, sized-fine, unless-none}
use Rattle.about_running.specs.Starts.{one-before, start-le, start-lt, two-before}
use Rattle.language.specs.Tests.{both}

pub words-both : (us vs : List Word) → WordsRight us → WordsRight vs → WordsRight (us ++ vs)
words-both [] vs h k = k
words-both (u ∷ us) vs h k = (h.0, words-both us vs h.1 k)

-- The words of a tree: a term; one arm's expression, without its DO; or two arms and more.
abbrev pub Shape : ℕ → ℕ → List Word → Expression → Type 0
Shape zero n ws t = (h : ℕ) → n ≤ h → Is N.term h ws (expression t)
Shape (suc zero) n ws t = (e : Expression) × ((t ≡ T.first_arm e) × ((h : ℕ) → n ≤ h → Is N.boolean_exp h ws (expression e)))
Shape (suc (suc k)) n ws t = (h : ℕ) → n ≤ h → Is N.expression_arms h ws (expression t)

-- What names mean, and what their facilities are.
pub record Knows (d : Description) (sc : Scope) (known : ℕ) : Type 0 where
  pub means : (f : ℕ) → f < known → meaning sc (facility_at d f).name ≡ facility f
  pub right : (f : ℕ) → f < known → name_right (facility_at d f).name ≡ true
  pub bits : (f : ℕ) → f < known → Small (facility_at d f).bits

module _ (d : Description) (sc : Scope) (known : ℕ) (knows : Knows d sc known) (terms : ℕ → Judged) where
  abbrev judged : ℕ → Judged
  judged n = judge_at d no_places terms known n

  pub record Rebuilt (n s arms : ℕ) : Type 0 where
    pub tree : Expression
    pub placed : Placed d sc n s tree
    pub words : List Word
    pub right : WordsRight words
    pub depth : ℕ
    pub derived : Shape arms depth words tree
    pub arms-so : arms_of tree ≡ arms

  -- A reference, which is a term.
  pub record Referred (n s : ℕ) : Type 0 where
    pub tree : Expression
    pub placed : Placed d sc n s tree
    pub words : List Word
    pub right : WordsRight words
    pub depth : ℕ
    pub derived : (h : ℕ) → depth ≤ h → Is N.reference h words (expression tree)
    pub arms-so : arms_of tree ≡ 0
    pub reference-counts : counted_expression tree ≡ suc (counted_reference tree)

  term_of : {n s : ℕ} → Referred n s → Rebuilt n s 0
  term_of x = record { tree = x.tree; placed = x.placed; words = x.words; right = x.right; depth = x.depth; derived = λ h l. G.term-reference (x.derived h l); arms-so = x.arms-so }

  abbrev Below : ℕ → Type 0
  Below n = (a s : ℕ) (w : Worth) → a < n → judged a ≡ fine w → start_at d a ≡ some s → Rebuilt a s w.arms

  below-fine : (n a : ℕ) {w : Worth} → a < n → judge_below d no_places terms known n a ≡ fine w → judged a ≡ fine w
  unfolding judge_below judge_at
  below-fine n a l e = sym (below-lt (E.not_before d no_places terms known) (E.judge_step d no_places terms known) n a l) ∙ e

  -- A part that is an expression proper.
  term-part : (n a s : ℕ) {w : Worth} → Below n → a < n → E.proper_at d no_places terms known (judge_below d no_places terms known n) a ≡ fine w → start_at d a ≡ some s → Rebuilt a s 0
  term-part n a s {w} ih l e o =
      let y = proper-fine (node_place no_places a).at (judge_below d no_places terms known n a) e in
      subst (Rebuilt a s) y.arms (ih a s w l (below-fine n a l y.same) o)

  arm-part : (n a s : ℕ) {w : Worth} → Below n → a < n → arm_list (node_place no_places n).at (judge_below d no_places terms known n a) ≡ fine w → start_at d a ≡ some s → Rebuilt a s w.arms
  arm-part n a s ih l e o = ih a s _ l (below-fine n a l (arms-fine _ _ e).same) o

  -- ---- Records with one part: words around the part's.

  one-part : (n a s k : ℕ) (X : Rebuilt a s 0) (t : Expression) (R : Noted) → a + 1 ≡ n → node_at d n ≡ R.node → nodes_of sc s t ≡ nodes_of sc s X.tree ++ R ∷ []
      → expression_size t ≡ expression_size X.tree + 1 → counted_expression t ≡ counted_expression X.tree + node_count R.node
      → (ws : List Word) → WordsRight ws → (m : ℕ) → Shape k m ws t → arms_of t ≡ k → Rebuilt n s k
  one-part n a s k X t R l q e z c ws w m x y =
      record { tree = t; placed = behind-one d sc n a s X.tree t R l X.placed q e z c; words = ws; right = w; depth = m; derived = x; arms-so = y }

  -- ---- Each kind of record.

  abbrev name_of : ℕ → Name
  name_of f = (facility_at d f).name

  means-so : (f : ℕ) (F : ℕ → Node) → f < known → of_facility (meaning sc (name_of f)) F ≡ F f
  means-so f F l = ap (λ (m : Meaning). of_facility m F) (knows.means f l)

  constant-built : (n s : ℕ) (v : Value) {w : Worth} → node_at d n ≡ D.constant v → judge_node d no_places terms known (judge_below d no_places terms known n) (node_place no_places n) (D.constant v) ≡ fine w
      → start_node d (start_below d n) n (D.constant v) ≡ some s → Rebuilt n s w.arms
  unfolding judge_node start_node nodes_of expression_size counted_expression arms_of
  constant-built n s v {w} q e o =
      let y = sized-fine (node_place no_places n).at v.length _ e in
      let c = constant-stands d n s v here q o in
      let a : w.arms ≡ 0 = ap (λ (x : Worth). x.arms) y.same in
      subst (Rebuilt n s) (sym a) (record {
        tree = T.constant (record { bare = false; value = v }) here;
        placed = record { size = c.size; stands = c.stands; counted = constant-count v here };
        words = W.constant (record { bare = false; value = v }) here ∷ [];
        right = (record { some_bits = y.some; at-most = y.most; fits = c.fits; bare-length = λ i. absurd (let z : ◌≡◌ {A = ℕ} 0 1 = cc in omega arith) }, tt);
        depth = 0;
        derived = λ h l. G.term-constant;
        arms-so = refl;
      })

  abbrev Fine : ℕ → Node → Worth → Type 0
  Fine n x w = judge_node d no_places terms known (judge_below d no_places terms known n) (node_place no_places n) x ≡ fine w

  abbrev Begins : ℕ → ℕ → Node → Type 0
  Begins n s x = start_node d (start_below d n) n x ≡ some s

  -- References are terms, and no arms.

  as-term : {n s m : ℕ} → m ≡ 0 → Rebuilt n s 0 → Rebuilt n s m
  as-term {n} {s} e x = subst (Rebuilt n s) (sym e) x

  -- One opener more.
  shallower : {x : N.Notion} {ws : List Word} {t : N.Tree} {m : ℕ} (h : ℕ) → suc m ≤ h → ((g : ℕ) → m ≤ g → Is x (suc g) ws t) → Is x h ws t
  shallower zero l k = absurd (omega arith)
  shallower (suc h) l k = k h (omega arith)

  shallower-two : {x : N.Notion} {ws : List Word} {t : N.Tree} {m : ℕ} (h : ℕ) → suc (suc m) ≤ h → ((g : ℕ) → m ≤ g → Is x (suc (suc g)) ws t) → Is x h ws t
  shallower-two zero l k = absurd (omega arith)
  shallower-two (suc zero) l k = absurd (omega arith)
  shallower-two (suc (suc h)) l k = k h (omega arith)

  abbrev Refer : ℕ → ℕ → ℕ → R.Subscripts → Worth → Type 0
  Refer n own f x w = reference_judged d no_places terms (judge_below d no_places terms known n) own known (record { facility = f; subscripts = x }) (node_place no_places n) ≡ fine w

  one-reference : (n a s : ℕ) (X : Rebuilt a s 0) (t : Expression) (R : Noted) → a + 1 ≡ n → node_at d n ≡ R.node → nodes_of sc s t ≡ nodes_of sc s X.tree ++ R ∷ []
      → expression_size t ≡ expression_size X.tree + 1 → counted_expression t ≡ counted_expression X.tree + node_count R.node
      → (ws : List Word) → WordsRight ws → (m : ℕ) → ((h : ℕ) → m ≤ h → Is N.reference h ws (expression t)) → arms_of t ≡ 0 → counted_expression t ≡ suc (counted_reference t) → Referred n s
  one-reference n a s X t R l q e z c ws w m x y f =
      record { tree = t; placed = behind-one d sc n a s X.tree t R l X.placed q e z c; words = ws; right = w; depth = m; derived = x; arms-so = y; reference-counts = f }

  two-reference : (n a b m s : ℕ) (X : Rebuilt a s 0) (Y : Rebuilt b m 0) (t : Expression) (R : Noted) → b + 1 ≡ n → a + 1 ≡ m → node_at d n ≡ R.node
      → nodes_of sc s t ≡ nodes_of sc s X.tree ++ (nodes_of sc (s + expression_size X.tree) Y.tree ++ R ∷ []) → expression_size t ≡ expression_size X.tree + expression_size Y.tree + 1
      → counted_expression t ≡ counted_expression X.tree + counted_expression Y.tree + node_count R.node
      → (ws : List Word) → WordsRight ws → (o : ℕ) → ((h : ℕ) → o ≤ h → Is N.reference h ws (expression t)) → arms_of t ≡ 0 → counted_expression t ≡ suc (counted_reference t) → Referred n s
  two-reference n a b m s X Y t R l g q e z c ws w o x y f =
      record { tree = t; placed = behind-two d sc n a b m s X.tree Y.tree t R l g X.placed Y.placed q e z c; words = ws; right = w; depth = o; derived = x; arms-so = y; reference-counts = f }

  whole-built : (n s f own : ℕ) {w : Worth} → node_at d n ≡ D.whole f → Refer n own f (whole) w → Begins n s (D.whole f) → Referred n s
  unfolding judge_node start_node nodes_of expression_size counted_expression arms_of
  whole-built n s f own q e o =
      let r = refers d no_places terms _ own known (record { facility = f; subscripts = whole }) (node_place no_places n) e in
      let z : n ≡ s = cc in
      subst (λ (m : ℕ). Referred n m) z (record {
        tree = T.whole (name_of f) here;
        placed = leaf d sc n (T.whole (name_of f) here) (noted (D.whole f) here) q (ap (λ (x : Node). noted x here ∷ []) (means-so f D.whole r.known-here)) refl refl;
        words = W.name (name_of f) here ∷ [];
        right = (knows.right f r.known-here, tt);
        depth = 0;
        derived = λ h l. G.ref-whole;
        arms-so = refl;
        reference-counts = refl;
      })

  one-built : (n s f a own : ℕ) {w : Worth} → Below n → node_at d n ≡ D.one f a → Refer n own f (R.one a) w → Begins n s (D.one f a) → Referred n s
  unfolding judge_node start_node nodes_of expression_size counted_expression subscripts_judged arms_of
  one-built n s f a own ih q e o =
      let r = refers d no_places terms _ own known (record { facility = f; subscripts = R.one a }) (node_place no_places n) e in
      let b = one-before d a n s o in
      let X = term-part n a s ih (omega (arith, b.last)) r.subscripts-fine b.start in
      let l = last-record d sc a s X.tree X.placed in
      (one-reference n a s X (T.one (name_of f) here X.tree) (noted (D.one f a) here) b.last q
      (rw (means-so f (λ g. D.one g (last_of s (expression_size X.tree))) r.known-here, l) refl) refl (omega arith)
      (W.name (name_of f) here ∷ sign open_bracket here ∷ (X.words ++ sign close_bracket here ∷ [])) (knows.right f r.known-here, (tt, words-both X.words _ X.right (tt, tt))) (suc X.depth)
      (λ h k. shallower h k (λ g i. G.ref-one here (of-term (X.derived g i)))) refl refl)

  -- Ends of a part that take 16 bits.

  abbrev ends_of : Bounds → Ends
  ends_of b = pair_of (small b.first) here (small b.last) here

  pub record EndsRight (b : Bounds) : Type 0 where
    pub first : ConstantRight (small b.first)
    pub last : ConstantRight (small b.last)
    pub same : bounds_of (ends_of b) ≡ b

  ends-right : (f : ℕ) (b : Bounds) → f < known → unless (in_bounds (facility_at d f).bits b.first) (node_place no_places 0).first BadSubscript ++ unless (in_bounds (facility_at d f).bits b.last) (node_place no_places 0).last BadSubscript ≡ [] → EndsRight b
  ends-right f b l e =
      let B = (facility_at d f).bits in
      let i = in_small B b.first (knows.bits f l) (unless-none (in_bounds B b.first) _ BadSubscript (append-none-left _ _ e)) in
      let j = in_small B b.last (knows.bits f l) (unless-none (in_bounds B b.last) _ BadSubscript (append-none-right (unless (in_bounds B b.first) _ BadSubscript) _ e)) in
      record { first = small-right b.first i; last = small-right b.last j; same = rw (bound-same b.first i, bound-same b.last j) refl }

  part-built : (n s f own : ℕ) (b : Bounds) {w : Worth} → node_at d n ≡ D.part f b → Refer n own f (part b) w → Begins n s (D.part f b) → Referred n s
  unfolding judge_node start_node nodes_of expression_size counted_expression bound_faults node_place arms_of
  part-built n s f own b q e o =
      let r = refers d no_places terms _ own known (record { facility = f; subscripts = part b }) (node_place no_places n) e in
      let x = ends-right f b r.known-here r.within in
      let z : n ≡ s = cc in
      subst (λ (m : ℕ). Referred n m) z (record {
        tree = T.part (name_of f) here (ends_of b);
        placed = leaf d sc n (T.part (name_of f) here (ends_of b)) (noted_part (D.part f b) here (ends_of b)) q
            (rw (means-so f (λ g. D.part g (bounds_of (ends_of b))) r.known-here, x.same) refl) refl refl;
        words = W.name (name_of f) here ∷ sign open_bracket here ∷ W.constant (small b.first) here ∷ sign colon here ∷ W.constant (small b.last) here ∷ sign close_bracket here ∷ [];
        right = (knows.right f r.known-here, (tt, (x.first, (tt, (x.last, (tt, tt))))));
        depth = 1;
        derived = λ h l. shallower h l (λ g i. G.ref-part);
        arms-so = refl;
        reference-counts = refl;
      })

  word-part-built : (n s f a own : ℕ) (b : Bounds) {w : Worth} → Below n → node_at d n ≡ D.word_part f a b → Refer n own f (word_part a b) w → Begins n s (D.word_part f a b) → Referred n s
  unfolding judge_node start_node nodes_of expression_size counted_expression subscripts_judged bound_faults node_place arms_of
  word-part-built n s f a own b ih q e o =
      let r = refers d no_places terms _ own known (record { facility = f; subscripts = word_part a b }) (node_place no_places n) e in
      let x = ends-right f b r.known-here (append-none-right (subscript_faults d no_places terms (facility_at d f).words a) _ r.within) in
      let y = one-before d a n s o in
      let X = term-part n a s ih (omega (arith, y.last)) r.subscripts-fine y.start in
      let l = last-record d sc a s X.tree X.placed in
      (one-reference n a s X (T.word_part (name_of f) here X.tree (ends_of b)) (noted_part (D.word_part f a b) here (ends_of b)) y.last q
      (rw (means-so f (λ g. D.word_part g (last_of s (expression_size X.tree)) (bounds_of (ends_of b))) r.known-here, l, x.same) refl) refl (omega arith)
      (W.name (name_of f) here ∷ sign open_bracket here ∷ (X.words ++ sign comma here ∷ W.constant (small b.first) here ∷ sign colon here ∷ W.constant (small b.last) here ∷ sign close_bracket here ∷ []))
      (knows.right f r.known-here, (tt, words-both X.words _ X.right (tt, (x.first, (tt, (x.last, (tt, tt))))))) (suc X.depth)
      (λ h k. shallower h k (λ g i. G.ref-word-part here here here (of-term (X.derived g i)))) refl refl)

  -- ---- Records with two parts.

  deeper-left : (m n h : ℕ) → max m n ≤ h → m ≤ h
  deeper-left m n h l = omega (arith, l)

  deeper-right : (m n h : ℕ) → max m n ≤ h → n ≤ h
  deeper-right m n h l = omega (arith, l)

  two-parts : (n a b m s i j k : ℕ) (X : Rebuilt a s i) (Y : Rebuilt b m j) (t : Expression) (R : Noted) → b + 1 ≡ n → a + 1 ≡ m → node_at d n ≡ R.node
      → nodes_of sc s t ≡ nodes_of sc s X.tree ++ (nodes_of sc (s + expression_size X.tree) Y.tree ++ R ∷ []) → expression_size t ≡ expression_size X.tree + expression_size Y.tree + 1
      → counted_expression t ≡ counted_expression X.tree + counted_expression Y.tree + node_count R.node → (ws : List Word) → WordsRight ws → (o : ℕ) → Shape k o ws t → arms_of t ≡ k → Rebuilt n s k
  two-parts n a b m s i j k X Y t R l g q e z c ws w o x y =
      record { tree = t; placed = behind-two d sc n a b m s X.tree Y.tree t R l g X.placed Y.placed q e z c; words = ws; right = w; depth = o; derived = x; arms-so = y }

  two-built : (n s f a b own : ℕ) {w : Worth} → Below n → node_at d n ≡ D.two f a b → Refer n own f (two a b) w → Begins n s (D.two f a b) → Referred n s
  unfolding judge_node start_node nodes_of expression_size counted_expression subscripts_judged arms_of
  two-built n s f a b own ih q e o =
      let r = refers d no_places terms _ own known (record { facility = f; subscripts = two a b }) (node_place no_places n) e in
      let v = both-fine _ _ _ r.subscripts-fine in
      let y = two-before d a b n s o in
      let u : a < n = omega (arith, y.last, y.next, start-le d b y.middle y.right) in
      let X = term-part n a s ih u v.left (sym (start-lt d n a u) ∙ y.left) in
      let Y = term-part n b y.middle ih (omega (arith, y.last)) v.right y.right in
      let l = last-record d sc a s X.tree X.placed in
      let at : s + expression_size X.tree ≡ y.middle = let i = X.placed.size in omega (arith, i, y.next) in
      let k = last-record d sc b y.middle Y.tree Y.placed in
      (two-reference n a b y.middle s X Y (T.two (name_of f) here X.tree Y.tree) (noted (D.two f a b) here) y.last y.next q
      (rw (means-so f (λ g. D.two g (last_of s (expression_size X.tree)) (last_of (s + expression_size X.tree) (expression_size Y.tree))) r.known-here, l, at, k) refl) refl (omega arith)
      (W.name (name_of f) here ∷ sign open_bracket here ∷ (X.words ++ sign comma here ∷ (Y.words ++ sign close_bracket here ∷ [])))
      (knows.right f r.known-here, (tt, words-both X.words _ X.right (tt, words-both Y.words _ Y.right (tt, tt)))) (suc (max X.depth Y.depth))
      (λ h i. shallower h i (λ g p. G.ref-two here here (of-term (X.derived g (deeper-left X.depth Y.depth g p))) (of-term (Y.derived g (deeper-right X.depth Y.depth g p))))) refl refl)

  -- An expression proper has at least one bit.

  one_bit : {w : Worth} (p : W.Position) (l k : ℕ) → sized p l k ≡ fine w → 1 ≤ w.length
  one_bit p l k e = let y = sized-fine p l k e in rw y.same y.some

  reference-bit : (ev : ℕ → Judged) (at : D.NodePlaces) (f : ℕ) (s : R.Subscripts) {w : Worth} → E.operand_at d no_places terms known ev at (refer_to f s) ≡ fine w → 1 ≤ w.length
  reference-bit ev at f s e = (refers d no_places terms ev E.own_work known (record { facility = f; subscripts = s }) at e).some_bits

  chosen-bit : {w : Worth} (b : Bool) (p : W.Position) (l k : ℕ) → cond b (sized p l k) (refuse p BadLength) ≡ fine w → 1 ≤ w.length
  chosen-bit true p l k e = one_bit p l k e
  chosen-bit false p l k e = faulty-fine e

  node-bit : (ev : ℕ → Judged) (at : D.NodePlaces) (n : Node) {w : Worth} → judge_node d no_places terms known ev at n ≡ fine w → w.arms ≡ 0 → 1 ≤ w.length
  unfolding judge_node
  node-bit ev at (D.constant v) e z = one_bit at.at v.length _ e
  node-bit ev at (D.more n) e z = faulty-fine e
  node-bit ev at (D.whole f) e z = reference-bit ev at f whole e
  node-bit ev at (D.one f a) e z = reference-bit ev at f (R.one a) e
  node-bit ev at (D.part f b) e z = reference-bit ev at f (part b) e
  node-bit ev at (D.two f a b) e z = reference-bit ev at f (two a b) e
  node-bit ev at (D.word_part f a b) e z = reference-bit ev at f (word_part a b) e
  node-bit ev at (D.binary k a b) e z = let y = both-fine (E.proper_at d no_places terms known ev a) (E.proper_at d no_places terms known ev b) _ e in one_bit at.at (binary_length k y.u.length y.v.length) _ y.own
  node-bit ev at (D.prefix k a) e z = let y = given-fine (E.proper_at d no_places terms known ev a) _ e in one_bit at.at (prefix_length k y.v.length) _ y.own
  node-bit ev at (D.cut k a c) e z = let y = given-fine (E.proper_at d no_places terms known ev a) _ e in one_bit at.at (cut_length_of k y.v.length c) _ y.own
  node-bit ev at (D.first_arm a) e z = let y = given-fine (E.proper_at d no_places terms known ev a) _ e in absurd (no_arm y.own z)
    where
      no_arm : {l k m : ℕ} {w : Worth} → worth l (suc m) k ≡ fine w → w.arms ≡ 0 → ⊥
      no_arm f g = let h : ◌≡◌ {A = ℕ} 0 1 = cc in omega arith
  node-bit ev at (D.next_arm a b) e z = let y = both-fine (arm_list at.at (ev a)) (E.proper_at d no_places terms known ev b) _ e in absurd (no_arm y.own z)
    where
      no_arm : {l k m : ℕ} {w : Worth} → worth l (suc m) k ≡ fine w → w.arms ≡ 0 → ⊥
      no_arm f g = let h : ◌≡◌ {A = ℕ} 0 1 = cc in omega arith
  node-bit ev at (D.choice a b n) e z = let y = both-fine (E.proper_at d no_places terms known ev a) (arm_list at.at (ev b)) _ e in chosen-bit (both (selects y.u.length n) (eqb y.v.arms n)) at.at y.v.length (E.own_work + y.u.work + y.v.work) y.own
  node-bit ev at D.Node.broken e z = faulty-fine e

  part_length : (n a : ℕ) {w : Worth} → a < n → E.proper_at d no_places terms known (judge_below d no_places terms known n) a ≡ fine w → 1 ≤ w.length
  unfolding judge_at
  part_length n a l e =
      let y = proper-fine (node_place no_places a).at (judge_below d no_places terms known n a) e in
      node-bit (judge_below d no_places terms known a) (node_place no_places a) (node_at d a) (below-fine n a l y.same) y.arms

  -- ---- Operators.

  binary-built : (n s k a b : ℕ) {w : Worth} → Below n → node_at d n ≡ D.binary k a b → Fine n (D.binary k a b) w → Begins n s (D.binary k a b) → Rebuilt n s w.arms
  unfolding judge_node start_node nodes_of expression_size counted_expression arms_of
  binary-built n s k a b {w} ih q e o =
      let v = both-fine (E.proper_at d no_places terms known (judge_below d no_places terms known n) a) (E.proper_at d no_places terms known (judge_below d no_places terms known n) b) _ e in
      let z = sized-fine (node_place no_places n).at (binary_length k v.u.length v.v.length) _ v.own in
      let y = two-before d a b n s o in
      let u : a < n = omega (arith, y.last, y.next, start-le d b y.middle y.right) in
      let X = term-part n a s ih u v.left (sym (start-lt d n a u) ∙ y.left) in
      let Y = term-part n b y.middle ih (omega (arith, y.last)) v.right y.right in
      let l = last-record d sc a s X.tree X.placed in
      let at : s + expression_size X.tree ≡ y.middle = let i = X.placed.size in omega (arith, i, y.next) in
      let m = last-record d sc b y.middle Y.tree Y.placed in
      as-term (ap (λ (x : Worth). x.arms) z.same) (two-parts n a b y.middle s 0 0 0 X Y (T.binary k here X.tree Y.tree) (noted (D.binary k a b) here) y.last y.next q
      (rw (l, at, m) refl) refl (omega arith) (binary_words k X.words Y.words) (tt, words-both (X.words ++ sign k here ∷ Y.words) _ (words-both X.words _ X.right (tt, Y.right)) (tt, tt)) (suc (max X.depth Y.depth))
      (λ h i. shallower h i (λ g p. binary-term k (X.derived g (deeper-left X.depth Y.depth g p)) (Y.derived g (deeper-right X.depth Y.depth g p)) v.u.length v.v.length z.some)) refl)

  prefix-right : (k : ℕ) (us : List Word) → WordsRight us → WordsRight (prefix_begins k us)
  prefix-right k us h = go (eqb k minus || eqb k difference_sign)
    where
      go : (b : Bool) → WordsRight (cond b (sign k here ∷ us) (sign k here ∷ sign red_word here ∷ us))
      go true = (tt, h)
      go false = (tt, (tt, h))

  prefix-built : (n s k a : ℕ) {w : Worth} → Below n → node_at d n ≡ D.prefix k a → Fine n (D.prefix k a) w → Begins n s (D.prefix k a) → Rebuilt n s w.arms
  unfolding judge_node start_node nodes_of expression_size counted_expression arms_of
  prefix-built n s k a {w} ih q e o =
      let v = given-fine (E.proper_at d no_places terms known (judge_below d no_places terms known n) a) _ e in
      let z = sized-fine (node_place no_places n).at (prefix_length k v.v.length) _ v.own in
      let y = one-before d a n s o in
      let X = term-part n a s ih (omega (arith, y.last)) v.part y.start in
      let l = last-record d sc a s X.tree X.placed in
      as-term (ap (λ (x : Worth). x.arms) z.same) (one-part n a s 0 X (T.prefix k here X.tree) (noted (D.prefix k a) here) y.last q (rw l refl) refl (omega arith)
      (prefix_words k X.words) (tt, words-both (prefix_begins k X.words) _ (prefix-right k X.words X.right) (tt, tt)) (suc (suc X.depth))
      (λ h i. shallower-two h i (λ g p. prefix-term k (X.derived g p) v.v.length z.some)) refl)

  cut-built : (n s k a c : ℕ) {w : Worth} → Below n → node_at d n ≡ D.cut k a c → Fine n (D.cut k a c) w → Begins n s (D.cut k a c) → Rebuilt n s w.arms
  unfolding judge_node start_node nodes_of expression_size counted_expression arms_of longest
  cut-built n s k a c {w} ih q e o =
      let v = given-fine (E.proper_at d no_places terms known (judge_below d no_places terms known n) a) _ e in
      let z = sized-fine (node_place no_places n).at (cut_length_of k v.v.length c) _ v.own in
      let y = one-before d a n s o in
      let X = term-part n a s ih (omega (arith, y.last)) v.part y.start in
      let l = last-record d sc a s X.tree X.placed in
      let few : c ≤ 256 = count_small k v.v.length c (part_length n a (omega (arith, y.last)) v.part) z.some z.most in
      as-term (ap (λ (x : Worth). x.arms) z.same) (one-part n a s 0 X (T.cut k here X.tree (small c)) (noted (D.cut k a c) here) y.last q (rw (l, count_same c (omega (arith, few))) refl) refl (omega arith)
      (cut_words k X.words (small c)) (tt, words-both (X.words ++ sign k here ∷ W.constant (small c) here ∷ []) _ (words-both X.words _ X.right (tt, (small-right c (omega (arith, few)), tt))) (tt, tt)) (suc X.depth)
      (λ h i. shallower h i (λ g p. cut-term k (small c) (X.derived g p) v.v.length c z.some)) refl)

  -- ---- Arms, and conditionals.

  first-arm-built : (n s a : ℕ) {w : Worth} → Below n → node_at d n ≡ D.first_arm a → Fine n (D.first_arm a) w → Begins n s (D.first_arm a) → Rebuilt n s w.arms
  unfolding judge_node start_node nodes_of expression_size counted_expression arms_of
  first-arm-built n s a {w} ih q e o =
      let v = given-fine (E.proper_at d no_places terms known (judge_below d no_places terms known n) a) _ e in
      let y = one-before d a n s o in
      let X = term-part n a s ih (omega (arith, y.last)) v.part y.start in
      let l = last-record d sc a s X.tree X.placed in
      let one : worth v.v.length 1 v.v.work ≡ fine w = v.own in
      let z : 1 ≡ w.arms = cc in
      subst (Rebuilt n s) z (one-part n a s 1 X (T.first_arm X.tree) (noted (D.first_arm a) D.nowhere) y.last q (rw l refl) refl (omega arith) X.words X.right X.depth
      (X.tree, (refl, λ h i. of-term (X.derived h i))) refl)

  -- The words of arms behind those before them, each with its DO.
  abbrev arm_words : ℕ → List Word → List Word → List Word
  arm_words zero us vs = []
  arm_words (suc zero) us vs = sign do_word here ∷ (us ++ sign do_word here ∷ vs)
  arm_words (suc (suc k)) us vs = us ++ sign do_word here ∷ vs

  arm-words-right : (k : ℕ) (us vs : List Word) → WordsRight us → WordsRight vs → WordsRight (arm_words k us vs)
  arm-words-right zero us vs h k = tt
  arm-words-right (suc zero) us vs h k = (tt, words-both us _ h (tt, k))
  arm-words-right (suc (suc n)) us vs h k = words-both us _ h (tt, k)

  arms-derived : (k m o : ℕ) (us vs : List Word) (t x : Expression) → 0 < k → Shape k m us t → Shape 0 o vs x → Shape (suc k) (max m o) (arm_words k us vs) (T.next_arm t x)
  arms-derived zero m o us vs t x l f g = absurd (omega arith)
  arms-derived (suc zero) m o us vs t x l f g =
      λ h i. rw f.1.0 (G.arms-two here (f.1.1 h (deeper-left m o h i)) (of-term (g h (deeper-right m o h i))))
  arms-derived (suc (suc k)) m o us vs t x l f g = λ h i. G.arms_next here (f h (deeper-left m o h i)) (of-term (g h (deeper-right m o h i)))

  next-arm-built : (n s a b : ℕ) {w : Worth} → Below n → node_at d n ≡ D.next_arm a b → Fine n (D.next_arm a b) w → Begins n s (D.next_arm a b) → Rebuilt n s w.arms
  unfolding judge_node start_node nodes_of expression_size counted_expression arms_of
  next-arm-built n s a b {w} ih q e o =
      let v = both-fine (arm_list (node_place no_places n).at (judge_below d no_places terms known n a)) (E.proper_at d no_places terms known (judge_below d no_places terms known n) b) _ e in
      let y = two-before d a b n s o in
      let u : a < n = omega (arith, y.last, y.next, start-le d b y.middle y.right) in
      let X = arm-part n a s ih u v.left (sym (start-lt d n a u) ∙ y.left) in
      let Y = term-part n b y.middle ih (omega (arith, y.last)) v.right y.right in
      let l = last-record d sc a s X.tree X.placed in
      let at : s + expression_size X.tree ≡ y.middle = let i = X.placed.size in omega (arith, i, y.next) in
      let m = last-record d sc b y.middle Y.tree Y.placed in
      let some-arms : 0 < v.u.arms = (arms-fine _ _ v.left).some in
      let own : worth (E.evenly v.u.length v.v.length) (suc v.u.arms) (v.u.work + v.v.work) ≡ fine w = v.own in
      let z : suc v.u.arms ≡ w.arms = cc in
      subst (Rebuilt n s) z (two-parts n a b y.middle s v.u.arms 0 (suc v.u.arms) X Y (T.next_arm X.tree Y.tree) (noted (D.next_arm a b) D.nowhere) y.last y.next q
      (rw (l, at, m) refl) refl (omega arith) (arm_words v.u.arms X.words Y.words) (arm-words-right v.u.arms X.words Y.words X.right Y.right) (max X.depth Y.depth)
      (arms-derived v.u.arms X.depth Y.depth X.words Y.words X.tree Y.tree some-arms X.derived Y.derived) (ap suc X.arms-so))

  -- A condition of at least one bit selects among at least two arms.
  two-arms : (l n : ℕ) → 1 ≤ l → selects l n ≡ true → 2 ≤ n
  unfolding selects
  two-arms l n pos e = go (leb l E.longest_selector) e
    where
      twice : (k : ℕ) → 1 ≤ k → 2 ≤ 2 ^ k
      twice zero i = absurd (omega arith)
      twice (suc k) i = let p = pow_pos k in rw (pow-suc 2 k) (omega (arith, p))

      go : (b : Bool) → both b (eqb n (2 ^ l)) ≡ true → 2 ≤ n
      go true k = let z : n ≡ 2 ^ l = eqb-true n (2 ^ l) k in rw z (twice l pos)
      go false k = absurd (let i : ◌≡◌ {A = ℕ} 0 1 = cc in omega arith)

  many-arms : (k m : ℕ) (us : List Word) (t : Expression) → 2 ≤ k → Shape k m us t → (h : ℕ) → m ≤ h → Is N.expression_arms h us (expression t)
  many-arms zero m us t l f h i = absurd (omega arith)
  many-arms (suc zero) m us t l f h i = absurd (omega arith)
  many-arms (suc (suc k)) m us t l f h i = f h i

  choice-built : (n s a b k : ℕ) {w : Worth} → Below n → node_at d n ≡ D.choice a b k → Fine n (D.choice a b k) w → Begins n s (D.choice a b k) → Rebuilt n s w.arms
  unfolding judge_node start_node nodes_of expression_size counted_expression arms_of
  choice-built n s a b k {w} ih q e o = go (selects v.u.length k) refl (eqb v.v.arms k) refl v.own
    where
      v : Two (E.proper_at d no_places terms known (judge_below d no_places terms known n) a) (arm_list (node_place no_places n).at (judge_below d no_places terms known n b)) (E.choice_judged d no_places terms known (node_place no_places n).at k) w
      v = both-fine (E.proper_at d no_places terms known (judge_below d no_places terms known n) a) (arm_list (node_place no_places n).at (judge_below d no_places terms known n b)) _ e

      made : selects v.u.length k ≡ true → v.v.arms ≡ k → w.arms ≡ 0 → Rebuilt n s w.arms
      made c r z =
          let y = two-before d a b n s o in
          let u : a < n = omega (arith, y.last, y.next, start-le d b y.middle y.right) in
          let X = term-part n a s ih u v.left (sym (start-lt d n a u) ∙ y.left) in
          let Y = arm-part n b y.middle ih (omega (arith, y.last)) v.right y.right in
          let l = last-record d sc a s X.tree X.placed in
          let at : s + expression_size X.tree ≡ y.middle = let i = X.placed.size in omega (arith, i, y.next) in
          let m = last-record d sc b y.middle Y.tree Y.placed in
          let enough : 2 ≤ v.v.arms = rw r (two-arms v.u.length k (part_length n a u v.left) c) in
          as-term z (two-parts n a b y.middle s 0 v.v.arms 0 X Y (T.choice here X.tree Y.tree) (noted (D.choice a b k) here) y.last y.next q
          (rw (l, at, m, Y.arms-so ∙ r) refl) refl (omega arith) (sign case_word here ∷ (X.words ++ (Y.words ++ sign end_case_word here ∷ []))) (tt, words-both X.words _ X.right (words-both Y.words _ Y.right (tt, tt))) (suc (max X.depth Y.depth))
          (λ h i. shallower h i (λ g p. G.term-case here (of-term (X.derived g (deeper-left X.depth Y.depth g p))) (many-arms v.v.arms Y.depth Y.words Y.tree enough Y.derived g (deeper-right X.depth Y.depth g p)))) refl)

      go : (c : Bool) → selects v.u.length k ≡ c → (r : Bool) → eqb v.v.arms k ≡ r
          → cond (both c r) (sized (node_place no_places n).at v.v.length (E.own_work + v.u.work + v.v.work)) (refuse (node_place no_places n).at BadLength) ≡ fine w → Rebuilt n s w.arms
      go true c true r f = made c (eqb-true _ _ r) (ap (λ (x : Worth). x.arms) (sized-fine (node_place no_places n).at v.v.length _ f).same)
      go true c false r f = faulty-fine f
      go false c r' r f = faulty-fine f

  -- ---- Any record.

  no_more : {A : Type 0} (n m : ℕ) {w : Worth} → Fine n (D.more m) w → A
  unfolding judge_node
  no_more n m e = faulty-fine e

  no-broken : {A : Type 0} (n : ℕ) {w : Worth} → Fine n D.Node.broken w → A
  unfolding judge_node
  no-broken n e = faulty-fine e

  operand-built : (n s f : ℕ) (x : R.Subscripts) {w : Worth} → Refer n E.own_work f x w → Referred n s → Rebuilt n s w.arms
  operand-built n s f x e r = as-term (refers d no_places terms _ E.own_work known (record { facility = f; subscripts = x }) (node_place no_places n) e).arms (term_of r)

  node-built : (n s : ℕ) (x : Node) {w : Worth} → Below n → node_at d n ≡ x → Fine n x w → Begins n s x → Rebuilt n s w.arms
  unfolding judge_node
  node-built n s (D.constant v) ih q e o = constant-built n s v q e o
  node-built n s (D.more m) ih q e o = no_more n m e
  node-built n s (D.whole f) ih q e o = operand-built n s f whole e (whole-built n s f E.own_work q e o)
  node-built n s (D.one f a) ih q e o = operand-built n s f (R.one a) e (one-built n s f a E.own_work ih q e o)
  node-built n s (D.part f b) ih q e o = operand-built n s f (part b) e (part-built n s f E.own_work b q e o)
  node-built n s (D.two f a b) ih q e o = operand-built n s f (two a b) e (two-built n s f a b E.own_work ih q e o)
  node-built n s (D.word_part f a b) ih q e o = operand-built n s f (word_part a b) e (word-part-built n s f a E.own_work b ih q e o)
  node-built n s (D.binary k a b) ih q e o = binary-built n s k a b ih q e o
  node-built n s (D.prefix k a) ih q e o = prefix-built n s k a ih q e o
  node-built n s (D.cut k a c) ih q e o = cut-built n s k a c ih q e o
  node-built n s (D.first_arm a) ih q e o = first-arm-built n s a ih q e o
  node-built n s (D.next_arm a b) ih q e o = next-arm-built n s a b ih q e o
  node-built n s (D.choice a b k) ih q e o = choice-built n s a b k ih q e o
  node-built n s D.Node.broken ih q e o = no-broken n e

  below-built : (k : ℕ) (n s : ℕ) (w : Worth) → n < k → judged n ≡ fine w → start_at d n ≡ some s → Rebuilt n s w.arms
  unfolding judge_at start_at
  below-built zero n s w l e o = absurd (omega arith)
  below-built (suc k) n s w l e o = node-built n s (node_at d n) (λ a t v i f g. below-built k a t v (omega (arith, l, i)) f g) refl e o

  pub rebuilt : (n s : ℕ) (w : Worth) → judged n ≡ fine w → start_at d n ≡ some s → Rebuilt n s w.arms
  rebuilt n s w e o = below-built (suc n) n s w (omega arith) e o

  -- ---- The left side of a store.

  node-referred : (n s : ℕ) (x : Node) {w : Worth} → Below n → node_at d n ≡ x → E.left_of d no_places terms known n (R.reference_of x) ≡ fine w → Begins n s x → Referred n s
  node-referred n s (D.constant v) ih q e o = faulty-fine e
  node-referred n s (D.more m) ih q e o = faulty-fine e
  node-referred n s (D.whole f) ih q e o = whole-built n s f 0 q e o
  node-referred n s (D.one f a) ih q e o = one-built n s f a 0 ih q e o
  node-referred n s (D.part f b) ih q e o = part-built n s f 0 b q e o
  node-referred n s (D.two f a b) ih q e o = two-built n s f a b 0 ih q e o
  node-referred n s (D.word_part f a b) ih q e o = word-part-built n s f a 0 b ih q e o
  node-referred n s (D.binary k a b) ih q e o = faulty-fine e
  node-referred n s (D.prefix k a) ih q e o = faulty-fine e
  node-referred n s (D.cut k a c) ih q e o = faulty-fine e
  node-referred n s (D.first_arm a) ih q e o = faulty-fine e
  node-referred n s (D.next_arm a b) ih q e o = faulty-fine e
  node-referred n s (D.choice a b k) ih q e o = faulty-fine e
  node-referred n s D.Node.broken ih q e o = faulty-fine e

  pub referred : (n s : ℕ) {w : Worth} → E.left_at d no_places terms known n ≡ fine w → start_at d n ≡ some s → Referred n s
  unfolding E.left_at start_at
  referred n s e o = node-referred n s (node_at d n) (λ a t v l f g. rebuilt a t v f g) refl e o
