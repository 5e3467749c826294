-- A facility of the right form is that of a declaration, and there are words for it. Assumes nothing.
use Rattle.std.specs.Prelude.{true, cond, List, [], ◌∷◌, ◌++◌, ◌≡◌, refl, ℕ, zero, suc, ◌+◌, ◌-◌, ◌≤◌, max, eqb, leb}
use Rattle.std.proofs.Common.{sym, ◌∙◌, arith, eqb-true, leb-true}
use Rattle.std.proofs.Math.Path.{subst}
use Rattle.language.specs.Canonical.{facility_right, most_dimensions, name_right, no_bounds, rank_of, total}
use Rattle.language.specs.CountedWords.{counted_function}
use Rattle.language.specs.Describe.{bounds_of, expression_size}
use Rattle.language.specs.DescribeText.{function_nodes, function_size}
use Rattle.language.specs.Description.{Bounds, Description, Facility, bounds}
use Rattle.language.specs.Grammar as G
use Rattle.language.specs.Grammar.{Is}
use Rattle.language.specs.Image.{WordsRight}
use Rattle.language.specs.Judging.{Judged}
use Rattle.language.specs.Kinds.{close_bracket, close_paren, colon, comma, equal_sign, input_word, open_bracket, open_paren}
use Rattle.language.specs.Naming.{Scope}
use Rattle.language.specs.Notions as N
use Rattle.language.specs.Notions.{AtMostOne, Notion, extent, facility, pair_of}
use Rattle.language.specs.DescribeText as X
use Rattle.language.specs.Tree as T
use Rattle.language.specs.Tree.{Declaration, Ends, Extent, Function, Kind}
use Rattle.language.specs.Words as W
use Rattle.language.specs.Words.{Word, sign}
use Rattle.about_rules.specs.Counted.{nodes}
use Rattle.about_rules.specs.Starts.{Stand}
use Rattle.about_running.specs.LegalForm.{left-of, right_of}
use Rattle.about_texts.specs.Derivations.{here, of-term}
use Rattle.about_texts.specs.Rebuilt.{Knows, Rebuilt, words-both}
use Rattle.about_texts.specs.References.{Small, bound-same, small, small-right}
use Rattle.language.specs.Tests.{both}

-- The notion of a declaration of this rank.
abbrev pub spec_of : ℕ → Notion
spec_of zero = N.register_spec
spec_of (suc zero) = N.memory_spec
spec_of (suc (suc n)) = N.terminal_spec

abbrev pub ends_of : Bounds → Ends
ends_of b = pair_of (small b.first) here (small b.last) here

ends_same : (b : Bounds) → Small b → bounds_of (ends_of b) ≡ b
ends_same b h = rw (bound-same b.first h.first, bound-same b.last h.last) refl

abbrev end_words : Bounds → List Word
end_words b = W.constant (small b.first) here ∷ sign colon here ∷ W.constant (small b.last) here ∷ []

end-right : (b : Bounds) → Small b → WordsRight (end_words b)
end-right b h = (small-right b.first h.first, (tt, (small-right b.last h.last, tt)))

-- ---- Dimensions.

pub record Dimensioned (f : Facility) : Type 0 where
  pub form : Extent
  pub dimensions : X.dimensions_of form ≡ f.dimensions
  pub words-so : X.word_bounds form ≡ f.words
  pub bits-so : X.bit_bounds form ≡ f.bits
  pub words : List Word
  pub right : WordsRight words
  pub derived : (h : ℕ) → 1 ≤ h → Is N.dimensions h words (extent form)

no-bounds : (b : Bounds) → no_bounds b ≡ true → bounds 0 0 ≡ b
no-bounds b e =
    let x : b.first ≡ 0 = eqb-true b.first 0 (left-of _ _ e) in
    let y : b.last ≡ 0 = eqb-true b.last 0 (right_of (eqb b.first 0) _ e) in
    rw (x, y) refl

opened : {x : Notion} {ws : List Word} {t : N.Tree} (h : ℕ) → 1 ≤ h → ((g : ℕ) → Is x (suc g) ws t) → Is x h ws t
opened zero l k = absurd (omega arith)
opened (suc h) l k = k h

pub dimensioned : (f : Facility) → facility_right f ≡ true → Small f.words → Small f.bits → Dimensioned f
unfolding facility_right
dimensioned f e sw sb = go f.dimensions refl (leb-true _ _ (left-of _ _ e)) (right_of (leb f.dimensions (most_dimensions f.kind)) _ e)
  where
    most : (k : Kind) → most_dimensions k ≤ 2
    most T.register = omega arith
    most T.sequencing = omega arith
    most T.memory = omega arith
    most T.plain = omega arith
    most T.input = omega arith
    most T.computed = omega arith

    go : (n : ℕ) → f.dimensions ≡ n → n ≤ most_dimensions f.kind → both (cond (leb 2 n) true (no_bounds f.words)) (cond (leb 1 n) true (no_bounds f.bits)) ≡ true → Dimensioned f
    go zero q l r = record {
      form = T.single;
      dimensions = sym q;
      words-so = no-bounds f.words (left-of _ _ r);
      bits-so = no-bounds f.bits (right_of (no_bounds f.words) _ r);
      words = [];
      right = tt;
      derived = λ h i. G.no-dimension;
    }
    go (suc zero) q l r = record {
      form = T.row (ends_of f.bits);
      dimensions = sym q;
      words-so = no-bounds f.words (left-of _ _ r);
      bits-so = ends_same f.bits sb;
      words = sign open_bracket here ∷ (end_words f.bits ++ sign close_bracket here ∷ []);
      right = (tt, words-both (end_words f.bits) (sign close_bracket here ∷ []) (end-right f.bits sb) (tt, tt));
      derived = λ h i. opened h i (λ g. G.one-dimension here G.range-both);
    }
    go (suc (suc zero)) q l r = record {
      form = T.table (ends_of f.words) (ends_of f.bits);
      dimensions = sym q;
      words-so = ends_same f.words sw;
      bits-so = ends_same f.bits sb;
      words = sign open_bracket here ∷ (end_words f.words ++ sign comma here ∷ (end_words f.bits ++ sign close_bracket here ∷ []));
      right = (tt, words-both (end_words f.words) (sign comma here ∷ (end_words f.bits ++ sign close_bracket here ∷ [])) (end-right f.words sw) (tt, words-both (end_words f.bits) (sign close_bracket here ∷ []) (end-right f.bits sb) (tt, tt)));
      derived = λ h i. opened h i (λ g. G.two-dimensions here here G.range-both G.range-both);
    }
    go (suc (suc (suc n))) q l r = absurd (let m = most f.kind in omega (arith, l, m))

-- A terminal with a function has at most one dimension.
at_most_one : (f : Facility) (D : Dimensioned f) → f.dimensions ≤ 1 → AtMostOne D.form
at_most_one f D l = go D.form D.dimensions
  where
    go : (x : Extent) → X.dimensions_of x ≡ f.dimensions → AtMostOne x
    go T.single e = tt
    go (T.row y) e = tt
    go (T.table y z) e = absurd (omega (arith, e, l))

-- ---- A declaration.

module _ (d : Description) (sc : Scope) where
  -- Its expression's records, if it has one, stand from s to m.
  pub record Declares (f : Facility) (s m : ℕ) : Type 0 where
    pub declared : Declaration
    pub same : X.facility_declared s declared ≡ f
    pub stands : Stand d s (function_nodes sc s declared.function)
    pub size : s + function_size declared.function ≡ m
    pub counted : nodes (function_nodes sc s declared.function) ≡ counted_function declared.function
    pub words : List Word
    pub right : WordsRight words
    pub depth : ℕ
    pub derived : (h : ℕ) → depth ≤ h → Is (spec_of (rank_of f.kind)) h words (facility declared)

  same-facility : (s : ℕ) (f : Facility) (D : Dimensioned f) (k : Kind) (u : Function) → f.kind ≡ k → X.function_number s u ≡ f.expression → X.facility_declared s (N.as_declared k f.name here D.form u) ≡ f
  same-facility s f D k u e n = rw (← e, D.dimensions, D.words-so, D.bits-so, n) refl

  -- Without an expression.
  pub plain-declares : (f : Facility) (s m : ℕ) (D : Dimensioned f) (k : Kind) → f.kind ≡ k → f.expression ≡ 0 → s ≡ m
      → (ws : List Word) → WordsRight ws → ((h : ℕ) → 1 ≤ h → Is (spec_of (rank_of k)) h ws (facility (N.as_declared k f.name here D.form T.unspecified))) → Declares f s m
  unfolding total
  plain-declares f s m D k e z i ws w x = record {
    declared = N.as_declared k f.name here D.form T.unspecified;
    same = same-facility s f D k T.unspecified e (sym z);
    stands = tt;
    size = omega (arith, i);
    counted = refl;
    words = ws;
    right = w;
    depth = 1;
    derived = λ h l. subst (λ (c : Kind). Is (spec_of (rank_of c)) h ws (facility (N.as_declared k f.name here D.form T.unspecified))) (sym e) (x h l);
  }

  pub input-declares : (f : Facility) (s m : ℕ) (D : Dimensioned f) → f.kind ≡ T.input → f.dimensions ≤ 1 → f.expression ≡ 0 → s ≡ m → name_right f.name ≡ true → Declares f s m
  unfolding total
  input-declares f s m D e one z i r = record {
    declared = N.as_declared T.input f.name here D.form T.from_input;
    same = same-facility s f D T.input T.from_input e (sym z);
    stands = tt;
    size = omega (arith, i);
    counted = refl;
    words = W.name f.name here ∷ (D.words ++ sign equal_sign here ∷ sign input_word here ∷ sign open_paren here ∷ W.constant (small 0) here ∷ sign comma here ∷ W.name f.name here ∷ sign close_paren here ∷ []);
    right = (r, words-both D.words _ D.right (tt, (tt, (tt, (small-right 0 (omega arith), (tt, (r, (tt, tt))))))));
    depth = 1;
    derived = λ h l. rw e (opened h l (λ g. G.an-input here here here here here here here (small 0) (at_most_one f D one) (D.derived (suc g) (omega arith))));
  }

  pub computed-declares : (f : Facility) (s c : ℕ) (D : Dimensioned f) (known : ℕ) (knows : Knows d sc known) (terms : ℕ → Judged) (E : Rebuilt d sc known knows terms c s 0) → f.kind ≡ T.computed → f.dimensions ≤ 1 → f.expression ≡ c
      → name_right f.name ≡ true → Declares f s (c + 1)
  computed-declares f s c D known knows terms E e one z r = record {
    declared = N.as_declared T.computed f.name here D.form (T.given here E.tree);
    same = same-facility s f D T.computed (T.given here E.tree) e (let i = E.placed.size in let j : s + expression_size E.tree - 1 ≡ c = omega (arith, i) in j ∙ sym z);
    stands = E.placed.stands;
    size = E.placed.size;
    counted = E.placed.counted;
    words = W.name f.name here ∷ (D.words ++ sign equal_sign here ∷ E.words);
    right = (r, words-both D.words _ D.right (tt, E.right));
    depth = max 1 E.depth;
    derived = λ h l. rw e (G.a-computed (at_most_one f D one) (D.derived h (omega (arith, l))) (of-term (E.derived h (omega (arith, l)))));
  }
