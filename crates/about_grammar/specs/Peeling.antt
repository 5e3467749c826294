-- Accepted words, one symbol after the other: a word of a kind, one that is kept, a notion that begins as another does.
use Rattle.std.specs.Prelude.{Bool, cond, ◌⊎◌, ◌≡◌}
use Rattle.std.proofs.Math.Bool.{true, false}
use mathlib.Core.List.{List, [], ◌∷◌, ◌++◌, map}
use Rattle.std.proofs.Common.{◌∙◌, ap, arith}
use Rattle.std.proofs.Math.Path.{sym, refl}
use Prim.Native.Nat.{ℕ, zero, suc, ◌≤◌}
use Rattle.std.proofs.Math.Dec.{eqb}
use Rattle.std.proofs.Math.ListN.{length}
use Rattle.language.specs.Alternatives.{always, followed}
use Rattle.language.specs.Building.{Built, keep_word, name_of, word_no}
use Rattle.language.specs.Declaring.{tree_steps}
use Rattle.language.specs.Kinds.{a_constant, a_name}
use Rattle.language.specs.Machine.{Alternative, Ask, Bearing, Counts, after, again, ask, bears, choose, feed, finish, keep, nested, parsed, reading, run, stuck, taken, took, word}
use Rattle.language.specs.Scan.{same}
use Rattle.language.specs.SectionWays.{rule_of}
use Rattle.language.specs.Tree.{Name}
use Rattle.language.specs.Words as W
use Rattle.language.specs.Words.{Constant, Position, Word, kind_of, sign, word_at}
use Rattle.about_grammar.specs.Accepting.{Accepts, At, AtConstant, AtName, AtSign, Borne, Judge, Picks, at_constant, at_name, at_sign_lem, borne, never, picks, spelled}
use Rattle.about_grammar.specs.Courses.{Stack}
use Rattle.about_grammar.specs.Following.{among_first}
use Rattle.about_grammar.specs.Stacks.{asks, asks-end, choose-append, choose-followed, on, plain_ways}

-- ---- What stands there, for what is to be shown of it.

pub with-sign : {k : ℕ} {P : Position → List Word → Type 0} {ws : List Word} (R : List Word → Type 0) → AtSign k P ws → ((p : Position) (vs : List Word) → P p vs → R (sign k p ∷ vs)) → R ws
with-sign R (at_sign_lem p vs x) f = f p vs x

pub with-name : {P : Name → Position → List Word → Type 0} {ws : List Word} (R : List Word → Type 0) → AtName P ws → ((n : Name) (p : Position) (vs : List Word) → P n p vs → R (W.name n p ∷ vs)) → R ws
with-name R (at_name n p vs x) f = f n p vs x

pub with-constant : {P : Constant → Position → List Word → Type 0} {ws : List Word} (R : List Word → Type 0) → AtConstant P ws → ((x : Constant) (p : Position) (vs : List Word) → P x p vs → R (W.constant x p ∷ vs)) → R ws
with-constant R (at_constant n p vs x) f = f n p vs x

module _ {J : Judge} {K : Stack} {n h : ℕ} {b : Built} {c : Counts} where
  pub worded : (k : ℕ) (g : Bearing) (ws : List Word) → Accepts J (word k g ∷ K) n h b c ws
      → At k (λ w vs. (m : ℕ) × (n ≡ suc m) × Borne g h (λ i. Accepts J K m i b (nested (bears g c.nesting) c) vs)) ws
  unfolding run feed finish
  worded k g [] a = never a.runs
  worded k g (w ∷ vs) a = go n a.short (eqb (kind_of w) k) refl a.runs
    where
      go : (n : ℕ) → length (w ∷ vs) ≤ n → (z : Bool) → eqb (kind_of w) k ≡ z
          → after tree_steps J.fits (rule_of tree_steps) (cond z (taken tree_steps J.fits (word_at w) K b (nested (bears g c.nesting) c)) (stuck tree_steps J.fits w)) (λ L q. run tree_steps J.fits (rule_of tree_steps) L vs J.end q) ≡ parsed J.result
          → At k (λ w vs. (m : ℕ) × (n ≡ suc m) × Borne g h (λ i. Accepts J K m i b (nested (bears g c.nesting) c) vs)) (w ∷ vs)
      go zero s z e x = absurd (omega arith)
      go (suc m) s true e x =
          spelled k (λ w vs. (l : ℕ) × (suc m ≡ suc l) × Borne g h (λ i. Accepts J K l i b (nested (bears g c.nesting) c) vs)) w vs a.proper.0 e
          (m, refl, borne J g K m h b c c (word_at w) vs a.room (omega arith) a.proper.1 x)
      go (suc m) s false e x = never x

  pub kept_word : (k : ℕ) (ws : List Word) → Accepts J (keep k ∷ K) n h b c ws → At k (λ w vs. (m : ℕ) × (n ≡ suc m) × Accepts J K m h (keep_word w b) c vs) ws
  unfolding run feed finish
  kept_word k [] a = never a.runs
  kept_word k (w ∷ vs) a = go n a.short (eqb (kind_of w) k) refl a.runs
    where
      go : (n : ℕ) → length (w ∷ vs) ≤ n → (z : Bool) → eqb (kind_of w) k ≡ z
          → after tree_steps J.fits (rule_of tree_steps) (cond z (took K (reading (keep_word w b) c)) (stuck tree_steps J.fits w)) (λ L q. run tree_steps J.fits (rule_of tree_steps) L vs J.end q) ≡ parsed J.result
          → At k (λ w vs. (m : ℕ) × (n ≡ suc m) × Accepts J K m h (keep_word w b) c vs) (w ∷ vs)
      go zero s z e x = absurd (omega arith)
      go (suc m) s true e x =
          spelled k (λ w vs. (l : ℕ) × (suc m ≡ suc l) × Accepts J K l h (keep_word w b) c vs) w vs a.proper.0 e (m, refl, record { runs = x; good = a.good; room = J.level-room c.nesting h (length vs) a.room; short = omega arith; proper = a.proper.1 })
      go (suc m) s false e x = never x

  pub again-word : (ws : List Word) → Accepts J (again ∷ K) n h b c ws → AtName (λ x p vs. (m : ℕ) × (n ≡ suc m) × (same x (name_of (word_no 1 b)) ≡ true) × Accepts J K m h b c vs) ws
  unfolding run feed finish
  again-word [] a = never a.runs
  again-word (W.name x p ∷ vs) a = go n a.short (same x (name_of (word_no 1 b))) refl a.runs
    where
      go : (n : ℕ) → length (W.name x p ∷ vs) ≤ n → (z : Bool) → same x (name_of (word_no 1 b)) ≡ z
          → after tree_steps J.fits (rule_of tree_steps) (cond z (took K (reading b c)) (stuck tree_steps J.fits (W.name x p))) (λ L q. run tree_steps J.fits (rule_of tree_steps) L vs J.end q) ≡ parsed J.result
          → AtName (λ x p vs. (m : ℕ) × (n ≡ suc m) × (same x (name_of (word_no 1 b)) ≡ true) × Accepts J K m h b c vs) (W.name x p ∷ vs)
      go zero s z e r = absurd (omega arith)
      go (suc m) s true e r = at_name x p vs (m, refl, e, record { runs = r; good = a.good; room = J.level-room c.nesting h (length vs) a.room; short = omega arith; proper = a.proper.1 })
      go (suc m) s false e r = never r
  again-word (W.constant x p ∷ vs) a = never a.runs
  again-word (W.sign k p ∷ vs) a = never (rw (among_first k a_name (a_constant ∷ []) a.proper.0) at a.runs)

  -- The early ways of a notion, or it begins as another does with more to follow.
  pub early-or-later : (a d : Ask) (M : Stack) (early ways : List (Alternative Built)) → plain_ways ways ≡ true → rule_of tree_steps a ≡ always (early ++ map (followed M) ways) → rule_of tree_steps d ≡ always ways
      → (ws : List Word) → Accepts J (ask a ∷ K) n h b c ws → Picks J early K n h b c ws ⊎ Accepts J (ask d ∷ (M ++ K)) n h b c ws
  unfolding run on
  early-or-later a d M early ways p e f [] x = never (sym (asks-end tree_steps J.fits (rule_of tree_steps) a (always (early ++ map (followed M) ways)) e K J.end (reading b c)) ∙ x.runs)
  early-or-later a d M early ways p e f (w ∷ vs) x =
      let o = stuck tree_steps J.fits w in
      let late = choose tree_steps J.fits (map (followed M) ways) w K (reading b c) o in
      picks J early K n h b c w vs late x.room x.short x.proper.0 x.proper.1
      (λ y. record {
        runs = sym (ap (on tree_steps J.fits (rule_of tree_steps) vs J.end) (choose-followed tree_steps J.fits M ways p w K (reading b c) o ∙ sym (asks tree_steps J.fits (rule_of tree_steps) d (always ways) f (M ++ K) w (reading b c)))) ∙ y;
        good = x.good;
        room = x.room;
        short = x.short;
        proper = x.proper;
      })
      (sym (ap (on tree_steps J.fits (rule_of tree_steps) vs J.end) (asks tree_steps J.fits (rule_of tree_steps) a (always (early ++ map (followed M) ways)) e K w (reading b c) ∙ choose-append tree_steps J.fits early (map (followed M) ways) w K (reading b c) o)) ∙ x.runs)

-- The same words from a stack that comes to the same.
pub restacked : {J : Judge} {K L : Stack} {n h : ℕ} {b : Built} {c : Counts} {ws : List Word}
    → run tree_steps J.fits (rule_of tree_steps) K ws J.end (reading b c) ≡ run tree_steps J.fits (rule_of tree_steps) L ws J.end (reading b c) → Accepts J K n h b c ws → Accepts J L n h b c ws
restacked e x = record { runs = sym e ∙ x.runs; good = x.good; room = x.room; short = x.short; proper = x.proper }
