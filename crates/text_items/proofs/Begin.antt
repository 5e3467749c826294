-- The item at the start of a text: a name, a comment, and which it is by its class.
use mathlib.Core.Bool.{cond}
use mathlib.Core.List.{List, [], ◌∷◌, map}
use mathlib.Core.Path.{◌≡◌, ◌∙◌, ap, sym, refl}
use Prim.Native.Nat.{ℕ, ◌+◌, ◌<◌, ◌≤◌}
use native.Mathlib.Omega.{arith}
use lib.Dec.{eqb}
use lib.ListN.{length, get_or, drop, take, length-map}
use lib.Seq.{length-take-le}
use borrow.Author.Tests.{eq-eqb, ne_eqb, le-leb, lt-leb}
use Rattle.language.specs.Characters.{class_of, folded}
use Rattle.language.specs.declared.refusals.Refusal.TheVariants.{BadCharacter, BadName}
use Rattle.language.specs.Scan.{Found, comment_at, constant_at, found, gap, in_comment, is_name_part, item_at, name_at, named, reserved_kind, sign, span, symbol_at, wrong}
use Rattle.language.specs.Ceilings.{longest_name}
use Rattle.text_characters.proofs.Counting.{span-le}
use Rattle.text_items.specs.Meaning.{item_start}

pub item-none : (s : List ℕ) → length s ≡ 0 → found gap 0 ≡ item_start s
unfolding item_start
item-none [] h = refl
item-none (b ∷ t) h = absurd (omega arith)

-- The item by its class c.
abbrev by_class : ℕ → List ℕ → Found
by_class c s =
    cond (eqb c 3) (name_at s)
    (cond (eqb c 4) (constant_at s)
    (cond (eqb c 1) (found gap 1)
    (cond (eqb c 2) (comment_at (drop 1 s))
    (cond (eqb c 5) (symbol_at s) (found (wrong BadCharacter) 1)))))

pub item-class : (s : List ℕ) (c : ℕ) → 0 < length s → c ≡ class_of (get_or s 0 0) → by_class c s ≡ item_start s
unfolding item_start item_at
item-class [] c h e = absurd (omega arith)
item-class (b ∷ t) c h e = ap (λ (c : ℕ). by_class c (b ∷ t)) e

-- ---- Names.

module _ (s : List ℕ) (n k : ℕ) (en : n ≡ span is_name_part s) (ek : k ≡ reserved_kind (map folded (take n s))) where
  letters : length (map folded (take n s)) ≡ n
  letters = length-map (take n s) folded ∙ length-take-le n s (omega (arith, span-le is_name_part s))

  pub name-sign : (k ≡ 0 → ⊥) → found (sign k) n ≡ name_at s
  unfolding name_at
  name-sign h = sym (simp (← en, ← ek, ne_eqb _ _ h))

  pub name-short : k ≡ 0 → n ≤ 132 → found (named (map folded (take n s))) n ≡ name_at s
  unfolding name_at longest_name
  name-short h l = sym (simp (← en, ← ek, h, letters, le-leb _ _ l))

  pub name-long : k ≡ 0 → 132 < n → found (wrong BadName) n ≡ name_at s
  unfolding name_at longest_name
  name-long h l = sym (simp (← en, ← ek, h, letters, lt-leb _ _ l))

-- ---- Comments.

module _ (t : List ℕ) (n : ℕ) (en : n ≡ span in_comment t) where
  pub comment-closed : get_or t n 0 ≡ 34 → found gap (n + 2) ≡ comment_at t
  unfolding comment_at
  comment-closed h = sym (simp (← en, eq-eqb _ _ h))

  pub comment-open : (get_or t n 0 ≡ 34 → ⊥) → found gap (n + 1) ≡ comment_at t
  unfolding comment_at
  comment-open h = sym (simp (← en, ne_eqb _ _ h))
