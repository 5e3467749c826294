-- The machine with ceilings and the one without: they take the same words and stop at the same 3; where the first says 10, it says what passed its ceiling.
use Rattle.std.specs.Prelude.{Bool, ◌≡◌, ℕ, ◌-◌, drop}
use Rattle.std.proofs.Math.Bool.{true, false, cond}
use mathlib.Core.List.{List, [], ◌∷◌, ◌++◌}
use Rattle.std.proofs.Common.{◌∙◌, sym}
use Rattle.std.proofs.Math.Path.{refl}
use Rattle.std.proofs.Math.Dec.{eqb}
use Rattle.language.specs.Building.{name_of}
use Rattle.language.specs.Kinds.{a_name}
use Rattle.language.specs.Machine.{Alternative, Ask, Bearing, Counts, Fed, Parsed, Reading, Rule, Sym, Without, again, ask, bears, choose, count_kept, ease, feed, finish, keep, kept_at, kept_if, leave, leave_at_end, make, may, must, nested, operand, parsed, reading, refused, tallied, took, word, wrong}
use Rattle.language.specs.declared.refusals.Refusal.TheVariants.{CeilingPassed, NoContinuation}
use Rattle.language.specs.Scan.{same}
use Rattle.language.specs.BuildSteps.{Step, Steps}
use Rattle.language.specs.Words.{Position, Word, fault, kind_of, position, word_at}
use Rattle.about_grammar.specs.Following.{Follows, among}
use Rattle.about_grammar.specs.Stacks.{choose-none, false-true, kinds_of}
use Rattle.language.specs.Tests.{both}

-- Without ceilings.
abbrev pub all : Counts → Bool
all c = true

-- Where the next word stands, or the end.
abbrev pub next_place : List Word → ℕ → Position
next_place [] end = position end
next_place (w ∷ ws) end = word_at w

module _ {B : Type 0} (S : Steps B) (fits : Counts → Bool) (rules : Ask → Rule B) where
  -- What follows begins no way of a notion.
  abbrev pub NoneBegins : Ask → List Word → Type 0
  NoneBegins n vs = Follows (kinds_of (rules n).ways) vs

  -- With this stack and reading, before these words and the end, the word at p passes a ceiling.
  pub data Passes (end : ℕ) : List (Sym B) → Reading B → List Word → Position → Type 0 where
    -- the next word had to come, and nests too deep
    by_word : {K : List (Sym B)} {r : Reading B} {k : ℕ} {g : Bearing} (w : Word) (vs : List Word) → eqb (kind_of w) k ≡ true → fits (nested (bears g r.counts.nesting) r.counts) ≡ false → Passes end (word k g ∷ K) r (w ∷ vs) (word_at w)
    -- the next word begins a notion, and with it the counts do not fit
    by_way : {K : List (Sym B)} {r : Reading B} {n : Ask} (w : Word) (vs : List Word) (M : List (Sym B)) (s : Reading B) → among (kind_of w) (kinds_of (rules n).ways) ≡ true → feed S all rules (ask n ∷ K) w r ≡ took M s → fits s.counts ≡ false → Passes end (ask n ∷ K) r (w ∷ vs) (word_at w)
    -- the word kept last counts, since what follows begins nothing that waited for it, and with it the counts do not fit
    by-kept : {K : List (Sym B)} {r : Reading B} {n : Ask} {f : Step B} (vs : List Word) → (rules n).without ≡ operand f → NoneBegins n vs → fits (count_kept S fits r) ≡ false → Passes end (ask n ∷ K) r vs (kept_at S fits r)
    -- so after a step that takes no word
    by-make : {K : List (Sym B)} {r : Reading B} {f : Step B} {vs : List Word} {p : Position} → Passes end K (reading (f (next_place vs end) r.built) r.counts) vs p → Passes end (make f ∷ K) r vs p
    by-ease : {K : List (Sym B)} {r : Reading B} {vs : List Word} {p : Position} → Passes end K (reading r.built (nested (r.counts.nesting - 1) r.counts)) vs p → Passes end (ease ∷ K) r vs p
    by-leaving : {K : List (Sym B)} {r : Reading B} {n : Ask} {f : Step B} {vs : List Word} {p : Position} → (rules n).without ≡ may f → NoneBegins n vs → Passes end K (reading (f (next_place vs end) r.built) r.counts) vs p → Passes end (ask n ∷ K) r vs p
    by-counting : {K : List (Sym B)} {r : Reading B} {n : Ask} {f : Step B} {vs : List Word} {p : Position} → (rules n).without ≡ operand f → NoneBegins n vs → fits (count_kept S fits r) ≡ true → Passes end K (reading (f (next_place vs end) r.built) (count_kept S fits r)) vs p → Passes end (ask n ∷ K) r vs p

  -- ---- A word that begins a way is taken, but for ceilings.

  record Chosen (ways : List (Alternative B)) (w : Word) (K : List (Sym B)) (r : Reading B) : Type 0 where
    stack : List (Sym B)
    reads : Reading B
    free : (o : Fed B) → choose S all ways w K r o ≡ took stack reads
    bound : (o : Fed B) → choose S fits ways w K r o ≡ cond (fits reads.counts) (took stack reads) (wrong (fault (word_at w) CeilingPassed))

  chosen : (ways : List (Alternative B)) (w : Word) → among (kind_of w) (kinds_of ways) ≡ true → (K : List (Sym B)) (r : Reading B) → Chosen ways w K r
  unfolding choose among
  chosen [] w e K r = false-true e
  chosen (a ∷ ways) w e K r = go (eqb (kind_of w) a.on) refl e (λ h. chosen ways w h K r)
    where
      go : (z : Bool) → eqb (kind_of w) a.on ≡ z → cond z true (among (kind_of w) (kinds_of ways)) ≡ true → (among (kind_of w) (kinds_of ways) ≡ true → Chosen ways w K r) → Chosen (a ∷ ways) w K r
      go true q h rec = record {
        stack = a.to ++ cond a.instead (drop 1 K) K;
        reads = reading (kept_if S fits a.kept w (a.first (word_at w) r.built)) (nested (bears a.bearing r.counts.nesting) (tallied a.tallies r.counts));
        free = λ o. rw q refl;
        bound = λ o. rw q refl;
      }
      go false q h rec = let c = rec h in record { stack = c.stack; reads = c.reads; free = λ o. rw q (c.free o); bound = λ o. rw q (c.bound o) }

  took-reads : {L M : List (Sym B)} {q s : Reading B} → took L q ≡ took M s → q ≡ s
  took-reads e = cc

  -- ---- Where a ceiling is passed the machine says 10.

  pub passes-feed : (end : ℕ) {K : List (Sym B)} {r : Reading B} {p : Position} (w : Word) (vs : List Word) → Passes end K r (w ∷ vs) p → feed S fits rules K w r ≡ wrong (fault p CeilingPassed)
  unfolding feed
  passes-feed end _ _ (by_word w vs e f) = rw (e, f) refl
  passes-feed end _ _ (by_way {K} {r} {n} w vs M s a e f) =
      let c = chosen (rules n).ways w a K r in
      let q : c.reads ≡ s = took-reads (sym (c.free _) ∙ e) in
      c.bound _ ∙ rw (q, f) refl
  passes-feed end w vs (by-kept {K} {r} {n} _ e a f) = choose-none S fits (rules n).ways w a K r _ ∙ rw (e, f) refl
  passes-feed end w vs (by-make x) = passes-feed end w vs x
  passes-feed end w vs (by-ease x) = passes-feed end w vs x
  passes-feed end w vs (by-leaving {K} {r} {n} e a x) = choose-none S fits (rules n).ways w a K r _ ∙ rw e (passes-feed end w vs x)
  passes-feed end w vs (by-counting {K} {r} {n} e a f x) = choose-none S fits (rules n).ways w a K r _ ∙ rw (e, f) (passes-feed end w vs x)

  pub passes-finish : (end : ℕ) {K : List (Sym B)} {r : Reading B} {p : Position} → Passes end K r [] p → finish S fits rules K end r ≡ refused (fault p CeilingPassed)
  unfolding finish
  passes-finish end (by-kept _ e a f) = rw (e, f) refl
  passes-finish end (by-make x) = passes-finish end x
  passes-finish end (by-ease x) = passes-finish end x
  passes-finish end (by-leaving e a x) = rw e (passes-finish end x)
  passes-finish end (by-counting e a f x) = rw (e, f) (passes-finish end x)

  -- ---- And elsewhere it does not. `Good` is what is known of counts that fit, and stays so where a prefix operator's operand ends.

  module _ (Good : Counts → Type 0) (good : (c : Counts) → fits c ≡ true → Good c) (eased : (c : Counts) → Good c → Good (nested (c.nesting - 1) c)) where
    -- What the two machines make of a word: both take it; it can stand in neither; or a ceiling is passed.
    pub data Alike (K : List (Sym B)) (r : Reading B) (w : Word) (vs : List Word) (end : ℕ) : Fed B → Fed B → Type 0 where
      taken-both : (L : List (Sym B)) (q : Reading B) → Good q.counts → Alike K r w vs end (took L q) (took L q)
      stuck-both : Alike K r w vs end (wrong (fault (word_at w) NoContinuation)) (wrong (fault (word_at w) NoContinuation))
      past : (p : Position) (f : Fed B) → Passes end K r (w ∷ vs) p → Alike K r w vs end (wrong (fault p CeilingPassed)) f

    module _ (w : Word) (vs : List Word) (end : ℕ) where
      lifted : {K L : List (Sym B)} {r q : Reading B} {x y : Fed B} → ((p : Position) → Passes end K r (w ∷ vs) p → Passes end L q (w ∷ vs) p) → Alike K r w vs end x y → Alike L q w vs end x y
      lifted f (taken-both M t g) = taken-both M t g
      lifted f stuck-both = stuck-both
      lifted f (past p z x) = past p z (f p x)

      -- A word that can stand, with its counts.
      stands : {K : List (Sym B)} {r : Reading B} (L : List (Sym B)) (q : Reading B) → (fits q.counts ≡ false → Passes end K r (w ∷ vs) (word_at w))
          → Alike K r w vs end (cond (fits q.counts) (took L q) (wrong (fault (word_at w) CeilingPassed))) (took L q)
      stands {K} {r} L q f = go (fits q.counts) refl
        where
          go : (z : Bool) → fits q.counts ≡ z → Alike K r w vs end (cond z (took L q) (wrong (fault (word_at w) CeilingPassed))) (took L q)
          go true e = taken-both L q (good q.counts e)
          go false e = past (word_at w) (took L q) (f e)

      tested : {K : List (Sym B)} {r : Reading B} {f g : Fed B} (z : Bool) → (z ≡ true → Alike K r w vs end f g) → Alike K r w vs end (cond z f (wrong (fault (word_at w) NoContinuation))) (cond z g (wrong (fault (word_at w) NoContinuation)))
      tested true a = a refl
      tested false a = stuck-both

      leave-alike : (n : Ask) (K : List (Sym B)) → NoneBegins n (w ∷ vs) → (o : Without B) → (rules n).without ≡ o → (r : Reading B) (f g : Reading B → Fed B) → ((q : Reading B) → Good q.counts → Alike K q w vs end (f q) (g q)) → Good r.counts → Alike (ask n ∷ K) r w vs end (leave S fits o w r f) (leave S all o w r g)
      leave-alike n K t must q r f g a i = stuck-both
      leave-alike n K t (may s) q r f g a i = lifted (λ p z. by-leaving q t z) (a (reading (s (word_at w) r.built) r.counts) i)
      leave-alike n K t (operand s) q r f g a i = go (fits (count_kept S fits r)) refl
        where
          go : (z : Bool) → fits (count_kept S fits r) ≡ z
              → Alike (ask n ∷ K) r w vs end (cond z (f (reading (s (word_at w) r.built) (count_kept S fits r))) (wrong (fault (kept_at S fits r) CeilingPassed))) (g (reading (s (word_at w) r.built) (count_kept S fits r)))
          go true e = lifted (λ p z. by-counting q t e z) (a (reading (s (word_at w) r.built) (count_kept S fits r)) (good (count_kept S fits r) e))
          go false e = past (kept_at S fits r) (g (reading (s (word_at w) r.built) (count_kept S fits r))) (by-kept (w ∷ vs) q t e)

      pub feed-alike : (K : List (Sym B)) (r : Reading B) → Good r.counts → Alike K r w vs end (feed S fits rules K w r) (feed S all rules K w r)
      unfolding feed
      feed-alike [] r i = stuck-both
      feed-alike (word k g ∷ K) r i = tested (eqb (kind_of w) k) (λ e. stands K (reading r.built (nested (bears g r.counts.nesting) r.counts)) (λ f. by_word w vs e f))
      feed-alike (keep k ∷ K) r i = tested (eqb (kind_of w) k) (λ e. taken-both K (reading (S.keep_word w r.built) r.counts) i)
      feed-alike (again ∷ K) r i = tested (both (eqb (kind_of w) a_name) (same (name_of w) (S.declared_name r.built))) (λ e. taken-both K r i)
      feed-alike (make f ∷ K) r i = lifted (λ p z. by-make z) (feed-alike K (reading (f (word_at w) r.built) r.counts) i)
      feed-alike (ease ∷ K) r i = lifted (λ p z. by-ease z) (feed-alike K (reading r.built (nested (r.counts.nesting - 1) r.counts)) (eased r.counts i))
      feed-alike (ask n ∷ K) r i = go (among (kind_of w) (kinds_of (rules n).ways)) refl (λ q j. feed-alike K q j)
        where
          go : (z : Bool) → among (kind_of w) (kinds_of (rules n).ways) ≡ z → ((q : Reading B) → Good q.counts → Alike K q w vs end (feed S fits rules K w q) (feed S all rules K w q))
              → Alike (ask n ∷ K) r w vs end (feed S fits rules (ask n ∷ K) w r) (feed S all rules (ask n ∷ K) w r)
          go true e rec =
              let c = chosen (rules n).ways w e K r in
              rw (c.bound _, c.free _) (stands c.stack c.reads (λ f. by_way w vs c.stack c.reads e (c.free _) f))
          go false e rec = rw (choose-none S fits (rules n).ways w e K r _, choose-none S all (rules n).ways w e K r _) (leave-alike n K e (rules n).without refl r (λ q. feed S fits rules K w q) (λ q. feed S all rules K w q) rec i)

    -- The same at the end of the words.
    pub data AlikeAtEnd (K : List (Sym B)) (r : Reading B) (end : ℕ) : Parsed B → Parsed B → Type 0 where
      parsed-both : (q : Reading B) → Good q.counts → AlikeAtEnd K r end (parsed q.built) (parsed q.built)
      refused-both : AlikeAtEnd K r end (refused (fault (position end) NoContinuation)) (refused (fault (position end) NoContinuation))
      past-at-end : (p : Position) (f : Parsed B) → Passes end K r [] p → AlikeAtEnd K r end (refused (fault p CeilingPassed)) f

    lifted-at-end : {K L : List (Sym B)} {r q : Reading B} {end : ℕ} {x y : Parsed B} → ((p : Position) → Passes end K r [] p → Passes end L q [] p) → AlikeAtEnd K r end x y → AlikeAtEnd L q end x y
    lifted-at-end f (parsed-both t g) = parsed-both t g
    lifted-at-end f refused-both = refused-both
    lifted-at-end f (past-at-end p z x) = past-at-end p z (f p x)

    leave-alike-at-end : (n : Ask) (K : List (Sym B)) (o : Without B) → (rules n).without ≡ o → (end : ℕ) (r : Reading B) (f g : Reading B → Parsed B) → ((q : Reading B) → Good q.counts → AlikeAtEnd K q end (f q) (g q)) → Good r.counts
        → AlikeAtEnd (ask n ∷ K) r end (leave_at_end S fits o end r f) (leave_at_end S all o end r g)
    leave-alike-at-end n K must q end r f g a i = refused-both
    leave-alike-at-end n K (may s) q end r f g a i = lifted-at-end (λ p z. by-leaving q tt z) (a (reading (s (position end) r.built) r.counts) i)
    leave-alike-at-end n K (operand s) q end r f g a i = go (fits (count_kept S fits r)) refl
      where
        go : (z : Bool) → fits (count_kept S fits r) ≡ z
            → AlikeAtEnd (ask n ∷ K) r end (cond z (f (reading (s (position end) r.built) (count_kept S fits r))) (refused (fault (kept_at S fits r) CeilingPassed))) (g (reading (s (position end) r.built) (count_kept S fits r)))
        go true e = lifted-at-end (λ p z. by-counting q tt e z) (a (reading (s (position end) r.built) (count_kept S fits r)) (good (count_kept S fits r) e))
        go false e = past-at-end (kept_at S fits r) (g (reading (s (position end) r.built) (count_kept S fits r))) (by-kept [] q tt e)

    pub finish-alike : (K : List (Sym B)) (end : ℕ) (r : Reading B) → Good r.counts → AlikeAtEnd K r end (finish S fits rules K end r) (finish S all rules K end r)
    unfolding finish
    finish-alike [] end r i = parsed-both r i
    finish-alike (word k b ∷ K) end r i = refused-both
    finish-alike (keep k ∷ K) end r i = refused-both
    finish-alike (again ∷ K) end r i = refused-both
    finish-alike (make f ∷ K) end r i = lifted-at-end (λ p z. by-make z) (finish-alike K end (reading (f (position end) r.built) r.counts) i)
    finish-alike (ease ∷ K) end r i = lifted-at-end (λ p z. by-ease z) (finish-alike K end (reading r.built (nested (r.counts.nesting - 1) r.counts)) (eased r.counts i))
    finish-alike (ask n ∷ K) end r i = leave-alike-at-end n K (rules n).without refl end r (λ q. finish S fits rules K end q) (λ q. finish S all rules K end q) (λ q j. finish-alike K end q j) i
