-- A refusal of the grammar stands at a word, or at the end: what holds of all words and of the end holds of where it stands. Assumes nothing.
use Rattle.std.specs.Prelude.{Bool, ◌≡◌, ℕ, eqb, drop}
use Rattle.std.proofs.Math.Bool.{true, false, cond}
use mathlib.Core.List.{List, [], ◌∷◌, ◌++◌}
use Rattle.std.proofs.Math.Path.{refl}
use Rattle.std.proofs.Common.{subst, sym, ◌∙◌}
use Rattle.language.specs.Building.{Built, name_of, nothing_built, word_no}
use Rattle.language.specs.Declaring.{tree_steps}
use Rattle.language.specs.Kinds.{a_name}
use Rattle.language.specs.Machine
use Rattle.language.specs.Machine.{Alternative, Counts, Fed, Parsed, Reading, Without, after, again, ask, bears, choose, count_kept, ease, feed, finish, keep, kept_if, leave, leave_at_end, make, may, must, nested, no_counts, operand, parsed, reading, refused, run, taken, tallied, took, within_ceilings, word, wrong}
use Rattle.language.specs.declared.refusals.Refusal.TheVariants.{CeilingPassed, NoContinuation}
use Rattle.language.specs.Scan.{same}
use Rattle.language.specs.SectionWays.{parse, parse_with, rule_of}
use Rattle.language.specs.Words.{Fault, Position, Word, fault, kind_of, position, word_at}
use Rattle.about_grammar.specs.Calm.{all_right_lem, all_right, calm, calm-append, calm-below, calm-top, counts, not_so, on_top, top_waits, waits}
use Rattle.about_grammar.specs.Courses.{Stack}
use Rattle.about_grammar.specs.FineWays.{both_first, both-second}
use Rattle.language.specs.Tests.{both}

module _ (Here : Position → Type 0) where
  abbrev pub WordsHere : List Word → Type 0
  WordsHere [] = Unit {0}
  WordsHere (w ∷ ws) = Here (word_at w) × WordsHere ws

  abbrev last_at : Built → Position
  last_at b = word_at (word_no 0 b)

  -- A stack and what was read.
  record Ready (K : Stack) (r : Reading Built) : Type 0 where
    below : calm (drop 1 K) ≡ true
    kept : top_waits K ≡ true → Here (last_at r.built)

  ready-calm : (K : Stack) (r : Reading Built) → calm K ≡ true → Ready K r
  ready-calm K r e = record { below = calm-below K e; kept = λ f. absurd (calm-top K e f) }

  data FedWell : Fed Built → Type 0 where
    took-well : (K : Stack) (r : Reading Built) → Ready K r → FedWell (took K r)
    wrong-here : (f : Fault) → Here f.at → FedWell (wrong f)

  data EndsWell : Parsed Built → Type 0 where
    parsed-well : (b : Built) → EndsWell (parsed b)
    refused-here : (f : Fault) → Here f.at → EndsWell (refused f)

  tested : {x y : Fed Built} (z : Bool) → FedWell x → FedWell y → FedWell (cond z x y)
  tested true a b = a
  tested false a b = b

  tested-end : {x y : Parsed Built} (z : Bool) → EndsWell x → EndsWell y → EndsWell (cond z x y)
  tested-end true a b = a
  tested-end false a b = b

  -- ---- A word.

  module _ (w : Word) (h : Here (word_at w)) where
    taken-well : (K : Stack) (b : Built) (c : Counts) → Ready K (reading b c) → FedWell (taken tree_steps within_ceilings (word_at w) K b c)
    taken-well K b c x = tested (within_ceilings c) (took-well K (reading b c) x) (wrong-here (fault (word_at w) CeilingPassed) h)

    kept_here : (k : Bool) (b : Built) → k ≡ true → Here (last_at (kept_if tree_steps within_ceilings k w b))
    unfolding word_no
    kept_here true b e = h
    kept_here false b e = not_so e

    way-ready : (P K : Stack) (k : Bool) (b : Built) (c : Counts) → both (calm (drop 1 P)) (cond (top_waits P) k true) ≡ true → calm K ≡ true
        → Ready (P ++ K) (reading (kept_if tree_steps within_ceilings k w b) c)
    way-ready [] K k b c e f = ready-calm K (reading (kept_if tree_steps within_ceilings k w b) c) f
    way-ready (s ∷ P) K k b c e f = record {
      below = calm-append P K (both_first (calm P) (cond (on_top s) k true) e) f;
      kept = λ g. kept_here k b (sym (rw g) ∙ both-second (calm P) (cond (on_top s) k true) e);
    }

    instead-calm : (z : Bool) (K : Stack) → calm K ≡ true → calm (cond z (drop 1 K) K) ≡ true
    instead-calm true K e = calm-below K e
    instead-calm false K e = e

    choose-well : (ways : List (Alternative Built)) → all_right ways ≡ true → (K : Stack) → calm K ≡ true → (r : Reading Built) (o : Fed Built) → FedWell o → FedWell (choose tree_steps within_ceilings ways w K r o)
    unfolding choose all_right
    choose-well [] e K f r o y = y
    choose-well (a ∷ ways) e K f r o y =
        tested (eqb (kind_of w) a.on)
        (taken-well (a.to ++ cond a.instead (drop 1 K) K) _ (nested (bears a.bearing r.counts.nesting) (tallied a.tallies r.counts))
        (way-ready a.to (cond a.instead (drop 1 K) K) a.kept (a.first (word_at w) r.built) _ (both_first (both (calm (drop 1 a.to)) (cond (top_waits a.to) a.kept true)) (all_right ways) e) (instead-calm a.instead K f)))
        (choose-well ways (both-second (both (calm (drop 1 a.to)) (cond (top_waits a.to) a.kept true)) (all_right ways) e) K f r o y)

    leave-well : (o : Without Built) (r : Reading Built) (f : Reading Built → Fed Built) → ((q : Reading Built) → FedWell (f q)) → (counts o ≡ true → Here (last_at r.built)) → FedWell (leave tree_steps within_ceilings o w r f)
    leave-well must r f x k = wrong-here (fault (word_at w) NoContinuation) h
    leave-well (may s) r f x k = x _
    leave-well (operand s) r f x k = tested (within_ceilings (count_kept tree_steps within_ceilings r)) (x _) (wrong-here (fault (last_at r.built) CeilingPassed) (k refl))

    stuck-here : FedWell (wrong (fault (word_at w) NoContinuation))
    stuck-here = wrong-here (fault (word_at w) NoContinuation) h

    feed-well : (K : Stack) (r : Reading Built) → Ready K r → FedWell (feed tree_steps within_ceilings (rule_of tree_steps) K w r)
    unfolding feed waits
    feed-well [] r x = stuck-here
    feed-well (word k g ∷ K) r x = tested (eqb (kind_of w) k) (taken-well K r.built (nested (bears g r.counts.nesting) r.counts) (ready-calm K _ x.below)) stuck-here
    feed-well (keep k ∷ K) r x = tested (eqb (kind_of w) k) (took-well K _ (ready-calm K _ x.below)) stuck-here
    feed-well (again ∷ K) r x = tested (both (eqb (kind_of w) a_name) (same (name_of w) (tree_steps.declared_name r.built))) (took-well K r (ready-calm K r x.below)) stuck-here
    feed-well (make f ∷ K) r x = feed-well K _ (ready-calm K _ x.below)
    feed-well (ease ∷ K) r x = feed-well K _ (ready-calm K _ x.below)
    feed-well (ask n ∷ K) r x =
        choose-well (rule_of tree_steps n).ways (all_right_lem n) K x.below r _
        (leave-well (rule_of tree_steps n).without r (λ q. feed tree_steps within_ceilings (rule_of tree_steps) K w q) (λ q. feed-well K q (ready-calm K q x.below)) x.kept)

  -- ---- The end.

  module _ (end : ℕ) (h : Here (position end)) where
    leave-end : (o : Without Built) (r : Reading Built) (f : Reading Built → Parsed Built) → ((q : Reading Built) → EndsWell (f q)) → (counts o ≡ true → Here (last_at r.built)) → EndsWell (leave_at_end tree_steps within_ceilings o end r f)
    leave-end must r f x k = refused-here (fault (position end) NoContinuation) h
    leave-end (may s) r f x k = x _
    leave-end (operand s) r f x k = tested-end (within_ceilings (count_kept tree_steps within_ceilings r)) (x _) (refused-here (fault (last_at r.built) CeilingPassed) (k refl))

    short-here : EndsWell (refused (fault (position end) NoContinuation))
    short-here = refused-here (fault (position end) NoContinuation) h

    finish-well : (K : Stack) (r : Reading Built) → Ready K r → EndsWell (finish tree_steps within_ceilings (rule_of tree_steps) K end r)
    unfolding finish waits
    finish-well [] r x = parsed-well r.built
    finish-well (word k g ∷ K) r x = short-here
    finish-well (keep k ∷ K) r x = short-here
    finish-well (again ∷ K) r x = short-here
    finish-well (make f ∷ K) r x = finish-well K _ (ready-calm K _ x.below)
    finish-well (ease ∷ K) r x = finish-well K _ (ready-calm K _ x.below)
    finish-well (ask n ∷ K) r x =
        leave-end (rule_of tree_steps n).without r (λ q. finish tree_steps within_ceilings (rule_of tree_steps) K end q) (λ q. finish-well K q (ready-calm K q x.below)) x.kept

    -- ---- The words of a text.

    after-well : {x : Fed Built} (on : Stack → Reading Built → Parsed Built) → FedWell x → ((K : Stack) (r : Reading Built) → Ready K r → EndsWell (on K r)) → EndsWell (after tree_steps within_ceilings (rule_of tree_steps) x on)
    after-well on (took-well K r x) k = k K r x
    after-well on (wrong-here f x) k = refused-here f x

    run-well : (ws : List Word) → WordsHere ws → (K : Stack) (r : Reading Built) → Ready K r → EndsWell (run tree_steps within_ceilings (rule_of tree_steps) K ws end r)
    unfolding run
    run-well [] g K r x = finish-well K r x
    run-well (w ∷ ws) g K r x = after-well _ (feed-well w g.0 K r x) (λ L q y. run-well ws g.1 L q y)

    start-calm : calm (ask Machine.sections ∷ []) ≡ true
    unfolding calm waits rule_of
    start-calm = refl

    parse-well : (ws : List Word) → WordsHere ws → EndsWell (parse ws end)
    unfolding parse parse_with
    parse-well ws g = run-well ws g (ask Machine.sections ∷ []) (record { built = nothing_built; counts = no_counts }) (ready-calm _ _ start-calm)

    pub grammar-here : (ws : List Word) (f : Fault) → WordsHere ws → parse ws end ≡ refused f → Here f.at
    grammar-here ws f g e = go (subst EndsWell e (parse-well ws g))
      where
        go : EndsWell (refused f) → Here f.at
        go (refused-here f x) = x
