-- Lines are measured byte by byte.
use mathlib.Core.Bool.{Bool, true, false, cond}
use mathlib.Core.List.{List, [], ◌∷◌}
use mathlib.Core.Option.{none, some}
use mathlib.Core.Path.{◌≡◌, ◌∙◌, ap, sym, subst}
use Prim.Native.Nat.{ℕ, suc, ◌+◌, ◌<◌, ◌≤◌}
use native.Mathlib.Numerals.{add-one}
use native.Mathlib.Omega.{arith}
use lib.ListN.{length, get_or, drop, drop_of_length-le}
use lib.Seq.{drop-cons, get_or-drop}
use borrow.Author.Tests.{le-leb, le-ltb, lt-ltb}
use Rattle.language.specs.Columns.{long_lines, too_wide_after, width_after}
use Rattle.language.specs.Ceilings.{longest_line}
use Rattle.language.specs.declared.refusals.Refusal.TheVariants.{BadCharacter}
use Rattle.language.specs.Words.{Fault, fault, position}
use Rattle.language.specs.WordStage.{least}
use Rattle.text_words.proofs.Least.{From, first-least, from_less}

-- The faults of lines from a place on stand there or later.
lines_from : (w at : ℕ) (s : List ℕ) → From at (least (long_lines w at s))
unfolding long_lines least
lines_from w at [] = tt
lines_from w at (b ∷ t) = go (too_wide_after w v) (lines_from v (suc at) t)
  where
    v : ℕ
    v = width_after w b t

    go : (p : Bool) → From (suc at) (least (long_lines v (suc at) t))
        → From at (least (cond p (fault (position at) BadCharacter ∷ long_lines v (suc at) t) (long_lines v (suc at) t)))
    go true h = subst (From at) (sym (first-least (fault (position at) BadCharacter) (long_lines v (suc at) t) h)) (omega arith)
    go false h = from_less at (suc at) (least (long_lines v (suc at) t)) (omega arith) h

pub lines_end : (w at : ℕ) (text : List ℕ) → length text ≤ at → none ≡ least (long_lines w at (drop at text))
unfolding long_lines least
lines_end w at text h = sym (rw (drop_of_length-le text h))

module _ (text : List ℕ) (w at v : ℕ) (h : at < length text) (hw : w ≤ 132) (e : v ≡ width_after w (get_or text at 0) (get_or text (at + 1) 0 ∷ [])) where
  abbrev rest : List Fault
  rest = long_lines v (suc at) (drop (suc at) text)

  width : width_after w (get_or text at 0) (drop (suc at) text) ≡ v
  unfolding width_after
  width = simp (get_or-drop (suc at) text 0 0 ∙ ap (λ (i : ℕ). get_or text i 0) {x = suc at + 0} {y = at + 1} (omega arith)) (sym e)

  line_step : long_lines w at (drop at text) ≡ cond (too_wide_after w v) (fault (position at) BadCharacter ∷ rest) rest
  unfolding long_lines
  line_step = rw (drop-cons text at 0 h) (simp width)

  pub line-long : 132 < v → some (fault (position at) BadCharacter) ≡ least (long_lines w at (drop at text))
  unfolding too_wide_after longest_line
  line-long l =
      sym
      (ap least (line_step ∙ simp (le-leb w 132 hw, lt-ltb 132 v l))
      ∙ first-least (fault (position at) BadCharacter) rest (lines_from v (suc at) (drop (suc at) text)))

  pub line-next : v ≤ 132 → least (long_lines w at (drop at text)) ≡ least (long_lines v (at + 1) (drop (at + 1) text))
  unfolding too_wide_after longest_line
  line-next l =
      let s : long_lines w at (drop at text) ≡ rest = line_step ∙ simp (le-leb w 132 hw, le-ltb 132 v l) in
      ap least s ∙ rw add-one
