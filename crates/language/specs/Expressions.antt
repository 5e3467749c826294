-- Expressions: every length rule of 01 ("Lengths"), and work ("Ceilings"): one for each operator and operand.
use Rattle.std.specs.Prelude.{Bool, cond, ℕ, suc, ◌+◌, ◌^◌, eqb, leb}
use Rattle.std.proofs.Math.Option.{Option, none, some}
use Rattle.language.specs.Description as D
use Rattle.language.specs.Description.{Description, Node, NodePlaces, Places, facility_at, node_at, node_place}
use Rattle.language.specs.Judging.{Judged, Worth, arm_list, given, given_both, proper, refuse, sized, worth}
use Rattle.language.specs.Operators.{binary_length, cut_length_of, prefix_length}
use Rattle.language.specs.Recursion.{below}
use Rattle.language.specs.ReferenceRules.{reference_judged}
use Rattle.language.specs.References.{Reference, part, reference_of, two, whole, word_part}
use Rattle.language.specs.References as R
use Rattle.language.specs.declared.refusals.Refusal.TheVariants.{BadLength, BadName, NoContinuation}
use Rattle.language.specs.Words.{Position}
use Rattle.language.specs.Tests.{both}

-- CASE takes up to 6 bits.
unfoldable pub longest_selector : ℕ
longest_selector = 6

-- A condition of l bits chooses among n arms: exactly 2 to the length.
unfoldable pub selects : ℕ → ℕ → Bool
unfolding longest_selector
selects l n = both (leb l longest_selector) (eqb n (2 ^ l))

-- The work of an operator or operand itself.
unfoldable pub own_work : ℕ
own_work = 1

-- Arms are equally long, or of the length 0 together.
unfoldable pub evenly : ℕ → ℕ → ℕ
evenly m n = cond (eqb m n) m 0

-- `known` facilities may be named; `terminals` judges the expressions of computed ones.
module _ (d : Description) (p : Places) (terminals : ℕ → Judged) (known : ℕ) where
  abbrev pub proper_at : (ℕ → Judged) → ℕ → Judged
  proper_at ev a = proper (node_place p a).at (ev a)

  abbrev pub operand_at : (ℕ → Judged) → NodePlaces → Option Reference → Judged
  operand_at ev at none = refuse at.at BadName
  operand_at ev at (some r) = reference_judged d p terminals ev own_work known r at

  abbrev pub choice_judged : Position → ℕ → Worth → Worth → Judged
  choice_judged at n c a =
      cond (both (selects c.length n) (eqb a.arms n)) (sized at a.length (own_work + c.work + a.work)) (refuse at BadLength)

  -- The record n, from the judgements of those before it.
  unfoldable pub judge_node : (ℕ → Judged) → NodePlaces → Node → Judged
  judge_node ev at (D.constant v) = sized at.at v.length own_work
  judge_node ev at (D.more n) = refuse at.at NoContinuation
  judge_node ev at (D.whole f) = operand_at ev at (R.refer_to f whole)
  judge_node ev at (D.one f e) = operand_at ev at (R.refer_to f (R.one e))
  judge_node ev at (D.part f b) = operand_at ev at (R.refer_to f (part b))
  judge_node ev at (D.two f e g) = operand_at ev at (R.refer_to f (two e g))
  judge_node ev at (D.word_part f e b) = operand_at ev at (R.refer_to f (word_part e b))
  judge_node ev at (D.binary k a b) =
      given_both (proper_at ev a) (proper_at ev b) (λ v w. sized at.at (binary_length k v.length w.length) (own_work + v.work + w.work))
  judge_node ev at (D.prefix k a) = given (proper_at ev a) (λ v. sized at.at (prefix_length k v.length) (own_work + v.work))
  judge_node ev at (D.cut k a c) = given (proper_at ev a) (λ v. sized at.at (cut_length_of k v.length c) (own_work + v.work))
  judge_node ev at (D.first_arm e) = given (proper_at ev e) (λ v. worth v.length 1 v.work)
  judge_node ev at (D.next_arm a e) =
      given_both (arm_list at.at (ev a)) (proper_at ev e) (λ v w. worth (evenly v.length w.length) (suc v.arms) (v.work + w.work))
  judge_node ev at (D.choice e a n) = given_both (proper_at ev e) (arm_list at.at (ev a)) (choice_judged at.at n)
  judge_node ev at D.Node.broken = refuse at.at BadName

  abbrev pub judge_step : (ℕ → Judged) → ℕ → Judged
  judge_step ev n = judge_node ev (node_place p n) (node_at d n)

  -- A part must stand before its owner.
  abbrev pub not_before : Judged
  not_before = refuse D.nowhere NoContinuation

  unfoldable pub judge_below : ℕ → ℕ → Judged
  judge_below = below not_before judge_step

  unfoldable pub judge_at : ℕ → Judged
  judge_at n = judge_step (judge_below n) n

  -- An expression of its own, and the left side of a store, whose reference is no operand.
  abbrev pub expression_at : ℕ → Judged
  expression_at n = proper (node_place p n).at (judge_at n)

  abbrev pub left_of : ℕ → Option Reference → Judged
  left_of n none = refuse (node_place p n).at BadName
  left_of n (some r) = reference_judged d p terminals (judge_below n) 0 known r (node_place p n)

  unfoldable pub left_at : ℕ → Judged
  left_at n = left_of n (reference_of (node_at d n))

-- ---- Computed terminals: each names only facilities before it.

module _ (d : Description) (p : Places) where
  abbrev pub terminal_step : (ℕ → Judged) → ℕ → Judged
  terminal_step ev n = expression_at d p ev n (facility_at d n).expression

  unfoldable pub terminal_below : ℕ → ℕ → Judged
  terminal_below = below (refuse D.nowhere BadName) terminal_step

  unfoldable pub terminal_judged : ℕ → Judged
  terminal_judged n = terminal_step (terminal_below n) n
