-- What each word of a text counts as, and how many brackets, conditionals and prefix operators are open behind it: by the rules of the grammar, no parser (01, "Ceilings"). A facility counts at its name, an operation at its own, a state at its first word; an operator, a constant, a reference at its name, IF, CASE, a store's sign, @, an operation reference, ->, => and RETURN count against one ceiling. The left side of a store is no operand and its CON no operator.
use Rattle.std.specs.Prelude.{List, [], ◌∷◌, ℕ, suc}
use Rattle.language.specs.Grammar
use Rattle.language.specs.Grammar.{Is}
use Rattle.language.specs.Machine.{Counts, Tally, counted, facility, nested, operation, state, tallied}
use Rattle.language.specs.Notions.{Notion, Tree}
use Rattle.language.specs.Words.{Word}

pub record Mark : Type 0 where
  pub tallies : List Tally
  pub depth : ℕ

-- A word that counts as nothing, and one that counts as t, with n open behind it.
abbrev pub plain : ℕ → Mark
plain n = record { tallies = []; depth = n }

abbrev pub one : Tally → ℕ → Mark
one t n = record { tallies = t ∷ []; depth = n }

-- The first word counts as t besides.
abbrev pub first_counts : Tally → List Mark → List Mark
first_counts t [] = []
first_counts t (m ∷ ms) = record { tallies = t ∷ m.tallies; depth = m.depth } ∷ ms

-- The marks of the words of a notion, where n are open before it, in front of others.
unfoldable pub marks : {N : Notion} {h : ℕ} {us : List Word} {t : Tree} → Is N h us t → ℕ → List Mark → List Mark
-- references, their name not counted
marks Grammar.ref-whole n ms = plain n ∷ ms
marks (Grammar.ref-one c x) n ms = plain n ∷ plain (suc n) ∷ marks x (suc n) (plain n ∷ ms)
marks Grammar.ref-part n ms = plain n ∷ plain (suc n) ∷ plain (suc n) ∷ plain (suc n) ∷ plain (suc n) ∷ plain n ∷ ms
marks (Grammar.ref-two c k x y) n ms = plain n ∷ plain (suc n) ∷ marks x (suc n) (plain (suc n) ∷ marks y (suc n) (plain n ∷ ms))
marks (Grammar.ref-two-apart c k l x y) n ms = plain n ∷ plain (suc n) ∷ marks x (suc n) (plain n ∷ plain (suc n) ∷ marks y (suc n) (plain n ∷ ms))
marks (Grammar.ref-word-part c k l x) n ms = plain n ∷ plain (suc n) ∷ marks x (suc n) (plain (suc n) ∷ plain (suc n) ∷ plain (suc n) ∷ plain (suc n) ∷ plain n ∷ ms)
marks (Grammar.ref-word-part-apart c k l m x) n ms = plain n ∷ plain (suc n) ∷ marks x (suc n) (plain n ∷ plain (suc n) ∷ plain (suc n) ∷ plain (suc n) ∷ plain (suc n) ∷ plain n ∷ ms)
-- operators
marks (Grammar.or-one x) n ms = marks x n ms
marks (Grammar.or-more x y) n ms = marks x n (one counted n ∷ marks y n ms)
marks (Grammar.exclusive-one x) n ms = marks x n ms
marks (Grammar.exclusive-more x y) n ms = marks x n (one counted n ∷ marks y n ms)
marks (Grammar.and_one x) n ms = marks x n ms
marks (Grammar.and-more x y) n ms = marks x n (one counted n ∷ marks y n ms)
marks (Grammar.complement-none x) n ms = marks x n ms
marks (Grammar.complement-of x) n ms = one counted (suc n) ∷ marks x (suc n) ms
marks (Grammar.con-one x) n ms = marks x n ms
marks (Grammar.con-more x y) n ms = marks x n (one counted n ∷ marks y n ms)
marks (Grammar.reduction-none x) n ms = marks x n ms
marks (Grammar.reduction-of e x) n ms = one counted (suc n) ∷ plain (suc n) ∷ marks x (suc n) ms
marks (Grammar.cut-none x) n ms = marks x n ms
marks (Grammar.cut-more q e x) n ms = marks x n (one counted n ∷ plain n ∷ ms)
marks (Grammar.relation-none x) n ms = marks x n ms
marks (Grammar.relation-of e x y) n ms = marks x n (one counted n ∷ marks y n ms)
marks (Grammar.arithmetic-one x) n ms = marks x n ms
marks (Grammar.negation-of x) n ms = one counted (suc n) ∷ marks x (suc n) ms
marks (Grammar.arithmetic-more e x y) n ms = marks x n (one counted n ∷ marks y n ms)
-- terms
marks (Grammar.term-reference x) n ms = first_counts counted (marks x n ms)
marks Grammar.term-constant n ms = one counted n ∷ ms
marks (Grammar.term-parens q x) n ms = plain (suc n) ∷ marks x (suc n) (plain n ∷ ms)
marks (Grammar.term-if q r s x y z) n ms = one counted (suc n) ∷ marks x (suc n) (plain (suc n) ∷ marks y (suc n) (plain (suc n) ∷ marks z (suc n) (plain n ∷ ms)))
marks (Grammar.term-case q x y) n ms = one counted (suc n) ∷ marks x (suc n) (marks y (suc n) (plain n ∷ ms))
marks (Grammar.arms-two q x y) n ms = plain n ∷ marks x n (plain n ∷ marks y n ms)
marks (Grammar.arms_next p x y) n ms = marks x n (plain n ∷ marks y n ms)
-- actions
marks (Grammar.left_one x) n ms = marks x n ms
marks (Grammar.left-two p x y) n ms = marks x n (plain n ∷ marks y n ms)
marks (Grammar.act-store e x y z) n ms = marks x n (one counted n ∷ marks y n (marks z n ms))
marks (Grammar.act-set x y) n ms = marks x n (one counted n ∷ marks y n ms)
marks (Grammar.act-perform x) n ms = one counted n ∷ marks x n ms
marks (Grammar.act-goto x) n ms = one counted n ∷ plain n ∷ marks x n ms
marks (Grammar.act-call x) n ms = one counted n ∷ plain n ∷ marks x n ms
marks (Grammar.act-return x) n ms = one counted n ∷ marks x n ms
marks (Grammar.act-when r q x y z) n ms = one counted (suc n) ∷ marks x (suc n) (plain (suc n) ∷ marks y (suc n) (plain n ∷ marks z n ms))
marks (Grammar.act-if t r q x y z w) n ms = one counted (suc n) ∷ marks x (suc n) (plain (suc n) ∷ marks y (suc n) (plain (suc n) ∷ marks z (suc n) (plain n ∷ marks w n ms)))
marks (Grammar.act-case q x y z) n ms = one counted (suc n) ∷ marks x (suc n) (marks y (suc n) (plain n ∷ marks z n ms))
marks Grammar.rest-none n ms = ms
marks (Grammar.rest_more x) n ms = plain n ∷ marks x n ms
marks (Grammar.arms-one x y) n ms = plain n ∷ marks x n (marks y n ms)
marks Grammar.arms_end n ms = ms
marks (Grammar.arms_more x) n ms = marks x n ms
-- declarations
marks Grammar.range-both n ms = plain n ∷ plain n ∷ plain n ∷ ms
marks Grammar.range_last n ms = plain n ∷ ms
marks Grammar.no-dimension n ms = ms
marks (Grammar.one-dimension q x) n ms = plain (suc n) ∷ marks x (suc n) (plain n ∷ ms)
marks (Grammar.two-dimensions q r x y) n ms = plain (suc n) ∷ marks x (suc n) (plain (suc n) ∷ marks y (suc n) (plain n ∷ ms))
marks (Grammar.a-register x) n ms = one facility n ∷ marks x n ms
marks (Grammar.a-sequencing x) n ms = plain n ∷ one facility n ∷ marks x n ms
marks (Grammar.a_memory x) n ms = one facility n ∷ marks x n ms
marks (Grammar.a-terminal x) n ms = one facility n ∷ marks x n ms
marks (Grammar.an-input q r s t u v w c a x) n ms = one facility n ∷ marks x n (plain n ∷ plain n ∷ plain (suc n) ∷ plain (suc n) ∷ plain (suc n) ∷ plain (suc n) ∷ plain n ∷ ms)
marks (Grammar.a-computed a x y) n ms = one facility n ∷ marks x n (plain n ∷ marks y n ms)
marks (Grammar.registers-one x) n ms = marks x n ms
marks (Grammar.registers-more p x y) n ms = marks x n (plain n ∷ marks y n ms)
marks (Grammar.memories-one x) n ms = marks x n ms
marks (Grammar.memories-more p x y) n ms = marks x n (plain n ∷ marks y n ms)
marks (Grammar.terminals-one x) n ms = marks x n ms
marks (Grammar.terminals-more p x y) n ms = marks x n (plain n ∷ marks y n ms)
marks (Grammar.an-ending e) n ms = plain n ∷ ms
marks (Grammar.register-section x y) n ms = plain n ∷ marks x n (marks y n ms)
marks (Grammar.memory-section x y) n ms = plain n ∷ marks x n (marks y n ms)
marks (Grammar.terminal-section x y) n ms = plain n ∷ marks x n (marks y n ms)
marks Grammar.no-memories n ms = ms
marks (Grammar.some-memories x) n ms = marks x n ms
marks Grammar.no-terminals n ms = ms
marks (Grammar.some-terminals x) n ms = marks x n ms
marks (Grammar.with-registers x y z) n ms = marks x n (marks y n (marks z n ms))
marks (Grammar.with-memories x y) n ms = marks x n (marks y n ms)
marks (Grammar.with-terminals x) n ms = marks x n ms
-- operations and states
marks (Grammar.operations-one q r s x) n ms = one operation n ∷ plain n ∷ plain (suc n) ∷ marks x (suc n) (plain n ∷ ms)
marks (Grammar.operations-more q r s t x y) n ms = one operation n ∷ plain n ∷ plain (suc n) ∷ marks x (suc n) (plain n ∷ plain n ∷ marks y n ms)
marks Grammar.no-ending n ms = ms
marks (Grammar.some-ending x) n ms = marks x n ms
marks Grammar.no-operations n ms = ms
marks (Grammar.some-operations x y) n ms = plain n ∷ marks x n (marks y n ms)
marks Grammar.no_label n ms = ms
marks Grammar.plain_label n ms = plain n ∷ plain n ∷ ms
marks Grammar.label-with-value n ms = plain n ∷ plain (suc n) ∷ plain (suc n) ∷ plain n ∷ plain n ∷ ms
marks (Grammar.states-one x) n ms = marks x n ms
marks (Grammar.states-more x y) n ms = marks x n (marks y n ms)
marks (Grammar.state-idle p x) n ms = first_counts state (marks x n (plain n ∷ ms))
marks (Grammar.state-acting p x y) n ms = first_counts state (marks x n (marks y n (plain n ∷ ms)))
marks (Grammar.control-section x y) n ms = plain n ∷ marks x n (marks y n ms)
marks Grammar.no-dollar n ms = ms
marks Grammar.some-dollar n ms = plain n ∷ ms
marks (Grammar.whole-text x y z w) n ms = marks x n (marks y n (marks z n (marks w n ms)))

-- The counts behind words with these marks.
unfoldable pub counts_behind : List Mark → Counts → Counts
counts_behind [] c = c
counts_behind (m ∷ ms) c = counts_behind ms (nested m.depth (tallied m.tallies c))
