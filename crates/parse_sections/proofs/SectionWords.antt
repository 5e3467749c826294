-- The machine's words that begin sections.
use mathlib.Core.List.{List, ◌∷◌, ◌++◌}
use mathlib.Core.Path.{◌≡◌}
use Prim.Native.Nat.{ℕ}
use native.Mathlib.Omega.{arith}
use borrow.Author.Tests.{ne_eqb}
use Rattle.language.specs.declared.refusals.Refusal.TheVariants.{NoContinuation}
use Rattle.parse_step.proofs.Looking.{View, begun, ended, sign-ahead, view}
use Rattle.parse_step.proofs.TakenWords.{on_taken, taken-on}
use Rattle.parse_step.specs.declared.State.{State}
use Rattle.parse_step.specs.Course.{Seen, Stack, behind, counts_of, kind_no, runs, runs_on}
use Rattle.parse_facilities.specs.Lists.{Listing, memories, more_in, registers, spec_in, terminals}
use Rattle.language.specs.Building.{Built}
use Rattle.language.specs.Kinds.{control_word, memory_word, operation_word, register_word, terminal_word}
use Rattle.language.specs.Machine.{Ask, after_memories, after_registers, after_terminals, ask, choose, feed, finish, operation_spec, operations_more, refused, run, sections, tallied}
use Rattle.language.specs.SectionWays.{rule_of}
use Rattle.language.specs.Words.{fault}
use Rattle.parse_sections.specs.Heads.{control_stack}
use Rattle.text_words.specs.declared.Word.{Word}
use Rattle.text_words.specs.Meaning.{positioned}
use Rattle.parse_sections.specs.Sections.{Comes, after_in, at_start, behind_memories, behind_registers, word_in}

module _ (text : List ℕ) (w : Word) (K : Stack) (b : Built) (s : State) where
  -- ---- A section's word.

  abbrev list_stack : Listing → Stack
  list_stack l = ask (spec_in l) ∷ ask (more_in l) ∷ ask (after_in l) ∷ K

  pub section-taken : {l : Listing} {p : Ask} → Comes l p → kind_no w.kind ≡ word_in l → runs text (ask p ∷ K) w b s ≡ on_taken text w (list_stack l) b (counts_of s)
  unfolding runs_on run feed choose rule_of tallied
  section-taken (at_start registers) e = rw (sign-ahead text w register_word e (omega arith)) (taken-on text (positioned w.at) (list_stack registers) (behind text w) b (counts_of s))
  section-taken (at_start memories) e = rw (sign-ahead text w memory_word e (omega arith)) (taken-on text (positioned w.at) (list_stack memories) (behind text w) b (counts_of s))
  section-taken (at_start terminals) e = rw (sign-ahead text w terminal_word e (omega arith)) (taken-on text (positioned w.at) (list_stack terminals) (behind text w) b (counts_of s))
  section-taken behind_registers e = rw (sign-ahead text w memory_word e (omega arith)) (taken-on text (positioned w.at) (list_stack memories) (behind text w) b (counts_of s))
  section-taken behind_memories e = rw (sign-ahead text w terminal_word e (omega arith)) (taken-on text (positioned w.at) (list_stack terminals) (behind text w) b (counts_of s))

  pub operation-taken : kind_no w.kind ≡ operation_word → runs text (ask after_terminals ∷ K) w b s ≡ on_taken text w (ask operation_spec ∷ ask operations_more ∷ K) b (counts_of s)
  unfolding runs_on run feed choose rule_of tallied
  operation-taken e = rw (sign-ahead text w operation_word e (omega arith)) (taken-on text (positioned w.at) (ask operation_spec ∷ ask operations_more ∷ K) (behind text w) b (counts_of s))

  pub control-taken : kind_no w.kind ≡ control_word → runs text (ask after_terminals ∷ K) w b s ≡ on_taken text w (control_stack ++ K) b (counts_of s)
  unfolding runs_on run feed choose rule_of tallied
  control-taken e = rw (sign-ahead text w control_word e (omega arith)) (taken-on text (positioned w.at) (control_stack ++ K) (behind text w) b (counts_of s))

  -- ---- A section that does not come.

  pub no-memories : Seen text w → (kind_no w.kind ≡ memory_word → ⊥) → runs text (ask after_registers ∷ K) w b s ≡ runs text (ask after_memories ∷ K) w b s
  unfolding runs_on run feed finish choose rule_of
  no-memories z n = by-view (view text w z)
    where
      by-view : View text w → runs text (ask after_registers ∷ K) w b s ≡ runs text (ask after_memories ∷ K) w b s
      by-view (ended e p q) = rw (e, p)
      by-view (begun v e q p) = rw (e, q, ne_eqb (kind_no w.kind) memory_word n)

  pub no-terminals : Seen text w → (kind_no w.kind ≡ terminal_word → ⊥) → runs text (ask after_memories ∷ K) w b s ≡ runs text (ask after_terminals ∷ K) w b s
  unfolding runs_on run feed finish choose rule_of
  no-terminals z n = by-view (view text w z)
    where
      by-view : View text w → runs text (ask after_memories ∷ K) w b s ≡ runs text (ask after_terminals ∷ K) w b s
      by-view (ended e p q) = rw (e, p)
      by-view (begun v e q p) = rw (e, q, ne_eqb (kind_no w.kind) terminal_word n)

  pub nothing-behind : Seen text w → (kind_no w.kind ≡ operation_word → ⊥) → (kind_no w.kind ≡ control_word → ⊥) → runs text (ask after_terminals ∷ K) w b s ≡ refused (fault (positioned w.at) NoContinuation)
  unfolding runs_on run feed finish choose rule_of
  nothing-behind z o c = by-view (view text w z)
    where
      by-view : View text w → runs text (ask after_terminals ∷ K) w b s ≡ refused (fault (positioned w.at) NoContinuation)
      by-view (ended e p q) = rw (e, p)
      by-view (begun v e q p) = rw (e, q, ne_eqb (kind_no w.kind) operation_word o, ne_eqb (kind_no w.kind) control_word c, p)

  pub nothing-first : Seen text w → (kind_no w.kind ≡ register_word → ⊥) → (kind_no w.kind ≡ memory_word → ⊥) → (kind_no w.kind ≡ terminal_word → ⊥) → runs text (ask sections ∷ K) w b s ≡ refused (fault (positioned w.at) NoContinuation)
  unfolding runs_on run feed finish choose rule_of
  nothing-first z r m t = by-view (view text w z)
    where
      by-view : View text w → runs text (ask sections ∷ K) w b s ≡ refused (fault (positioned w.at) NoContinuation)
      by-view (ended e p q) = rw (e, p)
      by-view (begun v e q p) = rw (e, q, ne_eqb (kind_no w.kind) register_word r, ne_eqb (kind_no w.kind) memory_word m, ne_eqb (kind_no w.kind) terminal_word t, p)
