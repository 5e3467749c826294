use mathlib.Core.Path.{sym, ◌∙◌}
use Rattle.parse_facilities.specs.Lists.{memories, registers, terminals}
use Rattle.parse_sections.proofs.StartLaws.{not_opened, opened, starts}
use Rattle.parse_sections.proofs.preamble.Goals as goal

pub registers-requires : goal.registers-requires
registers-requires c =
    starts c.next_word-w.ensures c.start-s.ensures c.requires registers _ (sym c.kind_of-k.ensures ∙ c.if-k-eq-REGISTER.true)

pub returns-then-k-eq-REGISTER : goal.returns-then-k-eq-REGISTER
returns-then-k-eq-REGISTER c =
    opened c.next_word-w.ensures c.start-s.ensures c.requires registers c.registers.ensures

pub memories-requires : goal.memories-requires
memories-requires c =
    starts c.next_word-w.ensures c.start-s.ensures c.requires memories _ (sym c.kind_of-k.ensures ∙ c.if-k-eq-MEMORY.true)

pub returns-then-k-eq-MEMORY : goal.returns-then-k-eq-MEMORY
returns-then-k-eq-MEMORY c =
    opened c.next_word-w.ensures c.start-s.ensures c.requires memories c.memories.ensures

pub terminals-requires : goal.terminals-requires
terminals-requires c =
    starts c.next_word-w.ensures c.start-s.ensures c.requires terminals _ (sym c.kind_of-k.ensures ∙ c.if-k-eq-TERMINAL.true)

pub returns-then-k-eq-TERMINAL : goal.returns-then-k-eq-TERMINAL
returns-then-k-eq-TERMINAL c =
    opened c.next_word-w.ensures c.start-s.ensures c.requires terminals c.terminals.ensures

pub returns : goal.returns
returns c =
    not_opened c.next_word-w.ensures c.start-s.ensures c.requires (λ e. c.if-k-eq-REGISTER.false (c.kind_of-k.ensures ∙ e)) (λ e. c.if-k-eq-MEMORY.false (c.kind_of-k.ensures ∙ e)) (λ e. c.if-k-eq-TERMINAL.false (c.kind_of-k.ensures ∙ e)) c.refuse.ensures
