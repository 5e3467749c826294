use Rattle.parse_step.proofs.Answers.{err-came}
use Rattle.parse_terminals.proofs.TerminalLaws.{terminal-read, terminal-undefined, terminal-unmeasured, terminal-unnamed}
use Rattle.parse_terminals.proofs.declaring.terminal.Goals as goal

pub returns-in_err-named : goal.returns-in_err-named
returns-in_err-named c = rw (err-came c.from_residual.ensures.1) (terminal-unnamed c.in_err-named.ensures)

pub returns-in_err-measured : goal.returns-in_err-measured
returns-in_err-measured c = rw (err-came c.from_residual-in_err-measured.ensures.1) (terminal-unmeasured c.in_ok-named.ensures c.in_err-measured.ensures)

pub returns-in_err-defined : goal.returns-in_err-defined
returns-in_err-defined c =
    rw (err-came c.from_residual-in_err-defined.ensures.1) (terminal-undefined c.in_ok-named.ensures c.in_ok-measured.ensures c.in_err-defined.ensures)

pub returns : goal.returns
returns c = terminal-read c.in_ok-named.ensures c.in_ok-measured.ensures c.in_ok-defined.ensures c.declare.ensures
