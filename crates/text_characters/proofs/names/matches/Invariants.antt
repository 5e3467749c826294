use Rattle.text_characters.proofs.Matching.{Alike}
use Rattle.text_characters.proofs.names.matches.Given as goal

abbrev pub invariant-loop-i : goal.invariant-loop-i
invariant-loop-i l = Alike l.a l.b l.i
