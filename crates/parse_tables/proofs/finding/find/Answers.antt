use mathlib.Core.Path.{refl}
use Prim.Native.Nat.{◌<◌, min}
use native.Mathlib.Omega.{arith}
use Rattle.parse_array.specs.Names.{letters}
use Rattle.parse_tables.proofs.FirstFound.{all_left, found_here, none_left, not-here}
use Rattle.parse_tables.proofs.NameLaws.{letters-of}
use Rattle.parse_tables.proofs.NamesGrown.{word-there}
use Rattle.parse_tables.specs.Rows.{most}
use Rattle.parse_tables.proofs.finding.find.Goals as goal

pub loop-k-init : goal.loop-k-init
loop-k-init c =
    all_left c.args.text.now c.args.table c.args.n c.args.work.now (letters c.args.text.now c.args.place c.args.length)

pub returns-then-matches : goal.returns-then-matches
returns-then-matches c =
    let name = letters c.args.text.now c.args.place c.args.length in
    let h : c.loop-k.k < min c.args.n (most c.args.table) = omega (arith, c.held-k-end.ensures, c.loop-k-test.true) in
    found_here c.args.text.now c.args.table c.args.n c.args.work.now name c.part-name.result.now c.word_at.result.now c.loop-k.invariant (letters-of c.args.text.now c.args.place c.args.length c.part-name.ensures)
    (word-there c.args.text.now c.args.work.now c.args.table c.loop-k.k (min c.args.n (most c.args.table)) c.requires h c.begin-base.ensures.0 refl refl c.word_at.ensures) c.matches.ensures h c.if-matches.true

pub loop-k-preserved : goal.loop-k-preserved
loop-k-preserved c =
    let name = letters c.args.text.now c.args.place c.args.length in
    let h : c.loop-k.k < min c.args.n (most c.args.table) = omega (arith, c.held-k-end.ensures, c.loop-k-test.true) in
    not-here c.args.text.now c.args.table c.args.n c.args.work.now name c.part-name.result.now c.word_at.result.now c.loop-k.invariant (letters-of c.args.text.now c.args.place c.args.length c.part-name.ensures)
    (word-there c.args.text.now c.args.work.now c.args.table c.loop-k.k (min c.args.n (most c.args.table)) c.requires h c.begin-base.ensures.0 refl refl c.word_at.ensures) c.matches.ensures h c.if-matches.false

pub returns : goal.returns
returns c =
    none_left c.args.text.now c.args.table c.args.n c.args.work.now (letters c.args.text.now c.args.place c.args.length) c.loop-k.k c.loop-k.invariant (omega (arith, c.held-k-end.ensures, c.loop-k-test.false))
