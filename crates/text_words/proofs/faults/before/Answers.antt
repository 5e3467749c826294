use mathlib.Core.Path.{◌≡◌, ap}
use Rattle.std.proofs.Common.{arith}
use Rattle.std.proofs.lemmas.Bool.Decides.{nat_tests}
use Rattle.language.specs.Words.{Position}
use Rattle.language.specs.WordStage.{before}
use Rattle.text_words.proofs.faults.before.Goals as goal

pub returns-then-p-q : goal.returns-then-p-q
unfolding before
returns-then-p-q c =
    let p : c.place-p.result ≡ c.args.a.at.place = ap (λ (q : Position). q.place) c.place-p.ensures in
    let q : c.place-q.result ≡ c.args.b.at.place = ap (λ (q : Position). q.place) c.place-q.ensures in
    grind (arith, nat_tests)

pub returns-then-p-q-2 : goal.returns-then-p-q-2
unfolding before
returns-then-p-q-2 c =
    let p : c.place-p.result ≡ c.args.a.at.place = ap (λ (q : Position). q.place) c.place-p.ensures in
    let q : c.place-q.result ≡ c.args.b.at.place = ap (λ (q : Position). q.place) c.place-q.ensures in
    grind (arith, nat_tests)

pub returns-else-p-q-2 : goal.returns-else-p-q-2
unfolding before
returns-else-p-q-2 c =
    let p : c.place-p.result ≡ c.args.a.at.place = ap (λ (q : Position). q.place) c.place-p.ensures in
    let q : c.place-q.result ≡ c.args.b.at.place = ap (λ (q : Position). q.place) c.place-q.ensures in
    grind (arith, nat_tests)
