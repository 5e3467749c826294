use mathlib.Core.Path.{◌≡◌, refl, ◌∙◌, subst}
use Rattle.language.specs.Rules.{faults}
use Rattle.language.specs.WordStage.{least}
use Rattle.judge_records.specs.Noted.{noted_description, places_in}
use Rattle.text_words.specs.Meaning.{judged}
use Rattle.parse_held.proofs.BodyLaws.{within-few}
use Rattle.call_read.proofs.JudgedLaws.{not-many, read_again}
use Rattle.parse_held.specs.declared.Holding.{Holding}
use Rattle.parse_held.specs.Sections.{beside_held, most_letters, names_held, sections_held}
use Rattle.call_read.proofs.judging.judge.Goals as goal

pub least_fault-requires : goal.least_fault-requires
least_fault-requires c =
    not-many c.args.work.now c.rows_of.result.now c.rows_of-2.result.now c.within-few.ensures.1.facilities c.within-few.ensures.1.operations c.rows_of.ensures c.rows_of-2.ensures

pub returns : goal.returns
unfolding sections_held beside_held
returns c =
    λ f m. let e : c.within-few.result ≡ c.args.c = c.within-few.ensures.0 ∙ within-few c.args.c f in let ns : c.part.result.now ≡ names_held c.args.text.now c.args.work.now c.within-few.result = read_again most_letters (names_held c.args.text.now c.args.work.now c.within-few.result) refl c.put.ensures c.count-n.ensures.0 c.part.ensures (rw e m) in subst (λ (x : Holding). judged c.least_fault.result ≡ least (faults (noted_description (sections_held c.args.text.now c.args.work.now x) (beside_held c.args.work.now x)) (places_in (beside_held c.args.work.now x)))) e (c.least_fault.ensures (sections_held c.args.text.now c.args.work.now c.within-few.result) (beside_held c.args.work.now c.within-few.result) c.rows_of.ensures c.rows_of-2.ensures c.nodes_of.ensures c.rows_of-3.ensures c.rows_of-4.ensures ns c.rows_of-5.ensures c.rows_of-6.ensures c.node_places_of.ensures c.rows_of-7.ensures c.rows_of-8.ensures)
