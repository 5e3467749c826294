-- What a store and `@` make of their sides (the language's text, without the description that it does not look at), and kinds told by slices.
use Rattle.std.specs.Prelude.{Bool, List, ◌++◌, ◌≡◌, ℕ, ◌+◌, eqb}
use Rattle.image_sections.specs.Declarations.{kind_meant}
use Rattle.image_sections.specs.declared.facilities.FacilityKind.{FacilityKind}
use Rattle.language.specs.ActionRules.{kind_at}
use Rattle.language.specs.Description.{Description, Places}
use Rattle.language.specs.Expressions.{own_work}
use Rattle.language.specs.Judging.{Judged, Worth, given_both, or_faulty, unless, worth}
use Rattle.language.specs.declared.refusals.Refusal.TheVariants.{BadLength, BadStore}
use Rattle.language.specs.Words.{Position}
use Rattle.judge_terms.specs.Shown.{Shown}
use Rattle.language.specs.Tests.{both}

abbrev pub stored_judged : Bool → Position → Worth → Worth → Judged
stored_judged allowed at v w = or_faulty (unless (eqb v.length w.length) at BadLength ++ unless allowed at BadStore) (worth 1 0 (own_work + v.work + w.work))

abbrev pub pair_sides : Judged → Judged → Judged
pair_sides a b = given_both a b (λ v w. worth (v.length + w.length) 0 (v.work + w.work))

abbrev pub set_judged : Bool → Position → Worth → Judged
set_judged plain at v = or_faulty (unless (both plain (eqb v.length 1)) at BadStore) (worth 1 0 (own_work + v.work))

-- The kind of what record n refers to, in every description with these slices.
pub record KindTold (facs exprs places : List ℕ) (n : ℕ) (k : FacilityKind) : Type 0 where
  pub kind : (d : Description) (p : Places) (t : ℕ → Judged) (marks memo : List ℕ) (known : ℕ) → Shown facs exprs marks places memo known d p t → kind_meant k ≡ kind_at d n
