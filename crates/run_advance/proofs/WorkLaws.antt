-- An image that passes, as a cycle sees it: its sections, and few conflicts. Assumes nothing.
use mathlib.Core.Bool.{true}
use mathlib.Core.List.{List}
use mathlib.Core.Path.{◌≡◌, refl, ap}
use Prim.Native.Nat.{ℕ, ◌/◌, ◌≤◌, min}
use native.Mathlib.Omega.{arith}
use lib.ListN.{length}
use Rattle.language.specs.Decode.{decode, section_at, sections_in}
use Rattle.language.specs.Description.{Description}
use Rattle.language.specs.Image.{passes}
use Rattle.language.specs.Ceilings.{most_work}
use Rattle.language.specs.Step as S
use Rattle.language.specs.Store.{StoreWords}
use Rattle.about_running.specs.FewConflicts.{few-conflicts}
use Rattle.about_running.specs.NeverStuck.{legal-image}
use Rattle.image_sections.proofs.DescribedLaws.{operations-count}
use Rattle.run_actions.proofs.SectionLaws.{sections-act}
use Rattle.run_actions.specs.Acts.{Acts}
use Rattle.image_lookups.proofs.PassLaws.{states-many}
use Rattle.language.specs.Encode.{action_size, actions_section, expressions_section, facilities_section, facility_size, node_size, operation_size, operations_section, state_size, states_section}
use Rattle.run_soundness.proofs.PassedLaws.{passed-described, passed-fits, passed-register, passed-takes, passed-valued}
use Rattle.run_end.specs.Register.{Enters}
use Rattle.run_end.specs.Stepped.{counted}

module _ (image : List ℕ) (passed : passes image ≡ true) where
  abbrev d : Description
  d = decode image

  pub passed-enters : Enters (decode image) (section_at facilities_section facility_size image) (section_at expressions_section node_size image) (section_at states_section state_size image)
  passed-enters = record {
    described = passed-described image passed;
    valued = passed-valued image passed;
    register = record { short = passed-register image passed; fits = passed-fits image passed; takes = λ f s n u q v. passed-takes image passed f s n q v u };
    states = states-many image;
  }

  pub passed-acts : Acts (decode image) (section_at facilities_section facility_size image) (section_at operations_section operation_size image) (section_at expressions_section node_size image) (section_at actions_section action_size image) (length (section_at states_section state_size image) / state_size)
  unfolding decode sections_in
  passed-acts = sections-act (sections_in image) (passed-described image passed)

  pub operations-many : length (decode image).operations ≡ length (section_at operations_section operation_size image) / operation_size
  unfolding decode sections_in
  operations-many = operations-count (sections_in image)

  -- Conflicts are so few that 32 bits count them all.
  pub all-counted : (s : StoreWords) (r : S.Record) (ins : StoreWords) → counted (S.step (decode image) s r ins) ≡ S.step (decode image) s r ins
  unfolding most_work
  all-counted s r ins = go (S.step d s r ins) (λ s' r' n q. few-conflicts d (legal-image image passed) s r ins q)
    where
      go : (o : S.Outcome) → ((s' : StoreWords) (r' : S.Record) (n : ℕ) → o ≡ S.completed s' r' n → n ≤ most_work) → counted o ≡ o
      go (S.completed s' r' n) few = let m = few s' r' n refl in let e : min n 4294967295 ≡ n = omega (arith, m) in ap (S.completed s' r') e
      go (S.stopped k) few = refl
      go (S.stuck x) few = refl
