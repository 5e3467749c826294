-- What the definition keeps of the actions of a cycle, ->, RETURN, => and stores to the sequencing register, is what is counted of those executed. Assumes nothing.
use Rattle.std.proofs.Math.Bool.{false, or_assoc, or-false}
use Rattle.std.specs.Prelude.{◌||◌, ◌≡◌, ◌+◌, length}
use mathlib.Core.List.{List, [], ◌∷◌}
use Rattle.std.proofs.Math.Path.{sym}
use Rattle.std.proofs.Common.{◌∙◌, arith}
use Rattle.std.proofs.Math.ListN.{length-append}
use Rattle.language.specs.Acting as A
use Rattle.language.specs.Acting.{Doing}
use Rattle.language.specs.Description.{Description}
use Rattle.language.specs.Store.{Held, numbers}
use Rattle.about_running.specs.Account as Account
use Rattle.about_running.specs.Account.{Executed, to_register}
use Rattle.about_running.proofs.ActionsAccounted.{done}
use Rattle.about_running.specs.Conditions.{any_of, how_many, is_call, is_goto, is_return, is_sequenced}

pub record Counts (d : Description) (es : List Executed) (c e : Doing Held) : Type 0 where
  pub gotos-so : length e.gotos ≡ length c.gotos + how_many is_goto es
  pub returns-so : e.returns ≡ c.returns + how_many is_return es
  pub calls-so : length e.calls ≡ length c.calls + how_many is_call es
  pub sequenced-so : e.sequenced ≡ c.sequenced || any_of (is_sequenced d) es

module _ (d : Description) where
  pub counts : (es : List Executed) (c : Doing Held) → Counts d es c (done (numbers d) d es c)
  unfolding done how_many any_of
  counts [] c = record { gotos-so = omega arith; returns-so = omega arith; calls-so = omega arith; sequenced-so = sym (or-false c.sequenced) }
  counts (Account.delayed ws ∷ es) c =
      let h = counts es (A.with_store (numbers d) d ((numbers d).delay c.store ws) (to_register d ws) c) in
      record { gotos-so = omega (arith, h.gotos-so); returns-so = omega (arith, h.returns-so); calls-so = omega (arith, h.calls-so); sequenced-so = h.sequenced-so ∙ or_assoc c.sequenced (to_register d ws) (any_of (is_sequenced d) es) }
  counts (Account.immediate ws ∷ es) c =
      let h = counts es (A.with_store (numbers d) d (Account.put_each (numbers d) c.store ws) false c) in
      record { gotos-so = omega (arith, h.gotos-so); returns-so = omega (arith, h.returns-so); calls-so = omega (arith, h.calls-so); sequenced-so = h.sequenced-so ∙ or_assoc c.sequenced false (any_of (is_sequenced d) es) }
  counts (Account.sets p ∷ es) c =
      let h = counts es (A.with_store (numbers d) d ((numbers d).put c.store (Account.number_for p 1)) false c) in
      record { gotos-so = omega (arith, h.gotos-so); returns-so = omega (arith, h.returns-so); calls-so = omega (arith, h.calls-so); sequenced-so = h.sequenced-so ∙ or_assoc c.sequenced false (any_of (is_sequenced d) es) }
  counts (Account.goes s ∷ es) c =
      let h = counts es (A.going_to (numbers d) d s c) in
      record { gotos-so = omega (arith, h.gotos-so, length-append c.gotos (s ∷ [])); returns-so = omega (arith, h.returns-so); calls-so = omega (arith, h.calls-so); sequenced-so = h.sequenced-so }
  counts (Account.calls s ∷ es) c =
      let h = counts es (A.calling (numbers d) d s c) in
      record { gotos-so = omega (arith, h.gotos-so); returns-so = omega (arith, h.returns-so); calls-so = omega (arith, h.calls-so, length-append c.calls (s ∷ [])); sequenced-so = h.sequenced-so }
  counts (Account.returns ∷ es) c =
      let h = counts es (A.returning (numbers d) d c) in
      record { gotos-so = omega (arith, h.gotos-so); returns-so = omega (arith, h.returns-so); calls-so = omega (arith, h.calls-so); sequenced-so = h.sequenced-so }
