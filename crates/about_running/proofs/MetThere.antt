-- What the account meets is so on the store that stands then: a subscript met is worth a value outside its bounds. Assumes nothing.
use Rattle.std.specs.Prelude.{false, ◌≡◌}
use mathlib.Core.List.{List, [], ◌∷◌, ◌++◌}
use Rattle.std.proofs.Math.Path.{refl}
use Rattle.language.specs.Description.{Description, in_bounds}
use Rattle.language.specs.Meaning.{Stores}
use Rattle.language.specs.Value.{Value}
use Rattle.about_running.specs.Account as Account
use Rattle.about_running.specs.Account.{Comes, Executed, Executes, Met, Subscript, Task, Work, Worth, lands, meets, outside, stands}

module _ {X : Type 0} (S : Stores X) (d : Description) where
  pub data There (x : X) : Met → Type 0 where
    beyond : {t : Subscript} {v : Value} → Worth S d x t.expression v → in_bounds t.bounds v.number ≡ false → There x (outside t v)

  pub met-there : {x : X} {t : Task} {o : Met} → Comes S d x t (meets o) → There x o
  met-there (Account.reads_whole h) = met-there h
  met-there (Account.reads-one h) = met-there h
  met-there (Account.reads-part h) = met-there h
  met-there (Account.reads_two h) = met-there h
  met-there (Account.reads-word-part h) = met-there h
  met-there (Account.left_meets h) = met-there h
  met-there (Account.right-meets k h) = met-there h
  met-there (Account.prefix-meets h) = met-there h
  met-there (Account.cut-meets h) = met-there h
  met-there (Account.chosen k e f h) = met-there h
  met-there (Account.condition-meets h) = met-there h
  met-there (Account.worked-meets e k h) = met-there h
  met-there (Account.place-meets h) = met-there h
  met-there (Account.subscripts-meet h) = met-there h
  met-there (Account.within-meets h) = met-there h
  met-there (Account.lies-outside h e) = beyond h e
  met-there (Account.later-meets k e h) = met-there h
  met-there (Account.right-side-meets h) = met-there h
  met-there (Account.left-side-meets e h) = met-there h
  met-there (Account.later-side-meets e k h) = met-there h

  stands-both : (x : X) (es fs : List Executed) → stands S x (es ++ fs) ≡ stands S (stands S x es) fs
  unfolding stands
  stands-both x [] fs = refl
  stands-both x (e ∷ es) fs = stands-both (lands S x e) es fs

  pub course-there : {x : X} {w : Work} {es : List Executed} {o : Met} → Executes S d x w es (Account.met o) → There (stands S x es) o
  unfolding stands
  course-there {x} (Account.one_by_one {es = es} {fs = fs} h k) = rw (stands-both x es fs) (course-there k)
  course-there (Account.first-meets h) = course-there h
  course-there (Account.store-meets h) = met-there h
  course-there (Account.pair-meets h) = met-there h
  course-there (Account.set-meets e h) = met-there h
  course-there (Account.performs h) = course-there h
  course-there (Account.taken k e f h) = course-there h
  course-there (Account.when-meets h) = met-there h
  course-there (Account.chosen-arm k e f h) = course-there h
  course-there (Account.choose-meets h) = met-there h
