-- What the code's action records mean in the language.
use Rattle.language.specs.Description as D
use Rattle.image_records.specs.declared.actions.Action.{Action}
use Rattle.image_records.specs.declared.actions.Action.TheVariants as A

abbrev pub meant : Action → D.Action
meant (A.Store k l r) = D.store k l r
meant (A.StorePair k l m r) = D.store_pair k l m r
meant (A.Set l) = D.set l
meant (A.Perform o) = D.perform o
meant (A.Goto s) = D.goto s
meant (A.Call s) = D.call s
meant A.Return = D.return
meant (A.When c x) = D.when c x
meant (A.Choose c n x) = D.choose c n x
meant (A.Arm x) = D.arm x
meant A.Broken = D.Action.broken
