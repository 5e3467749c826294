use Rattle.language.specs.Acting as T
use Rattle.run_actions.proofs.run.run_actions.Goals as goal

pub returns : goal.returns
unfolding T.run_actions
returns c = λ d x h e k. rw k (c.run_list.ensures d x h e)
