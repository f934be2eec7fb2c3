use Rattle.plan_model.proofs.TasksLeft as TasksLeft
use Rattle.plan_model.proofs.journal_laws.none_is_left.Goals as goal

pub returns : goal.returns
returns c = TasksLeft.none_is_left
