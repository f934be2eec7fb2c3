use Rattle.session_run.proofs.Acting.{same_work, works_again}
use Rattle.session_run.proofs.actor.Actor.work_on.Goals as goal

pub loop-init : goal.loop-init
loop-init g c = same_work c.args.self.now c.requires

pub loop-preserved : goal.loop-preserved
loop-preserved g c = works_again c.args.self.now c.loop.self c.go_on.new.self c.loop.invariant c.go_on.ensures
