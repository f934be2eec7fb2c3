use Rattle.std.proofs.Common.{refl}
use Rattle.session_run.proofs.Seating.{new_actor}
use Rattle.session_run.proofs.threads.actor_of.Goals as goal

pub new-requires : goal.new-requires
new-requires c = rw c.requires.pass.is (record { desk_is = refl; idle = refl })

pub returns : goal.returns
returns c =
    rw c.new.ensures
    (new_actor c.args.desk.now c.args.planners c.args.workers c.args.number c.args.pass c.duty_of.result c.requires.pass c.requires.number c.duty_of.ensures)
