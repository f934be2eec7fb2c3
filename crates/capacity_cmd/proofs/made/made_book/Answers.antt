use Rattle.std.proofs.Common.{List, subst}
use Rattle.std.specs.Prelude.{IfOk}
use Rattle.rail_model.specs.declared.tables.Tables.{Tables}
use Rattle.plan_model.specs.declared.scripts.Task.{Task}
use Rattle.plan_model.specs.Session.{IsSession}
use Rattle.made_line.specs.declared.counts.TheConstants.{BASE_EDITS, WORKERS}
use Rattle.made_line.specs.Base.{scripts_of_made}
use Rattle.capacity_cmd.proofs.made.made_book.Goals as goal

pub returns : goal.returns
returns g c =
    let scripts = scripts_of_made c.args.n in
    subst (λ (t : Tables). IfOk c.session.result (IsSession t BASE_EDITS scripts WORKERS)) c.requires
    (subst (λ (s : List (List Task)). IfOk c.session.result (IsSession c.args.tables BASE_EDITS s WORKERS))
    c.in_ok-scripts.ensures c.session.ensures)
