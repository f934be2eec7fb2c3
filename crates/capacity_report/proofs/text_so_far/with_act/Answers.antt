use Rattle.std.proofs.Common.{refl}
use Rattle.capacity_report.specs.Rows.{act_rows}
use Rattle.capacity_report.proofs.TextSoFar.{grows_by}
use Rattle.capacity_report.proofs.text_so_far.with_act.Goals as goal

pub returns : goal.returns
returns c = grows_by c.args.before _ (act_rows c.args.act.now) c.requires.there refl refl c.in_ok-act_rows.ensures.rows
