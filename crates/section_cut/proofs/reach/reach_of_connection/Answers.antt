use Rattle.section_cut.proofs.Reached.{one_connection}
use Rattle.section_cut.proofs.reach.reach_of_connection.Goals as goal

pub returns : goal.returns
returns c =
    one_connection c.args.before.now c.args.after.now c.args.edit.now (record { name = c.args.name; after = c.connection_named.result }) c.requires.after
    c.requires.name c.connection_named.ensures
