use Rattle.section_cut.proofs.Joined.{cut_is}
use Rattle.section_cut.proofs.cuts.cut_of_members.Goals as goal

pub returns : goal.returns
returns c stamp rows =
    cut_is c.args.tables.now c.learn_sound.ensures c.args.section.now stamp c.in_ok-copy.field-0 c.in_ok-connections.connections
    c.args.members.rows c.connections.new.rows c.in_ok-copy.ensures c.in_ok-connections.ensures.names rows c.in_ok-connections.ensures.rows
