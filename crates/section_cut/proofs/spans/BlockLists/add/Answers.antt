use Rattle.section_cut.proofs.Parts.{over_more}
use Rattle.section_cut.proofs.spans.BlockLists.add.Goals as goal

pub returns : goal.returns
returns c all before =
    over_more all c.args.uses.now c.args.self.now (record { lists = c.number_in.new.lists; numbers = c.push.new.self }) c.in_ok-number.number
    c.in_ok-number.ensures.kept c.in_ok-push.ensures.items c.in_ok-number.ensures.over before
