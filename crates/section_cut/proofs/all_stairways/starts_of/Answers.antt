use Rattle.std.proofs.Common.{◌<◌, length, subst, arith}
use Rattle.std.proofs.lemmas.List.{take_all}
use Rattle.rail_model.specs.Conflict.{no_use}
use Rattle.section_cut.specs.Starts.{StartsBetween}
use Rattle.section_cut.proofs.Starts.{between_more}
use Rattle.section_cut.proofs.all_stairways.starts_of.Goals as goal

pub loop-one-preserved : goal.loop-one-preserved
loop-one-preserved c =
    let uses = c.args.uses.now in
    let n = c.loop-one.one-index in
    let here : n < length uses = omega (arith, c.loop-one-test.true) in
    between_more c.loop-one.starts c.with_use-starts.result uses n no_use here
    c.with_use-starts.ensures.first c.with_use-starts.ensures.last c.loop-one.invariant

pub returns : goal.returns
returns c =
    subst (StartsBetween c.loop-one.starts) (take_all c.loop-one.one-index c.args.uses.now (omega (arith, c.loop-one-test.false))) c.loop-one.invariant
