use Rattle.std.proofs.Common.{arith}
use Rattle.cycle_time.proofs.Answered.{found_is}
use Rattle.cycle_time.proofs.repetition.cycle_of.Goals as goal

pub returns : goal.returns
returns c =
    found_is c.args.cut.now (omega (arith, c.if-member_count-eq0.false, c.member_count.ensures.count)) c.in_ok-period.field-0
    c.in_ok-period.ensures c.in_ok-ring.ring c.in_ok-ring.ensures
