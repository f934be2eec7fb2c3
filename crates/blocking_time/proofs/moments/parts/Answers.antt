use Rattle.std.proofs.Common.{◌≡◌, arith}
use Rattle.std.proofs.lemmas.Int.{ints}
use Rattle.rail_model.specs.Blocking.{parts}
use Rattle.blocking_time.proofs.moments.parts.Goals as goal

pub returns-clause-sum : goal.returns-clause-sum
returns-clause-sum c =
    let same : c.parts_at.result ≡ parts c.args.path.now c.args.k = grind arith in
    rw same (omega (arith, ints))
