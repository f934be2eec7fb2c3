use Rattle.blocking_time.proofs.Uses.{use_is}
use Rattle.blocking_time.proofs.walk.use_in.Goals as goal

pub returns : goal.returns
returns c =
    use_is c.args.path.now c.args.k c.moments_in.result c.args.hop.now c.use_at.result c.moments_in.ensures.moments c.requires.hop c.use_at.ensures
