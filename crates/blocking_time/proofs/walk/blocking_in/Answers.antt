use Rattle.blocking_time.proofs.Uses.{blocking_by}
use Rattle.blocking_time.proofs.walk.blocking_in.Goals as goal

pub returns : goal.returns
returns c =
    blocking_by c.args.path.now c.args.k _ _ _ _ c.moments_in-at.ensures.moments c.requires.hop c.use_at.ensures c.parts_at.ensures
