use Rattle.cycle_time.proofs.Kept.{repeat, keep_all}
use Rattle.cycle_time.proofs.keeping.repeats.Goals as goal

pub returns : goal.returns
returns c =
    let cut = c.args.cut.now in
    let entries = c.args.entries.now in (
      λ t. repeat cut c.args.period entries c.requires (c.keeps_all.ensures.0 t),
      λ r. c.keeps_all.ensures.1 (keep_all cut c.args.period entries r),
    )
