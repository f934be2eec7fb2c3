use Rattle.std.proofs.Common.{refl}
use Rattle.answer_parts.proofs.Added.{all_none}
use Rattle.capacity_report.proofs.compressed.critical_rows.Goals as goal

pub returns-in-None : goal.returns-in-None
returns-in-None c = rw c.in-None.is (all_none c.args.sheet.now c.args.sheet.now refl c.requires.closed)
