use Rattle.std.proofs.Common.{refl, rules}
use Rattle.row_text.proofs.PlainRows.{HasCut-none}
use Rattle.row_text.proofs.plain_rows.cut_whole.Goals as goal

pub cut_text-requires-clause-fresh : goal.cut_text-requires-clause-fresh
cut_text-requires-clause-fresh c = HasCut-none c.args.text.now _ c.in_ok-places.ensures.cuts c.in_ok-places.ensures.ends refl refl

pub returns : goal.returns
returns c = c.in_ok-cut_text.ensures (search rules)
