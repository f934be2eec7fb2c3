use Rattle.std.proofs.Common.{drop}
use Rattle.std.proofs.lemmas.Bool.{ne_eqb}
use Rattle.row_text.proofs.Legs.{legs_in-first}
use Rattle.row_text.proofs.lists.run_legs.Goals as goal

pub returns-then-version-ne2 : goal.returns-then-version-ne2
returns-then-version-ne2 c =
    let other = ne_eqb c.args.version 2 c.if-version-ne2.true in
    rw (legs_in-first c.args.version c.args.start_s (drop c.args.from c.args.row.now) other) c.legs_from.ensures
