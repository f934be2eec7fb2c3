use Rattle.std.proofs.Common.{sym, ap, ◌∙◌}
use Rattle.std.specs.Prelude.{option_map}
use Rattle.plan_model.specs.Cut.{stamped}
use Rattle.plan_book.proofs.changes.change_of.Goals as goal

pub cut_after-requires : goal.cut_after-requires
cut_after-requires c = c.requires ∙ ap (option_map (stamped 0)) (sym c.cut_of-old.ensures)
