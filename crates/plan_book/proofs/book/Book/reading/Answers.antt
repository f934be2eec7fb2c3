use Rattle.std.proofs.Common.{◌∙◌, ap}
use Rattle.std.specs.Prelude.{option_map}
use Rattle.plan_model.specs.Cut.{stamped}
use Rattle.plan_book.specs.Stored.{cut_in}
use Rattle.plan_book.proofs.Sections.{cut_not_missing}
use Rattle.plan_book.proofs.book.Book.reading.Goals as goal

pub unreachable-requires : goal.unreachable-requires
unreachable-requires c =
    cut_not_missing c.args.self.now c.args.number c.shelf.ensures.is_journal c.requires
    (c.shelf.ensures.shelf.cut.value ∙ ap (λ o. option_map (stamped 0) (option_map cut_in o)) c.in_default.is)
