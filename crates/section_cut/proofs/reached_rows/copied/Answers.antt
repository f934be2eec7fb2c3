use Rattle.std.proofs.Common.{Some, None, refl, sym, subst, inl}
use Rattle.std.specs.Prelude.{option_map}
use Rattle.std.specs.Option.{option_copied}
use Rattle.plan_model.specs.declared.cut.CutRow.{CutRow}
use Rattle.plan_model.specs.Cut.{stamped_row}
use Rattle.section_cut.specs.ReachedRuns.{IsRowAfter}
use Rattle.section_cut.proofs.reached_rows.copied.Goals as goal

pub returns : goal.returns
returns c number =
    subst (λ o. IsRowAfter (option_map (stamped_row 0) (option_copied o)) number (option_copied o) (Some c.in_ok-copy.field-0)) (sym c.in-Some.is)
    (subst (λ (r : CutRow). IsRowAfter (Some (stamped_row 0 c.in-Some.row.now)) number (Some c.in-Some.row.now) (Some r)) (sym c.in_ok-copy.ensures)
    (record { value = refl; stamp = inl refl }))

pub returns-in_default : goal.returns-in_default
returns-in_default c number =
    subst (λ o. IsRowAfter (option_map (stamped_row 0) (option_copied o)) number (option_copied o) None) (sym c.in_default.is)
    (record { value = refl; stamp = tt })
