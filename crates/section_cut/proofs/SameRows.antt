-- A section of the same window and the same blocks has a cut of the same rows.
use Rattle.std.proofs.Common.{◌≡◌, ℕ, List, ap, ◌∙◌}
use Rattle.rail_model.specs.declared.items.Section.{Section}
use Rattle.rail_model.specs.declared.tables.Tables.{Tables}
use Rattle.plan_model.specs.declared.cut.Cut.{Cut}
use Rattle.plan_model.specs.Cut.{section_cut}
use Rattle.section_cut.specs.Change.{HasSameRows}

abbrev of_section : Section → Cut → Cut
of_section section cut = record cut { section = section }

pub same_rows : (tables : Tables) (a b : Section) → HasSameRows a b → section_cut tables a ≡ of_section a (section_cut tables b)
same_rows tables a b same =
    let by : ℕ → ℕ → List (List ℕ) → Cut = λ from to blocks.
    of_section a (section_cut tables (record a { from_s = from; to_s = to; blocks = blocks })) in
    ap (λ n. by n a.to_s a.blocks) same.from ∙ ap (λ n. by b.from_s n a.blocks) same.to ∙ ap (by b.from_s b.to_s) same.blocks
