use Rattle.std.proofs.Common.{◌≡◌, ◌≤◌, length, refl, sym, ap, ◌∙◌, inl, inr}
use Rattle.std.proofs.lemmas.Bool.{both_ways, cases_lt}
use Rattle.std.proofs.lemmas.Option.{get_or_from_slice_get}
use Rattle.rail_model.specs.declared.items.Block.{Block}
use Rattle.rail_model.specs.declared.items.Section.{Section}
use Rattle.rail_model.specs.Tables.{no_block, no_section, section_at, block_name}
use Rattle.plan_model.specs.Cut.{position_in_section}
use Rattle.section_cut.proofs.wanted_blocks.add_section.Goals as goal

pub returns-else-has_name : goal.returns-else-has_name
returns-else-has_name c =
    let tables = c.args.tables.now in
    let block = c.args.block in
    let s = section_at tables c.args.section in
    let at : c.section.result.now ≡ s = sym (get_or_from_slice_get tables.sections c.args.section c.section.result.now no_section c.section.ensures) in
    let names : c.slice-names.result.now ≡ s.blocks = c.slice-names.ensures ∙ ap (λ (x : Section). x.blocks) at in
    let named : c.block.result.now.name ≡ block_name tables block =
    ap (λ (b : Block). b.name) (sym (get_or_from_slice_get tables.blocks block c.block.result.now no_block c.block.ensures)) in
    let out : length s.blocks ≤ position_in_section tables s block =
    elim (cases_lt (position_in_section tables s block) (length s.blocks)) [
      | inl inside ↦ absurd (both_ways c.has_name.result c.if-has_name.false (c.has_name.ensures.1 (rw (names, named) inside)))
      | inr beyond ↦ beyond
    ] in
    record { count = refl; kept = λ b is. is; added = λ has. absurd (has (c.requires.there, out)) }
