use Rattle.std.proofs.Common.{◌≡◌, ◌∙◌, true, false, sym, ap}
use Rattle.std.specs.Prelude.{is_some}
use Rattle.rail_model.specs.declared.items.Item.TheVariants as item
use Rattle.rail_model.specs.declared.items.Block.{Block}
use Rattle.rail_model.specs.Rules.{refers_to_known}
use Rattle.line_tables.specs.Inside.{whole_tables, tables_of}
use Rattle.line_tables.proofs.Known.{section_known_by, refused_unknown, refused_twice}
use Rattle.line_tables.proofs.Meets.{has_repeat_keyed}
use Rattle.line_tables.proofs.line_tables.LineTables.rule_of_blocks.Goals as goal

pub returns-in_default : goal.returns-in_default
returns-in_default c =
    let t = whole_tables c.self.inside in
    let x = c.args.section.now in
    let known = rw c.slice.ensures at c.in_ok-blocks.ensures.known in
    let unknown : refers_to_known (tables_of t) (item.Section x) ≡ false = section_known_by t x ∙ sym known ∙ ap is_some c.in_default.is in
    rw (← c.self.view_is) (sym (refused_unknown (tables_of t) (item.Section x) unknown))

pub returns : goal.returns
returns c =
    let t = whole_tables c.self.inside in
    let x = c.args.section.now in
    let known = rw c.slice.ensures at c.in_ok-blocks.ensures.known in
    let there : refers_to_known (tables_of t) (item.Section x) ≡ true = section_known_by t x ∙ sym known ∙ ap is_some c.in-Some.is in
    let keyed = rw (c.slice.ensures, c.in-Some.is) at c.in_ok-blocks.ensures.keys in
    let twice = has_repeat_keyed (λ (b : Block). b.name) t.blocks c.in_ok-blocks.ensures.table x.blocks c.in-Some.blocks keyed ∙ sym (rw c.slice-2.ensures at c.in_ok-repeats.ensures) in
    rw (← c.self.view_is) (c.twice_if.ensures ∙ sym (refused_twice (tables_of t) (item.Section x) c.in_ok-repeats.field-0 there twice))
