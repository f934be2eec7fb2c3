use Rattle.line_tables.specs.Inside.{whole_tables}
use Rattle.line_tables.proofs.Passed.{section_is, section_linked, section_numbered, numbers_read}
use Rattle.line_tables.proofs.line_tables.LineTables.section_blocks.Goals as goal

pub numbers_at-requires : goal.numbers_at-requires
numbers_at-requires c =
    let t = whole_tables c.self.inside in
    let section = c.nth.result.now in
    rw (c.slice-keys.ensures, c.deref.ensures.value)
    (section_numbered t c.self.invariant c.in_ok-numbers.numbers.items c.in_ok-numbers.ensures section
    (section_linked t c.self.invariant c.args.section section c.nth.ensures.item))

pub returns : goal.returns
returns c =
    let t = whole_tables c.self.inside in
    let j = c.self.invariant in
    let section = c.nth.result.now in
    rw (← c.self.view_is, section_is t j c.args.section section c.nth.ensures.item)
    (numbers_read t j c.in_ok-numbers.numbers.items c.in_ok-numbers.ensures section
    (section_linked t j c.args.section section c.nth.ensures.item) c.numbers_at.result
    (rw (c.slice-keys.ensures, c.deref.ensures.value) at c.numbers_at.ensures))
