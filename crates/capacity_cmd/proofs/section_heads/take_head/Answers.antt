use Rattle.std.proofs.Common.{◌≡◌, length, refl, sym, ap, ◌∙◌}
use Rattle.capacity_cmd.specs.Heads.{in_turn}
use Rattle.capacity_cmd.proofs.SideBySide.{heads_left}
use Rattle.capacity_cmd.proofs.section_heads.take_head.Goals as goal

pub returns-clause-left : goal.returns-clause-left
returns-clause-left c =
    let tables = c.args.tables.now in
    let counted : c.sections.result ≡ length tables.sections = c.sections.ensures.count in
    let turn : in_turn (length tables.sections) c.turn_of-turn.result ≡ c.args.number =
    ap (λ k. in_turn k c.turn_of-turn.result) (sym counted) ∙ c.turn_of-turn.ensures.is in
    heads_left tables c.args.number c.turn_of-turn.result c.args.heads.now _ c.replace.new.dest c.requires.heads turn refl
