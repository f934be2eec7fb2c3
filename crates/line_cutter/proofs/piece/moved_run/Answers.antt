use Rattle.std.proofs.Common.{map, sym, ap, ◌∙◌}
use Rattle.line_cutter.specs.Cutting.{moved_use}
use Rattle.line_cutter.proofs.Ways.{none_earlier, none_later, no_more}
use Rattle.line_cutter.proofs.piece.moved_run.Goals as goal

pub loop-k-init : goal.loop-k-init
loop-k-init c =
    c.new-some.ensures
    ∙ ap (map (moved_use c.args.a))
    (sym (none_earlier c.args.uses.now c.requires.way c.args.a c.args.b c.args.first c.requires.begins))

pub returns-then-not-is_within : goal.returns-then-not-is_within
returns-then-not-is_within c =
    c.loop-k.invariant
    ∙ no_more c.args.a c.args.b c.args.uses.now c.loop-k.k
    (none_later c.args.uses.now c.requires.way c.args.a c.args.b c.args.first c.requires.begins c.loop-k.k c.loop-k.auto.k
    c.loop-k-test.true (sym c.is_within.ensures ∙ c.if-not-is_within.true))
