use Rattle.std.proofs.lemmas.Bool.{leb-true, ltb-true}
use Rattle.line_cutter.proofs.Ways.{none_before, none_behind}
use Rattle.line_cutter.proofs.piece.is_aside.Goals as goal

pub returns-then-first-a : goal.returns-then-first-a
returns-then-first-a c = λ t. none_before c.args.uses.now c.requires c.args.a c.args.b c.if-first-a.true (ltb-true _ _ t)

pub returns-then-b-first : goal.returns-then-b-first
returns-then-b-first c = λ t. none_behind c.args.uses.now c.requires c.args.a c.args.b c.if-b-first.true (leb-true _ _ t)
