use Rattle.std.proofs.Common.{rules, subst}
use Rattle.turn_desk.specs.Journal.{HaveNoneInCommon}
use Rattle.turn_desk.specs.Steps.{Mine}
use Rattle.turn_desk.proofs.Passing.{joining, telling}
use Rattle.turn_desk.proofs.steps.join_one.Goals as goal

pub join_seat-requires : goal.join_seat-requires
join_seat-requires g c = let kept = g.V.Kept in let seat = c.args.seat.now in (
  search rules,
  search rules,
  search rules,
  search rules,
  joining kept.entries kept.pass_of kept.issued_by kept.is_legal g.met.V.Kept.longer_issues_no_fewer seat.id seat.me.0
      c.args.other.id c.args.other.me.0 c.requires.idle.0 c.requires.idle.1,
)

pub load-requires : goal.load-requires
load-requires g c = let kept = g.V.Kept in
    let seat = c.join_seat.new.seat in (
      search rules,
      search rules,
      telling kept.entries kept.pass_of kept.issued_by kept.is_legal
          g.met.V.Kept.longer_issues_no_fewer c.args.shared.now.table_id.slots seat.id seat.me,
    )

pub returns-clause-apart : goal.returns-clause-apart
returns-clause-apart g c = subst (λ (m : Mine g.row.V.Denot g.row.V-Entry.Denot). HaveNoneInCommon m.0.one.numbers m.0.two.numbers)
    c.join_seat.ensures.2 c.load.ensures.2.2
