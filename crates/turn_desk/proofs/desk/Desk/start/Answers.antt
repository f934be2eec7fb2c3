use Rattle.std.proofs.Common.{rules, ◌≡◌, [], ◌∷◌, Some, sym, subst}
use Rattle.std.specs.Prelude.{List, Option}
use Rattle.atomic_table.specs.Table.{opening}
use Rattle.turn_desk.specs.Rule.{Standing}
use Rattle.turn_desk.specs.Views.{first_view}
use Rattle.turn_desk.proofs.Turns.{opens}
use Rattle.turn_desk.proofs.desk.Desk.start.Goals as goal

pub new-requires : goal.new-requires
new-requires g c =
    let kept = g.V.Kept in
    let items : c.push.new.self.items ≡ Some c.args.value ∷ [] = search rules in
    let key : c.of-key.result.value ≡ c.args.value = search rules in
    subst (λ (z : List (Option g.row.V.Denot) × g.row.V.Denot). Standing kept.entries kept.pass_of kept.issued_by
    kept.is_legal (opening (0 ∷ []) z.0 (first_view (kept.entries z.1))))
    (λ i. (sym items i, sym key i))
    (opens kept.entries kept.pass_of kept.issued_by kept.is_legal g.met.V.Kept.longer_issues_no_fewer c.args.value
    c.learn_legal.ensures c.requires.alone c.requires.zero)
