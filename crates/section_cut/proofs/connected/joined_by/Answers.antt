use Rattle.std.proofs.Common.{◌<◌, [], ◌∷◌, ◌++◌, length, take, true, false, sym, ap, ◌∙◌, arith}
use Rattle.std.specs.Prelude.{filter}
use Rattle.std.proofs.lemmas.List.{append-nil, take_all}
use Rattle.section_cut.specs.Connected.{joins}
use Rattle.section_cut.proofs.Lists.{filter_next}
use Rattle.section_cut.proofs.connected.joined_by.Goals as goal
use Rattle.section_cut.proofs.connected.joined_by.Goals.{then-joins+in_ok-push, else-joins}

pub loop-number-preserved : goal.loop-number-preserved
loop-number-preserved c =
    let all = c.args.tables.now.connections in
    let n = c.loop-number.number in
    let one = c.connection-connection.result.now in
    let here : n < length all = omega (arith, c.loop-number-test.true, c.connections-number-end.ensures.count) in
    elim c.if-joins.branch [
      | then-joins+in_ok-push w ↦
          w.all-is ∙ w.in_ok-push.ensures.ok ∙ ap (λ cs. cs ++ one ∷ []) c.loop-number.invariant
          ∙ sym (filter_next (joins c.args.name.now) all n one true here c.connection-connection.ensures (sym c.joins.ensures ∙ w.if-joins.true))
      | else-joins w ↦
          w.all-is ∙ c.loop-number.invariant
          ∙ sym
          (filter_next (joins c.args.name.now) all n one false here c.connection-connection.ensures (sym c.joins.ensures ∙ w.if-joins.false)
          ∙ append-nil (filter (joins c.args.name.now) (take n all)))
    ]

pub returns : goal.returns
returns c =
    let all = c.args.tables.now.connections in
    c.loop-number.invariant
    ∙ ap (filter (joins c.args.name.now)) (take_all c.loop-number.number all (omega (arith, c.loop-number-test.false, c.connections-number-end.ensures.count)))
