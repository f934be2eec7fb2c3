use Rattle.std.proofs.Common.{◌++◌, take, List, sym, ap, ◌∙◌, subst, arith}
use Rattle.std.specs.List.{filter_map}
use Rattle.std.specs.Option.{option_to_list}
use Rattle.std.proofs.lemmas.List.{append_assoc, take_all}
use Rattle.rail_model.specs.declared.items.Connection.{Connection}
use Rattle.rail_model.specs.declared.stair.Use.{Use}
use Rattle.plan_model.specs.declared.cut.CutRow.{CutRow}
use Rattle.rail_model.specs.Tables.{run_at}
use Rattle.section_cut.specs.Connected.{IsOneOf, use_if_listed}
use Rattle.section_cut.proofs.Listed.{filter_map_more}
use Rattle.section_cut.proofs.connected.add_joined.Goals as goal

pub add_if_listed-requires-clause-entry : goal.add_if_listed-requires-clause-entry
add_if_listed-requires-clause-entry c = ap (λ (r : CutRow). r.entry) c.loop-connection.invariant ∙ c.requires.entry

pub add_if_listed-requires-clause-one : goal.add_if_listed-requires-clause-one
add_if_listed-requires-clause-one c =
    subst (IsOneOf (run_at c.args.tables.now c.args.number).name) (sym c.connection-item.is)
    (c.requires.joined c.loop-connection.connection-index c.connection-item.result c.loop-connection-test.true)

pub loop-connection-preserved : goal.loop-connection-preserved
loop-connection-preserved c =
    let f = use_if_listed c.args.tables.now c.args.old.now.section c.args.old.now.connections (run_at c.args.tables.now c.args.number) in
    let joined = c.args.joined.now in
    let i = c.loop-connection.connection-index in
    let first = c.args.row.now in
    let with_uses : CutRow → List Use → CutRow = λ r uses. record r { uses = uses } in
    let next = c.connection-item.result in
    c.in_ok-add_if_listed.ensures
    ∙ ap (λ (r : CutRow). with_uses r (r.uses ++ option_to_list (f next))) c.loop-connection.invariant
    ∙ ap (with_uses first)
    (append_assoc first.uses (filter_map f (take i joined)) (option_to_list (f next))
    ∙ ap (λ us. first.uses ++ us)
    (ap (λ (n : Connection). filter_map f (take i joined) ++ option_to_list (f n)) c.connection-item.is ∙ sym (filter_map_more f joined i next c.loop-connection-test.true)))

pub returns : goal.returns
returns c =
    let f = use_if_listed c.args.tables.now c.args.old.now.section c.args.old.now.connections (run_at c.args.tables.now c.args.number) in
    let first = c.args.row.now in
    c.loop-connection.invariant
    ∙ ap (λ cs. record first { uses = first.uses ++ filter_map f cs }) (take_all c.loop-connection.connection-index c.args.joined.now (omega (arith, c.loop-connection-test.false)))
