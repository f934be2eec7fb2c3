use Rattle.std.proofs.Common.{◌+◌, ◌<◌, [], ◌∷◌, ◌++◌, length, map, take, true, false, sym, ap, ◌∙◌, arith}
use Rattle.std.specs.Prelude.{filter}
use Rattle.std.proofs.lemmas.List.{append-nil, map-append, length-map}
use Rattle.rail_model.specs.declared.items.Connection.{Connection}
use Rattle.rail_model.specs.declared.items.Run.{Run}
use Rattle.plan_model.specs.declared.cut.CutRow.{CutRow}
use Rattle.plan_model.specs.Cut.{binds}
use Rattle.section_cut.specs.Members.{members_of}
use Rattle.section_cut.specs.Bound.{with_connections, both_added}
use Rattle.section_cut.proofs.Lists.{filter_next}
use Rattle.section_cut.proofs.Known.{connection_read, run_start_most, few_bind, none_added}
use Rattle.section_cut.proofs.BindingStep.{both_more}
use Rattle.section_cut.proofs.connections.connections.Goals as goal
use Rattle.section_cut.proofs.connections.connections.Goals.{in-Some+in_ok-add_bound+in_ok-push, in_default}

pub loop-number-init : goal.loop-number-init
loop-number-init c = record {
  names = c.new-names.ensures;
  rows = sym (none_added c.args.tables.now c.args.section.now c.args.rows.now);
}

pub bound_by-requires-clause-first : goal.bound_by-requires-clause-first
bound_by-requires-clause-first c =
    (connection_read c.args.tables.now c.connections-number-end.ensures.sound c.loop-number.number c.connection-connection.result.now
    (omega (arith, c.loop-number-test.true, c.connections-number-end.ensures.count)) c.connection-connection.ensures).first

pub bound_by-requires-clause-second : goal.bound_by-requires-clause-second
bound_by-requires-clause-second c =
    (connection_read c.args.tables.now c.connections-number-end.ensures.sound c.loop-number.number c.connection-connection.result.now
    (omega (arith, c.loop-number-test.true, c.connections-number-end.ensures.count)) c.connection-connection.ensures).second

pub bound_by-requires-clause-minimum : goal.bound_by-requires-clause-minimum
bound_by-requires-clause-minimum c =
    (connection_read c.args.tables.now c.connections-number-end.ensures.sound c.loop-number.number c.connection-connection.result.now
    (omega (arith, c.loop-number-test.true, c.connections-number-end.ensures.count)) c.connection-connection.ensures).minimum

pub overflow_cast-place : goal.overflow_cast-place
overflow_cast-place c =
    let few = few_bind c.args.tables.now c.connections-number-end.ensures.sound c.args.section.now c.loop-number.number c.loop-number.names
    (omega (arith, c.loop-number-test.true, c.connections-number-end.ensures.count)) c.loop-number.invariant.names in
    omega (arith, few, c.len.ensures.count, c.len-in-Some.ensures.count, c.requires.blocks)

pub add_bound-requires-clause-first : goal.add_bound-requires-clause-first
add_bound-requires-clause-first c =
    let tables = c.args.tables.now in
    let section = c.args.section.now in
    omega (
      arith,
      c.in-Some.ensures.some.first_there,
      ap length c.loop-number.invariant.rows,
      ap length c.requires.rows,
      length-map c.args.rows.now (with_connections tables section (filter (binds tables section) (take c.loop-number.number tables.connections))),
      length-map c.args.rows.now (λ (r : CutRow). r.name),
      length-map (members_of tables section) (λ (r : Run). r.name),
    )

pub add_bound-requires-clause-second : goal.add_bound-requires-clause-second
add_bound-requires-clause-second c =
    let tables = c.args.tables.now in
    let section = c.args.section.now in
    omega (
      arith,
      c.in-Some.ensures.some.second_there,
      ap length c.loop-number.invariant.rows,
      ap length c.requires.rows,
      length-map c.args.rows.now (with_connections tables section (filter (binds tables section) (take c.loop-number.number tables.connections))),
      length-map c.args.rows.now (λ (r : CutRow). r.name),
      length-map (members_of tables section) (λ (r : Run). r.name),
    )

pub add_bound-requires-clause-start : goal.add_bound-requires-clause-start
add_bound-requires-clause-start c =
    let known = connection_read c.args.tables.now c.connections-number-end.ensures.sound c.loop-number.number c.connection-connection.result.now
    (omega (arith, c.loop-number-test.true, c.connections-number-end.ensures.count)) c.connection-connection.ensures in
    omega (arith, c.in-Some.ensures.some.start, run_start_most c.args.tables.now c.connections-number-end.ensures.sound c.connection-connection.result.now.second known.second)

pub loop-number-preserved : goal.loop-number-preserved
loop-number-preserved c =
    let tables = c.args.tables.now in
    let section = c.args.section.now in
    let n = c.loop-number.number in
    let connection = c.connection-connection.result.now in
    let sound = c.connections-number-end.ensures.sound in
    let here : n < length tables.connections = omega (arith, c.loop-number-test.true, c.connections-number-end.ensures.count) in
    let known = connection_read tables sound n connection here c.connection-connection.ensures in
    let some = filter (binds tables section) (take n tables.connections) in
    let name = λ (c : Connection). c.name in
    elim c.match-bound_by.branch [
      | in-Some+in_ok-add_bound+in_ok-push w ↦
          let bound = w.in-Some.ensures.some in
          let more = filter_next (binds tables section) tables.connections n connection true here c.connection-connection.ensures bound.binds in
          record {
            names = w.names-is ∙ w.in_ok-push.ensures.ok ∙ ap (λ ns. ns ++ connection.name ∷ []) c.loop-number.invariant.names
                ∙ sym (ap (map name) more ∙ map-append name some (connection ∷ []));
            rows = w.rows-is ∙ w.in_ok-add_bound.ensures
                ∙ ap (λ rs. both_added rs w.in-Some.bound (w.len.result + w.len-in-Some.result)) c.loop-number.invariant.rows
                ∙ both_more tables section connection w.in-Some.bound (w.len.result + w.len-in-Some.result) bound sound some c.args.rows.now
                c.requires.rows known.two
                (omega (arith, w.len.ensures.count, w.len-in-Some.ensures.count, ap length c.loop-number.invariant.names, length-map some name))
                ∙ sym (ap (λ cs. map (with_connections tables section cs) c.args.rows.now) more);
          }
      | in_default w ↦
          let more = filter_next (binds tables section) tables.connections n connection false here c.connection-connection.ensures w.in_default.ensures.none
          ∙ append-nil some in
          record {
            names = w.names-is ∙ c.loop-number.invariant.names ∙ sym (ap (map name) more);
            rows = w.rows-is ∙ c.loop-number.invariant.rows
                ∙ sym (ap (λ cs. map (with_connections tables section cs) c.args.rows.now) more);
          }
    ]
