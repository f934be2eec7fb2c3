use Rattle.std.proofs.Common.{◌+◌, ap, arith}
use Rattle.std.specs.List.{sum_by}
use Rattle.std.proofs.lemmas.Option.{get_or_from_slice_get}
use Rattle.rail_model.specs.declared.items.Run.{Run}
use Rattle.rail_model.specs.Tables.{no_run}
use Rattle.section_cut.proofs.Arrivals.{leg_time, last_arrival_is, last_arrival_most}
use Rattle.section_cut.proofs.connections.last_arrival.Goals as goal

pub time_of-requires : goal.time_of-requires
time_of-requires c =
    let tables = c.args.tables.now in
    let is = get_or_from_slice_get tables.runs c.args.number c.run-run.result.now no_run c.run-run.ensures in
    let sum = ap (λ (r : Run). r.start_s + sum_by leg_time r.legs) is in
    omega (arith, sum, last_arrival_is tables c.learn_sound.ensures c.args.number c.requires, last_arrival_most tables c.learn_sound.ensures c.args.number c.requires)

pub overflow_add-result : goal.overflow_add-result
overflow_add-result c =
    let tables = c.args.tables.now in
    let is = get_or_from_slice_get tables.runs c.args.number c.run-run.result.now no_run c.run-run.ensures in
    let sum = ap (λ (r : Run). r.start_s + sum_by leg_time r.legs) is in
    omega (arith, c.from.ensures, c.time_of.ensures, sum, last_arrival_is tables c.learn_sound.ensures c.args.number c.requires, last_arrival_most tables c.learn_sound.ensures c.args.number c.requires)

pub returns-clause-same : goal.returns-clause-same
returns-clause-same c =
    let tables = c.args.tables.now in
    let is = get_or_from_slice_get tables.runs c.args.number c.run-run.result.now no_run c.run-run.ensures in
    let sum = ap (λ (r : Run). r.start_s + sum_by leg_time r.legs) is in
    omega (arith, c.time_of.ensures, sum, last_arrival_is tables c.learn_sound.ensures c.args.number c.requires)

pub returns-clause-bounded : goal.returns-clause-bounded
returns-clause-bounded c =
    let tables = c.args.tables.now in
    let is = get_or_from_slice_get tables.runs c.args.number c.run-run.result.now no_run c.run-run.ensures in
    let sum = ap (λ (r : Run). r.start_s + sum_by leg_time r.legs) is in
    omega (arith, c.time_of.ensures, sum, last_arrival_is tables c.learn_sound.ensures c.args.number c.requires, last_arrival_most tables c.learn_sound.ensures c.args.number c.requires)
