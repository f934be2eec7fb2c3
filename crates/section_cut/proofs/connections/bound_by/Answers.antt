use Rattle.std.proofs.Common.{◌≡◌, ◌+◌, ◌<◌, w64, to_z, of_z, ap, ◌∙◌, refl, rules, arith}
use Rattle.std.specs.Prelude.{pos}
use Rattle.std.proofs.lemmas.Int.{to_z-of_z, to_z_pos}
use Rattle.rail_model.specs.Tables.{run_at, last_arrival}
use Rattle.plan_model.specs.Members.{comes_before}
use Rattle.section_cut.proofs.BoundBy.{run_read, out_of_order, in_order}
use Rattle.section_cut.proofs.connections.bound_by.Goals as goal

pub returns-then-not-comes_before-clause-none : goal.returns-then-not-comes_before-clause-none
returns-then-not-comes_before-clause-none c =
    let tables = c.args.tables.now in
    let connection = c.args.connection.now in
    let one = c.in_ok-one.one in
    let run = c.run.result.now in
    let entry = to_z-of_z w64 one.entry (search rules) in
    let start = to_z-of_z w64 c.from.result (search rules) in
    let told : c.comes_before.result ≡ comes_before one.entry connection.first (pos run.start_s) connection.second =
    c.comes_before.ensures ∙ ap (λ x. comes_before x connection.first (to_z w64 (of_z w64 c.from.result)) connection.second) entry
    ∙ ap (λ x. comes_before one.entry connection.first x connection.second) (start ∙ c.from.ensures) in
    let is = run_read tables c.args.section.now connection connection.second c.number_of_run-second.result run c.number_of_run-second.ensures.number c.run.ensures in
    out_of_order tables c.args.section.now connection one c.in_ok-other.other run c.comes_before.result
    c.in_ok-one.ensures.some c.in_ok-other.ensures.some is told c.if-not-comes_before.true

pub returns-clause-some : goal.returns-clause-some
returns-clause-some c =
    let tables = c.args.tables.now in
    let connection = c.args.connection.now in
    let one = c.in_ok-one.one in
    let run = c.run.result.now in
    let entry = to_z-of_z w64 one.entry (search rules) in
    let start = to_z-of_z w64 c.from.result (search rules) in
    let told : c.comes_before.result ≡ comes_before one.entry connection.first (pos run.start_s) connection.second =
    c.comes_before.ensures ∙ ap (λ x. comes_before x connection.first (to_z w64 (of_z w64 c.from.result)) connection.second) entry
    ∙ ap (λ x. comes_before one.entry connection.first x connection.second) (start ∙ c.from.ensures) in
    let is = run_read tables c.args.section.now connection connection.second c.number_of_run-second.result run c.number_of_run-second.ensures.number c.run.ensures in
    let bounded : c.last_arrival.result + c.from-2.result < 9223372036854775808 =
    omega (arith, c.last_arrival.ensures.bounded, c.from-2.ensures, c.requires.minimum) in
    let until =
    to_z_pos w64 (c.last_arrival.result + c.from-2.result) bounded
    ∙ ap (λ m. pos (c.last_arrival.result + m)) c.from-2.ensures
    ∙ ap (λ t. pos (t + connection.minimum_s)) (c.last_arrival.ensures.same ∙ ap (λ k. last_arrival tables (run_at tables k)) c.number_of_run-first.ensures.number) in
    in_order tables c.args.section.now connection one c.in_ok-other.other run c.comes_before.result
    c.in_ok-one.ensures.some c.in_ok-other.ensures.some is told c.if-not-comes_before.false _ refl refl entry until refl
