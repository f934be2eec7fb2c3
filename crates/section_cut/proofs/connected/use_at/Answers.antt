use Rattle.std.proofs.Common.{◌≡◌, ℕ, ℤ, ◌+◌, ◌<◌, ◌+ℤ◌, true, false, w64, to_z, of_z, Some, sym, ap, ◌∙◌, inl, inr, rules, arith}
use Rattle.std.specs.Prelude.{pos}
use Rattle.std.proofs.lemmas.Bool.{false_from_ne_true, or_cases, both_ways}
use Rattle.std.proofs.lemmas.Int.{to_z-of_z, to_z_pos}
use Rattle.std.proofs.lemmas.Option.{get_or_from_slice_get}
use Rattle.rail_model.specs.declared.items.Run.{Run}
use Rattle.rail_model.specs.Name.{is_same}
use Rattle.rail_model.specs.declared.stair.Use.{Use}
use Rattle.rail_model.specs.Tables.{no_run, run_at}
use Rattle.rail_model.proofs.Facts.{run_facts}
use Rattle.rail_model.proofs.Paths.{run_stands}
use Rattle.plan_model.specs.Cut.{entry_of}
use Rattle.rail_model.proofs.NameOrder.{same_name, is_same-from}
use Rattle.section_cut.proofs.BindsBy.{first_use_is, second_use_is}
use Rattle.section_cut.proofs.connected.use_at.Goals as goal

abbrev used : ℕ → ℤ → ℤ → Use
used place start until = record { block = place; start = start; «end» = until }

pub returns-then-same_name : goal.returns-then-same_name
returns-then-same_name c =
    let tables = c.args.tables.now in
    let connection = c.args.connection.now in
    let n = c.args.number in
    let here = get_or_from_slice_get tables.runs n c.run-run.result.now no_run c.run-run.ensures in
    let first = is_same-from connection.first (run_at tables n).name (c.same_name.ensures.0 c.if-same_name.true ∙ sym (ap (λ (r : Run). r.name) here)) in
    ap (λ (e : ℤ). Some (used c.args.place e (to_z w64 (of_z w64 c.until.result)))) (to_z-of_z w64 c.args.entry (search rules) ∙ c.requires.entry)
    ∙ ap (λ (e : ℤ). Some (used c.args.place (entry_of tables c.args.section.now (run_at tables n)) e)) (to_z-of_z w64 c.until.result (search rules) ∙ c.until.ensures)
    ∙ sym (first_use_is tables c.args.section.now (run_at tables n) c.args.place connection first)

pub returns : goal.returns
returns c =
    let tables = c.args.tables.now in
    let connection = c.args.connection.now in
    let n = c.args.number in
    let run = c.run-run.result.now in
    let here = get_or_from_slice_get tables.runs n run no_run c.run-run.ensures in
    let name = ap (λ (r : Run). r.name) here in
    let not_first : is_same connection.first (run_at tables n).name ≡ false =
    false_from_ne_true (is_same connection.first (run_at tables n).name)
    (λ e. both_ways c.same_name.result c.if-same_name.false (c.same_name.ensures.1 (same_name connection.first (run_at tables n).name e ∙ name))) in
    let second : is_same connection.second (run_at tables n).name ≡ true =
    elim (or_cases (is_same connection.first (run_at tables n).name) (is_same connection.second (run_at tables n).name) c.requires.one.one) [
      | inl e ↦ absurd (both_ways (is_same connection.first (run_at tables n).name) not_first e)
      | inr e ↦ e
    ] in
    let most = (run_facts (run_at tables n) (run_stands tables c.learn_sound.ensures n c.requires.there).within).start in
    let moment = ap (λ (r : Run). r.start_s) here in
    let bounded : run.start_s + 1 < 9223372036854775808 = omega (arith, most, moment) in
    let start : to_z w64 (of_z w64 c.from-start.result) ≡ pos run.start_s = to_z-of_z w64 c.from-start.result (search rules) ∙ c.from-start.ensures in
    let end : to_z w64 (of_z w64 (pos run.start_s +ℤ pos 1)) ≡ pos (run.start_s + 1) = to_z_pos w64 (run.start_s + 1) bounded in
    rw (start, end)
    (ap (λ (m : ℕ). Some (used c.args.place (pos m) (pos (m + 1)))) (sym moment)
    ∙ sym (second_use_is tables c.args.section.now (run_at tables n) c.args.place connection not_first second))
