use Rattle.std.proofs.Common.{◌≡◌, rules, sym, subst, ap, ◌∙◌, to_z, of_z, w64}
use Rattle.plan_model.specs.Cut.{IsBounded}
use Rattle.plan_model.specs.Schedule.{entry_at}
use Rattle.train_placing.specs.Last.{earliest}
use Rattle.train_placing.proofs.Moments.{entry_bounded}
use Rattle.train_placing.proofs.placing.place.Goals as goal

pub tie-requires-clause-entry : goal.tie-requires-clause-entry
tie-requires-clause-entry c =
    let last = c.args.last.now in
    let floor = entry_at c.args.entries.now c.args.train in
    let start : to_z w64 (of_z w64 floor) ≡ floor = search rules in
    let fits : to_z w64 (of_z w64 c.earliest-entry.result) ≡ c.earliest-entry.result = search rules in
    let is =
    fits ∙ c.earliest-entry.ensures ∙ ap (λ f. earliest f c.row-row.result.now last) start
    ∙ ap (λ r. earliest floor r last) c.row-row.ensures.row in
    subst IsBounded (sym is)
    (entry_bounded c.args.cut.now last c.args.train floor c.row-row.ensures.sound c.requires.there c.requires.floor
    c.requires.places c.requires.near)

pub occupy-requires-clause-entry : goal.occupy-requires-clause-entry
occupy-requires-clause-entry c =
    let last = c.args.last.now in
    let floor = entry_at c.args.entries.now c.args.train in
    let start : to_z w64 (of_z w64 floor) ≡ floor = search rules in
    let fits : to_z w64 (of_z w64 c.earliest-entry.result) ≡ c.earliest-entry.result = search rules in
    let is =
    fits ∙ c.earliest-entry.ensures ∙ ap (λ f. earliest f c.row-row.result.now last) start
    ∙ ap (λ r. earliest floor r last) c.row-row.ensures.row in
    subst IsBounded (sym is)
    (entry_bounded c.args.cut.now last c.args.train floor c.row-row.ensures.sound c.requires.there c.requires.floor
    c.requires.places c.requires.near)
