use Rattle.std.proofs.Common.{◌≡◌, None, Some, sym}
use Rattle.std.specs.Prelude.{find}
use Rattle.std.proofs.lemmas.List.Elements.{Contains-get_or}
use Rattle.plan_model.specs.Members.{member, no_member}
use Rattle.plan_repair.specs.Kept.{has}
use Rattle.plan_repair.proofs.Looking.{kept_is}
use Rattle.plan_repair.proofs.Renewing.{taken_whole}
use Rattle.plan_repair.proofs.renewed.next_row.Goals as goal

pub returns-in-Some-clause-row : goal.returns-in-Some-clause-row
returns-in-Some-clause-row g c =
    let cut = (g.R.Rows.shown c.args.reading.now).cut in
    let row = member cut c.args.i in
    let found : find (has row.name row.stamp) c.args.left.now.items ≡ Some c.in-Some.row =
    rw (← c.name-name.ensures, ← c.stamp-stamp.ensures) (sym c.in-Some.ensures.found) in
    kept_is c.args.left.now.items cut.rows c.in-Some.row row c.requires.agree
    (Contains-get_or cut.rows c.args.i no_member c.requires.there) found

pub returns-in_ok-take_row-in-None-clause-reading : goal.returns-in_ok-take_row-in-None-clause-reading
returns-in_ok-take_row-in-None-clause-reading g c =
    let shown = g.R.Rows.shown c.args.reading.now in
    let row = member shown.cut c.args.i in
    let none : find (has row.name row.stamp) c.args.left.now.items ≡ None =
    rw (← c.name-name.ensures, ← c.stamp-stamp.ensures) (sym c.in-None.ensures.found) in
    taken_whole c.args.left.now.items row shown _ none c.take_row.ensures.reading

pub returns-in_err-take_row-in-None-clause-reading : goal.returns-in_err-take_row-in-None-clause-reading
returns-in_err-take_row-in-None-clause-reading g c =
    let shown = g.R.Rows.shown c.args.reading.now in
    let row = member shown.cut c.args.i in
    let none : find (has row.name row.stamp) c.args.left.now.items ≡ None =
    rw (← c.name-name.ensures, ← c.stamp-stamp.ensures) (sym c.in-None.ensures.found) in
    taken_whole c.args.left.now.items row shown _ none c.take_row.ensures.reading

pub returns-in_ok-take_row-in-None-clause-from : goal.returns-in_ok-take_row-in-None-clause-from
returns-in_ok-take_row-in-None-clause-from g c = tt
