use Rattle.std.proofs.Common.{◌+◌, [], ◌∷◌, set, drop, refl, sym, ap, ◌∙◌, arith, length-drop}
use Rattle.std.proofs.lemmas.List.{drop_more, set-get_or}
use Rattle.std.proofs.lemmas.List.Elements.{Contains-get_or}
use Rattle.plan_model.specs.Members.{member, no_member}
use Rattle.plan_repair.proofs.Leaving.{none_in_place}
use Rattle.plan_repair.proofs.Looking.{stays}
use Rattle.plan_repair.proofs.Renewing.{taken_whole}
use Rattle.plan_repair.proofs.renewed.renew_row.Goals as goal

pub returns-then-own-stamp : goal.returns-then-own-stamp
returns-then-own-stamp g c =
    let rows = c.args.rows.now in
    let cut = (g.R.Rows.shown c.args.reading.now).cut in
    let i = c.args.i in
    let is = stays rows cut.rows i (member cut i) c.requires.name c.requires.agree
    (Contains-get_or cut.rows i no_member c.requires.there) (sym c.stamp_at-own.ensures ∙ c.if-own-stamp.true ∙ c.stamp-stamp.ensures) in
    record {
      rows = sym (set-get_or rows i no_member) ∙ ap (set rows i) is;
      from = record {
        at = omega (arith, c.requires.name.there, length-drop (i + 1) rows);
        ends = record { before = []; is = drop_more rows i no_member c.requires.name.there ∙ ap (λ r. r ∷ drop (i + 1) rows) is };
      };
      reading = record { cut = refl; at = refl; taken = omega arith; no_less = omega arith };
    }

pub returns-in_err-row-clause-reading : goal.returns-in_err-row-clause-reading
returns-in_err-row-clause-reading g c =
    let rows = c.args.rows.now in
    let row = member (g.R.Rows.shown c.args.reading.now).cut c.args.i in
    let none = none_in_place row.name row.stamp rows c.args.i c.requires.name c.requires.rise
    (λ e. c.if-own-stamp.false (c.stamp_at-own.ensures ∙ e ∙ sym c.stamp-stamp.ensures)) in
    taken_whole (drop c.args.i rows) row _ _ none c.take_row.ensures.reading

pub returns-clause-reading : goal.returns-clause-reading
returns-clause-reading g c =
    let rows = c.args.rows.now in
    let row = member (g.R.Rows.shown c.args.reading.now).cut c.args.i in
    let none = none_in_place row.name row.stamp rows c.args.i c.requires.name c.requires.rise
    (λ e. c.if-own-stamp.false (c.stamp_at-own.ensures ∙ e ∙ sym c.stamp-stamp.ensures)) in
    taken_whole (drop c.args.i rows) row _ _ none c.take_row.ensures.reading
