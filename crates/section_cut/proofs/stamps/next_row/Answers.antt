use Rattle.std.proofs.Common.{◌≡◌, false, Some, sym, subst}
use Rattle.std.specs.Option.{option_copied}
use Rattle.rail_model.specs.Name.{is_before}
use Rattle.rail_model.proofs.NameOrder.{is_before-itself}
use Rattle.section_cut.specs.Stamps.{IsReached}
use Rattle.section_cut.proofs.Rows.{own_found}
use Rattle.section_cut.proofs.stamps.next_row.Goals as goal

-- the row at the place where the search begins has the name
at_once : (c : goal.In-Some) → IsReached c.args.rows.now c.args.name.now c.args.at.now
at_once c = record {
  before = c.requires.before;
  stops = λ below. subst (λ m. is_before m c.args.name.now ≡ false) (sym c.in-Some.ensures.0.1) (is_before-itself c.args.name.now);
}

pub returns-in-Some-clause-at : goal.returns-in-Some-clause-at
returns-in-Some-clause-at c = at_once c

pub returns-in-Some-clause-own : goal.returns-in-Some-clause-own
returns-in-Some-clause-own c =
    own_found c.args.rows.now c.args.name.now c.args.at.now c.requires.rise (at_once c) (Some c.in-Some.row.now) c.in-Some.ensures

pub returns-clause-own : goal.returns-clause-own
returns-clause-own c =
    own_found c.args.rows.now c.args.name.now c.reached.result c.requires.rise c.reached.ensures (option_copied c.own_row-2.result) c.own_row-2.ensures
