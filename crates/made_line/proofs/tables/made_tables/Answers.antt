use Rattle.std.proofs.Common.{◌≡◌, IfOk, subst, ◌∙◌}
use Rattle.rail_model.specs.Rules.{no_tables, after_edits}
use Rattle.made_line.specs.Base.{base_edits}
use Rattle.made_line.proofs.Accepted.{base_made}
use Rattle.made_line.proofs.tables.made_tables.Goals as goal

pub tables_after-requires : goal.tables_after-requires
tables_after-requires c = rw (c.slice.ensures, c.in_ok-edits.ensures) (base_made c.args.n).accepted

pub returns-in_err-edits-clause-accepted : goal.returns-in_err-edits-clause-accepted
returns-in_err-edits-clause-accepted c = (base_made c.args.n).accepted

pub returns : goal.returns
returns c =
    let made : IfOk c.tables_after.result (λ tables. tables ≡ after_edits no_tables (base_edits c.args.n)) =
    subst (λ edits. IfOk c.tables_after.result (λ tables. tables ≡ after_edits no_tables edits))
    (c.slice.ensures ∙ c.in_ok-edits.ensures) c.tables_after.ensures
    in
    record {
      made = made;
      accepted = (base_made c.args.n).accepted;
      whole = subst (λ later. IfOk c.tables_after.result (λ tables. tables ≡ later)) (base_made c.args.n).after made;
    }
