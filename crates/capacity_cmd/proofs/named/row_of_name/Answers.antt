use Rattle.std.proofs.Common.{sym, rules}
use Rattle.std.specs.Cmp.Lexicographic.{slice_cmp}
use Rattle.std.specs.Ordering.{nat_cmp}
use Rattle.std.proofs.lemmas.Fn.{always_returns_same}
use Rattle.plan_model.specs.declared.cut.CutRow.{CutRow}
use Rattle.capacity_cmd.proofs.Members.{row_found, no_row_found}
use Rattle.capacity_cmd.proofs.named.row_of_name.Goals as goal

-- the closure compares each row's name with the name that is sought
pub returns-in-Ok-clause-row : goal.returns-in-Ok-clause-row
returns-in-Ok-clause-row c =
    let n = c.args.name.now in
    sym (row_found c.args.rows.now n c.binary_search_by.result c.in-Ok.row c.requires c.binary_search_by.ensures.bound
    (c.binary_search_by.ensures.position (λ (r : CutRow). slice_cmp nat_cmp r.name n) (always_returns_same _ _ _ (λ a r q k. search rules)))
    c.in-Ok.is)

pub returns-in-Err-clause-row : goal.returns-in-Err-clause-row
returns-in-Err-clause-row c =
    let n = c.args.name.now in
    sym (no_row_found c.args.rows.now n c.binary_search_by.result c.in-Err.field-0 c.requires c.binary_search_by.ensures.bound
    (c.binary_search_by.ensures.position (λ (r : CutRow). slice_cmp nat_cmp r.name n) (always_returns_same _ _ _ (λ a r q k. search rules)))
    c.in-Err.is)
