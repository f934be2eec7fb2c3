use Rattle.std.proofs.Common.{rules, arith}
use Rattle.std.proofs.lemmas.List.Sorted.{IsPartitionPoint-from_clause}
use Rattle.rail_model.specs.Name.{is_before}
use Rattle.rail_model.proofs.NameOrder.{IsBefore-from}
use Rattle.plan_model.specs.declared.cut.CutRow.{CutRow}
use Rattle.plan_model.specs.Members.{no_member}
use Rattle.section_cut.proofs.Rows.{rows_partitioned}
use Rattle.section_cut.proofs.stamps.place_of.Goals as goal

pub returns : goal.returns
returns c =
    let rows = c.args.rows.now in
    let name = c.args.name.now in
    let at = c.partition_point.result in
    let found = IsPartitionPoint-from_clause (λ (r : CutRow). is_before r.name name) rows at c.partition_point.ensures.partitioned
    (rows_partitioned rows name c.requires) (λ a r q k. search rules) in
    record {
      before = record { within = c.partition_point.ensures.bound; below = λ k l. IsBefore-from _ name (found.0 k no_member (omega arith) l) };
      stops = λ below. found.1 at no_member (omega arith) below;
    }
