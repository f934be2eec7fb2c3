use Rattle.std.proofs.Common.{length, rules, ltb}
use Rattle.std.proofs.lemmas.List.Sorted.{IsPartitionPoint-from_clause}
use Rattle.rail_model.specs.declared.stair.Use.{Use}
use Rattle.section_cut.proofs.BlockPart.{uses_partitioned, part_taken}
use Rattle.section_cut.proofs.connected.block_part.Goals as goal

pub returns : goal.returns
returns c =
    let blocks = length c.args.section.now.blocks in
    let uses = c.args.uses.now in
    let count = c.partition_point-count.result in
    part_taken blocks uses count c.partition_point-count.ensures.bound
    (IsPartitionPoint-from_clause (λ (u : Use). ltb u.block blocks) uses count c.partition_point-count.ensures.partitioned
    (uses_partitioned blocks uses c.requires) (λ a r q k. search rules))
