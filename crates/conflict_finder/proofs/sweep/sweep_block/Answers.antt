use Rattle.std.proofs.Common.{◌≡◌, ◌+◌, ◌-◌, ◌++◌, length, map, drop, get_or, sym, ap, ◌∙◌, subst, arith, length-append}
use Rattle.std.specs.List.{take_while}
use Rattle.std.specs.List.Sorted.{IsPartitionedBy}
use Rattle.std.proofs.lemmas.List.{length-map, take-map, take_all, length-drop}
use Rattle.conflict_finder.specs.declared.found.TheConstants.{LISTED}
use Rattle.conflict_finder.specs.Sweep.{meets, no_run_use}
use Rattle.conflict_finder.specs.ByNumber.{met_of, met_at, met_upto}
use Rattle.rail_model.proofs.Lists.{flat_map-range_more}
use Rattle.conflict_finder.proofs.Order.{none_later}
use Rattle.conflict_finder.proofs.Whole.{partitioned}
use Rattle.conflict_finder.proofs.Room.{listed_within, listed_beside, met_within}
use Rattle.conflict_finder.proofs.sweep.sweep_block.Goals as goal

pub met_by-met-requires : goal.met_by-met-requires
met_by-met-requires c =
    let run_uses = c.args.run_uses.now in
    let i = c.loop-i.i in
    let rest = drop (i + 1) run_uses in
    let whole = take_all (length run_uses - (i + 1)) rest (omega (arith, length-drop (i + 1) run_uses)) in
    subst (IsPartitionedBy (meets (get_or run_uses i no_run_use))) (sym whole) (partitioned run_uses (none_later run_uses c.requires.order) i c.loop-i-test.true)

pub list_met-requires : goal.list_met-requires
list_met-requires c = rw c.loop-i.invariant.list (listed_within LISTED c.args.list.now.items (met_upto c.args.run_uses.now c.loop-i.i) c.requires.room)

pub loop-i-preserved : goal.loop-i-preserved
loop-i-preserved c =
    let run_uses = c.args.run_uses.now in
    let i = c.loop-i.i in
    let one = get_or run_uses i no_run_use in
    let rest = drop (i + 1) run_uses in
    let whole = take_all (length run_uses - (i + 1)) rest (omega (arith, length-drop (i + 1) run_uses)) in
    let met = take_while (meets one) rest in
    let is : c.met_by-met.result.now ≡ met = c.met_by-met.ensures ∙ ap (take_while (meets one)) whole in
    let so_far = met_upto run_uses i in
    let more : met_upto run_uses (i + 1) ≡ so_far ++ map (met_of one) met = flat_map-range_more (met_at run_uses) i in
    let count : length (met_upto run_uses (i + 1)) ≡ length so_far + length met =
    ap length more ∙ length-append so_far (map (met_of one) met) ∙ ap (λ n. length so_far + n) (length-map met (met_of one)) in
    let listed = sym (take-map (met_of one) (LISTED - length c.loop-i.list.items) met) in
    record {
      list = c.in_ok-list_met.ensures ∙ rw (is, listed, c.loop-i.invariant.list, more) (listed_beside LISTED c.args.list.now.items so_far (map (met_of one) met));
      count = omega (arith, c.loop-i.invariant.count, count, ap length is);
      most = omega (arith, c.loop-i.invariant.most, ap length is, met_within (meets one) run_uses i, c.requires.most);
    }
