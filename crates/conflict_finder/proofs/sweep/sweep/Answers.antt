use Rattle.std.proofs.Common.{◌≡◌, ◌+◌, ◌++◌, length, take, get_or, sym, ap, ◌∙◌, subst, arith, length-append}
use Rattle.std.specs.Prelude.{Vec}
use Rattle.std.specs.declared.alloc.Global.{Global}
use Rattle.std.specs.List.Sorted.{IsSortedByKey}
use Rattle.std.proofs.lemmas.List.{length-take, take_all}
use Rattle.conflict_finder.specs.declared.run_uses.RunUse.{RunUse}
use Rattle.conflict_finder.specs.declared.found.TheConstants.{LISTED}
use Rattle.conflict_finder.specs.ByBlock.{one_after_another}
use Rattle.conflict_finder.specs.Runs.{key_of, key_cmp}
use Rattle.conflict_finder.specs.ByNumber.{all_met, met_in_turn}
use Rattle.conflict_finder.proofs.Laid.{next_block}
use Rattle.conflict_finder.proofs.Room.{listed_next}
use Rattle.conflict_finder.proofs.BlockByBlock.{each_few}
use Rattle.conflict_finder.proofs.sweep.sweep.Goals as goal

-- the list that is walked over
is_block : (c : goal.After-deref) → c.deref.result.now ≡ (get_or c.args.by_block.now c.loop-run_uses.run_uses-index c.run_uses-item.result).items
is_block c = c.deref.ensures.value ∙ ap (λ (v : Vec RunUse Global). v.items) c.run_uses-item.is

pub sweep_block-requires-clause-room : goal.sweep_block-requires-clause-room
sweep_block-requires-clause-room c =
    omega (arith, ap length c.loop-run_uses.invariant.list, length-take LISTED (met_in_turn (take c.loop-run_uses.run_uses-index c.args.by_block.now)))

pub sweep_block-requires-clause-most : goal.sweep_block-requires-clause-most
sweep_block-requires-clause-most c =
    omega (arith, ap length (is_block c), each_few c.args.by_block.now c.run_uses-item.result c.loop-run_uses.run_uses-index c.loop-run_uses-test.true, c.requires.most)

pub sweep_block-requires-clause-order : goal.sweep_block-requires-clause-order
sweep_block-requires-clause-order c =
    subst (IsSortedByKey key_of key_cmp) (sym (is_block c)) (c.requires.order c.loop-run_uses.run_uses-index c.run_uses-item.result c.loop-run_uses-test.true)

pub overflow_add-count : goal.overflow_add-count
overflow_add-count c =
    let by_block = c.args.by_block.now in
    let i = c.loop-run_uses.run_uses-index in
    let is = c.deref.ensures.value ∙ ap (λ (v : Vec RunUse Global). v.items) c.run_uses-item.is in
    omega (arith, ap length is, each_few by_block c.run_uses-item.result i c.loop-run_uses-test.true, c.requires.most, c.loop-run_uses.invariant.most, c.in_ok-count.ensures.most)

pub loop-run_uses-preserved : goal.loop-run_uses-preserved
loop-run_uses-preserved c =
    let by_block = c.args.by_block.now in
    let i = c.loop-run_uses.run_uses-index in
    let d = c.run_uses-item.result in
    let seen = c.deref.result.now in
    let so_far = met_in_turn (take i by_block) in
    let is : seen ≡ (get_or by_block i d).items = c.deref.ensures.value ∙ ap (λ (v : Vec RunUse Global). v.items) c.run_uses-item.is in
    let more : met_in_turn (take (i + 1) by_block) ≡ so_far ++ all_met seen =
    next_block (λ (v : Vec RunUse Global). all_met v.items) by_block i d c.loop-run_uses-test.true ∙ ap (λ s. so_far ++ all_met s) (sym is) in
    let count : length (met_in_turn (take (i + 1) by_block)) ≡ length so_far + length (all_met seen) = ap length more ∙ length-append so_far (all_met seen) in
    let long : length (one_after_another (take (i + 1) by_block)) ≡ length (one_after_another (take i by_block)) + length seen =
    ap length (next_block (λ (v : Vec RunUse Global). v.items) by_block i d c.loop-run_uses-test.true) ∙ length-append (one_after_another (take i by_block)) (get_or by_block i d).items
    ∙ ap (λ s. length (one_after_another (take i by_block)) + length s) (sym is) in
    record {
      list = c.in_ok-count.ensures.list ∙ rw (c.loop-run_uses.invariant.list, more) (listed_next LISTED so_far (all_met seen));
      count = omega (arith, c.loop-run_uses.invariant.count, c.in_ok-count.ensures.count, count);
      most = omega (arith, c.loop-run_uses.invariant.most, c.in_ok-count.ensures.most, long);
    }

pub overflow_sub-more : goal.overflow_sub-more
overflow_sub-more c =
    omega (arith, c.len.ensures, ap length c.loop-run_uses.invariant.list, c.loop-run_uses.invariant.count, length-take LISTED (met_in_turn (take c.loop-run_uses.run_uses-index c.args.by_block.now)))

pub returns : goal.returns
returns c =
    let by_block = c.args.by_block.now in
    let all = met_in_turn (take c.loop-run_uses.run_uses-index by_block) in
    let last = ap met_in_turn (take_all c.loop-run_uses.run_uses-index by_block (omega (arith, c.loop-run_uses-test.false))) in (
      c.loop-run_uses.invariant.list ∙ ap (take LISTED) last,
      omega (arith, c.len.ensures, ap length c.loop-run_uses.invariant.list, c.loop-run_uses.invariant.count, length-take LISTED all, ap length last),
    )
