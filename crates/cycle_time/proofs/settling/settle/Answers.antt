use Rattle.std.proofs.Common.{◌≡◌, ◌∙◌, ap, rules, to_z, of_z, w64}
use Rattle.std.specs.Prelude.{replicate, None}
use Rattle.plan_model.specs.Schedule.{window_start}
use Rattle.cycle_time.proofs.Settled.{start_raised}
use Rattle.cycle_time.proofs.settling.settle.Goals as goal

pub settle_from-requires-clause-raised : goal.settle_from-requires-clause-raised
settle_from-requires-clause-raised c =
    let same : to_z w64 (of_z w64 c.window_start.result) ≡ c.window_start.result = search rules in
    let start : to_z w64 (of_z w64 c.window_start.result) ≡ window_start c.args.cut.now =
    same ∙ c.window_start.ensures.start ∙ ap window_start c.sound.ensures.cut in
    start_raised c.args.cut.now c.args.period c.deref_mut.result.now c.deref_mut-2.result.now
    (c.deref_mut.ensures.value ∙ c.in_ok-entries.ensures
    ∙ (λ i. replicate (c.member_count-count.ensures.count i) (start i)))
    (c.deref_mut-2.ensures.value ∙ c.in_ok-causes.ensures ∙ ap (λ n. replicate n None) c.member_count-count.ensures.count)
