use Rattle.std.proofs.Common.{◌≡◌, ℕ, Option, Some, None, sym, ap, ◌∙◌, subst}
use Rattle.std.specs.Prelude.{IfSome}
use Rattle.rail_model.specs.declared.items.Signal.{Signal}
use Rattle.rail_model.specs.Tables.{block_number, signal_named}
use Rattle.section_cut.specs.ReachedRuns.{StayBeside, changed_signal}
use Rattle.section_cut.proofs.OneBlock.{stay_beside}
use Rattle.section_cut.proofs.one_block.block_kept.Goals as goal

pub returns : goal.returns
returns c = by_number c.block_number.result c.block_number.ensures.number
  where
    by_number : (block : Option ℕ) → IfSome block (λ n. n ≡ block_number c.args.before.now c.args.signal.now.block)
        → IfSome block (StayBeside c.args.before.now (changed_signal c.args.before.now c.args.signal.now))
    by_number None is = tt
    by_number (Some block) is =
        let before = c.args.before.now in
        let x = c.args.signal.now in
        let keeps : (signal_named before x.name).block ≡ x.block =
        ap (λ (s : Signal). s.block) (sym c.in_ok-old.ensures.signal) ∙ c.same_name.ensures.0 c.if-not-same_name.false in
        subst (StayBeside before (changed_signal before x)) (sym is) (stay_beside before x (sym c.in_ok-old.ensures.there) keeps)
