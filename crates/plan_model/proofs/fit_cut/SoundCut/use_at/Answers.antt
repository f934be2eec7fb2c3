use Rattle.std.proofs.Common.{sym, subst, rules, ◌≡◌}
use Rattle.std.specs.Prelude.{IfSome}
use Rattle.plan_model.specs.Members.{member, use_of}
use Rattle.plan_model.specs.Cut.{IsSoundUse}
use Rattle.plan_model.proofs.Sound.{differ, blocks_first, found_sound}
use Rattle.plan_model.proofs.fit_cut.SoundCut.use_at.Goals as goal

pub use_in-requires-clause-differ : goal.use_in-requires-clause-differ
use_in-requires-clause-differ c =
    rw (c.row.ensures.row) (differ c.args.self.now c.row.ensures.sound c.args.i c.requires)

pub use_in-requires-clause-first : goal.use_in-requires-clause-first
use_in-requires-clause-first c =
    rw (c.block_count.ensures.count, c.row.ensures.row)
    (blocks_first c.args.self.now c.row.ensures.sound c.args.i c.requires)

pub returns-clause-sound : goal.returns-clause-sound
returns-clause-sound c =
    let is : c.use_in.result ≡ use_of (member c.args.self.now c.args.i) c.args.place = search rules in
    subst (λ o. IfSome o (IsSoundUse c.args.self.now)) (sym is)
    (found_sound c.args.self.now c.row.ensures.sound c.args.i c.requires c.args.place)
