use Rattle.std.proofs.Common.{◌≤◌, sym, subst, arith}
use Rattle.plan_model.specs.declared.limits.TheConstants.{MEMBERS}
use Rattle.plan_model.specs.Members.{member_count}
use Rattle.plan_model.specs.Cut.{IsSoundCut}
use Rattle.line_cutter.proofs.SoundPiece.{sound_piece, few_members}
use Rattle.line_cutter.proofs.longest.disorder_in.Goals as goal

pub of-requires : goal.of-requires
of-requires c =
    subst IsSoundCut (sym c.in_ok-part.ensures.part)
    (sound_piece c.args.line.now c.piece.ensures.sound c.args.a c.args.b c.requires.some c.requires.within)

pub order-requires-clause-sound : goal.order-requires-clause-sound
order-requires-clause-sound c =
    subst IsSoundCut (sym c.in_ok-part.ensures.part)
    (sound_piece c.args.line.now c.piece.ensures.sound c.args.a c.args.b c.requires.some c.requires.within)

pub order-requires-clause-few : goal.order-requires-clause-few
order-requires-clause-few c =
    let fewer = few_members c.args.line.now c.piece.ensures.sound c.args.a c.args.b c.requires.some c.requires.within in
    subst (λ k. member_count k ≤ MEMBERS) (sym c.in_ok-part.ensures.part) (omega (arith, fewer, c.piece.ensures.few))
