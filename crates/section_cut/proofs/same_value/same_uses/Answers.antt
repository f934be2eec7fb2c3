use Rattle.std.proofs.Common.{rules}
use Rattle.std.proofs.lemmas.Slice.Eq.{slice_eq-Decides}
use Rattle.section_cut.proofs.same_value.same_uses.Goals as goal

pub returns : goal.returns
returns c =
    slice_eq-Decides (λ a b. (λ is. search rules, λ is. search rules)) c.args.a.now c.args.b.now c.eq.result c.eq.ensures
