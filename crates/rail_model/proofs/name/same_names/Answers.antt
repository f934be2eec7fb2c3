use Rattle.std.proofs.lemmas.Slice.Eq.{slice_eq-Decides}
use Rattle.rail_model.proofs.NameOrder.{same_name, is_same-from}
use Rattle.rail_model.proofs.name.same_names.Goals as goal

pub returns : goal.returns
returns c =
    slice_eq-Decides (λ a b. (same_name a b, is_same-from a b)) c.args.some.now c.args.others.now c.eq.result c.eq.ensures
