use Rattle.std.proofs.Common.{refl}
use Rattle.std.proofs.lemmas.List.Elements.{same_from_all_zip}
use Rattle.line_tables.proofs.key_sets.KeySets.copy.Goals as goal

pub returns : goal.returns
returns c =
    let old = c.self.inside.sets.items in
    let same = same_from_all_zip _ old c.in_ok-clone.field-0.items c.in_ok-clone.ensures.cases.0 (λ x y r. r) in
    rw (← c.self.view_is, same) refl
