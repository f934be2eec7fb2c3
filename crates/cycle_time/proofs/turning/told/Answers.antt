use Rattle.std.proofs.Common.{◌∙◌, subst}
use Rattle.std.specs.Prelude.{IfOk}
use Rattle.cycle_time.specs.Rings.{IsTurned}
use Rattle.cycle_time.proofs.turning.told.Goals as goal

pub returns : goal.returns
returns c =
    subst (λ es. IfOk c.turned.result (IsTurned es)) (c.deref_mut.ensures.value ∙ c.into_vec-demands.ensures) c.turned.ensures
