-- The net that is held beside kept rows.
use Rattle.std.specs.Prelude.{◌≡◌, ℕ, ◌≤◌, List, length, Option, IfSome}
use Rattle.rail_model.specs.Name.{NamesRise}
use Rattle.plan_model.specs.declared.limits.TheConstants.{MEMBERS}
use Rattle.plan_model.specs.declared.cut.CutRow.{CutRow}
use Rattle.plan_model.specs.declared.cut.Cut.{Cut}
use Rattle.plan_model.specs.Members.{place_names}
use Rattle.plan_model.specs.Cut.{IsSoundCut}
use Rattle.train_net.specs.Held.{IsNetOf}
use Rattle.train_net.specs.Mended.{IsOrigin}
use Rattle.plan_repair.specs.declared.held.HeldNet.{HeldNet}

-- what is held is a net of a cut, and the names of its places
pub record IsHeldOf (cut : Cut) (held : HeldNet) : Type 0 where
  pub net : IsNetOf cut held.net
  pub places : held.places ≡ place_names cut

-- what is held is of some sound cut with these rows
pub record IsHeld (rows : List CutRow) (held : HeldNet) : Type 0 where
  pub cut : Cut
  pub sound : IsSoundCut cut
  pub same : cut.rows ≡ rows
  pub of : IsHeldOf cut held

-- what is held is of some earlier sound cut, in which the rows of a later one stood if the places are the same
pub record IsHeldBefore (later : Cut) (stood_at : List (Option ℕ)) (held : HeldNet) : Type 0 where
  pub cut : Cut
  pub sound : IsSoundCut cut
  pub of : IsHeldOf cut held
  pub origin : place_names later ≡ place_names cut → IsOrigin cut later stood_at

-- kept rows are no more than are compressed, their names rise, and what is held beside them is of them
pub record AreKept (rows : List CutRow) (beside : Option HeldNet) : Type 0 where
  pub rise : NamesRise (λ r. r.name) rows
  pub few : length rows ≤ MEMBERS
  pub held : IfSome beside (IsHeld rows)
