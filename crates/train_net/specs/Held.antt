-- A net that is held.
use Rattle.std.specs.Prelude.{◌≡◌, length}
use Rattle.plan_model.specs.declared.cut.Cut.{Cut}
use Rattle.plan_model.specs.Members.{member_count}
use Rattle.train_net.specs.declared.net.Net.{Net}
use Rattle.train_net.specs.Net.{IsNet}

-- a net is one of a cut, with a list of edges to each member
pub record IsNetOf (cut : Cut) (held : Net) : Type 0 where
  pub net : IsNet cut held.order held.edges
  pub lists : length held.edges ≡ member_count cut
