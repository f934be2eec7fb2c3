use Rattle.std.proofs.Common.{◌≡◌, ◌≤◌, true, take}
use Rattle.std.specs.Prelude.{All}
use Rattle.delay_spread.specs.declared.spreading.TheConstants.{GREATEST_DELAY_S}
use Rattle.capacity_cmd.specs.Ends.{are_members, delays_in}
use Rattle.capacity_cmd.proofs.delays.set_delays.Given as goal

abbrev pub invariant-loop-one : goal.invariant-loop-one
invariant-loop-one l = record {
  set : l.delays ≡ delays_in l.cut (take l.one-index l.given);
  members : are_members l.cut (take l.one-index l.given) ≡ true;
  limit : All (λ s. s ≤ GREATEST_DELAY_S) l.delays;
}
