-- Numbers within the limits, as facts.
use Rattle.std.proofs.Common.{◌≡◌, ℕ, ◌<◌, ◌≤◌, ◌&&◌, ltb, leb, length, arith}
use Rattle.std.specs.List.{list_all}
use Rattle.std.proofs.lemmas.Bool.Decides.{nat_tests}
use Rattle.std.specs.Prelude.{true}
use Rattle.rail_model.specs.declared.items.Signal.{Signal}
use Rattle.rail_model.specs.declared.items.Leg.{Leg}
use Rattle.rail_model.specs.declared.items.Run.{Run}
use Rattle.rail_model.specs.declared.limits.TheConstants.{PATH_HOPS, GREATEST_LENGTH_M, GREATEST_START_S, GREATEST_TIME_S}
use Rattle.rail_model.specs.Within.{is_leg_within, is_signal_within, is_run_within, last_dwell}

pub from_one : (n most : ℕ) → (ltb 0 n && leb n most) ≡ true → (0 < n) × (n ≤ most)
from_one n most h = grind (arith, nat_tests)

pub record IsRunWithin (r : Run) : Type 0 where
  pub some : 0 < length r.legs
  pub most : length r.legs ≤ PATH_HOPS
  pub some_length : 0 < r.length_m
  pub most_length : r.length_m ≤ GREATEST_LENGTH_M
  pub tail : r.tail_s ≤ GREATEST_TIME_S
  pub start : r.start_s ≤ GREATEST_START_S
  pub legs : list_all is_leg_within r.legs ≡ true
  pub last : last_dwell r.legs ≡ 0

pub run_facts : (r : Run) → is_run_within r ≡ true → IsRunWithin r
run_facts r h = grind (arith, nat_tests)

pub record IsSignalWithin (s : Signal) : Type 0 where
  pub approach : s.approach_m ≤ GREATEST_LENGTH_M
  pub overlap : s.overlap_m ≤ GREATEST_LENGTH_M
  pub watch : s.watch_s ≤ GREATEST_TIME_S
  pub form : s.form_s ≤ GREATEST_TIME_S
  pub release : s.release_s ≤ GREATEST_TIME_S

pub signal_facts : (s : Signal) → is_signal_within s ≡ true → IsSignalWithin s
signal_facts s h = grind (arith, nat_tests)

pub leg_facts : (leg : Leg) → is_leg_within leg ≡ true → (0 < leg.running_s) × (leg.running_s ≤ GREATEST_TIME_S) × (leg.dwell_s ≤ GREATEST_TIME_S)
leg_facts leg h = grind (arith, nat_tests)
