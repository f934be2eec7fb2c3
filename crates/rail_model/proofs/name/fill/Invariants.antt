use Rattle.std.proofs.Common.{◌≡◌, ◌-◌, ◌++◌, true, take, replicate}
use Rattle.std.specs.List.{list_all}
use Rattle.rail_model.specs.declared.name.TheConstants.{NAME_BYTES}
use Rattle.rail_model.proofs.NameTests.{is_printable_byte}
use Rattle.rail_model.proofs.name.fill.Given as goal

-- the bytes so far are printable, and stand in the room
abbrev pub invariant-loop-i : goal.invariant-loop-i
invariant-loop-i l = record {
  printable : list_all is_printable_byte (take l.i l.bytes) ≡ true;
  filled : l.room ≡ take l.i l.bytes ++ replicate (NAME_BYTES - l.i) 0;
}
