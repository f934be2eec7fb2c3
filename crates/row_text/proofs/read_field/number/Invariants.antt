use Rattle.std.proofs.Common.{◌≡◌, ◌<◌, ◌^◌, true, take}
use Rattle.std.specs.List.{list_all}
use Rattle.std.specs.Char.{is_ascii_digit}
use Rattle.row_text.specs.Words.{value_of}
use Rattle.row_text.proofs.read_field.number.Given as goal

abbrev pub invariant-loop-digit : goal.invariant-loop-digit
invariant-loop-digit l = record {
  value : l.value ≡ value_of (take l.digit-index l.field);
  small : l.value < 10 ^ l.digit-index;
  digits : list_all is_ascii_digit (take l.digit-index l.field) ≡ true;
}
