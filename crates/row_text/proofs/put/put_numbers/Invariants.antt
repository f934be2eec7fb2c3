use Rattle.std.proofs.Common.{◌≡◌, ◌+◌, ◌*◌, ◌≤◌, ◌++◌, ◌||◌, map, take}
use Rattle.std.specs.Fmt.{signed_decimal}
use Rattle.row_text.specs.Put.{more_text}
use Rattle.row_text.specs.SheetRows.{has_fields}
use Rattle.row_text.proofs.put.put_numbers.Given as goal

abbrev pub invariant-loop-number : goal.invariant-loop-number
invariant-loop-number l = record {
  grown : l.fn.used ≤ l.at;
  within : l.at ≤ l.fn.used + 22 * l.number-index;
  after : l.after_field ≡ (l.fn.has_field || has_fields (map signed_decimal (take l.number-index l.numbers)));
  written : take l.at l.text ≡ take l.fn.used l.fn.text ++ more_text l.fn.has_field (map signed_decimal (take l.number-index l.numbers));
}
