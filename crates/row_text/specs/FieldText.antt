-- The text of a field that is written.
use Rattle.std.specs.Prelude.{ℕ, List, decimal}
use Rattle.std.specs.Fmt.{signed_decimal}
use Rattle.row_text.specs.Types.{Field}
use Rattle.row_text.specs.declared.write_field.Field.TheVariants as written

-- bytes and names are written as they are, numbers in plain decimal
abbrev pub text_of : Field → List ℕ
text_of (written.Text bytes) = bytes.now
text_of (written.Name name) = name.now
text_of (written.Count number) = decimal number
text_of (written.Number number) = signed_decimal number
