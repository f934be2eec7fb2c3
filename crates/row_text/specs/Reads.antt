-- What reading gives, where memory suffices.
use Rattle.std.specs.Prelude.{◌≡◌, ℕ, Result, Ok, Err}
use Rattle.rail_model.specs.declared.form.Form.{Form}
use Rattle.row_text.specs.Types.{Unread, Word}
use Rattle.row_text.specs.SheetRows.{Row}
use Rattle.row_text.specs.Lines.{read_in, line_of}
use Rattle.row_text.specs.declared.unread.Unread.TheVariants.{Fault, OutOfMemory}

-- a read gives what is defined, a value or a fault, or finds no memory
abbrev pub Reads : {A : Type 0} → Result A Unread → Result A Form → Type 0
Reads (Ok x) defined = defined ≡ Ok x
Reads (Err (Fault fault)) defined = defined ≡ Err fault
Reads (Err OutOfMemory) defined = Unit {0}

-- a row spells the line of its word, or it has the fault of its word or of the number of its fields
abbrev pub SpellsBy : ℕ → Row → Result Word Form → Type 0
SpellsBy version row (Ok w) = read_in version row ≡ line_of version w row
SpellsBy version row (Err fault) = read_in version row ≡ Err fault
