-- What a source over a reader holds.
use Rattle.std.specs.Prelude.{ℕ, List, Bool}
use Rattle.rail_outside.specs.declared.from_reader.FromReader.{FromReader}

-- the reader
abbrev pub reader_of : {R : Type 0} → FromReader R → R
reader_of s = s.reader

-- the bytes that its reads gave so far
abbrev pub reader_given : {R : Type 0} → FromReader R → List ℕ
reader_given s = s.given.items

-- whether the last read gave no byte for a piece with room
abbrev pub reader_ended : {R : Type 0} → FromReader R → Bool
reader_ended s = s.ended

-- whether the last read failed
abbrev pub reader_at_fault : {R : Type 0} → FromReader R → Bool
reader_at_fault s = s.at_fault

-- how many reads have failed
abbrev pub reader_faults : {R : Type 0} → FromReader R → ℕ
reader_faults s = s.faults
