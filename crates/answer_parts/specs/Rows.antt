-- Rows, and parts of rows, that several commands write.
use Rattle.std.specs.Prelude.{[], ◌∷◌, codes, ℕ, List, length, map, decimal, ◌/◌, ◌%◌, if◌then◌else◌, ◌++◌}
use Rattle.row_text.specs.SheetRows.{Row}
use Rattle.plan_model.specs.declared.answer.Link.{Link}
use Rattle.plan_model.specs.Answer.{Fraction, is_within, hundredths_up}

-- link,TRAIN,BLOCK,NEXT
abbrev pub link_row : Link → Row
link_row link = codes "link" ∷ link.train ∷ link.block ∷ link.next ∷ []

-- start: no other train
abbrev pub start_fields : Row
start_fields = codes "start" ∷ []

-- after,TRAIN,PLACE: a train that precedes it at a place and touches it there
abbrev pub after_fields : List ℕ → List ℕ → Row
after_fields train place = codes "after" ∷ train ∷ place ∷ []

-- opposite,SECTION,FIRST,SECOND,BLOCK1,BLOCK2
abbrev pub opposite_row : List ℕ → List ℕ → List ℕ → List ℕ → List ℕ → Row
opposite_row section first second block1 block2 =
    codes "opposite" ∷ section ∷ first ∷ second ∷ block1 ∷ block2 ∷ []

-- ring,SECTION,LINKS
abbrev pub ring_row : List ℕ → ℕ → Row
ring_row section links = codes "ring" ∷ section ∷ decimal links ∷ []

abbrev pub ring_rows : List ℕ → List Link → List Row
ring_rows section links = ring_row section (length links) ∷ map link_row links

-- crowded,SECTION,COUNT
abbrev pub crowded_row : List ℕ → ℕ → Row
crowded_row section count = codes "crowded" ∷ section ∷ decimal count ∷ []

-- NUM/DEN
abbrev pub fraction_text : Fraction → List ℕ
fraction_text f = decimal f.num ++ codes "/" ++ decimal f.den

-- a fraction in per cent, rounded up to two digits behind the point
abbrev pub percent_text : Fraction → List ℕ
percent_text f =
    let n = hundredths_up f in decimal (n / 100) ++ codes "." ++ decimal (n % 100 / 10) ++ decimal (n % 10)

-- a consumption of at most 1 is within the capacity
abbrev pub verdict_text : Fraction → List ℕ
verdict_text f = if is_within f then codes "within" else codes "over"

-- a rate: NUM/DEN,PERCENT
abbrev pub rate_fields : Fraction → Row
rate_fields f = fraction_text f ∷ percent_text f ∷ []

-- a capacity consumption: NUM/DEN,PERCENT,VERDICT
abbrev pub consumption_fields : Fraction → Row
consumption_fields f = fraction_text f ∷ percent_text f ∷ verdict_text f ∷ []

-- rate,SECTION,OCCUPANCY_RATE,PERCENT,CONSUMPTION,PERCENT,VERDICT
abbrev pub rate_row : List ℕ → Fraction → Fraction → Row
rate_row section rate consumption =
    codes "rate" ∷ section ∷ rate_fields rate ++ consumption_fields consumption
