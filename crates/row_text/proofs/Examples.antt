-- Rows and what they spell, computed by the checker.
use Rattle.std.proofs.Common.{◌≡◌, ℕ, Bool, true, false, List, [], ◌∷◌, codes, Ok, Err, refl, map}
use Rattle.std.specs.Str.{is_utf8, chars}
use Rattle.std.specs.Fmt.{digits}
use lib.Utf8.{encode}
use Rattle.rail_model.specs.declared.form.Form.TheVariants as form
use Rattle.rail_model.specs.declared.edit.Kind.TheVariants as kind
use Rattle.rail_model.specs.declared.edit.Edit.TheVariants as edit
use Rattle.rail_model.specs.declared.items.Item.{Item}
use Rattle.rail_model.specs.declared.items.Item.TheVariants as item
use Rattle.row_text.specs.declared.line.Line.TheVariants as line
use Rattle.row_text.specs.declared.word.Word.{Word}
use Rattle.row_text.specs.declared.word.Word.TheVariants as word
use Rattle.row_text.specs.Words.{shape_of, word_of, allows}
use Rattle.row_text.specs.Lines.{read_in, row_in, has_times_in, version_of}

-- block,A,1000
block : read_in 1 (codes "block" ∷ codes "A" ∷ codes "1000" ∷ []) ≡ Ok (line.Edit (edit.Put (item.Block (record { name = codes "A"; length_m = 1000 }))))
unfolding word_of is_utf8 chars encode
block = refl

-- change-block,A,0042
changed_block : read_in 1 (codes "change-block" ∷ codes "A" ∷ codes "0042" ∷ []) ≡ Ok (line.Edit (edit.Change (item.Block (record { name = codes "A"; length_m = 42 }))))
unfolding word_of is_utf8 chars encode
changed_block = refl

-- run,T,R,100,10,50,60,0,70
run : read_in 1 (codes "run" ∷ codes "T" ∷ codes "R" ∷ codes "100" ∷ codes "10" ∷ codes "50" ∷ codes "60" ∷ codes "5" ∷ codes "70" ∷ [])
    ≡ Ok (line.Edit (edit.Put (item.Run (record {
      name = codes "T";
      route = codes "R";
      length_m = 100;
      tail_s = 10;
      start_s = 50;
      legs = record { running_s = 60; dwell_s = 5 } ∷ record { running_s = 70; dwell_s = 0 } ∷ [];
    }))))
unfolding word_of is_utf8 chars encode
run = refl

-- run,T,R,100,10,0:00:50,0:01:50,115,0:03:05 in version 2: the same
run_2 : read_in 2 (codes "run" ∷ codes "T" ∷ codes "R" ∷ codes "100" ∷ codes "10" ∷ codes "0:00:50" ∷ codes "0:01:50" ∷ codes "115" ∷ codes "0:03:05" ∷ [])
    ≡ read_in 1 (codes "run" ∷ codes "T" ∷ codes "R" ∷ codes "100" ∷ codes "10" ∷ codes "50" ∷ codes "60" ∷ codes "5" ∷ codes "70" ∷ [])
unfolding word_of is_utf8 chars encode
run_2 = refl

-- run,T,R,100,10,0:01:40,0:01:39 in version 2
falling_times : read_in 2 (codes "run" ∷ codes "T" ∷ codes "R" ∷ codes "100" ∷ codes "10" ∷ codes "0:01:40" ∷ codes "0:01:39" ∷ []) ≡ Err form.Order
unfolding word_of is_utf8 chars encode
falling_times = refl

-- section,S,0,3600,mixed-day,A
section : read_in 1 (codes "section" ∷ codes "S" ∷ codes "0" ∷ codes "3600" ∷ codes "mixed-day" ∷ codes "A" ∷ [])
    ≡ Ok (line.Edit (edit.Put (item.Section (record { name = codes "S"; from_s = 0; to_s = 3600; add_percent = 67; blocks = codes "A" ∷ [] }))))
unfolding word_of is_utf8 chars encode
section = refl

-- drop-connect,C
dropped : read_in 1 (codes "drop-connect" ∷ codes "C" ∷ []) ≡ Ok (line.Edit (edit.Drop kind.Connection (codes "C")))
unfolding word_of is_utf8 chars encode
dropped = refl

-- ask,S and planner,07
asked : read_in 1 (codes "ask" ∷ codes "S" ∷ []) ≡ Ok (line.Ask (codes "S"))
unfolding word_of is_utf8 chars encode
asked = refl

planner : read_in 1 (codes "planner" ∷ codes "07" ∷ []) ≡ Ok (line.Planner 7)
unfolding word_of is_utf8 chars encode
planner = refl

-- blocks,A,1000
no_word : read_in 1 (codes "blocks" ∷ codes "A" ∷ codes "1000" ∷ []) ≡ Err form.Kind
unfolding word_of is_utf8 chars encode
no_word = refl

-- run,T,R,100,10,50,60,0: a dwell time after the last leg
even_times : read_in 1 (codes "run" ∷ codes "T" ∷ codes "R" ∷ codes "100" ∷ codes "10" ∷ codes "50" ∷ codes "60" ∷ codes "0" ∷ []) ≡ Err form.Fields
unfolding word_of is_utf8 chars encode
even_times = refl

-- block,A,1234567890 and a block without a name: the first fault counts
ten_digits : read_in 1 (codes "block" ∷ codes "A" ∷ codes "1234567890" ∷ []) ≡ Err form.Number
unfolding word_of is_utf8 chars encode
ten_digits = refl

no_name : read_in 1 (codes "block" ∷ [] ∷ codes "x" ∷ []) ≡ Err form.BadName
unfolding word_of is_utf8 chars encode
no_name = refl

-- version,02 and version,3 as first rows
version_2 : version_of ((codes "version" ∷ codes "02" ∷ []) ∷ []) ≡ Ok 2
version_2 = refl

version_3 : version_of ((codes "version" ∷ codes "3" ∷ []) ∷ []) ≡ Err form.Number
version_3 = refl

-- ---- an item of each other kind

-- signal,SA,A,1000,10,5,30,6
signal : read_in 1 (codes "signal" ∷ codes "SA" ∷ codes "A" ∷ codes "1000" ∷ codes "10" ∷ codes "5" ∷ codes "30" ∷ codes "6" ∷ [])
    ≡ Ok (line.Edit (edit.Put (item.Signal (record {
      name = codes "SA";
      block = codes "A";
      approach_m = 1000;
      watch_s = 10;
      form_s = 5;
      overlap_m = 30;
      release_s = 6;
    }))))
unfolding word_of is_utf8 chars encode
signal = refl

-- change-route,R,SA,SB
changed_route : read_in 1 (codes "change-route" ∷ codes "R" ∷ codes "SA" ∷ codes "SB" ∷ [])
    ≡ Ok (line.Edit (edit.Change (item.Route (record { name = codes "R"; signals = codes "SA" ∷ codes "SB" ∷ [] }))))
unfolding word_of is_utf8 chars encode
changed_route = refl

-- connect,C,T1,T2,60
connection : read_in 1 (codes "connect" ∷ codes "C" ∷ codes "T1" ∷ codes "T2" ∷ codes "60" ∷ [])
    ≡ Ok (line.Edit (edit.Put (item.Connection (record { name = codes "C"; first = codes "T1"; second = codes "T2"; minimum_s = 60 }))))
unfolding word_of is_utf8 chars encode
connection = refl

-- section,S,0:00:10,3600,33,A,B in version 2
section_2 : read_in 2 (codes "section" ∷ codes "S" ∷ codes "0:00:10" ∷ codes "3600" ∷ codes "33" ∷ codes "A" ∷ codes "B" ∷ [])
    ≡ Ok (line.Edit (edit.Put (item.Section (record { name = codes "S"; from_s = 10; to_s = 3600; add_percent = 33; blocks = codes "A" ∷ codes "B" ∷ [] }))))
unfolding word_of is_utf8 chars encode
section_2 = refl

-- ---- how many fields a row may have

abbrev may_have : Word → List ℕ → List Bool
may_have w counts = map (allows (shape_of w)) counts

fields_of_block : may_have (word.Put kind.Block) (0 ∷ 1 ∷ 2 ∷ 3 ∷ 4 ∷ []) ≡ false ∷ false ∷ false ∷ true ∷ false ∷ []
fields_of_block = refl

fields_of_signal : may_have (word.Change kind.Signal) (7 ∷ 8 ∷ 9 ∷ []) ≡ false ∷ true ∷ false ∷ []
fields_of_signal = refl

fields_of_route : may_have (word.Put kind.Route) (0 ∷ 1 ∷ 2 ∷ 3 ∷ 258 ∷ 259 ∷ []) ≡ false ∷ false ∷ false ∷ true ∷ true ∷ false ∷ []
fields_of_route = refl

fields_of_run : may_have (word.Change kind.Run) (5 ∷ 6 ∷ 7 ∷ 8 ∷ 9 ∷ 516 ∷ 517 ∷ 518 ∷ 519 ∷ [])
    ≡ false ∷ false ∷ true ∷ false ∷ true ∷ false ∷ true ∷ false ∷ false ∷ []
fields_of_run = refl

fields_of_section : may_have (word.Put kind.Section) (4 ∷ 5 ∷ 6 ∷ 261 ∷ 262 ∷ []) ≡ false ∷ false ∷ true ∷ true ∷ false ∷ []
fields_of_section = refl

fields_of_connection : may_have (word.Put kind.Connection) (4 ∷ 5 ∷ 6 ∷ []) ≡ false ∷ true ∷ false ∷ []
fields_of_connection = refl

fields_of_others : map (λ w. may_have w (0 ∷ 1 ∷ 2 ∷ 3 ∷ [])) (word.Drop kind.Run ∷ word.Ask ∷ word.Planner ∷ [])
    ≡ (false ∷ false ∷ true ∷ false ∷ []) ∷ (false ∷ false ∷ true ∷ false ∷ []) ∷ (false ∷ false ∷ true ∷ false ∷ []) ∷ []
fields_of_others = refl

-- ---- which of two faults is told: the word before the number of fields, the number of fields before any field, an earlier
-- field before a later one, and each field before the order of times

wrong_word_alone : read_in 1 (codes "train" ∷ []) ≡ Err form.Kind
unfolding word_of is_utf8 chars encode
wrong_word_alone = refl

empty_fields : read_in 1 ([] ∷ [] ∷ [] ∷ []) ≡ Err form.Kind
unfolding word_of is_utf8 chars encode
empty_fields = refl

no_name_and_a_field_more : read_in 1 (codes "block" ∷ [] ∷ codes "x" ∷ codes "1" ∷ []) ≡ Err form.Fields
unfolding word_of is_utf8 chars encode
no_name_and_a_field_more = refl

a_field_less : read_in 1 (codes "block" ∷ codes "A" ∷ []) ≡ Err form.Fields
unfolding word_of is_utf8 chars encode
a_field_less = refl

number_before_name : read_in 1 (codes "section" ∷ codes "S" ∷ codes "x" ∷ codes "3600" ∷ codes "33" ∷ [] ∷ []) ≡ Err form.Number
unfolding word_of is_utf8 chars encode
number_before_name = refl

name_before_number : read_in 1 (codes "connect" ∷ codes "C" ∷ codes "T1" ∷ [] ∷ codes "x" ∷ []) ≡ Err form.BadName
unfolding word_of is_utf8 chars encode
name_before_number = refl

-- run,T,R,100,10,0:01:40,0:01:39,x,0:03:00 in version 2
number_before_order : read_in 2 (codes "run" ∷ codes "T" ∷ codes "R" ∷ codes "100" ∷ codes "10" ∷ codes "0:01:40" ∷ codes "0:01:39" ∷ codes "x" ∷ codes "0:03:00" ∷ []) ≡ Err form.Number
unfolding word_of is_utf8 chars encode
number_before_order = refl

-- equal times do not fall; a time of day is none in version 1, and a tail is none in version 2
equal_times : read_in 2 (codes "run" ∷ codes "T" ∷ codes "R" ∷ codes "100" ∷ codes "10" ∷ codes "0:01:40" ∷ codes "100" ∷ [])
    ≡ read_in 1 (codes "run" ∷ codes "T" ∷ codes "R" ∷ codes "100" ∷ codes "10" ∷ codes "100" ∷ codes "0" ∷ [])
unfolding word_of is_utf8 chars encode
equal_times = refl

clock_in_version_1 : read_in 1 (codes "section" ∷ codes "S" ∷ codes "0:00:00" ∷ codes "3600" ∷ codes "33" ∷ codes "A" ∷ []) ≡ Err form.Number
unfolding word_of is_utf8 chars encode
clock_in_version_1 = refl

clock_as_tail : read_in 2 (codes "run" ∷ codes "T" ∷ codes "R" ∷ codes "100" ∷ codes "0:00:10" ∷ codes "100" ∷ codes "160" ∷ []) ≡ Err form.Number
unfolding word_of is_utf8 chars encode
clock_as_tail = refl

no_class : read_in 1 (codes "section" ∷ codes "S" ∷ codes "0" ∷ codes "3600" ∷ codes "mixed" ∷ codes "A" ∷ []) ≡ Err form.Number
unfolding word_of is_utf8 chars encode
no_class = refl

drop_without_name : read_in 1 (codes "drop-run" ∷ [] ∷ []) ≡ Err form.BadName
unfolding word_of is_utf8 chars encode
drop_without_name = refl

planner_without_number : read_in 1 (codes "planner" ∷ codes "one" ∷ []) ≡ Err form.Number
unfolding word_of is_utf8 chars encode
planner_without_number = refl

-- a byte that is no text is a fault of the field that it stands in
no_text_as_word : read_in 1 ((255 ∷ []) ∷ []) ≡ Err form.Kind
unfolding word_of is_utf8 chars encode
no_text_as_word = refl

no_text_as_name : read_in 1 (codes "block" ∷ (255 ∷ []) ∷ codes "5" ∷ []) ≡ Err form.BadName
unfolding word_of is_utf8 chars encode
no_text_as_name = refl

no_text_as_number : read_in 1 (codes "block" ∷ codes "A" ∷ (255 ∷ []) ∷ []) ≡ Err form.Number
unfolding word_of is_utf8 chars encode
no_text_as_number = refl

-- the row `version,2` in another place than the first
version_later : read_in 2 (codes "version" ∷ codes "2" ∷ []) ≡ Err form.Kind
unfolding word_of is_utf8 chars encode
version_later = refl

-- ---- the row that spells a line

-- run,T1,R,100,10,00:01:40,00:02:40,00:02:40,00:03:40 in version 2, and run,T1,R,100,10,100,60,0,60 in version 1
abbrev t1 : Item
t1 = item.Run (record {
  name = codes "T1";
  route = codes "R";
  length_m = 100;
  tail_s = 10;
  start_s = 100;
  legs = record { running_s = 60; dwell_s = 0 } ∷ record { running_s = 60; dwell_s = 0 } ∷ [];
})

spelled_run_2 : row_in 2 (line.Edit (edit.Put t1))
    ≡ codes "run" ∷ codes "T1" ∷ codes "R" ∷ codes "100" ∷ codes "10" ∷ codes "00:01:40" ∷ codes "00:02:40" ∷ codes "00:02:40" ∷ codes "00:03:40" ∷ []
unfolding digits
spelled_run_2 = refl

spelled_run : row_in 1 (line.Edit (edit.Change t1))
    ≡ codes "change-run" ∷ codes "T1" ∷ codes "R" ∷ codes "100" ∷ codes "10" ∷ codes "100" ∷ codes "60" ∷ codes "0" ∷ codes "60" ∷ []
unfolding digits
spelled_run = refl

spelled_signal : row_in 2 (line.Edit (edit.Put (item.Signal (record {
  name = codes "SA";
  block = codes "A";
  approach_m = 1000;
  watch_s = 10;
  form_s = 5;
  overlap_m = 30;
  release_s = 6;
}))))
    ≡ codes "signal" ∷ codes "SA" ∷ codes "A" ∷ codes "1000" ∷ codes "10" ∷ codes "5" ∷ codes "30" ∷ codes "6" ∷ []
unfolding digits
spelled_signal = refl

abbrev section_to : ℕ → Item
section_to to = item.Section (record { name = codes "S"; from_s = 0; to_s = to; add_percent = 67; blocks = codes "A" ∷ codes "B" ∷ [] })

spelled_section : row_in 2 (line.Edit (edit.Put (section_to 3600)))
    ≡ codes "section" ∷ codes "S" ∷ codes "00:00:00" ∷ codes "01:00:00" ∷ codes "67" ∷ codes "A" ∷ codes "B" ∷ []
unfolding digits
spelled_section = refl

spelled_connection : row_in 2 (line.Edit (edit.Change (item.Connection (record { name = codes "C"; first = codes "T1"; second = codes "T2"; minimum_s = 60 }))))
    ≡ codes "change-connect" ∷ codes "C" ∷ codes "T1" ∷ codes "T2" ∷ codes "60" ∷ []
unfolding digits
spelled_connection = refl

spelled_drop : row_in 1 (line.Edit (edit.Drop kind.Block (codes "A"))) ≡ codes "drop-block" ∷ codes "A" ∷ []
spelled_drop = refl

-- 99999:59:59 is the last time of day; a time in version 1 may be later
last_time : map (has_times_in 2) (
    line.Edit (edit.Put (section_to 359999999)) ∷ line.Edit (edit.Change (section_to 360000000)) ∷ line.Edit (edit.Put t1)
    ∷ line.Edit (edit.Drop kind.Run (codes "T1")) ∷ line.Ask (codes "S") ∷ line.Planner 1 ∷ [])
    ≡ true ∷ false ∷ true ∷ true ∷ true ∷ true ∷ []
last_time = refl

later_in_version_1 : has_times_in 1 (line.Edit (edit.Change (section_to 360000000))) ≡ true
later_in_version_1 = refl
