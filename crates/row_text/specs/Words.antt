-- The words that rows begin with, how many fields may follow each, and what a field says.
use Rattle.std.specs.Prelude.{ℕ, ◌*◌, ◌-◌, ◌%◌, Bool, ◌&&◌, ◌==◌, nat_lt, List, [], ◌∷◌, ◌++◌, map, find, codes, Option, ◌+◌, nat_le, if◌then◌else◌, length, take, fold, slice_range, slice_index, Some, None, Result, option_and_then, option_map}
use Rattle.rail_model.specs.Name.{is_same, name_of}
use Rattle.rail_model.specs.Within.{is_from_one}
use Rattle.rail_model.specs.declared.edit.Kind.{Kind}
use Rattle.rail_model.specs.declared.edit.Kind.TheVariants as kind
use Rattle.rail_model.specs.declared.limits.TheConstants.{PATH_HOPS}
use Rattle.row_text.specs.Types.{Word}
use Rattle.row_text.specs.declared.word.Word.TheVariants as word
use Rattle.std.specs.Option.{option_or, ok_or}
use Rattle.std.specs.List.{list_all}
use Rattle.std.specs.Char.{is_ascii_digit}
use Rattle.rail_model.specs.declared.form.Form.{Form}
use Rattle.rail_model.specs.declared.form.Form.TheVariants as form
use Rattle.row_text.specs.declared.read_field.TheConstants.{NUMBER_DIGITS, HOUR_DIGITS}

-- the word of a kind of items
abbrev pub kind_text : Kind → List ℕ
kind_text kind.Block = codes "block"
kind_text kind.Signal = codes "signal"
kind_text kind.Route = codes "route"
kind_text kind.Run = codes "run"
kind_text kind.Section = codes "section"
kind_text kind.Connection = codes "connect"

abbrev pub kinds : List Kind
kinds = kind.Block ∷ kind.Signal ∷ kind.Route ∷ kind.Run ∷ kind.Section ∷ kind.Connection ∷ []

-- the first field of a row
abbrev pub word_text : Word → List ℕ
word_text (word.Put k) = kind_text k
word_text (word.Change k) = codes "change-" ++ kind_text k
word_text (word.Drop k) = codes "drop-" ++ kind_text k
word_text word.Ask = codes "ask"
word_text word.Planner = codes "planner"

abbrev pub words : List Word
words = map word.Put kinds ++ map word.Change kinds ++ map word.Drop kinds ++ word.Ask ∷ word.Planner ∷ []

-- the word that a field is, if it is one
unfoldable pub word_of : List ℕ → Option Word
word_of field = find (λ w. is_same field (word_text w)) words

-- whether so many fields may follow the word of a row that puts an item: a route ends with 1 to 256 names, and so does a section;
-- a run ends with the times of 1 to 256 legs, a running and a dwell time each, but for the last, which has no dwell time
abbrev pub kind_shape : Kind → ℕ → Bool
kind_shape kind.Block n = n == 2
kind_shape kind.Signal n = n == 7
kind_shape kind.Route n = is_from_one (n - 1) PATH_HOPS
kind_shape kind.Run n = ((n - 5) % 2 == 1) && nat_lt (n - 5) (2 * PATH_HOPS)
kind_shape kind.Section n = is_from_one (n - 4) PATH_HOPS
kind_shape kind.Connection n = n == 4

-- a `change-` row has as many fields as the row that puts the item; every other row has one after its word
abbrev pub shape_of : Word → ℕ → Bool
shape_of (word.Put k) n = kind_shape k n
shape_of (word.Change k) n = kind_shape k n
shape_of w n = n == 1

-- whether a row of such a shape may have this many fields, its word counted
abbrev pub allows : (ℕ → Bool) → ℕ → Bool
allows shape fields = shape (fields - 1)

-- the number that digits write in decimal
abbrev pub value_of : List ℕ → ℕ
value_of digits = fold (λ value digit. value * 10 + (digit - 48)) 0 digits

-- one to nine digits are a number
abbrev pub is_number : List ℕ → Bool
is_number field = nat_lt 0 (length field) && nat_le (length field) NUMBER_DIGITS && list_all is_ascii_digit field

abbrev pub number_of : List ℕ → Option ℕ
number_of field = if is_number field then Some (value_of field) else None

-- the class names of rates, with their per cent
abbrev pub classes : List (List ℕ × ℕ)
classes =
    (codes "suburban-peak", 18)
    ∷ (codes "suburban-day", 43)
    ∷ (codes "highspeed-peak", 33)
    ∷ (codes "highspeed-day", 67)
    ∷ (codes "mixed-peak", 33)
    ∷ (codes "mixed-day", 67)
    ∷ []

abbrev pub class_rate : List ℕ → Option ℕ
class_rate field = option_map (λ c. c.1) (find (λ c. is_same field c.0) classes)

-- a rate is a number of per cent or a class name
abbrev pub rate_of : List ℕ → Option ℕ
rate_of field = option_or (number_of field) (class_rate field)

-- what comes next where there is something
infixl 10 ◌>>=◌
abbrev ◌>>=◌ : {A B : Type 0} → Option A → (A → Option B) → Option B
◌>>=◌ = λ o next. option_and_then next o

-- HOURS:MM:SS in seconds, where the hours have this many digits: minutes and seconds have two, and are below 60
abbrev pub clock_after : ℕ → List ℕ → Option ℕ
clock_after digits field = do
  hours ← number_of (take digits field)
  minutes ← number_of (slice_range field (digits + 1) (digits + 3))
  seconds ← number_of (slice_range field (digits + 4) (digits + 6))
  if nat_lt minutes 60 && nat_lt seconds 60 then Some (hours * 3600 + minutes * 60 + seconds) else None

-- a time of day: one to five digits of hours, and colons before the minutes and the seconds
abbrev pub has_clock_form : List ℕ → Bool
has_clock_form field =
    nat_le 7 (length field) && nat_le (length field) (HOUR_DIGITS + 6)
    && (slice_index field (length field - 6) == 58) && (slice_index field (length field - 3) == 58)

abbrev pub clock_of : List ℕ → Option ℕ
clock_of field = if has_clock_form field then clock_after (length field - 6) field else None

-- a time is a number of seconds, and in version 2 of the rows it may be a time of day
abbrev pub time_of : ℕ → List ℕ → Option ℕ
time_of version field = if version == 2 then option_or (number_of field) (clock_of field) else number_of field

-- the name, number, rate or time that a field says; else `BadName` for a name, `Number` for the others
abbrev pub name_in : List ℕ → Result (List ℕ) Form
name_in field = ok_or (name_of field) form.BadName

abbrev pub number_in : List ℕ → Result ℕ Form
number_in field = ok_or (number_of field) form.Number

abbrev pub rate_in : List ℕ → Result ℕ Form
rate_in field = ok_or (rate_of field) form.Number

abbrev pub time_in : ℕ → List ℕ → Result ℕ Form
time_in version field = ok_or (time_of version field) form.Number
