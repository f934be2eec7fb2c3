-- Which command the words of a call spell.
use Rattle.std.specs.Prelude.{ℕ, ◌+◌, ◌*◌, ◌/◌, Bool, true, false, not, ◌&&◌, ◌||◌, nat_lt, nat_le, if◌then◌else◌, List, [], ◌∷◌, length, map, slice_index_or, Option, Some, None, is_some, unwrap_or, option_map, ◌≡◌, codes, Result, Ok, IfOk}
use Rattle.std.specs.List.{range_with_len}
use Rattle.rail_model.specs.Name.{is_same, name_of}
use Rattle.row_text.specs.Words.{number_of, value_of, is_number}
use Rattle.plan_book.specs.declared.book.TheConstants.{PLANNERS}
use Rattle.session_run.specs.declared.threads.TheConstants.{WORKERS}
use Rattle.delay_spread.specs.declared.spreading.TheConstants.{GREATEST_DELAY_S}
use Rattle.capacity_cmd.specs.declared.given_delay.TheConstants.{GIVEN_DELAYS, DELAY_DIGITS}
use Rattle.capacity_cmd.specs.Types.{GivenDelay, Command}
use Rattle.capacity_cmd.specs.declared.command.Command.TheVariants as command

-- the seconds that a word of one to five digits says, where they are no more than are spread
abbrev pub seconds_of : List ℕ → Option ℕ
seconds_of word =
    if nat_le (length word) DELAY_DIGITS && is_number word && nat_le (value_of word) GREATEST_DELAY_S
    then Some (value_of word)
    else None

-- a word stands where pairs of words name a run
abbrev pub is_among_runs : List ℕ → List (List ℕ) → Bool
is_among_runs run [] = false
is_among_runs run (other ∷ []) = false
is_among_runs run (other ∷ delay ∷ more) = is_same run other || is_among_runs run more

-- pairs of a run's word and its delay's; no run's word comes twice
abbrev pub are_pairs : List (List ℕ) → Bool
are_pairs [] = true
are_pairs (run ∷ []) = false
are_pairs (run ∷ delay ∷ more) = is_some (seconds_of delay) && not (is_among_runs run more) && are_pairs more

-- 1 to 64 of them
abbrev pub are_delays : List (List ℕ) → Bool
are_delays words = nat_lt 0 (length words) && nat_le (length words) (2 * GIVEN_DELAYS) && are_pairs words

-- what a pair gives; nothing where the run's word is no name
abbrev pub given_delay : List ℕ → List ℕ → Option GivenDelay
given_delay run delay = option_map (λ name. record { run = name; delay = unwrap_or (seconds_of delay) 0 }) (name_of run)

-- what the pair of a number gives, counted from 0
abbrev pub pair_at : List (List ℕ) → ℕ → Option GivenDelay
pair_at words k = given_delay (slice_index_or words (2 * k) []) (slice_index_or words (2 * k + 1) [])

-- all values of a list, where each is one
abbrev pub all_of : {X : Type 0} → List (Option X) → Option (List X)
all_of [] = Some []
all_of (None ∷ more) = None
all_of (Some x ∷ more) = option_map (λ xs. x ∷ xs) (all_of more)

-- what all pairs give, in their order; nothing where the word of a run is no name
abbrev pub delays_of : List (List ℕ) → Option (List GivenDelay)
delays_of words = all_of (map (pair_at words) (range_with_len 0 (length words / 2)))

-- so many workers, from 0 to 16, in one or two digits
abbrev pub workers_in : List ℕ → Option ℕ
workers_in word =
    if nat_le (length word) 2 && is_number word && nat_le (value_of word) WORKERS then Some (value_of word) else None

-- the command that up to three words spell, if they spell one; the word of a section and of a run may be no name
abbrev pub short_command_of : List (List ℕ) → Option Command
short_command_of (word ∷ []) =
    if is_same word (codes "stairs") then Some command.Stairs
    else if is_same word (codes "check") then Some command.Check
    else if is_same word (codes "report") then Some command.Report
    else None
short_command_of (word ∷ section ∷ []) =
    if is_same word (codes "compress") then Some (command.Compress (name_of section))
    else if is_same word (codes "headways") then Some (command.Headways (name_of section))
    else if is_same word (codes "cut") then Some (command.Cut (name_of section))
    else if is_same word (codes "cycle") then Some (command.Cycle (name_of section))
    else if is_same word (codes "session") then option_map command.Session (workers_in section)
    else None
short_command_of (word ∷ section ∷ run ∷ []) =
    if is_same word (codes "fill") then Some (command.Fill (name_of section) (name_of run)) else None
short_command_of words = None

-- the command that the words after the program's name spell, if they spell one
abbrev pub command_of : List (List ℕ) → Option Command
command_of (word ∷ section ∷ given) =
    if is_same word (codes "delays") && are_delays given then Some (command.Delays (name_of section) (delays_of given))
    else short_command_of (word ∷ section ∷ given)
command_of words = short_command_of words

-- a command is read, or memory ran out for it; where there is none, none is read
abbrev pub IsRead : {E : Type 0} → Option Command → Result (Option Command) E → Type 0
IsRead None read = read ≡ Ok None
IsRead (Some command) read = IfOk read (λ made. made ≡ Some command)

-- how many workers a command has: a session as many as are asked for, any other none
abbrev pub workers_of : Command → ℕ
workers_of (command.Session workers) = workers
workers_of c = 0

-- and how many words ask for, by the command that they spell
abbrev pub workers_asked : Option Command → ℕ
workers_asked None = 0
workers_asked (Some command) = workers_of command

-- the number, in one to nine digits, from which words ask for a line to be made, if they do: a call that runs no command
abbrev pub made_of : List (List ℕ) → Option ℕ
made_of (word ∷ number ∷ []) = if is_same word (codes "made") then number_of number else None
made_of words = None

-- a call with these words waits for nobody: they ask for no line to be made, whose session has workers, and for no workers
pub record IsAlone (words : List (List ℕ)) : Type 0 where
  pub not_made : made_of words ≡ None
  pub no_workers : workers_asked (command_of words) ≡ 0

-- how many planners' scripts a command takes: a session up to 16, any other none
abbrev pub planners_of : Command → ℕ
planners_of (command.Session workers) = PLANNERS
planners_of c = 0
