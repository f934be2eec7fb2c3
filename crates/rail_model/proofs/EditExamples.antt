-- The rules of edits, evaluated on a small line.
use Rattle.std.proofs.Common.{◌≡◌, ℕ, true, false, List, [], ◌∷◌, Some, None, refl, map}
use Rattle.std.specs.Prelude.{codes}
use Rattle.std.specs.List.{range_with_len}
use Rattle.rail_model.specs.declared.items.Block.{Block}
use Rattle.rail_model.specs.declared.items.Signal.{Signal}
use Rattle.rail_model.specs.declared.items.Run.{Run}
use Rattle.rail_model.specs.declared.items.Section.{Section}
use Rattle.rail_model.specs.declared.items.Connection.{Connection}
use Rattle.rail_model.specs.declared.items.Leg.{Leg}
use Rattle.rail_model.specs.declared.items.Item.TheVariants as item
use Rattle.rail_model.specs.declared.edit.Edit.TheVariants as edit
use Rattle.rail_model.specs.declared.edit.Kind.{Kind}
use Rattle.rail_model.specs.declared.edit.Kind.TheVariants as kind
use Rattle.rail_model.specs.declared.edit.Rule.TheVariants.{Range, Twice, Unknown, Count, InUse}
use Rattle.rail_model.specs.declared.tables.Tables.{Tables}
use Rattle.rail_model.specs.Rules.{after, rule_of}
use Rattle.rail_model.specs.Within.{is_within}

abbrev block : List ℕ → Block
block name = record { name = name; length_m = 1000 }

abbrev signal : List ℕ → List ℕ → Signal
signal name beyond = record { name = name; block = beyond; approach_m = 1000; watch_s = 10; form_s = 5; overlap_m = 0; release_s = 5 }

abbrev leg : Leg
leg = record { running_s = 60; dwell_s = 0 }

abbrev run : List ℕ → ℕ → List Leg → Run
run name start legs = record { name = name; route = codes "R"; length_m = 100; tail_s = 10; start_s = start; legs = legs }

abbrev connection : List ℕ → List ℕ → List ℕ → Connection
connection name first second = record { name = name; first = first; second = second; minimum_s = 0 }

abbrev section : List ℕ → List (List ℕ) → Section
section name blocks = record { name = name; from_s = 0; to_s = 3600; add_percent = 33; blocks = blocks }

-- two blocks with their signals, a route over both, two runs on it and a section of both
abbrev line : Tables
line = record {
  blocks = block (codes "A") ∷ block (codes "B") ∷ [];
  signals = signal (codes "SA") (codes "A") ∷ signal (codes "SB") (codes "B") ∷ [];
  routes = record { name = codes "R"; signals = codes "SA" ∷ codes "SB" ∷ [] } ∷ [];
  runs = run (codes "T1") 100 (leg ∷ leg ∷ []) ∷ run (codes "T2") 400 (leg ∷ leg ∷ []) ∷ [];
  sections = section (codes "S") (codes "A" ∷ codes "B" ∷ []) ∷ [];
  connections = [];
}

abbrev connected : Tables
connected = after line (edit.Put (item.Connection (connection (codes "C") (codes "T1") (codes "T2"))))

a_block_again : rule_of line (edit.Put (item.Block (block (codes "A")))) ≡ Some Twice
a_block_again = refl

a_block_of_no_length : rule_of line (edit.Put (item.Block (record { name = codes "A"; length_m = 0 }))) ≡ Some Range
a_block_of_no_length = refl

a_signal_to_another_block : rule_of line (edit.Change (item.Signal (signal (codes "SB") (codes "A")))) ≡ Some Twice
a_signal_to_another_block = refl

a_signal_to_its_block : rule_of line (edit.Change (item.Signal (signal (codes "SB") (codes "B")))) ≡ None
a_signal_to_its_block = refl

a_shorter_route : rule_of line (edit.Change (item.Route (record { name = codes "R"; signals = codes "SA" ∷ [] }))) ≡ Some Count
a_shorter_route = refl

a_run_of_one_leg : rule_of line (edit.Put (item.Run (run (codes "T3") 700 (leg ∷ [])))) ≡ Some Count
a_run_of_one_leg = refl

a_block_in_use : rule_of line (edit.Drop kind.Block (codes "A")) ≡ Some InUse
a_block_in_use = refl

a_run_in_no_use : rule_of line (edit.Drop kind.Run (codes "T1")) ≡ None
a_run_in_no_use = refl

a_connected_run : rule_of connected (edit.Drop kind.Run (codes "T1")) ≡ Some InUse
a_connected_run = refl

a_connection_of_a_blocks_name : rule_of line (edit.Put (item.Connection (connection (codes "A") (codes "T1") (codes "T2")))) ≡ Some Twice
a_connection_of_a_blocks_name = refl

a_block_of_a_connections_name : rule_of connected (edit.Put (item.Block (block (codes "C")))) ≡ Some Twice
a_block_of_a_connections_name = refl

a_run_connected_to_itself : rule_of line (edit.Put (item.Connection (connection (codes "C") (codes "T1") (codes "T1")))) ≡ Some Twice
a_run_connected_to_itself = refl

a_run_that_is_not_there : rule_of line (edit.Put (item.Connection (connection (codes "C") (codes "T1") (codes "T9")))) ≡ Some Unknown
a_run_that_is_not_there = refl

-- ---- names that are taken, and names that aren't there, in each kind

abbrev other : List ℕ
other = codes "X"

-- the last three names are those of a block and of no item of their own kind
puts_again : map (λ x. rule_of connected (edit.Put x)) (
    item.Signal (signal (codes "SA") (codes "A"))
    ∷ item.Route (record { name = codes "R"; signals = codes "SA" ∷ codes "SB" ∷ [] })
    ∷ item.Run (run (codes "T1") 100 (leg ∷ leg ∷ []))
    ∷ item.Section (section (codes "S") (codes "A" ∷ []))
    ∷ item.Connection (connection (codes "C") (codes "T1") (codes "T2"))
    ∷ item.Signal (signal (codes "A") (codes "A"))
    ∷ item.Run (run (codes "A") 100 (leg ∷ leg ∷ []))
    ∷ item.Section (section (codes "A") (codes "A" ∷ []))
    ∷ [])
    ≡ Some Twice ∷ Some Twice ∷ Some Twice ∷ Some Twice ∷ Some Twice ∷ None ∷ None ∷ None ∷ []
puts_again = refl

changes_of_others : map (λ x. rule_of connected (edit.Change x)) (
    item.Block (block other)
    ∷ item.Block (block (codes "C"))
    ∷ item.Signal (signal other (codes "A"))
    ∷ item.Route (record { name = other; signals = codes "SA" ∷ codes "SB" ∷ [] })
    ∷ item.Run (run other 100 (leg ∷ leg ∷ []))
    ∷ item.Section (section other (codes "A" ∷ []))
    ∷ item.Connection (connection other (codes "T1") (codes "T2"))
    ∷ item.Connection (connection (codes "A") (codes "T1") (codes "T2"))
    ∷ [])
    ≡ map (λ n. Some Unknown) (range_with_len 0 8)
changes_of_others = refl

changes_to_the_same : map (λ x. rule_of connected (edit.Change x)) (
    item.Block (block (codes "A"))
    ∷ item.Route (record { name = codes "R"; signals = codes "SA" ∷ codes "SB" ∷ [] })
    ∷ item.Run (run (codes "T1") 100 (leg ∷ leg ∷ []))
    ∷ item.Section (section (codes "S") (codes "A" ∷ codes "B" ∷ []))
    ∷ item.Connection (connection (codes "C") (codes "T1") (codes "T2"))
    ∷ [])
    ≡ map (λ n. None) (range_with_len 0 5)
changes_to_the_same = refl

-- a signal, a section and a connection are in no use
drops : map (λ k. rule_of connected (edit.Drop k other)) (
    kind.Block ∷ kind.Signal ∷ kind.Route ∷ kind.Run ∷ kind.Section ∷ kind.Connection ∷ [])
    ≡ map (λ n. Some Unknown) (range_with_len 0 6)
drops = refl

drops_of_those_there : map (λ (d : Kind × List ℕ). rule_of connected (edit.Drop d.0 d.1)) (
    (kind.Block, codes "B") ∷ (kind.Signal, codes "SB") ∷ (kind.Route, codes "R") ∷ (kind.Run, codes "T2")
    ∷ (kind.Section, codes "S") ∷ (kind.Connection, codes "C") ∷ [])
    ≡ Some InUse ∷ Some InUse ∷ Some InUse ∷ Some InUse ∷ None ∷ None ∷ []
drops_of_those_there = refl

-- one name that an item refers to isn't there, the last of several too; it counts before one that stands twice
refers_to_others : map (λ x. rule_of connected (edit.Put x)) (
    item.Signal (signal (codes "SX") other)
    ∷ item.Route (record { name = other; signals = codes "SA" ∷ other ∷ [] })
    ∷ item.Run (record (run other 100 (leg ∷ leg ∷ [])) { route = other })
    ∷ item.Section (section other (codes "A" ∷ codes "A" ∷ other ∷ []))
    ∷ item.Connection (connection other (codes "T9") (codes "T1"))
    ∷ item.Connection (connection other (codes "T9") (codes "T9"))
    ∷ [])
    ≡ map (λ n. Some Unknown) (range_with_len 0 6)
refers_to_others = refl

-- ---- the greatest items of each kind that are within the limits, and items that are just past one

abbrev many : ℕ → List (List ℕ)
many n = map (λ i. codes "A") (range_with_len 0 n)

lengths : map (λ m. is_within (item.Block (record { name = other; length_m = m }))) (0 ∷ 1 ∷ 1000000 ∷ 1000001 ∷ [])
    ≡ false ∷ true ∷ true ∷ false ∷ []
lengths = refl

abbrev greatest_signal : Signal
greatest_signal = record {
  name = other;
  block = other;
  approach_m = 1000000;
  watch_s = 86400;
  form_s = 86400;
  overlap_m = 1000000;
  release_s = 86400;
}

signals : map (λ s. is_within (item.Signal s)) (
    greatest_signal
    ∷ record greatest_signal { approach_m = 1000001 }
    ∷ record greatest_signal { watch_s = 86401 }
    ∷ record greatest_signal { form_s = 86401 }
    ∷ record greatest_signal { overlap_m = 1000001 }
    ∷ record greatest_signal { release_s = 86401 }
    ∷ [])
    ≡ true ∷ false ∷ false ∷ false ∷ false ∷ false ∷ []
signals = refl

routes : map (λ n. is_within (item.Route (record { name = other; signals = many n }))) (0 ∷ 1 ∷ 256 ∷ 257 ∷ [])
    ≡ false ∷ true ∷ true ∷ false ∷ []
routes = refl

-- the last leg has no dwell
abbrev greatest_run : Run
greatest_run = record {
  name = other;
  route = other;
  length_m = 1000000;
  tail_s = 86400;
  start_s = 604800;
  legs = record { running_s = 86400; dwell_s = 86400 } ∷ record { running_s = 86400; dwell_s = 0 } ∷ [];
}

runs : map (λ r. is_within (item.Run r)) (
    greatest_run
    ∷ record greatest_run { length_m = 0 }
    ∷ record greatest_run { length_m = 1000001 }
    ∷ record greatest_run { tail_s = 86401 }
    ∷ record greatest_run { start_s = 604801 }
    ∷ record greatest_run { legs = [] }
    ∷ record greatest_run { legs = map (λ i. leg) (range_with_len 0 256) }
    ∷ record greatest_run { legs = map (λ i. leg) (range_with_len 0 257) }
    ∷ record greatest_run { legs = record { running_s = 0; dwell_s = 0 } ∷ [] }
    ∷ record greatest_run { legs = record { running_s = 86401; dwell_s = 0 } ∷ [] }
    ∷ record greatest_run { legs = record { running_s = 60; dwell_s = 86401 } ∷ leg ∷ [] }
    ∷ record greatest_run { legs = record { running_s = 60; dwell_s = 1 } ∷ [] }
    ∷ [])
    ≡ true ∷ false ∷ false ∷ false ∷ false ∷ false ∷ true ∷ false ∷ false ∷ false ∷ false ∷ false ∷ []
runs = refl

abbrev greatest_section : Section
greatest_section = record { name = other; from_s = 604800; to_s = 1209600; add_percent = 1000; blocks = many 256 }

sections : map (λ s. is_within (item.Section s)) (
    greatest_section
    ∷ record greatest_section { from_s = 604801 }
    ∷ record greatest_section { to_s = 1209601 }
    ∷ record greatest_section { to_s = 604801 }
    ∷ record greatest_section { to_s = 604800 }
    ∷ record greatest_section { from_s = 0; to_s = 0 }
    ∷ record greatest_section { add_percent = 1001 }
    ∷ record greatest_section { blocks = [] }
    ∷ record greatest_section { blocks = many 257 }
    ∷ [])
    ≡ true ∷ false ∷ false ∷ true ∷ false ∷ false ∷ false ∷ false ∷ false ∷ []
sections = refl

minimums : map (λ m. is_within (item.Connection (record (connection other (codes "T1") (codes "T2")) { minimum_s = m }))) (0 ∷ 86400 ∷ 86401 ∷ [])
    ≡ true ∷ true ∷ false ∷ []
minimums = refl
