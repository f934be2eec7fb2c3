-- How many edits and tasks there are.
use Rattle.std.proofs.Common.{◌≡◌, ℕ, length, sum_by, refl, length-append}
use Rattle.std.specs.Prelude.{count_by}
use Rattle.std.proofs.lemmas.List.{length-map}
use Rattle.std.proofs.lemmas.List.FromFn.{length-map-range_with_len}
use Rattle.made_line.specs.Base.{block_of, first_blocks, made_signal, first_signals, made_runs, made_section, first_sections, base_edits, first_tasks, first_scripts, scripts_of_made, is_edit}
use Rattle.made_line.proofs.Images.{length-first_runs}

length_blocks : (n count : ℕ) → length (first_blocks n count) ≡ count
unfolding first_blocks
length_blocks n count = length-map-range_with_len (block_of n) 0 count

length_signals : (count : ℕ) → length (first_signals count) ≡ count
unfolding first_signals
length_signals count = length-map-range_with_len made_signal 0 count

length_sections : (count : ℕ) → length (first_sections count) ≡ count
unfolding first_sections
length_sections count = length-map-range_with_len made_section 0 count

pub length_base : (n : ℕ) → length (base_edits n) ≡ 437
unfolding base_edits
length_base n =
    simp (length-append, length-map, length_blocks, length_signals, length-first_runs, length_sections) refl

pub length_scripts : (n : ℕ) → length (scripts_of_made n) ≡ 4
unfolding first_scripts
length_scripts n = length-map-range_with_len (λ p. first_tasks (made_runs n) p 16) 1 4

pub all_tasks : (n : ℕ) → sum_by length (scripts_of_made n) ≡ 128
unfolding first_scripts first_tasks
all_tasks n = refl

pub all_edits : (n : ℕ) → sum_by (count_by is_edit) (scripts_of_made n) ≡ 64
unfolding first_scripts first_tasks
all_edits n = refl
