-- The made lists grow by one item at a time.
use Rattle.std.proofs.Common.{◌≡◌, ℕ, ◌+◌, List, [], ◌∷◌, ◌++◌, map, refl, sym, ap, ◌∙◌, append_assoc, append-nil, arith}
use Rattle.std.proofs.lemmas.List.{map-append}
use Rattle.std.proofs.lemmas.List.FromFn.{map-range_with_len_more}
use Rattle.rail_model.specs.declared.edit.Edit.{Edit}
use Rattle.made_line.specs.Base.{after_draws, block_name, signal_name, block_of, first_blocks, made_signal, first_signals, signal_names, made_route, made_leg, first_legs, run_from, first_runs, made_runs, block_names, made_section, first_sections, put_block, put_signal, put_route, put_run, put_section, base_edits}

pub no_blocks : (n : ℕ) → first_blocks n 0 ≡ []
unfolding first_blocks
no_blocks n = refl

pub first_blocks-more : (n k : ℕ) → first_blocks n (k + 1) ≡ first_blocks n k ++ block_of n k ∷ []
unfolding first_blocks
first_blocks-more n k = map-range_with_len_more (block_of n) 0 k k (omega arith)

pub no_signals : first_signals 0 ≡ []
unfolding first_signals
no_signals = refl

pub first_signals-more : (k : ℕ) → first_signals (k + 1) ≡ first_signals k ++ made_signal k ∷ []
unfolding first_signals
first_signals-more k = map-range_with_len_more made_signal 0 k k (omega arith)

pub no_signal_names : signal_names 0 ≡ []
unfolding signal_names
no_signal_names = refl

pub signal_names-more : (k : ℕ) → signal_names (k + 1) ≡ signal_names k ++ signal_name k ∷ []
unfolding signal_names
signal_names-more k = map-range_with_len_more signal_name 0 k k (omega arith)

pub no_legs : (x : ℕ) → first_legs x 0 ≡ []
unfolding first_legs
no_legs x = refl

pub first_legs-more : (x k : ℕ) → first_legs x (k + 1) ≡ first_legs x k ++ made_leg (after_draws x k) ∷ []
unfolding first_legs
first_legs-more x k = map-range_with_len_more (λ j. made_leg (after_draws x j)) 0 k k (omega arith)

pub no_runs : (x : ℕ) → first_runs x 0 ≡ []
unfolding first_runs
no_runs x = refl

pub first_runs-more : (x k : ℕ) → first_runs x (k + 1) ≡ first_runs x k ++ run_from x k ∷ []
unfolding first_runs
first_runs-more x k = map-range_with_len_more (run_from x) 0 k k (omega arith)

pub no_block_names : (first : ℕ) → block_names first 0 ≡ []
unfolding block_names
no_block_names first = refl

pub block_names-more : (first k : ℕ) → block_names first (k + 1) ≡ block_names first k ++ block_name (first + k) ∷ []
unfolding block_names
block_names-more first k = map-range_with_len_more block_name first k (first + k) refl

pub no_sections : first_sections 0 ≡ []
unfolding first_sections
no_sections = refl

pub first_sections-more : (k : ℕ) → first_sections (k + 1) ≡ first_sections k ++ made_section k ∷ []
unfolding first_sections
first_sections-more k = map-range_with_len_more made_section 0 k k (omega arith)

-- ---- edits that put them

pub no_edits : {X : Type 0} (put : X → Edit) {edits : List Edit} (items : List X) → items ≡ []
    → edits ≡ edits ++ map put items
no_edits put {edits} items e = sym (ap (λ xs. edits ++ map put xs) e ∙ append-nil edits)

pub more_edits : {X : Type 0} (put : X → Edit) (edits : List Edit) (items : List X) {more : List X} (x : X)
    → more ≡ items ++ x ∷ [] → (edits ++ map put items) ++ put x ∷ [] ≡ edits ++ map put more
more_edits put edits items x e =
    append_assoc edits (map put items) (put x ∷ [])
    ∙ ap (λ xs. edits ++ xs) (sym (ap (map put) e ∙ map-append put items (x ∷ [])))

-- the base, as it is put together
in_turn : (blocks signals runs sections : List Edit) (route : Edit)
    → (((blocks ++ signals) ++ route ∷ []) ++ runs) ++ sections ≡ blocks ++ signals ++ route ∷ [] ++ runs ++ sections
in_turn blocks signals runs sections route = simp append_assoc

pub joined_base : (n : ℕ)
    → (((map put_block (first_blocks n 64) ++ map put_signal (first_signals 64)) ++ put_route made_route ∷ []) ++ map put_run (made_runs n)) ++ map put_section (first_sections 8) ≡ base_edits n
unfolding base_edits
joined_base n =
    in_turn (map put_block (first_blocks n 64)) (map put_signal (first_signals 64)) (map put_run (made_runs n))
    (map put_section (first_sections 8)) (put_route made_route)
