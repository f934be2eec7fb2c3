-- The names of each kind rise.
use Rattle.std.proofs.Common.{◌≡◌, ℕ, zero, suc, ◌+◌, ◌-◌, ◌<◌, Bool, true, List, length, get_or, refl, subst, arith}
use Rattle.std.specs.List.{list_all, range_with_len}
use Rattle.std.proofs.lemmas.List.FromFn.{length-range_with_len, get_or-range_with_len}
use Rattle.std.proofs.lemmas.List.Sums.{AllPass-from_list_all}
use Rattle.rail_model.specs.Name.{IsBefore, is_before}
use Rattle.rail_model.proofs.NameOrder.{IsBefore-from, IsBefore-trans}
use Rattle.made_line.specs.Base.{block_name, signal_name, run_name, section_name}

-- what is tested for all numbers below a limit
pub tested : (test : ℕ → Bool) (count : ℕ) → list_all test (range_with_len 0 count) ≡ true
    → (i : ℕ) → i < count → test i ≡ true
tested test count all i below =
    let within : i < length (range_with_len 0 count) = omega (arith, below, length-range_with_len 0 count) in
    let same : get_or (range_with_len 0 count) i 0 ≡ i = omega (arith, get_or-range_with_len 0 count i 0 below) in
    subst (λ k. test k ≡ true) same (AllPass-from_list_all test (range_with_len 0 count) all i 0 within)

-- names of which each comes before the next
abbrev comes_before_next : (ℕ → List ℕ) → ℕ → Bool
comes_before_next name i = is_before (name i) (name (i + 1))

rises_by : (name : ℕ → List ℕ) (last : ℕ) → ((i : ℕ) → i < last → IsBefore (name i) (name (i + 1)))
    → (i more : ℕ) → i + more < last → IsBefore (name i) (name (i + more + 1))
rises_by name last next i zero below =
    let same : i ≡ i + 0 = omega arith in
    subst (λ k. IsBefore (name i) (name (k + 1))) same (next i (omega (arith, below)))
rises_by name last next i (suc more) below =
    let same : i + more + 1 ≡ i + suc more = omega arith in
    subst (λ k. IsBefore (name i) (name (k + 1))) same
    (IsBefore-trans (name i) (name (i + more + 1)) (name (i + more + 1 + 1)) (rises_by name last next i more (omega (arith, below)))
    (next (i + more + 1) (omega (arith, below))))

rises : (name : ℕ → List ℕ) (last : ℕ) → list_all (comes_before_next name) (range_with_len 0 last) ≡ true
    → (i j : ℕ) → i < j → j < last + 1 → IsBefore (name i) (name j)
rises name last all i j before below =
    let same : i + (j - (i + 1)) + 1 ≡ j = omega (arith, before) in
    subst (λ k. IsBefore (name i) (name k)) same
    (rises_by name last (λ k lt. IsBefore-from (name k) (name (k + 1)) (tested (comes_before_next name) last all k lt)) i (j - (i + 1))
    (omega (arith, before, below)))

pub blocks_rise : (i j : ℕ) → i < j → j < 64 → IsBefore (block_name i) (block_name j)
blocks_rise = rises block_name 63 refl

pub signals_rise : (i j : ℕ) → i < j → j < 64 → IsBefore (signal_name i) (signal_name j)
signals_rise = rises signal_name 63 refl

pub runs_rise : (i j : ℕ) → i < j → j < 300 → IsBefore (run_name i) (run_name j)
runs_rise = rises run_name 299 refl

pub sections_rise : (i j : ℕ) → i < j → j < 8 → IsBefore (section_name i) (section_name j)
sections_rise = rises section_name 7 refl
