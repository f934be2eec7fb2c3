use Rattle.std.proofs.Common.{◌≡◌, ℕ, false, List, map, sym, ap, rules, ◌∙◌}
use Rattle.std.specs.String.{string_bytes}
use Rattle.capacity_cmd.specs.Command.{is_among_runs}
use Rattle.capacity_cmd.proofs.GivenDelays.{rest, run_twice, no_pair, by_rest}
use Rattle.capacity_cmd.proofs.given_delay.+are_pairs.Goals as goal

pub returns-then-is_among_runs : goal.returns-then-is_among_runs
returns-then-is_among_runs t c =
    run_twice string_bytes c.args.words.now c.run-item.result c.delay-item.result c.in-len2-up.len_at_least c.run-item.is
    c.delay-item.is (search rules)

pub returns-in-len1 : goal.returns-in-len1
returns-in-len1 t c = no_pair string_bytes c.args.words.now c.in-len1.len_at_least c.in-len1.len_below

pub returns-else-is_among_runs : goal.returns-else-is_among_runs
returns-else-is_among_runs t c =
    let words = c.args.words.now in
    let once : is_among_runs (string_bytes c.run-item.result) (map string_bytes (rest words)) ≡ false =
    ap (λ (run : List ℕ). is_among_runs run (map string_bytes (rest words))) (sym c.deref-in-len2-up.ensures)
    ∙ sym c.is_among_runs.ensures ∙ c.if-is_among_runs.false in
    c.are_pairs.ensures
    ∙ by_rest string_bytes c.args.words.now c.run-item.result c.delay-item.result c.in-len2-up.len_at_least c.run-item.is
    c.delay-item.is (search rules) once
