use Rattle.std.proofs.Common.{◌≡◌, ◌<◌, ℕ, length}
use Rattle.std.specs.Prelude.{slice_index_or}
use Rattle.plan_model.specs.declared.answer.Tie.TheVariants.{Start}
use Rattle.plan_model.specs.Schedule.{window_start, entry_at}
use Rattle.train_net.specs.Net.{edges_to}
use Rattle.train_net.specs.Read.{IsTieBy}
use Rattle.train_net.proofs.tying.ties.Given as goal

-- the ties of the first trains
abbrev pub invariant-loop-train : goal.invariant-loop-train
invariant-loop-train l = record {
  count : length l.ties.items ≡ l.train;
  tied : (j : ℕ) → j < l.train
      → IsTieBy l.cut (window_start l.cut) (edges_to l.edges j) l.entries (entry_at l.entries j) (slice_index_or l.ties.items j Start);
}
