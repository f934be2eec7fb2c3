use Rattle.std.proofs.Common.{◌≡◌, ◌+◌, ◌≤◌, ℕ, List, length, All, AllPairs, IfOk, subst, ◌∙◌}
use Rattle.std.specs.Prelude.{Result, Ok, Err}
use Rattle.plan_model.specs.declared.cut.Cut.{Cut}
use Rattle.line_cutter.specs.declared.found.Cutting.{Cutting}
use Rattle.line_cutter.specs.Cutting.{AreOrderly, IsCutting}
use Rattle.line_cutter.specs.Laws.{IsLongest, IsCutAmong, AreDisjoint}
use Rattle.line_cutter.proofs.Along.{no_fewer_pieces, each_is_longest, each_needs_a_cut, stretches_are_disjoint, one_piece_more}
use Rattle.line_cutter.proofs.cutting.cut_line.Goals as goal

-- what holds of the cutting of a cut holds of what is found
on_ok : {E : Type 0} (cut found : Cut) (P : Cutting → Type 0) → ((cutting : Cutting) → IsCutting cut cutting → P cutting)
    → (result : Result Cutting E) → found ≡ cut → IfOk result (IsCutting found) → IfOk result P
on_ok cut found P law (Ok cutting) same is = law cutting (subst (λ k. IsCutting k cutting) same is)
on_ok cut found P law (Err e) same is = tt

pub returns-clause-one_more : goal.returns-clause-one_more
returns-clause-one_more c =
    on_ok c.args.cut.now c.in_ok-line.line (λ cutting. length cutting.ends ≡ length cutting.stretches + 1)
    (one_piece_more c.args.cut.now) c.cut_from.result (c.in_ok-line.ensures ∙ c.of.ensures) c.cut_from.ensures

pub returns-clause-longest : goal.returns-clause-longest
returns-clause-longest c =
    on_ok c.args.cut.now c.in_ok-line.line (λ cutting. All (IsLongest c.args.cut.now) cutting.stretches)
    (each_is_longest c.args.cut.now) c.cut_from.result (c.in_ok-line.ensures ∙ c.of.ensures) c.cut_from.ensures

pub returns-clause-disjoint : goal.returns-clause-disjoint
returns-clause-disjoint c =
    on_ok c.args.cut.now c.in_ok-line.line (λ cutting. AllPairs AreDisjoint cutting.stretches)
    (stretches_are_disjoint c.args.cut.now) c.cut_from.result (c.in_ok-line.ensures ∙ c.of.ensures) c.cut_from.ensures

pub returns-clause-needed : goal.returns-clause-needed
returns-clause-needed c =
    on_ok c.args.cut.now c.in_ok-line.line
    (λ cutting. (ends : List ℕ) → AreOrderly c.args.cut.now 0 ends → All (IsCutAmong ends) cutting.stretches)
    (λ cutting is ends. each_needs_a_cut c.args.cut.now cutting ends is) c.cut_from.result (c.in_ok-line.ensures ∙ c.of.ensures) c.cut_from.ensures

pub returns-clause-fewest : goal.returns-clause-fewest
returns-clause-fewest c =
    on_ok c.args.cut.now c.in_ok-line.line
    (λ cutting. (ends : List ℕ) → AreOrderly c.args.cut.now 0 ends → length cutting.ends ≤ length ends)
    (λ cutting is ends. no_fewer_pieces c.args.cut.now cutting ends is) c.cut_from.result (c.in_ok-line.ensures ∙ c.of.ensures) c.cut_from.ensures
