use Rattle.std.proofs.Common.{◌≡◌, rules, ap, ◌∙◌, to_z, of_z, w64}
use Rattle.std.specs.Prelude.{◌+ℤ◌, ◌-ℤ◌, None, Some, slice_index_or, slice_set}
use Rattle.train_placing.proofs.Occupied.{set_with_use}
use Rattle.train_placing.proofs.last.occupy_one.Goals as goal

pub returns-clause-all : goal.returns-clause-all
returns-clause-all c =
    let u = c.args.one.now in
    let is : to_z w64 (of_z w64 c.shift-until.result) ≡ (u.«end» -ℤ c.args.planned +ℤ c.args.entry) = search rules in
    λ p l.
    ap (λ t. slice_index_or (slice_set c.args.last.now u.block (Some
    (record { until = t; train = c.args.train }))) p None)
    is ∙ set_with_use c.args.last.now u c.args.planned c.args.train c.args.entry p c.requires.place
