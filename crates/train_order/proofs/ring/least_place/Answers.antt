use Rattle.std.proofs.Common.{slice_index, sym, arith}
use Rattle.std.specs.Prelude.{nat_le}
use Rattle.std.specs.List.{list_all}
use Rattle.std.proofs.lemmas.Bool.{le-leb, lt-leb}
use Rattle.std.proofs.lemmas.List.Folds.{list_all_at}
use Rattle.std.proofs.lemmas.List.Sums.{position_or_len_is, list_all-from_AllPass}
use Rattle.std.proofs.lemmas.Grind.{common_steps, get_or_default_zero}
use Rattle.train_order.proofs.ring.least_place.Goals as goal

pub returns-clause-least : goal.returns-clause-least
returns-clause-least c =
    let members = c.args.members.now in
    let least = c.loop-k.least in
    let inv = c.loop-k.invariant in
    sym (position_or_len_is (λ m. list_all (nat_le m) members) members least 0 (omega (arith, inv.within))
    (λ k l. list_all_at (nat_le (slice_index members k)) members least 0 inv.within (lt-leb _ _ (inv.first k l)))
    (λ l. list_all-from_AllPass (nat_le (slice_index members least)) members (λ k d lk. le-leb _ _
    (omega (arith, inv.least k (omega (arith, lk, c.loop-k-test.false)), get_or_default_zero members k d lk)))))

pub loop-k-preserved : goal.loop-k-preserved
loop-k-preserved c = grind (arith, common_steps)
