use Rattle.std.proofs.Common.{◌≡◌, ◌≢◌, ◌<ℤ◌, List, AllPairs, map, sym, ap, subst}
use Rattle.std.specs.Prelude.{All}
use Rattle.std.proofs.lemmas.Result.{IfOk-weaker}
use Rattle.std.proofs.lemmas.List.Elements.{All-same}
use Rattle.rail_model.specs.declared.stair.Stair.{Stair}
use Rattle.rail_model.specs.declared.stair.Use.{Use}
use Rattle.rail_model.specs.Blocking.{hop_count, use_of, stairway, stair_of}
use Rattle.rail_model.proofs.Lists.{All-from_one}
use Rattle.blocking_time.specs.Blocking.{IsUseBounded}
use Rattle.blocking_time.proofs.Uses.{not_empty, bounded, blocks_differ}
use Rattle.blocking_time.proofs.walk.stairs.Goals as goal

pub returns-clause-not_empty : goal.returns-clause-not_empty
returns-clause-not_empty c =
    let path = c.args.path.now in
    let P : Use → Type 0 = λ u. u.start <ℤ u.«end» in
    IfOk-weaker c.stairs_in.result (λ s. s ≡ stair_of path) (λ s. All P s.uses)
    (λ s is. All-same P s.uses (stairway path) (ap (λ (s : Stair). s.uses) is) (All-from_one P (use_of path) (hop_count path) (not_empty path c.requires)))
    c.stairs_in.ensures

pub returns-clause-bounded : goal.returns-clause-bounded
returns-clause-bounded c =
    let path = c.args.path.now in
    IfOk-weaker c.stairs_in.result (λ s. s ≡ stair_of path) (λ s. All IsUseBounded s.uses)
    (λ s is. All-same IsUseBounded s.uses (stairway path) (ap (λ (s : Stair). s.uses) is) (All-from_one IsUseBounded (use_of path) (hop_count path) (bounded path c.requires)))
    c.stairs_in.ensures

pub returns-clause-blocks_differ : goal.returns-clause-blocks_differ
returns-clause-blocks_differ c =
    let path = c.args.path.now in
    let Differ : List Use → Type 0 = λ uses. AllPairs (λ a b. a ≢ b) (map (λ (u : Use). u.block) uses) in
    IfOk-weaker c.stairs_in.result (λ s. s ≡ stair_of path) (λ s. Differ s.uses)
    (λ s is. subst Differ (sym (ap (λ (s : Stair). s.uses) is)) (blocks_differ path c.requires))
    c.stairs_in.ensures
