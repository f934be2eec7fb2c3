-- Delays are spread over a cut in one way, and a cut over which they are spread has no disorder.
use Rattle.std.proofs.Common.{◌≡◌, [], sym, ap, ◌∙◌}
use Rattle.std.specs.Prelude.{None, Ok, Err}
use Rattle.plan_model.specs.declared.cut.Cut.{Cut}
use Rattle.plan_model.specs.declared.answer.Disorder.{Disorder}
use Rattle.plan_model.specs.declared.answer.Disorder.TheVariants as disorder
use Rattle.plan_model.specs.Disorder.{opposite, remaining}
use Rattle.plan_model.proofs.Unique.{least_is_unique}
use Rattle.train_order.specs.Ordering.{IsOrdering}
use Rattle.train_order.proofs.Unique.{disorder_is_unique}
use Rattle.delay_spread.specs.Spreading.{delayed_floor, spread_by}
use Rattle.delay_spread.specs.Laws.{SpreadIsUnique, SpreadingIsUnique}

pub spread_is_unique : SpreadIsUnique
spread_is_unique cut delays spread other is others =
    is.2
    ∙ ap (spread_by cut delays) (least_is_unique cut (delayed_floor cut delays) is.0 others.0 is.1 others.1)
    ∙ sym others.2

no_disorder : (cut : Cut) (d : Disorder) → opposite cut ≡ None → remaining cut ≡ [] → IsOrdering cut (Err d) → ⊥
no_disorder cut (disorder.Opposite a b x y) alike none is = let e = sym alike ∙ is in cc
no_disorder cut (disorder.Ring links) alike none is = is.1 none

pub spreading_is_unique : SpreadingIsUnique
spreading_is_unique cut delays (Ok spread) (Ok other) is others =
    ap Ok (spread_is_unique cut delays spread other is.2 others.2)
spreading_is_unique cut delays (Ok spread) (Err d) is others = absurd (no_disorder cut d is.0 is.1 others)
spreading_is_unique cut delays (Err d) (Ok spread) is others = absurd (no_disorder cut d others.0 others.1 is)
spreading_is_unique cut delays (Err d) (Err e) is others = ap Err (disorder_is_unique cut d e is others)
