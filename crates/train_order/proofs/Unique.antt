-- A cut has one disorder, or an order.
use Rattle.std.proofs.Common.{sym, ap, ◌∙◌}
use Rattle.std.specs.Prelude.{Option, Some, None}
use Rattle.plan_model.specs.declared.answer.Disorder.{Disorder}
use Rattle.plan_model.specs.declared.answer.Disorder.TheVariants as disorder
use Rattle.plan_model.specs.Disorder.{Opposite}
use Rattle.train_order.specs.Laws.{DisorderIsUnique, OrderedHasNoDisorder}

-- the disorder that speaks of opposite trains
told : Option Opposite → Disorder → Disorder
told None other = other
told (Some o) other = disorder.Opposite o.first o.second o.block1 o.block2

pub disorder_is_unique : DisorderIsUnique
unfolding told
disorder_is_unique cut (disorder.Opposite a b x y) (disorder.Opposite c d z w) is others =
    ap (λ o. told o (disorder.Opposite a b x y)) (sym is ∙ others)
disorder_is_unique cut (disorder.Opposite a b x y) (disorder.Ring links) is others =
    absurd (let e = sym is ∙ others.0 in cc)
disorder_is_unique cut (disorder.Ring links) (disorder.Opposite a b x y) is others =
    absurd (let e = sym is.0 ∙ others in cc)
disorder_is_unique cut (disorder.Ring links) (disorder.Ring other) is others = ap disorder.Ring (is.2 ∙ sym others.2)

pub ordered_has_no_disorder : OrderedHasNoDisorder
ordered_has_no_disorder cut order (disorder.Opposite a b x y) is others = absurd (let e = sym is.0 ∙ others in cc)
ordered_has_no_disorder cut order (disorder.Ring links) is others = others.1 is.1
