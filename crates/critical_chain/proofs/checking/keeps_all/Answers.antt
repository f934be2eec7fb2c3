use Rattle.std.proofs.Common.{◌≡◌, List, map, sym, subst}
use Rattle.std.specs.Prelude.{ℤ, All}
use Rattle.plan_model.specs.declared.answer.Placed.{Placed}
use Rattle.plan_model.specs.declared.cut.Cut.{Cut}
use Rattle.plan_model.specs.Cut.{IsBounded}
use Rattle.critical_chain.specs.Parts.{HasTrains}
use Rattle.critical_chain.proofs.Fitting.{all_bounded}
use Rattle.critical_chain.proofs.checking.keeps_all.Goals as goal

-- the entries that are laid out are those of the trains
laid_bounded : (cut : Cut) (placed : List Placed) (entries : List ℤ) → HasTrains cut placed
    → entries ≡ map (λ (p : Placed). p.entry) placed → All IsBounded entries
laid_bounded cut placed entries trains e = subst (All IsBounded) (sym e) (all_bounded cut placed trains)

pub has_ties-requires-clause-bounded : goal.has_ties-requires-clause-bounded
has_ties-requires-clause-bounded c =
    laid_bounded c.args.cut.now c.args.plan.now.placed _ c.requires.trains c.lay_out.ensures

pub keeps_places-requires-clause-bounded : goal.keeps_places-requires-clause-bounded
keeps_places-requires-clause-bounded c =
    laid_bounded c.args.cut.now c.args.plan.now.placed _ c.requires.trains c.lay_out.ensures

pub is_occupied-requires-clause-bounded : goal.is_occupied-requires-clause-bounded
is_occupied-requires-clause-bounded c =
    laid_bounded c.args.cut.now c.args.plan.now.placed _ c.requires.trains c.lay_out.ensures
