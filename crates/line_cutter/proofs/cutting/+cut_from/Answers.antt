use Rattle.std.proofs.Common.{◌++◌, ◌∷◌, [], sym, subst, refl, arith}
use Rattle.line_cutter.specs.Cutting.{AreOrderly, AreStretches, IsStretch}
use Rattle.line_cutter.specs.Search.{AreCutTo, IsEnd}
use Rattle.line_cutter.specs.declared.found.Stretch.{Stretch}
use Rattle.line_cutter.proofs.Further.{cut_more, all_orderly, all_stretches}
use Rattle.line_cutter.proofs.cutting.+cut_from.Goals as goal

pub cut_from-requires : goal.cut_from-requires
cut_from-requires t c =
    let cut = c.args.line.now in
    let first = c.args.first in
    let end = c.in_ok-found.found.end in
    let found = c.in_ok-found.ensures in
    let stretch : Stretch = record { first = first; last = end; disorder = c.in-Some.disorder } in
    let more = subst (IsEnd cut first end) c.in-Some.is found.is_end in
    let is : IsStretch cut first end stretch = record { first = refl; last = refl; disorder = more.1 } in
    let so_far = cut_more cut c.args.cutting.ends c.args.cutting.stretches 0 first end stretch c.requires.before found.fits more.0 is in
    let pushed = rw c.in-Some.is at c.in_ok-push-in-Some.ensures.ok in (
      omega (arith, c.decreases, c.requires.left, found.fits.some, more.0),
      (
        more.0,
        subst (λ es. AreCutTo cut 0 es c.push-in-Some.new.self end) (sym c.in_ok-push.ensures.ok)
            (subst (λ ss. AreCutTo cut 0 (c.args.cutting.ends ++ end ∷ []) ss end) (sym pushed) so_far),
      ),
    )

pub returns-in-None : goal.returns-in-None
returns-in-None t c =
    let cut = c.args.line.now in
    let found = c.in_ok-found.ensures in
    let ends = c.args.cutting.ends in
    let stretches = c.args.cutting.stretches in
    let last = subst (IsEnd cut c.args.first c.in_ok-found.found.end) c.in-None.is found.is_end in
    record {
      orderly =
          subst (λ es. AreOrderly cut 0 es) (sym c.in_ok-push.ensures.ok)
          (all_orderly cut ends stretches 0 c.args.first c.in_ok-found.found.end c.requires.before found.fits last);
      stretches =
          subst (λ es. AreStretches cut 0 es stretches) (sym c.in_ok-push.ensures.ok)
          (all_stretches cut ends stretches 0 c.args.first c.in_ok-found.found.end c.requires.before last);
    }
