use Rattle.std.proofs.Common.{◌≡◌, [], length, refl, arith}
use Rattle.std.proofs.lemmas.List.{ext_get_or}
use Rattle.plan_model.specs.Members.{place_names}
use Rattle.plan_model.proofs.fit_cut.SoundCut.are_places.Goals as goal

pub returns : goal.returns
returns c =
    let names = c.args.names.now in
    let places = place_names c.args.self.now in
    let count : length names ≡ length places = omega (arith, c.len.ensures, c.if-len-place_count.false, c.place_count.ensures) in (
      λ t.
          ext_get_or [] names places count (λ k l.
          c.loop-place.invariant k (omega (arith, l, count, c.loop-place-test.false, c.place_count-place-end.ensures))),
      λ e. refl,
    )
