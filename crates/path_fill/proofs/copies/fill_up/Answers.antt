use Rattle.std.proofs.Common.{◌≡◌, ℕ, refl, sym, ap, ◌∙◌}
use Rattle.std.specs.Prelude.{nat_le}
use Rattle.path_fill.specs.Filling.{has_room}
use Rattle.path_fill.proofs.Room.{room_is, fit, over, no_room}
use Rattle.path_fill.proofs.copies.fill_up.Goals as goal

pub returns-then-alone-most : goal.returns-then-alone-most
returns-then-alone-most c =
    let section = c.args.section.now in
    let most = c.most_time-most.result in
    let room : (time : ℕ) → has_room section time ≡ nat_le time most =
    λ time. room_is section c.requires.window time ∙ ap (nat_le time) (sym c.most_time-most.ensures.is) in
    (refl, no_room section c.args.alone most room c.if-alone-most.true)

pub returns : goal.returns
returns c =
    let section = c.args.section.now in
    let most = c.most_time-most.result in
    let copies = c.copies_within-copies.result in
    let found = c.copies_within-copies.ensures in
    let room : (time : ℕ) → has_room section time ≡ nat_le time most =
    λ time. room_is section c.requires.window time ∙ ap (nat_le time) (sym c.most_time-most.ensures.is) in
    record {
      occupancy = c.filled_time.ensures;
      next = c.filled_time-2.ensures;
      fit =
          fit section c.args.alone c.args.first c.args.headway most copies room c.if-alone-most.false found.within
          found.over;
      over =
          over section c.args.alone c.args.first c.args.headway most copies room c.if-alone-most.false found.within
          found.over;
    }
