use Rattle.std.proofs.Common.{◌+◌, ◌∙◌, ap, sym, subst, get_or, length, arith}
use Rattle.std.proofs.lemmas.List.FromFn.{length-map-range_with_len}
use Rattle.rail_model.specs.Blocking.{hop_count}
use Rattle.blocking_time.specs.Mark.{mark_of, IsMarkWithin}
use Rattle.blocking_time.proofs.Places.{marks_at, mark_within}
use Rattle.blocking_time.proofs.course.mark_in.Goals as goal

pub bounds-marks-k : goal.bounds-marks-k
bounds-marks-k c =
    let count = ap length c.requires.table ∙ length-map-range_with_len (mark_of c.args.path.now) 0 (hop_count c.args.path.now + 1) in
    omega (arith, count, c.requires.on_path)

pub returns-clause-mark : goal.returns-clause-mark
returns-clause-mark c =
    ap (λ marks. get_or marks c.args.k record { place_m = 0; departure_s = 0 }) c.requires.table
    ∙ marks_at c.args.path.now c.args.k (record { place_m = 0; departure_s = 0 }) c.requires.on_path

pub returns-clause-bounded : goal.returns-clause-bounded
returns-clause-bounded c =
    subst IsMarkWithin
    (sym (ap (λ marks. get_or marks c.args.k record { place_m = 0; departure_s = 0 }) c.requires.table
    ∙ marks_at c.args.path.now c.args.k (record { place_m = 0; departure_s = 0 }) c.requires.on_path))
    (mark_within c.args.path.now c.requires.fits c.args.k c.requires.on_path)
