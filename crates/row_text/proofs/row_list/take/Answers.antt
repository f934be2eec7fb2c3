use Rattle.std.proofs.Common.{◌≡◌, length, ◌∙◌, refl}
use Rattle.row_text.proofs.Taken.{HasTaken-more}
use Rattle.row_text.proofs.row_list.take.Goals as goal

pub returns : goal.returns
returns c = λ rows has.
    let put = c.in_ok-put_fields.ensures in
    let count : c.len.result ≡ length c.put_fields.new.taken.cuts.items = c.len.ensures ∙ c.put_fields.new.taken.cuts.ok.0 in
    HasTaken-more c.args.taken.now c.put_fields.new.taken _ rows put.0 _ put.1 refl refl refl (rw count at c.in_ok-push_place.ensures.ok) has
