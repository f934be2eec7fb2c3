use Rattle.std.proofs.Common.{◌<◌, length}
use Rattle.std.proofs.lemmas.List.Sorted.{All-permutation}
use Rattle.train_order.proofs.precedence.take_in_visits.Goals as goal

pub take_in_earlier-requires-clause-there : goal.take_in_earlier-requires-clause-there
take_in_earlier-requires-clause-there c =
    All-permutation (λ v. v.member < length c.args.sets.now) c.args.visits.now c.put_in_order.new.visits
    c.put_in_order.ensures.same c.requires.there
