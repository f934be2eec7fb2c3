use Rattle.std.proofs.Common.{rules}
use Rattle.std.proofs.lemmas.Fn.{always_returns_same}
use Rattle.train_order.specs.Visits.{key_of}
use Rattle.train_order.proofs.visits.put_in_order.Goals as goal

pub returns-clause-order : goal.returns-clause-order
returns-clause-order c = c.sort_unstable_by_key.ensures.sorted key_of (always_returns_same _ _ _ (λ a r q k. search rules))
