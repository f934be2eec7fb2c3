use Rattle.std.proofs.Common.{◌≡◌, length, take}
use Rattle.train_order.specs.OutOfTurn.{ComesLast, Rise}
use Rattle.train_order.proofs.entry_order.come_last.Given as goal

abbrev pub invariant-loop-one : goal.invariant-loop-one
invariant-loop-one l = record {
  count : length l.last ≡ length l.fn.last;
  rise : Rise l.fn.last l.last;
  comes : ComesLast l.fn.last l.last l.member (take l.one-index l.uses);
}
