use Rattle.std.proofs.Common.{arith}
use Rattle.plan_book.proofs.book.Book.planners.Goals as goal

pub overflow_cast-result : goal.overflow_cast-result
overflow_cast-result c =
    let held = c.self.invariant in
    omega (arith, c.len.ensures, held.done_are.count, held.within.planners)

pub returns : goal.returns
returns c = rw (← c.self.view_is) (omega (arith, c.len.ensures, c.self.invariant.done_are.count))
