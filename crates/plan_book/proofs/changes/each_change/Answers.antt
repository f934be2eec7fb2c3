use Rattle.std.proofs.Common.{sym, subst, arith, length-append, ◌∷◌, []}
use Rattle.plan_book.specs.Changes.{HasCutOf, IsChangeOf}
use Rattle.plan_book.proofs.Widening.{each_more}
use Rattle.plan_book.proofs.changes.each_change.Goals as goal

pub change_of-requires : goal.change_of-requires
change_of-requires c =
    let shelf = c.shelf-item.result in
    subst (HasCutOf c.args.made.now.before) (sym c.shelf-item.is) (c.requires c.loop-shelf.shelf-index shelf c.loop-shelf-test.true)

pub loop-shelf-preserved : goal.loop-shelf-preserved
loop-shelf-preserved c =
    let both = c.args.made.now in
    let shelf = c.shelf-item.result in
    let i = c.loop-shelf.shelf-index in
    let old = c.loop-shelf.changes in
    let new = c.in_ok-change_of.field-0 in
    rw c.in_ok-push.ensures.ok
    (record {
      count = rw (length-append old (new ∷ [])) (omega (arith, c.loop-shelf.invariant.count));
      each =
          each_more (IsChangeOf both.before both.after c.args.number) c.args.shelves.now old i shelf new
          c.loop-shelf.invariant.count c.loop-shelf-test.true c.shelf-item.is c.loop-shelf.invariant.each c.in_ok-change_of.ensures;
    })
