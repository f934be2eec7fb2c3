use Rattle.std.proofs.Common.{◌≡◌, ◌<◌, length, sym, ap, subst, ◌∙◌, arith}
use Rattle.train_order.specs.Ordering.{PrecedeInTurn, IsDisorderBy, IsTold}
use Rattle.train_order.specs.Sets.{ArePreceded}
use Rattle.train_order.specs.Taking.{AreTakenUp}
use Rattle.train_order.proofs.Answered.{told_is, disorder_is}
use Rattle.train_order.proofs.Ordered.{ordering}
use Rattle.train_order.proofs.Rounds.{is_order}
use Rattle.train_order.proofs.Whole.{whole_length}
use Rattle.train_order.proofs.ordering.order.Goals as goal

pub returns-then-len : goal.returns-then-len
returns-then-len c =
    let cut = c.args.cut.now in
    let sets = c.in_ok-sets.sets.items in
    let taken = c.take_up_all-taken.result in
    let told : ArePreceded cut sets = (subst (λ k. ArePreceded k sets) c.of-cut.ensures c.in_ok-sets.ensures) in
    let up : AreTakenUp sets taken = subst (λ ss. AreTakenUp ss taken) c.deref.ensures.value c.take_up_all-taken.ensures in
    let whole : length taken ≡ length sets = omega (arith, c.len.ensures, c.len-2.ensures, c.if-len.true) in
    ordering cut taken (is_order cut sets told taken up whole) _ (c.from_vec-positions.ensures ∙ c.in_ok-from_slice.ensures.items ∙ c.slice.ensures)

pub find_disorder-requires-clause-some : goal.find_disorder-requires-clause-some
find_disorder-requires-clause-some c =
    let sets = c.in_ok-sets.sets.items in
    let taken = c.take_up_all-taken.result in
    let up : AreTakenUp sets taken = subst (λ ss. AreTakenUp ss taken) c.deref.ensures.value c.take_up_all-taken.ensures in
    omega (
      arith,
      whole_length (length sets) taken up.sound.within up.sound.once,
      c.len.ensures,
      c.len-2.ensures,
      c.if-len.false,
      ap length c.slice-2.ensures,
      ap length c.deref-2.ensures.value,
    )

pub returns : goal.returns
returns c =
    let cut = c.args.cut.now in
    let sets = c.in_ok-sets.sets.items in
    let taken = c.take_up_all-taken.result in
    let found = c.find_disorder.result in
    let told : ArePreceded cut sets = subst (λ k. ArePreceded k sets) c.of-cut.ensures c.in_ok-sets.ensures in
    let up : AreTakenUp sets taken = subst (λ ss. AreTakenUp ss taken) c.deref.ensures.value c.take_up_all-taken.ensures in
    let some : length taken < length sets =
    omega (arith, whole_length (length sets) taken up.sound.within up.sound.once, c.len.ensures, c.len-2.ensures, c.if-len.false) in
    told_is cut found c.in_ok-told.told
    (disorder_is cut sets told taken up some found (subst (λ ms. IsDisorderBy sets ms found) c.slice-2.ensures
    (subst (λ ss. IsDisorderBy ss c.slice-2.result.now found) c.deref-2.ensures.value c.find_disorder.ensures))).0
    (subst (λ k. IsTold k found c.in_ok-told.told) (c.sound-2.ensures.cut ∙ c.of-cut.ensures) c.in_ok-told.ensures)

pub tell-requires : goal.tell-requires
tell-requires c =
    let cut = c.args.cut.now in
    let sets = c.in_ok-sets.sets.items in
    let taken = c.take_up_all-taken.result in
    let found = c.find_disorder.result in
    let told : ArePreceded cut sets = subst (λ k. ArePreceded k sets) c.of-cut.ensures c.in_ok-sets.ensures in
    let up : AreTakenUp sets taken = subst (λ ss. AreTakenUp ss taken) c.deref.ensures.value c.take_up_all-taken.ensures in
    let some : length taken < length sets =
    omega (arith, whole_length (length sets) taken up.sound.within up.sound.once, c.len.ensures, c.len-2.ensures, c.if-len.false) in
    record {
      in_turn =
          subst (λ k. PrecedeInTurn k found) (sym (c.sound-2.ensures.cut ∙ c.of-cut.ensures))
          (disorder_is cut sets told taken up some found (subst (λ ms. IsDisorderBy sets ms found) c.slice-2.ensures
          (subst (λ ss. IsDisorderBy ss c.slice-2.result.now found) c.deref-2.ensures.value c.find_disorder.ensures))).1;
    }
