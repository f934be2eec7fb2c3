use Rattle.std.proofs.Common.{◌≡◌, ℕ, ◌+◌, ◌<◌, true, [], List, sym, subst, ◌∙◌}
use borrow.Author.Count.{below_more}
use Rattle.train_order.specs.declared.member_set.MemberSet.{MemberSet}
use Rattle.train_order.specs.Sets.{holds}
use Rattle.train_order.specs.Taking.{IsTaking}
use Rattle.train_order.proofs.taking.take_up_all.Goals as goal
use Rattle.train_order.proofs.taking.take_up_all.Goals.{then-not-has, else-not-has}

same_work : {sets : List MemberSet} {xs ts : List ℕ} {v u s t : MemberSet} → xs ≡ ts → v ≡ u → s ≡ t
    → IsTaking sets ts u.words t.words [] → IsTaking sets xs v.words s.words []
same_work {sets} {xs} {ts} {v} {u} {s} {t} e f g h =
    subst (λ ks. IsTaking sets ks v.words s.words []) (sym e)
    (subst (λ (w : MemberSet). IsTaking sets ts w.words s.words []) (sym f)
    (subst (λ (w : MemberSet). IsTaking sets ts u.words w.words []) (sym g) h))

one_more : {s t : MemberSet} (member : ℕ) → s ≡ t → ((k : ℕ) → k < member → holds t.words k ≡ true)
    → holds t.words member ≡ true → (k : ℕ) → k < member + 1 → holds s.words k ≡ true
one_more {s} {t} member e before here =
    subst (λ (w : MemberSet). (k : ℕ) → k < member + 1 → holds w.words k ≡ true) (sym e)
    (below_more (λ k. holds t.words k ≡ true) member before here)

pub loop-member-preserved : goal.loop-member-preserved
loop-member-preserved c =
    let inv = c.loop-member.invariant in
    let member = c.loop-member.member in
    elim c.if-not-has.branch [
      | then-not-has w ↦
          let now = w.take_up.ensures in
          record {
            so_far = same_work w.taken-is w.up-is w.tried-is now.so_far;
            tried = one_more member w.tried-is (λ k l. now.more k (inv.tried k l)) now.tried;
          }
      | else-not-has w ↦ record {
        so_far = same_work w.taken-is w.up-is w.tried-is inv.so_far;
        tried = one_more member w.tried-is inv.tried (sym c.has.ensures ∙ w.if-not-has.false);
      }
    ]
