use Rattle.std.proofs.Common.{◌≡◌, ◌+◌, [], ◌∷◌, ◌++◌, length, get_or, ap, subst, sym, ◌∙◌, ⊎_elim, arith}
use Rattle.std.proofs.lemmas.Bool.{cases_lt}
use Rattle.std.proofs.lemmas.List.{length-append, get_or_append_left}
use Rattle.std.proofs.Math.Seq.{get_or-append_seam}
use Rattle.capacity_report.specs.declared.parts.Part.{Part}
use Rattle.capacity_report.specs.Parts.{AreParts, IsPart}
use Rattle.capacity_report.proofs.parts.parts_from.Goals as goal

pub loop-i-preserved : goal.loop-i-preserved
loop-i-preserved c =
    let count = c.args.count in
    let parts = c.args.parts in
    let n = c.loop-i.i in
    let old = c.loop-i.all.items in
    let more = c.in_ok-push.ensures.items in
    let part : Part = record { first = c.start_of.result; «end» = c.start_of-in-loop-i.result; room = c.in_ok-first_room.field-0 } in
    let own : IsPart count parts n part = record { first = c.start_of.ensures; «end» = c.start_of-in-loop-i.ensures } in
    let long = c.loop-i.invariant.number in
    record {
      number = ap length more ∙ length-append old (part ∷ []) ∙ ap (λ k. k + 1) long;
      each = λ i d l. subst (λ xs. IsPart count parts i (get_or xs i d)) (sym more)
          (⊎_elim
          (λ here. subst (IsPart count parts i) (sym (get_or_append_left old (part ∷ []) d i (omega (arith, here, long)))) (c.loop-i.invariant.each i d here))
          (λ after.
          let last : length old ≡ i = omega (arith, after, l, long) in
          let same : n ≡ i = omega (arith, last, long) in
          subst (IsPart count parts i) (sym (ap (λ k. get_or (old ++ part ∷ []) k d) (sym last) ∙ get_or-append_seam old part [] d))
          (subst (λ k. IsPart count parts k part) same own))
          (cases_lt i n));
    }

pub returns : goal.returns
returns c = subst (λ n. AreParts c.args.count c.args.parts n c.loop-i.all.items) (omega (arith, c.loop-i-test.false, c.loop-i.auto.i-end)) c.loop-i.invariant
