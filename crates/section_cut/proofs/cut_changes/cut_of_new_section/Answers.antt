use Rattle.std.proofs.Common.{Some, IfSome, sym, ◌∙◌, subst, inr}
use Rattle.plan_model.specs.Cut.{cut_of, IsSoundCut}
use Rattle.section_cut.proofs.Anew.{stamps_are, value_of}
use Rattle.section_cut.proofs.cut_changes.cut_of_new_section.Goals as goal

pub returns-in-Some : goal.returns-in-Some
returns-in-Some c =
    let after = c.args.after.now in
    let section = c.args.section.now in
    let number = c.args.number in
    let cut = Some c.in-Some.cut in
    let made = sym c.in-Some.is ∙ c.in_ok-cut.ensures.same in
    let same = value_of after section number cut made in (
      λ none. absurd (cc),
      record {
        same = same;
        stamps = λ k d below. inr (stamps_are number (cut_of after section) cut made k d below, λ is. absurd (cc));
        sound = subst (λ o. IfSome o IsSoundCut) c.in-Some.is c.in_ok-cut.ensures.sound;
      },
    )
