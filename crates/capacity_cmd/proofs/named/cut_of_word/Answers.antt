use Rattle.std.proofs.Common.{◌≡◌, sym, ap, ◌∙◌}
use Rattle.std.specs.Prelude.{option_map, option_and_then}
use Rattle.std.proofs.lemmas.Result.{IfOk-weaker}
use Rattle.plan_model.specs.Cut.{stamped, cut_of}
use Rattle.capacity_cmd.proofs.Cuts.{stamped_named}
use Rattle.capacity_cmd.proofs.named.cut_of_word.Goals as goal

pub returns-in-Some-clause-same : goal.returns-in-Some-clause-same
returns-in-Some-clause-same c =
    let tables = c.args.tables.now in
    let name = c.in-Some.section in
    IfOk-weaker c.cut_of.result (λ cut. cut ≡ option_map (stamped 0) (cut_of tables name)) (λ cut. cut ≡ option_and_then (cut_of tables) c.args.section)
    (λ cut is. is ∙ stamped_named tables c.args.section name c.in-Some.is) c.cut_of.ensures.same

pub returns-in-None-clause-same : goal.returns-in-None-clause-same
returns-in-None-clause-same c = sym (ap (option_and_then (cut_of c.args.tables.now)) c.in-None.is)
