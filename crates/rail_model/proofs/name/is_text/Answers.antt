use Rattle.rail_model.proofs.NameTests.{is_utf8-from_result}
use Rattle.std.proofs.Common.{◌∙◌}
use Rattle.rail_model.proofs.name.is_text.Goals as goal

pub returns : goal.returns
returns c = c.is_ok.ensures.value ∙ is_utf8-from_result c.args.bytes.now _ _ _ c.from_utf8.ensures.cases
