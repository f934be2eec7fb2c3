use Rattle.plan_model.proofs.OneWay as OneWay
use Rattle.plan_model.proofs.journal_laws.calls_end_in_one_way.Goals as goal

pub returns : goal.returns
returns c = OneWay.calls_end_in_one_way
