use Rattle.plan_model.proofs.Growing as Growing
use Rattle.plan_model.proofs.journal_laws.others_keep_tables.Goals as goal

pub returns : goal.returns
returns c = Growing.others_keep_tables
