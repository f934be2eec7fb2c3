use Rattle.critical_chain.proofs.Checked as Checked
use Rattle.critical_chain.proofs.laws.checked_is_compressed.Goals as goal

pub returns : goal.returns
returns c = Checked.checked_is_compressed
