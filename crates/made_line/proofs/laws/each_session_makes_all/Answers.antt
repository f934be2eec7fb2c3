use Rattle.made_line.proofs.Sessions as Sessions
use Rattle.made_line.proofs.laws.each_session_makes_all.Goals as goal

pub returns : goal.returns
returns c = Sessions.each_session_makes_all
