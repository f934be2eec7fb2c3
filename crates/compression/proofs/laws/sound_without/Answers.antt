use Rattle.compression.proofs.FewerSound as FewerSound
use Rattle.compression.proofs.laws.sound_without.Goals as goal

pub returns : goal.returns
returns c = FewerSound.sound_without
