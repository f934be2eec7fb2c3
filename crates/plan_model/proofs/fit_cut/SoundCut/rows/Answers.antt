use Rattle.plan_model.proofs.Sound.{all_usable}
use Rattle.plan_model.proofs.fit_cut.SoundCut.rows.Goals as goal

pub returns-clause-usable : goal.returns-clause-usable
returns-clause-usable c = rw (c.slice.ensures, ← c.self.view_is) (all_usable c.self.inside.cut.now c.self.invariant)
