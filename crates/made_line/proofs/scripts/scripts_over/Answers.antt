use Rattle.std.proofs.Common.{sym, ◌∙◌}
use Rattle.made_line.proofs.Tasks.{no_scripts, first_scripts-more}
use Rattle.made_line.proofs.scripts.scripts_over.Goals as goal

pub loop-i-init : goal.loop-i-init
loop-i-init c = c.new-scripts.ensures ∙ sym (no_scripts _)

pub loop-i-preserved : goal.loop-i-preserved
loop-i-preserved c = rw (c.in_ok-put_script.ensures, c.loop-i.invariant) (sym (first_scripts-more _ _))
