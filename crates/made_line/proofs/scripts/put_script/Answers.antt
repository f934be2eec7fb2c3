use Rattle.std.proofs.Common.{◌≡◌, ◌+◌, ◌*◌, ◌++◌, ◌∷◌, [], slice_index_or, sym, ap, ◌∙◌, arith}
use Rattle.std.proofs.lemmas.List.{get_or_read_under}
use Rattle.rail_model.specs.Tables.{no_run}
use Rattle.made_line.proofs.Tasks.{no_tasks, two_more}
use Rattle.made_line.proofs.scripts.put_script.Goals as goal

pub loop-k-init : goal.loop-k-init
loop-k-init c = c.in_ok-begin.ensures.ok ∙ ap (λ ts. c.args.scripts.now ++ ts ∷ []) (sym (no_tasks _ _))

pub loop-k-preserved : goal.loop-k-preserved
loop-k-preserved c =
    let run : c.index-runs-p.result ≡ slice_index_or c.args.runs.now (60 * c.args.p + c.loop-k.k) no_run =
    get_or_read_under c.args.runs.now _ 300 c.index-runs-p.result no_run c.index-runs-p.is
    (omega (arith, c.requires.last, c.loop-k-test.true)) (sym c.requires.count)
    in
    rw (c.in_ok-put_tasks.ensures, c.loop-k.invariant, run) (two_more _ _ _ _)
