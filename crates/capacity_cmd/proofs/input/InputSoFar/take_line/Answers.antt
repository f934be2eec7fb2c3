use Rattle.std.proofs.Common.{◌++◌, ◌∷◌, [], length, None, sym, subst}
use Rattle.std.specs.Prelude.{IfOk}
use Rattle.std.proofs.lemmas.Result.{IfOk-weaker}
use Rattle.row_text.specs.declared.line.Line.{Line}
use Rattle.row_text.specs.declared.line.Line.TheVariants as line
use Rattle.plan_model.specs.declared.scripts.Task.TheVariants as task
use Rattle.plan_model.specs.Journal.{with_task}
use Rattle.capacity_cmd.specs.Input.{takes_planner, takes_task}
use Rattle.capacity_cmd.specs.InputSoFar.{TakesIf, TakesLine}
use Rattle.capacity_cmd.proofs.Making.{planner_taken, ask_taken, edit_taken, base_taken, some_scripts}
use Rattle.capacity_cmd.proofs.input.InputSoFar.take_line.Goals as goal

pub returns-in-Planner-clause-takes : goal.returns-in-Planner-clause-takes
returns-in-Planner-clause-takes c =
    let made = c.args.self.now in
    let n = c.in-Planner.planner in
    let scripts = c.begin.new.self in
    let Takes = TakesLine c.args.planners c.args.row in
    subst (λ (l : Line). IfOk c.begin.result (Takes l made (record made { scripts = scripts }))) (sym c.in-Planner.is)
    (IfOk-weaker c.begin.result (TakesIf (takes_planner c.args.planners made.scripts n) (made.scripts ++ [] ∷ []) scripts)
    (Takes (line.Planner n) made (record made { scripts = scripts }))
    (planner_taken c.args.planners c.args.row n made scripts) c.begin.ensures)

pub returns-in-Ask-clause-takes : goal.returns-in-Ask-clause-takes
returns-in-Ask-clause-takes c =
    let made = c.args.self.now in
    let section = c.in-Ask.section in
    let scripts = c.push-in-Ask.new.self in
    let Takes = TakesLine c.args.planners c.args.row in
    subst (λ (l : Line). IfOk c.push-in-Ask.result (Takes l made (record made { scripts = scripts }))) (sym c.in-Ask.is)
    (IfOk-weaker c.push-in-Ask.result (TakesIf (takes_task made.scripts) (with_task made.scripts (task.Ask section)) scripts)
    (Takes (line.Ask section) made (record made { scripts = scripts }))
    (ask_taken c.args.planners c.args.row section made scripts) c.push-in-Ask.ensures)

pub returns-then-is_empty-clause-takes : goal.returns-then-is_empty-clause-takes
returns-then-is_empty-clause-takes c =
    let made = c.args.self.now in
    let base = c.take.new.self in
    subst (λ (l : Line). TakesLine c.args.planners c.args.row l made (record made { base = base }) None) (sym c.in-Edit.is)
    (base_taken c.args.planners c.args.row c.in-Edit.edit made base (c.is_empty.ensures.0 c.if-is_empty.true)
    c.in_ok-take-in-Edit.ensures.tables c.in_ok-take-in-Edit.ensures.edits)

pub returns-else-is_empty-clause-takes : goal.returns-else-is_empty-clause-takes
returns-else-is_empty-clause-takes c =
    let made = c.args.self.now in
    let e = c.in-Edit.edit in
    let scripts = c.push.new.self in
    let Takes = TakesLine c.args.planners c.args.row in
    subst (λ (l : Line). IfOk c.push.result (Takes l made (record made { scripts = scripts }))) (sym c.in-Edit.is)
    (IfOk-weaker c.push.result (TakesIf (takes_task made.scripts) (with_task made.scripts (task.Edit e)) scripts)
    (Takes (line.Edit e) made (record made { scripts = scripts }))
    (λ taken h. edit_taken c.args.planners c.args.row e made scripts taken
    (some_scripts c.is_empty.result (length made.scripts) c.if-is_empty.false c.is_empty.ensures.1) h) c.push.ensures)
