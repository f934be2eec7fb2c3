-- The types of the code that definitions speak of.
pub use Rattle.plan_model.specs.declared.answer.Answer.{Answer}
pub use Rattle.plan_model.specs.declared.answer.Disorder.{Disorder}
pub use Rattle.plan_model.specs.declared.answer.Done.{Done}
pub use Rattle.plan_model.specs.declared.answer.Link.{Link}
pub use Rattle.plan_model.specs.declared.answer.Placed.{Placed}
pub use Rattle.plan_model.specs.declared.answer.Plan.{Plan}
pub use Rattle.plan_model.specs.declared.answer.Tie.{Tie}
pub use Rattle.plan_model.specs.declared.cut.Cut.{Cut}
pub use Rattle.plan_model.specs.declared.cut.CutRow.{CutRow}
pub use Rattle.plan_model.specs.declared.journal.Act.{Act}
pub use Rattle.plan_model.specs.declared.journal.Entry.{Entry}
pub use Rattle.plan_model.specs.declared.journal.Reply.{Reply}
pub use Rattle.plan_model.specs.declared.outcome.Asked.{Asked}
pub use Rattle.plan_model.specs.declared.outcome.Next.{Next}
pub use Rattle.plan_model.specs.declared.outcome.NotTaken.{NotTaken}
pub use Rattle.plan_model.specs.declared.outcome.Stepped.{Stepped}
pub use Rattle.plan_model.specs.declared.scripts.Task.{Task}
