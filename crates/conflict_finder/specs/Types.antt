-- The types of the code that definitions speak of.
pub use Rattle.conflict_finder.specs.declared.found.Conflict.{Conflict}
pub use Rattle.conflict_finder.specs.declared.found.Conflicts.{Conflicts}
pub use Rattle.conflict_finder.specs.declared.found.Met.{Met}
pub use Rattle.conflict_finder.specs.declared.found.MetInPart.{MetInPart}
pub use Rattle.conflict_finder.specs.declared.ranked.Ranked.{Ranked}
pub use Rattle.conflict_finder.specs.declared.run_starts.RunStart.{RunStart}
pub use Rattle.conflict_finder.specs.declared.run_uses.RunUse.{RunUse}
