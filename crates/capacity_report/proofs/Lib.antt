mod Examples
mod PartTexts
mod PieceTexts
pub mod LastTrains
pub mod TextSoFar
pub mod Rows
pub mod Timetables
pub mod Checks
pub mod Within
pub mod Plans
pub mod Reports
pub mod Published
pub mod Pairs
pub mod Totals
