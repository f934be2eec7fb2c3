use Rattle.row_text.proofs.item_row.item_of.Goals as goal

pub returns-in-Route : goal.returns-in-Route
returns-in-Route c = rw c.in-Route.is c.route_of.ensures

pub returns-in-Run : goal.returns-in-Run
returns-in-Run c = rw c.in-Run.is c.run_of.ensures

pub returns-in-Section : goal.returns-in-Section
returns-in-Section c = rw c.in-Section.is c.section_of.ensures

pub returns-in-Connection : goal.returns-in-Connection
returns-in-Connection c = rw c.in-Connection.is c.connection_of.ensures
