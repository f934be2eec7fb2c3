use Rattle.rail_model.proofs.NameAdded.{is_there, name_is}
use Rattle.rail_model.proofs.names.Names.bytes.Goals as goal

pub name_at-requires-clause-at : goal.name_at-requires-clause-at
name_at-requires-clause-at c = rw c.deref-2.ensures.value (is_there _ _ _ c.self.view_is c.args.i c.requires)

pub name_at-requires-clause-name : goal.name_at-requires-clause-name
name_at-requires-clause-name c =
    rw (c.deref-2.ensures.value, c.deref.ensures.value) (c.self.invariant.each c.args.i (is_there _ _ _ c.self.view_is c.args.i c.requires))

pub returns-clause-same : goal.returns-clause-same
returns-clause-same c =
    rw (c.name_at.ensures, c.deref-2.ensures.value, c.deref.ensures.value) (name_is _ _ _ c.self.view_is c.args.i c.requires)

pub returns-clause-named : goal.returns-clause-named
returns-clause-named c =
    rw (c.name_at.ensures, c.deref-2.ensures.value, c.deref.ensures.value)
    (c.self.invariant.each c.args.i (is_there _ _ _ c.self.view_is c.args.i c.requires)).named
